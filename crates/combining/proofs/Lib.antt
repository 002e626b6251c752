-- What is shown of combined and of hit lines, and what the proofs of several functions share.
pub mod Sending
pub mod Gather
pub mod Columns
pub mod ByGroup
pub mod Senders
pub mod Beside
pub mod Laws
