-- Several terminals on one line, and hits.
pub mod Combine
pub mod Calls
pub mod Gathering
pub mod Groups
pub mod Sent
pub mod Sending
pub mod SentD
pub mod Hit
pub mod StruckBits
pub mod Laws
