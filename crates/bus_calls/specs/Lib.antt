-- What a call replies.
pub mod Replies
