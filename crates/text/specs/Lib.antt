-- Pieces, fields and octets (Text), a part of a text as the caller's (Part), and where the fields
-- of a line lie (Fields).
pub mod Text
pub mod Part
pub mod Fields
