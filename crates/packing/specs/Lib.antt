-- A body's image in a lent buffer (Packing), what octets keep of bits that come one by one
-- (Octets), and where their packing stands (Packer).
pub mod Octets
pub mod Packing
pub mod Packer
