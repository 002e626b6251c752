-- The packed octets are the image (PackerLaws, ImageParts); laws of bits kept in octets (KeptLaws).
pub mod KeptLaws
pub mod PackerLaws
pub mod ImageParts
