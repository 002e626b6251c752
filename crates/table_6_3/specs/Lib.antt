-- Table 6-3 of JT-I430.
pub mod Table63
