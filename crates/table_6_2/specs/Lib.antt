-- Table 6-2 of JT-I430.
pub mod Table62
pub mod States
