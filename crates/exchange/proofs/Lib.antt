-- The bits of a lent image (Images); eight bits turned by eight terminals (Turning); the exchange by lines (Shown); an exchange in which no
-- terminal takes part (Resting).
pub mod Images
pub mod Turning
pub mod Shown
pub mod Resting
pub mod Gathered
pub mod First
