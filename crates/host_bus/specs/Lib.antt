-- A bus lent as octets: a fresh one (Fresh), what every call looks at first (Lent), what a person
-- asks of it (Looking).
pub mod Fresh
pub mod Lent
pub mod Looking
