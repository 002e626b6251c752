-- The octets of a book (Laws), what going on leaves of them (Gone), a fresh book and how a call ends (Made).
pub mod Laws
pub mod Gone
pub mod Made
