-- Ways out of the calls (Returns); the rest of a text moved to the front (Moving); the law of a call (Cut), what is known of an entry and the run towards it (RunOn), a book handed over in parts (Handing);
-- computed books (Examples).
pub mod Returns
pub mod Moving
pub mod Cut
pub mod RunOn
pub mod Handing
pub mod Examples
