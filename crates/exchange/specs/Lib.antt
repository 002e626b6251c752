-- The D opportunities of a period over the lent terminal records: the exchange in a few values
-- (Tally), one terminal's part (Part), all terminals, one opportunity and four (Opportunities), an
-- exchange in which no terminal takes part (Rest), and the bus that record and lent octets show
-- (Shown).
pub mod Tally
pub mod Part
pub mod Opportunities
pub mod Rest
pub mod Shown
