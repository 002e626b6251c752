-- The notes of a period and of an event, and the room that they take as text and as octets.
pub mod PeriodText
