-- The notes of the terminals, one terminal after the other (PeriodLaws), and the room that the text takes (Room).
pub mod PeriodLaws
pub mod Room
