-- The names of events (EventNames) and the forms of their values (ValueForms), lines of right form
-- (Line) and what judging one answers (Judging), what a value says in octets (Value) and how it is
-- laid into lent room (Laying).
pub mod EventNames
pub mod ValueForms
pub mod Line
pub mod Judging
pub mod Value
pub mod Laying
