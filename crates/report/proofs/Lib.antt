-- Proofs of the laws of specs/: of every book's calls (Books); what the program tells is what the rules give (ToldRight); every call leaves
-- everything in order (Order); a run is some calls of one period (OneRun); an event's notes or refusal (OneEvent); what each answer of the
-- book's reader does to what is ahead (AheadLaws); drivers (Driving).
pub mod Books
pub mod ToldRight
pub mod Order
pub mod OneRun
pub mod OneEvent
pub mod AheadLaws
pub mod Driving
pub mod Example
