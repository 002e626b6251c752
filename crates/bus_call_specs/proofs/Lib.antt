-- The four D read (ReadFour); what the checks of a run leave (InOrder); a period as the code goes through it is document 01's (StepShown);
-- it leaves everything in order (ReadyKept); a run is as many single periods (RunSingle), and a loop runs them (RunLoop);
-- what a run leaves (RunLeft). An event given (Events). Lists that go together (Pairs); what a period has in common with that of a bus that differs only in
-- what is not sent (SameExchange, ReaderCarried, SameNotes); the bus that a record stands for (Fitting) and its period (PeriodCarried); what an
-- event leaves (EventLeft); calls that are turned down (Refused); every event (EventCarried) and every list of calls (Lists); the notes of a
-- run (QuietRuns), where a run without notes has come to (QuietEnds), that it is the rules'
-- run (RunCarried) and what codes its notes have (Codes); demand 3 on the calls (Demand3).
pub mod ReadFour
pub mod InOrder
pub mod StepShown
pub mod ReadyKept
pub mod RunSingle
pub mod RunLoop
pub mod RunLeft
pub mod Events
pub mod Pairs
pub mod SameExchange
pub mod ReaderCarried
pub mod SameNotes
pub mod Fields
pub mod Fitting
pub mod PeriodCarried
pub mod EventLeft
pub mod Refused
pub mod EventCarried
pub mod Lists
pub mod QuietRuns
pub mod QuietEnds
pub mod RunCarried
pub mod Codes
pub mod Demand3
