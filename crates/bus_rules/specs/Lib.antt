-- The bus, in document 01's order: the record, the order of notes, a period, an event, a list of
-- calls, the ranges; then the words of "Lists and stretches" and demand 3; the D channel of a bus,
-- sound buses, and demand 3 from each of them; then what is on the line without building it, the
-- cycle on the bus, the bus without one, scenes by computation, and what holds of every list of calls.
pub mod Bus
pub mod Order
pub mod Exchange
pub mod CycleNotes
pub mod Period
pub mod TwoParts
pub mod Event
pub mod Calls
pub mod Ranges
pub mod Stretch
pub mod Telling
pub mod Claims
pub mod BusChannel
pub mod Sound
pub mod Quick
pub mod CycleOnBus
pub mod Off
pub mod Later
pub mod Scenes
pub mod Exists
pub mod Apart
