-- An event of the book on the bus record, on the network end and on one terminal: the definitions
-- (Event), and what holds of them (Laws).
pub mod Event
pub mod Laws
