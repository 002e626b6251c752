-- Notes as text or as octets in lent room: what is laid behind what stands there (Room), numbers as
-- octets (LowFirst), a note as octets (NoteOctets) and as text, and notes in either form
-- (NoteText), a note's line in parts (LineParts), how long they are (Lengths), and that octets
-- determine them (Determined).
pub mod Room
pub mod LowFirst
pub mod NoteOctets
pub mod NoteText
pub mod LineParts
pub mod Lengths
pub mod Determined
