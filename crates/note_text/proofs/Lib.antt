-- Text in lent room (RoomLaws), numbers and octets as text (DecimalLaws, HexLaws), a note's number (NumberLaws), the tables of notes (NoteTable), notes
-- as lines and in either form (NoteLaws), a note as octets (OctetLaws), how long notes are (Lengths), and that octets determine them (Determined).
pub mod RoomLaws
pub mod DecimalLaws
pub mod HexLaws
pub mod NumberLaws
pub mod NoteTable
pub mod NoteLaws
pub mod OctetLaws
pub mod Lengths
pub mod Determined
