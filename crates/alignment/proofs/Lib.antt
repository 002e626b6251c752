-- Alignment: its range is kept, and when the event of loss comes (Alignments).
pub mod Alignments
