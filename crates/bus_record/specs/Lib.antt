-- The bus record, and what a period does beside what it does to each terminal; the record stays in
-- its range (RecordKept).
pub mod Record
pub mod Echo
pub mod Reading
pub mod NetworkSide
pub mod RecordKept
