-- The reader's record and octets stand for a reading of raw bits, and its answers mean what is said (ReadingKept); what stays after an
-- answer (AnswerLaws); every method keeps the ranges (RangesKept).
pub mod RawOnes
pub mod ReadingKept
pub mod AnswerLaws
pub mod RangesKept
