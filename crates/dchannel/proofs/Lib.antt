-- Theorems about a terminal's access: AccessLaws, RangesKept.
pub mod AccessLaws
pub mod RangesKept
