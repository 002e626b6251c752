-- One opportunity and four of them, alone (LoneFour); the loop over such periods (AloneLoop); what a search that finds one has
-- shown (FoundAlone); a period alone (Period).
pub mod LoneFour
pub mod AloneLoop
pub mod FoundAlone
pub mod Period
