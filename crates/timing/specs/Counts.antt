-- Rules: how many periods a bus runs (document 01, "Reasons a call is turned down", 9 and 13).
-- Interface: every name. Assumes nothing.
use Rattle.std.specs.Prelude.{ℕ}

-- The most periods that a bus runs.
abbrev pub most_periods : ℕ
most_periods = 4000000
