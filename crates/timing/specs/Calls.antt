-- Calls: the counts of periods and of D opportunities, as the calls keep them: their ranges, and
-- one period more (document 01, "D access (6.1)", last paragraph, and refusals 1 and 9).
-- Interface: every name. Assumes nothing.
use Rattle.std.specs.Prelude.{Bool, cond, ℕ, ◌+◌, ◌*◌, leb}
use Rattle.timing.specs.declared.counts.Periods.{Periods}
use Rattle.timing.specs.declared.counts.Opportunities.{Opportunities}
use Rattle.timing.specs.Counts.{most_periods}

-- The count where n periods have been run: period n is next.
abbrev pub at_period : ℕ → Periods
at_period n = record { 0 = n }

abbrev pub periods_in_range : Periods → Bool
periods_in_range p = leb p.0 most_periods

-- Whether the opportunities are at most four for each period run: the one range that goes by
-- another field, so that a period more leaves the count in its range.
abbrev pub opportunities_in_range : Periods → Opportunities → Bool
opportunities_in_range p o = leb o.0 (4 * p.0)

-- Refusal 9: no period can be run any more.
abbrev pub all_run : Periods → Bool
all_run p = leb most_periods p.0

-- One period more, where one can be run.
unfoldable pub next_period : Periods → Periods
next_period p = cond (all_run p) p (at_period (p.0 + 1))

-- "four for each period whose lines leave the network end in G3", for every count that a bus can
-- have
unfoldable pub four_more : Opportunities → Opportunities
four_more o = cond (leb o.0 (4 * most_periods)) (record { 0 = o.0 + 4 }) o
