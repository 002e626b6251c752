-- Rules: lists of calls on a bus (document 01, "Lists and stretches").
-- Interface: `Call`, `reply`, `bus_refusals`, `after`, `notes`, `after_all`, `notes_of_all`, `run_reply`,
-- `run_notes`, `run_leaves`. Assumes nothing.
use Rattle.std.specs.Prelude.{Bool, cond, ◌&&◌, List, [], ◌∷◌, ◌++◌, ℕ, zero, suc, eqb, leb, length}
use Rattle.timing.specs.Counts.{most_periods}
use Rattle.bus_rules.specs.Bus.{Bus, Note}
use Rattle.bus_rules.specs.Period.{period_run, period_notes}
use Rattle.bus_rules.specs.Event.{book_refusals, refusal, event_done, event_notes}

-- "A call on a bus gives it one of the book's events but `end`, or runs a period": any unit, event
-- number and value
pub data Call : Type 0 where
  event : ℕ → ℕ → List ℕ → Call
  period : Call

-- the number that comes back: 0, or that of the refusal; 9 where "the bus has run 4,000,000"
unfoldable pub reply : Bus → Call → ℕ
reply b (event unit number value) = refusal b unit number value
reply b period = cond (leb most_periods b.periods) 9 0

-- the call where it is not refused
unfoldable pub does : Bus → Call → Bus
does b (event unit number value) = event_done unit number value b
does b period = period_run b

unfoldable pub tells : Bus → Call → List Note
tells b (event unit number value) = event_notes unit number value b
tells b period = period_notes b

-- Every number with which a call on a bus can be turned down: an event's, 9 for a period, and 1 and 2
-- for a record out of its range and for what is lent, which these rules do not speak of.
abbrev pub bus_refusals : List ℕ
bus_refusals = 1 ∷ 2 ∷ book_refusals ++ (9 ∷ [])

-- "The number comes back alone; record and lent buffers keep their contents"
unfoldable pub after : Bus → Call → Bus
after b c = cond (eqb (reply b c) 0) (does b c) b

unfoldable pub notes : Bus → Call → List Note
notes b c = cond (eqb (reply b c) 0) (tells b c) []

-- "every call, refused or not, gets what the one before left"
unfoldable pub after_all : Bus → List Call → Bus
after_all b [] = b
after_all b (c ∷ more) = after_all (after b c) more

unfoldable pub notes_of_all : Bus → List Call → List Note
notes_of_all b [] = []
notes_of_all b (c ∷ more) = notes b c ++ notes_of_all (after b c) more

-- ---- A run of at most `most` periods: they are run until that many are, or one hands back notes,
-- or the bus has run 4,000,000. It is no call of its own but one call of `period` for each period
-- that is run, and hands back their notes: those of the last one, since the others have none.

-- whether it goes on after a period on this bus: that one hands back no notes, and the next one is
-- not refused
unfoldable pub run_goes_on : Bus → Bool
run_goes_on b = eqb (length (notes b period)) 0 && eqb (reply (after b period) period) 0

-- the calls of a run of at most n periods
unfoldable pub run_calls : ℕ → Bus → List Call
run_calls zero b = []
run_calls (suc n) b = period ∷ cond (run_goes_on b) (run_calls n (after b period)) []

-- The number that comes back: the first period's, since no later one is called that would be
-- refused. A run of no periods runs nothing, and is not refused.
unfoldable pub run_reply : ℕ → Bus → ℕ
run_reply zero b = 0
run_reply (suc n) b = reply b period

unfoldable pub run_notes : ℕ → Bus → List Note
run_notes most b = notes_of_all b (run_calls most b)

unfoldable pub run_leaves : ℕ → Bus → Bus
run_leaves most b = after_all b (run_calls most b)
