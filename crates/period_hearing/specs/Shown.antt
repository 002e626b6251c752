-- Laws: what the terminals' hearing is on the bus of crate `bus_rules` (specs/Period.antt): for
-- records in range and a period after which another may be run. The statements are types;
-- `proofs/Shown.antt` proves each under the same name in small letters.
-- Interface: `all_in_range`, `terminal_notes`. Assumes nothing.
use Rattle.std.specs.Prelude.{◌≡◌, Bool, true, false, ◌&&◌, List, [], ◌∷◌, map, ℕ, ◌+◌, ◌≤◌}
use Rattle.notes_and_cells.specs.Notes.{noted}
use Rattle.notes_and_cells.specs.declared.notes.Notes.{Notes}
use Rattle.timing.specs.Counts.{most_periods}
use Rattle.timing.specs.Calls.{at_period}
use Rattle.heard_line.specs.declared.heard.Downward.{Downward}
use Rattle.terminal.specs.Terminal as terminal
use Rattle.terminal.specs.Calls as terminalCalls
use Rattle.terminal.specs.declared.Terminal.{Terminal}
use Rattle.bus_rules.specs.Bus.{Station}
use Rattle.bus_rules.specs.Period.{stepped}
use Rattle.slice_lemmas.specs.Over.{map_from, fold_from}
use Rattle.period_hearing.specs.Hears.{terminal_after, notes_after, told_after}
use Rattle.period_hearing.specs.declared.hears.UnitNotes.{UnitNotes}

unfoldable pub all_in_range : List Terminal → Bool
all_in_range [] = true
all_in_range (t ∷ ts) = terminalCalls.terminal_in_range t && all_in_range ts

abbrev pub terminals_of : List Station → List Terminal
terminals_of ss = map (λ s. s.terminal) ss

-- ---- One terminal: it hears period now, and then comes the start of the next.
unfoldable pub heard_notes : Downward → ℕ → Terminal → Notes
heard_notes line now t = (terminal.hears line now t).notes

unfoldable pub timed_notes : Downward → ℕ → Terminal → Notes
timed_notes line now t = (terminal.timer (now + 1) (terminal.hears line now t).terminal).notes

unfoldable pub terminal_notes : Downward → ℕ → Terminal → UnitNotes
terminal_notes line now t = record { hearing = heard_notes line now t; timers = timed_notes line now t }

-- ---- All of them.
-- as the bus has them, in their stations (proofs/Shown.antt `terminals_shown` has them without
-- stations)
abbrev pub StationsShown : Type 0
StationsShown =
    (line : Downward) (now : ℕ) (ss : List Station) → now + 1 ≤ most_periods → all_in_range (terminals_of ss) ≡ true →
    map_from (terminal_after line (at_period now)) 0 (terminals_of ss)
    ≡ terminals_of (map (stepped (terminal.timer (now + 1))) (map (stepped (terminal.hears line now)) ss))

abbrev pub NotesShown : Type 0
NotesShown =
    (line : Downward) (now : ℕ) (ts : List Terminal) → now + 1 ≤ most_periods → all_in_range ts ≡ true →
    map_from (notes_after line (at_period now)) 0 ts ≡ map (terminal_notes line now) ts

-- every record is in range afterwards, whatever the period
abbrev pub RangesKept : Type 0
RangesKept =
    (line : Downward) (now : ℕ) (ts : List Terminal) → all_in_range ts ≡ true →
    all_in_range (map_from (terminal_after line (at_period now)) 0 ts) ≡ true

-- ---- Whether there is a note: none exactly where no terminal has one.
unfoldable pub NoneNoted : Downward → ℕ → List Terminal → Type 0
NoneNoted line now [] = Unit
NoneNoted line now (t ∷ ts) = (noted (heard_notes line now t) ≡ []) × (noted (timed_notes line now t) ≡ []) × NoneNoted line now ts

abbrev pub ToldNone : Type 0
ToldNone =
    (line : Downward) (now : ℕ) (ts : List Terminal) → now + 1 ≤ most_periods → all_in_range ts ≡ true →
    fold_from (told_after line (at_period now)) 0 false ts ≡ false → NoneNoted line now ts

abbrev pub NoneTold : Type 0
NoneTold =
    (line : Downward) (now : ℕ) (ts : List Terminal) → now + 1 ≤ most_periods → all_in_range ts ≡ true →
    NoneNoted line now ts → fold_from (told_after line (at_period now)) 0 false ts ≡ false
