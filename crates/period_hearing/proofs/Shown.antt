-- What the terminals' hearing is on the bus.
use mathlib.Core.Path.{◌≡◌, refl, sym, ◌∙◌}
use mathlib.Core.Bool.{Bool, true, false, ◌||◌}
use mathlib.Core.List.{List, [], ◌∷◌, map}
use Prim.Native.Nat.{ℕ, zero, suc, ◌+◌, ◌≤◌}
use native.Mathlib.Omega.{arith}
use lib.Dec.{ltb}
use lib.ListN.{take}
use borrow.Author.Tests.{ltb-false, lt-leb}
use Rattle.test_lemmas.proofs.Operators.{and_both}
use Rattle.test_lemmas.proofs.ByCases.{by_test, clash}
use Rattle.notes_and_cells.specs.Notes.{noted}
use Rattle.notes_and_cells.specs.declared.notes.Notes.{Notes}
use Rattle.timing.specs.Counts.{most_periods}
use Rattle.timing.specs.Calls.{at_period, next_period}
use Rattle.heard_line.specs.declared.heard.Downward.{Downward}
use Rattle.terminal.specs.Terminal as terminal
use Rattle.terminal.specs.Calls as terminalCalls
use Rattle.terminal.specs.declared.Terminal.{Terminal}
use Rattle.terminal.proofs.Laws.{heard_called, timer_due_called}
use Rattle.terminal.proofs.RangesKept.{heard_in_range, timer_due_in_range}
use Rattle.bus_rules.specs.Bus.{Station}
use Rattle.bus_rules.specs.Period.{stepped}
use Rattle.slice_lemmas.specs.Over.{map_from, fold_from}
use Rattle.period_hearing.specs.Hears.{hearing_step, timer_step, has_note, heard_one, terminal_after, notes_after, told_after}
use Rattle.period_hearing.specs.Shown.{all_in_range, terminals_of, heard_notes, timed_notes, terminal_notes, StationsShown, NotesShown, RangesKept, NoneNoted, ToldNone, NoneTold}

-- ---- one terminal
-- it hears period now, and then comes the start of the next
unfoldable pub hears_then : Downward → ℕ → Terminal → Terminal
hears_then line now t = (terminal.timer (now + 1) (terminal.hears line now t).terminal).terminal

another : (now : ℕ) → now + 1 ≤ most_periods → next_period (at_period now) ≡ at_period (now + 1)
unfolding next_period
another now l = rw (lt-leb most_periods now (omega arith))

module _ (line : Downward) (now : ℕ) (l : now + 1 ≤ most_periods) (t : Terminal) (h : terminalCalls.terminal_in_range t ≡ true) where
  hearing_is : hearing_step line (at_period now) t ≡ terminal.hears line now t
  unfolding hearing_step
  hearing_is = heard_called now t (omega arith) h line

  heard_fits : terminalCalls.terminal_in_range (terminal.hears line now t).terminal ≡ true
  unfolding hearing_step
  heard_fits = rw (hearing_is) at (heard_in_range (at_period now) t h line)

  timing_is : timer_step line (at_period now) t ≡ terminal.timer (now + 1) (terminal.hears line now t).terminal
  unfolding timer_step
  timing_is = rw (hearing_is, another now l) (timer_due_called (now + 1) (terminal.hears line now t).terminal l heard_fits)

  terminal_is : (heard_one line (at_period now) t).terminal ≡ hears_then line now t
  unfolding heard_one hears_then
  terminal_is = rw timing_is

  notes_is : (heard_one line (at_period now) t).notes ≡ terminal_notes line now t
  unfolding heard_one terminal_notes heard_notes timed_notes
  notes_is = rw (hearing_is, timing_is)

  told_is : (heard_one line (at_period now) t).told ≡ (has_note (heard_notes line now t) || has_note (timed_notes line now t))
  unfolding heard_one heard_notes timed_notes
  told_is = rw (hearing_is, timing_is)

-- ---- all of them
both_in_range : (t : Terminal) (ts : List Terminal) → all_in_range (t ∷ ts) ≡ true → (terminalCalls.terminal_in_range t ≡ true) × (all_in_range ts ≡ true)
unfolding all_in_range
both_in_range t ts h = and_both (terminalCalls.terminal_in_range t) (all_in_range ts) h

module _ (line : Downward) (now : ℕ) (l : now + 1 ≤ most_periods) where
  terminals_from_lem : (k : ℕ) (ts : List Terminal) → all_in_range ts ≡ true → map_from (terminal_after line (at_period now)) k ts ≡ map (hears_then line now) ts
  unfolding map_from
  terminals_from_lem k [] h = refl
  terminals_from_lem k (t ∷ ts) h =
      let g = both_in_range t ts h in
      rw (terminal_is line now l t g.0, terminals_from_lem (suc k) ts g.1)

  notes_from_lem : (k : ℕ) (ts : List Terminal) → all_in_range ts ≡ true → map_from (notes_after line (at_period now)) k ts ≡ map (terminal_notes line now) ts
  unfolding map_from
  notes_from_lem k [] h = refl
  notes_from_lem k (t ∷ ts) h =
      let g = both_in_range t ts h in
      rw (notes_is line now l t g.0, notes_from_lem (suc k) ts g.1)

pub terminals_shown : (line : Downward) (now : ℕ) (ts : List Terminal) → now + 1 ≤ most_periods → all_in_range ts ≡ true
    → map_from (terminal_after line (at_period now)) 0 ts ≡ map (hears_then line now) ts
terminals_shown line now ts l h = terminals_from_lem line now l 0 ts h

pub notes_shown : NotesShown
notes_shown line now ts l h = notes_from_lem line now l 0 ts h

on_stations : (line : Downward) (now : ℕ) (ss : List Station) →
    map (hears_then line now) (terminals_of ss) ≡ terminals_of (map (stepped (terminal.timer (now + 1))) (map (stepped (terminal.hears line now)) ss))
unfolding hears_then stepped
on_stations line now [] = refl
on_stations line now (s ∷ ss) = rw (on_stations line now ss)

pub stations_shown : StationsShown
stations_shown line now ss l h = terminals_shown line now (terminals_of ss) l h ∙ on_stations line now ss

-- ---- ranges
one_in_range : (line : Downward) (now : ℕ) (t : Terminal) → terminalCalls.terminal_in_range t ≡ true → terminalCalls.terminal_in_range (heard_one line (at_period now) t).terminal ≡ true
unfolding heard_one timer_step hearing_step
one_in_range line now t h =
    timer_due_in_range (next_period (at_period now)) (terminalCalls.hear_call line (at_period now) t).terminal (heard_in_range (at_period now) t h line)

ranges_from : (line : Downward) (now k : ℕ) (ts : List Terminal) → all_in_range ts ≡ true → all_in_range (map_from (terminal_after line (at_period now)) k ts) ≡ true
unfolding map_from all_in_range
ranges_from line now k [] h = refl
ranges_from line now k (t ∷ ts) h =
    let g = both_in_range t ts h in
    rw (one_in_range line now t g.0) (ranges_from line now (suc k) ts g.1)

pub ranges_kept : RangesKept
ranges_kept line now ts h = ranges_from line now 0 ts h

-- ---- whether there is a note
no_note : (n : Notes) → has_note n ≡ false → noted n ≡ []
unfolding has_note noted
no_note n h = let e : n.0 ≡ 0 = omega (arith, ltb-false 0 n.0 h) in rw e

none_taken : (n a : ℕ) (codes : List ℕ) → take n (a ∷ codes) ≡ [] → ltb 0 n ≡ false
none_taken zero a codes h = refl
none_taken (suc n) a codes h = cc

none_noted : (n : Notes) → noted n ≡ [] → has_note n ≡ false
unfolding has_note noted
none_noted n h = none_taken n.0 n.1 (n.2 ∷ n.3 ∷ n.4 ∷ []) h

neither_true : (a b : Bool) → (a || b) ≡ false → (a ≡ false) × (b ≡ false)
neither_true true b h = (h, clash true refl h)
neither_true false b h = (refl, h)

-- once there is one
stays_told : (line : Downward) (now k : ℕ) (ts : List Terminal) → fold_from (told_after line (at_period now)) k true ts ≡ true
unfolding fold_from
stays_told line now k [] = refl
stays_told line now k (t ∷ ts) = stays_told line now (suc k) ts

module _ (line : Downward) (now : ℕ) (l : now + 1 ≤ most_periods) where
  abbrev TellsOne : Terminal → Bool
  TellsOne t = has_note (heard_notes line now t) || has_note (timed_notes line now t)

  fold_on : (k : ℕ) (t : Terminal) (ts : List Terminal) → terminalCalls.terminal_in_range t ≡ true → fold_from (told_after line (at_period now)) k false (t ∷ ts) ≡ fold_from (told_after line (at_period now)) (suc k) (TellsOne t) ts
  unfolding fold_from
  fold_on k t ts h = rw (told_is line now l t h)

  told_from : (k : ℕ) (ts : List Terminal) → all_in_range ts ≡ true → fold_from (told_after line (at_period now)) k false ts ≡ false → NoneNoted line now ts
  unfolding NoneNoted
  told_from k [] h e = tt
  told_from k (t ∷ ts) h e =
      let g = both_in_range t ts h in
      let f = sym (fold_on k t ts g.0) ∙ e in
      by_test (TellsOne t) (λ u. clash true refl (sym (stays_told line now (suc k) ts) ∙ (rw u at f)))
      (λ u. let n = neither_true (has_note (heard_notes line now t)) (has_note (timed_notes line now t)) u in
      (no_note _ n.0, no_note _ n.1, told_from (suc k) ts g.1 (rw u at f)))

  none_from : (k : ℕ) (ts : List Terminal) → all_in_range ts ≡ true → NoneNoted line now ts → fold_from (told_after line (at_period now)) k false ts ≡ false
  unfolding NoneNoted fold_from
  none_from k [] h q = refl
  none_from k (t ∷ ts) h q =
      let g = both_in_range t ts h in
      rw (told_is line now l t g.0, none_noted (heard_notes line now t) q.0, none_noted (timed_notes line now t) q.1) (none_from (suc k) ts g.1 q.2)

pub told_none : ToldNone
told_none line now ts l h e = told_from line now l 0 ts h e

pub none_told : NoneTold
none_told line now ts l h q = none_from line now l 0 ts h q
