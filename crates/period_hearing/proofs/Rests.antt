-- A terminal that rests, and whose timer is not due at the next period's start, is as it was after both, and has no notes.
use mathlib.Core.Path.{◌≡◌, refl, sym, ap, ◌∙◌}
use mathlib.Core.Bool.{Bool, true, false, not, ◌&&◌}
use mathlib.Core.List.{List, [], ◌∷◌}
use Prim.Native.Nat.{ℕ, suc, ◌≤◌}
use native.Mathlib.Omega.{arith}
use lib.Dec.{eqb, leb}
use lib.ListN.{length, replicate}
use borrow.Author.Tests.{eqb-true, eqb-false, leb-true, not-true}
use Rattle.test_lemmas.proofs.ByCases.{by_test, clash}
use Rattle.test_lemmas.proofs.Operators.{and_both}
use Rattle.slice_lemmas.specs.Over.{map_from, fold_from}
use Rattle.notes_and_cells.specs.Notes.{packed_notes}
use Rattle.notes_and_cells.specs.Cells.{cell_in}
use Rattle.table_6_2.specs.Table62.{F1, F3, F4, F5, F7}
use Rattle.timing.specs.Calls.{next_period}
use Rattle.timing.specs.Timers.{due}
use Rattle.timing.specs.declared.counts.Periods.{Periods}
use Rattle.alignment.specs.Alignment.{framed_period, followed}
use Rattle.heard_line.specs.Heard.{downward_event}
use Rattle.heard_line.specs.declared.heard.Downward.{Downward}
use Rattle.terminal.specs.Terminal.{with_fields, unchanged, acts, happens, aligned, heard_as, hears, timer}
use Rattle.terminal.specs.Calls.{ready, checked}
use Rattle.terminal.specs.declared.Terminal.{Terminal}
use Rattle.terminal.specs.Steps.{TerminalStep}
use Rattle.period_hearing.specs.Hears.{stays_in_silence, rests, hearing_step, timer_step, has_note, heard_one, terminal_after, notes_after, told_after, no_notes}
use Rattle.period_hearing.specs.declared.hears.HeardOne.{HeardOne}

-- one of the three states
silence_is {ℓ} : {X : Type ℓ} (state : ℕ) → stays_in_silence state ≡ true → (state ≡ F3 → X) → (state ≡ F4 → X) → (state ≡ F5 → X) → X
silence_is state h three four five =
    let p = and_both (leb F3 state) (leb state F5) h in
    let low : F3 ≤ state = leb-true F3 state p.0 in
    let high : state ≤ F5 = leb-true state F5 p.1 in
    by_test (eqb state F3) (λ t. three (eqb-true state F3 t))
    (λ t. by_test (eqb state F4) (λ u. four (eqb-true state F4 u)) (λ u. five (omega (arith, eqb-false state F3 t, eqb-false state F4 u))))

-- ---- the cells, each computed
module _ (now : ℕ) (t : Terminal) where
  abbrev at : ℕ → ℕ → Bool → Terminal
  at state run al = with_fields t.t3 t.access state (record { aligned = al; run = run }) t

  in_f7_lem : (state run : ℕ) (al pulse framed a : Bool) → state ≡ F7 → run ≡ 0 → (((al && pulse) && framed) && a) ≡ true →
      hears (record { pulse = pulse; framed = framed; a = a }) now (at state run al) ≡ unchanged 0 (at state run al)
  unfolding hears heard_as aligned happens acts followed framed_period downward_event cell_in
  in_f7_lem state run true true true true p q h = rw (p, q)
  in_f7_lem state run true true true false p q h = clash false h refl
  in_f7_lem state run true true false a p q h = clash false h refl
  in_f7_lem state run true false framed a p q h = clash false h refl
  in_f7_lem state run false pulse framed a p q h = clash false h refl

  in_silence : (state run : ℕ) (al pulse framed a : Bool) → stays_in_silence state ≡ true → run ≡ 0 → (not al && not pulse) ≡ true →
      hears (record { pulse = pulse; framed = framed; a = a }) now (at state run al) ≡ unchanged 0 (at state run al)
  unfolding hears heard_as aligned happens acts followed downward_event cell_in
  in_silence state run false false framed a p q h = silence_is state p (λ e. rw (e, q)) (λ e. rw (e, q)) (λ e. rw (e, q))
  in_silence state run true pulse framed a p q h = clash false h refl
  in_silence state run false true framed a p q h = clash false h refl

in_f1 : (line : Downward) (now : ℕ) (t : Terminal) → eqb t.state F1 ≡ true → hears line now t ≡ unchanged 0 t
unfolding hears
in_f1 line now t e = rw e

-- Hearing leaves one that rests as it is.
pub rests_hears : (line : Downward) (now : ℕ) (t : Terminal) → rests line t ≡ true → hears line now t ≡ unchanged 0 t
unfolding rests
rests_hears line now t h =
    by_test (eqb t.alignment.run 0)
    (λ u. let h1 = rw u at h in
    by_test (eqb t.state F7)
    (λ v. in_f7_lem now t t.state t.alignment.run t.alignment.aligned line.pulse line.framed line.a (eqb-true _ _ v) (eqb-true _ _ u) (rw v at h1))
    (λ v. let h2 = rw v at h1 in
    by_test (stays_in_silence t.state)
    (λ w. in_silence now t t.state t.alignment.run t.alignment.aligned line.pulse line.framed line.a w (eqb-true _ _ u) (rw w at h2))
    (λ w. in_f1 line now t (rw w at h2))))
    (λ u. in_f1 line now t (rw u at h))

-- A call that is a step which changes nothing, in range or not.
abbrev Nothing : Terminal → TerminalStep → Type 0
Nothing t s = (s.terminal ≡ t) × (s.notes ≡ packed_notes [])

checked_nothing : (step : ℕ → Terminal → TerminalStep) (now : Periods) (t : Terminal) → step now.0 t ≡ unchanged 0 t → Nothing t (checked step now t)
unfolding checked
checked_nothing step now t h = by_test (ready now t) (λ u. (rw (u, h), rw (u, h))) (λ u. (rw u, rw u))

not_due : (now : ℕ) (t : Terminal) → due t.t3 now ≡ false → timer now t ≡ unchanged 0 t
unfolding timer
not_due now t h = rw h

module _ (line : Downward) (now : Periods) (t : Terminal) (r : rests line t ≡ true) (d : due t.t3 (next_period now).0 ≡ false) where
  hearing_rests : Nothing t (hearing_step line now t)
  unfolding hearing_step
  hearing_rests = checked_nothing (hears line) now t (rests_hears line now.0 t r)

  timing_rests : Nothing t (timer_step line now t)
  unfolding timer_step
  timing_rests = rw hearing_rests.0 (checked_nothing timer (next_period now) t (not_due (next_period now).0 t d))

  -- One that rests, with no timer due: nothing happens.
  pub one_rests : heard_one line now t ≡ record { terminal = t; notes = record { hearing = packed_notes []; timers = packed_notes [] }; told = false }
  unfolding heard_one has_note
  one_rests = rw (hearing_rests.1, timing_rests.0, timing_rests.1)

-- ---- All terminals: each rests, with no timer due.
abbrev pub AllRest : Downward → Periods → List Terminal → Type 0
AllRest line now [] = Unit
AllRest line now (t ∷ ts) = ((rests line t ≡ true) × (due t.t3 (next_period now).0 ≡ false)) × AllRest line now ts

pub record Unchanged (line : Downward) (now : Periods) (i : ℕ) (ts : List Terminal) : Type 0 where
  pub terminals_are : map_from (terminal_after line now) i ts ≡ ts
  pub notes_are : map_from (notes_after line now) i ts ≡ replicate (length ts) no_notes
  pub told_is : fold_from (told_after line now) i false ts ≡ false

cons_both : {X : Type 0} {x y : X} {xs ys : List X} → x ≡ y → xs ≡ ys → (x ∷ xs) ≡ (y ∷ ys)
cons_both p q = rw (p, q)

pub all_rest_lem : (line : Downward) (now : Periods) (i : ℕ) (ts : List Terminal) → AllRest line now ts → Unchanged line now i ts
unfolding map_from fold_from
all_rest_lem line now i [] all = record { terminals_are = refl; notes_are = refl; told_is = refl }
all_rest_lem line now i (t ∷ ts) all =
    let here = one_rests line now t all.0.0 all.0.1 in
    let on = all_rest_lem line now (suc i) ts all.1 in
    record {
      terminals_are = cons_both (ap (λ (h : HeardOne). h.terminal) here) on.terminals_are;
      notes_are = cons_both (ap (λ (h : HeardOne). h.notes) here) on.notes_are;
      told_is = ap (λ (b : Bool). fold_from (told_after line now) (suc i) b ts) (ap (λ (h : HeardOne). h.told) here) ∙ on.told_is;
    }

-- ---- One, as the code finds it.
pub rested : (line : Downward) (now : Periods) (t : Terminal) {next : Periods} {r d : Bool} → next ≡ next_period now → r ≡ rests line t → r ≡ true → d ≡ due t.t3 next.0 → not d ≡ true →
    record { terminal = t; notes = record { hearing = packed_notes []; timers = packed_notes [] }; told = false } ≡ heard_one line now t
rested line now t {next} {r} {d} n p q e f = sym (one_rests line now t (sym p ∙ q) (rw n at (sym e ∙ not-true d f)))
