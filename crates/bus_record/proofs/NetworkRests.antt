-- A network end that rests, and of whose timers none is due at the next period's start, is as it was after both, and has no notes.
use mathlib.Core.Path.{◌≡◌, refl, sym, ◌∙◌}
use mathlib.Core.Bool.{Bool, true, false, not, ◌&&◌, ◌||◌}
use mathlib.Core.List.{[]}
use Prim.Native.Nat.{ℕ}
use lib.Dec.{eqb}
use borrow.Author.Tests.{eqb-true, not-true}
use Rattle.test_lemmas.proofs.ByCases.{by_test, clash}
use Rattle.test_lemmas.proofs.Operators.{and_both}
use Rattle.notes_and_cells.specs.Notes.{packed_notes, noted}
use Rattle.notes_and_cells.specs.Cells.{cell_in}
use Rattle.table_6_3.specs.Table63.{G1, G2, G3, G4}
use Rattle.timing.specs.Calls.{next_period}
use Rattle.timing.specs.Timers.{due}
use Rattle.timing.specs.declared.counts.Periods.{Periods}
use Rattle.alignment.specs.Alignment.{framed_period, unframed_period, followed}
use Rattle.heard_line.specs.Heard.{upward_event, loss_up}
use Rattle.heard_line.specs.declared.heard.Upward.{Upward}
use Rattle.network.specs.Network.{unchanged, acts, happens, and_then, aligned, t1_due, t2_due}
use Rattle.network.specs.Calls.{checked, ready}
use Rattle.network.specs.Network as network
use Rattle.network.specs.declared.Network.{Network}
use Rattle.network.specs.Steps.{NetworkStep}
use Rattle.bus_record.specs.NetworkSide.{leaves_g3, hearing_step, timer_step, network_listens, rests_in_g3, rests_elsewhere, no_notes, network_rests}
use Rattle.bus_record.specs.declared.side.NetworkHeard.{NetworkHeard}

-- ---- What is known of one that rests.
module _ (line : Upward) (n : Network) (h : network_rests line n ≡ true) where
  pub record Rested : Type 0 where
    pub no_run : n.alignment.run ≡ 0
    pub in_it : eqb n.state G3 ≡ true → rests_in_g3 line n.alignment.aligned ≡ true
    pub unaligned : eqb n.state G3 ≡ false → n.alignment.aligned ≡ false
    pub out_of_it : eqb n.state G3 ≡ false → rests_elsewhere line n.state ≡ true

  pub rested : Rested
  unfolding network_rests
  rested =
      let p = and_both (eqb n.alignment.run 0) _ h in
      record {
        no_run = eqb-true n.alignment.run 0 p.0;
        in_it = λ t. rw t at p.1;
        unaligned = λ t. not-true n.alignment.aligned (and_both (not n.alignment.aligned) _ (rw t at p.1)).0;
        out_of_it = λ t. (and_both (not n.alignment.aligned) _ (rw t at p.1)).1;
      }

-- ---- Its hearing.
module _ (now t1 t2 : ℕ) where
  abbrev with : ℕ → ℕ → Bool → Network
  with state run al = record { t1 = t1; t2 = t2; state = state; alignment = record { aligned = al; run = run } }

  abbrev Nothing : Upward → ℕ → ℕ → Bool → Type 0
  Nothing line state run al = network.hears line now (with state run al) ≡ unchanged 0 (with state run al)

  abbrev shows : Bool → Bool → Bool → Upward
  shows p f i = record { pulse = p; framed = f; info1 = i }

  in_g3_lem : (state run : ℕ) (al p f i : Bool) → state ≡ G3 → run ≡ 0 → rests_in_g3 (shows p f i) al ≡ true → Nothing (shows p f i) state run al
  unfolding network.hears network.heard_as happens acts and_then aligned followed framed_period upward_event loss_up cell_in noted
  in_g3_lem state run true true true false g z h = rw (g, z)
  in_g3_lem state run true true true true g z h = clash false h refl
  in_g3_lem state run true true false i g z h = clash false h refl
  in_g3_lem state run true false f i g z h = clash false h refl
  in_g3_lem state run false p f i g z h = clash false h refl

  outside : (state run : ℕ) (al p f i : Bool) → al ≡ false → run ≡ 0 → rests_elsewhere (shows p f i) state ≡ true → Nothing (shows p f i) state run al
  unfolding network.hears network.heard_as happens acts and_then aligned followed framed_period unframed_period upward_event loss_up cell_in noted
  outside state run true p f i u z h = clash true refl u
  outside state run false true false true u z h = rw (eqb-true state G4 h, z)
  outside state run false true false false u z h = clash false h refl
  outside state run false true true i u z h = clash false h refl
  outside state run false false f i u z h =
      by_test (eqb state G1) (λ t. rw (eqb-true state G1 t, z)) (λ t. let v : eqb state G2 ≡ true = rw t at h in rw (eqb-true state G2 v, z))

hears_nothing : (line : Upward) (n : Network) → network_rests line n ≡ true → (now : ℕ) → network.hears line now n ≡ unchanged 0 n
hears_nothing line n h now =
    let r = rested line n h in
    by_test (eqb n.state G3)
    (λ t. in_g3_lem now n.t1 n.t2 n.state n.alignment.run n.alignment.aligned line.pulse line.framed line.info1 (eqb-true n.state G3 t) r.no_run (r.in_it t))
    (λ t. outside now n.t1 n.t2 n.state n.alignment.run n.alignment.aligned line.pulse line.framed line.info1 (r.unaligned t) r.no_run (r.out_of_it t))

-- ---- Its timers.
none_due : (next : ℕ) (n : Network) → due n.t1 next ≡ false → due n.t2 next ≡ false → network.timers next n ≡ unchanged 0 n
unfolding network.timers and_then t1_due t2_due noted
none_due next n a b = rw (a, b)

-- a call that is a step which changes nothing, in range or not
checked_nothing : (step : ℕ → Network → NetworkStep) (p : Periods) (n : Network) → step p.0 n ≡ unchanged 0 n
    → ((checked step p n).network ≡ n) × ((checked step p n).notes ≡ packed_notes [])
unfolding checked
checked_nothing step p n h = by_test (ready p n) (λ u. (rw (u, h), rw (u, h))) (λ u. (rw u, rw u))

pub leaves_none : (s : ℕ) → leaves_g3 s s ≡ false
leaves_none s = by_test (eqb s G3) (λ t. rw t) (λ t. rw t)

-- ---- Both.
-- it is as it was, and has no notes
abbrev pub nothing_heard : Network → NetworkHeard
nothing_heard n = record { network = n; notes = no_notes; left = false }

module _ (line : Upward) (p : Periods) (n : Network) (r : network_rests line n ≡ true) (a : due n.t1 (next_period p).0 ≡ false) (b : due n.t2 (next_period p).0 ≡ false) where
  hearing : ((hearing_step line p n).network ≡ n) × ((hearing_step line p n).notes ≡ packed_notes [])
  unfolding hearing_step
  hearing = checked_nothing (network.hears line) p n (hears_nothing line n r p.0)

  timing : ((timer_step line p n).network ≡ n) × ((timer_step line p n).notes ≡ packed_notes [])
  unfolding timer_step
  timing = rw hearing.0 (checked_nothing network.timers (next_period p) n (none_due (next_period p).0 n a b))

  pub listens_rests : network_listens line p n ≡ nothing_heard n
  unfolding network_listens
  listens_rests = rw (timing.0, hearing.1, timing.1, hearing.0, leaves_none n.state)

-- as the code finds it
pub found_rests : (line : Upward) (p : Periods) (n : Network) (d1 d2 : Bool) {next : Periods} {r : Bool} → next ≡ next_period p → d1 ≡ due n.t1 next.0 → d2 ≡ due n.t2 next.0 → r ≡ network_rests line n
    → (r && not (d1 || d2)) ≡ true → nothing_heard n ≡ network_listens line p n
found_rests line p n false false {next} {r} e x y z h =
    sym (listens_rests line p n (sym z ∙ (and_both r true h).0) (rw e at (sym x)) (rw e at (sym y)))
found_rests line p n true d2 {next} {r} e x y z h = clash false (and_both r false h).1 refl
found_rests line p n false true {next} {r} e x y z h = clash false (and_both r false h).1 refl
