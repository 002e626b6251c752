-- What a run leaves: the record that it hands back, the images and letters that it found; and it is in order.
use mathlib.Core.Bool.{false}
use mathlib.Core.Path.{◌≡◌, refl, ◌∙◌}
use Prim.Native.Nat.{ℕ, zero, suc}
use lib.ListN.{length}
use Rattle.test_lemmas.proofs.ByCases.{by_test}
use Rattle.timing.specs.Calls.{all_run}
use Rattle.bus_record.specs.NetworkSide.{refused_run}
use Rattle.bus_record.specs.declared.side.RunAnswer.{RunAnswer}
use Rattle.bus_call_specs.specs.Kept.{Kept}
use Rattle.bus_call_specs.specs.Ready.{run_goes_on}
use Rattle.bus_call_specs.specs.Period.{octets_run, period_answer, kept_run}
use Rattle.bus_call_specs.specs.Run.{answer_on, kept_on, not_yet, run_answer, kept_after, RunLeaves}
use Rattle.bus_call_specs.proofs.InOrder.{InOrder}
use Rattle.bus_call_specs.proofs.ReadyKept.{length_octets, order_kept}
use Rattle.bus_call_specs.proofs.RunSingle.{goes_facts}

-- ---- Of whatever it finds: `specs/Run.antt`.
on_bus : (n : ℕ) (last : RunAnswer) (k : Kept) → last.bus ≡ k.bus → (answer_on n last k).bus ≡ (kept_on n last k).bus
unfolding answer_on kept_on kept_run
on_bus zero last k e = e
on_bus (suc n) last k e = by_test (run_goes_on last (suc n)) (λ t. rw t (on_bus n (period_answer k) (kept_run k) refl)) (λ t. rw t e)

on_images : (n : ℕ) (last : RunAnswer) (k : Kept) → (kept_on n last k).images ≡ k.images
unfolding kept_on kept_run
on_images zero last k = refl
on_images (suc n) last k = by_test (run_goes_on last (suc n)) (λ t. rw t (on_images n (period_answer k) (kept_run k))) (λ t. rw t)

on_letters : (n : ℕ) (last : RunAnswer) (k : Kept) → (kept_on n last k).letters ≡ k.letters
unfolding kept_on kept_run
on_letters zero last k = refl
on_letters (suc n) last k = by_test (run_goes_on last (suc n)) (λ t. rw t (on_letters n (period_answer k) (kept_run k))) (λ t. rw t)

pub run_leaves_lem : RunLeaves
unfolding run_answer kept_after not_yet refused_run
run_leaves_lem most k =
    record {
      bus_is = on_bus most (not_yet most k) k refl;
      images_stay = on_images most (not_yet most k) k;
      letters_stay = on_letters most (not_yet most k) k;
    }

-- ---- Where all is in order it is so again, with as many octets.
pub record Left (k k' : Kept) : Type 0 where
  pub order : InOrder k'
  pub octets_long : length k'.octets ≡ length k.octets

octets_run_lem : (k : Kept) → length (kept_run k).octets ≡ length k.octets
unfolding kept_run octets_run
octets_run_lem k = length_octets _ k.bus.reader k.octets

on_left : (n : ℕ) (last : RunAnswer) (k : Kept) → last.bus ≡ k.bus → InOrder k → Left k (kept_on n last k)
unfolding kept_on kept_run
on_left zero last k e o = record { order = o; octets_long = refl }
on_left (suc n) last k e o =
    by_test (run_goes_on last (suc n))
    (λ t.
    let a : all_run k.bus.periods ≡ false = rw e at (goes_facts last (suc n) t).1 in
    let l = on_left n (period_answer k) (kept_run k) refl (order_kept k o a) in
    rw t (record { order = l.order; octets_long = l.octets_long ∙ octets_run_lem k }))
    (λ t. rw t (record { order = o; octets_long = refl }))

pub run_left : (most : ℕ) (k : Kept) → InOrder k → Left k (kept_after most k)
unfolding kept_after not_yet refused_run
run_left most k o = on_left most (not_yet most k) k refl o
