-- What holds before each turn of the loop of `run_alone` (specs/Alone.antt), and what a turn does.
use mathlib.Core.Path.{◌≡◌, refl, sym, ◌∙◌}
use mathlib.Core.Bool.{Bool, true, false, ◌&&◌, and-false}
use mathlib.Core.List.{List}
use Prim.Native.Nat.{ℕ, zero, suc, ◌+◌, ◌-◌, ◌<◌}
use native.Mathlib.Omega.{arith}
use lib.Dec.{ltb}
use borrow.Author.Tests.{lt-ltb}
use Rattle.bus_record.specs.NetworkSide.{answer_after, octets_after}
use Rattle.bus_record.specs.declared.side.RunAnswer.{RunAnswer}
use Rattle.exchange.specs.declared.tally.Tally.{Tally}
use Rattle.lone_sender.specs.Lone.{lone_step, tally_of}
use Rattle.lone_sender.specs.Alone.{stays_alone, goes_alone, alone_after, octets_then, alone_on, octets_on}
use Rattle.lone_sender.specs.declared.lone.LoneSender.{LoneSender}
use Rattle.lone_sender.specs.declared.lone.LoneStep.{LoneStep}
use Rattle.lone_sender.specs.declared.alone.Alone.{Alone}

abbrev pub alone_at : RunAnswer → LoneSender → ℕ → Alone
alone_at ran sender over = record { answer = ran; lone = sender; over = over }

-- ---- One turn of the definitions.
module _ (images : List ℕ) (a : Alone) (octets : List ℕ) where
  on_goes : (n : ℕ) → 0 < n → goes_alone images a ≡ true → (alone_on images n a octets ≡ alone_on images (n - 1) (alone_after images a octets) (octets_then images a octets)) × (octets_on images n a octets ≡ octets_on images (n - 1) (alone_after images a octets) (octets_then images a octets))
  unfolding alone_on octets_on
  on_goes zero some g = absurd (omega arith)
  on_goes (suc n) some g =
      let less : suc n - 1 ≡ n = omega arith in
      (rw (g, less), rw (g, less))

  on_ends : (n : ℕ) → (ltb 0 n && goes_alone images a) ≡ false → (alone_on images n a octets ≡ a) × (octets_on images n a octets ≡ octets)
  unfolding alone_on octets_on
  on_ends zero g = (refl, refl)
  on_ends (suc n) g =
      let off : goes_alone images a ≡ false = rw (lt-ltb 0 (suc n) (omega arith)) at g in
      (rw off, rw off)

-- ---- The loop, which comes to `end` and leaves `left`.
module _ (images : List ℕ) (most : ℕ) (end : Alone) (left : List ℕ) where
  pub record Going (ran : RunAnswer) (sender : LoneSender) (over : ℕ) (octets : List ℕ) : Type 0 where
    pub alone_to : alone_on images (most - over) (alone_at ran sender over) octets ≡ end
    pub octets_to_lem : octets_on images (most - over) (alone_at ran sender over) octets ≡ left

module _ {images : List ℕ} {most : ℕ} {end : Alone} {left : List ℕ} {ran : RunAnswer} {sender : LoneSender} {over : ℕ} {octets : List ℕ} (i : Going images most end left ran sender over octets) where
  abbrev here : Alone
  here = alone_at ran sender over

  goes_here : {next : LoneStep} {b : Bool} → next ≡ lone_step images sender → stays_alone ran sender next.goes ≡ b → goes_alone images here ≡ b
  unfolding goes_alone
  goes_here {next} {b} is-next goes = rw is-next at goes

  -- a turn
  pub going_on : {next : LoneStep} {m : Tally} {ran' : RunAnswer} {octets' : List ℕ} → over < most → next ≡ lone_step images sender
      → stays_alone ran sender next.goes ≡ true → m ≡ tally_of ran.bus.network.state next.ds
      → ran' ≡ answer_after ran.bus m octets false → octets' ≡ octets_after ran.bus m octets
      → Going images most end left ran' next.lone (over + 1) octets'
  unfolding alone_after octets_then
  going_on {next} {m} {ran'} {octets'} some is-next goes is_m is-ran is-octets =
      let n : ℕ = most - over in
      let less : most - (over + 1) ≡ n - 1 = omega arith in
      let turn = on_goes images here octets n (omega arith) (goes_here is-next goes) in
      record {
        alone_to = rw (is-ran, is-octets, is_m, is-next, less) (sym turn.0 ∙ i.alone_to);
        octets_to_lem = rw (is-ran, is-octets, is_m, is-next, less) (sym turn.1 ∙ i.octets_to_lem);
      }

  -- the end, where the sender does not go on alone
  pub going_stops : {next : LoneStep} → next ≡ lone_step images sender → stays_alone ran sender next.goes ≡ false → (here ≡ end) × (octets ≡ left)
  going_stops {next} is-next goes =
      let off : (ltb 0 (most - over) && goes_alone images here) ≡ false = rw (goes_here is-next goes) (and-false _) in
      let ends = on_ends images here octets (most - over) off in
      (sym ends.0 ∙ i.alone_to, sym ends.1 ∙ i.octets_to_lem)

  -- and where all periods are run
  pub going_ends : most ≡ over → (alone_at ran sender most ≡ end) × (octets ≡ left)
  going_ends all =
      let none : most - over ≡ 0 = omega arith in
      let ends = on_ends images here octets (most - over) (rw none) in
      (rw all (sym ends.0 ∙ i.alone_to), sym ends.1 ∙ i.octets_to_lem)

-- ---- The first turn.
pub going_first : (images : List ℕ) (most : ℕ) (ran : RunAnswer) (sender : LoneSender) (octets : List ℕ)
    → Going images most (alone_on images most (alone_at ran sender 0) octets) (octets_on images most (alone_at ran sender 0) octets) ran sender 0 octets
going_first images most ran sender octets =
    let all : most - 0 ≡ most = omega arith in
    record { alone_to = rw all; octets_to_lem = rw all }
