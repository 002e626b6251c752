-- No sending stops inside its opening flag: all that send have sent equally many bits of the same flag, so their echo agrees.
use mathlib.Core.Bool.{true}
use mathlib.Core.Path.{◌≡◌, sym, ap, ◌∙◌}
use mathlib.Core.List.{List}
use Prim.Native.Nat.{ℕ, zero, suc, ◌+◌, ◌≤◌, ◌<◌}
use native.Mathlib.Nat.{add-zero, add-suc}
use native.Mathlib.Omega.{arith}
use native.Mathlib.Numerals.{add-one}
use lib.ListN.{length, get_or}
use Rattle.hdlc.specs.Image.{flag}
use Rattle.hdlc.proofs.ImageLaws.{length_image, image_flag}
use Rattle.contention.specs.Channel.{Channel, Action}
use Rattle.contention.specs.Stretch.{Stretch, contender}
use Rattle.contention.specs.Claims.{at, opps, NoStopInFlag, InStretches}
use Rattle.contention.specs.Invariant.{Invariant}
use Rattle.contention.proofs.Trace.{Echo, echo_agrees}
use Rattle.contention.proofs.HeardNext.{Follows, follows}
use Rattle.contention.proofs.HeardSteps.{echo_next, forth_begins, forth_more}

-- inside the flag the E is the bit that left last
flag_echoed : {x2 : ℕ} {c : Channel} → Invariant x2 c → Echo c → (j n : ℕ) → (contender j c).access.sent ≡ suc n → n < 8
    → (contender j c).access.last ≡ c.heard_d
flag_echoed {x2} {c} v e j n sent h =
    let w = echo_agrees e j (omega arith) in
    bit j sent ∙ sym (bit w.0 ((v.in_phase w.0 j w.1 (omega arith)).0 ∙ sent)) ∙ sym w.2
  where
    bit : (i : ℕ) → (contender i c).access.sent ≡ suc n → (contender i c).access.last ≡ get_or flag n true
    bit i q = (v.sound i).last_bit n q ∙ image_flag (contender i c).body n h

module _ (x1 x2 : ℕ) (c : Channel) (during : List Action) (h1 : 8 ≤ x1) (h2 : x1 + 2 ≤ x2) (start : Invariant x2 c) (st : Stretch x1 x2 c during) where
  abbrev next : (t : ℕ) → suc t < length (opps x1 x2 c during) → Follows x1 x2 (at (opps x1 x2 c during) t) (at (opps x1 x2 c during) (suc t))
  next = follows x1 x2 c during h1 h2 start st

  -- a sending that has sent bit n of the flag goes on
  flag_goes_on : (j n t : ℕ) → n < 8 → suc (suc t) < length (opps x1 x2 c during) → (contender j (at (opps x1 x2 c during) (suc t))).access.sent ≡ suc n
      → (contender j (at (opps x1 x2 c during) (suc (suc t)))).access.sent ≡ suc (suc n)
  flag_goes_on j n t l h q =
      let v = (next t (omega arith)).now in
      forth_more (next (suc t) h) j (omega arith) (flag_echoed v (echo_next (next t (omega arith))) j n q l)
      (omega (arith, q, length_image (contender j (at (opps x1 x2 c during) (suc t))).body)) ∙ ap suc q

  -- so it has sent s bits at opportunity p + s
  sent_so_far : NoStopInFlag x1 x2 c during
  sent_so_far j p zero b l h = rw add-zero b.idle
  sent_so_far j p (suc zero) b l h = rw add-one (forth_begins (next p (omega arith)) j b)
  sent_so_far j p (suc (suc s)) b l h =
      rw (add-suc p (suc s), add-suc p s)
      (flag_goes_on j s (p + s) (omega arith) (omega arith) (rw add-suc at (sent_so_far j p (suc s) b (omega arith) (omega arith))))

pub no_stop_in_flag : InStretches NoStopInFlag
no_stop_in_flag = sent_so_far
