-- The law of `specs/Later.antt`.
use mathlib.Core.Path.{◌≡◌, refl, sym, ap, ◌∙◌}
use mathlib.Core.Bool.{Bool, true}
use mathlib.Core.List.{List, [], ◌∷◌, map}
use Prim.Native.Nat.{ℕ, zero, suc, ◌<◌}
use native.Mathlib.Omega.{arith}
use lib.ListN.{length, get_or, get_or-append}
use Rattle.symbols.specs.Symbols.{levels}
use Rattle.frame.specs.Four.{pick, and_all}
use Rattle.frame.specs.Bits.{d_bits}
use Rattle.frame.specs.Down.{e_bits}
use Rattle.frame.proofs.Laws.{pick_and}
use Rattle.frame.specs.declared.fields.CycleBits.{CycleBits}
use Rattle.combining.specs.SentD.{sent_d}
use Rattle.cycle.specs.Cycle.{taken, bits_at}
use Rattle.bus_rules.specs.Bus.{Hit, Bus}
use Rattle.bus_rules.specs.Exchange.{Sender, Opportunity, d_of, hears_e, sent_of, line_down, line_up, e_comes, senders_after, d_comes, onward, begins, opportunities_of, exchanged, whole_down, whole_up}
use Rattle.bus_rules.specs.Claims.{at}
use Rattle.bus_rules.specs.Quick.{InStep}
use Rattle.bus_rules.specs.Quick.InStep.{end, one}
use Rattle.bus_rules.specs.Later as later
use Rattle.bus_rules.proofs.Quick.{e_down, d_sent, d_up, d_whole, state_turned, info1_hears, one_more, in_step_begins, in_step_onward}
use Rattle.bus_rules.proofs.Simulation.{past}

-- ---- E: it depends on the bit at its place alone
e_same : (k : ℕ) (bits : CycleBits) (network : ℕ) (h : Hit) (es fs : List Bool) → k < 4 → get_or es k true ≡ get_or fs k true →
    pick k (e_bits (levels (line_down bits network h es))) ≡ pick k (e_bits (levels (line_down bits network h fs)))
e_same k bits network h es fs l e = rw (e_down k bits network h es l, e_down k bits network h fs l, e)

e_taken : (b : Bus) (k : ℕ) → k < 4 → e_comes (at (opportunities_of b) k) ≡ pick k (e_bits (levels (whole_down (exchanged b))))
unfolding opportunities_of e_comes whole_down exchanged onward begins
e_taken b zero h = e_same 0 (bits_at (taken b.cycle)) b.network.state b.hit _ (exchanged b).es h refl
e_taken b (suc zero) h = e_same 1 (bits_at (taken b.cycle)) b.network.state b.hit _ (exchanged b).es h refl
e_taken b (suc (suc zero)) h = e_same 2 (bits_at (taken b.cycle)) b.network.state b.hit _ (exchanged b).es h refl
e_taken b (suc (suc (suc zero))) h = refl
e_taken b (suc (suc (suc (suc k)))) h = absurd (omega arith)

-- ---- D: what a terminal has sent at a place stays
d_stays_one : (k : ℕ) (e : Bool) (s : Sender) → k < 4 → k < length s.ds → pick k (sent_d (sent_of (hears_e e s))) ≡ pick k (sent_d (sent_of s))
unfolding hears_e
d_stays_one k e s h b =
    d_sent k (hears_e e s) h
    ∙ (rw (state_turned e s.station, get_or-append s.ds (d_of e s.station ∷ []) true k b) refl ∙ sym (d_sent k s h))

d_stays_all : (k j : ℕ) (e : Bool) (ss : List Sender) → k < 4 → k < j → InStep j ss →
    pick k (and_all (map sent_d (map sent_of (map (hears_e e) ss)))) ≡ pick k (and_all (map sent_d (map sent_of ss)))
unfolding and_all
d_stays_all k j e [] h b end = refl
d_stays_all k j e (s ∷ ss) h b (one l more) =
    rw (
      pick_and k (sent_d (sent_of (hears_e e s))) (and_all (map sent_d (map sent_of (map (hears_e e) ss)))),
      pick_and k (sent_d (sent_of s)) (and_all (map sent_d (map sent_of ss))),
      d_stays_one k e s h (rw l b),
      d_stays_all k j e ss h b more,
    )

abbrev d_at : ℕ → Opportunity → Bool
d_at k m = pick k (d_bits (levels (line_up m.senders)))

d_stays : (k : ℕ) (m : Opportunity) → k < 4 → k < length m.es → InStep (length m.es) m.senders → d_at k (onward m) ≡ d_at k m
unfolding onward senders_after
d_stays k m h b i =
    rw (
      d_up k (map (hears_e (e_comes m)) m.senders) h,
      d_up k m.senders h,
      info1_hears (e_comes m) m.senders,
      d_stays_all k (length m.es) (e_comes m) m.senders h b i,
    )

es_onward : (m : Opportunity) → length (onward m).es ≡ suc (length m.es)
unfolding onward
es_onward m = one_more m.es m.heard_d (length m.es) refl

d_past : (n k : ℕ) (m : Opportunity) → k < 4 → k < length m.es → InStep (length m.es) m.senders → d_at k (past n m) ≡ d_at k m
unfolding past
d_past zero k m h b i = refl
d_past (suc n) k m h b i = d_past n k (onward m) h (rw (es_onward m) (omega arith)) (in_step_onward m i) ∙ d_stays k m h b i

d_taken : (n : ℕ) (m : Opportunity) → length m.es < 4 → InStep (length m.es) m.senders → d_comes m ≡ d_at (length m.es) (past n (onward m))
unfolding d_comes onward
d_taken n m h i = sym (d_past n (length m.es) (onward m) h (rw (es_onward m) (omega arith)) (in_step_onward m i))

last_taken : (b : Bus) (k : ℕ) → k < 4 → d_comes (at (opportunities_of b) k) ≡ d_at k (exchanged b)
unfolding opportunities_of exchanged begins past onward
last_taken b zero h = d_taken 3 (begins b) h (in_step_begins b)
last_taken b (suc zero) h = d_taken 2 (onward (begins b)) h (in_step_onward _ (in_step_begins b))
last_taken b (suc (suc zero)) h = d_taken 1 (onward (onward (begins b))) h (in_step_onward _ (in_step_onward _ (in_step_begins b)))
last_taken b (suc (suc (suc zero))) h = d_taken 0 (onward (onward (onward (begins b)))) h (in_step_onward _ (in_step_onward _ (in_step_onward _ (in_step_begins b))))
last_taken b (suc (suc (suc (suc k)))) h = absurd (omega arith)

-- the whole line has FA, too, and the same D
d_is_taken : (b : Bus) (k : ℕ) → k < 4 → d_comes (at (opportunities_of b) k) ≡ pick k (d_bits (levels (whole_up (exchanged b))))
d_is_taken b k h = last_taken b k h ∙ ap (pick k) (sym (d_whole (exchanged b)))

pub as_taken : later.AsTaken
as_taken b k h = (e_taken b k h, d_is_taken b k h)
