-- The loop of `first_pulse`: what the first pulse of the symbols from i on is.
use mathlib.Core.Path.{◌≡◌}
use mathlib.Core.List.{List}
use Prim.Native.Nat.{ℕ, ◌+◌, ◌<◌, ◌≤◌}
use native.Mathlib.Numerals.{add-one}
use borrow.Author.Tests.{eq-eqb, ne_eqb}
use lib.ListN.{length, drop, get_or, drop_of_length-le}
use lib.Seq.{drop-cons}
use Rattle.framed.specs.Framed.{first_pulse}

pub pulse_here : (s : List ℕ) (i : ℕ) → i < length s → (get_or s i 0 ≡ 0 → ⊥) → first_pulse (drop i s) ≡ get_or s i 0
unfolding first_pulse
pulse_here s i h k = rw (drop-cons s i 0 h, ne_eqb (get_or s i 0) 0 k)

pub pulse_next : (s : List ℕ) (i : ℕ) → i < length s → get_or s i 0 ≡ 0 → first_pulse (drop i s) ≡ first_pulse (drop (i + 1) s)
unfolding first_pulse
pulse_next s i h k = rw (add-one, drop-cons s i 0 h, eq-eqb (get_or s i 0) 0 k)

pub pulse_none : (s : List ℕ) (i : ℕ) → length s ≤ i → first_pulse (drop i s) ≡ 0
unfolding first_pulse
pulse_none s i h = rw (drop_of_length-le s h)
