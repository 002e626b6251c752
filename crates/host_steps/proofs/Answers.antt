-- How a call that steps a bus ends: turned down for what is lent, turned down by the bus, or with notes.
use mathlib.Core.Bool.{true, false}
use mathlib.Core.List.{List}
use mathlib.Core.Path.{◌≡◌, sym, ◌∙◌}
use Prim.Native.Nat.{ℕ, ◌≤◌}
use native.Mathlib.Omega.{arith}
use lib.Dec.{ltb, eqb}
use borrow.Author.Tests.{ne_eqb, ltb-false}
use Rattle.test_lemmas.proofs.ByCases.{by_test}
use Rattle.bus_rules.specs.Bus.{Note}
use Rattle.bus_call_specs.specs.Kept.{Kept}
use Rattle.note_text.specs.Room.{laid}
use Rattle.bus_octets.specs.Layout.{bus_octets, is_bus}
use Rattle.host_bus.specs.Lent.{lent_reason}
use Rattle.host_steps.specs.Stepping.{notes_octets, reason, reply_with, bus_with, notes_with}

module _ (s room : List ℕ) (reply : ℕ) (left : Kept) (notes : List Note) where
  abbrev pub Answered : ℕ → List ℕ → List ℕ → Type 0
  Answered r s' room' = (r ≡ reply_with s room reply) × ((s' ≡ bus_with s room left) × (room' ≡ notes_with s room reply notes))

  pub not_lent : (r : ℕ) → r ≡ reason s room → eqb r 0 ≡ false → Answered r s room
  unfolding reply_with bus_with notes_with
  not_lent r e f = (rw (← e, f), (rw (← e, f), rw (← e, f, f)))

  module _ (e : 0 ≡ reason s room) where
    pub turned_down : (reply ≡ 0 → ⊥) → Answered reply (bus_octets left) room
    unfolding reply_with bus_with notes_with
    turned_down n = (rw (← e), (rw (← e), rw (← e, ne_eqb reply 0 n)))

    pub stepped : reply ≡ 0 → Answered 0 (bus_octets left) (laid room 0 (notes_octets notes))
    unfolding reply_with bus_with notes_with
    stepped y = (rw (← e, y), (rw (← e), rw (← e, y)))

-- ---- What is lent is a bus, where neither 1 nor 2 holds.
pub lent_bus : (s : List ℕ) (room needed r : ℕ) → r ≡ lent_reason s room needed → r ≡ 0 → is_bus s ≡ true
unfolding lent_reason
lent_bus s room needed r e z =
    by_test (is_bus s) (λ t. t) (λ t. absurd (let y : ◌≡◌ {A = ℕ} 1 0 = sym (e ∙ rw t) ∙ z in omega arith))

-- ---- .. and the room is as large as it must be.
pub lent_room : (s : List ℕ) (room needed r : ℕ) → r ≡ lent_reason s room needed → r ≡ 0 → needed ≤ room
unfolding lent_reason
lent_room s room needed r e z =
    by_test (ltb room needed)
    (λ t. absurd (let y : ◌≡◌ {A = ℕ} 2 0 = sym (e ∙ rw (lent_bus s room needed r e z, t)) ∙ z in omega arith)) (λ t. ltb-false room needed t)
