-- What the returns of the functions on an event have to show, over plain variables.
use mathlib.Core.Path.{◌≡◌, refl, sym, ◌∙◌}
use mathlib.Core.Bool.{Bool, true, false, not, ◌&&◌}
use mathlib.Core.List.{List, [], ◌∷◌, ◌++◌}
use Prim.Native.Nat.{ℕ, ◌*◌, ◌≤◌, ◌<◌}
use native.Mathlib.Omega.{arith}
use lib.Dec.{eqb, ltb, leb}
use lib.ListN.{length, take, drop}
use borrow.Author.Tests.{eq-eqb, ne_eqb, le-ltb, le-leb, eqb-true, eqb-false, ltb-true, ltb-false, leb-true, not-false}
use Rattle.test_lemmas.proofs.ByCases.{by_test, and_left, and_right, neither}
use Rattle.hdlc.specs.Image.{image, longest_body}
use Rattle.packing.specs.Packing.{image_room, is_body_length, imaged, imaged_octets}
use Rattle.std.specs.Prelude.{Result, Ok, Err}
use Rattle.refusals.specs.Numbers.{unless_refused, reason_of}
use Rattle.refusals.specs.declared.Refusal.{Refusal}
use Rattle.dchannel.specs.declared.access.Class.{Class}
use Rattle.table_6_2.specs.Table62.{F7}
use Rattle.terminal.specs.Calls as terminalCalls
use Rattle.terminal.specs.Steps.{as_result}
use Rattle.terminal.specs.declared.Terminal.{Terminal}
use Rattle.bus_rules.specs.Bus.{terminals}
use Rattle.bus_rules.specs.Event.{first_holding}
use Rattle.bus_rules.proofs.Refusals.{none_holds}
use Rattle.bus_event.specs.Event.{images_room, image_put, frame_reason, frame_given, images_with}
use Rattle.bus_event.proofs.ImagePlaces.{room_length}

-- a body of a good length, as the code tests it
pub body_test : (n : ℕ) → is_body_length n ≡ (not (eqb n 0) && leb n longest_body)
unfolding is_body_length
body_test n = by_test (eqb n 0) (λ t. rw t) (λ t. rw t)

-- ---- The first of a list of reasons, as the code goes through them: it stops at one that holds, and goes on past one that does not.
module _ (n : ℕ) (t : Bool) (rs : List (ℕ × Bool)) where
  pub stops : t ≡ true → n ≡ first_holding ((n, t) ∷ rs)
  unfolding first_holding
  stops h = rw h

  pub goes_on : (k : ℕ) → t ≡ false → k ≡ first_holding rs → k ≡ first_holding ((n, t) ∷ rs)
  unfolding first_holding
  goes_on k h e = rw h e

-- The answer of a function that refuses, over the number that it stands for.
pub refuse : {k n : ℕ} → k ≡ n → ◌≡◌ {A = Result Unit Refusal} (unless_refused k tt) (unless_refused n tt)
refuse e = rw e

-- What such an answer says of the number: a reason, or none.
module _ (k : ℕ) (r : Result Unit Refusal) (e : r ≡ unless_refused k tt) where
  pub turned_down : (refusal : Refusal) → r ≡ Err refusal → (eqb k 0 ≡ false) × (reason_of k ≡ refusal)
  turned_down refusal d =
      by_test (eqb k 0)
      (λ z. let f : ◌≡◌ {A = Result Unit Refusal} (Ok tt) (Err refusal) = rw z at (sym e ∙ d) in
      let no : ◌≡◌ {A = ℕ} 0 1 = cc in absurd (omega arith))
      (λ z. let f : ◌≡◌ {A = Result Unit Refusal} (Err (reason_of k)) (Err refusal) = rw z at (sym e ∙ d) in
      (z, cc))

  pub passed : (x : Unit) → r ≡ Ok x → eqb k 0 ≡ true
  passed x d =
      by_test (eqb k 0)
      (λ z. z)
      (λ z. let f : ◌≡◌ {A = Result Unit Refusal} (Err (reason_of k)) (Ok x) = rw z at (sym e ∙ d) in
      let no : ◌≡◌ {A = ℕ} 0 1 = cc in absurd (omega arith))

pub at_end : 0 ≡ first_holding []
unfolding first_holding
at_end = refl

-- ---- The image in the room of terminal i.
module _ (i : ℕ) (value images : List ℕ) (l : i < terminals) (e : length images ≡ images_room) (some : 1 ≤ length value) (few : length value ≤ longest_body) where
  bits_there : imaged value (take image_room (drop (i * image_room) images)) ≡ Ok (length (image value))
  unfolding imaged is_body_length
  bits_there =
      simp (
        le-ltb (length (take image_room (drop (i * image_room) images))) image_room (omega (arith, room_length i images l e)),
        ne_eqb (length value) 0 (omega arith),
        le-leb (length value) longest_body few,
      )

  module _ (k : ℕ) (room : k ≡ image_room) (r : Result ℕ Refusal) (is : r ≡ imaged value (take k (drop (i * image_room) images))) where
    pub bits_are : r ≡ Ok (length (image value))
    bits_are = is ∙ rw room bits_there

    pub octets_are : (last : List ℕ) → last ≡ imaged_octets value (take k (drop (i * image_room) images))
        → take (i * image_room) images ++ (last ++ drop k (drop (i * image_room) images)) ≡ image_put i value images
    unfolding image_put
    octets_are last o = rw (o, room)

    -- both of them
    pub put_bits_lem : (n : ℕ) → r ≡ Ok n → (last : List ℕ) → last ≡ imaged_octets value (take k (drop (i * image_room) images))
        → (n ≡ length (image value)) × (take (i * image_room) images ++ (last ++ drop k (drop (i * image_room) images)) ≡ image_put i value images)
    put_bits_lem n q last o =
        (let both : ◌≡◌ {A = Result ℕ Refusal} (Ok n) (Ok (length (image value))) = sym q ∙ bits_are in cc, octets_are last o)

-- ---- The reasons for which terminal i is not given a frame.
module _ (images i octets : ℕ) (t : Terminal) (fit : Bool) (is : fit ≡ terminalCalls.terminal_in_range t) where
  abbrev lent : Bool
  lent = eqb images images_room && ltb i terminals

  abbrev is_body_lem : Bool
  is_body_lem = not (eqb octets 0) && leb octets longest_body

  pub reason_1 : fit ≡ false → 1 ≡ frame_reason images i octets t
  unfolding frame_reason first_holding
  reason_1 a = rw (← is, a)

  module _ (a : fit ≡ true) where
    pub reason_2 : lent ≡ false → 2 ≡ frame_reason images i octets t
    unfolding frame_reason first_holding
    reason_2 b = rw (← is, a, b)

    module _ (b : lent ≡ true) where
      pub reason_6 : (t.state ≡ F7 → ⊥) → 6 ≡ frame_reason images i octets t
      unfolding frame_reason first_holding
      reason_6 c = rw (← is, a, b, ne_eqb t.state F7 c)

      module _ (c : t.state ≡ F7) where
        pub reason_7 : is_body_lem ≡ false → 7 ≡ frame_reason images i octets t
        unfolding frame_reason first_holding
        reason_7 d = rw (← is, a, b, eq-eqb t.state F7 c, body_test octets, d)

        module _ (d : is_body_lem ≡ true) where
          pub reason_0 : t.access.held ≡ 0 → 0 ≡ frame_reason images i octets t
          unfolding frame_reason first_holding
          reason_0 e = rw (← is, a, b, eq-eqb t.state F7 c, body_test octets, d, eq-eqb t.access.held 0 e)

          pub reason_8 : (t.access.held ≡ 0 → ⊥) → 8 ≡ frame_reason images i octets t
          unfolding frame_reason first_holding
          reason_8 e = rw (← is, a, b, eq-eqb t.state F7 c, body_test octets, d, ne_eqb t.access.held 0 e)

-- ---- A frame given to terminal i.
module _ (images : List ℕ) (i : ℕ) (value : List ℕ) (t : Terminal) where
  -- no reason: what is lent, and the body, are as they have to be
  pub no_reason : frame_reason (length images) i (length value) t ≡ 0
      → (i < terminals) × (length images ≡ images_room) × (1 ≤ length value) × (length value ≤ longest_body)
  unfolding frame_reason is_body_length
  no_reason h =
      let n = none_holds _ refl h in
      let b = not-false (eqb (length images) images_room && ltb i terminals) (n 2) in
      let w = neither (eqb (length value) 0) (leb (length value) longest_body) (not-false (is_body_length (length value)) (n 7)) in (
        ltb-true i terminals (and_right (eqb (length images) images_room) (ltb i terminals) b),
        eqb-true (length images) images_room (and_left (eqb (length images) images_room) (ltb i terminals) b),
        above (length value) (eqb-false (length value) 0 w.0),
        leb-true (length value) longest_body w.1,
      )
    where
      above : (n : ℕ) → (n ≡ 0 → ⊥) → 1 ≤ n
      above n d = by_test (ltb 0 n) (λ t. ltb-true 0 n t) (λ t. absurd (d (omega (arith, ltb-false 0 n t))))

  abbrev why_not : ℕ
  why_not = frame_reason (length images) i (length value) t

  module _ (class : Class) (r : Result Unit Refusal) (e : r ≡ unless_refused why_not tt) where
    pub not_given : (refusal : Refusal) → r ≡ Err refusal → (Err refusal ≡ as_result (frame_given class images i value t)) × (images ≡ images_with t i value images)
    unfolding frame_given images_with as_result
    not_given refusal d = let q = turned_down why_not r e refusal d in (rw (q.0, q.0, q.1), rw q.0)

    pub accepted : (x : Unit) → r ≡ Ok x → eqb why_not 0 ≡ true
    accepted x d = passed why_not r e x d

    pub given : eqb why_not 0 ≡ true
        → (terminalCalls.hand_over_call class (length (image value)) t ≡ frame_given class images i value t) × (image_put i value images ≡ images_with t i value images)
    unfolding frame_given images_with
    given z = (rw z, rw z)
