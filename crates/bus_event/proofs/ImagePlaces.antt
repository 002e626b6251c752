-- The image of a body put among the eight lent: its bits stand in the room of its terminal, and the other rooms keep theirs.
use mathlib.Core.Path.{◌≡◌, refl, sym, ap, ◌∙◌}
use mathlib.Core.Bool.{Bool, true, false}
use mathlib.Core.List.{List, [], ◌∷◌, ◌++◌}
use Prim.Native.Nat.{ℕ, zero, suc, ◌+◌, ◌-◌, ◌*◌, ◌/◌, ◌%◌, ◌≤◌, ◌<◌}
use native.Mathlib.Omega.{arith}
use lib.Dec.{ltb}
use lib.ListN.{length, get_or, take, drop, length-append, length-take, length-drop, get_or-append}
use lib.Seq.{get_or-append-add, get_or-take, get_or-drop}
use borrow.Author.Tests.{lt-ltb, ltb-true, ltb-false, le-leb, ne_eqb}
use Rattle.test_lemmas.proofs.ByCases.{by_test}
use Rattle.hdlc.specs.Bits.{octets}
use Rattle.hdlc.specs.Image.{image, longest_body, IsBody}
use Rattle.hdlc.proofs.ImageLaws.{image_most}
use Rattle.hdlc.proofs.OctetLaws.{length_octets}
use Rattle.packing.specs.Packing.{octets_for, image_room, filled_octets, onto, packed_bit, is_body_length, imaged_octets}
use Rattle.packing.proofs.PackerLaws.{bit_image}
use Rattle.bus_rules.specs.Bus.{terminals}
use Rattle.exchange.specs.Part.{image_bits, image_of, image_bit}
use Rattle.exchange.proofs.Images.{image_at}
use Rattle.bus_event.specs.Event.{images_room, image_put}

-- bits of octets in the middle of others
packed_mid : (pre mid post : List ℕ) (at n : ℕ) → at ≡ 8 * length pre + n → n < 8 * length mid → packed_bit (pre ++ (mid ++ post)) at ≡ packed_bit mid n
unfolding packed_bit
packed_mid pre mid post at n e l =
    let q : at / 8 ≡ length pre + n / 8 = omega arith in
    let r : at % 8 ≡ n % 8 = omega arith in
    let s : n / 8 < length mid = omega arith in
    let long : length pre + n / 8 < length (pre ++ (mid ++ post)) = rw (length-append pre (mid ++ post), length-append mid post) (omega arith) in
    rw (q, r, lt-ltb _ _ long, lt-ltb _ _ s, get_or-append-add pre (mid ++ post) (n / 8) 0, get_or-append mid post 0 (n / 8) s)

-- a bit is that of other octets as many, where its octet is the same
packed_same : (xs ys : List ℕ) (at : ℕ) → length xs ≡ length ys → get_or xs (at / 8) 0 ≡ get_or ys (at / 8) 0 → packed_bit xs at ≡ packed_bit ys at
unfolding packed_bit
packed_same xs ys at l e = rw (l, e)

default_same : (bs : List Bool) (n : ℕ) → n < length bs → get_or bs n false ≡ get_or bs n true
default_same [] n h = absurd (omega arith)
default_same (b ∷ bs) zero h = refl
default_same (b ∷ bs) (suc n) h = default_same bs n (omega arith)

-- the image call keeps the length of the room
onto_length : (os buf : List ℕ) → length os ≤ length buf → length (onto os buf) ≡ length buf
unfolding onto
onto_length os buf h = rw (length-append os (drop (length os) buf), length-drop (length os) buf) (omega arith)

imaged_length : (body buf : List ℕ) → IsBody body → image_room ≤ length buf → length (imaged_octets body buf) ≡ length buf
unfolding imaged_octets filled_octets
imaged_length body buf b h =
    let most = image_most body b in
    let few : length (octets (octets_for (length (image body))) (image body)) ≤ length buf = rw (length_octets (octets_for (length (image body))) (image body)) (omega arith) in
    by_test (ltb (length buf) image_room)
    (λ t. rw t)
    (λ t. rw t (by_test (is_body_length (length body)) (λ u. rw u (onto_length _ buf few)) (λ u. rw u)))

-- the room of terminal i
pub room_length : (i : ℕ) (images : List ℕ) → i < terminals → length images ≡ images_room → length (take image_room (drop (i * image_room) images)) ≡ image_room
room_length i images l e = rw (length-take image_room (drop (i * image_room) images), length-drop (i * image_room) images) (omega arith)

-- a body has a good length
body_length : (body : List ℕ) → IsBody body → is_body_length (length body) ≡ true
unfolding is_body_length
body_length body b = rw (ne_eqb (length body) 0 (omega arith), le-leb (length body) longest_body b.at_most)

module _ (i : ℕ) (body images : List ℕ) (b : IsBody body) (l : i < terminals) (e : length images ≡ images_room) where
  abbrev room : List ℕ
  room = take image_room (drop (i * image_room) images)

  abbrev before : List ℕ
  before = take (i * image_room) images

  room_long : length room ≡ image_room
  room_long = room_length i images l e

  before_length : length before ≡ i * image_room
  before_length = rw (length-take (i * image_room) images) (omega arith)

  middle_length : length (imaged_octets body room) ≡ image_room
  middle_length = imaged_length body room b (omega (arith, room_long)) ∙ room_long

  pub put_length : length (image_put i body images) ≡ images_room
  unfolding image_put
  put_length =
      rw (
        length-append before (imaged_octets body room ++ drop image_room (drop (i * image_room) images)),
        length-append (imaged_octets body room) (drop image_room (drop (i * image_room) images)),
        before_length,
        middle_length,
        length-drop image_room (drop (i * image_room) images),
        length-drop (i * image_room) images,
      )
      (omega arith)

  -- in the room of the terminal
  pub put_there : (n : ℕ) → n < length (image body) → get_or (image_of (image_put i body images) i) n true ≡ get_or (image body) n true
  unfolding image_bit image_put
  put_there n h =
      let most = image_most body b in
      let in-room : n < 8 * length (imaged_octets body room) = omega (arith, middle_length) in
      let at : i * image_bits + n ≡ 8 * length before + n = omega (arith, before_length) in
      let bits : ltb n image_bits ≡ true = lt-ltb n image_bits (omega arith) in
      image_at (image_put i body images) i n
      ∙ rw (lt-ltb i terminals l, bits)
      (packed_mid before (imaged_octets body room) (drop image_room (drop (i * image_room) images)) (i * image_bits + n) n at in-room
      ∙ (bit_image body room n (omega (arith, room_long)) (body_length body b) h ∙ default_same (image body) n h))

  -- octets of the other rooms
  put_low : (q : ℕ) → q < i * image_room → get_or (image_put i body images) q 0 ≡ get_or images q 0
  unfolding image_put
  put_low q h = get_or-append before _ 0 q (omega (arith, before_length)) ∙ get_or-take (i * image_room) images q 0 h

  put_high : (q : ℕ) → i * image_room + image_room ≤ q → get_or (image_put i body images) q 0 ≡ get_or images q 0
  unfolding image_put
  put_high q h =
      let n : ℕ = q - (i * image_room + image_room) in
      let at : q ≡ length before + (length (imaged_octets body room) + n) = omega (arith, before_length, middle_length) in
      let back : i * image_room + (image_room + n) ≡ q = omega arith in
      ap (λ (x : ℕ). get_or (image_put i body images) x 0) at
      ∙ (get_or-append-add before (imaged_octets body room ++ drop image_room (drop (i * image_room) images)) (length (imaged_octets body room) + n) 0
      ∙ (get_or-append-add (imaged_octets body room) (drop image_room (drop (i * image_room) images)) n 0
      ∙ (get_or-drop image_room (drop (i * image_room) images) n 0
      ∙ (get_or-drop (i * image_room) images (image_room + n) 0 ∙ ap (λ (x : ℕ). get_or images x 0) back))))

  pub put_elsewhere : (j : ℕ) → (j ≡ i → ⊥) → (n : ℕ) → get_or (image_of (image_put i body images) j) n true ≡ get_or (image_of images j) n true
  unfolding image_bit
  put_elsewhere j d n =
      image_at (image_put i body images) j n
      ∙ (by_test (ltb j terminals)
      (λ t. by_test (ltb n image_bits)
      (λ u.
      let q : (j * image_bits + n) / 8 ≡ j * image_room + n / 8 = omega arith in
      let r : n / 8 < image_room = omega (arith, ltb-true n image_bits u) in
      rw (t, u)
      (packed_same (image_put i body images) images (j * image_bits + n) (put_length ∙ sym e)
      (rw q
      (by_test (ltb j i)
      (λ v. put_low (j * image_room + n / 8) (omega (arith, ltb-true j i v)))
      (λ v. put_high (j * image_room + n / 8) (above j i (ltb-false j i v) d (n / 8)))))))
      (λ u. rw (t, u)))
      (λ t. rw t)
      ∙ sym (image_at images j n))
    where
      above : (j i : ℕ) → i ≤ j → (j ≡ i → ⊥) → (m : ℕ) → i * image_room + image_room ≤ j * image_room + m
      above j i h d m = by_test (ltb i j) (λ t. omega (arith, ltb-true i j t)) (λ t. absurd (d (omega (arith, ltb-false i j t))))
