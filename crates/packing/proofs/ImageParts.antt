-- What the functions of the packer need, over plain variables, and the parts of an image.
use mathlib.Core.Bool.{Bool, true, false, cond}
use mathlib.Core.List.{List, [], ◌∷◌, ◌++◌}
use mathlib.Core.Path.{◌≡◌, refl, ap, sym, ◌∙◌}
use Prim.Native.Nat.{ℕ, zero, suc, ◌+◌, ◌-◌, ◌*◌, ◌%◌, ◌≤◌, ◌<◌}
use native.Mathlib.Numerals.{add-one}
use native.Mathlib.Omega.{arith}
use lib.Dec.{eqb}
use lib.ListN.{length, take, drop, get_or, set, replicate, length-append, length-set, take-append-drop}
use lib.Seq.{length-take-le, take-suc, take-add}
use borrow.Author.Tests.{ne_eqb, eq-eqb}
use Rattle.hdlc.specs.Bits.{low_bits, body_bits}
use Rattle.hdlc.specs.Ones.{ones_after}
use Rattle.hdlc.specs.Image.{flag, stuff, image, longest_body, longest_image}
use Rattle.hdlc.proofs.ImageLaws.{length_image, length_body_bits, stuff_append, stuff_ones, length_stuff_most, length_stuff_least}
use Rattle.packing.specs.Packing.{image_room, octets_for, filled_octets, onto, packed_bit}
use Rattle.packing.specs.Packer.{fresh_packer, put_bit, store_octet, put_bit_octets, put_bits, put_bits_octets}
use Rattle.packing.specs.Octets.{shifted}
use Rattle.packing.proofs.PackerLaws.{put_append, octets_append, put_parts, octets_parts, stuff_parts, body_bit, put_step, octets_step, put_at, put_ones, length_put_bits, filled_bits}
use Rattle.packing.specs.declared.image.Packer.{Packer}

-- the buffer keeps its length
pub room_kept : (bs : List Bool) (p : Packer) (buf b₁ : List ℕ) → b₁ ≡ put_bits_octets bs p buf → image_room ≤ length buf
    → image_room ≤ length b₁
room_kept bs p buf b₁ e l = rw (e, length_put_bits bs p buf) l

-- where the packer stands at five 1s after a bit, the bit has a 0 after it
pub two_bits : (b : Bool) (p q : Packer) → q ≡ put_bit b p → q.ones ≡ 5 → length (stuff p.ones (b ∷ [])) ≡ 2
unfolding put_bit stuff
two_bits true p q e five = simp (eq-eqb p.ones 4 (omega (arith, ap (λ (x : Packer). x.ones) e)))
two_bits false p q e five = absurd (omega (arith, ap (λ (x : Packer). x.ones) e))

module _ (b : Bool) (p q : Packer) (buf b₁ : List ℕ) (e : q ≡ put_bit b p) (i : b₁ ≡ put_bit_octets b p buf) where
  -- the fifth 1 has a 0 after it
  pub put_two : (r : Packer) (b₂ : List ℕ) → q.ones ≡ 5 → r ≡ put_bit false q → b₂ ≡ put_bit_octets false q b₁
      → (r ≡ put_bits (stuff p.ones (b ∷ [])) p) × (b₂ ≡ put_bits_octets (stuff p.ones (b ∷ [])) p buf)
  unfolding put_bits put_bits_octets put_bit stuff
  put_two r b₂ five f j = two b (ap (λ (x : Packer). x.ones) e) e i
    where
      two : (b : Bool) → q.ones ≡ cond b (p.ones + 1) 0 → q ≡ put_bit b p → b₁ ≡ put_bit_octets b p buf
          → (r ≡ put_bits (stuff p.ones (b ∷ [])) p) × (b₂ ≡ put_bits_octets (stuff p.ones (b ∷ [])) p buf)
      two true o e i = let four : eqb p.ones 4 ≡ true = eq-eqb p.ones 4 (omega arith) in simp four (f ∙ simp e, j ∙ simp (e, i))
      two false o e i = absurd (omega arith)

  pub put_one : (q.ones ≡ 5 → ⊥) → (q ≡ put_bits (stuff p.ones (b ∷ [])) p) × (b₁ ≡ put_bits_octets (stuff p.ones (b ∷ [])) p buf)
  unfolding put_bits put_bits_octets put_bit stuff
  put_one five = one b (ap (λ (x : Packer). x.ones) e) e i
    where
      one : (b : Bool) → q.ones ≡ cond b (p.ones + 1) 0 → q ≡ put_bit b p → b₁ ≡ put_bit_octets b p buf
          → (q ≡ put_bits (stuff p.ones (b ∷ [])) p) × (b₁ ≡ put_bits_octets (stuff p.ones (b ∷ [])) p buf)
      one true o e i = let four : eqb p.ones 4 ≡ false = ne_eqb p.ones 4 (λ z. five (omega arith)) in simp four (e, i)
      one false o e i = (e, i)

put_most : (bs : List Bool) (p : Packer) → (put_bits bs p).ones ≤ p.ones + length bs
unfolding put_bits put_bit
put_most [] p = omega arith
put_most (true ∷ bs) p = omega (arith, put_most bs (put_bit true p))
put_most (false ∷ bs) p = omega (arith, put_most bs (put_bit false p))

module _ (os : List ℕ) (i : ℕ) (p q : Packer) where
  pub plain_room : i ≤ 8 * length os → q ≡ put_bits (take i (body_bits os)) p → (q.at ≡ p.at + i) × (q.ones ≤ p.ones + i)
  plain_room l e =
      let n : length (take i (body_bits os)) ≡ i = length-take-le i (body_bits os) (omega (arith, length_body_bits os)) in
      (rw e (put_at (take i (body_bits os)) p ∙ omega arith), rw e (omega (arith, put_most (take i (body_bits os)) p)))

  pub plain_again : i < 8 * length os → (r : Packer) (buf b₁ b₂ : List ℕ) (b : Bool) → b ≡ packed_bit os i → q ≡ put_bits (take i (body_bits os)) p
      → b₁ ≡ put_bits_octets (take i (body_bits os)) p buf → r ≡ put_bit b q → b₂ ≡ put_bit_octets b q b₁
      → (r ≡ put_bits (take (i + 1) (body_bits os)) p) × (b₂ ≡ put_bits_octets (take (i + 1) (body_bits os)) p buf)
  plain_again l r buf b₁ b₂ b e f g h k =
      let n : i < length (body_bits os) = omega (arith, length_body_bits os) in
      let d : b ≡ get_or (body_bits os) i false = e ∙ sym (body_bit os i l) in
      (h ∙ (simp (d, f) (sym (put_step (body_bits os) i n p))), k ∙ (simp (d, f, g) (sym (octets_step (body_bits os) i n p buf))))

-- octets that have room as stuffed bits have room as they are
pub octets_fit : (os : List ℕ) (k : ℕ) → 8 * length os ≤ length (stuff k (body_bits os))
octets_fit os k = omega (arith, length_stuff_least (body_bits os) k, length_body_bits os)

-- the body's bits: i of them are put, and the next one has room and is put
module _ (os : List ℕ) (i : ℕ) (p q : Packer) (more : i < 8 * length os) (few : p.ones < 5)
    (e : q ≡ put_bits (stuff p.ones (take i (body_bits os))) p) (b : Bool) (f : b ≡ packed_bit os i) where
  one_more : take (i + 1) (body_bits os) ≡ take i (body_bits os) ++ (b ∷ [])
  one_more =
      let n : i < length (body_bits os) = omega (arith, length_body_bits os) in
      let d : b ≡ get_or (body_bits os) i false = f ∙ sym (body_bit os i more) in
      rw (add-one i, d) (take-suc (body_bits os) i false n)

  pub body_room : (q.at + length (stuff q.ones (b ∷ [])) ≤ p.at + length (stuff p.ones (body_bits os))) × (q.ones < 5)
  body_room =
      let k : ℕ = p.ones in
      let xs : List Bool = take i (body_bits os) in
      let ys : List Bool = take (i + 1) (body_bits os) in
      let zs : List Bool = drop (i + 1) (body_bits os) in
      let whole : stuff k (body_bits os) ≡ stuff k ys ++ stuff (ones_after k (stuff k ys)) zs =
      ap (stuff k) (sym (take-append-drop (i + 1) (body_bits os))) ∙ stuff_append k ys zs in
      let part : stuff k ys ≡ stuff k xs ++ stuff q.ones (b ∷ []) = rw one_more (stuff_parts xs (b ∷ []) p q e) in
      let at : q.at ≡ p.at + length (stuff k xs) = rw e (put_at (stuff k xs) p) in
      let n : length (stuff k ys) ≡ length (stuff k xs) + length (stuff q.ones (b ∷ [])) = rw part (length-append (stuff k xs) (stuff q.ones (b ∷ []))) in
      let m : length (stuff k (body_bits os)) ≡ length (stuff k ys) + length (stuff (ones_after k (stuff k ys)) zs) = rw whole (length-append (stuff k ys) (stuff (ones_after k (stuff k ys)) zs)) in
      let ones : q.ones ≡ ones_after k (stuff k xs) = rw e (put_ones (stuff k xs) p) in
      (omega arith, omega (arith, stuff_ones k xs (omega arith)))

  pub body_again : (r : Packer) (buf b₁ b₂ : List ℕ) → b₁ ≡ put_bits_octets (stuff p.ones (take i (body_bits os))) p buf
      → r ≡ put_bits (stuff q.ones (b ∷ [])) q → b₂ ≡ put_bits_octets (stuff q.ones (b ∷ [])) q b₁
      → (r ≡ put_bits (stuff p.ones (take (i + 1) (body_bits os))) p) × (b₂ ≡ put_bits_octets (stuff p.ones (take (i + 1) (body_bits os))) p buf)
  body_again r buf b₁ b₂ g h k =
      let xs : List Bool = take i (body_bits os) in
      (h ∙ rw one_more (sym (put_parts xs (b ∷ []) p q e)), k ∙ rw one_more (sym (octets_parts xs (b ∷ []) p q e buf b₁ g)))

take_replicate : (k n : ℕ) → k ≤ n → take k (replicate n false) ≡ replicate k false
take_replicate zero n l = refl
take_replicate (suc k) zero l = absurd (omega arith)
take_replicate (suc k) (suc n) l = rw (take_replicate k n (omega arith))

-- the packer after the opening flag, which is the first octet
abbrev flag_packer : Packer
flag_packer = record { at = 8; ones = 0; octet = 126 }

flag_packer_lem : put_bits flag fresh_packer ≡ flag_packer
unfolding put_bits put_bit shifted
flag_packer_lem = refl

flag_octets : (buf : List ℕ) → put_bits_octets flag fresh_packer buf ≡ set buf 0 126
unfolding put_bits_octets put_bit put_bit_octets store_octet shifted
flag_octets buf = refl

-- the parts of an image: flag, body, flag, and 0s up to a whole octet
module _ (body buf : List ℕ) (most : length body ≤ longest_body) (long : image_room ≤ length buf) where
  body_fits : 8 + (length (stuff 0 (body_bits body)) + 8) ≤ longest_image
  body_fits = omega (arith, length_stuff_most (body_bits body) 0 (omega arith), length_body_bits body)

  pub after_flag : (8 + length (stuff 0 (body_bits body)) ≤ 8 * image_room) × (0 < 5) × (image_room ≤ length (set buf 0 126))
  after_flag = (omega (arith, body_fits), omega arith, rw length-set long)

  module _ (p₂ : Packer) (b₂ : List ℕ) (e₂ : p₂ ≡ put_bits (stuff 0 (body_bits body)) flag_packer)
      (i₂ : b₂ ≡ put_bits_octets (stuff 0 (body_bits body)) flag_packer (set buf 0 126)) where
    at_end : p₂.at + 8 ≡ length (image body)
    at_end = rw e₂ (omega (arith, put_at (stuff 0 (body_bits body)) flag_packer, length_image body))

    pub after_body : (p₂.at + 8 ≤ longest_image) × (p₂.ones < 5) × (image_room ≤ length b₂)
    after_body =
        let S : List Bool = stuff 0 (body_bits body) in (
          omega (arith, body_fits, at_end, length_image body),
          rw e₂ (omega (arith, put_ones S flag_packer, stuff_ones 0 (body_bits body) (omega arith))),
          room_kept S flag_packer (set buf 0 126) b₂ i₂ after_flag.2,
        )

    closed_buffer : put_bits_octets flag p₂ b₂ ≡ put_bits_octets (image body) fresh_packer buf
    unfolding image
    closed_buffer =
        rw (
          octets_append flag (stuff 0 (body_bits body) ++ flag) fresh_packer buf,
          octets_append (stuff 0 (body_bits body)) flag (put_bits flag fresh_packer) (put_bits_octets flag fresh_packer buf),
          flag_packer_lem,
          flag_octets buf,
          ← e₂,
          ← i₂,
        )

    closed_packer : put_bits flag p₂ ≡ put_bits (image body) fresh_packer
    unfolding image
    closed_packer =
        rw (
          put_append flag (stuff 0 (body_bits body) ++ flag) fresh_packer,
          put_append (stuff 0 (body_bits body)) flag (put_bits flag fresh_packer),
          flag_packer_lem,
          ← e₂,
        )

    module _ (end : ℕ) (f : end ≡ p₂.at + 8) where
      closing_bits : take (8 + (8 - end % 8) % 8) (body_bits (126 ∷ 0 ∷ [])) ≡ flag ++ replicate ((8 - end % 8) % 8) false
      unfolding body_bits low_bits
      closing_bits = take-add 8 ((8 - end % 8) % 8) (body_bits (126 ∷ 0 ∷ [])) ∙ ap (λ (l : List Bool). flag ++ l) (take_replicate ((8 - end % 8) % 8) 8 (omega arith))

      pub image_bits_lem : end ≡ length (image body)
      image_bits_lem = f ∙ at_end

      pub image_octets : (b₃ : List ℕ) → b₃ ≡ put_bits_octets (take (8 + (8 - end % 8) % 8) (body_bits (126 ∷ 0 ∷ []))) p₂ b₂
          → b₃ ≡ onto (filled_octets (image body)) buf
      image_octets b₃ e₃ =
          let k : ℕ = (8 - end % 8) % 8 in
          let n : length (image body) + k ≡ 8 * octets_for (length (image body)) = omega (arith, image_bits_lem) in
          let whole : put_bits_octets (flag ++ replicate k false) p₂ b₂ ≡ put_bits_octets (image body ++ replicate k false) fresh_packer buf =
          rw (octets_append flag (replicate k false) p₂ b₂, octets_append (image body) (replicate k false) fresh_packer buf, closed_packer, closed_buffer) in
          e₃
          ∙ (ap (λ (l : List Bool). put_bits_octets l p₂ b₂) closing_bits
          ∙ (whole ∙ filled_bits (image body) k buf n (omega (arith, at_end, after_body.0))))
