-- Laws of the packer: bits that are put one by one are the filled octets, part after part.
use mathlib.Core.Bool.{Bool, true, false}
use mathlib.Core.List.{List, [], ◌∷◌, ◌++◌, append-nil}
use mathlib.Core.Path.{◌≡◌, refl, ap, sym, ◌∙◌}
use Prim.Native.Nat.{ℕ, suc, ◌+◌, ◌-◌, ◌*◌, ◌/◌, ◌%◌, ◌≤◌, ◌<◌}
use native.Mathlib.Numerals.{add-one}
use native.Mathlib.Omega.{arith}
use lib.Dec.{ltb, eqb}
use lib.ListN.{length, take, drop, get_or, replicate, length-append, length-drop, length-set, length-replicate, get_or-append}
use lib.Seq.{append_snoc, get_or-append-add, get_or-drop, get_or-take, get_or-set_other, ext_get_or, take-suc, length-take-le}
use borrow.Author.Tests.{lt-ltb, le-ltb, ltb-true, ltb-false, eqb-true}
use Rattle.test_lemmas.proofs.ByCases.{by_test}
use Rattle.hdlc.specs.Bits.{low_bits, body_bits, number_low_first, octets, bit_of}
use Rattle.hdlc.specs.Ones.{ones_after}
use Rattle.hdlc.specs.Image.{stuff, image}
use Rattle.hdlc.proofs.OctetLaws.{low_bit, number_bit, window_zeros, length_octets, get_d_octets}
use Rattle.hdlc.proofs.ImageLaws.{length_body_bits, body_bits_append, stuff_append}
use Rattle.packing.specs.Octets.{shifted, BitsKept}
use Rattle.packing.proofs.KeptLaws.{eighth, kept_none, kept_stored, kept_on_lem}
use Rattle.packing.specs.Packing.{image_room, octets_for, filled_octets, onto, packed_bit, is_body_length, imaged_octets}
use Rattle.packing.specs.Packer.{fresh_packer, put_bit, store_octet, put_bit_octets, put_bits, put_bits_octets}
use Rattle.packing.specs.declared.image.Packer.{Packer}

-- one part of the bits after the other
pub put_append : (xs ys : List Bool) (p : Packer) → put_bits (xs ++ ys) p ≡ put_bits ys (put_bits xs p)
unfolding put_bits
put_append [] ys p = refl
put_append (x ∷ xs) ys p = put_append xs ys (put_bit x p)

pub octets_append : (xs ys : List Bool) (p : Packer) (buf : List ℕ)
    → put_bits_octets (xs ++ ys) p buf ≡ put_bits_octets ys (put_bits xs p) (put_bits_octets xs p buf)
unfolding put_bits put_bits_octets
octets_append [] ys p buf = refl
octets_append (x ∷ xs) ys p buf = octets_append xs ys (put_bit x p) (put_bit_octets x p buf)

-- the bits of octets, one by one
pub body_bit : (os : List ℕ) (i : ℕ) → i < 8 * length os → get_or (body_bits os) i false ≡ packed_bit os i
unfolding body_bits packed_bit low_bits
body_bit [] i h = absurd (omega arith)
body_bit (o ∷ os) i h = by_test (ltb i 8) (λ t. first (ltb-true i 8 t)) (λ t. let l : 8 ≤ i = ltb-false i 8 t in later (i - 8) (omega arith) (body_bit os (i - 8) (omega arith)))
  where
    first : i < 8 → get_or (low_bits 8 o ++ body_bits os) i false ≡ packed_bit (o ∷ os) i
    first l =
        let d : i / 8 ≡ 0 = omega arith in
        let m : i % 8 ≡ i = omega arith in
        get_or-append (low_bits 8 o) (body_bits os) false i l
        ∙ (low_bit 8 o i l ∙ simp (d, m, lt-ltb 0 (length (o ∷ os)) (omega arith)))

    later : (j : ℕ) → i ≡ 8 + j → get_or (body_bits os) j false ≡ packed_bit os j → get_or (low_bits 8 o ++ body_bits os) i false ≡ packed_bit (o ∷ os) i
    later j e q =
        let d : i / 8 ≡ suc (j / 8) = omega arith in
        let m : i % 8 ≡ j % 8 = omega arith in
        ap (λ (k : ℕ). get_or (low_bits 8 o ++ body_bits os) k false) e
        ∙ (get_or-append-add (low_bits 8 o) (body_bits os) j false
        ∙ (q
        ∙ simp (lt-ltb (j / 8) (length os) (omega arith), d, m, lt-ltb (suc (j / 8)) (length (o ∷ os)) (omega arith))))

-- a bit more of a list
module _ (bits : List Bool) (i : ℕ) (h : i < length bits) (p : Packer) where
  pub put_step : put_bits (take (i + 1) bits) p ≡ put_bit (get_or bits i false) (put_bits (take i bits) p)
  unfolding put_bits
  put_step = rw (add-one i, take-suc bits i false h, put_append (take i bits) (get_or bits i false ∷ []) p)

  pub octets_step : (buf : List ℕ)
      → put_bits_octets (take (i + 1) bits) p buf ≡ put_bit_octets (get_or bits i false) (put_bits (take i bits) p) (put_bits_octets (take i bits) p buf)
  unfolding put_bits_octets
  octets_step buf = rw (add-one i, take-suc bits i false h, octets_append (take i bits) (get_or bits i false ∷ []) p buf)

-- the packer's place, and the 1s put last
pub put_at : (bs : List Bool) (p : Packer) → (put_bits bs p).at ≡ p.at + length bs
unfolding put_bits put_bit
put_at [] p = omega arith
put_at (b ∷ bs) p = put_at bs (put_bit b p) ∙ omega arith

pub put_ones : (bs : List Bool) (p : Packer) → (put_bits bs p).ones ≡ ones_after p.ones bs
unfolding put_bits put_bit ones_after
put_ones [] p = refl
put_ones (true ∷ bs) p = put_ones bs (put_bit true p) ∙ ap (λ (n : ℕ). ones_after n bs) (add-one p.ones)
put_ones (false ∷ bs) p = put_ones bs (put_bit false p)

-- Stuffed bits, one part after the other, from any packer: the second part goes on where the first left it.
module _ (xs ys : List Bool) (p q : Packer) (e : q ≡ put_bits (stuff p.ones xs) p) where
  pub stuff_parts : stuff p.ones (xs ++ ys) ≡ stuff p.ones xs ++ stuff q.ones ys
  stuff_parts = rw (e, put_ones (stuff p.ones xs) p) (stuff_append p.ones xs ys)

  pub put_parts : put_bits (stuff p.ones (xs ++ ys)) p ≡ put_bits (stuff q.ones ys) q
  put_parts = ap (λ (l : List Bool). put_bits l p) stuff_parts ∙ (put_append (stuff p.ones xs) (stuff q.ones ys) p ∙ rw (← e))

  pub octets_parts : (buf b₁ : List ℕ) → b₁ ≡ put_bits_octets (stuff p.ones xs) p buf
      → put_bits_octets (stuff p.ones (xs ++ ys)) p buf ≡ put_bits_octets (stuff q.ones ys) q b₁
  octets_parts buf b₁ i =
      ap (λ (l : List Bool). put_bits_octets l p buf) stuff_parts
      ∙ (octets_append (stuff p.ones xs) (stuff q.ones ys) p buf ∙ rw (← e, ← i))

-- A body put in two parts, the second after the first, is the body of both: of the packer and of the buffer.
module _ (a b : List ℕ) (p q : Packer) (e : q ≡ put_bits (stuff p.ones (body_bits a)) p) where
  pub put_bodies : put_bits (stuff q.ones (body_bits b)) q ≡ put_bits (stuff p.ones (body_bits (a ++ b))) p
  put_bodies = rw (body_bits_append a b) (sym (put_parts (body_bits a) (body_bits b) p q e))

  pub octets_bodies : (buf b₁ : List ℕ) → b₁ ≡ put_bits_octets (stuff p.ones (body_bits a)) p buf
      → put_bits_octets (stuff q.ones (body_bits b)) q b₁ ≡ put_bits_octets (stuff p.ones (body_bits (a ++ b))) p buf
  octets_bodies buf b₁ i = rw (body_bits_append a b) (sym (octets_parts (body_bits a) (body_bits b) p q e buf b₁ i))

-- the buffer as bits are put
pub length_put_bits : (bs : List Bool) (p : Packer) (buf : List ℕ) → length (put_bits_octets bs p buf) ≡ length buf
unfolding put_bits_octets put_bit_octets store_octet
length_put_bits [] p buf = refl
length_put_bits (b ∷ bs) p buf =
    length_put_bits bs (put_bit b p) (put_bit_octets b p buf)
    ∙ by_test (eqb (p.at % 8) 7) (λ e. simp (e, length-set)) (λ e. simp e)

-- octets that are not whole yet are as they were
rest_bit : (b : Bool) (p : Packer) (buf : List ℕ) (i : ℕ) → p.at + 1 < 8 * i + 8 → get_or (put_bit_octets b p buf) i 0 ≡ get_or buf i 0
unfolding put_bit_octets store_octet
rest_bit b p buf i h =
    by_test (eqb (p.at % 8) 7)
    (λ e. let m : p.at % 8 ≡ 7 = eqb-true (p.at % 8) 7 e in
    simp e (get_or-set_other buf (p.at / 8) i (shifted p.octet b) 0 (λ z. omega arith)))
    (λ e. simp e)

pub rest_bits : (bs : List Bool) (p : Packer) (buf : List ℕ) (i : ℕ) → p.at + length bs < 8 * i + 8 → get_or (put_bits_octets bs p buf) i 0 ≡ get_or buf i 0
unfolding put_bits_octets put_bit
rest_bits [] p buf i h = refl
rest_bits (b ∷ bs) p buf i h =
    rest_bits bs (put_bit b p) (put_bit_octets b p buf) i (omega arith) ∙ rest_bit b p buf i (omega arith)

-- whole octets are in their places
kept_bit : (m : ℕ) (b : Bool) (bs : List Bool) (p : Packer) (buf : List ℕ) → BitsKept m bs p.octet buf → p.at ≡ length bs → length bs < 8 * m
    → m ≤ length buf → BitsKept m (bs ++ (b ∷ [])) (shifted p.octet b) (put_bit_octets b p buf)
unfolding put_bit_octets store_octet eighth
kept_bit m b bs p buf h a l long =
    by_test (eqb (length bs % 8) 7)
    (λ e. simp (a, e) (kept_stored m bs b h long (simp (e, lt-ltb (length bs) (8 * m) l))))
    (λ e. simp (a, e) (kept_on_lem m bs b h (simp e)))

pub kept_bits : (m : ℕ) (xs bs : List Bool) (p : Packer) (buf : List ℕ) → BitsKept m bs p.octet buf → p.at ≡ length bs
    → length bs + length xs ≤ 8 * m → m ≤ length buf → BitsKept m (bs ++ xs) (put_bits xs p).octet (put_bits_octets xs p buf)
unfolding put_bits_octets put_bits put_bit
kept_bits m [] bs p buf h a l long = rw append-nil h
kept_bits m (x ∷ xs) bs p buf h a l long =
    let n : length (bs ++ (x ∷ [])) ≡ length bs + 1 = length-append bs (x ∷ []) in
    rw (← append_snoc bs x xs)
    (kept_bits m xs (bs ++ (x ∷ [])) (put_bit x p) (put_bit_octets x p buf) (kept_bit m x bs p buf h a (omega arith) long)
    (omega arith) (omega arith) (rw (length_put_bits (x ∷ []) p buf) long))

-- bits and 0s up to a whole octet, put from the start, are the bits' octets
pub filled_bits : (bs : List Bool) (k : ℕ) (buf : List ℕ) → length bs + k ≡ 8 * octets_for (length bs) → octets_for (length bs) ≤ length buf
    → put_bits_octets (bs ++ replicate k false) fresh_packer buf ≡ onto (filled_octets bs) buf
unfolding onto filled_octets
filled_bits bs k buf e long =
    let m : ℕ = octets_for (length bs) in
    let zs : List Bool = replicate k false in
    let n : length (bs ++ zs) ≡ 8 * m = length-append bs zs ∙ (rw (length-replicate k false) e) in
    let h : BitsKept m (bs ++ zs) (put_bits (bs ++ zs) fresh_packer).octet (put_bits_octets (bs ++ zs) fresh_packer buf) =
    kept_bits m (bs ++ zs) [] fresh_packer buf (kept_none m buf) refl (omega arith) long in
    let o : length (octets m bs) ≡ m = length_octets m bs in
    ext_get_or 0 (put_bits_octets (bs ++ zs) fresh_packer buf) (octets m bs ++ drop (length (octets m bs)) buf)
    (length_put_bits (bs ++ zs) fresh_packer buf ∙ sym (length-append (octets m bs) (drop (length (octets m bs)) buf) ∙ rw (length-drop, o) (omega arith)))
    (λ i l. by_test (ltb i m)
    (λ t. let y : i < m = ltb-true i m t in
    h.whole i y (omega arith)
    ∙ (window_zeros (8 * i) 8 bs k
    ∙ sym (get_or-append (octets m bs) (drop (length (octets m bs)) buf) 0 i (omega arith) ∙ get_d_octets m bs i y)))
    (λ t. let y : m ≤ i = ltb-false i m t in
    rest_bits (bs ++ zs) fresh_packer buf i (omega arith)
    ∙ sym (past m (octets m bs) o buf i y)))
  where
    past : (m : ℕ) (os : List ℕ) → length os ≡ m → (buf : List ℕ) (i : ℕ) → m ≤ i → get_or (os ++ drop (length os) buf) i 0 ≡ get_or buf i 0
    past m os o buf i l =
        let j : i ≡ length os + (i - length os) = omega arith in
        ap (λ (x : ℕ). get_or (os ++ drop (length os) buf) x 0) j
        ∙ (get_or-append-add os (drop (length os) buf) (i - length os) 0
        ∙ (get_or-drop (length os) buf (i - length os) 0 ∙ ap (λ (x : ℕ). get_or buf x 0) (sym j)))

-- a bit of the octets is the bit that was put
pub bit_filled : (bs : List Bool) (buf : List ℕ) (i : ℕ) → i < length bs → packed_bit (onto (filled_octets bs) buf) i ≡ get_or bs i false
unfolding packed_bit onto filled_octets
bit_filled bs buf i h =
    let m : ℕ = octets_for (length bs) in
    let q : ℕ = i / 8 in
    let os : List ℕ = octets m bs in
    let o : length os ≡ m = length_octets m bs in
    let l : q < m = omega arith in
    let t : q < length (os ++ drop (length os) buf) = rw length-append (omega arith) in
    let g : get_or (os ++ drop (length os) buf) q 0 ≡ number_low_first (take 8 (drop (8 * q) bs)) =
    get_or-append os (drop (length os) buf) 0 q (omega arith) ∙ get_d_octets m bs q l in
    simp (lt-ltb q (length (os ++ drop (length os) buf)) t)
    (ap (λ (x : ℕ). bit_of x (i % 8)) g
    ∙ (number_bit (take 8 (drop (8 * q) bs)) (i % 8)
    ∙ (get_or-take 8 (drop (8 * q) bs) (i % 8) false (omega arith)
    ∙ (get_or-drop (8 * q) bs (i % 8) false ∙ ap (λ (x : ℕ). get_or bs x false) (omega arith)))))

-- a bit of what the image call leaves in the buffer is the image's
pub bit_image : (body buf : List ℕ) (i : ℕ) → image_room ≤ length buf → is_body_length (length body) ≡ true → i < length (image body)
    → packed_bit (imaged_octets body buf) i ≡ get_or (image body) i false
unfolding imaged_octets
bit_image body buf i room fits h = simp (le-ltb (length buf) image_room room, fits) (bit_filled (image body) buf i h)

octets_long : (bs : List Bool) (buf : List ℕ) → octets_for (length bs) ≤ length (onto (filled_octets bs) buf)
unfolding onto filled_octets
octets_long bs buf = rw length-append (omega (arith, length_octets (octets_for (length bs)) bs))

-- the first bits of the octets are the bits that were put
pub taken_bits : (bs : List Bool) (buf : List ℕ) → take (length bs) (body_bits (onto (filled_octets bs) buf)) ≡ bs
taken_bits bs buf =
    let os : List ℕ = onto (filled_octets bs) buf in
    let m : octets_for (length bs) ≤ length os = octets_long bs buf in
    let l : length bs ≤ length (body_bits os) = omega (arith, length_body_bits os) in
    ext_get_or false (take (length bs) (body_bits os)) bs (length-take-le (length bs) (body_bits os) l)
    (λ i t. let t' : i < length bs = omega (arith, length-take-le (length bs) (body_bits os) l) in
    get_or-take (length bs) (body_bits os) i false t' ∙ (body_bit os i (omega arith) ∙ bit_filled bs buf i t'))
