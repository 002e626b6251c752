-- Laws of bits that come one by one and are kept in octets: of the packer and of the reader.
use mathlib.Core.Bool.{Bool, true, false, cond}
use mathlib.Core.List.{List, [], ◌∷◌, ◌++◌}
use mathlib.Core.Path.{◌≡◌, refl, ap, sym, ◌∙◌}
use Prim.Native.Nat.{ℕ, suc, ◌+◌, ◌*◌, ◌/◌, ◌%◌, ◌≤◌, ◌<◌}
use native.Mathlib.Numerals.{add-one}
use native.Mathlib.Omega.{arith}
use lib.Dec.{ltb, leb, eqb}
use lib.ListN.{length, take, drop, get_or, set, replicate, length-append, length-drop}
use lib.Seq.{drop-drop, drop-cons, drop-append-le, take-append-le, take_all, get_or-set_same, get_or-set_other}
use borrow.Author.Tests.{lt-ltb, ltb-true, ltb-false, leb-true, leb-false, eqb-true, eq-eqb}
use Rattle.test_lemmas.proofs.ByCases.{by_test, both}
use Rattle.hdlc.specs.Bits.{number_low_first}
use Rattle.hdlc.proofs.OctetLaws.{number_snoc}
use Rattle.packing.specs.Octets.{shifted, last_eight, WholeOctets, BitsKept}

-- whether the bit after n others is the eighth of one of the first m octets
unfoldable pub eighth : ℕ → ℕ → Bool
eighth m n = cond (eqb (n % 8) 7) (ltb n (8 * m)) false

-- one bit more: the oldest of eight falls out
pub shift_in : (x : Bool) (t : List Bool) (b : Bool) → length t ≡ 7 → number_low_first (t ++ (b ∷ [])) ≡ shifted (number_low_first (x ∷ t)) b
unfolding number_low_first shifted
shift_in true t true h = rw (number_snoc t true, h) (omega arith)
shift_in true t false h = rw (number_snoc t false) (omega arith)
shift_in false t true h = rw (number_snoc t true, h) (omega arith)
shift_in false t false h = rw (number_snoc t false) (omega arith)

-- an octet that was whole stays
whole_prefix : (bs xs : List Bool) (i : ℕ) → 8 * i + 8 ≤ length bs → take 8 (drop (8 * i) (bs ++ xs)) ≡ take 8 (drop (8 * i) bs)
whole_prefix bs xs i h =
    ap (λ (l : List Bool). take 8 l) (drop-append-le (8 * i) bs xs (omega arith))
    ∙ take-append-le 8 (drop (8 * i) bs) xs (rw length-drop (omega arith))

module _ (bs : List Bool) (b : Bool) where
  length_more : length (bs ++ (b ∷ [])) ≡ suc (length bs)
  length_more = rw (length-append, add-one)

  last_more : number_low_first (last_eight (bs ++ (b ∷ []))) ≡ shifted (number_low_first (last_eight bs)) b
  unfolding last_eight
  last_more =
      let X : List Bool = replicate 8 false ++ bs in
      let e : drop (suc (length bs)) (X ++ (b ∷ [])) ≡ drop (suc (length bs)) X ++ (b ∷ []) = drop-append-le (suc (length bs)) X (b ∷ []) (omega arith) in
      let f : drop (length bs) X ≡ get_or X (length bs) false ∷ drop (suc (length bs)) X = drop-cons X (length bs) false (omega arith) in
      let l : length (drop (suc (length bs)) X) ≡ 7 = rw length-drop (omega arith) in
      rw (length_more, e, f) (shift_in (get_or X (length bs) false) (drop (suc (length bs)) X) b l)

  -- one that the bit makes whole is the last eight bits
  whole_new : (i : ℕ) → length bs ≡ 8 * i + 7
      → number_low_first (take 8 (drop (8 * i) (bs ++ (b ∷ [])))) ≡ number_low_first (last_eight (bs ++ (b ∷ [])))
  unfolding last_eight
  whole_new i h =
      let d : List Bool = bs ++ (b ∷ []) in
      let l : length d ≡ 8 + 8 * i = length_more ∙ omega arith in
      let e : drop (8 * i) d ≡ drop (8 + 8 * i) (replicate 8 false ++ d) = drop-drop (8 * i) 8 (replicate 8 false ++ d) in
      rw (take_all 8 (drop (8 * i) d) (rw (length-drop, l) (omega arith)), l) (ap number_low_first e)

pub kept_none : (m : ℕ) (buf : List ℕ) → BitsKept m [] 0 buf
unfolding last_eight number_low_first
kept_none m buf = record { octet_is = refl; whole = λ i l w. absurd (omega arith) }

module _ (m : ℕ) (bs : List Bool) (b : Bool) {octet : ℕ} {buf : List ℕ} (h : BitsKept m bs octet buf) where
  octet_more : shifted octet b ≡ number_low_first (last_eight (bs ++ (b ∷ [])))
  octet_more = rw h.octet_is (sym (last_more bs b))

  old_octet : (i : ℕ) → i < m → 8 * i + 8 ≤ length bs → get_or buf i 0 ≡ number_low_first (take 8 (drop (8 * i) (bs ++ (b ∷ []))))
  old_octet i l w = rw (whole_prefix bs (b ∷ []) i w) (h.whole i l w)

  -- a bit more, and the octet that it makes whole is stored
  pub kept_stored : m ≤ length buf → eighth m (length bs) ≡ true
      → BitsKept m (bs ++ (b ∷ [])) (shifted octet b) (set buf (length bs / 8) (shifted octet b))
  unfolding eighth
  kept_stored long e = record { octet_is = octet_more; whole = put_whole }
    where
      put_whole : WholeOctets m (set buf (length bs / 8) (shifted octet b)) (bs ++ (b ∷ []))
      put_whole i i< w =
          let q : ℕ = length bs / 8 in
          let l : length bs < 8 * m = ltb-true (length bs) (8 * m) (both (eqb (length bs % 8) 7) (ltb (length bs) (8 * m)) e).1 in
          let r : length bs % 8 ≡ 7 = eqb-true (length bs % 8) 7 (both (eqb (length bs % 8) 7) (ltb (length bs) (8 * m)) e).0 in
          let w' : 8 * i + 8 ≤ suc (length bs) = rw (length_more bs b) at w in
          by_test (ltb i q)
          (λ x. let y : i < q = ltb-true i q x in
          get_or-set_other buf q i (shifted octet b) 0 (λ z. omega arith) ∙ old_octet i i< (omega arith))
          (λ x. let y : i ≡ q = omega (arith, ltb-false i q x) in
          ap (λ (k : ℕ). get_or (set buf q (shifted octet b)) k 0) y
          ∙ (get_or-set_same buf q (shifted octet b) 0 (omega arith) ∙ (octet_more ∙ sym (whole_new bs b i (omega arith)))))

  -- a bit more, and no octet that could be stored is whole
  pub kept_on_lem : eighth m (length bs) ≡ false → BitsKept m (bs ++ (b ∷ [])) (shifted octet b) buf
  unfolding eighth
  kept_on_lem e = record { octet_is = octet_more; whole = on_whole }
    where
      on_whole : WholeOctets m buf (bs ++ (b ∷ []))
      on_whole i i< w =
          let w' : 8 * i + 8 ≤ suc (length bs) = rw (length_more bs b) at w in
          by_test (leb (8 * i + 8) (length bs))
          (λ x. old_octet i i< (leb-true (8 * i + 8) (length bs) x))
          (λ x. let y : length bs ≡ 8 * i + 7 = omega (arith, leb-false (8 * i + 8) (length bs) x) in
          let f : eighth m (length bs) ≡ true = simp (eq-eqb (length bs % 8) 7 (omega arith), lt-ltb (length bs) (8 * m) (omega arith)) in
          cc)

-- what the buffer has of bits it has of the first of them
pub whole_before : (m : ℕ) (bs xs : List Bool) (buf : List ℕ) → WholeOctets m buf (bs ++ xs) → WholeOctets m buf bs
whole_before m bs xs buf whole i l w =
    whole i l (rw (length-append bs xs) (omega arith)) ∙ ap number_low_first (whole_prefix bs xs i w)
