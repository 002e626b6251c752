-- Laws of images and of the bits of octets (document 01, "D access (6.1)").
use mathlib.Core.Bool.{Bool, true, false, cond}
use mathlib.Core.Path.{◌≡◌, refl, ap}
use mathlib.Core.List.{List, [], ◌∷◌, ◌++◌, append_assoc}
use Prim.Native.Nat.{ℕ, zero, suc, ◌+◌, ◌-◌, ◌*◌, ◌/◌, ◌%◌, ◌^◌, ◌≤◌, ◌<◌}
use native.Mathlib.Omega.{arith}
use lib.Dec.{eqb, leb, ltb}
use lib.ListN.{length, get_or, take, drop, replicate, length-append, length-replicate, get_or-append}
use lib.Seq.{get_or_at}
use borrow.Author.Tests.{eqb-true, eqb-false, eq-eqb, ne_eqb, ltb-true, lt-ltb, leb-true, le-leb}
use Rattle.hdlc.specs.Bits.{low_bits, body_bits, number_low_first, octets}
use Rattle.hdlc.specs.Image.{flag, stuff, image, IsBody, longest_body, shortest_image, longest_image, all_octets, is_body}
use Rattle.hdlc.specs.Reading.{unstuff}
use Rattle.hdlc.specs.Ones.{ones_after, ending_ones}
use Rattle.test_lemmas.proofs.ByCases.{by_test, both}
use Rattle.hdlc.proofs.OnesLaws.{runs_append, runs_more, runs_take, Runs}

-- "low-order bit first": reading the first n bits of a number below 2 ^ n gives it back
pub number_low_bits : (n y : ℕ) → y < 2 ^ n → number_low_first (low_bits n y) ≡ y
unfolding number_low_first low_bits
number_low_bits zero y h = omega arith
number_low_bits (suc n) y h =
    by_test (eqb (y % 2) 1)
    (λ e. simp (e, number_low_bits n (y / 2) (omega arith)) (omega (arith, eqb-true (y % 2) 1 e)))
    (λ e. simp (e, number_low_bits n (y / 2) (omega arith)) (omega (arith, eqb-false (y % 2) 1 e)))

-- a body's octets are in its bits
pub octets_body_bits : (body : List ℕ) → ((i : ℕ) → get_or body i 0 < 256) → octets (length body) (body_bits body) ≡ body
unfolding octets body_bits low_bits
octets_body_bits [] h = refl
octets_body_bits (o ∷ os) h = λ i. number_low_bits 8 o (h 0) i ∷ octets_body_bits os (λ j. h (suc j)) i

pub length_body_bits : (body : List ℕ) → length (body_bits body) ≡ 8 * length body
unfolding body_bits low_bits
length_body_bits [] = refl
length_body_bits (o ∷ os) = omega (arith, length_body_bits os)

pub body_bits_append : (a b : List ℕ) → body_bits (a ++ b) ≡ body_bits a ++ body_bits b
unfolding body_bits low_bits
body_bits_append [] b = refl
body_bits_append (o ∷ os) b = rw (body_bits_append os b)

-- bits that are stuffed one part after the other: the second part goes on with the 1s that the first ended with
pub stuff_append : (k : ℕ) (xs ys : List Bool) → stuff k (xs ++ ys) ≡ stuff k xs ++ stuff (ones_after k (stuff k xs)) ys
unfolding stuff ones_after
stuff_append k [] ys = refl
stuff_append k (true ∷ xs) ys =
    by_test (eqb k 4) (λ e. simp (e, stuff_append 0 xs ys)) (λ e. simp (e, stuff_append (suc k) xs ys))
stuff_append k (false ∷ xs) ys = rw (stuff_append 0 xs ys)

-- .. which are at most four
pub stuff_ones : (k : ℕ) (bs : List Bool) → k ≤ 4 → ones_after k (stuff k bs) ≤ 4
unfolding stuff ones_after
stuff_ones k [] h = h
stuff_ones k (true ∷ bs) h =
    by_test (eqb k 4) (λ e. simp e (stuff_ones 0 bs (omega arith))) (λ e. simp e (stuff_ones (suc k) bs (omega (arith, eqb-false k 4 e))))
stuff_ones k (false ∷ bs) h = stuff_ones 0 bs (omega arith)

-- "inserted 0s removed" undoes "a 0 after every five 1s"
pub unstuff_stuff : (bs : List Bool) (k : ℕ) → k ≤ 4 → unstuff k (stuff k bs) ≡ bs
unfolding unstuff stuff
unstuff_stuff [] k h = refl
unstuff_stuff (false ∷ bs) k h = rw (ne_eqb k 5 (λ e. omega arith), unstuff_stuff bs 0 (omega arith))
unstuff_stuff (true ∷ bs) k h =
    by_test (eqb k 4)
    (λ e. rw (e, eq-eqb (suc k) 5 (ap suc (eqb-true k 4 e)), unstuff_stuff bs 0 (omega arith)))
    (λ e. rw (e, unstuff_stuff bs (suc k) (omega (arith, eqb-false k 4 e))))

-- no more than five 1s in a row after stuffing
pub stuff_runs : (bs : List Bool) (k : ℕ) → k ≤ 4 → Runs 5 k (stuff k bs)
unfolding stuff
stuff_runs [] k h = tt
stuff_runs (false ∷ bs) k h = stuff_runs bs 0 (omega arith)
stuff_runs (true ∷ bs) k h =
    by_test (eqb k 4) (λ e. rw e (omega arith, stuff_runs bs 0 (omega arith)))
    (λ e. rw e (omega arith, stuff_runs bs (suc k) (omega (arith, eqb-false k 4 e))))

-- an image's flag and body, and its last 0
cut_last : (body : List ℕ)
    → image body ≡ (flag ++ (stuff 0 (body_bits body) ++ (false ∷ true ∷ true ∷ true ∷ true ∷ true ∷ true ∷ []))) ++ (false ∷ [])
unfolding image
cut_last body = simp append_assoc

pub length_image : (body : List ℕ) → length (image body) ≡ length (stuff 0 (body_bits body)) + 16
unfolding image
length_image body = simp length-append (omega arith)

-- an image begins with the flag
pub image_flag : (body : List ℕ) (n : ℕ) → n < 8 → get_or (image body) n true ≡ get_or flag n true
unfolding image
image_flag body n h = get_or-append flag (stuff 0 (body_bits body) ++ flag) true n h

-- an image starts with 0
pub image_first : (body : List ℕ) → image body ≡ false ∷ drop 1 (image body)
unfolding image
image_first body = refl

pub image_starts : (body : List ℕ) → get_or (image body) 0 true ≡ false
unfolding image
image_starts body = refl

last_of : (bs : List Bool) (b d : Bool) → get_or (bs ++ (b ∷ [])) (length (bs ++ (b ∷ [])) - 1) d ≡ b
last_of bs b d = get_or_at bs b [] d (length (bs ++ (b ∷ [])) - 1) (simp length-append (omega arith))

-- an image ends with 0
pub image_ends : (body : List ℕ) → get_or (image body) (length (image body) - 1) true ≡ false
image_ends body =
    rw (cut_last body) (last_of (flag ++ (stuff 0 (body_bits body) ++ (false ∷ true ∷ true ∷ true ∷ true ∷ true ∷ true ∷ []))) false true)

-- no seven 1s in a row in an image
pub image_runs : (body : List ℕ) → Runs 6 0 (image body)
unfolding image
image_runs body =
    let r : Runs 6 0 (stuff 0 (body_bits body) ++ flag) =
    runs_append (stuff 0 (body_bits body)) flag 6 0 (runs_more (stuff 0 (body_bits body)) 5 6 0 (omega arith) (stuff_runs (body_bits body) 0 (omega arith))) (omega arith)
    in (omega arith, (omega arith, (omega arith, (omega arith, (omega arith, (omega arith, r))))))

-- the same, for what has been sent of it: at most six 1s end it
pub image_ending_ones : (body : List ℕ) (s : ℕ) → ending_ones (take s (image body)) ≤ 6
unfolding ending_ones
image_ending_ones body s = runs_take (image body) 6 0 s (omega arith) (image_runs body)

-- five 1s for each inserted 0
pub length_stuff_most : (bs : List Bool) (k : ℕ) → k ≤ 4 → 5 * length (stuff k bs) ≤ 6 * length bs + k
unfolding stuff
length_stuff_most [] k h = omega arith
length_stuff_most (false ∷ bs) k h = omega (arith, length_stuff_most bs 0 (omega arith))
length_stuff_most (true ∷ bs) k h =
    by_test (eqb k 4) (λ e. rw e (omega (arith, eqb-true k 4 e, length_stuff_most bs 0 (omega arith))))
    (λ e. rw e (omega (arith, length_stuff_most bs (suc k) (omega (arith, eqb-false k 4 e)))))

pub length_stuff_least : (bs : List Bool) (k : ℕ) → length bs ≤ length (stuff k bs)
unfolding stuff
length_stuff_least [] k = omega arith
length_stuff_least (false ∷ bs) k = omega (arith, length_stuff_least bs 0)
length_stuff_least (true ∷ bs) k =
    by_test (eqb k 4) (λ e. rw e (omega (arith, length_stuff_least bs 0))) (λ e. rw e (omega (arith, length_stuff_least bs (suc k))))

-- 1s alone have as many inserted 0s as there may be
pub length_stuff_ones : (n k : ℕ) → k ≤ 4 → 6 * n + k ≤ 5 * length (stuff k (replicate n true)) + 4
unfolding stuff
length_stuff_ones zero k h = omega arith
length_stuff_ones (suc n) k h =
    by_test (eqb k 4) (λ e. rw e (omega (arith, eqb-true k 4 e, length_stuff_ones n 0 (omega arith))))
    (λ e. rw e (omega (arith, length_stuff_ones n (suc k) (omega (arith, eqb-false k 4 e)))))

-- an image has 24 to 2,569 bits
pub image_least : (body : List ℕ) → IsBody body → shortest_image ≤ length (image body)
image_least body b = omega (arith, length_image body, length_stuff_least (body_bits body) 0, length_body_bits body)

pub image_most : (body : List ℕ) → IsBody body → length (image body) ≤ longest_image
image_most body b = omega (arith, length_image body, length_stuff_most (body_bits body) 0 (omega arith), length_body_bits body)

-- 255 is eight 1s
pub body_bits_ones : (n : ℕ) → body_bits (replicate n 255) ≡ replicate (8 * n) true
unfolding body_bits low_bits
body_bits_ones zero = refl
body_bits_ones (suc n) =
    let e : 8 * suc n ≡ suc (suc (suc (suc (suc (suc (suc (suc (8 * n)))))))) = omega arith in
    rw (e, body_bits_ones n)

octet_ones : (n i : ℕ) → get_or (replicate n 255) i 0 < 256
octet_ones zero i = omega arith
octet_ones (suc n) zero = omega arith
octet_ones (suc n) (suc i) = octet_ones n i

pub body_ones : (n : ℕ) → 1 ≤ n → n ≤ longest_body → IsBody (replicate n 255)
body_ones n h k =
    record { some_octet = rw (length-replicate {A = ℕ} n 255) h; at_most = rw (length-replicate {A = ℕ} n 255) k; octet = octet_ones n }

longest : (n : ℕ) → n ≡ longest_body → length (image (replicate n 255)) ≡ longest_image
longest n e =
    let most : length (image (replicate n 255)) ≤ longest_image = image_most (replicate n 255) (body_ones n (omega arith) (omega arith)) in
    let least : 6 * (8 * n) + 0 ≤ 5 * length (stuff 0 (body_bits (replicate n 255))) + 4 =
    rw (body_bits_ones n) (length_stuff_ones (8 * n) 0 (omega arith))
    in omega (arith, length_image (replicate n 255))

-- "the longest has 2,569 bits": 266 octets 255
pub image_longest : length (image (replicate longest_body 255)) ≡ longest_image
image_longest = longest longest_body refl

-- ---- the test of a body, both ways

all_octets_lem : (os : List ℕ) → all_octets os ≡ true → (i : ℕ) → get_or os i 0 < 256
unfolding all_octets
all_octets_lem [] h i = omega arith
all_octets_lem (o ∷ os) h zero = ltb-true o 256 (both (ltb o 256) (all_octets os) h).0
all_octets_lem (o ∷ os) h (suc i) = all_octets_lem os (both (ltb o 256) (all_octets os) h).1 i

octets_all : (os : List ℕ) → ((i : ℕ) → get_or os i 0 < 256) → all_octets os ≡ true
unfolding all_octets
octets_all [] h = refl
octets_all (o ∷ os) h = rw (lt-ltb o 256 (h 0)) (octets_all os (λ i. h (suc i)))

pub is_body_lem : (body : List ℕ) → is_body body ≡ true → IsBody body
unfolding is_body
is_body_lem body h =
    let some = both (leb 1 (length body)) (cond (leb (length body) longest_body) (all_octets body) false) h in
    let most = both (leb (length body) longest_body) (all_octets body) some.1 in
    record {
      some_octet = leb-true 1 (length body) some.0;
      at_most = leb-true (length body) longest_body most.0;
      octet = all_octets_lem body most.1;
    }

pub body_is : (body : List ℕ) → IsBody body → is_body body ≡ true
unfolding is_body
body_is body b = rw (le-leb 1 (length body) b.some_octet, le-leb (length body) longest_body b.at_most) (octets_all body b.octet)
