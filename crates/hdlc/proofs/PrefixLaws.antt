-- No image begins another one: what the reader hears tells them apart.
use mathlib.Core.Bool.{Bool, true, false, true≢false}
use mathlib.Core.Path.{◌≡◌, refl, sym, ap, ◌∙◌}
use mathlib.Core.List.{List, [], ◌++◌, append-nil, append_cancel_left}
use Prim.Native.Nat.{ℕ, zero, suc, ◌-◌, ◌<◌}
use native.Mathlib.Omega.{arith}
use lib.Dec.{leb}
use lib.ListN.{length, get_or, take, get_or-eq_default}
use lib.Seq.{get_or-take, take-append_seam, take-length, ext_get_or, length-take-le}
use borrow.Author.Tests.{leb-true, leb-false}
use Rattle.hdlc.specs.Image.{image, IsBody}
use Rattle.hdlc.specs.Reading.{Said, nothing, heard}
use Rattle.test_lemmas.proofs.ByCases.{by_test}
use Rattle.hdlc.proofs.ImageLaws.{length_image, image_ends}
use Rattle.hdlc.proofs.ReadingLaws.{answers_take, answers_image, opened_fresh, quiet_opened, at_last, at_last_at}

-- a heard body is the one that was put in, at whatever place it is heard
heard_of_lem : (n s : ℕ) (b c : List ℕ) → get_or (at_last n (heard c)) s nothing ≡ heard b → b ≡ c
heard_of_lem zero zero b c e = cc
heard_of_lem zero (suc s) b c e = cc
heard_of_lem (suc n) zero b c e = cc
heard_of_lem (suc n) (suc s) b c e = heard_of_lem n s b c e

-- Images are prefix-free: an image that agrees with another one over its own length is that one
pub prefix_free : (b c : List ℕ) → IsBody b → IsBody c → take (length (image b)) (image c) ≡ image b → b ≡ c
prefix_free b c hb hc e =
    let n : ℕ = length (image b) in
    let said : take n (at_last (length (image c) - 1) (heard c)) ≡ at_last (n - 1) (heard b) =
    rw (← answers_image c opened_fresh hc quiet_opened, ← answers_image b opened_fresh hb quiet_opened, ← answers_take (image c) opened_fresh n, e)
    in
    heard_of_lem (length (image c) - 1) (n - 1) b c
    (sym (get_or-take n (at_last (length (image c) - 1) (heard c)) (n - 1) nothing (omega (arith, length_image b)))
    ∙ ap (λ (ws : List Said). get_or ws (n - 1) nothing) said
    ∙ at_last_at (n - 1) (n - 1) (heard b) refl)

-- the same, bit by bit, with 1 for what is past an image's end
pub prefix_free_bits : (b c : List ℕ) → IsBody b → IsBody c
    → ((i : ℕ) → i < length (image b) → get_or (image c) i true ≡ get_or (image b) i true)
    → b ≡ c
prefix_free_bits b c hb hc e =
    by_test (leb (length (image b)) (length (image c)))
    (λ t.
    let l : length (take (length (image b)) (image c)) ≡ length (image b) = length-take-le (length (image b)) (image c) (leb-true _ _ t) in
    prefix_free b c hb hc
    (ext_get_or true (take (length (image b)) (image c)) (image b) l
    (λ i h. get_or-take (length (image b)) (image c) i true (omega arith) ∙ e i (omega arith))))
    (λ t.
    let far : get_or (image c) (length (image b) - 1) true ≡ true =
    get_or-eq_default (image c) true (omega (arith, leb-false (length (image b)) (length (image c)) t))
    in
    let near : get_or (image c) (length (image b) - 1) true ≡ false =
    e (length (image b) - 1) (omega (arith, length_image b)) ∙ image_ends b
    in absurd (true≢false (sym far ∙ near)))

-- one image at the front of another is the whole of it
pub prefix_whole : (b c : List ℕ) (t : List Bool) → IsBody b → IsBody c → image c ≡ image b ++ t → (b ≡ c) × (t ≡ [])
prefix_whole b c t hb hc e =
    let equal : b ≡ c = prefix_free b c hb hc (rw e (take-append_seam (image b) t)) in
    (equal, append_cancel_left (image b) t [] (sym e ∙ rw (← equal) (sym (append-nil (image b)))))

-- different bodies have different images
pub image_injective : (b c : List ℕ) → IsBody b → IsBody c → image b ≡ image c → b ≡ c
image_injective b c hb hc e = prefix_free b c hb hc (rw (← e) (take-length (image b)))
