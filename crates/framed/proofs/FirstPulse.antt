-- The first pulse of a frame: plus at position 1, and after position 2 minus.
use mathlib.Core.Path.{◌≡◌, refl, sym, ◌∙◌}
use mathlib.Core.Bool.{Bool, true, false, not, cond, ◌&&◌, true≢false}
use mathlib.Core.List.{List, [], ◌∷◌, ◌++◌}
use Prim.Native.Nat.{ℕ, zero, suc, ◌<◌}
use lib.Dec.{eqb}
use lib.ListN.{take, drop}
use Rattle.symbols.specs.Symbols.{minus}
use Rattle.test_lemmas.proofs.ByCases.{by_test, at_each_below}
use Rattle.frame.specs.Bits.{octet_bits, zeros, balance, balanced}
use Rattle.frame.specs.Polarity.{opposite, alternate, symbols}
use Rattle.frame.specs.Down.{down_body, down_bits, down_line}
use Rattle.frame.specs.Up.{up_bits, up_line}
use Rattle.frame.specs.declared.fields.DownFields.{DownFields}
use Rattle.frame.specs.declared.fields.UpFields.{UpFields}
use Rattle.framed.specs.Framed.{first_pulse, framed_in, has_pulse}
use Rattle.framed.specs.Laws.{open_up}

-- Every frame begins with a pulse.
pub pulse_symbols : (bits : List Bool) → has_pulse (symbols bits) ≡ true
unfolding symbols has_pulse first_pulse
pulse_symbols bits = refl

-- The first pulse after position 2 is minus.
abbrev pub all_ones : List Bool → Bool
all_ones [] = true
all_ones (b ∷ bs) = b && all_ones bs

some_zero : (xs ys : List Bool) → all_ones ys ≡ false → all_ones (xs ++ ys) ≡ false
some_zero [] ys h = h
some_zero (true ∷ xs) ys h = some_zero xs ys h
some_zero (false ∷ xs) ys h = refl

take_alternate : (n s : ℕ) (bs : List Bool) → take n (alternate s bs) ≡ alternate s (take n bs)
unfolding alternate
take_alternate zero s bs = refl
take_alternate (suc n) s [] = refl
take_alternate (suc n) s (b ∷ bs) = rw (take_alternate n (cond b s (opposite s)) bs)

first_minus : (bs : List Bool) → all_ones bs ≡ false → first_pulse (alternate minus bs) ≡ minus
unfolding alternate first_pulse
first_minus [] h = cc
first_minus (true ∷ bs) h = first_minus bs h
first_minus (false ∷ bs) h = refl

pub framed_symbols : (n : ℕ) (bits xs ys : List Bool) → take n (drop 2 bits) ≡ xs ++ ys → all_ones ys ≡ false → framed_in n (symbols bits) ≡ true
unfolding symbols framed_in
framed_symbols n bits xs ys e h =
    rw (take_alternate n minus (drop 2 bits), first_minus (take n (drop 2 bits)) (rw e (some_zero xs ys h)))

-- FA and N are not both 1.
fa_n : (fa : Bool) → all_ones (fa ∷ not fa ∷ []) ≡ false
fa_n true = refl
fa_n false = refl

pub down_framed : (f : DownFields) → framed_in 13 (down_line f) ≡ true
unfolding down_line down_bits down_body octet_bits
down_framed f = framed_symbols 13 (down_bits f) (octet_bits f.b1first ++ (f.e.first ∷ f.d.first ∷ f.a ∷ [])) (f.fa ∷ not f.fa ∷ []) refl (fa_n f.fa)

-- Of an upward frame the bits at 3 to 14 are B1 with its L, D with its L, and FA: a frame is unframed where all are 1.
all_ones_append : (xs ys : List Bool) → all_ones (xs ++ ys) ≡ (all_ones xs && all_ones ys)
all_ones_append [] ys = refl
all_ones_append (true ∷ xs) ys = all_ones_append xs ys
all_ones_append (false ∷ xs) ys = refl

ones_no_zeros : (bs : List Bool) → all_ones bs ≡ true → zeros bs ≡ 0
unfolding zeros
ones_no_zeros [] h = refl
ones_no_zeros (true ∷ bs) h = rw (ones_no_zeros bs h)
ones_no_zeros (false ∷ bs) h = absurd (true≢false (sym h))

-- With its L a group is all 1 where it is without.
all_ones_balanced : (bs : List Bool) → all_ones (balanced bs) ≡ all_ones bs
all_ones_balanced bs =
    all_ones_append bs (balance bs ∷ [])
    ∙ by_test (all_ones bs) (λ t. rw (t, ones_no_zeros bs t)) (λ t. rw t)

alike : (a b : Bool) → cond a b (not b) ≡ true → a ≡ b
alike true b h = sym h
alike false true h = absurd (true≢false (sym h))
alike false false h = refl

octet_ones : (x : ℕ) → x < 256 → all_ones (octet_bits x) ≡ eqb x 255
unfolding octet_bits
octet_ones x h =
    alike (all_ones (octet_bits x)) (eqb x 255) (at_each_below (λ k. cond (all_ones (octet_bits k)) (eqb k 255) (not (eqb k 255))) 256 x refl h)

all_or_minus : (bs : List Bool) → eqb (first_pulse (alternate minus bs)) minus ≡ not (all_ones bs)
unfolding alternate first_pulse
all_or_minus [] = refl
all_or_minus (true ∷ bs) = all_or_minus bs
all_or_minus (false ∷ bs) = refl

pub framed_unless : (n : ℕ) (bits : List Bool) → framed_in n (symbols bits) ≡ not (all_ones (take n (drop 2 bits)))
unfolding symbols framed_in
framed_unless n bits = rw (take_alternate n minus (drop 2 bits)) (all_or_minus (take n (drop 2 bits)))

up_first : (f : UpFields) → take 12 (drop 2 (up_bits f)) ≡ balanced (octet_bits f.b1first) ++ (balanced (f.d.first ∷ []) ++ (f.fa ∷ []))
unfolding up_bits octet_bits zeros
up_first f = refl

-- a bit alone is all of its group
alone : (b : Bool) → (b && true) ≡ b
alone true = refl
alone false = refl

pub up_framed : (f : UpFields) → f.b1first < 256 → framed_in 12 (up_line f) ≡ not (open_up f)
unfolding up_line
up_framed f h =
    framed_unless 12 (up_bits f)
    ∙ rw (
      up_first f,
      all_ones_append (balanced (octet_bits f.b1first)),
      all_ones_balanced (octet_bits f.b1first),
      octet_ones f.b1first h,
      all_ones_append (balanced (f.d.first ∷ [])),
      all_ones_balanced (f.d.first ∷ []),
      alone f.d.first,
      alone f.fa,
    )
