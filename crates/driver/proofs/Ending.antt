-- How many turns there are at most: each reads or writes an octet, or is paid for by one read before, or is the last.
use mathlib.Core.Bool.{true, false, cond}
use mathlib.Core.List.{List, [], ◌∷◌, ◌++◌, append-nil}
use mathlib.Core.Path.{◌≡◌, refl, sym, ap, ◌∙◌}
use Prim.Native.Nat.{ℕ, ◌+◌, ◌≤◌}
use native.Mathlib.Omega.{arith}
use lib.Dec.{eqb}
use lib.ListN.{length, take, length-append}
use lib.Seq.{length-take-le}
use borrow.Author.Tests.{eqb-true, eqb-false, ne_eqb}
use Rattle.test_lemmas.proofs.ByCases.{by_test, clash}
use Rattle.book_reader.specs.Parts.{joined}
use Rattle.period_text.specs.PeriodText.{period_room}
use Rattle.report.specs.Ahead.{TEXT, ROOM, OVER}
use Rattle.driver.specs.Turn.{Turned, Due, Chain, FewTurns, RunEnds, first}
use Rattle.driver.specs.Turn.Chain.{none, more}
use Rattle.driver.specs.declared.turn.Held.{Held}
use Rattle.driver.proofs.AllTurns.{joined_end}

-- A turn after a stop for room may need text and write nothing. The octet read in the turn that needed text before pays for it.
unfoldable owed : Held → ℕ
owed h = cond (eqb h.why ROOM) (cond h.whole 0 1) 0

-- the last turn is one for itself
unfoldable last : Held → ℕ
last h = cond (eqb h.why OVER) 1 0

owed_open : (h : Held) → h.why ≡ ROOM → h.whole ≡ false → owed h ≡ 1
unfolding owed
owed_open h y w = rw (y, w)

owed_whole : (h : Held) → h.whole ≡ true → owed h ≡ 0
unfolding owed
owed_whole h w = by_test (eqb h.why ROOM) (λ y. rw (y, w)) (λ n. rw n)

owed_other : (h : Held) → eqb h.why ROOM ≡ false → owed h ≡ 0
unfolding owed
owed_other h n = rw n

last_over : (h : Held) → h.why ≡ OVER → last h ≡ 1
unfolding last
last_over h y = rw y

last_other : (h : Held) → (h.why ≡ OVER → ⊥) → last h ≡ 0
unfolding last
last_other h n = rw (ne_eqb h.why OVER n)

last_most : (h : Held) → last h ≤ 1
unfolding last
last_most h = by_test (eqb h.why OVER) (λ y. rw y (omega arith)) (λ n. rw n (omega arith))

-- ---- A call stops for one of three reasons.
abbrev Listed : Held → Type 0
Listed h = (h.why ≡ 0 → ⊥) × (h.why ≤ OVER)

is_room : (h : Held) → Listed h → (h.why ≡ OVER → ⊥) → (h.why ≡ TEXT → ⊥) → h.why ≡ ROOM
is_room h k on other = omega (arith, k.0, k.1, on, other)

-- ---- One turn.
module _ {most : ℕ} {h r : Held} {text room images octets letters text' room' images' octets' letters' : List ℕ}
    (t : Turned most h text room images octets letters r text' room' images' octets' letters') where
  listed_then : Listed r
  listed_then = (t.stopped.goes_not_on, t.stopped.listed)

  module _ (k : Listed h) (d : Due h) (big : period_room ≤ length room) where
    some_written : r.why ≡ ROOM → 1 ≤ t.wrote
    some_written y = omega (arith, t.stopped.went.for_room y, big)

    -- more may come: an octet was read, or one is owed
    paid : r.whole ≡ false → 1 ≤ owed h + length t.part
    paid w =
        by_test (eqb h.why TEXT) (λ y. omega (arith, eqb-false (length t.part) 0 (sym (t.asked (eqb-true _ _ y)) ∙ w)))
        (λ n. let other = eqb-false h.why TEXT n in
        omega (arith, owed_open h (is_room h k d.1 other) (sym (t.unasked other).1 ∙ w)))

    counts : 1 + owed r ≤ owed h + length t.part + t.wrote + last r
    counts = by_test r.whole whole_then open_then
      where
        whole_then : r.whole ≡ true → 1 + owed r ≤ owed h + length t.part + t.wrote + last r
        whole_then w =
            by_test (eqb r.why OVER) (λ y. omega (arith, owed_whole r w, last_over r (eqb-true _ _ y)))
            (λ n. let other : r.why ≡ TEXT → ⊥ = λ y. clash r.whole w (t.stopped.went.for_text y).0 in
            omega (arith, owed_whole r w, some_written (is_room r listed_then (eqb-false r.why OVER n) other)))

        open_then : r.whole ≡ false → 1 + owed r ≤ owed h + length t.part + t.wrote + last r
        open_then w =
            by_test (eqb r.why ROOM)
            (λ y. omega (arith, paid w, owed_open r (eqb-true _ _ y) w, some_written (eqb-true _ _ y)))
            (λ n. omega (arith, paid w, owed_other r n))

-- ---- All turns.
at_first : 0 + owed first ≤ length (joined []) + 0 + last first
unfolding owed last joined
at_first = omega arith

one_part : (parts : List (List ℕ)) (part : List ℕ) → length (joined (parts ++ (part ∷ []))) ≡ length (joined parts) + length part
one_part parts part =
    ap length (sym (append-nil (joined (parts ++ (part ∷ [])))) ∙ joined_end parts part [])
    ∙ (length-append (joined parts) (part ++ []) ∙ rw (append-nil part))

module _ {most : ℕ} {text₀ room₀ images₀ octets₀ letters₀ : List ℕ} where
  listed : {h : Held} {text room images octets letters : List ℕ} {parts : List (List ℕ)} {out : List ℕ}
      → Chain most first text₀ room₀ images₀ octets₀ letters₀ h text room images octets letters parts out → Listed h
  listed none = (λ y. absurd (omega (arith, y)), omega arith)
  listed (more c due t) = listed_then t

  room_long : {h : Held} {text room images octets letters : List ℕ} {parts : List (List ℕ)} {out : List ℕ}
      → Chain most first text₀ room₀ images₀ octets₀ letters₀ h text room images octets letters parts out → length room ≡ length room₀
  room_long none = refl
  room_long (more c due t) = t.stopped.went.long ∙ room_long c

  counted : {h : Held} {text room images octets letters : List ℕ} {parts : List (List ℕ)} {out : List ℕ}
      → Chain most first text₀ room₀ images₀ octets₀ letters₀ h text room images octets letters parts out → period_room ≤ length room₀
      → length parts + owed h ≤ length (joined parts) + length out + last h
  counted none big = at_first
  counted (more {h = h} {room' = room'} {parts = parts} {out = out} c due t) big =
      let g = t.stopped.went in
      omega (
        arith,
        counted c big,
        counts t (listed c) due (omega (arith, big, room_long c)),
        last_other h due.1,
        one_part parts t.part,
        length-append parts (t.part ∷ []),
        length-append out (take t.wrote room'),
        length-take-le t.wrote room' (omega (arith, g.fits, g.long)),
      )

pub few_turns : FewTurns
few_turns most text room images octets letters h text' room' images' octets' letters' parts out big c = omega (arith, counted c big, last_most h)

pub run_ends : RunEnds
run_ends most room room' r big few due =
    let d = r.drives in
    omega (arith, few, d.ended due, few_turns _ _ _ _ _ _ _ _ _ _ _ _ d.parts d.out big d.chain)
