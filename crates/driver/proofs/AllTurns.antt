-- What all turns write out is the report of the book that they read.
use mathlib.Core.Bool.{true, false}
use mathlib.Core.List.{List, [], ◌∷◌, ◌++◌, append-nil, append_assoc}
use mathlib.Core.Path.{◌≡◌, refl, sym, ap, ◌∙◌}
use Prim.Native.Nat.{ℕ}
use native.Mathlib.Omega.{arith}
use lib.ListN.{take}
use Rattle.test_lemmas.proofs.ByCases.{clash}
use Rattle.book_reader.specs.Book.{answers}
use Rattle.book_reader.specs.Parts.{to_come, joined}
use Rattle.report.specs.Report.{calls_of_answers, report, book_calls}
use Rattle.report.specs.Ahead.{text_ahead, answers_ahead, TEXT, OVER}
use Rattle.report.proofs.AheadLaws.{no_text}
use Rattle.report.proofs.Books.{books_octets}
use Rattle.report.proofs.ToldRight.{told_right}
use Rattle.book_go_on.specs.Progress.{fresh_progress}
use Rattle.driver.specs.Turn.{Turned, Chain, TurnsRight, RunRight, first, held_state}
use Rattle.driver.specs.Turn.Chain.{none, more}
use Rattle.driver.specs.declared.turn.Held.{Held}

pub joined_end : (parts : List (List ℕ)) (part later : List ℕ) → joined (parts ++ (part ∷ [])) ++ later ≡ joined parts ++ (part ++ later)
unfolding joined
joined_end [] part later = ap (λ (l : List ℕ). l ++ later) (append-nil part)
joined_end (p ∷ parts) part later =
    append_assoc p (joined (parts ++ (part ∷ []))) later
    ∙ (ap (λ (l : List ℕ). p ++ l) (joined_end parts part later) ∙ sym (append_assoc p (joined parts) (part ++ later)))

-- text is needed only where more may come
abbrev Open : Held → Type 0
Open h = h.why ≡ TEXT → h.whole ≡ false

-- where the text is whole nothing is read any more
none_read : {most : ℕ} {h r : Held} {text room images octets letters text' room' images' octets' letters' : List ℕ}
    → (t : Turned most h text room images octets letters r text' room' images' octets' letters')
    → Open h → h.whole ≡ true → (t.part ≡ []) × (r.whole ≡ true)
none_read {h = h} t o w =
    let u = t.unasked (λ y. clash h.whole w (o y)) in
    (u.0, u.1 ∙ w)

module _ {most : ℕ} {text₀ room₀ images₀ octets₀ letters₀ : List ℕ} where
  stays_open : {h : Held} {text room images octets letters : List ℕ} {parts : List (List ℕ)} {out : List ℕ}
      → Chain most first text₀ room₀ images₀ octets₀ letters₀ h text room images octets letters parts out → Open h
  stays_open none y = refl
  stays_open (more c due t) y = (t.stopped.went.for_text y).0

  is_over : {h : Held} {text room images octets letters : List ℕ} {parts : List (List ℕ)} {out : List ℕ}
      → Chain most first text₀ room₀ images₀ octets₀ letters₀ h text room images octets letters parts out → h.why ≡ OVER → h.progress.over ≡ true
  is_over none y = absurd (omega (arith, y))
  is_over (more c due t) y = t.stopped.went.finished y

  -- what was ahead at first is what is written out, and what is ahead still
  wrote_ahead : {h : Held} {text room images octets letters : List ℕ} {parts : List (List ℕ)} {out : List ℕ}
      → Chain most first text₀ room₀ images₀ octets₀ letters₀ h text room images octets letters parts out
      → (later : List ℕ) → (h.whole ≡ true → later ≡ [])
      → text_ahead (held_state first images₀ octets₀ letters₀) (joined parts ++ later)
      ≡ out ++ text_ahead (held_state h images octets letters) (take h.have text ++ later)
  unfolding joined
  wrote_ahead none later fit = refl
  wrote_ahead (more {h = h} {text = text} {room' = room'} {parts = parts} {out = out} c due t) later fit =
      let g = t.stopped.went in
      let none_more : h.whole ≡ true → t.part ++ later ≡ [] = λ w. (let u = none_read t (stays_open c) w in rw (u.0, fit u.1)) in
      rw (joined_end parts t.part later)
      (wrote_ahead c (t.part ++ later) none_more
      ∙ rw (← append_assoc (take h.have text) t.part later, g.written later fit, ← t.rest)
      (sym (append_assoc out (take t.wrote room') _)))

pub turns_right : TurnsRight
unfolding text_ahead answers_ahead to_come report book_calls fresh_progress
turns_right most text room images octets letters h text' room' images' octets' letters' parts out unread i o l c over fit =
    let book = joined parts ++ unread in
    let nothing = no_text (held_state h images' octets' letters') (take h.have text' ++ unread) (is_over c over) in
    sym (wrote_ahead c unread fit ∙ rw (nothing, append-nil out))
    ∙ rw (told_right images octets letters (calls_of_answers 0 (answers book)) i o l (books_octets book))

pub run_right : RunRight
run_right most room room' unread r over fit =
    turns_right _ _ _ _ _ _ _ _ _ _ _ _ _ _ unread r.images_long r.octets_long r.letters_right r.drives.chain over fit
