-- Whatever the parts a book is handed over in, the answers taken together are those of the whole book; and there are always such answers.
use mathlib.Core.Path.{◌≡◌, refl, sym, ap, ◌∙◌}
use mathlib.Core.Bool.{Bool, true, false, cond}
use mathlib.Core.List.{List, [], ◌∷◌, ◌++◌, append_assoc}
use Prim.Native.Nat.{ℕ, zero, suc, ◌+◌, ◌<◌}
use native.Mathlib.Omega.{arith}
use lib.ListN.{length, drop, length-drop, length-append}
use Rattle.test_lemmas.proofs.ByCases.{clash}
use Rattle.book_reader.specs.Book.{Answer, first_line, answers}
use Rattle.book_reader.specs.Book.Answer.{entry, fault}
use Rattle.book_reader.specs.Step.{step_at, value_at}
use Rattle.book_reader.specs.Parts.{Place, start, begun, past, to_come, joined, Handed}
use Rattle.book_reader.specs.Parts.Handed.{first, line, stops, ends, more, last}
use Rattle.book_reader.specs.Laws.{Law, Short}
use Rattle.book_reader.specs.declared.step.Step.{Step}
use Rattle.book_reader.specs.declared.step.Step.TheVariants.{Begun, Entry, Done, Fault, More}
use Rattle.book_reader.proofs.Cut.{call_law, come_head}
use Rattle.book_reader.proofs.RunOn.{entered}

-- the flag that is not set
not_whole : {parts : List (List ℕ)} → false ≡ true → parts ≡ []
not_whole w = clash false w refl

-- the law of a call, with what the parts yet to be handed hold as what comes later
said : (p : Place) (text : List ℕ) (at : ℕ) (whole : Bool) (parts : List (List ℕ)) → (whole ≡ true → parts ≡ []) → (a : Step)
    → step_at text at p.stage p.last whole ≡ a → Law p text at whole (joined parts) a
unfolding joined
said p text at whole parts fit = call_law p text at whole (joined parts) (λ w. ap joined (fit w))

handed_right : {p : Place} {text : List ℕ} {at : ℕ} {whole : Bool} {parts : List (List ℕ)} {got : List Answer} → Handed p text at whole parts got
    → (whole ≡ true → parts ≡ []) → to_come p (drop at text ++ joined parts) ≡ got
unfolding joined
handed_right (first {p = p} {text = text} {at = at} {whole = whole} {parts = parts} e h) fit =
    (said p text at whole parts fit Begun e).said ∙ handed_right h fit
handed_right (line {p = p} {text = text} {at = at} {whole = whole} {parts = parts} period unit event fields octets e h) fit =
    (said p text at whole parts fit (Entry period unit event fields octets) e).said
    ∙ rw ((entered text at p.stage p.last whole period unit event fields octets e).value_is, handed_right h fit)
handed_right (stops {p = p} {text = text} {at = at} {whole = whole} {parts = parts} n e) fit = said p text at whole parts fit (Fault n) e
handed_right (ends {p = p} {text = text} {at = at} {whole = whole} {parts = parts} e) fit = said p text at whole parts fit Done e
handed_right (more {p = p} {text = text} {at = at} {part = part} {parts = parts} text' at' e m h) fit =
    sym (ap (λ (l : List ℕ). to_come p l) (ap (λ (l : List ℕ). l ++ joined parts) m ∙ append_assoc (drop at text) part (joined parts)))
    ∙ handed_right h not_whole
handed_right (last h) fit = handed_right h (λ w. refl)

-- However the book is cut, and however the rest is moved: the answers are those of the whole book.
pub parts_right : (parts : List (List ℕ)) (got : List Answer) → Handed start [] 0 false parts got → got ≡ answers (joined parts)
parts_right parts got h = sym (handed_right h not_whole) ∙ come_head start (joined parts) refl

-- ---- the calls come to an end, whatever the parts
pub record Got (p : Place) (text : List ℕ) (at : ℕ) (whole : Bool) (parts : List (List ℕ)) : Type 0 where
  pub taken : List Answer
  pub handed : Handed p text at whole parts taken

-- What falls with every call: the octets and the parts that are left, and the flag.
unfoldable to_go : List ℕ → ℕ → Bool → List (List ℕ) → ℕ
to_go text at whole parts = length (drop at text) + length (joined parts) + length parts + cond whole 0 1

module _ (fuel : ℕ) (rec : (p : Place) (text : List ℕ) (at : ℕ) (whole : Bool) (parts : List (List ℕ)) → (whole ≡ true → parts ≡ [])
    → to_go text at whole parts < fuel → Got p text at whole parts) where
  on_more : (p : Place) (text : List ℕ) (at : ℕ) (whole : Bool) (parts : List (List ℕ)) → to_go text at whole parts < suc fuel
      → step_at text at p.stage p.last whole ≡ More → Short p text at whole (joined parts) → Got p text at whole parts
  unfolding to_go joined
  on_more p text at true parts h e s = clash true refl s.cut
  on_more p text at false [] h e s =
      let g = rec p text at true [] (λ w. refl) (omega arith) in record { taken = g.taken; handed = last g.handed }
  on_more p text at false (part ∷ parts) h e s =
      let g =
      rec p (drop at text ++ part) 0 false parts not_whole
      (omega (arith, length-append (drop at text) part, length-append part (joined parts))) in
      record { taken = g.taken; handed = more (drop at text ++ part) 0 e refl g.handed }

  on_step : (p : Place) (text : List ℕ) (at : ℕ) (whole : Bool) (parts : List (List ℕ)) → (whole ≡ true → parts ≡ [])
      → to_go text at whole parts < suc fuel → (a : Step) → step_at text at p.stage p.last whole ≡ a → Got p text at whole parts
  unfolding to_go
  on_step p text at whole parts fit h Begun e =
      let f = said p text at whole parts fit Begun e in
      let g =
      rec (begun p) text (at + length first_line) whole parts fit
      (omega (arith, f.within, length-drop at text, length-drop (at + length first_line) text)) in
      record { taken = g.taken; handed = first e g.handed }
  on_step p text at whole parts fit h (Entry period unit event fields octets) e =
      let k = said p text at whole parts fit (Entry period unit event fields octets) e in
      let g =
      rec (past period unit event) text (at + octets) whole parts fit
      (omega (arith, k.within, k.lf, length-drop at text, length-drop (at + octets) text)) in
      record {
        taken = entry period unit event (value_at text at (Entry period unit event fields octets)) ∷ g.taken;
        handed = line {got = g.taken} period unit event fields octets e g.handed;
      }
  on_step p text at whole parts fit h Done e = record { taken = []; handed = ends e }
  on_step p text at whole parts fit h (Fault n) e = record { taken = fault n ∷ []; handed = stops n e }
  on_step p text at whole parts fit h More e = on_more p text at whole parts h e (said p text at whole parts fit More e)

comes : (fuel : ℕ) (p : Place) (text : List ℕ) (at : ℕ) (whole : Bool) (parts : List (List ℕ)) → (whole ≡ true → parts ≡ [])
    → to_go text at whole parts < fuel → Got p text at whole parts
comes zero p text at whole parts fit h = absurd (omega arith)
comes (suc fuel) p text at whole parts fit h =
    on_step fuel (λ p' text' at' whole' parts'. comes fuel p' text' at' whole' parts') p text at whole parts fit h
    (step_at text at p.stage p.last whole) refl

pub parts_end : (parts : List (List ℕ)) → Got start [] 0 false parts
parts_end parts = comes (suc (to_go [] 0 false parts)) start [] 0 false parts not_whole (omega arith)
