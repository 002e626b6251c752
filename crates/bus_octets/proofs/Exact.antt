-- Whatever is taken for a bus is what it stands for, stored: specs/Laws.antt.
use mathlib.Core.Bool.{true}
use mathlib.Core.List.{List, ◌++◌, append_assoc}
use mathlib.Core.Path.{◌≡◌, sym, ap, ◌∙◌}
use Prim.Native.Nat.{ℕ}
use native.Mathlib.Omega.{arith}
use lib.Dec.{eqb}
use lib.ListN.{length, take, drop, length-drop, take-append-drop}
use lib.Seq.{drop-drop, length-take-le}
use borrow.Author.Tests.{eqb-true, eq-eqb, le-leb}
use Rattle.test_lemmas.proofs.ByCases.{both}
use Rattle.test_lemmas.proofs.Operators.{and_both}
use Rattle.hdlc.specs.Image.{longest_body}
use Rattle.symbols.specs.Symbols.{line_length}
use Rattle.symbols.proofs.Lines.{same_symbols_true}
use Rattle.bus_record.specs.Record.{record_in_range}
use Rattle.bus_event.specs.Event.{images_room, are_letters}
use Rattle.bus_call_specs.specs.Ready.{eight_in_range, lent_fits, run_reason, run_reply}
use Rattle.bus_octets.specs.Layout.{record_octets, terminals_octets, head_octets, bus_octets, record_in, terminals_in, letters_in, octets_in, images_in, shown, letters_at, octets_at, images_at, bus_length, is_head, is_bus}
use Rattle.bus_octets.specs.Laws.{Exact}

-- ---- The parts, one behind the other, are all the octets.
parts : (s : List ℕ) → take letters_at s ++ (letters_in s ++ (octets_in s ++ images_in s)) ≡ s
parts s =
    let behind : octets_in s ++ images_in s ≡ drop octets_at s =
    ap (λ (l : List ℕ). octets_in s ++ l) (sym (drop-drop longest_body octets_at s)) ∙ take-append-drop longest_body (drop octets_at s) in
    let letters : letters_in s ++ drop octets_at s ≡ drop letters_at s =
    ap (λ (l : List ℕ). letters_in s ++ l) (sym (drop-drop line_length letters_at s)) ∙ take-append-drop line_length (drop letters_at s) in
    ap (λ (l : List ℕ). take letters_at s ++ (letters_in s ++ l)) behind
    ∙ (ap (λ (l : List ℕ). take letters_at s ++ l) letters ∙ take-append-drop letters_at s)

-- ---- What the test says.
record Tested (s : List ℕ) : Type 0 where
  long : length s ≡ bus_length
  head : head_octets (record_in s) (terminals_in s) ≡ take letters_at s
  record_fits : record_in_range (record_in s) ≡ true
  terminals_fit : eight_in_range (terminals_in s) ≡ true
  letters_fit : are_letters (letters_in s) ≡ true

tested : (s : List ℕ) → is_bus s ≡ true → Tested s
unfolding is_bus is_head
tested s h =
    let a = both (eqb (length s) bus_length) _ h in
    let b = and_both _ (are_letters (letters_in s)) a.1 in
    let c = and_both _ (eight_in_range (terminals_in s)) b.0 in
    let d = and_both _ (record_in_range (record_in s)) c.0 in
    record {
      long = eqb-true _ _ a.0;
      head = same_symbols_true _ _ d.0;
      record_fits = d.1;
      terminals_fit = c.1;
      letters_fit = b.1;
    }

-- ---- Lengths.
octets_long : (s : List ℕ) → length s ≡ bus_length → length (octets_in s) ≡ longest_body
octets_long s h = length-take-le longest_body (drop octets_at s) (rw (length-drop octets_at s, h) (omega arith))

images_long : (s : List ℕ) → length s ≡ bus_length → length (images_in s) ≡ images_room
images_long s h = rw (length-drop images_at s, h)

stored : (s : List ℕ) → Tested s → bus_octets (shown s) ≡ s
unfolding bus_octets shown head_octets
stored s t =
    sym (append_assoc (record_octets (record_in s)) (terminals_octets (terminals_in s)) (letters_in s ++ (octets_in s ++ images_in s)))
    ∙ (ap (λ (l : List ℕ). l ++ (letters_in s ++ (octets_in s ++ images_in s))) t.head ∙ parts s)

shown_ready : (s : List ℕ) → Tested s → run_reply 0 (shown s) ≡ 0
unfolding run_reply run_reason lent_fits shown
shown_ready s t =
    let o : length (octets_in s) ≡ longest_body = octets_long s t.long in
    rw (t.terminals_fit, t.record_fits, eq-eqb _ _ (images_long s t.long), le-leb longest_body (length (octets_in s)) (omega arith), t.letters_fit)

pub exact : Exact
unfolding shown
exact s h =
    let t = tested s h in
    record { long = t.long; stored_is = stored s t; ready = shown_ready s t; octets_fit = octets_long s t.long }
