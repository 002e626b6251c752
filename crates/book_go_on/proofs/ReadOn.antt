-- The turns of `read_on`: what the reader reads goes to a step, and the reader goes on by what the step has taken.
use mathlib.Core.Path.{◌≡◌, sym, ap, ◌∙◌}
use mathlib.Core.Bool.{Bool, false}
use mathlib.Core.List.{List}
use Prim.Native.Nat.{ℕ, ◌+◌, ◌-◌, ◌≤◌, ◌<◌, min}
use native.Mathlib.Omega.{arith}
use lib.Dec.{eqb}
use lib.ListN.{length}
use borrow.Author.Tests.{eqb-false}
use denote.Ref.{Bor}
use Rattle.text.specs.Part.{IsPart}
use Rattle.text.proofs.Parts.{part_octets}
use Rattle.book_reader.specs.Step.{step_at, value_from, value_to, moved_on}
use Rattle.book_reader.specs.declared.step.Step.{Step}
use Rattle.report.specs.Ahead.{BookState, Stopped}
use Rattle.book_go_on.specs.Progress.{book_state_of, reason, untaken, ended, Goes}
use Rattle.book_go_on.specs.Steps.{Steps, Reads, IsRead, StepsBy}
use Rattle.book_go_on.specs.declared.progress.Progress.{Progress}
use Rattle.book_go_on.specs.declared.progress.GoneOn.{GoneOn}
use Rattle.book_go_on.proofs.Going.{Going, going_first, turns_left, going_ready, going_within, going_fits, going_on, going_less, going_stops, accepted_ready}

module _ (p : Progress) (images octets letters text room : List ℕ) (whole : Bool) where
  abbrev start : BookState
  start = book_state_of p images octets letters

  -- what holds before each turn, the reader being at `at`
  abbrev pub GoesFrom : GoneOn → ℕ → List ℕ → List ℕ → List ℕ → List ℕ → Type 0
  GoesFrom w at images' octets' letters' room' = Going text whole start room (book_state_of w.progress images' octets' letters') at room' w.wrote w.why

  pub goes_first : reason start ≡ 0 → (w : GoneOn) → w ≡ untaken p → (at : ℕ) → at ≡ 0 → GoesFrom w at images octets letters room
  goes_first z w e at is = rw (e, is) (going_first text whole start room (accepted_ready start z))

  module _ (w : GoneOn) (at : ℕ) (images₁ octets₁ letters₁ room₁ : List ℕ) (g : GoesFrom w at images₁ octets₁ letters₁ room₁) where
    abbrev stand : BookState
    stand = book_state_of w.progress images₁ octets₁ letters₁

    -- what the reader says, and its value: the part of the text that it hands back
    module _ (said : Step) (stage last : ℕ) (is-stage : stage ≡ w.progress.stage) (is_last : last ≡ w.progress.bus.periods.0)
        (says : said ≡ step_at text at stage last whole) (lent part : Bor (List ℕ)) (of_text : lent.now ≡ text)
        (is-part : IsPart lent (at + value_from said) (at + value_to said) part) where
      reads : Reads text at whole stand said part.now
      reads =
          record {
            within = going_within g;
            says = rw (is-stage, is_last) at (sym says);
            value_is =
                let apart : at + value_to said - (at + value_from said) ≡ value_to said - value_from said = omega arith in
                rw (apart, of_text) at (sym (part_octets lent (at + value_from said) (at + value_to said) part is-part));
          }

      -- what a step asks
      pub step_asks : Goes w images₁ octets₁ letters₁ room₁ × IsRead stand said part.now
      step_asks = (record { ready = going_ready g; fits = going_fits g }, record { text = text; at = at; whole = whole; reads = reads })

      -- what it does, and the reader behind what it has taken
      module _ (w' : GoneOn) (images₂ octets₂ letters₂ room₂ : List ℕ)
          (does : StepsBy said part.now stand room₁ w.wrote (book_state_of w'.progress images₂ octets₂ letters₂) w'.taken room₂ w'.wrote w'.why)
          (taken m : ℕ) (is-taken : taken ≡ w'.taken) (is_m : m ≡ moved_on at taken (length text)) where
        stepped : Steps text whole stand at room₁ w.wrote (book_state_of w'.progress images₂ octets₂ letters₂) (at + w'.taken) room₂ w'.wrote w'.why
        stepped = does text at whole reads

        moved : m ≡ at + w'.taken
        moved = all (at + taken) (length text) is_m (omega (arith, stepped.moves.within (going_within g))) ∙ ap (λ (k : ℕ). at + k) is-taken
          where
            all : (n most : ℕ) → m ≡ min n most → n ≤ most → m ≡ n
            all n most e l = omega arith

        pub goes_after : GoesFrom w' m images₂ octets₂ letters₂ room₂
        goes_after = rw moved (going_on g stepped)

        pub fewer : w.why ≡ 0 → turns_left text (book_state_of w'.progress images₂ octets₂ letters₂) m w'.why < turns_left text stand at w.why
        fewer go = rw moved (going_less g stepped go)

    pub goes_no_further : eqb w.why 0 ≡ false → (n : ℕ) → n ≡ at → (x : GoneOn) → x ≡ ended w n
        → Stopped start text room whole (book_state_of x.progress images₁ octets₁ letters₁) x.taken x.wrote x.why room₁
    goes_no_further off n e x is = rw (is, e) (going_stops g (eqb-false w.why 0 off))
