-- Laws: what an answer of a call says of the book.
-- Interface: none but for laws and proofs. Assumes nothing.
use Rattle.std.specs.Prelude.{◌≡◌, Bool, true, false, List, [], ◌∷◌, ◌++◌, ℕ, ◌+◌, ◌≤◌, ◌<◌, length, drop}
use Rattle.timing.specs.Counts.{most_periods}
use Rattle.text.specs.declared.field.Ends.{Ends}
use Rattle.book_line.specs.Line.{longest_line, formed, value_fits, period_of, unit_of, event_of, value_of}
use Rattle.book_reader.specs.Book.{first_line}
use Rattle.book_reader.specs.Book.Answer.{entry, fault}
use Rattle.book_reader.specs.Step.{at_lines, line_at, value_at}
use Rattle.book_reader.specs.Parts.{Place, begun, past, to_come}
use Rattle.book_reader.specs.declared.step.Step.{Step}
use Rattle.book_reader.specs.declared.step.Step.TheVariants.{Begun, Entry, Done, Fault, More}

-- The text is taken up to `at`, and `later` is what comes behind it: what the answer takes, and
-- what is then still to come, is what was to come.
module _ (p : Place) (text : List ℕ) (at : ℕ) (whole : Bool) (later : List ℕ) where
  pub record First : Type 0 where
    pub within : at + length first_line ≤ length text
    pub said : to_come p (drop at text ++ later) ≡ to_come (begun p) (drop (at + length first_line) text ++ later)

  pub record Taken (period unit event octets : ℕ) : Type 0 where
    pub within : at + octets ≤ length text
    pub lf : 1 ≤ octets
    pub few : octets ≤ longest_line
    pub said : to_come p (drop at text ++ later)
        ≡ entry period unit event (value_of (line_at text at octets)) ∷ to_come (past period unit event) (drop (at + octets) text ++ later)

  -- The text is cut, and less than a longest line is at hand: a buffer of that length has room for
  -- more.
  pub record Short : Type 0 where
    pub cut : whole ≡ false
    pub few : length (drop at text) < longest_line

  abbrev pub Law : Step → Type 0
  Law Begun = First
  Law (Entry period unit event ends octets) = Taken period unit event octets
  Law Done = to_come p (drop at text ++ later) ≡ []
  Law (Fault n) = to_come p (drop at text ++ later) ≡ fault n ∷ []
  Law More = Short

-- An entry: its line lies in the text, is of right form and says just that, and its period may
-- stand after `last`.
pub record Entered (text : List ℕ) (at stage last period unit event : ℕ) (ends : Ends) (octets : ℕ) : Type 0 where
  pub lines : stage ≡ at_lines
  pub within : at + octets ≤ length text
  pub lf : 1 ≤ octets
  pub few : octets ≤ longest_line
  pub form : formed (line_at text at octets) ≡ true
  pub period_is : period ≡ period_of (line_at text at octets)
  pub unit_is : unit ≡ unit_of (line_at text at octets)
  pub event_is : event ≡ event_of (line_at text at octets)
  pub value_is : value_at text at (Entry period unit event ends octets) ≡ value_of (line_at text at octets)
  pub fits : value_fits event (value_of (line_at text at octets)) ≡ true
  pub after : last ≤ period
  pub most : period ≤ most_periods
