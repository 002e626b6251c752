-- Laws: what holds of every book's calls.
-- Interface: none but for laws and proofs. Assumes nothing.
use Rattle.std.specs.Prelude.{true, List, [], ◌∷◌, ◌++◌, ◌≡◌, ℕ, ◌-◌, ◌≤◌, replicate}
use Rattle.timing.specs.Counts.{most_periods}
use Rattle.bus_rules.specs.Bus.{Bus, fresh_bus}
use Rattle.bus_rules.specs.Event.{among, book_refusals}
use Rattle.bus_rules.specs.Calls.{Call, reply, after, after_all}
use Rattle.bus_rules.specs.Calls.Call.{period}
use Rattle.bus_rules.specs.Stretch.{Stretch}
use Rattle.bus_rules.specs.Claims.{Claimed}
use Rattle.bus_rules.specs.Sound.{Sound}
use Rattle.bus_call_specs.specs.Lists.{OctetValues}
use Rattle.report.specs.Report.{book_calls}

-- the periods before a line's are run: the line finds the bus at its period (proofs/Books.antt)
abbrev pub RunsToLine : Type 0
RunsToLine = (b : Bus) (at : ℕ) → b.periods ≤ at → at ≤ most_periods → (after_all b (replicate (at - b.periods) period)).periods ≡ at

-- "In a book, 3 to 8 become the note `refused`": a number that comes back is 0 or one of these. 1
-- and 2 are for a record out of its range and for what is lent, and a hit of right form has 48
-- letters.
abbrev pub InBook : ℕ → Type 0
InBook n = among n (0 ∷ book_refusals) ≡ true

unfoldable pub AllInBook : Bus → List Call → Type 0
AllInBook b [] = Unit
AllInBook b (c ∷ more) = InBook (reply b c) × AllInBook (after b c) more

abbrev pub BooksRefused : Type 0
BooksRefused = (book : List ℕ) → AllInBook fresh_bus (book_calls book)

-- 9: "no book meets this"
unfoldable pub NoneLate : Bus → List Call → Type 0
NoneLate b [] = Unit
NoneLate b (c ∷ more) = (reply b c ≡ 9 → ⊥) × NoneLate (after b c) more

abbrev pub BooksInTime : Type 0
BooksInTime = (book : List ℕ) → NoneLate fresh_bus (book_calls book)

-- values are octets, so that the calls of the engine are for them (crate `bus_call_specs`,
-- specs/Lists.antt)
abbrev pub BooksOctets : Type 0
BooksOctets = (book : List ℕ) → OctetValues (book_calls book)

-- Demand 3 speaks of every book: of every stretch of its calls (crate `bus_rules`,
-- specs/Claims.antt), where the first of them finds the bus b.
abbrev pub ClaimedOfBooks : Bus → Type 0
ClaimedOfBooks b =
    (book : List ℕ) (before during after : List Call) → book_calls book ≡ before ++ (during ++ after)
    → Stretch (after_all b before) during → Claimed b before during after

-- "a fresh bus"; and any sound one (crate `bus_rules`, specs/Sound.antt)
abbrev pub BookCalls : Type 0
BookCalls = ClaimedOfBooks fresh_bus

abbrev pub BookCallsFrom : Type 0
BookCallsFrom = (b : Bus) → Sound b → ClaimedOfBooks b
