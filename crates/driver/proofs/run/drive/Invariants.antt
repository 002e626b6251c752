-- Whatever chain of turns (SoFar.antt) leads to where the loop begins leads on to where it stands, and what holds before a turn holds
-- before the next one (Turning.antt). The turns are counted down.
use Rattle.std.proofs.Common.{◌≤◌, ◌-◌, ℕ, List, length}
use Rattle.std.specs.NonZero.{non_zero_usize_get}
use Rattle.book_line.specs.Line.{longest_line}
use Rattle.driver.specs.Turn.{Going, most_turns}
use Rattle.driver.proofs.SoFar.{SoFar}
use Rattle.driver.proofs.run.drive.Given as goal

abbrev pub invariant-loop-turns : goal.invariant-loop-turns
invariant-loop-turns l =
    let i = l.initial in
    ((ts rs is os ls : List ℕ) → SoFar (non_zero_usize_get l.most) ts rs is os ls (most_turns - 1) i.h i.text i.room i.images i.octets i.letters
    → SoFar (non_zero_usize_get l.most) ts rs is os ls l._turns l.h l.text l.room l.images l.octets l.letters)
    × Going l.h l.text l.images l.octets l.letters
    × (longest_line ≤ length l.text)
