-- What is done so far is the call from its beginning to here, and the reader has the lent text.
use Rattle.std.proofs.Common.{◌≡◌}
use Rattle.book_go_on.specs.Progress.{book_state_of}
use Rattle.book_go_on.proofs.Going.{turns_left}
use Rattle.book_go_on.proofs.ReadOn.{GoesFrom}
use Rattle.book_go_on.proofs.reading.read_on.Given as goal

abbrev pub invariant-lines : goal.invariant-lines
invariant-lines l =
    record {
      text_is : l.reader.text.now ≡ l.fn.text;
      so_far : GoesFrom l.fn.progress l.fn.images l.fn.octets l.fn.letters l.fn.text l.fn.room l.fn.whole l.w l.reader.at l.images l.octets
          l.letters l.room;
    }

abbrev pub decreases-lines : goal.decreases-lines
decreases-lines l = turns_left l.fn.text (book_state_of l.w.progress l.images l.octets l.letters) l.reader.at l.w.why
