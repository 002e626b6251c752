-- `Progress::fresh` meets its contract.
use Rattle.book_go_on.specs.Progress.{fresh_progress}
use Rattle.book_go_on.proofs.progress.Progress.fresh.Goals as goal

pub returns : goal.returns
unfolding fresh_progress
returns c = rw (c.fresh-bus.ensures, c.fresh-t.ensures)
