-- `number::digits` meets its contract: the digits before i have been read.
use Rattle.book_line.proofs.Numbers.{Reading}
use Rattle.book_line.proofs.number.digits.Given as goal

abbrev pub invariant-loop-c : goal.invariant-loop-c
invariant-loop-c l = Reading l.f l.n l.c-index
