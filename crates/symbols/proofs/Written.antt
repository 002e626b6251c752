-- What a call that writes a line leaves where it is lent one.
use mathlib.Core.Path.{◌≡◌}
use mathlib.Core.List.{List}
use Prim.Native.Nat.{ℕ}
use borrow.Author.Tests.{eq-eqb}
use lib.ListN.{length}
use Rattle.symbols.specs.Symbols.{line_length}
use Rattle.symbols.specs.Calls.{has_line_length, leaves}

-- What a call has left where the length is right: what it writes.
pub left_written : (new lent : List ℕ) {last : List ℕ} → length lent ≡ line_length → last ≡ leaves (has_line_length lent) new lent → last ≡ new
left_written new lent h e = rw (eq-eqb (length lent) line_length h) at e
