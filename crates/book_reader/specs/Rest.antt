-- Calls: the text not yet taken goes to the front of the buffer.
-- Interface: every name. Assumes nothing.
use Rattle.std.specs.Prelude.{List, ◌++◌, ℕ, length, take, drop}

-- The octets from `from` to `end`, as far as they are there.
abbrev pub rest_of : ℕ → ℕ → List ℕ → List ℕ
rest_of from end buf = drop from (take end buf)

-- They stand at the front; the octets behind them are as they were.
abbrev pub kept : ℕ → ℕ → List ℕ → List ℕ
kept from end buf = rest_of from end buf ++ drop (length (rest_of from end buf)) buf
