-- Rules: a frame is handed over, and F7 is left (document 01, "D access (6.1)" and "Reasons a call
-- is turned down").
-- Interface: `taken_up`, `left`. Assumes nothing.
use Rattle.std.specs.Prelude.{true, ℕ}
use Rattle.dchannel.specs.Access.{fresh}
use Rattle.dchannel.specs.declared.access.Access.{Access}
use Rattle.dchannel.specs.declared.access.Left.{Left}

-- the record with a frame of class k to send
unfoldable pub taken_up : ℕ → ℕ → Access → Access
taken_up k n a =
    record { length = n; sent = 0; count = a.count; held = k; low1 = a.low1; low2 = a.low2; last = true }

-- "Leaving F7 drops a held frame and sets both levels to normal"
unfoldable pub left : Access → Left
left a = record { access = fresh; dropped = a.held }
