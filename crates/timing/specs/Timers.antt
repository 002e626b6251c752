-- Rules: timers (document 01, "Order inside a period"): the period at whose start one is due, 0 for
-- none.
-- Interface: every name. Assumes nothing.
use Rattle.std.specs.Prelude.{Bool, false, cond, ℕ, ◌+◌, eqb}
use Rattle.notes_and_cells.specs.Cells.{START, STOP}

-- "T1 and T3 are 120,000 periods, T2 is 200"
abbrev pub T1 : ℕ
T1 = 120000

abbrev pub T2 : ℕ
T2 = 200

abbrev pub T3 : ℕ
T3 = 120000

-- A timer that was started in period t with length v "falls due at the start of t + v".
unfoldable pub due : ℕ → ℕ → Bool
due timer now = cond (eqb timer 0) false (eqb timer now)

-- A timer of length v after a cell's action in period now, where `start` is the action that starts
-- it: "a new start replaces it".
unfoldable pub started_by : ℕ → ℕ → ℕ → ℕ → ℕ → ℕ
started_by start v action now timer = cond (eqb action start) (now + v) timer

-- A timer that START starts and STOP stops.
unfoldable pub timer_after : ℕ → ℕ → ℕ → ℕ → ℕ
timer_after v action now timer = cond (eqb action STOP) 0 (started_by START v action now timer)
