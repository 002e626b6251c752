-- How the code goes: several periods are run at once up to the next at whose start a timer is due
-- (crates `lone_sender` and `idle_periods`).
-- Interface: every name. Assumes nothing.
use Rattle.std.specs.Prelude.{cond, ◌⊎◌, ℕ, ◌+◌, ◌-◌, ◌≤◌, ◌<◌, ltb, leb}

-- What is to hold of a timer that is due at none of the next n periods' starts; `now` is the number
-- of the coming period.
abbrev pub Clear : ℕ → ℕ → ℕ → Type 0
Clear now n timer = (timer ≤ now) ⊎ (now + n < timer)

-- How many of the next periods' starts come before a timer is due, `most` at most.
unfoldable pub clear : ℕ → ℕ → ℕ → ℕ
clear now most timer = cond (ltb now timer) (cond (leb (timer - now) most) (timer - now - 1) most) most
