-- Rules: alignment of one end (document 01, "The line", last paragraph): `gain` framed periods
-- running give it, `lose` unframed ones running, each with a pulse, lose it.
-- Interface: `framed_to_gain`, `unframed_to_lose`, `unaligned`, `in_alignment`, `fresh`, `framed_period`,
-- `unframed_period`, `followed`, `alignment_in_range`. Assumes nothing.
use Rattle.std.specs.Prelude.{Bool, true, false, cond, ℕ, ◌+◌, ltb}
use Rattle.alignment.specs.declared.Alignment.{Alignment}
use Rattle.alignment.specs.declared.Followed.{Followed}

-- "Three framed periods running give alignment. Two unframed periods running, each with a pulse,
-- lose it, at both ends."
abbrev pub framed_to_gain : ℕ
framed_to_gain = 3

abbrev pub unframed_to_lose : ℕ
unframed_to_lose = 2

-- Not aligned with a run of n framed periods, and aligned with a run of n unframed ones, each with
-- a pulse.
abbrev pub unaligned : ℕ → Alignment
unaligned n = record { aligned = false; run = n }

abbrev pub in_alignment : ℕ → Alignment
in_alignment n = record { aligned = true; run = n }

-- "A fresh bus is .. unaligned"; `on` finds a terminal "unaligned with no run".
abbrev pub fresh : Alignment
fresh = unaligned 0

-- What a period makes of alignment, without the event of loss, and with it.
abbrev pub becomes : Alignment → Followed
becomes a = record { alignment = a; lost = false }

abbrev pub loses : Followed
loses = record { alignment = fresh; lost = true }

-- A framed period.
unfoldable pub framed_period : ℕ → Alignment → Followed
framed_period gain a =
    cond a.aligned (becomes (in_alignment 0)) (cond (ltb (a.run + 1) gain) (becomes (unaligned (a.run + 1))) (becomes (in_alignment 0)))

-- An unframed period with a pulse.
unfoldable pub unframed_period : ℕ → Alignment → Followed
unframed_period lose a =
    cond a.aligned (cond (ltb (a.run + 1) lose) (becomes (in_alignment (a.run + 1))) loses) (becomes fresh)

-- "A pulseless period is INFO 0 and ends alignment and any run, without the event of loss."
unfoldable pub followed : ℕ → ℕ → Bool → Bool → Alignment → Followed
followed gain lose pulse framed a = cond pulse (cond framed (framed_period gain a) (unframed_period lose a)) (becomes fresh)

-- What refusal 1 asks for: a run of 0 to 2 periods.
abbrev pub alignment_in_range : Alignment → Bool
alignment_in_range a = ltb a.run framed_to_gain
