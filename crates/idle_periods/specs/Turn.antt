-- How the code goes: a turn of a run's loop: the run goes on from what it leaves, with fewer
-- periods left, to the same end as after its first period.
-- Interface: `Turns`. Assumes nothing.
use Rattle.std.specs.Prelude.{◌≡◌, ℕ, ◌+◌, ◌-◌, ◌≤◌, ◌<◌}
use Rattle.bus_record.specs.declared.side.RunAnswer.{RunAnswer}
use Rattle.bus_call_specs.specs.Kept.{Kept}
use Rattle.bus_call_specs.specs.Period.{period_answer, kept_run}
use Rattle.bus_call_specs.specs.Ready.{run_reply}
use Rattle.bus_call_specs.specs.Run.{answer_on, kept_on}

-- from k, with `left` periods left to run: the turn gives r and leaves k', and then 1 + `over`
-- periods less are left
pub record SameEnd (left : ℕ) (k : Kept) (r : RunAnswer) (over : ℕ) (k' : Kept) : Type 0 where
  pub within : 1 + over ≤ left
  pub ready : run_reply 0 k' ≡ 0
  pub answer_on_lem : answer_on (left - 1) (period_answer k) (kept_run k) ≡ answer_on (left - (1 + over)) r k'
  pub kept_on_lem : kept_on (left - 1) (period_answer k) (kept_run k) ≡ kept_on (left - (1 + over)) r k'

-- the same, where a period can be run and is not refused
abbrev pub Turns : ℕ → Kept → RunAnswer → ℕ → Kept → Type 0
Turns left k r over k' = 0 < left → run_reply 1 k ≡ 0 → SameEnd left k r over k'
