-- Calls: a run: periods until `most` of them are run or one hands back notes. It is as many single
-- calls of `period`: the law `run_single`. That it is the run that the rules have
-- (crate `bus_rules`, specs/Calls.antt) is the law `RunCarried` (Lists.antt).
-- Interface: `answer_on`, `kept_on`, `run_answer`, `kept_after`. Assumes nothing.
use Rattle.std.specs.Prelude.{false, cond, ◌&&◌, ◌≡◌, ℕ, zero, suc, ltb}
use Rattle.timing.specs.Calls.{all_run}
use Rattle.bus_record.specs.NetworkSide.{refused_run}
use Rattle.bus_record.specs.declared.side.RunAnswer.{RunAnswer}
use Rattle.bus_call_specs.specs.Kept.{Kept}
use Rattle.bus_call_specs.specs.Period.{period_answer, kept_run}
use Rattle.bus_call_specs.specs.Ready.{run_reply, run_goes_on}

-- at most n periods more: what the last one gave, and what it left
unfoldable pub answer_on : ℕ → RunAnswer → Kept → RunAnswer
answer_on zero last k = last
answer_on (suc n) last k = cond (run_goes_on last (suc n)) (answer_on n (period_answer k) (kept_run k)) last

unfoldable pub kept_on : ℕ → RunAnswer → Kept → Kept
kept_on zero last k = k
kept_on (suc n) last k = cond (run_goes_on last (suc n)) (kept_on n (period_answer k) (kept_run k)) k

-- nothing has been run yet: the reply is 0, or the number of the refusal
unfoldable pub not_yet : ℕ → Kept → RunAnswer
not_yet most k = refused_run (run_reply most k) k.bus

-- what the call gives, and what it leaves
unfoldable pub run_answer : ℕ → Kept → RunAnswer
run_answer most k = answer_on most (not_yet most k) k

unfoldable pub kept_after : ℕ → Kept → Kept
kept_after most k = kept_on most (not_yet most k) k

-- ---- A run needs its checks once: after a period everything is in range and of its length again,
-- and reason 9 alone can hold (proofs/ReadyKept.antt).
abbrev pub ReadyKept : Type 0
ReadyKept =
    (most : ℕ) (k : Kept) → run_reply most k ≡ 0 → all_run k.bus.periods ≡ false
    → (n : ℕ) → run_reply n (kept_run k) ≡ cond (ltb 0 n && all_run (kept_run k).bus.periods) 9 0

-- ---- A run is a single call of `period`, `run_answer 1`, and, where that has no notes and another
-- can be run, the run of the rest from what it left (proofs/RunSingle.antt).
pub record SinglePeriods (n : ℕ) (k : Kept) : Type 0 where
  pub answer_is : run_answer (suc n) k ≡ cond (run_goes_on (run_answer 1 k) n) (run_answer n (kept_after 1 k)) (run_answer 1 k)
  pub kept_is : kept_after (suc n) k ≡ cond (run_goes_on (run_answer 1 k) n) (kept_after n (kept_after 1 k)) (kept_after 1 k)

abbrev pub RunSingle : Type 0
RunSingle = (n : ℕ) (k : Kept) → SinglePeriods n k

-- such a call, where it is not refused, is document 01's period
pub record SinglePeriod (k : Kept) : Type 0 where
  pub answer_is : run_answer 1 k ≡ period_answer k
  pub kept_is : kept_after 1 k ≡ kept_run k

abbrev pub PeriodSingle : Type 0
PeriodSingle = (k : Kept) → run_reply 1 k ≡ 0 → SinglePeriod k

-- ---- What a run leaves, of whatever it finds: the record that it hands back, and the images and
-- the letters as they were (proofs/RunLeft.antt).
pub record RunLeft (most : ℕ) (k : Kept) : Type 0 where
  pub bus_is : (run_answer most k).bus ≡ (kept_after most k).bus
  pub images_stay : (kept_after most k).images ≡ k.images
  pub letters_stay : (kept_after most k).letters ≡ k.letters

abbrev pub RunLeaves : Type 0
RunLeaves = (most : ℕ) (k : Kept) → RunLeft most k
