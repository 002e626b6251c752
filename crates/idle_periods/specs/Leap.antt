-- Laws: the law of leaps: from a still bus the step over j periods is what j single calls of
-- `period` leave. The statement is a type; `proofs/Leaping.antt` proves it under the same name in
-- small letters.
-- Interface: none but for laws and proofs. Assumes nothing.
use Rattle.std.specs.Prelude.{◌≡◌, ℕ, ◌≤◌, ◌<◌, replicate}
use Rattle.bus_rules.specs.Bus.{terminals}
use Rattle.bus_record.specs.NetworkSide.{no_notes, refused_run}
use Rattle.bus_call_specs.specs.Kept.{Kept, kept}
use Rattle.bus_call_specs.specs.Ready.{run_reply}
use Rattle.bus_call_specs.specs.Run.{run_answer, kept_after}
use Rattle.idle_periods.specs.Still.{reach, leapt}

-- the record leapt over j periods, and what is lent with it as it was; no notes
abbrev pub kept_leapt : ℕ → Kept → Kept
kept_leapt j k = kept (leapt j k.bus) k.terminals k.images k.octets k.letters (replicate terminals no_notes)

pub record Leaps (j : ℕ) (k : Kept) : Type 0 where
  pub answer_is : run_answer j k ≡ refused_run 0 (leapt j k.bus)
  pub kept_is : kept_after j k ≡ kept_leapt j k

-- of every call that is not refused
abbrev pub Leap : Type 0
Leap = (left j : ℕ) (k : Kept) → run_reply left k ≡ 0 → 0 < j → j ≤ reach k.bus k.terminals left → Leaps j k
