-- Laws: calls that are turned down (document 01, "Reasons a call is turned down"): "The number
-- comes back alone; record and lent buffers keep their contents." It holds of whatever a call
-- finds, in range or not, and of whatever lengths are lent.
-- Interface: none but for laws and proofs. Assumes nothing.
use Rattle.std.specs.Prelude.{true, List, [], ◌∷◌, ◌≡◌, ℕ}
use Rattle.notes_and_cells.specs.Notes.{packed_notes}
use Rattle.bus_rules.specs.Event.{among}
use Rattle.bus_rules.specs.Calls.{Call, bus_refusals}
use Rattle.bus_event.specs.Event as parts
use Rattle.bus_record.specs.NetworkSide.{refused_run}
use Rattle.bus_call_specs.specs.Kept.{Kept}
use Rattle.bus_call_specs.specs.Run.{run_answer, kept_after}
use Rattle.bus_call_specs.specs.Lists.{told, called, replied}

-- ---- "record and lent buffers keep their contents" (proofs/Refused.antt).
abbrev pub RefusedKeeps : Type 0
RefusedKeeps = (k : Kept) (c : Call) → (replied k c ≡ 0 → ⊥) → called k c ≡ k

abbrev pub RefusedRunKeeps : Type 0
RefusedRunKeeps = (most : ℕ) (k : Kept) → ((run_answer most k).reply ≡ 0 → ⊥) → kept_after most k ≡ k

-- ---- "The number comes back alone": the answer has the record as it was, no note, and the number.
abbrev pub RefusedAlone : Type 0
RefusedAlone =
    (unit number : ℕ) (value : List ℕ) (k : Kept) → ((told unit number value k).reply ≡ 0 → ⊥)
    → told unit number value k ≡ parts.told k.bus (packed_notes []) (told unit number value k).reply

abbrev pub RefusedRunAlone : Type 0
RefusedRunAlone =
    (most : ℕ) (k : Kept) → ((run_answer most k).reply ≡ 0 → ⊥) → run_answer most k ≡ refused_run (run_answer most k).reply k.bus

-- ---- The number is one of those listed for a bus; the reply is 0 where the call is not refused.
abbrev pub Listed : ℕ → Type 0
Listed n = among n (0 ∷ bus_refusals) ≡ true

abbrev pub RepliesListed : Type 0
RepliesListed = (k : Kept) (c : Call) → Listed (replied k c)

abbrev pub RunRepliesListed : Type 0
RunRepliesListed = (most : ℕ) (k : Kept) → Listed (run_answer most k).reply
