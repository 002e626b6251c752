-- Rules: what the notes of a call say of its D opportunities: its `heard`, `torn`, `done1` and
-- `done2` are what happens at them, in order.
-- Interface: `AllTell`. Assumes nothing.
use Rattle.std.specs.Prelude.{cond, List, [], ◌∷◌, ◌++◌, ◌≡◌, ℕ, suc, eqb}
use Rattle.notes_and_cells.specs.Notes.{HEARD, TORN, DONE1, DONE2}
use Rattle.hdlc.specs.Reading.{Said}
use Rattle.hdlc.specs.Reading.Said.{nothing, torn, heard}
use Rattle.bus_rules.specs.Bus.{Bus, Note}
use Rattle.bus_rules.specs.Exchange.{Opportunity, e_comes, said_to, done_of}
use Rattle.bus_rules.specs.Period.{done_codes}
use Rattle.bus_rules.specs.Calls.{Call, notes, after}
use Rattle.bus_rules.specs.Stretch.{station_then, opportunities_of_call}

-- the `heard` and `torn` among some notes, in order, as what the reader said
unfoldable pub heard_in : List Note → List Said
heard_in [] = []
heard_in (n ∷ ns) =
    cond (eqb n.code HEARD) (heard n.value ∷ heard_in ns) (cond (eqb n.code TORN) (torn ∷ heard_in ns) (heard_in ns))

-- the `done1` and `done2` of a unit among them
unfoldable pub done_notes_of : ℕ → List Note → List ℕ
done_notes_of unit [] = []
done_notes_of unit (n ∷ ns) =
    cond (eqb n.unit unit)
    (cond (eqb n.code DONE1) (DONE1 ∷ done_notes_of unit ns)
    (cond (eqb n.code DONE2) (DONE2 ∷ done_notes_of unit ns) (done_notes_of unit ns)))
    (done_notes_of unit ns)

-- what the reader says at some D opportunities, where it says something
unfoldable pub spoken : List Said → List Said
spoken [] = []
spoken (nothing ∷ more) = spoken more
spoken (torn ∷ more) = torn ∷ spoken more
spoken (heard body ∷ more) = heard body ∷ spoken more

unfoldable pub said_in : List Opportunity → List Said
said_in [] = []
said_in (m ∷ ms) = said_to m ∷ said_in ms

-- the classes of the frames that terminal i completes at them
unfoldable pub completed_in : ℕ → List Opportunity → List ℕ
completed_in i [] = []
completed_in i (m ∷ ms) = done_of (e_comes m) (station_then i m) ++ completed_in i ms

-- A call hands back a `heard` or `torn` exactly where its opportunities have one, and a `done1` or
-- `done2` of each unit.
pub record Tells (b : Bus) (c : Call) : Type 0 where
  pub heard_or_torn : heard_in (notes b c) ≡ spoken (said_in (opportunities_of_call b c))
  pub done : (i : ℕ) → done_notes_of (suc i) (notes b c) ≡ done_codes (completed_in i (opportunities_of_call b c))

-- every call of a list, where it comes
unfoldable pub AllTell : Bus → List Call → Type 0
AllTell b [] = Unit
AllTell b (c ∷ more) = Tells b c × AllTell (after b c) more
