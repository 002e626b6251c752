-- `put` meets its contract: its loop lays one octet after the other (proofs/RoomLaws).
use mathlib.Core.Path.{◌≡◌, sym}
use native.Mathlib.Omega.{arith}
use Rattle.note_text.proofs.RoomLaws.{laid_none, laying_next, laying_ends}
use Rattle.note_text.proofs.room.put.Goals as goal

pub loop-i-init : goal.loop-i-init
loop-i-init c =
    let a = c.args in
    record {
      start_is = c.min-start.ensures;
      count_is = c.min-count.ensures;
      within = omega arith;
      room_is = sym (laid_none a.room.now a.wrote);
    }

pub loop-i-preserved : goal.loop-i-preserved
loop-i-preserved c = laying_next _ _ _ _ _ _ _ c.loop-i.invariant (omega arith)

pub returns : goal.returns
returns c =
    let e : c.loop-i.i ≡ c.min-count.result = omega arith in
    rw e at (laying_ends _ _ _ _ _ _ _ c.loop-i.invariant (omega arith))
