-- `field::split` meets its contract: each end by that of the field before it. A slice has less than 2^63 octets, so that no sum wraps.
use Prim.Native.Nat.{◌+◌}
use native.Mathlib.Omega.{arith}
use Rattle.text.proofs.Fields.{ends_are, end_near}
use Rattle.text.proofs.field.split.Goals as goal

pub overflow_add-first : goal.overflow_add-first
overflow_add-first c = let near = end_near c.args.line.now 0 0 (omega arith) in omega arith

pub overflow_add-second : goal.overflow_add-second
overflow_add-second c =
    let line = c.args.line.now in
    let near = end_near line 0 0 (omega arith) in
    let near-2 = end_near line (c.piece_end-first.result + 1) 1 (omega arith) in
    omega arith

pub overflow_add-third : goal.overflow_add-third
overflow_add-third c =
    let line = c.args.line.now in
    let near = end_near line 0 0 (omega arith) in
    let near-2 = end_near line (c.piece_end-first.result + 1) 1 (omega arith) in
    let near-3 = end_near line (c.piece_end-second.result + 1) 2 (omega arith) in
    omega arith

pub returns : goal.returns
returns c =
    ends_are c.args.line.now _ _ _ _
    c.piece_end-first.ensures c.piece_end-second.ensures c.piece_end-third.ensures c.long_piece_end-fourth.ensures
