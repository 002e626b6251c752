-- What holds before the first turn, after each and at the end (Turning.antt, SoFar.antt).
use Rattle.std.proofs.Common.{arith, refl}
use Rattle.driver.proofs.Turning.{starts, goes_on}
use Rattle.driver.proofs.SoFar.{no_turn, one_more, no_more, used_up}
use Rattle.driver.proofs.run.drive.Goals as goal

pub turn-h-requires-clause-going : goal.turn-h-requires-clause-going
turn-h-requires-clause-going c =
    let q = c.requires in
    starts _ _ _ _ _ c.fresh.ensures q.images_len q.longest_body_in_bounds q.letters_value

pub loop-turns-init : goal.loop-turns-init
loop-turns-init c =
    let q = c.requires in (
      λ ts rs is os ls s. s,
      goes_on _ _ _ _ _ _ _ _ _ _ _ _ _ (starts _ _ _ _ _ c.fresh.ensures q.images_len q.longest_body_in_bounds q.letters_value) c.turn-h.ensures,
      omega (arith, c.turn-h.auto.text, q.longest_line_in_bounds),
    )

pub loop-turns-preserved : goal.loop-turns-preserved
loop-turns-preserved c =
    let i = c.loop-turns.invariant in
    let t = c.turn-h-in-loop-turns in (
      λ ts rs is os ls s. one_more (i.0 ts rs is os ls s) (omega arith) c.if-h.false t.ensures,
      goes_on _ _ _ _ _ _ _ _ _ _ _ _ _ i.1 t.ensures,
      omega (arith, t.auto.text, i.2),
    )

pub returns-then-h : goal.returns-then-h
returns-then-h c =
    let one = one_more (no_turn _ _ _ _ _ _ _ c.fresh.ensures) (omega arith) refl c.turn-h.ensures in
    no_more (c.loop-turns.invariant.0 _ _ _ _ _ one) c.if-h.true

pub returns : goal.returns
returns c =
    let one = one_more (no_turn _ _ _ _ _ _ _ c.fresh.ensures) (omega arith) refl c.turn-h.ensures in
    used_up (c.loop-turns.invariant.0 _ _ _ _ _ one) (omega arith)
