-- A read behind what is in hand (Filling.antt).
use Rattle.std.proofs.Common.{arith, ◌+◌, ◌-◌}
use Rattle.driver.proofs.Filling.{read_behind}
use Rattle.driver.proofs.fill.fill.Goals as goal

pub returns : goal.returns
returns c =
    let a = c.args in
    read_behind a.text.now c.read_in-n.new.part _ a.have (a.have + c.min.result - a.have) c.read_in-n.result a.why a.whole
    c.if-why-ne-TEXT.false c.requires.have_in_bounds c.read_in-n.auto.part c.read_in-n.ensures.0 (omega (arith, c.min.ensures))
