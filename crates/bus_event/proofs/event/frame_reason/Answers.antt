-- `frame_reason` meets its contract: each return is the first reason that holds.
use Rattle.bus_event.proofs.Returns.{reason_1, reason_2, reason_6, reason_7, reason_0, reason_8, refuse}
use Rattle.bus_event.proofs.event.frame_reason.Goals as goal

pub returns-then-not-in_range : goal.returns-then-not-in_range
returns-then-not-in_range c =
    let a = c.args in
    refuse (reason_1 a.images a.i a.octets a.terminal c.in_range.result c.in_range.ensures c.if-not-in_range.true)

pub returns-then-not-images-i : goal.returns-then-not-images-i
returns-then-not-images-i c =
    let a = c.args in
    refuse (reason_2 a.images a.i a.octets a.terminal c.in_range.result c.in_range.ensures c.if-not-in_range.false c.if-not-images-i.true)

pub returns-then-terminal-ne-F7 : goal.returns-then-terminal-ne-F7
returns-then-terminal-ne-F7 c =
    let a = c.args in
    refuse (reason_6 a.images a.i a.octets a.terminal c.in_range.result c.in_range.ensures c.if-not-in_range.false c.if-not-images-i.false
    c.if-terminal-ne-F7.true)

pub returns-then-not-octets : goal.returns-then-not-octets
returns-then-not-octets c =
    let a = c.args in
    refuse (reason_7 a.images a.i a.octets a.terminal c.in_range.result c.in_range.ensures c.if-not-in_range.false c.if-not-images-i.false
    c.if-terminal-ne-F7.false c.if-not-octets.true)

pub returns-then-terminal-ne0 : goal.returns-then-terminal-ne0
returns-then-terminal-ne0 c =
    let a = c.args in
    refuse (reason_8 a.images a.i a.octets a.terminal c.in_range.result c.in_range.ensures c.if-not-in_range.false c.if-not-images-i.false
    c.if-terminal-ne-F7.false c.if-not-octets.false c.if-terminal-ne0.true)

pub returns : goal.returns
returns c =
    let a = c.args in
    refuse (reason_0 a.images a.i a.octets a.terminal c.in_range.result c.in_range.ensures c.if-not-in_range.false c.if-not-images-i.false
    c.if-terminal-ne-F7.false c.if-not-octets.false c.if-terminal-ne0.false)
