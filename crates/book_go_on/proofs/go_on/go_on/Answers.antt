-- `go_on` meets its contract: refused, or read on.
use Rattle.book_go_on.proofs.Going.{refused_call, stopped_call, still_accepted, accepted_none}
use Rattle.book_go_on.proofs.go_on.go_on.Goals as goal

pub returns-in-Some : goal.returns-in-Some
returns-in-Some c =
    let a = c.args in
    refused_call a.progress a.images.now a.octets.now a.letters.now a.text.now a.room.now a.whole
    _ c.in-Some.ensures.value _ c.refusal.ensures.octets_unchanged

pub read_on-requires : goal.read_on-requires
read_on-requires c =
    let a = c.args in
    still_accepted a.progress a.images.now a.octets.now a.letters.now _ c.refusal.ensures.octets_unchanged (accepted_none _ c.in-None.ensures.value)

pub returns-in-None : goal.returns-in-None
returns-in-None c =
    let a = c.args in
    stopped_call a.progress a.images.now a.octets.now a.letters.now a.text.now a.room.now a.whole
    _ c.refusal.ensures.octets_unchanged (accepted_none _ c.in-None.ensures.value) c.read_on.result _ _ _ _ c.read_on.ensures
