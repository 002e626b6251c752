use Rattle.std.specs.Prelude.{Ok}
use Rattle.d_reader.specs.Counters.{read_bit, read_octets}
use Rattle.d_reader.proofs.ReadingKept.{reads_on}
use borrow.Author.Tests.{le-ltb}
use Rattle.d_reader.proofs.Reader.read.Goals as goal

pub returns-clause-reads_on : goal.returns-clause-reads_on
unfolding read_bit read_octets
returns-clause-reads_on c =
    let room = le-ltb _ _ c.if-octets-lt-LONGEST_BODY.false in
    reads_on c.args.self.now c.args.octets.now c.args.bit (record { reader = c.after_bit.result; answer = Ok c.answer_to-said.result }) _
    (simp (room, c.after_bit.ensures, c.answer_to-said.ensures))
    (simp room c.store_whole.ensures)
