-- `host_frames::write::write_frame` meets its contract.
use Rattle.host_frames.proofs.Calls.{written_upward, reply_written}
use Rattle.host_frames.proofs.write.write_frame.Goals as goal

pub returns-else-up-eq0-clause-reply : goal.returns-else-up-eq0-clause-reply
returns-else-up-eq0-clause-reply c =
    rw (c.write_up.ensures.reply, written_upward c.args.up c.args.fields.now c.args.symbols.now c.in_ok-accepted.ensures.0 c.if-up-eq0.false)
    (reply_written _ c.args.symbols.now)
