-- `put_pulses` meets its contract: ten symbols of the line of nones are set.
use Rattle.info.proofs.Pulses.{pulses_put}
use Rattle.info.proofs.info.put_pulses.Goals as goal

pub returns : goal.returns
returns c =
    pulses_put c.args.e c.requires c.behind_echo-fa.ensures.value c.behind_echo-m.ensures.value c.behind_echo-s.ensures.value
    c.behind_echo-l.ensures.value c.echo.ensures c.echo-2.ensures c.echo-3.ensures c.echo-4.ensures c.echo-5.ensures
