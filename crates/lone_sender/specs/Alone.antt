-- How the code goes: a run of periods in which one terminal sends alone, over the bus record, the
-- sender and the reader's octets.
-- Interface: `stays_alone`, `alone_run`, `alone_run_octets`. Assumes nothing.
use Rattle.std.specs.Prelude.{Bool, false, cond, not, ◌&&◌, List, ℕ, zero, suc, ◌+◌, eqb}
use Rattle.hdlc.specs.Bits.{same_bit}
use Rattle.table_6_3.specs.Table63.{G3}
use Rattle.timing.specs.Calls.{all_run}
use Rattle.exchange.specs.declared.tally.Tally.{Tally}
use Rattle.bus_record.specs.NetworkSide.{answer_after, octets_after, refused_run}
use Rattle.bus_record.specs.declared.record.BusRecord.{BusRecord}
use Rattle.bus_record.specs.declared.side.RunAnswer.{RunAnswer}
use Rattle.lone_sender.specs.Lone.{lone_after_four, lone_goes, lone_tally}
use Rattle.lone_sender.specs.declared.lone.LoneSender.{LoneSender}
use Rattle.lone_sender.specs.declared.alone.Alone.{Alone}

-- whether a period more is run: the last one has no note, INFO 4 is sent without a hit, the E that
-- comes is the sender's last bit, and the sender goes on alone (`goes`)
unfoldable pub stays_alone : RunAnswer → LoneSender → Bool → Bool
stays_alone last s goes =
    let bus = last.bus in
    let still = ((eqb last.reply 0 && not last.told) && eqb bus.network.state G3) && not bus.hit in
    ((still && same_bit bus.echo s.last) && goes) && not (all_run bus.periods)

unfoldable pub goes_alone : List ℕ → Alone → Bool
goes_alone images a = stays_alone a.answer a.lone (lone_goes images a.lone)

-- the exchange of the coming period
abbrev pub tally_then : List ℕ → Alone → Tally
tally_then images a = lone_tally images a.answer.bus.network.state a.lone

unfoldable pub alone_after : List ℕ → Alone → List ℕ → Alone
alone_after images a octets =
    record {
      answer = answer_after a.answer.bus (tally_then images a) octets false;
      lone = lone_after_four images a.lone;
      over = a.over + 1;
    }

unfoldable pub octets_then : List ℕ → Alone → List ℕ → List ℕ
octets_then images a octets = octets_after a.answer.bus (tally_then images a) octets

-- at most n periods more
unfoldable pub alone_on : List ℕ → ℕ → Alone → List ℕ → Alone
alone_on images zero a octets = a
alone_on images (suc n) a octets =
    cond (goes_alone images a) (alone_on images n (alone_after images a octets) (octets_then images a octets)) a

unfoldable pub octets_on : List ℕ → ℕ → Alone → List ℕ → List ℕ
octets_on images zero a octets = octets
octets_on images (suc n) a octets =
    cond (goes_alone images a) (octets_on images n (alone_after images a octets) (octets_then images a octets)) octets

-- what a call starts from: nothing has been run yet
abbrev pub not_yet : BusRecord → LoneSender → Alone
not_yet bus s = record { answer = refused_run 0 bus; lone = s; over = 0 }

unfoldable pub alone_run : List ℕ → ℕ → BusRecord → LoneSender → List ℕ → Alone
alone_run images most bus s octets = alone_on images most (not_yet bus s) octets

unfoldable pub alone_run_octets : List ℕ → ℕ → BusRecord → LoneSender → List ℕ → List ℕ
alone_run_octets images most bus s octets = octets_on images most (not_yet bus s) octets
