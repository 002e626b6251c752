-- How the code goes: one terminal sends on the D channel, and no other starts: four bits a period,
-- in the few values that the sending takes. The law `lone_four` holds it to the exchange over all
-- terminals (crate `exchange`, specs/Opportunities.antt).
-- Interface: `counted_at`, `lone_after_e`, `lone_sends`, `lone_after_four`, `lone_goes`, `lone_step`,
-- `tally_of`, `lone_tally`, `followed`, `lone_stations`, `sender_in`. Assumes nothing.
use Rattle.std.specs.Prelude.{Bool, true, false, cond, not, ◌&&◌, List, [], ◌∷◌, ◌≡◌, ℕ, suc, ◌+◌, eqb, ltb}
use Rattle.frame.specs.declared.fields.Four.{Four}
use Rattle.notes_and_cells.specs.Cells.{info_in}
use Rattle.table_6_2.specs.Table62.{F7, info_sent}
use Rattle.table_6_3.specs.Table63 as Table63
use Rattle.dchannel.specs.Access.{normal1, normal2, count_after}
use Rattle.dchannel.specs.declared.access.Access.{Access}
use Rattle.terminal.specs.Terminal.{with_access}
use Rattle.terminal.specs.declared.Terminal.{Terminal}
use Rattle.slice_lemmas.specs.Over.{map_from}
use Rattle.exchange.specs.Tally.{no_letters, first_tally}
use Rattle.exchange.specs.Part.{image_bit}
use Rattle.exchange.specs.Opportunities.{tally_after_four, terminals_after_four}
use Rattle.exchange.specs.declared.tally.Tally.{Tally}
use Rattle.lone_sender.specs.declared.lone.LoneSender.{LoneSender}
use Rattle.lone_sender.specs.declared.lone.LoneStep.{LoneStep}

-- ---- One opportunity. The E is the sender's last bit, which nobody else's D has changed.
-- C after it
unfoldable pub counted_at : LoneSender → ℕ
counted_at s = count_after normal2 s.last s.count

-- the bit that leaves
unfoldable pub lone_bit : List ℕ → LoneSender → Bool
lone_bit images s = image_bit images s.at s.sent

unfoldable pub lone_after_e : List ℕ → LoneSender → LoneSender
lone_after_e images s =
    record {
      at = s.at;
      length = s.length;
      sent = cond (ltb s.sent s.length) (s.sent + 1) s.sent;
      count = counted_at s;
      last = lone_bit images s;
    }

-- whether that bit leaves, and nothing else happens: at a C below the lowest threshold no frame
-- starts, and no level returns to normal
unfoldable pub lone_sends : LoneSender → Bool
lone_sends s = (ltb 0 s.sent && ltb s.sent s.length) && ltb (counted_at s) normal1

-- ---- The four of a period.
unfoldable pub lone_after_four : List ℕ → LoneSender → LoneSender
lone_after_four images s = lone_after_e images (lone_after_e images (lone_after_e images (lone_after_e images s)))

unfoldable pub lone_bits : List ℕ → LoneSender → Four
lone_bits images s =
    let s2 = lone_after_e images s in
    let s3 = lone_after_e images s2 in
    record {
      first = lone_bit images s;
      second = lone_bit images s2;
      third = lone_bit images s3;
      fourth = lone_bit images (lone_after_e images s3);
    }

unfoldable pub lone_goes : List ℕ → LoneSender → Bool
lone_goes images s =
    let s2 = lone_after_e images s in
    let s3 = lone_after_e images s2 in
    ((lone_sends s && lone_sends s2) && lone_sends s3) && lone_sends (lone_after_e images s3)

abbrev pub lone_step : List ℕ → LoneSender → LoneStep
lone_step images s = record { lone = lone_after_four images s; ds = lone_bits images s; goes = lone_goes images s }

-- ---- The tally that they leave: no hit, no frame completed, no INFO 1; the last E is the third D.
unfoldable pub tally_of : ℕ → Four → Tally
tally_of state ds =
    record {
      letters = no_letters;
      ds = ds;
      state = state;
      place = 0;
      done1 = 0;
      done2 = 0;
      echo = ds.fourth;
      e = ds.third;
      d = ds.fourth;
      info1 = false;
      info3 = true;
    }

abbrev pub lone_tally : List ℕ → ℕ → LoneSender → Tally
lone_tally images state s = tally_of state (lone_bits images s)

-- ---- The terminals.
-- the D access of terminal i in F7 as the run has it, from what it was at the run's start
abbrev pub followed_access : LoneSender → ℕ → Access → Access
followed_access s i a =
    record {
      length = a.length;
      sent = cond (eqb i s.at) s.sent a.sent;
      count = s.count;
      held = a.held;
      low1 = a.low1;
      low2 = a.low2;
      last = cond (eqb i s.at) s.last a.last;
    }

-- terminal i as the run has it
unfoldable pub followed : LoneSender → ℕ → Terminal → Terminal
followed s i t = cond (eqb t.state F7) (with_access (followed_access s i t.access) t) t

-- what is asked of terminal i where terminal `at` sends an image of `length` bits: it sends no
-- INFO 1, and in F7 it either is terminal `at`, with an image of that length, or sends nothing
unfoldable pub lone_station : ℕ → ℕ → ℕ → Terminal → Bool
lone_station at length i t =
    not (eqb (info_in info_sent t.state) 1)
    && cond (eqb t.state F7) (cond (eqb i at) (eqb t.access.length length) (eqb t.access.sent 0)) true

-- the same of all of them, the first being terminal i
unfoldable pub lone_stations : ℕ → ℕ → ℕ → List Terminal → Bool
lone_stations at length i [] = true
lone_stations at length i (t ∷ ts) = lone_station at length i t && lone_stations at length (suc i) ts

-- whether terminal `at` is among them, in F7
unfoldable pub sender_in : ℕ → ℕ → List Terminal → Bool
sender_in at i [] = false
sender_in at i (t ∷ ts) = cond (eqb i at) (eqb t.state F7) (sender_in at (suc i) ts)

-- ---- While INFO 4 is sent, the four opportunities over all terminals are those of the sender
-- (proofs/LoneFour.antt).
pub record FourAlone (images : List ℕ) (state : ℕ) (s : LoneSender) (ts : List Terminal) : Type 0 where
  pub tally_is : tally_after_four images (first_tally state no_letters s.last) (map_from (followed s) 0 ts) ≡ lone_tally images state s
  pub terminals_are : terminals_after_four images (first_tally state no_letters s.last) (map_from (followed s) 0 ts)
      ≡ map_from (followed (lone_after_four images s)) 0 ts

abbrev pub LoneFour : Type 0
LoneFour =
    (images : List ℕ) (state : ℕ) (s : LoneSender) (ts : List Terminal) → eqb (info_in Table63.info_sent state) 4 ≡ true
    → lone_stations s.at s.length 0 ts ≡ true → sender_in s.at 0 ts ≡ true → lone_goes images s ≡ true → FourAlone images state s ts
