-- Rules: one terminal's access to the D channel (document 01, "D access (6.1)"), for normal levels
-- x1 of class 1 and x2 of class 2; each low level is one more.
-- Interface: `normal1`, `normal2`, `fresh`, `entered`, `count_after`, `low_after`, `after_e`, `low_of`,
-- `threshold`, `may_start`, `sends_next`, `stops`, `completes`, `idles`, `access_step`. Assumes
-- nothing.
use Rattle.std.specs.Prelude.{Bool, true, false, cond, ℕ, ◌+◌, ltb, leb, eqb}
use Rattle.hdlc.specs.Bits.{same_bit}
use Rattle.dchannel.specs.declared.access.Access.{Access}
use Rattle.dchannel.specs.declared.access.AccessStep.{AccessStep}

-- "8 (class 1) or 10 (class 2)"
abbrev pub normal1 : ℕ
normal1 = 8

abbrev pub normal2 : ℕ
normal2 = 10

-- no frame held, C at 0, both levels normal
abbrev pub fresh : Access
fresh = record { length = 0; sent = 0; count = 0; held = 0; low1 = false; low2 = false; last = true }

-- "C: 0 on entering F7"
unfoldable pub entered : Access → Access
entered a = record { length = a.length; sent = a.sent; count = 0; held = a.held; low1 = a.low1; low2 = a.low2; last = a.last }

-- "A terminal in F7 counts running 1s of E as C": it stays at x2 + 1 once there
unfoldable pub count_after : ℕ → Bool → ℕ → ℕ
count_after x2 true c = cond (ltb c (x2 + 1)) (c + 1) (x2 + 1)
count_after x2 false c = 0

-- a class at the low level "returns to normal when C equals the low value"
unfoldable pub low_after : ℕ → ℕ → Bool → Bool
low_after x c low = cond (eqb c (x + 1)) false low

-- C and the two levels follow the E just heard
unfoldable pub after_e : ℕ → ℕ → Bool → Access → Access
after_e x1 x2 e a =
    record {
      length = a.length;
      sent = a.sent;
      count = count_after x2 e a.count;
      held = a.held;
      low1 = low_after x1 (count_after x2 e a.count) a.low1;
      low2 = low_after x2 (count_after x2 e a.count) a.low2;
      last = a.last;
    }

-- whether a sending is under way
abbrev pub sending : Access → Bool
sending a = ltb 0 a.sent

-- whether class k is at its low level
unfoldable pub low_of : ℕ → Access → Bool
low_of k a = cond (eqb k 1) a.low1 a.low2

-- the C at which class k starts, at its present level
unfoldable pub threshold : ℕ → ℕ → ℕ → Bool → ℕ
threshold x1 x2 k low = cond (eqb k 1) x1 x2 + cond low 1 0

-- "It starts when C has reached" the threshold
unfoldable pub may_start : ℕ → ℕ → Access → Bool
may_start x1 x2 a = cond (eqb a.held 0) false (leb (threshold x1 x2 a.held (low_of a.held a)) a.count)

-- the next bit leaves
unfoldable pub sends_next : Bool → Access → AccessStep
sends_next next a =
    record {
      access =
          record {
            length = a.length;
            sent = a.sent + 1;
            count = a.count;
            held = a.held;
            low1 = a.low1;
            low2 = a.low2;
            last = next;
          };
      d = next;
      done = 0;
    }

-- "A sent bit unequal to its echo stops the sending; the frame is held and starts over"
unfoldable pub stops : Access → AccessStep
stops a =
    record {
      access = record { length = a.length; sent = 0; count = a.count; held = a.held; low1 = a.low1; low2 = a.low2; last = true };
      d = true;
      done = 0;
    }

-- "The frame is completed when the echo of its last bit agrees; that class then goes low"
unfoldable pub completes : Access → AccessStep
completes a =
    record {
      access =
          record {
            length = 0;
            sent = 0;
            count = a.count;
            held = 0;
            low1 = cond (eqb a.held 1) true a.low1;
            low2 = cond (eqb a.held 2) true a.low2;
            last = true;
          };
      d = true;
      done = a.held;
    }

-- nothing leaves: 1 on D
unfoldable pub idles : Access → AccessStep
idles a = record { access = a; d = true; done = 0 }

-- a sending under way, after its E: it stops, is completed or goes on
abbrev pub goes_on : Bool → Bool → Access → AccessStep
goes_on e next a = cond (same_bit e a.last) (cond (leb a.length a.sent) (completes a) (sends_next next a)) (stops a)

-- no sending under way, after the E: a held frame starts if it may
abbrev pub tries : ℕ → ℕ → Bool → Access → AccessStep
tries x1 x2 next a = cond (may_start x1 x2 a) (sends_next next a) (idles a)

-- One D opportunity in F7 with the E heard and the image's bit number `sent`, in the order of
-- docs/DECISIONS.md, reading 1: C and the levels first; then what a terminal does that was sending
-- as E came, or was not.
unfoldable pub access_step : ℕ → ℕ → Bool → Bool → Access → AccessStep
access_step x1 x2 e next a = cond (sending a) (goes_on e next (after_e x1 x2 e a)) (tries x1 x2 next (after_e x1 x2 e a))
