-- What the program puts into the report is what document 01's rules give for the same calls: the lists of crate `bus_call_specs` (specs/Lists.antt),
-- whose calls are all lent what they must be.
use mathlib.Core.Path.{◌≡◌, refl}
use mathlib.Core.List.{List, [], ◌∷◌, map}
use Rattle.bus_rules.specs.Bus.{Bus, fresh_bus}
use Rattle.bus_rules.specs.Calls.{Call, after, reply, notes}
use Rattle.bus_rules.specs.Calls.Call.{event, period}
use Rattle.bus_rules.proofs.Sound.{sound_fresh}
use Rattle.bus_call_specs.specs.Kept.{Kept, settled}
use Rattle.bus_call_specs.specs.Lists.{call_of, finds, left_by, is_lent, Same, OctetValue, OctetValues, replied, notes_told, fresh_found, lend}
use Rattle.bus_call_specs.proofs.Fields.{periods_of}
use Rattle.bus_call_specs.proofs.Fitting.{sound_fits, in_order}
use Rattle.bus_call_specs.proofs.Lists.{fresh_carries, lists_carried}
use Rattle.report.specs.Report.{refused_notes, book_notes, all_book_notes}
use Rattle.report.specs.Told.{done, refused_told, book_told, all_book_told, ToldRight, FreshReady}
use Rattle.report.proofs.Order.{order_ready}

-- ---- a call that is lent what it must be: it finds what is kept
record Lent (k : Kept) (b : Bus) (c : Call) (more : List Call) : Type 0 where
  periods_is : k.bus.periods.0 ≡ b.periods
  replies : replied k c ≡ reply b c
  tells : notes_told k c ≡ notes b c
  leaves : Same (done k c) (after b c) (map lend more)

lent : (k : Kept) → settled k ≡ k → (b : Bus) (c : Call) (more : List Call) → OctetValue c → Same k b (map lend (c ∷ more)) → Lent k b c more
unfolding Same lend call_of finds left_by is_lent done settled
lent k e b (event unit number value) more v s =
    let t = s.1 v in record { periods_is = periods_of s.0.record_is; replies = t.0; tells = t.1; leaves = t.2 }
lent k e b period more v s =
    let t = rw e at (s.1 tt) in record { periods_is = periods_of s.0.record_is; replies = t.0; tells = t.1; leaves = t.2 }

refused_same : (k : Kept) (b : Bus) (c : Call) (more : List Call) → Lent k b c more → refused_told k c ≡ refused_notes b c
unfolding refused_told refused_notes
refused_same k b (event unit number value) more d = rw (d.replies, d.periods_is)
refused_same k b period more d = refl

call_same : (k : Kept) (b : Bus) (c : Call) (more : List Call) → Lent k b c more → book_told k c ≡ book_notes b c
unfolding book_told book_notes
call_same k b c more d = rw (d.replies, d.tells, refused_same k b c more d)

-- it leaves no notes
taken : (k : Kept) (c : Call) → settled (done k c) ≡ done k c
unfolding settled done
taken k c = refl

-- ---- lists of calls
told_same : (calls : List Call) (k : Kept) → settled k ≡ k → (b : Bus) → OctetValues calls → Same k b (map lend calls)
    → all_book_told k calls ≡ all_book_notes b calls
unfolding all_book_told all_book_notes OctetValues
told_same [] k e b v s = refl
told_same (c ∷ more) k e b v s =
    let d = lent k e b c more v.0 s in
    rw (call_same k b c more d, told_same more (done k c) (taken k c) (after b c) v.1 d.leaves)

-- ---- the fresh record
pub fresh_ready : FreshReady
fresh_ready images octets letters i o l =
    let k = fresh_found images octets letters in
    order_ready k (in_order k fresh_bus (fresh_carries images octets letters i o l) (sound_fits fresh_bus sound_fresh))

pub told_right : ToldRight
unfolding settled
told_right images octets letters calls i o l v =
    told_same calls (fresh_found images octets letters) refl fresh_bus v (lists_carried images octets letters (map lend calls) i o l)
