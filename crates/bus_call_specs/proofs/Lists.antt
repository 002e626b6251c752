-- Every list of calls on the record and what is lent with it gives the replies and the notes of document 01's rules.
use mathlib.Core.Path.{◌≡◌, refl}
use mathlib.Core.Bool.{Bool, true, false, cond, ◌&&◌}
use mathlib.Core.List.{List, [], ◌∷◌, ◌++◌}
use Prim.Native.Nat.{ℕ, zero, suc, ◌≤◌}
use native.Mathlib.Omega.{arith}
use lib.Dec.{eqb, leb}
use lib.ListN.{length, get_or, replicate}
use borrow.Author.Tests.{eqb-true, eqb-false}
use Rattle.test_lemmas.proofs.ByCases.{by_test, and_right_false, and_left_false}
use Rattle.test_lemmas.proofs.Operators.{cond_not}
use Rattle.hdlc.specs.Image.{longest_body}
use Rattle.d_reader.proofs.ReadingKept.{stands_fresh}
use Rattle.d_reader.proofs.RangesKept as reader_kept
use Rattle.terminal.specs.declared.Terminal.{Terminal}
use Rattle.bus_rules.specs.Bus.{Bus, terminals, fresh_station, fresh_bus, station_at}
use Rattle.bus_rules.specs.Event.{first_holding}
use Rattle.bus_rules.specs.Calls as bus
use Rattle.bus_rules.specs.Calls.{Call, after_all}
use Rattle.bus_rules.specs.Calls.Call.{event, period}
use Rattle.bus_rules.specs.Sound.{Sound}
use Rattle.bus_rules.proofs.Sound.{sound_fresh, sound_kept}
use Rattle.period_hearing.specs.declared.hears.UnitNotes.{UnitNotes}
use Rattle.bus_record.specs.Record.{record_in_range}
use Rattle.bus_record.specs.NetworkSide.{no_notes, refused_run}
use Rattle.bus_record.specs.Echo.{hit_in}
use Rattle.bus_event.specs.Event.{images_room, are_letters, first_reason}
use Rattle.bus_event.specs.Event as parts
use Rattle.bus_call_specs.specs.Kept.{Kept, kept, settled}
use Rattle.bus_call_specs.specs.Ready.{eight_in_range, lent_fits, run_reason, run_reply}
use Rattle.bus_call_specs.specs.Event.{reason, event_told}
use Rattle.bus_call_specs.specs.Lists.{told, called, replied, notes_told, Carries, OctetValue, LentCall, call_of, finds, left_by, is_lent, would_fit, Admitted, reply_to, notes_to, bus_after, Same, fresh_found, ListsCarriedFrom, ListsCarried, made, left_all, notes_of_calls, AllAdmitted, ToldNotesFrom, ToldNotes}
use Rattle.bus_call_specs.specs.Lists.LentCall.{gives, runs, amiss}
use Rattle.bus_call_specs.proofs.InOrder.{order_ranges}
use Rattle.bus_call_specs.proofs.Fitting.{Fit, sound_fits, in_order}
use Rattle.bus_call_specs.proofs.Refused.{refused_ran, refused_keeps, refused_tells_none}
use Rattle.bus_call_specs.proofs.PeriodCarried.{period_replied, period_notes_lem, period_carried}
use Rattle.bus_call_specs.proofs.EventCarried.{Carried, event_carried}

-- ---- a call
pub call_carried : (k : Kept) (b : Bus) → Carries k b → Fit b → (c : Call) → OctetValue c → Carried k b c
call_carried k b c f (event unit number value) octets = event_carried k b c f unit number value octets
call_carried k b c f period octets = record { replies = period_replied k b c f; tells = period_notes_lem k b c f; carries = period_carried k b c f }

-- ---- what is lent with it
-- the places for notes may be others, as many
places_carried : (k : Kept) (b : Bus) (places : List UnitNotes) → length places ≡ terminals → Carries k b
    → Carries (kept k.bus k.terminals k.images k.octets k.letters places) b
places_carried k b places l c =
    record {
      record_is = c.record_is;
      terminals_are = c.terminals_are;
      images_are = c.images_are;
      cycle_rests = c.cycle_rests;
      reader_is = c.reader_is;
      reader_fits = c.reader_fits;
      images_fit = c.images_fit;
      octets_fit = c.octets_fit;
      letters_fit = c.letters_fit;
      notes_fit = l;
    }

pub settled_carries : (k : Kept) (b : Bus) → Carries k b → Carries (settled k) b
unfolding settled
settled_carries k b c = places_carried k b (replicate terminals no_notes) refl c

-- too few places, or too many
short_places : (k : Kept) (b : Bus) → Carries k b → (places : List UnitNotes) → eqb (length places) terminals ≡ false
    → would_fit period k.images k.octets k.letters places ≡ false
unfolding would_fit lent_fits
short_places k b c places t =
    let first = eqb (length k.images) images_room && leb longest_body (length k.octets) in
    rw t (and_left_false (first && false) (are_letters k.letters) (and_right_false first false refl))

-- a call that is lent what does not fit
module _ (k : Kept) (b : Bus) (c : Carries k b) (f : Fit b)
    (ts : List Terminal) (images octets letters : List ℕ) (places : List UnitNotes) where
  abbrev otherwise : Kept
  otherwise = kept k.bus ts images octets letters places

  abbrev Unfit : Call → Type 0
  Unfit x = (eight_in_range ts && would_fit x images octets letters places) ≡ false

  -- 1, or with eight terminals 2
  abbrev its_number : ℕ
  its_number = cond (eight_in_range ts) 2 1

  refused_first : (fit : Bool) (later : ℕ) → (eight_in_range ts && fit) ≡ false
      → cond (eight_in_range ts && record_in_range k.bus) (cond fit later 2) 1 ≡ its_number
  refused_first fit later h =
      by_test (eight_in_range ts)
      (λ t. let unfit = rw t at h in rw (t, (order_ranges k (in_order k b c f)).1, unfit))
      (λ t. rw t)

  run_refused : Unfit period → run_reply 1 otherwise ≡ its_number
  unfolding run_reply run_reason would_fit
  run_refused h = refused_first _ _ h

  event_refused : (unit number : ℕ) (value : List ℕ) → Unfit (event unit number value)
      → reason unit number value k.bus ts images letters ≡ its_number
  unfolding first_reason first_holding would_fit
  event_refused unit number value h = rw (cond_not, cond_not) (refused_first (eqb (length images) images_room && are_letters letters) _ h)

  not_0 : eqb its_number 0 ≡ false
  not_0 = by_test (eight_in_range ts) (λ t. rw t) (λ t. rw t)

  refused_with : (x : Call) → Unfit x → replied otherwise x ≡ its_number
  unfolding replied told event_told parts.told refused_run
  refused_with (event unit number value) h = rw (event_refused unit number value h, not_0, replied)
  refused_with period h = let e = run_refused h in rw (refused_ran 1 otherwise (rw e not_0), e, replied)

  refused : (x : Call) → Unfit x → replied otherwise x ≡ 0 → ⊥
  refused x h = rw (refused_with x h) (eqb-false its_number 0 not_0)

  told_nothing : (x : Call) → Unfit x → notes_told otherwise x ≡ []
  told_nothing x h = refused_tells_none otherwise x (refused x h)

  called_nothing : (x : Call) → Unfit x → called otherwise x ≡ otherwise
  called_nothing x h = refused_keeps otherwise x (refused x h)

-- ---- a call of a list
record LentCarried (k : Kept) (b : Bus) (x : LentCall) : Type 0 where
  replies : replied (finds k x) (call_of x) ≡ reply_to b x
  tells : notes_told (finds k x) (call_of x) ≡ notes_to b x
  carries : Carries (left_by k x) (bus_after b x)

lent_carried : (k : Kept) (b : Bus) → Carries k b → Fit b → (x : LentCall) → Admitted x → LentCarried k b x
unfolding finds call_of left_by is_lent settled
lent_carried k b c f (gives unit number value) octets =
    let d = call_carried k b c f (event unit number value) octets in
    record { replies = d.replies; tells = d.tells; carries = settled_carries _ _ d.carries }
lent_carried k b c f (runs places) m =
    by_test (eqb (length places) terminals)
    (λ t.
    let d = call_carried _ b (places_carried k b places (eqb-true _ _ t) c) f period tt in
    record { replies = rw t d.replies; tells = rw t d.tells; carries = rw t (settled_carries _ _ d.carries) })
    (λ t.
    let short = and_right_false (eight_in_range k.terminals) _ (short_places k b c places t) in
    let eight = (order_ranges k (in_order k b c f)).0 in
    let unchanged = called_nothing k b c f k.terminals k.images k.octets k.letters places period short in
    record {
      replies = rw t (rw eight at (refused_with k b c f k.terminals k.images k.octets k.letters places period short));
      tells = rw t (told_nothing k b c f k.terminals k.images k.octets k.letters places period short);
      carries = rw (t, unchanged) (settled_carries k b c);
    })
lent_carried k b c f (amiss x ts images octets letters places) m =
    record {
      replies = refused_with k b c f ts images octets letters places x m;
      tells = told_nothing k b c f ts images octets letters places x m;
      carries = rw (called_nothing k b c f ts images octets letters places x m) (settled_carries k b c);
    }

-- ---- lists: from a record that stands for a sound bus on, whatever calls come
sound_lent : (b : Bus) (x : LentCall) → Sound b → Sound (bus_after b x)
sound_lent b x s = by_test (is_lent x) (λ t. rw t (sound_kept b (call_of x) s)) (λ t. rw t s)

pub lists_carried_from : ListsCarriedFrom
unfolding Same
lists_carried_from k b [] c s = c
lists_carried_from k b (x ∷ more) c s = (
  c,
  λ m. let d = lent_carried k b c (sound_fits b s) x m in
      (d.replies, d.tells, lists_carried_from (left_by k x) (bus_after b x) more d.carries (sound_lent b x s)),
)

-- ---- the fresh record
fresh_at : (n i : ℕ) → get_or (replicate n fresh_station) i fresh_station ≡ fresh_station
fresh_at zero i = refl
fresh_at (suc n) zero = refl
fresh_at (suc n) (suc i) = fresh_at n i

fresh_held : (i : ℕ) → (station_at i fresh_bus).terminal.access.held ≡ 0
fresh_held i = rw (fresh_at terminals i)

pub fresh_carries : (images octets letters : List ℕ) → length images ≡ images_room → longest_body ≤ length octets → are_letters letters ≡ true
    → Carries (fresh_found images octets letters) fresh_bus
unfolding hit_in
fresh_carries images octets letters i o l =
    record {
      record_is = refl;
      terminals_are = refl;
      images_are = λ i j h k. absurd (omega (arith, fresh_held i));
      cycle_rests = refl;
      reader_is = stands_fresh octets;
      reader_fits = reader_kept.fresh_in_range;
      images_fit = i;
      octets_fit = o;
      letters_fit = l;
      notes_fit = refl;
    }

pub lists_carried : ListsCarried
lists_carried images octets letters calls i o l =
    lists_carried_from (fresh_found images octets letters) fresh_bus calls (fresh_carries images octets letters i o l) sound_fresh

-- ---- all of a list: what it leaves, and the notes together
ran_made : (b : Bus) (x : LentCall) (calls : List Call) → after_all b (cond (is_lent x) (call_of x ∷ calls) calls) ≡ after_all (bus_after b x) calls
unfolding after_all
ran_made b x calls = by_test (is_lent x) (λ t. rw t) (λ t. rw t)

notes_made : (b : Bus) (x : LentCall) (calls : List Call)
    → bus.notes_of_all b (cond (is_lent x) (call_of x ∷ calls) calls) ≡ notes_to b x ++ bus.notes_of_all (bus_after b x) calls
unfolding bus.notes_of_all
notes_made b x calls = by_test (is_lent x) (λ t. rw t) (λ t. rw t)

pub same_all : (k : Kept) (b : Bus) (xs ys : List LentCall) → AllAdmitted xs → Same k b (xs ++ ys)
    → (notes_of_calls k xs ≡ bus.notes_of_all b (made xs)) × Same (left_all k xs) (after_all b (made xs)) ys
unfolding Same AllAdmitted notes_of_calls left_all made bus.notes_of_all after_all
same_all k b [] ys m s = (refl, s)
same_all k b (x ∷ xs) ys m s =
    let t = s.1 m.0 in
    let r = same_all (left_by k x) (bus_after b x) xs ys m.1 t.2 in
    (rw (notes_made b x (made xs), t.1, r.0), rw (ran_made b x (made xs)) r.1)

pub told_notes_from : ToldNotesFrom
unfolding Same
told_notes_from k b calls c s m = (same_all k b calls [] m (lists_carried_from k b (calls ++ []) c s)).0

pub told_notes : ToldNotes
told_notes images octets letters calls i o l m =
    told_notes_from (fresh_found images octets letters) fresh_bus calls (fresh_carries images octets letters i o l) sound_fresh m
