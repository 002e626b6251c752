-- What holds of the calls on a bus that is lent as octets: specs/Laws.antt.
use mathlib.Core.Bool.{true, false}
use mathlib.Core.List.{List, [], ◌∷◌, ◌++◌, append-nil}
use mathlib.Core.Path.{◌≡◌, refl, sym, ap, ◌∙◌}
use Prim.Native.Nat.{ℕ, zero, suc, ◌-◌, ◌%◌, ◌≤◌, ◌<◌}
use native.Mathlib.Omega.{arith}
use lib.Dec.{eqb, ltb}
use lib.ListN.{length, get_or, take, replicate, length-append, length-replicate}
use lib.Seq.{take-append_seam}
use borrow.Author.Tests.{eqb-true, eqb-false, eq-eqb, ne_eqb, ltb-true, ltb-false}
use Rattle.test_lemmas.proofs.ByCases.{by_test, both, clash}
use Rattle.symbols.specs.Symbols.{line_length, within, fits}
use Rattle.hdlc.specs.Image.{longest_body}
use Rattle.bus_rules.specs.Bus.{Bus, Note, fresh_bus}
use Rattle.bus_rules.specs.Calls.{Call, reply, after, after_all, notes_of_all}
use Rattle.bus_rules.specs.Calls.Call.{event, period}
use Rattle.bus_rules.specs.Sound.{Sound}
use Rattle.bus_rules.proofs.Sound.{sound_fresh, sound_after}
use Rattle.bus_event.specs.Event.{images_room, are_letters}
use Rattle.bus_call_specs.specs.Kept.{Kept, settled}
use Rattle.bus_call_specs.specs.Ready.{run_goes_on}
use Rattle.bus_call_specs.specs.Lists.{Carries, is_code, coded, told, called, replied, notes_told, run_told, OctetValue, LentCall, call_of, finds, left_by, is_lent, Same, made, left_all, notes_of_calls, AllAdmitted, lend, calls_in}
use Rattle.bus_call_specs.specs.Run.{run_answer as once, kept_on, kept_after}
use Rattle.bus_call_specs.proofs.InOrder.{InOrder, order_reply}
use Rattle.bus_call_specs.proofs.Fitting.{sound_fits}
use Rattle.bus_call_specs.proofs.Lists.{call_carried, settled_carries, lists_carried_from, same_all, fresh_carries}
use Rattle.bus_call_specs.proofs.QuietRuns.{one_told, runs_are_calls}
use Rattle.bus_call_specs.proofs.QuietEnds as quiet-ends
use Rattle.bus_call_specs.proofs.Refused as Turned-down
use Rattle.bus_call_specs.proofs.RunLeft.{run_left}
use Rattle.note_text.specs.Room.{laid}
use Rattle.note_text.specs.NoteText.{notes_in}
use Rattle.note_text.specs.NoteOctets.{note_octets}
use Rattle.note_text.specs.declared.form.Form.TheVariants.{Octets}
use Rattle.note_text.specs.Determined.{AllFitOctets}
use Rattle.period_text.proofs.Room.{period_octets_fit, event_octets_fit}
use Rattle.report.proofs.Order.{order_called}
use Rattle.report.proofs.ToldRight.{fresh_ready}
use Rattle.bus_octets.specs.Layout.{bus_octets, shown, is_bus}
use Rattle.bus_octets.specs.Laws.{StoredAndShown}
use Rattle.bus_octets.proofs.Exact.{exact}
use Rattle.bus_octets.proofs.RoundTrip.{round_trip}
use Rattle.bus_octets.proofs.Lengths.{laid_front}
use Rattle.host_bus.specs.Fresh.{fresh_zeros, fresh_octets}
use Rattle.host_bus.specs.Lent.{lent_reason}
use Rattle.host_steps.specs.Stepping.{notes_octets, notes_room, reason, reply_with, bus_with, notes_with, most_to, host_reply, host_bus, host_notes, host_run_reply, host_run_bus, host_run_notes}
use Rattle.host_steps.specs.Laws as laws
use Rattle.host_steps.specs.Laws.HostCall.{step, run_to}
use Rattle.host_steps.proofs.Answers.{lent_bus, lent_room}
use Rattle.host_steps.proofs.Stepped.{order}
use Rattle.host_steps.proofs.Told.{left_fits, none_refused, none_told}
use Rattle.host_steps.proofs.Determined.{run_coded, notes_fit_octets, run_notes_fit_octets, hands_back_one}

-- ---- A refused call.
module _ (s room : List ℕ) (reply : ℕ) (left : Kept) (notes : List Note) where
  kept_by : (reason s room ≡ 0 → (reply ≡ 0 → ⊥) → left ≡ shown s) → (reply_with s room reply ≡ 0 → ⊥)
      → laws.Untouched s room (bus_with s room left) (notes_with s room reply notes)
  unfolding reply_with bus_with notes_with
  kept_by stays n =
      by_test (eqb (reason s room) 0)
      (λ t.
      let z = eqb-true _ _ t in
      let r : reply ≡ 0 → ⊥ = λ y. n (rw t y) in
      record {
        bus_stays = rw t (ap bus_octets (stays z r) ∙ (exact s (lent_bus s _ _ (reason s room) refl z)).stored_is);
        notes_stay = by_test (eqb reply 0) (λ u. absurd (r (eqb-true _ _ u))) (λ u. rw (t, u));
      })
      (λ t. record { bus_stays = rw t; notes_stay = rw (t, t) })

pub refused_keeps : laws.RefusedKeeps
unfolding host_reply host_bus host_notes
refused_keeps s room c n =
    kept_by s room (replied (shown s) c) (called (shown s) c) (notes_told (shown s) c) (λ _ r. Turned-down.refused_keeps (shown s) c r) n

pub refused_run_keeps : laws.RefusedRunKeeps
unfolding host_run_reply host_run_bus host_run_notes
refused_run_keeps s room most n = kept_by s room _ (kept_after most (shown s)) _ (λ _ r. Turned-down.refused_run_keeps most (shown s) r) n

-- ---- The notes of a call fit into the room that is asked for.
ran_fit : (k : Kept) (most : ℕ) → InOrder k → length k.octets ≡ longest_body → length (notes_octets (run_told most k)) ≤ notes_room
unfolding notes_octets run_told notes_in
ran_fit k most o long =
    let l = run_left most k o in
    let e : length (kept_after most k).octets ≤ longest_body = omega (arith, l.octets_long) in
    rw (length-append (notes_in Octets (run_told most k)) (0 ∷ []))
    (by_test (eqb (once most k).reply 0)
    (λ t. rw t
    (omega (arith, period_octets_fit ((once most k).bus.periods.0 - 1) (once most k) (kept_after most k).notes (kept_after most k).octets l.order.notes_fit e)))
    (λ t. rw t (omega arith)))

told_fit : (k : Kept) (c : Call) → InOrder k → length k.octets ≡ longest_body → length (notes_octets (notes_told k c)) ≤ notes_room
unfolding notes_octets notes_told notes_in
told_fit k (event unit number value) o long =
    rw (length-append (notes_in Octets (notes_told k (event unit number value))) (0 ∷ []))
    (by_test (eqb (replied k (event unit number value)) 0)
    (λ t. rw t (omega (arith, event_octets_fit k.bus.periods.0 unit (told unit number value k).notes))) (λ t. rw t (omega arith)))
told_fit k period o long = rw (← one_told k) (ran_fit k 1 o long)

pub notes_fit : laws.NotesFit
notes_fit s c h = told_fit (shown s) c (order s h) (exact s h).octets_fit

pub run_notes_fit : laws.RunNotesFit
run_notes_fit s most h = ran_fit (shown s) most (order s h) (exact s h).octets_fit

-- ---- What a call leaves.
pub octets_called : (k : Kept) (c : Call) → InOrder k → length (called k c).octets ≡ length k.octets
unfolding called
octets_called k (event unit number value) o = refl
octets_called k period o = (run_left 1 k o).octets_long

left_stored : (s : List ℕ) (c : Call) → is_bus s ≡ true → StoredAndShown (called (shown s) c)
left_stored s c h =
    let o = order_called (shown s) c (order s h) in
    round_trip (called (shown s) c) (order_reply 0 (called (shown s) c) o) (octets_called (shown s) c (order s h) ∙ (exact s h).octets_fit)

-- ---- What stands for a bus, through the calls of document 01 and through a run of periods.
periods_admitted : (n : ℕ) (k : Kept) → AllAdmitted (calls_in n k)
unfolding calls_in AllAdmitted
periods_admitted zero k = tt
periods_admitted (suc n) k = (tt, by_test (run_goes_on (once 1 k) n) (λ t. rw t (periods_admitted n (kept_after 1 k))) (λ t. rw t tt))

admitted : (c : Call) → OctetValue c → AllAdmitted (lend c ∷ [])
unfolding lend AllAdmitted
admitted (event unit number value) v = (v, tt)
admitted period v = (tt, tt)

pub ran_append : (b : Bus) (xs ys : List Call) → after_all b (xs ++ ys) ≡ after_all (after_all b xs) ys
unfolding after_all
ran_append b [] ys = refl
ran_append b (x ∷ xs) ys = ran_append (after b x) xs ys

record Goes (b : Bus) (calls : List Call) (reply : ℕ) (left : Kept) (told : List Note) : Type 0 where
  carries : Carries (settled left) (after_all b calls)
  replies : reply ≡ laws.first_reply b calls
  tells : told ≡ notes_of_all b calls

module _ (s : List ℕ) (b : Bus) (h : is_bus s ≡ true) (start : Sound b) (c : Carries (shown s) b) where
  -- a list of calls on what the octets stand for: its notes, and what it leaves
  carried : (calls : List LentCall) → AllAdmitted calls
      → (notes_of_calls (shown s) calls ≡ notes_of_all b (made calls)) × Carries (left_all (shown s) calls) (after_all b (made calls))
  unfolding Same
  carried calls m = same_all (shown s) b calls [] m (lists_carried_from (shown s) b (calls ++ []) c start)

  one_goes : (x : Call) → OctetValue x → Goes b (made (lend x ∷ [])) (replied (shown s) x) (called (shown s) x) (notes_told (shown s) x)
  unfolding after_all
  one_goes x v =
      let a = carried (lend x ∷ []) (admitted x v) in
      record {
        carries = rw (one_left x) a.1;
        replies = (call_carried (shown s) b c (sound_fits b start) x v).replies ∙ one_reply x;
        tells = sym (one_told x) ∙ a.0;
      }
    where
      one_left : (y : Call) → settled (called (shown s) y) ≡ left_all (shown s) (lend y ∷ [])
      one_left (event unit number value) = unfold left_all left_by lend in refl
      one_left period = unfold left_all left_by lend finds shown in refl

      one_reply : (y : Call) → reply b y ≡ laws.first_reply b (made (lend y ∷ []))
      one_reply (event unit number value) = unfold laws.first_reply made lend is_lent call_of in refl
      one_reply period = unfold laws.first_reply made lend is_lent call_of in refl

      one_told : (y : Call) → notes_of_calls (shown s) (lend y ∷ []) ≡ notes_told (shown s) y
      one_told (event unit number value) = unfold notes_of_calls lend finds call_of in append-nil _
      one_told period = unfold notes_of_calls lend finds call_of shown in append-nil _

  none_left : Carries (settled (kept_after 0 (shown s))) (after_all b [])
  unfolding kept_after kept_on after_all
  none_left = settled_carries (shown s) b c

  run_goes : (most : ℕ) → Goes b (made (calls_in most (shown s))) (once most (shown s)).reply (kept_after most (shown s)) (run_told most (shown s))
  unfolding laws.first_reply calls_in after_all notes_of_all made is_lent call_of shown
  run_goes zero = record { carries = none_left; replies = none_refused s h; tells = none_told s h }
  run_goes (suc n) =
      let r = runs_are_calls n (shown s) in
      let a = carried (calls_in (suc n) (shown s)) (periods_admitted (suc n) (shown s)) in
      record {
        carries = rw r.leaves a.1;
        replies = r.replies ∙ (call_carried (shown s) b c (sound_fits b start) period tt).replies;
        tells = r.tells ∙ a.0;
      }

-- ---- A run without notes.

-- the notes of a call that fit stand in the room whole
whole : (room text : List ℕ) → length text ≤ notes_room → notes_room ≤ length room → take (length text) (laid room 0 text) ≡ text
whole room text fits large = rw (laid_front text room (omega arith)) (take-append_seam text _)

-- notes that begin with their end are none
no_notes_lem : (room : List ℕ) (notes : List Note) → coded notes ≡ true → length (notes_octets notes) ≤ notes_room → notes_room ≤ length room
    → get_or (laid room 0 (notes_octets notes)) 0 0 ≡ 0 → notes ≡ []
unfolding coded notes_octets notes_in note_octets
no_notes_lem room [] c fits large z = refl
no_notes_lem room (n ∷ ns) c fits large z =
    let code = (both (is_code n.code) (coded ns) c).0 in
    let first : n.code % 256 ≡ 0 = rw (laid_front (notes_octets (n ∷ ns)) room (omega arith)) at z in
    by_test (eqb n.code 0)
    (λ t. clash false (rw t at code) refl)
    (λ t.
    let small : n.code < 256 = ltb-true n.code 256 (rw t at code) in
    absurd (eqb-false n.code 0 t (omega arith)))

pub quiet_run_ends : laws.QuietRunEnds
unfolding host_run_reply host_run_bus host_run_notes reply_with bus_with notes_with settled
quiet_run_ends s room until z first =
    by_test (eqb (reason s room) 0)
    (λ t.
    let most : ℕ = most_to until s in
    let r = eqb-true _ _ t in
    let h = lent_bus s _ _ (reason s room) refl r in
    let y : (once most (shown s)).reply ≡ 0 = rw t at z in
    let e = no_notes_lem room (run_told most (shown s)) (run_coded s h most) (run_notes_fit s most h) (lent_room s _ _ (reason s room) refl r) (rw (t, eq-eqb _ _ y) at first) in
    rw (t, (left_fits s h most).shown_is) (omega (arith, quiet-ends.quiet_run_ends most (shown s) y e)))
    (λ t. absurd (eqb-false _ _ t (rw t at z)))

-- ---- Lists.

-- the parts of a call, whose notes fit, and what it leaves is a bus
record Parts (s : List ℕ) (x : laws.HostCall) (reply : ℕ) (left : Kept) (told : List Note) : Type 0 where
  reply_is : laws.reply_to s x ≡ reply_with s (laws.room_of x) reply
  bus_is : laws.bus_after s x ≡ bus_with s (laws.room_of x) left
  notes_are : laws.notes_after s x ≡ notes_with s (laws.room_of x) reply told
  refused : (laws.reply_to s x ≡ 0 → ⊥) → laws.Untouched s (laws.room_of x) (laws.bus_after s x) (laws.notes_after s x)
  silent : (reply ≡ 0 → ⊥) → told ≡ []
  fits : length (notes_octets told) ≤ notes_room
  fits_octets : AllFitOctets told
  stored : StoredAndShown left

-- the call is as the rules have it, and the octets that it leaves stand for the bus after it
abbrev Steps : Bus → List ℕ → laws.HostCall → Type 0
Steps b s x = laws.SteppedBy b s x × laws.OctetsCarry (laws.bus_after s x) (after_all b (laws.calls_of_host s x))

module _ (s : List ℕ) (b : Bus) (o : laws.OctetsCarry s b) (x : laws.HostCall) (reply : ℕ) (left : Kept) (told : List Note)
    (p : Parts s x reply left told) (g : Goes b (made (laws.asked s x)) reply left told) where
  -- with room
  module _ (t : ltb (length (laws.room_of x)) notes_room ≡ false) where
    passed : eqb (reason s (laws.room_of x)) 0 ≡ true
    unfolding lent_reason
    passed = rw (o.is_bus_lem, t)

    asked_for : laws.calls_of_host s x ≡ made (laws.asked s x)
    unfolding laws.calls_of_host
    asked_for = rw t

    reply_with_lem : laws.reply_to s x ≡ reply
    unfolding reply_with
    reply_with_lem = p.reply_is ∙ rw passed

    handed : laws.HandsBack s x told
    unfolding notes_with reply_with
    handed =
        record {
          written = λ y. rw (p.notes_are, passed, eq-eqb _ _ (sym reply_with_lem ∙ y))
              (whole (laws.room_of x) (notes_octets told) p.fits (ltb-false _ _ t));
          none = λ n. p.silent (λ z. n (reply_with_lem ∙ z));
        }

    enough_steps : laws.SteppedBy b s x
    enough_steps =
        record {
          replies = rw (t, asked_for) (reply_with_lem ∙ g.replies);
          tells = rw (asked_for, ← g.tells) handed;
          alone = λ ns f read. rw (asked_for, ← g.tells) (hands_back_one s x ns told f p.fits_octets read handed);
          refused = p.refused;
        }

    enough_left : laws.OctetsCarry (laws.bus_after s x) (after_all b (laws.calls_of_host s x))
    unfolding bus_with settled
    enough_left = rw (asked_for, p.bus_is, passed) (record { is_bus_lem = p.stored.is_bus_lem; carries = rw p.stored.shown_is g.carries })

  -- with too little
  module _ (t : ltb (length (laws.room_of x)) notes_room ≡ true) where
    too_short : reason s (laws.room_of x) ≡ 2
    unfolding lent_reason
    too_short = rw (o.is_bus_lem, t)

    none_made : laws.calls_of_host s x ≡ []
    unfolding laws.calls_of_host
    none_made = rw t

    two : laws.reply_to s x ≡ 2
    unfolding reply_with
    two = p.reply_is ∙ rw too_short

    short_steps : laws.SteppedBy b s x
    unfolding notes_of_all
    short_steps =
        record {
          replies = rw (t, two);
          tells = rw none_made (record { written = λ y. absurd (omega (arith, two)); none = λ n. refl });
          alone = λ ns f read. rw none_made (read.none (λ y. omega (arith, two)));
          refused = p.refused;
        }

    short_left : laws.OctetsCarry (laws.bus_after s x) (after_all b (laws.calls_of_host s x))
    unfolding after_all
    short_left = rw (none_made, (p.refused (λ y. omega (arith, two))).bus_stays) o

  steps : Steps b s x
  steps =
      by_test (ltb (length (laws.room_of x)) notes_room) (λ t. (short_steps t, short_left t)) (λ t. (enough_steps t, enough_left t))

-- the parts of an event or a period, and of a run
module _ (s room : List ℕ) (h : is_bus s ≡ true) where
  step_parts : (x : Call) → Parts s (step x room) (replied (shown s) x) (called (shown s) x) (notes_told (shown s) x)
  unfolding laws.reply_to laws.bus_after laws.notes_after laws.room_of host_reply host_bus host_notes
  step_parts x =
      record {
        reply_is = refl;
        bus_is = refl;
        notes_are = refl;
        refused = refused_keeps s room x;
        silent = Turned-down.refused_tells_none (shown s) x;
        fits = notes_fit s x h;
        fits_octets = notes_fit_octets s x h;
        stored = left_stored s x h;
      }

  run_parts : (until : ℕ)
      → Parts s (run_to until room) (once (most_to until s) (shown s)).reply (kept_after (most_to until s) (shown s)) (run_told (most_to until s) (shown s))
  unfolding laws.reply_to laws.bus_after laws.notes_after laws.room_of host_run_reply host_run_bus host_run_notes run_told
  run_parts until =
      record {
        reply_is = refl;
        bus_is = refl;
        notes_are = refl;
        refused = refused_run_keeps s room (most_to until s);
        silent = λ n. rw (ne_eqb _ _ n);
        fits = run_notes_fit s (most_to until s) h;
        fits_octets = run_notes_fit_octets s (most_to until s) h;
        stored = left_fits s h (most_to until s);
      }

pub lists_stepped_from : laws.ListsSteppedFrom
unfolding laws.SteppedAll laws.asked
lists_stepped_from s b [] o start = o
lists_stepped_from s b (step x room ∷ more) o start = (
  o,
  λ v.
      let n = steps s b o (step x room) _ _ _ (step_parts s room o.is_bus_lem x) (one_goes s b o.is_bus_lem start o.carries x v) in
      (n.0, lists_stepped_from (laws.bus_after s (step x room)) (after_all b (laws.calls_of_host s (step x room))) more n.1 (sound_after b _ start)),
)
lists_stepped_from s b (run_to until room ∷ more) o start = (
  o,
  λ v.
      let n = steps s b o (run_to until room) _ _ _ (run_parts s room o.is_bus_lem until) (run_goes s b o.is_bus_lem start o.carries (most_to until s)) in
      (n.0, lists_stepped_from (laws.bus_after s (run_to until room)) (after_all b (laws.calls_of_host s (run_to until room))) more n.1 (sound_after b _ start)),
)

-- ---- The fresh bus.
pub zeros_long : (n : ℕ) → length (replicate {A = ℕ} n 0) ≡ n
zeros_long n = length-replicate n 0

pub zeros_are_letters : are_letters (replicate line_length 0) ≡ true
unfolding fits within
zeros_are_letters = refl

pub fresh_carry : laws.OctetsCarry fresh_octets fresh_bus
unfolding fresh_octets fresh_zeros
fresh_carry =
    let e = zeros_long longest_body in
    let c : Carries fresh_zeros fresh_bus =
    fresh_carries (replicate images_room 0) (replicate longest_body 0) (replicate line_length 0) (zeros_long images_room) (omega arith) zeros_are_letters in
    let f : StoredAndShown fresh_zeros =
    round_trip fresh_zeros
    (fresh_ready (replicate images_room 0) (replicate longest_body 0) (replicate line_length 0) (zeros_long images_room) (omega arith) zeros_are_letters) e in
    record { is_bus_lem = f.is_bus_lem; carries = rw f.shown_is c }

pub lists_stepped : laws.ListsStepped
lists_stepped calls = lists_stepped_from fresh_octets fresh_bus calls fresh_carry sound_fresh
