-- A run alone is a turn: the law `alone_turns`.
use Rattle.std.proofs.Common.{◌≡◌, ◌≢◌, ℕ, ◌-◌, ◌<◌, List, refl, ap, sym, ◌∙◌, arith}
use Rattle.slice_lemmas.specs.Over.{map_from}
use Rattle.terminal.specs.declared.Terminal.{Terminal}
use Rattle.period_hearing.specs.Hears.{silenced}
use Rattle.period_hearing.specs.declared.hears.UnitNotes.{UnitNotes}
use Rattle.bus_record.specs.declared.record.BusRecord.{BusRecord}
use Rattle.lone_sender.specs.Lone.{followed}
use Rattle.lone_sender.specs.Alone.{alone_run, alone_run_octets}
use Rattle.lone_sender.specs.Search.{searched, alone_for}
use Rattle.lone_sender.specs.declared.lone.LoneSender.{LoneSender}
use Rattle.lone_sender.specs.declared.alone.Alone.{Alone}
use Rattle.lone_sender.specs.declared.search.Search.{Search}
use Rattle.bus_call_specs.specs.Kept.{kept}
use Rattle.idle_periods.specs.Turn.{Turns}
use Rattle.idle_periods.proofs.AloneTurns.{none_run, alone_turns}
use Rattle.bus_calls.specs.declared.turn.Turn.{Turn}
use Rattle.bus_calls.proofs.turn.advance.Goals as goal

module _ (bus : BusRecord) (ys : List Terminal) (es os ls : List ℕ) (us : List UnitNotes) (left : ℕ) where
  -- from the lists, with these octets
  abbrev Promised : List ℕ → Turn → List Terminal → List ℕ → List UnitNotes → Type 0
  Promised octets r ts octs ns = Turns left (kept bus ys es octets ls us) r.answer r.over (kept r.answer.bus ts es octs ls ns)

  abbrev RunsAlone : LoneSender → ℕ → Alone → List ℕ → Type 0
  RunsAlone b most a octets = (a ≡ alone_run es most bus b os) × (octets ≡ alone_run_octets es most bus b os)

  module _ (b : LoneSender) (most : ℕ) (a : Alone) (octets : List ℕ) (ran : RunsAlone b most a octets) where
    -- no period has been run alone
    none_alone : a.over ≡ 0 → octets ≡ os
    none_alone z = ran.1 ∙ none_run es most bus b os (ap (λ (x : Alone). x.over) (sym ran.0) ∙ z)

    alone_promised : (found : Search) → found ≡ searched bus.periods left ys → b ≡ found.lone → most ≡ alone_for found → most ≢ 0
        → a.over ≢ 0 → (ts : List Terminal) → ts ≡ map_from (followed a.lone) 0 ys → (ns : List UnitNotes)
        → ns ≡ map_from silenced 0 us → Promised os (record { answer = a.answer; over = a.over - 1 }) ts octets ns
    alone_promised found is_found is_b is_most some over ts is_ts ns is_ns =
        let k = kept bus ys es os ls us in
        let look = searched bus.periods left ys in
        let m : most ≡ alone_for look = is_most ∙ ap alone_for is_found in
        let s : b ≡ look.lone = is_b ∙ ap (λ (x : Search). x.lone) is_found in
        let r : a ≡ alone_run es (alone_for look) bus look.lone os = rw (m, s) at ran.0 in
        let o : octets ≡ alone_run_octets es (alone_for look) bus look.lone os = rw (m, s) at ran.1 in
        let search : 0 < alone_for look = omega arith in
        let on : 0 < a.over = omega arith in
        let run : 0 < (alone_run es (alone_for look) bus look.lone os).over = rw r at on in
        rw (is_ts, is_ns, o, r) (alone_turns left k search run)

pub returns-then-alone-eq0 : goal.returns-then-alone-eq0
returns-then-alone-eq0 c =
    let r = c.run_alone-alone.ensures in
    let same =
    none_alone c.args.bus c.args.terminals.now c.args.images.now c.args.octets.now c.args.letters.now c.args.notes.now c.args.left _ _ _ _
    (r.value, r.octets_after) c.if-alone-eq0.true in
    rw same at c.leap_on-then-alone-eq0.ensures

pub returns : goal.returns
returns c =
    let r = c.run_alone-alone.ensures in
    alone_promised c.args.bus c.args.terminals.now c.args.images.now c.args.octets.now c.args.letters.now c.args.notes.now c.args.left
    _ _ _ _ (r.value, r.octets_after) _ c.find-found.ensures refl c.alone_for-most.ensures c.if-most-eq0.false c.if-alone-eq0.false
    _ c.follow.ensures _ c.silence.ensures
