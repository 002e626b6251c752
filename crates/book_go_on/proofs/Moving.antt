-- What each answer of the book's reader makes a step do (specs/Steps.antt), by the laws of crate `report` (AheadLaws).
use mathlib.Core.Path.{◌≡◌, refl}
use mathlib.Core.Bool.{Bool, true, false}
use mathlib.Core.List.{List, [], ◌∷◌, ◌++◌}
use Prim.Native.Nat.{ℕ, ◌+◌, ◌-◌, ◌≤◌, ◌<◌}
use native.Mathlib.Omega.{arith}
use lib.Dec.{leb}
use lib.ListN.{length, drop, length-append}
use borrow.Author.Tests.{leb-false}
use Rattle.test_lemmas.proofs.ByCases.{clash}
use Rattle.text.specs.declared.field.Ends.{Ends}
use Rattle.bus_rules.specs.Calls.{Call}
use Rattle.bus_call_specs.specs.Kept.{Kept}
use Rattle.book_line.specs.Line.{value_of, is_end}
use Rattle.book_reader.specs.Step.{at_lines, after_end, step_at, line_at, value_at}
use Rattle.book_reader.specs.Book.{first_line}
use Rattle.book_reader.specs.Book.Answer.{entry}
use Rattle.book_reader.specs.Parts.{past, to_come}
use Rattle.book_reader.specs.Laws.{Entered, First}
use Rattle.book_reader.specs.declared.step.Step.{Step}
use Rattle.book_reader.specs.declared.step.Step.TheVariants.{Begun, Entry, Done, Fault, More}
use Rattle.book_reader.proofs.Cut.{call_law}
use Rattle.book_reader.proofs.RunOn.{entered, run_on_step}
use Rattle.note_text.specs.Room.{Put}
use Rattle.note_text.specs.NoteText.{decimal, heading, notes_text, stopped_line}
use Rattle.note_text.proofs.DecimalLaws.{decimal_length}
use Rattle.note_text.proofs.RoomLaws.{put_put, put_none, put_length}
use Rattle.period_text.specs.PeriodText.{period_room}
use Rattle.report.specs.Told.{book_told, all_book_told}
use Rattle.report.specs.Ahead.{BookState, answers_ahead, TEXT, ROOM, OVER}
use Rattle.report.proofs.AheadLaws as ahead
use Rattle.report.proofs.AheadLaws.{UnderWay}
use Rattle.book_go_on.specs.Progress.{book_state_of, turned}
use Rattle.book_go_on.specs.RunTo.{periods_to, RunsTo, given, Gives}
use Rattle.book_go_on.specs.Steps.{Moves, to_do, Steps, StepsBy}
use Rattle.book_go_on.specs.declared.progress.GoneOn.{GoneOn}

-- ---- Moves: by a law, none, and one after another.
module _ {text : List ℕ} {whole : Bool} where
  pub moves_by : {s : BookState} {at : ℕ} {room : List ℕ} {wrote : ℕ} {s' : BookState} {at' : ℕ} {room' : List ℕ} {wrote' : ℕ} (made : List Call) (new : List ℕ)
      → ((later : List ℕ) → (whole ≡ true → later ≡ []) → ahead.Moves s (drop at text ++ later) made new s' (drop at' text ++ later))
      → Put room wrote new wrote' room' → wrote + length new ≤ length room → (at ≤ length text → at' ≤ length text)
      → Moves text whole s at room wrote s' at' room' wrote'
  moves_by made new m put fits within =
      record {
        made = made;
        left = (m [] (λ w. refl)).kept_is;
        calls = λ later fit. (m later fit).calls_are;
        new = new;
        says = λ later fit. (m later fit).text_is;
        put = put;
        fits = fits;
        within = within;
      }

  pub moves_none : (s : BookState) (at : ℕ) (room : List ℕ) (wrote : ℕ) → wrote ≤ length room → Moves text whole s at room wrote s at room wrote
  moves_none s at room wrote h =
      moves_by [] [] (λ later fit. ahead.moves_none s (drop at text ++ later)) (put_none room wrote h) (omega arith) (λ w. w)

  pub law_of : {s : BookState} {at : ℕ} {room : List ℕ} {wrote : ℕ} {s' : BookState} {at' : ℕ} {room' : List ℕ} {wrote' : ℕ}
      (m : Moves text whole s at room wrote s' at' room' wrote')
      (later : List ℕ) → (whole ≡ true → later ≡ []) → ahead.Moves s (drop at text ++ later) m.made m.new s' (drop at' text ++ later)
  law_of m later fit = record { kept_is = m.left; calls_are = m.calls later fit; text_is = m.says later fit }

  pub moves_then : {s : BookState} {at : ℕ} {room : List ℕ} {wrote : ℕ} {s₁ : BookState} {at₁ : ℕ} {room₁ : List ℕ} {w₁ : ℕ}
      {s₂ : BookState} {at₂ : ℕ} {room₂ : List ℕ} {w₂ : ℕ}
      → Moves text whole s at room wrote s₁ at₁ room₁ w₁ → Moves text whole s₁ at₁ room₁ w₁ s₂ at₂ room₂ w₂
      → Moves text whole s at room wrote s₂ at₂ room₂ w₂
  moves_then a b =
      moves_by (a.made ++ b.made) (a.new ++ b.new) (λ later fit. ahead.moves_then (law_of a later fit) (law_of b later fit))
      (put_put a.put b.put)
      (omega (arith, length-append a.new b.new, a.fits, a.put.wrote_is, b.fits, put_length a.put))
      (λ h. b.within (a.within h))

-- ---- Steps: one that goes on, and the three that stop.
module _ {text : List ℕ} {whole : Bool} {s : BookState} {at : ℕ} {room : List ℕ} {wrote : ℕ} {s' : BookState} {at' : ℕ} {room' : List ℕ} {wrote' : ℕ}
    (m : Moves text whole s at room wrote s' at' room' wrote') where
  pub steps_on : to_do text s' at' < to_do text s at → s'.over ≡ false → Steps text whole s at room wrote s' at' room' wrote' 0
  steps_on h o =
      record {
        moves = m;
        on = λ z. h;
        for_text = λ z. absurd (omega arith);
        for_room = λ z. absurd (omega arith);
        finished = λ z. absurd (omega arith);
        over_said = λ z. clash s'.over z o;
        listed = omega arith;
      }

  pub stops_text : whole ≡ false → s'.over ≡ false → s'.begun ≡ true
      → step_at text at' s'.stage (ahead.run s') false ≡ More → Steps text whole s at room wrote s' at' room' wrote' TEXT
  stops_text c o b h =
      record {
        moves = m;
        on = λ z. absurd (omega arith);
        for_text = λ z. (c, o, b, h);
        for_room = λ z. absurd (omega arith);
        finished = λ z. absurd (omega arith);
        over_said = λ z. clash s'.over z o;
        listed = omega arith;
      }

  pub stops_room : leb (wrote' + period_room) (length room') ≡ false → s'.over ≡ false → Steps text whole s at room wrote s' at' room' wrote' ROOM
  stops_room h o =
      let full = leb-false (wrote' + period_room) (length room') h in
      record {
        moves = m;
        on = λ z. absurd (omega arith);
        for_text = λ z. absurd (omega arith);
        for_room = λ z. omega (arith, put_length m.put);
        finished = λ z. absurd (omega arith);
        over_said = λ z. clash s'.over z o;
        listed = omega arith;
      }

  pub stops_over : s'.over ≡ true → Steps text whole s at room wrote s' at' room' wrote' OVER
  stops_over h =
      record {
        moves = m;
        on = λ z. absurd (omega arith);
        for_text = λ z. absurd (omega arith);
        for_room = λ z. absurd (omega arith);
        finished = λ z. h;
        over_said = λ z. refl;
        listed = omega arith;
      }

-- a step to another place is one by so many octets
pub steps_at : {text : List ℕ} {whole : Bool} {s : BookState} {at : ℕ} {room : List ℕ} {wrote : ℕ} {s' : BookState} {at' : ℕ} {room' : List ℕ} {wrote' why : ℕ}
    (taken : ℕ) → Steps text whole s at room wrote s' at' room' wrote' why → at' ≡ at + taken
    → Steps text whole s at room wrote s' (at + taken) room' wrote' why
steps_at taken t e = rw e at t

-- where the text goes on and the report has its first line
pub less_text : (text : List ℕ) (s s' : BookState) (at at' : ℕ) → s.begun ≡ true → s'.begun ≡ true → at < at' → at < length text
    → to_do text s' at' < to_do text s at
unfolding to_do
less_text text s s' at at' b b' h l = rw (b, b') (omega arith)

-- ---- A line.
module _ (text : List ℕ) (whole : Bool) (s : BookState) (at : ℕ) (room : List ℕ) (wrote period unit number : ℕ) (ends : Ends) (size : ℕ) (way : UnderWay s)
    (q : step_at text at s.stage (ahead.run s) whole ≡ Entry period unit number ends size)
    (k₁ : Kept) (w₁ : ℕ) (room₁ : List ℕ) (r : RunsTo s.kept period room wrote k₁ w₁ room₁) where
  abbrev s₁ : BookState
  s₁ = record { kept = k₁; stage = s.stage; begun = s.begun; over = s.over }

  abbrev value : List ℕ
  value = value_of (line_at text at size)

  found : Entered text at s.stage (ahead.run s) period unit number ends size
  found = entered text at s.stage (ahead.run s) whole period unit number ends size q

  -- what the book says, whatever number of periods up to the line's is run
  said : (last : ℕ) → last ≤ period → (later : List ℕ) → (whole ≡ true → later ≡ [])
      → to_come (record { stage = s.stage; last = last }) (drop at text ++ later)
      ≡ entry period unit number value ∷ to_come (past period unit number) (drop (at + size) text ++ later)
  said last h later fit =
      (call_law (record { stage = s.stage; last = last }) text at whole later fit (Entry period unit number ends size)
      (run_on_step text at s.stage (ahead.run s) whole period unit number ends size last h q)).said

  pub line_ran : Moves text whole s at room wrote s₁ at room₁ w₁
  unfolding answers_ahead
  line_ran =
      moves_by (periods_to s.kept k₁) (notes_text (all_book_told s.kept (periods_to s.kept k₁)))
      (λ later fit. ahead.run_ahead s s₁ (drop at text ++ later) period unit number (ahead.run s₁ - ahead.run s) value
      (to_come (past period unit number) (drop (at + size) text ++ later)) way (record { begun_is = way.begun_is; over_is = way.over_is })
      r.left (omega (arith, r.from)) (omega (arith, r.from, r.up_to))
      (said (ahead.run s) found.after later fit) (said (ahead.run s₁) r.up_to later fit))
      r.put r.fits (λ h. h)

  -- the line is taken, at its period
  module _ (there : ahead.run s₁ ≡ period) where
    wrote_fits : w₁ ≤ length room₁
    wrote_fits = omega (arith, r.put.wrote_is, put_length r.put)

    pub line_ends : is_end unit number ≡ true
        → Steps text whole s at room wrote (record { kept = k₁; stage = after_end; begun = s.begun; over = s.over }) (at + size) room₁ w₁ 0
    unfolding answers_ahead
    line_ends t =
        let s₂ : BookState = record { kept = k₁; stage = after_end; begun = s.begun; over = s.over } in
        let way₁ : UnderWay s₁ = record { begun_is = way.begun_is; over_is = way.over_is } in
        let way₂ : UnderWay s₂ = record { begun_is = way.begun_is; over_is = way.over_is } in
        steps_on
        (moves_then line_ran
        (moves_by [] []
        (λ later fit. ahead.end_ahead s₁ s₂ (drop at text ++ later) (drop (at + size) text ++ later) period unit number value way₁ way₂ refl refl there t
        (said (ahead.run s₁) r.up_to later fit))
        (put_none room₁ w₁ wrote_fits) (omega (arith, wrote_fits)) (λ h. omega (arith, found.within))))
        (less_text text s s₂ at (at + size) way.begun_is way.begun_is (omega (arith, found.lf)) (omega (arith, found.lf, found.within)))
        way.over_is

    pub line_gives : is_end unit number ≡ false → (k₂ : Kept) (w₂ : ℕ) (room₂ : List ℕ)
        → Gives k₁ unit number (value_at text at (Entry period unit number ends size)) room₁ w₁ k₂ w₂ room₂
        → Steps text whole s at room wrote (record { kept = k₂; stage = at_lines; begun = s.begun; over = s.over }) (at + size) room₂ w₂ 0
    unfolding answers_ahead
    line_gives t k₂ w₂ room₂ gives =
        let g : Gives k₁ unit number value room₁ w₁ k₂ w₂ room₂ = rw found.value_is at gives in
        let s₂ : BookState = record { kept = k₂; stage = at_lines; begun = s.begun; over = s.over } in
        let way₁ : UnderWay s₁ = record { begun_is = way.begun_is; over_is = way.over_is } in
        let way₂ : UnderWay s₂ = record { begun_is = way.begun_is; over_is = way.over_is } in
        steps_on
        (moves_then line_ran
        (moves_by (given unit number value ∷ []) (notes_text (book_told k₁ (given unit number value)))
        (λ later fit. ahead.event_ahead s₁ s₂ (drop at text ++ later) (drop (at + size) text ++ later) period unit number value way₁ way₂
        g.left refl there t
        (said (ahead.run s₁) r.up_to later fit))
        g.put g.fits (λ h. omega (arith, found.within))))
        (less_text text s s₂ at (at + size) way.begun_is way.begun_is (omega (arith, found.lf)) (omega (arith, found.lf, found.within)))
        way.over_is

-- ---- The other answers, and the report's first line. Here the later stands are those of `turned` (specs/Progress.antt).

-- the text of `stopped` fits
pub stopped_fits : (n : ℕ) → n < 256 → length (stopped_line n) ≤ period_room
unfolding stopped_line
stopped_fits n h = omega (arith, length-append (decimal n) (10 ∷ []), decimal_length 2 n (omega arith))

module _ (text : List ℕ) (whole : Bool) (k : Kept) (stage : ℕ) (begun over : Bool) (at : ℕ) (room : List ℕ) (wrote : ℕ)
    (fits : wrote ≤ length room) where
  abbrev now : BookState
  now = record { kept = k; stage = stage; begun = begun; over = over }

  abbrev run : ℕ
  run = k.bus.periods.0

  module _ (b : begun ≡ true) (o : over ≡ false) where
    way : UnderWay now
    way = record { begun_is = b; over_is = o }

    pub step_first : step_at text at stage run whole ≡ Begun
        → Steps text whole now at room wrote (record { kept = k; stage = at_lines; begun = begun; over = over }) (at + length first_line) room wrote 0
    unfolding answers_ahead
    step_first e =
        let s' : BookState = record { kept = k; stage = at_lines; begun = begun; over = over } in
        let law : (later : List ℕ) → (whole ≡ true → later ≡ []) → First (record { stage = stage; last = run }) text at whole later =
        λ later fit. call_law (record { stage = stage; last = run }) text at whole later fit Begun e in
        let f = law [] (λ w. refl) in
        steps_on
        (moves_by [] []
        (λ later fit. ahead.first_ahead_lem now s' (drop at text ++ later) (drop (at + length first_line) text ++ later) way
        (record { begun_is = b; over_is = o }) refl refl
        (law later fit).said)
        (put_none room wrote fits) (omega arith) (λ h. f.within))
        (less_text text now s' at (at + length first_line) b b (omega arith) (omega (arith, f.within)))
        o

    pub step_done : step_at text at stage run whole ≡ Done
        → Steps text whole now at room wrote (record { kept = k; stage = stage; begun = begun; over = true }) at room wrote OVER
    unfolding answers_ahead
    step_done e =
        let s' : BookState = record { kept = k; stage = stage; begun = begun; over = true } in
        stops_over
        (moves_by [] []
        (λ later fit. ahead.done_ahead now s' (drop at text ++ later) (drop at text ++ later) way refl refl
        (call_law (record { stage = stage; last = run }) text at whole later fit Done e))
        (put_none room wrote fits) (omega arith) (λ h. h))
        refl

    pub step_fault : (n : ℕ) → n < 256 → step_at text at stage run whole ≡ Fault n → wrote + period_room ≤ length room
        → (w : ℕ) (room' : List ℕ) → Put room wrote (stopped_line n) w room'
        → Steps text whole now at room wrote (record { kept = k; stage = stage; begun = begun; over = true }) at room' w OVER
    unfolding answers_ahead
    step_fault n h e enough w room' put =
        let s' : BookState = record { kept = k; stage = stage; begun = begun; over = true } in
        stops_over
        (moves_by [] (stopped_line n)
        (λ later fit. ahead.fault_ahead now s' (drop at text ++ later) (drop at text ++ later) way refl refl n []
        (call_law (record { stage = stage; last = run }) text at whole later fit (Fault n) e))
        put (omega (arith, stopped_fits n h)) (λ i. i))
        refl

    pub step_more : step_at text at stage run whole ≡ More → Steps text whole now at room wrote now at room wrote TEXT
    step_more e =
        let law = call_law (record { stage = stage; last = run }) text at whole [] (λ w. refl) More e in
        stops_text (moves_none now at room wrote fits) law.cut o b (rw law.cut at e)

  pub step_full : leb (wrote + period_room) (length room) ≡ false → over ≡ false → Steps text whole now at room wrote now at room wrote ROOM
  step_full h o = stops_room (moves_none now at room wrote fits) h o

  pub step_over : over ≡ true → Steps text whole now at room wrote now at room wrote OVER
  step_over h = stops_over (moves_none now at room wrote fits) h

  pub step_heading : over ≡ false → begun ≡ false → wrote + period_room ≤ length room → (w : ℕ) (room' : List ℕ) → Put room wrote heading w room'
      → Steps text whole now at room wrote (record { kept = k; stage = stage; begun = true; over = over }) at room' w 0
  unfolding to_do
  step_heading o b enough w room' put =
      let s' : BookState = record { kept = k; stage = stage; begun = true; over = over } in
      let short : length heading ≤ period_room = unfold heading in omega arith in
      steps_on
      (moves_by [] heading (λ later fit. ahead.heading_ahead now s' (drop at text ++ later) b o (record { begun_is = refl; over_is = o }) refl refl)
      put (omega arith) (λ h. h))
      (rw b (omega arith))
      o

-- ---- As `turned` gives it back, so many octets further on.
module _ (w : GoneOn) (images octets letters room : List ℕ) where
  abbrev here : BookState
  here = book_state_of w.progress images octets letters

  -- what a return has to say
  abbrev Returns : Step → List ℕ → List ℕ → List ℕ → List ℕ → List ℕ → GoneOn → Type 0
  Returns said value images' octets' letters' room' x =
      StepsBy said value here room w.wrote (book_state_of x.progress images' octets' letters') x.taken room' x.wrote x.why

  pub turns : (said : Step) (value : List ℕ) (stage : ℕ) (begun over : Bool) (taken wrote why : ℕ) (room' : List ℕ)
      → ((text : List ℕ) (at : ℕ) (whole : Bool) → step_at text at here.stage (ahead.run here) whole ≡ said
      → Steps text whole here at room w.wrote (record { kept = here.kept; stage = stage; begun = begun; over = over }) (at + taken) room' wrote why)
      → (x : GoneOn) → x ≡ turned w stage begun over taken wrote why → Returns said value images octets letters room' x
  turns said value stage begun over taken wrote why room' s x e = rw e (λ text at whole r. s text at whole r.says)
