-- Refusals 5 to 8 of an event are the replies of `network` and `terminal`: 5 where their rules bar it, 6 to 8 by the access record.
use mathlib.Core.Path.{◌≡◌, refl, sym, ◌∙◌}
use mathlib.Core.Bool.{true, false, cond, not, ◌&&◌, ◌||◌}
use mathlib.Core.List.{List, [], ◌∷◌}
use Prim.Native.Nat.{ℕ}
use lib.Dec.{eqb, ltb}
use lib.ListN.{length}
use borrow.Author.Tests.{eqb-true, not-false}
use Rattle.test_lemmas.proofs.ByCases.{by_test, clash}
use Rattle.test_lemmas.proofs.Operators.{cond_not}
use Rattle.symbols.specs.Symbols.{line_length, fits}
use Rattle.combining.specs.Hit.{none_letter}
use Rattle.notes_and_cells.specs.Cells.{cell_of}
use Rattle.notes_and_cells.specs.declared.cell.Cell.{Cell}
use Rattle.notes_and_cells.specs.declared.cell.Cell.TheVariants.{To, Stay, Impossible, Absent}
use Rattle.hdlc.specs.Image.{image, is_body}
use Rattle.hdlc.proofs.ImageLaws.{is_body_lem}
use Rattle.dchannel.specs.Calls.{handed}
use Rattle.dchannel.specs.declared.access.Class.{Class}
use Rattle.dchannel.proofs.AccessLaws.{image_fits}
use Rattle.table_6_2.specs.Table62.{table62, F7}
use Rattle.table_6_2.specs.Table62 as Table62
use Rattle.table_6_3.specs.Table63.{table63}
use Rattle.table_6_3.specs.Table63 as Table63
use Rattle.network.specs.Network as network
use Rattle.network.specs.declared.Network.{Network}
use Rattle.terminal.specs.Terminal as terminal
use Rattle.terminal.specs.Calls as terminalCalls
use Rattle.terminal.specs.declared.Terminal.{Terminal}
use Rattle.terminal.proofs.Laws.{handed_over_called}
use Rattle.bus_rules.specs.Bus.{Bus, terminals}
use Rattle.notes_and_cells.specs.Events.{ON, OFF, AR, DR, D1, D2, HIT}
use Rattle.bus_rules.specs.Event.{among, network_events, station_of, class_of, event_for, bars_network, bars_terminal, bars, call_reasons, state_reasons, reasons, first_holding, refusal, network_does, terminal_does}
use Rattle.bus_rules.proofs.Refusals.{numbers_of, holds, none_holds, first_append}

-- ---- power and requests: the reply is 5 where the rules bar the event, and 0 at every cell
network_reply : (c : Cell) (now : ℕ) (n : Network) → (network.acts c now n).reply ≡ 0
unfolding network.acts
network_reply (To next action notes) now n = refl
network_reply (Stay notes) now n = refl
network_reply Impossible now n = refl
network_reply Absent now n = refl

network_happens : (e now : ℕ) (n : Network) → (network.happens e now n).reply ≡ 0
unfolding network.happens
network_happens e now n = network_reply (cell_of table63 e n.state) now n

terminal_reply : (c : Cell) (now : ℕ) (t : Terminal) → (terminal.acts c now t).reply ≡ 0
unfolding terminal.acts
terminal_reply (To next action notes) now t = refl
terminal_reply (Stay notes) now t = refl
terminal_reply Impossible now t = refl
terminal_reply Absent now t = refl

terminal_happens : (e now : ℕ) (t : Terminal) → (terminal.happens e now t).reply ≡ 0
unfolding terminal.happens
terminal_happens e now t = terminal_reply (cell_of table62 e t.state) now t

pub network_bars : (number now : ℕ) (n : Network) → (eqb number AR || eqb number DR) ≡ true → (network_does number now n).reply ≡ cond (bars_network number n.state) 5 0
unfolding network_does network.requests bars_network
network_bars number now n k =
    by_test (eqb number AR)
    (λ t. rw t (by_test (network.bars Table63.ar_row n.state) (λ u. rw u) (λ u. rw u (network_happens Table63.ar_row now n))))
    (λ t.
    let d : eqb number DR ≡ true = rw t at k in
    rw (t, d) (by_test (network.bars Table63.dr_row n.state) (λ u. rw u) (λ u. rw u (network_happens Table63.dr_row now n))))

pub terminal_bars : (number now : ℕ) (t : Terminal) → (terminal_does number now t).reply ≡ cond (bars_terminal number t.state) 5 0
unfolding terminal_does terminal.switches_on terminal.switches_off terminal.requests bars_terminal
terminal_bars number now t =
    by_test (eqb number ON)
    (λ u. rw u (by_test (terminal.bars Table62.on_row t.state) (λ s. rw s) (λ s. rw s (terminal_happens Table62.on_row now _))))
    (λ u.
    by_test (eqb number OFF)
    (λ v. rw (u, v) (by_test (terminal.bars Table62.off_row t.state) (λ s. rw s) (λ s. rw s (terminal_happens Table62.off_row now _))))
    (λ v.
    by_test (eqb number AR)
    (λ w. rw (u, v, w) (by_test (terminal.bars Table62.ar_row t.state) (λ s. rw s) (λ s. rw s (terminal_happens Table62.ar_row now t))))
    (λ w. rw (u, v, w))))

-- events that give frames are barred by no table
gives_no_bar : (number state : ℕ) → eqb (class_of number) 0 ≡ false → bars_terminal number state ≡ false
unfolding class_of bars_terminal
gives_no_bar number state some =
    by_test (eqb number D1) (λ t. rw (eqb-true number D1 t))
    (λ t. by_test (eqb number D2) (λ u. rw (eqb-true number D2 u)) (λ u. clash true refl (rw (t, u) at some)))

-- ---- a frame with a body: 6 outside F7, 8 where one is held
pub frame_reply_lem : (class : Class) (body : List ℕ) (t : Terminal) → terminalCalls.terminal_in_range t ≡ true → is_body body ≡ true →
    (terminalCalls.hand_over_call class (length (image body)) t).reply ≡ cond (eqb t.state F7) (cond (eqb t.access.held 0) 0 8) 6
unfolding terminalCalls.hands_over terminalCalls.holding handed
frame_reply_lem class body t h k =
    rw (handed_over_called class (length (image body)) t h)
    (by_test (eqb t.state F7)
    (λ s. rw (s, image_fits body (is_body_lem body k)) (by_test (eqb t.access.held 0) (λ u. rw u) (λ u. rw u)))
    (λ s. rw s))

-- ---- the refusal of an event that is one for its unit, with letters that fit
-- a property of each of some numbers is one of a number that is among them
abbrev OfEach : (ℕ → Type 0) → List ℕ → Type 0
OfEach P [] = Unit
OfEach P (x ∷ xs) = P x × OfEach P xs

at_among : (P : ℕ → Type 0) (n : ℕ) (xs : List ℕ) → among n xs ≡ true → OfEach P xs → P n
at_among P n [] h ps = clash false h refl
at_among P n (x ∷ xs) h ps = by_test (eqb n x) (λ t. rw (eqb-true n x t) ps.0) (λ t. at_among P n xs (rw t at h) ps.1)

-- what the calls reply; 7 comes between 6 and 8 where the value is no body
unfoldable pub frame_reply : List ℕ → Terminal → ℕ
frame_reply value t = cond (eqb t.state F7) (cond (is_body value) (cond (eqb t.access.held 0) 0 8) 7) 6

unfoldable pub replied : Bus → ℕ → ℕ → List ℕ → ℕ
replied b unit number value =
    cond (eqb unit 0)
    (cond (eqb number HIT) 0 (network_does number b.periods b.network).reply)
    (cond (eqb (class_of number) 0) (terminal_does number b.periods (station_of b unit).terminal).reply (frame_reply value (station_of b unit).terminal))

pub frame_reasons : (value : List ℕ) (t : Terminal) →
    cond (not (eqb t.state F7)) 6 (cond (not (is_body value)) 7 (cond (not (eqb t.access.held 0)) 8 0)) ≡ frame_reply value t
unfolding frame_reply
frame_reasons value t = simp cond_not

-- ---- what the call itself decides
module _ (unit number : ℕ) (value : List ℕ) where
  pub none_is_0 : among 0 (numbers_of (call_reasons unit number value)) ≡ false
  unfolding call_reasons
  none_is_0 = refl

  module _ (none : first_holding (call_reasons unit number value) ≡ 0) where
    not_held : (n : ℕ) → holds n (call_reasons unit number value) ≡ false
    not_held n = none_holds (call_reasons unit number value) none_is_0 none n

    pub right_letters : (eqb number HIT && not (fits line_length none_letter value)) ≡ false
    unfolding call_reasons
    right_letters = not_held 2

    pub unit_known : ltb terminals unit ≡ false
    unfolding call_reasons
    unit_known = not_held 3

    pub for_its_unit : event_for unit number ≡ true
    unfolding call_reasons
    for_its_unit = not-false (event_for unit number) (not_held 4)

module _ (b : Bus) (unit : ℕ) (value : List ℕ) where
  -- the number that the state of the bus decides
  abbrev by_state : ℕ → ℕ
  by_state number = first_holding (state_reasons b unit number value)

  network_replies : eqb unit 0 ≡ true → (number : ℕ) → among number network_events ≡ true → by_state number ≡ replied b unit number value
  unfolding first_holding state_reasons bars replied class_of bars_network
  network_replies t number k =
      at_among (λ number. by_state number ≡ replied b unit number value) number network_events k (
        rw t (sym (network_bars AR b.periods b.network refl)),
        (rw t (sym (network_bars DR b.periods b.network refl)), (rw t, tt)),
      )

  terminal_replies : eqb unit 0 ≡ false → (number : ℕ) → by_state number ≡ replied b unit number value
  unfolding first_holding state_reasons bars replied
  terminal_replies z number =
      let t = (station_of b unit).terminal in
      by_test (eqb (class_of number) 0)
      (λ none. rw (z, none) (sym (terminal_bars number b.periods t)))
      (λ some. rw (z, some, gives_no_bar number t.state some) (frame_reasons value t))

  -- Where the call itself gives no reason, the refusal is what the calls reply.
  pub refusal_replied : (number : ℕ) → first_holding (call_reasons unit number value) ≡ 0 → refusal b unit number value ≡ replied b unit number value
  unfolding refusal reasons
  refusal_replied number none =
      let for_unit = for_its_unit unit number value none in
      first_append (call_reasons unit number value) (state_reasons b unit number value) (none_is_0 unit number value)
      ∙ rw none
      (by_test (eqb unit 0)
      (λ t. network_replies t number (unfold event_for in (rw t at for_unit)))
      (λ t. terminal_replies t number))
