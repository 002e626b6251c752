-- The bus as the D channel of crate `contention` has it (specs/BusChannel.antt): one D opportunity of its exchange.
use mathlib.Core.Path.{◌≡◌, refl, ◌∙◌}
use mathlib.Core.Bool.{Bool, false}
use mathlib.Core.List.{List, [], ◌∷◌, map}
use Prim.Native.Nat.{suc, ◌<◌}
use lib.Dec.{eqb}
use lib.ListN.{length}
use Rattle.test_lemmas.proofs.ByCases.{by_test, and_right_false}
use Rattle.test_lemmas.proofs.Operators.{and_cond}
use Rattle.notes_and_cells.specs.Cells.{info_in}
use Rattle.table_6_3.specs.Table63.{G3}
use Rattle.dchannel.specs.Access.{normal1, normal2}
use Rattle.contention.specs.Channel.{Channel, Action, next_bit, access_step_at, contender_after_e, sends_d, together_d, step}
use Rattle.contention.specs.Channel.Action.{opportunity}
use Rattle.bus_rules.specs.Bus.{Station, Hit}
use Rattle.bus_rules.specs.Exchange.{Opportunity, in_f7, in_g3, stations_of, any_info1, access_step_of, station_after_e, d_of, e_comes, senders_after, d_comes, onward}
use Rattle.bus_rules.specs.BusChannel.{contender_of, contenders_of, Imaged, AllImaged}
use Rattle.bus_rules.specs.Quick.{InStep, sent_e, struck_at, all_d}
use Rattle.bus_rules.proofs.Quick.{quick_e, quick_d}
use Rattle.bus_rules.proofs.Stations.{stations_hear}

-- the channel as an E comes
unfoldable pub channel_at : Opportunity → Channel
channel_at m = record { contenders = contenders_of (stations_of m.senders); heard_d = m.heard_d; reading = m.reading }

-- ---- an opportunity of the exchange is one of the channel, whatever is on the line
pub turn_is : (e : Bool) (s : Station) → Imaged s → access_step_of e s ≡ access_step_at normal1 normal2 e (contender_of s)
unfolding access_step_of access_step_at next_bit
turn_is e s h = rw h

pub d_is : (e : Bool) (s : Station) → Imaged s → d_of e s ≡ sends_d normal1 normal2 e (contender_of s)
unfolding d_of sends_d
d_is e s h = rw (turn_is e s h)

pub contender_turned : (e : Bool) (s : Station) → Imaged s → contender_of (station_after_e e s) ≡ contender_after_e normal1 normal2 e (contender_of s)
unfolding station_after_e contender_after_e
contender_turned e s h = by_test (in_f7 s) (λ t. rw (turn_is e s h, t, t)) (λ t. rw (t, t))

pub imaged_turned : (e : Bool) (s : Station) → Imaged s → Imaged (station_after_e e s)
unfolding station_after_e
imaged_turned e s h = by_test (in_f7 s) (λ t. rw t h) (λ t. rw t h)

contenders_turned : (e : Bool) (ss : List Station) → AllImaged ss → contenders_of (map (station_after_e e) ss) ≡ map (contender_after_e normal1 normal2 e) (contenders_of ss)
contenders_turned e [] h = refl
contenders_turned e (s ∷ ss) h = rw (contender_turned e s (h 0), contenders_turned e ss (λ i. h (suc i)))

-- the action of a moment
abbrev pub action_at : Opportunity → Action
action_at m = opportunity (e_comes m) (d_comes m) (in_g3 m)

pub channel_onward : (m : Opportunity) → AllImaged (stations_of m.senders) → channel_at (onward m) ≡ step normal1 normal2 (channel_at m) (action_at m)
unfolding channel_at onward step senders_after
channel_onward m h = rw (stations_hear (e_comes m) m.senders, contenders_turned (e_comes m) (stations_of m.senders) h)

-- ---- without a hit, in G3, each E is the last D heard
pub e_quiet : (m : Opportunity) → m.hit ≡ Hit.none → m.network ≡ G3 → length m.es < 4 → e_comes m ≡ m.heard_d
unfolding struck_at sent_e info_in
e_quiet m h g k = quick_e m k ∙ rw (h, g)

-- ---- without INFO 1, each D is what the terminals send together
all_d_lem : (e : Bool) (ss : List Station) → AllImaged ss → all_d e ss ≡ together_d normal1 normal2 e (contenders_of ss)
unfolding all_d together_d
all_d_lem e [] h = refl
all_d_lem e (s ∷ ss) h = rw (d_is e s (h 0), all_d_lem e ss (λ i. h (suc i))) (and_cond (sends_d normal1 normal2 e (contender_of s)) (together_d normal1 normal2 e (contenders_of ss)))

pub d_quiet : (m : Opportunity) → any_info1 (stations_of m.senders) ≡ false → length m.es < 4 → InStep (length m.es) m.senders → AllImaged (stations_of m.senders) →
    d_comes m ≡ together_d normal1 normal2 (e_comes m) (contenders_of (stations_of m.senders))
d_quiet m n h s i =
    quick_d m h s
    ∙ rw (n, and_right_false (eqb (length m.es) 1) false refl, all_d_lem (e_comes m) (stations_of m.senders) i)
