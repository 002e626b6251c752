-- How the code goes: whether one terminal sends alone, and which: the terminals are looked at one
-- by one. The law `found_alone` says what a search that finds one has shown.
-- Interface: `sender_after`, `searched_one`, `no_search`, `searched`, `alone_for`, `in_vain`. Assumes
-- nothing.
use Rattle.std.specs.Prelude.{Bool, true, false, cond, not, ◌&&◌, ◌||◌, List, [], ◌∷◌, ◌≡◌, ℕ, ◌≤◌, eqb, ltb}
use Rattle.slice_lemmas.specs.Over.{map_from, fold_from}
use Rattle.table_6_2.specs.Table62.{F7}
use Rattle.table_6_3.specs.Table63.{G3}
use Rattle.timing.specs.Clear.{Clear, clear}
use Rattle.timing.specs.declared.counts.Periods.{Periods}
use Rattle.terminal.specs.declared.Terminal.{Terminal}
use Rattle.bus_rules.specs.Quick.{shown_by}
use Rattle.bus_record.specs.declared.record.BusRecord.{BusRecord}
use Rattle.period_hearing.specs.Hears.{rests}
use Rattle.lone_sender.specs.Lone.{followed, lone_stations, sender_in}
use Rattle.lone_sender.specs.declared.lone.LoneSender.{LoneSender}
use Rattle.lone_sender.specs.declared.search.Search.{Search}

-- whether a terminal counts E, and whether it sends
abbrev pub counting : Terminal → Bool
counting t = eqb t.state F7

abbrev pub sending_now : Terminal → Bool
sending_now t = counting t && ltb 0 t.access.sent

-- the sender after terminal i: where that one sends, it, with its C; else the one found before
unfoldable pub sender_after : ℕ → LoneSender → Terminal → LoneSender
sender_after i s t =
    let count = cond (counting t) t.access.count s.count in
    cond (sending_now t)
    (record { at = i; length = t.access.length; sent = t.access.sent; count = count; last = t.access.last })
    (record { at = s.at; length = s.length; sent = s.sent; count = count; last = s.last })

-- whether a terminal fits in with those before it: it rests while it hears the network end in G3,
-- its C is theirs where it counts E, and it is not a second one that sends
unfoldable pub fits_in : Search → Terminal → Bool
fits_in a t =
    (rests (shown_by G3) t && ((not (counting t) || not a.counts) || eqb t.access.count a.lone.count))
    && not (a.sends && sending_now t)

unfoldable pub searched_one : Periods → ℕ → Search → Terminal → Search
searched_one period i a t =
    record {
      lone = sender_after i a.lone t;
      over = clear period.0 a.over t.t3;
      counts = a.counts || counting t;
      sends = a.sends || sending_now t;
      fits = a.fits && fits_in a t;
    }

abbrev pub no_search : ℕ → Search
no_search most =
    record {
      lone = record { at = 0; length = 0; sent = 0; count = 0; last = true };
      over = most;
      counts = false;
      sends = false;
      fits = true;
    }

unfoldable pub searched : Periods → ℕ → List Terminal → Search
searched period most ts = fold_from (searched_one period) 0 (no_search most) ts

-- how many periods can be run alone, as far as is known: 0 where no one terminal sends alone
unfoldable pub alone_for : Search → ℕ
alone_for a = cond (a.fits && a.sends) a.over 0

-- whether a search is in vain: the network end is not in G3, a hit is pending, or seven 1s have
-- been read
unfoldable pub in_vain : BusRecord → Bool
in_vain b = (not (eqb b.network.state G3) || b.hit) || eqb b.reader.ones 7

-- ---- What a search that finds one has shown (proofs/FoundAlone.antt).
unfoldable pub all_hear_alike : List Terminal → Bool
all_hear_alike [] = true
all_hear_alike (t ∷ ts) = rests (shown_by G3) t && all_hear_alike ts

-- T3 is due at the start of none of the n periods after period `now`
abbrev pub AllClear : ℕ → ℕ → List Terminal → Type 0
AllClear now n [] = Unit
AllClear now n (t ∷ ts) = Clear now n t.t3 × AllClear now n ts

-- the terminals are as the run has them at its start, each at its index; all rest, and no timer is
-- due while it lasts
pub record IsAlone (now most : ℕ) (r : Search) (ts : List Terminal) : Type 0 where
  pub stations : lone_stations r.lone.at r.lone.length 0 ts ≡ true
  pub sender : sender_in r.lone.at 0 ts ≡ true
  pub followed_is : map_from (followed r.lone) 0 ts ≡ ts
  pub rest : all_hear_alike ts ≡ true
  pub clear : AllClear now r.over ts
  pub few : r.over ≤ most

abbrev pub FoundAlone : Type 0
FoundAlone =
    (period : Periods) (most : ℕ) (ts : List Terminal) → (searched period most ts).fits ≡ true → (searched period most ts).sends ≡ true
    → IsAlone period.0 most (searched period most ts) ts
