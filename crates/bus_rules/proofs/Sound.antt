-- The laws of `specs/Sound.antt` but demand 3: what every list of calls leaves.
use mathlib.Core.Path.{◌≡◌, refl}
use mathlib.Core.List.{[], ◌∷◌}
use Prim.Native.Nat.{ℕ, zero, suc}
use native.Mathlib.Omega.{arith}
use lib.ListN.{length, replicate}
use Rattle.hdlc.specs.Image.{image}
use Rattle.hdlc.proofs.ImageLaws.{length_image}
use Rattle.dchannel.specs.Access.{normal1, normal2}
use Rattle.contention.specs.Channel.{fresh_channel}
use Rattle.contention.specs.Stretch.{contender}
use Rattle.contention.specs.Invariant.{SoundContender}
use Rattle.contention.proofs.Crossing.{contender_map}
use Rattle.contention.proofs.InvariantKept.{invariant_fresh, invariant_after}
use Rattle.bus_rules.specs.Bus.{Bus, terminals, fresh_station, fresh_bus, station_at}
use Rattle.bus_rules.specs.Calls.{after_all}
use Rattle.bus_rules.specs.BusChannel.{contender_of, channel_of, AllImaged}
use Rattle.bus_rules.specs.Sound as sound
use Rattle.bus_rules.specs.Sound.{Sound}
use Rattle.bus_rules.proofs.Simulation.{imaged_ran, all_actions, calls_channel}
use Rattle.bus_rules.proofs.Ranges.{fresh_in, ran_in}

-- ---- the fresh bus
imaged_fresh : (n : ℕ) → AllImaged (replicate n fresh_station)
imaged_fresh zero i = refl
imaged_fresh (suc n) zero = refl
imaged_fresh (suc n) (suc i) = imaged_fresh n i

fresh_channel_lem : channel_of fresh_bus ≡ fresh_channel terminals
unfolding channel_of fresh_channel
fresh_channel_lem = refl

pub sound_fresh : sound.SoundFresh
sound_fresh =
    record { imaged = imaged_fresh terminals; channel = rw fresh_channel_lem (invariant_fresh normal2 terminals); in_range = fresh_in }

-- ---- after every list of calls, and so after every call
pub sound_after : sound.SoundAfter
sound_after b calls s =
    record {
      imaged = imaged_ran b calls s.imaged;
      channel =
          rw (calls_channel b calls s.imaged)
          (invariant_after normal1 normal2 (omega arith) (omega arith) (all_actions b calls) (channel_of b) s.channel);
      in_range = ran_in b calls s.in_range;
    }

pub sound_kept : sound.SoundKept
unfolding after_all
sound_kept b c s = sound_after b (c ∷ []) s

-- ---- each terminal
station_contender : (i : ℕ) (b : Bus) → contender i (channel_of b) ≡ contender_of (station_at i b)
unfolding channel_of
station_contender i b = contender_map contender_of fresh_station refl (channel_of b) b.stations refl i

pub sound_contender : (b : Bus) (i : ℕ) → Sound b → SoundContender normal2 (contender_of (station_at i b))
sound_contender b i s = rw (station_contender i b) at (s.channel.sound i)

pub sound_held : sound.SoundHeld
sound_held b i s h = let f = (sound_contender b i s).frame_held h in (f.0, s.imaged i, f.1)

-- ---- other counts
pub sound_counted : sound.SoundCounted
unfolding channel_of
sound_counted b periods opportunities p o s =
    let r = s.in_range in
    record {
      imaged = s.imaged;
      channel = s.channel;
      in_range =
          record {
            periods_fit = p;
            opportunities_fit = o;
            network_fits = r.network_fits;
            hit_fits_lem = r.hit_fits_lem;
            cycle_fits = r.cycle_fits;
            eight = r.eight;
            terminals_fit = r.terminals_fit;
          };
    }

-- ---- what is not sound
without_images_lem : Sound sound.without_images → ⊥
without_images_lem s = omega (arith, length_image [], none)
  where
    none : length (image []) ≡ 0
    none = rw (← s.imaged 0)

out_of_phase_lem : Sound sound.out_of_phase → ⊥
unfolding channel_of contender
out_of_phase_lem s = let p = (s.channel.in_phase 0 1 (omega arith) (omega arith)).0 in omega (arith, p)

pub not_sound : sound.NotSound
not_sound = record { without_images_lem = without_images_lem; out_of_phase_lem = out_of_phase_lem; with_seven_lem = λ s. omega (arith, s.in_range.eight) }
