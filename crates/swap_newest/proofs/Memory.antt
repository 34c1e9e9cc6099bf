-- And after every list of events over the disk and the lenders in memory.
use Rattle.std.proofs.Common.{◌≡◌, ℕ, ◌≤◌, true, zero, suc, List, [], ◌∷◌, length, map, take, refl}
use Rattle.std.proofs.lemmas.List.Elements.{All-from_recursion}
use Rattle.std.specs.List.{AllByRecursion}
use Rattle.swap_base.specs.declared.geometry.LenderSpec.{LenderSpec}
use Rattle.swap_base.specs.Sizes.{Sizes}
use Rattle.swap_wire.specs.Input.{Input}
use Rattle.swap_wire.specs.Fabric.{FabricOf}
use Rattle.swap_disk.specs.lemmas.Follows as drives
use Rattle.swap_base.specs.declared.TheConstants.{MOST_LENDERS}
use Rattle.swap_link.specs.Channel.{Channel}
use Rattle.swap_link.specs.Harbor as harbor
use Rattle.swap_link.specs.Harbor.{new_channel}
use Rattle.swap_joint.specs.Owned.{IsLent}
use Rattle.swap_world.specs.Runs.{IsInput}
use Rattle.swap_world.specs.World.{World, start, reach, next}
use Rattle.swap_world.proofs.WorldInMemoryStaysSound.{drive_meaning, IsSound, sound_known, next_sound, next_step, reach_sound, starts_sound}
use Rattle.swap_world.specs.Laws.{AreInputs}
use Rattle.swap_newest.specs.Laws.{AlwaysLent}
use Rattle.swap_newest.proofs.Runs.{Joined, event_joined, joined_lent, starts_joined}

module _ (s : Sizes) (n : ℕ) where
  abbrev Of : FabricOf
  Of = record { sizes = s; lenders = n }

  reach_joined : (w : World) (is : List Input) → AllByRecursion (IsInput s n) is → IsSound s n w → Joined (record { sizes = s; lenders = n }) w.device w.harbor
      → let v : World = reach w is in
      Joined (record { sizes = s; lenders = n }) v.device v.harbor
  reach_joined w [] inputs sound joined = joined
  reach_joined w (i ∷ is) inputs sound joined =
      reach_joined (next w i).world is inputs.1 (next_sound s n w i inputs.0 sound)
      (event_joined drive_meaning drives.follows true Of w.device (next w i).world.device w.drive (next w i).world.drive w.harbor (next w i).world.harbor i
      (next w i).seen (sound_known s n w sound) joined inputs.0.0 (next_step s n w i inputs.0 sound))

-- the lenders as they are made
fresh_each : (s : Sizes) (specs : List LenderSpec) → AllByRecursion (λ (c : Channel). c ≡ new_channel s c.lender.lending.spec) (map (new_channel s) specs)
fresh_each s [] = tt
fresh_each s (spec ∷ specs) = (refl, fresh_each s specs)

starts_fresh :
    (s : Sizes) (specs : List LenderSpec) → length specs ≤ MOST_LENDERS → harbor.IsFresh (start s specs).harbor (record { sizes = s; lenders = length specs })
starts_fresh s specs few =
    record {
      is = (starts_sound s specs few).of;
      channels = All-from_recursion (λ (c : Channel). c ≡ new_channel s c.lender.lending.spec) (map (new_channel s) specs) (fresh_each s specs);
    }

-- the events of a front
front_inputs : (s : Sizes) (n : ℕ) (m : ℕ) (is : List Input) → AllByRecursion (IsInput s n) is → AllByRecursion (IsInput s n) (take m is)
front_inputs s n zero is all = tt
front_inputs s n (suc m) [] all = tt
front_inputs s n (suc m) (i ∷ is) all = (all.0, front_inputs s n m is all.1)

after_all : (s : Sizes) (specs : List LenderSpec) (is : List Input) → length specs ≤ MOST_LENDERS → AreInputs s specs is
    → let w : World = reach (start s specs) is in
    IsLent w.device w.harbor
after_all s specs is few inputs =
    let first = starts_sound s specs few in
    let w : World = reach (start s specs) is in
    joined_lent drive_meaning drives.follows true (record { sizes = s; lenders = length specs }) w.device w.drive w.harbor
    (sound_known s (length specs) w (reach_sound s (length specs) (start s specs) is inputs first))
    (reach_joined s (length specs) (start s specs) is inputs first (starts_joined s (length specs) (start s specs).harbor (starts_fresh s specs few)))

pub always_lent : AlwaysLent
always_lent s specs is n few inputs = after_all s specs (take n is) few (front_inputs s (length specs) n is inputs)
