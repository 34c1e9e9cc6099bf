-- A Round is a plan of other events, each of which goes by what was seen before it.
use Rattle.std.specs.Prelude.{◌≡◌, ℕ, zero, suc, ◌+◌, Bool, true, false, if◌then◌else◌, List, []}
use Rattle.swap_base.specs.Sizes.{Sizes}
use Rattle.swap_disk.specs.Port.{DiskCall, DiskAnswer}
use Rattle.swap_wire.specs.Fabric.{FabricCall, FabricAnswer}
use Rattle.swap_wire.specs.declared.Event.{Event}
use Rattle.swap_wire.specs.declared.Event.TheVariants as event
use Rattle.swap_wire.specs.declared.Seen.{Seen}
use Rattle.swap_wire.specs.declared.Seen.TheVariants as seen
use Rattle.swap_slabs.specs.Slabs.{mapped_count}
use Rattle.swap_table.specs.Device.{Device, Core}
use Rattle.swap_table.specs.Ports.{Along}
use Rattle.swap_table.specs.Happens.{happens}

-- an event has an effect unless nothing is seen of it, or a caller is told to wait on
abbrev pub has_effect : Event → Seen → Bool
has_effect e seen.Nothing = false
has_effect e seen.Busy = false
has_effect e seen.Idle = false
has_effect (event.Finish c) (seen.Wait via) = false
has_effect (event.Finish c) seen.Room = false
has_effect e s = true

-- what is left to do: nothing, or an event, and then what goes by what was seen of it
pub data Plan : Type 0 where
  Stop : Plan
  Make : Event → (Seen → Plan) → Plan

-- an event again and again until it has no effect, so many times at most
abbrev pub plan_again : ℕ → Event → Plan → Plan
plan_again zero e rest = rest
plan_again (suc left) e rest = Make e (λ s. if has_effect e s then plan_again left e rest else rest)

-- Give and then Take of each of these many lenders from the n-th on
abbrev pub each_lender : ℕ → ℕ → ℕ → Plan → Plan
each_lender times zero n rest = rest
each_lender times (suc left) n rest =
    plan_again times (event.Give (record { 0 = n }))
    (plan_again times (event.Take (record { 0 = n })) (each_lender times left (n + 1) rest))

-- how often a lender, or its link, is asked for a message, at most
abbrev pub most_messages : Sizes → ℕ
most_messages s = s.window + 66

-- a tick, and then twice each lender's messages
abbrev pub round_plan : Sizes → ℕ → ℕ → Plan
round_plan s lenders word =
    Make (event.Tick word) (λ _. each_lender (most_messages s) lenders 0 (each_lender (most_messages s) lenders 0 Stop))

-- the events that a Round is made of
abbrev pub is_part : Event → Bool
is_part (event.Tick word) = true
is_part (event.Give l) = true
is_part (event.Take l) = true
is_part _ = false

abbrev pub one_if_so : Bool → ℕ
one_if_so true = 1
one_if_so false = 0

-- how many events of a plan had an effect, and how many slabs are mapped after it
abbrev pub round_seen : Device → ℕ → Seen
round_seen d effects = seen.Rounded effects (mapped_count d.remote.slabs)

module _ {D F : Type 0} (disk_moves : D → (c : DiskCall) → DiskAnswer c → D → Type 0)
    (moves : F → (c : FabricCall) → FabricAnswer c → F → Type 0) where
  -- device, disk and fabric went along a plan, with so many events that had an effect
  abbrev pub AlongPlan : Plan → Device → D → F → Device → D → F → ℕ → Type 0
  AlongPlan Stop d k f d' k' f' effects = (d' ≡ d) × (k' ≡ k) × (f' ≡ f) × (effects ≡ 0)
  AlongPlan (Make e next) d k f d' k' f' effects =
      (s : Seen) × (x : Device) × (kx : D) × (fx : F) × (more : ℕ)
      × Along disk_moves moves (happens d [] e) k f kx fx (x, s) × AlongPlan (next s) x kx fx d' k' f' more
      × (effects ≡ more + one_if_so (has_effect e s))

  -- one event: a Round goes along its plan, and every other along its program
  abbrev pub StepOf : List ℕ → Event → Device → D → F → Seen → Device → D → F → Type 0
  StepOf page (event.Round word) d k f s d' k' f' =
      (effects : ℕ) × AlongPlan (round_plan d.sizes d.lenders word) d k f d' k' f' effects × (s ≡ round_seen d' effects)
  StepOf page e d k f s d' k' f' = Along disk_moves moves (happens d page e) k f k' f' (d', s)

  -- what goes on from now as the rest of a plan went from before as the whole, with so many more that had an effect
  abbrev pub Continues : Plan → Plan → Core D F → Core D F → ℕ → Type 0
  Continues whole rest before now more =
      (d' : Device) (k' : D) (f' : F) (effects : ℕ) → AlongPlan rest now.device now.disk now.fabric d' k' f' effects
      → AlongPlan whole before.device before.disk before.fabric d' k' f' (effects + more)
