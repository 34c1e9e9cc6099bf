use Rattle.std.proofs.Common.{arith, ap, sym, ◌∙◌, ◌≡◌, ◌-◌, length, vec_capacity}
use Rattle.swap_wire.specs.Input.{Input}
use Rattle.swap_wire.specs.Fabric.{FabricOf}
use Rattle.swap_table.specs.Device.{of_device}
use Rattle.swap_world.proofs.RoundsKeepPlans.{event_adds, event_grows, event_stays}
use Rattle.swap_world.proofs.ReachedGoesOn.{reached_counts, reached_step, reached_of, reached_idle}
use Rattle.swap_world.proofs.world.World.step.Goals as goal

pub happen-seen-requires-clause-writes : goal.happen-seen-requires-clause-writes
happen-seen-requires-clause-writes g c =
    let r =
    reached_counts _ c.ports_promise.ensures.disk _ c.ports_promise.ensures.fabric c.self.inside.device c.self.inside.log.items c.self.invariant.reached in
    let spare : vec_capacity c.self.inside.log - length c.self.inside.log.items ≡ c.args.self.now.log_spare = ap (λ w. w.log_spare) c.self.view_is in
    omega (arith, r.0, spare, c.requires.log_spare, c.capacity-capacity.ensures, c.capacity-capacity.type_inv)

pub happen-seen-requires-clause-reads : goal.happen-seen-requires-clause-reads
happen-seen-requires-clause-reads g c =
    let r =
    reached_counts _ c.ports_promise.ensures.disk _ c.ports_promise.ensures.fabric c.self.inside.device c.self.inside.log.items c.self.invariant.reached in
    let spare : vec_capacity c.self.inside.log - length c.self.inside.log.items ≡ c.args.self.now.log_spare = ap (λ w. w.log_spare) c.self.view_is in
    omega (arith, r.1, spare, c.requires.log_spare, c.capacity-capacity.ensures, c.capacity-capacity.type_inv)

pub invariant_of-self : goal.invariant_of-self
invariant_of-self g c =
    let range = rw (← c.self.view_is) at c.requires.range in
    let i : Input = record { event = c.args.event.now; page = c.args.page.now } in
    let of : of_device c.happen-seen.new.device.device ≡ of_device c.self.inside.device.device =
    reached_of _ c.ports_promise.ensures.disk _ c.ports_promise.ensures.fabric c.self.inside.device c.self.inside.log.items c.self.invariant.reached i
    c.happen-seen.result _ _ _ range c.happen-seen.ensures.step in
    record {
      has = c.self.invariant.has ∙ sym (ap (λ (x : FabricOf). x.lenders) of);
      most = c.self.invariant.most;
      reached =
          rw c.note.ensures.items
          (reached_step _ c.ports_promise.ensures.disk _ c.ports_promise.ensures.fabric c.self.inside.device c.self.inside.log.items c.self.invariant.reached
          (record { event = c.args.event.now; page = c.args.page.now }) c.happen-seen.result _ _ _ c.happen-seen.new.device.spare range
          c.happen-seen.ensures.step);
    }

pub happen-seen-requires-clause-lenders : goal.happen-seen-requires-clause-lenders
happen-seen-requires-clause-lenders g c = c.self.invariant.has

pub happen-seen-requires-clause-few : goal.happen-seen-requires-clause-few
happen-seen-requires-clause-few g c = c.self.invariant.most

pub returns-clause-adds : goal.returns-clause-adds
returns-clause-adds g c =
    let i : Input = record { event = c.args.event.now; page = c.args.page.now } in
    rw (← c.self.view_is)
    (event_adds g.D.DiskPort.moves g.F.Fabric.moves c.self.inside.device.device c.happen-seen.new.device.device c.self.inside.device.disk
    c.happen-seen.new.device.disk c.self.inside.device.fabric c.happen-seen.new.device.fabric i c.happen-seen.result c.happen-seen.ensures.step)

pub returns-clause-grows : goal.returns-clause-grows
returns-clause-grows g c =
    let i : Input = record { event = c.args.event.now; page = c.args.page.now } in
    rw (← c.self.view_is)
    (event_grows g.D.DiskPort.moves g.F.Fabric.moves c.self.inside.device.device c.happen-seen.new.device.device c.self.inside.device.disk
    c.happen-seen.new.device.disk c.self.inside.device.fabric c.happen-seen.new.device.fabric i c.happen-seen.result c.happen-seen.ensures.step)

pub returns-clause-unchanged : goal.returns-clause-unchanged
returns-clause-unchanged g c =
    let i : Input = record { event = c.args.event.now; page = c.args.page.now } in
    λ none.
    rw (← c.self.view_is)
    (event_stays g.D.DiskPort.moves g.F.Fabric.moves c.self.inside.device.device c.happen-seen.new.device.device c.self.inside.device.disk
    c.happen-seen.new.device.disk c.self.inside.device.fabric c.happen-seen.new.device.fabric i c.happen-seen.result c.happen-seen.ensures.step none)

pub returns-clause-idle : goal.returns-clause-idle
returns-clause-idle g c =
    rw (← c.self.view_is)
    (reached_idle _ c.ports_promise.ensures.disk _ c.ports_promise.ensures.fabric c.self.inside.device c.self.inside.log.items c.self.invariant.reached
    (record { event = c.args.event.now; page = c.args.page.now }) c.happen-seen.result _ _ _ c.happen-seen.ensures.step)

pub returns-clause-of : goal.returns-clause-of
returns-clause-of g c =
    let range = rw (← c.self.view_is) at c.requires.range in
    rw (← c.self.view_is)
    (reached_of _ c.ports_promise.ensures.disk _ c.ports_promise.ensures.fabric c.self.inside.device c.self.inside.log.items c.self.invariant.reached
    (record { event = c.args.event.now; page = c.args.page.now }) c.happen-seen.result _ _ _ range c.happen-seen.ensures.step)
