use Rattle.std.proofs.Common.{arith, ap, sym, ◌∙◌, ◌≡◌, ◌-◌, length, vec_capacity}
use Rattle.swap_world.proofs.ReachedGoesOn.{reached_counts, reached_polled, is_polled, polled_of}
use Rattle.swap_wire.specs.Fabric.{FabricOf}
use Rattle.swap_table.specs.Device.{Device}
use Rattle.swap_table.specs.declared.DiskStep.{DiskStep}
use Rattle.swap_world.proofs.world.World.poll_disk.Goals as goal

pub disk_take-step-requires-clause-writes : goal.disk_take-step-requires-clause-writes
disk_take-step-requires-clause-writes g c =
    let r =
    reached_counts _ c.ports_promise.ensures.disk _ c.ports_promise.ensures.fabric c.self.inside.device c.self.inside.log.items c.self.invariant.reached in
    let spare : vec_capacity c.self.inside.log - length c.self.inside.log.items ≡ c.args.self.now.log_spare = ap (λ w. w.log_spare) c.self.view_is in
    omega (arith, r.0, spare, c.requires, c.capacity-capacity.ensures, c.capacity-capacity.type_inv)

pub disk_take-step-requires-clause-reads : goal.disk_take-step-requires-clause-reads
disk_take-step-requires-clause-reads g c =
    let r =
    reached_counts _ c.ports_promise.ensures.disk _ c.ports_promise.ensures.fabric c.self.inside.device c.self.inside.log.items c.self.invariant.reached in
    let spare : vec_capacity c.self.inside.log - length c.self.inside.log.items ≡ c.args.self.now.log_spare = ap (λ w. w.log_spare) c.self.view_is in
    omega (arith, r.1, spare, c.requires, c.capacity-capacity.ensures, c.capacity-capacity.type_inv)

pub invariant_of-self : goal.invariant_of-self
invariant_of-self g c =
    record {
      reached =
          rw c.note_end.ensures.items
          (reached_polled _ c.ports_promise.ensures.disk _ c.ports_promise.ensures.fabric c.self.inside.device c.self.inside.log.items c.self.invariant.reached
          c.disk_take-step.result _ _ _ c.disk_take-step.new.self.spare c.disk_take-step.ensures.moved);
      has =
          c.self.invariant.has
          ∙ sym
          (ap (λ (x : FabricOf). x.lenders)
          (polled_of c.self.inside.device.device c.disk_take-step.new.self.device c.disk_take-step.ensures.moved.0
          (ap (λ (a : Device × DiskStep). a.0) c.disk_take-step.ensures.moved.3.2)));
      most = c.self.invariant.most;
    }

pub returns-clause-polled : goal.returns-clause-polled
returns-clause-polled g c =
    rw (← c.self.view_is, c.see_disk.ensures)
    (is_polled _ c.ports_promise.ensures.disk _ c.ports_promise.ensures.fabric c.self.inside.device c.self.inside.log.items c.self.invariant.reached
    c.note_end.new.log.items c.disk_take-step.result _ _ _ c.disk_take-step.ensures.moved c.note_end.ensures.items)
