use Rattle.std.proofs.Common.{ℕ, [], ◌∷◌, length, ap, arith, length-append}
use Rattle.swap_base.specs.declared.Link.{Link}
use Rattle.swap_serve.proofs.Served.{numbered_last, came_last}
use Rattle.swap_serve.proofs.links.admit_all.Goals as goal

pub loop-i-preserved : goal.loop-i-preserved
loop-i-preserved g c =
    let was = c.loop-i.invariant in
    let items = c.push_reserved.ensures.items in
    let number : ℕ = length c.loop-i.slots.items in
    record {
      number = omega (arith, ap length items, length-append c.loop-i.slots.items (c.in-Ok.slot ∷ []), was.number);
      room = omega (arith, c.push_reserved.ensures.capacity, was.room);
      each =
          rw items
          (numbered_last c.args.page_bytes 0 c.loop-i.slots.items c.in-Ok.slot was.each
          (omega (arith, ap (λ (l : Link). l.0) c.in-Ok.ensures.slot.0, was.number)) c.in-Ok.ensures.slot.1);
      links =
          rw items
          (came_last c.loop-i.slots.items c.in-Ok.slot (g.D.Door.links c.args.door.now) (g.D.Door.links c.loop-i.door)
          (g.D.Door.links c.admit.new.door) was.links c.in-Ok.ensures.links);
      later = omega (arith, was.later, c.admit.ensures.later);
    }
