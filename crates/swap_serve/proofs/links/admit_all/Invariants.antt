use Rattle.std.proofs.Common.{◌≡◌, ◌≤◌, length, map, vec_capacity}
use Rattle.swap_serve.specs.Serving.{all_given}
use Rattle.swap_serve.specs.Slots.{AreNumbered}
use Rattle.swap_serve.proofs.links.admit_all.Given as goal

abbrev pub invariant-loop-i : goal.invariant-loop-i
invariant-loop-i g l = record {
  number : length l.slots.items ≡ l.i;
  room : l.fn.links ≤ vec_capacity l.slots;
  each : AreNumbered l.fn.page_bytes 0 l.slots.items;
  links : g.D.Door.links l.door ≡ all_given (map (λ v. v.given) l.slots.items) (g.D.Door.links l.initial.door);
  later : g.D.Door.faults l.initial.door ≤ g.D.Door.faults l.door;
}
