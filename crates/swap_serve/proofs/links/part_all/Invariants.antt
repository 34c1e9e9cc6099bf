use Rattle.std.proofs.Common.{◌≡◌, ◌+◌, ◌≤◌, List, ◌++◌, length, vec_capacity}
use Rattle.std.specs.Vec.Iter.{into_iter_items}
use Rattle.swap_sock.specs.Dealings.{Left}
use Rattle.swap_serve.specs.Serving.{all_back}
use Rattle.swap_serve.specs.Slots.{Visit, AreKeptBy}
use Rattle.swap_serve.proofs.links.part_all.Given as goal

abbrev pub invariant-loop-slot : goal.invariant-loop-slot
invariant-loop-slot g l =
    (done : List (Visit g.row.D-Reader.Denot)) × (backs : List (Left g.row.D-Reader.Denot g.row.D-Writer.Denot))
    × (l.fn.slots.items ≡ done ++ into_iter_items l.slot-iterator)
    × (g.D.Door.links l.door ≡ all_back backs (g.D.Door.links l.initial.door))
    × AreKeptBy g.D.Reader.Source.left g.D.Reader.Source.faults g.D.Writer.Sink.faults done backs l.ears.items
    × (length l.ears.items + length (into_iter_items l.slot-iterator) ≤ vec_capacity l.ears)
    × (g.D.Door.faults l.initial.door ≤ g.D.Door.faults l.door)
