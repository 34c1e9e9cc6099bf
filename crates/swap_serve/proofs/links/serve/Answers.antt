use Rattle.std.proofs.Common.{refl}
use Rattle.swap_serve.proofs.Served.{served, broke, none_came}
use Rattle.swap_serve.proofs.links.serve.Goals as goal

pub returns-in-Ok-came-clause-served : goal.returns-in-Ok-came-clause-served
returns-in-Ok-came-clause-served g c =
    served g.D.Reader.Source.left g.D.Reader.Source.faults g.D.Writer.Sink.faults c.args.page_bytes c.args.links c.admit_all-came.new.slots.items
    (g.D.Door.links c.args.door.now) (g.D.Door.links c.admit_all-came.new.door)
    (g.D.Door.links c.part_all.new.door) c.part_all.new.ears.items c.in-Ok-came.ensures.number c.in-Ok-came.ensures.each c.in-Ok-came.ensures.links
    c.part_all.ensures.parted

pub returns-in_default-clause-breaks : goal.returns-in_default-clause-breaks
returns-in_default-clause-breaks g c =
    let links = g.D.Door.links c.args.door.now in
    none_came g.D.Reader.Source.left g.D.Reader.Source.faults g.D.Writer.Sink.faults c.args.page_bytes c.args.links links links refl

pub returns-in_default-new-clause-breaks : goal.returns-in_default-new-clause-breaks
returns-in_default-new-clause-breaks g c =
    let links = g.D.Door.links c.args.door.now in
    none_came g.D.Reader.Source.left g.D.Reader.Source.faults g.D.Writer.Sink.faults c.args.page_bytes c.args.links links links refl

pub returns-in_default-with_capacity-clause-breaks : goal.returns-in_default-with_capacity-clause-breaks
returns-in_default-with_capacity-clause-breaks g c =
    let links = g.D.Door.links c.args.door.now in
    none_came g.D.Reader.Source.left g.D.Reader.Source.faults g.D.Writer.Sink.faults c.args.page_bytes c.args.links links links refl

pub returns-in_default-with_capacity-2-clause-breaks : goal.returns-in_default-with_capacity-2-clause-breaks
returns-in_default-with_capacity-2-clause-breaks g c =
    let links = g.D.Door.links c.args.door.now in
    none_came g.D.Reader.Source.left g.D.Reader.Source.faults g.D.Writer.Sink.faults c.args.page_bytes c.args.links links links refl

pub returns-clause-breaks : goal.returns-clause-breaks
returns-clause-breaks g c =
    let before = g.D.Door.links c.args.door.now in
    let mid = g.D.Door.links c.admit_all-came.new.door in
    let now = g.D.Door.links c.part_all.new.door in
    broke g.D.Reader.Source.left g.D.Reader.Source.faults g.D.Writer.Sink.faults c.args.page_bytes c.args.links c.in-Err.fault c.admit_all-came.new.slots.items
    before mid now c.part_all.new.ears.items c.admit_all-came.ensures.most c.admit_all-came.ensures.each c.in-Err.ensures.asked c.part_all.ensures.parted
