use Rattle.std.proofs.Common.{◌≡◌, [], ◌∷◌, ◌++◌, length, refl, sym, ap, subst, ◌∙◌, arith, length-append, append-nil, append_assoc, List}
use Rattle.std.proofs.lemmas.List.{nil_from_length}
use Rattle.std.specs.Vec.Iter.{into_iter_items}
use Rattle.swap_sock.specs.Dealings.{Dealings, Left, got_back, left_by}
use Rattle.swap_node.specs.declared.node.Ear.{Ear}
use Rattle.swap_serve.specs.Slots.{Visit, AreKeptBy}
use Rattle.swap_serve.proofs.Served.{back_last, kept_last}
use Rattle.swap_serve.proofs.links.part_all.Goals as goal

pub loop-slot-init : goal.loop-slot-init
loop-slot-init g c =
    let items = c.into_iter-slot-iterator.ensures.into_iter_gives.0 in (
      [],
      [],
      sym items,
      refl,
      subst (λ (es : List Ear). AreKeptBy g.D.Reader.Source.left g.D.Reader.Source.faults g.D.Writer.Sink.faults [] [] es) (sym c.requires.empty) tt,
      omega (arith, ap length items, ap length c.requires.empty, c.requires.room),
      omega arith,
    )

pub loop-slot-preserved : goal.loop-slot-preserved
loop-slot-preserved g c =
    let was = c.loop-slot.invariant in
    let done = was.0 in
    let backs = was.1 in
    let slot = c.in-Some.slot in
    let rest = into_iter_items c.next.new.self in
    let next = c.in-Some.ensures.steps.0 in
    let back : Left g.row.D-Reader.Denot g.row.D-Writer.Denot = left_by c.finish-heard.result.reader c.finish-heard.result.end in (
      done ++ slot ∷ [],
      backs ++ back ∷ [],
      was.2 ∙ ap (λ (xs : List (Visit g.row.D-Reader.Denot)). done ++ xs) next ∙ sym (append_assoc done (slot ∷ []) rest),
      c.back.ensures.links ∙ ap (λ (d : Dealings (Unit {0}) g.row.D-Reader.Denot (Left g.row.D-Reader.Denot g.row.D-Writer.Denot)). got_back back d) was.3
          ∙ sym (back_last backs back (g.D.Door.links c.args.door.now)),
      rw c.push_reserved.ensures.items
          (kept_last g.D.Reader.Source.left g.D.Reader.Source.faults g.D.Writer.Sink.faults done backs c.loop-slot.ears.items slot back
          c.finish-heard.result.ear
          was.4 c.finish-heard.ensures),
      omega (
        arith,
        ap length next,
        ap length c.push_reserved.ensures.items,
        length-append c.loop-slot.ears.items (c.finish-heard.result.ear ∷ []),
        c.push_reserved.ensures.capacity,
        was.5,
      ),
      omega (arith, was.6, c.back.ensures.later),
    )

pub returns-clause-parted : goal.returns-clause-parted
returns-clause-parted g c =
    let was = c.loop-slot.invariant in
    let rest = into_iter_items c.loop-slot.slot-iterator in
    let none : rest ≡ [] = nil_from_length rest (sym c.loop-slot.slot-iterator.rest.ok.0 ∙ c.in-None.ensures.steps.0) in
    let all : c.args.slots.items ≡ was.0 = was.2 ∙ ap (λ (xs : List (Visit g.row.D-Reader.Denot)). was.0 ++ xs) none ∙ append-nil was.0 in
    record {
      backs = was.1;
      dealings = was.3;
      each =
          subst (λ (vs : List (Visit g.row.D-Reader.Denot)).
          AreKeptBy g.D.Reader.Source.left g.D.Reader.Source.faults g.D.Writer.Sink.faults vs was.1 c.loop-slot.ears.items)
          (sym all) was.4;
    }
