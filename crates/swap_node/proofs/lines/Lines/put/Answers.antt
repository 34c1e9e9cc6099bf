use Rattle.std.proofs.Common.{set, subst, sym, ap, ◌∙◌, arith, refl}
use Rattle.std.proofs.lemmas.List.{length-set}
use Rattle.swap_wire.specs.Frames.{frame, page_with}
use Rattle.swap_node.specs.Boards.{Board, PutsOn}
use Rattle.swap_node.proofs.Rows.{all_fit, with_failed, without_failed, puts_at}
use Rattle.swap_node.proofs.lines.Lines.put.Goals as goal

pub invariant_of-self : goal.invariant_of-self
invariant_of-self g c =
    let same =
    with_failed c.self.inside.list.items c.args.link.0 c.put.new.self c.index_mut.result.now c.put.result c.self.inside.failed.items c.args.link
    c.push_reserved.new.self.items
    (omega arith) c.index_mut.ensures.value c.put.ensures.weight c.if-put.true c.push_reserved.ensures.items in (
      all_fit c.self.inside.list.items c.args.link.0 c.put.new.self c.self.inside.page_bytes
          (c.requires ∙ ap (λ (b : Board g.row.K.Denot). b.page_bytes) (sym c.self.view_is)) c.put.ensures.page c.self.invariant.0,
      omega (arith, same, c.self.invariant.1, c.push_reserved.ensures.capacity),
      omega (arith, length-set c.self.inside.list.items c.args.link.0 c.put.new.self, c.self.invariant.2, c.push_reserved.ensures.capacity),
    )

pub invariant_of-self-else-put : goal.invariant_of-self-else-put
invariant_of-self-else-put g c =
    let same =
    without_failed c.self.inside.list.items c.args.link.0 c.put.new.self c.index_mut.result.now c.put.result c.self.inside.failed.items
    (omega arith) c.index_mut.ensures.value c.put.ensures.weight c.if-put.false in (
      all_fit c.self.inside.list.items c.args.link.0 c.put.new.self c.self.inside.page_bytes
          (c.requires ∙ ap (λ (b : Board g.row.K.Denot). b.page_bytes) (sym c.self.view_is)) c.put.ensures.page c.self.invariant.0,
      omega (arith, same, c.self.invariant.1),
      omega (arith, length-set c.self.inside.list.items c.args.link.0 c.put.new.self, c.self.invariant.2),
    )

pub returns-then-put-clause-puts : goal.returns-then-put-clause-puts
returns-then-put-clause-puts g c =
    let now : Board g.row.K.Denot =
    record {
      lines = set c.self.inside.list.items c.args.link.0 c.put.new.self;
      failed = c.push_reserved.new.self.items;
      page_bytes = c.self.inside.page_bytes;
    } in
    let before : Board g.row.K.Denot =
    record { lines = c.self.inside.list.items; failed = c.self.inside.failed.items; page_bytes = c.self.inside.page_bytes } in
    subst (λ (b : Board g.row.K.Denot).
    PutsOn g.K.Sink.taken g.K.Sink.faults b c.args.link (frame c.args.msg.now (page_with c.args.msg.now c.args.page.now)) now)
    c.self.view_is
    (puts_at g.K.Sink.taken g.K.Sink.faults before c.args.link
    (frame c.args.msg.now (page_with c.args.msg.now c.args.page.now)) c.index_mut.result.now c.put.new.self c.put.result c.push_reserved.new.self.items
    (omega arith) c.index_mut.ensures.value c.put.ensures.puts (rw c.if-put.true c.push_reserved.ensures.items))

pub returns-else-put-clause-puts : goal.returns-else-put-clause-puts
returns-else-put-clause-puts g c =
    let now : Board g.row.K.Denot =
    record {
      lines = set c.self.inside.list.items c.args.link.0 c.put.new.self;
      failed = c.self.inside.failed.items;
      page_bytes = c.self.inside.page_bytes;
    } in
    let before : Board g.row.K.Denot =
    record { lines = c.self.inside.list.items; failed = c.self.inside.failed.items; page_bytes = c.self.inside.page_bytes } in
    subst (λ (b : Board g.row.K.Denot).
    PutsOn g.K.Sink.taken g.K.Sink.faults b c.args.link (frame c.args.msg.now (page_with c.args.msg.now c.args.page.now)) now)
    c.self.view_is
    (puts_at g.K.Sink.taken g.K.Sink.faults before c.args.link
    (frame c.args.msg.now (page_with c.args.msg.now c.args.page.now)) c.index_mut.result.now c.put.new.self c.put.result c.self.inside.failed.items
    (omega arith) c.index_mut.ensures.value c.put.ensures.puts (rw c.if-put.false refl))
