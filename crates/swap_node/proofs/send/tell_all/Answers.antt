use Rattle.std.proofs.Common.{◌≡◌, ◌∷◌, length, refl, ap, ◌∙◌}
use Rattle.swap_lender.specs.Outbox.{OutboxView}
use Rattle.swap_node.specs.Boards.{Board}
use Rattle.swap_node.proofs.Telling.{tell_one, tell_none}
use Rattle.swap_node.proofs.send.tell_all.Goals as goal

pub telling-preserved : goal.telling-preserved
telling-preserved g c =
    let first : c.telling.lines.failed ≡ c.in-Some.link ∷ c.next_failed.new.self.failed = c.in-Some.ensures.first in
    let rest = c.next_failed.ensures.rest in
    record {
      told =
          λ m b t.
          c.telling.invariant.told m b
          (tell_one g.K.Sink.taken g.K.Sink.faults c.telling.core c.gone.new.self m c.telling.lines c.next_failed.new.self c.put_all.new.lines b
          c.in-Some.link c.gone.new.out.parcels first rest c.gone.ensures.state
          (ap (λ (o : OutboxView). o.parcels) c.gone.ensures.outbox) c.put_all.ensures.puts t);
      lending = c.gone.ensures.lending ∙ c.telling.invariant.lending;
      out =
          rw (c.put_all.ensures.out, c.gone.ensures.outbox)
          (record { empty = refl; slots = c.telling.invariant.out.slots; page = c.telling.invariant.out.page });
      page_bytes = c.put_all.ensures.page_bytes ∙ (ap (λ (b : Board g.row.K.Denot). b.page_bytes) rest ∙ c.telling.invariant.page_bytes);
      number = c.put_all.ensures.number ∙ (ap (λ (b : Board g.row.K.Denot). length b.lines) rest ∙ c.telling.invariant.number);
    }

pub returns-clause-told : goal.returns-clause-told
returns-clause-told g c =
    let first = c.in_default.ensures.first in
    c.telling.invariant.told c.telling.core c.next_failed.new.self
    (tell_none g.K.Sink.taken g.K.Sink.faults c.telling.core c.telling.lines c.next_failed.new.self first.0 first.1)
