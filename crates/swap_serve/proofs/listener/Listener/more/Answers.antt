use Rattle.std.proofs.Common.{◌≡◌, ℕ, ◌+◌, List, sym, ap, subst, ◌∙◌, arith, slice_range}
use Rattle.std.specs.Vec.{with_items}
use Rattle.std.proofs.lemmas.List.{with_items_is}
use Rattle.swap_wire.specs.Decoding.{Waits, bytes_taken, feed_after}
use Rattle.swap_serve.specs.Hearing.{Hearing}
use Rattle.swap_serve.specs.Steps.{Fills}
use Rattle.swap_serve.proofs.Heard.{fills_fed, fills_read, within_range}
use Rattle.swap_serve.proofs.listener.Listener.more.Goals as goal

pub returns-then-self : goal.returns-then-self
returns-then-self g c =
    let at = c.self.inside.at in
    let end = c.self.inside.end in
    let xs = c.self.inside.bytes.items in
    let F : List ℕ → List ℕ = λ l. slice_range l at end in
    let waits : Waits c.self.inside.decoder = subst (λ (x : Hearing g.row.S.Denot). Waits x.decoder) (sym c.self.view_is) c.requires in
    let n_is : c.feed.result ≡ bytes_taken c.self.inside.decoder (F xs) =
    c.feed.ensures.taken ∙ ap (λ l. bytes_taken c.self.inside.decoder (F l)) c.deref.ensures.value in
    let e_is : c.feed.new.self ≡ feed_after c.self.inside.decoder (F xs) =
    c.feed.ensures.kept ∙ ap (λ l. feed_after c.self.inside.decoder (F l)) c.deref.ensures.value in
    subst (λ (x : Hearing g.row.S.Denot).
    Fills g.S.Source.left g.S.Source.faults x
    (record { reader = c.self.inside.reader; decoder = c.feed.new.self; ahead = slice_range xs (at + c.feed.result) end; ear = c.self.inside.ear }))
    c.self.view_is
    (fills_fed g.S.Source.left g.S.Source.faults c.self.inside.reader c.self.inside.ear c.self.inside.decoder c.feed.new.self xs at end c.feed.result waits
    (within_range c.self.inside.decoder xs at end c.feed.result (omega (arith, c.if-self.true)) n_is) n_is e_is)

pub returns-in-Ok : goal.returns-in-Ok
returns-in-Ok g c =
    let items_is = with_items_is c.self.inside.bytes c.read.new.buf (c.read.auto.buf ∙ c.deref_mut.ensures.len) in
    let H : List ℕ → Hearing g.row.S.Denot =
    λ l. record { reader = c.read.new.self; decoder = c.self.inside.decoder; ahead = slice_range l 0 c.in-Ok.count; ear = c.self.inside.ear } in
    subst (λ (x : Hearing g.row.S.Denot). Fills g.S.Source.left g.S.Source.faults x (H (with_items c.self.inside.bytes c.read.new.buf).items)) c.self.view_is
    (subst
    (λ (l : List ℕ).
    Fills g.S.Source.left g.S.Source.faults
    (record {
      reader = c.self.inside.reader;
      decoder = c.self.inside.decoder;
      ahead = slice_range c.self.inside.bytes.items c.self.inside.at c.self.inside.end;
      ear = c.self.inside.ear;
    })
    (H l))
    (sym items_is)
    (fills_read g.S.Source.left g.S.Source.faults c.self.inside.reader c.read.new.self c.self.inside.ear c.self.inside.decoder c.self.inside.bytes.items
    c.read.new.buf c.self.inside.at c.self.inside.end c.in-Ok.count
    (omega (arith, c.if-self.false)) c.in-Ok.ensures.bytes.0 c.in-Ok.ensures.cause.later))
