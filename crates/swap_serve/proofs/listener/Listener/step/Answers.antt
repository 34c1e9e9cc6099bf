use Rattle.std.proofs.Common.{sym, ap, subst, ◌∙◌, slice_range}
use Rattle.swap_wire.specs.declared.decoder.Next.TheVariants as next
use Rattle.swap_wire.specs.Decoding.{DecoderView, page_in}
use Rattle.swap_serve.specs.Hearing.{Hearing, IsHearing, GoesOn}
use Rattle.swap_serve.specs.Steps.{Reads}
use Rattle.swap_serve.proofs.Heard.{delivered, went_bad, went_on}
use Rattle.swap_serve.proofs.listener.Listener.step.Goals as goal

pub returns-in-Got : goal.returns-in-Got
returns-in-Got g c page_bytes given link gs h =
    let m = c.in-Got.msg in
    let page = page_in c.self.inside.decoder (next.Got m) c.next.new.page in
    let ahead = slice_range c.self.inside.bytes.items c.self.inside.at c.self.inside.end in
    let a : Hearing g.row.S.Denot = record { reader = c.self.inside.reader; decoder = c.self.inside.decoder; ahead = ahead; ear = c.self.inside.ear } in
    let was : IsHearing g.S.Source.left g.S.Source.faults page_bytes given link a gs =
    subst (λ (x : Hearing g.row.S.Denot). IsHearing g.S.Source.left g.S.Source.faults page_bytes given link x gs) (sym c.self.view_is) h in
    let d =
    delivered g.S.Source.left g.S.Source.faults g.K.Sink.faults page_bytes given link a gs m page c.deliver.result c.deliver.new.self.ear was
    c.in-Got.ensures.answer c.deliver.ensures.ear in
    let F : DecoderView → Hearing g.row.S.Denot = λ x. record { reader = a.reader; decoder = x; ahead = ahead; ear = c.deliver.new.self.ear } in
    subst (λ (x : Hearing g.row.S.Denot). GoesOn g.S.Source.left g.S.Source.faults g.K.Sink.faults page_bytes given link c.deliver.result x)
    (ap F (sym c.in-Got.ensures.after) ∙ sym c.deliver.ensures.same) d

pub returns-in-Bad : goal.returns-in-Bad
returns-in-Bad g c page_bytes given link gs h =
    let ahead = slice_range c.self.inside.bytes.items c.self.inside.at c.self.inside.end in
    let a : Hearing g.row.S.Denot = record { reader = c.self.inside.reader; decoder = c.self.inside.decoder; ahead = ahead; ear = c.self.inside.ear } in
    let was : IsHearing g.S.Source.left g.S.Source.faults page_bytes given link a gs =
    subst (λ (x : Hearing g.row.S.Denot). IsHearing g.S.Source.left g.S.Source.faults page_bytes given link x gs) (sym c.self.view_is) h in
    went_bad g.S.Source.left g.S.Source.faults g.K.Sink.faults page_bytes given link a gs c.in-Bad.at was c.in-Bad.ensures.answer

pub returns-in-More : goal.returns-in-More
returns-in-More g c page_bytes given link gs h =
    let ahead = slice_range c.self.inside.bytes.items c.self.inside.at c.self.inside.end in
    let F : DecoderView → Hearing g.row.S.Denot = λ x. record { reader = c.self.inside.reader; decoder = x; ahead = ahead; ear = c.self.inside.ear } in
    let a : Hearing g.row.S.Denot = F c.self.inside.decoder in
    let was : IsHearing g.S.Source.left g.S.Source.faults page_bytes given link a gs =
    subst (λ (x : Hearing g.row.S.Denot). IsHearing g.S.Source.left g.S.Source.faults page_bytes given link x gs) (sym c.self.view_is) h in
    let reads : Reads g.S.Source.left g.S.Source.faults a c.more.result c.more.new.self =
    subst (λ (x : DecoderView). Reads g.S.Source.left g.S.Source.faults (F x) c.more.result c.more.new.self) c.in-More.ensures.after c.more.ensures in
    went_on g.S.Source.left g.S.Source.faults g.K.Sink.faults page_bytes given link a c.more.new.self gs c.more.result was c.in-More.ensures.answer reads
