use Rattle.std.proofs.Common.{ap, ◌∙◌, subst}
use Rattle.swap_wire.specs.declared.decoder.Next.{Next}
use Rattle.swap_wire.specs.Decoding.{DecoderView, page_in, Answers}
use Rattle.swap_wire.proofs.Answering.{called, must_give, must_wait, must_fail, same_pages}
use Rattle.swap_wire.proofs.decoder.Decoder.next.Goals as goal

pub returns-clause-answer : goal.returns-clause-answer
returns-clause-answer c =
    (called c.args.self.now c.step.result c.step.new.self c.args.page.now c.step.new.page c.step.ensures.page_bytes c.step.ensures.bytes c.step.ensures.bad
    c.step.ensures.told c.step.ensures.left c.step.ensures.page).answers

pub returns-clause-after : goal.returns-clause-after
returns-clause-after c =
    (called c.args.self.now c.step.result c.step.new.self c.args.page.now c.step.new.page c.step.ensures.page_bytes c.step.ensures.bytes c.step.ensures.bad
    c.step.ensures.told c.step.ensures.left c.step.ensures.page).after_is

pub returns-clause-page : goal.returns-clause-page
returns-clause-page c =
    (called c.args.self.now c.step.result c.step.new.self c.args.page.now c.step.new.page c.step.ensures.page_bytes c.step.ensures.bytes c.step.ensures.bad
    c.step.ensures.told c.step.ensures.left c.step.ensures.page).page

pub returns-clause-more : goal.returns-clause-more
returns-clause-more c =
    let answers =
    (called c.args.self.now c.step.result c.step.new.self c.args.page.now c.step.new.page c.step.ensures.page_bytes c.step.ensures.bytes c.step.ensures.bad
    c.step.ensures.told c.step.ensures.left c.step.ensures.page).answers in (
      λ e. subst (λ (a : Next). Answers c.args.self.now a (page_in c.args.self.now c.step.result c.step.new.page)) e answers,
      must_wait c.args.self.now c.step.result (page_in c.args.self.now c.step.result c.step.new.page) answers,
    )

pub returns-clause-bad : goal.returns-clause-bad
returns-clause-bad c at =
    let answers =
    (called c.args.self.now c.step.result c.step.new.self c.args.page.now c.step.new.page c.step.ensures.page_bytes c.step.ensures.bytes c.step.ensures.bad
    c.step.ensures.told c.step.ensures.left c.step.ensures.page).answers in (
      λ e. subst (λ (a : Next). Answers c.args.self.now a (page_in c.args.self.now c.step.result c.step.new.page)) e answers,
      must_fail c.args.self.now at c.step.result (page_in c.args.self.now c.step.result c.step.new.page) answers,
    )

pub returns-clause-page_bytes : goal.returns-clause-page_bytes
returns-clause-page_bytes c =
    let after_is =
    (called c.args.self.now c.step.result c.step.new.self c.args.page.now c.step.new.page c.step.ensures.page_bytes c.step.ensures.bytes c.step.ensures.bad
    c.step.ensures.told c.step.ensures.left c.step.ensures.page).after_is in
    ap (λ (d : DecoderView). d.page_bytes) after_is ∙ same_pages c.args.self.now c.step.result (page_in c.args.self.now c.step.result c.step.new.page)

pub returns-clause-got : goal.returns-clause-got
returns-clause-got c =
    λ m page g.
    must_give c.args.self.now m page c.step.result (page_in c.args.self.now c.step.result c.step.new.page)
    (called c.args.self.now c.step.result c.step.new.self c.args.page.now c.step.new.page c.step.ensures.page_bytes c.step.ensures.bytes c.step.ensures.bad
    c.step.ensures.told c.step.ensures.left c.step.ensures.page).answers
    g
