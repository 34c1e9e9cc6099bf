use Rattle.std.proofs.Common.{◌++◌, true, false, length, sym, ap, ◌∙◌, arith}
use Rattle.swap_io.specs.Words.{shortest}
use Rattle.swap_record.proofs.Spelled.{shortest_within}
use Rattle.swap_transcript.proofs.Lines.{page_word-is}
use Rattle.swap_transcript.proofs.pages.page_by_word.Goals as goal

pub shortest-requires : goal.shortest-requires
shortest-requires c = omega (arith, shortest_within c.pattern.new.page, ap length c.clear.ensures, c.requires.few, c.pattern.auto.page)

pub returns-then-eq-clause-page : goal.returns-then-eq-clause-page
returns-then-eq-clause-page c =
    sym (page_word-is (length c.args.page.now) c.args.word.now c.pattern.new.page c.bytes.result.now true (sym c.if-not-pattern.ensures.page)
    (c.bytes.ensures.bytes ∙ c.shortest.ensures ∙ ap (λ l. l ++ shortest c.pattern.new.page) c.clear.ensures) (sym c.eq.ensures ∙ c.if-eq.true))

pub returns-else-eq-clause-page : goal.returns-else-eq-clause-page
returns-else-eq-clause-page c =
    sym (page_word-is (length c.args.page.now) c.args.word.now c.pattern.new.page c.bytes.result.now false (sym c.if-not-pattern.ensures.page)
    (c.bytes.ensures.bytes ∙ c.shortest.ensures ∙ ap (λ l. l ++ shortest c.pattern.new.page) c.clear.ensures) (sym c.eq.ensures ∙ c.if-eq.false))
