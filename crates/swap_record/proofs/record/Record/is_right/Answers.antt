use Rattle.std.proofs.Common.{rules, ◌≡◌, ◌⊎◌, inl, inr, true, false, IsTrue, arith, replicate, length, ◌<◌, ◌≤◌, sym, ◌∙◌}
use Rattle.swap_record.specs.History.{last, array}
use Rattle.swap_record.specs.Judging.{oldest}
use Rattle.swap_record.proofs.Judged.{content_is, last_within, judged, Judged}
use Rattle.swap_record.proofs.record.Record.is_right.Goals as goal

pub content-requires : goal.content-requires
content-requires c =
    last_within c.args.self.now.history c.args.no.0 c.entry-entry.result.page c.newest_of-last.result (omega (arith, c.requires.within))
    (c.newest_of-last.ensures ∙ c.requires.newest c.entry-entry.result.page)

both :
    (c : goal.After-fits)
    → Judged
    (replicate c.args.self.now.page_bytes 0) c.args.self.now.history c.args.no.0 c.entry-entry.result c.bytes.result.now c.content.result.now
    c.newest_of-last.result
both c =
    let is_last : c.newest_of-last.result ≡ last (oldest c.args.no.0 c.args.self.now.history) c.entry-entry.result.page =
    c.newest_of-last.ensures ∙ c.requires.newest c.entry-entry.result.page in
    let within : c.args.no.0 ≤ length c.args.self.now.history = omega (arith, c.requires.within) in
    let is_content : c.content.result.now ≡ array c.args.zeros.now (oldest c.args.no.0 c.args.self.now.history) c.entry-entry.result.page =
    content_is c.args.zeros.now c.args.self.now.history c.args.no.0 c.entry-entry.result.page c.newest_of-last.result c.content.result.now within is_last
    c.content.ensures.none c.content.ensures.some in
    judged
    (replicate c.args.self.now.page_bytes 0) c.args.self.now.history c.args.no.0 c.entry-entry.result c.bytes.result.now c.content.result.now
    c.newest_of-last.result c.requires.within c.holds.ensures.numbers c.entry-entry.ensures c.bytes.ensures.bytes is_last
    (rw c.requires.zeros at is_content) c.requires.legal

pub returns-clause-right : goal.returns-clause-right
returns-clause-right c = λ is. (search rules, (both c).0 (c.fits.ensures.0 is))

pub returns-clause-wrong : goal.returns-clause-wrong
returns-clause-wrong c = λ is. inr (λ legal. let yes = c.fits.ensures.1 ((both c).1 legal) in cc)
