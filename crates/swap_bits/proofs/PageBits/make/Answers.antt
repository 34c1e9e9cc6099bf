use Rattle.std.proofs.Common.{◌≡◌, ◌+◌, ◌/◌, ◌∙◌, ap, arith, replicate}
use Rattle.swap_bits.specs.Words.{set_of}
use Rattle.swap_bits.proofs.InWords.{none_in}
use Rattle.swap_bits.proofs.PageBits.make.Goals as goal

pub returns-in-Ok : goal.returns-in-Ok
returns-in-Ok c =
    let zeros : c.in-Ok.words.items ≡ replicate (c.args.n / 64 + 1) 0 = c.in-Ok.ensures.items_if_clones_equal (λ y e. e) in
    ap (λ words. set_of words c.args.n) zeros ∙ none_in (c.args.n / 64 + 1) c.args.n (omega arith)
