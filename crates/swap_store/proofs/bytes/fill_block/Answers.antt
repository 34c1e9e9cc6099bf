use Rattle.std.proofs.Common.{◌≡◌, ◌+◌, ◌*◌, ◌-◌, List, ℕ, length, replicate, ap, ◌∙◌, arith}
use Rattle.std.proofs.lemmas.List.{length-replicate}
use borrow.Rule.Slice.PartMut.{put_mid}
use Rattle.swap_store.specs.Blocks.{block_in, blocks_in}
use Rattle.swap_store.proofs.BlocksLaws.{blocks-put, length-block}
use Rattle.swap_store.proofs.bytes.fill_block.Goals as goal

pub returns : goal.returns
returns c = λ blocks lt whole.
    let n = c.args.width in
    let filled : List ℕ = replicate n c.args.value in
    let size : c.args.at * n + n - c.args.at * n ≡ n = omega arith in
    let fills : length (block_in n c.args.bytes.now c.args.at) ≡ n = length-block blocks n c.args.bytes.now c.args.at lt whole in
    ap (λ l. blocks_in blocks n l)
    (ap (λ k. put_mid (c.args.at * n) k c.args.bytes.now c.fill.new.self) size
    ∙ ap (λ l. put_mid (c.args.at * n) n c.args.bytes.now l) (c.fill.ensures.after (λ y e. e) ∙ ap (λ k. replicate k c.args.value) fills))
    ∙ blocks-put blocks n c.args.bytes.now filled c.args.at lt whole (length-replicate n c.args.value)
