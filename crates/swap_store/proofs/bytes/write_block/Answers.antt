use Rattle.std.proofs.Common.{◌≡◌, ◌+◌, ◌*◌, ◌-◌, ap, ◌∙◌, arith}
use borrow.Rule.Slice.PartMut.{put_mid}
use Rattle.swap_store.specs.Blocks.{blocks_in}
use Rattle.swap_store.proofs.BlocksLaws.{blocks-put}
use Rattle.swap_store.proofs.bytes.write_block.Goals as goal

pub returns : goal.returns
returns c = λ blocks lt whole.
    let n = c.args.width in
    let size : c.args.at * n + n - c.args.at * n ≡ n = omega arith in
    ap (λ l. blocks_in blocks n l)
    (ap (λ k. put_mid (c.args.at * n) k c.args.bytes.now c.copy_from_slice.new.self) size
    ∙ ap (λ l. put_mid (c.args.at * n) n c.args.bytes.now l) c.copy_from_slice.ensures.after)
    ∙ blocks-put blocks n c.args.bytes.now c.args.block.now c.args.at lt whole c.requires.block
