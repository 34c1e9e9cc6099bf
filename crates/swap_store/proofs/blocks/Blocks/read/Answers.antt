use Rattle.std.proofs.Common.{◌<◌, [], length, get_or, sym, ap, ◌∙◌, subst, arith}
use Rattle.swap_store.specs.Blocks.{Blocks, block_in}
use Rattle.swap_store.proofs.BlocksLaws.{block_within, get_block}
use Rattle.swap_store.proofs.blocks.Blocks.read.Goals as goal

pub block-requires : goal.block-requires
block-requires c =
    let within =
    block_within c.self.inside.pages c.self.inside.page_bytes c.self.inside.bytes.items c.args.page
    (subst (λ (b : Blocks). c.args.page < length b.blocks) (sym c.self.view_is) c.requires.page) c.self.invariant in
    omega (arith, within.1, c.deref.ensures.len, c.self.inside.bytes.ok)

pub returns : goal.returns
returns c =
    let within =
    block_within c.self.inside.pages c.self.inside.page_bytes c.self.inside.bytes.items c.args.page
    (subst (λ (b : Blocks). c.args.page < length b.blocks) (sym c.self.view_is) c.requires.page) c.self.invariant in
    c.copy_from_slice.ensures.after ∙ c.block.ensures.block
    ∙ ap (λ l. block_in c.self.inside.page_bytes l c.args.page) c.deref.ensures.value
    ∙ sym (get_block c.self.inside.pages c.self.inside.page_bytes c.self.inside.bytes.items c.args.page within.0)
    ∙ ap (λ (b : Blocks). get_or b.blocks c.args.page []) c.self.view_is
