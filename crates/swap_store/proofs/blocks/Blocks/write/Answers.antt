use Rattle.std.proofs.Common.{ℕ, ◌<◌, List, length, set, sym, ap, ◌∙◌, subst, arith}
use Rattle.swap_store.specs.Blocks.{Blocks, blocks_in}
use Rattle.swap_store.proofs.BlocksLaws.{block_within, items_after}
use Rattle.swap_store.proofs.blocks.Blocks.write.Goals as goal

pub write_block-requires-clause-within : goal.write_block-requires-clause-within
write_block-requires-clause-within c =
    let within =
    block_within c.self.inside.pages c.self.inside.page_bytes c.self.inside.bytes.items c.args.page
    (subst (λ (b : Blocks). c.args.page < length b.blocks) (sym c.self.view_is) c.requires.page) c.self.invariant in
    omega (arith, within.1, c.deref_mut.ensures.len, c.self.inside.bytes.ok)

pub returns : goal.returns
returns c =
    let pages = c.self.inside.pages in
    let n = c.self.inside.page_bytes in
    let within =
    block_within pages n c.self.inside.bytes.items c.args.page
    (subst (λ (b : Blocks). c.args.page < length b.blocks) (sym c.self.view_is) c.requires.page) c.self.invariant in
    let F : List (List ℕ) → Blocks = λ bs. record { blocks = bs; page_bytes = n } in
    let W : Blocks → Blocks = λ b. record b { blocks = set b.blocks c.args.page c.args.bytes.now } in
    ap F
    (ap (λ l. blocks_in pages n l)
    (items_after c.self.inside.bytes c.deref_mut.result.now c.write_block.new.bytes c.deref_mut.ensures.value c.write_block.auto.bytes)
    ∙ c.write_block.ensures pages within.0 (ap length c.deref_mut.ensures.value ∙ c.self.invariant)
    ∙ ap (λ l. set (blocks_in pages n l) c.args.page c.args.bytes.now) c.deref_mut.ensures.value)
    ∙ ap W c.self.view_is
