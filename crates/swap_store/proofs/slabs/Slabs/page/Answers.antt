use Rattle.std.proofs.Common.{ℕ, ◌*◌, ◌<◌, List, [], length, get_or, sym, ap, ◌∙◌, subst, arith}
use Rattle.swap_store.specs.Blocks.{block_in}
use Rattle.swap_store.specs.Slabs.{Slabs}
use Rattle.swap_store.proofs.BlocksLaws.{get_block}
use Rattle.swap_store.proofs.SlabsLaws.{slab_within, get_slab}
use Rattle.swap_store.proofs.slabs.Slabs.page.Goals as goal

pub block-requires : goal.block-requires
block-requires c =
    let within =
    slab_within c.self.inside.slabs c.self.inside.pages_per_slab c.self.inside.page_bytes c.self.inside.bytes.items c.args.slab
    (subst (λ (s : Slabs). c.args.slab < length s.slabs) (sym c.self.view_is) c.requires.slab) c.self.invariant in
    omega (arith, within.1, c.deref.ensures.len, c.self.inside.bytes.ok)

pub returns-clause-page : goal.returns-clause-page
returns-clause-page c =
    let pages = c.self.inside.pages_per_slab in
    let n = c.self.inside.page_bytes in
    let w = pages * n in
    let within =
    slab_within c.self.inside.slabs pages n c.self.inside.bytes.items c.args.slab
    (subst (λ (s : Slabs). c.args.slab < length s.slabs) (sym c.self.view_is) c.requires.slab) c.self.invariant in
    let there : c.args.place < pages = subst (λ (s : Slabs). c.args.place < s.pages_per_slab) (sym c.self.view_is) c.requires.place in
    c.block-2.ensures.block ∙ ap (λ l. block_in n l c.args.place) c.block.ensures.block
    ∙ ap (λ l. block_in n (block_in w l c.args.slab) c.args.place) c.deref.ensures.value
    ∙ sym (get_block pages n (block_in w c.self.inside.bytes.items c.args.slab) c.args.place there)
    ∙ ap (λ (b : List (List ℕ)). get_or b c.args.place []) (sym (get_slab c.self.inside.slabs pages n c.self.inside.bytes.items c.args.slab within.0))
    ∙ ap (λ (s : Slabs). get_or (get_or s.slabs c.args.slab []) c.args.place []) c.self.view_is
