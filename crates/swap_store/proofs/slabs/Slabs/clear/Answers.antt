use Rattle.std.proofs.Common.{ℕ, ◌*◌, ◌<◌, List, length, set, replicate, sym, ap, ◌∙◌, subst, arith}
use Rattle.swap_store.specs.Blocks.{blocks_in}
use Rattle.swap_store.specs.Slabs.{Slabs, slabs_in}
use Rattle.swap_store.proofs.BlocksLaws.{blocks-zeros, items_after}
use Rattle.swap_store.proofs.SlabsLaws.{slab_within, slabs_written}
use Rattle.swap_store.proofs.slabs.Slabs.clear.Goals as goal

pub fill_block-requires : goal.fill_block-requires
fill_block-requires c =
    let within =
    slab_within c.self.inside.slabs c.self.inside.pages_per_slab c.self.inside.page_bytes c.self.inside.bytes.items c.args.slab
    (subst (λ (s : Slabs). c.args.slab < length s.slabs) (sym c.self.view_is) c.requires) c.self.invariant in
    omega (arith, within.1, c.deref_mut.ensures.len, c.self.inside.bytes.ok)

pub returns : goal.returns
returns c =
    let slabs = c.self.inside.slabs in
    let pages = c.self.inside.pages_per_slab in
    let n = c.self.inside.page_bytes in
    let w = pages * n in
    let old = c.self.inside.bytes.items in
    let within =
    slab_within slabs pages n old c.args.slab (subst (λ (s : Slabs). c.args.slab < length s.slabs) (sym c.self.view_is) c.requires) c.self.invariant in
    let blocks =
    ap (λ l. blocks_in slabs w l)
    (items_after c.self.inside.bytes c.deref_mut.result.now c.fill_block.new.bytes c.deref_mut.ensures.value c.fill_block.auto.bytes)
    ∙ c.fill_block.ensures slabs within.0 (ap length c.deref_mut.ensures.value ∙ c.self.invariant)
    ∙ ap (λ l. set (blocks_in slabs w l) c.args.slab (replicate w 0)) c.deref_mut.ensures.value in
    let F : List (List (List ℕ)) → Slabs = λ s. record { slabs = s; page_bytes = n; pages_per_slab = pages } in
    let W : Slabs → Slabs = λ s. record s { slabs = set s.slabs c.args.slab (replicate s.pages_per_slab (replicate s.page_bytes 0)) } in
    ap F
    (slabs_written slabs pages n old _ (replicate w 0) c.args.slab blocks ∙ ap (λ b. set (slabs_in slabs pages n old) c.args.slab b) (blocks-zeros pages n))
    ∙ ap W c.self.view_is
