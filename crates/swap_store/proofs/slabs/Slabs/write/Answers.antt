use Rattle.std.proofs.Common.{◌≡◌, ℕ, ◌+◌, ◌*◌, ◌-◌, ◌<◌, List, [], length, get_or, set, refl, sym, ap, ◌∙◌, subst, arith}
use Rattle.std.specs.List.{between}
use Rattle.swap_store.specs.Blocks.{block_in, blocks_in}
use Rattle.swap_store.specs.Slabs.{Slabs, slabs_in}
use Rattle.swap_store.proofs.BlocksLaws.{blocks_written, length-block}
use Rattle.swap_store.proofs.SlabsLaws.{slab_within, get_slab, slabs_written}
use Rattle.swap_store.proofs.slabs.Slabs.write.Goals as goal

pub overflow_mul-start : goal.overflow_mul-start
overflow_mul-start c =
    let within =
    slab_within c.self.inside.slabs c.self.inside.pages_per_slab c.self.inside.page_bytes c.self.inside.bytes.items c.args.slab
    (subst (λ (s : Slabs). c.args.slab < length s.slabs) (sym c.self.view_is) c.requires.slab) c.self.invariant in
    omega (arith, within.1, c.self.inside.bytes.ok, c.self.inside.bytes.small)

pub overflow_add-start : goal.overflow_add-start
overflow_add-start c =
    let within =
    slab_within c.self.inside.slabs c.self.inside.pages_per_slab c.self.inside.page_bytes c.self.inside.bytes.items c.args.slab
    (subst (λ (s : Slabs). c.args.slab < length s.slabs) (sym c.self.view_is) c.requires.slab) c.self.invariant in
    omega (arith, within.1, c.self.inside.bytes.ok, c.self.inside.bytes.small)

pub slice_bounds-write_block-end : goal.slice_bounds-write_block-end
slice_bounds-write_block-end c =
    let within =
    slab_within c.self.inside.slabs c.self.inside.pages_per_slab c.self.inside.page_bytes c.self.inside.bytes.items c.args.slab
    (subst (λ (s : Slabs). c.args.slab < length s.slabs) (sym c.self.view_is) c.requires.slab) c.self.invariant in
    omega (arith, within.1, c.deref_mut.ensures.len, c.self.inside.bytes.ok)

pub returns : goal.returns
returns c =
    let slabs = c.self.inside.slabs in
    let pages = c.self.inside.pages_per_slab in
    let n = c.self.inside.page_bytes in
    let w = pages * n in
    let old = c.self.inside.bytes.items in
    let within =
    slab_within slabs pages n old c.args.slab (subst (λ (s : Slabs). c.args.slab < length s.slabs) (sym c.self.view_is) c.requires.slab) c.self.invariant in
    let slab = c.write_block.new.bytes in
    let there : c.args.place < pages = subst (λ (s : Slabs). c.args.place < s.pages_per_slab) (sym c.self.view_is) c.requires.place in
    let part : between (c.args.slab * w) (c.args.slab * w + w) c.deref_mut.result.now ≡ block_in w old c.args.slab =
    ap (λ l. block_in w l c.args.slab) c.deref_mut.ensures.value in
    let fills : length (between (c.args.slab * w) (c.args.slab * w + w) c.deref_mut.result.now) ≡ w =
    ap length part ∙ length-block slabs w old c.args.slab within.0 c.self.invariant in
    let wrote : blocks_in pages n slab ≡ set (blocks_in pages n (block_in w old c.args.slab)) c.args.place c.args.page.now =
    c.write_block.ensures pages there fills ∙ ap (λ l. set (blocks_in pages n l) c.args.place c.args.page.now) part in
    let blocks =
    blocks_written c.self.inside.bytes c.deref_mut.result.now slab slab slabs w c.args.slab
    (c.args.slab * w + w - c.args.slab * w) c.deref_mut.ensures.value refl (omega arith) within.0 c.self.invariant (c.write_block.auto.bytes ∙ fills) in
    let F : List (List (List ℕ)) → Slabs = λ s. record { slabs = s; page_bytes = n; pages_per_slab = pages } in
    let W : Slabs → Slabs = λ s. record s { slabs = set s.slabs c.args.slab (set (get_or s.slabs c.args.slab []) c.args.place c.args.page.now) } in
    ap F
    (slabs_written slabs pages n old _ slab c.args.slab blocks.0
    ∙ ap (λ b. set (slabs_in slabs pages n old) c.args.slab b)
    (wrote ∙ ap (λ (b : List (List ℕ)). set b c.args.place c.args.page.now) (sym (get_slab slabs pages n old c.args.slab within.0))))
    ∙ ap W c.self.view_is
