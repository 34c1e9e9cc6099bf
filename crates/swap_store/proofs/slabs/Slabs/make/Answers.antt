use Rattle.std.proofs.Common.{◌≡◌, ℕ, ◌*◌, ◌≤◌, arith, mul-le-mul_right, List, replicate, ap, ◌∙◌}
use Rattle.swap_store.specs.Slabs.{Slabs as Store, slabs_in}
use Rattle.swap_store.proofs.SlabsLaws.{slabs-zeros}
use Rattle.swap_store.proofs.slabs.Slabs.make.Goals as goal

pub overflow_mul-pages_per_slab : goal.overflow_mul-pages_per_slab
overflow_mul-pages_per_slab c =
    let least : 1 * (c.args.pages_per_slab * c.args.page_bytes) ≤ c.args.slabs * (c.args.pages_per_slab * c.args.page_bytes) =
    mul-le-mul_right (c.args.pages_per_slab * c.args.page_bytes) c.requires.some in
    omega (arith, least, c.requires.fits)

pub returns : goal.returns
returns c =
    let n = c.args.slabs * (c.args.pages_per_slab * c.args.page_bytes) in
    let zeros : c.in_ok-vec.field-0.items ≡ replicate n 0 = c.in_ok-vec.ensures.items_if_clones_equal (λ y e. e) in
    let F : List (List (List ℕ)) → Store = λ s. record { slabs = s; page_bytes = c.args.page_bytes; pages_per_slab = c.args.pages_per_slab } in
    ap F (ap (λ l. slabs_in c.args.slabs c.args.pages_per_slab c.args.page_bytes l) zeros ∙ slabs-zeros c.args.slabs c.args.pages_per_slab c.args.page_bytes)
