use Rattle.std.proofs.Common.{◌≡◌, ℕ, ◌*◌, List, replicate, ap, ◌∙◌}
use Rattle.swap_store.specs.Blocks.{Blocks as Table, blocks_in}
use Rattle.swap_store.proofs.BlocksLaws.{blocks-zeros}
use Rattle.swap_store.proofs.blocks.Blocks.make.Goals as goal

pub returns : goal.returns
returns c =
    let zeros : c.in_ok-vec.field-0.items ≡ replicate (c.args.pages * c.args.page_bytes) 0 = c.in_ok-vec.ensures.items_if_clones_equal (λ y e. e) in
    let F : List (List ℕ) → Table = λ bs. record { blocks = bs; page_bytes = c.args.page_bytes } in
    ap F (ap (λ l. blocks_in c.args.pages c.args.page_bytes l) zeros ∙ blocks-zeros c.args.pages c.args.page_bytes)
