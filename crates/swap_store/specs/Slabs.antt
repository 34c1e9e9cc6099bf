-- Slabs one after another in one list of bytes, and in each its pages.
use Rattle.std.specs.Prelude.{ℕ, ◌*◌, List, map}
use Rattle.swap_store.specs.Blocks.{blocks_in}

-- the pages of each slab, how long a page is, and how many a slab has
pub record Slabs : Type 0 where
  pub slabs : List (List (List ℕ))
  pub page_bytes : ℕ
  pub pages_per_slab : ℕ

-- so many slabs, each with its pages
abbrev pub slabs_in : ℕ → ℕ → ℕ → List ℕ → List (List (List ℕ))
slabs_in slabs pages_per_slab page_bytes bytes =
    map (λ slab. blocks_in pages_per_slab page_bytes slab) (blocks_in slabs (pages_per_slab * page_bytes) bytes)
