-- The slabs in one list of bytes: reading one of them, and what they are after one is written.
use Rattle.std.proofs.Common.{◌≡◌, ℕ, zero, suc, refl, ◌∷◌, ◌+◌, ◌*◌, ◌<◌, ◌≤◌, List, [], length, get_or, set, map, replicate, ap, ◌∙◌, arith}
use Rattle.std.proofs.lemmas.List.{length-map, get_or-map, map-set}
use Rattle.swap_store.specs.Blocks.{block_in, blocks_in}
use Rattle.swap_store.specs.Slabs.{slabs_in}
use Rattle.swap_store.proofs.BlocksLaws.{length-blocks, get_block, ends_before, blocks-zeros}

pub length-slabs : (slots pages n : ℕ) (bytes : List ℕ) → length (slabs_in slots pages n bytes) ≡ slots
length-slabs slots pages n bytes =
    length-map (blocks_in slots (pages * n) bytes) (λ slab. blocks_in pages n slab) ∙ length-blocks slots (pages * n) bytes

-- a slab in a table of slabs ends within the bytes
pub slab_within :
    (slots pages n : ℕ) (bytes : List ℕ) (slot : ℕ) → slot < length (slabs_in slots pages n bytes) → length bytes ≡ slots * (pages * n)
    → (slot < slots) × (slot * (pages * n) + pages * n ≤ length bytes)
slab_within slots pages n bytes slot lt whole =
    let at : slot < slots = omega (arith, lt, length-slabs slots pages n bytes) in (at, omega (arith, ends_before slot slots (pages * n) at, whole))

pub get_slab :
    (slots pages n : ℕ) (bytes : List ℕ) (slot : ℕ) → slot < slots
    → get_or (slabs_in slots pages n bytes) slot [] ≡ blocks_in pages n (block_in (pages * n) bytes slot)
get_slab slots pages n bytes slot lt =
    get_or-map (λ slab. blocks_in pages n slab) (blocks_in slots (pages * n) bytes) slot [] [] (omega (arith, length-blocks slots (pages * n) bytes))
    ∙ ap (λ b. blocks_in pages n b) (get_block slots (pages * n) bytes slot lt)

-- the slabs after one of them was written
pub slabs_written :
    (slots pages n : ℕ) (old new slab : List ℕ) (slot : ℕ) → blocks_in slots (pages * n) new ≡ set (blocks_in slots (pages * n) old) slot slab
    → slabs_in slots pages n new ≡ set (slabs_in slots pages n old) slot (blocks_in pages n slab)
slabs_written slots pages n old new slab slot e =
    ap (λ l. map (λ slab. blocks_in pages n slab) l) e ∙ map-set (λ slab. blocks_in pages n slab) (blocks_in slots (pages * n) old) slot slab

pub map_replicate : {A B : Type 0} (f : A → B) (n : ℕ) (x : A) → map f (replicate n x) ≡ replicate n (f x)
map_replicate f zero x = refl
map_replicate f (suc n) x = ap (λ l. f x ∷ l) (map_replicate f n x)

pub slabs-zeros : (slots pages n : ℕ) → slabs_in slots pages n (replicate (slots * (pages * n)) 0) ≡ replicate slots (replicate pages (replicate n 0))
slabs-zeros slots pages n =
    ap (λ l. map (λ slab. blocks_in pages n slab) l) (blocks-zeros slots (pages * n))
    ∙ map_replicate (λ slab. blocks_in pages n slab) slots (replicate (pages * n) 0)
    ∙ ap (λ b. replicate slots b) (blocks-zeros pages n)
