-- What a block is after a block is written.
use Rattle.std.proofs.Common.{◌≡◌, ◌≢◌, ℕ, ◌+◌, ◌*◌, ◌-◌, ◌<◌, ◌≤◌, List, [], length, get_or, set, take, drop, replicate, sym, ap, ◌∙◌, arith, ⊎_elim, length-take, length-drop, length-set, ext_get_or, get_or-set_same, get_or-set_other, mul-le-mul_right, length-append, Vec, Global}
use Rattle.std.proofs.lemmas.Bool.{cases_eq, cases_lt}
use Rattle.std.proofs.lemmas.List.{with_items_is, take-replicate, drop-replicate, get_or-replicate, length-replicate}
use Rattle.std.proofs.lemmas.List.FromFn.{length-map-range_with_len, get_or-map-range_with_len}
use Rattle.std.proofs.lemmas.Slice.{between_is, take-put_mid_below, drop-put_mid, between-put_mid}
use Rattle.std.specs.Vec.{with_items}
use borrow.Rule.Slice.PartMut.{put_mid}
use Rattle.swap_store.specs.Blocks.{block_in, blocks_in}

-- a page's bytes end before those of a later page begin, and within the whole
pub ends_before : (a b n : ℕ) → a < b → a * n + n ≤ b * n
ends_before a b n lt = let le : (a + 1) * n ≤ b * n = mul-le-mul_right n (omega arith) in omega (arith, le)

pub length-blocks : (pages n : ℕ) (bytes : List ℕ) → length (blocks_in pages n bytes) ≡ pages
length-blocks pages n bytes = length-map-range_with_len (λ p. block_in n bytes p) 0 pages

pub get_block : (pages n : ℕ) (bytes : List ℕ) (page : ℕ) → page < pages → get_or (blocks_in pages n bytes) page [] ≡ block_in n bytes page
get_block pages n bytes page lt = get_or-map-range_with_len (λ p. block_in n bytes p) 0 pages page page [] lt (omega arith)

pub length-block : (pages n : ℕ) (bytes : List ℕ) (page : ℕ) → page < pages → length bytes ≡ pages * n → length (block_in n bytes page) ≡ n
length-block pages n bytes page lt whole =
    let le : page * n + n ≤ pages * n = ends_before page pages n lt in
    length-take (page * n + n - page * n) (drop (page * n) bytes) ∙ omega (arith, length-drop (page * n) bytes, whole, le)

lt_of : (a b : ℕ) → a ≤ b → b ≢ a → a < b
lt_of a b le ne = omega arith

other_block :
    (pages n : ℕ) (bytes ys : List ℕ) (page p : ℕ) → page < pages → p ≢ page → length bytes ≡ pages * n → length ys ≡ n
    → block_in n (put_mid (page * n) n bytes ys) p ≡ block_in n bytes p
other_block pages n bytes ys page p lt ne whole fills =
    let within : page * n ≤ length bytes = omega (arith, ends_before page pages n lt, whole) in
    ⊎_elim
    (λ (before : p < page).
    between_is (put_mid (page * n) n bytes ys) (p * n) (p * n + n)
    ∙ ap (λ l. drop (p * n) l) (take-put_mid_below (page * n) n bytes ys (p * n + n) (ends_before p page n before) within)
    ∙ sym (between_is bytes (p * n) (p * n + n)))
    (λ (after : page ≤ p).
    let gone : page * n + n ≤ p * n = ends_before page p n (lt_of page p after ne) in
    ap (λ l. take (p * n + n - p * n) l) (drop-put_mid (page * n) n bytes ys (p * n) gone within fills))
    (cases_lt p page)

pub blocks-put :
    (pages n : ℕ) (bytes ys : List ℕ) (page : ℕ) → page < pages → length bytes ≡ pages * n → length ys ≡ n
    → blocks_in pages n (put_mid (page * n) n bytes ys) ≡ set (blocks_in pages n bytes) page ys
blocks-put pages n bytes ys page lt whole fills =
    let l : length (blocks_in pages n (put_mid (page * n) n bytes ys)) ≡ pages = length-blocks pages n (put_mid (page * n) n bytes ys) in
    let within : page * n ≤ length bytes = omega (arith, ends_before page pages n lt, whole) in
    ext_get_or [] (blocks_in pages n (put_mid (page * n) n bytes ys)) (set (blocks_in pages n bytes) page ys)
    (l ∙ sym (length-set (blocks_in pages n bytes) page ys ∙ length-blocks pages n bytes))
    (λ p below.
    let at : p < pages = omega (arith, l, below) in
    get_block pages n (put_mid (page * n) n bytes ys) p at
    ∙ ⊎_elim
    (λ (e : p ≡ page).
    ap (λ q. block_in n (put_mid (page * n) n bytes ys) q) e ∙ between-put_mid (page * n) n bytes ys (page * n + n) within (omega (arith, fills))
    ∙ sym
    (ap (λ q. get_or (set (blocks_in pages n bytes) page ys) q []) e
    ∙ get_or-set_same (blocks_in pages n bytes) page ys [] (omega (arith, length-blocks pages n bytes, lt))))
    (λ (ne : p ≢ page). other_block pages n bytes ys page p lt ne whole fills
    ∙ sym (get_or-set_other (blocks_in pages n bytes) page p ys [] ne ∙ get_block pages n bytes p at))
    (cases_eq p page))

pub blocks-zeros : (pages n : ℕ) → blocks_in pages n (replicate (pages * n) 0) ≡ replicate pages (replicate n 0)
blocks-zeros pages n =
    let l : length (blocks_in pages n (replicate (pages * n) 0)) ≡ pages = length-blocks pages n (replicate (pages * n) 0) in
    ext_get_or [] (blocks_in pages n (replicate (pages * n) 0)) (replicate pages (replicate n 0)) (l ∙ sym (length-replicate pages (replicate n 0)))
    (λ p below.
    let at : p < pages = omega (arith, l, below) in
    let le : p * n + n ≤ pages * n = ends_before p pages n at in
    let size : p * n + n - p * n ≡ n = omega arith in
    get_block pages n (replicate (pages * n) 0) p at
    ∙ ap (λ l. take (p * n + n - p * n) l) (drop-replicate (p * n) (pages * n) 0)
    ∙ take-replicate (p * n + n - p * n) (pages * n - p * n) 0 (omega (arith, le))
    ∙ ap (λ k. replicate k 0) size
    ∙ sym (get_or-replicate pages p (replicate n 0) [] at))

pub length-put : (a k : ℕ) (xs ys : List ℕ) → a + k ≤ length xs → length ys ≡ k → length (put_mid a k xs ys) ≡ length xs
length-put a k xs ys within fills = simp (length-append, length-take, length-drop) (omega (arith, within, fills))

-- a block in a table of blocks ends within the bytes
pub block_within :
    (pages n : ℕ) (bytes : List ℕ) (page : ℕ) → page < length (blocks_in pages n bytes) → length bytes ≡ pages * n
    → (page < pages) × (page * n + n ≤ length bytes)
block_within pages n bytes page lt whole =
    let at : page < pages = omega (arith, lt, length-blocks pages n bytes) in (at, omega (arith, ends_before page pages n at, whole))

-- a vector's bytes after they were written through a slice of it
pub items_after : (v : Vec ℕ Global) (now new : List ℕ) → now ≡ v.items → length new ≡ length now → (with_items v new).items ≡ new
items_after v now new same long = with_items_is v new (long ∙ ap length same ∙ sym v.ok.0)

-- the blocks after one of them was written through a part of the bytes
pub blocks_written :
    (v : Vec ℕ Global) (now ys zs : List ℕ) (pages n page k : ℕ) → now ≡ v.items → ys ≡ zs → k ≡ n → page < pages → length v.items ≡ pages * n → length zs ≡ n
    → (blocks_in pages n (with_items v (put_mid (page * n) k now ys)).items ≡ set (blocks_in pages n v.items) page zs)
    × (length (with_items v (put_mid (page * n) k now ys)).items ≡ pages * n)
blocks_written v now ys zs pages n page k same wrote size lt whole fills =
    let plain : put_mid (page * n) k now ys ≡ put_mid (page * n) n v.items zs =
    ap (λ j. put_mid (page * n) j now ys) size ∙ ap (λ l. put_mid (page * n) n l ys) same ∙ ap (λ l. put_mid (page * n) n v.items l) wrote in
    let long : length (put_mid (page * n) k now ys) ≡ length v.items =
    ap length plain ∙ length-put (page * n) n v.items zs (omega (arith, ends_before page pages n lt, whole)) fills in
    let there : (with_items v (put_mid (page * n) k now ys)).items ≡ put_mid (page * n) k now ys =
    with_items_is v (put_mid (page * n) k now ys) (long ∙ sym v.ok.0) in
    (ap (λ l. blocks_in pages n l) (there ∙ plain) ∙ blocks-put pages n v.items zs page lt whole fills, ap length there ∙ long ∙ whole)
