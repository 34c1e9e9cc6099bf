-- The rows in memory and the history that they stand for.
use Rattle.std.proofs.Common.{◌≡◌, ◌≢◌, ℕ, ◌+◌, ◌*◌, ◌-◌, ◌<◌, ◌≤◌, suc, zero, Bool, true, false, List, [], ◌∷◌, ◌++◌, length, get_or, set, replicate, take, drop, refl, ap, sym, ◌∙◌, arith, if◌then◌else◌, ◌==◌, length-drop, Some}
use Rattle.std.specs.Prelude.{reverse}
use Rattle.std.specs.List.{All}
use Rattle.std.proofs.lemmas.List.{reverse-append, length-reverse, take-append-le, drop-append-le, take_all, drop-drop, get_or-reverse, length-take, get_or-replicate, get_or-set_same, get_or-set_other}
use Rattle.std.proofs.lemmas.Bool.{eqb-true, eqb-false}
use Rattle.std.proofs.lemmas.List.Elements.{All-cons, All-nil}
use Rattle.std.proofs.lemmas.List.Sums.{count_by-le-length, sum_by-cons}
use Rattle.std.proofs.Math.Nat.{mul-le-mul_right}
use Rattle.swap_base.specs.declared.Caller.{Caller}
use Rattle.swap_record.specs.declared.Entry.{Entry}
use Rattle.swap_record.specs.History.{History, Row, row_named, count_of, is_by}
use Rattle.swap_record.specs.InMemory.{rows_in, history_in, AreCounts}

pub length_rows : (n : ℕ) (es : List Entry) (bs : List ℕ) → length (rows_in n es bs) ≡ length es
length_rows n [] bs = refl
length_rows n (e ∷ es) bs = ap suc (length_rows n es (drop n bs))

pub length_history : (n : ℕ) (es : List Entry) (bs : List ℕ) → length (history_in n es bs) ≡ length es
length_history n es bs = length-reverse (rows_in n es bs) ∙ length_rows n es bs

-- an entry's page is added at the end of the block
pub rows_push :
    (n : ℕ) (es : List Entry) (bs : List ℕ) (e : Entry) (page : List ℕ) → length bs ≡ length es * n → length page ≡ n
    → rows_in n (es ++ e ∷ []) (bs ++ page) ≡ rows_in n es bs ++ (record { entry = e; bytes = page }) ∷ []
rows_push n [] [] e page block len = ap (λ bytes. (record { entry = e; bytes = bytes }) ∷ []) (take_all n page (omega arith))
rows_push n [] (b ∷ bs) e page block len = absurd (omega arith)
rows_push n (x ∷ es) bs e page block len =
    let in_block : n ≤ length bs = omega arith in
    let rest : length (drop n bs) ≡ length es * n = omega (arith, length-drop n bs) in
    rw (take-append-le n bs page in_block, drop-append-le n bs page in_block)
    (ap (λ rows. (record { entry = x; bytes = take n bs }) ∷ rows) (rows_push n es (drop n bs) e page rest len))

pub history_push :
    (n : ℕ) (es : List Entry) (bs : List ℕ) (e : Entry) (page : List ℕ) → length bs ≡ length es * n → length page ≡ n
    → history_in n (es ++ e ∷ []) (bs ++ page) ≡ (record { entry = e; bytes = page }) ∷ history_in n es bs
history_push n es bs e page block len =
    ap reverse (rows_push n es bs e page block len) ∙ reverse-append (rows_in n es bs) ((record { entry = e; bytes = page }) ∷ [])

-- the entry at a place, and its page
pub get_or_rows :
    (n : ℕ) (es : List Entry) (bs : List ℕ) (k : ℕ) (e : Entry) (d : Row) → k < length es
    → get_or (rows_in n es bs) k d ≡ record { entry = get_or es k e; bytes = take n (drop (k * n) bs) }
get_or_rows n [] bs k e d lt = absurd (omega arith)
get_or_rows n (x ∷ es) bs zero e d lt = let none : 0 * n ≡ 0 = omega arith in rw none refl
get_or_rows n (x ∷ es) bs (suc k) e d lt =
    let there : n + k * n ≡ suc k * n = omega arith in
    get_or_rows n es (drop n bs) k e d (omega arith)
    ∙ ap (λ rest. record { entry = get_or es k e; bytes = take n rest }) (drop-drop (k * n) n bs ∙ ap (λ at. drop at bs) there)

at_front : (row : Row) (H : History) (k : ℕ) (d : Row) → (length H == k) ≡ true → get_or (row ∷ H) (length (row ∷ H) - 1 - k) d ≡ row
at_front row H k d is =
    let same : length H ≡ k = eqb-true (length H) k is in
    let first : length (row ∷ H) - 1 - k ≡ 0 = omega arith in
    rw first refl

behind :
    (row : Row) (H : History) (k : ℕ) (d : Row) → (length H == k) ≡ false → k < length (row ∷ H)
    → (k < length H) × (get_or (row ∷ H) (length (row ∷ H) - 1 - k) d ≡ get_or H (length H - 1 - k) d)
behind row H k d is lt =
    let other : length H ≢ k = eqb-false (length H) k is in
    let next : length (row ∷ H) - 1 - k ≡ suc (length H - 1 - k) = omega arith in
    (omega arith, rw next refl)

named_in :
    (row : Row) (H : History) (k : ℕ) (d : Row) (b : Bool) → (length H == k) ≡ b → k < length (row ∷ H)
    → (k < length H → row_named H k ≡ Some (get_or H (length H - 1 - k) d))
    → (if b then Some row else row_named H k) ≡ Some (get_or (row ∷ H) (length (row ∷ H) - 1 - k) d)
named_in row H k d true is lt rest = ap Some (sym (at_front row H k d is))
named_in row H k d false is lt rest = let here = behind row H k d is lt in rest here.0 ∙ ap Some (sym here.1)

named_back : (H : History) (k : ℕ) (d : Row) → k < length H → row_named H k ≡ Some (get_or H (length H - 1 - k) d)
named_back [] k d lt = absurd (omega arith)
named_back (row ∷ H) k d lt = named_in row H k d (length H == k) refl lt (λ here. named_back H k d here)

-- the entry of a name is the one at that place of the rows
pub named_at :
    (n : ℕ) (es : List Entry) (bs : List ℕ) (k : ℕ) (e : Entry) → k < length es
    → row_named (history_in n es bs) k ≡ Some (record { entry = get_or es k e; bytes = take n (drop (k * n) bs) })
named_at n es bs k e lt =
    let d : Row = record { entry = e; bytes = [] } in
    let back : length (rows_in n es bs) - 1 - (length (history_in n es bs) - 1 - k) ≡ k = omega (arith, length_rows n es bs, length_history n es bs) in
    let there : length (history_in n es bs) - 1 - k < length (rows_in n es bs) = omega (arith, length_rows n es bs, length_history n es bs) in
    named_back (history_in n es bs) k d (omega (arith, length_history n es bs))
    ∙ ap Some (get_or-reverse (rows_in n es bs) (length (history_in n es bs) - 1 - k) d there ∙ rw back (get_or_rows n es bs k e d lt))

pub in_block : (k len n : ℕ) → k < len → k * n + n ≤ len * n
in_block k len n lt = omega (arith, mul-le-mul_right {m = suc k} {n = len} n lt)

-- each row's page has its size
pub rows_pages : (n : ℕ) (es : List Entry) (bs : List ℕ) → length bs ≡ length es * n → All (λ (row : Row). length row.bytes ≡ n) (rows_in n es bs)
rows_pages n [] bs block = All-nil (λ (row : Row). length row.bytes ≡ n)
rows_pages n (e ∷ es) bs block =
    All-cons (λ (row : Row). length row.bytes ≡ n) _ _ (omega (arith, length-take n bs)) (rows_pages n es (drop n bs) (omega (arith, length-drop n bs)))

reversed : {X : Type 0} (P : X → Type 0) (xs : List X) → All P xs → All P (reverse xs)
reversed P xs h = λ k d lt.
    let within : k < length xs = omega (arith, lt, length-reverse xs) in
    rw (get_or-reverse xs k d within) (h (length xs - 1 - k) d (omega arith))

pub history_pages : (n : ℕ) (es : List Entry) (bs : List ℕ) → length bs ≡ length es * n → All (λ (row : Row). length row.bytes ≡ n) (history_in n es bs)
history_pages n es bs block = reversed (λ (row : Row). length row.bytes ≡ n) (rows_in n es bs) (rows_pages n es bs block)

-- a count is of entries
pub count_within : (caller : Caller) (H : History) → count_of caller H ≤ length H
count_within caller H = count_by-le-length (is_by caller) H

-- as no entry is there, each caller has none
pub no_counts : (n : ℕ) (bs : List ℕ) → AreCounts (replicate 64 0) (history_in n [] bs)
no_counts n bs = λ caller lt. get_or-replicate 64 caller.0 0 0 lt

-- one more entry of its caller, and as many as before of the others
one_more :
    (counts : List ℕ) (caller other : Caller) (n : ℕ) (b : Bool) → (caller.0 == other.0) ≡ b → caller.0 < length counts → n ≡ get_or counts other.0 0
    → get_or (set counts caller.0 (get_or counts caller.0 0 + 1)) other.0 0 ≡ (if b then 1 else 0) + n
one_more counts caller other n true is lt old =
    let same : caller.0 ≡ other.0 = eqb-true caller.0 other.0 is in
    rw (← same) (get_or-set_same counts caller.0 _ 0 lt ∙ omega (arith, old, ap (λ i. get_or counts i 0) same))
one_more counts caller other n false is lt old =
    let different : other.0 ≢ caller.0 = λ e. eqb-false caller.0 other.0 is (sym e) in
    get_or-set_other counts caller.0 other.0 _ 0 different ∙ omega (arith, old)

pub counts_push :
    (counts : List ℕ) (H : History) (row : Row) → length counts ≡ 64 → row.entry.caller.0 < 64 → AreCounts counts H
    → AreCounts (set counts row.entry.caller.0 (get_or counts row.entry.caller.0 0 + 1)) (row ∷ H)
counts_push counts H row len lt are =
    λ other within. one_more counts row.entry.caller other (count_of other H) (row.entry.caller.0 == other.0) refl (omega arith) (sym (are other within))
    ∙ sym (sum_by-cons (λ (r : Row). if is_by other r then 1 else 0) row H)
