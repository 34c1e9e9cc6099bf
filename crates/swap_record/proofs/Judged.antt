-- A history as it grew: the last page-out of each page, the array's content, and legal histories.
use Rattle.std.proofs.Common.{◌≡◌, ◌≢◌, ℕ, zero, suc, ◌+◌, ◌-◌, ◌<◌, ◌≤◌, Bool, true, false, List, [], ◌∷◌, ◌++◌, length, take, drop, get_or, Option, None, Some, refl, ap, sym, subst, ◌∙◌, arith, IfSome, IfNone, if◌then◌else◌, ◌==◌, ◌&&◌}
use Rattle.std.specs.Option.{option_map}
use Rattle.std.proofs.lemmas.Bool.{eqb-true, eqb-false, eq-eqb}
use Rattle.std.proofs.lemmas.List.{take-append-drop, length-append, length-drop}
use Rattle.swap_base.specs.declared.Page.{Page}
use Rattle.swap_base.specs.declared.EntryNo.{EntryNo}
use Rattle.swap_record.specs.declared.Op.{Op}
use Rattle.swap_record.specs.declared.Op.TheVariants.{PageOut, PageIn, Failed}
use Rattle.swap_record.specs.History.{History, Row, row_named, array, last, next_name, is_out_of, count_of, is_page_out, FitsBehind, GivesArray, IsLegal}
use Rattle.swap_record.specs.RecordView.{HasNumbers}
use Rattle.swap_record.specs.Judging.{oldest, IsRight, HasNewest}
use Rattle.swap_record.specs.declared.Entry.{Entry}
use Rattle.swap_record.proofs.Spelled.{row_by_parts}

above : (n k : ℕ) → k < n → (n == k) ≡ false
above n k lt = grind arith

-- an entry stays named while the history grows
named_more : (row : Row) (H : History) (k : ℕ) → k < length H → row_named (row ∷ H) k ≡ row_named H k
named_more row H k lt = ap (λ b. if b then Some row else row_named H k) (above (length H) k lt)

pub named_after : (later H : History) (k : ℕ) → k < length H → row_named (later ++ H) k ≡ row_named H k
named_after [] H k lt = refl
named_after (row ∷ later) H k lt = named_more row (later ++ H) k (omega (arith, length-append later H)) ∙ named_after later H k lt

pub length_oldest : (H : History) (k : ℕ) → k ≤ length H → length (oldest k H) ≡ k
length_oldest H k le = omega (arith, length-drop (length H - k) H)

pub named_oldest : (H : History) (n k : ℕ) → n ≤ length H → k < n → row_named (oldest n H) k ≡ row_named H k
named_oldest H n k le lt =
    sym (named_after (take (length H - n) H) (oldest n H) k (omega (arith, length_oldest H n le)))
    ∙ ap (λ whole. row_named whole k) (take-append-drop (length H - n) H)

-- one more entry of the history
more_case :
    (first : Row) (H : History) (k : ℕ) (row : Row) (b : Bool) → (length H == k) ≡ b → (if b then Some first else row_named H k) ≡ Some row
    → k < length (first ∷ H)
    → (k < length H → row_named H k ≡ Some row → oldest (suc k) H ≡ row ∷ oldest k H) → oldest (suc k) (first ∷ H) ≡ row ∷ oldest k (first ∷ H)
more_case first H k row true is found lt rest =
    let same : length H ≡ k = eqb-true (length H) k is in
    let none : length (first ∷ H) - suc k ≡ 0 = omega arith in
    let one : length (first ∷ H) - k ≡ suc 0 = omega arith in
    let this : first ≡ row = cc in
    rw (none, one) (ap (λ r. r ∷ H) this)
more_case first H k row false is found lt rest =
    let other : length H ≢ k = eqb-false (length H) k is in
    let n : length (first ∷ H) - suc k ≡ suc (length H - suc k) = omega arith in
    let m : length (first ∷ H) - k ≡ suc (length H - k) = omega arith in
    rw (n, m) (rest (omega arith) found)

pub oldest_more : (H : History) (k : ℕ) (row : Row) → row_named H k ≡ Some row → k < length H → oldest (suc k) H ≡ row ∷ oldest k H
oldest_more [] k row found lt = absurd (omega arith)
oldest_more (first ∷ H) k row found lt = more_case first H k row (length H == k) refl found lt (λ lt' found'. oldest_more H k row found' lt')

-- the array has zeros where a page was never paged out
none_case :
    (zeros : List ℕ) (row : Row) (H : History) (page : Page) (b : Bool) → (if b then Some (next_name H) else last H page) ≡ None
    → (last H page ≡ None → array zeros H page ≡ zeros) → (if b then row.bytes else array zeros H page) ≡ zeros
none_case zeros row H page true is rest = cc
none_case zeros row H page false is rest = rest is

pub array_none : (zeros : List ℕ) (H : History) (page : Page) → last H page ≡ None → array zeros H page ≡ zeros
array_none zeros [] page is = refl
array_none zeros (row ∷ H) page is = none_case zeros row H page (is_out_of page row) is (array_none zeros H page)

-- and else what the last page-out has
abbrev Has : List ℕ → History → EntryNo → List ℕ → Type 0
Has zeros H e bytes = (e.0 < length H) × (option_map (λ (row : Row). row.bytes) (row_named H e.0) ≡ Some bytes)

some_case :
    (zeros : List ℕ) (row : Row) (H : History) (page : Page) (e : EntryNo) (b : Bool) → (if b then Some (next_name H) else last H page) ≡ Some e
    → (last H page ≡ Some e → Has zeros H e (array zeros H page)) → Has zeros (row ∷ H) e (if b then row.bytes else array zeros H page)
some_case zeros row H page e true is rest =
    let here : length H ≡ e.0 = ap (λ (o : Option EntryNo). elim o as (λ _. ℕ) [ Some x ↦ x.0 | None ↦ length H ]) is in
    (omega arith, ap (λ b. option_map (λ (r : Row). r.bytes) (if b then Some row else row_named H e.0)) (eq-eqb (length H) e.0 here))
some_case zeros row H page e false is rest =
    let found = rest is in
    (omega (arith, found.0), ap (λ o. option_map (λ (r : Row). r.bytes) o) (named_more row H e.0 found.0) ∙ found.1)

pub array_some :
    (zeros : List ℕ) (H : History) (page : Page) (e : EntryNo) → last H page ≡ Some e
    → (e.0 < length H) × (option_map (λ (row : Row). row.bytes) (row_named H e.0) ≡ Some (array zeros H page))
array_some zeros [] page e is = cc
array_some zeros (row ∷ H) page e is = some_case zeros row H page e (is_out_of page row) is (array_some zeros H page e)

-- what an entry owes, by its op
fits :
    (zeros : List ℕ) (H : History) (row : Row) (op : Op) → IsRight op (last H row.entry.page) row.bytes (array zeros H row.entry.page)
    → FitsBehind H row.entry.page op × GivesArray zeros H row op
fits zeros H row PageOut right = (tt, tt)
fits zeros H row (PageIn named from) right = ((right.0, right.1), right.2)
fits zeros H row (Failed kind since at) right = (right, tt)

owes :
    (zeros : List ℕ) (H : History) (row : Row) (op : Op) → FitsBehind H row.entry.page op → GivesArray zeros H row op
    → IsRight op (last H row.entry.page) row.bytes (array zeros H row.entry.page)
owes zeros H row PageOut fits gives = tt
owes zeros H row (PageIn named from) fits gives = (fits.0, fits.1, gives)
owes zeros H row (Failed kind since at) fits gives = fits

-- a history with one more entry is legal exactly where that entry is right
pub legal_more :
    (zeros : List ℕ) (H : History) (row : Row) → IsLegal zeros H → row.entry.number ≡ count_of row.entry.caller H
    → IsRight row.entry.op (last H row.entry.page) row.bytes (array zeros H row.entry.page) → IsLegal zeros (row ∷ H)
legal_more zeros H row legal number right =
    let parts = fits zeros H row row.entry.op right in
    ((parts.0, number, legal.0), (parts.1, legal.1))

pub legal_owes :
    (zeros : List ℕ) (H : History) (row : Row) → IsLegal zeros (row ∷ H) → IsRight row.entry.op (last H row.entry.page) row.bytes (array zeros H row.entry.page)
legal_owes zeros H row legal = owes zeros H row row.entry.op legal.0.0 legal.1.0

-- the numbers of a history's front
pub numbers_drop : (n : ℕ) (H : History) → HasNumbers H → HasNumbers (drop n H)
numbers_drop zero H h = h
numbers_drop (suc n) [] h = tt
numbers_drop (suc n) (row ∷ H) h = numbers_drop n H h.1

-- the bytes that a walk compares with are the array's
pub content_is :
    (zeros : List ℕ) (H : History) (k : ℕ) (page : Page) (o : Option EntryNo) (content : List ℕ) → k ≤ length H → o ≡ last (oldest k H) page
    → IfNone o (content ≡ zeros) → IfSome o (λ e. option_map (λ (row : Row). row.bytes) (row_named H e.0) ≡ Some content)
    → content ≡ array zeros (oldest k H) page
content_is zeros H k page None content le is none some = none ∙ sym (array_none zeros (oldest k H) page (sym is))
content_is zeros H k page (Some e) content le is none some =
    let found = array_some zeros (oldest k H) page e (sym is) in
    let there : row_named (oldest k H) e.0 ≡ row_named H e.0 = named_oldest H k e.0 le (omega (arith, found.0, length_oldest H k le)) in
    let same : Some content ≡ Some (array zeros (oldest k H) page) = sym some ∙ ap (λ o. option_map (λ (row : Row). row.bytes) o) (sym there) ∙ found.1 in
    cc

pub last_within : (H : History) (k : ℕ) (page : Page) (o : Option EntryNo) → k ≤ length H → o ≡ last (oldest k H) page → IfSome o (λ e. e.0 < length H)
last_within H k page None le is = tt
last_within H k page (Some e) le is = omega (arith, (array_some [] (oldest k H) page e (sym is)).0, length_oldest H k le)

-- the entry whose name is k is right exactly where the history with it is legal, as the one before it is
abbrev pub Judged : List ℕ → History → ℕ → Entry → List ℕ → List ℕ → Option EntryNo → Type 0
Judged zeros H k entry bytes content o =
    (IsRight entry.op o bytes content → IsLegal zeros (oldest (suc k) H)) × (IsLegal zeros (oldest (suc k) H) → IsRight entry.op o bytes content)

pub judged :
    (zeros : List ℕ) (H : History) (k : ℕ) (entry : Entry) (bytes content : List ℕ) (o : Option EntryNo) → k < length H → HasNumbers H
    → option_map (λ (row : Row). row.entry) (row_named H k) ≡ Some entry → option_map (λ (row : Row). row.bytes) (row_named H k) ≡ Some bytes
    → o ≡ last (oldest k H) entry.page → content ≡ array zeros (oldest k H) entry.page → IsLegal zeros (oldest k H)
    → Judged zeros H k entry bytes content o
judged zeros H k entry bytes content o lt numbers is_entry is_bytes is_last is_content legal =
    let row : Row = record { entry = entry; bytes = bytes } in
    let more : oldest (suc k) H ≡ row ∷ oldest k H = oldest_more H k row (row_by_parts (row_named H k) entry bytes is_entry is_bytes) lt in
    let all : HasNumbers (row ∷ oldest k H) = subst HasNumbers more (numbers_drop (length H - suc k) H numbers) in
    rw (more, is_last, is_content) (λ right. legal_more zeros (oldest k H) row legal all.0 right, λ whole. legal_owes zeros (oldest k H) row whole)

-- the table after one more entry
row_from : (o : Option Row) (entry : Entry) → option_map (λ (row : Row). row.entry) o ≡ Some entry → (row : Row) × (o ≡ Some row) × (row.entry ≡ entry)
row_from None entry is = cc
row_from (Some row) entry is = let same : row.entry ≡ entry = cc in (row, refl, same)

newest_put :
    (newest newer : List (Option EntryNo)) (H : History) (row : Row) → HasNewest newest H
    → ((p : ℕ) → get_or newer p None ≡ (if is_page_out row.entry.op && row.entry.page.0 == p then Some (next_name H) else get_or newest p None))
    → HasNewest newer (row ∷ H)
newest_put newest newer H row has put =
    λ page. put page.0 ∙ ap (λ o. if is_page_out row.entry.op && row.entry.page.0 == page.0 then Some (next_name H) else o) (has page)

pub has_put :
    (newest newer : List (Option EntryNo)) (H : History) (k : ℕ) (entry : Entry) → k < length H
    → option_map (λ (row : Row). row.entry) (row_named H k) ≡ Some entry
    → HasNewest newest (oldest k H)
    → ((p : ℕ) → get_or newer p None ≡ (if is_page_out entry.op && entry.page.0 == p then Some (record { 0 = k }) else get_or newest p None))
    → HasNewest newer (oldest (suc k) H)
has_put newest newer H k entry lt is_entry has put =
    let found = row_from (row_named H k) entry is_entry in
    let row : Row = found.0 in
    let same : row.entry ≡ entry = found.2 in
    let name : length (oldest k H) ≡ k = length_oldest H k (omega arith) in
    let more : oldest (suc k) H ≡ row ∷ oldest k H = oldest_more H k row found.1 lt in
    rw more (newest_put newest newer (oldest k H) row has (rw (same, name) put))
