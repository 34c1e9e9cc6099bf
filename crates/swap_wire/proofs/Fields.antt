-- A message against the bytes of its fields, and the table of kinds.
use Rattle.std.proofs.Common.{◌≡◌, ℕ, zero, suc, ◌+◌, ◌-◌, ◌*◌, ◌^◌, ◌<◌, ◌≤◌, Bool, true, false, cond, List, [], ◌∷◌, ◌++◌, length, get_or, Option, Some, None, refl, sym, ap, ◌∙◌, arith}
use Rattle.std.specs.Int.{w32, w64, from_be_bytes}
use Rattle.std.specs.List.{find}
use Rattle.std.proofs.lemmas.Nat.{from_be_bytes-to_be_bytes_4, from_be_bytes-to_be_bytes_8}
use Rattle.swap_wire.specs.declared.Msg.{Msg}
use Rattle.swap_wire.specs.declared.Msg.TheVariants as msg
use Rattle.swap_wire.specs.declared.kind.Kind.{Kind}
use Rattle.swap_wire.specs.declared.kind.Kind.TheVariants as kinds
use Rattle.swap_wire.specs.Frames.{form, form_of, kind, fields, word, long, NumbersFit, IsBytes}
use Rattle.swap_wire.specs.Heads.{all_kinds, message, word_at, long_at}
use Rattle.swap_wire.proofs.Bytes.{one_back, two_back, three_back, rate_back, word_at_below, long_at_below}

-- ---- the table

abbrev kind_at : ℕ → Kind
kind_at n = get_or all_kinds (n - 1) kinds.Hello

kind_at-number : (k : Kind) → kind_at (form k).number ≡ k
kind_at-number kinds.Hello = refl
kind_at-number kinds.Query = refl
kind_at-number kinds.Borrow = refl
kind_at-number kinds.Write = refl
kind_at-number kinds.Read = refl
kind_at-number kinds.Rates = refl
kind_at-number kinds.Done = refl
kind_at-number kinds.Room = refl
kind_at-number kinds.Lent = refl
kind_at-number kinds.Refused = refl
kind_at-number kinds.Wrote = refl
kind_at-number kinds.PageIs = refl
kind_at-number kinds.AskRates = refl
kind_at-number kinds.Evict = refl

number_within : (k : Kind) → (form k).number - 1 < length all_kinds
number_within kinds.Hello = omega arith
number_within kinds.Query = omega arith
number_within kinds.Borrow = omega arith
number_within kinds.Write = omega arith
number_within kinds.Read = omega arith
number_within kinds.Rates = omega arith
number_within kinds.Done = omega arith
number_within kinds.Room = omega arith
number_within kinds.Lent = omega arith
number_within kinds.Refused = omega arith
number_within kinds.Wrote = omega arith
number_within kinds.PageIs = omega arith
number_within kinds.AskRates = omega arith
number_within kinds.Evict = omega arith

-- a kind byte has one kind
pub same_kind : (j k : Kind) → (form j).number ≡ (form k).number → j ≡ k
same_kind j k e = sym (kind_at-number j) ∙ ap kind_at e ∙ kind_at-number k

pub pages_below : (k : Kind) (page_bytes : ℕ) → (form k).pages * page_bytes ≤ page_bytes
pages_below kinds.Hello page_bytes = omega arith
pages_below kinds.Query page_bytes = omega arith
pages_below kinds.Borrow page_bytes = omega arith
pages_below kinds.Write page_bytes = omega arith
pages_below kinds.Read page_bytes = omega arith
pages_below kinds.Rates page_bytes = omega arith
pages_below kinds.Done page_bytes = omega arith
pages_below kinds.Room page_bytes = omega arith
pages_below kinds.Lent page_bytes = omega arith
pages_below kinds.Refused page_bytes = omega arith
pages_below kinds.Wrote page_bytes = omega arith
pages_below kinds.PageIs page_bytes = omega arith
pages_below kinds.AskRates page_bytes = omega arith
pages_below kinds.Evict page_bytes = omega arith

-- with a page the fields are short, and no frame is longer than one of them with a page
pub fields_below : (k : Kind) (page_bytes : ℕ) → 8 ≤ page_bytes → (form k).fields + (form k).pages * page_bytes ≤ 8 + page_bytes
fields_below kinds.Hello page_bytes h = omega arith
fields_below kinds.Query page_bytes h = omega arith
fields_below kinds.Borrow page_bytes h = omega arith
fields_below kinds.Write page_bytes h = omega arith
fields_below kinds.Read page_bytes h = omega arith
fields_below kinds.Rates page_bytes h = omega arith
fields_below kinds.Done page_bytes h = omega arith
fields_below kinds.Room page_bytes h = omega arith
fields_below kinds.Lent page_bytes h = omega arith
fields_below kinds.Refused page_bytes h = omega arith
fields_below kinds.Wrote page_bytes h = omega arith
fields_below kinds.PageIs page_bytes h = omega arith
fields_below kinds.AskRates page_bytes h = omega arith
fields_below kinds.Evict page_bytes h = omega arith

pub fields_short : (k : Kind) → (form k).fields ≤ 12
fields_short kinds.Hello = omega arith
fields_short kinds.Query = omega arith
fields_short kinds.Borrow = omega arith
fields_short kinds.Write = omega arith
fields_short kinds.Read = omega arith
fields_short kinds.Rates = omega arith
fields_short kinds.Done = omega arith
fields_short kinds.Room = omega arith
fields_short kinds.Lent = omega arith
fields_short kinds.Refused = omega arith
fields_short kinds.Wrote = omega arith
fields_short kinds.PageIs = omega arith
fields_short kinds.AskRates = omega arith
fields_short kinds.Evict = omega arith

-- ---- the first kind that passes a test

found_by : (p : Kind → Bool) (b : Bool) (x y : Kind) (o : Option Kind) → p x ≡ b → (o ≡ Some y → p y ≡ true) → cond b (Some x) o ≡ Some y → p y ≡ true
found_by p true x y o is later e =
    let same : x ≡ y = cc in
    ap p (sym same) ∙ is
found_by p false x y o is later e = later e

pub find_some : (p : Kind → Bool) (xs : List Kind) (k : Kind) → find p xs ≡ Some k → p k ≡ true
find_some p [] k e = absurd cc
find_some p (x ∷ xs) k e = found_by p (p x) x k (find p xs) refl (find_some p xs k) e

passed_by : {A : Type 0} (b : Bool) (x : A) (o : Option A) → cond b (Some x) o ≡ None → (b ≡ false) × (o ≡ None)
passed_by true x o e = absurd cc
passed_by false x o e = (refl, e)

find_none : (p : Kind → Bool) (xs : List Kind) (i : ℕ) → find p xs ≡ None → i < length xs → p (get_or xs i kinds.Hello) ≡ false
find_none p [] i e lt = absurd (omega arith)
find_none p (x ∷ xs) zero e lt = (passed_by (p x) x (find p xs) e).0
find_none p (x ∷ xs) (suc i) e lt = find_none p xs i (passed_by (p x) x (find p xs) e).1 (omega arith)

pub none_passes : (p : Kind → Bool) (k : Kind) → find p all_kinds ≡ None → p k ≡ false
none_passes p k e = ap p (sym (kind_at-number k)) ∙ find_none p all_kinds ((form k).number - 1) e (number_within k)

-- ---- fields

pub fields_length : (m : Msg) → length (fields m) ≡ (form_of m).fields
fields_length (msg.Hello version page_bytes pages_per_slab) = refl
fields_length (msg.Query slab) = refl
fields_length (msg.Borrow slab) = refl
fields_length (msg.Write lease place) = refl
fields_length (msg.Read lease place) = refl
fields_length (msg.Rates lease value) = refl
fields_length (msg.Done lease) = refl
fields_length (msg.Room slab free) = refl
fields_length (msg.Lent slab lease) = refl
fields_length (msg.Refused slab) = refl
fields_length (msg.Wrote lease place) = refl
fields_length (msg.PageIs lease place) = refl
fields_length (msg.AskRates lease) = refl
fields_length (msg.Evict lease) = refl

pub kind_message : (k : Kind) (bytes : List ℕ) → kind (message k bytes) ≡ k
kind_message kinds.Hello bytes = refl
kind_message kinds.Query bytes = refl
kind_message kinds.Borrow bytes = refl
kind_message kinds.Write bytes = refl
kind_message kinds.Read bytes = refl
kind_message kinds.Rates bytes = refl
kind_message kinds.Done bytes = refl
kind_message kinds.Room bytes = refl
kind_message kinds.Lent bytes = refl
kind_message kinds.Refused bytes = refl
kind_message kinds.Wrote bytes = refl
kind_message kinds.PageIs bytes = refl
kind_message kinds.AskRates bytes = refl
kind_message kinds.Evict bytes = refl

pub fields_message : (k : Kind) (bytes : List ℕ) → length bytes ≡ (form k).fields → IsBytes bytes → fields (message k bytes) ≡ bytes
fields_message kinds.Hello bytes len fits = three_back bytes len fits
fields_message kinds.Query bytes len fits = one_back bytes len fits
fields_message kinds.Borrow bytes len fits = one_back bytes len fits
fields_message kinds.Write bytes len fits = two_back bytes len fits
fields_message kinds.Read bytes len fits = two_back bytes len fits
fields_message kinds.Rates bytes len fits = rate_back bytes len fits
fields_message kinds.Done bytes len fits = one_back bytes len fits
fields_message kinds.Room bytes len fits = two_back bytes len fits
fields_message kinds.Lent bytes len fits = two_back bytes len fits
fields_message kinds.Refused bytes len fits = one_back bytes len fits
fields_message kinds.Wrote bytes len fits = two_back bytes len fits
fields_message kinds.PageIs bytes len fits = two_back bytes len fits
fields_message kinds.AskRates bytes len fits = one_back bytes len fits
fields_message kinds.Evict bytes len fits = one_back bytes len fits

pub numbers_message : (k : Kind) (bytes : List ℕ) → IsBytes bytes → NumbersFit (message k bytes)
numbers_message kinds.Hello bytes fits = (word_at_below bytes 0 fits, word_at_below bytes 4 fits, word_at_below bytes 8 fits)
numbers_message kinds.Query bytes fits = word_at_below bytes 0 fits
numbers_message kinds.Borrow bytes fits = word_at_below bytes 0 fits
numbers_message kinds.Write bytes fits = (word_at_below bytes 0 fits, word_at_below bytes 4 fits)
numbers_message kinds.Read bytes fits = (word_at_below bytes 0 fits, word_at_below bytes 4 fits)
numbers_message kinds.Rates bytes fits = (word_at_below bytes 0 fits, long_at_below bytes 4 fits)
numbers_message kinds.Done bytes fits = word_at_below bytes 0 fits
numbers_message kinds.Room bytes fits = (word_at_below bytes 0 fits, word_at_below bytes 4 fits)
numbers_message kinds.Lent bytes fits = (word_at_below bytes 0 fits, word_at_below bytes 4 fits)
numbers_message kinds.Refused bytes fits = word_at_below bytes 0 fits
numbers_message kinds.Wrote bytes fits = (word_at_below bytes 0 fits, word_at_below bytes 4 fits)
numbers_message kinds.PageIs bytes fits = (word_at_below bytes 0 fits, word_at_below bytes 4 fits)
numbers_message kinds.AskRates bytes fits = word_at_below bytes 0 fits
numbers_message kinds.Evict bytes fits = word_at_below bytes 0 fits

back : (n : ℕ) → n < 2 ^ 32 → from_be_bytes w32 (word n) ≡ n
back n lt = from_be_bytes-to_be_bytes_4 n lt

long_back : (n : ℕ) → n < 2 ^ 64 → from_be_bytes w64 (long n) ≡ n
long_back n lt = from_be_bytes-to_be_bytes_8 n lt

with_one : (f : ℕ → Msg) (a : ℕ) → a < 2 ^ 32 → f (word_at (word a) 0) ≡ f a
with_one f a p = ap f (back a p)

with_two : (f : ℕ → ℕ → Msg) (a b : ℕ) → (a < 2 ^ 32) × (b < 2 ^ 32) → f (word_at (word a ++ word b) 0) (word_at (word a ++ word b) 4) ≡ f a b
with_two f a b p = ap (λ (x : ℕ). f x (word_at (word a ++ word b) 4)) (back a p.0) ∙ ap (f a) (back b p.1)

with_rate : (f : ℕ → ℕ → Msg) (a b : ℕ) → (a < 2 ^ 32) × (b < 2 ^ 64) → f (word_at (word a ++ long b) 0) (long_at (word a ++ long b) 4) ≡ f a b
with_rate f a b p = ap (λ (x : ℕ). f x (long_at (word a ++ long b) 4)) (back a p.0) ∙ ap (f a) (long_back b p.1)

with_three : (f : ℕ → ℕ → ℕ → Msg) (a b c : ℕ) → (a < 2 ^ 32) × (b < 2 ^ 32) × (c < 2 ^ 32)
    → f (word_at (word a ++ word b ++ word c) 0) (word_at (word a ++ word b ++ word c) 4) (word_at (word a ++ word b ++ word c) 8) ≡ f a b c
with_three f a b c p =
    ap (λ (x : ℕ). f x (word_at (word a ++ word b ++ word c) 4) (word_at (word a ++ word b ++ word c) 8)) (back a p.0)
    ∙ ap (λ (x : ℕ). f a x (word_at (word a ++ word b ++ word c) 8)) (back b p.1) ∙ ap (f a b) (back c p.2)

pub message_fields : (m : Msg) → NumbersFit m → message (kind m) (fields m) ≡ m
message_fields (msg.Hello version page_bytes pages_per_slab) p = with_three (λ a b c. msg.Hello a b c) version page_bytes pages_per_slab p
message_fields (msg.Query slab) p = with_one (λ a. msg.Query (record { 0 = a })) slab.0 p
message_fields (msg.Borrow slab) p = with_one (λ a. msg.Borrow (record { 0 = a })) slab.0 p
message_fields (msg.Write lease place) p = with_two (λ a b. msg.Write (record { 0 = a }) b) lease.0 place p
message_fields (msg.Read lease place) p = with_two (λ a b. msg.Read (record { 0 = a }) b) lease.0 place p
message_fields (msg.Rates lease value) p = with_rate (λ a b. msg.Rates (record { 0 = a }) b) lease.0 value p
message_fields (msg.Done lease) p = with_one (λ a. msg.Done (record { 0 = a })) lease.0 p
message_fields (msg.Room slab free) p = with_two (λ a b. msg.Room (record { 0 = a }) b) slab.0 free p
message_fields (msg.Lent slab lease) p = with_two (λ a b. msg.Lent (record { 0 = a }) (record { 0 = b })) slab.0 lease.0 p
message_fields (msg.Refused slab) p = with_one (λ a. msg.Refused (record { 0 = a })) slab.0 p
message_fields (msg.Wrote lease place) p = with_two (λ a b. msg.Wrote (record { 0 = a }) b) lease.0 place p
message_fields (msg.PageIs lease place) p = with_two (λ a b. msg.PageIs (record { 0 = a }) b) lease.0 place p
message_fields (msg.AskRates lease) p = with_one (λ a. msg.AskRates (record { 0 = a })) lease.0 p
message_fields (msg.Evict lease) p = with_one (λ a. msg.Evict (record { 0 = a })) lease.0 p
