-- The slots of a set are read from their numbers, ascending, and from no other words.
use Rattle.std.proofs.Common.{◌≡◌, ◌≢◌, ℕ, zero, suc, ◌+◌, ◌-◌, ◌^◌, ◌<◌, ◌≤◌, Bool, true, false, cond, ◌&&◌, ◌||◌, eqb, nat_lt, nat_le, List, [], ◌∷◌, map, bit_or, None, Some, refl, sym, ap, ap₂, subst, ◌∙◌, arith, inl, inr}
use Rattle.std.specs.Fmt.{decimal}
use Rattle.std.specs.Int.{bit_at}
use Rattle.std.specs.List.{filter, range_with_len}
use Rattle.std.proofs.lemmas.Bool.{cases_eq, eq-eqb, ne_eqb, and_parts, and_from, leb-true, ltb-true, le-leb, lt-ltb}
use Rattle.std.proofs.lemmas.Nat.{or_lt, pow_below}
use Rattle.std.proofs.lemmas.Nat.Bits.{bit_at-zero, bit_at-lt, same_from_bits_below}
use Rattle.swap_choice.specs.Slots.{has, slots}
use Rattle.swap_choice.proofs.Ranks.{has-or, bit_from_has}
use Rattle.swap_script.specs.Forms.{small_number}
use Rattle.swap_transcript.specs.Readers.{Words}
use Rattle.swap_transcript.specs.Gave.{slots_from, slots_of}
use Rattle.swap_transcript.proofs.Front.{bind_some, bound, small-only, small-back}
use Rattle.swap_transcript.proofs.EntryBack.{cond_then}
use Rattle.swap_base.proofs.Bools.{or_true}

-- the slots of a set from one on, so many of them
abbrev upwards : ℕ → ℕ → ℕ → List ℕ
upwards set least many = filter (has set) (range_with_len least many)

abbrev Agree : ℕ → ℕ → ℕ → Type 0
Agree a b least = (i : ℕ) → i < least → has a i ≡ has b i

abbrev Empty : ℕ → ℕ → Type 0
Empty set least = (i : ℕ) → least ≤ i → i < 64 → has set i ≡ false

-- none are there
none_upwards : (set least many : ℕ) → least + many ≤ 64 → Empty set least → upwards set least many ≡ []
none_upwards set least zero l h = refl
none_upwards set least (suc many) l h =
    ap₂ (λ b rest. cond b (least ∷ rest) rest) (h least (omega arith) (omega arith))
    (none_upwards set (least + 1) many (omega arith) (λ i low high. h i (omega arith) high))

or_false : (b : Bool) → (b || false) ≡ b
or_false true = refl
or_false false = refl

has_other : (set slot i : ℕ) → i ≢ slot → has (bit_or set (2 ^ slot)) i ≡ has set i
has_other set slot i other = has-or set slot i ∙ ap (λ b. has set i || b) (ne_eqb i slot other) ∙ or_false (has set i)

has_this : (set slot : ℕ) → has (bit_or set (2 ^ slot)) slot ≡ true
has_this set slot = has-or set slot slot ∙ ap (λ b. has set slot || b) (eq-eqb slot slot refl) ∙ or_true (has set slot)

-- the first that is there
first_upwards :
    (set least slot many rest : ℕ) → least ≤ slot → least + many ≡ slot + 1 + rest → least + many ≤ 64 → ((i : ℕ) → least ≤ i → i < slot → has set i ≡ false)
    → has set slot ≡ true
    → upwards set least many ≡ slot ∷ upwards set (slot + 1) rest
first_upwards set least slot zero rest low same l none is = absurd (omega arith)
first_upwards set least slot (suc many) rest low same l none is =
    elim (cases_eq least slot) [
      | inl here ↦
          ap (λ b. cond b (least ∷ upwards set (least + 1) many) (upwards set (least + 1) many)) (ap (has set) here ∙ is)
          ∙ ap₂ (λ a m. a ∷ upwards set (a + 1) m) here (omega arith)
      | inr later ↦
          ap (λ b. cond b (least ∷ upwards set (least + 1) many) (upwards set (least + 1) many)) (none least (omega arith) (omega arith))
          ∙ first_upwards set (least + 1) slot many rest (omega arith) (omega arith) (omega arith) (λ i a b. none i (omega arith) b) is
    ]

-- what was read: the slots below are as before, and the words are those of the others
record ReadFrom (least set r : ℕ) (words : Words) : Type 0 where
  same : Agree r set least
  spelled : words ≡ map decimal (upwards r least (64 - least))
  small : set < 2 ^ 64 → r < 2 ^ 64

slots_from-only : (words : Words) (least set r : ℕ) → least ≤ 64 → Empty set least → slots_from least set words ≡ Some r → ReadFrom least set r words
slots_from-only [] least set r l empty e =
    let same : set ≡ r = cc in
    subst (λ x. ReadFrom least set x []) same
    (record { same = λ i a. refl; spelled = sym (ap (map decimal) (none_upwards set least (64 - least) (omega arith) empty)); small = λ a. a })
slots_from-only (word ∷ words) least set r l empty e =
    let read =
    bind_some (small_number word) (λ slot. cond (nat_le least slot && nat_lt slot 64) (slots_from (slot + 1) (bit_or set (2 ^ slot)) words) None) r e in
    let slot = read.0 in
    let more = bit_or set (2 ^ slot) in
    let c = cond_then (nat_le least slot && nat_lt slot 64) (slots_from (slot + 1) more words) r read.2 in
    let parts = and_parts (nat_le least slot) (nat_lt slot 64) c.0 in
    let low : least ≤ slot = leb-true least slot parts.0 in
    let high : slot < 64 = ltb-true slot 64 parts.1 in
    let later = slots_from-only words (slot + 1) more r (omega arith) (λ i a b. has_other set slot i (omega arith) ∙ empty i (omega arith) b) c.1 in
    let first =
    first_upwards r least slot (64 - least) (64 - (slot + 1)) low (omega arith) (omega arith)
    (λ i a b. later.same i (omega arith) ∙ has_other set slot i (omega arith) ∙ empty i a (omega arith))
    (later.same slot (omega arith) ∙ has_this set slot) in
    record {
      same = λ i a. later.same i (omega arith) ∙ has_other set slot i (omega arith);
      spelled = ap (λ w. w ∷ words) (small-only word slot read.1).0 ∙ ap (λ ws. decimal slot ∷ ws) later.spelled ∙ sym (ap (map decimal) first);
      small = λ a. later.small (or_lt 64 set (2 ^ slot) a (pow_below slot 64 high));
    }

same_slots : (a b : ℕ) → a < 2 ^ 64 → b < 2 ^ 64 → Agree a b 64 → a ≡ b
same_slots a b la lb h = same_from_bits_below 64 a b la lb (λ i l. bit_from_has (bit_at a i) (bit_at b i) (bit_at-lt a i) (bit_at-lt b i) (h i l))

agree_more : (set part least i : ℕ) → has set least ≡ true → i < least + 1 → Agree part set least → has (bit_or part (2 ^ least)) i ≡ has set i
agree_more set part least i is l agree =
    elim (cases_eq i least) [
      | inl here ↦ ap (has (bit_or part (2 ^ least))) here ∙ has_this part least ∙ sym (ap (has set) here ∙ is)
      | inr other ↦ has_other part least i other ∙ agree i (omega arith)
    ]

agree_less : (set part least i : ℕ) → has set least ≡ false → has part least ≡ false → i < least + 1 → Agree part set least → has part i ≡ has set i
agree_less set part least i is out l agree =
    elim (cases_eq i least) [
      | inl here ↦ ap (has part) here ∙ out ∙ sym (ap (has set) here ∙ is)
      | inr other ↦ agree i (omega arith)
    ]

-- what is left to be shown of the slots from one on
abbrev ReadsBack : ℕ → ℕ → ℕ → Type 0
ReadsBack set least many =
    (low part : ℕ) → low ≤ least → part < 2 ^ 64 → Agree part set least → Empty part least
    → slots_from low part (map decimal (upwards set least many)) ≡ Some set

back_at :
    (many least set low part : ℕ) (b : Bool) → ReadsBack set (least + 1) many → has set least ≡ b → low ≤ least → least < 64 → part < 2 ^ 64
    → Agree part set least → Empty part least
    → slots_from low part (map decimal (cond b (least ∷ upwards set (least + 1) many) (upwards set (least + 1) many))) ≡ Some set
back_at many least set low part true later is l within smaller agree empty =
    bound (small_number (decimal least))
    (λ slot. cond (nat_le low slot && nat_lt slot 64) (slots_from (slot + 1) (bit_or part (2 ^ slot)) (map decimal (upwards set (least + 1) many))) None)
    least
    (small-back least (omega arith))
    ∙ ap (λ b. cond b (slots_from (least + 1) (bit_or part (2 ^ least)) (map decimal (upwards set (least + 1) many))) None)
    (and_from (nat_le low least) (nat_lt least 64) (le-leb low least l) (lt-ltb least 64 within))
    ∙ later (least + 1) (bit_or part (2 ^ least)) (omega arith) (or_lt 64 part (2 ^ least) smaller (pow_below least 64 within))
    (λ i a. agree_more set part least i is a agree) (λ i a b. has_other part least i (omega arith) ∙ empty i (omega arith) b)
back_at many least set low part false later is l within smaller agree empty =
    later low part (omega arith) smaller (λ i a. agree_less set part least i is (empty least (omega arith) within) a agree) (λ i a b. empty i (omega arith) b)

slots_from-back : (many least set : ℕ) → least + many ≡ 64 → set < 2 ^ 64 → ReadsBack set least many
slots_from-back zero least set sum small low part l smaller agree empty = ap (λ x. Some x) (same_slots part set smaller small (λ i a. agree i (omega arith)))
slots_from-back (suc many) least set sum small_number low part l smaller agree empty =
    back_at many least set low part (has set least) (slots_from-back many (least + 1) set (omega arith) small_number) refl l (omega arith) smaller agree empty

-- the slots of a whole set
whole_slots : (set : ℕ) → upwards set 0 64 ≡ slots set
unfolding slots
whole_slots set = refl

none_yet : (least : ℕ) → Empty 0 least
none_yet least i a b = ap (λ x. eqb x 1) (bit_at-zero i)

not_zero : (set r : ℕ) (b : Bool) → eqb set 0 ≡ b → cond b None (Some set) ≡ Some r → (set ≡ r) × (eqb r 0 ≡ false)
not_zero set r true is e = cc
not_zero set r false is e =
    let same : set ≡ r = cc in
    (same, sym (ap (λ n. eqb n 0) same) ∙ is)

-- words that are read as a set of slots, one or more
pub record AreSlots (set : ℕ) (words : Words) : Type 0 where
  pub small : set < 2 ^ 64
  pub some : eqb set 0 ≡ false
  pub spelled : words ≡ map decimal (slots set)

pub slots_of-only : (words : Words) (set : ℕ) → slots_of words ≡ Some set → AreSlots set words
slots_of-only words set e =
    let read = bind_some (slots_from 0 0 words) (λ set. cond (eqb set 0) None (Some set)) set e in
    let same = not_zero read.0 set (eqb read.0 0) refl read.2 in
    let from = slots_from-only words 0 0 read.0 (omega arith) (none_yet 0) read.1 in
    subst (λ s. AreSlots s words) same.0
    (record { small = from.small (omega arith); some = ap (λ n. eqb n 0) same.0 ∙ same.1; spelled = from.spelled ∙ ap (map decimal) (whole_slots read.0) })

pub slots_of-back : (set : ℕ) → set < 2 ^ 64 → eqb set 0 ≡ false → slots_of (map decimal (slots set)) ≡ Some set
slots_of-back set small_number some =
    ap (λ s. slots_of (map decimal s)) (sym (whole_slots set))
    ∙ bound (slots_from 0 0 (map decimal (upwards set 0 64))) (λ set. cond (eqb set 0) None (Some set)) set
    (slots_from-back 64 0 set refl small_number 0 0 (omega arith) (omega arith) (λ i a. absurd (omega arith)) (none_yet 0))
    ∙ ap (λ b. cond b None (Some set)) some
