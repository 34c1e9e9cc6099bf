-- A slot is free where fewer are held than there are.
use Rattle.std.proofs.Common.{◌≡◌, ◌+◌, ◌<◌, Bool, true, false, List, [], ◌∷◌, length, ap, refl, arith}
use Rattle.std.specs.List.{position, position_or_len, count_by}
use Rattle.std.specs.Prelude.{Some, None, cond, nat_lt, ◌&&◌}
use Rattle.std.proofs.lemmas.List.Sums.{sum_by-cons}
use Rattle.std.proofs.lemmas.Bool.{lt-ltb, ltb-true}
use Rattle.swap_lender.specs.declared.SlotState.{SlotState}
use Rattle.swap_lender.specs.declared.SlotState.TheVariants.{Free, Held}
use Rattle.swap_lender.specs.Lender.{Lender, is_free, is_held, used_slots, held_slots, lends}
use Rattle.swap_lender.specs.declared.TheConstants.{LEASES}
use Rattle.swap_base.proofs.Bools.{and_first, and_second}

pub free_there : (slots : List SlotState) → count_by is_held slots < length slots → position_or_len is_free slots < length slots
free_there [] lt = absurd (omega arith)
free_there (Free ∷ slots) lt = omega arith
free_there (Held link slab lease evicting ∷ slots) lt =
    let one_more : count_by is_held (Held link slab lease evicting ∷ slots) ≡ 1 + count_by is_held slots =
    sum_by-cons (λ state. cond (is_held state) 1 0) (Held link slab lease evicting) slots in
    let later : position_or_len is_free slots < length slots = free_there slots (omega (arith, one_more)) in omega arith

pub lowest_there : (slots : List SlotState) → count_by is_held slots < length slots → position is_free slots ≡ Some (position_or_len is_free slots)
lowest_there slots lt =
    let there : nat_lt (position_or_len is_free slots) (length slots) ≡ true = lt-ltb (position_or_len is_free slots) (length slots) (free_there slots lt) in
    ap (λ (b : Bool). cond b (Some (position_or_len is_free slots)) None) there

-- a lender that lends has a slot that isn't held, and a lease
pub lends_room : (l : Lender) → lends l ≡ true → (used_slots l + held_slots l + l.lending.spec.headroom < l.lending.spec.slots) × (l.next_lease < LEASES)
lends_room l e =
    let a = nat_lt (used_slots l + held_slots l + l.lending.spec.headroom) l.lending.spec.slots in
    let b = nat_lt l.next_lease LEASES in
    (ltb-true (used_slots l + held_slots l + l.lending.spec.headroom) l.lending.spec.slots (and_first a b e), ltb-true l.next_lease LEASES (and_second a b e))

pub room_there : (l : Lender) → lends l ≡ true → length l.slots ≡ l.lending.spec.slots → position is_free l.slots ≡ Some (position_or_len is_free l.slots)
room_there l e size = let room = lends_room l e in lowest_there l.slots (omega (arith, room.0, size))
