-- What a link may reach after a round is over, and which slot is lent.
use Rattle.std.proofs.Common.{◌≡◌, ℕ, ◌+◌, ◌<◌, Bool, true, false, ◌&&◌, not, cond, List, [], ◌∷◌, length, Option, None, Some, refl, ap, ◌∙◌, arith}
use Rattle.std.specs.Prelude.{nat_lt}
use Rattle.std.specs.List.{position_or_len}
use Rattle.std.proofs.lemmas.List.Sums.{passes_at_first}
use Rattle.swap_base.specs.declared.Link.{Link}
use Rattle.swap_base.specs.declared.Lease.{Lease}
use Rattle.swap_choice.specs.Slots.{has}
use Rattle.swap_lender.specs.declared.SlotState.{SlotState}
use Rattle.swap_lender.specs.declared.SlotState.TheVariants.{Free, Held}
use Rattle.swap_lender.specs.Lender.{Lender, is_free, has_lease}
use Rattle.swap_lender.specs.Table.{mark_slot, mark_slots, may_reach, settle_with, slots_due}
use Rattle.swap_lender.specs.Calls.{LendsFreeSlots, ServedUntilDone}
use Rattle.swap_lender.proofs.FreeSlots.{free_there, lends_room}

pub lends_free : LendsFreeSlots
lends_free l e size =
    let room = lends_room l e in
    let there : position_or_len is_free l.slots < length l.slots = free_there l.slots (omega (arith, room.0, size)) in
    (there, passes_at_first is_free l.slots Free there)

mark_leased : (link : Link) (lease : Lease) (b : Bool) (state : SlotState) → has_lease link lease (mark_slot b state) ≡ has_lease link lease state
mark_leased link lease false state = refl
mark_leased link lease true Free = refl
mark_leased link lease true (Held other slab held evicting) = refl

marked_first :
    (link : Link) (lease : Lease) (told_to from : ℕ) (slots : List SlotState)
    → position_or_len (has_lease link lease) (mark_slots told_to from slots) ≡ position_or_len (has_lease link lease) slots
marked_first link lease told_to from [] = refl
marked_first link lease told_to from (state ∷ slots) =
    ap (λ b. cond (not b) (1 + position_or_len (has_lease link lease) (mark_slots told_to (from
    + 1) slots)) 0) (mark_leased link lease (has told_to from) state)
    ∙ ap (λ n. cond (not (has_lease link lease state)) (1 + n) 0) (marked_first link lease told_to (from + 1) slots)

marked_length : (told_to from : ℕ) (slots : List SlotState) → length (mark_slots told_to from slots) ≡ length slots
marked_length told_to from [] = refl
marked_length told_to from (state ∷ slots) =
    let rest : length (mark_slots told_to (from + 1) slots) ≡ length slots = marked_length told_to (from + 1) slots in omega (arith, rest)

settled :
    (l : Lender) (link : Link) (lease : Lease) (place : ℕ) (o : Option ℕ) → may_reach (settle_with l o).lender link lease place ≡ may_reach l link lease place
settled l link lease place None = refl
settled l link lease place (Some told_to) =
    ap (λ n. nat_lt n (length (mark_slots told_to 0 l.slots)) && nat_lt place l.lending.pages_per_slab) (marked_first link lease told_to 0 l.slots)
    ∙ ap (λ n. nat_lt (position_or_len (has_lease link lease) l.slots) n && nat_lt place l.lending.pages_per_slab) (marked_length told_to 0 l.slots)

pub served_until_done : ServedUntilDone
served_until_done l link lease place = settled l link lease place (slots_due l.round)
