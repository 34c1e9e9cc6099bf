use Rattle.std.proofs.Common.{◌≡◌, List, length, ap, ◌∙◌, subst, rules}
use Rattle.std.specs.List.{position, position_or_len}
use Rattle.std.specs.Prelude.{Some}
use Rattle.swap_lender.specs.declared.SlotState.{SlotState}
use Rattle.swap_lender.specs.Lender.{Lender, is_free}
use Rattle.swap_lender.proofs.FreeSlots.{room_there}
use Rattle.swap_lender.proofs.lender.LenderCore.lend.Goals as goal

pub unwrap-slot-requires : goal.unwrap-slot-requires
unwrap-slot-requires c =
    let size : length c.args.self.now.slots ≡ c.args.self.now.lending.spec.slots =
    subst (λ (l : Lender). length l.slots ≡ l.lending.spec.slots) c.self.view_is c.self.invariant.0.number in
    let some : c.lowest_free.result ≡ Some (position_or_len is_free c.args.self.now.slots) =
    c.lowest_free.ensures ∙ ap (λ (l : List SlotState). position is_free l) (c.deref.ensures.value ∙ ap (λ (l : Lender). l.slots) c.self.view_is)
    ∙ room_there c.args.self.now c.requires size in
    rw some (search rules)
