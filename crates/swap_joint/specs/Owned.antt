-- A slab that is mapped, or drains, has its slot; and so what a device and its lenders hold at every moment.
use Rattle.std.specs.Prelude.{◌<◌}
use Rattle.swap_base.specs.declared.Slab.{Slab}
use Rattle.swap_slabs.specs.Slabs.{state_of}
use Rattle.swap_slabs.specs.declared.SlabState.{SlabState}
use Rattle.swap_slabs.specs.declared.SlabState.TheVariants.{Local, Asking, Borrowing, Mapped, Draining}
use Rattle.swap_table.specs.Device.{Device}
use Rattle.swap_link.specs.Keeping.{Unless}
use Rattle.swap_link.specs.Harbor.{Harbor, channel_of}
use Rattle.swap_joint.specs.Seats.{HasSeat}
use Rattle.swap_joint.specs.Lenders.{AllOwned}
use Rattle.swap_joint.specs.Newest.{IsNewest}

-- where the lender's end of its link stands, a slab that is mapped or drains has a slot by its lease, held for it
abbrev pub HasItsSlot : Device → Harbor → Slab → SlabState → Type 0
HasItsSlot d h t Local = Unit {0}
HasItsSlot d h t (Asking pair) = Unit {0}
HasItsSlot d h t (Borrowing l) = Unit {0}
HasItsSlot d h t (Mapped l k flying) =
    Unless (channel_of h l).lender_gone (HasSeat (channel_of h l).lender (channel_of h l).number k t)
HasItsSlot d h t (Draining l k flying) =
    Unless (channel_of h l).lender_gone (HasSeat (channel_of h l).lender (channel_of h l).number k t)

abbrev pub HaveTheirSlots : Device → Harbor → Type 0
HaveTheirSlots d h = (t : Slab) → t.0 < d.sizes.slabs → HasItsSlot d h t (state_of d.remote.slabs t)

-- a lent slab has one owner: no two held slots of a lender have one lease, or one link and slab, and each slab that is
-- mapped or drains on a link whose lender's end stands has its slot there
pub record IsOwned (d : Device) (h : Harbor) : Type 0 where
  pub slots : AllOwned h
  pub slabs : HaveTheirSlots d h

-- a set bit means that the remote copy is the newest, and a lent slab has one owner
pub record IsLent (d : Device) (h : Harbor) : Type 0 where
  pub newest : IsNewest d h
  pub owned : IsOwned d h
