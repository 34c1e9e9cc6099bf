-- What each call leaves of the slots of the lenders in memory.
use Rattle.std.specs.Prelude.{◌≡◌, ℕ, ◌<◌, true, false, List, length}
use Rattle.swap_base.specs.declared.Lender.{Lender as LenderNo}
use Rattle.swap_base.specs.declared.Link.{Link}
use Rattle.swap_base.specs.declared.Slab.{Slab}
use Rattle.swap_base.specs.declared.Lease.{Lease}
use Rattle.swap_wire.specs.declared.Msg.{Msg}
use Rattle.swap_wire.specs.Fabric.{FabricCall, FabricAnswer, FabricOf}
use Rattle.swap_lender.specs.declared.Lending.{Lending}
use Rattle.swap_lender.specs.Lender.{Lender, lender_at_start, lends, first_where, is_free}
use Rattle.swap_lender.specs.Table.{lend, may_send, serve, host}
use Rattle.swap_lender.specs.Calls.{Call, run, IsOwned, AsksStaying}
use Rattle.swap_link.specs.Fits.{IsSound}
use Rattle.swap_link.specs.Harbor.{Harbor, Moves, channel_of, IsFresh}
use Rattle.swap_joint.specs.Seats.{HasSeat, AreSlots, is_done}
use Rattle.swap_joint.specs.Turn.{AsksUntold, Lodges}
use Rattle.swap_joint.specs.Allowed.{AllKnown}

-- a slot that is lent is had by the next lease, and a slot stays a link's, by its lease and for its slab, through each
-- message that is served but the one that gives it back, and through the lender's own measure of its host
pub record TurnsKeepSeats : Type 0 where
  pub lent :
      (l : Lender) (n : Link) (t : Slab) → IsSound l → AreSlots l → lends l ≡ true
      → HasSeat (lend l n t (first_where is_free l.slots)).lender n (record { 0 = l.next_lease }) t
  pub served :
      (l : Lender) (n : Link) (m : Msg) (page : List ℕ) (k : Lease) (t : Slab) → IsSound l → may_send l n m ≡ true
      → is_done k m ≡ false → HasSeat l n k t → HasSeat (serve l n m page).lender n k t
  pub hosted :
      (l : Lender) (used word : ℕ) (n : Link) (k : Lease) (t : Slab) → HasSeat l n k t
      → HasSeat (host l used word).lender n k t

-- each lender has the slots of its spec
abbrev pub AreWhole : Harbor → Type 0
AreWhole h = (l : LenderNo) → l.0 < length h.channels → AreSlots (channel_of h l).lender

-- a lender is what a list of calls makes of one that was just made
pub record IsReached (l : Lender) : Type 0 where
  pub lending : Lending
  pub calls : List Call
  pub is : l ≡ run (lender_at_start lending) calls

abbrev pub AreReached : Harbor → Type 0
AreReached h = (l : LenderNo) → l.0 < length h.channels → IsReached (channel_of h l).lender

abbrev pub AllUntold : Harbor → Type 0
AllUntold h =
    (l : LenderNo) → l.0 < length h.channels → AsksUntold (channel_of h l).lender.round (channel_of h l).lender.slots

abbrev pub AllLodge : Harbor → Type 0
AllLodge h = (l : LenderNo) → l.0 < length h.channels → Lodges (channel_of h l)

-- the lenders by themselves: they have the slots of their specs and are what calls made of them; no slot that a round
-- asks was told to go; they hold slots for their present links alone; and each has room for one link, which is its
-- present one as long as its end stands, and the sizes of its device
pub record AreSound (h : Harbor) : Type 0 where
  pub whole : AreWhole h
  pub reached : AreReached h
  pub untold : AllUntold h
  pub lodged : AllLodge h
  pub known : AllKnown h

-- no two held slots of a lender have one lease, or one link and slab, and an open round waits for slots that stay
pub record AreOwned (l : Lender) : Type 0 where
  pub slots : IsOwned l.slots l.next_lease
  pub round : AsksStaying l.round l.slots

abbrev pub AllOwned : Harbor → Type 0
AllOwned h = (l : LenderNo) → l.0 < length h.channels → AreOwned (channel_of h l).lender

-- lenders as they are made are sound, every call of a harbor leaves them so, and then they are owned
pub record LendersKeep : Type 0 where
  pub made : (h : Harbor) (o : FabricOf) → IsFresh h o → AreSound h
  pub sound : (f : Harbor) (c : FabricCall) (r : FabricAnswer c) (g : Harbor) → Moves f c r g → AreSound f → AreSound g
  pub owned : (h : Harbor) → AreSound h → AllOwned h
