-- A fabric over sockets, as what came of each lender's link. It tells nothing of what is kept or owed.
use Rattle.std.specs.Prelude.{◌≡◌, ℕ, Bool, true, false, ◌==◌, List, [], ◌∷◌, ◌++◌, ◌⊎◌, length, slice_set, slice_get}
use Rattle.std.specs.Prelude.{Option, None, Some, IsSome}
use Rattle.swap_base.specs.declared.Link.{Link}
use Rattle.swap_wire.specs.declared.fabric.Sent.{Sent}
use Rattle.swap_wire.specs.declared.fabric.Sent.TheVariants as sent_is
use Rattle.swap_wire.specs.Fabric.{FabricOf, FabricCall, FabricAnswer, Connect, Send, Take, End}
use Rattle.swap_wire.specs.Fabric.{Handed, Brought, NothingCame, LinkLost, TakenFits, parcel_of}
use Rattle.swap_net.specs.declared.post.Arrival.{Arrival}
use Rattle.swap_net.specs.declared.post.Item.{Item}
use Rattle.swap_net.specs.declared.post.Item.TheVariants as item_is

-- the link that stands at the device's end, and what came from the reader, oldest first
pub record PostState : Type 0 where
  pub link : Option Link
  pub came : List Arrival

pub record FabricView : Type 0 where
  pub is_of : FabricOf
  pub posts : List PostState

-- whether this is the link that stands
abbrev pub stands_as : Option Link → Link → Bool
stands_as None link = false
stands_as (Some l) link = l.0 == link.0

-- an item of an older link came, and was dropped
pub record Older (before now : PostState) : Type 0 where
  pub item : Arrival
  pub came : now.came ≡ before.came ++ item ∷ []
  pub older : stands_as before.link item.link ≡ false

-- an item with these bytes is handed over as what it is: a message with its page, or the end of its link. A message
-- whose bytes aren't as many as a page has ends the link
abbrev pub HandsOver : ℕ → Item → List ℕ → Handed → Type 0
HandsOver page_bytes (item_is.Got m) bytes (Brought p) = p ≡ parcel_of m bytes
HandsOver page_bytes (item_is.Got m) bytes LinkLost = length bytes ≡ page_bytes → ⊥
HandsOver page_bytes item_is.End bytes LinkLost = Unit {0}
HandsOver page_bytes item_is.End bytes (Brought p) = ⊥
HandsOver page_bytes item bytes NothingCame = ⊥

-- an item of the link that stands is handed over
pub record CameBy (page_bytes : ℕ) (before : PostState) (handed : Handed) (now : PostState) : Type 0 where
  pub item : Arrival
  pub came : now.came ≡ before.came ++ item ∷ []
  pub link : stands_as before.link item.link ≡ true
  pub hands : HandsOver page_bytes item.item item.page.items handed

abbrev pub Looked : ℕ → PostState → Handed → PostState → Type 0
Looked page_bytes before (Brought p) now = CameBy page_bytes before (Brought p) now
Looked page_bytes before NothingCame now = (before.link ≡ None) ⊎ ((now.came ≡ before.came) ⊎ Older before now)
Looked page_bytes before LinkLost now = CameBy page_bytes before LinkLost now

-- only that post changed
pub record TookAt (f : FabricView) (n : ℕ) (handed : Handed) (g : FabricView) : Type 0 where
  pub before : PostState
  pub at : slice_get f.posts n ≡ Some before
  pub now : PostState
  pub posts : g.posts ≡ slice_set f.posts n now
  pub looked : Looked f.is_of.sizes.page_bytes before handed now

-- no link stands, and what came is as it was
pub record Ended (before now : PostState) : Type 0 where
  pub link : now.link ≡ None
  pub came : now.came ≡ before.came

-- a new link stands, or none where its order can't be given
abbrev pub Opened : Link → PostState → PostState → Type 0
Opened link before now = (now ≡ record before { link = Some link }) ⊎ Ended before now

-- a message goes to the link that stands; else none stands from now on, which says that none stood, or that the queues
-- to its writer are full or the message has no frame
abbrev pub Posted : Sent → PostState → PostState → Type 0
Posted sent_is.Sent before now = IsSome before.link × (now ≡ before)
Posted sent_is.Down before now = Ended before now

-- only that post changed, and so
pub record ChangedAt (f : FabricView) (n : ℕ) (changed : PostState → PostState → Type 0) (g : FabricView) : Type 0 where
  pub before : PostState
  pub at : slice_get f.posts n ≡ Some before
  pub now : PostState
  pub posts : g.posts ≡ slice_set f.posts n now
  pub changes : changed before now

abbrev pub Tells : FabricView → (c : FabricCall) → FabricAnswer c → FabricView → Type 0
Tells f (Take lender) answer g = TookAt f lender.0 answer g
Tells f (Connect lender link) answer g = ChangedAt f lender.0 (Opened link) g
Tells f (Send lender parcel) answer g = ChangedAt f lender.0 (Posted answer) g
Tells f (End lender) answer g = ChangedAt f lender.0 Ended g
Tells f _ answer g = g.posts ≡ f.posts

abbrev pub Moves : FabricView → (c : FabricCall) → FabricAnswer c → FabricView → Type 0
Moves f c answer g = (g.is_of ≡ f.is_of) × TakenFits f.is_of.sizes.page_bytes c answer × Tells f c answer g
