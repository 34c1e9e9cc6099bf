-- What a harbor keeps: its lenders are sound, and each page has the length of a page.
use Rattle.std.proofs.Common.{◌≡◌, ℕ, ◌<◌, true, List, length}
use Rattle.std.specs.Prelude.{All}
use Rattle.swap_base.specs.Sizes.{Sizes}
use Rattle.swap_wire.specs.Fabric.{Parcel, carries_page, FabricCall, Send}
use Rattle.swap_lender.specs.Lender.{Lender}
use Rattle.swap_link.specs.Channel.{Channel}
use Rattle.swap_link.specs.Fits.{IsSound}
use Rattle.swap_link.specs.Harbor.{Harbor, new_channel, lender_of, ask, Moves}
use Rattle.swap_base.specs.declared.geometry.LenderSpec.{LenderSpec}
use Rattle.std.specs.Prelude.{map}

-- the page of a message that carries one has the length of a page
abbrev pub ParcelFits : ℕ → Parcel → Type 0
ParcelFits page_bytes p = carries_page p.msg ≡ true → length p.page ≡ page_bytes

-- each page of a slab has it
abbrev pub SlabFits : ℕ → List (List ℕ) → Type 0
SlabFits page_bytes slab = All (λ page. length page ≡ page_bytes) slab

-- a lender whose pages have their length
pub record IsStored (page_bytes : ℕ) (l : Lender) : Type 0 where
  pub sound : IsSound l
  pub page : l.lending.page_bytes ≡ page_bytes
  pub contents : All (SlabFits page_bytes) l.contents

-- a lender's end and both lists, with the pages under way
pub record IsWhole (page_bytes : ℕ) (c : Channel) : Type 0 where
  pub stored : IsStored page_bytes c.lender
  pub to_lender_page : c.to_lender.page_bytes ≡ page_bytes
  pub to_device_page : c.to_device.page_bytes ≡ page_bytes
  pub to_lender : All (ParcelFits page_bytes) c.to_lender.parcels
  pub to_device : All (ParcelFits page_bytes) c.to_device.parcels

-- a message that is sent has a page of the right length where it carries one
abbrev pub CallFits : ℕ → FabricCall → Type 0
CallFits n (Send lender p) = ParcelFits n p
CallFits n _ = Unit {0}

-- a harbor's channel has its sizes
pub record IsOfHarbor (s : Sizes) (c : Channel) : Type 0 where
  pub sizes : c.sizes ≡ s
  pub whole : IsWhole s.page_bytes c

-- all of a harbor's channels are so
abbrev pub IsHarbor : Harbor → Type 0
IsHarbor h = All (IsOfHarbor h.sizes) h.channels

-- every call of a lender in range keeps it, and is a move
abbrev pub AskKeeps : Type 0
AskKeeps =
    (h : Harbor) (c : FabricCall) → IsHarbor h → CallFits h.sizes.page_bytes c → (lender_of c).0 < length h.channels
    → IsHarbor (ask h c).1 × Moves h c (ask h c).0 (ask h c).1

-- a harbor as made is one
abbrev pub NewIsHarbor : Type 0
NewIsHarbor =
    (s : Sizes) (specs : List LenderSpec) → IsHarbor (record { sizes = s; channels = map (new_channel s) specs })
