-- A link hands on a prefix, in each direction.
use Rattle.std.specs.Prelude.{◌≡◌, ℕ, ◌<◌, false, List, [], ◌++◌, length, Option}
use Rattle.std.specs.List.{AllByRecursion}
use Rattle.swap_base.specs.declared.Lender.{Lender}
use Rattle.swap_base.specs.declared.Link.{Link}
use Rattle.swap_wire.specs.declared.Msg.{Msg}
use Rattle.swap_wire.specs.declared.fabric.Gave.TheVariants as gave_is
use Rattle.swap_wire.specs.Fabric.{Parcel, FabricCall, Connect, Give}
use Rattle.swap_lender.specs.Table.{took_after}
use Rattle.swap_link.specs.Lane.{Lane}
use Rattle.swap_link.specs.Channel.{Channel, reply_of}
use Rattle.swap_link.specs.Harbor.{Harbor, channel_of, ask}
use Rattle.swap_prefix.specs.Calls.{Made, calls_made, lenders_after, connects, first_page, told_sent, lender_took, lender_sent, device_took}

-- messages that others begin with
pub record IsPrefix (taken sent : List Parcel) : Type 0 where
  pub rest : List Parcel
  pub is : sent ≡ taken ++ rest

-- no call of a list connects a lender
abbrev pub NoneConnects : Lender → List FabricCall → Type 0
NoneConnects l cs = AllByRecursion (λ c. connects l c ≡ false) cs

-- what the lender took is a prefix of what the device was told Sent for, and what the device took of what the lender
-- sent
pub record HandsOnAPrefix (l : Lender) (ms : List Made) : Type 0 where
  pub to_lender : IsPrefix (lender_took l ms) (told_sent l ms)
  pub to_device : IsPrefix (device_took l ms) (lender_sent l ms)

-- the lenders after a connect of one of them
abbrev pub harbor_after_connect : Harbor → Lender → Link → Harbor
harbor_after_connect h l n = (ask h (Connect l n)).1

-- whatever state the lenders are in, and whatever is called after a connect of one of them, until its next connect
abbrev pub LinksHandOnAPrefix : Type 0
LinksHandOnAPrefix =
    (h : Harbor) (l : Lender) (n : Link) (cs : List FabricCall) → l.0 < length h.channels → NoneConnects l cs
    → HandsOnAPrefix l (calls_made (harbor_after_connect h l n) cs)

-- What was sent is what was taken, then what is under way, then what was dropped. Nothing is dropped before the list
-- has ended.
pub record Carries (lane : Lane) (sent taken : List Parcel) : Type 0 where
  pub dropped : List Parcel
  pub in_three : sent ≡ taken ++ (lane.parcels ++ dropped)
  pub whole : lane.ended ≡ false → dropped ≡ []

pub record CarriesAll (ch : Channel) (l : Lender) (ms : List Made) : Type 0 where
  pub to_lender : Carries ch.to_lender (told_sent l ms) (lender_took l ms)
  pub to_device : Carries ch.to_device (lender_sent l ms) (device_took l ms)

-- so it is after each of the calls: nothing but the end of a list is lost
abbrev pub OnlyAnEndIsLost : Type 0
OnlyAnEndIsLost =
    (h : Harbor) (l : Lender) (n : Link) (cs : List FabricCall) → l.0 < length h.channels → NoneConnects l cs
    → CarriesAll (channel_of (lenders_after (harbor_after_connect h l n) cs) l) l
    (calls_made (harbor_after_connect h l n) cs)

-- a lender that answers a message made of it, with the page of the first under way, what its table says
pub record IsServed (ch now : Channel) (m : Msg) (said : Option Msg) (went : ℕ) : Type 0 where
  pub lender : now.lender ≡ (took_after ch.lender ch.number m (first_page ch.to_lender.parcels)).lender
  pub reply : said ≡ reply_of (took_after ch.lender ch.number m (first_page ch.to_lender.parcels)).parcels
  pub evicted : went ≡ (took_after ch.lender ch.number m (first_page ch.to_lender.parcels)).evicted

abbrev pub WhatIsTakenIsServed : Type 0
WhatIsTakenIsServed =
    (h : Harbor) (l : Lender) (m : Msg) (reply : Option Msg) (evicted : ℕ) → l.0 < length h.channels
    → (ask h (Give l)).0 ≡ gave_is.Got m reply evicted
    → IsServed (channel_of h l) (channel_of (ask h (Give l)).1 l) m reply evicted
