-- A lender with its present link: what each call does to them.
use Rattle.std.specs.Prelude.{ℕ, Bool, true, false, ◌&&◌, not, ◌==◌, if◌then◌else◌, List, [], ◌∷◌, Option, None, Some}
use Rattle.swap_base.specs.Sizes.{Sizes}
use Rattle.swap_base.specs.declared.Link.{Link}
use Rattle.swap_wire.specs.declared.Msg.{Msg}
use Rattle.swap_wire.specs.declared.Msg.TheVariants as msg
use Rattle.swap_wire.specs.declared.fabric.Sent.{Sent}
use Rattle.swap_wire.specs.declared.fabric.Sent.TheVariants as sent_is
use Rattle.swap_wire.specs.declared.fabric.Gave.{Gave}
use Rattle.swap_wire.specs.declared.fabric.Gave.TheVariants as gave_is
use Rattle.swap_wire.specs.Fabric.{Parcel, parcel_of, Handed, Brought, NothingCame, LinkLost, FabricCall, Connect, Send, Take, End, Give, Cut, Crash, Host, FabricAnswer}
use Rattle.swap_lender.specs.Lender.{Lender}
use Rattle.swap_lender.specs.Table.{Turn, took_after, may_send, host, host_result, gone_after, arrive, restart}
use Rattle.swap_link.specs.Lane.{Lane, empty_lane, append_after, end_lane, cut, is_cut}

-- the sizes of the device, the lender, the number of the link, both its lanes, and for each end whether it is gone
-- before the first connect it is as after both ends left a link: nothing is under way, and nothing is appended
pub record Channel : Type 0 where
  pub sizes : Sizes
  pub lender : Lender
  pub number : Link
  pub to_lender : Lane
  pub to_device : Lane
  pub device_gone : Bool
  pub lender_gone : Bool

abbrev pub channel_in : Sizes → Lender → Link → Lane → Lane → Bool → Bool → Channel
channel_in sizes lender number to_lender to_device device_gone lender_gone =
    record {
      sizes = sizes;
      lender = lender;
      number = number;
      to_lender = to_lender;
      to_device = to_device;
      device_gone = device_gone;
      lender_gone = lender_gone;
    }

abbrev pub channel_at_start : Sizes → Lender → ℕ → Channel
channel_at_start sizes lender room =
    channel_in sizes lender (record { 0 = 0 }) (empty_lane true room sizes.page_bytes)
    (empty_lane true room sizes.page_bytes) true true

-- connect: a link whose lender's end stands is gone for its lender; the new one has its number, and nothing is under
-- way
abbrev pub let_go : Channel → Lender
let_go c = if c.lender_gone then c.lender else (gone_after c.lender c.number).lender

abbrev pub open_lane : Lane → Lane
open_lane l = empty_lane false l.room l.page_bytes

abbrev pub connect_after : Channel → Link → Channel
connect_after c n =
    channel_in c.sizes (arrive (let_go c) n) n (open_lane c.to_lender) (open_lane c.to_device) false false

-- send: down where the device's end is gone
abbrev pub send_after : Channel → Parcel → Sent × Channel
send_after c p =
    if c.device_gone then (sent_is.Down, c)
    else (sent_is.Sent, record c { to_lender = append_after c.to_lender p })

-- take: the first message; where there is none and the lane has ended, the link is lost
abbrev pub taken_from : Channel → List Parcel → Handed × Channel
taken_from c (p ∷ ps) = (Brought p, record c { to_device = record c.to_device { parcels = ps } })
taken_from c [] =
    if c.to_device.ended then (LinkLost, record c { to_lender = end_lane c.to_lender; device_gone = true })
    else (NothingCame, c)

abbrev pub take_after : Channel → Handed × Channel
take_after c = if c.device_gone then (NothingCame, c) else taken_from c c.to_device.parcels

-- end: the device's end is gone, and so is what was under way to it
abbrev pub end_after : Channel → Channel
end_after c = record c { to_lender = end_lane c.to_lender; to_device = cut c.to_device 0; device_gone = true }

-- what a lender sends goes on the link that it names; where that isn't the present one it is dropped
abbrev pub post_after : Link → Lane → Link → Parcel → Lane
post_after n l link p = if link.0 == n.0 then append_after l p else l

abbrev pub forward_after : Link → Lane → List (Link × Parcel) → Lane
forward_after n l [] = l
forward_after n l (p ∷ ps) = forward_after n (post_after n l p.0 (parcel_of p.1.msg p.1.page)) ps

abbrev pub deliver_after : Channel → Turn → Channel
deliver_after c turn = record c { lender = turn.lender; to_device = forward_after c.number c.to_device turn.parcels }

-- the reply to a message is what the lender sends first, but for what tells a slot to go
abbrev pub is_evict : Msg → Bool
is_evict (msg.Evict lease) = true
is_evict _ = false

abbrev pub reply_of : List (Link × Parcel) → Option Msg
reply_of [] = None
reply_of (p ∷ ps) = if is_evict p.1.msg then None else Some p.1.msg

-- the lender's end leaves: its slots are free, and what was under way to it is gone
abbrev pub leave_after : Channel → Channel
leave_after c =
    record c {
      lender = (gone_after c.lender c.number).lender;
      to_lender = cut c.to_lender 0;
      to_device = end_lane c.to_device;
      lender_gone = true;
    }

-- give: the lender takes the first message and answers, or ends the link where it may not be sent; where there is none
-- and the lane has ended, the lender's end leaves
abbrev pub serve_after : Channel → Parcel → Gave × Channel
serve_after c p =
    if may_send c.lender c.number p.msg
    then (
      gave_is.Got p.msg (reply_of (took_after c.lender c.number p.msg p.page).parcels)
          (took_after c.lender c.number p.msg p.page).evicted,
      deliver_after c (took_after c.lender c.number p.msg p.page),
    )
    else (gave_is.Ended p.msg, leave_after c)

abbrev pub given_from : Channel → List Parcel → Gave × Channel
given_from c (p ∷ ps) = serve_after (record c { to_lender = record c.to_lender { parcels = ps } }) p
given_from c [] = if c.to_lender.ended then (gave_is.End, leave_after c) else (gave_is.Nothing, c)

abbrev pub give_after : Channel → Gave × Channel
give_after c = if c.lender_gone then (gave_is.Nothing, c) else given_from c c.to_lender.parcels

-- cut: both lanes end and keep their first messages; false where that changes nothing
abbrev pub cut_after : Channel → ℕ → ℕ → Bool × Channel
cut_after c to_lender to_device = (
  not (is_cut c.to_lender to_lender && is_cut c.to_device to_device),
  record c { to_lender = cut c.to_lender to_lender; to_device = cut c.to_device to_device },
)

-- crash: the lender starts anew, and its end leaves
abbrev pub crash_after : Channel → Channel
crash_after c =
    if c.lender_gone then record c { lender = restart c.lender }
    else record c
    { lender = restart c.lender; to_lender = cut c.to_lender 0; to_device = end_lane c.to_device; lender_gone = true }

-- what a call of a channel answers, and the channel after it
abbrev pub on_channel : Channel → (c : FabricCall) → FabricAnswer c × Channel
on_channel ch (Connect lender link) = (tt, connect_after ch link)
on_channel ch (Send lender parcel) = send_after ch parcel
on_channel ch (Take lender) = take_after ch
on_channel ch (End lender) = (tt, end_after ch)
on_channel ch (Give lender) = give_after ch
on_channel ch (Cut lender to_lender to_device) = cut_after ch to_lender to_device
on_channel ch (Crash lender) = (true, crash_after ch)
on_channel ch (Host lender used word) =
    (Some (host_result ch.lender used word), deliver_after ch (host ch.lender used word))
