-- Calls by hand, with what each end of the link sent and took.
use Rattle.std.specs.Prelude.{◌≡◌, ℕ, true, false, List, [], ◌∷◌, replicate, take as take_first, Some}
use Rattle.swap_base.specs.Sizes.{Sizes}
use Rattle.swap_base.specs.declared.Lender.{Lender}
use Rattle.swap_base.specs.declared.Slab.{Slab}
use Rattle.swap_base.specs.declared.Lease.{Lease}
use Rattle.swap_base.specs.declared.geometry.LenderSpec.{LenderSpec}
use Rattle.swap_wire.specs.declared.Msg.{Msg}
use Rattle.swap_wire.specs.declared.Msg.TheVariants as msg
use Rattle.swap_wire.specs.declared.fabric.Sent.TheVariants as sent_is
use Rattle.swap_wire.specs.declared.fabric.Gave.TheVariants as gave_is
use Rattle.swap_wire.specs.Fabric.{Parcel, parcel_of, LinkLost, FabricCall, Connect, Send, Take, End, Give, Cut, Crash, Host, FabricAnswer}
use Rattle.swap_lender.specs.declared.SlotState.TheVariants.{Held}
use Rattle.swap_lender.specs.declared.SlotState.{SlotState}
use Rattle.swap_link.specs.Channel.{Channel}
use Rattle.swap_link.specs.Harbor.{Harbor, new_channel, channel_of, with_channel, ask}
use Rattle.swap_prefix.specs.Laws.{harbor_after_connect}
use Rattle.swap_prefix.specs.Calls.{Made, calls_made, lenders_after, told_sent, lender_took, lender_sent, device_took}

-- two lenders of a slot each; a list between device and lender has room for three messages
abbrev sizes : Sizes
sizes = record { page_bytes = 8; pages_per_slab = 4; slabs = 2; queue = 4; callers = 2; window = 1; hot = 20 }

abbrev spec : LenderSpec
spec = record { slots = 1; headroom = 0; extra = 0 }

abbrev lenders : Harbor
lenders = record { sizes = sizes; channels = new_channel sizes spec ∷ new_channel sizes spec ∷ [] }

abbrev lender : Lender
lender = record { 0 = 0 }

abbrev other_lender : Lender
other_lender = record { 0 = 1 }

abbrev slab : Slab
slab = record { 0 = 0 }

abbrev lease : Lease
lease = record { 0 = 0 }

-- messages: without a page, and with one that has one byte throughout
abbrev plain_parcel : Msg → Parcel
plain_parcel m = parcel_of m []

abbrev page_parcel : Msg → ℕ → Parcel
page_parcel m byte = parcel_of m (replicate 8 byte)

abbrev hello : Parcel
hello = plain_parcel (msg.Hello 1 8 4)

abbrev query : Parcel
query = plain_parcel (msg.Query slab)

abbrev room : ℕ → Parcel
room free = plain_parcel (msg.Room slab free)

abbrev borrow : Parcel
borrow = plain_parcel (msg.Borrow slab)

abbrev lent_parcel : Parcel
lent_parcel = plain_parcel (msg.Lent slab lease)

abbrev write : ℕ → Parcel
write byte = page_parcel (msg.Write lease 3) byte

abbrev wrote_parcel : Parcel
wrote_parcel = plain_parcel (msg.Wrote lease 3)

abbrev read : Parcel
read = plain_parcel (msg.Read lease 3)

abbrev page_is : ℕ → Parcel
page_is byte = page_parcel (msg.PageIs lease 3) byte

abbrev rates : Parcel
rates = plain_parcel (msg.Rates lease 7)

abbrev ask_rates : Parcel
ask_rates = plain_parcel (msg.AskRates lease)

abbrev evict : Parcel
evict = plain_parcel (msg.Evict lease)

-- calls of the first lender
abbrev send : Parcel → FabricCall
send p = Send lender p

abbrev take : FabricCall
take = Take lender

abbrev give : FabricCall
give = Give lender

abbrev cut : ℕ → ℕ → FabricCall
cut a b = Cut lender a b

-- what was told Sent and what of it the lender took, what the lender sent and what of it the device took
pub record Seen : Type 0 where
  pub told : List Parcel
  pub served : List Parcel
  pub sent : List Parcel
  pub taken : List Parcel

abbrev seen : Harbor → List FabricCall → Seen
seen h cs =
    let ms : List Made = calls_made h cs in
    record {
      told = told_sent lender ms;
      served = lender_took lender ms;
      sent = lender_sent lender ms;
      taken = device_took lender ms;
    }

-- the lenders after a first connect, and what is seen from it on
abbrev connected_lenders : Harbor
connected_lenders = harbor_after_connect lenders lender (record { 0 = 0 })

abbrev from_a_connect : List FabricCall → List Parcel → List Parcel → List Parcel → List Parcel → Type 0
from_a_connect cs told served sent taken =
    seen connected_lenders cs ≡ record { told = told; served = served; sent = sent; taken = taken }

-- what a call answers behind others
abbrev answers : List FabricCall → (c : FabricCall) → FabricAnswer c
answers cs c = (ask (lenders_after connected_lenders cs) c).0

-- requests and their replies are taken in order, with their pages; calls of another lender change nothing of it
abbrev in_order : List FabricCall
in_order =
    send hello ∷ give ∷ send borrow ∷ Connect other_lender (record { 0 = 1 }) ∷ Send other_lender query ∷ give ∷ Crash
    other_lender
    ∷ take ∷ send (write 170) ∷ send read ∷ give ∷ take ∷ give ∷ take ∷ []

abbrev pub InOrder : Type 0
InOrder =
    let requests : List Parcel = hello ∷ borrow ∷ write 170 ∷ read ∷ [] in
    let replies : List Parcel = lent_parcel ∷ wrote_parcel ∷ page_is 170 ∷ [] in
    from_a_connect in_order requests requests replies replies

-- what the lender asks by its host, and tells by a round, goes on the link behind its replies
abbrev ask_calls : List FabricCall
ask_calls = send hello ∷ send borrow ∷ give ∷ give ∷ Host lender 4 5 ∷ send rates ∷ give ∷ take ∷ take ∷ []

abbrev pub AsksAndTells : Type 0
AsksAndTells =
    let said : List Parcel = hello ∷ borrow ∷ rates ∷ [] in
    from_a_connect ask_calls said said (lent_parcel ∷ ask_rates ∷ evict ∷ []) (lent_parcel ∷ ask_rates ∷ [])

-- of what is under way a cut keeps the first messages; a second one changes nothing, and says so; what is sent from
-- then on is told Sent, and dropped
abbrev cut_off : List FabricCall
cut_off = send hello ∷ send borrow ∷ send query ∷ cut 2 0 ∷ cut 3 0 ∷ send read ∷ give ∷ give ∷ give ∷ []

abbrev pub CutChangesNothing : Type 0
CutChangesNothing =
    from_a_connect cut_off (hello ∷ borrow ∷ query ∷ read ∷ []) (hello ∷ borrow ∷ []) (lent_parcel ∷ []) []
    × (answers (send hello ∷ send borrow ∷ send query ∷ []) (cut 2 0) ≡ true)
    × (answers (send hello ∷ send borrow ∷ send query ∷ cut 2 0 ∷ []) (cut 3 0) ≡ false)

-- a reply that was served and is under way is cut off: the device takes the ones before it, and finds the link lost
abbrev drop_calls : List FabricCall
drop_calls = send hello ∷ send query ∷ send borrow ∷ give ∷ give ∷ give ∷ cut 0 1 ∷ take ∷ take ∷ take ∷ []

abbrev pub CutDropsAReply : Type 0
CutDropsAReply =
    let said : List Parcel = hello ∷ query ∷ borrow ∷ [] in
    from_a_connect drop_calls said said (room 1 ∷ lent_parcel ∷ []) (room 1 ∷ [])
    × (answers (send hello ∷ send query ∷ send borrow ∷ give ∷ give ∷ give ∷ cut 0 1 ∷ take ∷ []) take ≡ LinkLost)

-- a list that is full ends: the message that found no room and all that are sent behind it are dropped, though there
-- is room again
abbrev fill_calls : List FabricCall
fill_calls = send hello ∷ send query ∷ send query ∷ send borrow ∷ give ∷ send query ∷ give ∷ give ∷ give ∷ []

abbrev pub FullListEnds : Type 0
FullListEnds =
    let said : List Parcel = hello ∷ query ∷ query ∷ borrow ∷ query ∷ [] in
    from_a_connect fill_calls said (hello ∷ query ∷ query ∷ []) (room 1 ∷ room 1 ∷ []) []
    × (answers (take_first 8 fill_calls) give ≡ gave_is.End)

-- a crash leaves what is under way to the device, and so does a second one; what is sent behind it is told Sent, and
-- not served
abbrev crashed_twice : List FabricCall
crashed_twice =
    send hello ∷ send query ∷ send borrow ∷ give ∷ give ∷ Crash lender ∷ send query ∷ Crash lender ∷ give ∷ take ∷ take
    ∷ []

abbrev pub CrashTwice : Type 0
CrashTwice =
    from_a_connect crashed_twice (hello ∷ query ∷ borrow ∷ query ∷ []) (hello ∷ query ∷ []) (room 1 ∷ []) (room 1 ∷ [])
    × (answers (Crash lender ∷ []) (Crash lender) ≡ true)

-- a connect over a standing link: nothing of the old one is taken from the new one, in either direction
abbrev old_link : List FabricCall
old_link = send hello ∷ send query ∷ send borrow ∷ give ∷ give ∷ []

abbrev pub ConnectOverALink : Type 0
ConnectOverALink =
    seen (harbor_after_connect (lenders_after connected_lenders old_link) lender (record { 0 = 1 }))
    (take ∷ give ∷ send hello ∷ give ∷ take ∷ [])
    ≡ record { told = hello ∷ []; served = hello ∷ []; sent = []; taken = [] }

-- a message for a link that is gone: the device that ended it is told Down, and a lender's for an older link is dropped
abbrev older_lenders : Harbor
older_lenders =
    let ch : Channel = channel_of connected_lenders lender in
    let slots : List SlotState = Held (record { 0 = 7 }) slab lease false ∷ [] in
    with_channel connected_lenders lender (record ch { lender = record ch.lender { slots = slots } })

abbrev pub ForALinkThatIsGone : Type 0
ForALinkThatIsGone =
    from_a_connect (send hello ∷ End lender ∷ send query ∷ give ∷ give ∷ take ∷ []) (hello ∷ []) (hello ∷ []) [] []
    × (answers (End lender ∷ []) (send query) ≡ sent_is.Down)
    × ((ask older_lenders (Host lender 4 5)).0 ≡ Some (record { mean = 1; asked = 1 }))
    × (seen older_lenders (Host lender 4 5 ∷ take ∷ []) ≡ record { told = []; served = []; sent = []; taken = [] })
