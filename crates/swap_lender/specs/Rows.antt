-- Worked runs of a lender, computed: the messages that a list of calls leaves, in order.
use Rattle.std.specs.Prelude.{◌≡◌, ℕ, List, [], ◌∷◌, ◌++◌, map}
use Rattle.swap_base.specs.declared.Link.{Link}
use Rattle.swap_base.specs.declared.Slab.{Slab}
use Rattle.swap_base.specs.declared.Lease.{Lease}
use Rattle.swap_wire.specs.declared.Msg.{Msg}
use Rattle.swap_wire.specs.declared.Msg.TheVariants.{Hello, Query, Borrow, Write, Read, Rates, Done, Room, Lent, Refused, Wrote, PageIs, AskRates, Evict}
use Rattle.swap_wire.specs.Fabric.{Parcel}
use Rattle.swap_lender.specs.declared.Lending.{Lending}
use Rattle.swap_lender.specs.Lender.{Lender, lender_at_start}
use Rattle.swap_lender.specs.Calls.{Call, Arrive, Took, Host, step}

-- the messages of a list of calls, each with its page
abbrev pub parcels_sent : Lender → List Call → List Parcel
parcels_sent l [] = []
parcels_sent l (call ∷ calls) =
    map (λ (p : Link × Parcel). p.1) (step l call).parcels ++ parcels_sent (step l call).lender calls

-- pages of one byte, slabs of two pages, one link
abbrev pub small_lending : ℕ → ℕ → ℕ → Lending
small_lending slots headroom extra =
    record {
      spec = record { slots = slots; headroom = headroom; extra = extra };
      page_bytes = 1;
      pages_per_slab = 2;
      links = 1;
    }

abbrev pub link : Link
link = record { 0 = 0 }

abbrev pub slab : ℕ → Slab
slab n = record { 0 = n }

abbrev pub lease : ℕ → Lease
lease n = record { 0 = n }

abbrev pub plain_parcel : Msg → Parcel
plain_parcel m = record { msg = m; page = [] }

abbrev pub say : Msg → Call
say m = Took link m []

abbrev pub greet_calls : List Call
greet_calls = Arrive link ∷ say (Hello 1 1 2) ∷ []

-- a page that is written is read, and another place has zeros
abbrev pub PageIn : Type 0
PageIn =
    parcels_sent (lender_at_start (small_lending 1 0 0))
    (greet_calls ++ say (Borrow (slab 5)) ∷ Took link (Write (lease 0) 1) (7 ∷ []) ∷ say (Read (lease 0) 1)
    ∷ say (Read (lease 0) 0) ∷ [])
    ≡ plain_parcel (Lent (slab 5) (lease 0)) ∷ plain_parcel (Wrote (lease 0) 1) ∷ record
    { msg = PageIs (lease 0) 1; page = 7 ∷ [] }
    ∷ record { msg = PageIs (lease 0) 0; page = 0 ∷ [] } ∷ []

-- with four slots, one of headroom and a host that uses one, two are lent
abbrev pub LendsWithRoom : Type 0
LendsWithRoom =
    parcels_sent (lender_at_start (small_lending 4 1 0))
    (greet_calls ++ Host 1 0 ∷ say (Query (slab 0)) ∷ say (Borrow (slab 0)) ∷ say (Borrow (slab 1))
    ∷ say (Borrow (slab 2)) ∷ [])
    ≡ plain_parcel (Room (slab 0) 2) ∷ plain_parcel (Lent (slab 0) (lease 0)) ∷ plain_parcel (Lent (slab 1) (lease 1))
    ∷ plain_parcel (Refused (slab 2)) ∷ []

-- a slot is told to go, is served until it is given back, and is lent again with zeros
abbrev pub Revoked : Type 0
Revoked =
    parcels_sent (lender_at_start (small_lending 1 0 0))
    (greet_calls ++ say (Borrow (slab 5)) ∷ Took link (Write (lease 0) 1) (7 ∷ []) ∷ Host 1 0 ∷ say (Rates (lease 0) 9)
    ∷ say (Read (lease 0) 1) ∷ say (Done (lease 0)) ∷ say (Read (lease 0) 1) ∷ [])
    ≡ plain_parcel (Lent (slab 5) (lease 0)) ∷ plain_parcel (Wrote (lease 0) 1) ∷ plain_parcel (AskRates (lease 0)) ∷
    plain_parcel (Evict (lease 0))
    ∷ record { msg = PageIs (lease 0) 1; page = 7 ∷ [] } ∷ []
