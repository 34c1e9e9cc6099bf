-- The oldest request of a link has what waits for its answer.
use Rattle.std.proofs.Common.{true, ◌≡◌, ℕ, ◌+◌, ◌<◌, List, ◌∷◌, refl, ap, ◌∙◌, subst, arith, Option, None, Some}
use Rattle.std.proofs.lemmas.Bool.{eq-eqb}
use Rattle.std.specs.List.{AllByRecursion}
use Rattle.swap_base.specs.declared.Page.{Page}
use Rattle.swap_base.specs.declared.Slab.{Slab}
use Rattle.swap_base.specs.declared.Lender.{Lender}
use Rattle.swap_base.specs.declared.Via.TheVariants as via
use Rattle.swap_base.specs.Sizes.{Sizes, pages_of, slab_of}
use Rattle.swap_calls.specs.Calls.{state_of, is_waiting}
use Rattle.swap_calls.specs.declared.Arrived.TheVariants as arrived
use Rattle.swap_calls.specs.declared.CallState.{CallState}
use Rattle.swap_calls.specs.declared.CallState.TheVariants.{Idle, Room, Reading}
use Rattle.swap_slabs.specs.Slabs.{flying_of}
use Rattle.swap_slabs.specs.declared.SlabState.{SlabState}
use Rattle.swap_slabs.specs.declared.SlabState.TheVariants.{Local, Asking, Borrowing, Mapped, Draining}
use Rattle.swap_rings.specs.Rings.{LinkState, ring_of, oldest}
use Rattle.swap_rings.specs.declared.Request.{Request}
use Rattle.swap_rings.specs.declared.Request.TheVariants as request
use Rattle.swap_remote.specs.Remote.{slab_for, state_for}
use Rattle.swap_table.specs.Device.{Device}
use Rattle.swap_table.specs.Serves.{Keeping, Owing, is_for_slab, flying_for, IsLeasedFrom, WaitsFrom, IsAwaited, SlabFits, Serves}
use Rattle.swap_base.proofs.Lists.{one_if}
use Rattle.swap_table.proofs.LinkTables.{flying-cons}
use Rattle.swap_table.proofs.SendsKeepServing.{slab_within}
use Rattle.swap_table.proofs.WaitsStay.{Front, front_of}
use Rattle.swap_device.specs.State.{IsServed}

waits_is : (l : Lender) (p : Page) (state : CallState) → WaitsFrom l p state → is_waiting state ≡ true
waits_is l p Idle w = absurd w
waits_is l p (Room q since) w = absurd w
waits_is l p (Reading q n via.Disk how newer since) w = absurd w
waits_is l p (Reading q n (via.Lender m) arrived.Waiting newer since) w = refl
waits_is l p (Reading q n (via.Lender m) arrived.Came newer since) w = absurd w
waits_is l p (Reading q n (via.Lender m) arrived.Failed newer since) w = absurd w
waits_is l p (Reading q n (via.Lender m) arrived.Lost newer since) w = absurd w

-- at least the oldest request flies for its page's slab, which is at the lender
flies :
    (s : Sizes) (links : List LinkState) (slab : Slab) (l : Lender) (x : Request) (rest : List Request) (state : SlabState) → SlabFits s links slab state
    → IsLeasedFrom l state → ring_of links l ≡ x ∷ rest → is_for_slab s slab x ≡ true → 0 < flying_of state
flies s links slab l x rest state fits leased ring here = go state fits leased
  where
    some : (m : Lender) (flying : ℕ) → flying ≡ flying_for s slab (ring_of links m) → m.0 ≡ l.0 → 0 < flying
    some m flying is same =
        let at : ring_of links m ≡ x ∷ rest = ap (λ n. ring_of links (record { 0 = n })) same ∙ ring in
        let all : flying ≡ one_if true + flying_for s slab rest =
        is ∙ ap (flying_for s slab) at ∙ flying-cons s slab x rest ∙ ap (λ b. one_if b + flying_for s slab rest) here in
        omega (arith, all)

    go : (state : SlabState) → SlabFits s links slab state → IsLeasedFrom l state → 0 < flying_of state
    go Local fits leased = absurd leased
    go (Asking pair) fits leased = absurd leased
    go (Borrowing m) fits leased = absurd leased
    go (Mapped m lease flying) fits leased = some m flying fits.1 leased
    go (Draining m lease flying) fits leased = some m flying fits.1 leased

flies_one :
    (keeps : Keeping) (owes : Owing) (n : ℕ) (d : Device) (l : Lender) (p : Page) (x : Request) (rest : List Request)
    → Serves keeps owes d.sizes n d.history d.calls d.remote → p.0 < pages_of d.sizes → IsLeasedFrom l (state_for d.sizes d.remote.slabs p)
    → ring_of d.remote.links l ≡ x ∷ rest
    → is_for_slab d.sizes (slab_for d.sizes p) x ≡ true → 0 < flying_of (state_for d.sizes d.remote.slabs p)
flies_one keeps owes n d l p x rest k within leased ring here =
    flies d.sizes d.remote.links (slab_for d.sizes p) l x rest (state_for d.sizes d.remote.slabs p)
    (k.slab (slab_for d.sizes p) (slab_within d.sizes p.0 within)) leased ring here

pub served :
    (keeps : Keeping) (owes : Owing) (n : ℕ) (d : Device) (l : Lender) → Serves keeps owes d.sizes n d.history d.calls d.remote
    → IsServed d l (oldest (ring_of d.remote.links l))
served keeps owes n d l k = go (oldest (ring_of d.remote.links l)) refl
  where
    awaited : (x : Request) (f : Front (ring_of d.remote.links l) x) → IsAwaited d.sizes d.history d.calls d.remote.slabs l x
    awaited x f =
        let all : AllByRecursion (IsAwaited d.sizes d.history d.calls d.remote.slabs l) (x ∷ f.rest) =
        subst (λ ys. AllByRecursion (IsAwaited d.sizes d.history d.calls d.remote.slabs l) ys) f.is (k.link l).awaited in
        all.0

    go : (o : Option Request) → oldest (ring_of d.remote.links l) ≡ o → IsServed d l o
    go None is = tt
    go (Some (request.Query slab)) is = awaited (request.Query slab) (front_of _ _ is)
    go (Some (request.Borrow slab)) is = awaited (request.Borrow slab) (front_of _ _ is)
    go (Some (request.Write p e)) is =
        let f = front_of (ring_of d.remote.links l) (request.Write p e) is in
        let a = awaited (request.Write p e) f in
        (a.0, flies_one keeps owes n d l p (request.Write p e) f.rest k a.0 a.1 f.is (eq-eqb (slab_of d.sizes p.0) (slab_of d.sizes p.0) refl))
    go (Some (request.Read c p)) is =
        let f = front_of (ring_of d.remote.links l) (request.Read c p) is in
        let a = awaited (request.Read c p) f in (
          a.0,
          a.1,
          flies_one keeps owes n d l p (request.Read c p) f.rest k a.1 a.2 f.is (eq-eqb (slab_of d.sizes p.0) (slab_of d.sizes p.0) refl),
          waits_is l p (state_of d.calls c) a.3,
        )
