-- A message that comes from a lender in memory is understood.
use Rattle.std.proofs.Common.{◌≡◌, ℕ, ◌<◌, Bool, true, false, cond, ◌==◌, ◌||◌, is_none, List, ◌∷◌, position, option_map, refl, sym, ap, ◌∙◌, subst, eq-eqb, Option, None, Some}
use Rattle.std.proofs.lemmas.Bool.{cond-true, both_ways, and_from}
use Rattle.std.proofs.lemmas.List.Quantifiers.{position-Some}
use Rattle.swap_base.specs.declared.Page.{Page}
use Rattle.swap_base.specs.declared.EntryNo.{EntryNo}
use Rattle.swap_base.specs.declared.Slab.{Slab}
use Rattle.swap_base.specs.declared.Lender.{Lender}
use Rattle.swap_base.specs.declared.Lease.{Lease}
use Rattle.swap_base.specs.declared.Link.{Link}
use Rattle.swap_base.specs.Sizes.{place_of}
use Rattle.swap_disk.specs.Port.{DiskCall, DiskAnswer}
use Rattle.swap_wire.specs.declared.Msg.{Msg}
use Rattle.swap_wire.specs.declared.Msg.TheVariants as msg
use Rattle.swap_wire.specs.declared.Event.{Event}
use Rattle.swap_wire.specs.declared.Event.TheVariants as event
use Rattle.swap_wire.specs.declared.Seen.{Seen}
use Rattle.swap_wire.specs.declared.fabric.Gave.{Gave}
use Rattle.swap_wire.specs.declared.fabric.Gave.TheVariants as gave
use Rattle.swap_wire.specs.declared.fabric.Hosted.{Hosted}
use Rattle.swap_wire.specs.Fabric.{Parcel, Handed, Brought, NothingCame, LinkLost, Take, Give, lends}
use Rattle.swap_calls.specs.Calls.{state_of, is_idle}
use Rattle.swap_slabs.specs.Slabs as slabs
use Rattle.swap_slabs.specs.Slabs.{has_lease}
use Rattle.swap_slabs.specs.declared.SlabState.{SlabState}
use Rattle.swap_slabs.specs.declared.SlabState.TheVariants.{Local, Mapped}
use Rattle.swap_rings.specs.Rings.{is_up, ring_of, oldest}
use Rattle.swap_rings.specs.declared.Request.{Request}
use Rattle.swap_rings.specs.declared.Request.TheVariants.{Query, Borrow, Write, Read}
use Rattle.swap_remote.specs.Remote as remote
use Rattle.swap_remote.specs.Remote.{state_for}
use Rattle.swap_table.specs.declared.OutStep.{OutStep}
use Rattle.swap_table.specs.declared.InStep.{InStep}
use Rattle.swap_table.specs.declared.Step.{Step}
use Rattle.swap_table.specs.declared.DiskStep.{DiskStep}
use Rattle.swap_table.specs.declared.LinkStep.{LinkStep}
use Rattle.swap_table.specs.declared.LinkStep.TheVariants as link
use Rattle.swap_table.specs.declared.OutStep.TheVariants as outs
use Rattle.swap_table.specs.declared.InStep.TheVariants as ins
use Rattle.swap_table.specs.declared.Step.TheVariants as steps
use Rattle.swap_table.specs.declared.DiskStep.TheVariants as ends
use Rattle.swap_table.specs.declared.Placed.{Placed}
use Rattle.swap_table.specs.Ports.{Prog, Ret, AskDisk, AskFabric, answering, Along}
use Rattle.swap_table.specs.Device as device
use Rattle.swap_table.specs.Device.{Device, Heard, heard_parcel, query_reply, borrow_reply, write_reply, read_reply}
use Rattle.swap_table.specs.Happens.{happens, see_out, see_in, see_step, see_start, see_disk, see_tick, see_map, see_link, see_gave, see_cut, see_crash, see_host, see_take, taken_if}
use Rattle.swap_table.specs.Serves.{AreSingle}
use Rattle.swap_table.proofs.LeasesStayDistinct.{only_slab, unleased}
use Rattle.swap_table.proofs.RequestsKeepServing.{has_own}
use Rattle.swap_link.specs.Channel.{Channel}
use Rattle.swap_link.specs.Harbor as harbor
use Rattle.swap_link.specs.Harbor.{Harbor, channel_of}
use Rattle.swap_joint.specs.Order.{is_reply, IsRoomFor, IsReplyFor, Names, Answers}
use Rattle.swap_joint.specs.Stored.{lends_in, Joined, AllJoined}
use Rattle.swap_joint.specs.Turn.{IsMappedAt, MayCome, InTurn, Turned, AllTurned}
use Rattle.swap_joint.specs.Lies.{is_lied, is_ended}
use Rattle.swap_joint.proofs.Hears.{lends_reply, taken_front}
use Rattle.swap_joint.proofs.Joins.{ServesAt}
use Rattle.swap_joint.proofs.Takes.{FrontIs, taken_brings}

-- the slab that is mapped by a lease is found
mapped_found :
    (states : List SlabState) (l : Lender) (k : Lease) → AreSingle states → IsMappedAt states l k → (t : Slab) × (remote.mapped_by states l k ≡ Some t)
mapped_found states l k single (t, f, is) = go (position (λ state. has_lease l k state) states) refl
  where
    here : has_lease l k (slabs.state_of states t) ≡ true
    here = ap (has_lease l k) is ∙ has_own l k f

    go :
        (o : Option ℕ) → position (λ state. has_lease l k state) states ≡ o
        → (t : Slab) × (remote.only_mapped states (option_map {U = Slab} (λ (i : ℕ). record { 0 = i }) o) ≡ Some t)
    go None at =
        absurd
        (both_ways (has_lease l k (slabs.state_of states t))
        (unleased states l k t (ap (λ (o : Option ℕ). option_map {U = Slab} (λ (i : ℕ). record { 0 = i }) o) at)) here)
    go (Some i) at =
        let there = position-Some (λ state. has_lease l k state) states i Local at in
        let same : i ≡ t.0 = only_slab states l k t (record { 0 = i }) single here there.1 in
        let state : slabs.state_of states (record { 0 = i }) ≡ Mapped l k f = ap (λ n. slabs.state_of states (record { 0 = n })) same ∙ is in
        (record { 0 = i }, cond-true (slabs.is_mapped (slabs.state_of states (record { 0 = i }))) (Some (record { 0 = i })) None (ap slabs.is_mapped state))

-- no slab has a lease that none has
unleased_found :
    (states : List SlabState) (l : Lender) (k : Lease) → ((t : Slab) → has_lease l k (slabs.state_of states t) ≡ false) → slabs.by_lease states l k ≡ None
unleased_found states l k none = go (position (λ state. has_lease l k state) states) refl
  where
    go : (o : Option ℕ) → position (λ state. has_lease l k state) states ≡ o → option_map {U = Slab} (λ (i : ℕ). record { 0 = i }) o ≡ None
    go None at = refl
    go (Some i) at =
        absurd
        (both_ways (has_lease l k (slabs.state_of states (record { 0 = i }))) (none (record { 0 = i }))
        (position-Some (λ state. has_lease l k state) states i Local at).1)

-- a message that is understood
abbrev pub IsHeard : Option Heard → Type 0
IsHeard o = (x : Heard) × (o ≡ Some x)

abbrev IsNew : Device → Lender → Msg → Type 0
IsNew d l m = (k : Lease) → lends k m ≡ true → (t : Slab) → has_lease l k (slabs.state_of d.remote.slabs t) ≡ false

answers_heard :
    (d : Device) (l : Lender) (q : Parcel) (x : Request) → Answers d.sizes d.remote.slabs l q x → IsNew d l q.msg → IsHeard (device.heard_answer d l q (Some x))
answers_heard d l q (Query t) answers new = go (query_reply q.msg) answers
  where
    go : (o : Option (Slab × ℕ)) → IsRoomFor t o → IsHeard (device.query_answered d l t o)
    go None h = absurd h
    go (Some told) h = (_, cond-true (told.0.0 == t.0) _ None (eq-eqb told.0.0 t.0 h))
answers_heard d l q (Borrow t) answers new = go (borrow_reply q.msg) refl answers
  where
    go : (o : Option (Slab × Option Lease)) → borrow_reply q.msg ≡ o → IsReplyFor t o → IsHeard (device.borrow_answered d l t o)
    go None is h = absurd h
    go (Some (u, None)) is h = (_, cond-true (u.0 == t.0) _ None (eq-eqb u.0 t.0 h))
    go (Some (u, Some k)) is h =
        let free : slabs.by_lease d.remote.slabs l k ≡ None = unleased_found d.remote.slabs l k (new k (lends_reply q.msg u k k is ∙ eq-eqb k.0 k.0 refl)) in (
          _,
          cond-true (u.0 == t.0) _ None (eq-eqb u.0 t.0 h)
              ∙ cond-true (is_none (slabs.by_lease d.remote.slabs l k)) _ None (ap (λ (o : Option Slab). is_none o) free),
        )
answers_heard d l q (Write p e) answers new = go (write_reply q.msg) answers
  where
    go : (o : Option (Lease × ℕ)) → Names d.sizes d.remote.slabs l p o → IsHeard (device.write_answered d l p e o)
    go None h = absurd h
    go (Some at) h = (
      _,
      cond-true (remote.names_page d.sizes d.remote l p at.0 at.1) _ None
          (and_from (has_lease l at.0 (state_for d.sizes d.remote.slabs p)) (place_of d.sizes p.0 == at.1) h.0 (eq-eqb (place_of d.sizes p.0) at.1 h.1)),
    )
answers_heard d l q (Read c p) answers new = go (read_reply q.msg) answers
  where
    go : (o : Option (Lease × ℕ)) → Names d.sizes d.remote.slabs l p o → IsHeard (device.read_answered d l c p q.page o)
    go None h = absurd h
    go (Some at) h = (
      _,
      cond-true (remote.names_page d.sizes d.remote l p at.0 at.1) _ None
          (and_from (has_lease l at.0 (state_for d.sizes d.remote.slabs p)) (place_of d.sizes p.0 == at.1) h.0 (eq-eqb (place_of d.sizes p.0) at.1 h.1)),
    )

-- the front of what is under way to a device
module _ (d : Device) (l : Lender) (c : Channel) (q : Parcel) (qs : List Parcel) (joined : Joined d l c) (turned : Turned d.remote.slabs l c)
    (single : AreSingle d.remote.slabs) (front : c.to_device.parcels ≡ q ∷ qs) where
  new : IsNew d l q.msg
  new k e t = joined.loans.fresh k t (ap (lends_in k) front ∙ ap (λ b. b || lends_in k qs) e)

  reply_heard : is_reply q.msg ≡ true → IsHeard (device.heard_answer d l q (oldest (ring_of d.remote.links l)))
  reply_heard is =
      let t = taken_front d.sizes d.history d.calls d.remote.slabs d.remote.bits (ring_of d.remote.links l) l c q qs front is joined in
      subst (λ (o : Option Request). IsHeard (device.heard_answer d l q o)) (sym (ap oldest t.ring_is)) (answers_heard d l q t.one t.answers.0 new)

  pub front_heard : IsHeard (heard_parcel d l q (oldest (ring_of d.remote.links l)))
  front_heard = go q.msg refl (subst (λ ps. InTurn (λ k. IsMappedAt d.remote.slabs l k) ps) front turned.turn).0
    where
      by_msg :
          (m : Msg) → q.msg ≡ m → IsHeard (device.heard_by d l q (oldest (ring_of d.remote.links l)) (device.rate_asked m) (device.taken_back m))
          → IsHeard (heard_parcel d l q (oldest (ring_of d.remote.links l)))
      by_msg m is h =
          let P : Msg → Type 0 = λ m. IsHeard (device.heard_by d l q (oldest (ring_of d.remote.links l)) (device.rate_asked m) (device.taken_back m)) in
          subst P (sym is) h

      is_reply_of : (m : Msg) → q.msg ≡ m → is_reply m ≡ true → is_reply q.msg ≡ true
      is_reply_of m is e = ap is_reply is ∙ e

      go : (m : Msg) → q.msg ≡ m → MayCome (λ k. IsMappedAt d.remote.slabs l k) q.msg → IsHeard (heard_parcel d l q (oldest (ring_of d.remote.links l)))
      go (msg.Room slab free) is may = by_msg (msg.Room slab free) is (reply_heard (is_reply_of (msg.Room slab free) is refl))
      go (msg.Lent slab lease) is may = by_msg (msg.Lent slab lease) is (reply_heard (is_reply_of (msg.Lent slab lease) is refl))
      go (msg.Refused slab) is may = by_msg (msg.Refused slab) is (reply_heard (is_reply_of (msg.Refused slab) is refl))
      go (msg.Wrote lease place) is may = by_msg (msg.Wrote lease place) is (reply_heard (is_reply_of (msg.Wrote lease place) is refl))
      go (msg.PageIs lease place) is may = by_msg (msg.PageIs lease place) is (reply_heard (is_reply_of (msg.PageIs lease place) is refl))
      go (msg.AskRates lease) is may =
          let P : Msg → Type 0 = λ m. MayCome (λ k. IsMappedAt d.remote.slabs l k) m in
          let found = mapped_found d.remote.slabs l lease single (subst P is may) in
          by_msg (msg.AskRates lease) is (_, ap (device.rate_told d lease) found.1)
      go (msg.Evict lease) is may =
          let P : Msg → Type 0 = λ m. MayCome (λ k. IsMappedAt d.remote.slabs l k) m in
          let found = mapped_found d.remote.slabs l lease single (subst P is may) in
          by_msg (msg.Evict lease) is (_, ap (device.heard_evict d) found.1)
      go _ is may = absurd (let P : Msg → Type 0 = λ m. MayCome (λ k. IsMappedAt d.remote.slabs l k) m in let no : ⊥ = subst P is may in no)

-- what is seen of an event is no lie, and ends no link
abbrev pub is_unfair : Seen → Bool
is_unfair s = is_lied s || is_ended s

abbrev pub ends_it : Gave → Bool
ends_it (gave.Ended msg) = true
ends_it _ = false

module _ {D : Type 0} (disk_moves : D → (c : DiskCall) → DiskAnswer c → D → Type 0) where
  answered_by :
      {A B : Type 0} (f : A → B) (p : Prog A) (k k' : D) (h h' : Harbor) (b : B) → Along disk_moves harbor.Moves (answering f p) k h k' h' b
      → (a : A) × (b ≡ f a)
  answered_by f (Ret a) k k' h h' b along = (a, along.2)
  answered_by f (AskDisk c next) k k' h h' b along = answered_by f (next along.0) along.1 k' h h' b along.3
  answered_by f (AskFabric c next) k k' h h' b along = answered_by f (next along.0) k k' along.1 h' b along.3

  answered_twice :
      {A B C : Type 0} (f : A → B) (g : B → C) (p : Prog A) (k k' : D) (h h' : Harbor) (x : C)
      → Along disk_moves harbor.Moves (answering g (answering f p)) k h k' h' x → (a : A) × (x ≡ g (f a))
  answered_twice f g (Ret a) k k' h h' x along = (a, along.2)
  answered_twice f g (AskDisk c next) k k' h h' x along = answered_twice f g (next along.0) along.1 k' h h' x along.3
  answered_twice f g (AskFabric c next) k k' h h' x along = answered_twice f g (next along.0) k k' along.1 h' x along.3

  honest_by :
      {R : Type 0} (see : R → Seen) (p : Prog (Device × R)) (d' : Device) (k k' : D) (h h' : Harbor) (s : Seen) → ((r : R) → is_unfair (see r) ≡ false)
      → Along disk_moves harbor.Moves {A = Device × Seen} (answering (λ (r : Device × R). (r.0, see r.1)) p) k h k' h' (d', s) → is_unfair s ≡ false
  honest_by see p d' k k' h h' s each along =
      let was = answered_by (λ r. (r.0, see r.1)) p k k' h h' (d', s) along in ap (λ (x : Device × Seen). is_unfair x.1) was.1 ∙ each was.0.1

  took_honest :
      (d d' : Device) (k k' : D) (h mid h' : Harbor) (l : Lender) (r : Handed) (s : Seen)
      → ((q : Parcel) → r ≡ Brought q → IsHeard (heard_parcel d l q (oldest (ring_of d.remote.links l))))
      → Along disk_moves harbor.Moves {A = Device × Seen} (answering (λ (r : Device × LinkStep). (r.0, see_take r.1)) (device.took_from d l r)) k mid k' h'
      (d', s)
      → is_unfair s ≡ false
  took_honest d d' k k' h mid h' l NothingCame s each along = ap (λ (x : Device × Seen). is_unfair x.1) along.2
  took_honest d d' k k' h mid h' l LinkLost s each along =
      let twice = answered_twice (device.with_step link.Lost) (λ (r : Device × LinkStep). (r.0, see_take r.1)) (device.lose d l) k k' mid h' (d', s) along in
      ap (λ (x : Device × Seen). is_unfair x.1) twice.1
  took_honest d d' k k' h mid h' l (Brought q) s each along =
      let x = each q refl in
      let P : Option Heard → Type 0 =
      λ o.
      Along disk_moves harbor.Moves {A = Device × Seen}
      (answering (λ (r : Device × LinkStep). (r.0, see_take r.1)) (device.understand d l q.msg o)) k mid k' h' (d', s) in
      let twice =
      answered_twice (device.with_step (link.Got q.msg)) (λ (r : Device × LinkStep). (r.0, see_take r.1)) (device.follow x.0 l) k k' mid h' (d', s)
      (subst P x.1 along) in
      ap (λ (x : Device × Seen). is_unfair x.1) twice.1

  link_honest :
      (d d' : Device) (k k' : D) (h h' : Harbor) (l : Lender) (s : Seen)
      → ((q : Parcel) (g : Harbor) → is_up d.remote.links l ≡ true → harbor.Moves h (Take l) (Brought q) g
      → IsHeard (heard_parcel d l q (oldest (ring_of d.remote.links l))))
      → Along disk_moves harbor.Moves {A = Device × Seen} (answering (λ (r : Device × LinkStep). (r.0, see_take r.1)) (device.link_take d l)) k h k' h' (d', s)
      → is_unfair s ≡ false
  link_honest d d' k k' h h' l s each = go (is_up d.remote.links l) refl
    where
      go :
          (b : Bool) → is_up d.remote.links l ≡ b
          → Along disk_moves harbor.Moves {A = Device × Seen}
          (answering (λ (r : Device × LinkStep). (r.0, see_take r.1)) (cond b (AskFabric (Take l) (device.took_from d l)) (Ret (d, link.Nothing)))) k h k' h'
          (d', s)
          → is_unfair s ≡ false
      go false down along = ap (λ (x : Device × Seen). is_unfair x.1) along.2
      go true up along =
          took_honest d d' k k' h along.1 h' l along.0 s
          (λ q is. each q along.1 up (subst (λ (r : Handed). harbor.Moves h (Take l) r along.1) is along.2)) along.3

  -- of each kind of event
  see_out_honest : (r : OutStep) → is_unfair (see_out r) ≡ false
  see_out_honest (outs.Done entry sent) = refl
  see_out_honest outs.Room = refl

  see_in_honest : (r : InStep) → is_unfair (see_in r) ≡ false
  see_in_honest (ins.Done entry) = refl
  see_in_honest (ins.Wait via) = refl

  see_step_honest : (r : Step) → is_unfair (see_step r) ≡ false
  see_step_honest (steps.Done entry sent) = refl
  see_step_honest steps.Room = refl
  see_step_honest (steps.Wait via) = refl
  see_step_honest (steps.Again via) = refl
  see_step_honest (steps.Fault entry since at) = refl

  see_start_honest : (r : Option (Page × EntryNo)) → is_unfair (see_start r) ≡ false
  see_start_honest None = refl
  see_start_honest (Some (page, entry)) = refl

  see_disk_honest : (r : DiskStep) → is_unfair (see_disk r) ≡ false
  see_disk_honest ends.Nothing = refl
  see_disk_honest (ends.Written page entry) = refl
  see_disk_honest (ends.Kept page entry) = refl
  see_disk_honest (ends.Dropped page entry) = refl
  see_disk_honest (ends.Came caller page) = refl
  see_disk_honest (ends.Failed caller page) = refl

  see_tick_honest : (r : Option Placed) → is_unfair (see_tick r) ≡ false
  see_tick_honest None = refl
  see_tick_honest (Some placed) = refl

  see_map_honest : (r : Bool) → is_unfair (see_map r) ≡ false
  see_map_honest true = refl
  see_map_honest false = refl

  see_link_honest : (r : Option Link) → is_unfair (see_link r) ≡ false
  see_link_honest None = refl
  see_link_honest (Some n) = refl

  see_gave_honest : (r : Gave) → ends_it r ≡ false → is_unfair (see_gave r) ≡ false
  see_gave_honest gave.Nothing fair = refl
  see_gave_honest gave.End fair = refl
  see_gave_honest (gave.Got msg reply evicted) fair = refl
  see_gave_honest (gave.Ended msg) fair = cc

  see_cut_honest : (r : Bool) → is_unfair (see_cut r) ≡ false
  see_cut_honest true = refl
  see_cut_honest false = refl

  see_crash_honest : (r : Bool) → is_unfair (see_crash r) ≡ false
  see_crash_honest true = refl
  see_crash_honest false = refl

  see_host_honest : (r : Option Hosted) → is_unfair (see_host r) ≡ false
  see_host_honest None = refl
  see_host_honest (Some hosted) = refl

  abbrev Gives : Prog (Device × Seen) → D → Harbor → Seen → Type 0
  Gives p k h s = (d' : Device) × (k' : D) × (h' : Harbor) × Along disk_moves harbor.Moves {A = Device × Seen} p k h k' h' (d', s)

  taken_honest : (d : Device) (done : Bool) (k : D) (h : Harbor) (s : Seen) → Gives (taken_if d done) k h s → is_unfair s ≡ false
  taken_honest d true k h s (d', k', h', along) = honest_by see_disk (device.disk_take d) d' k k' h h' s see_disk_honest along
  taken_honest d false k h s (d', k', h', along) = ap (λ (x : Device × Seen). is_unfair x.1) along.2

  either :
      (b : Bool) (p q : Prog (Device × Seen)) (k : D) (h : Harbor) (s : Seen) → (Gives p k h s → is_unfair s ≡ false) → (Gives q k h s → is_unfair s ≡ false)
      → Gives (cond b p q) k h s → is_unfair s ≡ false
  either true p q k h s one two = one
  either false p q k h s one two = two

  -- no event of a device sees a lie where each message that comes is understood
  pub event_honest :
      (d : Device) (page : List ℕ) (e : Event) (k : D) (h : Harbor) (s : Seen)
      → ((l : Lender) (q : Parcel) (g : Harbor) → is_up d.remote.links l ≡ true → harbor.Moves h (Take l) (Brought q) g
      → IsHeard (heard_parcel d l q (oldest (ring_of d.remote.links l))))
      → ((l : Lender) (r : Gave) (g : Harbor) → harbor.Moves h (Give l) r g → ends_it r ≡ false) → Gives (happens d page e) k h s → is_unfair s ≡ false
  event_honest d page (event.PageOut c p) k h s each fair given =
      either (is_idle (state_of d.calls c)) _ _ k h s (λ g. honest_by see_out (device.out d c p page) g.0 k g.1 h g.2 s see_out_honest g.3)
      (λ g. ap (λ (x : Device × Seen). is_unfair x.1) g.3.2) given
  event_honest d page (event.PageIn c p) k h s each fair given =
      either (is_idle (state_of d.calls c)) _ _ k h s (λ g. honest_by see_in (device.read d c p) g.0 k g.1 h g.2 s see_in_honest g.3)
      (λ g. ap (λ (x : Device × Seen). is_unfair x.1) g.3.2) given
  event_honest d page (event.Finish c) k h s each fair given =
      either (is_idle (state_of d.calls c)) _ _ k h s (λ g. ap (λ (x : Device × Seen). is_unfair x.1) g.3.2)
      (λ g. honest_by see_step (device.finish d c) g.0 k g.1 h g.2 s see_step_honest g.3) given
  event_honest d page event.Start k h s each fair g = honest_by see_start (device.disk_start d) g.0 k g.1 h g.2 s see_start_honest g.3
  event_honest d page (event.Disk which ok) k h s each fair g = taken_honest d g.3.0 g.3.1 h s (g.0, g.1, g.2, g.3.3)
  event_honest d page (event.Tick word) k h s each fair g = honest_by see_tick (device.tick d word) g.0 k g.1 h g.2 s see_tick_honest g.3
  event_honest d page (event.Map slab l) k h s each fair g = honest_by see_map (device.map d slab l) g.0 k g.1 h g.2 s see_map_honest g.3
  event_honest d page (event.Connect l) k h s each fair g = honest_by see_link (device.connect d l) g.0 k g.1 h g.2 s see_link_honest g.3
  event_honest d page (event.Give l) k h s each fair g = ap (λ (x : Device × Seen). is_unfair x.1) g.3.3.2 ∙ see_gave_honest g.3.0 (fair l g.3.0 g.3.1 g.3.2)
  event_honest d page (event.Take l) k h s each fair g = link_honest d g.0 k g.1 h g.2 l s (λ q f up moved. each l q f up moved) g.3
  event_honest d page (event.Cut l a b) k h s each fair g = honest_by see_cut (device.cut d l a b) g.0 k g.1 h g.2 s see_cut_honest g.3
  event_honest d page (event.Crash l) k h s each fair g = honest_by see_crash (device.crash d l) g.0 k g.1 h g.2 s see_crash_honest g.3
  event_honest d page (event.Host l used word) k h s each fair g = honest_by see_host (device.host d l used word) g.0 k g.1 h g.2 s see_host_honest g.3
  event_honest d page _ k h s each fair g = ap (λ (x : Device × Seen). is_unfair x.1) g.3.2

-- so of a device that is joined with its lenders, and whose messages may be taken in turn
pub understood :
    (n : ℕ) (d : Device) (h : Harbor) → ServesAt n d h → AllJoined n d h → AllTurned n d h → (l : Lender) (q : Parcel) (g : Harbor)
    → is_up d.remote.links l ≡ true → harbor.Moves h (Take l) (Brought q) g → IsHeard (heard_parcel d l q (oldest (ring_of d.remote.links l)))
understood n d h serves joined turned l q g up moved =
    let within : l.0 < n = (serves.link l).lender up in
    let here : Joined d l (channel_of h l) = joined l within up in
    let front : FrontIs (channel_of h l) q = taken_brings (channel_of h l) q here.present (ap (λ (x : Handed × Harbor). x.0) moved.1) in
    front_heard d l (channel_of h l) q front.rest here (turned l within up) serves.single front.is
