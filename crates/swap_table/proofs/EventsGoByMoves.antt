-- Each program of the device goes by moves, and each event comes to what it may.
use Rattle.std.proofs.Common.{◌≡◌, ◌&&◌, ℕ, ◌<◌, Bool, true, false, cond, ◌==◌, nat_lt, List, [], ◌∷◌, length, refl, sym, ap, ◌∙◌, subst, is_none, length-set, ⊎_elim, inl, inr, Option, None, Some}
use Rattle.std.proofs.lemmas.Bool.{cases_lt}
use Rattle.std.proofs.lemmas.List.{get_or_past}
use Rattle.swap_base.specs.declared.Page.{Page}
use Rattle.swap_base.specs.declared.Slab.{Slab}
use Rattle.swap_base.specs.declared.Caller.{Caller}
use Rattle.swap_base.specs.declared.EntryNo.{EntryNo}
use Rattle.swap_base.specs.declared.Lender.{Lender}
use Rattle.swap_base.specs.declared.Lease.{Lease}
use Rattle.swap_base.specs.declared.Link.{Link}
use Rattle.swap_base.specs.declared.DiskWhich.{DiskWhich}
use Rattle.swap_base.specs.declared.Via.{Via}
use Rattle.swap_base.specs.declared.Via.TheVariants as via
use Rattle.swap_record.specs.History.{next_name, last}
use Rattle.swap_queue.specs.Queue as queue
use Rattle.swap_queue.specs.Queue.{Copy}
use Rattle.swap_wire.specs.declared.Event.{Event}
use Rattle.swap_wire.specs.declared.Event.TheVariants as event
use Rattle.swap_wire.specs.declared.Seen.{Seen}
use Rattle.swap_wire.specs.declared.Seen.TheVariants as seen
use Rattle.swap_wire.specs.declared.fabric.Sent.TheVariants as sent
use Rattle.swap_wire.specs.declared.fabric.Gave.{Gave}
use Rattle.swap_wire.specs.declared.fabric.Gave.TheVariants as gave
use Rattle.swap_wire.specs.Fabric.{Parcel, parcel_of, Handed, Brought, NothingCame, LinkLost, Send, Take}
use Rattle.swap_calls.specs.Calls as calls
use Rattle.swap_calls.specs.Calls.{state_of, call_of, is_idle, may_read}
use Rattle.swap_calls.specs.declared.Arrived.{Arrived}
use Rattle.swap_calls.specs.declared.Arrived.TheVariants as arrived
use Rattle.swap_calls.specs.declared.CallState.{CallState}
use Rattle.swap_calls.specs.declared.CallState.TheVariants.{Idle, Room, Reading}
use Rattle.swap_wire.specs.declared.Msg.TheVariants as msg
use Rattle.swap_activity.specs.Rates.{Activity}
use Rattle.swap_rates.specs.Table as rates
use Rattle.swap_slabs.specs.Slabs as slabs
use Rattle.swap_slabs.specs.declared.Reply.{Reply}
use Rattle.swap_slabs.specs.declared.Reply.TheVariants as reply
use Rattle.swap_slabs.specs.declared.SlabState.{SlabState}
use Rattle.swap_slabs.specs.declared.SlabState.TheVariants.{Local, Asking, Borrowing, Mapped, Draining}
use Rattle.swap_rings.specs.Rings as rings
use Rattle.swap_rings.specs.Rings.{is_up, ring_of}
use Rattle.swap_rings.specs.declared.Request.{Request}
use Rattle.swap_rings.specs.declared.Request.TheVariants as request
use Rattle.swap_remote.specs.Remote as remote
use Rattle.swap_remote.specs.Remote.{target}
use Rattle.swap_table.specs.declared.TheConstants.{MOST_LINKS}
use Rattle.swap_table.specs.declared.OutStep.{OutStep}
use Rattle.swap_table.specs.declared.OutStep.TheVariants as outs
use Rattle.swap_table.specs.declared.InStep.{InStep}
use Rattle.swap_table.specs.declared.InStep.TheVariants as ins
use Rattle.swap_table.specs.declared.Step.{Step}
use Rattle.swap_table.specs.declared.Placed.{Placed}
use Rattle.swap_table.specs.declared.LinkStep.{LinkStep}
use Rattle.swap_table.specs.declared.LinkStep.TheVariants as link
use Rattle.swap_table.specs.Ports.{Prog, Ret, AskFabric, answering, and_then}
use Rattle.swap_table.specs.Device as device
use Rattle.swap_table.specs.Device.{Device, enter_entry, lost_after, accept_program, accept_after, accepted_late, sent_nowhere, write_to, read_disk, read_at, source, route, route_by, routed_again, hit, periods_ended, put_program, out, finish, finish_by, disk_start, start_front, start_copy, disk_take, disk_finish, Heard, heard_only, done_word, settled_word, chosen_for, is_newest, query_reply, borrow_reply, write_reply, read_reply, rate_asked, taken_back, query_answered, lent_or_refused, borrow_answered, write_answered, read_answered, heard_answer, rate_told, heard_evict, heard_by, heard_parcel, with_step, understand, took_from, link_take, after_borrow, may_map, with_answer, map, raised_after, next_link, hello, with_link, connect_on, connect, lose, give_to}
use Rattle.swap_base.proofs.Lists.{chosen}
use Rattle.swap_table.proofs.WaitsStay.{front_of}
use Rattle.swap_table.specs.Happens.{happens, seen_by, see_out, see_in, see_step, see_start, see_disk, see_tick, see_map, see_link, see_gave, see_cut, see_crash, see_host, see_take}
use Rattle.swap_table.specs.Goes.{Goes, ends, first, asks_disk, asks_fabric, After, by, OfFabric}
use Rattle.swap_table.specs.Moves.{Within, within_any, Speaker, quiet_speaker, Outs, new_out, late_out, Ins, new_in, late_in, zero, copied, came, full, unread, told, write, read, borrow, Hears, roomy, lent, refused, written, brought, asked_rate, told_to_go, IsWord, greeting, rating, giving_back, far_give, far_cut, far_crash, far_host, Move, enters, gives, faults, waits_for_room, rates_change, lets_go, starts, waits_for_disk, takes, lets_finish, sends, finds_down, raises, hears, hears_nothing, loses, misunderstands, breaks_off, far}
use Rattle.swap_table.specs.Comes.{is_rest, is_of_link, Linked, as_was, sent_on, let_go, StepOut, begins_out, goes_on_out, StepIn, begins_in, goes_on_in, wait_seen, Comes, refuses, rests, accepts, gives_page, fails, keeps_page, reads, starts_write, takes_back, links, brings, rates_slabs, is_of_rates, ComesTo}
use Rattle.swap_table.proofs.MovesKeepInvariants.{Goes-implies, Goes-then, Goes-answering}
use Rattle.swap_table.proofs.PlacingGoesByMoves.{place_goes}
use Rattle.swap_table.proofs.LossesGoByMoves.{lost_ins, linked_trans, Leaves, lost_down, chosen_slab, lose_passes, say_passes, follow_passes}

-- what comes of a message
answered_is : (d : Device) (x : Heard) (l : Lender) (q : Parcel) → heard_answer d l q (rings.oldest (ring_of d.remote.links l)) ≡ Some x → Hears d l q x
answered_is d x l q h = by_oldest (rings.oldest (ring_of d.remote.links l)) refl h
  where
    from : (y : Heard) → Hears d l q y → Some y ≡ Some x → Hears d l q x
    from y hears_y is = let same : y ≡ x = cc in subst (λ z. Hears d l q z) same hears_y

    by_oldest : (oldest : Option Request) → rings.oldest (ring_of d.remote.links l) ≡ oldest → heard_answer d l q oldest ≡ Some x → Hears d l q x
    by_oldest None is h = cc
    by_oldest (Some (request.Query t)) is h = by_reply (query_reply q.msg) refl h
      where
        by_reply : (reply : Option (Slab × ℕ)) → query_reply q.msg ≡ reply → query_answered d l t reply ≡ Some x → Hears d l q x
        by_reply None says h = cc
        by_reply (Some (u, free)) says h = test (u.0 == t.0) refl h
          where
            test :
                (b : Bool) → (u.0 == t.0) ≡ b
                → cond b
                (Some
                (record {
                  device = record d { remote = remote.told_after d.remote l t free };
                  word = None;
                  choice = chosen_for t (slabs.answer_choice (slabs.state_of d.remote.slabs t) l (reply.Free free));
                }))
                None
                ≡ Some x
                → Hears d l q x
            test true same h = from _ (roomy (front_of _ _ is).is says same) h
            test false same h = cc
    by_oldest (Some (request.Borrow t)) is h = by_reply (borrow_reply q.msg) refl h
      where
        lent_one :
            (u : Slab) (reply : Option Lease) → borrow_reply q.msg ≡ Some (u, reply) → (u.0 == t.0) ≡ true → lent_or_refused d l t reply ≡ Some x
            → Hears d l q x
        lent_one u None says same h = from _ (refused (front_of _ _ is).is says same) h
        lent_one u (Some k) says same h = by_lease (slabs.by_lease d.remote.slabs l k) refl h
          where
            by_lease :
                (found : Option Slab) → slabs.by_lease d.remote.slabs l k ≡ found
                → cond (is_none found) (Some (heard_only (record d { remote = remote.lent_after d.remote l t k }))) None ≡ Some x → Hears d l q x
            by_lease None none h = from _ (lent (front_of _ _ is).is says same none) h
            by_lease (Some v) none h = cc

        by_reply : (reply : Option (Slab × Option Lease)) → borrow_reply q.msg ≡ reply → borrow_answered d l t reply ≡ Some x → Hears d l q x
        by_reply None says h = cc
        by_reply (Some (u, lease)) says h = test (u.0 == t.0) refl h
          where
            test : (b : Bool) → (u.0 == t.0) ≡ b → cond b (lent_or_refused d l t lease) None ≡ Some x → Hears d l q x
            test true same h = lent_one u lease says same h
            test false same h = cc
    by_oldest (Some (request.Write p n)) is h = by_reply (write_reply q.msg) refl h
      where
        by_reply : (reply : Option (Lease × ℕ)) → write_reply q.msg ≡ reply → write_answered d l p n reply ≡ Some x → Hears d l q x
        by_reply None says h = cc
        by_reply (Some at) says h = test (remote.names_page d.sizes d.remote l p at.0 at.1) refl h
          where
            test :
                (b : Bool) → remote.names_page d.sizes d.remote l p at.0 at.1 ≡ b
                → cond b
                (Some
                (record {
                  device = record d { remote = remote.written_after d.sizes d.remote l p (is_newest (last d.history p) n) };
                  word = settled_word d p;
                  choice = None;
                }))
                None
                ≡ Some x
                → Hears d l q x
            test true named h = from _ (written (front_of _ _ is).is says named) h
            test false named h = cc
    by_oldest (Some (request.Read c p)) is h = by_reply (read_reply q.msg) refl h
      where
        by_reply : (reply : Option (Lease × ℕ)) → read_reply q.msg ≡ reply → read_answered d l c p q.page reply ≡ Some x → Hears d l q x
        by_reply None says h = cc
        by_reply (Some at) says h = test (remote.names_page d.sizes d.remote l p at.0 at.1) refl h
          where
            test :
                (b : Bool) → remote.names_page d.sizes d.remote l p at.0 at.1 ≡ b
                → cond b
                (Some
                (record {
                  device = record d { remote = remote.settled_for d.sizes d.remote l p; calls = calls.came_after d.calls c q.page };
                  word = settled_word d p;
                  choice = None;
                }))
                None
                ≡ Some x
                → Hears d l q x
            test true named h = from _ (brought (front_of _ _ is).is says named) h
            test false named h = cc

pub heard_is : (d : Device) (x : Heard) (l : Lender) (q : Parcel) → heard_parcel d l q (rings.oldest (ring_of d.remote.links l)) ≡ Some x → Hears d l q x
heard_is d x l q h = go (rate_asked q.msg) refl (taken_back q.msg) refl h
  where
    from : (y : Heard) → Hears d l q y → Some y ≡ Some x → Hears d l q x
    from y hears_y is = let same : y ≡ x = cc in subst (λ z. Hears d l q z) same hears_y

    rated : (k : Lease) (o : Option Slab) → rate_asked q.msg ≡ Some k → remote.mapped_by d.remote.slabs l k ≡ o → rate_told d k o ≡ Some x → Hears d l q x
    rated k None says at h = cc
    rated k (Some t) says at h = from _ (asked_rate says at) h

    evicts : (k : Lease) (o : Option Slab) → taken_back q.msg ≡ Some k → remote.mapped_by d.remote.slabs l k ≡ o → heard_evict d o ≡ Some x → Hears d l q x
    evicts k None says at h = cc
    evicts k (Some t) says at h = from _ (told_to_go says at) h

    go :
        (asked : Option Lease) → rate_asked q.msg ≡ asked → (back : Option Lease) → taken_back q.msg ≡ back
        → heard_by d l q (rings.oldest (ring_of d.remote.links l)) asked back ≡ Some x → Hears d l q x
    go (Some k) says back goes h = rated k (remote.mapped_by d.remote.slabs l k) says refl h
    go None says (Some k) goes h = evicts k (remote.mapped_by d.remote.slabs l k) goes refl h
    go None says None goes h = answered_is d x l q h

-- what is said in answer is a word, and a choice is of a slab that there is
done_is : (d : Device) (lease : Option Lease) (q : Parcel) → done_word lease ≡ Some q → IsWord d q
done_is d None q is = cc
done_is d (Some k) q is = let same : parcel_of (msg.Done k) [] ≡ q = cc in subst (λ x. IsWord d x) same (giving_back k)

pub heard_word : (d : Device) (x : Heard) (l : Lender) (q w : Parcel) → Hears d l q x → x.word ≡ Some w → IsWord x.device w
heard_word d x l q w (roomy ring says same) is = cc
heard_word d x l q w (lent ring says same none) is = cc
heard_word d x l q w (refused ring says same) is = cc
heard_word d x l q w (written {p = p} ring says named) is = done_is x.device (slabs.settled_lease (remote.state_for d.sizes d.remote.slabs p)) w is
heard_word d x l q w (brought {p = p} ring says named) is = done_is x.device (slabs.settled_lease (remote.state_for d.sizes d.remote.slabs p)) w is
heard_word d x l q w (asked_rate {t = t} {k = k} says at) is =
    let same : parcel_of (msg.Rates k (rates.value_of d.rates t)) [] ≡ w = cc in subst (λ y. IsWord x.device y) same (rating k (rates.value_of d.rates t))
heard_word d x l q w (told_to_go {t = t} says at) is = done_is x.device (slabs.evicted_lease (slabs.state_of d.remote.slabs t)) w is

-- a choice that is due is of a slab that asked
choice_asks :
    (state : SlabState) (l : Lender) (reply : Reply) (t u : Slab) (m : Lender) → chosen_for t (slabs.answer_choice state l reply) ≡ Some (u, m)
    → (state ≡ Local → ⊥)
choice_asks Local l reply t u m is = cc
choice_asks (Asking pair) l reply t u m is = λ e. (let no : Asking pair ≡ Local = e in cc)
choice_asks (Borrowing o) l reply t u m is = cc
choice_asks (Mapped o k f) l reply t u m is = cc
choice_asks (Draining o k f) l reply t u m is = cc

pub heard_choice :
    (d : Device) (x : Heard) (l : Lender) (q : Parcel) (u : Slab) (m : Lender) → Hears d l q x → x.choice ≡ Some (u, m) → u.0 < length x.device.remote.slabs
heard_choice d x l q u m (lent ring says same none) is = cc
heard_choice d x l q u m (refused ring says same) is = cc
heard_choice d x l q u m (written ring says named) is = cc
heard_choice d x l q u m (brought ring says named) is = cc
heard_choice d x l q u m (asked_rate says at) is = cc
heard_choice d x l q u m (told_to_go says at) is = cc
heard_choice d x l q u m (roomy {t = t} {free = free} ring says same) is =
    let state : SlabState = slabs.state_of d.remote.slabs t in
    let within : t.0 < length d.remote.slabs =
    ⊎_elim (λ lt. lt) (λ ge. absurd (choice_asks state l (reply.Free free) t u m is (get_or_past d.remote.slabs t.0 Local ge)))
    (cases_lt t.0 (length d.remote.slabs)) in
    subst (λ (y : Slab). y.0 < length x.device.remote.slabs) (sym (chosen_slab within_any t u m (slabs.answer_choice state l (reply.Free free)) is))
    (subst (λ n. t.0 < n) (sym (length-set d.remote.slabs t.0 _)) within)

pub source_target : (d : Device) (p : Page) (a : Lender × Lease) → source d p ≡ Some a → target d.sizes d.remote p ≡ Some a
source_target d p a e = go (remote.has_page d.remote p) e
  where
    go : (b : Bool) → cond b (target d.sizes d.remote p) None ≡ Some a → target d.sizes d.remote p ≡ Some a
    go true e = e
    go false e = cc

-- a device that owes nothing
abbrev pub Rests : {R : Type 0} → Device × R → Speaker → Type 0
Rests a s = s ≡ quiet_speaker a.0

module _ (W : Within) (d : Device) (page : List ℕ) where
  -- a program that goes by moves from a device, and comes to what this event may come to from d
  abbrev pub Fares : {R : Type 0} → Event → (R → Seen) → Device → Prog (Device × R) → Type 0
  Fares {R} e see now p = Goes (Move W) (λ (a : Device × R) s. (s ≡ quiet_speaker a.0) × Comes d page e a.0 (see a.1)) (quiet_speaker now) p

  fares_as :
      {R T : Type 0} {e : Event} {now : Device} {p : Prog (Device × R)} (see : R → Seen) (see' : T → Seen) (h : Device × R → Device × T)
      → ((a : Device × R) → ((h a).0 ≡ a.0) × (see' (h a).1 ≡ see a.1)) → Fares e see now p → Fares e see' now (answering h p)
  fares_as {e = e} see see' h same g =
      Goes-answering (Move W) _ _ h
      (λ a t q. (
        q.0 ∙ ap quiet_speaker (sym (same a).0),
        let P : Device → Seen → Type 0 = λ x s. Comes d page e x s in
            subst (λ s. P (h a).0 s) (sym (same a).1) (subst (λ x. P x (see a.1)) (sym (same a).0) q.1),
      ))
      g

  -- a loss in the middle of a program
  lost_fares :
      {R : Type 0} (e : Event) (see : R → Seen) (x : Device) (l : Lender) (h : Device → Device × R) → ((y : Device) → (h y).0 ≡ y)
      → ((y : Device) → Leaves W (lost_after x l) y → Comes d page e (h y).0 (see (h y).1)) → Fares e see (lost_after x l) (answering h (lose x l))
  lost_fares e see x l h same comes = Goes-answering (Move W) _ _ h (λ y t q. (q.0 ∙ ap quiet_speaker (sym (same y)), comes y q.1)) (lose_passes W x l)

  pub accept_fares :
      (e : Event) (c : Caller) (p : Page) (bytes : List ℕ) → Outs W d c p bytes → StepOut d page e c p bytes
      → Fares e (seen.Done (next_name d.history)) d (accept_program d c p bytes)
  accept_fares e c p bytes outs step = go (target d.sizes d.remote p) refl
    where
      go :
          (at : Option (Lender × Lease)) → target d.sizes d.remote p ≡ at
          → Fares e (seen.Done (next_name d.history)) d (write_to (enter_entry d c p bytes) p (next_name d.history) bytes at)
      go None is = first (enters outs) (ends (refl, accepts step as_was))
      go (Some at) is =
          let x : Device = enter_entry d c p bytes in
          asks_fabric (elim [
            | sent.Sent ↦ by (sends (write outs is)) (ends (refl, accepts step (sent_on as_was _ _)))
            | sent.Down ↦
                by (finds_down (write outs is))
                (lost_fares e (seen.Done (next_name d.history)) x at.0 sent_nowhere (λ y. refl)
                (λ y leaves. accepts step (linked_trans x (lost_after x at.0) y (let_go as_was at.0) leaves.linked)))
          ])

  -- a page-in's step; what is seen of one that reads goes by the event
  abbrev pub in_seen : {e : Event} {c : Caller} {p : Page} → StepIn d e c p → InStep → Seen
  in_seen step (ins.Done entry) = seen.Done entry None
  in_seen step (ins.Wait v) = wait_seen step v

  pub read_fares :
      (e : Event) (c : Caller) (p : Page) (m : EntryNo) (step : StepIn d e c p) → Ins W d c p → W.caller c → last d.history p ≡ Some m
      → queue.newest d.queue p ≡ None → (now : Device) → Ins W now c p → W.caller c → last now.history p ≡ Some m → queue.newest now.queue p ≡ None
      → Linked d now
      → Fares e (in_seen step) now (read_disk now c p m)
  read_fares e c p m step may within is none now may' within' is' none' linked =
      asks_disk (λ r. by (waits_for_disk may' within' is' none') (ends (refl, reads via.Disk step is linked)))

  pub read_at_fares :
      (e : Event) (c : Caller) (p : Page) (m : EntryNo) (step : StepIn d e c p) → Ins W d c p → W.caller c → last d.history p ≡ Some m
      → queue.newest d.queue p ≡ None → Fares e (in_seen step) d (read_at d c p m (source d p))
  read_at_fares e c p m step may within is none = go (source d p) refl
    where
      go : (at : Option (Lender × Lease)) → source d p ≡ at → Fares e (in_seen step) d (read_at d c p m at)
      go None at_is = read_fares e c p m step may within is none d may within is none as_was
      go (Some at) at_is =
          asks_fabric (elim [
            | sent.Sent ↦ by (sends (read may within is none at_is)) (ends (refl, reads (via.Lender at.0) step is (sent_on as_was _ _)))
            | sent.Down ↦
                by (finds_down (read may within is none at_is))
                (Goes-then (Move W) _ _ (λ x. read_disk x c p m) (λ x t q. read_after at.0 x t q.0 q.1) (lose_passes W d at.0))
          ])
        where
          read_after :
              (l : Lender) (x : Device) (t : Speaker) → t ≡ quiet_speaker x → Leaves W (lost_after d l) x
              → Goes (Move W) (λ (a : Device × InStep) s. (s ≡ quiet_speaker a.0) × Comes d page e a.0 (in_seen step a.1)) t (read_disk x c p m)
          read_after l x t same leaves =
              let P : Speaker → Type 0 =
              λ y. Goes (Move W) (λ (a : Device × InStep) s. (s ≡ quiet_speaker a.0) × Comes d page e a.0 (in_seen step a.1)) y (read_disk x c p m) in
              subst P (sym same)
              (read_fares e c p m step may within is none x (leaves.ins c p (lost_ins W d l c p may)) within (ap (λ H. last H p) leaves.history ∙ is)
              (ap (λ k. queue.newest k p) leaves.queue ∙ none) (linked_trans d (lost_after d l) x (let_go as_was l) leaves.linked))

  pub route_fares : (e : Event) (c : Caller) (p : Page) (step : StepIn d e c p) → Ins W d c p → W.caller c → Fares e (in_seen step) d (route d c p)
  route_fares e c p step may within = go (last d.history p) refl (queue.newest d.queue p) refl
    where
      go :
          (named : Option EntryNo) → last d.history p ≡ named → (copy : Option Copy) → queue.newest d.queue p ≡ copy
          → Fares e (in_seen step) d (route_by d c p named copy)
      go None is copy has = first (gives (zero may is)) (ends (refl, gives_page step))
      go (Some m) is (Some copy) has = first (gives (copied may is has)) (ends (refl, gives_page step))
      go (Some m) is None has = read_at_fares e c p m step may within is has

  pub put_fares : (c : Caller) (p : Page) → is_idle (state_of d.calls c) ≡ true → W.page p → W.bytes page
      → Fares (event.PageOut c p) see_out d (put_program d c p page)
  put_fares c p idle within hands =
      chosen (λ (x : Prog (Device × OutStep)). Fares (event.PageOut c p) see_out d x) (queue.has_room d.queue p) _ _
      (λ _.
      fares_as (seen.Done (next_name d.history)) see_out (accept_after (next_name d.history)) (λ a. (refl, refl))
      (accept_fares (event.PageOut c p) c p page (new_out idle within hands) (begins_out idle)))
      (λ _. first (waits_for_room c p page idle within hands) (ends (refl, keeps_page idle)))

  pub again_fares :
      (c : Caller) (p : Page) (step : StepIn d (event.Finish c) c p) → ((v : Via) → wait_seen step v ≡ seen.Again v) → Ins W d c p → W.caller c
      → Fares (event.Finish c) see_step d (answering routed_again (route d c p))
  again_fares c p step again may within = fares_as (in_seen step) see_step routed_again same (route_fares (event.Finish c) c p step may within)
    where
      same : (a : Device × InStep) → ((routed_again a).0 ≡ a.0) × (see_step (routed_again a).1 ≡ in_seen step a.1)
      same (x, ins.Done entry) = (refl, refl)
      same (x, ins.Wait v) = (refl, sym (again v))

  pub finish_fares : (c : Caller) → W.caller c → Fares (event.Finish c) see_step d (finish d c)
  finish_fares c within = go (state_of d.calls c) refl
    where
      again :
          {p : Page} {m : EntryNo} {v : Via} {how : Arrived} {newer : Bool} {since : ℕ} → state_of d.calls c ≡ Reading p m v how newer since
          → may_read (Reading p m v how newer since) ≡ true → Fares (event.Finish c) see_step d (answering routed_again (route d c p))
      again {p = p} is may = again_fares c p (goes_on_in is) (λ v. refl) (late_in is may) within

      go : (state : CallState) → state_of d.calls c ≡ state → Fares (event.Finish c) see_step d (finish_by d c (call_of d.calls c).bytes state)
      go Idle is = ends (refl, rests refl refl)
      go (Room p since) is =
          chosen (λ (x : Prog (Device × Step)). Fares (event.Finish c) see_step d x) (queue.has_room d.queue p) _ _
          (λ _.
          fares_as (seen.Done (next_name d.history)) see_step (accepted_late (next_name d.history)) (λ a. (refl, refl))
          (accept_fares (event.Finish c) c p (call_of d.calls c).bytes (late_out is) (goes_on_out is)))
          (λ _.
          chosen (λ (x : Prog (Device × Step)). Fares (event.Finish c) see_step d x) (nat_lt since d.failed_writes) _ _
          (λ less. first (faults (full is less)) (ends (refl, fails (full is less)))) (λ _. ends (refl, rests refl refl)))
      go (Reading p m v arrived.Waiting newer since) is = ends (refl, rests refl refl)
      go (Reading p m v arrived.Came false since) is = first (gives (came is)) (ends (refl, gives_page (goes_on_in is)))
      go (Reading p m v arrived.Came true since) is = again is refl
      go (Reading p m v arrived.Failed false since) is = first (faults (unread is)) (ends (refl, fails (unread is)))
      go (Reading p m v arrived.Failed true since) is = again is refl
      go (Reading p m v arrived.Lost newer since) is = again is refl

  pub read_in_fares : (c : Caller) (p : Page) → is_idle (state_of d.calls c) ≡ true → W.caller c → W.page p → Fares (event.PageIn c p) see_in d (route d c p)
  read_in_fares c p idle within page_within = Goes-implies (Move W) _ _ same (route_fares (event.PageIn c p) c p step (new_in idle page_within) within)
    where
      step : StepIn d (event.PageIn c p) c p
      step = begins_in idle

      same :
          (a : Device × InStep) (t : Speaker) → (t ≡ quiet_speaker a.0) × Comes d page (event.PageIn c p) a.0 (in_seen step a.1)
          → (t ≡ quiet_speaker a.0) × Comes d page (event.PageIn c p) a.0 (see_in a.1)
      same (x, ins.Done entry) t q = q
      same (x, ins.Wait v) t q = q

  pub disk_start_fares : Fares event.Start see_start d (disk_start d)
  disk_start_fares = go d.queue.line refl
    where
      go : (line : List Page) → d.queue.line ≡ line → Fares event.Start see_start d (start_front d line)
      go [] is = ends (refl, rests refl refl)
      go (p ∷ line) is = copy_of (queue.next_copy d.queue p) refl
        where
          copy_of : (copy : Option Copy) → queue.next_copy d.queue p ≡ copy → Fares event.Start see_start d (start_copy d p copy)
          copy_of None has = ends (refl, rests refl refl)
          copy_of (Some copy) has = asks_disk (λ r. by (starts is has) (ends (refl, starts_write)))

  pub disk_take_fares : (w : DiskWhich) (ok : Bool) → Fares (event.Disk w ok) see_disk d (disk_take d)
  disk_take_fares w ok = asks_disk (λ taken. by takes (ends (refl, takes_back taken)))

  -- what a message comes to, with what follows on it
  heard_comes : (l : Lender) (q : Parcel) (x : Heard) (y : Device) → Hears d l q x → Linked x.device y → Comes d page (event.Take l) y (seen.Took q.msg)
  heard_comes l q x y (roomy ring is same) linked = links refl refl (linked_trans d x.device y (sent_on as_was _ _) linked)
  heard_comes l q x y (lent ring is same none) linked = links refl refl (linked_trans d x.device y (sent_on as_was _ _) linked)
  heard_comes l q x y (refused ring is same) linked = links refl refl (linked_trans d x.device y (sent_on as_was _ _) linked)
  heard_comes l q x y (written {p = p} {e = w} ring is named) linked =
      links refl refl
      (linked_trans d x.device y (written_on (is_newest (last d.history p) w && slabs.is_mapped (remote.state_for d.sizes d.remote.slabs p))) linked)
    where
      written_on : (b : Bool) → Linked d (record d { remote = remote.with_page_if b (remote.settled_for d.sizes d.remote l p) p })
      written_on b = sent_on as_was _ _
  heard_comes l q x y (brought {c = c} ring is named) linked = brings c q.page _ linked
  heard_comes l q x y (asked_rate is at) linked = links refl refl linked
  heard_comes l q x y (told_to_go is at) linked = links refl refl (linked_trans d x.device y (sent_on as_was _ _) linked)

  -- what a take brings
  abbrev Takes : Lender → Device × LinkStep → Speaker → Type 0
  Takes l a s = (s ≡ quiet_speaker a.0) × Comes d page (event.Take l) a.0 (see_take a.1)

  pub taken_fares : (l : Lender) → is_up d.remote.links l ≡ true → (r : Handed)
      → After (Move W) (Takes l) (quiet_speaker d) (OfFabric (Take l) r) (took_from d l r)
  taken_fares l up (Brought q) = brought_one (heard_parcel d l q (rings.oldest (ring_of d.remote.links l))) refl
    where
      brought_one :
          (x : Option Heard) → heard_parcel d l q (rings.oldest (ring_of d.remote.links l)) ≡ x
          → After (Move W) (Takes l) (quiet_speaker d) (OfFabric (Take l) (Brought q)) (understand d l q.msg x)
      brought_one (Some x) is =
          let hears_x : Hears d l q x = heard_is d x l q is in
          by (hears up hears_x)
          (Goes-answering (Move W) _ (Takes l) (with_step (link.Got q.msg)) (λ y t r. (r.0, heard_comes l q x y hears_x r.1.linked))
          (follow_passes W x l (λ w says. heard_word d x l q w hears_x says) (λ t m at. heard_choice d x l q t m hears_x at)))
      brought_one None is =
          by (misunderstands up)
          (asks_fabric
          (λ r.
          by breaks_off
          (lost_fares (event.Take l) see_take d l (with_step link.Lied) (λ y. refl)
          (λ y leaves. links refl refl (linked_trans d (lost_after d l) y (let_go as_was l) leaves.linked)))))
  taken_fares l up NothingCame = by (hears_nothing up) (ends (refl, rests refl refl))
  taken_fares l up LinkLost =
      by (loses up)
      (lost_fares (event.Take l) see_take d l (with_step link.Lost) (λ y. refl)
      (λ y leaves. links refl refl (linked_trans d (lost_after d l) y (let_go as_was l) leaves.linked)))

  pub link_take_fares : (l : Lender) → Fares (event.Take l) see_take d (link_take d l)
  link_take_fares l =
      chosen (λ (x : Prog (Device × LinkStep)). Fares (event.Take l) see_take d x) (is_up d.remote.links l) _ _ (λ up. asks_fabric (taken_fares l up))
      (λ _. ends (refl, rests refl refl))

  pub map_fares : (t : Slab) (l : Lender) → W.slab t → Fares (event.Map t l) see_map d (map d t l)
  map_fares t l within = go (may_map d t l) refl
    where
      go :
          (may : Bool) → may_map d t l ≡ may
          → Fares (event.Map t l) see_map d
          (answering (with_answer may) (cond may (AskFabric (Send l (parcel_of (msg.Borrow t) [])) (after_borrow lose d t l)) (Ret d)))
      go true may =
          asks_fabric (elim [
            | sent.Sent ↦ by (sends (borrow (told within) may)) (ends (refl, links refl refl (sent_on as_was _ _)))
            | sent.Down ↦
                by (finds_down (borrow (told within) may))
                (lost_fares (event.Map t l) see_map d l (with_answer true) (λ y. refl)
                (λ y leaves. links refl refl (linked_trans d (lost_after d l) y (let_go as_was l) leaves.linked)))
          ])
      go false may = ends (refl, rests refl refl)

  -- a link that is made, in place of another
  pub connect_fares : (l : Lender) → W.lender l → Fares (event.Connect l) see_link d (connect d l)
  connect_fares l within =
      chosen (λ (x : Prog (Device × Option Link)). Fares (event.Connect l) see_link d x) (nat_lt d.links_made MOST_LINKS) _ _
      (λ _. on (is_up d.remote.links l) refl) (λ _. ends (refl, rests refl refl))
    where
      raise :
          (x : Device) (t : Speaker) → t ≡ quiet_speaker x → Linked d x → is_up x.remote.links l ≡ false
          → Goes (Move W) (λ (a : Device × Option Link) s. (s ≡ quiet_speaker a.0) × Comes d page (event.Connect l) a.0 (see_link a.1)) t (connect_on x l)
      raise x t same linked off =
          let P : Speaker → Type 0 =
          λ y. Goes (Move W) (λ (a : Device × Option Link) s. (s ≡ quiet_speaker a.0) × Comes d page (event.Connect l) a.0 (see_link a.1)) y (connect_on x l) in
          subst P (sym same)
          (asks_fabric (λ r. by (raises within off)
          (Goes-answering (Move W) _ _ (with_link (next_link x))
          (λ y s q. (q.0, links refl refl (linked_trans d (raised_after x l) y (sent_on linked _ _) q.1.linked)))
          (say_passes W (raised_after x l) l (Some (hello x.sizes))
          (λ q is. (let word : hello x.sizes ≡ q = cc in subst (λ w. IsWord (raised_after x l) w) word greeting))))))

      on : (up : Bool) → is_up d.remote.links l ≡ up → Fares (event.Connect l) see_link d (and_then (cond up (lose d l) (Ret d)) (λ x. connect_on x l))
      on false off = raise d (quiet_speaker d) refl as_was off
      on true up =
          first (lets_go l within up)
          (Goes-then (Move W) _ _ (λ x. connect_on x l)
          (λ x t q. raise x t q.0 (linked_trans d (lost_after d l) x (let_go as_was l) q.1.linked) (q.1.down l (lost_down d l))) (lose_passes W d l))

  -- the far side moves
  pub give_fares : (l : Lender) → W.far l → Fares (event.Give l) see_gave d (give_to d l)
  give_fares l within = asks_fabric (λ r. by (far (far_give within)) (ends (refl, rests refl (seen_rests r))))
    where
      seen_rests : (r : Gave) → is_rest (see_gave r) ≡ true
      seen_rests gave.Nothing = refl
      seen_rests gave.End = refl
      seen_rests (gave.Got m reply heard_evict) = refl
      seen_rests (gave.Ended m) = refl

  pub cut_fares : (l : Lender) (a b : ℕ) → W.far l → Fares (event.Cut l a b) see_cut d (device.cut d l a b)
  cut_fares l a b within =
      asks_fabric (elim [ true ↦ by (far (far_cut within)) (ends (refl, rests refl refl)) | false ↦ by (far (far_cut within)) (ends (refl, rests refl refl)) ])

  pub crash_fares : (l : Lender) → W.far l → Fares (event.Crash l) see_crash d (device.crash d l)
  crash_fares l within =
      asks_fabric
      (elim [ true ↦ by (far (far_crash within)) (ends (refl, rests refl refl)) | false ↦ by (far (far_crash within)) (ends (refl, rests refl refl)) ])

  pub host_fares : (l : Lender) (used word : ℕ) → W.far l → Fares (event.Host l used word) see_host d (device.host d l used word)
  host_fares l used word within =
      asks_fabric
      (elim [ None ↦ by (far (far_host within)) (ends (refl, rests refl refl)) | Some hosted ↦ by (far (far_host within)) (ends (refl, rests refl refl)) ])

-- a slab's rate is hit by a call's first step, and each period ends with a tick
module _ (W : Within) (d : Device) (page : List ℕ) where
  -- from a device that may have other rates
  abbrev pub FaresTo : {R : Type 0} → Event → (R → Seen) → Prog (Device × R) → Type 0
  FaresTo {R} e see p = Goes (Move W) (λ (a : Device × R) s. (s ≡ quiet_speaker a.0) × ComesTo d page e a.0 (see a.1)) (quiet_speaker d) p

  rated_fares :
      {R : Type 0} {e : Event} {p : Prog (Device × R)} (see : R → Seen) (rates : List Activity) → rates_slabs e ≡ true → ((r : R) → is_of_rates (see r) ≡ true)
      → Fares W (record d { rates = rates }) page e see (record d { rates = rates }) p → FaresTo e see p
  rated_fares see rates may seen_ g = first (rates_change rates) (Goes-implies (Move W) _ _ (λ a s q. (q.0, (rates, inr (may, seen_ a.1), q.1))) g)

  same_fares : {R : Type 0} {e : Event} {p : Prog (Device × R)} (see : R → Seen) → Fares W d page e see d p → FaresTo e see p
  same_fares see g = Goes-implies (Move W) _ _ (λ a s q. (q.0, (d.rates, inl refl, q.1))) g

  -- an event's call of the device, by what is seen
  seen_fares : {R : Type 0} {e : Event} {p : Prog (Device × R)} (see : R → Seen) → FaresTo e see p → FaresTo e (λ s. s) (seen_by see p)
  seen_fares see g = Goes-answering (Move W) _ _ (λ r. (r.0, see r.1)) (λ a s q. q) g

  out_rates : (o : OutStep) → is_of_rates (see_out o) ≡ true
  out_rates (outs.Done entry to) = refl
  out_rates outs.Room = refl

  in_rates : (o : InStep) → is_of_rates (see_in o) ≡ true
  in_rates (ins.Done entry) = refl
  in_rates (ins.Wait v) = refl

  tick_rates : (o : Option Placed) → is_of_rates (see_tick o) ≡ true
  tick_rates None = refl
  tick_rates (Some placed) = refl

  pub out_fares : (c : Caller) (p : Page) → is_idle (state_of d.calls c) ≡ true → W.page p → W.bytes page → FaresTo (event.PageOut c p) see_out (out d c p page)
  out_fares c p idle within hands = rated_fares see_out (hit d p).rates refl out_rates (put_fares W (hit d p) page c p idle within hands)

  pub read_fares_hit :
      (c : Caller) (p : Page) → is_idle (state_of d.calls c) ≡ true → W.caller c → W.page p → FaresTo (event.PageIn c p) see_in (device.read d c p)
  read_fares_hit c p idle within page_within = rated_fares see_in (hit d p).rates refl in_rates (read_in_fares W (hit d p) page c p idle within page_within)

  pub tick_fares : (word : ℕ) → FaresTo (event.Tick word) see_tick (device.tick d word)
  tick_fares word =
      rated_fares see_tick (periods_ended d).rates refl tick_rates
      (Goes-implies (Move W) _ _ (λ a s q. (q.0, links refl (seen_of a.1) q.1.linked)) (place_goes W (periods_ended d) word))
    where
      seen_of : (o : Option Placed) → is_of_link (see_tick o) ≡ true
      seen_of None = refl
      seen_of (Some placed) = refl

  -- every event that names and hands in what it may
  abbrev pub Names : Event → Type 0
  Names (event.PageOut c p) = W.page p × W.bytes page
  Names (event.PageIn c p) = W.caller c × W.page p
  Names (event.Finish c) = W.caller c
  Names (event.Map t l) = W.slab t
  Names (event.Connect l) = W.lender l
  Names (event.Give l) = W.far l
  Names (event.Cut l a b) = W.far l
  Names (event.Crash l) = W.far l
  Names (event.Host l used word) = W.far l
  Names e = Unit {0}

  pub happens_fares : (e : Event) → Names e → FaresTo e (λ s. s) (happens d page e)
  happens_fares (event.PageOut c p) names =
      chosen (λ (x : Prog (Device × Seen)). FaresTo (event.PageOut c p) (λ s. s) x) (is_idle (state_of d.calls c)) _ _
      (λ idle. seen_fares see_out (out_fares c p idle names.0 names.1)) (λ _. ends (refl, (d.rates, inl refl, refuses refl)))
  happens_fares (event.PageIn c p) names =
      chosen (λ (x : Prog (Device × Seen)). FaresTo (event.PageIn c p) (λ s. s) x) (is_idle (state_of d.calls c)) _ _
      (λ idle. seen_fares see_in (read_fares_hit c p idle names.0 names.1)) (λ _. ends (refl, (d.rates, inl refl, refuses refl)))
  happens_fares (event.Finish c) names =
      chosen (λ (x : Prog (Device × Seen)). FaresTo (event.Finish c) (λ s. s) x) (is_idle (state_of d.calls c)) _ _
      (λ _. ends (refl, (d.rates, inl refl, rests refl refl))) (λ _. seen_fares see_step (same_fares see_step (finish_fares W d page c names)))
  happens_fares event.Start names = seen_fares see_start (same_fares see_start (disk_start_fares W d page))
  happens_fares (event.Disk w ok) names =
      asks_disk
      (elim [
        | true ↦ by lets_finish (seen_fares see_disk (same_fares see_disk (disk_take_fares W d page w ok)))
        | false ↦ by lets_finish (ends (refl, (d.rates, inl refl, rests refl refl)))
      ])
  happens_fares (event.Map t l) names = seen_fares see_map (same_fares see_map (map_fares W d page t l names))
  happens_fares (event.Connect l) names = seen_fares see_link (same_fares see_link (connect_fares W d page l names))
  happens_fares (event.Give l) names = seen_fares see_gave (same_fares see_gave (give_fares W d page l names))
  happens_fares (event.Take l) names = seen_fares see_take (same_fares see_take (link_take_fares W d page l))
  happens_fares (event.Tick word) names = seen_fares see_tick (tick_fares word)
  happens_fares (event.Cut l a b) names = seen_fares see_cut (same_fares see_cut (cut_fares W d page l a b names))
  happens_fares (event.Crash l) names = seen_fares see_crash (same_fares see_crash (crash_fares W d page l names))
  happens_fares (event.Host l used word) names = seen_fares see_host (same_fares see_host (host_fares W d page l used word names))
  happens_fares (event.Round word) names = ends (refl, (d.rates, inl refl, rests refl refl))

  -- the call that no event makes by itself
  pub disk_finish_goes : (w : DiskWhich) (ok : Bool) → Goes (Move W) Rests (quiet_speaker d) (disk_finish d w ok)
  disk_finish_goes w ok = asks_disk (λ r. by lets_finish (ends refl))
