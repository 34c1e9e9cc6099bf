-- Each move of a device leaves what is under way to it such that it may be taken in turn.
use Rattle.std.proofs.Common.{◌≡◌, ℕ, ◌+◌, ◌-◌, ◌<◌, ◌⊎◌, inl, inr, Bool, true, false, ◌==◌, ◌&&◌, List, [], ◌∷◌, length, refl, sym, ap, ◌∙◌, subst, Option, None, Some}
use Rattle.std.proofs.lemmas.Bool.{cond_both, cond-false, cases_eq, cases_lt, both_ways, and_parts}
use Rattle.std.proofs.lemmas.List.{get_or_past}
use Rattle.std.specs.List.{AllByRecursion}
use Rattle.swap_base.specs.declared.Page.{Page}
use Rattle.swap_base.specs.declared.Slab.{Slab}
use Rattle.swap_base.specs.declared.Lender.{Lender}
use Rattle.swap_base.specs.declared.Link.{Link}
use Rattle.swap_base.specs.declared.Lease.{Lease}
use Rattle.swap_base.specs.declared.DiskWhich.{DiskWhich}
use Rattle.swap_base.specs.declared.DiskWhich.TheVariants as which
use Rattle.swap_record.specs.History.{last}
use Rattle.swap_calls.specs.Calls as calls
use Rattle.swap_queue.specs.Queue.{Copy}
use Rattle.swap_queue.specs.Queue as queue
use Rattle.swap_disk.specs.Disk.{Taken}
use Rattle.swap_disk.specs.declared.port.DiskPort.{Ghosts as DiskMeaning}
use Rattle.swap_wire.specs.declared.Msg.{Msg}
use Rattle.swap_wire.specs.declared.Msg.TheVariants as msg
use Rattle.swap_wire.specs.declared.fabric.Sent.{Sent}
use Rattle.swap_wire.specs.declared.fabric.Sent.TheVariants as sent_is
use Rattle.swap_wire.specs.declared.fabric.Gave.{Gave}
use Rattle.swap_wire.specs.Fabric.{Parcel, Handed, Brought, NothingCame, LinkLost, FabricOf, FabricCall, Connect, Send, Take, End, Give, Cut, Crash, Host, FabricAnswer}
use Rattle.swap_slabs.specs.Slabs as slabs
use Rattle.swap_slabs.specs.Slabs.{state_of, with_state}
use Rattle.swap_slabs.specs.declared.Pair.{Pair}
use Rattle.swap_slabs.specs.declared.Reply.{Reply}
use Rattle.swap_slabs.specs.declared.Reply.TheVariants as reply
use Rattle.swap_slabs.specs.declared.SlabState.{SlabState}
use Rattle.swap_slabs.specs.declared.SlabState.TheVariants.{Local, Asking, Borrowing, Mapped}
use Rattle.swap_rings.specs.Rings.{LinkState, is_up, ring_of}
use Rattle.swap_rings.specs.Rings as rings
use Rattle.swap_rings.specs.declared.Request.{Request}
use Rattle.swap_rings.specs.declared.Request.TheVariants as request
use Rattle.swap_remote.specs.Remote as remote
use Rattle.swap_remote.specs.Remote.{Remote, slab_for}
use Rattle.swap_table.specs.Device as device
use Rattle.swap_table.specs.Device.{Device, Heard, lost_after, raised_after, next_link, query_reply, borrow_reply, write_reply, read_reply, rate_asked, taken_back}
use Rattle.swap_table.specs.Serves.{IsAwaited}
use Rattle.swap_table.specs.Goes.{stay, by_disk, by_fabric, EachKeepsWhere}
use Rattle.swap_table.specs.Moves.{Within, of_sizes, Speaker, words, Sends, write, read, borrow, query, query_too, Hears, roomy, lent, refused, written, brought, asked_rate, told_to_go, IsFar, far_give, far_cut, far_crash, far_host, Move, enters, gives, faults, waits_for_room, rates_change, lets_go, gives_up, starts, waits_for_disk, takes, lets_finish, sends, finds_down, raises, speaks, speaks_to_nobody, hears, hears_nothing, loses, misunderstands, breaks_off, far}
use Rattle.swap_table.specs.Promises.{FollowsItsMoves, Promises}
use Rattle.swap_table.proofs.MovesKeepAgreement as keep
use Rattle.swap_base.proofs.Lists.{not_eqb}
use Rattle.swap_table.proofs.LinkTables.{by_slab, link-other, state-same, state-other}
use Rattle.swap_table.proofs.SendsKeepServing.{sent-other}
use Rattle.swap_table.proofs.RepliesKeepServing.{answered-other}
use Rattle.swap_table.proofs.EvictionKeepsSlabs.{MappedBy, mapped_by_is}
use Rattle.swap_lender.specs.Table.{Turn, serve, may_send, host}
use Rattle.swap_lender.specs.Calls.{tenant}
use Rattle.swap_link.specs.Fits.{IsSound}
use Rattle.swap_link.specs.Channel.{Channel, send_after, take_after, give_after, given_from, cut_after, crash_after, connect_after, deliver_after, on_channel}
use Rattle.swap_link.specs.Harbor as harbor
use Rattle.swap_link.specs.Harbor.{Harbor, channel_of, lender_of}
use Rattle.swap_link.specs.lemmas.HarborLaws.{called, other_channel}
use Rattle.swap_link.specs.Keeping.{Unless}
use Rattle.swap_link.specs.lemmas.KeepLaws.{unless, unless-map, took-served}
use Rattle.swap_joint.specs.Lenders.{IsReached, AreSound}
use Rattle.swap_joint.specs.Turn.{IsMappedAt, Then, After, InTurn, Stays, AsksUntold, Lodges, Turned, AllTurned, AllTurnedBut, TurnedOwing}
use Rattle.swap_joint.proofs.Harbors.{harbor_meaning}
use Rattle.swap_joint.proofs.Lenders.{are_owned, connected_none}
use Rattle.swap_joint.proofs.InTurn.{turn_map, after_map, turn_take}
use Rattle.swap_joint.proofs.Notices.{served_turns, host_turns}
use Rattle.swap_joint.proofs.Sights.{state-lost}
use Rattle.swap_joint.proofs.Joins.{ServesAt}
use Rattle.swap_joint.proofs.Hears.{without_reply}
use Rattle.swap_joint.proofs.Takes.{FrontIs, taken_brings, taken_nothing}
use Rattle.swap_joint.proofs.Moves as joint
use Rattle.swap_table.proofs.LossesGoByMoves.{lost_down}
use Rattle.swap_table.proofs.MovesKeepAgreement.{with_page_slabs}
use Rattle.swap_table.proofs.AccountsKept.{written_links}

-- mapped slabs stay mapped

abbrev pub KeepsMapped : Lender → List SlabState → List SlabState → Type 0
KeepsMapped l states states' = (k : Lease) → IsMappedAt states l k → IsMappedAt states' l k

local_mapped : (l : Lender) (k : Lease) (f : ℕ) → Local ≡ Mapped l k f → ⊥
local_mapped l k f e = cc

mapped_set :
    (l : Lender) (states : List SlabState) (t : Slab) (x : SlabState) → ((k : Lease) (f : ℕ) → state_of states t ≡ Mapped l k f → (g : ℕ) × (x ≡ Mapped l k g))
    → KeepsMapped l states (with_state states t x)
mapped_set l states t x each k (u, f, is) =
    by_slab (λ u. state_of states u ≡ Mapped l k f → IsMappedAt (with_state states t x) l k) t u
    (λ is. elim (cases_lt t.0 (length states)) [
      | inl within ↦ (let now = each k f is in (t, now.0, state-same states t x within ∙ now.1))
      | inr past ↦ absurd (local_mapped l k f (sym (get_or_past states t.0 Local past) ∙ is))
    ])
    (λ other is. (u, f, state-other states t u x other ∙ is)) is

mapped_begun : (l : Lender) (states : List SlabState) (t : Slab) → KeepsMapped l states (slabs.begun_after states t)
mapped_begun l states t = mapped_set l states t (slabs.after_begin (state_of states t)) (λ k f is. (f + 1, ap slabs.after_begin is))

mapped_settled : (l : Lender) (states : List SlabState) (t : Slab) → KeepsMapped l states (slabs.settled_after states t)
mapped_settled l states t = mapped_set l states t (slabs.after_settled (state_of states t)) (λ k f is. (f - 1, ap slabs.after_settled is))

mapped_answered : (l m : Lender) (states : List SlabState) (t : Slab) (r : Reply) → KeepsMapped l states (slabs.answered_after states t m r)
mapped_answered l m states t r = mapped_set l states t (slabs.after_answer (state_of states t) m r) (λ k f is. (f, ap (λ x. slabs.after_answer x m r) is))

-- a slab that isn't mapped may change
mapped_apart :
    (l : Lender) (states : List SlabState) (t : Slab) (x : SlabState) → ((k : Lease) (f : ℕ) → state_of states t ≡ Mapped l k f → ⊥)
    → KeepsMapped l states (with_state states t x)
mapped_apart l states t x off = mapped_set l states t x (λ k f is. absurd (off k f is))

mapped_lost : (l m : Lender) (states : List SlabState) → (l.0 ≡ m.0 → ⊥) → KeepsMapped l states (slabs.lost_after states m)
mapped_lost l m states other k (u, f, is) =
    (u, f, state-lost states m u.0 ∙ ap (slabs.after_lost m) is ∙ cond-false (l.0 == m.0) Local (Mapped l k f) (not_eqb l.0 m.0 other))

not_local : (x : SlabState) (l : Lender) (k : Lease) (f : ℕ) → slabs.is_local x ≡ true → x ≡ Mapped l k f → ⊥
not_local x l k f local is = both_ways (slabs.is_local x) (ap slabs.is_local is) local

borrowing_mapped : (x : SlabState) (m l : Lender) (k : Lease) (f : ℕ) → x ≡ Borrowing m → x ≡ Mapped l k f → ⊥
borrowing_mapped x m l k f borrows is = both_ways (slabs.is_borrowing x) (ap slabs.is_borrowing is) (ap slabs.is_borrowing borrows)

-- the device changes, and its slabs stay mapped
turned_on : (states states' : List SlabState) (l : Lender) (c : Channel) → KeepsMapped l states states' → Turned states l c → Turned states' l c
turned_on states states' l c keeps h = record {
  turn = turn_map (λ k. IsMappedAt states l k) (λ k. IsMappedAt states' l k) c.to_device.parcels keeps h.turn;
  stays =
      unless-map c.lender_gone _ _
      (λ (s : Stays (λ k. IsMappedAt states l k) c.lender.slots c.to_device). λ e i n t k held.
      after_map (λ k. IsMappedAt states l k) (λ k. IsMappedAt states' l k) c.to_device.parcels keeps k (s e i n t k held))
      h.stays;
}

-- a link as another sees the device
pub record Sees (l : Lender) (d d' : Device) : Type 0 where
  pub mapped : KeepsMapped l d.remote.slabs d'.remote.slabs
  pub up : is_up d'.remote.links l ≡ is_up d.remote.links l

sees_same : (l : Lender) (d d' : Device) → d'.remote ≡ d.remote → Sees l d d'
sees_same l d d' same = record { mapped = λ k h. subst (λ (r : Remote). IsMappedAt r.slabs l k) (sym same) h; up = ap (λ (r : Remote). is_up r.links l) same }

turned_alone : (n : ℕ) (d d' : Device) (h : Harbor) → ((l : Lender) → Sees l d d') → AllTurned n d h → AllTurned n d' h
turned_alone n d d' h sees all l within up = turned_on d.remote.slabs d'.remote.slabs l (channel_of h l) (sees l).mapped (all l within (sym (sees l).up ∙ up))

but : (m : Lender) (n : ℕ) (d : Device) (h : Harbor) → AllTurned n d h → AllTurnedBut m n d h
but m n d h all l within other up = all l within up

others :
    (n : ℕ) (d d' : Device) (f g : Harbor) (c : FabricCall) (r : FabricAnswer c) → harbor.Moves f c r g
    → ((l : Lender) → (l.0 ≡ (lender_of c).0 → ⊥) → Sees l d d') → AllTurnedBut (lender_of c) n d f → AllTurnedBut (lender_of c) n d' g
others n d d' f g c r moved sees all l within other up =
    let P : FabricAnswer c × Harbor → Type 0 = λ x. Turned d'.remote.slabs l (channel_of x.1 l) in
    subst P moved.1 (subst (λ ch. Turned d'.remote.slabs l ch) (sym (other_channel f l (lender_of c) (on_channel (channel_of f (lender_of c)) c).1 other))
    (turned_on d.remote.slabs d'.remote.slabs l (channel_of f l) (sees l other).mapped (all l within other (sym (sees l other).up ∙ up))))

through_call :
    (n : ℕ) (d d' : Device) (f g : Harbor) (c : FabricCall) (r : FabricAnswer c) → harbor.Moves f c r g
    → ((l : Lender) → (l.0 ≡ (lender_of c).0 → ⊥) → Sees l d d') → AllTurnedBut (lender_of c) n d f
    → ((lender_of c).0 < n → is_up d'.remote.links (lender_of c) ≡ true → Turned d'.remote.slabs (lender_of c) (on_channel (channel_of f (lender_of c)) c).1)
    → AllTurned n d' g
through_call n d d' f g c r moved sees all here l within up = elim (cases_eq l.0 (lender_of c).0) [
  | inl e ↦ (
      let same : lender_of c ≡ l = ap (λ (k : ℕ). record { 0 = k }) (sym e) in
      let P : FabricAnswer c × Harbor → Type 0 = λ x. Turned d'.remote.slabs (lender_of c) (channel_of x.1 (lender_of c)) in
      let at : Turned d'.remote.slabs (lender_of c) (channel_of g (lender_of c)) =
      subst P moved.1
      (subst (λ ch. Turned d'.remote.slabs (lender_of c) ch) (sym (called f (lender_of c) (on_channel (channel_of f (lender_of c)) c).1 moved.0.range))
      (here (subst (λ (x : Lender). x.0 < n) (sym same) within) (subst (λ (x : Lender). is_up d'.remote.links x ≡ true) (sym same) up)))
      in
      subst (λ (x : Lender). Turned d'.remote.slabs x (channel_of g x)) same at
      )
  | inr other ↦ others n d d' f g c r moved sees all l within other up
]

sees_lost : (l m : Lender) (d : Device) → (l.0 ≡ m.0 → ⊥) → Sees l d (lost_after d m)
sees_lost l m d other =
    record { mapped = mapped_lost l m d.remote.slabs other; up = ap (λ (k : LinkState). k.up) (link-other d.remote.links m l rings.down other) }

after_loss : (n : ℕ) (d : Device) (h : Harbor) (m : Lender) → AllTurnedBut m n d h → AllTurned n (lost_after d m) h
after_loss n d h m all l within up = elim (cases_eq l.0 m.0) [
  | inl e ↦
      absurd (both_ways (is_up (lost_after d m).remote.links l) (subst (λ k. is_up (lost_after d m).remote.links (record { 0 = k })
      ≡ false) (sym e) (lost_down d m)) up)
  | inr other ↦
      turned_on d.remote.slabs (lost_after d m).remote.slabs l (channel_of h l) (mapped_lost l m d.remote.slabs other)
      (all l within other (sym (sees_lost l m d other).up ∙ up))
]

itself : (l : Lender) (d : Device) → Sees l d d
itself l d = sees_same l d d refl

down :
    (n : ℕ) (d : Device) (f g : Harbor) (c : FabricCall) (r : FabricAnswer c) → harbor.Moves f c r g → AllTurnedBut (lender_of c) n d f
    → AllTurned n (lost_after d (lender_of c)) g
down n d f g c r moved all = after_loss n d g (lender_of c) (others n d d f g c r moved (λ l other. itself l d) all)

-- the channel that was called

turned_sent : (states : List SlabState) (l : Lender) (c : Channel) (q : Parcel) → Turned states l c → Turned states l (send_after c q).1
turned_sent states l c q h = cond_both c.device_gone _ _ (λ (x : Sent × Channel). Turned states l x.1) (λ _. h) (λ _. record { turn = h.turn; stays = h.stays })

-- all its slots stay for it, where the lender's end stands; and none are held where it is gone
stays_here : (states : List SlabState) (l : Lender) (c : Channel) → Lodges c → Turned states l c → Stays (λ k. IsMappedAt states l k) c.lender.slots c.to_device
stays_here states l c lodges h = go c.lender_gone refl h.stays
  where
    go :
        (b : Bool) → c.lender_gone ≡ b → Unless b (Stays (λ k. IsMappedAt states l k) c.lender.slots c.to_device)
        → Stays (λ k. IsMappedAt states l k) c.lender.slots c.to_device
    go false stands s = s
    go true left s = λ e i n t k held. absurd (both_ways c.lender_gone (lodges i (record { link = n; slab = t; lease = k }) (ap tenant held)).0 left)

pub stands_so : (b : Bool) (P : Type 0) → P → Unless b P
stands_so true P p = tt
stands_so false P p = p

turned_given :
    (states : List SlabState) (l : Lender) (c : Channel) → IsSound c.lender → AsksUntold c.lender.round c.lender.slots → Lodges c → Turned states l c
    → Turned states l (give_after c).1
turned_given states l c sound untold lodges h =
    cond_both c.lender_gone _ _ (λ (x : Gave × Channel). Turned states l x.1) (λ _. h) (λ stands. from c.to_lender.parcels)
  where
    fine :
        (q : Parcel) (ps : List Parcel)
        → Turned states l (deliver_after (record c { to_lender = record c.to_lender { parcels = ps } }) (serve c.lender c.number q.msg q.page))
    fine q ps =
        let both = served_turns (λ k. IsMappedAt states l k) c.number c.lender q.msg q.page c.to_device sound untold h.turn (stays_here states l c lodges h) in
        record { turn = both.0; stays = stands_so c.lender_gone _ both.1 }

    from : (ps : List Parcel) → Turned states l (given_from c ps).1
    from [] = cond_both c.to_lender.ended _ _ (λ (x : Gave × Channel). Turned states l x.1) (λ _. record { turn = h.turn; stays = tt }) (λ _. h)
    from (q ∷ ps) =
        cond_both (may_send c.lender c.number q.msg) _ _ (λ (x : Gave × Channel). Turned states l x.1)
        (λ may.
        subst (λ (t : Turn). Turned states l (deliver_after (record c { to_lender = record c.to_lender { parcels = ps } }) t))
        (sym (took-served c.lender c.number q.msg q.page may)) (fine q ps))
        (λ _. record { turn = h.turn; stays = tt })

turned_hosted :
    (states : List SlabState) (l : Lender) (c : Channel) (used word : ℕ) → IsReached c.lender → Lodges c → Turned states l c
    → Turned states l (deliver_after c (host c.lender used word))
turned_hosted states l c used word reached lodges h =
    let both =
    host_turns (λ k. IsMappedAt states l k) c.number c.lender used word c.to_device reached (λ m r. (are_owned m r).round) h.turn
    (stays_here states l c lodges h) in
    record { turn = both.0; stays = stands_so c.lender_gone _ both.1 }

turned_cut : (states : List SlabState) (l : Lender) (c : Channel) (m n : ℕ) → Turned states l c → Turned states l (cut_after c m n).1
turned_cut states l c m n h =
    record {
      turn = turn_take (λ k. IsMappedAt states l k) n c.to_device.parcels h.turn;
      stays = stands_so c.lender_gone _ (λ e i n t k held. absurd (both_ways true e refl));
    }

turned_crashed : (states : List SlabState) (l : Lender) (c : Channel) → Turned states l c → Turned states l (crash_after c)
turned_crashed states l c h =
    cond_both c.lender_gone _ _ (λ (x : Channel). Turned states l x)
    (λ left. record { turn = h.turn; stays = unless c.lender_gone _ (λ f. absurd (both_ways c.lender_gone f left)) })
    (λ _. record { turn = h.turn; stays = tt })

turned_new : (states : List SlabState) (l : Lender) (c : Channel) (n : Link) → Lodges c → Turned states l (connect_after c n)
turned_new states l c n lodges =
    record { turn = tt; stays = λ e i m t k held. absurd (connected_none c n lodges i (record { link = m; slab = t; lease = k }) (ap tenant held)) }

-- a message is taken: the slabs stay mapped, or it maps one, or takes one back
turned_taken :
    (states states' : List SlabState) (l : Lender) (c : Channel) (q : Parcel) (qs : List Parcel) → c.to_device.parcels ≡ q ∷ qs
    → ((k : Lease) → Then (λ j. IsMappedAt states l j) q.msg k → IsMappedAt states' l k) → Turned states l c → Turned states' l (without_reply c qs)
turned_taken states states' l c q qs front each h =
    let M : Lease → Type 0 = λ k. IsMappedAt states l k in
    let N : Lease → Type 0 = λ k. IsMappedAt states' l k in
    record {
      turn =
          turn_map (λ k. Then (λ j. IsMappedAt states l j) q.msg k) (λ k. IsMappedAt states' l k) qs each
          (subst (λ ps. InTurn (λ j. IsMappedAt states l j) ps) front h.turn).1;
      stays = unless-map c.lender_gone _ _
          (λ (s : Stays (λ k. IsMappedAt states l k) c.lender.slots c.to_device). λ e i n t k held.
          after_map (λ k. Then (λ j. IsMappedAt states l j) q.msg k) (λ k. IsMappedAt states' l k) qs each k
          (subst (λ ps. After (λ j. IsMappedAt states l j) ps k) front (s e i n t k held)))
          h.stays;
    }

room_then : (M : Lease → Type 0) (m : Msg) (r : Slab × ℕ) (k : Lease) → query_reply m ≡ Some r → Then M m k → M k
room_then M (msg.Room slab free) r k e h = h
room_then M _ r k e h = cc

refused_then : (M : Lease → Type 0) (m : Msg) (u : Slab) (k : Lease) → borrow_reply m ≡ Some (u, None) → Then M m k → M k
refused_then M (msg.Refused slab) u k e h = h
refused_then M (msg.Lent slab lease) u k e h = absurd (neither (let F : Option (Slab × Option Lease) → Bool = is_loan in ap F e))
  where
    is_some : Option Lease → Bool
    is_some None = false
    is_some (Some k) = true

    is_loan : Option (Slab × Option Lease) → Bool
    is_loan None = false
    is_loan (Some reply) = is_some reply.1

    neither : true ≡ false → ⊥
    neither e = cc
refused_then M _ u k e h = cc

lent_then : (M : Lease → Type 0) (m : Msg) (u : Slab) (j k : Lease) → borrow_reply m ≡ Some (u, Some j) → Then M m k → M k ⊎ (j.0 ≡ k.0)
lent_then M (msg.Lent slab lease) u j k e (inl h) = inl h
lent_then M (msg.Lent slab lease) u j k e (inr h) = inr (sym (let F : Option (Slab × Option Lease) → ℕ = lease_in in ap F e) ∙ h)
  where
    of_lease : Option Lease → ℕ
    of_lease None = 0
    of_lease (Some k) = k.0

    lease_in : Option (Slab × Option Lease) → ℕ
    lease_in None = 0
    lease_in (Some reply) = of_lease reply.1
lent_then M (msg.Refused slab) u j k e h = inl h
lent_then M _ u j k e h = cc

wrote_then : (M : Lease → Type 0) (m : Msg) (r : Lease × ℕ) (k : Lease) → write_reply m ≡ Some r → Then M m k → M k
wrote_then M (msg.Wrote lease place) r k e h = h
wrote_then M _ r k e h = cc

page_then : (M : Lease → Type 0) (m : Msg) (r : Lease × ℕ) (k : Lease) → read_reply m ≡ Some r → Then M m k → M k
page_then M (msg.PageIs lease place) r k e h = h
page_then M _ r k e h = cc

rate_then : (M : Lease → Type 0) (m : Msg) (j k : Lease) → rate_asked m ≡ Some j → Then M m k → M k
rate_then M (msg.AskRates lease) j k e h = h
rate_then M _ j k e h = cc

back_then : (M : Lease → Type 0) (m : Msg) (j k : Lease) → taken_back m ≡ Some j → Then M m k → M k × (j.0 ≡ k.0 → ⊥)
back_then M (msg.Evict lease) j k e h = (h.0, λ same. h.1 ((let F : Option Lease → ℕ = of_lease in ap F e) ∙ same))
  where
    of_lease : Option Lease → ℕ
    of_lease None = 0
    of_lease (Some k) = k.0
back_then M _ j k e h = cc

-- a message that is heard
module _ (n : ℕ) (d : Device) (h g : Harbor) (l : Lender) (q : Parcel) (all : AllTurned n d h) (serves : ServesAt n d h)
    (present : (channel_of h l).device_gone ≡ false) (up : is_up d.remote.links l ≡ true) (moved : harbor.Moves h (Take l) (Brought q) g) where
  front : FrontIs (channel_of h l) q
  front = taken_brings (channel_of h l) q present (ap (λ (x : Handed × Harbor). x.0) moved.1)

  heard_via :
      (d' : Device) → ((m : Lender) → (m.0 ≡ l.0 → ⊥) → Sees m d d')
      → ((k : Lease) → Then (λ j. IsMappedAt d.remote.slabs l j) q.msg k → IsMappedAt d'.remote.slabs l k) → AllTurned n d' g
  heard_via d' sees each =
      through_call n d d' h g (Take l) (Brought q) moved sees (but l n d h all)
      (λ within _.
      subst (λ ch. Turned d'.remote.slabs l ch) (sym front.after)
      (turned_taken d.remote.slabs d'.remote.slabs l (channel_of h l) q front.rest front.is each (all l within up)))

  answered_up :
      (m : Lender) (states : List SlabState) (bits : List Bool) → (m.0 ≡ l.0 → ⊥) → KeepsMapped m d.remote.slabs states
      → Sees m d (record d { remote = record { bits = bits; slabs = states; links = rings.answered_after d.remote.links l } })
  answered_up m states bits other mapped = record { mapped = mapped; up = ap (λ (k : LinkState). k.up) (answered-other d.remote.links l m other) }

  borrows :
      (t : Slab) (rest : List Request) → ring_of d.remote.links l ≡ request.Borrow t ∷ rest → (t.0 < d.sizes.slabs) × (state_of d.remote.slabs t ≡ Borrowing l)
  borrows t rest is = (subst (λ ys. AllByRecursion (IsAwaited d.sizes d.history d.calls d.remote.slabs l) ys) is (serves.link l).awaited).0

  written_sees :
      (m : Lender) (b : Bool) (p : Page) → (m.0 ≡ l.0 → ⊥) → Sees m d (record d { remote = remote.with_page_if b (remote.settled_for d.sizes d.remote l p) p })
  written_sees m b p other = record {
    mapped =
        λ k at.
        subst (λ states. IsMappedAt states m k) (sym (with_page_slabs b (remote.settled_for d.sizes d.remote l p) p))
        (mapped_settled m d.remote.slabs (slab_for d.sizes p) k at);
    up =
        ap (λ links. is_up links m) (written_links b (remote.settled_for d.sizes d.remote l p) p)
        ∙ ap (λ (k : LinkState). k.up) (answered-other d.remote.links l m other);
  }

  pub heard_turned : (x : Heard) → Hears d l q x → AllTurned n x.device g
  heard_turned x (roomy {t = t} {u = u} {free = free} is says same) =
      heard_via (record d { remote = remote.told_after d.remote l t free })
      (λ m other.
      answered_up m (slabs.answered_after d.remote.slabs t l (reply.Free free)) d.remote.bits other (mapped_answered m l d.remote.slabs t (reply.Free free)))
      (λ k at. mapped_answered l l d.remote.slabs t (reply.Free free) k (room_then (λ j. IsMappedAt d.remote.slabs l j) q.msg (u, free) k says at))
  heard_turned x (lent {t = t} {u = u} {k = j} {rest = rest} is says same none) =
      let was = borrows t rest is in
      let within : t.0 < length d.remote.slabs = subst (λ m. t.0 < m) (sym serves.slabs_len) was.0 in
      let states : List SlabState = slabs.lent_after d.remote.slabs t j in
      let apart : (m : Lender) → KeepsMapped m d.remote.slabs states =
      λ m.
      mapped_apart m d.remote.slabs t (slabs.after_lent (state_of d.remote.slabs t) j)
      (λ k f at. borrowing_mapped (state_of d.remote.slabs t) l m k f was.1 at) in
      heard_via (record d { remote = remote.lent_after d.remote l t j }) (λ m other. answered_up m states d.remote.bits other (apart m))
      (λ k at. elim (lent_then (λ j. IsMappedAt d.remote.slabs l j) q.msg u j k says at) [
        | inl old ↦ apart l k old
        | inr new ↦ (
          t,
          0,
          state-same d.remote.slabs t (slabs.after_lent (state_of d.remote.slabs t) j) within ∙ ap (λ y. slabs.after_lent y j) was.1
              ∙ ap (λ i. Mapped l (record { 0 = i }) 0) new,
        )
      ])
  heard_turned x (refused {t = t} {u = u} {rest = rest} is says same) =
      let was = borrows t rest is in
      let apart : (m : Lender) → KeepsMapped m d.remote.slabs (slabs.refused_after d.remote.slabs t) =
      λ m. mapped_apart m d.remote.slabs t Local (λ k f at. borrowing_mapped (state_of d.remote.slabs t) l m k f was.1 at) in
      heard_via (record d { remote = remote.refused_after d.remote l t }) (λ m other. answered_up m (slabs.refused_after d.remote.slabs t) d.remote.bits other
      (apart m))
      (λ k at. apart l k (refused_then (λ j. IsMappedAt d.remote.slabs l j) q.msg u k says at))
  heard_turned x (written {p = p} {e = e} {at = at} is says named) =
      let b : Bool = device.is_newest (last d.history p) e && slabs.is_mapped (remote.state_for d.sizes d.remote.slabs p) in
      heard_via (record d { remote = remote.written_after d.sizes d.remote l p (device.is_newest (last d.history p) e) })
      (λ m other. written_sees m (device.is_newest (last d.history p) e && slabs.is_mapped (remote.state_for d.sizes d.remote.slabs p)) p other)
      (λ k held.
      subst (λ states. IsMappedAt states l k)
      (sym
      (with_page_slabs (device.is_newest (last d.history p) e && slabs.is_mapped (remote.state_for d.sizes d.remote.slabs p))
      (remote.settled_for d.sizes d.remote l p) p))
      (mapped_settled l d.remote.slabs (slab_for d.sizes p) k (wrote_then (λ j. IsMappedAt d.remote.slabs l j) q.msg at k says held)))
  heard_turned x (brought {c = a} {p = p} {at = at} is says named) =
      heard_via (record d { remote = remote.settled_for d.sizes d.remote l p; calls = calls.came_after d.calls a q.page })
      (λ m other.
      record { mapped = mapped_settled m d.remote.slabs (slab_for d.sizes p); up = ap (λ (k : LinkState). k.up) (answered-other d.remote.links l m other) })
      (λ k held. mapped_settled l d.remote.slabs (slab_for d.sizes p) k (page_then (λ j. IsMappedAt d.remote.slabs l j) q.msg at k says held))
  heard_turned x (asked_rate {t = t} {k = j} says at) =
      heard_via d (λ m other. itself m d) (λ k held. rate_then (λ j. IsMappedAt d.remote.slabs l j) q.msg j k says held)
  heard_turned x (told_to_go {t = t} {k = j} says at) =
      let m : MappedBy d.remote.slabs l j t = mapped_by_is d.remote.slabs l j t at in
      heard_via (record d { remote = remote.evicted_after d.sizes d.remote t })
      (λ o other.
      record {
        mapped =
            mapped_apart o d.remote.slabs t (slabs.after_evict (state_of d.remote.slabs t))
            (λ k f is. other (sym (lender_is l o j k m.flying f (sym m.is ∙ is))));
        up = refl;
      })
      (λ k held. let was = back_then (λ j. IsMappedAt d.remote.slabs l j) q.msg j k says held in (
        was.0.0,
        was.0.1,
        state-other d.remote.slabs t was.0.0 (slabs.after_evict (state_of d.remote.slabs t))
            (λ same. was.1 (lease_is l j k m.flying was.0.1 (sym m.is ∙ ap (λ i. state_of d.remote.slabs (record { 0 = i })) (sym same) ∙ was.0.2)))
            ∙ was.0.2,
      ))
    where
      lender_is : (a b : Lender) (j k : Lease) (f g : ℕ) → Mapped a j f ≡ Mapped b k g → a.0 ≡ b.0
      lender_is a b j k f g e = cc

      lease_is : (a : Lender) (j k : Lease) (f g : ℕ) → Mapped a j f ≡ Mapped a k g → j.0 ≡ k.0
      lease_is a j k f g e = cc

-- what is sent leaves the slabs mapped
local_apart :
    (l m : Lender) (d : Device) (t : Slab) (x : SlabState) → slabs.is_local (state_of d.remote.slabs t) ≡ true
    → KeepsMapped m d.remote.slabs (with_state d.remote.slabs t x)
local_apart l m d t x local = mapped_apart m d.remote.slabs t x (λ k f is. not_local (state_of d.remote.slabs t) m k f local is)

asking_apart :
    (m : Lender) (d : Device) (t : Slab) (x : SlabState) (pair : Pair) → state_of d.remote.slabs t ≡ Asking pair
    → KeepsMapped m d.remote.slabs (with_state d.remote.slabs t x)
asking_apart m d t x pair asks =
    mapped_apart m d.remote.slabs t x (λ k f is. both_ways (slabs.is_mapped (state_of d.remote.slabs t)) (ap slabs.is_mapped asks) (ap slabs.is_mapped is))

sent_mapped : (W : Within) (d : Device) (l m : Lender) (q : Parcel) (e base : Device) → Sends W d l q e base → KeepsMapped m d.remote.slabs e.remote.slabs
sent_mapped W d l m q e base (write {p = p} outs is) = mapped_begun m d.remote.slabs (slab_for d.sizes p)
sent_mapped W d l m q e base (read {p = p} ins within is none at) = mapped_begun m d.remote.slabs (slab_for d.sizes p)
sent_mapped W d l m q e base (borrow {t = t} within may) = local_apart l m d t (Borrowing l) (and_parts (slabs.is_local (state_of d.remote.slabs t)) _ may).0
sent_mapped W d l m q e base (query {t = t} within may) =
    local_apart l m d t (Asking (slabs.pair_of l None)) (and_parts (slabs.is_local (state_of d.remote.slabs t)) _ may).0
sent_mapped W d l m q e base (query_too {t = t} {m = o} within state other may) =
    asking_apart m d t (Asking (slabs.pair_of o (Some l))) (slabs.pair_of o None) state

pub sent_up :
    (W : Within) (d : Device) (l m : Lender) (q : Parcel) (e base : Device) → Sends W d l q e base → (m.0 ≡ l.0 → ⊥)
    → is_up e.remote.links m ≡ is_up d.remote.links m
sent_up W d l m q e base (write {p = p} outs is) other = ap (λ (k : LinkState). k.up) (sent-other d.remote.links l m _ other)
sent_up W d l m q e base (read {p = p} ins within is none at) other = ap (λ (k : LinkState). k.up) (sent-other d.remote.links l m _ other)
sent_up W d l m q e base (borrow {t = t} within may) other = ap (λ (k : LinkState). k.up) (sent-other d.remote.links l m _ other)
sent_up W d l m q e base (query {t = t} within may) other = ap (λ (k : LinkState). k.up) (sent-other d.remote.links l m _ other)
sent_up W d l m q e base (query_too {t = t} within state not may) other = ap (λ (k : LinkState). k.up) (sent-other d.remote.links l m _ other)

base_mapped : (W : Within) (d : Device) (l m : Lender) (q : Parcel) (e base : Device) → Sends W d l q e base → Sees m d base
base_mapped W d l m q e base (write {c = c} {p = p} {bytes = bytes} outs is) = record { mapped = λ k h. h; up = refl }
base_mapped W d l m q e base (read ins within is none at) = itself m d
base_mapped W d l m q e base (borrow within may) = itself m d
base_mapped W d l m q e base (query within may) = itself m d
base_mapped W d l m q e base (query_too within state other may) = itself m d

wrote_remote : (d : Device) (p : Page) (copy : Option Copy) (ok : Bool) → (device.wrote_after d p copy ok).0.remote ≡ d.remote
wrote_remote d p None ok = refl
wrote_remote d p (Some copy) true = refl
wrote_remote d p (Some copy) false = refl

took_remote : (d : Device) (w : DiskWhich) (p : Page) (ok : Bool) (bytes : List ℕ) → (device.took_after d w p ok bytes).0.remote ≡ d.remote
took_remote d (which.Write q) p ok bytes = wrote_remote d p (queue.flying d.queue p) ok
took_remote d (which.Read c) p true bytes = refl
took_remote d (which.Read c) p false bytes = refl

pub back_remote : (d : Device) (taken : Option Taken) → (device.took_back d taken).0.remote ≡ d.remote
back_remote d None = refl
back_remote d (Some t) = took_remote d t.done.which t.done.page t.done.ok t.bytes

module _ {D : Type 0} (disk : DiskMeaning D) (follows : FollowsItsMoves disk) (laws : Promises harbor_meaning) (T : Bool) (o : FabricOf)
    (far_may : Lender → Type 0) (bytes_may : List ℕ → Type 0) where
  abbrev There : Within
  There = of_sizes o.sizes o.lenders far_may bytes_may

  abbrev n : ℕ
  n = o.lenders

  abbrev Before : Speaker → D → Harbor → Type 0
  Before x k h = joint.Agrees disk follows laws T o far_may bytes_may x k h × joint.JoinedAt disk follows laws T o far_may bytes_may x k h

  abbrev pub TurnedAt : Speaker → D → Harbor → Type 0
  TurnedAt x k h = TurnedOwing o.lenders x.device h x.owed

  alone : (d d' : Device) (h : Harbor) → d'.remote ≡ d.remote → AllTurned o.lenders d h → AllTurned o.lenders d' h
  alone d d' h same all = turned_alone o.lenders d d' h (λ l. sees_same l d d' same) all

  words_turned : (d : Device) (h : Harbor) (l : Lender) (word : Option Parcel) → AllTurned o.lenders d h → TurnedOwing o.lenders d h (words l word)
  words_turned d h l None all = all
  words_turned d h l (Some q) all = all

  far_turned :
      (d : Device) (f g : Harbor) (c : FabricCall) (r : FabricAnswer c) → IsFar There c → AreSound f → AllTurned o.lenders d f → harbor.Moves f c r g
      → AllTurned o.lenders d g
  far_turned d f g c r (far_give {l = l} may) sound all moved =
      through_call o.lenders d d f g (Give l) r moved (λ m other. itself m d) (but l o.lenders d f all)
      (λ within up.
      turned_given d.remote.slabs l (channel_of f l) moved.0.channel.sound (sound.untold l moved.0.range) (sound.lodged l moved.0.range) (all l within up))
  far_turned d f g c r (far_cut {l = l} {a = a} {b = b} may) sound all moved =
      through_call o.lenders d d f g (Cut l a b) r moved (λ m other. itself m d) (but l o.lenders d f all)
      (λ within up. turned_cut d.remote.slabs l (channel_of f l) a b (all l within up))
  far_turned d f g c r (far_crash {l = l} may) sound all moved =
      through_call o.lenders d d f g (Crash l) r moved (λ m other. itself m d) (but l o.lenders d f all)
      (λ within up. turned_crashed d.remote.slabs l (channel_of f l) (all l within up))
  far_turned d f g c r (far_host {l = l} {used = used} {word = word} may) sound all moved =
      through_call o.lenders d d f g (Host l used word) r moved (λ m other. itself m d) (but l o.lenders d f all)
      (λ within up. turned_hosted d.remote.slabs l (channel_of f l) used word (sound.reached l moved.0.range) (sound.lodged l moved.0.range) (all l within up))

  said_turned :
      (d : Device) (f g : Harbor) (l : Lender) (q : Parcel) → AllTurned o.lenders d f → harbor.Moves f (Send l q) sent_is.Sent g → AllTurned o.lenders d g
  said_turned d f g l q all moved =
      through_call o.lenders d d f g (Send l q) sent_is.Sent moved (λ m other. itself m d) (but l o.lenders d f all)
      (λ within up. turned_sent d.remote.slabs l (channel_of f l) q (all l within up))

  pub each_turned : EachKeepsWhere disk.moves harbor.Moves (Move There) Before TurnedAt
  each_turned x asked y k k' f f' (enters {d = d} {c = c} {p = p} {bytes = bytes} outs) stay before all =
      turned_alone o.lenders d (device.enter_entry d c p bytes) f (λ l. record { mapped = λ k h. h; up = refl }) all
  each_turned x asked y k k' f f' (gives {d = d} {c = c} {p = p} {named = named} {from = from} {bytes = bytes} give_after) stay before all =
      alone d (device.give d c p named from bytes) f refl all
  each_turned x asked y k k' f f' (faults {d = d} {c = c} {p = p} {k = kind} {since = since} {at = at} {bytes = bytes} fails) stay before all =
      alone d (device.fault d c p kind since at bytes) f refl all
  each_turned x asked y k k' f f' (waits_for_room {d = d} c p bytes e within hands) stay before all = alone d (device.wait_for_room d c p bytes) f refl all
  each_turned x asked y k k' f f' (rates_change {d = d} rates) stay before all = alone d (record d { rates = rates }) f refl all
  each_turned x asked y k k' f f' (lets_go {d = d} l within up) stay before all = after_loss o.lenders d f l (but l o.lenders d f all)
  each_turned x asked y k k' f f' (gives_up {d = d} l t off asks) stay before all =
      turned_alone o.lenders d (record d { remote = remote.gone_after d.remote l t }) f
      (λ m. record { mapped = mapped_answered m l d.remote.slabs t reply.Gone; up = refl }) all
  each_turned x asked y k k' f f' (starts {d = d} el ec) (by_disk moved) before all = alone d (record d { queue = queue.start d.queue }) f refl all
  each_turned x asked y k k' f f' (waits_for_disk {d = d} {c = c} {p = p} {n = e} ins within is none) (by_disk moved) before all =
      alone d (device.wait_for_disk d c p e) f refl all
  each_turned x asked y k k' f f' (takes {d = d} {taken = take_after}) (by_disk moved) before all =
      alone d (device.took_back d take_after).0 f (back_remote d take_after) all
  each_turned x asked y k k' f f' lets_finish (by_disk moved) before all = all
  each_turned x asked y k k' f f' (sends {d = d} {e = e} {base = base} {l = l} {q = q} one) (by_fabric moved) before all =
      through_call o.lenders d e f f' (Send l q) sent_is.Sent moved
      (λ m other. record { mapped = sent_mapped There d l m q e base one; up = sent_up There d l m q e base one other }) (but l o.lenders d f all)
      (λ within up.
      turned_on d.remote.slabs e.remote.slabs l (send_after (channel_of f l) q).1 (sent_mapped There d l l q e base one)
      (turned_sent d.remote.slabs l (channel_of f l) q (all l within (keep.sends_up There d l q e base one))))
  each_turned x asked y k k' f f' (finds_down {d = d} {e = e} {base = base} {l = l} {q = q} one) (by_fabric moved) before all =
      down o.lenders base f f' (Send l q) sent_is.Down moved
      (but l o.lenders base f (turned_alone o.lenders d base f (λ m. base_mapped There d l m q e base one) all))
  each_turned x asked y k k' f f' (raises {d = d} {l = l} {r = r} within off) (by_fabric moved) before all =
      through_call o.lenders d (raised_after d l) f f' (Connect l (next_link d)) r moved
      (λ m other. record { mapped = λ k h. h; up = ap (λ (k : LinkState). k.up) (link-other d.remote.links l m rings.link_at_start other) })
      (but l o.lenders d f all)
      (λ _ up. turned_new d.remote.slabs l (channel_of f l) (next_link d) (before.1.0.lodged l moved.0.range))
  each_turned x asked y k k' f f' (speaks {d = d} {l = l} {q = q} word) (by_fabric moved) before all = said_turned d f f' l q all moved
  each_turned x asked y k k' f f' (speaks_to_nobody {d = d} {l = l} {q = q} word) (by_fabric moved) before all =
      down o.lenders d f f' (Send l q) sent_is.Down moved (but l o.lenders d f all)
  each_turned x asked y k k' f f' (hears {d = d} {h = heard} {l = l} {q = q} up one) (by_fabric moved) before all =
      words_turned heard.device f' l heard.word
      (heard_turned o.lenders d f f' l q all (joint.serves_at disk follows laws T o far_may bytes_may d k f before.0)
      (joint.present_at disk follows laws T o far_may bytes_may d k f l before.0 before.1.1 up) up moved heard one)
  each_turned x asked y k k' f f' (hears_nothing {d = d} {l = l} up) (by_fabric moved) before all =
      through_call o.lenders d d f f' (Take l) NothingCame moved (λ m other. itself m d) (but l o.lenders d f all)
      (λ within up.
      subst (λ ch. Turned d.remote.slabs l ch) (sym (taken_nothing (channel_of f l) (ap (λ (x : Handed × Harbor). x.0) moved.1))) (all l within up))
  each_turned x asked y k k' f f' (loses {d = d} {l = l} up) (by_fabric moved) before all =
      down o.lenders d f f' (Take l) LinkLost moved (but l o.lenders d f all)
  each_turned x asked y k k' f f' (misunderstands {d = d} {l = l} {q = q} up) (by_fabric moved) before all =
      others o.lenders d d f f' (Take l) (Brought q) moved (λ m other. itself m d) (but l o.lenders d f all)
  each_turned x asked y k k' f f' (breaks_off {d = d} {l = l} {r = r}) (by_fabric moved) before all = down o.lenders d f f' (End l) r moved all
  each_turned x asked y k k' f f' (far {d = d} {c = c} {r = r} one) (by_fabric moved) before all = far_turned d f f' c r one before.1.0 all moved
