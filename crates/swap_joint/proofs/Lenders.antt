-- What each call leaves of the slots of the lenders in memory.
use Rattle.std.proofs.Common.{◌≡◌, ℕ, ◌<◌, Bool, true, false, ◌&&◌, ◌||◌, not, zero, suc, List, [], ◌∷◌, ◌++◌, length, map, get_or, set, replicate, eq-eqb, refl, sym, ap, ◌∙◌, subst, length-set, Option, None, Some}
use Rattle.std.specs.Prelude.{◌==◌, option_map}
use Rattle.std.specs.List.{fold, list_any}
use Rattle.std.proofs.lemmas.Bool.{cond_both, cond-true, both_ways}
use Rattle.std.proofs.lemmas.List.{length-map, length-replicate}
use Rattle.std.proofs.lemmas.List.Elements.{All-get_or}
use Rattle.swap_base.specs.declared.Lender.{Lender as LenderNo}
use Rattle.swap_base.specs.declared.Link.{Link}
use Rattle.swap_base.specs.Sizes.{Sizes}
use Rattle.swap_wire.specs.declared.Msg.{Msg}
use Rattle.swap_wire.specs.declared.Msg.TheVariants as msg
use Rattle.swap_wire.specs.declared.fabric.Sent.{Sent}
use Rattle.swap_wire.specs.declared.fabric.Gave.{Gave}
use Rattle.swap_wire.specs.Fabric.{FabricOf, Parcel, Handed, FabricCall, Connect, Send, Take, End, Give, Cut, Crash, Host, FabricAnswer}
use Rattle.swap_evict.specs.Rounds.{Round, round_at_start, answer, leave}
use Rattle.swap_base.specs.declared.Slab.{Slab}
use Rattle.swap_base.specs.declared.Lease.{Lease}
use Rattle.swap_choice.specs.Slots.{has}
use Rattle.swap_choice.proofs.Chosen.{has-zero}
use Rattle.swap_lender.specs.declared.SlotState.{SlotState}
use Rattle.swap_lender.specs.declared.SlotState.TheVariants.{Free, Held}
use Rattle.swap_lender.specs.declared.Lending.{Lending}
use Rattle.swap_lender.specs.declared.Peer.{Peer}
use Rattle.swap_lender.specs.Lender.{Lender, has_greeted, lender_at_start, lends, slot_in, slot_of, first_where, is_free, is_of, is_greeted, is_staying, is_evicting, numbers_where}
use Rattle.swap_lender.specs.Table.{Turn, greet_peer, mark_slots, settle_with, slots_due, took_after, serve, may_send, host, measure_after, opens, open_round, asked_slots, to_evict, gone_after, free_slot, round_left, without_peer, has_room, arrive, restart, hello}
use Rattle.swap_lender.specs.Calls.{Call, Arrive, Took, Host as Hosts, Gone, Restart, run, step, Tenant, tenant, AsksStaying}
use Rattle.swap_lender.proofs.Owned.{IsPart, part_free, part_marked}
use Rattle.swap_lender.proofs.Runs.{always_owned}
use Rattle.swap_lender.proofs.Live.{live_rounds}
use Rattle.swap_lender.proofs.Steps.{took_lending, host_lending, gone_lending}
use Rattle.swap_link.specs.Fits.{IsAlone}
use Rattle.swap_link.specs.lemmas.Sound.{length-marked, alone-serve, peers-gone, peers-host, arrived}
use Rattle.swap_link.specs.Lane.{append_after, end_lane, cut}
use Rattle.swap_link.specs.Channel.{Channel, let_go, take_after, taken_from, give_after, given_from, deliver_after, leave_after, cut_after, crash_after, connect_after, on_channel}
use Rattle.swap_link.specs.Harbor.{Harbor, Moves, channel_of, lender_of, new_channel, no_channel, lending_for, IsFresh}
use Rattle.swap_link.specs.lemmas.HarborLaws.{through, moves_keep_of}
use Rattle.swap_joint.specs.Seats.{AreSlots}
use Rattle.swap_joint.specs.Turn.{AsksUntold, Lodges}
use Rattle.swap_joint.specs.Allowed.{IsKnown, AllKnown}
use Rattle.swap_joint.specs.Lenders.{TurnsKeepSeats, AreWhole, IsReached, AreReached, AllLodge, AreSound, AreOwned, LendersKeep}
use Rattle.swap_joint.proofs.Seats.{seat_lend, seat_served, seat_host}

pub turns_keep_seats : TurnsKeepSeats
turns_keep_seats = record { lent = seat_lend; served = seat_served; hosted = seat_host }

-- what holds of a lender stays through a call of its link, where it does through each call of the lender
pub record EachKeeps (P : Lender → Type 0) : Type 0 where
  pub arrives : (l : Lender) (n : Link) → P l → P (arrive l n)
  pub takes : (l : Lender) (n : Link) (m : Msg) (page : List ℕ) → P l → P (took_after l n m page).lender
  pub hosts : (l : Lender) (used word : ℕ) → P l → P (host l used word).lender
  pub leaves : (l : Lender) (n : Link) → P l → P (gone_after l n).lender
  pub restarts : (l : Lender) → P l → P (restart l)

by_take : (P : Lender → Type 0) (ch : Channel) → P ch.lender → P (take_after ch).1.lender
by_take P ch h = cond_both ch.device_gone _ _ (λ (x : Handed × Channel). P x.1.lender) (λ _. h) (λ _. from ch.to_device.parcels)
  where
    from : (ps : List Parcel) → P (taken_from ch ps).1.lender
    from [] = cond_both ch.to_device.ended _ _ (λ (x : Handed × Channel). P x.1.lender) (λ _. h) (λ _. h)
    from (p ∷ ps) = h

by_give : (P : Lender → Type 0) → EachKeeps P → (ch : Channel) → P ch.lender → P (give_after ch).1.lender
by_give P each ch h = cond_both ch.lender_gone _ _ (λ (x : Gave × Channel). P x.1.lender) (λ _. h) (λ _. from ch.to_lender.parcels)
  where
    from : (ps : List Parcel) → P (given_from ch ps).1.lender
    from [] = cond_both ch.to_lender.ended _ _ (λ (x : Gave × Channel). P x.1.lender) (λ _. each.leaves ch.lender ch.number h) (λ _. h)
    from (p ∷ ps) =
        cond_both (may_send ch.lender ch.number p.msg) _ _ (λ (x : Gave × Channel). P x.1.lender) (λ _. each.takes ch.lender ch.number p.msg p.page h)
        (λ _. each.leaves ch.lender ch.number h)

by_call : (P : Lender → Type 0) → EachKeeps P → (ch : Channel) (c : FabricCall) → P ch.lender → P (on_channel ch c).1.lender
by_call P each ch (Connect m n) h = each.arrives (let_go ch) n (cond_both ch.lender_gone _ _ P (λ _. h) (λ _. each.leaves ch.lender ch.number h))
by_call P each ch (Send m p) h = cond_both ch.device_gone _ _ (λ (x : Sent × Channel). P x.1.lender) (λ _. h) (λ _. h)
by_call P each ch (Take m) h = by_take P ch h
by_call P each ch (End m) h = h
by_call P each ch (Give m) h = by_give P each ch h
by_call P each ch (Cut m a b) h = h
by_call P each ch (Crash m) h = cond_both ch.lender_gone _ _ (λ (x : Channel). P x.lender) (λ _. each.restarts ch.lender h) (λ _. each.restarts ch.lender h)
by_call P each ch (Host m used word) h = each.hosts ch.lender used word h

by_move :
    (P : Lender → Type 0) → EachKeeps P → (f : Harbor) (c : FabricCall) (r : FabricAnswer c) (g : Harbor) → Moves f c r g
    → ((l : LenderNo) → l.0 < length f.channels → P (channel_of f l).lender) → (l : LenderNo) → l.0 < length g.channels → P (channel_of g l).lender
by_move P each f c r g moved all l within =
    let Q : FabricAnswer c × Harbor → Type 0 = λ x. P (channel_of x.1 l).lender in
    let size : length g.channels ≡ length f.channels = ap (λ (o : FabricOf). o.lenders) (moves_keep_of f c r g moved) in
    subst Q moved.1
    (through (λ ch. P ch.lender) f c l moved.0 (all l (subst (λ n. l.0 < n) size within)) (λ _ h. by_call P each (channel_of f (lender_of c)) c h))

-- the number of slots

slots_settle : (l : Lender) (o : Option ℕ) → AreSlots l → AreSlots (settle_with l o).lender
slots_settle l None h = h
slots_settle l (Some set) h = length-marked set 0 l.slots ∙ h

slots_serve : (l : Lender) (n : Link) (m : Msg) (page : List ℕ) → AreSlots l → AreSlots (serve l n m page).lender
slots_serve l n (msg.Borrow u) page h =
    cond_both (lends l) _ _ (λ (x : Turn). AreSlots x.lender) (λ _. length-set l.slots (first_where is_free l.slots) _ ∙ h) (λ _. h)
slots_serve l n (msg.Rates j value) page h =
    slots_settle (record l { round = option_map (answer (slot_of l n j) value) l.round }) (slots_due (option_map (answer (slot_of l n j) value) l.round)) h
slots_serve l n (msg.Done j) page h = length-set l.slots (slot_of l n j) Free ∙ h
slots_serve l n _ page h = h

slots_each : EachKeeps AreSlots
slots_each = record {
  arrives = λ l n h. cond_both (has_room l) _ _ AreSlots (λ _. h) (λ _. h);
  takes = λ l n m page h. cond_both (may_send l n m) _ _ (λ (x : Turn). AreSlots x.lender) (λ _. slots_serve l n m page h) (λ _. h);
  hosts = λ l used word h. cond_both (opens (measure_after l used)) _ _ (λ (x : Turn). AreSlots x.lender) (λ _. h) (λ _. h);
  leaves =
      λ l n h.
      slots_settle (record l { slots = map (free_slot n) l.slots; peers = without_peer n l.peers; round = option_map (round_left n l.slots) l.round })
      (slots_due (option_map (round_left n l.slots) l.round)) (length-map l.slots (free_slot n) ∙ h);
  restarts = λ l h. length-replicate l.lending.spec.slots Free;
}

-- a list of calls, and one call more

run-last : (l : Lender) (calls : List Call) (call : Call) → run l (calls ++ call ∷ []) ≡ (step (run l calls) call).lender
run-last l [] call = refl
run-last l (first ∷ calls) call = run-last (step l first).lender calls call

pub reached_more : (l : Lender) (call : Call) → IsReached l → IsReached (step l call).lender
reached_more l call r = record {
  lending = r.lending;
  calls = r.calls ++ call ∷ [];
  is = ap (λ (m : Lender). (step m call).lender) r.is ∙ sym (run-last (lender_at_start r.lending) r.calls call);
}

reached_each : EachKeeps IsReached
reached_each = record {
  arrives = λ l n r. reached_more l (Arrive n) r;
  takes = λ l n m page r. reached_more l (Took n m page) r;
  hosts = λ l used word r. reached_more l (Hosts used word) r;
  leaves = λ l n r. reached_more l (Gone n) r;
  restarts = λ l r. reached_more l Restart r;
}

pub are_owned : (l : Lender) → IsReached l → AreOwned l
are_owned l r = subst AreOwned (sym r.is) (record { slots = always_owned r.lending r.calls; round = live_rounds r.lending r.calls })

-- rounds that ask no slot that was told to go

untold_set :
    (slots : List SlotState) (j i : ℕ) (x : SlotState) → is_evicting x ≡ false → is_evicting (get_or slots i Free) ≡ false
    → is_evicting (get_or (set slots j x) i Free) ≡ false
untold_set [] j i x new was = was
untold_set (s ∷ ss) zero zero x new was = new
untold_set (s ∷ ss) zero (suc i) x new was = was
untold_set (s ∷ ss) (suc j) zero x new was = was
untold_set (s ∷ ss) (suc j) (suc i) x new was = untold_set ss j i x new was

untold_freed :
    (n : Link) (slots : List SlotState) (i : ℕ) → is_evicting (get_or slots i Free) ≡ false → is_evicting (get_or (map (free_slot n) slots) i Free) ≡ false
untold_freed n [] i was = was
untold_freed n (s ∷ ss) zero was = cond_both (is_of n s) _ _ (λ x. is_evicting x ≡ false) (λ _. refl) (λ _. was)
untold_freed n (s ∷ ss) (suc i) was = untold_freed n ss i was

left_asked : (xs : List ℕ) (r : Round) → (fold (λ r slot. leave slot r) r xs).asked ≡ r.asked
left_asked [] r = refl
left_asked (x ∷ xs) r = left_asked xs (leave x r)

untold_by :
    (o : Option Round) (slots slots' : List SlotState) → ((i : ℕ) → is_evicting (slot_in slots i) ≡ false → is_evicting (slot_in slots' i) ≡ false)
    → AsksUntold o slots → AsksUntold o slots'
untold_by None slots slots' each h = tt
untold_by (Some r) slots slots' each h = λ i e. each i (h i e)

pub untold_answer : (o : Option Round) (slot value : ℕ) (slots : List SlotState) → AsksUntold o slots → AsksUntold (option_map (answer slot value) o) slots
untold_answer None slot value slots h = tt
untold_answer (Some r) slot value slots h = h

untold_left : (o : Option Round) (n : Link) (states slots : List SlotState) → AsksUntold o slots → AsksUntold (option_map (round_left n states) o) slots
untold_left None n states slots h = tt
untold_left (Some r) n states slots h = λ i e. h i (subst (λ s. has s i ≡ true) (left_asked (numbers_where (is_of n) 0 states) r) e)

abbrev Untold : Lender → Type 0
Untold l = AsksUntold l.round l.slots

untold_settle : (l : Lender) (o : Option ℕ) → Untold l → Untold (settle_with l o).lender
untold_settle l None h = h
untold_settle l (Some set) h = tt

untold_serve : (l : Lender) (n : Link) (m : Msg) (page : List ℕ) → Untold l → Untold (serve l n m page).lender
untold_serve l n (msg.Borrow u) page h =
    cond_both (lends l) _ _ (λ (x : Turn). Untold x.lender)
    (λ _. untold_by l.round l.slots _ (λ i. untold_set l.slots (first_where is_free l.slots) i (Held n u (record { 0 = l.next_lease }) false) refl) h) (λ _. h)
untold_serve l n (msg.Rates j value) page h =
    untold_settle (record l { round = option_map (answer (slot_of l n j) value) l.round }) (slots_due (option_map (answer (slot_of l n j) value) l.round))
    (untold_answer l.round (slot_of l n j) value l.slots h)
untold_serve l n (msg.Done j) page h = untold_by l.round l.slots _ (λ i. untold_set l.slots (slot_of l n j) i Free refl) h
untold_serve l n _ page h = h

-- a round that is opened waits for slots that stay
untold_host : (l : Lender) (used word : ℕ) → IsReached l → Untold l → Untold (host l used word).lender
untold_host l used word r h =
    cond_both (opens (measure_after l used)) _ _ (λ (x : Turn). (host l used word ≡ x) → Untold x.lender) (λ _ is. opened_ is) (λ _ is. h) refl
  where
    opened_ :
        host l used word ≡ open_round (measure_after l used) (asked_slots (measure_after l used) word)
        → Untold (open_round (measure_after l used) (asked_slots (measure_after l used) word)).lender
    opened_ is i inside =
        let P : Turn → Type 0 = λ t. AsksStaying t.lender.round t.lender.slots in
        let alive : AsksStaying (Some (round_at_start (asked_slots (measure_after l used) word) (to_evict (measure_after l used)))) l.slots =
        subst P is (are_owned (host l used word).lender (reached_more l (Hosts used word) r)).round in
        not_told (slot_in l.slots i) (alive.waits i (all_three (has (asked_slots (measure_after l used) word) i) (has 0 i) (has 0 i) inside (has-zero i)
        (has-zero i)))
      where
        all_three : (a b c : Bool) → a ≡ true → b ≡ false → c ≡ false → (a && not b && not c) ≡ true
        all_three a b c e f g = cc

        not_told : (x : SlotState) → is_staying x ≡ true → is_evicting x ≡ false
        not_told Free e = refl
        not_told (Held n t k true) e = cc
        not_told (Held n t k false) e = refl

abbrev ReachedUntold : Lender → Type 0
ReachedUntold l = IsReached l × Untold l

untold_each : EachKeeps ReachedUntold
untold_each = record {
  arrives = λ l n h. (reached_each.arrives l n h.0, cond_both (has_room l) _ _ Untold (λ _. h.1) (λ _. h.1));
  takes =
      λ l n m page h.
      (reached_each.takes l n m page h.0, cond_both (may_send l n m) _ _ (λ (x : Turn). Untold x.lender) (λ _. untold_serve l n m page h.1) (λ _. h.1));
  hosts = λ l used word h. (reached_each.hosts l used word h.0, untold_host l used word h.0 h.1);
  leaves = λ l n h. (
    reached_each.leaves l n h.0,
    untold_settle (record l { slots = map (free_slot n) l.slots; peers = without_peer n l.peers; round = option_map (round_left n l.slots) l.round })
        (slots_due (option_map (round_left n l.slots) l.round))
        (untold_by (option_map (round_left n l.slots) l.round) l.slots (map (free_slot n) l.slots) (λ i. untold_freed n l.slots i)
        (untold_left l.round n l.slots l.slots h.1)),
  );
  restarts = λ l h. (reached_each.restarts l h.0, tt);
}

-- for whom slots are held

abbrev HeldBy : List SlotState → Link → Type 0
HeldBy slots n = (i : ℕ) (a : Tenant) → tenant (slot_in slots i) ≡ Some a → a.link.0 ≡ n.0

abbrev HeldByNone : List SlotState → Type 0
HeldByNone slots = (i : ℕ) (a : Tenant) → tenant (slot_in slots i) ≡ Some a → ⊥

held_set : (slots : List SlotState) (j : ℕ) (n : Link) (u : Slab) (k : Lease) → HeldBy slots n → HeldBy (set slots j (Held n u k false)) n
held_set [] j n u k h i a e = h i a e
held_set (s ∷ ss) zero n u k h zero a e = let same : record { link = n; slab = u; lease = k } ≡ a = cc in ap (λ (t : Tenant). t.link.0) (sym same)
held_set (s ∷ ss) zero n u k h (suc i) a e = h (suc i) a e
held_set (s ∷ ss) (suc j) n u k h zero a e = h zero a e
held_set (s ∷ ss) (suc j) n u k h (suc i) a e = held_set ss j n u k (λ i a e. h (suc i) a e) i a e

held_part : (new old : List SlotState) (n : Link) → IsPart new old → HeldBy old n → HeldBy new n
held_part new old n part h i a e = h i a (part.kept i a e)

held_settle : (l : Lender) (o : Option ℕ) (n : Link) → HeldBy l.slots n → HeldBy (settle_with l o).lender.slots n
held_settle l None n h = h
held_settle l (Some set) n h = held_part (mark_slots set 0 l.slots) l.slots n (part_marked set l.slots) h

held_serve : (l : Lender) (n : Link) (m : Msg) (page : List ℕ) → HeldBy l.slots n → HeldBy (serve l n m page).lender.slots n
held_serve l n (msg.Borrow u) page h =
    cond_both (lends l) _ _ (λ (x : Turn). HeldBy x.lender.slots n) (λ _. held_set l.slots (first_where is_free l.slots) n u (record { 0 = l.next_lease }) h)
    (λ _. h)
held_serve l n (msg.Rates j value) page h =
    held_settle (record l { round = option_map (answer (slot_of l n j) value) l.round }) (slots_due (option_map (answer (slot_of l n j) value) l.round)) n h
held_serve l n (msg.Done j) page h = held_part (set l.slots (slot_of l n j) Free) l.slots n (part_free l.slots (slot_of l n j)) h
held_serve l n _ page h = h

-- a link that is gone leaves no slot held for it
freed_none : (n : Link) (slots : List SlotState) → HeldBy slots n → HeldByNone (map (free_slot n) slots)
freed_none n [] h i a e = cc
freed_none n (s ∷ ss) h zero a e = go s e (h zero a)
  where
    go : (s : SlotState) → tenant (free_slot n s) ≡ Some a → (tenant s ≡ Some a → a.link.0 ≡ n.0) → ⊥
    go Free e was = cc
    go (Held m u k told) e was =
        cond_both (m.0 == n.0) Free (Held m u k told) (λ x. tenant x ≡ Some a → ⊥) (λ _ e. cc)
        (λ other e. let same : record { link = m; slab = u; lease = k } ≡ a = cc in
        both_ways (m.0 == n.0) other (eq-eqb m.0 n.0 (ap (λ (t : Tenant). t.link.0) same ∙ was e)))
        e
freed_none n (s ∷ ss) h (suc i) a e = freed_none n ss (λ i a e. h (suc i) a e) i a e

gone_none : (l : Lender) (n : Link) → HeldBy l.slots n → HeldByNone (gone_after l n).lender.slots
gone_none l n h =
    settle_none (record l { slots = map (free_slot n) l.slots; peers = without_peer n l.peers; round = option_map (round_left n l.slots) l.round })
    (slots_due (option_map (round_left n l.slots) l.round)) (freed_none n l.slots h)
  where
    settle_none : (l : Lender) (o : Option ℕ) → HeldByNone l.slots → HeldByNone (settle_with l o).lender.slots
    settle_none l None h = h
    settle_none l (Some set) h = λ i a e. h i a ((part_marked set l.slots).kept i a e)

restart_none : (n : ℕ) → HeldByNone (replicate n Free)
restart_none zero i a e = cc
restart_none (suc n) zero a e = cc
restart_none (suc n) (suc i) a e = restart_none n i a e

lodges_none : (c : Channel) → HeldByNone c.lender.slots → Lodges c
lodges_none c none i a e = absurd (none i a e)

lodges_by : (c : Channel) → c.lender_gone ≡ false → HeldBy c.lender.slots c.number → Lodges c
lodges_by c stands h i a e = (stands, h i a e)

by_lodges : (c : Channel) → Lodges c → HeldBy c.lender.slots c.number
by_lodges c h i a e = (h i a e).1

lodges_give : (ch : Channel) → Lodges ch → Lodges (give_after ch).1
lodges_give ch h = cond_both ch.lender_gone _ _ (λ (x : Gave × Channel). Lodges x.1) (λ _. h) (λ stands. from stands ch.to_lender.parcels)
  where
    from : ch.lender_gone ≡ false → (ps : List Parcel) → Lodges (given_from ch ps).1
    from stands [] =
        cond_both ch.to_lender.ended _ _ (λ (x : Gave × Channel). Lodges x.1) (λ _. lodges_none (leave_after ch)
        (gone_none ch.lender ch.number (by_lodges ch h)))
        (λ _. h)
    from stands (p ∷ ps) =
        cond_both (may_send ch.lender ch.number p.msg) _ _ (λ (x : Gave × Channel). Lodges x.1)
        (λ may.
        lodges_by (deliver_after (record ch { to_lender = record ch.to_lender { parcels = ps } }) (took_after ch.lender ch.number p.msg p.page)) stands
        (took_held p may))
        (λ _. lodges_none (leave_after (record ch { to_lender = record ch.to_lender { parcels = ps } })) (gone_none ch.lender ch.number (by_lodges ch h)))
      where
        took_held : (p : Parcel) → may_send ch.lender ch.number p.msg ≡ true → HeldBy (took_after ch.lender ch.number p.msg p.page).lender.slots ch.number
        took_held p may =
            cond_both (may_send ch.lender ch.number p.msg) _ _ (λ (x : Turn). HeldBy x.lender.slots ch.number)
            (λ _. held_serve ch.lender ch.number p.msg p.page (by_lodges ch h)) (λ _. by_lodges ch h)

-- a link that is made finds no slot held
pub connected_none : (ch : Channel) (n : Link) → Lodges ch → HeldByNone (arrive (let_go ch) n).slots
connected_none ch n h = cond_both (has_room (let_go ch)) _ _ (λ (x : Lender). HeldByNone x.slots) (λ _. none) (λ _. none)
  where
    none : HeldByNone (let_go ch).slots
    none =
        cond_both ch.lender_gone _ _ (λ (x : Lender). HeldByNone x.slots) (λ left i a e. both_ways ch.lender_gone (h i a e).0 left)
        (λ _. gone_none ch.lender ch.number (by_lodges ch h))

lodges_call : (ch : Channel) (c : FabricCall) → Lodges ch → Lodges (on_channel ch c).1
lodges_call ch (Connect m n) h = lodges_none (on_channel ch (Connect m n)).1 (connected_none ch n h)
lodges_call ch (Send m p) h = cond_both ch.device_gone _ _ (λ (x : Sent × Channel). Lodges x.1) (λ _. h) (λ _. h)
lodges_call ch (Take m) h = cond_both ch.device_gone _ _ (λ (x : Handed × Channel). Lodges x.1) (λ _. h) (λ _. from ch.to_device.parcels)
  where
    from : (ps : List Parcel) → Lodges (taken_from ch ps).1
    from [] = cond_both ch.to_device.ended _ _ (λ (x : Handed × Channel). Lodges x.1) (λ _. h) (λ _. h)
    from (p ∷ ps) = h
lodges_call ch (End m) h = h
lodges_call ch (Give m) h = lodges_give ch h
lodges_call ch (Cut m a b) h = h
lodges_call ch (Crash m) h = lodges_none (crash_after ch) (λ i a e. restart_none ch.lender.lending.spec.slots i a (crashed_slots i a e))
  where
    crashed_slots :
        (i : ℕ) (a : Tenant) → tenant (slot_in (crash_after ch).lender.slots i) ≡ Some a
        → tenant (slot_in (replicate ch.lender.lending.spec.slots Free) i) ≡ Some a
    crashed_slots i a =
        cond_both ch.lender_gone _ _
        (λ (x : Channel). tenant (slot_in x.lender.slots i) ≡ Some a → tenant (slot_in (replicate ch.lender.lending.spec.slots Free) i) ≡ Some a) (λ _ e. e)
        (λ _ e. e)
lodges_call ch (Host m used word) h = λ i a e. h i a (hosted_slots i a e)
  where
    hosted_slots : (i : ℕ) (a : Tenant) → tenant (slot_in (host ch.lender used word).lender.slots i) ≡ Some a → tenant (slot_in ch.lender.slots i) ≡ Some a
    hosted_slots i a =
        cond_both (opens (measure_after ch.lender used)) _ _ (λ (x : Turn). tenant (slot_in x.lender.slots i) ≡ Some a
        → tenant (slot_in ch.lender.slots i) ≡ Some a)
        (λ _ e. e) (λ _ e. e)

lodges_move : (f : Harbor) (c : FabricCall) (r : FabricAnswer c) (g : Harbor) → Moves f c r g → AllLodge f → AllLodge g
lodges_move f c r g moved all l within =
    let Q : FabricAnswer c × Harbor → Type 0 = λ x. Lodges (channel_of x.1 l) in
    let size : length g.channels ≡ length f.channels = ap (λ (o : FabricOf). o.lenders) (moves_keep_of f c r g moved) in
    subst Q moved.1 (through Lodges f c l moved.0 (all l (subst (λ n. l.0 < n) size within)) (λ _ h. lodges_call (channel_of f (lender_of c)) c h))

-- the only link of a lender, and its sizes

known_by : (s : Sizes) (c d : Channel) → IsKnown s c → d.lender.lending ≡ c.lender.lending → IsAlone d.number d.lender_gone d.lender.peers → IsKnown s d
known_by s c d h lending alone = record {
  alone = alone;
  one = ap (λ (x : Lending). x.links) lending ∙ h.one;
  page_bytes = ap (λ (x : Lending). x.page_bytes) lending ∙ h.page_bytes;
  pages_per_slab = ap (λ (x : Lending). x.pages_per_slab) lending ∙ h.pages_per_slab;
}

-- where its end stands, and where it is gone
alone_stands : (s : Sizes) (c : Channel) → c.lender_gone ≡ false → IsKnown s c → IsAlone c.number false c.lender.peers
alone_stands s c stands h = subst (λ b. IsAlone c.number b c.lender.peers) stands h.alone

none_left : (s : Sizes) (c : Channel) → c.lender_gone ≡ true → IsKnown s c → c.lender.peers ≡ []
none_left s c left h = subst (λ b. IsAlone c.number b c.lender.peers) left h.alone

-- a link that is let go leaves none, and the one that arrives then is the only one
let_go_none : (s : Sizes) (c : Channel) → IsKnown s c → (let_go c).peers ≡ []
let_go_none s c h =
    cond_both c.lender_gone _ _ (λ (x : Lender). x.peers ≡ []) (λ left. none_left s c left h)
    (λ stands. peers-gone c.lender c.number (alone_stands s c stands h))

let_go_lending : (c : Channel) → (let_go c).lending ≡ c.lender.lending
let_go_lending c = cond_both c.lender_gone _ _ (λ (x : Lender). x.lending ≡ c.lender.lending) (λ _. refl) (λ _. gone_lending c.lender c.number)

arrives_alone :
    (s : Sizes) (c : Channel) (n : Link) → IsKnown s c → arrive (let_go c) n ≡ record (let_go c) { peers = record { link = n; greeted = false } ∷ [] }
arrives_alone s c n h = arrived (let_go c) n (let_go_none s c h) (ap (λ (x : Lending). x.links) (let_go_lending c) ∙ h.one)

known_connected : (s : Sizes) (c : Channel) (n : Link) → IsKnown s c → IsKnown s (connect_after c n)
known_connected s c n h =
    let now = arrives_alone s c n h in
    known_by s c (connect_after c n) h (ap (λ (x : Lender). x.lending) now ∙ let_go_lending c) (false, ap (λ (x : Lender). x.peers) now)

-- a link that was just made has not greeted, and one that greets has
pub connected_fresh : (s : Sizes) (c : Channel) (n : Link) → IsKnown s c → has_greeted (connect_after c n).lender n ≡ false
connected_fresh s c n h = ap (λ (x : Lender). has_greeted x n) (arrives_alone s c n h) ∙ not_yet (n.0 == n.0)
  where
    not_yet : (b : Bool) → ((b && false) || false) ≡ false
    not_yet true = refl
    not_yet false = refl

pub greeted_known : (s : Sizes) (c : Channel) → c.lender_gone ≡ false → IsKnown s c → has_greeted (hello c.lender c.number).lender c.number ≡ true
greeted_known s c stands h =
    ap (λ (ps : List Peer). list_any (is_greeted c.number) ps) (greets c.lender.peers (alone_stands s c stands h))
    ∙ by_own (c.number.0 == c.number.0) (eq-eqb c.number.0 c.number.0 refl)
  where
    by_own : (b : Bool) → b ≡ true → ((b && true) || false) ≡ true
    by_own true e = refl
    by_own false e = cc

    greets : (ps : List Peer) → IsAlone c.number false ps → map (greet_peer c.number) ps ≡ record { link = c.number; greeted = true } ∷ []
    greets ps a = ap (map (greet_peer c.number)) a.1 ∙ ap (λ (p : Peer). p ∷ []) (cond-true (c.number.0 == c.number.0) _ _ (eq-eqb c.number.0 c.number.0 refl))

-- through each call
known_abandoned : (s : Sizes) (c d : Channel) → c.lender_gone ≡ false → IsKnown s c → d.lender ≡ c.lender → d.number ≡ c.number → IsKnown s (leave_after d)
known_abandoned s c d stands h lender number =
    known_by s c (leave_after d) h (gone_lending d.lender d.number ∙ ap (λ (x : Lender). x.lending) lender)
    (peers-gone d.lender d.number
    (subst (λ n. IsAlone n false d.lender.peers) (sym number)
    (subst (λ (x : Lender). IsAlone c.number false x.peers) (sym lender) (alone_stands s c stands h))))

known_give : (s : Sizes) (c : Channel) → IsKnown s c → IsKnown s (give_after c).1
known_give s c h = cond_both c.lender_gone _ _ (λ (x : Gave × Channel). IsKnown s x.1) (λ _. h) (λ stands. from stands c.to_lender.parcels)
  where
    from : c.lender_gone ≡ false → (ps : List Parcel) → IsKnown s (given_from c ps).1
    from stands [] = cond_both c.to_lender.ended _ _ (λ (x : Gave × Channel). IsKnown s x.1) (λ _. known_abandoned s c c stands h refl refl) (λ _. h)
    from stands (p ∷ ps) =
        cond_both (may_send c.lender c.number p.msg) _ _ (λ (x : Gave × Channel). IsKnown s x.1)
        (λ may.
        known_by s c (deliver_after (record c { to_lender = record c.to_lender { parcels = ps } }) (took_after c.lender c.number p.msg p.page)) h
        (took_lending c.lender c.number p.msg p.page)
        (subst (λ b. IsAlone c.number b (took_after c.lender c.number p.msg p.page).lender.peers) (sym stands) (took_alone p)))
        (λ _. known_abandoned s c (record c { to_lender = record c.to_lender { parcels = ps } }) stands h refl refl)
      where
        took_alone : (p : Parcel) → IsAlone c.number false (took_after c.lender c.number p.msg p.page).lender.peers
        took_alone p =
            cond_both (may_send c.lender c.number p.msg) _ _ (λ (x : Turn). IsAlone c.number false x.lender.peers)
            (λ _. alone-serve c.lender c.number p.msg p.page (alone_stands s c stands h)) (λ _. alone_stands s c stands h)

known_same : (s : Sizes) (c d : Channel) → IsKnown s c → d.lender ≡ c.lender → d.number ≡ c.number → d.lender_gone ≡ c.lender_gone → IsKnown s d
known_same s c d h lender number round_left =
    known_by s c d h (ap (λ (x : Lender). x.lending) lender)
    (subst (λ (x : Lender). IsAlone d.number d.lender_gone x.peers) (sym lender)
    (subst (λ n. IsAlone n d.lender_gone c.lender.peers) (sym number) (subst (λ b. IsAlone c.number b c.lender.peers) (sym round_left) h.alone)))

known_call : (s : Sizes) (ch : Channel) (c : FabricCall) → IsKnown s ch → IsKnown s (on_channel ch c).1
known_call s ch (Connect m n) h = known_connected s ch n h
known_call s ch (Send m p) h =
    cond_both ch.device_gone _ _ (λ (x : Sent × Channel). IsKnown s x.1) (λ _. h)
    (λ _. known_same s ch (record ch { to_lender = append_after ch.to_lender p }) h refl refl refl)
known_call s ch (Take m) h = cond_both ch.device_gone _ _ (λ (x : Handed × Channel). IsKnown s x.1) (λ _. h) (λ _. from ch.to_device.parcels)
  where
    from : (ps : List Parcel) → IsKnown s (taken_from ch ps).1
    from [] =
        cond_both ch.to_device.ended _ _ (λ (x : Handed × Channel). IsKnown s x.1)
        (λ _. known_same s ch (record ch { to_lender = end_lane ch.to_lender; device_gone = true }) h refl refl refl) (λ _. h)
    from (p ∷ ps) = known_same s ch (record ch { to_device = record ch.to_device { parcels = ps } }) h refl refl refl
known_call s ch (End m) h = known_same s ch (on_channel ch (End m)).1 h refl refl refl
known_call s ch (Give m) h = known_give s ch h
known_call s ch (Cut m a b) h = known_same s ch (cut_after ch a b).1 h refl refl refl
known_call s ch (Crash m) h =
    cond_both ch.lender_gone _ _ (λ (x : Channel). IsKnown s x)
    (λ left. known_by s ch (record ch { lender = restart ch.lender }) h refl (subst (λ b. IsAlone ch.number b []) (sym left) refl))
    (λ _.
    known_by s ch (record ch { lender = restart ch.lender; to_lender = cut ch.to_lender 0; to_device = end_lane ch.to_device; lender_gone = true }) h refl refl)
known_call s ch (Host m used word) h =
    known_by s ch (on_channel ch (Host m used word)).1 h (host_lending ch.lender used word)
    (subst (λ ps. IsAlone ch.number ch.lender_gone ps) (sym (peers-host ch.lender used word)) h.alone)

known_move : (f : Harbor) (c : FabricCall) (r : FabricAnswer c) (g : Harbor) → Moves f c r g → AllKnown f → AllKnown g
known_move f c r g moved all l within =
    let Q : FabricAnswer c × Harbor → Type 0 = λ x. IsKnown f.sizes (channel_of x.1 l) in
    let keeps = moves_keep_of f c r g moved in
    let size : length g.channels ≡ length f.channels = ap (λ (o : FabricOf). o.lenders) keeps in
    subst (λ s. IsKnown s (channel_of g l)) (sym (ap (λ (o : FabricOf). o.sizes) keeps))
    (subst Q moved.1
    (through (IsKnown f.sizes) f c l moved.0 (all l (subst (λ n. l.0 < n) size within)) (λ _ h. known_call f.sizes (channel_of f (lender_of c)) c h)))

-- lenders as they are made

made_slots : (h : Harbor) (o : FabricOf) → IsFresh h o → AreWhole h
made_slots h o made l within =
    let is = All-get_or (λ c. c ≡ new_channel h.sizes c.lender.lending.spec) h.channels l.0 (no_channel h.sizes) within made.channels in
    subst (λ (c : Channel). AreSlots c.lender) (sym is) (length-replicate (channel_of h l).lender.lending.spec.slots Free)

made_reached : (h : Harbor) (o : FabricOf) → IsFresh h o → AreReached h
made_reached h o made l within =
    let is = All-get_or (λ c. c ≡ new_channel h.sizes c.lender.lending.spec) h.channels l.0 (no_channel h.sizes) within made.channels in
    record { lending = lending_for h.sizes (channel_of h l).lender.lending.spec; calls = []; is = ap (λ (c : Channel). c.lender) is }

pub made_at :
    (h : Harbor) (o : FabricOf) → IsFresh h o → (l : LenderNo) → l.0 < length h.channels
    → channel_of h l ≡ new_channel h.sizes (channel_of h l).lender.lending.spec
made_at h o made l within = All-get_or (λ c. c ≡ new_channel h.sizes c.lender.lending.spec) h.channels l.0 (no_channel h.sizes) within made.channels

made_sound : (h : Harbor) (o : FabricOf) → IsFresh h o → AreSound h
made_sound h o made = record {
  whole = made_slots h o made;
  reached = made_reached h o made;
  untold = λ l within. subst (λ (c : Channel). AsksUntold c.lender.round c.lender.slots) (sym (made_at h o made l within)) tt;
  lodged =
      λ l within.
      subst Lodges (sym (made_at h o made l within))
      (lodges_none (new_channel h.sizes (channel_of h l).lender.lending.spec) (restart_none (channel_of h l).lender.lending.spec.slots));
  known = λ l within. subst (IsKnown h.sizes) (sym (made_at h o made l within)) (record { alone = refl; one = refl; page_bytes = refl; pages_per_slab = refl });
}

moved_sound : (f : Harbor) (c : FabricCall) (r : FabricAnswer c) (g : Harbor) → Moves f c r g → AreSound f → AreSound g
moved_sound f c r g moved sound =
    let both = by_move ReachedUntold untold_each f c r g moved (λ l within. (sound.reached l within, sound.untold l within)) in
    record {
      whole = by_move AreSlots slots_each f c r g moved sound.whole;
      reached = λ l within. (both l within).0;
      untold = λ l within. (both l within).1;
      lodged = lodges_move f c r g moved sound.lodged;
      known = known_move f c r g moved sound.known;
    }

pub lenders_keep : LendersKeep
lenders_keep = record { made = made_sound; sound = moved_sound; owned = λ h sound l within. are_owned (channel_of h l).lender (sound.reached l within) }
