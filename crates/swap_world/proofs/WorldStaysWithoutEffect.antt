-- Over the disk and the lenders in memory an event without an effect leaves the whole world as it was.
use Rattle.std.proofs.Common.{◌≡◌, ℕ, ◌≤◌, Bool, true, false, cond, ◌&&◌, not, nat_lt, List, [], ◌∷◌, length, take, get_or, set, zero, suc, refl, sym, ap, ◌∙◌, is_none, is_some, Option, None, Some}
use Rattle.std.proofs.lemmas.Bool.{ltb-false}
use Rattle.std.proofs.lemmas.List.{take_all}
use Rattle.swap_base.specs.declared.Page.{Page}
use Rattle.swap_base.specs.declared.Caller.{Caller}
use Rattle.swap_base.specs.declared.Lender.{Lender}
use Rattle.swap_base.specs.declared.Link.{Link}
use Rattle.swap_base.specs.declared.Slab.{Slab}
use Rattle.swap_base.specs.declared.DiskWhich.{DiskWhich}
use Rattle.swap_base.specs.declared.CallKind.TheVariants as kind
use Rattle.swap_base.specs.Sizes.{pages_of}
use Rattle.swap_record.specs.History.{next_name}
use Rattle.swap_wire.specs.declared.Event.{Event}
use Rattle.swap_wire.specs.declared.Event.TheVariants as event
use Rattle.swap_wire.specs.declared.Seen.{Seen}
use Rattle.swap_wire.specs.declared.Seen.TheVariants as seen
use Rattle.swap_wire.specs.declared.Msg.{Msg}
use Rattle.swap_wire.specs.declared.Msg.TheVariants as msg
use Rattle.swap_wire.specs.declared.fabric.Gave.{Gave}
use Rattle.swap_wire.specs.declared.fabric.Gave.TheVariants as gave
use Rattle.swap_wire.specs.declared.fabric.Sent.TheVariants as sent
use Rattle.swap_wire.specs.Fabric.{Parcel, parcel_of, Handed, Brought, NothingCame, LinkLost, Send, Take, FabricCall, End}
use Rattle.swap_queue.specs.Queue as queue
use Rattle.swap_queue.specs.Queue.{Copy}
use Rattle.swap_disk.specs.Disk.{Flight, Write, Read, Finished, which_of, page_of, in_flight, finish_flight}
use Rattle.swap_disk.specs.MemDiskView as drive
use Rattle.swap_disk.specs.MemDiskView.{MemDiskView}
use Rattle.swap_link.specs.Channel.{Channel, take_after, taken_from, give_after, given_from, cut_after, deliver_after, leave_after, reply_of}
use Rattle.swap_link.specs.Lane.{Lane, cut, is_cut}
use Rattle.swap_lender.specs.Table.{Turn, may_send, took_after as served}
use Rattle.swap_link.specs.Harbor as harbor
use Rattle.swap_link.specs.Harbor.{Harbor, channel_of, with_channel, no_channel}
use Rattle.swap_calls.specs.Calls.{state_of, call_of, is_idle}
use Rattle.swap_calls.specs.declared.Arrived.TheVariants as arrived
use Rattle.swap_calls.specs.declared.CallState.{CallState}
use Rattle.swap_calls.specs.declared.CallState.TheVariants.{Idle, Room, Reading}
use Rattle.swap_rings.specs.Rings.{is_up, oldest, ring_of}
use Rattle.swap_table.specs.declared.Placed.{Placed}
use Rattle.swap_table.specs.declared.LinkStep.{LinkStep}
use Rattle.swap_table.specs.declared.OutStep.{OutStep}
use Rattle.swap_table.specs.declared.OutStep.TheVariants as outs
use Rattle.swap_table.specs.declared.InStep.{InStep}
use Rattle.swap_table.specs.declared.InStep.TheVariants as ins
use Rattle.swap_table.specs.declared.Step.{Step}
use Rattle.swap_table.specs.declared.Step.TheVariants as steps
use Rattle.swap_table.specs.declared.DiskStep.TheVariants as ends
use Rattle.swap_table.specs.declared.LinkStep.TheVariants as link
use Rattle.swap_table.specs.declared.TheConstants.{MOST_LINKS}
use Rattle.swap_table.specs.Ports.{Prog, Ret, AskDisk, AskFabric, answering, and_then, run}
use Rattle.swap_table.specs.Device as device
use Rattle.swap_table.specs.Device.{Device, accept_program, accepted_late, finish_by, route, routed_again, fault, start_front, start_copy, wrote_after, took_after, Heard, may_map, after_borrow, with_answer, lose, say_after, raised_after, next_link, hello, with_link, connect_on, without_link, took_from, understand, follow, with_step, heard_parcel}
use Rattle.swap_table.specs.Happens.{happens, seen_by, taken_if, see_out, see_in, see_step, see_start, see_disk, see_tick, see_map, see_link, see_gave, see_cut, see_take}
use Rattle.swap_table.specs.Fits.{IsExpected, IsCopyOf}
use Rattle.swap_table.proofs.HistoryAgreement.{found}
use Rattle.swap_world.specs.Runs.{has_effect}
use Rattle.swap_world.specs.World.{World, start, reach, next_by}
use Rattle.swap_world.specs.Laws.{NothingChanges}
use Rattle.swap_world.proofs.WorldInMemoryStaysSound.{starts_sound, reach_sound, sound_fits}

-- what a program comes to over the ports in memory
abbrev pub runs : {A : Type 0} → Prog A → MemDiskView → Harbor → A × (MemDiskView × Harbor)
runs p k h = run drive.ask harbor.ask p k h

-- device and ports are what they were
abbrev pub IsStill : Device → MemDiskView → Harbor → (Device × Seen) × (MemDiskView × Harbor) → Type 0
IsStill d k h r = (r.0.0 ≡ d) × (r.1.0 ≡ k) × (r.1.1 ≡ h)

abbrev pub Stills : Event → Device → MemDiskView → Harbor → (Device × Seen) × (MemDiskView × Harbor) → Type 0
Stills e d k h r = has_effect e r.0.1 ≡ false → IsStill d k h r

run_answering : {A B : Type 0} (f : A → B) (p : Prog A) (k : MemDiskView) (h : Harbor) → (runs (answering f p) k h).0 ≡ f (runs p k h).0
run_answering f (Ret a) k h = refl
run_answering f (AskDisk c next) k h = run_answering f (next (drive.ask k c).0) (drive.ask k c).1 h
run_answering f (AskFabric c next) k h = run_answering f (next (harbor.ask h c).0) k (harbor.ask h c).1

-- an answer that always has an effect, at once and through one more answer
effect :
    {A : Type 0} (e : Event) (f : A → Device × Seen) (p : Prog A) (d : Device) (k k' : MemDiskView) (h h' : Harbor) → ((a : A) → has_effect e (f a).1 ≡ true)
    → Stills e d k' h' (runs (answering f p) k h)
effect e f p d k k' h h' each none =
    let is : has_effect e (runs (answering f p) k h).0.1 ≡ true = ap (λ (x : Device × Seen). has_effect e x.1) (run_answering f p k h) ∙ each (runs p k h).0 in
    absurd (both is none)
  where
    both : {b : Bool} → b ≡ true → b ≡ false → ⊥
    both a b = cc

effect_through :
    {A B : Type 0} (e : Event) (g : B → Device × Seen) (f : A → B) (p : Prog A) (d : Device) (k k' : MemDiskView) (h h' : Harbor)
    → ((a : A) → has_effect e (g (f a)).1 ≡ true) → Stills e d k' h' (runs (answering g (answering f p)) k h)
effect_through e g f p d k k' h h' each none =
    let is : has_effect e (runs (answering g (answering f p)) k h).0.1 ≡ true =
    ap (λ (x : Device × Seen). has_effect e x.1) (run_answering g (answering f p) k h ∙ ap g (run_answering f p k h)) ∙ each (runs p k h).0 in
    absurd (both is none)
  where
    both : {b : Bool} → b ≡ true → b ≡ false → ⊥
    both a b = cc

-- calls
out_still :
    (d : Device) (k : MemDiskView) (h : Harbor) (page : List ℕ) (c : Caller) (p : Page)
    → Stills (event.PageOut c p) d k h (runs (happens d page (event.PageOut c p)) k h)
out_still d k h page c p = go (is_idle (state_of d.calls c))
  where
    each : (x : Device × OutStep) → has_effect (event.PageOut c p) (see_out x.1) ≡ true
    each (e, outs.Done entry to) = refl
    each (e, outs.Room) = refl

    go : (b : Bool) → Stills (event.PageOut c p) d k h (runs (cond b (seen_by see_out (device.out d c p page)) (Ret (d, seen.Busy))) k h)
    go true = effect (event.PageOut c p) (λ (x : Device × OutStep). (x.0, see_out x.1)) (device.out d c p page) d k k h h each
    go false = λ none. (refl, refl, refl)

in_still :
    (d : Device) (k : MemDiskView) (h : Harbor) (page : List ℕ) (c : Caller) (p : Page)
    → Stills (event.PageIn c p) d k h (runs (happens d page (event.PageIn c p)) k h)
in_still d k h page c p = go (is_idle (state_of d.calls c))
  where
    each : (x : Device × InStep) → has_effect (event.PageIn c p) (see_in x.1) ≡ true
    each (e, ins.Done entry) = refl
    each (e, ins.Wait v) = refl

    go : (b : Bool) → Stills (event.PageIn c p) d k h (runs (cond b (seen_by see_in (device.read d c p)) (Ret (d, seen.Busy))) k h)
    go true = effect (event.PageIn c p) (λ (x : Device × InStep). (x.0, see_in x.1)) (device.read d c p) d k k h h each
    go false = λ none. (refl, refl, refl)

finish_still : (d : Device) (k : MemDiskView) (h : Harbor) (page : List ℕ) (c : Caller)
    → Stills (event.Finish c) d k h (runs (happens d page (event.Finish c)) k h)
finish_still d k h page c = go (is_idle (state_of d.calls c))
  where
    again : (x : Device × InStep) → has_effect (event.Finish c) (see_step (routed_again x).1) ≡ true
    again (e, ins.Done entry) = refl
    again (e, ins.Wait v) = refl

    routes : (p : Page) → Stills (event.Finish c) d k h (runs (seen_by see_step (answering routed_again (route d c p))) k h)
    routes p = effect_through (event.Finish c) (λ (x : Device × Step). (x.0, see_step x.1)) routed_again (route d c p) d k k h h again

    room : (p : Page) (since : ℕ) (bytes : List ℕ) → Stills (event.Finish c) d k h (runs (seen_by see_step (device.finish_out d c p since bytes)) k h)
    room p since bytes = by_room (queue.has_room d.queue p)
      where
        fails :
            (b : Bool)
            → Stills (event.Finish c) d k h
            (runs
            (seen_by see_step
            (cond b (Ret (fault d c p kind.PageOut since d.failed_writes bytes, steps.Fault (next_name d.history) since d.failed_writes))
            (Ret (d, steps.Room))))
            k h)
        fails true = λ none. absurd (let no : true ≡ false = none in cc)
        fails false = λ none. (refl, refl, refl)

        by_room : (b : Bool)
            → Stills (event.Finish c) d k h
            (runs
            (seen_by see_step
            (cond b (answering (accepted_late (next_name d.history)) (accept_program d c p bytes))
            (cond (nat_lt since d.failed_writes)
            (Ret (fault d c p kind.PageOut since d.failed_writes bytes, steps.Fault (next_name d.history) since d.failed_writes))
            (Ret (d, steps.Room)))))
            k h)
        by_room true =
            effect_through (event.Finish c) (λ (x : Device
            × Step). (x.0, see_step x.1)) (accepted_late (next_name d.history)) (accept_program d c p bytes) d k k h h
            (λ x. refl)
        by_room false = fails (nat_lt since d.failed_writes)

    by_state : (bytes : List ℕ) (state : CallState) → Stills (event.Finish c) d k h (runs (seen_by see_step (finish_by d c bytes state)) k h)
    by_state bytes Idle = λ none. (refl, refl, refl)
    by_state bytes (Room p since) = room p since bytes
    by_state bytes (Reading p n v arrived.Waiting newer since) = λ none. (refl, refl, refl)
    by_state bytes (Reading p n v arrived.Came true since) = routes p
    by_state bytes (Reading p n v arrived.Came false since) = λ none. absurd (let no : true ≡ false = none in cc)
    by_state bytes (Reading p n v arrived.Failed true since) = routes p
    by_state bytes (Reading p n v arrived.Failed false since) = λ none. absurd (let no : true ≡ false = none in cc)
    by_state bytes (Reading p n v arrived.Lost newer since) = routes p

    go : (b : Bool) → Stills (event.Finish c) d k h (runs (cond b (Ret (d, seen.Idle)) (seen_by see_step (device.finish d c))) k h)
    go true = λ none. (refl, refl, refl)
    go false = by_state (call_of d.calls c).bytes (state_of d.calls c)

-- the disk
start_still : (d : Device) (k : MemDiskView) (h : Harbor) (page : List ℕ) → Stills event.Start d k h (runs (happens d page event.Start) k h)
start_still d k h page = by_line d.queue.line
  where
    by_copy : (p : Page) (copy : Option Copy) → Stills event.Start d k h (runs (seen_by see_start (start_copy d p copy)) k h)
    by_copy p None = λ none. (refl, refl, refl)
    by_copy p (Some copy) = λ none. absurd (let no : true ≡ false = none in cc)

    by_line : (line : List Page) → Stills event.Start d k h (runs (seen_by see_start (start_front d line)) k h)
    by_line [] = λ none. (refl, refl, refl)
    by_line (p ∷ line) = by_copy p (queue.next_copy d.queue p)

disk_still :
    (d : Device) (k : MemDiskView) (h : Harbor) (page : List ℕ) (w : DiskWhich) (ok : Bool)
    → ((f : Flight) → in_flight k.disk w ≡ Some f → IsExpected true (pages_of d.sizes) d.sizes.callers d.queue d.calls f)
    → Stills (event.Disk w ok) d k h (runs (happens d page (event.Disk w ok)) k h)
disk_still d k h page w ok expected = by_parts k.disk.finished (in_flight k.disk w) expected
  where
    wrote_seen :
        (p : Page) (bytes : List ℕ) (copy : Option Copy) (good : Bool) → IsCopyOf true bytes copy
        → has_effect (event.Disk w ok) (see_disk (wrote_after d p copy good).1) ≡ true
    wrote_seen p bytes None good is = absurd is
    wrote_seen p bytes (Some copy) true is = refl
    wrote_seen p bytes (Some copy) false is = by_next (is_none (queue.next_copy d.queue p))
      where
        by_next : (b : Bool) → has_effect (event.Disk w ok) (see_disk (cond b (ends.Kept p copy.entry) (ends.Dropped p copy.entry))) ≡ true
        by_next true = refl
        by_next false = refl

    took_seen :
        (f : Flight) (good : Bool) (bytes : List ℕ) → IsExpected true (pages_of d.sizes) d.sizes.callers d.queue d.calls f
        → has_effect (event.Disk w ok) (see_disk (took_after d (which_of f) (page_of f) good bytes).1) ≡ true
    took_seen (Write p written) good bytes is = wrote_seen p written (queue.flying d.queue p) good is.1
    took_seen (Read c p) true bytes is = refl
    took_seen (Read c p) false bytes is = refl

    both : {b : Bool} → b ≡ true → b ≡ false → ⊥
    both a b = cc

    by_parts :
        (fin : Option Finished) (fl : Option Flight) → ((f : Flight) → fl ≡ Some f → IsExpected true (pages_of d.sizes) d.sizes.callers d.queue d.calls f)
        → Stills (event.Disk w ok) d k h (runs (taken_if d (is_none fin && is_some fl)) (record k { disk = finish_flight k.disk fin fl ok }) h)
    by_parts (Some f) fl is = λ none. (refl, refl, refl)
    by_parts None None is = λ none. (refl, refl, refl)
    by_parts None (Some f) is = λ none. absurd (both (took_seen f ok _ (is f refl)) none)

-- links
map_still :
    (d : Device) (k : MemDiskView) (h : Harbor) (page : List ℕ) (t : Slab) (l : Lender)
    → Stills (event.Map t l) d k h (runs (happens d page (event.Map t l)) k h)
map_still d k h page t l = go (may_map d t l)
  where
    go :
        (b : Bool)
        → Stills (event.Map t l) d k h
        (runs (seen_by see_map (answering (with_answer b) (cond b (AskFabric (Send l (parcel_of (msg.Borrow t) [])) (after_borrow lose d t l)) (Ret d)))) k h)
    go true =
        effect_through (event.Map t l) (λ (x : Device × Bool). (x.0, see_map x.1)) (with_answer true)
        (AskFabric (Send l (parcel_of (msg.Borrow t) [])) (after_borrow lose d t l)) d k k h h (λ x. refl)
    go false = λ none. (refl, refl, refl)

connect_still :
    (d : Device) (k : MemDiskView) (h : Harbor) (page : List ℕ) (l : Lender) → Stills (event.Connect l) d k h (runs (happens d page (event.Connect l)) k h)
connect_still d k h page l = go (nat_lt d.links_made MOST_LINKS)
  where
    both : {b : Bool} → b ≡ true → b ≡ false → ⊥
    both a b = cc

    -- a link that was made is seen, whatever was lost before
    made :
        (p : Prog Device) (e : Device → Prog (Device × Option Link)) (k : MemDiskView) (h : Harbor)
        → ((x : Device) (k : MemDiskView) (h : Harbor) → has_effect (event.Connect l) (see_link (runs (e x) k h).0.1) ≡ true)
        → has_effect (event.Connect l) (see_link (runs (and_then p e) k h).0.1) ≡ true
    made (Ret x) e k h each = each x k h
    made (AskDisk c next) e k h each = made (next (drive.ask k c).0) e (drive.ask k c).1 h each
    made (AskFabric c next) e k h each = made (next (harbor.ask h c).0) e k (harbor.ask h c).1 each

    linked : (x : Device) (k : MemDiskView) (h : Harbor) → has_effect (event.Connect l) (see_link (runs (connect_on x l) k h).0.1) ≡ true
    linked x k h =
        let h' : Harbor = (harbor.ask h (FabricCall.Connect l (next_link x))).1 in
        let p : Prog Device = say_after (raised_after x l) l (Some (hello x.sizes)) in
        ap (λ (a : Device × Option Link). has_effect (event.Connect l) (see_link a.1)) (run_answering (with_link (next_link x)) p k h')

    go : (b : Bool) → Stills (event.Connect l) d k h (runs (seen_by see_link (cond b (and_then (without_link d l) (λ x. connect_on x l)) (Ret (d, None)))) k h)
    go true = λ none.
        let p : Prog (Device × Option Link) = and_then (without_link d l) (λ x. connect_on x l) in
        absurd
        (both
        (ap (λ (a : Device × Seen). has_effect (event.Connect l) a.1) (run_answering (λ (x : Device × Option Link). (x.0, see_link x.1)) p k h)
        ∙ made (without_link d l) (λ x. connect_on x l) k h linked)
        none)
    go false = λ none. (refl, refl, refl)

-- a period's end is seen
tick_still : (d : Device) (k : MemDiskView) (h : Harbor) (page : List ℕ) (word : ℕ)
    → Stills (event.Tick word) d k h (runs (happens d page (event.Tick word)) k h)
tick_still d k h page word = effect (event.Tick word) (λ (x : Device × Option Placed). (x.0, see_tick x.1)) (device.tick d word) d k k h h each
  where
    each : (x : Device × Option Placed) → has_effect (event.Tick word) (see_tick x.1) ≡ true
    each (e, None) = refl
    each (e, Some placed) = refl

-- a channel that answers nothing stays what it is, and so does its harbor
set_same : {X : Type 0} (xs : List X) (i : ℕ) (d : X) → set xs i (get_or xs i d) ≡ xs
set_same [] i d = refl
set_same (x ∷ xs) zero d = refl
set_same (x ∷ xs) (suc i) d = ap (λ ys. x ∷ ys) (set_same xs i d)

harbor_same : (h : Harbor) (l : Lender) (ch : Channel) → ch ≡ channel_of h l → with_channel h l ch ≡ h
harbor_same h l ch is =
    ap (λ x. with_channel h l x) is ∙ ap (λ (xs : List Channel). record { sizes = h.sizes; channels = xs }) (set_same h.channels l.0 (no_channel h.sizes))

given_nothing : (e : Event) (ch : Channel) → has_effect e (see_gave (give_after ch).0) ≡ false → (give_after ch).1 ≡ ch
given_nothing e ch = by_gone ch.lender_gone
  where
    by_may :
        (b : Bool) (p : Parcel) (reply : Option Msg) (evicted : ℕ) (x y : Channel)
        → has_effect e (see_gave (cond {A = Gave × Channel} b (gave.Got p.msg reply evicted, x) (gave.Ended p.msg, y)).0) ≡ false → ⊥
    by_may true p reply evicted x y none = let no : true ≡ false = none in cc
    by_may false p reply evicted x y none = let no : true ≡ false = none in cc

    by_ended :
        (b : Bool) (x : Channel) → has_effect e (see_gave (cond {A = Gave × Channel} b (gave.End, x) (gave.Nothing, ch)).0) ≡ false
        → (cond {A = Gave × Channel} b (gave.End, x) (gave.Nothing, ch)).1 ≡ ch
    by_ended true x none = absurd (let no : true ≡ false = none in cc)
    by_ended false x none = refl

    by_parcels : (ps : List Parcel) → has_effect e (see_gave (given_from ch ps).0) ≡ false → (given_from ch ps).1 ≡ ch
    by_parcels [] none = by_ended ch.to_lender.ended _ none
    by_parcels (p ∷ ps) none =
        absurd (by_may (may_send ch.lender ch.number p.msg) p (reply_of turn.parcels) turn.evicted (deliver_after after turn) (leave_after after) none)
      where
        after : Channel
        after = record ch { to_lender = record ch.to_lender { parcels = ps } }

        turn : Turn
        turn = served ch.lender ch.number p.msg p.page

    by_gone :
        (b : Bool) → has_effect e (see_gave (cond {A = Gave × Channel} b (gave.Nothing, ch) (given_from ch ch.to_lender.parcels)).0) ≡ false
        → (cond {A = Gave × Channel} b (gave.Nothing, ch) (given_from ch ch.to_lender.parcels)).1 ≡ ch
    by_gone true none = refl
    by_gone false none = by_parcels ch.to_lender.parcels none

give_still : (d : Device) (k : MemDiskView) (h : Harbor) (page : List ℕ) (l : Lender) → Stills (event.Give l) d k h (runs (happens d page (event.Give l)) k h)
give_still d k h page l = λ none. (refl, refl, harbor_same h l (give_after (channel_of h l)).1 (given_nothing (event.Give l) (channel_of h l) none))

-- a lane that is cut already, and a channel of two
cut_same : (l : Lane) (n : ℕ) → is_cut l n ≡ true → cut l n ≡ l
cut_same l n = by_ended l.ended refl
  where
    both : {b : Bool} → b ≡ true → b ≡ false → ⊥
    both a b = cc

    short : (b : Bool) → nat_lt n (length l.parcels) ≡ b → cond b false true ≡ true → length l.parcels ≤ n
    short true less is = cc
    short false less is = ltb-false n (length l.parcels) less

    by_ended : (b : Bool) → l.ended ≡ b → cond b (cond (nat_lt n (length l.parcels)) false true) false ≡ true → cut l n ≡ l
    by_ended false is same = absurd (both same refl)
    by_ended true is same =
        ap (λ (ps : List Parcel). record l { parcels = ps; ended = true }) (take_all n l.parcels (short (nat_lt n (length l.parcels)) refl same))
        ∙ ap (λ (x : Bool). record l { ended = x }) (sym is)

severed_nothing : (ch : Channel) (a b : ℕ) → (cut_after ch a b).0 ≡ false → (cut_after ch a b).1 ≡ ch
severed_nothing ch a b = by (is_cut ch.to_lender a) refl (is_cut ch.to_device b) refl
  where
    by : (x : Bool) → is_cut ch.to_lender a ≡ x → (y : Bool) → is_cut ch.to_device b ≡ y → not (x && y) ≡ false → (cut_after ch a b).1 ≡ ch
    by true first true second none =
        ap (λ (x : Lane). record ch { to_lender = x; to_device = cut ch.to_device b }) (cut_same ch.to_lender a first)
        ∙ ap (λ (y : Lane). record ch { to_device = y }) (cut_same ch.to_device b second)
    by true first false second none = cc
    by false first y second none = cc

cut_still :
    (d : Device) (k : MemDiskView) (h : Harbor) (page : List ℕ) (l : Lender) (a b : ℕ)
    → Stills (event.Cut l a b) d k h (runs (happens d page (event.Cut l a b)) k h)
cut_still d k h page l a b =
    λ none. (
      refl,
      refl,
      harbor_same h l (cut_after (channel_of h l) a b).1 (severed_nothing (channel_of h l) a b
          (unseen (cut_after (channel_of h l) a b).0 none)),
    )
  where
    unseen : (x : Bool) → has_effect (event.Cut l a b) (see_cut x) ≡ false → x ≡ false
    unseen true none = cc
    unseen false none = refl

-- a crash, and what a host uses, always have an effect
crash_still : (d : Device) (k : MemDiskView) (h : Harbor) (page : List ℕ) (l : Lender)
    → Stills (event.Crash l) d k h (runs (happens d page (event.Crash l)) k h)
crash_still d k h page l = λ none. absurd (let no : true ≡ false = none in cc)

host_still :
    (d : Device) (k : MemDiskView) (h : Harbor) (page : List ℕ) (l : Lender) (used word : ℕ)
    → Stills (event.Host l used word) d k h (runs (happens d page (event.Host l used word)) k h)
host_still d k h page l used word = λ none. absurd (let no : true ≡ false = none in cc)

taken_nothing : (ch : Channel) → (take_after ch).0 ≡ NothingCame → (take_after ch).1 ≡ ch
taken_nothing ch = by_gone ch.device_gone
  where
    by_ended :
        (b : Bool) (x : Channel) → (cond {A = Handed × Channel} b (LinkLost, x) (NothingCame, ch)).0 ≡ NothingCame
        → (cond {A = Handed × Channel} b (LinkLost, x) (NothingCame, ch)).1 ≡ ch
    by_ended true x is = cc
    by_ended false x is = refl

    by_parcels : (ps : List Parcel) → (taken_from ch ps).0 ≡ NothingCame → (taken_from ch ps).1 ≡ ch
    by_parcels [] is = by_ended ch.to_device.ended _ is
    by_parcels (p ∷ ps) is = cc

    by_gone :
        (b : Bool) → (cond {A = Handed × Channel} b (NothingCame, ch) (taken_from ch ch.to_device.parcels)).0 ≡ NothingCame
        → (cond {A = Handed × Channel} b (NothingCame, ch) (taken_from ch ch.to_device.parcels)).1 ≡ ch
    by_gone true is = refl
    by_gone false is = by_parcels ch.to_device.parcels is

take_still : (d : Device) (k : MemDiskView) (h : Harbor) (page : List ℕ) (l : Lender) → Stills (event.Take l) d k h (runs (happens d page (event.Take l)) k h)
take_still d k h page l = go (is_up d.remote.links l)
  where
    by_heard : (q : Parcel) (o : Option Heard) (h' : Harbor) → Stills (event.Take l) d k h (runs (seen_by see_take (understand d l q.msg o)) k h')
    by_heard q None h' =
        effect_through (event.Take l) (λ (x : Device × LinkStep). (x.0, see_take x.1)) (with_step link.Lied) (lose d l) d k k (harbor.ask h' (End l)).1 h
        (λ x. refl)
    by_heard q (Some e) h' =
        effect_through (event.Take l) (λ (x : Device × LinkStep). (x.0, see_take x.1)) (with_step (link.Got q.msg)) (follow e l) d k k h' h (λ x. refl)

    by_handed : (x : Handed) (h' : Harbor) → (x ≡ NothingCame → h' ≡ h) → Stills (event.Take l) d k h (runs (seen_by see_take (took_from d l x)) k h')
    by_handed (Brought q) h' same = by_heard q (heard_parcel d l q (oldest (ring_of d.remote.links l))) h'
    by_handed NothingCame h' same = λ none. (refl, refl, same refl)
    by_handed LinkLost h' same =
        effect_through (event.Take l) (λ (x : Device × LinkStep). (x.0, see_take x.1)) (with_step link.Lost) (lose d l) d k k h' h (λ x. refl)

    go : (b : Bool) → Stills (event.Take l) d k h (runs (seen_by see_take (cond b (AskFabric (Take l) (took_from d l)) (Ret (d, link.Nothing)))) k h)
    go true =
        by_handed (take_after (channel_of h l)).0 (with_channel h l (take_after (channel_of h l)).1)
        (λ is. harbor_same h l (take_after (channel_of h l)).1 (taken_nothing (channel_of h l) is))
    go false = λ none. (refl, refl, refl)

-- any event
still :
    (d : Device) (k : MemDiskView) (h : Harbor) (page : List ℕ) (e : Event)
    → ((w : DiskWhich) (f : Flight) → in_flight k.disk w ≡ Some f → IsExpected true (pages_of d.sizes) d.sizes.callers d.queue d.calls f)
    → Stills e d k h (runs (happens d page e) k h)
still d k h page (event.PageOut c p) expected = out_still d k h page c p
still d k h page (event.PageIn c p) expected = in_still d k h page c p
still d k h page (event.Finish c) expected = finish_still d k h page c
still d k h page event.Start expected = start_still d k h page
still d k h page (event.Disk w ok) expected = disk_still d k h page w ok (expected w)
still d k h page (event.Tick word) expected = tick_still d k h page word
still d k h page (event.Map t l) expected = map_still d k h page t l
still d k h page (event.Connect l) expected = connect_still d k h page l
still d k h page (event.Give l) expected = give_still d k h page l
still d k h page (event.Take l) expected = take_still d k h page l
still d k h page (event.Cut l a b) expected = cut_still d k h page l a b
still d k h page (event.Crash l) expected = crash_still d k h page l
still d k h page (event.Host l used word) expected = host_still d k h page l used word
still d k h page e expected = λ none. (refl, refl, refl)

pub nothing_changes : NothingChanges
nothing_changes s specs is i few inputs none =
    let w : World = reach (start s specs) is in
    let sound = reach_sound s (length specs) (start s specs) is inputs (starts_sound s specs few) in
    let expected = (sound_fits s (length specs) w sound).disk.agrees.expected in
    unmoved w i.page i.event
    (λ which_ f is.
    found (IsExpected true (pages_of w.device.sizes) w.device.sizes.callers w.device.queue w.device.calls) which_ w.drive.disk.flights f is expected)
    none
  where
    unmoved :
        (w : World) (page : List ℕ) (e : Event)
        → ((which_ : DiskWhich) (f : Flight) → in_flight w.drive.disk which_ ≡ Some f
        → IsExpected true (pages_of w.device.sizes) w.device.sizes.callers w.device.queue w.device.calls f)
        → has_effect e (next_by w page e).seen ≡ false → (next_by w page e).world ≡ w
    unmoved w page (event.Round word) expected none = absurd (let no : true ≡ false = none in cc)
    unmoved w page e expected none = let same = still w.device w.drive w.harbor page e expected none in rw (same.0, same.1, same.2) refl
