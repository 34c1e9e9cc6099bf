-- Entries and calls under way grow by no more than the new calls.
use Rattle.std.proofs.Common.{map, set, get_or, zero, suc, not, count_by, lit≤, ◌≡◌, ℕ, ◌+◌, ◌≤◌, Bool, true, false, List, [], ◌∷◌, length, refl, sym, ap, ◌∙◌, arith, Option, None, Some}
use Rattle.swap_base.specs.declared.Page.{Page}
use Rattle.swap_base.specs.declared.Caller.{Caller}
use Rattle.swap_base.specs.declared.EntryNo.{EntryNo}
use Rattle.swap_base.specs.declared.Lender.{Lender}
use Rattle.swap_base.specs.declared.DiskWhich.{DiskWhich}
use Rattle.swap_base.specs.declared.CallKind.{CallKind}
use Rattle.swap_base.specs.declared.Origin.{Origin}
use Rattle.swap_wire.specs.declared.Event.{Event}
use Rattle.swap_wire.specs.declared.Seen.{Seen}
use Rattle.swap_queue.specs.Queue.{Copy}
use Rattle.swap_disk.specs.Disk.{Taken}
use Rattle.swap_calls.specs.Calls.{Call, Calls, state_of, call_of, idle_call, is_idle}
use Rattle.swap_calls.specs.declared.Arrived.{Arrived}
use Rattle.swap_calls.specs.declared.CallState.{CallState}
use Rattle.swap_calls.specs.declared.CallState.TheVariants.{Idle, Room, Reading}
use Rattle.swap_table.specs.Device.{Device, enter_entry, give, fault, took_after, took_back, wrote_after}
use Rattle.swap_base.proofs.Lists.{one_if, count_by-cons}
use Rattle.swap_world.specs.Runs.{GrowsByCalls, busy_callers, is_busy_call}
use Rattle.swap_table.specs.Moves.{full, unread}
use Rattle.swap_table.specs.Comes.{Linked, begins_out, goes_on_out, begins_in, goes_on_in, Comes, refuses, rests, accepts, gives_page, fails, keeps_page, reads, starts_write, takes_back, links, brings}
use Rattle.swap_table.proofs.EventsComeToTheirEnds.{linked_keep}
use Rattle.swap_base.specs.declared.Via.TheVariants as via
use Rattle.swap_base.specs.declared.DiskWhich.TheVariants as which
use Rattle.swap_queue.specs.Queue as queue
use Rattle.swap_calls.specs.Calls as calls
use Rattle.swap_calls.specs.declared.Arrived.TheVariants as arrived
use Rattle.swap_table.proofs.HistoryAgreement.{get_or-map_idle}

-- one caller's call is replaced
busy-set :
    (cs : Calls) (i : ℕ) (call : Call)
    → count_by is_busy_call (set cs i call) + one_if (is_busy_call (get_or cs i idle_call)) ≤ count_by is_busy_call cs + one_if (is_busy_call call)
busy-set [] i call = omega arith
busy-set (x ∷ cs) zero call =
    let a = count_by-cons is_busy_call call cs in let b = count_by-cons is_busy_call x cs in omega (arith, a, b)
busy-set (x ∷ cs) (suc i) call =
    let a = count_by-cons is_busy_call x (set cs i call) in
    let b = count_by-cons is_busy_call x cs in
    let rest = busy-set cs i call in omega (arith, a, b, rest)

-- a call is changed and stays as busy as it was
busy-kept :
    (f : Call → Call) (cs : Calls) (i : ℕ) → ((x : Call) → is_busy_call (f x) ≡ is_busy_call x)
    → count_by is_busy_call (set cs i (f (get_or cs i idle_call))) ≡ count_by is_busy_call cs
busy-kept f [] i same = refl
busy-kept f (x ∷ cs) zero same =
    count_by-cons is_busy_call (f x) cs ∙ ap (λ b. one_if b + count_by is_busy_call cs) (same x) ∙ sym (count_by-cons is_busy_call x cs)
busy-kept f (x ∷ cs) (suc i) same =
    count_by-cons is_busy_call x (set cs i (f (get_or cs i idle_call))) ∙ ap (λ n. one_if (is_busy_call x) + n) (busy-kept f cs i same)
    ∙ sym (count_by-cons is_busy_call x cs)

busy-map : (f : Call → Call) (cs : Calls) → ((x : Call) → is_busy_call (f x) ≡ is_busy_call x) → count_by is_busy_call (map f cs) ≡ count_by is_busy_call cs
busy-map f [] same = refl
busy-map f (x ∷ cs) same =
    count_by-cons is_busy_call (f x) (map f cs) ∙ ap (λ b. one_if b + count_by is_busy_call (map f cs)) (same x)
    ∙ ap (λ n. one_if (is_busy_call x) + n) (busy-map f cs same) ∙ sym (count_by-cons is_busy_call x cs)

newer_busy : (p : Page) (state : CallState) → is_idle (calls.newer_if_reads p state) ≡ is_idle state
newer_busy p Idle = refl
newer_busy p (Room q since) = refl
newer_busy p (Reading q n v how newer since) = refl

paged_out_busy : (cs : Calls) (p : Page) → count_by is_busy_call (calls.paged_out cs p) ≡ count_by is_busy_call cs
paged_out_busy cs p =
    busy-map (λ (call : Call). record { state = calls.newer_if_reads p call.state; bytes = call.bytes }) cs (λ x. ap not (newer_busy p x.state))

paged_out_call : (cs : Calls) (p : Page) (c : Caller) → is_busy_call (call_of (calls.paged_out cs p) c) ≡ is_busy_call (call_of cs c)
paged_out_call cs p c =
    ap is_busy_call (get_or-map_idle (λ (call : Call). record { state = calls.newer_if_reads p call.state; bytes = call.bytes }) cs c.0 refl)
    ∙ ap not (newer_busy p (call_of cs c).state)

arrives_busy : (how : Arrived) (bytes : List ℕ) (x : Call) → is_busy_call (calls.arrives how bytes x x.state) ≡ is_busy_call x
arrives_busy how bytes x = go x.state refl
  where
    go : (state : CallState) → x.state ≡ state → is_busy_call (calls.arrives how bytes x state) ≡ is_busy_call x
    go Idle e = refl
    go (Room p since) e = refl
    go (Reading p n v arrived.Waiting newer since) e = sym (ap (λ s. not (is_idle s)) e)
    go (Reading p n v arrived.Came newer since) e = refl
    go (Reading p n v arrived.Failed newer since) e = refl
    go (Reading p n v arrived.Lost newer since) e = refl

-- what a step adds: entries and calls under way, no more than so many
abbrev pub Grows : ℕ → Device → Device → Type 0
Grows n d d' = length d'.history + busy_callers d' ≤ length d.history + busy_callers d + n

one_le : (b : Bool) → one_if b ≤ 1
one_le true = lit≤ tt
one_le false = lit≤ tt

-- a call that began is answered at once or is under way; one that was under way ends
enter_grows : (d : Device) (c : Caller) (p : Page) (bytes : List ℕ) → Grows 1 d (enter_entry d c p bytes)
enter_grows d c p bytes =
    let a = busy-set (calls.paged_out d.calls p) c.0 idle_call in
    let b = paged_out_busy d.calls p in omega (arith, a, b)

enter_ends : (d : Device) (c : Caller) (p : Page) (bytes : List ℕ) → is_busy_call (call_of d.calls c) ≡ true → Grows 0 d (enter_entry d c p bytes)
enter_ends d c p bytes busy =
    let a = busy-set (calls.paged_out d.calls p) c.0 idle_call in
    let b = paged_out_busy d.calls p in
    let one : one_if (is_busy_call (call_of (calls.paged_out d.calls p) c)) ≡ one_if true = ap one_if (paged_out_call d.calls p c ∙ busy) in
    omega (arith, a, b, one)

give_grows : (d : Device) (c : Caller) (p : Page) (named : Option EntryNo) (from : Origin) (bytes : List ℕ) → Grows 1 d (give d c p named from bytes)
give_grows d c p named from bytes = let a = busy-set d.calls c.0 idle_call in omega (arith, a)

give_ends :
    (d : Device) (c : Caller) (p : Page) (named : Option EntryNo) (from : Origin) (bytes : List ℕ) → is_busy_call (call_of d.calls c) ≡ true
    → Grows 0 d (give d c p named from bytes)
give_ends d c p named from bytes busy =
    let a = busy-set d.calls c.0 idle_call in let one : one_if (is_busy_call (call_of d.calls c)) ≡ one_if true = ap one_if busy in omega (arith, a, one)

fault_ends :
    (d : Device) (c : Caller) (p : Page) (kind : CallKind) (since at : ℕ) (bytes : List ℕ) → is_busy_call (call_of d.calls c) ≡ true
    → Grows 0 d (fault d c p kind since at bytes)
fault_ends d c p kind since at bytes busy =
    let a = busy-set d.calls c.0 idle_call in let one : one_if (is_busy_call (call_of d.calls c)) ≡ one_if true = ap one_if busy in omega (arith, a, one)

begins : (d : Device) (c : Caller) (call : Call) → Grows 1 d (record d { calls = set d.calls c.0 call })
begins d c call = let a = busy-set d.calls c.0 call in let b = one_le (is_busy_call call) in omega (arith, a, b)

goes_on : (d : Device) (c : Caller) (call : Call) → is_busy_call (call_of d.calls c) ≡ true → Grows 0 d (record d { calls = set d.calls c.0 call })
goes_on d c call busy =
    let a = busy-set d.calls c.0 call in let b = one_le (is_busy_call call) in
    let one : one_if (is_busy_call (call_of d.calls c)) ≡ one_if true = ap one_if busy in omega (arith, a, b, one)

-- a lost link leaves as many calls under way
lost_idle : (l : Lender) (state : CallState) → is_idle (calls.lost_if_through l state) ≡ is_idle state
lost_idle l Idle = refl
lost_idle l (Room p since) = refl
lost_idle l (Reading p n via.Disk how newer since) = refl
lost_idle l (Reading p n (via.Lender m) arrived.Waiting newer since) = refl
lost_idle l (Reading p n (via.Lender m) arrived.Came newer since) = refl
lost_idle l (Reading p n (via.Lender m) arrived.Failed newer since) = refl
lost_idle l (Reading p n (via.Lender m) arrived.Lost newer since) = refl

lost_busy : (cs : Calls) (l : Lender) → count_by is_busy_call (calls.lost_after cs l) ≡ count_by is_busy_call cs
lost_busy cs l = busy-map (calls.with_state (calls.lost_if_through l)) cs (λ x. ap not (lost_idle l x.state))

lost_call : (cs : Calls) (l : Lender) (c : Caller) → is_busy_call (call_of (calls.lost_after cs l) c) ≡ is_busy_call (call_of cs c)
lost_call cs l c = ap is_busy_call (get_or-map_idle (calls.with_state (calls.lost_if_through l)) cs c.0 refl) ∙ ap not (lost_idle l (call_of cs c).state)

stays : (d : Device) → Grows 0 d d
stays d = omega arith

came_grows : (d : Device) (c : Caller) (bytes : List ℕ) → Grows 0 d (record d { calls = calls.came_after d.calls c bytes })
came_grows d c bytes = let a = busy-kept (λ x. calls.arrives arrived.Came bytes x x.state) d.calls c.0 (arrives_busy arrived.Came bytes) in omega (arith, a)

wrote_grows : (d : Device) (p : Page) (copy : Option Copy) (ok : Bool) → Grows 0 d (wrote_after d p copy ok).0
wrote_grows d p None ok = omega arith
wrote_grows d p (Some copy) true = omega arith
wrote_grows d p (Some copy) false = omega arith

took_grows : (d : Device) (w : DiskWhich) (p : Page) (ok : Bool) (bytes : List ℕ) → Grows 0 d (took_after d w p ok bytes).0
took_grows d (which.Write q) p ok bytes = wrote_grows d p (queue.flying d.queue p) ok
took_grows d (which.Read c) p true bytes =
    let a = busy-kept (λ x. calls.arrives arrived.Came bytes x x.state) d.calls c.0 (arrives_busy arrived.Came bytes) in omega (arith, a)
took_grows d (which.Read c) p false bytes =
    let a = busy-kept (λ x. calls.arrives arrived.Failed [] x x.state) d.calls c.0 (arrives_busy arrived.Failed []) in omega (arith, a)

took_back_grows : (d : Device) (taken : Option Taken) → Grows 0 d (took_back d taken).0
took_back_grows d None = omega arith
took_back_grows d (Some t) = took_grows d t.done.which t.done.page t.done.ok t.bytes

-- links that are used leave as many calls under way, and each as it was
linked_grows : (n : ℕ) (d e d' : Device) → Linked e d' → Grows n d e → Grows n d d'
linked_grows n d e d' linked k = linked_keep (Grows n d) (λ x r made h. h) (λ x l h. let a = lost_busy x.calls l in omega (arith, a, h)) e d' linked k

linked_call : (d d' : Device) (c : Caller) → Linked d d' → is_busy_call (call_of d'.calls c) ≡ is_busy_call (call_of d.calls c)
linked_call d d' c linked =
    linked_keep (λ x. is_busy_call (call_of x.calls c) ≡ is_busy_call (call_of d.calls c)) (λ x r made h. h)
    (λ x l h. lost_call x.calls l c ∙ h) d d' linked refl

is_under_way : (d : Device) (c : Caller) (state : CallState) → state_of d.calls c ≡ state → is_idle state ≡ false → is_busy_call (call_of d.calls c) ≡ true
is_under_way d c state is busy_ = ap (λ x. not (is_idle x)) is ∙ ap not busy_

pub comes_grows : (d d' : Device) (page : List ℕ) (e : Event) (s : Seen) → Comes d page e d' s → GrowsByCalls e d d'
comes_grows d d' page e s (refuses new) = omega arith
comes_grows d d' page e s (rests new rest) = omega arith
comes_grows d d' page e s (accepts {c = c} {p = p} {bytes = bytes} (begins_out idle_call) linked) = linked_grows 1 d _ d' linked (enter_grows d c p bytes)
comes_grows d d' page e s (accepts {c = c} {p = p} (goes_on_out is) linked) =
    linked_grows 0 d _ d' linked (enter_ends d c p (call_of d.calls c).bytes (is_under_way d c _ is refl))
comes_grows d d' page e s (gives_page {c = c} {p = p} {named = named} {from = from} {bytes = bytes} (begins_in idle_call)) = give_grows d c p named from bytes
comes_grows d d' page e s (gives_page {c = c} {p = p} {named = named} {from = from} {bytes = bytes} (goes_on_in is)) =
    give_ends d c p named from bytes (is_under_way d c _ is refl)
comes_grows d d' page e s (fails {c = c} {p = p} {k = k} {since = since} {at = at} {bytes = bytes} (full is less)) =
    fault_ends d c p k since at bytes (is_under_way d c _ is refl)
comes_grows d d' page e s (fails {c = c} {p = p} {k = k} {since = since} {at = at} {bytes = bytes} (unread is)) =
    fault_ends d c p k since at bytes (is_under_way d c _ is refl)
comes_grows d d' page e s (keeps_page {c = c} idle_call) = begins d c _
comes_grows d d' page e s (reads {c = c} {p = p} {n = n} {d' = x} v (begins_in idle_call) is linked) =
    let a = begins x c (record { state = Reading p n v arrived.Waiting false x.failed_reads; bytes = [] }) in let b = linked_grows 0 d d x linked (stays d) in
    omega (arith, a, b)
comes_grows d d' page e s (reads {c = c} {p = p} {n = n} {d' = x} v (goes_on_in state) is linked) =
    let a =
    goes_on x c (record { state = Reading p n v arrived.Waiting false x.failed_reads; bytes = [] })
    (linked_call d x c linked ∙ is_under_way d c _ state refl) in
    let b = linked_grows 0 d d x linked (stays d) in omega (arith, a, b)
comes_grows d d' page e s starts_write = omega arith
comes_grows d d' page e s (takes_back taken) = took_back_grows d taken
comes_grows d d' page e s (links new of_link linked) = let a = linked_grows 0 d d d' linked (stays d) in omega (arith, a)
comes_grows d d' page e s (brings c bytes r linked) =
    let a = came_grows d c bytes in let b = linked_grows 0 d (record d { remote = r; calls = calls.came_after d.calls c bytes }) d' linked a in omega (arith, b)

-- what comes back from the disk leaves each caller as busy as it was
idle-kept :
    (f : Call → Call) (cs : Calls) (i j : ℕ) → ((x : Call) → is_idle (f x).state ≡ is_idle x.state)
    → is_idle (get_or (set cs i (f (get_or cs i idle_call))) j idle_call).state ≡ is_idle (get_or cs j idle_call).state
idle-kept f [] i j same = refl
idle-kept f (x ∷ cs) zero zero same = same x
idle-kept f (x ∷ cs) zero (suc j) same = refl
idle-kept f (x ∷ cs) (suc i) zero same = refl
idle-kept f (x ∷ cs) (suc i) (suc j) same = idle-kept f cs i j same

arrives_idle : (how : Arrived) (bytes : List ℕ) (x : Call) → is_idle (calls.arrives how bytes x x.state).state ≡ is_idle x.state
arrives_idle how bytes x = go x.state refl
  where
    go : (state : CallState) → x.state ≡ state → is_idle (calls.arrives how bytes x state).state ≡ is_idle x.state
    go Idle e = refl
    go (Room p since) e = refl
    go (Reading p n v arrived.Waiting newer since) e = sym (ap is_idle e)
    go (Reading p n v arrived.Came newer since) e = refl
    go (Reading p n v arrived.Failed newer since) e = refl
    go (Reading p n v arrived.Lost newer since) e = refl

wrote_idle :
    (d : Device) (p : Page) (copy : Option Copy) (ok : Bool) (c : Caller)
    → is_idle (state_of (wrote_after d p copy ok).0.calls c) ≡ is_idle (state_of d.calls c)
wrote_idle d p None ok c = refl
wrote_idle d p (Some copy) true c = refl
wrote_idle d p (Some copy) false c = refl

took_idle :
    (d : Device) (w : DiskWhich) (p : Page) (ok : Bool) (bytes : List ℕ) (c : Caller)
    → is_idle (state_of (took_after d w p ok bytes).0.calls c) ≡ is_idle (state_of d.calls c)
took_idle d (which.Write q) p ok bytes c = wrote_idle d p (queue.flying d.queue p) ok c
took_idle d (which.Read e) p true bytes c = idle-kept (λ x. calls.arrives arrived.Came bytes x x.state) d.calls e.0 c.0 (arrives_idle arrived.Came bytes)
took_idle d (which.Read e) p false bytes c = idle-kept (λ x. calls.arrives arrived.Failed [] x x.state) d.calls e.0 c.0 (arrives_idle arrived.Failed [])

pub took_back_idle : (d : Device) (taken : Option Taken) (c : Caller) → is_idle (state_of (took_back d taken).0.calls c) ≡ is_idle (state_of d.calls c)
took_back_idle d None c = refl
took_back_idle d (Some t) c = took_idle d t.done.which t.done.page t.done.ok t.bytes c
