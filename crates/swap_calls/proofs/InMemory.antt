-- A table in memory and the table that it stands for.
use Rattle.std.proofs.Common.{◌≡◌, ℕ, ◌<◌, suc, zero, Bool, true, false, List, [], ◌∷◌, length, map, get_or, set, replicate, refl, ap, sym, ◌∙◌, if◌then◌else◌, ◌==◌, Vec, Global}
use Rattle.std.specs.List.{All}
use Rattle.std.specs.Vec.{with_items}
use Rattle.std.proofs.lemmas.List.{map-set, get_or-map, with_items_is, length-map}
use Rattle.std.proofs.lemmas.List.Elements.{All-map, All-weaker}
use Rattle.swap_base.specs.declared.Page.{Page}
use Rattle.swap_base.specs.declared.Caller.{Caller}
use Rattle.swap_base.specs.declared.EntryNo.{EntryNo}
use Rattle.swap_base.specs.declared.Lender.{Lender}
use Rattle.swap_base.specs.declared.Via.TheVariants as via
use Rattle.swap_calls.specs.declared.Arrived.TheVariants as arrived
use Rattle.swap_calls.specs.declared.CallState.{CallState}
use Rattle.swap_calls.specs.declared.CallState.TheVariants.{Idle, Room, Reading}
use Rattle.swap_calls.specs.Calls.{Call, Calls, KeepsItsPage, idle_call, call_of, state_of, keeps_page, is_waiting, with_state, arrives, arrived_state, newer_if_reads, lost_if_through, came_after, failed_after}
use Rattle.swap_calls.specs.Kept.{Kept, call_in, calls_in, in_state}

pub call_of-in : (all : List Kept) (i : ℕ) (d : Kept) → i < length all → get_or (calls_in all) i idle_call ≡ call_in (get_or all i d)
call_of-in all i d lt = get_or-map call_in all i d idle_call lt

pub in_range : (all : List Kept) (i : ℕ) → i < length (calls_in all) → i < length all
in_range all i h = rw (length-map all call_in) at h

-- changes of the state that keep no page more and none less go through to the calls
pub each_state :
    (f : CallState → CallState) → ((s : CallState) → keeps_page (f s) ≡ keeps_page s) → (all : List Kept)
    → calls_in (map (in_state f) all) ≡ map (with_state f) (calls_in all)
each_state f same [] = refl
each_state f same (kept ∷ all) =
    ap (λ rest. call_in (in_state f kept) ∷ rest) (each_state f same all)
    ∙ ap (λ (b : Bool). (record { state = f kept.state; bytes = (if b then kept.page else []) }) ∷ map (with_state f) (calls_in all)) (same kept.state)

pub newer_keeps : (page : Page) (s : CallState) → keeps_page (newer_if_reads page s) ≡ keeps_page s
newer_keeps page Idle = refl
newer_keeps page (Room p since) = refl
newer_keeps page (Reading p newest v arrived.Waiting newer since) = refl
newer_keeps page (Reading p newest v arrived.Came newer since) = refl
newer_keeps page (Reading p newest v arrived.Failed newer since) = refl
newer_keeps page (Reading p newest v arrived.Lost newer since) = refl

waiting_or_lost :
    (lost : Bool) (p : Page) (n : EntryNo) (l : Lender) (newer : Bool) (since : ℕ)
    → keeps_page (Reading p n (via.Lender l) (if lost then arrived.Lost else arrived.Waiting) newer since) ≡ false
waiting_or_lost true p n l newer since = refl
waiting_or_lost false p n l newer since = refl

pub lost_keeps : (lender : Lender) (s : CallState) → keeps_page (lost_if_through lender s) ≡ keeps_page s
lost_keeps lender Idle = refl
lost_keeps lender (Room p since) = refl
lost_keeps lender (Reading p newest (via.Lender l) arrived.Waiting newer since) = waiting_or_lost (l.0 == lender.0) p newest l newer since
lost_keeps lender (Reading p newest via.Disk arrived.Waiting newer since) = refl
lost_keeps lender (Reading p newest (via.Lender l) arrived.Came newer since) = refl
lost_keeps lender (Reading p newest via.Disk arrived.Came newer since) = refl
lost_keeps lender (Reading p newest (via.Lender l) arrived.Failed newer since) = refl
lost_keeps lender (Reading p newest via.Disk arrived.Failed newer since) = refl
lost_keeps lender (Reading p newest (via.Lender l) arrived.Lost newer since) = refl
lost_keeps lender (Reading p newest via.Disk arrived.Lost newer since) = refl

-- a read that is waited for, as its page comes
pub came_call :
    (bytes : List ℕ) (call : Call) (s : CallState) → is_waiting s ≡ true
    → call_in (record { state = arrived_state arrived.Came s; page = bytes }) ≡ arrives arrived.Came bytes call s
came_call bytes call Idle is = cc
came_call bytes call (Room p since) is = cc
came_call bytes call (Reading p newest v arrived.Waiting newer since) is = refl
came_call bytes call (Reading p newest v arrived.Came newer since) is = cc
came_call bytes call (Reading p newest v arrived.Failed newer since) is = cc
came_call bytes call (Reading p newest v arrived.Lost newer since) is = cc

-- and as it fails
pub failed_call :
    (page : List ℕ) (call : Call) (s : CallState) → is_waiting s ≡ true
    → call_in (record { state = arrived_state arrived.Failed s; page = page }) ≡ arrives arrived.Failed [] call s
failed_call page call Idle is = cc
failed_call page call (Room p since) is = cc
failed_call page call (Reading p newest v arrived.Waiting newer since) is = refl
failed_call page call (Reading p newest v arrived.Came newer since) is = cc
failed_call page call (Reading p newest v arrived.Failed newer since) is = cc
failed_call page call (Reading p newest v arrived.Lost newer since) is = cc

-- a read that arrives keeps its page or nothing
pub came_whole :
    (n : ℕ) (bytes : List ℕ) (call : Call) (s : CallState) → length bytes ≡ n → KeepsItsPage n call → KeepsItsPage n (arrives arrived.Came bytes call s)
came_whole n bytes call Idle len h = h
came_whole n bytes call (Room p since) len h = h
came_whole n bytes call (Reading p newest v arrived.Waiting newer since) len h = len
came_whole n bytes call (Reading p newest v arrived.Came newer since) len h = h
came_whole n bytes call (Reading p newest v arrived.Failed newer since) len h = h
came_whole n bytes call (Reading p newest v arrived.Lost newer since) len h = h

pub failed_whole : (n : ℕ) (call : Call) (s : CallState) → KeepsItsPage n call → KeepsItsPage n (arrives arrived.Failed [] call s)
failed_whole n call Idle h = h
failed_whole n call (Room p since) h = h
failed_whole n call (Reading p newest v arrived.Waiting newer since) h = refl
failed_whole n call (Reading p newest v arrived.Came newer since) h = h
failed_whole n call (Reading p newest v arrived.Failed newer since) h = h
failed_whole n call (Reading p newest v arrived.Lost newer since) h = h

pub each_kept :
    (f : CallState → CallState) → ((s : CallState) → keeps_page (f s) ≡ keeps_page s) → (n : ℕ) (cs : Calls) → All (KeepsItsPage n) cs
    → All (KeepsItsPage n) (map (with_state f) cs)
each_kept f same n cs h =
    All-map (KeepsItsPage n) (with_state f) cs
    (All-weaker (KeepsItsPage n) (λ call. KeepsItsPage n (with_state f call)) (λ call keeps. rw (same call.state) keeps) cs h)

-- the place of a caller is written, and its call is what the place stands for
pub came_in : (all : List Kept) (caller : Caller) (d : Kept) (bytes : List ℕ) → caller.0 < length all → is_waiting (state_of (calls_in all) caller) ≡ true
    → calls_in (set all caller.0 (record { state = arrived_state arrived.Came (get_or all caller.0 d).state; page = bytes }))
    ≡ came_after (calls_in all) caller bytes
came_in all caller d bytes lt is =
    let same : get_or (calls_in all) caller.0 idle_call ≡ call_in (get_or all caller.0 d) = call_of-in all caller.0 d lt in
    map-set call_in all caller.0 _
    ∙ ap (λ (s : CallState). set (calls_in all) caller.0 (call_in (record { state = arrived_state arrived.Came s; page = bytes })))
    (ap (λ (call : Call). call.state) (sym same))
    ∙ ap (λ (call : Call). set (calls_in all) caller.0 call) (came_call bytes (call_of (calls_in all) caller) (state_of (calls_in all) caller) is)

pub failed_in : (all : List Kept) (caller : Caller) (d : Kept) (page : List ℕ) → caller.0 < length all → is_waiting (state_of (calls_in all) caller) ≡ true
    → calls_in (set all caller.0 (record { state = arrived_state arrived.Failed (get_or all caller.0 d).state; page = page }))
    ≡ failed_after (calls_in all) caller
failed_in all caller d page lt is =
    let same : get_or (calls_in all) caller.0 idle_call ≡ call_in (get_or all caller.0 d) = call_of-in all caller.0 d lt in
    map-set call_in all caller.0 _
    ∙ ap (λ (s : CallState). set (calls_in all) caller.0 (call_in (record { state = arrived_state arrived.Failed s; page = page })))
    (ap (λ (call : Call). call.state) (sym same))
    ∙ ap (λ (call : Call). set (calls_in all) caller.0 call) (failed_call page (call_of (calls_in all) caller) (state_of (calls_in all) caller) is)

pub idle_in : (n : ℕ) (page : List ℕ) → calls_in (replicate n (record { state = Idle; page = page })) ≡ replicate n idle_call
idle_in zero page = refl
idle_in (suc n) page = ap (λ rest. idle_call ∷ rest) (idle_in n page)

pub each_whole :
    (f : CallState → CallState) (page_bytes : ℕ) (all : List Kept) → All (λ kept. length kept.page ≡ page_bytes) all
    → All (λ kept. length kept.page ≡ page_bytes) (map (in_state f) all)
each_whole f page_bytes all h = All-map (λ kept. length kept.page ≡ page_bytes) (in_state f) all h

-- each place has a whole page, so each call keeps one or nothing
kept_or_none :
    (page_bytes : ℕ) (keeps : Bool) (page : List ℕ) → length page ≡ page_bytes → length (if keeps then page else []) ≡ (if keeps then page_bytes else 0)
kept_or_none page_bytes true page h = h
kept_or_none page_bytes false page h = refl

pub table_in : (page_bytes : ℕ) (all : List Kept) → All (λ kept. length kept.page ≡ page_bytes) all → All (KeepsItsPage page_bytes) (calls_in all)
table_in page_bytes all h =
    All-map (KeepsItsPage page_bytes) call_in all
    (All-weaker (λ kept. length kept.page ≡ page_bytes) (λ kept. KeepsItsPage page_bytes (call_in kept))
    (λ kept len. kept_or_none page_bytes (keeps_page kept.state) kept.page len) all h)

-- a sweep over the places writes each of them
pub swept :
    (v : Vec Kept Global) (ws seen : List Kept) (f : CallState → CallState) → ws ≡ map (in_state f) seen → seen ≡ v.items
    → (with_items v ws).items ≡ map (in_state f) v.items
swept v ws seen f new old =
    let is : ws ≡ map (in_state f) v.items = rw (← old) new in
    with_items_is v ws (ap length is ∙ length-map v.items (in_state f) ∙ sym v.ok.0) ∙ is
