-- What the moves of calls and links leave of what device and disk agree on, and what entries leave of what the fabric keeps.
use Rattle.std.proofs.Common.{◌≡◌, ℕ, ◌<◌, Bool, true, false, cond, ◌==◌, List, [], ◌∷◌, get_or, set, zero, suc, refl, sym, ap, ◌∙◌, subst, arith, length-set, get_or-set_other, Option, None, Some}
use Rattle.std.proofs.lemmas.List.{length-map}
use Rattle.swap_base.specs.declared.Page.{Page}
use Rattle.swap_base.specs.declared.Caller.{Caller}
use Rattle.swap_base.specs.declared.Lender.{Lender}
use Rattle.swap_base.specs.declared.EntryNo.{EntryNo}
use Rattle.swap_base.specs.declared.Origin.{Origin}
use Rattle.swap_base.specs.declared.Via.TheVariants as via
use Rattle.swap_base.specs.declared.CallKind.{CallKind}
use Rattle.swap_base.specs.Sizes.{pages_of, zeros}
use Rattle.swap_record.specs.declared.Op.TheVariants as op
use Rattle.swap_record.specs.History.{History, Row, array, last, with_row, row_of, next_name}
use Rattle.swap_queue.specs.Queue.{Queue, newest}
use Rattle.swap_disk.specs.Disk.{Flight, Write, Read}
use Rattle.swap_disk.specs.Port.{Port}
use Rattle.swap_calls.specs.Calls as calls
use Rattle.swap_calls.specs.Calls.{Call, Calls, state_of, call_of}
use Rattle.swap_calls.specs.declared.Arrived.TheVariants as arrived
use Rattle.swap_calls.specs.declared.CallState.{CallState}
use Rattle.swap_calls.specs.declared.CallState.TheVariants.{Idle, Room, Reading}
use Rattle.swap_bits.specs.Bits.{has, without_number}
use Rattle.swap_remote.specs.Remote.{Remote, has_page}
use Rattle.swap_table.specs.Device.{Device, enter_entry, give, fault, lost_after, read_sent}
use Rattle.swap_activity.specs.Rates.{Activity}
use Rattle.swap_table.specs.Fits.{KeepsNewest, WaitsFor, IsExpected, IsFair, FitsDisk}
use Rattle.swap_table.specs.Serves.{Keeping, Owing, WaitsFrom, IsContent, Serves}
use Rattle.swap_base.proofs.Lists.{All-set, All-get_or, All-map, All-implies, by_page, by_caller, not_eqb}
use Rattle.swap_table.proofs.HistoryAgreement.{IdleFor, call_agrees, get_or-map_idle, state-paged_out}
use Rattle.swap_table.proofs.EntriesStay.{out_on, last_bytes}
use Rattle.swap_table.proofs.HistoryGoesOn.{IsShift, PageStays, shifted_serves}

-- lenders and links don't matter to the disk
pub remote_disk :
    (T : Bool) (A : List ℕ → List ℕ → Type 0) (d : Device) (p : Port) (r : Remote) (made : ℕ) → FitsDisk T A d p
    → FitsDisk T A (record d { remote = r; links_made = made }) p
remote_disk T A d p r made k = record { sizes = k.sizes; in_order = record { ordered = k.in_order.ordered; calls = k.in_order.calls }; agrees = k.agrees }

-- rates change
pub rates_disk :
    (T : Bool) (A : List ℕ → List ℕ → Type 0) (d : Device) (p : Port) (rates : List Activity) → FitsDisk T A d p → FitsDisk T A (record d { rates = rates }) p
rates_disk T A d p rates k = record { sizes = k.sizes; in_order = record { ordered = k.in_order.ordered; calls = k.in_order.calls }; agrees = k.agrees }

-- a read through a lender begins
pub read_sent_disk :
    (T : Bool) (A : List ℕ → List ℕ → Type 0) (d : Device) (p : Port) (l : Lender) (c : Caller) (page : Page) (n : EntryNo) → FitsDisk T A d p
    → IdleFor d.calls c
    → page.0 < pages_of d.sizes → last d.history page ≡ Some n → newest d.queue page ≡ None
    → FitsDisk T A (read_sent d l c page n) p
read_sent_disk T A d p l c page n k idles within is_last none = record {
  sizes = k.sizes;
  in_order =
      record {
        ordered = k.in_order.ordered;
        calls = All-set (λ (call : Call). KeepsNewest d.history d.failed_reads call.state) d.calls c.0 _ k.in_order.calls ((λ e. is_last), omega arith, tt);
      };
  agrees =
      call_agrees T A _ _ (zeros d.sizes) d.history d.queue p.blocks p.flights p.finished d.calls c
      (record { state = Reading page n (via.Lender l) arrived.Waiting false d.failed_reads; bytes = [] }) k.agrees idles (within, λ e. none);
}

-- a page came from a lender
newest_came :
    (H : History) (reads : ℕ) (call : Call) (state : CallState) (bytes : List ℕ) → KeepsNewest H reads state → KeepsNewest H reads call.state
    → KeepsNewest H reads (calls.arrives arrived.Came bytes call state).state
newest_came H reads call Idle bytes kept same = same
newest_came H reads call (Room q since) bytes kept same = same
newest_came H reads call (Reading q n v arrived.Waiting newer since) bytes kept same = (kept.0, kept.1, tt)
newest_came H reads call (Reading q n v arrived.Came newer since) bytes kept same = same
newest_came H reads call (Reading q n v arrived.Failed newer since) bytes kept same = same
newest_came H reads call (Reading q n v arrived.Lost newer since) bytes kept same = same

pub waits_not : (l : Lender) (p r : Page) (state : CallState) → WaitsFrom l p state → WaitsFor r state → ⊥
waits_not l p r Idle w f = f
waits_not l p r (Room q since) w f = f
waits_not l p r (Reading q n via.Disk how newer since) w f = w
waits_not l p r (Reading q n (via.Lender m) how newer since) w f = f

fair_brought :
    (T : Bool) (A : List ℕ → List ℕ → Type 0) (N reads : ℕ) (z : List ℕ) (H : History) (q : Queue) (l : Lender) (p : Page) (page bytes : List ℕ) (call : Call)
    (state : CallState)
    → WaitsFrom l p state → A page bytes → IsContent H page p state → KeepsNewest H reads state → IsFair T A N z H q call.bytes state
    → let after : Call = calls.arrives arrived.Came bytes call state in IsFair T A N z H q after.bytes after.state
fair_brought T A N reads z H q l p page bytes call Idle w answers content kept h = absurd w
fair_brought T A N reads z H q l p page bytes call (Room r since) w answers content kept h = absurd w
fair_brought T A N reads z H q l p page bytes call (Reading r n via.Disk how newer since) w answers content kept h = absurd w
fair_brought T A N reads z H q l p page bytes call (Reading r n (via.Lender m) arrived.Came newer since) w answers content kept h = absurd w
fair_brought T A N reads z H q l p page bytes call (Reading r n (via.Lender m) arrived.Failed newer since) w answers content kept h = absurd w
fair_brought T A N reads z H q l p page bytes call (Reading r n (via.Lender m) arrived.Lost newer since) w answers content kept h = absurd w
fair_brought T A N reads z H q l p page bytes call (Reading r n (via.Lender m) arrived.Waiting newer since) w answers content kept h =
    (h.0, λ e. subst (λ x. A x bytes) (content.1 ∙ last_bytes z H r n (kept.0 e)) answers)

pub brought_disk :
    (T : Bool) (A : List ℕ → List ℕ → Type 0) (d : Device) (p : Port) (l : Lender) (c : Caller) (pg : Page) (page bytes : List ℕ) (r : Remote)
    → FitsDisk T A d p
    → WaitsFrom l pg (state_of d.calls c) → A page bytes → IsContent d.history page pg (state_of d.calls c)
    → FitsDisk T A (record d { remote = r; calls = calls.came_after d.calls c bytes }) p
brought_disk T A d p l c pg page bytes r k waits answers content =
    let here : KeepsNewest d.history d.failed_reads (state_of d.calls c) =
    All-get_or (λ (call : Call). KeepsNewest d.history d.failed_reads call.state) d.calls c.0 calls.idle_call k.in_order.calls tt in
    let fair : IsFair T A (pages_of d.sizes) (zeros d.sizes) d.history d.queue (call_of d.calls c).bytes (state_of d.calls c) =
    All-get_or
    (λ (call : Call). IsFair T A (pages_of d.sizes) (zeros d.sizes) d.history d.queue call.bytes call.state) d.calls c.0 calls.idle_call k.agrees.fair tt in
    record {
      sizes = k.sizes;
      in_order =
          record {
            ordered = k.in_order.ordered;
            calls =
                All-set (λ (call : Call). KeepsNewest d.history d.failed_reads call.state) d.calls c.0 _ k.in_order.calls
                (newest_came d.history d.failed_reads (call_of d.calls c) (state_of d.calls c) bytes here here);
          };
      agrees =
          call_agrees T A _ _ (zeros d.sizes) d.history d.queue p.blocks p.flights p.finished d.calls c
          (calls.arrives arrived.Came bytes (call_of d.calls c) (state_of d.calls c)) k.agrees (λ x f. waits_not l pg x (state_of d.calls c) waits f)
          (fair_brought T A (pages_of d.sizes) d.failed_reads (zeros d.sizes) d.history d.queue l pg page bytes (call_of d.calls c)
          (state_of d.calls c) waits answers content here fair);
    }

-- the calls that waited through a lender are lost
newest_lost : (H : History) (reads : ℕ) (l : Lender) (state : CallState) → KeepsNewest H reads state → KeepsNewest H reads (calls.lost_if_through l state)
newest_lost H reads l Idle k = tt
newest_lost H reads l (Room q since) k = tt
newest_lost H reads l (Reading q n via.Disk how newer since) k = k
newest_lost H reads l (Reading q n (via.Lender m) arrived.Came newer since) k = k
newest_lost H reads l (Reading q n (via.Lender m) arrived.Failed newer since) k = k
newest_lost H reads l (Reading q n (via.Lender m) arrived.Lost newer since) k = k
newest_lost H reads l (Reading q n (via.Lender m) arrived.Waiting newer since) k = go (m.0 == l.0)
  where
    go : (b : Bool) → KeepsNewest H reads (Reading q n (via.Lender m) (cond b arrived.Lost arrived.Waiting) newer since)
    go true = (k.0, k.1, tt)
    go false = k

fair_lost :
    (T : Bool) (A : List ℕ → List ℕ → Type 0) (N : ℕ) (z : List ℕ) (H : History) (q : Queue) (l : Lender) (bytes : List ℕ) (state : CallState)
    → IsFair T A N z H q bytes state → IsFair T A N z H q bytes (calls.lost_if_through l state)
fair_lost T A N z H q l bytes Idle h = h
fair_lost T A N z H q l bytes (Room r since) h = h
fair_lost T A N z H q l bytes (Reading r n via.Disk how newer since) h = h
fair_lost T A N z H q l bytes (Reading r n (via.Lender m) arrived.Came newer since) h = h
fair_lost T A N z H q l bytes (Reading r n (via.Lender m) arrived.Failed newer since) h = h
fair_lost T A N z H q l bytes (Reading r n (via.Lender m) arrived.Lost newer since) h = h
fair_lost T A N z H q l bytes (Reading r n (via.Lender m) arrived.Waiting newer since) h = go (m.0 == l.0)
  where
    go : (b : Bool) → IsFair T A N z H q bytes (Reading r n (via.Lender m) (cond b arrived.Lost arrived.Waiting) newer since)
    go true = (h.0, λ e. tt)
    go false = h

waits_for_lost : (l : Lender) (p : Page) (state : CallState) → WaitsFor p state → WaitsFor p (calls.lost_if_through l state)
waits_for_lost l p Idle w = w
waits_for_lost l p (Room r since) w = w
waits_for_lost l p (Reading r n via.Disk how newer since) w = w
waits_for_lost l p (Reading r n (via.Lender m) how newer since) w = absurd w

expected_lost : (T : Bool) (N C : ℕ) (q : Queue) (cs : Calls) (l : Lender) (f : Flight) → IsExpected T N C q cs f → IsExpected T N C q (calls.lost_after cs l) f
expected_lost T N C q cs l (Write p bytes) h = h
expected_lost T N C q cs l (Read c p) h = (
  h.0,
  h.1,
  let P : CallState → Type 0 = λ s. WaitsFor p s in
      subst P (sym (ap (λ (x : Call). x.state) (get_or-map_idle (calls.with_state (calls.lost_if_through l)) cs c.0 refl)))
      (waits_for_lost l p (state_of cs c) h.2),
)

pub lost_disk : (T : Bool) (A : List ℕ → List ℕ → Type 0) (d : Device) (p : Port) (l : Lender) → FitsDisk T A d p → FitsDisk T A (lost_after d l) p
lost_disk T A d p l k =
    let a = k.agrees in
    record {
      sizes = k.sizes;
      in_order =
          record {
            ordered = k.in_order.ordered;
            calls =
                All-map (λ (call : Call). KeepsNewest d.history d.failed_reads call.state) (λ (call : Call). KeepsNewest d.history d.failed_reads call.state)
                (calls.with_state (calls.lost_if_through l)) d.calls (λ call h. newest_lost d.history d.failed_reads l call.state h) k.in_order.calls;
          };
      agrees =
          record {
            tells = a.tells;
            places_len = a.places_len;
            blocks_len = a.blocks_len;
            calls_len = length-map d.calls _ ∙ a.calls_len;
            held = a.held;
            expected =
                All-implies (IsExpected T (pages_of d.sizes) d.sizes.callers d.queue d.calls) _ p.flights
                (λ f h. expected_lost T (pages_of d.sizes) d.sizes.callers d.queue d.calls l f h) a.expected;
            distinct = a.distinct;
            writes = a.writes;
            under_way = a.under_way;
            in_line = a.in_line;
            apart = a.apart;
            fair =
                All-map (λ (call : Call). IsFair T A (pages_of d.sizes) (zeros d.sizes) d.history d.queue call.bytes call.state)
                (λ (call : Call). IsFair T A (pages_of d.sizes) (zeros d.sizes) d.history d.queue call.bytes call.state)
                (calls.with_state (calls.lost_if_through l)) d.calls
                (λ call h. fair_lost T A (pages_of d.sizes) (zeros d.sizes) d.history d.queue l call.bytes call.state h) a.fair;
            faithful = a.faithful;
          };
    }

-- an entry is pushed, and its caller is idle
call-ended : (cs : Calls) (c d : Caller) → (d.0 ≡ c.0 → ⊥) → state_of (calls.end_after cs c) d ≡ state_of cs d
call-ended cs c d other = ap (λ (x : Call). x.state) (get_or-set_other cs c.0 d.0 calls.idle_call calls.idle_call other)

waits_newer : (l : Lender) (q p : Page) (state : CallState) → WaitsFrom l q state → WaitsFrom l q (calls.newer_if_reads p state)
waits_newer l q p Idle w = absurd w
waits_newer l q p (Room r since) w = absurd w
waits_newer l q p (Reading r n via.Disk how newer since) w = absurd w
waits_newer l q p (Reading r n (via.Lender m) arrived.Waiting newer since) w = w
waits_newer l q p (Reading r n (via.Lender m) arrived.Came newer since) w = absurd w
waits_newer l q p (Reading r n (via.Lender m) arrived.Failed newer since) w = absurd w
waits_newer l q p (Reading r n (via.Lender m) arrived.Lost newer since) w = absurd w

array-other : (z : List ℕ) (H : History) (c : Caller) (p q : Page) (bytes : List ℕ) → (q.0 ≡ p.0 → ⊥)
    → array z (with_row H c p op.PageOut bytes) q ≡ array z H q
array-other z H c p q bytes other = ap (λ b. cond b bytes (array z H q)) (not_eqb p.0 q.0 (λ e. other (sym e)))

pub last-other : (H : History) (c : Caller) (p q : Page) (bytes : List ℕ) → (q.0 ≡ p.0 → ⊥) → last (with_row H c p op.PageOut bytes) q ≡ last H q
last-other H c p q bytes other = ap (λ b. cond b (Some (next_name H)) (last H q)) (not_eqb p.0 q.0 (λ e. other (sym e)))

content_on : (H : History) (row : Row) (q : Page) (page : List ℕ) (state : CallState) → IsContent H page q state → IsContent (row ∷ H) page q state
content_on H row q page Idle h = h
content_on H row q page (Room r since) h = h
content_on H row q page (Reading r n v how newer since) h = let on = out_on H row q n h.0 in (on.0, h.1 ∙ sym on.1)

content_newer : (H : History) (p q : Page) (page : List ℕ) (state : CallState) → IsContent H page q state → IsContent H page q (calls.newer_if_reads p state)
content_newer H p q page Idle h = h
content_newer H p q page (Room r since) h = h
content_newer H p q page (Reading r n v how newer since) h = h

enter_shift :
    (H : History) (cs : Calls) (c : Caller) (p : Page) (bytes : List ℕ) → ((m : Lender) (q : Page) → WaitsFrom m q (state_of cs c) → ⊥)
    → IsShift H (with_row H c p op.PageOut bytes) cs (calls.end_after (calls.paged_out cs p) c)
enter_shift H cs c p bytes idles = record {
  entries = λ q e out. out_on H (row_of H c p op.PageOut bytes) q e out;
  waits =
      λ l d q w.
      by_caller (λ d. WaitsFrom l q (state_of cs d) → WaitsFrom l q (state_of (calls.end_after (calls.paged_out cs p) c) d)) c d (λ w. absurd (idles l q w))
      (λ other w. let P : CallState → Type 0 = λ x. WaitsFrom l q x in
      subst P (sym (call-ended (calls.paged_out cs p) c d other ∙ state-paged_out cs p d)) (waits_newer l q p (state_of cs d) w))
      w;
  owed =
      λ l d q page w h.
      by_caller
      (λ d. WaitsFrom l q (state_of cs d) → IsContent H page q (state_of cs d)
      → IsContent (with_row H c p op.PageOut bytes) page q (state_of (calls.end_after (calls.paged_out cs p) c) d))
      c d
      (λ w h. absurd (idles l q w))
      (λ other w h.
      let P : CallState → Type 0 = λ x. IsContent (with_row H c p op.PageOut bytes) page q x in
      subst P (sym (call-ended (calls.paged_out cs p) c d other ∙ state-paged_out cs p d))
      (content_newer (with_row H c p op.PageOut bytes) p q page (state_of cs d) (content_on H (row_of H c p op.PageOut bytes) q page (state_of cs d) h)))
      w h;
}

pub cleared_here : (bits : List Bool) (i : ℕ) → get_or (set bits i false) i false ≡ false
cleared_here [] i = refl
cleared_here (b ∷ bits) zero = refl
cleared_here (b ∷ bits) (suc i) = cleared_here bits i

pub enter_serves :
    (keeps : Keeping) (owes : Owing) (n : ℕ) (d : Device) (c : Caller) (p : Page) (bytes : List ℕ)
    → ((m : Lender) (q : Page) → WaitsFrom m q (state_of d.calls c) → ⊥) → Serves keeps owes d.sizes n d.history d.calls d.remote
    → let e : Device = enter_entry d c p bytes in Serves keeps owes e.sizes n e.history e.calls e.remote
enter_serves keeps owes n d c p bytes idles k =
    let H' : History = with_row d.history c p op.PageOut bytes in
    let z : List ℕ = zeros d.sizes in
    shifted_serves keeps owes d.sizes n d.history H' d.calls (calls.end_after (calls.paged_out d.calls p) c) d.remote (without_number d.remote.bits p.0)
    (enter_shift d.history d.calls c p bytes idles) (length-set (calls.paged_out d.calls p) c.0 calls.idle_call ∙ length-map d.calls _)
    (length-set d.remote.bits p.0 false)
    (λ q within.
    by_page (λ q. PageStays z d.history H' q (has_page d.remote q) (has (without_number d.remote.bits p.0) q.0)) p q
    (record { clear = λ _. cleared_here d.remote.bits p.0; set = λ is. absurd (both (cleared_here d.remote.bits p.0) is) })
    (λ other.
    let bit : has (without_number d.remote.bits p.0) q.0 ≡ has_page d.remote q = get_or-set_other d.remote.bits p.0 q.0 false false other in
    record { clear = λ is. bit ∙ is; set = λ is. (sym bit ∙ is, last-other d.history c p q bytes other, array-other z d.history c p q bytes other) })) k
  where
    both : {b : Bool} → b ≡ false → b ≡ true → ⊥
    both a b = cc

-- an entry that is no page-out
in_shift :
    (H : History) (row : Row) (cs : Calls) (c : Caller) → ((m : Lender) (q : Page) → WaitsFrom m q (state_of cs c) → ⊥)
    → IsShift H (row ∷ H) cs (calls.end_after cs c)
in_shift H row cs c idles = record {
  entries = λ q e out. out_on H row q e out;
  waits =
      λ l d q w.
      by_caller (λ d. WaitsFrom l q (state_of cs d) → WaitsFrom l q (state_of (calls.end_after cs c) d)) c d (λ w. absurd (idles l q w))
      (λ other w. let P : CallState → Type 0 = λ x. WaitsFrom l q x in subst P (sym (call-ended cs c d other)) w) w;
  owed =
      λ l d q page w h.
      by_caller (λ d. WaitsFrom l q (state_of cs d) → IsContent H page q (state_of cs d) → IsContent (row ∷ H) page q (state_of (calls.end_after cs c) d)) c d
      (λ w h. absurd (idles l q w))
      (λ other w h.
      let P : CallState → Type 0 = λ x. IsContent (row ∷ H) page q x in
      subst P (sym (call-ended cs c d other)) (content_on H row q page (state_of cs d) h)) w h;
}

in_serves :
    (keeps : Keeping) (owes : Owing) (n : ℕ) (d : Device) (c : Caller) (row : Row) → ((m : Lender) (q : Page) → WaitsFrom m q (state_of d.calls c) → ⊥)
    → ((q : Page) → array (zeros d.sizes) (row ∷ d.history) q ≡ array (zeros d.sizes) d.history q) → ((q : Page) → last (row ∷ d.history) q ≡ last d.history q)
    → Serves keeps owes d.sizes n d.history d.calls d.remote → Serves keeps owes d.sizes n (row ∷ d.history) (calls.end_after d.calls c) d.remote
in_serves keeps owes n d c row idles array_same last_same k =
    shifted_serves keeps owes d.sizes n d.history (row ∷ d.history) d.calls (calls.end_after d.calls c) d.remote d.remote.bits
    (in_shift d.history row d.calls c idles) (length-set d.calls c.0 calls.idle_call) refl
    (λ q within. record { clear = λ is. is; set = λ is. (is, last_same q, array_same q) }) k

pub give_serves :
    (keeps : Keeping) (owes : Owing) (n : ℕ) (d : Device) (c : Caller) (p : Page) (named : Option EntryNo) (from : Origin) (bytes : List ℕ)
    → ((m : Lender) (q : Page) → WaitsFrom m q (state_of d.calls c) → ⊥) → Serves keeps owes d.sizes n d.history d.calls d.remote
    → let e : Device = give d c p named from bytes in Serves keeps owes e.sizes n e.history e.calls e.remote
give_serves keeps owes n d c p named from bytes idles k =
    in_serves keeps owes n d c (row_of d.history c p (op.PageIn named from) bytes) idles (λ q. refl) (λ q. refl) k

pub fault_serves :
    (keeps : Keeping) (owes : Owing) (n : ℕ) (d : Device) (c : Caller) (p : Page) (kind : CallKind) (since at : ℕ) (bytes : List ℕ)
    → ((m : Lender) (q : Page) → WaitsFrom m q (state_of d.calls c) → ⊥) → Serves keeps owes d.sizes n d.history d.calls d.remote
    → let e : Device = fault d c p kind since at bytes in Serves keeps owes e.sizes n e.history e.calls e.remote
fault_serves keeps owes n d c p kind since at bytes idles k =
    in_serves keeps owes n d c (row_of d.history c p (op.Failed kind since at) bytes) idles (λ q. refl) (λ q. refl) k
