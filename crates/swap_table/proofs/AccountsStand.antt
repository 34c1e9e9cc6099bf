-- What calls and copies stand for, as the history, the disk and the links go on.
use Rattle.std.proofs.Common.{◌≡◌, ℕ, ◌≤◌, Bool, true, false, cond, ◌==◌, List, [], ◌∷◌, find, refl, sym, ap, ◌∙◌, subst, arith, Option, None, Some}
use Rattle.std.proofs.lemmas.Bool.{eq-eqb, eqb-false}
use Rattle.swap_base.specs.declared.Page.{Page}
use Rattle.swap_base.specs.declared.Caller.{Caller}
use Rattle.swap_base.specs.declared.Lender.{Lender}
use Rattle.swap_base.specs.declared.EntryNo.{EntryNo}
use Rattle.swap_base.specs.declared.Via.{Via}
use Rattle.swap_base.specs.declared.Via.TheVariants as via
use Rattle.swap_record.specs.declared.Op.TheVariants as op
use Rattle.swap_record.specs.History.{History, Row, last, row_of, with_row, next_name}
use Rattle.swap_queue.specs.Queue.{Copy, Places, first_of}
use Rattle.swap_disk.specs.Disk.{Flight}
use Rattle.swap_calls.specs.Calls as calls
use Rattle.swap_calls.specs.Calls.{Call, Calls, state_of, call_of}
use Rattle.swap_calls.specs.declared.Arrived.{Arrived}
use Rattle.swap_calls.specs.declared.Arrived.TheVariants as arrived
use Rattle.swap_calls.specs.declared.CallState.{CallState}
use Rattle.swap_calls.specs.declared.CallState.TheVariants.{Idle, Room, Reading}
use Rattle.swap_rings.specs.Rings as rings
use Rattle.swap_rings.specs.Rings.{LinkState, down, is_up, link_of, ring_of}
use Rattle.swap_rings.specs.declared.Request.{Request}
use Rattle.swap_rings.specs.declared.Request.TheVariants.{Read}
use Rattle.swap_table.specs.Fits.{WaitsFor}
use Rattle.swap_table.specs.Serves.{IsOut, IsOutIn, bytes_of, bytes_in, WaitsFrom, IsContent}
use Rattle.swap_table.specs.Accounts.{is_read_of, IsUnderWayBy, HasItsRead, AnswersThrough, BringsContent, IsAccounted, IsOfEntry, IsOfLast, AreOfEntries}
use Rattle.swap_table.proofs.LinkTables.{link-other}
use Rattle.swap_table.proofs.EntriesStay.{out_on, named_last}
use Rattle.swap_table.proofs.RowsStay.{set_either, set_keeps, find_longer}

-- page-outs stay what they are
abbrev pub EntriesStay : History → History → Type 0
EntriesStay H H' = (p : Page) (e : EntryNo) → IsOut H p e → IsOut H' p e × (bytes_of H' e ≡ bytes_of H e)

pub entries_same : (H : History) → EntriesStay H H
entries_same H p e out = (out, refl)

pub entries_on : (H : History) (row : Row) → EntriesStay H (row ∷ H)
entries_on H row p e out = out_on H row p e out

-- a caller's read stays under way
abbrev pub ReadStays : Caller → List Flight → List Flight → List LinkState → List LinkState → Type 0
ReadStays c fs fs' links links' = (p : Page) (v : Via) → IsUnderWayBy fs links c p v → IsUnderWayBy fs' links' c p v

has_stays :
    (fs fs' : List Flight) (links links' : List LinkState) (c : Caller) (p : Page) (v : Via) (how : Arrived) → ReadStays c fs fs' links links'
    → HasItsRead fs links c p v how → HasItsRead fs' links' c p v how
has_stays fs fs' links links' c p v arrived.Waiting stays h = stays p v h
has_stays fs fs' links links' c p v arrived.Came stays h = tt
has_stays fs fs' links links' c p v arrived.Failed stays h = tt
has_stays fs fs' links links' c p v arrived.Lost stays h = tt

through_stays :
    (A : List ℕ → List ℕ → Type 0) (content content' : List ℕ) (v : Via) (bytes : List ℕ) → content' ≡ content → AnswersThrough A content v bytes
    → AnswersThrough A content' v bytes
through_stays A content content' via.Disk bytes same h = tt
through_stays A content content' (via.Lender l) bytes same h = subst (λ x. A x bytes) (sym same) h

brings_stays :
    (A : List ℕ → List ℕ → Type 0) (content content' : List ℕ) (v : Via) (bytes : List ℕ) (how : Arrived) → content' ≡ content
    → BringsContent A content v bytes how → BringsContent A content' v bytes how
brings_stays A content content' v bytes arrived.Waiting same h = tt
brings_stays A content content' v bytes arrived.Came same h = through_stays A content content' v bytes same h
brings_stays A content content' v bytes arrived.Failed same h = tt
brings_stays A content content' v bytes arrived.Lost same h = tt

-- a call, as entries and reads stay and failed writes are counted
pub stays :
    (A : List ℕ → List ℕ → Type 0) (w w' : ℕ) (H H' : History) (fs fs' : List Flight) (links links' : List LinkState) (c : Caller) (bytes : List ℕ)
    (state : CallState)
    → w ≤ w' → EntriesStay H H' → ReadStays c fs fs' links links'
    → IsAccounted A w H fs links c bytes state → IsAccounted A w' H' fs' links' c bytes state
stays A w w' H H' fs fs' links links' c bytes Idle more entries reads h = tt
stays A w w' H H' fs fs' links links' c bytes (Room p since) more entries reads h = omega (arith, more, h)
stays A w w' H H' fs fs' links links' c bytes (Reading p e v how newer since) more entries reads h =
    let out = entries p e h.0 in (out.0, has_stays fs fs' links links' c p v how reads h.1, brings_stays A (bytes_of H e) (bytes_of H' e) v bytes how out.1 h.2)

-- a call whose page was paged out
pub newer :
    (A : List ℕ → List ℕ → Type 0) (w : ℕ) (H : History) (fs : List Flight) (links : List LinkState) (c : Caller) (p : Page) (bytes : List ℕ)
    (state : CallState)
    → IsAccounted A w H fs links c bytes state → IsAccounted A w H fs links c bytes (calls.newer_if_reads p state)
newer A w H fs links c p bytes Idle h = h
newer A w H fs links c p bytes (Room q since) h = h
newer A w H fs links c p bytes (Reading q e v how is since) h = h

-- one call is set
pub call_set :
    (A : List ℕ → List ℕ → Type 0) (w : ℕ) (H : History) (fs : List Flight) (links : List LinkState) (cs : Calls) (c e : Caller) (call : Call)
    → ((e.0 ≡ c.0 → ⊥) → IsAccounted A w H fs links e (call_of cs e).bytes (state_of cs e)) → IsAccounted A w H fs links c call.bytes call.state
    → IsAccounted A w H fs links e (call_of (calls.with_call cs c call) e).bytes (state_of (calls.with_call cs c call) e)
call_set A w H fs links cs c e call old new =
    set_either (λ (x : Call). IsAccounted A w H fs links e x.bytes x.state) cs c.0 e.0 call calls.idle_call tt old
    (λ same. subst (λ n. IsAccounted A w H fs links (record { 0 = n }) call.bytes call.state) (sym same) new)

-- a read that came back from the disk, well or badly
pub disk_came :
    (A : List ℕ → List ℕ → Type 0) (w : ℕ) (H : History) (fs fs' : List Flight) (links : List LinkState) (c : Caller) (p : Page) (bytes : List ℕ) (call : Call)
    (state : CallState)
    → WaitsFor p state → IsAccounted A w H fs links c call.bytes state
    → let after : Call = calls.arrives arrived.Came bytes call state in IsAccounted A w H fs' links c after.bytes after.state
disk_came A w H fs fs' links c p bytes call Idle waits h = absurd waits
disk_came A w H fs fs' links c p bytes call (Room q since) waits h = absurd waits
disk_came A w H fs fs' links c p bytes call (Reading q e (via.Lender l) how is since) waits h = absurd waits
disk_came A w H fs fs' links c p bytes call (Reading q e via.Disk arrived.Waiting is since) waits h = (h.0, tt, tt)
disk_came A w H fs fs' links c p bytes call (Reading q e via.Disk arrived.Came is since) waits h = absurd waits
disk_came A w H fs fs' links c p bytes call (Reading q e via.Disk arrived.Failed is since) waits h = absurd waits
disk_came A w H fs fs' links c p bytes call (Reading q e via.Disk arrived.Lost is since) waits h = absurd waits

pub disk_failed :
    (A : List ℕ → List ℕ → Type 0) (w : ℕ) (H : History) (fs fs' : List Flight) (links : List LinkState) (c : Caller) (p : Page) (call : Call)
    (state : CallState)
    → WaitsFor p state → IsAccounted A w H fs links c call.bytes state
    → let after : Call = calls.arrives arrived.Failed [] call state in IsAccounted A w H fs' links c after.bytes after.state
disk_failed A w H fs fs' links c p call Idle waits h = absurd waits
disk_failed A w H fs fs' links c p call (Room q since) waits h = absurd waits
disk_failed A w H fs fs' links c p call (Reading q e (via.Lender l) how is since) waits h = absurd waits
disk_failed A w H fs fs' links c p call (Reading q e via.Disk arrived.Waiting is since) waits h = (h.0, tt, tt)
disk_failed A w H fs fs' links c p call (Reading q e via.Disk arrived.Came is since) waits h = absurd waits
disk_failed A w H fs fs' links c p call (Reading q e via.Disk arrived.Failed is since) waits h = absurd waits
disk_failed A w H fs fs' links c p call (Reading q e via.Disk arrived.Lost is since) waits h = absurd waits

-- a read that came from a lender
pub lender_came :
    (A : List ℕ → List ℕ → Type 0) (w : ℕ) (H : History) (fs : List Flight) (links links' : List LinkState) (l : Lender) (c : Caller) (p : Page)
    (page bytes : List ℕ) (call : Call) (state : CallState)
    → WaitsFrom l p state → IsContent H page p state → A page bytes → IsAccounted A w H fs links c call.bytes state
    → let after : Call = calls.arrives arrived.Came bytes call state in IsAccounted A w H fs links' c after.bytes after.state
lender_came A w H fs links links' l c p page bytes call Idle waits content answers h = absurd waits
lender_came A w H fs links links' l c p page bytes call (Room q since) waits content answers h = absurd waits
lender_came A w H fs links links' l c p page bytes call (Reading q e via.Disk how is since) waits content answers h = absurd waits
lender_came A w H fs links links' l c p page bytes call (Reading q e (via.Lender m) arrived.Waiting is since) waits content answers h =
    (h.0, tt, subst (λ x. A x bytes) content.1 answers)
lender_came A w H fs links links' l c p page bytes call (Reading q e (via.Lender m) arrived.Came is since) waits content answers h = absurd waits
lender_came A w H fs links links' l c p page bytes call (Reading q e (via.Lender m) arrived.Failed is since) waits content answers h = absurd waits
lender_came A w H fs links links' l c p page bytes call (Reading q e (via.Lender m) arrived.Lost is since) waits content answers h = absurd waits

-- a link is lost
pub through_lost :
    (A : List ℕ → List ℕ → Type 0) (w : ℕ) (H : History) (fs : List Flight) (links : List LinkState) (l : Lender) (c : Caller) (bytes : List ℕ)
    (state : CallState)
    → IsAccounted A w H fs links c bytes state → IsAccounted A w H fs (rings.lost_after links l) c bytes (calls.lost_if_through l state)
through_lost A w H fs links l c bytes Idle h = h
through_lost A w H fs links l c bytes (Room p since) h = h
through_lost A w H fs links l c bytes (Reading p e via.Disk arrived.Waiting is since) h = h
through_lost A w H fs links l c bytes (Reading p e via.Disk arrived.Came is since) h = h
through_lost A w H fs links l c bytes (Reading p e via.Disk arrived.Failed is since) h = h
through_lost A w H fs links l c bytes (Reading p e via.Disk arrived.Lost is since) h = h
through_lost A w H fs links l c bytes (Reading p e (via.Lender m) arrived.Came is since) h = h
through_lost A w H fs links l c bytes (Reading p e (via.Lender m) arrived.Failed is since) h = h
through_lost A w H fs links l c bytes (Reading p e (via.Lender m) arrived.Lost is since) h = h
through_lost A w H fs links l c bytes (Reading p e (via.Lender m) arrived.Waiting is since) h = go (m.0 == l.0) refl
  where
    go :
        (b : Bool) → (m.0 == l.0) ≡ b
        → IsAccounted A w H fs (rings.lost_after links l) c bytes (Reading p e (via.Lender m) (cond b arrived.Lost arrived.Waiting) is since)
    go true same = (h.0, tt, tt)
    go false same =
        let P : LinkState → Type 0 = λ y. (y.up ≡ true) × (find (is_read_of c) y.ring ≡ Some (Read c p)) in
        (h.0, subst P (sym (link-other links l m down (eqb-false m.0 l.0 same))) h.1, tt)

-- links on which a caller's read stays under way: one more request, or the oldest answered where it isn't the caller's
pub sent_reads : (c : Caller) (fs : List Flight) (links : List LinkState) (l : Lender) (x : Request) → ReadStays c fs fs links (rings.sent_after links l x)
sent_reads c fs links l x p via.Disk h = h
sent_reads c fs links l x p (via.Lender m) h =
    let P : LinkState → Type 0 = λ y. (y.up ≡ true) × (find (is_read_of c) y.ring ≡ Some (Read c p)) in
    set_keeps P links l.0 m.0 (rings.sent_on (link_of links l) x) down h
    (λ same. let here : P (link_of links l) = subst (λ n. P (link_of links (record { 0 = n }))) same h in
    (here.0, find_longer (is_read_of c) (ring_of links l) (x ∷ []) (Read c p) here.1))

pub answered_reads :
    (c : Caller) (fs : List Flight) (links : List LinkState) (l : Lender) (x : Request) (rest : List Request) → ring_of links l ≡ x ∷ rest
    → is_read_of c x ≡ false → ReadStays c fs fs links (rings.answered_after links l)
answered_reads c fs links l x rest ring other p via.Disk h = h
answered_reads c fs links l x rest ring other p (via.Lender m) h =
    let P : LinkState → Type 0 = λ y. (y.up ≡ true) × (find (is_read_of c) y.ring ≡ Some (Read c p)) in
    set_keeps P links l.0 m.0 (rings.answered_on (link_of links l)) down h
    (λ same.
    let here : P (link_of links l) = subst (λ n. P (link_of links (record { 0 = n }))) same h in
    let left : rings.without_oldest (ring_of links l) ≡ rest = ap rings.without_oldest ring in
    let found : find (is_read_of c) (x ∷ rest) ≡ Some (Read c p) = subst (λ ys. find (is_read_of c) ys ≡ Some (Read c p)) ring here.1 in
    (here.0, ap (λ ys. find (is_read_of c) ys) left ∙ sym (ap (λ b. cond b (Some x) (find (is_read_of c) rest)) other) ∙ found))

-- a link is made where none was up
pub raised_reads :
    (c : Caller) (fs : List Flight) (links : List LinkState) (l : Lender) → is_up links l ≡ false → ReadStays c fs fs links (rings.raised_after links l)
raised_reads c fs links l off p via.Disk h = h
raised_reads c fs links l off p (via.Lender m) h =
    let P : LinkState → Type 0 = λ y. (y.up ≡ true) × (find (is_read_of c) y.ring ≡ Some (Read c p)) in
    set_keeps P links l.0 m.0 rings.link_at_start down h (λ same. absurd (not_both off (subst (λ n. is_up links (record { 0 = n }) ≡ true) same h.0)))
  where
    not_both : {b : Bool} → b ≡ false → b ≡ true → ⊥
    not_both a b = cc

-- copies, as entries stay and the page's last page-out does
pub of_stays : (H H' : History) (p : Page) (o : Option Copy) → EntriesStay H H' → IsOfEntry H p o → IsOfEntry H' p o
of_stays H H' p None entries h = tt
of_stays H H' p (Some copy) entries h = let out = entries p copy.entry h.0 in (out.0, h.1 ∙ sym out.1)

pub last_stays : (H H' : History) (p : Page) (o : Option Copy) → last H' p ≡ last H p → IsOfLast H p o → IsOfLast H' p o
last_stays H H' p None same h = tt
last_stays H H' p (Some copy) same h = same ∙ h

pub copies_stay : (H H' : History) (p : Page) (places : Places) → EntriesStay H H' → last H' p ≡ last H p → AreOfEntries H p places → AreOfEntries H' p places
copies_stay H H' p places entries same h =
    (of_stays H H' p places.flying entries h.0, of_stays H H' p places.next entries h.1, last_stays H H' p (first_of places.next places.flying) same h.2)

-- the next copy alone, and the newest as the next one
pub next_last : (H : History) (p : Page) (next flying : Option Copy) (copy : Copy) → next ≡ Some copy → IsOfLast H p (first_of next flying) → IsOfLast H p next
next_last H p None flying copy is h = cc
next_last H p (Some x) flying copy is h = h

pub next_alone : (H : History) (p : Page) (next flying : Option Copy) → IsOfLast H p (first_of next flying) → IsOfLast H p (first_of next None)
next_alone H p None flying h = tt
next_alone H p (Some x) flying h = h

pub newest_of : (H : History) (p : Page) (next flying : Option Copy) → IsOfEntry H p flying → IsOfEntry H p next → IsOfEntry H p (first_of next flying)
newest_of H p None flying f n = f
newest_of H p (Some x) flying f n = n

pub newest_alone : (H : History) (p : Page) (o : Option Copy) → IsOfLast H p o → IsOfLast H p (first_of o None)
newest_alone H p None h = tt
newest_alone H p (Some x) h = h

-- an accepted page-out is the next copy of its page
pub put_copy :
    (H : History) (c : Caller) (p : Page) (bytes : List ℕ) (places : Places) → AreOfEntries H p places
    → AreOfEntries (with_row H c p op.PageOut bytes) p (record { flying = places.flying; next = Some (record { entry = next_name H; bytes = bytes }) })
put_copy H c p bytes places h =
    let row : Row = row_of H c p op.PageOut bytes in
    let is = named_last H row in (
      of_stays H (row ∷ H) p places.flying (entries_on H row) h.0,
      (subst (λ o. IsOutIn p o) (sym is) (eq-eqb p.0 p.0 refl), sym (ap bytes_in is)),
      ap (λ b. cond b (Some (next_name H)) (last H p)) (eq-eqb p.0 p.0 refl),
    )
