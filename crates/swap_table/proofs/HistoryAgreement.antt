-- Each move of the device and of its disk keeps queue, disk and calls in agreement with the history.
use Rattle.std.specs.Option.{option_or}
use Rattle.std.proofs.Common.{◌+◌, add-zero, zero-add, ◌≡◌, ℕ, ◌<◌, Bool, true, false, cond, ◌==◌, List, [], ◌∷◌, ◌++◌, length, map, get_or, set, find, zero, suc, refl, sym, ap, ◌∙◌, subst, arith, length-set, get_or-set_same, get_or-set_other, IsSome, is_some, is_none, MatchOption, Option, None, Some}
use Rattle.std.proofs.lemmas.Bool.{eqb-false, eq-eqb}
use Rattle.std.proofs.lemmas.List.{length-map}
use Rattle.std.proofs.lemmas.List.Folds.{find-append}
use Rattle.std.specs.List.{AllByRecursion}
use Rattle.swap_base.specs.declared.Page.{Page}
use Rattle.swap_base.specs.declared.Caller.{Caller}
use Rattle.swap_base.specs.declared.EntryNo.{EntryNo}
use Rattle.swap_base.specs.declared.Via.{Via}
use Rattle.swap_base.specs.declared.Via.TheVariants as via
use Rattle.swap_base.specs.declared.DiskWhich.{DiskWhich}
use Rattle.swap_base.specs.declared.DiskWhich.TheVariants as which
use Rattle.swap_record.specs.History.{History, Row, array, with_row, next_name}
use Rattle.swap_record.specs.declared.Op.TheVariants as op
use Rattle.swap_queue.specs.Queue as queue
use Rattle.swap_queue.specs.Queue.{Queue, Places, Copy, places_of, newest, next_copy, flying, first_of}
use Rattle.swap_disk.specs.Disk.{Flight, Write, Read, Finished, which_of, same_which, is_flight_of, without_flight}
use Rattle.swap_disk.specs.Port.{writes_in, is_write, kept_by, settled_with}
use Rattle.swap_calls.specs.Calls as calls
use Rattle.swap_calls.specs.Calls.{Call, Calls, state_of, call_of, idle_call}
use Rattle.swap_calls.specs.declared.Arrived.{Arrived}
use Rattle.swap_calls.specs.declared.Arrived.TheVariants as arrived
use Rattle.swap_calls.specs.declared.CallState.{CallState}
use Rattle.swap_calls.specs.declared.CallState.TheVariants.{Idle, Room, Reading}
use Rattle.swap_table.specs.Device.{origin_of}
use Rattle.swap_table.specs.Fits.{MayGive, GivesWhatItMay, HoldsPage, IsBlock, block_in, IsCopyOf, WaitsFor, IsExpected, IsOther, AreDistinct, flies, IsSettled, IsUnderWay, IsInLine, AreApart, Brings, IsFair, Agrees}
use Rattle.swap_base.proofs.Lists.{All-set, All-get_or, All-map, All-implies, All-append, both, by_page, by_caller, not_eqb, count_by-set_same, count_by-set_more, count_by-set_less, count_by-append_one, count_by-cons}
use Rattle.swap_disk.specs.lemmas.Follows.{same_is, found_is}
use Rattle.swap_base.proofs.Bools.{or_parts}

-- a page-out changes the array at its page alone
array-out_same : (zeros : List ℕ) (H : History) (c : Caller) (p : Page) (bytes : List ℕ) → array zeros (with_row H c p op.PageOut bytes) p ≡ bytes
array-out_same zeros H c p bytes = ap (λ b. cond b bytes (array zeros H p)) (eq-eqb p.0 p.0 refl)

array-out_other :
    (zeros : List ℕ) (H : History) (c : Caller) (p r : Page) (bytes : List ℕ) → (r.0 ≡ p.0 → ⊥)
    → array zeros (with_row H c p op.PageOut bytes) r ≡ array zeros H r
array-out_other zeros H c p r bytes ne = ap (λ b. cond b bytes (array zeros H r)) (not_eqb p.0 r.0 (λ e. ne (sym e)))

-- the places of a page after they were set
places-same : (q q' : Queue) (p : Page) (x : Places) → p.0 < length q.places → q'.places ≡ set q.places p.0 x → places_of q' p ≡ x
places-same q q' p x h e = ap (λ (ps : List Places). get_or ps p.0 (record { flying = None; next = None })) e ∙ get_or-set_same q.places p.0 x _ h

places-other : (q q' : Queue) (p r : Page) (x : Places) → (r.0 ≡ p.0 → ⊥) → q'.places ≡ set q.places p.0 x → places_of q' r ≡ places_of q r
places-other q q' p r x ne e = ap (λ (ps : List Places). get_or ps r.0 (record { flying = None; next = None })) e ∙ get_or-set_other q.places p.0 r.0 x _ ne

holds_same : (a a' : Places) (b b' : Option (List ℕ)) (c c' : List ℕ) → a' ≡ a → b' ≡ b → c' ≡ c → HoldsPage a b c → HoldsPage a' b' c'
holds_same a a' b b' c c' ea eb ec h =
    let P : Places → Type 0 = λ x. HoldsPage x b c in
    let Q : Option (List ℕ) → Type 0 = λ x. HoldsPage a' x c in
    let R : List ℕ → Type 0 = λ x. HoldsPage a' b' x in subst R (sym ec) (subst Q (sym eb) (subst P (sym ea) h))

state-set_other : (cs : Calls) (c e : Caller) (call : Call) → (e.0 ≡ c.0 → ⊥) → state_of (set cs c.0 call) e ≡ state_of cs e
state-set_other cs c e call ne = ap (λ (x : Call). x.state) (get_or-set_other cs c.0 e.0 call idle_call ne)

expected_call :
    (T : Bool) (N C : ℕ) (q : Queue) (cs : Calls) (c : Caller) (call : Call) (f : Flight) → ((p : Page) → WaitsFor p (state_of cs c) → ⊥)
    → IsExpected T N C q cs f → IsExpected T N C q (set cs c.0 call) f
expected_call T N C q cs c call (Write p bytes) idles h = h
expected_call T N C q cs c call (Read e p) idles h = (
  h.0,
  h.1,
  by_caller (λ x. WaitsFor p (state_of cs x) → WaitsFor p (state_of (set cs c.0 call) x)) c e (λ w. absurd (idles p w))
      (λ ne w. let P : CallState → Type 0 = λ s. WaitsFor p s in subst P (sym (state-set_other cs c e call ne)) w) h.2,
)

pub get_or-map_idle : (f : Call → Call) (cs : Calls) (i : ℕ) → f idle_call ≡ idle_call → get_or (map f cs) i idle_call ≡ f (get_or cs i idle_call)
get_or-map_idle f [] i e = sym e
get_or-map_idle f (x ∷ cs) zero e = refl
get_or-map_idle f (x ∷ cs) (suc i) e = get_or-map_idle f cs i e

waits_newer : (p r : Page) (state : CallState) → WaitsFor p state → WaitsFor p (calls.newer_if_reads r state)
waits_newer p r Idle w = w
waits_newer p r (Room q since) w = w
waits_newer p r (Reading q newest via.Disk arrived.Waiting newer since) w = w
waits_newer p r (Reading q newest via.Disk arrived.Came newer since) w = w
waits_newer p r (Reading q newest via.Disk arrived.Failed newer since) w = w
waits_newer p r (Reading q newest via.Disk arrived.Lost newer since) w = w
waits_newer p r (Reading q newest (via.Lender l) how newer since) w = w

newer_waits : (p r : Page) (state : CallState) → WaitsFor p (calls.newer_if_reads r state) → WaitsFor p state
newer_waits p r Idle w = w
newer_waits p r (Room q since) w = w
newer_waits p r (Reading q newest via.Disk arrived.Waiting newer since) w = w
newer_waits p r (Reading q newest via.Disk arrived.Came newer since) w = w
newer_waits p r (Reading q newest via.Disk arrived.Failed newer since) w = w
newer_waits p r (Reading q newest via.Disk arrived.Lost newer since) w = w
newer_waits p r (Reading q newest (via.Lender l) how newer since) w = w

pub state-paged_out : (cs : Calls) (p : Page) (c : Caller) → state_of (calls.paged_out cs p) c ≡ calls.newer_if_reads p (state_of cs c)
state-paged_out cs p c = ap (λ (x : Call). x.state) (get_or-map_idle _ cs c.0 refl)

expected_newer : (T : Bool) (N C : ℕ) (q : Queue) (cs : Calls) (r : Page) (f : Flight) → IsExpected T N C q cs f → IsExpected T N C q (calls.paged_out cs r) f
expected_newer T N C q cs r (Write p bytes) h = h
expected_newer T N C q cs r (Read e p) h =
    (h.0, h.1, let P : CallState → Type 0 = λ s. WaitsFor p s in subst P (sym (state-paged_out cs r e)) (waits_newer p r (state_of cs e) h.2))

-- the queue's flying copies are as they were where they matter
expected_queue :
    (T : Bool) (N C : ℕ) (q q' : Queue) (cs : Calls) (f : Flight) → ((p : Page) (bytes : List ℕ) → f ≡ Write p bytes → flying q' p ≡ flying q p)
    → IsExpected T N C q cs f → IsExpected T N C q' cs f
expected_queue T N C q q' cs (Write p bytes) same h = (h.0, let P : Option Copy → Type 0 = λ o. IsCopyOf T bytes o in subst P (sym (same p bytes refl)) h.1)
expected_queue T N C q q' cs (Read e p) same h = h

-- a write in flight isn't of a page where none flies
pub other_write :
    (T : Bool) (N C : ℕ) (q : Queue) (cs : Calls) (p : Page) (f : Flight) → flying q p ≡ None → IsExpected T N C q cs f
    → same_which (which.Write p) (which_of f) ≡ false
other_write T N C q cs p (Read e r) none h = refl
other_write T N C q cs p (Write r bytes) none h =
    not_eqb p.0 r.0 (λ e.
    let P : Option Copy → Type 0 = λ o. IsCopyOf T bytes o in
    let there : flying q r ≡ None = subst (λ n. flying q (record { 0 = n }) ≡ None) e none in subst P there h.1)

pub other_read :
    (T : Bool) (N C : ℕ) (q : Queue) (cs : Calls) (c : Caller) (f : Flight) → ((p : Page) → WaitsFor p (state_of cs c) → ⊥) → IsExpected T N C q cs f
    → same_which (which.Read c) (which_of f) ≡ false
other_read T N C q cs c (Write r bytes) idles h = refl
other_read T N C q cs c (Read e p) idles h =
    not_eqb c.0 e.0 (λ same. idles p (subst (λ n. WaitsFor p (state_of cs (record { 0 = n }))) (sym same) h.2))

-- what a queue's places say, where they are those of another queue
some_not_none : {X : Type 0} (o : Option X) → is_some o ≡ true → o ≡ None → ⊥
some_not_none None e n = cc
some_not_none (Some x) e n = cc

none_first : {X : Type 0} (a b : Option X) → is_none (first_of a b) ≡ true → (a ≡ None) × (b ≡ None)
none_first None None e = (refl, refl)
none_first None (Some y) e = cc
none_first (Some x) b e = cc

in_line_same : (N : ℕ) (q q' : Queue) (p : Page) → places_of q' p ≡ places_of q p → IsInLine N q p → IsInLine N q' p
in_line_same N q q' p e h =
    (h.0, let P : Places → Type 0 = λ x. IsSome x.next in subst P (sym e) h.1, let P : Places → Type 0 = λ x. x.flying ≡ None in subst P (sym e) h.2)

newest_same : (q q' : Queue) (p : Page) → places_of q' p ≡ places_of q p → newest q' p ≡ newest q p
newest_same q q' p e = ap (λ (x : Places). first_of x.next x.flying) e

flying_same : (q q' : Queue) (p : Page) → places_of q' p ≡ places_of q p → flying q' p ≡ flying q p
flying_same q q' p e = ap (λ (x : Places). x.flying) e

brings_same :
    (T : Bool) (A : List ℕ → List ℕ → Type 0) (q q' : Queue) (a a' : List ℕ) (p : Page) (bytes : List ℕ) (v : Via) (how : Arrived) → newest q' p ≡ newest q p
    → a' ≡ a → Brings T A q a p bytes v how → Brings T A q' a' p bytes v how
brings_same T A q q' a a' p bytes v arrived.Waiting en ea h = en ∙ h
brings_same T A q q' a a' p bytes v arrived.Came en ea h = let P : List ℕ → Type 0 = λ x. MayGive T A (origin_of v) x bytes in subst P (sym ea) h
brings_same T A q q' a a' p bytes v arrived.Failed en ea h = tt
brings_same T A q q' a a' p bytes v arrived.Lost en ea h = tt

apart-append : (ps : List Page) (p : Page) → AreApart ps → AllByRecursion (λ (r : Page). p.0 ≡ r.0 → ⊥) ps → AreApart (ps ++ p ∷ [])
apart-append [] p a all = (tt, tt)
apart-append (r ∷ ps) p a all = (All-append _ ps (p ∷ []) a.0 (all.0, tt), apart-append ps p a.1 all.1)

-- the line with a page at its back, where it is to wait
waits : Bool → List Page → Page → List Page
waits b line p = cond b (line ++ p ∷ []) line

in_line_waits :
    (N : ℕ) (q : Queue) (b : Bool) (line : List Page) (p : Page) → AllByRecursion (IsInLine N q) line → (b ≡ true → IsInLine N q p)
    → AllByRecursion (IsInLine N q) (cond b (line ++ p ∷ []) line)
in_line_waits N q true line p all one = All-append _ line (p ∷ []) all (one refl, tt)
in_line_waits N q false line p all one = all

apart_waits :
    (b : Bool) (line : List Page) (p : Page) → AreApart line → (b ≡ true → AllByRecursion (λ (r : Page). p.0 ≡ r.0 → ⊥) line)
    → AreApart (cond b (line ++ p ∷ []) line)
apart_waits true line p a all = apart-append line p a (all refl)
apart_waits false line p a all = a

abbrev pub IdleFor : Calls → Caller → Type 0
IdleFor cs c = (r : Page) → WaitsFor r (state_of cs c) → ⊥

fair_out :
    (T : Bool) (A : List ℕ → List ℕ → Type 0) (N : ℕ) (z : List ℕ) (H : History) (c : Caller) (p : Page) (bytes : List ℕ) (q q' : Queue) (x : Places)
    (own : List ℕ) (state : CallState)
    → q'.places ≡ set q.places p.0 x → IsFair T A N z H q own state → IsFair T A N z (with_row H c p op.PageOut bytes) q' own (calls.newer_if_reads p state)
fair_out T A N z H c p bytes q q' x own Idle e h = tt
fair_out T A N z H c p bytes q q' x own (Room r since) e h = h
fair_out T A N z H c p bytes q q' x own (Reading r newest v how newer since) e h = (
  h.0,
  λ not_newer.
      let parts = or_parts newer (p.0 == r.0) not_newer in
      let ne : r.0 ≡ p.0 → ⊥ = λ same. eqb-false p.0 r.0 parts.1 (sym same) in
      brings_same T A q q' _ _ r own v how (newest_same q q' r (places-other q q' p r x ne e)) (array-out_other z H c p r bytes ne) (h.1 parts.0),
)

pub enter_agrees : (T : Bool) (A : List ℕ → List ℕ → Type 0) (N C : ℕ) (z : List ℕ) (H : History) (q : Queue) (bl : Option (List (List ℕ))) (fs : List Flight)
    (fin : Option Finished) (cs : Calls) (c : Caller) (p : Page) (bytes : List ℕ)
    → Agrees T A N C z H q bl fs fin cs → p.0 < N → IdleFor cs c
    → Agrees T A N C z (with_row H c p op.PageOut bytes) (queue.put_after q p (record { entry = next_name H; bytes = bytes })) bl fs fin
    (calls.end_after (calls.paged_out cs p) c)
enter_agrees T A N C z H q bl fs fin cs c p bytes k within idles =
    let copy : Copy = record { entry = next_name H; bytes = bytes } in
    let x : Places = record { flying = flying q p; next = Some copy } in
    let q' : Queue = queue.put_after q p copy in
    let fits : p.0 < length q.places = omega (arith, k.places_len) in
    let here : places_of q' p ≡ x = places-same q q' p x fits refl in
    let there : (r : Page) → (r.0 ≡ p.0 → ⊥) → places_of q' r ≡ places_of q r = λ r ne. places-other q q' p r x ne refl in
    record {
      tells = k.tells;
      places_len = length-set q.places p.0 x ∙ k.places_len;
      blocks_len = k.blocks_len;
      calls_len = length-set (calls.paged_out cs p) c.0 idle_call ∙ length-map cs _ ∙ k.calls_len;
      held =
          λ r in_range.
          by_page (λ r. r.0 < N → HoldsPage (places_of q' r) (block_in bl r) (array z (with_row H c p op.PageOut bytes) r)) p r
          (λ _.
          holds_same x (places_of q' p) (block_in bl p) (block_in bl p) bytes (array z (with_row H c p op.PageOut bytes) p) here refl
          (array-out_same z H c p bytes) refl)
          (λ ne h.
          holds_same (places_of q r) (places_of q' r) (block_in bl r) (block_in bl r) (array z H r) (array z (with_row H c p op.PageOut bytes) r)
          (there r ne) refl (array-out_other z H c p r bytes ne) (k.held r h))
          in_range;
      expected =
          All-implies (IsExpected T N C q cs) _ fs (λ f h.
          expected_call T N C q' (calls.paged_out cs p) c idle_call f (λ r w.
          idles r (newer_waits r p (state_of cs c) (let P : CallState → Type 0 = λ s. WaitsFor r s in subst P (state-paged_out cs p c) w)))
          (expected_newer T N C q' cs p f (expected_queue T N C q q' cs f (λ r b _.
          by_page (λ r. flying q' r ≡ flying q r) p r (ap (λ (y : Places). y.flying) here) (λ ne. flying_same q q' r (there r ne))) h))) k.expected;
      distinct = k.distinct;
      writes = k.writes ∙ sym (count_by-set_same flies q.places p.0 x _ fits refl);
      under_way = k.under_way;
      in_line =
          in_line_waits N q' (is_none (newest q p)) q.line p (All-implies (IsInLine N q) (IsInLine N q') q.line (λ r h.
          by_page (λ r. IsInLine N q r → IsInLine N q' r) p r (λ h. (h.0, ap (λ (y : Places). is_some y.next) here, ap (λ (y : Places). y.flying) here ∙ h.2))
          (λ ne h. in_line_same N q q' r (there r ne) h) h)
          k.in_line)
          (λ none.
          (within, ap (λ (y : Places). is_some y.next) here, ap (λ (y : Places). y.flying) here ∙ (none_first (next_copy q p) (flying q p) none).1));
      apart =
          apart_waits (is_none (newest q p)) q.line p k.apart (λ none.
          All-implies (IsInLine N q) _ q.line (λ r h same.
          some_not_none (next_copy q r) h.1 (subst (λ n. next_copy q (record { 0 = n })
          ≡ None) same (none_first (next_copy q p) (flying q p) none).0)) k.in_line);
      fair =
          All-set (λ (call : Call). IsFair T A N z (with_row H c p op.PageOut bytes) q' call.bytes call.state) (calls.paged_out cs p) c.0 idle_call
          (All-map (λ (call : Call). IsFair T A N z H q call.bytes call.state)
          (λ (call : Call). IsFair T A N z (with_row H c p op.PageOut bytes) q' call.bytes call.state) _ cs
          (λ call h. fair_out T A N z H c p bytes q q' x call.bytes call.state refl h) k.fair)
          tt;
      faithful = (tt, k.faithful);
    }

-- a call that doesn't wait is replaced
pub call_agrees : (T : Bool) (A : List ℕ → List ℕ → Type 0) (N C : ℕ) (z : List ℕ) (H : History) (q : Queue) (bl : Option (List (List ℕ))) (fs : List Flight)
    (fin : Option Finished) (cs : Calls) (c : Caller) (call : Call)
    → Agrees T A N C z H q bl fs fin cs → IdleFor cs c → IsFair T A N z H q call.bytes call.state → Agrees T A N C z H q bl fs fin (set cs c.0 call)
call_agrees T A N C z H q bl fs fin cs c call k idles fair =
    record {
      tells = k.tells;
      places_len = k.places_len;
      blocks_len = k.blocks_len;
      calls_len = length-set cs c.0 call ∙ k.calls_len;
      held = k.held;
      expected = All-implies (IsExpected T N C q cs) _ fs (λ f h. expected_call T N C q cs c call f idles h) k.expected;
      distinct = k.distinct;
      writes = k.writes;
      under_way = k.under_way;
      in_line = k.in_line;
      apart = k.apart;
      fair = All-set (λ (call : Call). IsFair T A N z H q call.bytes call.state) cs c.0 call k.fair fair;
      faithful = k.faithful;
    }

-- an entry that is no page-out leaves the array
fair_in :
    (T : Bool) (A : List ℕ → List ℕ → Type 0) (N : ℕ) (z : List ℕ) (H : History) (row : Row) (q : Queue) (own : List ℕ) (state : CallState)
    → ((r : Page) → array z (row ∷ H) r ≡ array z H r) → IsFair T A N z H q own state → IsFair T A N z (row ∷ H) q own state
fair_in T A N z H row q own Idle same h = tt
fair_in T A N z H row q own (Room r since) same h = h
fair_in T A N z H row q own (Reading r newest v how newer since) same h = (h.0, λ e. brings_same T A q q _ _ r own v how refl (same r) (h.1 e))

pub row_agrees : (T : Bool) (A : List ℕ → List ℕ → Type 0) (N C : ℕ) (z : List ℕ) (H : History) (row : Row) (q : Queue) (bl : Option (List (List ℕ)))
    (fs : List Flight) (fin : Option Finished) (cs : Calls)
    → Agrees T A N C z H q bl fs fin cs → ((r : Page) → array z (row ∷ H) r ≡ array z H r) → GivesWhatItMay T A z H row row.entry.op
    → Agrees T A N C z (row ∷ H) q bl fs fin cs
row_agrees T A N C z H row q bl fs fin cs k same gives =
    record {
      tells = k.tells;
      places_len = k.places_len;
      blocks_len = k.blocks_len;
      calls_len = k.calls_len;
      held =
          λ r in_range.
          holds_same (places_of q r) (places_of q r) (block_in bl r) (block_in bl r) (array z H r) (array z (row ∷ H) r) refl refl (same r) (k.held r in_range);
      expected = k.expected;
      distinct = k.distinct;
      writes = k.writes;
      under_way = k.under_way;
      in_line = k.in_line;
      apart = k.apart;
      fair =
          All-implies (λ (call : Call). IsFair T A N z H q call.bytes call.state) _ cs (λ call h. fair_in T A N z H row q call.bytes call.state same h) k.fair;
      faithful = (gives, k.faithful);
    }

-- one more operation in flight
other_sym : (a b : DiskWhich) → same_which a b ≡ false → same_which b a ≡ false
other_sym (which.Write p) (which.Write r) e = not_eqb r.0 p.0 (λ same. eqb-false p.0 r.0 e (sym same))
other_sym (which.Write p) (which.Read c) e = refl
other_sym (which.Read c) (which.Write p) e = refl
other_sym (which.Read c) (which.Read d) e = not_eqb d.0 c.0 (λ same. eqb-false c.0 d.0 e (sym same))

distinct-append :
    (fs : List Flight) (f : Flight) → AreDistinct fs → AllByRecursion (λ g. same_which (which_of f) (which_of g) ≡ false) fs → AreDistinct (fs ++ f ∷ [])
distinct-append [] f d all = (tt, tt)
distinct-append (g ∷ fs) f d all = (All-append (IsOther g) fs (f ∷ []) d.0 (other_sym (which_of f) (which_of g) all.0, tt), distinct-append fs f d.1 all.1)

-- what is under way stays so where more is in flight
under_way-append : (bl : Option (List (List ℕ))) (fs more : List Flight) (fin : Option Finished) → IsUnderWay bl fs fin → IsUnderWay bl (fs ++ more) fin
under_way-append bl fs more None u = tt
under_way-append bl fs more (Some f) u =
    (find-append (is_flight_of (which_of f.flight)) fs more ∙ ap (λ o. option_or o (find (is_flight_of (which_of f.flight)) more)) u.0, u.1)

-- a read begins
pub read_agrees : (T : Bool) (A : List ℕ → List ℕ → Type 0) (N C : ℕ) (z : List ℕ) (H : History) (q : Queue) (bl : Option (List (List ℕ))) (fs : List Flight)
    (fin : Option Finished) (cs : Calls) (c : Caller) (p : Page) (e : EntryNo) (since : ℕ)
    → Agrees T A N C z H q bl fs fin cs → IdleFor cs c → c.0 < C → p.0 < N → newest q p ≡ None
    → Agrees T A N C z H q bl (fs ++ Read c p ∷ []) fin (calls.reads cs c p e via.Disk since)
read_agrees T A N C z H q bl fs fin cs c p e since before idles caller_in page_in none =
    let call : Call = record { state = Reading p e via.Disk arrived.Waiting false since; bytes = [] } in
    let fits : c.0 < length cs = omega (arith, before.calls_len) in
    let state : state_of (set cs c.0 call) c ≡ Reading p e via.Disk arrived.Waiting false since =
    ap (λ (x : Call). x.state) (get_or-set_same cs c.0 call idle_call fits) in
    let P : CallState → Type 0 = λ s. WaitsFor p s in
    let k : Agrees T A N C z H q bl fs fin (set cs c.0 call) = call_agrees T A N C z H q bl fs fin cs c call before idles (page_in, λ _. none) in
    record {
      tells = k.tells;
      places_len = k.places_len;
      blocks_len = k.blocks_len;
      calls_len = k.calls_len;
      held = k.held;
      expected = All-append (IsExpected T N C q (set cs c.0 call)) fs (Read c p ∷ []) k.expected ((caller_in, page_in, subst P (sym state) refl), tt);
      distinct = distinct-append fs (Read c p) k.distinct (All-implies (IsExpected T N C q cs) _ fs (λ f h. other_read T N C q cs c f idles h) before.expected);
      writes = count_by-append_one is_write fs (Read c p) ∙ add-zero _ ∙ k.writes;
      under_way = under_way-append bl fs (Read c p ∷ []) fin k.under_way;
      in_line = k.in_line;
      apart = k.apart;
      fair = k.fair;
      faithful = k.faithful;
    }

-- where blocks are told a write's bytes are kept
kept_told : (bl : Option (List (List ℕ))) (bytes : List ℕ) → is_some bl ≡ true → bytes ≡ kept_by bl bytes
kept_told None bytes e = cc
kept_told (Some blocks) bytes e = refl

-- a write begins
started_copy : (a f : Option Copy) (copy : Copy) (A : Type 0) (B : Copy → Type 0) → a ≡ Some copy → MatchOption (first_of a f) A B → MatchOption a A B
started_copy None f copy A B e h = cc
started_copy (Some x) f copy A B e h = h

first_some : (a f : Option Copy) (copy : Copy) → a ≡ Some copy → first_of a f ≡ a
first_some None f copy e = cc
first_some (Some x) f copy e = refl

fair_same :
    (T : Bool) (A : List ℕ → List ℕ → Type 0) (N : ℕ) (z : List ℕ) (H : History) (q q' : Queue) (own : List ℕ) (state : CallState)
    → ((r : Page) → newest q' r ≡ newest q r) → IsFair T A N z H q own state → IsFair T A N z H q' own state
fair_same T A N z H q q' own Idle same h = tt
fair_same T A N z H q q' own (Room r since) same h = h
fair_same T A N z H q q' own (Reading r newest v how newer since) same h = (h.0, λ e. brings_same T A q q' _ _ r own v how (same r) refl (h.1 e))

pub start_agrees : (T : Bool) (A : List ℕ → List ℕ → Type 0) (N C : ℕ) (z : List ℕ) (H : History) (q : Queue) (bl : Option (List (List ℕ))) (fs : List Flight)
    (fin : Option Finished) (cs : Calls) (p : Page) (line : List Page) (copy : Copy)
    → Agrees T A N C z H q bl fs fin cs → q.line ≡ p ∷ line → next_copy q p ≡ Some copy
    → Agrees T A N C z H (queue.start_of q (p ∷ line)) bl (fs ++ Write p (kept_by bl copy.bytes) ∷ []) fin cs
start_agrees T A N C z H q bl fs fin cs p line copy k is_line is_next =
    let x : Places = record { flying = next_copy q p; next = None } in
    let q' : Queue = queue.start_of q (p ∷ line) in
    let members : AllByRecursion (IsInLine N q) (p ∷ line) = subst (λ l. AllByRecursion (IsInLine N q) l) is_line k.in_line in
    let apart : AreApart (p ∷ line) = subst AreApart is_line k.apart in
    let front : IsInLine N q p = members.0 in
    let fits : p.0 < length q.places = omega (arith, k.places_len, front.0) in
    let here : places_of q' p ≡ x = places-same q q' p x fits refl in
    let there : (r : Page) → (r.0 ≡ p.0 → ⊥) → places_of q' r ≡ places_of q r = λ r ne. places-other q q' p r x ne refl in
    let flies_copy : flying q' p ≡ Some copy = ap (λ (y : Places). y.flying) here ∙ is_next in
    let newest_there : (r : Page) → newest q' r ≡ newest q r = λ r.
    by_page (λ r. newest q' r ≡ newest q r) p r (ap (λ (y : Places). first_of y.next y.flying) here
    ∙ sym (first_some (next_copy q p) (flying q p) copy is_next))
    (λ ne. newest_same q q' r (there r ne)) in
    let P : Option Copy → Type 0 = λ o. IsCopyOf T (kept_by bl copy.bytes) o in
    let page_in : p.0 < N = front.0 in
    record {
      tells = k.tells;
      places_len = length-set q.places p.0 x ∙ k.places_len;
      blocks_len = k.blocks_len;
      calls_len = k.calls_len;
      held =
          λ r in_range.
          by_page (λ r. r.0 < N → HoldsPage (places_of q' r) (block_in bl r) (array z H r)) p r
          (λ i.
          holds_same x (places_of q' p) (block_in bl p) (block_in bl p) (array z H p) (array z H p) here refl refl
          (started_copy (next_copy q p) (flying q p) copy _ _ is_next (k.held p i)))
          (λ ne i.
          holds_same (places_of q r) (places_of q' r) (block_in bl r) (block_in bl r) (array z H r) (array z H r) (there r ne) refl refl (k.held r i)) in_range;
      expected =
          All-append (IsExpected T N C q' cs) fs (Write p (kept_by bl copy.bytes) ∷ []) (All-implies (IsExpected T N C q cs) _ fs (λ f h.
          expected_queue T N C q q' cs f (λ r b e.
          by_page (λ r. IsExpected T N C q cs (Write r b) → flying q' r ≡ flying q r) p r
          (λ w. absurd (let Q : Option Copy → Type 0 = λ o. IsCopyOf T b o in subst Q front.2 w.1)) (λ ne _. flying_same q q' r (there r ne))
          (subst (λ g. IsExpected T N C q cs g) e h))
          h)
          k.expected)
          ((page_in, subst P (sym flies_copy) (λ told. kept_told bl copy.bytes (k.tells ∙ told))), tt);
      distinct =
          distinct-append fs (Write p (kept_by bl copy.bytes)) k.distinct
          (All-implies (IsExpected T N C q cs) _ fs (λ f h. other_write T N C q cs p f front.2 h) k.expected);
      writes =
          count_by-append_one is_write fs (Write p (kept_by bl copy.bytes)) ∙ ap (λ n. n + 1) k.writes
          ∙ sym (count_by-set_more flies q.places p.0 x _ fits (ap is_some is_next) (ap is_some front.2));
      under_way = under_way-append bl fs (Write p (kept_by bl copy.bytes) ∷ []) fin k.under_way;
      in_line =
          All-implies (λ (r : Page). IsInLine N q r × (r.0 ≡ p.0 → ⊥)) (IsInLine N q') line (λ r h. in_line_same N q q' r (there r h.1) h.0)
          (both _ _ line members.1 apart.0);
      apart = apart.1;
      fair =
          All-implies (λ (call : Call). IsFair T A N z H q call.bytes call.state) _ cs
          (λ call h. fair_same T A N z H q q' call.bytes call.state newest_there h) k.fair;
      faithful = k.faithful;
    }

-- an operation that came back leaves the list
All-without : (P : Flight → Type 0) (w : DiskWhich) (fs : List Flight) → AllByRecursion P fs → AllByRecursion P (without_flight w fs)
All-without P w [] all = tt
All-without P w (f ∷ fs) all = go (is_flight_of w f) (All-without P w fs all.1)
  where
    go : (b : Bool) → AllByRecursion P (without_flight w fs) → AllByRecursion P (cond b fs (f ∷ without_flight w fs))
    go true rest = all.1
    go false rest = (all.0, rest)

distinct-without : (w : DiskWhich) (fs : List Flight) → AreDistinct fs → AreDistinct (without_flight w fs)
distinct-without w [] d = tt
distinct-without w (f ∷ fs) d = go (is_flight_of w f) (distinct-without w fs d.1)
  where
    go : (b : Bool) → AreDistinct (without_flight w fs) → AreDistinct (cond b fs (f ∷ without_flight w fs))
    go true rest = d.1
    go false rest = (All-without (IsOther f) w fs d.0, rest)

-- what is left is other than what left
left_other : (w : DiskWhich) (fs : List Flight) → AreDistinct fs → AllByRecursion (λ g. same_which w (which_of g) ≡ false) (without_flight w fs)
left_other w [] d = tt
left_other w (f ∷ fs) d = go (same_which w (which_of f)) refl (left_other w fs d.1)
  where
    go :
        (b : Bool) → same_which w (which_of f) ≡ b → AllByRecursion (λ g. same_which w (which_of g) ≡ false) (without_flight w fs)
        → AllByRecursion (λ g. same_which w (which_of g) ≡ false) (cond b fs (f ∷ without_flight w fs))
    go true e rest = subst (λ v. AllByRecursion (λ g. same_which v (which_of g) ≡ false) fs) (sym (same_is w (which_of f) e)) d.0
    go false e rest = (e, rest)

pub found : (P : Flight → Type 0) (w : DiskWhich) (fs : List Flight) (f : Flight) → find (is_flight_of w) fs ≡ Some f → AllByRecursion P fs → P f
found P w [] f e all = cc
found P w (g ∷ fs) f e all = go (is_flight_of w g) e (λ e. found P w fs f e all.1)
  where
    go : (b : Bool) → cond b (Some g) (find (is_flight_of w) fs) ≡ Some f → (find (is_flight_of w) fs ≡ Some f → P f) → P f
    go true e rest = let same : g ≡ f = cc in subst P same all.0
    go false e rest = rest e

-- how many writes are left in flight
writes-without_write :
    (p : Page) (fs : List Flight) (f : Flight) → find (is_flight_of (which.Write p)) fs ≡ Some f
    → writes_in (without_flight (which.Write p) fs) + 1 ≡ writes_in fs
writes-without_write p [] f e = cc
writes-without_write p (Read c r ∷ fs) f e =
    let rest = writes-without_write p fs f e in
    omega (arith, rest, count_by-cons is_write (Read c r) fs, count_by-cons is_write (Read c r) (without_flight (which.Write p) fs))
writes-without_write p (Write r bytes ∷ fs) f e = go (p.0 == r.0) e (writes-without_write p fs f)
  where
    go :
        (b : Bool) → cond b (Some (Write r bytes)) (find (is_flight_of (which.Write p)) fs) ≡ Some f
        → (find (is_flight_of (which.Write p)) fs ≡ Some f → writes_in (without_flight (which.Write p) fs) + 1 ≡ writes_in fs)
        → writes_in (cond b fs (Write r bytes ∷ without_flight (which.Write p) fs)) + 1 ≡ writes_in (Write r bytes ∷ fs)
    go true e rest = omega (arith, count_by-cons is_write (Write r bytes) fs)
    go false e rest =
        let more = rest e in
        let a : writes_in (Write r bytes ∷ without_flight (which.Write p) fs) ≡ 1 + writes_in (without_flight (which.Write p) fs) =
        count_by-cons is_write (Write r bytes) (without_flight (which.Write p) fs) in
        let b : writes_in (Write r bytes ∷ fs) ≡ 1 + writes_in fs = count_by-cons is_write (Write r bytes) fs in
        ap (λ n. n + 1) a ∙ omega (arith, more, b)

writes-without_read : (c : Caller) (fs : List Flight) → writes_in (without_flight (which.Read c) fs) ≡ writes_in fs
writes-without_read c [] = refl
writes-without_read c (Write r bytes ∷ fs) =
    count_by-cons is_write (Write r bytes) (without_flight (which.Read c) fs) ∙ ap (λ n. 1 + n) (writes-without_read c fs)
    ∙ sym (count_by-cons is_write (Write r bytes) fs)
writes-without_read c (Read e r ∷ fs) = go (c.0 == e.0) (writes-without_read c fs)
  where
    go :
        (b : Bool) → writes_in (without_flight (which.Read c) fs) ≡ writes_in fs
        → writes_in (cond b fs (Read e r ∷ without_flight (which.Read c) fs)) ≡ writes_in (Read e r ∷ fs)
    go true rest = sym (count_by-cons is_write (Read e r) fs ∙ zero-add _)
    go false rest = count_by-cons is_write (Read e r) (without_flight (which.Read c) fs) ∙ ap (λ n. 0 + n) rest ∙ sym (count_by-cons is_write (Read e r) fs)

-- a write came back: the page's block is what it left, and its places are without the flying copy
pub copy_flies : (T : Bool) (bytes : List ℕ) (o : Option Copy) → IsCopyOf T bytes o → is_some o ≡ true
copy_flies T bytes None h = absurd h
copy_flies T bytes (Some copy) h = refl

pub some_first : (a f : Option Copy) → is_some f ≡ true → is_some (first_of a f) ≡ true
some_first None f e = e
some_first (Some x) f e = refl

fair_wrote :
    (T : Bool) (A : List ℕ → List ℕ → Type 0) (N : ℕ) (z : List ℕ) (H : History) (q q' : Queue) (p : Page) (own : List ℕ) (state : CallState)
    → is_some (newest q p) ≡ true → ((r : Page) → (r.0 ≡ p.0 → ⊥) → newest q' r ≡ newest q r) → IsFair T A N z H q own state → IsFair T A N z H q' own state
fair_wrote T A N z H q q' p own Idle holds there h = tt
fair_wrote T A N z H q q' p own (Room r since) holds there h = h
fair_wrote T A N z H q q' p own (Reading r newest_ v how newer since) holds there h = (h.0, λ e. go how (h.1 e))
  where
    go : (how : Arrived) → Brings T A q (array z H r) r own v how → Brings T A q' (array z H r) r own v how
    go arrived.Waiting b =
        by_page (λ r. newest q r ≡ None → newest q' r ≡ None) p r (λ none. absurd (some_not_none (newest q p) holds none)) (λ ne none. there r ne ∙ none) b
    go arrived.Came b = b
    go arrived.Failed b = tt
    go arrived.Lost b = tt

pub wrote_agrees : (T : Bool) (A : List ℕ → List ℕ → Type 0) (N C : ℕ) (z : List ℕ) (H : History) (q : Queue) (bl : Option (List (List ℕ))) (fs : List Flight)
    (fin : Option Finished) (cs : Calls) (p : Page) (bytes : List ℕ) (kept : Option Copy) (again : Bool)
    → Agrees T A N C z H q bl fs fin cs → find (is_flight_of (which.Write p)) fs ≡ Some (Write p bytes) → (again ≡ true → is_some kept ≡ true)
    → HoldsPage (record { flying = None; next = kept }) (block_in bl p) (array z H p)
    → Agrees T A N C z H (queue.with_places q p (record { flying = None; next = kept }) again) bl (without_flight (which.Write p) fs) None cs
wrote_agrees T A N C z H q bl fs fin cs p bytes kept again k there_is waits_ holds =
    let w : IsExpected T N C q cs (Write p bytes) = found (IsExpected T N C q cs) (which.Write p) fs (Write p bytes) there_is k.expected in
    let x : Places = record { flying = None; next = kept } in
    let q' : Queue = queue.with_places q p x again in
    let flies_copy : is_some (flying q p) ≡ true = copy_flies T bytes (flying q p) w.1 in
    let fits : p.0 < length q.places = omega (arith, k.places_len, w.0) in
    let here : places_of q' p ≡ x = places-same q q' p x fits refl in
    let there : (r : Page) → (r.0 ≡ p.0 → ⊥) → places_of q' r ≡ places_of q r = λ r ne. places-other q q' p r x ne refl in
    record {
      tells = k.tells;
      places_len = length-set q.places p.0 x ∙ k.places_len;
      blocks_len = k.blocks_len;
      calls_len = k.calls_len;
      held =
          λ r in_range.
          by_page (λ r. r.0 < N → HoldsPage (places_of q' r) (block_in bl r) (array z H r)) p r
          (λ i. holds_same x (places_of q' p) (block_in bl p) (block_in bl p) (array z H p) (array z H p) here refl refl holds) (λ ne i.
          holds_same (places_of q r) (places_of q' r) (block_in bl r) (block_in bl r) (array z H r) (array z H r) (there r ne) refl refl (k.held r i)) in_range;
      expected =
          All-implies (λ f. IsExpected T N C q cs f × (same_which (which.Write p) (which_of f) ≡ false)) _ (without_flight (which.Write p) fs) (λ f h.
          expected_queue T N C q q' cs f (λ r c e.
          flying_same q q' r (there r (λ same. eqb-false p.0 r.0 (subst (λ g. same_which (which.Write p) (which_of g) ≡ false) e h.1) (sym same)))) h.0)
          (both _ _ _ (All-without (IsExpected T N C q cs) (which.Write p) fs k.expected) (left_other (which.Write p) fs k.distinct));
      distinct = distinct-without (which.Write p) fs k.distinct;
      writes =
          let less = writes-without_write p fs (Write p bytes) there_is in
          let fewer = count_by-set_less flies q.places p.0 x (record { flying = None; next = None }) fits refl flies_copy in
          let same = k.writes in omega (arith, less, fewer, same);
      under_way = tt;
      in_line =
          in_line_waits N q' again q.line p (All-implies (IsInLine N q) (IsInLine N q') q.line (λ r h.
          by_page (λ r. IsInLine N q r → IsInLine N q' r) p r (λ h. absurd (some_not_none (flying q p) flies_copy h.2))
          (λ ne h. in_line_same N q q' r (there r ne) h) h)
          k.in_line)
          (λ e.
          (w.0, ap (λ (y : Places). is_some y.next) here ∙ waits_ e, ap (λ (y : Places). y.flying) here));
      apart =
          apart_waits again q.line p k.apart (λ _.
          All-implies (IsInLine N q) _ q.line (λ r h same.
          some_not_none (flying q p) flies_copy (subst (λ n. flying q (record { 0 = n }) ≡ None) (sym same) h.2)) k.in_line);
      fair =
          All-implies (λ (call : Call). IsFair T A N z H q call.bytes call.state) _ cs (λ call h.
          fair_wrote T A N z H q q' p call.bytes call.state (some_first (next_copy q p) (flying q p) flies_copy) (λ r ne. newest_same q q' r (there r ne)) h)
          k.fair;
      faithful = k.faithful;
    }

-- a read came back
expected_other_call :
    (T : Bool) (N C : ℕ) (q : Queue) (cs : Calls) (c : Caller) (call : Call) (f : Flight) → same_which (which.Read c) (which_of f) ≡ false
    → IsExpected T N C q cs f → IsExpected T N C q (set cs c.0 call) f
expected_other_call T N C q cs c call (Write p bytes) other h = h
expected_other_call T N C q cs c call (Read e p) other h =
    (h.0, h.1, let P : CallState → Type 0 = λ s. WaitsFor p s in subst P (sym (state-set_other cs c e call (λ same. eqb-false c.0 e.0 other (sym same)))) h.2)

page_is : (p r : Page) → r.0 ≡ p.0 → r ≡ p
page_is p r e = ap (λ n. record { 0 = n }) e

-- what a read brings is the block, or nothing
abbrev pub IsBrought : Option (List (List ℕ)) → Page → List ℕ → Arrived → Type 0
IsBrought blocks page bytes arrived.Came = IsBlock (block_in blocks page) bytes
IsBrought blocks page bytes arrived.Failed = Unit {0}
IsBrought blocks page bytes _ = ⊥

-- two that a told block equals are equal
block_is :
    (T : Bool) (bl : Option (List (List ℕ))) (p : Page) (bytes content : List ℕ) → is_some bl ≡ T → IsBlock (block_in bl p) bytes
    → IsBlock (block_in bl p) content → T ≡ true → bytes ≡ content
block_is T None p bytes content tells a b told = cc
block_is T (Some blocks) p bytes content tells a b told = sym a ∙ b

brings_block :
    (T : Bool) (A : List ℕ → List ℕ → Type 0) (q : Queue) (bl : Option (List (List ℕ))) (p : Page) (content bytes : List ℕ) (how : Arrived) → is_some bl ≡ T
    → HoldsPage (places_of q p) (block_in bl p) content → newest q p ≡ None → IsBrought bl p bytes how → Brings T A q content p bytes via.Disk how
brings_block T A q bl p content bytes arrived.Waiting tells holds none b = absurd b
brings_block T A q bl p content bytes arrived.Came tells holds none b =
    block_is T bl p bytes content tells b (subst (λ o. MatchOption o (IsBlock (block_in bl p) content) (λ (copy : Copy). copy.bytes ≡ content)) none holds)
brings_block T A q bl p content bytes arrived.Failed tells holds none b = tt
brings_block T A q bl p content bytes arrived.Lost tells holds none b = absurd b

fair_read : (T : Bool) (A : List ℕ → List ℕ → Type 0) (N : ℕ) (z : List ℕ) (H : History) (q : Queue) (bl : Option (List (List ℕ))) (p : Page) (call : Call)
    (own : List ℕ) (bytes : List ℕ) (how : Arrived) (state : CallState)
    → is_some bl ≡ T → ((r : Page) → r.0 < N → HoldsPage (places_of q r) (block_in bl r) (array z H r)) → WaitsFor p state → IsBrought bl p bytes how
    → IsFair T A N z H q own state
    → let after : Call = calls.arrives how bytes call state in IsFair T A N z H q after.bytes after.state
fair_read T A N z H q bl p call own bytes how Idle tells held w b h = absurd w
fair_read T A N z H q bl p call own bytes how (Room r since) tells held w b h = absurd w
fair_read T A N z H q bl p call own bytes how (Reading r newest_ via.Disk arrived.Waiting newer since) tells held w b h =
    (h.0, λ e. brings_block T A q bl r (array z H r) bytes how tells (held r h.0) (h.1 e) (subst (λ x. IsBrought bl x bytes how) (page_is r p (sym w)) b))
fair_read T A N z H q bl p call own bytes how (Reading r newest_ via.Disk arrived.Came newer since) tells held w b h = absurd w
fair_read T A N z H q bl p call own bytes how (Reading r newest_ via.Disk arrived.Failed newer since) tells held w b h = absurd w
fair_read T A N z H q bl p call own bytes how (Reading r newest_ via.Disk arrived.Lost newer since) tells held w b h = absurd w
fair_read T A N z H q bl p call own bytes how (Reading r newest_ (via.Lender l) arrived newer since) tells held w b h = absurd w

pub read_back_agrees : (T : Bool) (A : List ℕ → List ℕ → Type 0) (N C : ℕ) (z : List ℕ) (H : History) (q : Queue) (bl : Option (List (List ℕ)))
    (fs : List Flight) (fin : Option Finished) (cs : Calls) (c : Caller) (p : Page) (bytes : List ℕ) (how : Arrived)
    → Agrees T A N C z H q bl fs fin cs → IsExpected T N C q cs (Read c p) → IsBrought bl p bytes how
    → Agrees T A N C z H q bl (without_flight (which.Read c) fs) None (set cs c.0 (calls.arrives how bytes (call_of cs c) (state_of cs c)))
read_back_agrees T A N C z H q bl fs fin cs c p bytes how k w b =
    let call : Call = calls.arrives how bytes (call_of cs c) (state_of cs c) in
    let mine : IsFair T A N z H q (call_of cs c).bytes (state_of cs c) =
    All-get_or (λ (call : Call). IsFair T A N z H q call.bytes call.state) cs c.0 idle_call k.fair tt in
    record {
      tells = k.tells;
      places_len = k.places_len;
      blocks_len = k.blocks_len;
      calls_len = length-set cs c.0 call ∙ k.calls_len;
      held = k.held;
      expected =
          All-implies (λ f. IsExpected T N C q cs f × (same_which (which.Read c) (which_of f) ≡ false)) _ (without_flight (which.Read c) fs)
          (λ f h. expected_other_call T N C q cs c call f h.1 h.0)
          (both _ _ _ (All-without (IsExpected T N C q cs) (which.Read c) fs k.expected) (left_other (which.Read c) fs k.distinct));
      distinct = distinct-without (which.Read c) fs k.distinct;
      writes = writes-without_read c fs ∙ k.writes;
      under_way = tt;
      in_line = k.in_line;
      apart = k.apart;
      fair =
          All-set (λ (call : Call). IsFair T A N z H q call.bytes call.state) cs c.0 call k.fair
          (fair_read T A N z H q bl p (call_of cs c) (call_of cs c).bytes bytes how (state_of cs c) k.tells k.held w.2 b mine);
      faithful = k.faithful;
    }

-- an operation of a disk in memory has finished, and its block is what it left
settled_len : (blocks : List (List ℕ)) (f : Flight) (ok : Bool) (left : List ℕ) → length (settled_with blocks f ok left) ≡ length blocks
settled_len blocks (Write p bytes) true left = length-set blocks p.0 bytes
settled_len blocks (Write p bytes) false left = length-set blocks p.0 left
settled_len blocks (Read c p) ok left = refl

first_flies : (a f : Option Copy) (A B : Type 0) (P : Copy → Type 0) → is_some f ≡ true → MatchOption (first_of a f) A P → MatchOption (first_of a f) B P
first_flies None None A B P e h = cc
first_flies None (Some x) A B P e h = h
first_flies (Some x) f A B P e h = h

settled_holds : (T : Bool) (N C : ℕ) (z : List ℕ) (H : History) (q : Queue) (cs : Calls) (blocks : List (List ℕ)) (f : Flight) (ok : Bool) (left : List ℕ)
    (r : Page)
    → IsExpected T N C q cs f → HoldsPage (places_of q r) (Some (get_or blocks r.0 [])) (array z H r)
    → HoldsPage (places_of q r) (Some (get_or (settled_with blocks f ok left) r.0 [])) (array z H r)
settled_holds T N C z H q cs blocks (Read c p) ok left r w h = h
settled_holds T N C z H q cs blocks (Write p bytes) ok left r w h =
    by_page
    (λ r. HoldsPage (places_of q r) (Some (get_or blocks r.0 [])) (array z H r)
    → HoldsPage (places_of q r) (Some (get_or (settled_with blocks (Write p bytes) ok left) r.0 [])) (array z H r))
    p r
    (λ h. first_flies (next_copy q p) (flying q p) _ _ _ (copy_flies T bytes (flying q p) w.1) h)
    (λ ne h. let P : List ℕ → Type 0 = λ b. HoldsPage (places_of q r) (Some b) (array z H r) in subst P (sym (other ok ne)) h)
    h
  where
    other : (ok : Bool) → (r.0 ≡ p.0 → ⊥) → get_or (settled_with blocks (Write p bytes) ok left) r.0 [] ≡ get_or blocks r.0 []
    other true ne = get_or-set_other blocks p.0 r.0 bytes [] ne
    other false ne = get_or-set_other blocks p.0 r.0 left [] ne

is_settled :
    (T : Bool) (N C : ℕ) (q : Queue) (cs : Calls) (blocks : List (List ℕ)) (f : Flight) (ok : Bool) (left : List ℕ) → length blocks ≡ N
    → IsExpected T N C q cs f
    → IsSettled (Some (settled_with blocks f ok left)) f ok
is_settled T N C q cs blocks (Read c p) ok left len w = tt
is_settled T N C q cs blocks (Write p bytes) true left len w = λ _. get_or-set_same blocks p.0 bytes [] (omega (arith, len, w.0))
is_settled T N C q cs blocks (Write p bytes) false left len w = λ e. cc

pub finish_agrees : (T : Bool) (A : List ℕ → List ℕ → Type 0) (N C : ℕ) (z : List ℕ) (H : History) (q : Queue) (blocks : List (List ℕ)) (fs : List Flight)
    (cs : Calls) (w : DiskWhich) (f : Flight) (ok : Bool) (left : List ℕ)
    → Agrees T A N C z H q (Some blocks) fs None cs → find (is_flight_of w) fs ≡ Some f
    → Agrees T A N C z H q (Some (settled_with blocks f ok left)) fs (Some (record { flight = f; ok = ok })) cs
finish_agrees T A N C z H q blocks fs cs w f ok left k there_is =
    let expected : IsExpected T N C q cs f = found (IsExpected T N C q cs) w fs f there_is k.expected in
    record {
      tells = k.tells;
      places_len = k.places_len;
      blocks_len = settled_len blocks f ok left ∙ k.blocks_len;
      calls_len = k.calls_len;
      held = λ r in_range. settled_holds T N C z H q cs blocks f ok left r expected (k.held r in_range);
      expected = k.expected;
      distinct = k.distinct;
      writes = k.writes;
      under_way =
          (subst (λ v. find (is_flight_of v) fs ≡ Some f) (found_is w fs f there_is) there_is, is_settled T N C q cs blocks f ok left k.blocks_len expected);
      in_line = k.in_line;
      apart = k.apart;
      fair = k.fair;
      faithful = k.faithful;
    }
