-- What is kept of the operations in flight as one is started, and as one is over.
use Rattle.std.proofs.Common.{◌≡◌, ◌≢◌, ℕ, ◌+◌, ◌-◌, ◌<◌, ◌≤◌, true, false, cond, ◌==◌, nat_lt, List, [], ◌∷◌, ◌++◌, length, get_or, set, refl, sym, ap, ◌∙◌, subst, arith, Option, None, Some, ⊎_elim, eq-eqb, ne_eqb, lt-ltb, length-set, get_or-set_same, get_or-set_other}
use Rattle.std.proofs.lemmas.Bool.{cases_eq, cases_lt, cond-true, cond-false, false≢true}
use Rattle.std.proofs.lemmas.List.{map-append, get_or_append_left, get_or_push, length_push}
use Rattle.swap_base.specs.declared.Page.{Page}
use Rattle.swap_base.specs.declared.Caller.{Caller}
use Rattle.swap_base.specs.declared.DiskWhich.TheVariants as which
use Rattle.swap_base.specs.Sizes.{Sizes, pages_of}
use Rattle.swap_places.specs.Line.{Line, stands, AreOnce, EntersOne, LeavesOne}
use Rattle.swap_places.specs.Line as line
use Rattle.swap_disk.specs.Disk.{Flight, Write, Read, without_flight}
use Rattle.swap_disk.specs.Flights.{bytes_at, page_read, flight_at, flights_in, pages_among, IsPage, AreKept}
use Rattle.swap_disk.proofs.Numbers.{at_write, at_caller, without_is, page_enters, read_enters, page_stands, page_leaves, read_leaves, length-without, map_same}

-- who stands in a line behind which a number entered, or that a number left
behind : EntersOne → (numbers : List ℕ) (k j : ℕ) → k ≢ j → stands (numbers ++ k ∷ []) j ≡ stands numbers j
behind enters numbers k j ne = enters numbers k j ∙ cond-false (k == j) true (stands numbers j) (ne_eqb k j ne)

still : LeavesOne → (numbers : List ℕ) (k j : ℕ) → AreOnce numbers → stands (line.without_number k numbers) j ≡ true → (k ≢ j) × (stands numbers j ≡ true)
still leaves numbers k j once in' =
    ⊎_elim
    (λ (e : k ≡ j). absurd (false≢true (sym (leaves numbers k j once ∙ cond-true (k == j) false (stands numbers j) (eq-eqb k j e)) ∙ in')))
    (λ (ne : k ≢ j). (ne, sym (leaves numbers k j once ∙ cond-false (k == j) false (stands numbers j) (ne_eqb k j ne)) ∙ in'))
    (cases_eq k j)

gone : LeavesOne → (numbers : List ℕ) (k : ℕ) → AreOnce numbers → stands (line.without_number k numbers) k ≡ false
gone leaves numbers k once = leaves numbers k k once ∙ cond-true (k == k) false (stands numbers k) (eq-eqb k k refl)

below_apart : (a p c : ℕ) → a < p → a ≢ p + c
below_apart a p c lt e = omega (arith, lt, e)

-- other operations are as they were where one page's bytes, or one caller's page, are others
write_other :
    (s : Sizes) (reading : List Page) (kept : List (Option (List ℕ))) (page : ℕ) (o : Option (List ℕ)) (x : ℕ) → x ≢ page
    → flight_at s reading (set kept page o) x ≡ flight_at s reading kept x
write_other s reading kept page o x ne =
    ap (λ b. cond (nat_lt x (pages_of s)) (Write (record { 0 = x }) b) (Read (record { 0 = x - pages_of s }) (page_read reading (x - pages_of s))))
    (ap (λ v. bytes_of v) (get_or-set_other kept page x o None ne))
  where
    bytes_of : Option (List ℕ) → List ℕ
    bytes_of v = bytes_at (v ∷ []) 0

read_other :
    (s : Sizes) (reading : List Page) (kept : List (Option (List ℕ))) (caller : ℕ) (page : Page) (x : ℕ) → x ≢ pages_of s + caller
    → flight_at s (set reading caller page) kept x ≡ flight_at s reading kept x
read_other s reading kept caller page x ne =
    let W : Flight = Write (record { 0 = x }) (bytes_at kept x) in
    let R : Page → Flight = λ p. Read (record { 0 = x - pages_of s }) p in
    ⊎_elim
    (λ (lt : x < pages_of s).
    cond-true (nat_lt x (pages_of s)) W (R (page_read (set reading caller page) (x - pages_of s))) (lt-ltb x (pages_of s) lt)
    ∙ sym (cond-true (nat_lt x (pages_of s)) W (R (page_read reading (x - pages_of s))) (lt-ltb x (pages_of s) lt)))
    (λ (ge : pages_of s ≤ x).
    ap (λ p. cond (nat_lt x (pages_of s)) W (R p)) (get_or-set_other reading caller (x - pages_of s) page (record { 0 = 0 }) (λ e. ne (omega (arith, e, ge)))))
    (cases_lt x (pages_of s))

-- ---- a write is started

module _ (enters : EntersOne) (s : Sizes) (order writes order' writes' : Line) (reading : List Page) (kept kept' : List (Option (List ℕ)))
    (spare spare' : List (List ℕ)) (page : Page) (bytes room : List ℕ)
    (h : AreKept s order writes reading kept spare) (within : page.0 < pages_of s) (fits : length bytes ≡ s.page_bytes)
    (out : stands order.numbers page.0 ≡ false) (popped : spare ≡ spare' ++ room ∷ [])
    (entered : order'.numbers ≡ order.numbers ++ page.0 ∷ []) (entered' : writes'.numbers ≡ writes.numbers ++ page.0 ∷ [])
    (kept_is : kept' ≡ set kept page.0 (Some bytes)) where
  kept_here : get_or kept' page.0 None ≡ Some bytes
  kept_here = ap (λ l. get_or l page.0 None) kept_is ∙ get_or-set_same kept page.0 (Some bytes) None (subst (λ n. page.0 < n) (sym h.kept_len) within)

  kept_there : (p : ℕ) → page.0 ≢ p → get_or kept' p None ≡ get_or kept p None
  kept_there p ne = ap (λ l. get_or l p None) kept_is ∙ get_or-set_other kept page.0 p (Some bytes) None (λ e. ne (sym e))

  page_kept : (p : ℕ) → stands writes'.numbers p ≡ true → IsPage s (get_or kept' p None)
  page_kept p in' =
      ⊎_elim
      (λ (e : page.0 ≡ p). subst (λ k. IsPage s (get_or kept' k None)) e (subst (IsPage s) (sym kept_here) (refl, fits)))
      (λ (ne : page.0 ≢ p).
      subst (IsPage s) (sym (kept_there p ne)) (h.kept_fits p (sym (ap (λ l. stands l p) entered' ∙ behind enters writes.numbers page.0 p ne) ∙ in')))
      (cases_eq page.0 p)

  pub write_kept : order'.bound ≡ order.bound → writes'.bound ≡ writes.bound → AreKept s order' writes' reading kept' spare'
  write_kept bound bound' = record {
    order_bound = bound ∙ h.order_bound;
    writes_bound = bound' ∙ h.writes_bound;
    writes_are =
        entered' ∙ ap (λ l. l ++ page.0 ∷ []) h.writes_are ∙ sym (page_enters s reading kept order.numbers page.0 within)
        ∙ ap (λ l. pages_among s l) (sym entered);
    reading_len = h.reading_len;
    kept_len = ap length kept_is ∙ length-set kept page.0 (Some bytes) ∙ h.kept_len;
    room = omega (arith, h.room, ap length popped, length_push spare' room, ap length entered', length_push writes.numbers page.0);
    spare_fits = λ i d lt.
        ap length (sym (ap (λ l. get_or l i d) popped ∙ get_or_append_left spare' (room ∷ []) d i lt))
        ∙ h.spare_fits i d (omega (arith, lt, ap length popped, length_push spare' room));
    kept_fits = page_kept;
    reads_fit = λ caller in'.
        h.reads_fit caller
        (sym
        (ap (λ l. stands l (pages_of s + caller)) entered
        ∙ behind enters order.numbers page.0 (pages_of s + caller) (below_apart page.0 (pages_of s) caller within))
        ∙ in');
  }

  pub write_flies : flights_in s reading kept' order'.numbers ≡ flights_in s reading kept order.numbers ++ Write page bytes ∷ []
  write_flies =
      let at' : ℕ → Flight = λ n. flight_at s reading kept' n in
      let at : ℕ → Flight = λ n. flight_at s reading kept n in
      let same : (x : ℕ) → x ≢ page.0 → flight_at s reading kept' x ≡ flight_at s reading kept x =
      λ x ne. ap (λ l. flight_at s reading l x) kept_is ∙ write_other s reading kept page.0 (Some bytes) x ne in
      ap (λ l. flights_in s reading kept' l) entered ∙ map-append (λ n. flight_at s reading kept' n) order.numbers (page.0 ∷ [])
      ∙ ap (λ l. l ++ flight_at s reading kept' page.0 ∷ [])
      (map_same (λ n. flight_at s reading kept' n) (λ n. flight_at s reading kept n) order.numbers page.0 same out)
      ∙ ap (λ f. flights_in s reading kept order.numbers ++ f ∷ [])
      (at_write s reading kept' page.0 within ∙ ap (λ o. Write page (bytes_at (o ∷ []) 0)) kept_here)

-- ---- a read is started

module _ (enters : EntersOne) (s : Sizes) (order writes order' : Line) (reading reading' : List Page) (kept : List (Option (List ℕ))) (spare : List (List ℕ))
    (caller : Caller) (page : Page)
    (h : AreKept s order writes reading kept spare) (known : caller.0 < s.callers) (within : page.0 < pages_of s)
    (out : stands order.numbers (pages_of s + caller.0) ≡ false)
    (entered : order'.numbers ≡ order.numbers ++ (pages_of s + caller.0) ∷ []) (reading_is : reading' ≡ set reading caller.0 page) where
  read_here : page_read reading' caller.0 ≡ page
  read_here =
      ap (λ l. page_read l caller.0) reading_is ∙ get_or-set_same reading caller.0 page (record { 0 = 0 }) (subst (λ n. caller.0 < n) (sym h.reading_len) known)

  read_there : (c : ℕ) → caller.0 ≢ c → page_read reading' c ≡ page_read reading c
  read_there c ne = ap (λ l. page_read l c) reading_is ∙ get_or-set_other reading caller.0 c page (record { 0 = 0 }) (λ e. ne (sym e))

  page_within : (c : ℕ) → stands order'.numbers (pages_of s + c) ≡ true → (page_read reading' c).0 < pages_of s
  page_within c in' =
      ⊎_elim
      (λ (e : caller.0 ≡ c). subst (λ k. (page_read reading' k).0 < pages_of s) e (subst (λ (p : Page). p.0 < pages_of s) (sym read_here) within))
      (λ (ne : caller.0 ≢ c).
      let other : pages_of s + caller.0 ≢ pages_of s + c = λ e. ne (omega (arith, e)) in
      subst (λ (p : Page). p.0 < pages_of s) (sym (read_there c ne))
      (h.reads_fit c (sym (ap (λ l. stands l (pages_of s + c)) entered ∙ behind enters order.numbers (pages_of s + caller.0) (pages_of s + c) other) ∙ in')))
      (cases_eq caller.0 c)

  pub read_kept : order'.bound ≡ order.bound → AreKept s order' writes reading' kept spare
  read_kept bound = record {
    order_bound = bound ∙ h.order_bound;
    writes_bound = h.writes_bound;
    writes_are = h.writes_are ∙ sym (read_enters s reading kept order.numbers (pages_of s + caller.0) (omega arith)) ∙ ap (λ l. pages_among s l) (sym entered);
    reading_len = ap length reading_is ∙ length-set reading caller.0 page ∙ h.reading_len;
    kept_len = h.kept_len;
    room = h.room;
    spare_fits = h.spare_fits;
    kept_fits = h.kept_fits;
    reads_fit = page_within;
  }

  pub read_flies : flights_in s reading' kept order'.numbers ≡ flights_in s reading kept order.numbers ++ Read caller page ∷ []
  read_flies =
      let same : (x : ℕ) → x ≢ pages_of s + caller.0 → flight_at s reading' kept x ≡ flight_at s reading kept x =
      λ x ne. ap (λ l. flight_at s l kept x) reading_is ∙ read_other s reading kept caller.0 page x ne in
      ap (λ l. flights_in s reading' kept l) entered ∙ map-append (λ n. flight_at s reading' kept n) order.numbers ((pages_of s + caller.0) ∷ [])
      ∙ ap (λ l. l ++ flight_at s reading' kept (pages_of s + caller.0) ∷ [])
      (map_same (λ n. flight_at s reading' kept n) (λ n. flight_at s reading kept n) order.numbers (pages_of s + caller.0) same out)
      ∙ ap (λ f. flights_in s reading kept order.numbers ++ f ∷ []) (at_caller s reading' kept caller.0 ∙ ap (λ p. Read caller p) read_here)

-- ---- a write is over

module _ (leaves : LeavesOne) (s : Sizes) (order writes order' writes' : Line) (reading : List Page) (kept kept' : List (Option (List ℕ)))
    (spare spare' : List (List ℕ)) (page : Page) (bytes : List ℕ)
    (h : AreKept s order writes reading kept spare) (once : AreOnce order.numbers) (once' : AreOnce writes.numbers) (within : page.0 < pages_of s)
    (in' : stands order.numbers page.0 ≡ true)
    (took : get_or kept page.0 None ≡ Some bytes) (pushed : spare' ≡ spare ++ bytes ∷ [])
    (left : order'.numbers ≡ line.without_number page.0 order.numbers) (left' : writes'.numbers ≡ line.without_number page.0 writes.numbers)
    (kept_is : kept' ≡ set kept page.0 None) where
  pub stands_too : stands writes.numbers page.0 ≡ true
  stands_too = ap (λ l. stands l page.0) h.writes_are ∙ page_stands s reading kept order.numbers page.0 within ∙ in'

  still_kept : (p : ℕ) → stands writes'.numbers p ≡ true → IsPage s (get_or kept' p None)
  still_kept p there =
      let was : (page.0 ≢ p) × (stands writes.numbers p ≡ true) = still leaves writes.numbers page.0 p once' (sym (ap (λ l. stands l p) left') ∙ there) in
      subst (IsPage s) (sym (ap (λ l. get_or l p None) kept_is ∙ get_or-set_other kept page.0 p None None (λ e. was.0 (sym e)))) (h.kept_fits p was.1)

  bytes_fit : length bytes ≡ s.page_bytes
  bytes_fit = ap (λ o. length (bytes_at (o ∷ []) 0)) (sym took) ∙ (h.kept_fits page.0 stands_too).1

  spare_still : (i : ℕ) (d : List ℕ) → i < length spare' → length (get_or spare' i d) ≡ s.page_bytes
  spare_still i d lt =
      ap (λ l. length (get_or l i d)) pushed
      ∙ ⊎_elim
      (λ (below : i < length spare). ap length (get_or_append_left spare (bytes ∷ []) d i below) ∙ h.spare_fits i d below)
      (λ (last : length spare ≤ i). ap length (get_or_push spare bytes d i (omega (arith, lt, ap length pushed, length_push spare bytes, last))) ∙ bytes_fit)
      (cases_lt i (length spare))

  pub landed_kept : order'.bound ≡ order.bound → writes'.bound ≡ writes.bound → AreKept s order' writes' reading kept' spare'
  landed_kept bound bound' = record {
    order_bound = bound ∙ h.order_bound;
    writes_bound = bound' ∙ h.writes_bound;
    writes_are =
        left' ∙ ap (λ l. line.without_number page.0 l) h.writes_are ∙ page_leaves s reading kept order.numbers page.0 within
        ∙ ap (λ l. pages_among s l) (sym left);
    reading_len = h.reading_len;
    kept_len = ap length kept_is ∙ length-set kept page.0 None ∙ h.kept_len;
    room = omega (arith, h.room, ap length pushed, length_push spare bytes, ap length left', length-without writes.numbers page.0 stands_too);
    spare_fits = spare_still;
    kept_fits = still_kept;
    reads_fit =
        λ caller there.
        h.reads_fit caller (still leaves order.numbers page.0 (pages_of s + caller) once (sym (ap (λ l. stands l (pages_of s + caller)) left) ∙ there)).1;
  }

  pub write_landed : flights_in s reading kept' order'.numbers ≡ without_flight (which.Write page) (flights_in s reading kept order.numbers)
  write_landed =
      let same : (x : ℕ) → x ≢ page.0 → flight_at s reading kept' x ≡ flight_at s reading kept x =
      λ x ne. ap (λ l. flight_at s reading l x) kept_is ∙ write_other s reading kept page.0 None x ne in
      ap (λ l. flights_in s reading kept' l) left
      ∙ map_same (λ n. flight_at s reading kept' n) (λ n. flight_at s reading kept n) (line.without_number page.0 order.numbers) page.0 same
      (gone leaves order.numbers page.0 once)
      ∙ sym (without_is s reading kept (which.Write page) order.numbers (lt-ltb page.0 (pages_of s) within))

-- ---- a read is over

module _ (leaves : LeavesOne) (s : Sizes) (order writes order' : Line) (reading : List Page) (kept : List (Option (List ℕ))) (spare : List (List ℕ))
    (caller : Caller)
    (h : AreKept s order writes reading kept spare) (once : AreOnce order.numbers) (known : caller.0 < s.callers)
    (left : order'.numbers ≡ line.without_number (pages_of s + caller.0) order.numbers) where
  pub still_reading : order'.bound ≡ order.bound → AreKept s order' writes reading kept spare
  still_reading bound = record {
    order_bound = bound ∙ h.order_bound;
    writes_bound = h.writes_bound;
    writes_are = h.writes_are ∙ sym (read_leaves s reading kept order.numbers (pages_of s + caller.0) (omega arith)) ∙ ap (λ l. pages_among s l) (sym left);
    reading_len = h.reading_len;
    kept_len = h.kept_len;
    room = h.room;
    spare_fits = h.spare_fits;
    kept_fits = h.kept_fits;
    reads_fit =
        λ c there.
        h.reads_fit c (still leaves order.numbers (pages_of s + caller.0) (pages_of s + c) once (sym (ap (λ l. stands l (pages_of s + c)) left) ∙ there)).1;
  }

  pub read_landed : flights_in s reading kept order'.numbers ≡ without_flight (which.Read caller) (flights_in s reading kept order.numbers)
  read_landed = ap (λ l. flights_in s reading kept l) left ∙ sym (without_is s reading kept (which.Read caller) order.numbers (lt-ltb caller.0 s.callers known))
