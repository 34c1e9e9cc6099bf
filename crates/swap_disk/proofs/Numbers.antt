-- Operations in flight by their numbers.
use Rattle.std.proofs.Common.{◌≡◌, ◌≢◌, ℕ, ◌+◌, ◌-◌, ◌<◌, ◌≤◌, Bool, true, false, cond, ◌&&◌, ◌||◌, ◌==◌, nat_lt, List, [], ◌∷◌, ◌++◌, length, map, find, slice_get, option_map, refl, sym, ap, ◌∙◌, subst, arith, is_some, Option, None, Some, IsSome, ⊎_elim, eq-eqb, ne_eqb, lt-ltb, le-ltb}
use Rattle.std.proofs.lemmas.Bool.{cases_eq, cases_lt, cond-true, cond-false, ltb-true, ltb-false, and_parts, or_left, false≢true}
use Rattle.std.proofs.lemmas.List.{append-nil}
use Rattle.std.proofs.lemmas.List.Elements.{filter-append}
use Rattle.std.proofs.lemmas.List.Sums.{sum_by-cons}
use Rattle.swap_base.specs.declared.Page.{Page}
use Rattle.swap_base.specs.declared.DiskWhich.{DiskWhich}
use Rattle.swap_base.specs.declared.DiskWhich.TheVariants as which
use Rattle.swap_base.specs.Sizes.{Sizes, pages_of}
use Rattle.swap_places.specs.Line.{Line, stands, AreBelow}
use Rattle.swap_places.specs.Line as line
use Rattle.swap_disk.specs.Disk.{Flight, Write, Read, which_of, is_flight_of, without_flight}
use Rattle.swap_disk.specs.Port.{writes_in, oldest_in, oldest_write_in, is_write}
use Rattle.swap_disk.specs.Flights.{FlightsView, AreKept, number_of, is_known, which_at, bytes_at, page_read, flight_at, flights_in, pages_among}

flip : (a b : ℕ) → (a == b) ≡ (b == a)
flip a b = ⊎_elim (λ (e : a ≡ b). eq-eqb a b e ∙ sym (eq-eqb b a (sym e))) (λ (ne : a ≢ b). ne_eqb a b ne ∙ sym (ne_eqb b a (λ e. ne (sym e)))) (cases_eq a b)

shift : (p c x : ℕ) → p ≤ x → (c == x - p) ≡ (x == p + c)
shift p c x le =
    ⊎_elim
    (λ (e : x ≡ p + c). eq-eqb c (x - p) (omega (arith, e)) ∙ sym (eq-eqb x (p + c) e))
    (λ (ne : x ≢ p + c). ne_eqb c (x - p) (λ e. ne (omega (arith, e, le))) ∙ sym (ne_eqb x (p + c) ne))
    (cases_eq x (p + c))

apart : (a b p : ℕ) → a < p → p ≤ b → a ≢ b
apart a b p lt le e = omega (arith, lt, le, e)

abbrev pub page_numbered : ℕ → Page
page_numbered n = record { 0 = n }

-- ---- what a number means

module _ (s : Sizes) (reading : List Page) (kept : List (Option (List ℕ))) where
  abbrev at : ℕ → Flight
  at n = flight_at s reading kept n

  abbrev flights : List ℕ → List Flight
  flights numbers = flights_in s reading kept numbers

  pub at_write : (n : ℕ) → n < pages_of s → at n ≡ Write (record { 0 = n }) (bytes_at kept n)
  at_write n lt =
      cond-true (nat_lt n (pages_of s)) (Write (record { 0 = n }) (bytes_at kept n)) (Read (record { 0 = n - pages_of s }) (page_read reading (n - pages_of s)))
      (lt-ltb n (pages_of s) lt)

  at_read : (n : ℕ) → pages_of s ≤ n → at n ≡ Read (record { 0 = n - pages_of s }) (page_read reading (n - pages_of s))
  at_read n le =
      cond-false (nat_lt n (pages_of s)) (Write (record { 0 = n }) (bytes_at kept n))
      (Read (record { 0 = n - pages_of s }) (page_read reading (n - pages_of s)))
      (le-ltb n (pages_of s) le)

  pub at_caller : (caller : ℕ) → at (pages_of s + caller) ≡ Read (record { 0 = caller }) (page_read reading caller)
  at_caller caller =
      let e : pages_of s + caller - pages_of s ≡ caller = omega arith in
      at_read (pages_of s + caller) (omega arith) ∙ ap (λ n. Read (record { 0 = n }) (page_read reading n)) e

  -- a known operation is that of its number alone
  same_number : (w : DiskWhich) (x : ℕ) → is_known s w ≡ true → is_flight_of w (at x) ≡ (x == number_of s w)
  same_number (which.Write page) x known =
      ⊎_elim
      (λ (lt : x < pages_of s). ap (λ f. is_flight_of (which.Write page) f) (at_write x lt) ∙ flip page.0 x)
      (λ (ge : pages_of s ≤ x).
      ap (λ f. is_flight_of (which.Write page) f) (at_read x ge)
      ∙ sym (ne_eqb x page.0 (λ e. apart page.0 x (pages_of s) (ltb-true page.0 (pages_of s) known) ge (sym e))))
      (cases_lt x (pages_of s))
  same_number (which.Read caller) x known =
      ⊎_elim
      (λ (lt : x < pages_of s).
      ap (λ f. is_flight_of (which.Read caller) f) (at_write x lt)
      ∙ sym (ne_eqb x (pages_of s + caller.0) (apart x (pages_of s + caller.0) (pages_of s) lt (omega arith))))
      (λ (ge : pages_of s ≤ x). ap (λ f. is_flight_of (which.Read caller) f) (at_read x ge) ∙ shift (pages_of s) caller.0 x ge)
      (cases_lt x (pages_of s))

  no_number : (w : DiskWhich) (x : ℕ) → is_known s w ≡ false → x < pages_of s + s.callers → is_flight_of w (at x) ≡ false
  no_number (which.Write page) x unknown below =
      ⊎_elim
      (λ (lt : x < pages_of s). ap (λ f. is_flight_of (which.Write page) f) (at_write x lt)
      ∙ ne_eqb page.0 x (λ e. apart x page.0 (pages_of s) lt (ltb-false page.0 (pages_of s) unknown) (sym e)))
      (λ (ge : pages_of s ≤ x). ap (λ f. is_flight_of (which.Write page) f) (at_read x ge))
      (cases_lt x (pages_of s))
  no_number (which.Read caller) x unknown below =
      ⊎_elim
      (λ (lt : x < pages_of s). ap (λ f. is_flight_of (which.Read caller) f) (at_write x lt))
      (λ (ge : pages_of s ≤ x).
      let past : s.callers ≤ caller.0 = ltb-false caller.0 s.callers unknown in
      ap (λ f. is_flight_of (which.Read caller) f) (at_read x ge)
      ∙ ne_eqb caller.0 (x - pages_of s) (λ e. apart (x - pages_of s) caller.0 s.callers (omega (arith, below, ge)) past (sym e)))
      (cases_lt x (pages_of s))

  -- ---- an operation among those in flight

  found :
      (w : DiskWhich) (numbers : List ℕ) → is_known s w ≡ true
      → find (is_flight_of w) (flights numbers) ≡ cond (stands numbers (number_of s w)) (Some (at (number_of s w))) None
  found w [] known = refl
  found w (x ∷ xs) known =
      let k : ℕ = number_of s w in
      ⊎_elim
      (λ (e : x ≡ number_of s w).
      cond-true (is_flight_of w (at x)) (Some (at x)) (find (is_flight_of w) (flights xs)) (same_number w x known ∙ eq-eqb x (number_of s w) e)
      ∙ ap (λ n. Some (at n)) e
      ∙ sym
      (cond-true (stands (x ∷ xs) (number_of s w)) (Some (at (number_of s w))) None
      (or_left (x == number_of s w) (stands xs (number_of s w)) (eq-eqb x (number_of s w) e))))
      (λ (ne : x ≢ number_of s w).
      cond-false (is_flight_of w (at x)) (Some (at x)) (find (is_flight_of w) (flights xs)) (same_number w x known ∙ ne_eqb x (number_of s w) ne)
      ∙ found w xs known ∙ ap (λ b. cond (b || stands xs (number_of s w)) (Some (at (number_of s w))) None) (sym (ne_eqb x (number_of s w) ne)))
      (cases_eq x (number_of s w))

  not_found :
      (w : DiskWhich) (numbers : List ℕ) → is_known s w ≡ false → AreBelow (pages_of s + s.callers) numbers → find (is_flight_of w) (flights numbers) ≡ None
  not_found w [] unknown below = refl
  not_found w (x ∷ xs) unknown below =
      cond-false (is_flight_of w (at x)) (Some (at x)) (find (is_flight_of w) (flights xs)) (no_number w x unknown below.0) ∙ not_found w xs unknown below.1

  some_if : (b : Bool) (f : Flight) → is_some (cond b (Some f) None) ≡ b
  some_if true f = refl
  some_if false f = refl

  pub has_is :
      (w : DiskWhich) (numbers : List ℕ) → AreBelow (pages_of s + s.callers) numbers
      → (is_known s w && stands numbers (number_of s w)) ≡ is_some (find (is_flight_of w) (flights numbers))
  has_is w numbers below = go (is_known s w) refl
    where
      go : (b : Bool) → is_known s w ≡ b → (is_known s w && stands numbers (number_of s w)) ≡ is_some (find (is_flight_of w) (flights numbers))
      go true known =
          ap (λ t. t && stands numbers (number_of s w)) known
          ∙ sym (ap (λ (o : Option Flight). is_some o) (found w numbers known) ∙ some_if (stands numbers (number_of s w)) (at (number_of s w)))
      go false unknown = ap (λ t. t && stands numbers (number_of s w)) unknown ∙ sym (ap (λ (o : Option Flight). is_some o) (not_found w numbers unknown below))

  -- what is in flight stands in the line
  pub in_line :
      (w : DiskWhich) (numbers : List ℕ) → AreBelow (pages_of s + s.callers) numbers → IsSome (find (is_flight_of w) (flights numbers))
      → (is_known s w ≡ true) × (stands numbers (number_of s w) ≡ true)
  in_line w numbers below some = and_parts (is_known s w) (stands numbers (number_of s w)) (has_is w numbers below ∙ some)

  pub found_at :
      (w : DiskWhich) (numbers : List ℕ) → is_known s w ≡ true → stands numbers (number_of s w) ≡ true
      → find (is_flight_of w) (flights numbers) ≡ Some (at (number_of s w))
  found_at w numbers known in' = found w numbers known ∙ cond-true (stands numbers (number_of s w)) (Some (at (number_of s w))) None in'

  pub out_of_line :
      (w : DiskWhich) (numbers : List ℕ) → is_known s w ≡ true → find (is_flight_of w) (flights numbers) ≡ None → stands numbers (number_of s w) ≡ false
  out_of_line w numbers known free =
      sym (some_if (stands numbers (number_of s w)) (at (number_of s w))) ∙ sym (ap (λ (o : Option Flight). is_some o) (found w numbers known))
      ∙ ap (λ (o : Option Flight). is_some o) free

  pub without_is : (w : DiskWhich) (numbers : List ℕ) → is_known s w ≡ true
      → without_flight w (flights numbers) ≡ flights (line.without_number (number_of s w) numbers)
  without_is w [] known = refl
  without_is w (x ∷ xs) known =
      ⊎_elim
      (λ (e : x ≡ number_of s w).
      cond-true (is_flight_of w (at x)) (flights xs) (at x ∷ without_flight w (flights xs)) (same_number w x known ∙ eq-eqb x (number_of s w) e)
      ∙ ap flights (sym (cond-true (x == number_of s w) xs (x ∷ line.without_number (number_of s w) xs) (eq-eqb x (number_of s w) e))))
      (λ (ne : x ≢ number_of s w).
      cond-false (is_flight_of w (at x)) (flights xs) (at x ∷ without_flight w (flights xs)) (same_number w x known ∙ ne_eqb x (number_of s w) ne)
      ∙ ap (λ l. at x ∷ l) (without_is w xs known)
      ∙ ap flights (sym (cond-false (x == number_of s w) xs (x ∷ line.without_number (number_of s w) xs) (ne_eqb x (number_of s w) ne))))
      (cases_eq x (number_of s w))

  -- ---- the oldest operation, and the writes

  which_is : (n : ℕ) → which_of (at n) ≡ which_at s n
  which_is n =
      ⊎_elim
      (λ (lt : n < pages_of s). ap which_of (at_write n lt)
      ∙ sym (cond-true (nat_lt n (pages_of s)) (which.Write (record { 0 = n })) (which.Read (record { 0 = n - pages_of s })) (lt-ltb n (pages_of s) lt)))
      (λ (ge : pages_of s ≤ n). ap which_of (at_read n ge)
      ∙ sym (cond-false (nat_lt n (pages_of s)) (which.Write (record { 0 = n })) (which.Read (record { 0 = n - pages_of s })) (le-ltb n (pages_of s) ge)))
      (cases_lt n (pages_of s))

  pub oldest_is : (numbers : List ℕ) → option_map (λ n. which_at s n) (slice_get numbers 0) ≡ oldest_in (flights numbers)
  oldest_is [] = refl
  oldest_is (x ∷ xs) = ap (λ w. Some w) (sym (which_is x))

  keeps_page : (x : ℕ) (xs : List ℕ) → x < pages_of s → pages_among s (x ∷ xs) ≡ x ∷ pages_among s xs
  keeps_page x xs lt = cond-true (nat_lt x (pages_of s)) (x ∷ pages_among s xs) (pages_among s xs) (lt-ltb x (pages_of s) lt)

  drops_read : (x : ℕ) (xs : List ℕ) → pages_of s ≤ x → pages_among s (x ∷ xs) ≡ pages_among s xs
  drops_read x xs ge = cond-false (nat_lt x (pages_of s)) (x ∷ pages_among s xs) (pages_among s xs) (le-ltb x (pages_of s) ge)

  pub oldest_write_is : (numbers : List ℕ) → option_map page_numbered (slice_get (pages_among s numbers) 0) ≡ oldest_write_in (flights numbers)
  oldest_write_is [] = refl
  oldest_write_is (x ∷ xs) =
      ⊎_elim
      (λ (lt : x < pages_of s). ap (λ l. option_map page_numbered (slice_get l 0)) (keeps_page x xs lt)
      ∙ sym (ap (λ f. oldest_write_in (f ∷ flights xs)) (at_write x lt)))
      (λ (ge : pages_of s ≤ x).
      ap (λ l. option_map page_numbered (slice_get l 0)) (drops_read x xs ge) ∙ oldest_write_is xs
      ∙ sym (ap (λ f. oldest_write_in (f ∷ flights xs)) (at_read x ge)))
      (cases_lt x (pages_of s))

  abbrev one : Flight → ℕ
  one f = cond (is_write f) 1 0

  pub writes_counted : (numbers : List ℕ) → length (pages_among s numbers) ≡ writes_in (flights numbers)
  writes_counted [] = refl
  writes_counted (x ∷ xs) =
      ⊎_elim
      (λ (lt : x < pages_of s). ap length (keeps_page x xs lt) ∙ omega (arith, writes_counted xs, sum_by-cons one (at x) (flights xs), ap one (at_write x lt)))
      (λ (ge : pages_of s ≤ x). ap length (drops_read x xs ge) ∙ omega (arith, writes_counted xs, sum_by-cons one (at x) (flights xs), ap one (at_read x ge)))
      (cases_lt x (pages_of s))

  -- ---- the pages among the numbers, as one enters or leaves

  pub page_enters : (numbers : List ℕ) (k : ℕ) → k < pages_of s → pages_among s (numbers ++ k ∷ []) ≡ pages_among s numbers ++ k ∷ []
  page_enters numbers k lt = filter-append (λ n. nat_lt n (pages_of s)) numbers (k ∷ []) ∙ ap (λ l. pages_among s numbers ++ l) (keeps_page k [] lt)

  pub read_enters : (numbers : List ℕ) (k : ℕ) → pages_of s ≤ k → pages_among s (numbers ++ k ∷ []) ≡ pages_among s numbers
  read_enters numbers k ge =
      filter-append (λ n. nat_lt n (pages_of s)) numbers (k ∷ []) ∙ ap (λ l. pages_among s numbers ++ l) (drops_read k [] ge)
      ∙ append-nil (pages_among s numbers)

  pub page_stands : (numbers : List ℕ) (k : ℕ) → k < pages_of s → stands (pages_among s numbers) k ≡ stands numbers k
  page_stands [] k lt = refl
  page_stands (x ∷ xs) k lt =
      ⊎_elim
      (λ (below : x < pages_of s). ap (λ l. stands l k) (keeps_page x xs below) ∙ ap (λ b. (x == k) || b) (page_stands xs k lt))
      (λ (ge : pages_of s ≤ x).
      ap (λ l. stands l k) (drops_read x xs ge) ∙ page_stands xs k lt
      ∙ ap (λ b. b || stands xs k) (sym (ne_eqb x k (λ e. apart k x (pages_of s) lt ge (sym e)))))
      (cases_lt x (pages_of s))

  leaves_first : (x k : ℕ) (xs : List ℕ) → x ≡ k → line.without_number k (x ∷ xs) ≡ xs
  leaves_first x k xs e = cond-true (x == k) xs (x ∷ line.without_number k xs) (eq-eqb x k e)

  leaves_later : (x k : ℕ) (xs : List ℕ) → x ≢ k → line.without_number k (x ∷ xs) ≡ x ∷ line.without_number k xs
  leaves_later x k xs ne = cond-false (x == k) xs (x ∷ line.without_number k xs) (ne_eqb x k ne)

  pub page_leaves : (numbers : List ℕ) (k : ℕ) → k < pages_of s → line.without_number k (pages_among s numbers) ≡ pages_among s (line.without_number k numbers)
  page_leaves [] k lt = refl
  page_leaves (x ∷ xs) k lt =
      ⊎_elim
      (λ (below : x < pages_of s).
      ap (λ l. line.without_number k l) (keeps_page x xs below)
      ∙ ⊎_elim
      (λ (e : x ≡ k). leaves_first x k (pages_among s xs) e ∙ ap (λ l. pages_among s l) (sym (leaves_first x k xs e)))
      (λ (ne : x ≢ k).
      leaves_later x k (pages_among s xs) ne ∙ ap (λ l. x ∷ l) (page_leaves xs k lt) ∙ sym (keeps_page x (line.without_number k xs) below)
      ∙ ap (λ l. pages_among s l) (sym (leaves_later x k xs ne)))
      (cases_eq x k))
      (λ (ge : pages_of s ≤ x).
      ap (λ l. line.without_number k l) (drops_read x xs ge) ∙ page_leaves xs k lt ∙ sym (drops_read x (line.without_number k xs) ge)
      ∙ ap (λ l. pages_among s l) (sym (leaves_later x k xs (λ e. apart k x (pages_of s) lt ge (sym e)))))
      (cases_lt x (pages_of s))

  pub read_leaves : (numbers : List ℕ) (k : ℕ) → pages_of s ≤ k → pages_among s (line.without_number k numbers) ≡ pages_among s numbers
  read_leaves [] k le = refl
  read_leaves (x ∷ xs) k le =
      ⊎_elim
      (λ (e : x ≡ k). ap (λ l. pages_among s l) (leaves_first x k xs e) ∙ sym (drops_read x xs (omega (arith, e, le))))
      (λ (ne : x ≢ k).
      ap (λ l. pages_among s l) (leaves_later x k xs ne)
      ∙ ⊎_elim
      (λ (below : x < pages_of s). keeps_page x (line.without_number k xs) below ∙ ap (λ l. x ∷ l) (read_leaves xs k le) ∙ sym (keeps_page x xs below))
      (λ (ge : pages_of s ≤ x). drops_read x (line.without_number k xs) ge ∙ read_leaves xs k le ∙ sym (drops_read x xs ge))
      (cases_lt x (pages_of s)))
      (cases_eq x k)

-- a line with a number is one longer than without
pub length-without : (numbers : List ℕ) (k : ℕ) → stands numbers k ≡ true → length numbers ≡ length (line.without_number k numbers) + 1
length-without [] k in' = absurd (false≢true in')
length-without (x ∷ xs) k in' =
    ⊎_elim
    (λ (e : x ≡ k). omega (arith, ap length (cond-true (x == k) xs (x ∷ line.without_number k xs) (eq-eqb x k e))))
    (λ (ne : x ≢ k).
    omega (
      arith,
      ap length (cond-false (x == k) xs (x ∷ line.without_number k xs) (ne_eqb x k ne)),
      length-without xs k (sym (ap (λ b. b || stands xs k) (ne_eqb x k ne)) ∙ in'),
    ))
    (cases_eq x k)

-- what differs at a number that isn't there makes no difference
pub map_same : (f g : ℕ → Flight) (numbers : List ℕ) (k : ℕ) → ((x : ℕ) → x ≢ k → f x ≡ g x) → stands numbers k ≡ false → map f numbers ≡ map g numbers
map_same f g [] k same out = refl
map_same f g (x ∷ xs) k same out =
    ⊎_elim
    (λ (e : x ≡ k). absurd (false≢true (sym out ∙ or_left (x == k) (stands xs k) (eq-eqb x k e))))
    (λ (ne : x ≢ k). ap (λ y. y ∷ map f xs) (same x ne) ∙ ap (λ l. g x ∷ l) (map_same f g xs k same (sym (ap (λ b. b || stands xs k) (ne_eqb x k ne)) ∙ out)))
    (cases_eq x k)

-- ---- the same of operations in flight as they are seen

module _ (s : Sizes) (reading : List Page) (kept : List (Option (List ℕ))) (order : Line) (now : FlightsView)
    (v : ◌≡◌ {A = FlightsView} (record { sizes = s; flights = flights_in s reading kept order.numbers }) now)
    (bound : order.bound ≡ pages_of s + s.callers) (below : AreBelow order.bound order.numbers) (w : DiskWhich) where
  pub seen_in : IsSome (find (is_flight_of w) now.flights) → (is_known s w ≡ true) × (stands order.numbers (number_of s w) ≡ true)
  seen_in some =
      in_line s reading kept w order.numbers (subst (λ b. AreBelow b order.numbers) bound below)
      (subst (λ (f : FlightsView). IsSome (find (is_flight_of w) f.flights)) (sym v) some)

  pub seen_at : IsSome (find (is_flight_of w) now.flights) → find (is_flight_of w) now.flights ≡ Some (flight_at s reading kept (number_of s w))
  seen_at some =
      let in' : (is_known s w ≡ true) × (stands order.numbers (number_of s w) ≡ true) = seen_in some in
      ap (λ (f : FlightsView). find (is_flight_of w) f.flights) (sym v) ∙ found_at s reading kept w order.numbers in'.0 in'.1

  pub seen_out : is_known s w ≡ true → find (is_flight_of w) now.flights ≡ None → stands order.numbers (number_of s w) ≡ false
  seen_out known free = out_of_line s reading kept w order.numbers known (ap (λ (f : FlightsView). find (is_flight_of w) f.flights) v ∙ free)

-- a write in flight: its page is one of the disk's, and stands in both lines
pub record IsWriting (s : Sizes) (order writes : Line) (page : Page) : Type 0 where
  pub low : page.0 < pages_of s
  pub flies : stands order.numbers page.0 ≡ true
  pub waits : stands writes.numbers page.0 ≡ true

pub writing :
    (s : Sizes) (order writes : Line) (reading : List Page) (kept : List (Option (List ℕ))) (spare : List (List ℕ)) (now : FlightsView) (page : Page)
    → AreKept s order writes reading kept spare → ◌≡◌ {A = FlightsView} (record { sizes = s; flights = flights_in s reading kept order.numbers }) now
    → AreBelow order.bound order.numbers → IsSome (find (is_flight_of (which.Write page)) now.flights) → IsWriting s order writes page
writing s order writes reading kept spare now page keeps seen below some =
    let in' = seen_in s reading kept order now seen keeps.order_bound below (which.Write page) some in
    let low : page.0 < pages_of s = ltb-true page.0 (pages_of s) in'.0 in
    record {
      low = low;
      flies = in'.1;
      waits = ap (λ l. stands l page.0) keeps.writes_are ∙ page_stands s reading kept order.numbers page.0 low ∙ in'.1;
    }
