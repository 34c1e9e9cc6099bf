-- No more operations are in flight than writes and callers that there may be.
use Rattle.std.proofs.Common.{◌≡◌, ℕ, zero, suc, ◌+◌, ◌<◌, ◌≤◌, Bool, true, false, cond, nat_lt, nat_eq, List, [], ◌∷◌, ◌++◌, length, find, count_by, refl, sym, ap, ◌∙◌, subst, arith, None, Some, ⊎_elim, eq-eqb, lt-ltb, le-ltb, eqb-true}
use Rattle.std.specs.List.{AllByRecursion}
use Rattle.std.proofs.lemmas.Bool.{cases_Bool, cases_eq, cases_lt, cond-true, cond-false}
use Rattle.std.proofs.lemmas.List.Sums.{sum_by-cons, sum_by-append}
use Rattle.swap_base.specs.declared.Caller.{Caller}
use Rattle.swap_base.specs.declared.DiskWhich.{DiskWhich}
use Rattle.swap_base.specs.declared.DiskWhich.TheVariants as which
use Rattle.swap_disk.specs.Disk.{Flight, Write, Read, is_flight_of, without_flight}
use Rattle.swap_disk.specs.Port.{writes_in, is_write}
use Rattle.swap_file.specs.Flights.{FlightsView, MayStart, start_after, IsKnown, Holds}

abbrev one : Bool → ℕ
one b = cond b 1 0

abbrev is_read : Flight → Bool
is_read (Write page bytes) = false
is_read (Read caller page) = true

abbrev reads_below : ℕ → Flight → Bool
reads_below n (Write page bytes) = false
reads_below n (Read caller page) = nat_lt caller.0 n

abbrev reader : ℕ → DiskWhich
reader n = which.Read (record { 0 = n })

kinds : (f : Flight) → one (is_write f) + one (is_read f) ≡ 1
kinds (Write page bytes) = refl
kinds (Read caller page) = refl

all_kinds : (fs : List Flight) → writes_in fs + count_by is_read fs ≡ length fs
all_kinds [] = refl
all_kinds (f ∷ fs) =
    omega (arith, sum_by-cons (λ (f : Flight). one (is_write f)) f fs, sum_by-cons (λ (f : Flight). one (is_read f)) f fs, kinds f, all_kinds fs)

below_more : (n : ℕ) (f : Flight) → one (reads_below (suc n) f) ≤ one (reads_below n f) + one (is_flight_of (reader n) f)
below_more n (Write page bytes) = omega arith
below_more n (Read caller page) =
    ⊎_elim
    (λ (lt : caller.0 < n). omega (arith, ap one (lt-ltb caller.0 n lt), ap one (lt-ltb caller.0 (suc n) (omega arith))))
    (λ (ge : n ≤ caller.0).
    ⊎_elim
    (λ (e : n ≡ caller.0). omega (arith, ap one (lt-ltb caller.0 (suc n) (omega arith)), ap one (eq-eqb n caller.0 e)))
    (λ (ne : n ≡ caller.0 → ⊥). omega (arith, ap one (le-ltb caller.0 (suc n) (omega arith))))
    (cases_eq n caller.0))
    (cases_lt caller.0 n)

below_step : (n : ℕ) (fs : List Flight) → count_by (reads_below (suc n)) fs ≤ count_by (reads_below n) fs + count_by (is_flight_of (reader n)) fs
below_step n [] = omega arith
below_step n (f ∷ fs) =
    omega (
      arith,
      sum_by-cons (λ (f : Flight). one (reads_below (suc n) f)) f fs,
      sum_by-cons (λ (f : Flight). one (reads_below n f)) f fs,
      sum_by-cons (λ (f : Flight). one (is_flight_of (reader n) f)) f fs,
      below_more n f,
      below_step n fs,
    )

below_zero : (fs : List Flight) → count_by (reads_below 0) fs ≡ 0
below_zero [] = refl
below_zero (Write page bytes ∷ fs) = sum_by-cons (λ (f : Flight). one (reads_below 0 f)) (Write page bytes) fs ∙ omega (arith, below_zero fs)
below_zero (Read caller page ∷ fs) =
    sum_by-cons (λ (f : Flight). one (reads_below 0 f)) (Read caller page) fs ∙ omega (arith, below_zero fs, ap one (le-ltb caller.0 0 (omega arith)))

-- where no caller has two reads, there are no more reads than callers
few_below : (fs : List Flight) → ((caller : Caller) → count_by (is_flight_of (which.Read caller)) fs ≤ 1) → (n : ℕ) → count_by (reads_below n) fs ≤ n
few_below fs single zero = omega (arith, below_zero fs)
few_below fs single (suc n) = omega (arith, below_step n fs, few_below fs single n, single (record { 0 = n }))

known_below : (n : ℕ) (f : Flight) → IsKnown n f → one (is_read f) ≤ one (reads_below n f)
known_below n (Write page bytes) known = omega arith
known_below n (Read caller page) known = omega (arith, ap one (lt-ltb caller.0 n known))

all_below : (n : ℕ) (fs : List Flight) → AllByRecursion (IsKnown n) fs → count_by is_read fs ≤ count_by (reads_below n) fs
all_below n [] known = omega arith
all_below n (f ∷ fs) known =
    omega (
      arith,
      sum_by-cons (λ (f : Flight). one (is_read f)) f fs,
      sum_by-cons (λ (f : Flight). one (reads_below n f)) f fs,
      known_below n f known.0,
      all_below n fs known.1,
    )

pub bounded : (r : FlightsView) → Holds r → length r.flights ≤ r.queue + r.callers
bounded r h = omega (arith, all_kinds r.flights, all_below r.callers r.flights h.known, few_below r.flights h.single r.callers, h.writes)

-- ---- an operation starts

free_count : (w : DiskWhich) (fs : List Flight) → find (is_flight_of w) fs ≡ None → count_by (is_flight_of w) fs ≡ 0
free_count w [] e = refl
free_count w (f ∷ fs) e =
    ⊎_elim
    (λ (t : is_flight_of w f ≡ true). absurd (some_none (sym (cond-true (is_flight_of w f) (Some f) (find (is_flight_of w) fs) t) ∙ e)))
    (λ (t : is_flight_of w f ≡ false).
    omega (
      arith,
      sum_by-cons (λ (f : Flight). one (is_flight_of w f)) f fs,
      ap one t,
      free_count w fs (sym (cond-false (is_flight_of w f) (Some f) (find (is_flight_of w) fs) t) ∙ e),
    ))
    (cases_Bool (is_flight_of w f))
  where
    some_none : {A : Type 0} {a : A} → Some a ≡ None → ⊥
    some_none e = cc

count_last : (p : Flight → Bool) (fs : List Flight) (f : Flight) → count_by p (fs ++ f ∷ []) ≡ count_by p fs + one (p f)
count_last p fs f = omega (arith, sum_by-append (λ (f : Flight). one (p f)) fs (f ∷ []), sum_by-cons (λ (f : Flight). one (p f)) f [])

known_last : (n : ℕ) (fs : List Flight) (f : Flight) → AllByRecursion (IsKnown n) fs → IsKnown n f → AllByRecursion (IsKnown n) (fs ++ f ∷ [])
known_last n [] f all known = (known, tt)
known_last n (g ∷ fs) f all known = (all.0, known_last n fs f all.1 known)

same_caller : (c d : Caller) → c.0 ≡ d.0 → c ≡ d
same_caller c d e = let F : ℕ → Caller = λ n. record { 0 = n } in ap F e

one_few : (b : Bool) → one b ≤ 1
one_few true = omega arith
one_few false = omega arith

single_last :
    (fs : List Flight) (f : Flight) (queue callers : ℕ) → MayStart (record { flights = fs; queue = queue; callers = callers }) f
    → ((caller : Caller) → count_by (is_flight_of (which.Read caller)) fs ≤ 1) → (caller : Caller)
    → count_by (is_flight_of (which.Read caller)) (fs ++ f ∷ []) ≤ 1
single_last fs (Write page bytes) queue callers may single caller =
    omega (arith, count_last (is_flight_of (which.Read caller)) fs (Write page bytes), single caller)
single_last fs (Read c page) queue callers may single caller =
    ⊎_elim
    (λ (e : caller.0 ≡ c.0).
    let free : count_by (is_flight_of (which.Read caller)) fs ≡ 0 =
    subst (λ (d : Caller). count_by (is_flight_of (which.Read d)) fs ≡ 0) (sym (same_caller caller c e)) (free_count (which.Read c) fs may.0) in
    omega (arith, count_last (is_flight_of (which.Read caller)) fs (Read c page), free, one_few (is_flight_of (which.Read caller) (Read c page))))
    (λ (ne : caller.0 ≡ c.0 → ⊥). omega (arith, count_last (is_flight_of (which.Read caller)) fs (Read c page), single caller, ap one (other caller.0 c.0 ne)))
    (cases_eq caller.0 c.0)
  where
    other : (n m : ℕ) → (n ≡ m → ⊥) → nat_eq n m ≡ false
    other n m ne = ⊎_elim (λ (t : nat_eq n m ≡ true). absurd (ne (eqb-true n m t))) (λ (t : nat_eq n m ≡ false). t) (cases_Bool (nat_eq n m))

writes_last :
    (fs : List Flight) (f : Flight) (queue callers : ℕ) → MayStart (record { flights = fs; queue = queue; callers = callers }) f → writes_in fs ≤ queue
    → writes_in (fs ++ f ∷ []) ≤ queue
writes_last fs (Write page bytes) queue callers may few = omega (arith, count_last is_write fs (Write page bytes), may)
writes_last fs (Read c page) queue callers may few = omega (arith, count_last is_write fs (Read c page), few)

known_of : (fs : List Flight) (f : Flight) (queue callers : ℕ) → MayStart (record { flights = fs; queue = queue; callers = callers }) f → IsKnown callers f
known_of fs (Write page bytes) queue callers may = tt
known_of fs (Read c page) queue callers may = may.1

pub holds_started : (r : FlightsView) (f : Flight) → MayStart r f → Holds r → Holds (start_after r f)
holds_started r f may h = record {
  writes = writes_last r.flights f r.queue r.callers may h.writes;
  single = single_last r.flights f r.queue r.callers may h.single;
  known = known_last r.callers r.flights f h.known (known_of r.flights f r.queue r.callers may);
}

pub has_room : (r : FlightsView) (f : Flight) → MayStart r f → Holds r → length r.flights < r.queue + r.callers
has_room r f may h = omega (arith, bounded (start_after r f) (holds_started r f may h), longer r.flights f)
  where
    longer : (fs : List Flight) (f : Flight) → length (fs ++ f ∷ []) ≡ length fs + 1
    longer [] f = refl
    longer (g ∷ fs) f = omega (arith, longer fs f)

-- ---- an operation leaves

fewer : (p : Flight → Bool) (w : DiskWhich) (fs : List Flight) → count_by p (without_flight w fs) ≤ count_by p fs
fewer p w [] = omega arith
fewer p w (f ∷ fs) =
    ⊎_elim
    (λ (t : is_flight_of w f ≡ true).
    omega (arith, sum_by-cons (λ (f : Flight). one (p f)) f fs, ap (count_by p) (cond-true (is_flight_of w f) fs (f ∷ without_flight w fs) t)))
    (λ (t : is_flight_of w f ≡ false).
    omega (
      arith,
      sum_by-cons (λ (f : Flight). one (p f)) f fs,
      sum_by-cons (λ (f : Flight). one (p f)) f (without_flight w fs),
      fewer p w fs,
      ap (count_by p) (cond-false (is_flight_of w f) fs (f ∷ without_flight w fs) t),
    ))
    (cases_Bool (is_flight_of w f))

known_by :
    (n : ℕ) (f : Flight) (fs ws : List Flight) (b : Bool) → AllByRecursion (IsKnown n) (f ∷ fs) → AllByRecursion (IsKnown n) ws
    → AllByRecursion (IsKnown n) (cond b fs (f ∷ ws))
known_by n f fs ws true all left = all.1
known_by n f fs ws false all left = (all.0, left)

known_without : (n : ℕ) (w : DiskWhich) (fs : List Flight) → AllByRecursion (IsKnown n) fs → AllByRecursion (IsKnown n) (without_flight w fs)
known_without n w [] all = tt
known_without n w (f ∷ fs) all = known_by n f fs (without_flight w fs) (is_flight_of w f) all (known_without n w fs all.1)

pub holds_without : (r : FlightsView) (w : DiskWhich) → Holds r → Holds (record r { flights = without_flight w r.flights })
holds_without r w h = record {
  writes = omega (arith, fewer is_write w r.flights, h.writes);
  single = λ caller. omega (arith, fewer (is_flight_of (which.Read caller)) w r.flights, h.single caller);
  known = known_without r.callers w r.flights h.known;
}
