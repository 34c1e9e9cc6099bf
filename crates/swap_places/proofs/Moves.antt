-- What the calls of a line leave of its links.
use Rattle.std.proofs.Common.{◌≡◌, ◌≢◌, ℕ, ◌+◌, ◌-◌, ◌<◌, ◌≤◌, true, false, not, ◌==◌, List, [], ◌∷◌, ◌++◌, length, get_or, set, slice_get, sym, ap, refl, ◌∙◌, subst, arith, ⊎_elim, length-set, length-append, get_or-set_same, get_or-set_other, eq-eqb, ne_eqb, Some, None}
use Rattle.std.proofs.lemmas.Bool.{cases_eq, cases_Bool, cond-true, cond-false}
use Rattle.std.proofs.lemmas.List.{get_or_default}
use Rattle.swap_places.specs.Line.{stands, without_number, number_behind, IsNoneOf, AreOnce, AreBelow}
use Rattle.swap_places.specs.Links.{IsChain, walk, numbers_in, IsLinked}
use Rattle.swap_places.proofs.Lines.{no_more, none_of, none_below, Parts, parts_at, once_append, once_push, below_push, without_at, once_without, below_without, others_stand, length-without, stands_push, none_left, none_right}
use Rattle.swap_places.proofs.Chains.{walk_along, length-walk, chain_parts, apart_from_last, apart_from_first, chain_entered, chain_left}

abbrev pub at : List ℕ → ℕ → ℕ
at links k = get_or links k 0

pub length-numbers : (after : List ℕ) (bound count : ℕ) → length (numbers_in after bound count) ≡ count
length-numbers after bound count = length-walk (at after) count (at after bound)

-- a chain of these numbers makes the line of them
pub record Makes (after before : List ℕ) (bound count : ℕ) (numbers : List ℕ) : Type 0 where
  pub linked : IsLinked after before bound count
  pub line : numbers_in after bound count ≡ numbers

makes :
    (after before : List ℕ) (bound count : ℕ) (numbers : List ℕ) → length numbers ≡ count → IsChain (at after) (at before) bound numbers bound → AreOnce numbers
    → AreBelow bound numbers
    → ((k : ℕ) → k < bound → stands numbers k ≡ false → at after k ≡ k) → length after ≡ bound + 1 → length before ≡ bound + 1
    → Makes after before bound count numbers
makes after before bound count numbers long chain once below out fits fits' =
    let line : numbers_in after bound count ≡ numbers =
    ap (λ n. walk (at after) n (at after bound)) (sym long) ∙ walk_along (at after) (at before) bound numbers bound chain in
    record {
      linked =
          record {
            chain = subst (λ xs. IsChain (at after) (at before) bound xs bound) (sym line) chain;
            once = subst (λ xs. AreOnce xs) (sym line) once;
            below = subst (λ xs. AreBelow bound xs) (sym line) below;
            out = λ k lt none. out k lt (ap (λ xs. stands xs k) (sym line) ∙ none);
            after_fits = fits;
            before_fits = fits';
          };
      line = line;
    }

-- the last of a chain is its start or one of its numbers
last_below :
    (after before : ℕ → ℕ) (start : ℕ) (xs : List ℕ) (end bound : ℕ) → IsChain after before start xs end → start ≤ bound → AreBelow bound xs
    → before end ≤ bound
last_below after before start [] end bound chain le below = subst (λ k. k ≤ bound) (sym chain.1) le
last_below after before start (x ∷ xs) end bound chain le below =
    let lt : x < bound = below.0 in last_below after before x xs end bound chain.2 (omega arith) below.1

first_below :
    (after before : ℕ → ℕ) (start : ℕ) (xs : List ℕ) (end bound : ℕ) → IsChain after before start xs end → end ≤ bound → AreBelow bound xs → after start ≤ bound
first_below after before start [] end bound chain le below = subst (λ k. k ≤ bound) (sym chain.0) le
first_below after before start (x ∷ xs) end bound chain le below = let lt : x < bound = below.0 in subst (λ k. k ≤ bound) (sym chain.0) (omega arith)

pub tail_below : (after before : List ℕ) (bound count : ℕ) → IsLinked after before bound count → at before bound ≤ bound
tail_below after before bound count is = last_below (at after) (at before) bound (numbers_in after bound count) bound bound is.chain (omega arith) is.below

-- ---- two links set one after the other

set_twice : (links : List ℕ) (p v k w j : ℕ) → j ≢ p → j ≢ k → at (set (set links p v) k w) j ≡ at links j
set_twice links p v k w j ne ne' = get_or-set_other (set links p v) k j w 0 ne' ∙ get_or-set_other links p j v 0 ne

set_first : (links : List ℕ) (p v k w : ℕ) → p ≢ k → p < length links → at (set (set links p v) k w) p ≡ v
set_first links p v k w ne lt = get_or-set_other (set links p v) k p w 0 ne ∙ get_or-set_same links p v 0 lt

set_second : (links : List ℕ) (p v k w : ℕ) → k < length links → at (set (set links p v) k w) k ≡ w
set_second links p v k w lt = get_or-set_same (set links p v) k w 0 (omega (arith, length-set links p v))

pub entered :
    (after before : List ℕ) (bound count k last : ℕ) → IsLinked after before bound count → k < bound → stands (numbers_in after bound count) k ≡ false
    → last ≡ at before bound
    → Makes (set (set after last k) k bound) (set (set before k last) bound k) bound (count + 1) (numbers_in after bound count ++ k ∷ [])
entered after before bound count k last is lt out last_is =
    let numbers : List ℕ = numbers_in after bound count in
    let a : ℕ → ℕ = at after in
    let b : ℕ → ℕ = at before in
    let none : IsNoneOf k (numbers_in after bound count) = none_of k (numbers_in after bound count) out in
    let apart : k ≢ bound = λ e. absurd (omega arith) in
    let fits : length after ≡ bound + 1 = is.after_fits in
    let fits' : length before ≡ bound + 1 = is.before_fits in
    let near : last ≤ bound = subst (λ n. n ≤ bound) (sym last_is) (tail_below after before bound count is) in
    let k_last : k ≢ last = λ e. apart_from_last (at after) (at before) bound (numbers_in after bound count) bound k is.chain apart none (e ∙ last_is) in
    let within : last < length after = omega arith in
    let within' : k < length after = omega arith in
    let far : IsNoneOf bound (numbers_in after bound count) = none_below bound bound (numbers_in after bound count) is.below (omega arith) in
    let to_last : at (set (set after last k) k bound) last ≡ k = set_first after last k k bound (λ e. k_last (sym e)) within in
    makes (set (set after last k) k bound) (set (set before k last) bound k) bound (count + 1) (numbers_in after bound count ++ k ∷ [])
    (length-append (numbers_in after bound count) (k ∷ []) ∙ ap (λ n. n + 1) (length-numbers after bound count))
    (chain_entered (at after) (at before) (at (set (set after last k) k bound)) (at (set (set before k last) bound k)) bound
    (numbers_in after bound count) bound k is.chain
    (λ j ne ne'. set_twice after last k k bound j (λ e. ne (e ∙ last_is)) ne')
    (λ j ne ne'. set_twice before k last bound k j ne' ne)
    (ap (at (set (set after last k) k bound)) (sym last_is) ∙ to_last)
    (set_second after last k k bound within')
    (set_first before k last bound k apart (omega arith) ∙ last_is)
    (set_second before k last bound k (omega arith))
    far is.once apart none far)
    (once_push (numbers_in after bound count) k is.once none)
    (below_push bound (numbers_in after bound count) k is.below lt)
    (λ j below gone.
    let still : (stands (numbers_in after bound count) j ≡ false) × (j ≢ k) = stands_push j k (numbers_in after bound count) gone in
    let bound_j : j ≢ bound = λ e. absurd (omega arith) in
    let j_last : j ≢ last =
    λ e.
    apart_from_last (at after) (at before) bound (numbers_in after bound count) bound j is.chain bound_j (none_of j (numbers_in after bound count) still.0)
    (e ∙ last_is) in
    set_twice after last k k bound j j_last still.1 ∙ is.out j below still.0)
    (length-set (set after last k) k bound ∙ length-set after last k ∙ fits)
    (length-set (set before k last) bound k ∙ length-set before k last ∙ fits')

-- ---- a number that stands in the line, with the two parts of the chain at it

pub record Stood (after before : List ℕ) (bound count k : ℕ) : Type 0 where
  pub xs : List ℕ
  pub ys : List ℕ
  pub whole : numbers_in after bound count ≡ xs ++ k ∷ ys
  pub front : IsChain (at after) (at before) bound xs k
  pub back : IsChain (at after) (at before) k ys bound
  pub once : AreOnce (xs ++ k ∷ ys)
  pub below : AreBelow bound (xs ++ k ∷ ys)
  pub none_front : IsNoneOf k xs
  pub none_back : IsNoneOf k ys

none_before : (xs ys : List ℕ) (k : ℕ) → AreOnce (xs ++ k ∷ ys) → IsNoneOf k xs
none_before [] ys k once = tt
none_before (x ∷ xs) ys k once = ((λ e. (none_right x xs (k ∷ ys) once.0).0 (sym e)), none_before xs ys k once.1)

below_right : (bound : ℕ) (xs ys : List ℕ) → AreBelow bound (xs ++ ys) → AreBelow bound ys
below_right bound [] ys below = below
below_right bound (x ∷ xs) ys below = below_right bound xs ys below.1

below_left : (bound : ℕ) (xs ys : List ℕ) → AreBelow bound (xs ++ ys) → AreBelow bound xs
below_left bound [] ys below = tt
below_left bound (x ∷ xs) ys below = (below.0, below_left bound xs ys below.1)

pub stood :
    (after before : List ℕ) (bound count k : ℕ) → IsLinked after before bound count → stands (numbers_in after bound count) k ≡ true
    → Stood after before bound count k
stood after before bound count k is in' =
    let parts : Parts (numbers_in after bound count) k = parts_at (numbers_in after bound count) k in' in
    let chain : IsChain (at after) (at before) bound (parts.front ++ k ∷ parts.back) bound =
    subst (λ zs. IsChain (at after) (at before) bound zs bound) parts.whole is.chain in
    let both : IsChain (at after) (at before) bound parts.front k × IsChain (at after) (at before) k parts.back bound =
    chain_parts (at after) (at before) bound parts.front k parts.back bound chain in
    let once : AreOnce (parts.front ++ k ∷ parts.back) = subst (λ zs. AreOnce zs) parts.whole is.once in
    record {
      xs = parts.front;
      ys = parts.back;
      whole = parts.whole;
      front = both.0;
      back = both.1;
      once = once;
      below = subst (λ zs. AreBelow bound zs) parts.whole is.below;
      none_front = none_before parts.front parts.back k once;
      none_back = (once_append parts.front (k ∷ parts.back) once).1.0;
    }

pub stood_below : (after before : List ℕ) (bound count k : ℕ) → Stood after before bound count k → k < bound
stood_below after before bound count k s = (below_right bound s.xs (k ∷ s.ys) s.below).0

-- its links are within the bound
pub links_below : (after before : List ℕ) (bound count k : ℕ) → Stood after before bound count k → (at after k ≤ bound) × (at before k ≤ bound)
links_below after before bound count k s = (
  first_below (at after) (at before) k s.ys bound bound s.back (omega arith) (below_right bound s.xs (k ∷ s.ys) s.below).1,
  last_below (at after) (at before) bound s.xs k bound s.front (omega arith) (below_left bound s.xs (k ∷ s.ys) s.below),
)

pub left :
    (after before : List ℕ) (bound count k p q : ℕ) → IsLinked after before bound count → stands (numbers_in after bound count) k ≡ true → p ≡ at before k
    → q ≡ at after k
    → Makes (set (set after p q) k k) (set before q p) bound (count - 1) (without_number k (numbers_in after bound count))
left after before bound count k p q is in' p_is q_is =
    let s : Stood after before bound count k = stood after before bound count k is in' in
    let lt : k < bound = stood_below after before bound count k s in
    let near : (at after k ≤ bound) × (at before k ≤ bound) = links_below after before bound count k s in
    let fits : length after ≡ bound + 1 = is.after_fits in
    let fits' : length before ≡ bound + 1 = is.before_fits in
    let apart : k ≢ bound = λ e. absurd (omega arith) in
    let p_k : p ≢ k = λ e. apart_from_last (at after) (at before) bound s.xs k k s.front apart s.none_front (sym e ∙ p_is) in
    let p_within : p < length after = subst (λ n. n < length after) (sym p_is) (omega (arith, near.1)) in
    let q_within : q < length before = subst (λ n. n < length before) (sym q_is) (omega (arith, near.0)) in
    let far : IsNoneOf bound (s.xs ++ k ∷ s.ys) = none_below bound bound (s.xs ++ k ∷ s.ys) s.below (omega arith) in
    let rest : without_number k (numbers_in after bound count) ≡ s.xs ++ s.ys = ap (without_number k) s.whole ∙ without_at s.xs s.ys k s.none_front in
    let chain : IsChain (at (set (set after p q) k k)) (at (set before q p)) bound (s.xs ++ s.ys) bound =
    chain_left (at after) (at before) (at (set (set after p q) k k)) (at (set before q p)) bound s.xs k s.ys bound s.front s.back
    (λ j ne ne'. set_twice after p q k k j (λ e. ne (e ∙ p_is)) ne')
    (λ j ne ne'. get_or-set_other before q j p 0 (λ e. ne (e ∙ q_is)))
    (ap (at (set (set after p q) k k)) (sym p_is) ∙ set_first after p q k k p_k p_within ∙ q_is)
    (ap (at (set before q p)) (sym q_is) ∙ get_or-set_same before q p 0 q_within ∙ p_is)
    far s.once far in
    makes (set (set after p q) k k) (set before q p) bound (count - 1) (without_number k (numbers_in after bound count))
    (omega (arith, length-without k (numbers_in after bound count) in', length-numbers after bound count))
    (subst (λ zs. IsChain (at (set (set after p q) k k)) (at (set before q p)) bound zs bound) (sym rest) chain)
    (once_without k (numbers_in after bound count) is.once)
    (below_without bound k (numbers_in after bound count) is.below)
    (λ j below gone.
    ⊎_elim
    (λ (e : j ≡ k). ap (at (set (set after p q) k k)) e ∙ set_second after p q k k (omega arith) ∙ sym e)
    (λ (ne : j ≢ k).
    let out : stands (numbers_in after bound count) j ≡ false = sym (others_stand j k (numbers_in after bound count) ne) ∙ gone in
    let bound_j : j ≢ bound = λ e. absurd (omega arith) in
    let none : IsNoneOf j (s.xs ++ k ∷ s.ys) = subst (λ zs. IsNoneOf j zs) s.whole (none_of j (numbers_in after bound count) out) in
    let j_p : j ≢ p = λ e. apart_from_last (at after) (at before) bound s.xs k j s.front bound_j (none_left j s.xs (k ∷ s.ys) none) (e ∙ p_is) in
    set_twice after p q k k j j_p ne ∙ is.out j below out)
    (cases_eq j k))
    (length-set (set after p q) k k ∙ length-set after p q ∙ fits)
    (length-set before q p ∙ fits')

-- ---- what is read of the links

-- who stands has another one after it
pub stands_by :
    (after before : List ℕ) (bound count k : ℕ) → IsLinked after before bound count → k < bound
    → not (at after k == k) ≡ stands (numbers_in after bound count) k
stands_by after before bound count k is lt =
    ⊎_elim
    (λ (e : stands (numbers_in after bound count) k ≡ true).
    let s : Stood after before bound count k = stood after before bound count k is e in
    let apart : k ≢ at after k = apart_from_first (at after) (at before) k s.ys bound k s.back (λ same. absurd (omega arith)) s.none_back in
    ap not (ne_eqb (at after k) k (λ same. apart (sym same))) ∙ sym e)
    (λ (e : stands (numbers_in after bound count) k ≡ false). ap not (eq-eqb (at after k) k (is.out k lt e)) ∙ sym e)
    (cases_Bool (stands (numbers_in after bound count) k))

behind_at : (xs ys : List ℕ) (k : ℕ) → IsNoneOf k xs → number_behind k (xs ++ k ∷ ys) ≡ slice_get ys 0
behind_at [] ys k none = cond-true (k == k) (slice_get ys 0) (number_behind k ys) (eq-eqb k k refl)
behind_at (x ∷ xs) ys k none =
    cond-false (x == k) (slice_get (xs ++ k ∷ ys) 0) (number_behind k (xs ++ k ∷ ys)) (ne_eqb x k (λ e. none.0 (sym e))) ∙ behind_at xs ys k none.1

last_none :
    (after before : ℕ → ℕ) (k : ℕ) (ys : List ℕ) (bound : ℕ) → IsChain after before k ys bound → AreBelow bound ys → after k ≡ bound → slice_get ys 0 ≡ None
last_none after before k [] bound chain below e = refl
last_none after before k (y ∷ ys) bound chain below e = absurd (let lt : y < bound = below.0 in let same : after k ≡ y = chain.0 in omega arith)

next_some : (after before : ℕ → ℕ) (k : ℕ) (ys : List ℕ) (bound : ℕ) → IsChain after before k ys bound → after k ≢ bound → slice_get ys 0 ≡ Some (after k)
next_some after before k [] bound chain ne = absurd (ne chain.0)
next_some after before k (y ∷ ys) bound chain ne = ap Some (sym chain.0)

pub none_next :
    (after before : List ℕ) (bound count k : ℕ) → IsLinked after before bound count → stands (numbers_in after bound count) k ≡ true → at after k ≡ bound
    → number_behind k (numbers_in after bound count) ≡ None
none_next after before bound count k is in' e =
    let s : Stood after before bound count k = stood after before bound count k is in' in
    ap (number_behind k) s.whole ∙ behind_at s.xs s.ys k s.none_front
    ∙ last_none (at after) (at before) k s.ys bound s.back (below_right bound s.xs (k ∷ s.ys) s.below).1 e

pub some_next :
    (after before : List ℕ) (bound count k : ℕ) → IsLinked after before bound count → stands (numbers_in after bound count) k ≡ true → at after k ≢ bound
    → number_behind k (numbers_in after bound count) ≡ Some (at after k)
some_next after before bound count k is in' ne =
    let s : Stood after before bound count k = stood after before bound count k is in' in
    ap (number_behind k) s.whole ∙ behind_at s.xs s.ys k s.none_front ∙ next_some (at after) (at before) k s.ys bound s.back ne

-- ---- the same of what the calls read

-- a link, read with any default
pub link_read : (links : List ℕ) (bound k r : ℕ) → length links ≡ bound + 1 → k ≤ bound → r ≡ get_or links k r → r ≡ at links k
link_read links bound k r fits le read = read ∙ get_or_default links k r 0 (omega arith)

pub enters :
    (after before : List ℕ) (bound count k r : ℕ) (numbers : List ℕ) → IsLinked after before bound count → numbers_in after bound count ≡ numbers → k < bound
    → stands numbers k ≡ false → r ≡ get_or before bound r
    → Makes (set (set after r k) k bound) (set (set before k r) bound k) bound (count + 1) (numbers ++ k ∷ [])
enters after before bound count k r numbers is line lt out read =
    subst (λ xs. Makes (set (set after r k) k bound) (set (set before k r) bound k) bound (count + 1) (xs ++ k ∷ [])) line
    (entered after before bound count k r is lt (ap (λ xs. stands xs k) line ∙ out) (link_read before bound bound r is.before_fits (omega arith) read))

pub last_fits : (after before : List ℕ) (bound count r : ℕ) → IsLinked after before bound count → r ≡ get_or before bound r → r < length after
last_fits after before bound count r is read =
    let near : at before bound ≤ bound = tail_below after before bound count is in
    let same : r ≡ at before bound = link_read before bound bound r is.before_fits (omega arith) read in
    let fits : length after ≡ bound + 1 = is.after_fits in
    omega arith

-- one more number still fits
pub one_fits :
    (after before : List ℕ) (bound count k : ℕ) (numbers : List ℕ) → IsLinked after before bound count → numbers_in after bound count ≡ numbers → k < bound
    → stands numbers k ≡ false → count + 1 ≤ bound
one_fits after before bound count k numbers is line lt out =
    let out' : stands (numbers_in after bound count) k ≡ false = ap (λ xs. stands xs k) line ∙ out in
    let all : length (numbers_in after bound count ++ k ∷ []) ≤ bound =
    no_more bound (numbers_in after bound count ++ k ∷ []) (once_push (numbers_in after bound count) k is.once (none_of k (numbers_in after bound count) out'))
    (below_push bound (numbers_in after bound count) k is.below lt) in
    omega (arith, length-append (numbers_in after bound count) (k ∷ []), length-numbers after bound count)

pub within :
    (after before : List ℕ) (bound count k : ℕ) (numbers : List ℕ) → IsLinked after before bound count → numbers_in after bound count ≡ numbers
    → stands numbers k ≡ true → k < bound
within after before bound count k numbers is line in' =
    stood_below after before bound count k (stood after before bound count k is (ap (λ xs. stands xs k) line ∙ in'))

pub leaves :
    (after before : List ℕ) (bound count k p q : ℕ) (numbers : List ℕ) → IsLinked after before bound count → numbers_in after bound count ≡ numbers
    → stands numbers k ≡ true → p ≡ get_or before k p → q ≡ get_or after k q
    → Makes (set (set after p q) k k) (set before q p) bound (count - 1) (without_number k numbers)
leaves after before bound count k p q numbers is line in' read read' =
    let lt : k < bound = within after before bound count k numbers is line in' in
    subst (λ xs. Makes (set (set after p q) k k) (set before q p) bound (count - 1) (without_number k xs)) line
    (left after before bound count k p q is (ap (λ xs. stands xs k) line ∙ in') (link_read before bound k p is.before_fits (omega arith) read)
    (link_read after bound k q is.after_fits (omega arith) read'))

pub links_fit :
    (after before : List ℕ) (bound count k p q : ℕ) (numbers : List ℕ) → IsLinked after before bound count → numbers_in after bound count ≡ numbers
    → stands numbers k ≡ true → p ≡ get_or before k p → q ≡ get_or after k q
    → (p < length after) × (q < length before)
links_fit after before bound count k p q numbers is line in' read read' =
    let lt : k < bound = within after before bound count k numbers is line in' in
    let near : (at after k ≤ bound) × (at before k ≤ bound) =
    links_below after before bound count k (stood after before bound count k is (ap (λ xs. stands xs k) line ∙ in')) in
    let p_is : p ≡ at before k = link_read before bound k p is.before_fits (omega arith) read in
    let q_is : q ≡ at after k = link_read after bound k q is.after_fits (omega arith) read' in
    let fits : length after ≡ bound + 1 = is.after_fits in
    let fits' : length before ≡ bound + 1 = is.before_fits in
    let near' : at before k ≤ bound = near.1 in
    let near'' : at after k ≤ bound = near.0 in
    (omega arith, omega arith)
