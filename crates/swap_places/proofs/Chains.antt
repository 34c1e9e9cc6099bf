-- Chains: what they say of the links at their ends, and what a changed link leaves of them.
use Rattle.std.proofs.Common.{◌≡◌, ◌≢◌, ℕ, zero, suc, List, [], ◌∷◌, ◌++◌, length, sym, ap, refl, ◌∙◌}
use Rattle.swap_places.specs.Line.{IsNoneOf, AreOnce}
use Rattle.swap_places.specs.Links.{IsChain, walk}
use Rattle.swap_places.proofs.Lines.{none_left, none_right}

-- the walk along a chain gives its numbers
pub walk_along : (after before : ℕ → ℕ) (start : ℕ) (xs : List ℕ) (end : ℕ) → IsChain after before start xs end → walk after (length xs) (after start) ≡ xs
walk_along after before start [] end chain = refl
walk_along after before start (x ∷ xs) end chain =
    ap (λ k. k ∷ walk after (length xs) (after k)) chain.0 ∙ ap (λ ys. x ∷ ys) (walk_along after before x xs end chain.2)

pub length-walk : (after : ℕ → ℕ) (count k : ℕ) → length (walk after count k) ≡ count
length-walk after zero k = refl
length-walk after (suc count) k = ap suc (length-walk after count (after k))

pub chain_parts :
    (after before : ℕ → ℕ) (start : ℕ) (xs : List ℕ) (k : ℕ) (ys : List ℕ) (end : ℕ) → IsChain after before start (xs ++ k ∷ ys) end
    → IsChain after before start xs k × IsChain after before k ys end
chain_parts after before start [] k ys end chain = ((chain.0, chain.1), chain.2)
chain_parts after before start (x ∷ xs) k ys end chain =
    let rest : IsChain after before x xs k × IsChain after before k ys end = chain_parts after before x xs k ys end chain.2 in
    ((chain.0, chain.1, rest.0), rest.1)

-- the one before the end is of the chain, and so is the one after the start, unless it is the end
pub apart_from_last :
    (after before : ℕ → ℕ) (start : ℕ) (xs : List ℕ) (end j : ℕ) → IsChain after before start xs end → j ≢ start → IsNoneOf j xs → j ≢ before end
apart_from_last after before start [] end j chain ne none = λ e. ne (e ∙ chain.1)
apart_from_last after before start (x ∷ xs) end j chain ne none = apart_from_last after before x xs end j chain.2 none.0 none.1

pub apart_from_first :
    (after before : ℕ → ℕ) (start : ℕ) (xs : List ℕ) (end j : ℕ) → IsChain after before start xs end → j ≢ end → IsNoneOf j xs → j ≢ after start
apart_from_first after before start [] end j chain ne none = λ e. ne (e ∙ chain.0)
apart_from_first after before start (x ∷ xs) end j chain ne none = λ e. none.0 (e ∙ chain.0)

-- the same chain where its links are as they were
pub chain_kept : (after before after' before' : ℕ → ℕ) (start : ℕ) (xs : List ℕ) (end : ℕ) (p q k : ℕ) → IsChain after before start xs end
    → ((j : ℕ) → j ≢ p → j ≢ k → after' j ≡ after j) → ((j : ℕ) → j ≢ q → j ≢ k → before' j ≡ before j)
    → p ≢ start → k ≢ start → IsNoneOf p xs → IsNoneOf k xs → IsNoneOf q xs → q ≢ end → k ≢ end → IsChain after' before' start xs end
chain_kept after before after' before' start [] end p q k chain same same' ps ks px kx qx qe ke =
    (same start (λ e. ps (sym e)) (λ e. ks (sym e)) ∙ chain.0, same' end (λ e. qe (sym e)) (λ e. ke (sym e)) ∙ chain.1)
chain_kept after before after' before' start (x ∷ xs) end p q k chain same same' ps ks px kx qx qe ke = (
  same start (λ e. ps (sym e)) (λ e. ks (sym e)) ∙ chain.0,
  same' x (λ e. qx.0 (sym e)) (λ e. kx.0 (sym e)) ∙ chain.1,
  chain_kept after before after' before' x xs end p q k chain.2 same same' px.0 kx.0 px.1 kx.1 qx.1 qe ke,
)

-- ---- a number enters before the end

pub chain_entered : (after before after' before' : ℕ → ℕ) (start : ℕ) (xs : List ℕ) (end k : ℕ) → IsChain after before start xs end
    → ((j : ℕ) → j ≢ before end → j ≢ k → after' j ≡ after j) → ((j : ℕ) → j ≢ end → j ≢ k → before' j ≡ before j)
    → after' (before end) ≡ k → after' k ≡ end → before' k ≡ before end → before' end ≡ k
    → IsNoneOf start xs → AreOnce xs → k ≢ start → IsNoneOf k xs → IsNoneOf end xs → IsChain after' before' start (xs ++ k ∷ []) end
chain_entered after before after' before' start [] end k chain same same' last here back tail own once apart none far =
    (ap after' (sym chain.1) ∙ last, back ∙ chain.1, (here, tail))
chain_entered after before after' before' start (x ∷ xs) end k chain same same' last here back tail own once apart none far = (
  same start (apart_from_last after before x xs end start chain.2 own.0 own.1) (λ e. apart (sym e)) ∙ chain.0,
  same' x (λ e. far.0 (sym e)) (λ e. none.0 (sym e)) ∙ chain.1,
  chain_entered after before after' before' x xs end k chain.2 same same' last here back tail once.0 once.1 none.0 none.1 far.1,
)

-- ---- a number leaves from between two others

chain_closed : (after before after' before' : ℕ → ℕ) (start k : ℕ) (ys : List ℕ) (end : ℕ) → after start ≡ k → before k ≡ start → IsChain after before k ys end
    → ((j : ℕ) → j ≢ before k → j ≢ k → after' j ≡ after j) → ((j : ℕ) → j ≢ after k → j ≢ k → before' j ≡ before j)
    → after' (before k) ≡ after k → before' (after k) ≡ before k
    → IsNoneOf start ys → AreOnce ys → IsNoneOf k ys → IsNoneOf end ys → k ≢ end → IsChain after' before' start ys end
chain_closed after before after' before' start k [] end to from chain same same' over back own once none far apart =
    (ap after' (sym from) ∙ over ∙ chain.0, ap before' (sym chain.0) ∙ back ∙ from)
chain_closed after before after' before' start k (y ∷ ys) end to from chain same same' over back own once none far apart = (
  ap after' (sym from) ∙ over ∙ chain.0,
  ap before' (sym chain.0) ∙ back ∙ from,
  chain_kept after before after' before' y ys end start y k chain.2
      (λ j ne ne'. same j (λ e. ne (e ∙ from)) ne')
      (λ j ne ne'. same' j (λ e. ne (e ∙ chain.0)) ne')
      own.0 none.0 own.1 none.1 once.0 (λ e. far.0 (sym e)) apart,
)

pub chain_left :
    (after before after' before' : ℕ → ℕ) (start : ℕ) (xs : List ℕ) (k : ℕ) (ys : List ℕ) (end : ℕ) → IsChain after before start xs k
    → IsChain after before k ys end
    → ((j : ℕ) → j ≢ before k → j ≢ k → after' j ≡ after j) → ((j : ℕ) → j ≢ after k → j ≢ k → before' j ≡ before j)
    → after' (before k) ≡ after k → before' (after k) ≡ before k
    → IsNoneOf start (xs ++ k ∷ ys) → AreOnce (xs ++ k ∷ ys) → IsNoneOf end (xs ++ k ∷ ys) → IsChain after' before' start (xs ++ ys) end
chain_left after before after' before' start [] k ys end front back' same same' over back own once far =
    chain_closed after before after' before' start k ys end front.0 front.1 back' same same' over back own.1 once.1 once.0 far.1 (λ e. far.0 (sym e))
chain_left after before after' before' start (x ∷ xs) k ys end front back' same same' over back own once far = (
  same start (apart_from_last after before x xs k start front.2 own.0 (none_left start xs (k ∷ ys) own.1)) (none_right start xs (k ∷ ys) own.1).0 ∙ front.0,
  same' x (apart_from_first after before k ys end x back' (λ e. far.0 (sym e)) (none_right x xs (k ∷ ys) once.0).1) (none_right x xs (k ∷ ys) once.0).0
      ∙ front.1,
  chain_left after before after' before' x xs k ys end front.2 back' same same' over back once.0 once.1 far.1,
)
