-- What the passes of all seats show, when they are back.
use Rattle.std.proofs.Common.{◌≡◌, ◌+◌, ◌<◌, ℕ, zero, suc, Bool, true, List, [], length, map, get_or, refl, sym, ap, ◌∙◌, subst, arith}
use Rattle.std.specs.Prelude.{All, slice_index_or}
use Rattle.std.proofs.lemmas.List.{get_or-map, length-map}
use Rattle.std.proofs.lemmas.List.Elements.{All-map}
use Rattle.swap_base.specs.Sizes.{Sizes}
use Rattle.swap_record.specs.History.{History}
use Rattle.swap_script.specs.Reading.{Script}
use Rattle.swap_trace.specs.Traces.{calls_in}
use Rattle.swap_turn.specs.Turns.{entries_of, numbers_from}
use Rattle.swap_turn.specs.PassView.{LockId, PassView, IsFreeOf, pass_at_start}
use Rattle.swap_play.specs.Callers.{Plays, IsOver, AreSeats, HavePlayed, caller}

pub length_numbers : (a n : ℕ) → length (numbers_from a n) ≡ n
length_numbers a zero = refl
length_numbers a (suc n) = ap suc (length_numbers (suc a) n)

number_at : (a n i d : ℕ) → i < n → get_or (numbers_from a n) i d ≡ a + i
number_at a zero i d less = absurd (omega (arith, less))
number_at a (suc n) zero d less = let none : a ≡ a + 0 = omega arith in none
number_at a (suc n) (suc i) d less = let later = number_at (suc a) n i d (omega (arith, less)) in let same : suc a + i ≡ a + suc i = omega arith in later ∙ same

pub seat_count : (lock : LockId) (s : Sizes) (lenders : ℕ) (ps : List PassView) → AreSeats lock s lenders ps → length ps ≡ s.callers + lenders + 2
seat_count lock s lenders ps seats =
    ap length seats.newcomers ∙ length-map (numbers_from 0 (s.callers + lenders + 2)) (pass_at_start lock []) ∙ length_numbers 0 (s.callers + lenders + 2)

pub seat_at :
    (lock : LockId) (s : Sizes) (lenders : ℕ) (ps : List PassView) (i : ℕ) (d : PassView) → AreSeats lock s lenders ps → i < s.callers + lenders + 2
    → slice_index_or ps i d ≡ pass_at_start lock [] i
seat_at lock s lenders ps i d seats less =
    let count = s.callers + lenders + 2 in
    let len : length (numbers_from 0 count) ≡ count = length_numbers 0 count in
    let zero_more : 0 + i ≡ i = omega arith in
    ap (λ l. slice_index_or l i d) seats.newcomers
    ∙ get_or-map (pass_at_start lock []) (numbers_from 0 count) i 0 d (omega (arith, less, len))
    ∙ ap (pass_at_start lock []) (number_at 0 count i 0 less ∙ zero_more)

-- each seat has a number of its own below their count
pub seats_in :
    (lock : LockId) (s : Sizes) (lenders : ℕ) (ps : List PassView) → AreSeats lock s lenders ps
    → All (λ (p : PassView). IsFreeOf lock p × (p.number < s.callers + lenders + 2)) ps
seats_in lock s lenders ps seats k d less =
    let len = seat_count lock s lenders ps seats in
    let below : k < s.callers + lenders + 2 = omega (arith, less, len) in
    (seats.free k d less, subst (λ n. n < s.callers + lenders + 2) (sym (ap (λ (p : PassView). p.number) (seat_at lock s lenders ps k d seats below))) below)

abbrev pub Each : LockId → Script → List PassView → List (PassView × Bool) → Type 0
Each lock t ps overs = (i : ℕ) (d : PassView × Bool) (e : PassView) → i < length ps → IsOver lock t (slice_index_or ps i e) (slice_index_or overs i d)

pub backs_free :
    (lock : LockId) (t : Script) (ps : List PassView) (overs : List (PassView × Bool)) → length overs ≡ length ps → Each lock t ps overs
    → All (IsFreeOf lock) (map (λ (o : PassView × Bool). o.0) overs)
backs_free lock t ps overs len each = All-map (IsFreeOf lock) (λ (o : PassView × Bool). o.0) overs (λ k d less. (each k d d.0 (omega (arith, less, len))).free)

pub have_played :
    (lock : LockId) (s : Sizes) (lenders : ℕ) (t : Script) (ps : List PassView) (overs : List (PassView × Bool)) (H : History) → t.sizes ≡ s
    → AreSeats lock s lenders ps → length overs ≡ length ps → Each lock t ps overs
    → All (λ (o : PassView × Bool). o.1 ≡ true) overs → All (λ (p : PassView). p.mine ≡ entries_of p.number H) (map (λ (o : PassView × Bool). o.0) overs)
    → HavePlayed t H
have_played lock s lenders t ps overs H same seats len each done mine c within =
    let e : PassView = pass_at_start lock [] 0 in
    let d : PassView × Bool = (e, true) in
    let callers : t.sizes.callers ≡ s.callers = ap (λ (x : Sizes). x.callers) same in
    let below : c.0 < s.callers + lenders + 2 = omega (arith, within, callers) in
    let count = seat_count lock s lenders ps seats in
    let there : c.0 < length ps = omega (arith, below, count) in
    let back : c.0 < length overs = omega (arith, there, len) in
    let p : PassView = slice_index_or ps c.0 e in
    let o : PassView × Bool = slice_index_or overs c.0 d in
    let over : IsOver lock t p o = each c.0 d e there in
    let is : p ≡ pass_at_start lock [] c.0 = seat_at lock s lenders ps c.0 e seats below in
    let number : p.number ≡ c.0 = ap (λ (x : PassView). x.number) is in
    let none : p.mine ≡ [] = ap (λ (x : PassView). x.mine) is in
    let plays : Plays (calls_in (caller p.number) t).inputs p.mine o.0.mine =
    over.plays (done c.0 d back) (subst (λ n. n < t.sizes.callers) (sym number) within) in
    let long : c.0 < length (map (λ (x : PassView × Bool). x.0) overs) = let l = length-map overs (λ (x : PassView × Bool). x.0) in omega (arith, back, l) in
    let at : slice_index_or (map (λ (x : PassView × Bool). x.0) overs) c.0 e ≡ o.0 = get_or-map (λ (x : PassView × Bool). x.0) overs c.0 d e back in
    let P : PassView → Type 0 = λ x. x.mine ≡ entries_of x.number H in
    let own : o.0.mine ≡ entries_of o.0.number H = subst P at (mine c.0 e long) in
    let entries : o.0.mine ≡ entries_of c.0 H = own ∙ ap (λ m. entries_of m H) (over.number ∙ number) in
    let Q : ℕ → Type 0 = λ m. Plays (calls_in (caller m) t).inputs p.mine o.0.mine in
    let R : History → Type 0 = λ before. Plays (calls_in c t).inputs before o.0.mine in
    let S : History → Type 0 = λ now. Plays (calls_in c t).inputs [] now in
    subst S entries (subst R none (subst Q number plays))
