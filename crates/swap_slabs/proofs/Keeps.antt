-- Each move keeps what a table of slabs is.
use Rattle.std.proofs.Common.{◌≡◌, ℕ, ◌+◌, ◌-◌, ◌<◌, ◌≤◌, true, false, ◌==◌, List, length, refl, sym, ap, subst, arith, Some, ⊎_elim, length-set, get_or-set_same, get_or-set_other}
use Rattle.std.proofs.lemmas.Bool.{cases_Bool, cond-true, cond-false, false≢true, eqb-false}
use Rattle.swap_base.specs.declared.Slab.{Slab}
use Rattle.swap_base.specs.declared.Lender.{Lender}
use Rattle.swap_base.specs.declared.Lease.{Lease}
use Rattle.swap_slabs.specs.declared.Reply.{Reply}
use Rattle.swap_slabs.specs.declared.Pair.{Pair}
use Rattle.swap_slabs.specs.declared.SlabState.{SlabState}
use Rattle.swap_slabs.specs.declared.SlabState.TheVariants.{Local, Asking, Borrowing, Mapped, Draining}
use Rattle.swap_base.specs.declared.TheConstants.{MOST_LENDERS, MOST_WINDOW}
use Rattle.swap_slabs.specs.Slabs.{state_of, with_state, is_borrowing, waits, with_reply, answered_state, after_answer, after_lent, after_begin, after_settled, after_evict, drain_to, flying_of, leased_of}
use Rattle.swap_slabs.specs.Kept.{StateFits, IsSlabs, IsNew, SetsState, AllLocalKeeps, AskKeeps, AnswerKeeps, BorrowKeeps, LentKeeps, RefusedKeeps, BeginKeeps, SettledKeeps, EvictKeeps, LostKeeps}
use Rattle.swap_slabs.proofs.Moves.{slabs_none, slabs_same, lent_slabs, replied_fits}
use Rattle.swap_slabs.proofs.Lost.{local_slabs, lost_slabs}

pub sets_state : SetsState
sets_state states slab state lt =
    (get_or-set_same states slab.0 state Local lt, λ other ne. get_or-set_other states slab.0 other.0 state Local ne, length-set states slab.0 state)

pub all_local_keeps : AllLocalKeeps
all_local_keeps slabs = local_slabs slabs

pub ask_keeps : AskKeeps
ask_keeps states slab first second h lt within other = slabs_none states slab _ lt h (within, other, refl) refl

-- a change that leaves a slab's state to its cases
module _ (states : List SlabState) (slab : Slab) (h : IsSlabs states) (lt : slab.0 < length states) where
  same_or : (st : SlabState) → StateFits st → leased_of st ≡ leased_of (state_of states slab) → IsSlabs (with_state states slab st)
  same_or st fits e = slabs_same states slab st lt h fits e

  by_case :
      (f : SlabState → SlabState) → ((s : SlabState) → state_of states slab ≡ s → IsSlabs (with_state states slab (f s)))
      → IsSlabs (with_state states slab (f (state_of states slab)))
  by_case f each = each (state_of states slab) refl

  fits_of : (s : SlabState) → state_of states slab ≡ s → StateFits s
  fits_of s e = subst StateFits e (h.fits slab)

  keep : (s : SlabState) → state_of states slab ≡ s → IsSlabs (with_state states slab s)
  keep s e = same_or s (fits_of s e) (sym (ap leased_of e))

  answer_of :
      (l : Lender) (reply : Reply) (pair : Pair) → state_of states slab ≡ Asking pair
      → IsSlabs (with_state states slab (answered_state (with_reply pair l reply)))
  answer_of l reply pair e =
      ⊎_elim
      (λ (t : waits (with_reply pair l reply) ≡ true).
      subst (λ s. IsSlabs (with_state states slab s)) (sym (cond-true (waits (with_reply pair l reply)) (Asking (with_reply pair l reply)) Local t))
      (slabs_none states slab (Asking (with_reply pair l reply)) lt h (replied_fits pair l reply (fits_of (Asking pair) e) t) refl))
      (λ (t : waits (with_reply pair l reply) ≡ false).
      subst (λ s. IsSlabs (with_state states slab s)) (sym (cond-false (waits (with_reply pair l reply)) (Asking (with_reply pair l reply)) Local t))
      (slabs_none states slab Local lt h tt refl))
      (cases_Bool (waits (with_reply pair l reply)))

  answer_case : (l : Lender) (reply : Reply) (s : SlabState) → state_of states slab ≡ s → IsSlabs (with_state states slab (after_answer s l reply))
  answer_case l reply Local e = keep Local e
  answer_case l reply (Asking pair) e = answer_of l reply pair e
  answer_case l reply (Borrowing o) e = keep (Borrowing o) e
  answer_case l reply (Mapped o k n) e = keep (Mapped o k n) e
  answer_case l reply (Draining o k n) e = keep (Draining o k n) e

  lent_case :
      (k : Lease) (s : SlabState) → state_of states slab ≡ s → is_borrowing s ≡ true → IsNew states s k → IsSlabs (with_state states slab (after_lent s k))
  lent_case k Local e b new = absurd (false≢true b)
  lent_case k (Asking pair) e b new = absurd (false≢true b)
  lent_case k (Borrowing o) e b new = lent_slabs states slab o k lt h (fits_of (Borrowing o) e) new
  lent_case k (Mapped o j n) e b new = absurd (false≢true b)
  lent_case k (Draining o j n) e b new = absurd (false≢true b)

  begin_case : (s : SlabState) → state_of states slab ≡ s → flying_of s < MOST_WINDOW → IsSlabs (with_state states slab (after_begin s))
  begin_case Local e less = keep Local e
  begin_case (Asking pair) e less = keep (Asking pair) e
  begin_case (Borrowing o) e less = keep (Borrowing o) e
  begin_case (Mapped o k n) e less = same_or (Mapped o k (n + 1)) ((fits_of (Mapped o k n) e).0, omega (arith, less)) (sym (ap leased_of e))
  begin_case (Draining o k n) e less = keep (Draining o k n) e

  drained_keeps :
      (o : Lender) (k : Lease) (n : ℕ) → leased_of (state_of states slab) ≡ Some (o, k) → o.0 < MOST_LENDERS → n ≤ MOST_WINDOW
      → IsSlabs (with_state states slab (drain_to o k n))
  drained_keeps o k n e within le =
      ⊎_elim
      (λ (t : (n == 0) ≡ true).
      subst (λ s. IsSlabs (with_state states slab s)) (sym (cond-true (n == 0) Local (Draining o k n) t)) (slabs_none states slab Local lt h tt refl))
      (λ (t : (n == 0) ≡ false).
      subst (λ s. IsSlabs (with_state states slab s)) (sym (cond-false (n == 0) Local (Draining o k n) t))
      (same_or (Draining o k n) (within, omega (arith, eqb-false n 0 t), le) (sym e)))
      (cases_Bool (n == 0))

  settled_case : (s : SlabState) → state_of states slab ≡ s → IsSlabs (with_state states slab (after_settled s))
  settled_case Local e = keep Local e
  settled_case (Asking pair) e = keep (Asking pair) e
  settled_case (Borrowing o) e = keep (Borrowing o) e
  settled_case (Mapped o k n) e = let fits = fits_of (Mapped o k n) e in same_or (Mapped o k (n - 1)) (fits.0, omega (arith, fits.1)) (sym (ap leased_of e))
  settled_case (Draining o k n) e = let fits = fits_of (Draining o k n) e in drained_keeps o k (n - 1) (ap leased_of e) fits.0 (omega (arith, fits.2))

  evict_case : (s : SlabState) → state_of states slab ≡ s → IsSlabs (with_state states slab (after_evict s))
  evict_case Local e = keep Local e
  evict_case (Asking pair) e = keep (Asking pair) e
  evict_case (Borrowing o) e = keep (Borrowing o) e
  evict_case (Mapped o k n) e = let fits = fits_of (Mapped o k n) e in drained_keeps o k n (ap leased_of e) fits.0 fits.1
  evict_case (Draining o k n) e = keep (Draining o k n) e

pub answer_keeps : AnswerKeeps
answer_keeps states slab lender reply h lt a = answer_case states slab h lt lender reply (state_of states slab) refl

pub borrow_keeps : BorrowKeeps
borrow_keeps states slab lender h lt within = slabs_none states slab _ lt h within refl

pub lent_keeps : LentKeeps
lent_keeps states slab lease h lt b new = lent_case states slab h lt lease (state_of states slab) refl b new

pub refused_keeps : RefusedKeeps
refused_keeps states slab h lt = slabs_none states slab Local lt h tt refl

pub begin_keeps : BeginKeeps
begin_keeps states slab h lt less = begin_case states slab h lt (state_of states slab) refl less

pub settled_keeps : SettledKeeps
settled_keeps states slab h lt = settled_case states slab h lt (state_of states slab) refl

pub evict_keeps : EvictKeeps
evict_keeps states slab h lt = evict_case states slab h lt (state_of states slab) refl

pub lost_keeps : LostKeeps
lost_keeps states lender h = lost_slabs lender states h
