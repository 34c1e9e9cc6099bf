-- What each thing that may happen to a lane leaves of what was sent on it and what was taken.
use Rattle.std.proofs.Common.{◌≡◌, ℕ, Bool, true, false, subst, List, [], ◌∷◌, ◌++◌, take, drop, length, refl, sym, ap, ◌∙◌, append_assoc, append-nil, take-append-drop}
use Rattle.std.specs.Prelude.{nat_lt, ◌==◌, if◌then◌else◌}
use Rattle.std.proofs.lemmas.Bool.{cond_both, both_ways}
use Rattle.swap_base.specs.declared.Link.{Link}
use Rattle.swap_wire.specs.Fabric.{Parcel, parcel_of}
use Rattle.swap_link.specs.Lane.{Lane, append_after, end_lane, cut}
use Rattle.swap_link.specs.Channel.{post_after, forward_after}
use Rattle.swap_prefix.specs.Calls.{on_link}
use Rattle.swap_prefix.specs.Laws.{Carries}

-- nothing was sent on a lane with nothing under way
pub carries_none : (a : Lane) → a.parcels ≡ [] → Carries a [] []
carries_none a e = record { dropped = []; in_three = ap (λ ps. ps ++ []) (sym e); whole = λ _. refl }

pub sent_as_was : (a : Lane) (s t : List Parcel) → Carries a s t → Carries a (s ++ []) t
sent_as_was a s t h = record { dropped = h.dropped; in_three = append-nil s ∙ h.in_three; whole = h.whole }

pub taken_as_was : (a : Lane) (s t : List Parcel) → Carries a s t → Carries a s (t ++ [])
taken_as_was a s t h = record { dropped = h.dropped; in_three = h.in_three ∙ ap (λ z. z ++ (a.parcels ++ h.dropped)) (sym (append-nil t)); whole = h.whole }

pub as_was : (a : Lane) (s t : List Parcel) → Carries a s t → Carries a (s ++ []) (t ++ [])
as_was a s t h = taken_as_was a (s ++ []) t (sent_as_was a s t h)

-- it ends, or is cut
pub carries_ended : (a : Lane) (s t : List Parcel) → Carries a s t → Carries (end_lane a) s t
carries_ended a s t h = record { dropped = h.dropped; in_three = h.in_three; whole = λ e. cc }

pub carries_cut : (n : ℕ) (a : Lane) (s t : List Parcel) → Carries a s t → Carries (cut a n) s t
carries_cut n a s t h = record {
  dropped = drop n a.parcels ++ h.dropped;
  in_three = h.in_three ∙ ap (λ z. t ++ (z ++ h.dropped)) (sym (take-append-drop n a.parcels))
      ∙ ap (λ z. t ++ z) (append_assoc (take n a.parcels) (drop n a.parcels) h.dropped);
  whole = λ e. cc;
}

-- a message is appended where the lane hasn't ended and has room; else it is dropped, and the lane has ended
pub carries_append : (q : Parcel) (a : Lane) (s t : List Parcel) → Carries a s t → Carries (append_after a q) (s ++ q ∷ []) t
carries_append q a s t h =
    cond_both a.ended _ _ Q (λ e. lost a refl e)
    (λ e. cond_both (nat_lt (length a.parcels) a.room) _ _ Q (λ _. more e) (λ _. lost (record a { ended = true }) refl refl))
  where
    Q : Lane → Type 0
    Q z = Carries z (s ++ q ∷ []) t

    one_more : s ++ q ∷ [] ≡ t ++ (a.parcels ++ (h.dropped ++ q ∷ []))
    one_more =
        ap (λ z. z ++ q ∷ []) h.in_three ∙ append_assoc t (a.parcels ++ h.dropped) (q ∷ []) ∙ ap (λ z. t ++ z) (append_assoc a.parcels h.dropped (q ∷ []))

    lost : (z : Lane) → z.parcels ≡ a.parcels → z.ended ≡ true → Q z
    lost z same over = record {
      dropped = h.dropped ++ q ∷ [];
      in_three = one_more ∙ ap (λ ps. t ++ (ps ++ (h.dropped ++ q ∷ []))) (sym same);
      whole = λ e. absurd (both_ways z.ended e over);
    }

    more : a.ended ≡ false → Q (record a { parcels = a.parcels ++ q ∷ [] })
    more e = record {
      dropped = [];
      in_three = one_more ∙ ap (λ ds. t ++ (a.parcels ++ (ds ++ q ∷ []))) (h.whole e) ∙ ap (λ z. t ++ z) (sym (append-nil (a.parcels ++ q ∷ [])));
      whole = λ _. refl;
    }

-- the first message is taken
pub carries_taken : (p : Parcel) (ps : List Parcel) (a : Lane) (s t : List Parcel) → a.parcels ≡ p ∷ ps → Carries a s t
    → Carries (record a { parcels = ps }) s (t ++ p ∷ [])
carries_taken p ps a s t e h = record {
  dropped = h.dropped;
  in_three = h.in_three ∙ ap (λ z. t ++ (z ++ h.dropped)) e ∙ sym (append_assoc t (p ∷ []) (ps ++ h.dropped));
  whole = h.whole;
}

-- what a lender sends is appended, where it is for this link
abbrev mine : Link → Link × Parcel → List Parcel
mine n q = if q.0.0 == n.0 then parcel_of q.1.msg q.1.page ∷ [] else []

carries_posted : (n : Link) (q : Link × Parcel) (a : Lane) (s t : List Parcel) → Carries a s t
    → Carries (post_after n a q.0 (parcel_of q.1.msg q.1.page)) (s ++ mine n q) t
carries_posted n q a s t h = both (q.0.0 == n.0)
  where
    one : Parcel
    one = parcel_of q.1.msg q.1.page

    both : (b : Bool) → Carries (if b then append_after a one else a) (s ++ (if b then one ∷ [] else [])) t
    both true = carries_append one a s t h
    both false = sent_as_was a s t h

pub carries_forwarded : (n : Link) (qs : List (Link × Parcel)) (a : Lane) (s t : List Parcel) → Carries a s t
    → Carries (forward_after n a qs) (s ++ on_link n qs) t
carries_forwarded n [] a s t h = sent_as_was a s t h
carries_forwarded n (q ∷ qs) a s t h =
    let next : Lane = post_after n a q.0 (parcel_of q.1.msg q.1.page) in
    let P : List Parcel → Type 0 = λ z. Carries (forward_after n next qs) z t in
    subst P (append_assoc s (mine n q) (on_link n qs)) (carries_forwarded n qs next (s ++ mine n q) t (carries_posted n q a s t h))
