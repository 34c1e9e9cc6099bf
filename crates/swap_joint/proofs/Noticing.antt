-- Which notices a lender adds, and that it names each lease once.
use Rattle.std.proofs.Common.{◌≡◌, ℕ, ◌+◌, ◌⊎◌, inl, inr, Bool, true, false, ◌==◌, suc, List, [], ◌∷◌, refl, sym, ap, ◌∙◌, subst, arith}
use Rattle.std.specs.List.{list_any}
use Rattle.std.proofs.lemmas.Bool.{cond_both, both_ways, false_from_ne_true}
use Rattle.swap_base.specs.declared.Slab.{Slab}
use Rattle.swap_base.specs.declared.Link.{Link}
use Rattle.swap_base.specs.declared.Lease.{Lease}
use Rattle.swap_wire.specs.declared.Msg.{Msg}
use Rattle.swap_wire.specs.Fabric.{Parcel, parcel_of}
use Rattle.swap_choice.specs.Slots.{has}
use Rattle.swap_lender.specs.declared.SlotState.{SlotState}
use Rattle.swap_lender.specs.declared.SlotState.TheVariants.{Free, Held}
use Rattle.swap_lender.specs.declared.Notice.{Notice}
use Rattle.swap_lender.specs.Lender.{slot_in}
use Rattle.swap_lender.specs.Table.{message_of, tell_slot, parcels_told}
use Rattle.swap_link.specs.Lane.{Lane}
use Rattle.swap_link.specs.Channel.{post_after, forward_after}
use Rattle.swap_joint.specs.Allowed.{NamedOnce}
use Rattle.swap_joint.proofs.InTurn.{Differ, forwarded_both, differ_rest}
use Rattle.swap_joint.proofs.Lanes.{by_append}
use Rattle.swap_joint.proofs.Turns.{any_last}
use Rattle.swap_joint.proofs.Allowed.{named_last}

abbrev pub Named : (Msg → Bool) → List Parcel → Bool
Named test ps = list_any (λ (q : Parcel). test q.msg) ps

-- one notice more, or none
posted_named :
    (test : Msg → Bool) (n link : Link) (b : Lane) (q : Parcel) → Named test (post_after n b link q).parcels ≡ true
    → (Named test b.parcels ≡ true) ⊎ (test q.msg ≡ true)
posted_named test n link b q =
    cond_both (link.0 == n.0) _ _ (λ (z : Lane). Named test z.parcels ≡ true → (Named test b.parcels ≡ true) ⊎ (test q.msg ≡ true))
    (λ _.
    by_append (λ z. Named test z.parcels ≡ true → (Named test b.parcels ≡ true) ⊎ (test q.msg ≡ true)) b q (λ _ e. inl e)
    (λ _. any_last (λ (q : Parcel). test q.msg) b.parcels q) (λ _ e. inl e))
    (λ _ e. inl e)

-- a notice about a held slot of the set
pub record IsNotified (kind : Notice) (test : Msg → Bool) (set from : ℕ) (slots : List SlotState) : Type 0 where
  pub at : ℕ
  pub link : Link
  pub slab : Slab
  pub lease : Lease
  pub told_before : Bool
  pub inside : has set (from + at) ≡ true
  pub held : slot_in slots at ≡ Held link slab lease told_before
  pub passes : test (message_of kind lease) ≡ true

later :
    (kind : Notice) (test : Msg → Bool) (set from : ℕ) (s : SlotState) (ss : List SlotState) → IsNotified kind test set (from + 1) ss
    → IsNotified kind test set from (s ∷ ss)
later kind test set from s ss h =
    record {
      at = suc h.at;
      link = h.link;
      slab = h.slab;
      lease = h.lease;
      told_before = h.told_before;
      inside = subst (λ m. has set m ≡ true) (omega arith) h.inside;
      held = h.held;
      passes = h.passes;
    }

pub told_named :
    (kind : Notice) (test : Msg → Bool) (n : Link) (set from : ℕ) (slots : List SlotState) (b : Lane)
    → Named test (forward_after n b (parcels_told kind set from slots)).parcels ≡ true → (Named test b.parcels ≡ true) ⊎ IsNotified kind test set from slots
told_named kind test n set from [] b e = inl e
told_named kind test n set from (s ∷ ss) b e =
    go (has set from) refl s refl
    (subst (λ (z : Lane). Named test z.parcels ≡ true) (forwarded_both n b (tell_slot kind (has set from) s) (parcels_told kind set (from + 1) ss)) e)
    (told_named kind test n set (from + 1) ss)
  where
    go :
        (in_set : Bool) → has set from ≡ in_set → (x : SlotState) → s ≡ x
        → Named test (forward_after n (forward_after n b (tell_slot kind in_set x)) (parcels_told kind set (from + 1) ss)).parcels ≡ true
        → ((c : Lane) → Named test (forward_after n c (parcels_told kind set (from + 1) ss)).parcels ≡ true
        → (Named test c.parcels ≡ true) ⊎ IsNotified kind test set (from + 1) ss)
        → (Named test b.parcels ≡ true) ⊎ IsNotified kind test set from (s ∷ ss)
    go false out x is e more = elim (more b e) [ inl was ↦ inl was | inr new ↦ inr (later kind test set from s ss new) ]
    go true inside Free is e more = elim (more b e) [ inl was ↦ inl was | inr new ↦ inr (later kind test set from s ss new) ]
    go true inside (Held m t k told_) is e more =
        let q : Parcel = parcel_of (message_of kind k) (parcel_of (message_of kind k) []).page in
        elim (more (post_after n b m q) e) [
          | inl here ↦ elim (posted_named test n m b q here) [
            | inl was ↦ inl was
            | inr one ↦
                inr
                (record {
                  at = 0;
                  link = m;
                  slab = t;
                  lease = k;
                  told_before = told_;
                  inside = subst (λ i. has set i ≡ true) (omega arith) inside;
                  held = is;
                  passes = one;
                })
          ]
          | inr new ↦ inr (later kind test set from s ss new)
        ]

-- each lease is named once, where the notices name none of those before
pub told_once :
    (kind : Notice) (names : Lease → Msg → Bool) (n : Link) (set from : ℕ) (slots : List SlotState) (b : Lane)
    → ((k j : Lease) → names k (message_of kind j) ≡ true → j.0 ≡ k.0) → Differ slots → NamedOnce names b.parcels
    → ((i : ℕ) (m : Link) (t : Slab) (j : Lease) (e : Bool) (k : Lease) → has set (from + i) ≡ true → slot_in slots i ≡ Held m t j e → j.0 ≡ k.0
    → Named (λ m. names k m) b.parcels ≡ false)
    → NamedOnce names (forward_after n b (parcels_told kind set from slots)).parcels
told_once kind names n set from [] b tells differ once other = once
told_once kind names n set from (s ∷ ss) b tells differ once other =
    subst (λ (z : Lane). NamedOnce names z.parcels) (sym (forwarded_both n b (tell_slot kind (has set from) s) (parcels_told kind set (from + 1) ss)))
    (go (has set from) refl s refl (λ c. told_once kind names n set (from + 1) ss c tells (differ_rest s ss differ)))
  where
    Other : Lane → Type 0
    Other c =
        (i : ℕ) (m : Link) (t : Slab) (j : Lease) (e : Bool) (k : Lease) → has set (from + 1 + i) ≡ true → slot_in ss i ≡ Held m t j e → j.0 ≡ k.0
        → Named (λ m. names k m) c.parcels ≡ false

    rest :
        (i : ℕ) (m : Link) (t : Slab) (j : Lease) (e : Bool) (k : Lease) → has set (from + 1 + i) ≡ true → slot_in ss i ≡ Held m t j e → j.0 ≡ k.0
        → Named (λ m. names k m) b.parcels ≡ false
    rest i m t j e k inside held same = other (suc i) m t j e k (subst (λ x. has set x ≡ true) (omega arith) inside) held same

    go : (in_set : Bool) → has set from ≡ in_set → (x : SlotState) → s ≡ x
        → ((c : Lane) → NamedOnce names c.parcels
        → ((i : ℕ) (m : Link) (t : Slab) (j : Lease) (e : Bool) (k : Lease) → has set (from + 1 + i) ≡ true → slot_in ss i ≡ Held m t j e → j.0 ≡ k.0
        → Named (λ m. names k m) c.parcels ≡ false)
        → NamedOnce names (forward_after n c (parcels_told kind set (from + 1) ss)).parcels)
        → NamedOnce names (forward_after n (forward_after n b (tell_slot kind in_set x)) (parcels_told kind set (from + 1) ss)).parcels
    go false out x is more = more b once rest
    go true inside Free is more = more b once rest
    go true inside (Held m t k e) is more =
        let q : Parcel = parcel_of (message_of kind k) (parcel_of (message_of kind k) []).page in
        more (post_after n b m q) (posted_once q refl)
        (λ i m' t' j e' k' inside' held same. false_from_ne_true _ (λ named. elim (posted_named (λ m. names k' m) n m b q named) [
          | inl was ↦ both_ways (Named (λ m. names k' m) b.parcels) (rest i m' t' j e' k' inside' held same) was
          | inr one ↦ (let here : 0 ≡ suc i = differ 0 (suc i) m m' t t' k j e e' is held (tells k' k one ∙ sym same) in absurd (omega (arith, here)))
        ]))
      where
        posted_once : (q : Parcel) → q.msg ≡ message_of kind k → NamedOnce names (post_after n b m q).parcels
        posted_once q same_q =
            cond_both (m.0 == n.0) _ _ (λ (z : Lane). NamedOnce names z.parcels)
            (λ _. by_append (λ z. NamedOnce names z.parcels) b q (λ _. once)
            (λ _. named_last names b.parcels q once (λ k' named. false_from_ne_true _ (λ one. both_ways (Named (λ m. names k' m) b.parcels)
            (other 0 m t k e k' (subst (λ i. has set i ≡ true) (omega arith) inside) is (tells k' k (sym (ap (λ r. names k' r) same_q) ∙ one))) named)))
            (λ _. once))
            (λ _. once)
