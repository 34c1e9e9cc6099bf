-- Lists of messages that may be taken one after another, and what a lender adds to them.
use Rattle.std.proofs.Common.{◌≡◌, ℕ, ◌+◌, ◌≤◌, ◌⊎◌, inl, inr, Bool, true, false, zero, suc, List, [], ◌∷◌, ◌++◌, take, get_or, set, refl, sym, ap, ◌∙◌, subst, arith, length, get_or-set_same, get_or-set_other}
use Rattle.std.specs.Prelude.{◌==◌}
use Rattle.std.proofs.lemmas.Bool.{cond_both, both_ways, cases_eq, cases_lt}
use Rattle.swap_base.specs.declared.Slab.{Slab}
use Rattle.swap_base.specs.declared.Link.{Link}
use Rattle.swap_base.specs.declared.Lease.{Lease}
use Rattle.swap_wire.specs.declared.Msg.{Msg}
use Rattle.swap_wire.specs.declared.Msg.TheVariants as msg
use Rattle.swap_wire.specs.Fabric.{Parcel, parcel_of}
use Rattle.swap_choice.specs.Slots.{has}
use Rattle.swap_lender.specs.declared.SlotState.{SlotState}
use Rattle.swap_lender.specs.declared.SlotState.TheVariants.{Free, Held}
use Rattle.swap_lender.specs.declared.Notice.TheVariants as notice
use Rattle.swap_lender.specs.Lender.{slot_in}
use Rattle.swap_lender.specs.Table.{tell_slot, parcels_told}
use Rattle.swap_link.specs.Lane.{Lane, append_after}
use Rattle.swap_link.specs.Channel.{post_after, forward_after}
use Rattle.swap_joint.specs.Order.{is_reply}
use Rattle.swap_joint.specs.Turn.{MayCome, Then, After, InTurn, Stays}
use Rattle.swap_joint.proofs.Lanes.{by_append}

-- more leases that map a slab

may_map : (M N : Lease → Type 0) (m : Msg) → ((k : Lease) → M k → N k) → MayCome M m → MayCome N m
may_map M N (msg.AskRates lease) each h = each lease h
may_map M N (msg.Evict lease) each h = each lease h
may_map M N (msg.Room slab free) each h = tt
may_map M N (msg.Lent slab lease) each h = tt
may_map M N (msg.Refused slab) each h = tt
may_map M N (msg.Wrote lease place) each h = tt
may_map M N (msg.PageIs lease place) each h = tt
may_map M N _ each h = h

then_map : (M N : Lease → Type 0) (m : Msg) → ((k : Lease) → M k → N k) → (k : Lease) → Then M m k → Then N m k
then_map M N (msg.Lent slab lease) each k (inl h) = inl (each k h)
then_map M N (msg.Lent slab lease) each k (inr h) = inr h
then_map M N (msg.Evict lease) each k h = (each k h.0, h.1)
then_map M N _ each k h = each k h

pub turn_map : (M N : Lease → Type 0) (ps : List Parcel) → ((k : Lease) → M k → N k) → InTurn M ps → InTurn N ps
turn_map M N [] each h = tt
turn_map M N (p ∷ ps) each h = (may_map M N p.msg each h.0, turn_map (λ j. Then M p.msg j) (λ j. Then N p.msg j) ps (λ k. then_map M N p.msg each k) h.1)

pub after_map : (M N : Lease → Type 0) (ps : List Parcel) → ((k : Lease) → M k → N k) → (k : Lease) → After M ps k → After N ps k
after_map M N [] each k h = each k h
after_map M N (p ∷ ps) each k h = after_map (λ j. Then M p.msg j) (λ j. Then N p.msg j) ps (λ k. then_map M N p.msg each k) k h

-- a message more, and a front

pub turn_last : (M : Lease → Type 0) (ps : List Parcel) (q : Parcel) → InTurn M ps → MayCome (λ k. After M ps k) q.msg → InTurn M (ps ++ q ∷ [])
turn_last M [] q h may = (may, tt)
turn_last M (p ∷ ps) q h may = (h.0, turn_last (λ j. Then M p.msg j) ps q h.1 may)

pub after_last : (M : Lease → Type 0) (ps : List Parcel) (q : Parcel) (k : Lease) → Then (λ j. After M ps j) q.msg k → After M (ps ++ q ∷ []) k
after_last M [] q k h = h
after_last M (p ∷ ps) q k h = after_last (λ j. Then M p.msg j) ps q k h

pub turn_take : (M : Lease → Type 0) (n : ℕ) (ps : List Parcel) → InTurn M ps → InTurn M (take n ps)
turn_take M zero ps h = tt
turn_take M (suc n) [] h = tt
turn_take M (suc n) (p ∷ ps) h = (h.0, turn_take (λ j. Then M p.msg j) n ps h.1)

-- what a message leaves that isn't an Evict of the lease
pub stays_by : (M : Lease → Type 0) (m : Msg) (k : Lease) → ((j : Lease) → m ≡ msg.Evict j → j.0 ≡ k.0 → ⊥) → M k → Then M m k
stays_by M (msg.Lent slab lease) k other h = inl h
stays_by M (msg.Evict lease) k other h = (h, other lease refl)
stays_by M _ k other h = h

-- a list with a message more, where the message may come
turn-append :
    (M : Lease → Type 0) (b : Lane) (q : Parcel) → InTurn M b.parcels → (b.ended ≡ false → MayCome (λ k. After M b.parcels k) q.msg)
    → InTurn M (append_after b q).parcels
turn-append M b q h may = by_append (λ z. InTurn M z.parcels) b q (λ _. h) (λ e. turn_last M b.parcels q h (may e)) (λ _. h)

after-append :
    (M : Lease → Type 0) (b : Lane) (q : Parcel) (k : Lease) → (b.ended ≡ false → Then (λ j. After M b.parcels j) q.msg k) → (append_after b q).ended ≡ false
    → After M (append_after b q).parcels k
after-append M b q k h =
    by_append (λ z. z.ended ≡ false → After M z.parcels k) b q (λ e f. absurd (both_ways b.ended f e)) (λ e _. after_last M b.parcels q k (h e))
    (λ _ f. absurd (both_ways true f refl))

-- a reply is appended

reply_comes : (M : Lease → Type 0) (m : Msg) → is_reply m ≡ true → MayCome M m
reply_comes M (msg.Room slab free) e = tt
reply_comes M (msg.Lent slab lease) e = tt
reply_comes M (msg.Refused slab) e = tt
reply_comes M (msg.Wrote lease place) e = tt
reply_comes M (msg.PageIs lease place) e = tt
reply_comes M _ e = cc

reply_stays : (m : Msg) (k j : Lease) → is_reply m ≡ true → m ≡ msg.Evict j → j.0 ≡ k.0 → ⊥
reply_stays m k j is e same = no (sym (ap is_reply e) ∙ is)
  where
    no : false ≡ true → ⊥
    no e = cc

pub turn_reply : (M : Lease → Type 0) (b : Lane) (q : Parcel) → is_reply q.msg ≡ true → InTurn M b.parcels → InTurn M (append_after b q).parcels
turn_reply M b q is h = turn-append M b q h (λ _. reply_comes (λ k. After M b.parcels k) q.msg is)

pub stays_reply : (M : Lease → Type 0) (slots : List SlotState) (b : Lane) (q : Parcel) → is_reply q.msg ≡ true → Stays M slots b
    → Stays M slots (append_after b q)
stays_reply M slots b q is h open_ i n t k held =
    after-append M b q k (λ e. stays_by (λ j. After M b.parcels j) q.msg k (λ j. reply_stays q.msg k j is) (h e i n t k held)) open_

-- a slot is lent by a lease that the reply names
pub stays_lent :
    (M : Lease → Type 0) (slots : List SlotState) (b : Lane) (q : Parcel) (j : ℕ) (m : Link) (u : Slab) (lease : Lease) → q.msg ≡ msg.Lent u lease
    → Stays M slots b → Stays M (set slots j (Held m u lease false)) (append_after b q)
stays_lent M slots b q j m u lease is h open_ i n t k held =
    after-append M b q k (λ e. let P : Msg → Type 0 = λ x. Then (λ j. After M b.parcels j) x k in subst P (sym is) (here e)) open_
  where
    lease_is : (m n : Link) (u t : Slab) (lease k : Lease) (a b : Bool) → Held m u lease a ≡ Held n t k b → lease.0 ≡ k.0
    lease_is m n u t lease k a b e = cc

    here : b.ended ≡ false → After M b.parcels k ⊎ (lease.0 ≡ k.0)
    here e = elim (cases_eq i j) [
      | inl same ↦ elim (cases_lt j (length slots)) [
        | inl within ↦
            inr
            (lease_is m n u t lease k false false
            (sym (get_or-set_same slots j (Held m u lease false) Free within) ∙ ap (λ x. get_or (set slots j (Held m u lease false)) x Free) (sym same)
            ∙ held))
        | inr past ↦ inl (h e i n t k (sym (unset slots j (Held m u lease false) past i) ∙ held))
      ]
      | inr other ↦ inl (h e i n t k (sym (get_or-set_other slots j i (Held m u lease false) Free other) ∙ held))
    ]
      where
        unset : (slots : List SlotState) (j : ℕ) (x : SlotState) → length slots ≤ j → (i : ℕ) → get_or (set slots j x) i Free ≡ get_or slots i Free
        unset [] j x past i = refl
        unset (s ∷ ss) zero x past i = absurd (omega (arith, past))
        unset (s ∷ ss) (suc j) x past zero = refl
        unset (s ∷ ss) (suc j) x past (suc i) = unset ss j x (omega (arith, past)) i

-- a slot is free
pub stays_free : (M : Lease → Type 0) (slots : List SlotState) (b : Lane) (j : ℕ) → Stays M slots b → Stays M (set slots j Free) b
stays_free M slots b j h open_ i n t k held = h open_ i n t k (was slots j i held)
  where
    was : (slots : List SlotState) (j i : ℕ) → get_or (set slots j Free) i Free ≡ Held n t k false → get_or slots i Free ≡ Held n t k false
    was [] j i e = e
    was (s ∷ ss) zero zero e = cc
    was (s ∷ ss) zero (suc i) e = e
    was (s ∷ ss) (suc j) zero e = e
    was (s ∷ ss) (suc j) (suc i) e = was ss j i e

-- notices

pub forwarded_both : (n : Link) (b : Lane) (xs ys : List (Link × Parcel)) → forward_after n b (xs ++ ys) ≡ forward_after n (forward_after n b xs) ys
forwarded_both n b [] ys = refl
forwarded_both n b (x ∷ xs) ys = forwarded_both n (post_after n b x.0 (parcel_of x.1.msg x.1.page)) xs ys

-- of the slots of a set from this number on, each held one has a lease that maps its slab once all is taken
abbrev pub Ready : (Lease → Type 0) → ℕ → ℕ → List SlotState → Lane → Type 0
Ready M set from slots b =
    b.ended ≡ false → (i : ℕ) (n : Link) (t : Slab) (k : Lease) (e : Bool) → has set (from + i) ≡ true → slot_in slots i ≡ Held n t k e → After M b.parcels k

abbrev pub Differ : List SlotState → Type 0
Differ slots =
    (i j : ℕ) (n m : Link) (t u : Slab) (k l : Lease) (e f : Bool) → slot_in slots i ≡ Held n t k e → slot_in slots j ≡ Held m u l f → k.0 ≡ l.0 → i ≡ j

ready_rest : (M : Lease → Type 0) (set from : ℕ) (s : SlotState) (ss : List SlotState) (b : Lane) → Ready M set from (s ∷ ss) b → Ready M set (from + 1) ss b
ready_rest M set from s ss b h open_ i n t k e is held = h open_ (suc i) n t k e (subst (λ m. has set m ≡ true) (omega arith) is) held

pub differ_rest : (s : SlotState) (ss : List SlotState) → Differ (s ∷ ss) → Differ ss
differ_rest s ss h i j n m t u k l e f a b same = let one : suc i ≡ suc j = h (suc i) (suc j) n m t u k l e f a b same in omega (arith, one)

-- the list with one notice more, or as it was
record One (M : Lease → Type 0) (b b' : Lane) (q : Parcel) : Type 0 where
  turn : InTurn M b.parcels → (b.ended ≡ false → MayCome (λ k. After M b.parcels k) q.msg) → InTurn M b'.parcels
  after : (k : Lease) → ((j : Lease) → q.msg ≡ msg.Evict j → j.0 ≡ k.0 → ⊥) → (b.ended ≡ false → After M b.parcels k) → b'.ended ≡ false → After M b'.parcels k
  open_ : b'.ended ≡ false → b.ended ≡ false

one_posted : (M : Lease → Type 0) (n link : Link) (b : Lane) (q : Parcel) → One M b (post_after n b link q) q
one_posted M n link b q =
    cond_both (link.0 == n.0) _ _ (λ z. One M b z q)
    (λ _. record {
      turn = λ h may. turn-append M b q h may;
      after = λ k other h. after-append M b q k (λ e. stays_by (λ j. After M b.parcels j) q.msg k other (h e));
      open_ = by_append (λ z. z.ended ≡ false → b.ended ≡ false) b q (λ e f. f) (λ e f. e) (λ e f. e);
    })
    (λ _. record { turn = λ h may. h; after = λ k other h. h; open_ = λ e. e })

lease_same : (n m : Link) (t u : Slab) (k j : Lease) (e f : Bool) → Held n t k e ≡ Held m u j f → k ≡ j
lease_same n m t u k j e f h = cc

pub asks_turn :
    (M : Lease → Type 0) (n : Link) (set from : ℕ) (slots : List SlotState) (b : Lane) → InTurn M b.parcels → Ready M set from slots b
    → InTurn M (forward_after n b (parcels_told notice.AskRates set from slots)).parcels
asks_turn M n set from [] b h ready_ = h
asks_turn M n set from (s ∷ ss) b h ready_ =
    subst (λ (z : Lane). InTurn M z.parcels) (sym (forwarded_both n b (tell_slot notice.AskRates (has set from) s) (parcels_told notice.AskRates set (from
    + 1) ss)))
    (go (has set from) refl s refl (asks_turn M n set (from + 1) ss))
  where
    go :
        (in_set : Bool) → has set from ≡ in_set → (x : SlotState) → s ≡ x
        → ((c : Lane) → InTurn M c.parcels → Ready M set (from + 1) ss c
        → InTurn M (forward_after n c (parcels_told notice.AskRates set (from + 1) ss)).parcels)
        → InTurn M (forward_after n (forward_after n b (tell_slot notice.AskRates in_set x)) (parcels_told notice.AskRates set (from + 1) ss)).parcels
    go false out x is more = more b h (ready_rest M set from s ss b ready_)
    go true in_set Free is more = more b h (ready_rest M set from s ss b ready_)
    go true in_set (Held m t k e) is more =
        let q : Parcel = parcel_of (msg.AskRates k) [] in
        let one = one_posted M n m b q in
        more (post_after n b m q) (one.turn h (λ open_. ready_ open_ 0 m t k e (subst (λ i. has set i ≡ true) (omega arith) in_set) is))
        (λ open_ i m' t' k' e' inside held.
        one.after k' (λ j evict same. (let no : msg.AskRates k ≡ msg.Evict j = evict in cc))
        (λ was. ready_rest M set from s ss b ready_ was i m' t' k' e' inside held) open_)

pub asks_after :
    (M : Lease → Type 0) (n : Link) (set from : ℕ) (slots : List SlotState) (b : Lane) (k : Lease) → (b.ended ≡ false → After M b.parcels k)
    → (forward_after n b (parcels_told notice.AskRates set from slots)).ended ≡ false
    → After M (forward_after n b (parcels_told notice.AskRates set from slots)).parcels k
asks_after M n set from [] b k h = h
asks_after M n set from (s ∷ ss) b k h =
    subst (λ (z : Lane). z.ended ≡ false → After M z.parcels k)
    (sym (forwarded_both n b (tell_slot notice.AskRates (has set from) s) (parcels_told notice.AskRates set (from + 1) ss)))
    (go (has set from) s (λ c. asks_after M n set (from + 1) ss c k))
  where
    go :
        (in_set : Bool) (x : SlotState)
        → ((c : Lane) → (c.ended ≡ false → After M c.parcels k) → (forward_after n c (parcels_told notice.AskRates set (from + 1) ss)).ended ≡ false
        → After M (forward_after n c (parcels_told notice.AskRates set (from + 1) ss)).parcels k)
        → (forward_after n (forward_after n b (tell_slot notice.AskRates in_set x)) (parcels_told notice.AskRates set (from + 1) ss)).ended ≡ false
        → After M (forward_after n (forward_after n b (tell_slot notice.AskRates in_set x)) (parcels_told notice.AskRates set (from + 1) ss)).parcels k
    go false x more = more b h
    go true Free more = more b h
    go true (Held m t j e) more =
        let q : Parcel = parcel_of (msg.AskRates j) [] in
        more (post_after n b m q) ((one_posted M n m b q).after k (λ i evict same. (let no : msg.AskRates j ≡ msg.Evict i = evict in cc)) h)

pub evicts_turn :
    (M : Lease → Type 0) (n : Link) (set from : ℕ) (slots : List SlotState) (b : Lane) → Differ slots → InTurn M b.parcels → Ready M set from slots b
    → InTurn M (forward_after n b (parcels_told notice.Evict set from slots)).parcels
evicts_turn M n set from [] b differ h ready_ = h
evicts_turn M n set from (s ∷ ss) b differ h ready_ =
    subst (λ (z : Lane). InTurn M z.parcels) (sym (forwarded_both n b (tell_slot notice.Evict (has set from) s) (parcels_told notice.Evict set (from + 1) ss)))
    (go (has set from) refl s refl (λ c. evicts_turn M n set (from + 1) ss c (differ_rest s ss differ)))
  where
    go :
        (in_set : Bool) → has set from ≡ in_set → (x : SlotState) → s ≡ x
        → ((c : Lane) → InTurn M c.parcels → Ready M set (from + 1) ss c → InTurn M (forward_after n c (parcels_told notice.Evict set (from + 1) ss)).parcels)
        → InTurn M (forward_after n (forward_after n b (tell_slot notice.Evict in_set x)) (parcels_told notice.Evict set (from + 1) ss)).parcels
    go false out x is more = more b h (ready_rest M set from s ss b ready_)
    go true in_set Free is more = more b h (ready_rest M set from s ss b ready_)
    go true in_set (Held m t k e) is more =
        let q : Parcel = parcel_of (msg.Evict k) [] in
        let one = one_posted M n m b q in
        more (post_after n b m q) (one.turn h (λ open_. ready_ open_ 0 m t k e (subst (λ i. has set i ≡ true) (omega arith) in_set) is))
        (λ open_ i m' t' k' e' inside held.
        one.after k' (λ j evict same. apart j evict i m' t' k' e' held same) (λ was. ready_rest M set from s ss b ready_ was i m' t' k' e' inside held) open_)
      where
        evict_is : (a b : Lease) → msg.Evict a ≡ msg.Evict b → a.0 ≡ b.0
        evict_is a b e = cc

        apart :
            (j : Lease) → msg.Evict k ≡ msg.Evict j → (i : ℕ) (m' : Link) (t' : Slab) (k' : Lease) (e' : Bool) → slot_in ss i ≡ Held m' t' k' e' → j.0 ≡ k'.0
            → ⊥
        apart j evict i m' t' k' e' held same =
            let one : 0 ≡ suc i = differ 0 (suc i) m m' t t' k k' e e' is held (evict_is k j evict ∙ same) in absurd (omega (arith, one))

-- leases of slots that aren't of the set stay
pub evicts_after :
    (M : Lease → Type 0) (n : Link) (set from : ℕ) (slots : List SlotState) (b : Lane) (k : Lease)
    → ((i : ℕ) (m : Link) (t : Slab) (j : Lease) (e : Bool) → has set (from + i) ≡ true → slot_in slots i ≡ Held m t j e → j.0 ≡ k.0 → ⊥)
    → (b.ended ≡ false → After M b.parcels k)
    → (forward_after n b (parcels_told notice.Evict set from slots)).ended ≡ false
    → After M (forward_after n b (parcels_told notice.Evict set from slots)).parcels k
evicts_after M n set from [] b k other h = h
evicts_after M n set from (s ∷ ss) b k other h =
    subst (λ (z : Lane). z.ended ≡ false → After M z.parcels k)
    (sym (forwarded_both n b (tell_slot notice.Evict (has set from) s) (parcels_told notice.Evict set (from + 1) ss)))
    (go (has set from) refl s refl (λ c. evicts_after M n set (from + 1) ss c k later))
  where
    later : (i : ℕ) (m : Link) (t : Slab) (j : Lease) (e : Bool) → has set (from + 1 + i) ≡ true → slot_in ss i ≡ Held m t j e → j.0 ≡ k.0 → ⊥
    later i m t j e is held = other (suc i) m t j e (subst (λ x. has set x ≡ true) (omega arith) is) held

    go :
        (in_set : Bool) → has set from ≡ in_set → (x : SlotState) → s ≡ x
        → ((c : Lane) → (c.ended ≡ false → After M c.parcels k) → (forward_after n c (parcels_told notice.Evict set (from + 1) ss)).ended ≡ false
        → After M (forward_after n c (parcels_told notice.Evict set (from + 1) ss)).parcels k)
        → (forward_after n (forward_after n b (tell_slot notice.Evict in_set x)) (parcels_told notice.Evict set (from + 1) ss)).ended ≡ false
        → After M (forward_after n (forward_after n b (tell_slot notice.Evict in_set x)) (parcels_told notice.Evict set (from + 1) ss)).parcels k
    go false out x is more = more b h
    go true in_set Free is more = more b h
    go true in_set (Held m t j e) is more =
        let q : Parcel = parcel_of (msg.Evict j) [] in
        more (post_after n b m q)
        ((one_posted M n m b q).after k (λ i evict same. other 0 m t j e (subst (λ x. has set x ≡ true) (omega arith) in_set) is (evict_is j i evict ∙ same)) h)
      where
        evict_is : (a b : Lease) → msg.Evict a ≡ msg.Evict b → a.0 ≡ b.0
        evict_is a b e = cc
