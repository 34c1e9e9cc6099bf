-- What a lender sends in a turn: the reply to a request, or notices alone.
use Rattle.std.proofs.Common.{◌≡◌, ℕ, ◌+◌, ◌<◌, ◌⊎◌, inl, inr, Bool, true, false, ◌||◌, List, [], ◌∷◌, ◌++◌, refl, sym, ap, ◌∙◌, subst, arith, eq-eqb, Option, None, Some}
use Rattle.std.specs.Prelude.{◌==◌, option_map}
use Rattle.std.specs.List.{AllByRecursion, list_any}
use Rattle.std.proofs.lemmas.Bool.{cond_both, cond-true, and_parts, eqb-true}
use Rattle.swap_base.specs.declared.Link.{Link}
use Rattle.swap_base.specs.declared.Slab.{Slab}
use Rattle.swap_base.specs.declared.Lender.{Lender as LenderNo}
use Rattle.swap_base.specs.declared.Lease.{Lease}
use Rattle.swap_base.specs.Sizes.{Sizes, place_of}
use Rattle.swap_record.specs.History.{History}
use Rattle.swap_wire.specs.declared.Msg.{Msg}
use Rattle.swap_wire.specs.declared.Msg.TheVariants as msg
use Rattle.swap_wire.specs.Fabric.{Parcel, parcel_of, lends}
use Rattle.swap_choice.specs.Slots.{has}
use Rattle.swap_evict.specs.Rounds.{answer}
use Rattle.swap_slabs.specs.declared.SlabState.{SlabState}
use Rattle.swap_rings.specs.declared.Request.{Request}
use Rattle.swap_rings.specs.declared.Request.TheVariants.{Query, Borrow, Write, Read}
use Rattle.swap_base.proofs.Lists.{not_eqb, All-append}
use Rattle.swap_lender.specs.declared.SlotState.{SlotState}
use Rattle.swap_lender.specs.declared.SlotState.TheVariants.{Free, Held}
use Rattle.swap_lender.specs.declared.Notice.{Notice}
use Rattle.swap_lender.specs.declared.Notice.TheVariants as notice
use Rattle.swap_lender.specs.Lender.{Lender, slot_of}
use Rattle.swap_lender.specs.Lender as lender
use Rattle.swap_lender.specs.Table.{Turn, tell_slot, parcels_told, settle_with, slots_due, serve, lend, may_reach, may_send, host, measure_after, opens}
use Rattle.swap_link.specs.Lane.{Lane, append_after}
use Rattle.swap_link.specs.Channel.{Channel, post_after, forward_after}
use Rattle.swap_link.specs.lemmas.Sound.{some-same}
use Rattle.swap_joint.specs.Order.{is_request, is_reply, Answers, Carries}
use Rattle.swap_calls.specs.Calls.{Calls}
use Rattle.swap_joint.specs.Brought.{Brings, HoldsFor}
use Rattle.swap_link.specs.Fits.{IsSound}
use Rattle.swap_joint.specs.Seats.{HasSeat, AreSlots}
use Rattle.swap_joint.specs.Stored.{lends_in, lends_slab, lends_to, LentOnce}
use Rattle.swap_joint.proofs.Seats.{seat_lend}
use Rattle.swap_joint.proofs.Lanes.{by_append}
use Rattle.swap_joint.proofs.Orders.{Quiet, noticed_quiet, quiet-trans}

-- a message that isn't asked for
abbrev pub is_notice : Msg → Bool
is_notice (msg.AskRates lease) = true
is_notice (msg.Evict lease) = true
is_notice _ = false

abbrev pub IsNotice : Link × Parcel → Type 0
IsNotice p = is_notice p.1.msg ≡ true

no_reply : (m : Msg) → is_notice m ≡ true → is_reply m ≡ false
no_reply (msg.AskRates lease) e = refl
no_reply (msg.Evict lease) e = refl
no_reply (msg.Room slab free) e = cc
no_reply (msg.Lent slab lease) e = cc
no_reply (msg.Refused slab) e = cc
no_reply (msg.Wrote lease place) e = cc
no_reply (msg.PageIs lease place) e = cc
no_reply _ e = refl

no_loan : (k : Lease) (m : Msg) → is_notice m ≡ true → lends k m ≡ false
no_loan k (msg.Lent slab lease) e = cc
no_loan k _ e = refl

-- leases that are being lent, with a message more
pub any-append : {X : Type 0} (test : X → Bool) (xs : List X) (x : X) → test x ≡ false → list_any test (xs ++ x ∷ []) ≡ list_any test xs
any-append test [] x e = ap (λ b. b || false) e
any-append test (y ∷ xs) x e = ap (λ b. test y || b) (any-append test xs x e)

pub lends-append : (k : Lease) (b : Lane) (q : Parcel) → lends k q.msg ≡ false → lends_in k (append_after b q).parcels ≡ lends_in k b.parcels
lends-append k b q e =
    by_append (λ z. lends_in k z.parcels ≡ lends_in k b.parcels) b q (λ _. refl) (λ _. any-append (λ (q : Parcel). lends k q.msg) b.parcels q e) (λ _. refl)

no_loan_to : (t : Slab) (k : Lease) (m : Msg) → is_notice m ≡ true → lends_slab t k m ≡ false
no_loan_to t k (msg.Lent slab lease) e = cc
no_loan_to t k _ e = refl

lends_to-append : (t : Slab) (k : Lease) (b : Lane) (q : Parcel) → lends_slab t k q.msg ≡ false
    → lends_to t k (append_after b q).parcels ≡ lends_to t k b.parcels
lends_to-append t k b q e =
    by_append (λ z. lends_to t k z.parcels ≡ lends_to t k b.parcels) b q (λ _. refl) (λ _. any-append (λ (q : Parcel). lends_slab t k q.msg) b.parcels q e)
    (λ _. refl)

-- a loan under way, with a message more: it was, or the message is it
pub any_last : {X : Type 0} (test : X → Bool) (xs : List X) (x : X) → list_any test (xs ++ x ∷ []) ≡ true → (list_any test xs ≡ true) ⊎ (test x ≡ true)
any_last test [] x e = inr (sym (or_false (test x)) ∙ e)
  where
    or_false : (b : Bool) → (b || false) ≡ b
    or_false true = refl
    or_false false = refl
any_last test (y ∷ xs) x e = go (test y) e (any_last test xs x)
  where
    go :
        (b : Bool) → (b || list_any test (xs ++ x ∷ [])) ≡ true → (list_any test (xs ++ x ∷ []) ≡ true → (list_any test xs ≡ true) ⊎ (test x ≡ true))
        → ((b || list_any test xs) ≡ true) ⊎ (test x ≡ true)
    go true e rest = inl refl
    go false e rest = rest e

pub loan-append :
    (t : Slab) (k : Lease) (b : Lane) (q : Parcel) → lends_to t k (append_after b q).parcels ≡ true
    → (lends_to t k b.parcels ≡ true) ⊎ (lends_slab t k q.msg ≡ true)
loan-append t k b q =
    by_append (λ z. lends_to t k z.parcels ≡ true → (lends_to t k b.parcels ≡ true) ⊎ (lends_slab t k q.msg ≡ true)) b q (λ _ e. inl e)
    (λ _. any_last (λ (q : Parcel). lends_slab t k q.msg) b.parcels q) (λ _ e. inl e)

-- each lease is lent once, with a message more that lends none of those under way
once_last : (ps : List Parcel) (q : Parcel) → LentOnce ps → ((k : Lease) → lends_in k ps ≡ true → lends k q.msg ≡ false) → LentOnce (ps ++ q ∷ [])
once_last [] q once other = ((λ k e. refl), tt)
once_last (p ∷ ps) q once other = (
  (λ k e. any-append (λ (q : Parcel). lends k q.msg) ps q (other k (first (lends k p.msg) (lends_in k ps) e)) ∙ once.0 k e),
  once_last ps q once.1 (λ k e. other k (rest (lends k p.msg) (lends_in k ps) e)),
)
  where
    first : (a b : Bool) → a ≡ true → (a || b) ≡ true
    first true b e = refl
    first false b e = cc

    rest : (a b : Bool) → b ≡ true → (a || b) ≡ true
    rest true b e = refl
    rest false b e = e

pub once-append :
    (b : Lane) (q : Parcel) → LentOnce b.parcels → ((k : Lease) → lends_in k b.parcels ≡ true → lends k q.msg ≡ false) → LentOnce (append_after b q).parcels
once-append b q once other = by_append (λ z. LentOnce z.parcels) b q (λ _. once) (λ _. once_last b.parcels q once other) (λ _. once)

-- notices are appended, or dropped
pub record Noticed (a b b' : Lane) : Type 0 where
  pub quiet : Quiet a b a b'
  pub lends : (k : Lease) → lends_in k b'.parcels ≡ lends_in k b.parcels
  pub loans : (t : Slab) (k : Lease) → lends_to t k b'.parcels ≡ lends_to t k b.parcels
  pub once : LentOnce b.parcels → LentOnce b'.parcels

posted_noticed : (a b : Lane) (n link : Link) (q : Parcel) → is_notice q.msg ≡ true → Noticed a b (post_after n b link q)
posted_noticed a b n link q is =
    cond_both (link.0 == n.0) _ _ (λ z. Noticed a b z)
    (λ _.
    record {
      quiet = noticed_quiet a b q (no_reply q.msg is);
      lends = λ k. lends-append k b q (no_loan k q.msg is);
      loans = λ t k. lends_to-append t k b q (no_loan_to t k q.msg is);
      once = λ once. once-append b q once (λ k e. no_loan k q.msg is);
    })
    (λ _.
    record {
      quiet = record { asks = refl; replies = refl; to_lender = λ f. f; to_device = λ f. f };
      lends = λ k. refl;
      loans = λ t k. refl;
      once = λ once. once;
    })

pub forwarded_noticed : (a b : Lane) (n : Link) (ps : List (Link × Parcel)) → AllByRecursion IsNotice ps → Noticed a b (forward_after n b ps)
forwarded_noticed a b n [] all =
    record {
      quiet = record { asks = refl; replies = refl; to_lender = λ f. f; to_device = λ f. f };
      lends = λ k. refl;
      loans = λ t k. refl;
      once = λ once. once;
    }
forwarded_noticed a b n (p ∷ ps) all =
    let q : Parcel = parcel_of p.1.msg p.1.page in
    let one : Noticed a b (post_after n b p.0 q) = posted_noticed a b n p.0 q all.0 in
    let rest : Noticed a (post_after n b p.0 q) (forward_after n (post_after n b p.0 q) ps) = forwarded_noticed a (post_after n b p.0 q) n ps all.1 in
    record {
      quiet = quiet-trans a b a (post_after n b p.0 q) a (forward_after n (post_after n b p.0 q) ps) one.quiet rest.quiet;
      lends = λ k. rest.lends k ∙ one.lends k;
      loans = λ t k. rest.loans t k ∙ one.loans t k;
      once = λ once. rest.once (one.once once);
    }

told_notice : (kind : Notice) (b : Bool) (state : SlotState) → AllByRecursion IsNotice (tell_slot kind b state)
told_notice kind false state = tt
told_notice kind true Free = tt
told_notice notice.AskRates true (Held link slab lease evicting) = (refl, tt)
told_notice notice.Evict true (Held link slab lease evicting) = (refl, tt)

all_told : (kind : Notice) (set from : ℕ) (states : List SlotState) → AllByRecursion IsNotice (parcels_told kind set from states)
all_told kind set from [] = tt
all_told kind set from (state ∷ states) =
    All-append IsNotice (tell_slot kind (has set from) state) (parcels_told kind set (from + 1) states) (told_notice kind (has set from) state)
    (all_told kind set (from + 1) states)

settled_notices : (l : Lender) (o : Option ℕ) → AllByRecursion IsNotice (settle_with l o).parcels
settled_notices l None = tt
settled_notices l (Some set) = all_told notice.Evict set 0 l.slots

-- what is sent for a message that is no request, and of the lender's own
pub serves_quietly : (l : Lender) (n : Link) (m : Msg) (page : List ℕ) → is_request m ≡ false → AllByRecursion IsNotice (serve l n m page).parcels
serves_quietly l n (msg.Query slab) page e = cc
serves_quietly l n (msg.Borrow slab) page e = cc
serves_quietly l n (msg.Write lease place) page e = cc
serves_quietly l n (msg.Read lease place) page e = cc
serves_quietly l n (msg.Rates lease value) page e =
    settled_notices (record l { round = option_map (answer (slot_of l n lease) value) l.round })
    (slots_due (option_map (answer (slot_of l n lease) value) l.round))
serves_quietly l n _ page e = tt

pub hosts_quietly : (l : Lender) (used word : ℕ) → AllByRecursion IsNotice (host l used word).parcels
hosts_quietly l used word =
    cond_both (opens (measure_after l used)) _ _ (λ (t : Turn). AllByRecursion IsNotice t.parcels) (λ _. all_told notice.AskRates _ 0 l.slots) (λ _. tt)

-- the lender that lent a slab
abbrev lender_lend : Lender → Link → Slab → Lender
lender_lend l n t = (lend l n t (lender.first_where lender.is_free l.slots)).lender

-- what is sent for a request
pub record Reply (s : Sizes) (H : History) (cs : Calls) (states : List SlabState) (o : LenderNo) (c : Channel) (t : Turn) (x : Request) : Type 0 where
  pub reply : Parcel
  pub parcels : t.parcels ≡ (c.number, reply) ∷ []
  pub whole : parcel_of reply.msg reply.page ≡ reply
  pub is : is_reply reply.msg ≡ true
  pub answers : Answers s states o reply x
  pub brings : HoldsFor s H cs states o c x → Brings H cs reply x
  pub new : (k : Lease) → k.0 < c.lender.next_lease → lends k reply.msg ≡ false
  pub seat : IsSound c.lender → AreSlots c.lender → (u : Slab) (k : Lease) → lends_slab u k reply.msg ≡ true → HasSeat t.lender c.number k u

pub replies :
    (s : Sizes) (H : History) (cs : Calls) (states : List SlabState) (o : LenderNo) (c : Channel) (q : Parcel) (x : Request) → Carries s H states o q x
    → may_send c.lender c.number q.msg ≡ true → Reply s H cs states o c (serve c.lender c.number q.msg q.page) x
replies s H cs states o c q (Query t) carries =
    let P : Parcel → Type 0 = λ q. may_send c.lender c.number q.msg ≡ true → Reply s H cs states o c (serve c.lender c.number q.msg q.page) (Query t) in
    subst P (sym carries)
    (λ may.
    record {
      reply = parcel_of (msg.Room t (lender.slots_free c.lender)) [];
      parcels = refl;
      whole = refl;
      is = refl;
      answers = refl;
      brings = λ held. tt;
      new = λ k less. refl;
      seat = λ sound slots u k e. cc;
    })
replies s H cs states o c q (Borrow t) carries =
    let P : Parcel → Type 0 = λ q. may_send c.lender c.number q.msg ≡ true → Reply s H cs states o c (serve c.lender c.number q.msg q.page) (Borrow t) in
    subst P (sym carries)
    (λ may. cond_both (lender.lends c.lender) _ _ (λ (u : Turn). Reply s H cs states o c u (Borrow t))
    (λ lends. record {
      reply = parcel_of (msg.Lent t (record { 0 = c.lender.next_lease })) [];
      parcels = refl;
      whole = refl;
      is = refl;
      answers = refl;
      brings = λ held. tt;
      new = λ k less. not_eqb c.lender.next_lease k.0 (λ e. absurd (omega (arith, less, e)));
      seat = λ sound slots u k e.
          let parts = and_parts (t.0 == u.0) (c.lender.next_lease == k.0) e in
          let same : t ≡ u = ap (λ (n : ℕ). record { 0 = n }) (eqb-true t.0 u.0 parts.0) in
          let lease : record { 0 = c.lender.next_lease } ≡ k = ap (λ (n : ℕ). record { 0 = n }) (eqb-true c.lender.next_lease k.0 parts.1) in
          subst (λ (k : Lease). HasSeat (lender_lend c.lender c.number t) c.number k u) lease
          (subst (λ (u : Slab). HasSeat (lender_lend c.lender c.number t) c.number (record { 0 = c.lender.next_lease }) u) same
          (seat_lend c.lender c.number t sound slots lends));
    })
    (λ _.
    record {
      reply = parcel_of (msg.Refused t) [];
      parcels = refl;
      whole = refl;
      is = refl;
      answers = refl;
      brings = λ held. tt;
      new = λ k less. refl;
      seat = λ sound slots u k e. cc;
    }))
replies s H cs states o c q (Write p e) carries =
    let P : Parcel → Type 0 = λ q. may_send c.lender c.number q.msg ≡ true → Reply s H cs states o c (serve c.lender c.number q.msg q.page) (Write p e) in
    subst P (sym carries.1)
    (λ may.
    record {
      reply = parcel_of (msg.Wrote carries.0 (place_of s p.0)) [];
      parcels = refl;
      whole = refl;
      is = refl;
      answers = (carries.2, refl);
      brings = λ held. tt;
      new = λ k less. refl;
      seat = λ sound slots u k e. cc;
    })
replies s H cs states o c q (Read a p) carries =
    let P : Parcel → Type 0 = λ q. may_send c.lender c.number q.msg ≡ true → Reply s H cs states o c (serve c.lender c.number q.msg q.page) (Read a p) in
    subst P (sym carries.1) (λ may. record {
      reply = parcel_of (msg.PageIs carries.0 (place_of s p.0)) (lender.page_in c.lender.contents (slot_of c.lender c.number carries.0) (place_of s p.0));
      parcels = refl;
      whole = refl;
      is = refl;
      answers = (carries.2, refl);
      brings = λ held e is.
          let was = held carries.0 e carries.2 is in (
            was.0,
            some-same
                (sym
                (cond-true (may_reach c.lender c.number carries.0 (place_of s p.0))
                (Some (lender.page_in c.lender.contents (slot_of c.lender c.number carries.0) (place_of s p.0))) None may)
                ∙ was.1),
          );
      new = λ k less. refl;
      seat = λ sound slots u k e. cc;
    })

pub forwarded_one :
    (n : Link) (b : Lane) (ps : List (Link × Parcel)) (q : Parcel) → ps ≡ (n, q) ∷ [] → parcel_of q.msg q.page ≡ q → forward_after n b ps ≡ append_after b q
forwarded_one n b ps q is whole =
    ap (λ (xs : List (Link × Parcel)). forward_after n b xs) is ∙ cond-true (n.0 == n.0) (append_after b (parcel_of q.msg q.page)) b (eq-eqb n.0 n.0 refl)
    ∙ ap (λ r. append_after b r) whole
