-- What may be sent stays so as a lender serves a message, or measures its host.
use Rattle.std.proofs.Common.{◌≡◌, ℕ, ◌⊎◌, inl, inr, Bool, true, false, ◌||◌, List, [], ◌∷◌, ◌++◌, refl, sym, ap, ◌∙◌, subst}
use Rattle.std.specs.List.{list_any}
use Rattle.std.proofs.lemmas.Bool.{both_ways}
use Rattle.swap_base.specs.declared.Slab.{Slab}
use Rattle.swap_base.specs.declared.Link.{Link}
use Rattle.swap_base.specs.declared.Lender.{Lender as LenderNo}
use Rattle.swap_base.specs.declared.Lease.{Lease}
use Rattle.swap_base.specs.Sizes.{Sizes}
use Rattle.swap_wire.specs.declared.Msg.{Msg}
use Rattle.swap_wire.specs.Fabric.{Parcel}
use Rattle.swap_slabs.specs.declared.SlabState.{SlabState}
use Rattle.swap_rings.specs.declared.Request.{Request}
use Rattle.swap_lender.specs.declared.SlotState.{SlotState}
use Rattle.swap_lender.specs.declared.SlotState.TheVariants.{Held}
use Rattle.swap_lender.specs.Lender.{Lender, slot_in, has_greeted}
use Rattle.swap_lender.specs.Table.{hello as greet}
use Rattle.swap_link.specs.Lane.{Lane, append_after}
use Rattle.swap_joint.specs.Seats.{is_done}
use Rattle.swap_joint.specs.Stored.{gives_back}
use Rattle.swap_joint.specs.Allowed.{is_evict, is_ask, is_rate, is_refusal, is_hello, rates_in, HasSlot, Waits, BorrowsFree, NoHello, Greets, Allows}
use Rattle.swap_joint.proofs.Lanes.{by_append}
use Rattle.swap_joint.proofs.Turns.{any_last}
use Rattle.swap_joint.proofs.Serves.{any-rest}
use Rattle.swap_joint.proofs.Allowed.{named_last, free_map}
use Rattle.swap_base.proofs.Bools.{or_parts}

no_truth : false ≡ true → ⊥
no_truth e = cc

-- the device is sent a reply, which tells nothing of slots but where it refuses a slab

abbrev IsQuietReply : List SlotState → Msg → Type 0
IsQuietReply slots m =
    ((k : Lease) → is_evict k m ≡ false) × ((k : Lease) → is_ask k m ≡ false)
    × ((t : Slab) (i : ℕ) (n : Link) (k : Lease) (e : Bool) → is_refusal t m ≡ true → slot_in slots i ≡ Held n t k e → ⊥)

pub allows_reply :
    (s : Sizes) (states : List SlabState) (ring : List Request) (l : LenderNo) (table : Lender) (n : Link) (b : Lane) (q : Parcel) (ended : Bool)
    (out : List Parcel)
    → IsQuietReply table.slots q.msg → Allows s states ring l table n b.parcels ended out → Allows s states ring l table n (append_after b q).parcels ended out
allows_reply s states ring l table n b q ended out quiet h =
    by_append (λ z. Allows s states ring l table n z.parcels ended out) b q (λ _. h) (λ _. more) (λ _. h)
  where
    was :
        (test : Msg → Bool) → test q.msg ≡ false → list_any (λ (p : Parcel). test p.msg) (b.parcels ++ q ∷ []) ≡ true
        → list_any (λ (p : Parcel). test p.msg) b.parcels ≡ true
    was test off e = elim (any_last (λ (p : Parcel). test p.msg) b.parcels q e) [ inl h ↦ h | inr h ↦ absurd (both_ways (test q.msg) off h) ]

    more : Allows s states ring l table n (b.parcels ++ q ∷ []) ended out
    more = record {
      told = λ k e. h.told k (was (is_evict k) (quiet.0 k) e);
      drains = h.drains;
      done = h.done;
      done_once = h.done_once;
      evict_once = named_last is_evict b.parcels q h.evict_once (λ k _. quiet.0 k);
      apart = λ k e. h.apart k (was (is_evict k) (quiet.0 k) e);
      before = λ t k f e. h.before t k f (was (is_evict k) (quiet.0 k) e);
      asks = λ k e. h.asks k (was (is_ask k) (quiet.1 k) e);
      rates = h.rates;
      ask_once = named_last is_ask b.parcels q h.ask_once (λ k _. quiet.1 k);
      rate_once = h.rate_once;
      one = λ k e. h.one k (was (is_ask k) (quiet.1 k) e);
      home = h.home;
      refused =
          λ i m t k e come held.
          elim (any_last (λ (p : Parcel). is_refusal t p.msg) b.parcels q come)
          [ inl old ↦ h.refused i m t k e old held | inr new ↦ quiet.2 t i m k e new held ];
      free = h.free;
      greets = h.greets;
      kinds = h.kinds;
    }

-- the first message to the lender is gone: one that gives no lease back, tells no rate and doesn't greet

pub allows_popped :
    (s : Sizes) (states : List SlabState) (ring : List Request) (l : LenderNo) (table : Lender) (n : Link) (come : List Parcel) (ended : Bool) (q : Parcel)
    (ps : List Parcel)
    → ((k : Lease) → is_done k q.msg ≡ false) → is_hello q.msg ≡ false → Allows s states ring l table n come ended (q ∷ ps)
    → Allows s states ring l table n come ended ps
allows_popped s states ring l table n come ended q ps undone plain h = record {
  told = h.told;
  drains = h.drains;
  done = λ k e. h.done k (any-rest (λ (p : Parcel). is_done k p.msg) q ps e);
  done_once = h.done_once.1;
  evict_once = h.evict_once;
  apart = λ k e. (or_parts (is_done k q.msg) (gives_back k ps) (h.apart k e)).1;
  before = h.before;
  asks = h.asks;
  rates = λ k e. h.rates k (any-rest (λ (p : Parcel). is_rate k p.msg) q ps e);
  ask_once = h.ask_once;
  rate_once = h.rate_once.1;
  one = λ k e. (or_parts (is_rate k q.msg) (rates_in k ps) (h.one k e)).1;
  home = λ i m t k e held. elim (h.home i m t k e held) [
    | inl at ↦ inl at
    | inr rest ↦ elim rest [
      | inl asked ↦ inr (inl asked)
      | inr later ↦ elim later [ inl back ↦ inr (inr (inl (behind k (undone k) back))) | inr over ↦ inr (inr (inr over)) ]
    ]
  ];
  refused = h.refused;
  free =
      free_map table.slots table.slots (λ k. ⊥ ⊎ (is_done k q.msg ≡ true)) (λ k. ⊥) ps
      (λ t i m k e _ held. ((e, held), λ given. elim given [ inl none ↦ none | inr d ↦ both_ways (is_done k q.msg) (undone k) d ])) h.free.1;
  greets = greeted (has_greeted table n) h.greets;
  kinds = h.kinds.1;
}
  where
    behind : (k : Lease) → is_done k q.msg ≡ false → gives_back k (q ∷ ps) ≡ true → gives_back k ps ≡ true
    behind k off e = go (is_done k q.msg) off e
      where
        go : (b : Bool) → b ≡ false → (b || gives_back k ps) ≡ true → gives_back k ps ≡ true
        go true off e = cc
        go false off e = e

    greeted : (g : Bool) → Greets s g ended (q ∷ ps) → Greets s g ended ps
    greeted true e = (or_parts (is_hello q.msg) _ e).1
    greeted false e = absurd (both_ways (is_hello q.msg) plain (ap (λ (p : Parcel). is_hello p.msg) e.0))

-- the lender changes, but for its slots, its round and whom it knows
pub allows_table :
    (s : Sizes) (states : List SlabState) (ring : List Request) (l : LenderNo) (table table' : Lender) (n : Link) (come : List Parcel) (ended : Bool)
    (out : List Parcel)
    → table'.slots ≡ table.slots → table'.round ≡ table.round → has_greeted table' n ≡ has_greeted table n → Allows s states ring l table n come ended out
    → Allows s states ring l table' n come ended out
allows_table s states ring l table table' n come ended out slots round greeted h = record {
  told = λ k e. subst (λ xs. HasSlot xs k true) (sym slots) (h.told k e);
  drains = λ t k f e. subst (λ xs. HasSlot xs k true) (sym slots) (h.drains t k f e);
  done = λ k e. subst (λ xs. HasSlot xs k true) (sym slots) (h.done k e);
  done_once = h.done_once;
  evict_once = h.evict_once;
  apart = h.apart;
  before = h.before;
  asks = λ k e. waits k (h.asks k e);
  rates = λ k e. waits k (h.rates k e);
  ask_once = h.ask_once;
  rate_once = h.rate_once;
  one = h.one;
  home = λ i m t k e held. h.home i m t k e (sym (ap (λ xs. slot_in xs i) slots) ∙ held);
  refused = λ i m t k e come_ held. h.refused i m t k e come_ (sym (ap (λ xs. slot_in xs i) slots) ∙ held);
  free = subst (λ xs. BorrowsFree xs (λ k. ⊥) out) (sym slots) h.free;
  greets = subst (λ g. Greets s g ended out) (sym greeted) h.greets;
  kinds = h.kinds;
}
  where
    waits : (k : Lease) → Waits table k → Waits table' k
    waits k w =
        record {
          round = w.round;
          open_ = round ∙ w.open_;
          at = w.at;
          link = w.link;
          slab = w.slab;
          held = ap (λ xs. slot_in xs w.at) slots ∙ w.held;
          waits = w.waits;
          low = w.low;
          answered = w.answered;
          gone = w.gone;
        }

-- a greeting is served
pub allows_greeted :
    (s : Sizes) (states : List SlabState) (ring : List Request) (l : LenderNo) (table : Lender) (n : Link) (come : List Parcel) (ended : Bool) (q : Parcel)
    (ps : List Parcel)
    → is_hello q.msg ≡ true → ((k : Lease) → is_done k q.msg ≡ false) → has_greeted (greet table n).lender n ≡ true
    → Allows s states ring l table n come ended (q ∷ ps) → Allows s states ring l (greet table n).lender n come ended ps
allows_greeted s states ring l table n come ended q ps is undone greeted h =
    record {
      told = h.told;
      drains = h.drains;
      done = λ k e. h.done k (any-rest (λ (p : Parcel). is_done k p.msg) q ps e);
      done_once = h.done_once.1;
      evict_once = h.evict_once;
      apart = λ k e. (or_parts (is_done k q.msg) (gives_back k ps) (h.apart k e)).1;
      before = h.before;
      asks = λ k e. same k (h.asks k e);
      rates = λ k e. same k (h.rates k (any-rest (λ (p : Parcel). is_rate k p.msg) q ps e));
      ask_once = h.ask_once;
      rate_once = h.rate_once.1;
      one = λ k e. (or_parts (is_rate k q.msg) (rates_in k ps) (h.one k e)).1;
      home = λ i m t k e held. elim (h.home i m t k e held) [
        | inl at ↦ inl at
        | inr rest ↦ elim rest [
          | inl asked ↦ inr (inl asked)
          | inr later ↦ elim later [ inl back ↦ inr (inr (inl (behind k (is_done k q.msg) (undone k) back))) | inr over ↦ inr (inr (inr over)) ]
        ]
      ];
      refused = h.refused;
      free =
          free_map table.slots table.slots (λ k. ⊥ ⊎ (is_done k q.msg ≡ true)) (λ k. ⊥) ps
          (λ t i m k e _ held. ((e, held), λ given. elim given [ inl none ↦ none | inr d ↦ both_ways (is_done k q.msg) (undone k) d ])) h.free.1;
      greets = subst (λ g. Greets s g ended ps) (sym greeted) (no_more (has_greeted table n) h.greets);
      kinds = h.kinds.1;
    }
  where
    same : (k : Lease) → Waits table k → Waits (greet table n).lender k
    same k w =
        record {
          round = w.round;
          open_ = w.open_;
          at = w.at;
          link = w.link;
          slab = w.slab;
          held = w.held;
          waits = w.waits;
          low = w.low;
          answered = w.answered;
          gone = w.gone;
        }

    behind : (k : Lease) (b : Bool) → b ≡ false → (b || gives_back k ps) ≡ true → gives_back k ps ≡ true
    behind k true off e = cc
    behind k false off e = e

    no_more : (g : Bool) → Greets s g ended (q ∷ ps) → NoHello ps
    no_more true e = absurd (both_ways (is_hello q.msg) (or_parts (is_hello q.msg) _ e).0 is)
    no_more false e = e.1
