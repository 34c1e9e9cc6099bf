-- What a lender keeps through its calls over its only link.
use Rattle.std.proofs.Common.{◌≡◌, ℕ, zero, suc, ◌⊎◌, inl, inr, ◌+◌, ◌<◌, Bool, true, false, List, [], ◌∷◌, ◌++◌, length, set, get_or, replicate, refl, sym, ap, ◌∙◌, subst, arith, Option, None, Some, eq-eqb}
use Rattle.std.specs.Prelude.{map, nat_lt, ◌==◌, option_map}
use Rattle.std.proofs.lemmas.Bool.{cond_both, cond-true, cond-false, and_parts, ltb-true}
use Rattle.std.proofs.lemmas.List.{length-set, length-map, length-replicate}
use Rattle.std.proofs.lemmas.List.Elements.{All-set, All-get_or, All-replicate}
use Rattle.swap_base.specs.declared.Link.{Link}
use Rattle.swap_base.specs.declared.Slab.{Slab}
use Rattle.swap_base.specs.declared.Lease.{Lease}
use Rattle.swap_wire.specs.declared.Msg.{Msg}
use Rattle.swap_wire.specs.declared.Msg.TheVariants as msg
use Rattle.swap_wire.specs.Fabric.{parcel_of}
use Rattle.swap_choice.specs.Slots.{has}
use Rattle.swap_evict.specs.Rounds.{answer}
use Rattle.swap_lender.specs.declared.Lending.{Lending}
use Rattle.swap_lender.specs.declared.SlotState.{SlotState}
use Rattle.swap_lender.specs.declared.SlotState.TheVariants.{Free, Held}
use Rattle.swap_lender.specs.Lender.{Lender, lender_at_start, blank_slab, is_free, is_of, first_where, lends, holds, slot_of}
use Rattle.swap_lender.specs.Table.{Turn, mark_slots, mark_slot, settle_with, slots_due, greet_peer, lend, write, may_reach, may_send, serve, took_after, free_slot, round_left, without_peer, gone_after, arrive, has_room, restart, host, measure_after, opens}
use Rattle.swap_base.specs.Sizes.{Sizes}
use Rattle.swap_wire.specs.Fabric.{Parcel, Handed}
use Rattle.swap_wire.specs.declared.fabric.Gave.{Gave}
use Rattle.swap_wire.specs.declared.fabric.Gave.TheVariants as gave_is
use Rattle.swap_lender.specs.declared.Served.TheVariants as served_is
use Rattle.swap_lender.specs.Table.{quiet_turn, served_by}
use Rattle.swap_link.specs.Channel.{Channel, take_after, taken_from, serve_after, give_after, given_from, reply_of, deliver_after, forward_after, leave_after}
use Rattle.swap_lender.specs.Outbox.{OutboxView, IsReady, outbox_with}
use Rattle.swap_link.specs.Lane.{Lane}
use Rattle.swap_link.specs.Fits.{IsSound, IsAlone, ChannelFits, lease_of, lease_at}

-- slots

pub length-marked : (set from : ℕ) (slots : List SlotState) → length (mark_slots set from slots) ≡ length slots
length-marked set from [] = refl
length-marked set from (s ∷ ss) = ap suc (length-marked set (from + 1) ss)

pub some-same : {X : Type 0} {a b : X} → Some a ≡ Some b → a ≡ b
some-same e = cc

-- slots of which none has a lease that it hadn't before
abbrev pub IsFewer : List SlotState → List SlotState → Type 0
IsFewer new old = (i k : ℕ) → lease_at new i ≡ Some k → lease_at old i ≡ Some k

marked-lease : (b : Bool) (s : SlotState) → lease_of (mark_slot b s) ≡ lease_of s
marked-lease false s = refl
marked-lease true Free = refl
marked-lease true (Held link slab lease evicting) = refl

fewer-marked : (set from : ℕ) (slots : List SlotState) → IsFewer (mark_slots set from slots) slots
fewer-marked set from [] i k e = e
fewer-marked set from (s ∷ ss) zero k e = sym (marked-lease (has set from) s) ∙ e
fewer-marked set from (s ∷ ss) (suc i) k e = fewer-marked set (from + 1) ss i k e

freed-lease : (n : Link) (s : SlotState) (k : ℕ) → lease_of (free_slot n s) ≡ Some k → lease_of s ≡ Some k
freed-lease n s k = cond_both (is_of n s) Free s (λ x. lease_of x ≡ Some k → lease_of s ≡ Some k) (λ _ e. cc) (λ _ e. e)

fewer-freed : (n : Link) (slots : List SlotState) → IsFewer (map (free_slot n) slots) slots
fewer-freed n [] i k e = e
fewer-freed n (s ∷ ss) zero k e = freed-lease n s k e
fewer-freed n (s ∷ ss) (suc i) k e = fewer-freed n ss i k e

pub fewer-free : (slots : List SlotState) (j : ℕ) → IsFewer (set slots j Free) slots
fewer-free [] j i k e = e
fewer-free (s ∷ ss) zero zero k e = cc
fewer-free (s ∷ ss) zero (suc i) k e = e
fewer-free (s ∷ ss) (suc j) zero k e = e
fewer-free (s ∷ ss) (suc j) (suc i) k e = fewer-free ss j i k e

pub lease-set :
    (slots : List SlotState) (j : ℕ) (new : SlotState) (i k : ℕ) → lease_at (set slots j new) i ≡ Some k
    → ((i ≡ j) × (lease_of new ≡ Some k)) ⊎ (lease_at slots i ≡ Some k)
lease-set [] j new i k e = inr e
lease-set (s ∷ ss) zero new zero k e = inl (refl, e)
lease-set (s ∷ ss) zero new (suc i) k e = inr e
lease-set (s ∷ ss) (suc j) new zero k e = inr e
lease-set (s ∷ ss) (suc j) new (suc i) k e =
    elim (lease-set ss j new i k e) [ inl h ↦ inl (ap suc h.0, h.1) | inr h ↦ inr h ]

none_leased : (n i k : ℕ) → lease_at (replicate n Free) i ≡ Some k → ⊥
none_leased zero i k e = cc
none_leased (suc n) zero k e = cc
none_leased (suc n) (suc i) k e = none_leased n i k e

pub sound-fresh : (s : Lending) → IsSound (lender_at_start s)
sound-fresh s = record {
  given = λ i k e. absurd (none_leased s.spec.slots i k e);
  differ = λ i j k e _. absurd (none_leased s.spec.slots i k e);
  slots = length-replicate s.spec.slots (blank_slab s) ∙ sym (length-replicate s.spec.slots Free);
  places =
      All-replicate (λ slab. length slab ≡ s.pages_per_slab) s.spec.slots (blank_slab s)
      (length-replicate s.pages_per_slab (replicate s.page_bytes 0));
}

-- a round that is closed

pub sound-settle : (l : Lender) (o : Option ℕ) → IsSound l → IsSound (settle_with l o).lender
sound-settle l None s = s
sound-settle l (Some set) s =
    record {
      given = λ i k e. s.given i k (fewer-marked set 0 l.slots i k e);
      differ = λ i j k e f. s.differ i j k (fewer-marked set 0 l.slots i k e) (fewer-marked set 0 l.slots j k f);
      slots = s.slots ∙ sym (length-marked set 0 l.slots);
      places = s.places;
    }

peers-settle : (l : Lender) (o : Option ℕ) → (settle_with l o).lender.peers ≡ l.peers
peers-settle l None = refl
peers-settle l (Some set) = refl

lending-settle : (l : Lender) (o : Option ℕ) → (settle_with l o).lender.lending ≡ l.lending
lending-settle l None = refl
lending-settle l (Some set) = refl

-- a link that is gone

abbrev pub after_leave : Lender → Link → Lender
after_leave l n =
    record l {
      slots = map (free_slot n) l.slots;
      peers = without_peer n l.peers;
      round = option_map (round_left n l.slots)
          l.round;
    }

pub sound-gone : (l : Lender) (n : Link) → IsSound l → IsSound (gone_after l n).lender
sound-gone l n s =
    sound-settle (after_leave l n) (slots_due (after_leave l n).round)
    (record {
      given = λ i k e. s.given i k (fewer-freed n l.slots i k e);
      differ = λ i j k e f. s.differ i j k (fewer-freed n l.slots i k e) (fewer-freed n l.slots j k f);
      slots = s.slots ∙ sym (length-map l.slots (free_slot n));
      places = s.places;
    })

forgotten : (n : Link) (greeted : Bool) → without_peer n (record { link = n; greeted = greeted } ∷ []) ≡ []
forgotten n greeted = let e : (n.0 == n.0) ≡ true = eq-eqb n.0 n.0 refl in rw e refl

pub peers-gone : (l : Lender) (n : Link) → IsAlone n false l.peers → (gone_after l n).lender.peers ≡ []
peers-gone l n a =
    peers-settle (after_leave l n) (slots_due (after_leave l n).round) ∙ ap (without_peer n) a.1 ∙ forgotten n a.0

pub lending-gone : (l : Lender) (n : Link) → (gone_after l n).lender.lending ≡ l.lending
lending-gone l n = lending-settle (after_leave l n) (slots_due (after_leave l n).round)

-- a link that arrives

pub arrived :
    (l : Lender) (n : Link) → l.peers ≡ [] → l.lending.links ≡ 1
    → arrive l n ≡ record l { peers = record { link = n; greeted = false } ∷ [] }
arrived l n none one =
    let room : has_room l ≡ true = ap (λ ps. nat_lt (length ps) l.lending.links) none ∙ ap (λ k. nat_lt 0 k) one in
    cond-true (has_room l) _ _ room
    ∙ ap (λ ps. record l { peers = ps ++ record { link = n; greeted = false } ∷ [] }) none

-- a host's use

pub sound-host : (l : Lender) (usage word : ℕ) → IsSound l → IsSound (host l usage word).lender
sound-host l usage word s =
    cond_both (opens (measure_after l usage)) _ _ (λ (t : Turn). IsSound t.lender)
    (λ _. record { given = s.given; differ = s.differ; slots = s.slots; places = s.places })
    (λ _. record { given = s.given; differ = s.differ; slots = s.slots; places = s.places })

pub peers-host : (l : Lender) (usage word : ℕ) → (host l usage word).lender.peers ≡ l.peers
peers-host l usage word =
    cond_both (opens (measure_after l usage)) _ _ (λ (t : Turn). t.lender.peers ≡ l.peers) (λ _. refl) (λ _. refl)

pub lending-host : (l : Lender) (usage word : ℕ) → (host l usage word).lender.lending ≡ l.lending
lending-host l usage word =
    cond_both (opens (measure_after l usage)) _ _ (λ (t : Turn). t.lender.lending ≡ l.lending) (λ _. refl) (λ _. refl)

-- a message that is served

-- a new lease differs from those that were given
lent-differ :
    (l : Lender) (n : Link) (slab : Slab) (j : ℕ) → IsSound l → (i i' k : ℕ)
    → ((i ≡ j) × (Some l.next_lease ≡ Some k)) ⊎ (lease_at l.slots i ≡ Some k)
    → ((i' ≡ j) × (Some l.next_lease ≡ Some k)) ⊎ (lease_at l.slots i' ≡ Some k) → i ≡ i'
lent-differ l n slab j s i i' k (inl h) (inl g) = h.0 ∙ sym g.0
lent-differ l n slab j s i i' k (inl h) (inr g) =
    let is : l.next_lease ≡ k = some-same h.1 in let lt : k < l.next_lease = s.given i' k g in absurd (omega arith)
lent-differ l n slab j s i i' k (inr h) (inl g) =
    let is : l.next_lease ≡ k = some-same g.1 in let lt : k < l.next_lease = s.given i k h in absurd (omega arith)
lent-differ l n slab j s i i' k (inr h) (inr g) = s.differ i i' k h g

sound-lend : (l : Lender) (n : Link) (slab : Slab) (j : ℕ) → IsSound l → IsSound (lend l n slab j).lender
sound-lend l n slab j s = record {
  given =
      λ i k e.
      elim (lease-set l.slots j (Held n slab (record { 0 = l.next_lease }) false) i k e) [
        | inl h ↦ (let is : l.next_lease ≡ k = some-same h.1 in omega arith)
        | inr h ↦ (let lt : k < l.next_lease = s.given i k h in omega arith)
      ];
  differ =
      λ i i' k e f.
      lent-differ l n slab j s i i' k (lease-set l.slots j (Held n slab (record { 0 = l.next_lease }) false) i k e)
      (lease-set l.slots j (Held n slab (record { 0 = l.next_lease }) false) i' k f);
  slots =
      length-set l.contents j (blank_slab l.lending) ∙ s.slots
      ∙ sym (length-set l.slots j (Held n slab (record { 0 = l.next_lease }) false));
  places =
      All-set (λ slab. length slab ≡ l.lending.pages_per_slab) l.contents j (blank_slab l.lending)
      (length-replicate l.lending.pages_per_slab (replicate l.lending.page_bytes 0)) s.places;
}

pub reached :
    (l : Lender) (n : Link) (k : Lease) (i : ℕ) → IsSound l → may_reach l n k i ≡ true
    → (slot_of l n k < length l.contents) × (i < l.lending.pages_per_slab)
reached l n k i s may =
    let parts = and_parts (holds l n k) (nat_lt i l.lending.pages_per_slab) may in (
      subst (λ m. slot_of l n k < m) (sym s.slots) (ltb-true (slot_of l n k) (length l.slots) parts.0),
      ltb-true i l.lending.pages_per_slab parts.1,
    )

sound-write :
    (l : Lender) (n : Link) (k : Lease) (i : ℕ) (page : List ℕ) → may_reach l n k i ≡ true → IsSound l
    → IsSound (write l n k i page).lender
sound-write l n k i page may s =
    let P : List (List ℕ) → Type 0 = λ slab. length slab ≡ l.lending.pages_per_slab in
    let lt : slot_of l n k < length l.contents = (reached l n k i s may).0 in
    record {
      given = s.given;
      differ = s.differ;
      slots = length-set l.contents (slot_of l n k) _ ∙ s.slots;
      places =
          All-set P l.contents (slot_of l n k) _
          (length-set (get_or l.contents (slot_of l n k) []) i page
          ∙ All-get_or P l.contents (slot_of l n k) [] lt s.places)
          s.places;
    }

pub sound-serve :
    (l : Lender) (n : Link) (m : Msg) (page : List ℕ) → may_send l n m ≡ true → IsSound l
    → IsSound (serve l n m page).lender
sound-serve l n (msg.Hello version page_bytes pages_per_slab) page may s =
    record { given = s.given; differ = s.differ; slots = s.slots; places = s.places }
sound-serve l n (msg.Query slab) page may s = s
sound-serve l n (msg.Borrow slab) page may s =
    cond_both (lends l) _ _ (λ (t : Turn). IsSound t.lender) (λ _. sound-lend l n slab (first_where is_free l.slots) s)
    (λ _. s)
sound-serve l n (msg.Write lease place) page may s = sound-write l n lease place page may s
sound-serve l n (msg.Read lease place) page may s = s
sound-serve l n (msg.Rates lease value) page may s =
    sound-settle (record l { round = option_map (answer (slot_of l n lease) value) l.round }) _
    (record { given = s.given; differ = s.differ; slots = s.slots; places = s.places })
sound-serve l n (msg.Done lease) page may s = record {
  given = λ i k e. s.given i k (fewer-free l.slots (slot_of l n lease) i k e);
  differ =
      λ i j k e f.
      s.differ i j k (fewer-free l.slots (slot_of l n lease) i k e) (fewer-free l.slots (slot_of l n lease) j k f);
  slots = s.slots ∙ sym (length-set l.slots (slot_of l n lease) Free);
  places = s.places;
}
sound-serve l n _ page may s = s

greeted :
    (n : Link) (b : Bool)
    → map (greet_peer n) (record { link = n; greeted = b } ∷ []) ≡ record { link = n; greeted = true } ∷ []
greeted n b = let e : (n.0 == n.0) ≡ true = eq-eqb n.0 n.0 refl in rw e refl

pub alone-serve :
    (l : Lender) (n : Link) (m : Msg) (page : List ℕ) → IsAlone n false l.peers
    → IsAlone n false (serve l n m page).lender.peers
alone-serve l n (msg.Hello version page_bytes pages_per_slab) page a =
    (true, ap (map (greet_peer n)) a.1 ∙ greeted n a.0)
alone-serve l n (msg.Query slab) page a = a
alone-serve l n (msg.Borrow slab) page a =
    cond_both (lends l) _ _ (λ (t : Turn). IsAlone n false t.lender.peers) (λ _. a) (λ _. a)
alone-serve l n (msg.Write lease place) page a = a
alone-serve l n (msg.Read lease place) page a = a
alone-serve l n (msg.Rates lease value) page a = (
  a.0,
  peers-settle (record l { round = option_map (answer (slot_of l n lease) value) l.round })
      (slots_due (option_map (answer (slot_of l n lease) value) l.round))
      ∙ a.1,
)
alone-serve l n (msg.Done lease) page a = a
alone-serve l n _ page a = a

pub lending-serve : (l : Lender) (n : Link) (m : Msg) (page : List ℕ) → (serve l n m page).lender.lending ≡ l.lending
lending-serve l n (msg.Borrow slab) page =
    cond_both (lends l) _ _ (λ (t : Turn). t.lender.lending ≡ l.lending) (λ _. refl) (λ _. refl)
lending-serve l n (msg.Rates lease value) page =
    lending-settle (record l { round = option_map (answer (slot_of l n lease) value) l.round })
    (slots_due (option_map (answer (slot_of l n lease) value) l.round))
lending-serve l n _ page = refl

-- only a write reads the page that stands with a message
pub took-page : (l : Lender) (n : Link) (m : Msg) (page : List ℕ)
    → took_after l n m (parcel_of m page).page ≡ took_after l n m page
took-page l n (msg.Write lease place) page = refl
took-page l n (msg.PageIs lease place) page = refl
took-page l n _ page = refl

-- what a channel keeps, by its moves

pub fits-gone :
    (sizes : Sizes) (l : Lender) (n : Link) (a b : Lane) (g : Bool) (o : OutboxView) → ChannelFits sizes l n a b g o
    → g ≡ false
    → (m : Lender) → m ≡ (gone_after l n).lender → (p : OutboxView) → IsReady p l.lending → (a' b' : Lane)
    → a'.page_bytes ≡ a.page_bytes → b'.page_bytes ≡ b.page_bytes → ChannelFits sizes m n a' b' true p
fits-gone sizes l n a b g o f stands m e p ready a' b' pa pb =
    let lending : m.lending ≡ l.lending = ap (λ (k : Lender). k.lending) e ∙ lending-gone l n in
    let alone : IsAlone n false l.peers = subst (λ h. IsAlone n h l.peers) stands f.alone in
    record {
      sound = subst (λ (k : Lender). IsSound k) (sym e) (sound-gone l n f.sound);
      alone = ap (λ (k : Lender). k.peers) e ∙ peers-gone l n alone;
      one = ap (λ (s : Lending). s.links) lending ∙ f.one;
      page = ap (λ (s : Lending). s.page_bytes) lending ∙ f.page;
      to_lender_page = pa ∙ f.to_lender_page;
      to_device_page = pb ∙ f.to_device_page;
      ready = subst (λ s. IsReady p s) (sym lending) ready;
    }

pub fits-host :
    (sizes : Sizes) (l : Lender) (n : Link) (a b : Lane) (g : Bool) (o : OutboxView) (usage word : ℕ)
    → ChannelFits sizes l n a b g o
    → (m : Lender) → m ≡ (host l usage word).lender → (p : OutboxView) → IsReady p l.lending → (b' : Lane)
    → b'.page_bytes ≡ b.page_bytes → ChannelFits sizes m n a b' g p
fits-host sizes l n a b g o usage word f m e p ready b' pb =
    let lending : m.lending ≡ l.lending = ap (λ (k : Lender). k.lending) e ∙ lending-host l usage word in
    let peers : m.peers ≡ l.peers = ap (λ (k : Lender). k.peers) e ∙ peers-host l usage word in
    record {
      sound = subst (λ (k : Lender). IsSound k) (sym e) (sound-host l usage word f.sound);
      alone = subst (λ ps. IsAlone n g ps) (sym peers) f.alone;
      one = ap (λ (s : Lending). s.links) lending ∙ f.one;
      page = ap (λ (s : Lending). s.page_bytes) lending ∙ f.page;
      to_lender_page = f.to_lender_page;
      to_device_page = pb ∙ f.to_device_page;
      ready = subst (λ s. IsReady p s) (sym lending) ready;
    }

pub fits-serve :
    (sizes : Sizes) (l : Lender) (n : Link) (a b : Lane) (g : Bool) (o : OutboxView) (t : Msg) (page : List ℕ)
    → ChannelFits sizes l n a b g o → g ≡ false → may_send l n t ≡ true
    → (m : Lender) → m ≡ (took_after l n t page).lender → (p : OutboxView) → IsReady p l.lending → (b' : Lane)
    → b'.page_bytes ≡ b.page_bytes → ChannelFits sizes m n a b' g p
fits-serve sizes l n a b g o t page f stands may m e p ready b' pb =
    let e' : m ≡ (serve l n t page).lender =
    e ∙ ap (λ (u : Turn). u.lender) (cond-true (may_send l n t) (serve l n t page) (quiet_turn l) may) in
    let lending : m.lending ≡ l.lending = ap (λ (k : Lender). k.lending) e' ∙ lending-serve l n t page in
    let alone : IsAlone n false l.peers = subst (λ h. IsAlone n h l.peers) stands f.alone in
    record {
      sound = subst (λ (k : Lender). IsSound k) (sym e') (sound-serve l n t page may f.sound);
      alone =
          subst (λ h. IsAlone n h m.peers) (sym stands)
          (subst (λ (k : Lender). IsAlone n false k.peers) (sym e') (alone-serve l n t page alone));
      one = ap (λ (s : Lending). s.links) lending ∙ f.one;
      page = ap (λ (s : Lending). s.page_bytes) lending ∙ f.page;
      to_lender_page = f.to_lender_page;
      to_device_page = pb ∙ f.to_device_page;
      ready = subst (λ s. IsReady p s) (sym lending) ready;
    }

pub fits-connect :
    (sizes : Sizes) (l : Lender) (old n : Link) (a b : Lane) (o : OutboxView) → ChannelFits sizes l old a b true o
    → (m : Lender) → m ≡ arrive l n
    → (a' b' : Lane) → a'.page_bytes ≡ a.page_bytes → b'.page_bytes ≡ b.page_bytes → ChannelFits sizes m n a' b' false o
fits-connect sizes l old n a b o f m e a' b' pa pb =
    let is : m ≡ record l { peers = record { link = n; greeted = false } ∷ [] } = e ∙ arrived l n f.alone f.one in
    subst (λ (k : Lender). ChannelFits sizes k n a' b' false o) (sym is) (record {
      sound = record { given = f.sound.given; differ = f.sound.differ; slots = f.sound.slots; places = f.sound.places };
      alone = (false, refl);
      one = f.one;
      page = f.page;
      to_lender_page = pa ∙ f.to_lender_page;
      to_device_page = pb ∙ f.to_device_page;
      ready = f.ready;
    })

-- an outbox that was emptied is ready again
pub ready-again :
    (s : Lending) (o p q : OutboxView) (parcels : List (Link × Parcel)) (evicted : ℕ) → IsReady o s
    → p ≡ outbox_with o parcels evicted → q ≡ outbox_with p [] p.evicted → IsReady q s
ready-again s o p q parcels evicted r e d =
    let is : q ≡ outbox_with o [] evicted = d ∙ ap (λ x. outbox_with x [] x.evicted) e in
    subst (λ x. IsReady x s) (sym is) (record { empty = refl; slots = r.slots; page = r.page })

-- a message that is served

pub fine : (b : Bool) → served_by b ≡ served_is.Fine → b ≡ true
fine true e = refl
fine false e = cc

pub served-fine : (c : Channel) (m : Msg) (page : List ℕ) → may_send c.lender c.number m ≡ true
    → serve_after c (parcel_of m page)
    ≡ (
      gave_is.Got m (reply_of (took_after c.lender c.number m page).parcels)
          (took_after c.lender c.number m page).evicted,
      deliver_after c (took_after c.lender c.number m page),
    )
served-fine c m page may =
    let F : Turn → Gave × Channel = λ t. (gave_is.Got m (reply_of t.parcels) t.evicted, deliver_after c t) in
    cond-true (may_send c.lender c.number m) (F (took_after c.lender c.number m (parcel_of m page).page))
    (gave_is.Ended m, leave_after c) may
    ∙ ap F (took-page c.lender c.number m page)

pub served-by_parts : (c : Channel) (m : Msg) (page : List ℕ) → may_send c.lender c.number m ≡ true
    → (r : Option Msg) (evicted : ℕ) (l : Lender) (d : Lane)
    → r ≡ reply_of (took_after c.lender c.number m page).parcels
    → evicted ≡ (took_after c.lender c.number m page).evicted → l ≡ (took_after c.lender c.number m page).lender
    → d ≡ forward_after c.number c.to_device (took_after c.lender c.number m page).parcels
    → (gave_is.Got m r evicted, record c { lender = l; to_device = d }) ≡ serve_after c (parcel_of m page)
served-by_parts c m page may r evicted l d er ee el ed =
    let F : Option Msg → ℕ → Lender → Lane → Gave × Channel =
    λ r e l d. (gave_is.Got m r e, record c { lender = l; to_device = d }) in
    ap (λ x. F x evicted l d) er ∙ ap (λ x. F (reply_of (took_after c.lender c.number m page).parcels) x l d) ee
    ∙ ap (λ x. F (reply_of (took_after c.lender c.number m page).parcels) (took_after c.lender c.number m page).evicted
    x d) el
    ∙ ap
    (λ x.
    F (reply_of (took_after c.lender c.number m page).parcels) (took_after c.lender c.number m page).evicted
    (took_after c.lender c.number m page).lender x)
    ed
    ∙ sym (served-fine c m page may)

-- a lender that starts anew, and a message that changes nothing

pub fits-crash :
    (sizes : Sizes) (l : Lender) (n : Link) (a b : Lane) (g : Bool) (o : OutboxView) → ChannelFits sizes l n a b g o
    → (m : Lender) → m ≡ restart l
    → (h : Bool) → h ≡ true → (a' b' : Lane) → a'.page_bytes ≡ a.page_bytes → b'.page_bytes ≡ b.page_bytes
    → ChannelFits sizes m n a' b' h o
fits-crash sizes l n a b g o f m e h gone_now a' b' pa pb =
    let lending : m.lending ≡ l.lending = ap (λ (k : Lender). k.lending) e in
    record {
      sound = subst (λ (k : Lender). IsSound k) (sym e) (sound-fresh l.lending);
      alone = subst (λ x. IsAlone n x m.peers) (sym gone_now) (ap (λ (k : Lender). k.peers) e);
      one = ap (λ (s : Lending). s.links) lending ∙ f.one;
      page = ap (λ (s : Lending). s.page_bytes) lending ∙ f.page;
      to_lender_page = pa ∙ f.to_lender_page;
      to_device_page = pb ∙ f.to_device_page;
      ready = subst (λ s. IsReady o s) (sym lending) f.ready;
    }

pub not_fine : (b : Bool) → served_by b ≡ served_is.End → b ≡ false
not_fine true e = cc
not_fine false e = refl

pub fits-refused :
    (sizes : Sizes) (l : Lender) (n : Link) (a b : Lane) (g : Bool) (o : OutboxView) (t : Msg) (page : List ℕ)
    → ChannelFits sizes l n a b g o → may_send l n t ≡ false
    → (m : Lender) → m ≡ (took_after l n t page).lender → (p : OutboxView)
    → p ≡ outbox_with o (took_after l n t page).parcels (took_after l n t page).evicted → ChannelFits sizes m n a b g p
fits-refused sizes l n a b g o t page f may m em p ep =
    let same : took_after l n t page ≡ quiet_turn l =
    cond-false (may_send l n t) (serve l n t page) (quiet_turn l) may in
    let lender : m ≡ l = em ∙ ap (λ (u : Turn). u.lender) same in
    let outbox : p ≡ outbox_with o [] 0 = ep ∙ ap (λ (u : Turn). outbox_with o u.parcels u.evicted) same in
    subst (λ x. ChannelFits sizes m n a b g x) (sym outbox)
    (subst (λ k. ChannelFits sizes k n a b g (outbox_with o [] 0)) (sym lender) (record {
      sound = f.sound;
      alone = f.alone;
      one = f.one;
      page = f.page;
      to_lender_page = f.to_lender_page;
      to_device_page = f.to_device_page;
      ready = record { empty = refl; slots = f.ready.slots; page = f.ready.page };
    }))

-- no call of a channel changes its sizes

sizes-taken_from : (ch : Channel) (ps : List Parcel) → (taken_from ch ps).1.sizes ≡ ch.sizes
sizes-taken_from ch [] =
    cond_both ch.to_device.ended _ _ (λ (x : Handed × Channel). x.1.sizes ≡ ch.sizes) (λ _. refl) (λ _. refl)
sizes-taken_from ch (p ∷ ps) = refl

pub sizes-taken : (ch : Channel) → (take_after ch).1.sizes ≡ ch.sizes
sizes-taken ch =
    cond_both ch.device_gone _ _ (λ (x : Handed × Channel). x.1.sizes ≡ ch.sizes) (λ _. refl)
    (λ _. sizes-taken_from ch ch.to_device.parcels)

sizes-given_from : (ch : Channel) (ps : List Parcel) → (given_from ch ps).1.sizes ≡ ch.sizes
sizes-given_from ch [] =
    cond_both ch.to_lender.ended _ _ (λ (x : Gave × Channel). x.1.sizes ≡ ch.sizes) (λ _. refl) (λ _. refl)
sizes-given_from ch (p ∷ ps) =
    cond_both (may_send ch.lender ch.number p.msg) _ _ (λ (x : Gave × Channel). x.1.sizes ≡ ch.sizes) (λ _. refl)
    (λ _. refl)

pub sizes-given : (ch : Channel) → (give_after ch).1.sizes ≡ ch.sizes
sizes-given ch =
    cond_both ch.lender_gone _ _ (λ (x : Gave × Channel). x.1.sizes ≡ ch.sizes) (λ _. refl)
    (λ _. sizes-given_from ch ch.to_lender.parcels)
