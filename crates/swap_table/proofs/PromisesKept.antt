-- What a fabric's promises make of what its lenders keep and owe, call by call.
use Rattle.std.proofs.Common.{◌≡◌, ℕ, Bool, true, false, ◌==◌, ◌&&◌, List, [], refl, sym, ap, ◌∙◌, Option, None, Some}
use Rattle.std.proofs.lemmas.Bool.{eqb-true, and_left, and_right}
use Rattle.std.proofs.Math.Bool.{and-false}
use Rattle.swap_base.specs.declared.Slab.{Slab}
use Rattle.swap_base.specs.declared.Lender.{Lender}
use Rattle.swap_base.specs.declared.Link.{Link}
use Rattle.swap_base.specs.declared.Lease.{Lease}
use Rattle.swap_wire.specs.declared.Msg.{Msg}
use Rattle.swap_wire.specs.declared.Msg.TheVariants as msg
use Rattle.swap_wire.specs.declared.fabric.Sent.TheVariants as sent
use Rattle.swap_wire.specs.Fabric.{Parcel, parcel_of, write_parcel, read_parcel, Brought, NothingCame, LinkLost, FabricCall, Connect, Send, Take, End, FabricAnswer, is_page, is_read, lends, replaces, same_lender, ends_keeping, changes_owing}
use Rattle.swap_table.specs.Device.{query_reply, borrow_reply, write_reply, read_reply, rate_asked, taken_back}
use Rattle.swap_wire.specs.declared.fabric.Fabric.{Ghosts as FabricMeaning}
use Rattle.swap_table.specs.Promises.{Promises}
use Rattle.swap_base.proofs.Lists.{not_eqb}
use Rattle.swap_table.proofs.RequestsKeepServing.{KeepsBut, KeepsAll, OwesAll, OwesOthers}
use Rattle.swap_table.proofs.LendingKeepsSlabs.{KeepsButLease}
use Rattle.swap_table.proofs.LossKeepsServing.{KeepsOthers}

-- a call for one lender is none for another
another : (l m : Lender) → (m.0 ≡ l.0 → ⊥) → same_lender m l ≡ false
another l m other = not_eqb m.0 l.0 other

another_and : (l m : Lender) (b : Bool) → (m.0 ≡ l.0 → ⊥) → (same_lender m l && b) ≡ false
another_and l m b other = and_left (same_lender m l) b (another l m other)

-- what a message brings that answers a request
pub wrote_is : (m : Msg) (at : Lease × ℕ) → write_reply m ≡ Some at → ((k : Lease) → lends k m ≡ false) × (is_page m ≡ false)
wrote_is (msg.Hello v b n) at is = cc
wrote_is (msg.Query t) at is = cc
wrote_is (msg.Borrow t) at is = cc
wrote_is (msg.Write k i) at is = cc
wrote_is (msg.Read k i) at is = cc
wrote_is (msg.Rates k v) at is = cc
wrote_is (msg.Done k) at is = cc
wrote_is (msg.Room t f) at is = cc
wrote_is (msg.Lent t k) at is = cc
wrote_is (msg.Refused t) at is = cc
wrote_is (msg.Wrote k i) at is = ((λ j. refl), refl)
wrote_is (msg.PageIs k i) at is = cc
wrote_is (msg.AskRates k) at is = cc
wrote_is (msg.Evict k) at is = cc

pub room_is : (m : Msg) (at : Slab × ℕ) → query_reply m ≡ Some at → ((k : Lease) → lends k m ≡ false) × (is_page m ≡ false)
room_is (msg.Hello v b n) at is = cc
room_is (msg.Query t) at is = cc
room_is (msg.Borrow t) at is = cc
room_is (msg.Write k i) at is = cc
room_is (msg.Read k i) at is = cc
room_is (msg.Rates k v) at is = cc
room_is (msg.Done k) at is = cc
room_is (msg.Room t f) at is = ((λ j. refl), refl)
room_is (msg.Lent t k) at is = cc
room_is (msg.Refused t) at is = cc
room_is (msg.Wrote k i) at is = cc
room_is (msg.PageIs k i) at is = cc
room_is (msg.AskRates k) at is = cc
room_is (msg.Evict k) at is = cc

pub rate_is : (m : Msg) (at : Lease) → rate_asked m ≡ Some at → ((k : Lease) → lends k m ≡ false) × (is_page m ≡ false)
rate_is (msg.Hello v b n) at is = cc
rate_is (msg.Query t) at is = cc
rate_is (msg.Borrow t) at is = cc
rate_is (msg.Write k i) at is = cc
rate_is (msg.Read k i) at is = cc
rate_is (msg.Rates k v) at is = cc
rate_is (msg.Done k) at is = cc
rate_is (msg.Room t f) at is = cc
rate_is (msg.Lent t k) at is = cc
rate_is (msg.Refused t) at is = cc
rate_is (msg.Wrote k i) at is = cc
rate_is (msg.PageIs k i) at is = cc
rate_is (msg.AskRates k) at is = ((λ j. refl), refl)
rate_is (msg.Evict k) at is = cc

pub back_is : (m : Msg) (at : Lease) → taken_back m ≡ Some at → ((k : Lease) → lends k m ≡ false) × (is_page m ≡ false)
back_is (msg.Hello v b n) at is = cc
back_is (msg.Query t) at is = cc
back_is (msg.Borrow t) at is = cc
back_is (msg.Write k i) at is = cc
back_is (msg.Read k i) at is = cc
back_is (msg.Rates k v) at is = cc
back_is (msg.Done k) at is = cc
back_is (msg.Room t f) at is = cc
back_is (msg.Lent t k) at is = cc
back_is (msg.Refused t) at is = cc
back_is (msg.Wrote k i) at is = cc
back_is (msg.PageIs k i) at is = cc
back_is (msg.AskRates k) at is = cc
back_is (msg.Evict k) at is = ((λ j. refl), refl)

pub page_is : (m : Msg) (at : Lease × ℕ) → read_reply m ≡ Some at → ((k : Lease) → lends k m ≡ false) × (is_page m ≡ true)
page_is (msg.Hello v b n) at is = cc
page_is (msg.Query t) at is = cc
page_is (msg.Borrow t) at is = cc
page_is (msg.Write k i) at is = cc
page_is (msg.Read k i) at is = cc
page_is (msg.Rates k v) at is = cc
page_is (msg.Done k) at is = cc
page_is (msg.Room t f) at is = cc
page_is (msg.Lent t k) at is = cc
page_is (msg.Refused t) at is = cc
page_is (msg.Wrote k i) at is = cc
page_is (msg.PageIs k i) at is = ((λ j. refl), refl)
page_is (msg.AskRates k) at is = cc
page_is (msg.Evict k) at is = cc

abbrev lease_part : Option (Slab × Option Lease) → Option Lease
lease_part None = None
lease_part (Some reply) = reply.1

pub refused_is : (m : Msg) (slab : Slab) → borrow_reply m ≡ Some (slab, None) → ((k : Lease) → lends k m ≡ false) × (is_page m ≡ false)
refused_is (msg.Hello v b n) slab is = cc
refused_is (msg.Query t) slab is = cc
refused_is (msg.Borrow t) slab is = cc
refused_is (msg.Write k i) slab is = cc
refused_is (msg.Read k i) slab is = cc
refused_is (msg.Rates k v) slab is = cc
refused_is (msg.Done k) slab is = cc
refused_is (msg.Room t f) slab is = cc
refused_is (msg.Lent t k) slab is = let e : Some k ≡ None = ap lease_part is in cc
refused_is (msg.Refused t) slab is = ((λ j. refl), refl)
refused_is (msg.Wrote k i) slab is = cc
refused_is (msg.PageIs k i) slab is = cc
refused_is (msg.AskRates k) slab is = cc
refused_is (msg.Evict k) slab is = cc

lease_is : (k j : Lease) → Some k ≡ Some j → k ≡ j
lease_is k j is = cc

pub lent_is :
    (m : Msg) (slab : Slab) (lease : Lease) → borrow_reply m ≡ Some (slab, Some lease) → ((k : Lease) → lends k m ≡ (lease.0 == k.0)) × (is_page m ≡ false)
lent_is (msg.Hello v b n) slab lease is = cc
lent_is (msg.Query t) slab lease is = cc
lent_is (msg.Borrow t) slab lease is = cc
lent_is (msg.Write k i) slab lease is = cc
lent_is (msg.Read k i) slab lease is = cc
lent_is (msg.Rates k v) slab lease is = cc
lent_is (msg.Done k) slab lease is = cc
lent_is (msg.Room t f) slab lease is = cc
lent_is (msg.Lent t k) slab lease is = ((λ j. ap (λ (x : Lease). x.0 == j.0) (lease_is k lease (ap lease_part is))), refl)
lent_is (msg.Refused t) slab lease is = let e : None ≡ Some lease = ap lease_part is in cc
lent_is (msg.Wrote k i) slab lease is = cc
lent_is (msg.PageIs k i) slab lease is = cc
lent_is (msg.AskRates k) slab lease is = cc
lent_is (msg.Evict k) slab lease is = cc

module _ {F : Type 0} (fabric : FabricMeaning F) (laws : Promises fabric) where
  -- a call that ends nothing of what is kept, or of what is owed
  kept_all :
      (f : F) (c : FabricCall) (r : FabricAnswer c) (g : F) → fabric.moves f c r g → ((m : Lender) (k : Lease) (i : ℕ) → ends_keeping m k i c r ≡ false)
      → KeepsAll (fabric.keeps f) (fabric.keeps g)
  kept_all f c r g moved none m k i bytes h = laws.kept_until f c r g m k i bytes moved h (none m k i)

  owed_all :
      (f : F) (c : FabricCall) (r : FabricAnswer c) (g : F) → fabric.moves f c r g → ((m : Lender) → changes_owing m c r ≡ false)
      → OwesAll (fabric.owes f) (fabric.owes g)
  owed_all f c r g moved none m pages h = laws.owed_until f c r g m pages moved h (none m)

  kept_others :
      (f : F) (c : FabricCall) (r : FabricAnswer c) (g : F) (l : Lender) → fabric.moves f c r g
      → ((m : Lender) → (m.0 ≡ l.0 → ⊥) → (k : Lease) (i : ℕ) → ends_keeping m k i c r ≡ false) → KeepsOthers l (fabric.keeps f) (fabric.keeps g)
  kept_others f c r g l moved none m other k i bytes h = laws.kept_until f c r g m k i bytes moved h (none m other k i)

  owed_others :
      (f : F) (c : FabricCall) (r : FabricAnswer c) (g : F) (l : Lender) → fabric.moves f c r g → ((m : Lender) → (m.0 ≡ l.0 → ⊥) → changes_owing m c r ≡ false)
      → OwesOthers l (fabric.owes f) (fabric.owes g)
  owed_others f c r g l moved none m other pages h = laws.owed_until f c r g m pages moved h (none m other)

  -- a send: of a write, of a read, of another message, and one that finds the link down
  pub write_keeps :
      (f g : F) (l : Lender) (k : Lease) (i : ℕ) (bytes : List ℕ) → fabric.moves f (Send l (write_parcel k i bytes)) sent.Sent g
      → KeepsBut l k i (fabric.keeps f) (fabric.keeps g)
  write_keeps f g l k i bytes moved m j o b other h =
      laws.kept_until f (Send l (write_parcel k i bytes)) sent.Sent g m j o b moved h (ends (same_lender m l) refl (k.0 == j.0) refl (i == o) refl)
    where
      ends : (a : Bool) → same_lender m l ≡ a → (b : Bool) → (k.0 == j.0) ≡ b → (c : Bool) → (i == o) ≡ c → (a && (b && c)) ≡ false
      ends false ea b eb c ec = refl
      ends true ea false eb c ec = refl
      ends true ea true eb false ec = refl
      ends true ea true eb true ec = absurd (other (eqb-true m.0 l.0 ea) (sym (eqb-true k.0 j.0 eb)) (sym (eqb-true i o ec)))

  pub write_owes :
      (f g : F) (l : Lender) (k : Lease) (i : ℕ) (bytes : List ℕ) → fabric.moves f (Send l (write_parcel k i bytes)) sent.Sent g
      → OwesAll (fabric.owes f) (fabric.owes g)
  write_owes f g l k i bytes moved = owed_all f (Send l (write_parcel k i bytes)) sent.Sent g moved (λ m. and-false (same_lender m l))

  pub read_keeps :
      (f g : F) (l : Lender) (k : Lease) (i : ℕ) → fabric.moves f (Send l (read_parcel k i)) sent.Sent g → KeepsAll (fabric.keeps f) (fabric.keeps g)
  read_keeps f g l k i moved = kept_all f (Send l (read_parcel k i)) sent.Sent g moved (λ m j o. and-false (same_lender m l))

  pub read_owes :
      (f g : F) (l : Lender) (k : Lease) (i : ℕ) → fabric.moves f (Send l (read_parcel k i)) sent.Sent g → OwesOthers l (fabric.owes f) (fabric.owes g)
  read_owes f g l k i moved = owed_others f (Send l (read_parcel k i)) sent.Sent g l moved (λ m other. another_and l m true other)

  pub other_keeps :
      (f g : F) (l : Lender) (p : Parcel) → fabric.moves f (Send l p) sent.Sent g → ((k : Lease) (i : ℕ) → replaces k i p.msg ≡ false)
      → KeepsAll (fabric.keeps f) (fabric.keeps g)
  other_keeps f g l p moved none = kept_all f (Send l p) sent.Sent g moved (λ m j o. and_right (same_lender m l) (replaces j o p.msg) (none j o))

  pub other_owes : (f g : F) (l : Lender) (p : Parcel) → fabric.moves f (Send l p) sent.Sent g → is_read p.msg ≡ false → OwesAll (fabric.owes f) (fabric.owes g)
  other_owes f g l p moved none = owed_all f (Send l p) sent.Sent g moved (λ m. and_right (same_lender m l) (is_read p.msg) none)

  pub done_keeps :
      (f g : F) (l : Lender) (lease : Lease) → fabric.moves f (Send l (parcel_of (msg.Done lease) [])) sent.Sent g
      → KeepsButLease l lease (fabric.keeps f) (fabric.keeps g)
  done_keeps f g l lease moved m k i bytes other h =
      laws.kept_until f (Send l (parcel_of (msg.Done lease) [])) sent.Sent g m k i bytes moved h (ends (same_lender m l) refl (lease.0 == k.0) refl)
    where
      ends : (a : Bool) → same_lender m l ≡ a → (b : Bool) → (lease.0 == k.0) ≡ b → (a && b) ≡ false
      ends false ea b eb = refl
      ends true ea false eb = refl
      ends true ea true eb = absurd (other (eqb-true m.0 l.0 ea) (sym (eqb-true lease.0 k.0 eb)))

  pub down_keeps : (f g : F) (l : Lender) (p : Parcel) → fabric.moves f (Send l p) sent.Down g → KeepsOthers l (fabric.keeps f) (fabric.keeps g)
  down_keeps f g l p moved = kept_others f (Send l p) sent.Down g l moved (λ m other k i. another_and l m true other)

  pub down_owes : (f g : F) (l : Lender) (p : Parcel) → fabric.moves f (Send l p) sent.Down g → OwesOthers l (fabric.owes f) (fabric.owes g)
  down_owes f g l p moved = owed_others f (Send l p) sent.Down g l moved (λ m other. another_and l m true other)

  -- a take: of a message, of nothing, and one that finds the link lost
  pub took_keeps :
      (f g : F) (l : Lender) (p : Parcel) → fabric.moves f (Take l) (Brought p) g → ((k : Lease) → lends k p.msg ≡ false)
      → KeepsAll (fabric.keeps f) (fabric.keeps g)
  took_keeps f g l p moved none = kept_all f (Take l) (Brought p) g moved (λ m k i. and_right (same_lender m l) (lends k p.msg) (none k))

  pub lent_keeps :
      (f g : F) (l : Lender) (p : Parcel) (lease : Lease) → fabric.moves f (Take l) (Brought p) g → ((k : Lease) → lends k p.msg ≡ (lease.0 == k.0))
      → KeepsButLease l lease (fabric.keeps f) (fabric.keeps g)
  lent_keeps f g l p lease moved is m k i bytes other h =
      laws.kept_until f (Take l) (Brought p) g m k i bytes moved h (ap (λ b. same_lender m l && b) (is k) ∙ ends (same_lender m l) refl (lease.0 == k.0) refl)
    where
      ends : (a : Bool) → same_lender m l ≡ a → (b : Bool) → (lease.0 == k.0) ≡ b → (a && b) ≡ false
      ends false ea b eb = refl
      ends true ea false eb = refl
      ends true ea true eb = absurd (other (eqb-true m.0 l.0 ea) (sym (eqb-true lease.0 k.0 eb)))

  pub took_owes : (f g : F) (l : Lender) (p : Parcel) → fabric.moves f (Take l) (Brought p) g → is_page p.msg ≡ false → OwesAll (fabric.owes f) (fabric.owes g)
  took_owes f g l p moved none = owed_all f (Take l) (Brought p) g moved (λ m. and_right (same_lender m l) (is_page p.msg) none)

  pub page_owes : (f g : F) (l : Lender) (p : Parcel) → fabric.moves f (Take l) (Brought p) g → OwesOthers l (fabric.owes f) (fabric.owes g)
  page_owes f g l p moved = owed_others f (Take l) (Brought p) g l moved (λ m other. another_and l m (is_page p.msg) other)

  pub nothing_keeps : (f g : F) (l : Lender) → fabric.moves f (Take l) NothingCame g → KeepsAll (fabric.keeps f) (fabric.keeps g)
  nothing_keeps f g l moved = kept_all f (Take l) NothingCame g moved (λ m k i. and-false (same_lender m l))

  pub nothing_owes : (f g : F) (l : Lender) → fabric.moves f (Take l) NothingCame g → OwesAll (fabric.owes f) (fabric.owes g)
  nothing_owes f g l moved = owed_all f (Take l) NothingCame g moved (λ m. and-false (same_lender m l))

  pub loss_keeps : (f g : F) (l : Lender) → fabric.moves f (Take l) LinkLost g → KeepsOthers l (fabric.keeps f) (fabric.keeps g)
  loss_keeps f g l moved = kept_others f (Take l) LinkLost g l moved (λ m other k i. another_and l m true other)

  pub loss_owes : (f g : F) (l : Lender) → fabric.moves f (Take l) LinkLost g → OwesOthers l (fabric.owes f) (fabric.owes g)
  loss_owes f g l moved = owed_others f (Take l) LinkLost g l moved (λ m other. another_and l m true other)

  -- a message that isn't understood: what it brings is looked at no more, and the link is ended
  pub brought_keeps : (f g : F) (l : Lender) (p : Parcel) → fabric.moves f (Take l) (Brought p) g → KeepsOthers l (fabric.keeps f) (fabric.keeps g)
  brought_keeps f g l p moved = kept_others f (Take l) (Brought p) g l moved (λ m other k i. another_and l m (lends k p.msg) other)

  pub end_keeps : (f g : F) (l : Lender) → fabric.moves f (End l) tt g → KeepsOthers l (fabric.keeps f) (fabric.keeps g)
  end_keeps f g l moved = kept_others f (End l) tt g l moved (λ m other k i. another l m other)

  pub end_owes : (f g : F) (l : Lender) → fabric.moves f (End l) tt g → OwesOthers l (fabric.owes f) (fabric.owes g)
  end_owes f g l moved = owed_others f (End l) tt g l moved (λ m other. another l m other)

  pub connect_keeps : (f g : F) (l : Lender) (n : Link) → fabric.moves f (Connect l n) tt g → KeepsOthers l (fabric.keeps f) (fabric.keeps g)
  connect_keeps f g l n moved = kept_others f (Connect l n) tt g l moved (λ m other k i. another l m other)

  pub connect_owes : (f g : F) (l : Lender) (n : Link) → fabric.moves f (Connect l n) tt g → OwesOthers l (fabric.owes f) (fabric.owes g)
  connect_owes f g l n moved = owed_others f (Connect l n) tt g l moved (λ m other. another l m other)

  -- the far side moves
  pub far_keeps :
      (f : F) (c : FabricCall) (r : FabricAnswer c) (g : F) → fabric.moves f c r g → ((m : Lender) (k : Lease) (i : ℕ) → ends_keeping m k i c r ≡ false)
      → KeepsAll (fabric.keeps f) (fabric.keeps g)
  far_keeps f c r g moved none = kept_all f c r g moved none

  pub far_owes :
      (f : F) (c : FabricCall) (r : FabricAnswer c) (g : F) → fabric.moves f c r g → ((m : Lender) → changes_owing m c r ≡ false)
      → OwesAll (fabric.owes f) (fabric.owes g)
  far_owes f c r g moved none = owed_all f c r g moved none
