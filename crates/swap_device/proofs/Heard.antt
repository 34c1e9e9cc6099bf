-- A message that is heard raises no link, and what follows on it makes the call.
use Rattle.std.proofs.Common.{◌≡◌, ℕ, ◌<◌, ◌≤◌, Bool, true, false, cond, ◌==◌, is_none, List, refl, sym, ◌∙◌, subst, Option, None, Some}
use Rattle.swap_base.specs.declared.Page.{Page}
use Rattle.swap_base.specs.declared.Caller.{Caller}
use Rattle.swap_base.specs.declared.Slab.{Slab}
use Rattle.swap_base.specs.declared.Lender.{Lender}
use Rattle.swap_base.specs.declared.Lease.{Lease}
use Rattle.swap_rings.specs.Rings.{LinkState, is_up}
use Rattle.swap_rings.specs.declared.Request.{Request}
use Rattle.swap_rings.specs.declared.Request.TheVariants as request
use Rattle.swap_slabs.specs.Slabs as slabs
use Rattle.swap_base.specs.declared.TheConstants.{MOST_LENDERS}
use Rattle.swap_disk.specs.Port.{DiskCall, DiskAnswer}
use Rattle.swap_remote.specs.Remote.{Remote, names_page, mapped_by, settled_for, with_page_if}
use Rattle.swap_wire.specs.declared.Msg.{Msg}
use Rattle.swap_wire.specs.declared.Msg.TheVariants as msg
use Rattle.swap_wire.specs.Fabric.{parcel_of, FabricCall, FabricAnswer, FabricOf, End}
use Rattle.swap_wire.specs.declared.fabric.Fabric.{Ghosts as FabricMeaning}
use Rattle.swap_table.specs.Ports.{Along}
use Rattle.swap_table.specs.declared.LinkStep.{LinkStep}
use Rattle.swap_table.specs.declared.LinkStep.TheVariants as link
use Rattle.swap_table.specs.Device.{Device, Core, Heard, of_device, query_reply, borrow_reply, write_reply, read_reply, rate_asked, taken_back, query_answered, borrow_answered, lent_or_refused, write_answered, read_answered, rate_told, heard_evict, heard_answer, heard_by, heard_parcel, with_step, lose, follow, understand}
use Rattle.swap_table.proofs.Programs.{Along-answering}
use Rattle.swap_device.specs.State.{IsReady, answered_of, heard_by_of, heard_of, heard_with}
use Rattle.swap_device.specs.declared.links.Answer.{Answer}
use Rattle.swap_device.proofs.Ready.{answered_up}

-- the device is of what it was, and no link is up that wasn't
abbrev pub RaisesNone : Device → Option Heard → Type 0
RaisesNone d None = Unit {0}
RaisesNone d (Some h) = (of_device h.device ≡ of_device d) × ((m : Lender) → is_up h.device.remote.links m ≡ true → is_up d.remote.links m ≡ true)

none_if : (d : Device) (b : Bool) (x : Option Heard) → RaisesNone d x → RaisesNone d (cond b x None)
none_if d true x h = h
none_if d false x h = tt

lent_none : (d : Device) (l : Lender) (slab : Slab) (o : Option Lease) → RaisesNone d (lent_or_refused d l slab o)
lent_none d l slab None = (refl, λ m up. answered_up d.remote.links l m up)
lent_none d l slab (Some lease) = none_if d (is_none (slabs.by_lease d.remote.slabs l lease)) _ (refl, λ m up. answered_up d.remote.links l m up)

query_none : (d : Device) (l : Lender) (slab : Slab) (o : Option (Slab × ℕ)) → RaisesNone d (query_answered d l slab o)
query_none d l slab None = tt
query_none d l slab (Some told) = none_if d (told.0.0 == slab.0) _ (refl, λ m up. answered_up d.remote.links l m up)

borrow_none : (d : Device) (l : Lender) (slab : Slab) (o : Option (Slab × Option Lease)) → RaisesNone d (borrow_answered d l slab o)
borrow_none d l slab None = tt
borrow_none d l slab (Some reply) = none_if d (reply.0.0 == slab.0) _ (lent_none d l slab reply.1)

answered_none : (d : Device) (l : Lender) (m : Msg) (bytes : List ℕ) (o : Option Request) → RaisesNone d (answered_of d l m bytes o)
answered_none d l m bytes None = tt
answered_none d l m bytes (Some (request.Query slab)) = query_none d l slab (query_reply m)
answered_none d l m bytes (Some (request.Borrow slab)) = borrow_none d l slab (borrow_reply m)
answered_none d l m bytes (Some (request.Write p e)) = go (write_reply m)
  where
    go : (o : Option (Lease × ℕ)) → RaisesNone d (write_answered d l p e o)
    go None = tt
    go (Some at) =
        none_if d (names_page d.sizes d.remote l p at.0 at.1) _
        (refl, λ n up. answered_up d.remote.links l n (subst (λ (ls : List LinkState). is_up ls n ≡ true) (paged _ (settled_for d.sizes d.remote l p)) up))
      where
        paged : (b : Bool) (r : Remote) → (with_page_if b r p).links ≡ r.links
        paged true r = refl
        paged false r = refl
answered_none d l m bytes (Some (request.Read c p)) = go (read_reply m)
  where
    go : (o : Option (Lease × ℕ)) → RaisesNone d (read_answered d l c p bytes o)
    go None = tt
    go (Some at) = none_if d (names_page d.sizes d.remote l p at.0 at.1) _ (refl, λ n up. answered_up d.remote.links l n up)

pub heard_none : (d : Device) (l : Lender) (m : Msg) (bytes : List ℕ) (o : Option Request) → RaisesNone d (heard_of d l m bytes o)
heard_none d l m bytes o = go (rate_asked m) (taken_back m)
  where
    told : (lease : Lease) (at : Option Slab) → RaisesNone d (rate_told d lease at)
    told lease None = tt
    told lease (Some slab) = (refl, λ n up. up)

    back : (at : Option Slab) → RaisesNone d (heard_evict d at)
    back None = tt
    back (Some slab) = (refl, λ n up. up)

    go : (rate taken : Option Lease) → RaisesNone d (heard_by_of d l m bytes o rate taken)
    go (Some lease) taken = told lease (mapped_by d.remote.slabs l lease)
    go None (Some lease) = back (mapped_by d.remote.slabs l lease)
    go None None = answered_none d l m bytes o

-- so what is heard leaves the device of what it was
heard_raises :
    (d now : Device) (l : Lender) (m : Msg) (bytes : List ℕ) (o : Option Request) (a : Answer) → heard_of d l m bytes o ≡ Some (heard_with now a)
    → RaisesNone d (Some (heard_with now a))
heard_raises d now l m bytes o a is = subst (λ (x : Option Heard). RaisesNone d x) is (heard_none d l m bytes o)

pub heard_of_was :
    (d now : Device) (l : Lender) (m : Msg) (bytes : List ℕ) (o : Option Request) (a : Answer) → heard_of d l m bytes o ≡ Some (heard_with now a)
    → of_device now ≡ of_device d
heard_of_was d now l m bytes o a is = (heard_raises d now l m bytes o a is).0

pub lender_heard : (d now : Device) (l : Lender) → of_device now ≡ of_device d → l.0 < d.lenders → l.0 < now.lenders
lender_heard d now l same within = subst (λ (o : FabricOf). l.0 < o.lenders) (sym same) within

module _ {D F : Type 0} where
  pub ready_heard :
      (fabric : FabricMeaning F) (core : Core D F) (now : Device) (l : Lender) (m : Msg) (bytes : List ℕ) (o : Option Request) (a : Answer) (spare : ℕ)
      → heard_of core.device l m bytes o ≡ Some (heard_with now a) → IsReady fabric core
      → IsReady fabric (record { device = now; disk = core.disk; fabric = core.fabric; spare = spare })
  ready_heard fabric core now l m bytes o a spare is h =
      let raises = heard_raises core.device now l m bytes o a is in
      let same : of_device now ≡ of_device core.device = raises.0 in
      record {
        of = h.of ∙ sym same;
        few = subst (λ (x : FabricOf). x.lenders ≤ MOST_LENDERS) (sym same) h.few;
        lead = λ n up. subst (λ (x : FabricOf). n.0 < x.lenders) (sym same) (h.lead n (raises.1 n up));
      }

module _ {D F : Type 0} (disk_moves : D → (c : DiskCall) → DiskAnswer c → D → Type 0) (moves : F → (c : FabricCall) → FabricAnswer c → F → Type 0) where
  -- a message that isn't heard ends its link
  pub unheard :
      (k k' : D) (f f1 f' : F) (d e : Device) (l : Lender) (m : Msg) (o : Option Heard) → o ≡ None → moves f (End l) tt f1
      → Along disk_moves moves (lose d l) k f1 k' f' e → Along disk_moves moves (understand d l m o) k f k' f' (e, LinkStep.Lied)
  unheard k k' f f1 f' d e l m o is ended along =
      subst (λ x. Along disk_moves moves (understand d l m x) k f k' f' (e, LinkStep.Lied)) (sym is)
      (tt, f1, ended, Along-answering disk_moves moves (with_step link.Lied) (lose d l) k f1 k' f' e along)

  pub heard_along :
      (k k' : D) (f f' : F) (d e : Device) (l : Lender) (m : Msg) (o : Option Heard) (h : Heard) → o ≡ Some h → Along disk_moves moves (follow h l) k f k' f' e
      → Along disk_moves moves (understand d l m o) k f k' f' (e, LinkStep.Got m)
  heard_along k k' f f' d e l m o h is along =
      subst (λ x. Along disk_moves moves (understand d l m x) k f k' f' (e, LinkStep.Got m)) (sym is)
      (Along-answering disk_moves moves (with_step (link.Got m)) (follow h l) k f k' f' e along)

-- a message is heard as it is with its page in a buffer
read_is :
    (d : Device) (l : Lender) (c : Caller) (p : Page) (bytes : List ℕ) (m : Msg)
    → read_answered d l c p (parcel_of m bytes).page (read_reply m) ≡ read_answered d l c p bytes (read_reply m)
read_is d l c p bytes (msg.Hello version page_bytes pages_per_slab) = refl
read_is d l c p bytes (msg.Query slab) = refl
read_is d l c p bytes (msg.Borrow slab) = refl
read_is d l c p bytes (msg.Write lease place) = refl
read_is d l c p bytes (msg.Read lease place) = refl
read_is d l c p bytes (msg.Rates lease value) = refl
read_is d l c p bytes (msg.Done lease) = refl
read_is d l c p bytes (msg.Room slab free) = refl
read_is d l c p bytes (msg.Lent slab lease) = refl
read_is d l c p bytes (msg.Refused slab) = refl
read_is d l c p bytes (msg.Wrote lease place) = refl
read_is d l c p bytes (msg.PageIs lease place) = refl
read_is d l c p bytes (msg.AskRates lease) = refl
read_is d l c p bytes (msg.Evict lease) = refl

answered_is : (d : Device) (l : Lender) (m : Msg) (bytes : List ℕ) (o : Option Request) → heard_answer d l (parcel_of m bytes) o ≡ answered_of d l m bytes o
answered_is d l m bytes None = refl
answered_is d l m bytes (Some (request.Query slab)) = refl
answered_is d l m bytes (Some (request.Borrow slab)) = refl
answered_is d l m bytes (Some (request.Write p e)) = refl
answered_is d l m bytes (Some (request.Read c p)) = read_is d l c p bytes m

pub heard_is : (d : Device) (l : Lender) (m : Msg) (bytes : List ℕ) (o : Option Request) → heard_parcel d l (parcel_of m bytes) o ≡ heard_of d l m bytes o
heard_is d l m bytes o = go (rate_asked m) (taken_back m)
  where
    go : (rate taken : Option Lease) → heard_by d l (parcel_of m bytes) o rate taken ≡ heard_by_of d l m bytes o rate taken
    go (Some lease) taken = refl
    go None (Some lease) = refl
    go None None = answered_is d l m bytes o
