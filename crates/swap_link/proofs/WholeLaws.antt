-- Every call leaves a harbor that may be called again.
use Rattle.std.proofs.Common.{◌≡◌, ℕ, ◌+◌, ◌<◌, Bool, true, false, List, [], ◌∷◌, length, set, get_or, replicate, refl, sym, ap, ◌∙◌, subst, Option, None, Some}
use Rattle.std.specs.Prelude.{All, nat_lt, ◌==◌, option_map}
use Rattle.std.proofs.lemmas.Bool.{cond_both}
use Rattle.std.proofs.lemmas.List.{length-replicate}
use Rattle.std.proofs.lemmas.List.Elements.{All-nil, All-cons, All-head, All-tail, All-append, All-push, All-take, All-set, All-get_or, All-replicate}
use Rattle.swap_base.specs.Sizes.{Sizes}
use Rattle.swap_base.specs.declared.Lender.{Lender as LenderNo}
use Rattle.swap_base.specs.declared.Link.{Link}
use Rattle.swap_base.specs.declared.Lease.{Lease}
use Rattle.swap_wire.specs.declared.Msg.{Msg}
use Rattle.swap_wire.specs.declared.Msg.TheVariants as msg
use Rattle.swap_wire.specs.declared.fabric.Sent.{Sent}
use Rattle.swap_wire.specs.declared.fabric.Gave.{Gave}
use Rattle.swap_wire.specs.Fabric.{Parcel, parcel_of, carries_page, Handed, FabricCall, Connect, Send, Take, End, Give, Cut, Crash, Host}
use Rattle.swap_choice.specs.Slots.{has}
use Rattle.swap_evict.specs.Rounds.{answer}
use Rattle.swap_lender.specs.declared.SlotState.{SlotState}
use Rattle.swap_lender.specs.declared.SlotState.TheVariants.{Free, Held}
use Rattle.swap_lender.specs.declared.Notice.{Notice}
use Rattle.swap_lender.specs.declared.Notice.TheVariants as notice
use Rattle.swap_lender.specs.Lender.{Lender, blank_slab, lender_at_start, slots_free, lends, slot_of, page_in, is_free, first_where}
use Rattle.swap_lender.specs.Table.{Turn, parcels_told, tell_slot, message_of, settle_with, slots_due, serve, may_send, host, opens, measure_after, asked_slots, gone_after, arrive, has_room}
use Rattle.swap_link.specs.Lane.{Lane, append_after}
use Rattle.swap_link.specs.Channel.{Channel, channel_at_start, let_go, connect_after, send_after, take_after, taken_from, end_after, post_after, forward_after, serve_after, give_after, given_from, deliver_after, leave_after, cut_after, crash_after, on_channel}
use Rattle.swap_link.specs.Fits.{IsChannel}
use Rattle.swap_link.specs.Harbor.{lending_for, new_channel, no_channel, channel_of, lender_of}
use Rattle.swap_lender.specs.declared.Lending.{Lending}
use Rattle.std.specs.Prelude.{map}
use Rattle.swap_link.specs.lemmas.Sound.{sound-gone, sound-serve, sound-host, sound-fresh, lending-gone, lending-serve, lending-host, reached, after_leave, sizes-taken, sizes-given}
use Rattle.swap_link.specs.lemmas.KeepLaws.{took-served}
use Rattle.swap_link.specs.Whole.{ParcelFits, SlabFits, IsStored, IsWhole, CallFits, IsOfHarbor, AskKeeps, NewIsHarbor}

-- lanes

append-fits : (n : ℕ) (l : Lane) (p : Parcel) → ParcelFits n p → All (ParcelFits n) l.parcels → All (ParcelFits n) (append_after l p).parcels
append-fits n l p fit all =
    cond_both l.ended _ _ (λ (x : Lane). All (ParcelFits n) x.parcels) (λ _. all)
    (λ _.
    cond_both (nat_lt (length l.parcels) l.room) _ _ (λ (x : Lane). All (ParcelFits n) x.parcels) (λ _. All-push (ParcelFits n) l.parcels p all fit)
    (λ _. all))

append-page : (l : Lane) (p : Parcel) → (append_after l p).page_bytes ≡ l.page_bytes
append-page l p =
    cond_both l.ended _ _ (λ (x : Lane). x.page_bytes ≡ l.page_bytes) (λ _. refl)
    (λ _. cond_both (nat_lt (length l.parcels) l.room) _ _ (λ (x : Lane). x.page_bytes ≡ l.page_bytes) (λ _. refl) (λ _. refl))

abbrev pub PostFits : ℕ → Link × Parcel → Type 0
PostFits n q = ParcelFits n (parcel_of q.1.msg q.1.page)

forward-fits :
    (n : ℕ) (k : Link) (l : Lane) (qs : List (Link × Parcel)) → All (PostFits n) qs → All (ParcelFits n) l.parcels
    → All (ParcelFits n) (forward_after k l qs).parcels
forward-fits n k l [] fit all = all
forward-fits n k l (q ∷ qs) fit all =
    forward-fits n k (post_after k l q.0 (parcel_of q.1.msg q.1.page)) qs (All-tail (PostFits n) q qs fit)
    (cond_both (q.0.0 == k.0) _ _ (λ (x : Lane). All (ParcelFits n) x.parcels)
    (λ _. append-fits n l (parcel_of q.1.msg q.1.page) (All-head (PostFits n) q qs fit) all) (λ _. all))

forward-page : (k : Link) (l : Lane) (qs : List (Link × Parcel)) → (forward_after k l qs).page_bytes ≡ l.page_bytes
forward-page k l [] = refl
forward-page k l (q ∷ qs) =
    forward-page k (post_after k l q.0 (parcel_of q.1.msg q.1.page)) qs
    ∙ cond_both (q.0.0 == k.0) _ _ (λ (x : Lane). x.page_bytes ≡ l.page_bytes) (λ _. append-page l (parcel_of q.1.msg q.1.page)) (λ _. refl)

-- what a lender sends

one-fits : (n : ℕ) (q : Link × Parcel) → PostFits n q → All (PostFits n) (q ∷ [])
one-fits n q fit = All-cons (PostFits n) q [] fit (All-nil (PostFits n))

notice-fits : (n : ℕ) (kind : Notice) (link : Link) (lease : Lease) → PostFits n (link, parcel_of (message_of kind lease) [])
notice-fits n notice.AskRates link lease = λ e. cc
notice-fits n notice.Evict link lease = λ e. cc

tell-fits : (n : ℕ) (kind : Notice) (b : Bool) (s : SlotState) → All (PostFits n) (tell_slot kind b s)
tell-fits n kind false s = All-nil (PostFits n)
tell-fits n kind true Free = All-nil (PostFits n)
tell-fits n kind true (Held link slab lease evicting) = one-fits n (link, parcel_of (message_of kind lease) []) (notice-fits n kind link lease)

told-fits : (n : ℕ) (kind : Notice) (set from : ℕ) (slots : List SlotState) → All (PostFits n) (parcels_told kind set from slots)
told-fits n kind set from [] = All-nil (PostFits n)
told-fits n kind set from (s ∷ ss) =
    All-append (PostFits n) (tell_slot kind (has set from) s) (parcels_told kind set (from + 1) ss) (tell-fits n kind (has set from) s)
    (told-fits n kind set (from + 1) ss)

settle-fits : (n : ℕ) (l : Lender) (o : Option ℕ) → All (PostFits n) (settle_with l o).parcels
settle-fits n l None = All-nil (PostFits n)
settle-fits n l (Some set) = told-fits n notice.Evict set 0 l.slots

serve-fits : (n : ℕ) (l : Lender) (k : Link) (m : Msg) (page : List ℕ) → IsStored n l → may_send l k m ≡ true → All (PostFits n) (serve l k m page).parcels
serve-fits n l k (msg.Query slab) page s may = one-fits n (k, parcel_of (msg.Room slab (slots_free l)) []) (λ e. cc)
serve-fits n l k (msg.Borrow slab) page s may =
    cond_both (lends l) _ _ (λ (t : Turn). All (PostFits n) t.parcels)
    (λ _. one-fits n (k, parcel_of (msg.Lent slab (record { 0 = l.next_lease })) []) (λ e. cc))
    (λ _. one-fits n (k, parcel_of (msg.Refused slab) []) (λ e. cc))
serve-fits n l k (msg.Write lease place) page s may = one-fits n (k, parcel_of (msg.Wrote lease place) []) (λ e. cc)
serve-fits n l k (msg.Read lease place) page s may =
    let at = reached l k lease place s.sound may in
    let slab : SlabFits n (get_or l.contents (slot_of l k lease) []) = All-get_or (SlabFits n) l.contents (slot_of l k lease) [] at.0 s.contents in
    let size : length (get_or l.contents (slot_of l k lease) []) ≡ l.lending.pages_per_slab =
    All-get_or (λ slab. length slab ≡ l.lending.pages_per_slab) l.contents (slot_of l k lease) [] at.0 s.sound.places in
    let lt : place < length (get_or l.contents (slot_of l k lease) []) = subst (λ x. place < x) (sym size) at.1 in
    one-fits n (k, parcel_of (msg.PageIs lease place) (page_in l.contents (slot_of l k lease) place))
    (λ _. All-get_or (λ page. length page ≡ n) (get_or l.contents (slot_of l k lease) []) place [] lt slab)
serve-fits n l k (msg.Rates lease value) page s may =
    settle-fits n (record l { round = option_map (answer (slot_of l k lease) value) l.round })
    (slots_due (option_map (answer (slot_of l k lease) value) l.round))
serve-fits n l k _ page s may = All-nil (PostFits n)

host-fits : (n : ℕ) (l : Lender) (used word : ℕ) → All (PostFits n) (host l used word).parcels
host-fits n l used word =
    cond_both (opens (measure_after l used)) _ _ (λ (t : Turn). All (PostFits n) t.parcels)
    (λ _. told-fits n notice.AskRates (asked_slots (measure_after l used) word) 0 (measure_after l used).slots) (λ _. All-nil (PostFits n))

-- what a lender keeps

contents-settle : (l : Lender) (o : Option ℕ) → (settle_with l o).lender.contents ≡ l.contents
contents-settle l None = refl
contents-settle l (Some set) = refl

blank-fits : (n : ℕ) (l : Lender) → l.lending.page_bytes ≡ n → SlabFits n (blank_slab l.lending)
blank-fits n l e =
    All-replicate (λ page. length page ≡ n) l.lending.pages_per_slab (replicate l.lending.page_bytes 0) (length-replicate l.lending.page_bytes 0 ∙ e)

contents-serve :
    (n : ℕ) (l : Lender) (k : Link) (m : Msg) (page : List ℕ) → IsStored n l → may_send l k m ≡ true → (carries_page m ≡ true → length page ≡ n)
    → All (SlabFits n) (serve l k m page).lender.contents
contents-serve n l k (msg.Borrow slab) page s may fit =
    cond_both (lends l) _ _ (λ (t : Turn). All (SlabFits n) t.lender.contents)
    (λ _. All-set (SlabFits n) l.contents (first_where is_free l.slots) (blank_slab l.lending) (blank-fits n l s.page) s.contents) (λ _. s.contents)
contents-serve n l k (msg.Write lease place) page s may fit =
    let at = reached l k lease place s.sound may in
    let slab : SlabFits n (get_or l.contents (slot_of l k lease) []) = All-get_or (SlabFits n) l.contents (slot_of l k lease) [] at.0 s.contents in
    All-set (SlabFits n) l.contents (slot_of l k lease) (set (get_or l.contents (slot_of l k lease) []) place page)
    (All-set (λ page. length page ≡ n) (get_or l.contents (slot_of l k lease) []) place page (fit refl) slab) s.contents
contents-serve n l k (msg.Rates lease value) page s may fit =
    subst (λ cs. All (SlabFits n) cs)
    (sym
    (contents-settle (record l { round = option_map (answer (slot_of l k lease) value) l.round })
    (slots_due (option_map (answer (slot_of l k lease) value) l.round))))
    s.contents
contents-serve n l k _ page s may fit = s.contents

stored-serve :
    (n : ℕ) (l : Lender) (k : Link) (m : Msg) (page : List ℕ) → IsStored n l → may_send l k m ≡ true → (carries_page m ≡ true → length page ≡ n)
    → IsStored n (serve l k m page).lender
stored-serve n l k m page s may fit = record {
  sound = sound-serve l k m page may s.sound;
  page = ap (λ lending. lending.page_bytes) (lending-serve l k m page) ∙ s.page;
  contents = contents-serve n l k m page s may fit;
}

contents-host : (l : Lender) (used word : ℕ) → (host l used word).lender.contents ≡ l.contents
contents-host l used word = cond_both (opens (measure_after l used)) _ _ (λ (t : Turn). t.lender.contents ≡ l.contents) (λ _. refl) (λ _. refl)

stored-host : (n : ℕ) (l : Lender) (used word : ℕ) → IsStored n l → IsStored n (host l used word).lender
stored-host n l used word s = record {
  sound = sound-host l used word s.sound;
  page = ap (λ lending. lending.page_bytes) (lending-host l used word) ∙ s.page;
  contents = subst (λ cs. All (SlabFits n) cs) (sym (contents-host l used word)) s.contents;
}

stored-gone : (n : ℕ) (l : Lender) (k : Link) → IsStored n l → IsStored n (gone_after l k).lender
stored-gone n l k s = record {
  sound = sound-gone l k s.sound;
  page = ap (λ lending. lending.page_bytes) (lending-gone l k) ∙ s.page;
  contents = subst (λ cs. All (SlabFits n) cs) (sym (contents-settle (after_leave l k) (slots_due (after_leave l k).round))) s.contents;
}

stored-fresh : (n : ℕ) (s : Lending) → s.page_bytes ≡ n → IsStored n (lender_at_start s)
stored-fresh n s e = record {
  sound = sound-fresh s;
  page = e;
  contents = All-replicate (SlabFits n) s.spec.slots (blank_slab s) (blank-fits n (lender_at_start s) e);
}

stored-arrive : (n : ℕ) (l : Lender) (k : Link) → IsStored n l → IsStored n (arrive l k)
stored-arrive n l k s =
    cond_both (has_room l) _ _ (λ (m : Lender). IsStored n m)
    (λ _.
    record {
      sound = record { given = s.sound.given; differ = s.sound.differ; slots = s.sound.slots; places = s.sound.places };
      page = s.page;
      contents = s.contents;
    })
    (λ _. s)

-- channels

whole-new : (n : ℕ) (sizes : Sizes) (s : Lending) (room : ℕ) → s.page_bytes ≡ n → sizes.page_bytes ≡ n
    → IsWhole n (channel_at_start sizes (lender_at_start s) room)
whole-new n sizes s room e f =
    record { stored = stored-fresh n s e; to_lender_page = f; to_device_page = f; to_lender = All-nil (ParcelFits n); to_device = All-nil (ParcelFits n) }

whole-connect : (n : ℕ) (ch : Channel) (k : Link) → IsWhole n ch → IsWhole n (connect_after ch k)
whole-connect n ch k w = record {
  stored =
      stored-arrive n (let_go ch) k
      (cond_both ch.lender_gone _ _ (λ (l : Lender). IsStored n l) (λ _. w.stored) (λ _. stored-gone n ch.lender ch.number w.stored));
  to_lender_page = w.to_lender_page;
  to_device_page = w.to_device_page;
  to_lender = All-nil (ParcelFits n);
  to_device = All-nil (ParcelFits n);
}

whole-send : (n : ℕ) (ch : Channel) (p : Parcel) → ParcelFits n p → IsWhole n ch → IsWhole n (send_after ch p).1
whole-send n ch p fit w =
    cond_both ch.device_gone _ _ (λ (x : Sent × Channel). IsWhole n x.1) (λ _. w)
    (λ _.
    record {
      stored = w.stored;
      to_lender_page = append-page ch.to_lender p ∙ w.to_lender_page;
      to_device_page = w.to_device_page;
      to_lender = append-fits n ch.to_lender p fit w.to_lender;
      to_device = w.to_device;
    })

whole-taken_from : (n : ℕ) (ch : Channel) (ps : List Parcel) → All (ParcelFits n) ps → IsWhole n ch → IsWhole n (taken_from ch ps).1
whole-taken_from n ch [] fit w =
    cond_both ch.to_device.ended _ _ (λ (x : Handed × Channel). IsWhole n x.1)
    (λ _.
    record { stored = w.stored; to_lender_page = w.to_lender_page; to_device_page = w.to_device_page; to_lender = w.to_lender; to_device = w.to_device })
    (λ _. w)
whole-taken_from n ch (p ∷ ps) fit w =
    record {
      stored = w.stored;
      to_lender_page = w.to_lender_page;
      to_device_page = w.to_device_page;
      to_lender = w.to_lender;
      to_device = All-tail (ParcelFits n) p ps fit;
    }

whole-take : (n : ℕ) (ch : Channel) → IsWhole n ch → IsWhole n (take_after ch).1
whole-take n ch w =
    cond_both ch.device_gone _ _ (λ (x : Handed × Channel). IsWhole n x.1) (λ _. w) (λ _. whole-taken_from n ch ch.to_device.parcels w.to_device w)

whole-end : (n : ℕ) (ch : Channel) → IsWhole n ch → IsWhole n (end_after ch)
whole-end n ch w =
    record {
      stored = w.stored;
      to_lender_page = w.to_lender_page;
      to_device_page = w.to_device_page;
      to_lender = w.to_lender;
      to_device = All-nil (ParcelFits n);
    }

whole-abandon : (n : ℕ) (ch : Channel) → IsWhole n ch → IsWhole n (leave_after ch)
whole-abandon n ch w =
    record {
      stored = stored-gone n ch.lender ch.number w.stored;
      to_lender_page = w.to_lender_page;
      to_device_page = w.to_device_page;
      to_lender = All-nil (ParcelFits n);
      to_device = w.to_device;
    }

whole-deliver : (n : ℕ) (ch : Channel) (t : Turn) → IsStored n t.lender → All (PostFits n) t.parcels → IsWhole n ch → IsWhole n (deliver_after ch t)
whole-deliver n ch t s fit w =
    record {
      stored = s;
      to_lender_page = w.to_lender_page;
      to_device_page = forward-page ch.number ch.to_device t.parcels ∙ w.to_device_page;
      to_lender = w.to_lender;
      to_device = forward-fits n ch.number ch.to_device t.parcels fit w.to_device;
    }

whole-served : (n : ℕ) (ch : Channel) (p : Parcel) → ParcelFits n p → IsWhole n ch → IsWhole n (serve_after ch p).1
whole-served n ch p fit w =
    cond_both (may_send ch.lender ch.number p.msg) _ _ (λ (x : Gave × Channel). IsWhole n x.1)
    (λ may.
    subst (λ (t : Turn). IsWhole n (deliver_after ch t)) (sym (took-served ch.lender ch.number p.msg p.page may))
    (whole-deliver n ch (serve ch.lender ch.number p.msg p.page) (stored-serve n ch.lender ch.number p.msg p.page w.stored may fit)
    (serve-fits n ch.lender ch.number p.msg p.page w.stored may) w))
    (λ _. whole-abandon n ch w)

whole-given_from : (n : ℕ) (ch : Channel) (ps : List Parcel) → All (ParcelFits n) ps → IsWhole n ch → IsWhole n (given_from ch ps).1
whole-given_from n ch [] fit w = cond_both ch.to_lender.ended _ _ (λ (x : Gave × Channel). IsWhole n x.1) (λ _. whole-abandon n ch w) (λ _. w)
whole-given_from n ch (p ∷ ps) fit w =
    whole-served n (record ch { to_lender = record ch.to_lender { parcels = ps } }) p (All-head (ParcelFits n) p ps fit)
    (record {
      stored = w.stored;
      to_lender_page = w.to_lender_page;
      to_device_page = w.to_device_page;
      to_lender = All-tail (ParcelFits n) p ps fit;
      to_device = w.to_device;
    })

whole-give : (n : ℕ) (ch : Channel) → IsWhole n ch → IsWhole n (give_after ch).1
whole-give n ch w =
    cond_both ch.lender_gone _ _ (λ (x : Gave × Channel). IsWhole n x.1) (λ _. w) (λ _. whole-given_from n ch ch.to_lender.parcels w.to_lender w)

whole-cut : (n : ℕ) (ch : Channel) (a b : ℕ) → IsWhole n ch → IsWhole n (cut_after ch a b).1
whole-cut n ch a b w =
    record {
      stored = w.stored;
      to_lender_page = w.to_lender_page;
      to_device_page = w.to_device_page;
      to_lender = All-take (ParcelFits n) a ch.to_lender.parcels w.to_lender;
      to_device = All-take (ParcelFits n) b ch.to_device.parcels w.to_device;
    }

whole-crash : (n : ℕ) (ch : Channel) → IsWhole n ch → IsWhole n (crash_after ch)
whole-crash n ch w =
    cond_both ch.lender_gone _ _ (λ (x : Channel). IsWhole n x)
    (λ _.
    record {
      stored = stored-fresh n ch.lender.lending w.stored.page;
      to_lender_page = w.to_lender_page;
      to_device_page = w.to_device_page;
      to_lender = w.to_lender;
      to_device = w.to_device;
    })
    (λ _.
    record {
      stored = stored-fresh n ch.lender.lending w.stored.page;
      to_lender_page = w.to_lender_page;
      to_device_page = w.to_device_page;
      to_lender = All-nil (ParcelFits n);
      to_device = w.to_device;
    })

whole-call : (n : ℕ) (ch : Channel) (c : FabricCall) → CallFits n c → IsWhole n ch → IsWhole n (on_channel ch c).1
whole-call n ch (Connect lender link) fit w = whole-connect n ch link w
whole-call n ch (Send lender p) fit w = whole-send n ch p fit w
whole-call n ch (Take lender) fit w = whole-take n ch w
whole-call n ch (End lender) fit w = whole-end n ch w
whole-call n ch (Give lender) fit w = whole-give n ch w
whole-call n ch (Cut lender to_lender to_device) fit w = whole-cut n ch to_lender to_device w
whole-call n ch (Crash lender) fit w = whole-crash n ch w
whole-call n ch (Host lender used word) fit w =
    whole-deliver n ch (host ch.lender used word) (stored-host n ch.lender used word w.stored) (host-fits n ch.lender used word) w

sizes-call : (ch : Channel) (c : FabricCall) → (on_channel ch c).1.sizes ≡ ch.sizes
sizes-call ch (Connect lender link) = refl
sizes-call ch (Send lender p) = cond_both ch.device_gone _ _ (λ (x : Sent × Channel). x.1.sizes ≡ ch.sizes) (λ _. refl) (λ _. refl)
sizes-call ch (Take lender) = sizes-taken ch
sizes-call ch (End lender) = refl
sizes-call ch (Give lender) = sizes-given ch
sizes-call ch (Cut lender to_lender to_device) = refl
sizes-call ch (Crash lender) = cond_both ch.lender_gone _ _ (λ (x : Channel). x.sizes ≡ ch.sizes) (λ _. refl) (λ _. refl)
sizes-call ch (Host lender used word) = refl

-- harbors

is-channel : (s : Sizes) (c : Channel) → IsOfHarbor s c → IsChannel c
is-channel s c o =
    let e : s.page_bytes ≡ c.sizes.page_bytes = ap (λ (x : Sizes). x.page_bytes) (sym o.sizes) in
    record {
      sound = o.whole.stored.sound;
      to_lender_page = o.whole.to_lender_page ∙ e;
      to_device_page = o.whole.to_device_page ∙ e;
      page = o.whole.stored.page ∙ e;
      pages = subst (λ n. All (ParcelFits n) c.to_device.parcels) (sym o.whole.to_device_page) o.whole.to_device;
    }

pub ask_keeps : AskKeeps
ask_keeps h c all fit lt =
    let l : LenderNo = lender_of c in
    let here : IsOfHarbor h.sizes (channel_of h (lender_of c)) = All-get_or (IsOfHarbor h.sizes) h.channels (lender_of c).0 (no_channel h.sizes) lt all in
    let after : IsOfHarbor h.sizes (on_channel (channel_of h (lender_of c)) c).1 =
    record {
      sizes = sizes-call (channel_of h (lender_of c)) c ∙ here.sizes;
      whole = whole-call h.sizes.page_bytes (channel_of h (lender_of c)) c fit here.whole;
    } in (
      All-set (IsOfHarbor h.sizes) h.channels (lender_of c).0 (on_channel (channel_of h (lender_of c)) c).1 after all,
      (record { range = lt; channel = is-channel h.sizes (channel_of h (lender_of c)) here; sizes = here.sizes }, refl),
    )

pub new_is_harbor : NewIsHarbor
new_is_harbor s [] = All-nil (IsOfHarbor s)
new_is_harbor s (spec ∷ specs) =
    All-cons (IsOfHarbor s) (new_channel s spec) (map (new_channel s) specs)
    (record { sizes = refl; whole = whole-new s.page_bytes s (lending_for s spec) (s.window + spec.slots + 1) refl refl }) (new_is_harbor s specs)
