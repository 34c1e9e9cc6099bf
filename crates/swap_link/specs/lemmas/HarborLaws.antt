-- The harbor is a fabric.
use Rattle.std.proofs.Common.{◌≡◌, ℕ, ◌<◌, inl, inr, true, false, List, [], ◌∷◌, ◌++◌, length, get_or, refl, sym, ap, ◌∙◌, subst, get_or-set_same, get_or-set_other}
use Rattle.std.specs.Prelude.{All}
use Rattle.std.proofs.lemmas.Bool.{cond_both, cases_eq}
use Rattle.std.proofs.lemmas.List.{length-set}
use Rattle.swap_base.specs.declared.Lender.{Lender}
use Rattle.swap_base.specs.declared.Link.{Link}
use Rattle.swap_base.specs.declared.Lease.{Lease}
use Rattle.swap_wire.specs.declared.fabric.Sent.{Sent}
use Rattle.swap_wire.specs.declared.fabric.Sent.TheVariants as sent_is
use Rattle.swap_wire.specs.Fabric.{Parcel, write_parcel, read_parcel, Handed, Brought, FabricCall, Connect, Send, Take, FabricAnswer, carries_page, is_page, ends_keeping, changes_owing}
use Rattle.swap_link.specs.Channel.{Channel, connect_after, send_after, take_after, taken_from, on_channel}
use Rattle.swap_link.specs.Keeping.{Keeps, Owes}
use Rattle.swap_link.specs.Harbor.{Harbor, of_harbor, no_channel, channel_of, with_channel, lender_of, ask, IsAsked, Moves, KeepsAt, OwesAt}
use Rattle.swap_link.specs.lemmas.KeepLaws.{keeps-call, keeps-write}
use Rattle.swap_link.specs.lemmas.OweLaws.{owes-call, owes-connected, owes-read, paged-taken}
use Rattle.swap_base.specs.Sizes.{Sizes}
use Rattle.std.proofs.lemmas.List.Elements.{All-head}

-- the channel that was called, and every other

pub called :
    (h : Harbor) (l : Lender) (ch : Channel) → l.0 < length h.channels → channel_of (with_channel h l ch) l ≡ ch
called h l ch lt = get_or-set_same h.channels l.0 ch (no_channel h.sizes) lt

pub same_channel : (h : Harbor) (l m : Lender) → l.0 ≡ m.0 → channel_of h l ≡ channel_of h m
same_channel h l m e = ap (λ n. get_or h.channels n (no_channel h.sizes)) e

pub other_channel :
    (h : Harbor) (l m : Lender) (ch : Channel) → (l.0 ≡ m.0 → ⊥) → channel_of (with_channel h m ch) l ≡ channel_of h l
other_channel h l m ch ne = get_or-set_other h.channels m.0 l.0 ch (no_channel h.sizes) ne

-- a fact about a channel through a call: it is shown of the channel that was called, and any other keeps its own
pub through :
    (P : Channel → Type 0) (f : Harbor) (c : FabricCall) (l : Lender) → IsAsked f (lender_of c) → P (channel_of f l)
    → (l.0 ≡ (lender_of c).0 → P (channel_of f (lender_of c)) → P (on_channel (channel_of f (lender_of c)) c).1)
    → P (channel_of (ask f c).1 l)
through P f c l is here step = elim (cases_eq l.0 (lender_of c).0) [
  | inl e ↦
      subst P
      (sym
      (same_channel (ask f c).1 l (lender_of c) e
      ∙ called f (lender_of c) (on_channel (channel_of f (lender_of c)) c).1 is.range))
      (step e (subst P (same_channel f l (lender_of c) e) here))
  | inr ne ↦ subst P (sym (other_channel f l (lender_of c) (on_channel (channel_of f (lender_of c)) c).1 ne)) here
]

pub moves_keep_of :
    (f : Harbor) (c : FabricCall) (r : FabricAnswer c) (g : Harbor) → Moves f c r g → of_harbor g ≡ of_harbor f
moves_keep_of f c r g moved =
    ap (λ (x : FabricAnswer c × Harbor). of_harbor x.1) (sym moved.1)
    ∙ ap (λ n. record { sizes = f.sizes; lenders = n })
    (length-set f.channels (lender_of c).0 (on_channel (channel_of f (lender_of c)) c).1)

pub kept_until :
    (f : Harbor) (c : FabricCall) (r : FabricAnswer c) (g : Harbor) (l : Lender) (k : Lease) (i : ℕ) (bytes : List ℕ)
    → Moves f c r g → KeepsAt f l k i bytes → ends_keeping l k i c r ≡ false → KeepsAt g l k i bytes
kept_until f c r g l k i bytes moved kept =
    let P : FabricAnswer c × Harbor → Type 0 = λ x. ends_keeping l k i c x.0 ≡ false → KeepsAt x.1 l k i bytes in
    subst P moved.1
    (λ until.
    through (λ ch. Keeps ch k i bytes) f c l moved.0 kept
    (λ e h. keeps-call (channel_of f (lender_of c)) c l k i bytes moved.0.channel e h until))

-- a write that is sent
sent-keeps :
    (ch : Channel) (k : Lease) (i : ℕ) (bytes : List ℕ) → (send_after ch (write_parcel k i bytes)).0 ≡ sent_is.Sent
    → Keeps (send_after ch (write_parcel k i bytes)).1 k i bytes
sent-keeps ch k i bytes =
    cond_both ch.device_gone _ _ (λ (x : Sent × Channel). x.0 ≡ sent_is.Sent → Keeps x.1 k i bytes) (λ _ e. cc)
    (λ _ _. keeps-write ch k i bytes)

pub write_is_kept :
    (f : Harbor) (l : Lender) (k : Lease) (i : ℕ) (bytes : List ℕ) (g : Harbor)
    → Moves f (Send l (write_parcel k i bytes)) sent_is.Sent g → KeepsAt g l k i bytes
write_is_kept f l k i bytes g moved =
    let P : Sent × Harbor → Type 0 = λ x. x.0 ≡ sent_is.Sent → KeepsAt x.1 l k i bytes in
    subst P moved.1
    (λ e.
    subst (λ ch. Keeps ch k i bytes)
    (sym (called f l (send_after (channel_of f l) (write_parcel k i bytes)).1 moved.0.range))
    (sent-keeps (channel_of f l) k i bytes e))
    refl

-- pages that are owed

pub owed_until :
    (f : Harbor) (c : FabricCall) (r : FabricAnswer c) (g : Harbor) (l : Lender) (pages : List (List ℕ)) → Moves f c r g
    → OwesAt f l pages → changes_owing l c r ≡ false → OwesAt g l pages
owed_until f c r g l pages moved owed =
    let P : FabricAnswer c × Harbor → Type 0 = λ x. changes_owing l c x.0 ≡ false → OwesAt x.1 l pages in
    subst P moved.1
    (λ until.
    through (λ ch. Owes ch pages) f c l moved.0 owed
    (λ e h. owes-call (channel_of f (lender_of c)) c l pages moved.0.channel e h until))

pub new_link_owes_none : (f : Harbor) (l : Lender) (n : Link) (g : Harbor) → Moves f (Connect l n) tt g → OwesAt g l []
new_link_owes_none f l n g moved =
    let P : Unit {0} × Harbor → Type 0 = λ x. OwesAt x.1 l [] in
    subst P moved.1
    (subst (λ ch. Owes ch []) (sym (called f l (connect_after (channel_of f l) n) moved.0.range))
    (owes-connected (channel_of f l) n))

sent-owes :
    (ch : Channel) (k : Lease) (i : ℕ) (bytes : List ℕ) (pages : List (List ℕ)) → Owes ch pages → Keeps ch k i bytes
    → (send_after ch (read_parcel k i)).0 ≡ sent_is.Sent
    → Owes (send_after ch (read_parcel k i)).1 (pages ++ bytes ∷ [])
sent-owes ch k i bytes pages owed kept =
    cond_both ch.device_gone _ _ (λ (x : Sent × Channel). x.0 ≡ sent_is.Sent → Owes x.1 (pages ++ bytes ∷ []))
    (λ _ e. cc)
    (λ _ _. owes-read ch k i bytes pages kept owed)

pub read_is_owed :
    (f : Harbor) (l : Lender) (k : Lease) (i : ℕ) (bytes : List ℕ) (pages : List (List ℕ)) (g : Harbor)
    → Moves f (Send l (read_parcel k i)) sent_is.Sent g → OwesAt f l pages → KeepsAt f l k i bytes
    → OwesAt g l (pages ++ bytes ∷ [])
read_is_owed f l k i bytes pages g moved owed kept =
    let P : Sent × Harbor → Type 0 = λ x. x.0 ≡ sent_is.Sent → OwesAt x.1 l (pages ++ bytes ∷ []) in
    subst P moved.1
    (λ e.
    subst (λ ch. Owes ch (pages ++ bytes ∷ []))
    (sym (called f l (send_after (channel_of f l) (read_parcel k i)).1 moved.0.range))
    (sent-owes (channel_of f l) k i bytes pages owed kept e))
    refl

paged :
    (f : Harbor) (l : Lender) (p : Parcel) (g : Harbor) (page : List ℕ) (rest : List (List ℕ))
    → Moves f (Take l) (Brought p) g → is_page p.msg ≡ true → OwesAt f l (page ∷ rest)
    → OwesAt g l rest × (page ≡ p.page)
paged f l p g page rest moved is owed =
    let P : Handed × Harbor → Type 0 = λ x. x.0 ≡ Brought p → OwesAt x.1 l rest × (page ≡ p.page) in
    subst P moved.1
    (λ e.
    subst (λ ch. Owes ch rest × (page ≡ p.page)) (sym (called f l (take_after (channel_of f l)).1 moved.0.range))
    (paged-taken (channel_of f l) p page rest owed is e))
    refl

pub page_was_owed :
    (f : Harbor) (l : Lender) (p : Parcel) (g : Harbor) (page : List ℕ) (rest : List (List ℕ))
    → Moves f (Take l) (Brought p) g → is_page p.msg ≡ true → OwesAt f l (page ∷ rest) → OwesAt g l rest
page_was_owed f l p g page rest moved is owed = (paged f l p g page rest moved is owed).0

pub page_answers :
    (f : Harbor) (l : Lender) (p : Parcel) (g : Harbor) (page : List ℕ) (rest : List (List ℕ))
    → Moves f (Take l) (Brought p) g → is_page p.msg ≡ true → OwesAt f l (page ∷ rest) → page ≡ p.page
page_answers f l p g page rest moved is owed = (paged f l p g page rest moved is owed).1

-- a page that is taken

fits-taken_from :
    (ch : Channel) (ps : List Parcel) (p : Parcel) (page_bytes : ℕ)
    → All (λ (q : Parcel). carries_page q.msg ≡ true → length q.page ≡ page_bytes) ps → (taken_from ch ps).0 ≡ Brought p
    → carries_page p.msg ≡ true → length p.page ≡ page_bytes
fits-taken_from ch [] p page_bytes fit =
    cond_both ch.to_device.ended _ _
    (λ (x : Handed × Channel). x.0 ≡ Brought p → carries_page p.msg ≡ true → length p.page ≡ page_bytes) (λ _ e. cc)
    (λ _ e. cc)
fits-taken_from ch (q ∷ ps) p page_bytes fit = λ e.
    let same : q ≡ p = brought q p e in
    subst (λ (x : Parcel). carries_page x.msg ≡ true → length x.page ≡ page_bytes) same
    (All-head (λ (q : Parcel). carries_page q.msg ≡ true → length q.page ≡ page_bytes) q ps fit)
  where
    brought : (a b : Parcel) → Brought a ≡ Brought b → a ≡ b
    brought a b e = cc

fits-taken :
    (ch : Channel) (p : Parcel) (page_bytes : ℕ)
    → All (λ (q : Parcel). carries_page q.msg ≡ true → length q.page ≡ page_bytes) ch.to_device.parcels
    → (take_after ch).0 ≡ Brought p → carries_page p.msg ≡ true → length p.page ≡ page_bytes
fits-taken ch p page_bytes fit =
    cond_both ch.device_gone _ _
    (λ (x : Handed × Channel). x.0 ≡ Brought p → carries_page p.msg ≡ true → length p.page ≡ page_bytes) (λ _ e. cc)
    (λ _. fits-taken_from ch ch.to_device.parcels p page_bytes fit)

pub taken_fits :
    (f : Harbor) (l : Lender) (p : Parcel) (g : Harbor) → Moves f (Take l) (Brought p) g → carries_page p.msg ≡ true
    → length p.page ≡ (of_harbor f).sizes.page_bytes
taken_fits f l p g moved carries =
    fits-taken (channel_of f l) p (channel_of f l).to_device.page_bytes moved.0.channel.pages
    (ap (λ (x : Handed × Harbor). x.0) moved.1) carries
    ∙ moved.0.channel.to_device_page ∙ ap (λ (s : Sizes). s.page_bytes) moved.0.sizes
