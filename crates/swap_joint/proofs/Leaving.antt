-- Each move of a device leaves what is under way on the links that it has lost such that it may be sent.
use Rattle.std.proofs.Common.{◌≡◌, ℕ, ◌<◌, inl, inr, Bool, true, false, List, [], ◌∷◌, length, refl, sym, ap, ◌∙◌, subst, arith, Option, None, Some}
use Rattle.std.proofs.lemmas.Bool.{cond_both, cases_eq, both_ways}
use Rattle.swap_base.specs.declared.Lender.{Lender}
use Rattle.swap_base.specs.Sizes.{Sizes}
use Rattle.swap_disk.specs.declared.port.DiskPort.{Ghosts as DiskMeaning}
use Rattle.swap_wire.specs.declared.fabric.Sent.{Sent}
use Rattle.swap_wire.specs.declared.fabric.Sent.TheVariants as sent_is
use Rattle.swap_wire.specs.Fabric.{Parcel, Handed, Brought, NothingCame, LinkLost, FabricOf, FabricCall, Connect, Send, Take, End, Give, Cut, Crash, Host, FabricAnswer}
use Rattle.swap_rings.specs.Rings.{LinkState, is_up}
use Rattle.swap_rings.specs.Rings as rings
use Rattle.swap_remote.specs.Remote as remote
use Rattle.swap_remote.specs.Remote.{Remote}
use Rattle.swap_table.specs.Device as device
use Rattle.swap_table.specs.Device.{Device, Heard, lost_after, raised_after, next_link}
use Rattle.swap_table.specs.Goes.{stay, by_disk, by_fabric, EachKeepsWhere}
use Rattle.swap_table.specs.Moves.{Within, of_sizes, Speaker, words, Sends, write, read, borrow, query, query_too, Hears, roomy, lent, refused, written, brought, asked_rate, told_to_go, IsFar, far_give, far_cut, far_crash, far_host, Move, enters, gives, faults, waits_for_room, rates_change, lets_go, gives_up, starts, waits_for_disk, takes, lets_finish, sends, finds_down, raises, speaks, speaks_to_nobody, hears, hears_nothing, loses, misunderstands, breaks_off, far}
use Rattle.swap_table.specs.Promises.{FollowsItsMoves, Promises}
use Rattle.swap_table.proofs.MovesKeepAgreement as keep
use Rattle.swap_table.proofs.LinkTables.{link-other}
use Rattle.swap_table.proofs.SendsKeepServing.{sent-same}
use Rattle.swap_table.proofs.RepliesKeepServing.{answered-up}
use Rattle.swap_link.specs.Channel.{Channel, take_after, taken_from, on_channel}
use Rattle.swap_link.specs.Harbor as harbor
use Rattle.swap_link.specs.Harbor.{Harbor, channel_of, lender_of}
use Rattle.swap_link.specs.lemmas.HarborLaws.{called, other_channel}
use Rattle.swap_joint.specs.Lenders.{AreSound}
use Rattle.swap_joint.specs.Stored.{AllJoined}
use Rattle.swap_joint.specs.Allowed.{AllAllowed, AllowedOwing, IsKnown}
use Rattle.swap_joint.specs.Left.{Left, AllLeft}
use Rattle.swap_joint.proofs.Harbors.{harbor_meaning}
use Rattle.swap_joint.proofs.Joins.{ServesAt, not_down}
use Rattle.swap_joint.proofs.Sends.{raised_up}
use Rattle.swap_joint.proofs.Moves as joint
use Rattle.swap_joint.proofs.Turned.{sent_up, back_remote}
use Rattle.swap_joint.proofs.Lenders.{made_at}
use Rattle.swap_joint.proofs.Lefts.{left_of}
use Rattle.swap_joint.proofs.LeftGives.{left_given, left_cut, left_crashed, left_hosted}
use Rattle.swap_table.proofs.AccountsKept.{written_links}

-- what a device takes of a link leaves what is under way to its lender
left_took : (s : Sizes) (l : Lender) (c : Channel) → Left s l c → Left s l (take_after c).1
left_took s l c h = cond_both c.device_gone _ _ (λ (x : Handed × Channel). Left s l x.1) (λ _. h) (λ _. from c.to_device.parcels)
  where
    from : (ps : List Parcel) → Left s l (taken_from c ps).1
    from [] = cond_both c.to_device.ended _ _ (λ (x : Handed × Channel). Left s l x.1) (λ _. h) (λ _. h)
    from (p ∷ ps) = h

-- through a call of one link
through :
    (s : Sizes) (f g : Harbor) (c : FabricCall) (r : FabricAnswer c) → harbor.Moves f c r g → (l : Lender)
    → (l.0 ≡ (lender_of c).0 → Left s (lender_of c) (on_channel (channel_of f (lender_of c)) c).1) → ((l.0 ≡ (lender_of c).0 → ⊥) → Left s l (channel_of f l))
    → Left s l (channel_of g l)
through s f g c r moved l here there = elim (cases_eq l.0 (lender_of c).0) [
  | inl e ↦ (
      let same : lender_of c ≡ l = ap (λ (k : ℕ). record { 0 = k }) (sym e) in
      let P : FabricAnswer c × Harbor → Type 0 = λ x. Left s (lender_of c) (channel_of x.1 (lender_of c)) in
      let at : Left s (lender_of c) (channel_of g (lender_of c)) =
      subst P moved.1
      (subst (λ ch. Left s (lender_of c) ch) (sym (called f (lender_of c) (on_channel (channel_of f (lender_of c)) c).1 moved.0.range)) (here e)) in
      subst (λ (x : Lender). Left s x (channel_of g x)) same at
      )
  | inr other ↦ (
      let P : FabricAnswer c × Harbor → Type 0 = λ x. Left s l (channel_of x.1 l) in
      subst P moved.1 (subst (λ ch. Left s l ch) (sym (other_channel f l (lender_of c) (on_channel (channel_of f (lender_of c)) c).1 other)) (there other))
      )
]

-- a link that sends, and one that hears, stays up
sent_itself :
    (W : Within) (d : Device) (l : Lender) (q : Parcel) (e base : Device) → l.0 < length d.remote.links → Sends W d l q e base
    → is_up e.remote.links l ≡ is_up d.remote.links l
sent_itself W d l q e base there (write {p = p} outs is) = ap (λ (k : LinkState). k.up) (sent-same d.remote.links l _ there)
sent_itself W d l q e base there (read {p = p} ins w is none at) = ap (λ (k : LinkState). k.up) (sent-same d.remote.links l _ there)
sent_itself W d l q e base there (borrow {t = t} w may) = ap (λ (k : LinkState). k.up) (sent-same d.remote.links l _ there)
sent_itself W d l q e base there (query {t = t} w may) = ap (λ (k : LinkState). k.up) (sent-same d.remote.links l _ there)
sent_itself W d l q e base there (query_too {t = t} w state not_ may) = ap (λ (k : LinkState). k.up) (sent-same d.remote.links l _ there)

there_is : (n : ℕ) (d : Device) (h : Harbor) (l : Lender) → ServesAt n d h → l.0 < n → l.0 < length d.remote.links
there_is n d h l serves within = omega (arith, serves.links_len, serves.few, within)

heard_links :
    (d : Device) (l : Lender) (q : Parcel) (x : Heard) → l.0 < length d.remote.links → Hears d l q x → (m : Lender)
    → is_up x.device.remote.links m ≡ is_up d.remote.links m
heard_links d l q x there (roomy is says same) m = answered-up d.remote.links l m there
heard_links d l q x there (lent is says same none) m = answered-up d.remote.links l m there
heard_links d l q x there (refused is says same) m = answered-up d.remote.links l m there
heard_links d l q x there (written {p = p} {e = e} is says named) m =
    ap (λ links. is_up links m) (written_links _ (remote.settled_for d.sizes d.remote l p) p) ∙ answered-up d.remote.links l m there
heard_links d l q x there (brought is says named) m = answered-up d.remote.links l m there
heard_links d l q x there (asked_rate says at) m = refl
heard_links d l q x there (told_to_go says at) m = refl

module _ {D : Type 0} (disk : DiskMeaning D) (follows : FollowsItsMoves disk) (laws : Promises harbor_meaning) (T : Bool) (o : FabricOf)
    (far_may : Lender → Type 0) (bytes_may : List ℕ → Type 0) where
  abbrev There : Within
  There = of_sizes o.sizes o.lenders far_may bytes_may

  abbrev Agree : Device → D → Harbor → Type 0
  Agree = keep.Agree disk follows harbor_meaning laws T o far_may bytes_may

  abbrev Before : Speaker → D → Harbor → Type 0
  Before x k h =
      (joint.Agrees disk follows laws T o far_may bytes_may x k h × joint.JoinedAt disk follows laws T o far_may bytes_may x k h)
      × AllowedOwing o.lenders x.device h x.owed

  abbrev pub LeftAt : Speaker → D → Harbor → Type 0
  LeftAt x k h = AllLeft o.sizes o.lenders x.device h x.owed

  serves_at : (d : Device) (k : D) (h : Harbor) → Agree d k h → ServesAt o.lenders d h
  serves_at d k h agree = joint.serves_at disk follows laws T o far_may bytes_may d k h agree

  -- a link that is up, as it is lost
  leaves :
      (d : Device) (k : D) (h : Harbor) (l : Lender) → Agree d k h → AllJoined o.lenders d h → AllAllowed o.lenders d h → l.0 < o.lenders
      → is_up d.remote.links l ≡ true → Left o.sizes l (channel_of h l)
  leaves d k h l agree joined allowed within up =
      let link = (serves_at d k h agree).link l in
      subst (λ (x : FabricOf). Left x.sizes l (channel_of h l)) agree.is
      (left_of d l (channel_of h l) (joined l within up) link.awaited link.ordered (allowed l within up))

  same_links : (d d' : Device) (h : Harbor) → d'.remote.links ≡ d.remote.links → AllLeft o.sizes o.lenders d h [] → AllLeft o.sizes o.lenders d' h []
  same_links d d' h same all l within off = all l within (ap (λ links. is_up links l) (sym same) ∙ off)

  up_or_down : (b : Bool) (P : Type 0) → (b ≡ true → P) → (b ≡ false → P) → P
  up_or_down true P up off = up refl
  up_or_down false P up off = off refl

  lost_same : (d : Device) (l m : Lender) → (m.0 ≡ l.0 → ⊥) → is_up (lost_after d l).remote.links m ≡ is_up d.remote.links m
  lost_same d l m other = ap (λ (k : LinkState). k.up) (link-other d.remote.links l m rings.down other)

  -- the far side moves
  far_leaves :
      (d : Device) (k : D) (f g : Harbor) (c : FabricCall) (r : FabricAnswer c) → IsFar There c → Agree d k f → AreSound f → AllLeft o.sizes o.lenders d f []
      → harbor.Moves f c r g → AllLeft o.sizes o.lenders d g []
  far_leaves d k f g c r (far_give {l = l} may) agree sound all moved m within off = through o.sizes f g (Give l) r moved m
      (λ e.
      left_given o.sizes l (channel_of f l) moved.0.channel.sound (sound.untold l moved.0.range) (sound.lodged l moved.0.range)
      (subst (λ (s : Sizes). IsKnown s (channel_of f l)) (ap (λ (x : FabricOf). x.sizes) agree.of_f) (sound.known l moved.0.range)) (at_l e))
      (λ _. all m within off)
    where
      at_l : m.0 ≡ l.0 → Left o.sizes l (channel_of f l)
      at_l e = let same : m ≡ l = ap (λ (i : ℕ). record { 0 = i }) e in subst (λ (x : Lender). Left o.sizes x (channel_of f x)) same (all m within off)
  far_leaves d k f g c r (far_cut {l = l} {a = a} {b = b} may) agree sound all moved m within off = through o.sizes f g (Cut l a b) r moved m
      (λ e.
      left_cut o.sizes l (channel_of f l) a b
      (let same : m ≡ l = ap (λ (i : ℕ). record { 0 = i }) e in subst (λ (x : Lender). Left o.sizes x (channel_of f x)) same (all m within off)))
      (λ _. all m within off)
  far_leaves d k f g c r (far_crash {l = l} may) agree sound all moved m within off =
      through o.sizes f g (Crash l) r moved m (λ e. left_crashed o.sizes l (channel_of f l)) (λ _. all m within off)
  far_leaves d k f g c r (far_host {l = l} {used = used} {word = word} may) agree sound all moved m within off =
      through o.sizes f g (Host l used word) r moved m
      (λ e.
      left_hosted o.sizes l (channel_of f l) used word (sound.reached l moved.0.range) moved.0.channel.sound
      (let same : m ≡ l = ap (λ (i : ℕ). record { 0 = i }) e in subst (λ (x : Lender). Left o.sizes x (channel_of f x)) same (all m within off)))
      (λ _. all m within off)

  named : (f : Harbor) (m l : Lender) → m.0 ≡ l.0 → Left o.sizes l (channel_of f l) → Left o.sizes m (channel_of f m)
  named f m l e h = let same : l ≡ m = ap (λ (i : ℕ). record { 0 = i }) (sym e) in subst (λ (x : Lender). Left o.sizes x (channel_of f x)) same h

  pub each_left : EachKeepsWhere disk.moves harbor.Moves (Move There) Before LeftAt
  each_left x asked y k k' f f' (enters {d = d} outs) stay before all = all
  each_left x asked y k k' f f' (gives {d = d} given) stay before all = all
  each_left x asked y k k' f f' (faults {d = d} fails) stay before all = all
  each_left x asked y k k' f f' (waits_for_room {d = d} c p bytes e within hands) stay before all = all
  each_left x asked y k k' f f' (rates_change {d = d} rates) stay before all = all
  each_left x asked y k k' f f' (lets_go {d = d} l within up) stay before all = λ m inside off. elim (cases_eq m.0 l.0) [
    | inl e ↦ named f m l e (leaves d k f l before.0.0 before.0.1.1 before.1 within up)
    | inr other ↦ all m inside (sym (lost_same d l m other) ∙ off)
  ]
  each_left x asked y k k' f f' (gives_up {d = d} l t off asks) stay before all = all
  each_left x asked y k k' f f' (starts {d = d} el ec) (by_disk moved) before all = all
  each_left x asked y k k' f f' (waits_for_disk {d = d} ins within is none) (by_disk moved) before all = all
  each_left x asked y k k' f f' (takes {d = d} {taken = take_after}) (by_disk moved) before all =
      same_links d (device.took_back d take_after).0 f (ap (λ (r : Remote). r.links) (back_remote d take_after)) all
  each_left x asked y k k' f f' lets_finish (by_disk moved) before all = all
  each_left x asked y k k' f f' (sends {d = d} {e = e} {base = base} {l = l} {q = q} one) (by_fabric moved) before all =
      let serves = serves_at d k f before.0.0 in
      let up : is_up d.remote.links l ≡ true = keep.sends_up There d l q e base one in
      λ m inside off. through o.sizes f f' (Send l q) sent_is.Sent moved m
      (λ same.
      absurd
      (both_ways (is_up e.remote.links l) (subst (λ (i : ℕ). is_up e.remote.links (record { 0 = i }) ≡ false) same off)
      (sent_itself There d l q e base (there_is o.lenders d f l serves ((serves.link l).lender up)) one ∙ up)))
      (λ other. all m inside (sym (sent_up There d l m q e base one other) ∙ off))
  each_left x asked y k k' f f' (finds_down {d = d} {e = e} {base = base} {l = l} {q = q} one) (by_fabric moved) before all =
      absurd
      (not_down (channel_of f l) q
      (joint.present_at disk follows laws T o far_may bytes_may d k f l before.0.0 before.0.1.1 (keep.sends_up There d l q e base one))
      (ap (λ (x : Sent × Harbor). x.0) moved.1))
  each_left x asked y k k' f f' (raises {d = d} {l = l} {r = r} within off_) (by_fabric moved) before all =
      λ m inside off. through o.sizes f f' (Connect l (next_link d)) r moved m
      (λ same.
      absurd
      (both_ways (is_up (raised_after d l).remote.links l) (subst (λ (i : ℕ). is_up (raised_after d l).remote.links (record { 0 = i }) ≡ false) same off)
      (raised_up o.lenders d f l (serves_at d k f before.0.0) within)))
      (λ other. all m inside (sym (ap (λ (k : LinkState). k.up) (link-other d.remote.links l m rings.link_at_start other)) ∙ off))
  each_left x asked y k k' f f' (speaks {d = d} {l = l} {q = q} word) (by_fabric moved) before all =
      λ m inside off. through o.sizes f f' (Send l q) sent_is.Sent moved m
      (λ same. absurd (both_ways (is_up d.remote.links l) (subst (λ (i : ℕ). is_up d.remote.links (record { 0 = i }) ≡ false) same off) before.0.1.1.1))
      (λ other. all m inside off)
  each_left x asked y k k' f f' (speaks_to_nobody {d = d} {l = l} {q = q} word) (by_fabric moved) before all =
      absurd
      (not_down (channel_of f l) q (joint.present_at disk follows laws T o far_may bytes_may d k f l before.0.0.0 before.0.1.1.0 before.0.1.1.1)
      (ap (λ (x : Sent × Harbor). x.0) moved.1))
  each_left x asked y k k' f f' (hears {d = d} {h = heard} {l = l} {q = q} up one) (by_fabric moved) before all =
      let serves = serves_at d k f before.0.0 in
      let seen : (m : Lender) → is_up heard.device.remote.links m ≡ is_up d.remote.links m =
      heard_links d l q heard (there_is o.lenders d f l serves ((serves.link l).lender up)) one in
      by_words heard.word (λ m inside off. through o.sizes f f' (Take l) (Brought q) moved m
      (λ same. absurd (both_ways (is_up d.remote.links l) (subst (λ (i : ℕ). is_up d.remote.links (record { 0 = i }) ≡ false) same (sym (seen m) ∙ off)) up))
      (λ other. all m inside (sym (seen m) ∙ off)))
    where
      by_words :
          (word : Option Parcel) → ((m : Lender) → m.0 < o.lenders → is_up heard.device.remote.links m ≡ false → Left o.sizes m (channel_of f' m))
          → AllLeft o.sizes o.lenders heard.device f' (words l word)
      by_words None h = h
      by_words (Some w) h = h
  each_left x asked y k k' f f' (hears_nothing {d = d} {l = l} up) (by_fabric moved) before all =
      λ m inside off. through o.sizes f f' (Take l) NothingCame moved m
      (λ same. absurd (both_ways (is_up d.remote.links l) (subst (λ (i : ℕ). is_up d.remote.links (record { 0 = i }) ≡ false) same off) up))
      (λ other. all m inside off)
  each_left x asked y k k' f f' (loses {d = d} {l = l} up) (by_fabric moved) before all =
      let within : l.0 < o.lenders = ((serves_at d k f before.0.0).link l).lender up in
      λ m inside off.
      through o.sizes f f' (Take l) LinkLost moved m
      (λ same. left_took o.sizes l (channel_of f l) (leaves d k f l before.0.0 before.0.1.1 before.1 within up))
      (λ other. all m inside (sym (lost_same d l m other) ∙ off))
  each_left x asked y k k' f f' (misunderstands {d = d} {l = l} {q = q} up) (by_fabric moved) before all =
      let within : l.0 < o.lenders = ((serves_at d k f before.0.0).link l).lender up in
      λ m inside off.
      through o.sizes f f' (Take l) (Brought q) moved m
      (λ same. left_took o.sizes l (channel_of f l) (leaves d k f l before.0.0 before.0.1.1 before.1 within up))
      (λ other. elim off [ inl down ↦ all m inside down | inr same ↦ absurd (other same) ])
  each_left x asked y k k' f f' (breaks_off {d = d} {l = l} {r = r}) (by_fabric moved) before all = λ m inside off. through o.sizes f f' (End l) r moved m
      (λ same. let at : Left o.sizes l (channel_of f l) = named f l m (sym same) (all m inside (inr same)) in at)
      (λ other. all m inside (inl (sym (lost_same d l m other) ∙ off)))
  each_left x asked y k k' f f' (far {d = d} {c = c} {r = r} one) (by_fabric moved) before all = far_leaves d k f f' c r one before.0.0 before.0.1.0 all moved

-- no link of lenders as they are made stands
pub new_left : (s : Sizes) (n : ℕ) (d : Device) (h : Harbor) → harbor.IsFresh h (record { sizes = s; lenders = n }) → AllLeft s n d h []
new_left s n d h fresh l within off =
    let there : l.0 < length h.channels = subst (λ (o : FabricOf). l.0 < o.lenders) (sym fresh.is) within in
    subst (λ ch. Left s l ch) (sym (made_at h (record { sizes = s; lenders = n }) fresh l there)) tt
