-- What every list of calls leaves of what a link carries, and what the lender made of what it took.
use Rattle.std.proofs.Common.{◌≡◌, ℕ, ◌<◌, inl, inr, Bool, true, false, List, [], ◌∷◌, ◌++◌, length, refl, sym, ap, ◌∙◌, subst, append_assoc, eq-eqb, Option}
use Rattle.std.specs.Prelude.{if◌then◌else◌}
use Rattle.std.proofs.lemmas.Bool.{cond_both, cases_eq, ne_eqb}
use Rattle.std.proofs.lemmas.List.{length-set}
use Rattle.swap_base.specs.declared.Lender.{Lender}
use Rattle.swap_base.specs.declared.Link.{Link}
use Rattle.swap_wire.specs.declared.Msg.{Msg}
use Rattle.swap_wire.specs.declared.fabric.Gave.{Gave}
use Rattle.swap_wire.specs.declared.fabric.Gave.TheVariants as gave_is
use Rattle.swap_wire.specs.Fabric.{Parcel, same_lender, FabricCall, Connect, FabricAnswer}
use Rattle.swap_lender.specs.Table.{Turn, took_after, may_send}
use Rattle.swap_link.specs.Lane.{Lane}
use Rattle.swap_link.specs.Channel.{Channel, connect_after, reply_of, deliver_after, serve_after, give_after, given_from, on_channel}
use Rattle.swap_link.specs.Harbor.{Harbor, channel_of, lender_of, ask}
use Rattle.swap_link.specs.lemmas.HarborLaws.{called, same_channel, other_channel}
use Rattle.swap_prefix.specs.Calls.{Made, calls_made, lenders_after, connects, first_page, told_by, served_by, answered_by, taken_by, told_sent, lender_took, lender_sent, device_took}
use Rattle.swap_prefix.specs.Laws.{IsPrefix, NoneConnects, harbor_after_connect, LinksHandOnAPrefix, Carries, OnlyAnEndIsLost, IsServed, WhatIsTakenIsServed}
use Rattle.swap_prefix.proofs.Lanes.{carries_none, as_was}
use Rattle.swap_prefix.proofs.Links.{Carried, carried_on}

-- what a call adds for a lender, where it is for that one
abbrev Adds : Type 0
Adds = Channel → (c : FabricCall) → FabricAnswer c → List Parcel

abbrev adding : Adds → Bool → Channel → (c : FabricCall) → FabricAnswer c → List Parcel
adding by mine ch c answer = if mine then by ch c answer else []

abbrev Added : Bool → Channel → (c : FabricCall) → FabricAnswer c → List Parcel → List Parcel → List Parcel → List Parcel → Channel → Type 0
Added mine ch c answer s t u v now =
    let add : Adds → List Parcel = λ by. adding by mine ch c answer in
    Carried now (s ++ add told_by) (t ++ add served_by) (u ++ add answered_by) (v ++ add taken_by)

-- one call: it is the lender's own, or another's
one_call : (h : Harbor) (c : FabricCall) (l : Lender) (s t u v : List Parcel)
    → l.0 < length h.channels → connects l c ≡ false → Carried (channel_of h l) s t u v
    → Added (same_lender l (lender_of c)) (channel_of h l) c (ask h c).0 s t u v (channel_of (ask h c).1 l)
one_call h c l s t u v lt none held = elim (cases_eq l.0 (lender_of c).0) [ inl e ↦ own e | inr ne ↦ other ne ]
  where
    Here : Bool → Channel → Channel → Type 0
    Here mine ch now = Added mine ch c (ask h c).0 s t u v now

    own : l.0 ≡ (lender_of c).0 → Here (same_lender l (lender_of c)) (channel_of h l) (channel_of (ask h c).1 l)
    own e =
        let m : Lender = lender_of c in
        let ch : Channel = channel_of h m in
        let same : channel_of h l ≡ ch = same_channel h l m e in
        let within : m.0 < length h.channels = subst (λ n. n < length h.channels) e lt in
        let now : channel_of (ask h c).1 l ≡ (on_channel ch c).1 = same_channel (ask h c).1 l m e ∙ called h m (on_channel ch c).1 within in
        let was : Carried ch s t u v = subst (λ (z : Channel). Carried z s t u v) same held in
        subst (λ (mine : Bool). Here mine (channel_of h l) (channel_of (ask h c).1 l)) (sym (eq-eqb l.0 m.0 e))
        (subst (λ (z : Channel). Here true z (channel_of (ask h c).1 l)) (sym same)
        (subst (λ (z : Channel). Here true ch z) (sym now) (carried_on ch s t u v was c l e none)))

    other : (l.0 ≡ (lender_of c).0 → ⊥) → Here (same_lender l (lender_of c)) (channel_of h l) (channel_of (ask h c).1 l)
    other ne =
        let m : Lender = lender_of c in
        let ch : Channel = channel_of h l in
        let now : channel_of (ask h c).1 l ≡ ch = other_channel h l m (on_channel (channel_of h m) c).1 ne in
        subst (λ (mine : Bool). Here mine ch (channel_of (ask h c).1 l)) (sym (ne_eqb l.0 m.0 ne))
        (subst (λ (z : Channel). Here false ch z) (sym now)
        (record { to_lender = as_was ch.to_lender s t held.to_lender; to_device = as_was ch.to_device u v held.to_device }))

-- a call more of each
regrouped : (a : Lane) (s s' s'' t t' t'' : List Parcel) → Carries a ((s ++ s') ++ s'') ((t ++ t') ++ t'') → Carries a (s ++ (s' ++ s'')) (t ++ (t' ++ t''))
regrouped a s s' s'' t t' t'' k =
    let all : Carries a ((s ++ s') ++ s'') (t ++ (t' ++ t'')) = subst (λ z. Carries a ((s ++ s') ++ s'') z) (append_assoc t t' t'') k in
    subst (λ z. Carries a z (t ++ (t' ++ t''))) (append_assoc s s' s'') all

-- all that a list of calls adds
abbrev AllAdded : Lender → List Made → List Parcel → List Parcel → List Parcel → List Parcel → Channel → Type 0
AllAdded l ms s t u v now = Carried now (s ++ told_sent l ms) (t ++ lender_took l ms) (u ++ lender_sent l ms) (v ++ device_took l ms)

still_there : (h : Harbor) (c : FabricCall) (l : Lender) → l.0 < length h.channels → l.0 < length (ask h c).1.channels
still_there h c l lt = subst (λ n. l.0 < n) (sym (length-set h.channels (lender_of c).0 (on_channel (channel_of h (lender_of c)) c).1)) lt

-- one call after another
each_call : (h : Harbor) (cs : List FabricCall) (l : Lender) (s t u v : List Parcel)
    → l.0 < length h.channels → NoneConnects l cs → Carried (channel_of h l) s t u v
    → AllAdded l (calls_made h cs) s t u v (channel_of (lenders_after h cs) l)
each_call h [] l s t u v lt none held = record { to_lender = as_was _ s t held.to_lender; to_device = as_was _ u v held.to_device }
each_call h (c ∷ cs) l s t u v lt none held =
    let g : Harbor = (ask h c).1 in
    let ms : List Made = calls_made g cs in
    let add : Adds → List Parcel = λ by. adding by (same_lender l (lender_of c)) (channel_of h l) c (ask h c).0 in
    let more : AllAdded l ms (s ++ add told_by) (t ++ add served_by) (u ++ add answered_by) (v ++ add taken_by) (channel_of (lenders_after g cs) l) =
    each_call g cs l _ _ _ _ (still_there h c l lt) none.1 (one_call h c l s t u v lt none.0 held) in
    record {
      to_lender = regrouped _ s (add told_by) (told_sent l ms) t (add served_by) (lender_took l ms) more.to_lender;
      to_device = regrouped _ u (add answered_by) (lender_sent l ms) v (add taken_by) (device_took l ms) more.to_device;
    }

-- a new link carries nothing
new_link : (h : Harbor) (l : Lender) (n : Link) → l.0 < length h.channels → Carried (channel_of (harbor_after_connect h l n) l) [] [] [] []
new_link h l n lt =
    let ch : Channel = connect_after (channel_of h l) n in
    let none : Carried ch [] [] [] [] = record { to_lender = carries_none ch.to_lender refl; to_device = carries_none ch.to_device refl } in
    subst (λ (z : Channel). Carried z [] [] [] []) (sym (called h l ch lt)) none

pub only_an_end_is_lost : OnlyAnEndIsLost
only_an_end_is_lost h l n cs lt none =
    let k = each_call (harbor_after_connect h l n) cs l [] [] [] [] (still_there h (Connect l n) l lt) none (new_link h l n lt) in
    record { to_lender = k.to_lender; to_device = k.to_device }

-- what is taken is a prefix of what was sent
begins : (a : Lane) (s t : List Parcel) → Carries a s t → IsPrefix t s
begins a s t k = record { rest = a.parcels ++ k.dropped; is = k.in_three }

pub links_hand_on_a_prefix : LinksHandOnAPrefix
links_hand_on_a_prefix h l n cs lt none =
    let k = only_an_end_is_lost h l n cs lt none in
    record { to_lender = begins _ _ _ k.to_lender; to_device = begins _ _ _ k.to_device }

-- what the lender made of what it took

abbrev pub Serves : Channel → Msg → Option Msg → ℕ → Gave × Channel → Type 0
Serves ch m reply evicted x = x.0 ≡ gave_is.Got m reply evicted → IsServed ch x.1 m reply evicted

-- the lender's turn by the message that give answers
abbrev turn_by : Channel → Msg → Turn
turn_by ch m = took_after ch.lender ch.number m (first_page ch.to_lender.parcels)

-- a channel whose first message is off
abbrev popped : Channel → List Parcel → Channel
popped ch ps = record ch { to_lender = record ch.to_lender { parcels = ps } }

serves : (ch : Channel) (p : Parcel) (ps : List Parcel) (m : Msg) (reply : Option Msg) (evicted : ℕ)
    → ch.to_lender.parcels ≡ p ∷ ps → Serves ch m reply evicted (serve_after (popped ch ps) p)
serves ch p ps m reply evicted e =
    cond_both (may_send ch.lender ch.number p.msg) _ _ (Serves ch m reply evicted) (λ _ same. answer (parts _ _ _ m reply evicted same)) (λ _ same. cc)
  where
    parts : (a : Msg) (b : Option Msg) (d : ℕ) (m : Msg) (reply : Option Msg) (evicted : ℕ)
        → gave_is.Got a b d ≡ gave_is.Got m reply evicted → (a ≡ m) × (b ≡ reply) × (d ≡ evicted)
    parts a b d m reply evicted same = (cc, cc, cc)

    turn : Turn
    turn = took_after ch.lender ch.number p.msg p.page

    by_first : p.msg ≡ m → turn ≡ turn_by ch m
    by_first same = ap (λ x. took_after ch.lender ch.number x p.page) same ∙ ap (λ page. took_after ch.lender ch.number m page) (sym (ap first_page e))

    answer : (p.msg ≡ m) × (reply_of turn.parcels ≡ reply) × (turn.evicted ≡ evicted) → IsServed ch (deliver_after (popped ch ps) turn) m reply evicted
    answer h = record {
      lender = ap (λ (x : Turn). x.lender) (by_first h.0);
      reply = sym h.1 ∙ ap (λ (x : Turn). reply_of x.parcels) (by_first h.0);
      evicted = sym h.2 ∙ ap (λ (x : Turn). x.evicted) (by_first h.0);
    }

serves_from : (ch : Channel) (ps : List Parcel) (m : Msg) (reply : Option Msg) (evicted : ℕ)
    → ch.to_lender.parcels ≡ ps → Serves ch m reply evicted (given_from ch ps)
serves_from ch [] m reply evicted e = cond_both ch.to_lender.ended _ _ (Serves ch m reply evicted) (λ _ same. cc) (λ _ same. cc)
serves_from ch (p ∷ ps) m reply evicted e = serves ch p ps m reply evicted e

serves_given : (ch : Channel) (m : Msg) (reply : Option Msg) (evicted : ℕ) → Serves ch m reply evicted (give_after ch)
serves_given ch m reply evicted =
    cond_both ch.lender_gone _ _ (Serves ch m reply evicted) (λ _ same. cc) (λ _. serves_from ch ch.to_lender.parcels m reply evicted refl)

pub what_is_taken_is_served : WhatIsTakenIsServed
what_is_taken_is_served h l m reply evicted lt =
    let ch : Channel = channel_of h l in
    let Q : Channel → Type 0 = λ z. (give_after ch).0 ≡ gave_is.Got m reply evicted → IsServed ch z m reply evicted in
    subst Q (sym (called h l (give_after ch).1 lt)) (serves_given ch m reply evicted)
