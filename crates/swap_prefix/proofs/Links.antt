-- What each call but a connect leaves of what a link carries.
use Rattle.std.proofs.Common.{◌≡◌, ℕ, true, false, List, [], ◌∷◌, ◌++◌, refl, eq-eqb}
use Rattle.std.proofs.lemmas.Bool.{cond_both, both_ways}
use Rattle.swap_base.specs.declared.Lender.{Lender}
use Rattle.swap_wire.specs.declared.fabric.Gave.{Gave}
use Rattle.swap_wire.specs.Fabric.{Parcel, same_lender, FabricCall, Connect, Send, Take, End, Give, Cut, Crash, Host, FabricAnswer}
use Rattle.swap_lender.specs.Table.{Turn, took_after, may_send, host}
use Rattle.swap_link.specs.Lane.{end_lane, cut}
use Rattle.swap_link.specs.Channel.{Channel, send_after, take_after, taken_from, forward_after, serve_after, give_after, given_from, crash_after, on_channel}
use Rattle.swap_link.specs.Harbor.{lender_of}
use Rattle.swap_prefix.specs.Calls.{connects, on_link, served_as, answered_as, told_by, taken_by, served_by, answered_by, first_page}
use Rattle.swap_prefix.specs.Laws.{Carries}
use Rattle.swap_prefix.proofs.Lanes.{sent_as_was, taken_as_was, as_was, carries_ended, carries_cut, carries_append, carries_taken, carries_forwarded}

-- what was sent and taken on the link of a channel, in each direction
pub record Carried (ch : Channel) (told served sent taken : List Parcel) : Type 0 where
  pub to_lender : Carries ch.to_lender told served
  pub to_device : Carries ch.to_device sent taken

-- and so with what a call and its answer add
abbrev pub CarriedOn : Channel → (c : FabricCall) → List Parcel → List Parcel → List Parcel → List Parcel → FabricAnswer c × Channel → Type 0
CarriedOn ch c s t u v x = Carried x.1 (s ++ told_by ch c x.0) (t ++ served_by ch c x.0) (u ++ answered_by ch c x.0) (v ++ taken_by ch c x.0)

module _ (ch : Channel) (s t u v : List Parcel) (h : Carried ch s t u v) where
  -- nothing is sent or taken, and what is under way stays so, or ends
  unmoved : Carried ch (s ++ []) (t ++ []) (u ++ []) (v ++ [])
  unmoved = record { to_lender = as_was ch.to_lender s t h.to_lender; to_device = as_was ch.to_device u v h.to_device }

  lender_ended : Carries (end_lane ch.to_lender) (s ++ []) (t ++ [])
  lender_ended = as_was (end_lane ch.to_lender) s t (carries_ended ch.to_lender s t h.to_lender)

  lender_cut : (n : ℕ) → Carries (cut ch.to_lender n) (s ++ []) (t ++ [])
  lender_cut n = as_was (cut ch.to_lender n) s t (carries_cut n ch.to_lender s t h.to_lender)

  device_ended : Carries (end_lane ch.to_device) (u ++ []) (v ++ [])
  device_ended = as_was (end_lane ch.to_device) u v (carries_ended ch.to_device u v h.to_device)

  device_cut : (n : ℕ) → Carries (cut ch.to_device n) (u ++ []) (v ++ [])
  device_cut n = as_was (cut ch.to_device n) u v (carries_cut n ch.to_device u v h.to_device)

  -- what a turn of the lender sends is appended
  forwards : (turn : Turn) → Carries (forward_after ch.number ch.to_device turn.parcels) (u ++ on_link ch.number turn.parcels) (v ++ [])
  forwards turn = taken_as_was _ _ v (carries_forwarded ch.number turn.parcels ch.to_device u v h.to_device)

  by_send : (l : Lender) (p : Parcel) → CarriedOn ch (Send l p) s t u v (send_after ch p)
  by_send l p =
      cond_both ch.device_gone _ _ (CarriedOn ch (Send l p) s t u v) (λ _. unmoved)
      (λ _. record { to_lender = taken_as_was _ _ t (carries_append p ch.to_lender s t h.to_lender); to_device = unmoved.to_device })

  by_take_from : (l : Lender) (ps : List Parcel) → ch.to_device.parcels ≡ ps → CarriedOn ch (Take l) s t u v (taken_from ch ps)
  by_take_from l [] e =
      cond_both ch.to_device.ended _ _ (CarriedOn ch (Take l) s t u v)
      (λ _. record { to_lender = lender_ended; to_device = unmoved.to_device }) (λ _. unmoved)
  by_take_from l (p ∷ ps) e = record {
    to_lender = unmoved.to_lender;
    to_device = sent_as_was _ u _ (carries_taken p ps ch.to_device u v e h.to_device);
  }

  by_take : (l : Lender) → CarriedOn ch (Take l) s t u v (take_after ch)
  by_take l = cond_both ch.device_gone _ _ (CarriedOn ch (Take l) s t u v) (λ _. unmoved) (λ _. by_take_from l ch.to_device.parcels refl)

  -- the lender takes a message, of a list with this page first: it answers, or ends the link
  abbrev Given : List ℕ → Gave × Channel → Type 0
  Given page x = Carried x.1 (s ++ []) (t ++ served_as page x.0) (u ++ answered_as ch page x.0) (v ++ [])

  by_serve : (p : Parcel) (ps : List Parcel) → ch.to_lender.parcels ≡ p ∷ ps
      → Given p.page (serve_after (record ch { to_lender = record ch.to_lender { parcels = ps } }) p)
  by_serve p ps e =
      cond_both (may_send ch.lender ch.number p.msg) _ _ (Given p.page)
      (λ _. record { to_lender = sent_as_was _ s _ taken_off; to_device = forwards (took_after ch.lender ch.number p.msg p.page) })
      (λ _. record { to_lender = sent_as_was _ s _ (carries_cut 0 _ s _ taken_off); to_device = device_ended })
    where
      taken_off : Carries (record ch.to_lender { parcels = ps }) s (t ++ p ∷ [])
      taken_off = carries_taken p ps ch.to_lender s t e h.to_lender

  by_give_from : (ps : List Parcel) → ch.to_lender.parcels ≡ ps → Given (first_page ps) (given_from ch ps)
  by_give_from [] e =
      cond_both ch.to_lender.ended _ _ (Given []) (λ _. record { to_lender = lender_cut 0; to_device = device_ended }) (λ _. unmoved)
  by_give_from (p ∷ ps) e = by_serve p ps e

  by_give : (l : Lender) → CarriedOn ch (Give l) s t u v (give_after ch)
  by_give l = cond_both ch.lender_gone _ _ (CarriedOn ch (Give l) s t u v) (λ _. unmoved) (λ _. by_give_from ch.to_lender.parcels refl)

  by_crash : (l : Lender) → CarriedOn ch (Crash l) s t u v (true, crash_after ch)
  by_crash l =
      cond_both ch.lender_gone _ _ (λ (x : Channel). CarriedOn ch (Crash l) s t u v (true, x))
      (λ _. record { to_lender = unmoved.to_lender; to_device = unmoved.to_device }) (λ _. record { to_lender = lender_cut 0; to_device = device_ended })

  pub carried_on : (c : FabricCall) (l : Lender) → l.0 ≡ (lender_of c).0 → connects l c ≡ false → CarriedOn ch c s t u v (on_channel ch c)
  carried_on (Connect lender link) l e none = absurd (both_ways (same_lender l lender) none (eq-eqb l.0 lender.0 e))
  carried_on (Send lender p) l e none = by_send lender p
  carried_on (Take lender) l e none = by_take lender
  carried_on (End lender) l e none = record { to_lender = lender_ended; to_device = device_cut 0 }
  carried_on (Give lender) l e none = by_give lender
  carried_on (Cut lender a b) l e none = record { to_lender = lender_cut a; to_device = device_cut b }
  carried_on (Crash lender) l e none = by_crash lender
  carried_on (Host lender used word) l e none = record { to_lender = unmoved.to_lender; to_device = forwards (host ch.lender used word) }
