-- No lender ends a link by what the device sent.
use Rattle.std.proofs.Common.{◌≡◌, ◌<◌, Bool, true, false, List, [], ◌∷◌, refl, sym, ap, ◌∙◌, subst}
use Rattle.std.proofs.lemmas.Bool.{cond_both, both_ways}
use Rattle.swap_base.specs.declared.Lender.{Lender}
use Rattle.swap_wire.specs.declared.fabric.Gave.{Gave}
use Rattle.swap_wire.specs.Fabric.{Parcel, FabricOf, Give}
use Rattle.swap_rings.specs.Rings.{is_up}
use Rattle.swap_lender.specs.Table.{may_send}
use Rattle.swap_table.specs.Device.{Device, of_device}
use Rattle.swap_link.specs.Channel.{Channel, give_after, given_from}
use Rattle.swap_link.specs.Harbor as harbor
use Rattle.swap_link.specs.Harbor.{Harbor, channel_of, of_harbor}
use Rattle.swap_joint.specs.Lenders.{AreSound}
use Rattle.swap_joint.specs.Stored.{AllJoined}
use Rattle.swap_joint.specs.Allowed.{Allows, AllAllowed, IsKnown}
use Rattle.swap_joint.specs.Left.{Orderly, AllLeft}
use Rattle.swap_joint.proofs.Joins.{ServesAt}
use Rattle.swap_joint.proofs.Lies.{ends_it}
use Rattle.swap_joint.proofs.Fronts.{front_may}
use Rattle.swap_joint.proofs.LeftGives.{left_at, left_may}

-- a lender that may be sent what comes first ends nothing
gave_fair :
    (c : Channel) → (c.lender_gone ≡ false → (q : Parcel) (ps : List Parcel) → c.to_lender.parcels ≡ q ∷ ps → may_send c.lender c.number q.msg ≡ true)
    → ends_it (give_after c).0 ≡ false
gave_fair c may = cond_both c.lender_gone _ _ (λ (x : Gave × Channel). ends_it x.0 ≡ false) (λ _. refl) (λ stands. from stands c.to_lender.parcels refl)
  where
    from : c.lender_gone ≡ false → (ps : List Parcel) → c.to_lender.parcels ≡ ps → ends_it (given_from c ps).0 ≡ false
    from stands [] is = cond_both c.to_lender.ended _ _ (λ (x : Gave × Channel). ends_it x.0 ≡ false) (λ _. refl) (λ _. refl)
    from stands (q ∷ ps) is =
        cond_both (may_send c.lender c.number q.msg) _ _ (λ (x : Gave × Channel). ends_it x.0 ≡ false) (λ _. refl)
        (λ off. absurd (both_ways (may_send c.lender c.number q.msg) off (may stands q ps is)))

pub given_fair :
    (d : Device) (h : Harbor) → ServesAt d.lenders d h → AreSound h → of_harbor h ≡ of_device d → AllJoined d.lenders d h → AllAllowed d.lenders d h
    → AllLeft d.sizes d.lenders d h [] → (l : Lender) (r : Gave) (g : Harbor) → harbor.Moves h (Give l) r g → ends_it r ≡ false
given_fair d h serves sound of_h joined allowed left l r g moved = sym (ap (λ (x : Gave × Harbor). ends_it x.0) moved.1) ∙ gave_fair (channel_of h l) may
  where
    within : l.0 < d.lenders
    within = subst (λ (o : FabricOf). l.0 < o.lenders) of_h moved.0.range

    known : IsKnown d.sizes (channel_of h l)
    known = subst (λ (o : FabricOf). IsKnown o.sizes (channel_of h l)) of_h (sound.known l moved.0.range)

    may :
        (channel_of h l).lender_gone ≡ false → (q : Parcel) (ps : List Parcel) → (channel_of h l).to_lender.parcels ≡ q ∷ ps
        → may_send (channel_of h l).lender (channel_of h l).number q.msg ≡ true
    may stands q ps front = by_link (is_up d.remote.links l) refl
      where
        by_link : (b : Bool) → is_up d.remote.links l ≡ b → may_send (channel_of h l).lender (channel_of h l).number q.msg ≡ true
        by_link true up =
            front_may d l (channel_of h l) q ps stands front moved.0.channel.sound known (sound.lodged l moved.0.range) (joined l within up)
            (serves.link l).awaited (allowed l within up)
        by_link false down =
            let at = left_at d.sizes l (channel_of h l) stands (left l within down) in
            let c : Channel = channel_of h l in
            left_may d.sizes l (channel_of h l) q ps moved.0.channel.sound known (sound.lodged l moved.0.range)
            (subst (λ out. Allows d.sizes [] [] l (channel_of h l).lender (channel_of h l).number [] true out) front at.0)
            (subst (λ out. Orderly (channel_of h l).lender.slots d.sizes.pages_per_slab out) front at.1)
