-- The lender is told of one link more.
use Rattle.std.proofs.Common.{◌≡◌, ℕ, List, [], ◌∷◌, sym, subst, Option}
use Rattle.swap_base.specs.declared.Link.{Link}
use Rattle.swap_wire.specs.Fabric.{Parcel}
use Rattle.swap_lender.specs.Lender.{Lender}
use Rattle.swap_lender.specs.Table.{gone_after}
use Rattle.swap_node.specs.Boards.{Board, PutsAll}
use Rattle.swap_node.specs.NodeView.{Told, AllTold, Gone}

module _ {K : Type 0} (taken : K → Option (List ℕ)) (faults : K → ℕ) where
  pub tell_one :
      (l l1 m : Lender) (b b1 mid b' : Board K) (link : Link) (parcels : List (Link × Parcel)) → b.failed ≡ link ∷ b1.failed
      → b1 ≡ record b { failed = b1.failed } → l1 ≡ (gone_after l link).lender → parcels ≡ (gone_after l link).parcels
      → PutsAll taken faults b1 parcels mid
      → Told taken faults l1 mid m b'
      → Told taken faults l b m b'
  tell_one l l1 m b b1 mid b' link parcels first rest state sent puts told =
      Gone l b link b1.failed mid m b' first
      (subst (λ ps. PutsAll taken faults (record b { failed = b1.failed }) ps mid) sent (subst (λ x. PutsAll taken faults x parcels mid) rest puts))
      (subst (λ x. Told taken faults x mid m b') state told)

  pub tell_none : (l : Lender) (b b1 : Board K) → b.failed ≡ [] → b1 ≡ b → Told taken faults l b l b1
  tell_none l b b1 none same = subst (λ x. Told taken faults l b l x) (sym same) (AllTold l b none)
