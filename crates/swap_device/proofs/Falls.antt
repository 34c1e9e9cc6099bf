-- A loss goes slab by slab.
use Rattle.std.proofs.Common.{◌≡◌, ℕ, zero, suc, ◌+◌, ◌-◌, ◌<◌, ◌≤◌, length, refl, sym, subst, arith}
use Rattle.swap_base.specs.declared.Lender.{Lender}
use Rattle.swap_disk.specs.Port.{DiskCall, DiskAnswer}
use Rattle.swap_wire.specs.Fabric.{FabricCall, FabricAnswer}
use Rattle.swap_table.specs.Ports.{Prog, Ret, AskDisk, AskFabric, Along, and_then}
use Rattle.swap_table.specs.Device.{Device, lost_after, give_up}
use Rattle.swap_device.specs.State.{lose_in_turn, given_up}

module _ {D F : Type 0} (disk_moves : D → (c : DiskCall) → DiskAnswer c → D → Type 0) (moves : F → (c : FabricCall) → FabricAnswer c → F → Type 0) where
  -- what went along both parts of a sequence went along it
  pub Along-and :
      {A B : Type 0} (p : Prog A) (next : A → Prog B) (k mid k' : D) (f mid_f f' : F) (a : A) (b : B) → Along disk_moves moves p k f mid mid_f a
      → Along disk_moves moves (next a) mid mid_f k' f' b → Along disk_moves moves (and_then p next) k f k' f' b
  Along-and (Ret x) next k mid k' f mid_f f' a b one two =
      let P : D → Type 0 = λ y. Along disk_moves moves (next x) y f k' f' b in let Q : F → Type 0 = λ y. Along disk_moves moves (next x) mid y k' f' b in
      subst P one.0 (subst Q one.1 (subst (λ y. Along disk_moves moves (next y) mid mid_f k' f' b) one.2 two))
  Along-and (AskDisk c more) next k mid k' f mid_f f' a b one two = (one.0, one.1, one.2, Along-and (more one.0) next one.1 mid k' f mid_f f' a b one.3 two)
  Along-and (AskFabric c more) next k mid k' f mid_f f' a b one two = (one.0, one.1, one.2, Along-and (more one.0) next k mid k' one.1 mid_f f' a b one.3 two)

  -- what comes of giving up the slabs from here on comes of giving up all of them
  abbrev pub ComesOf : (Device → Lender → Prog Device) → ℕ → ℕ → Lender → Device → D → F → Device → D → F → Type 0
  ComesOf down slabs n l d k f first k0 f0 =
      (k' : D) (f' : F) (e : Device) → Along disk_moves moves (give_up down (slabs - n) n d l) k f k' f' e
      → Along disk_moves moves (give_up down slabs 0 first l) k0 f0 k' f' e

  pub comes_first : (down : Device → Lender → Prog Device) (slabs : ℕ) (l : Lender) (d : Device) (k : D) (f : F) → ComesOf down slabs 0 l d k f d k f
  comes_first down slabs l d k f =
      λ k' f' e along. let whole : slabs - 0 ≡ slabs = omega arith in subst (λ i. Along disk_moves moves (give_up down i 0 d l) k f k' f' e) whole along

  pub comes_next :
      (down : Device → Lender → Prog Device) (slabs n : ℕ) (l : Lender) (d e first : Device) (k k1 k0 : D) (f f1 f0 : F) → n < slabs
      → Along disk_moves moves (given_up down d l (record { 0 = n })) k f k1 f1 e → ComesOf down slabs n l d k f first k0 f0
      → ComesOf down slabs (n + 1) l e k1 f1 first k0 f0
  comes_next down slabs n l d e first k k1 k0 f f1 f0 within step before = λ k' f' x along.
      let left : slabs - n ≡ suc (slabs - (n + 1)) = omega (arith, within) in
      before k' f' x
      (subst (λ i. Along disk_moves moves (give_up down i n d l) k f k' f' x) (sym left)
      (Along-and (given_up down d l (record { 0 = n })) (λ y. give_up down (slabs - (n + 1)) (n + 1) y l) k k1 k' f f1 f' e x step along))

  pub comes_all :
      (down : Device → Lender → Prog Device) (slabs n : ℕ) (l : Lender) (d first : Device) (k k0 : D) (f f0 : F) → slabs ≤ n
      → ComesOf down slabs n l d k f first k0 f0 → Along disk_moves moves (give_up down slabs 0 first l) k0 f0 k f d
  comes_all down slabs n l d first k k0 f f0 all before =
      let none : slabs - n ≡ 0 = omega (arith, all) in
      before k f d (subst (λ i. Along disk_moves moves (give_up down i n d l) k f k f d) (sym none) (refl, refl, refl))

  -- the slabs that are given up make the loss
  loss_of :
      (more : ℕ) (d e : Device) (l : Lender) (k k' : D) (f f' : F)
      → Along disk_moves moves (give_up (lose_in_turn more) (length d.remote.slabs) 0 (lost_after d l) l) k f k' f' e
      → Along disk_moves moves (lose_in_turn (suc more) d l) k f k' f' e
  loss_of zero d e l k k' f f' along = along
  loss_of (suc more) d e l k k' f f' along = along

  pub falls :
      (more slabs n : ℕ) (d e : Device) (l : Lender) (k k' : D) (f f' : F) → (more ≡ 0 → ⊥) → length d.remote.slabs ≡ slabs → slabs ≤ n
      → ComesOf (lose_in_turn (more - 1)) slabs n l e k' f' (lost_after d l) k f → Along disk_moves moves (lose_in_turn more d l) k f k' f' e
  falls more slabs n d e l k k' f f' some len all before =
      let left : suc (more - 1) ≡ more = omega (arith, some) in
      subst (λ i. Along disk_moves moves (lose_in_turn i d l) k f k' f' e) left
      (loss_of (more - 1) d e l k k' f f'
      (subst (λ i. Along disk_moves moves (give_up (lose_in_turn (more - 1)) i 0 (lost_after d l) l) k f k' f' e) (sym len)
      (comes_all (lose_in_turn (more - 1)) slabs n l e (lost_after d l) k' k f' f all before)))
