-- What every disk and every fabric promise of their moves, each as one record over what its port says of itself.
use Rattle.std.specs.Prelude.{◌≡◌, ℕ, true, false, List, [], ◌∷◌, ◌++◌}
use Rattle.swap_base.specs.declared.Lender.{Lender}
use Rattle.swap_base.specs.declared.Lease.{Lease}
use Rattle.swap_base.specs.declared.Link.{Link}
use Rattle.swap_disk.specs.Port.{DiskCall, DiskAnswer, Follows}
use Rattle.swap_disk.specs.declared.port.DiskPort.{Ghosts as DiskMeaning}
use Rattle.swap_wire.specs.Fabric.{Parcel, write_parcel, read_parcel, Brought, FabricCall, Connect, Send, Take, FabricAnswer, FabricOf, is_page, ends_keeping, changes_owing}
use Rattle.swap_wire.specs.declared.fabric.Fabric.{Ghosts as FabricMeaning}
use Rattle.swap_wire.specs.declared.fabric.Sent.TheVariants as sent

-- each move of a disk is one that a disk may make
abbrev pub FollowsItsMoves : {D : Type 0} → DiskMeaning D → Type 0
FollowsItsMoves {D} disk =
    (d : D) (c : DiskCall) (answer : DiskAnswer c) (e : D) → disk.moves d c answer e
    → Follows (disk.means d) c answer (disk.means e)

-- what a fabric is of, what its lenders keep, what its links owe, and what a page that is given answers
pub record Promises {F : Type 0} (fabric : FabricMeaning F) : Type 0 where
  pub fresh_is_of : (f : F) (o : FabricOf) → fabric.fresh f o → fabric.of f ≡ o
  pub keep_of : (f : F) (c : FabricCall) (r : FabricAnswer c) (g : F) → fabric.moves f c r g → fabric.of g ≡ fabric.of f
  pub write_is_kept :
      (f : F) (l : Lender) (k : Lease) (i : ℕ) (bytes : List ℕ) (g : F)
      → fabric.moves f (Send l (write_parcel k i bytes)) sent.Sent g → fabric.keeps g l k i bytes
  pub kept_until :
      (f : F) (c : FabricCall) (r : FabricAnswer c) (g : F) (l : Lender) (k : Lease) (i : ℕ) (bytes : List ℕ)
      → fabric.moves f c r g → fabric.keeps f l k i bytes → ends_keeping l k i c r ≡ false → fabric.keeps g l k i bytes
  pub new_link_owes_none :
      (f : F) (l : Lender) (n : Link) (g : F) → fabric.moves f (Connect l n) tt g → fabric.owes g l []
  pub read_is_owed :
      (f : F) (l : Lender) (k : Lease) (i : ℕ) (bytes : List ℕ) (pages : List (List ℕ)) (g : F)
      → fabric.moves f (Send l (read_parcel k i)) sent.Sent g → fabric.owes f l pages → fabric.keeps f l k i bytes
      → fabric.owes g l (pages ++ bytes ∷ [])
  pub page_was_owed :
      (f : F) (l : Lender) (p : Parcel) (g : F) (page : List ℕ) (rest : List (List ℕ))
      → fabric.moves f (Take l) (Brought p) g → is_page p.msg ≡ true → fabric.owes f l (page ∷ rest)
      → fabric.owes g l rest
  pub page_answers :
      (f : F) (l : Lender) (p : Parcel) (g : F) (page : List ℕ) (rest : List (List ℕ))
      → fabric.moves f (Take l) (Brought p) g → is_page p.msg ≡ true → fabric.owes f l (page ∷ rest)
      → fabric.answers page p.page
  pub owed_until :
      (f : F) (c : FabricCall) (r : FabricAnswer c) (g : F) (l : Lender) (pages : List (List ℕ)) → fabric.moves f c r g
      → fabric.owes f l pages → changes_owing l c r ≡ false → fabric.owes g l pages
