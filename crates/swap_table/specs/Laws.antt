-- What each call of the device keeps, over any disk and any fabric.
use Rattle.std.specs.Prelude.{◌≡◌, ℕ, ◌<◌, ◌≤◌, Bool, true, List, is_some}
use Rattle.swap_base.specs.declared.Page.{Page}
use Rattle.swap_base.specs.declared.Slab.{Slab}
use Rattle.swap_base.specs.declared.Caller.{Caller}
use Rattle.swap_base.specs.declared.Lender.{Lender}
use Rattle.swap_base.specs.declared.DiskWhich.{DiskWhich}
use Rattle.swap_base.specs.Sizes.{Sizes, pages_of}
use Rattle.swap_disk.specs.declared.port.DiskPort.{Ghosts as DiskMeaning}
use Rattle.swap_wire.specs.declared.fabric.Fabric.{Ghosts as FabricMeaning}
use Rattle.swap_calls.specs.Calls.{state_of, is_idle}
use Rattle.swap_base.specs.declared.TheConstants.{MOST_LENDERS}
use Rattle.swap_table.specs.Ports.{Prog, Leads}
use Rattle.swap_table.specs.Device.{Device, of_device, device_at_start, out, read, finish, disk_start, disk_take, disk_finish, link_take, tick, map, connect, give_to, cut, crash, host}
use Rattle.swap_table.specs.Fits.{Fits, IsBlank}

module _ {D F : Type 0} (disk : DiskMeaning D) (fabric : FabricMeaning F) where
  -- a device and its ports agree, and the fabric is of the device
  abbrev pub AgreeWith : Bool → Device → D → F → Type 0
  AgreeWith told d k f =
      Fits told fabric.answers (fabric.keeps f) (fabric.owes f) d (disk.means k) × (fabric.of f ≡ of_device d)

  -- they agree after a call, and are of what they were
  abbrev pub AgreesAfter : {R : Type 0} → Bool → Prog (Device × R) → Device → D → F → Type 0
  AgreesAfter told p d k f =
      Leads disk.moves fabric.moves p k f (λ a k' f'. AgreeWith told a.0 k' f' × (of_device a.0 ≡ of_device d))

  -- Whatever disk and fabric answer, what the device, its disk and its fabric agree on holds after each call where it
  -- held before.
  pub record EachCallKeeps : Type 0 where
    pub out :
        (told : Bool) (d : Device) (k : D) (f : F) (c : Caller) (p : Page) (bytes : List ℕ) → AgreeWith told d k f
        → is_idle (state_of d.calls c) ≡ true → p.0 < pages_of d.sizes → AgreesAfter told (out d c p bytes) d k f
    pub read :
        (told : Bool) (d : Device) (k : D) (f : F) (c : Caller) (p : Page) → AgreeWith told d k f
        → is_idle (state_of d.calls c) ≡ true → c.0 < d.sizes.callers → p.0 < pages_of d.sizes
        → AgreesAfter told (read d c p) d k f
    pub finish :
        (told : Bool) (d : Device) (k : D) (f : F) (c : Caller) → AgreeWith told d k f → c.0 < d.sizes.callers
        → AgreesAfter told (finish d c) d k f
    pub disk_start :
        (told : Bool) (d : Device) (k : D) (f : F) → AgreeWith told d k f → AgreesAfter told (disk_start d) d k f
    pub disk_take :
        (told : Bool) (d : Device) (k : D) (f : F) → AgreeWith told d k f → AgreesAfter told (disk_take d) d k f
    pub disk_finish :
        (told : Bool) (d : Device) (k : D) (f : F) (w : DiskWhich) (ok : Bool) → AgreeWith told d k f
        → AgreesAfter told (disk_finish d w ok) d k f
    pub link_take :
        (told : Bool) (d : Device) (k : D) (f : F) (l : Lender) → AgreeWith told d k f
        → AgreesAfter told (link_take d l) d k f
    pub tick :
        (told : Bool) (d : Device) (k : D) (f : F) (word : ℕ) → AgreeWith told d k f
        → AgreesAfter told (tick d word) d k f
    pub map :
        (told : Bool) (d : Device) (k : D) (f : F) (slab : Slab) (l : Lender) → AgreeWith told d k f
        → slab.0 < d.sizes.slabs → AgreesAfter told (map d slab l) d k f
    pub connect :
        (told : Bool) (d : Device) (k : D) (f : F) (l : Lender) → AgreeWith told d k f → l.0 < d.lenders
        → AgreesAfter told (connect d l) d k f
    pub give :
        (told : Bool) (d : Device) (k : D) (f : F) (l : Lender) → AgreeWith told d k f
        → AgreesAfter told (give_to d l) d k f
    pub cut :
        (told : Bool) (d : Device) (k : D) (f : F) (l : Lender) (to_lender to_device : ℕ) → AgreeWith told d k f
        → AgreesAfter told (cut d l to_lender to_device) d k f
    pub crash :
        (told : Bool) (d : Device) (k : D) (f : F) (l : Lender) → AgreeWith told d k f
        → AgreesAfter told (crash d l) d k f
    pub host :
        (told : Bool) (d : Device) (k : D) (f : F) (l : Lender) (used word : ℕ) → AgreeWith told d k f
        → AgreesAfter told (host d l used word) d k f

  -- it holds of a device that nothing happened to
  abbrev pub NewAgrees : Type 0
  NewAgrees =
      (s : Sizes) (n : ℕ) (k : D) (f : F) → IsBlank s (disk.means k) → fabric.of f ≡ record { sizes = s; lenders = n }
      → n ≤ MOST_LENDERS → AgreeWith (is_some (disk.means k).blocks) (device_at_start s n) k f
