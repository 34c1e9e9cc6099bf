-- What the device's type says, after each call.
use Rattle.std.proofs.Common.{◌≡◌, ℕ, Bool, List, ◌++◌, length, take, drop, sym, ap, ◌∙◌, subst, is_some, arith, length-append, length-drop}
use Rattle.std.proofs.lemmas.List.{length-take}
use Rattle.swap_base.specs.Sizes.{Sizes}
use Rattle.swap_disk.specs.declared.port.DiskPort.{Ghosts as DiskMeaning}
use Rattle.swap_wire.specs.Fabric.{FabricOf}
use Rattle.swap_wire.specs.declared.fabric.Fabric.{Ghosts as FabricMeaning}
use Rattle.swap_table.specs.Ports.{Prog}
use Rattle.swap_table.specs.Device.{Device, Core, of_device, device_at_start}
use Rattle.swap_table.specs.Laws.{AgreeWith, AgreesAfter}
use Rattle.swap_table.proofs.Programs.{Leads-Along}
use Rattle.swap_device.specs.State.{IsDevice, Went}

-- a lent page comes back whole
pub length-lent : (n : ℕ) (b xs : List ℕ) → length b ≡ n → length xs ≡ n → length (take n (b ++ drop (length b) xs)) ≡ length xs
length-lent n b xs eb ex = simp (length-take, length-append, length-drop) (omega arith)

module _ {D F : Type 0} (disk : DiskMeaning D) (fabric : FabricMeaning F) where
  -- they agree, and so the type's invariant holds
  pub held_from :
      (told : Bool) (core now : Core D F) (page page' : List ℕ) → IsDevice disk fabric core page
      → AgreeWith disk fabric told now.device now.disk now.fabric × (of_device now.device ≡ of_device core.device) → length page' ≡ length page
      → IsDevice disk fabric now page'
  held_from told core now page page' h after len = record {
    agree = subst (λ b. AgreeWith disk fabric b now.device now.disk now.fabric) (sym after.0.0.disk.agrees.tells) after.0;
    page_len = len ∙ h.page_len ∙ ap (λ (o : FabricOf). o.sizes.page_bytes) (sym after.1);
  }

  pub held_along :
      {R : Type 0} (told : Bool) (program : Device → Prog (Device × R)) (core now : Core D F) (answer : R) (page page' : List ℕ)
      → IsDevice disk fabric core page
      → AgreesAfter disk fabric told (program core.device) core.device core.disk core.fabric
      → Went disk.moves fabric.moves program core now answer → length page' ≡ length page → IsDevice disk fabric now page'
  held_along told program core now answer page page' h after went len =
      held_from told core now page page' h
      (Leads-Along disk.moves fabric.moves (program core.device) core.disk core.fabric now.disk now.fabric (now.device, answer) _ after went) len

  pub new_held :
      (s : Sizes) (n : ℕ) (k : D) (f : F) (spare : ℕ) (page : List ℕ) → AgreeWith disk fabric (is_some (disk.means k).blocks) (device_at_start s n) k f
      → length page ≡ s.page_bytes → IsDevice disk fabric (record { device = device_at_start s n; disk = k; fabric = f; spare = spare }) page
  new_held s n k f spare page agrees len = record { agree = agrees; page_len = len }
