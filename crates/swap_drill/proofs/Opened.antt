-- The world before the first event.
use Rattle.std.proofs.Common.{◌≡◌, [], ◌∷◌, ap, ◌∙◌}
use Rattle.swap_base.specs.Sizes.{Sizes}
use Rattle.swap_base.specs.declared.geometry.LenderSpec.{LenderSpec}
use Rattle.swap_table.specs.Device.{Device, device_at_start}
use Rattle.swap_disk.specs.MemDiskView.{MemDiskView, new_drive}
use Rattle.swap_link.specs.Harbor.{Harbor}
use Rattle.swap_world.specs.World.{World, new_harbor}
use Rattle.swap_world.specs.Runs.{WorldView}
use Rattle.swap_drill.specs.Drill.{drill_sizes, drill_lender, drill_lenders, drill_start}
use Rattle.swap_drill.specs.Steps.{world_in}

pub opened :
    (w : WorldView MemDiskView Harbor) (s : Sizes) (spec : LenderSpec) → s ≡ drill_sizes → spec ≡ drill_lender → w.core.device ≡ device_at_start s 3
    → w.core.disk ≡ new_drive s
    → w.core.fabric ≡ new_harbor s (spec ∷ spec ∷ spec ∷ []) → world_in w ≡ drill_start
unfolding drill_start
opened w s spec sizes lends device disk fabric =
    let W : Device → MemDiskView → Harbor → World = λ d k h. record { device = d; drive = k; harbor = h } in
    let d : w.core.device ≡ device_at_start drill_sizes 3 = device ∙ ap (λ x. device_at_start x 3) sizes in
    let k : w.core.disk ≡ new_drive drill_sizes = disk ∙ ap new_drive sizes in
    let h : w.core.fabric ≡ new_harbor drill_sizes drill_lenders =
    fabric ∙ ap (λ x. new_harbor x (spec ∷ spec ∷ spec ∷ [])) sizes ∙ ap (λ x. new_harbor drill_sizes (x ∷ x ∷ x ∷ [])) lends in
    ap (λ x. W x w.core.disk w.core.fabric) d ∙ ap (λ x. W (device_at_start drill_sizes 3) x w.core.fabric) k
    ∙ ap (λ x. W (device_at_start drill_sizes 3) (new_drive drill_sizes) x) h
