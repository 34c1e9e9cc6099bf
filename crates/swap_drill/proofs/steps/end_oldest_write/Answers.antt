use Rattle.std.proofs.Common.{◌≡◌, ◌<◌, ap, sym, ◌∙◌, subst, true, Some}
use Rattle.swap_base.specs.Sizes.{Sizes, pages_of}
use Rattle.swap_disk.specs.MemDiskView.{MemDiskView}
use Rattle.swap_disk.specs.Port.{oldest_write_in, writes_in}
use Rattle.swap_link.specs.Harbor.{Harbor}
use Rattle.swap_table.specs.Device.{Core}
use Rattle.swap_drill.specs.Drill.{drill_sizes}
use Rattle.swap_drill.specs.Steps.{world_in}
use Rattle.swap_drill.proofs.Writes.{oldest_within, no_write_ends, few_writes, write_ended}
use Rattle.swap_drill.proofs.steps.end_oldest_write.Goals as goal

pub make-requires-clause-range : goal.make-requires-clause-range
make-requires-clause-range c =
    let same : c.disk-disk.result.now ≡ c.device.result.now.disk =
    c.disk-disk.ensures ∙ ap (λ (k : Core MemDiskView Harbor). k.disk) (c.device-2.ensures ∙ sym c.device.ensures) in
    let oldest : oldest_write_in c.device.result.now.disk.disk.flights ≡ Some c.in-Some.oldest =
    ap (λ (d : MemDiskView). oldest_write_in d.disk.flights) (sym same) ∙ sym c.oldest_write.ensures ∙ c.in-Some.is in
    let sizes : c.device.result.now.device.sizes ≡ drill_sizes =
    ap (λ (k : Core MemDiskView Harbor). k.device.sizes) c.device.ensures ∙ c.requires.ready.sizes in
    subst (λ (s : Sizes). c.in-Some.oldest.0 < pages_of s) sizes
    (oldest_within true
    (pages_of c.device.result.now.device.sizes) c.device.result.now.device.sizes.callers c.device.result.now.device.queue c.device.result.now.device.calls
    c.device.result.now.disk.disk.flights c.in-Some.oldest c.agrees.ensures.0.disk.agrees.expected oldest)

pub returns-in_default-clause-reach : goal.returns-in_default-clause-reach
returns-in_default-clause-reach c =
    no_write_ends (world_in c.args.world.now) c.args.world.now.core.disk.disk.flights
    (ap (λ d. oldest_write_in d.disk.flights) (sym (c.disk-disk.ensures ∙ ap (λ k. k.disk) c.device-2.ensures)) ∙ sym c.oldest_write.ensures
    ∙ c.in_default.is)

pub returns-else-writes_in_flight-gt3-clause-reach : goal.returns-else-writes_in_flight-gt3-clause-reach
returns-else-writes_in_flight-gt3-clause-reach c =
    few_writes (world_in c.args.world.now) c.args.world.now.core.disk.disk.flights c.writes_in_flight.result
    (c.writes_in_flight.ensures ∙ ap (λ d. writes_in d.disk.flights) (c.disk-disk.ensures ∙ ap (λ k. k.disk) c.device-2.ensures))
    c.if-writes_in_flight-gt3.false

pub returns-in-Some-clause-reach : goal.returns-in-Some-clause-reach
returns-in-Some-clause-reach c =
    let same : c.disk-disk.result.now ≡ c.args.world.now.core.disk = c.disk-disk.ensures ∙ ap (λ (k : Core MemDiskView Harbor). k.disk) c.device-2.ensures in
    write_ended (world_in c.args.world.now) (world_in c.make.new.world) c.args.world.now.core.disk.disk.flights c.in-Some.oldest c.writes_in_flight.result
    (c.writes_in_flight.ensures ∙ ap (λ (d : MemDiskView). writes_in d.disk.flights) same) c.if-writes_in_flight-gt3.true
    (ap (λ (d : MemDiskView). oldest_write_in d.disk.flights) (sym same) ∙ sym c.oldest_write.ensures ∙ c.in-Some.is) c.make.ensures.reach
