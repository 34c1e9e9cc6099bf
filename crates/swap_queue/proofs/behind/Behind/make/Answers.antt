use Rattle.std.proofs.Common.{◌≡◌, ◌∙◌, ap, arith}
use Rattle.swap_queue.specs.Queue.{Queue}
use Rattle.swap_queue.specs.BehindView.{BehindView}
use Rattle.swap_queue.specs.Cells.{free_cells}
use Rattle.swap_queue.specs.Stored.{StoreView}
use Rattle.swap_queue.proofs.Steps.{new_step}
use Rattle.swap_queue.proofs.behind.Behind.make.Goals as goal

pub invariant_of-result : goal.invariant_of-result
invariant_of-result c =
    let cells : c.in_ok-store.store.cells ≡ free_cells c.args.geometry.now.queue c.args.geometry.now.page_bytes =
    ap (λ (s : StoreView). s.cells) c.in_ok-store.ensures ∙ ap (λ n. free_cells n c.page_bytes.result) c.queue.ensures
    ∙ ap (λ n. free_cells c.args.geometry.now.queue n) c.page_bytes.ensures in
    let moved = new_step c.args.geometry.now c.in_ok-store.store.cells c.in-Ok.line.items cells c.in-Ok.ensures.items in
    (moved.fits, omega (arith, c.in-Ok.ensures.capacity, c.queue-2.ensures), ap (λ (s : StoreView). s.pages) c.in_ok-store.ensures ∙ c.pages.ensures)

pub returns : goal.returns
returns c =
    let cells : c.in_ok-store.store.cells ≡ free_cells c.args.geometry.now.queue c.args.geometry.now.page_bytes =
    ap (λ (s : StoreView). s.cells) c.in_ok-store.ensures ∙ ap (λ n. free_cells n c.page_bytes.result) c.queue.ensures
    ∙ ap (λ n. free_cells c.args.geometry.now.queue n) c.page_bytes.ensures in
    let F : Queue → BehindView = λ q. record { sizes = c.args.geometry.now; queue = q } in
    ap F (new_step c.args.geometry.now c.in_ok-store.store.cells c.in-Ok.line.items cells c.in-Ok.ensures.items).is
