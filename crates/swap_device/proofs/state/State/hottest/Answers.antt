use Rattle.std.proofs.Common.{◌<◌, length, sym, ap, ◌∙◌, subst, IfSome}
use Rattle.swap_base.specs.declared.Slab.{Slab}
use Rattle.swap_base.specs.Sizes.{Sizes}
use Rattle.swap_device.specs.State.{StateView}
use Rattle.swap_device.proofs.Programs.{hottest_few}
use Rattle.swap_device.proofs.state.State.hottest.Goals as goal

pub returns-clause-within : goal.returns-clause-within
returns-clause-within c =
    let len =
    ap length c.slabs.ensures ∙ c.keeps.ensures.slabs_len ∙ ap (λ (s : Sizes). s.slabs) c.self.invariant.remote_sizes
    ∙ ap (λ (x : StateView). x.device.sizes.slabs) c.self.view_is in
    subst (λ n. IfSome c.hottest.result (λ (slab : Slab). slab.0 < n)) len
    (subst (λ o. IfSome o (λ (slab : Slab). slab.0 < length c.slabs.result.now)) (sym c.hottest.ensures)
    (hottest_few c.hot.result c.slabs.result.now c.self.inside.rates))
