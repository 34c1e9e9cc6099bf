use Rattle.std.proofs.Common.{◌≡◌, ◌+◌, ◌*◌, ◌<◌, ◌≤◌, false, length, is_some, sym, ap, ◌∙◌, subst}
use Rattle.swap_slabs.specs.Slabs.{holds}
use Rattle.swap_remote.specs.lemmas.Cleared.{range_ends}
use Rattle.swap_remote.proofs.Left.{sent_home, none_lost, none_left}
use Rattle.swap_remote.proofs.remote.send_home.Goals as goal

pub loop-slab-preserved : goal.loop-slab-preserved
loop-slab-preserved c =
    let k = c.loop-slab.invariant in
    let each = c.pages_per_slab-each.ensures in
    let some : 0 < c.pages_per_slab-each.result = subst (λ n. 0 < n) (sym each) c.limits.ensures.within.pages_per_slab.0 in
    let within : c.in-Some.slab.0 < length c.loop-slab.states = c.in-Some.ensures.within in
    let ends =
    range_ends c.args.geometry.now.pages_per_slab c.args.geometry.now.slabs c.in-Some.slab.0
    (subst (λ n. c.in-Some.slab.0 < n) k.slabs_len within) in
    let range : c.in-Some.slab.0 * c.pages_per_slab-each.result + c.pages_per_slab-each.result ≤ length c.loop-slab.bits =
    rw each
    (subst (λ n. c.in-Some.slab.0 * c.args.geometry.now.pages_per_slab + c.args.geometry.now.pages_per_slab ≤ n) (sym k.bits_len) ends) in
    rw (c.send_home.ensures, c.clear_range.ensures)
    (sent_home c.args.geometry.now c.loop-slab.states c.args.lender c.loop-slab.bits c.in-Some.slab within c.in-Some.ensures.at
    c.is_a_set.ensures.clear_range c.is_a_set.ensures.bound c.pages_per_slab-each.result each some range c.args.states.now c.args.bits.now k)

pub returns-clause-states : goal.returns-clause-states
returns-clause-states c =
    let none : holds c.loop-slab.states c.args.lender ≡ false = sym c.one_at.ensures.some ∙ ap is_some c.in_default.is in
    sym (none_lost c.args.geometry.now c.loop-slab.states c.args.lender none) ∙ c.loop-slab.invariant.slabs_left

pub returns-clause-bits : goal.returns-clause-bits
returns-clause-bits c =
    let none : holds c.loop-slab.states c.args.lender ≡ false = sym c.one_at.ensures.some ∙ ap is_some c.in_default.is in
    sym (none_left c.args.geometry.now c.loop-slab.states c.args.lender none c.loop-slab.bits 0) ∙ c.loop-slab.invariant.bits_left
