use Rattle.std.proofs.Common.{◌∙◌, length-set}
use Rattle.std.proofs.lemmas.List.{length-map}
use Rattle.swap_remote.specs.lemmas.Cleared.{length-left}
use Rattle.swap_remote.proofs.remote.Remote.lost.Goals as goal

pub invariant_of-self : goal.invariant_of-self
invariant_of-self c =
    let k = c.self.invariant in
    rw (c.send_home.ensures.bits, c.send_home.ensures.states, c.lose.ensures)
    (record {
      bits_len = length-left c.self.inside.geometry c.self.inside.slabs c.args.lender c.self.inside.bits 0 ∙ k.bits_len;
      slabs_len = length-map c.self.inside.slabs _ ∙ k.slabs_len;
      window = k.window;
      links_len = length-set c.self.inside.rings.links _ _ ∙ k.links_len;
    })
