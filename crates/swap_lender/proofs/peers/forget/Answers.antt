use Rattle.std.proofs.Common.{rules, not}
use Rattle.std.proofs.lemmas.Fn.{filter_same}
use Rattle.swap_lender.specs.Lender.{is_peer}
use Rattle.swap_lender.proofs.peers.forget.Goals as goal

pub returns-clause-items : goal.returns-clause-items
returns-clause-items c = filter_same _ (λ peer. not (is_peer c.args.link peer)) _ (λ x b f' k. search rules) _ _ c.retain.ensures.filtered
