use Rattle.std.proofs.Common.{refl}
use Rattle.swap_player.specs.Turns.{ended_without}
use Rattle.swap_player.specs.declared.paging.SwapFault.TheVariants as fault
use Rattle.swap_player.proofs.Turns.{looked_self}
use Rattle.swap_player.proofs.swap.Swap.page_out.Goals as goal

pub returns-in_default-clause-pages : goal.returns-in_default-clause-pages
returns-in_default-clause-pages g c = record { ended = ended_without fault.NoMemory; is = refl; pages = looked_self c.args.pass.now }
