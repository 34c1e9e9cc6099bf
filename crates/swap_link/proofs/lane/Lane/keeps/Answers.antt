use Rattle.std.proofs.Common.{subst}
use Rattle.swap_link.specs.Lane.{ParcelsFit}
use Rattle.swap_link.proofs.LaneLaws.{parcels-fit}
use Rattle.swap_link.proofs.lane.Lane.keeps.Goals as goal

pub returns : goal.returns
returns c = subst ParcelsFit c.self.view_is (parcels-fit c.self.inside.places.items c.self.inside.count c.self.inside.page_bytes c.self.invariant.pages)
