use Rattle.std.proofs.Common.{ap, ◌∙◌, true, List, length}
use Rattle.swap_wire.specs.Fabric.{Parcel}
use Rattle.swap_link.specs.Lane.{Lane, parcels_in, cut}
use Rattle.swap_link.proofs.LaneLaws.{parcels-cut}
use Rattle.swap_link.proofs.lane.Lane.cut.Goals as goal

pub returns : goal.returns
returns c =
    let F : List Parcel → Lane = λ ps. record { parcels = ps; ended = true; room = length c.self.inside.places.items; page_bytes = c.self.inside.page_bytes } in
    ap F (ap (λ n. parcels_in c.self.inside.places.items n) c.min-self-inside.ensures ∙ parcels-cut c.self.inside.places.items c.self.inside.count c.args.count)
    ∙ ap (λ l. cut l c.args.count) c.self.view_is
