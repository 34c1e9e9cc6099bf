use Rattle.std.proofs.Common.{ℕ, List, ◌<◌, ◌≤◌, ap, ◌∙◌, length, arith}
use Rattle.swap_wire.specs.Fabric.{Parcel}
use Rattle.swap_link.specs.Lane.{Lane, parcels_in, rest}
use Rattle.swap_link.proofs.LaneLaws.{parcels-popped}
use Rattle.swap_link.proofs.lane.Lane.pop.Goals as goal

pub returns-clause-lane : goal.returns-clause-lane
returns-clause-lane c =
    let F : List Parcel → ℕ → Lane = λ ps room. record { parcels = ps; ended = c.self.inside.ended; room = room; page_bytes = c.self.inside.page_bytes } in
    let some : 0 < c.self.inside.count = omega (arith, c.if-self-eq0.false) in
    let popped =
    parcels-popped c.self.inside.places.items c.rotate_left.new.self.items c.self.inside.count some c.self.invariant.used c.rotate_left.ensures.items in
    ap (λ ps. F ps (length c.rotate_left.new.self.items)) popped.0 ∙ ap (λ n. F (rest (parcels_in c.self.inside.places.items c.self.inside.count)) n) popped.1
    ∙ ap (λ (l : Lane). record { parcels = rest l.parcels; ended = l.ended; room = l.room; page_bytes = l.page_bytes }) c.self.view_is
