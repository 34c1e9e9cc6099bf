use Rattle.std.proofs.Common.{◌≡◌, List, position, refl, sym, ap, ◌∙◌, subst, arith, Option, None, Some}
use Rattle.swap_disk.specs.Disk.{Flight}
use Rattle.swap_file.specs.declared.flights.Flying.{Flying}
use Rattle.swap_file.specs.Flights.{FlightsView, is_flying, flights_of, Leaves, Holds}
use Rattle.swap_file.proofs.Ends.{find_none, leaves}
use Rattle.swap_file.proofs.Room.{holds_without}
use Rattle.swap_file.proofs.flights.Flights.end.Goals as goal

pub returns-in_err-place : goal.returns-in_err-place
returns-in_err-place c =
    let lost : position (is_flying c.args.which) c.self.inside.list.items ≡ None =
    sym (c.place_of.ensures ∙ ap (λ (l : List Flying). position (is_flying c.args.which) l) c.deref.ensures.value) ∙ c.in_err-place.was in
    subst (λ (o : Option Flying). Leaves c.args.which c.args.self.now o c.args.self.now) (sym c.from_residual.ensures)
    (subst (λ (r : FlightsView). Leaves c.args.which r None r) c.self.view_is (find_none c.args.which c.self.inside.list.items lost, refl))

pub invariant_of-self : goal.invariant_of-self
invariant_of-self c =
    let F : List Flight → FlightsView = λ fs. record { flights = fs; queue = c.self.inside.queue; callers = c.self.inside.callers } in
    let found : position (is_flying c.args.which) c.self.inside.list.items ≡ Some c.in_ok-place.place =
    sym (c.place_of.ensures ∙ ap (λ (l : List Flying). position (is_flying c.args.which) l) c.deref.ensures.value) ∙ c.in_ok-place.was in
    let left =
    leaves c.args.which c.self.inside.list.items c.in_ok-place.place c.remove.result c.remove.new.self.items found c.remove.ensures.value
    c.remove.ensures.items in (
      subst (λ (fs : List Flight). Holds (F fs)) (sym left.1) (holds_without (F (flights_of c.self.inside.list.items)) c.args.which c.self.invariant.0),
      omega (arith, c.self.invariant.1, c.remove.ensures.capacity),
    )

pub returns : goal.returns
returns c =
    let F : List Flight → FlightsView = λ fs. record { flights = fs; queue = c.self.inside.queue; callers = c.self.inside.callers } in
    let found : position (is_flying c.args.which) c.self.inside.list.items ≡ Some c.in_ok-place.place =
    sym (c.place_of.ensures ∙ ap (λ (l : List Flying). position (is_flying c.args.which) l) c.deref.ensures.value) ∙ c.in_ok-place.was in
    let left =
    leaves c.args.which c.self.inside.list.items c.in_ok-place.place c.remove.result c.remove.new.self.items found c.remove.ensures.value
    c.remove.ensures.items in
    subst (λ (r : FlightsView). Leaves c.args.which r (Some c.remove.result) (F (flights_of c.remove.new.self.items))) c.self.view_is (left.0, ap F left.1)
