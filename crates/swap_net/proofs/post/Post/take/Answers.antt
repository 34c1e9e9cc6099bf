use Rattle.std.proofs.Common.{rules, ◌≡◌, length, List, [], ◌∷◌, ◌++◌, sym, ap, subst, Option, None, MatchOption}
use Rattle.swap_wire.specs.Fabric.{NothingCame, LinkLost, Brought, parcel_of}
use Rattle.swap_net.specs.declared.post.Arrival.{Arrival}
use Rattle.swap_net.specs.Posts.{PostState, HandsOver, Looked}
use Rattle.swap_net.proofs.Arrivals.{older, got, lost}
use Rattle.swap_net.proofs.post.Post.take.Goals as goal
use Rattle.swap_net.proofs.post.Post.take.Goals.{in-Got+else-len-page, in_default-item}

pub returns-then-not-is_same-clause-looked : goal.returns-then-not-is_same-clause-looked
returns-then-not-is_same-clause-looked g c =
    let came : c.pop.new.self ≡ c.self.inside.arrivals ++ c.in-Some-pop.arrival ∷ [] =
    subst (λ (o : Option Arrival). MatchOption o (c.pop.new.self ≡ c.self.inside.arrivals) (λ x. c.pop.new.self ≡ c.self.inside.arrivals ++ x ∷ []))
    c.in-Some-pop.is c.pop.ensures in
    let F : List Arrival → PostState = λ cs. record { link = c.self.inside.link; came = cs } in
    subst (λ (p : PostState). Looked (length c.args.page.now) p NothingCame (F c.pop.new.self)) c.self.view_is
    (subst (λ cs. Looked (length c.args.page.now) (F c.self.inside.arrivals) NothingCame (F cs)) (sym came)
    (older
    (length c.args.page.now) c.self.inside.link c.in-Some.link c.self.inside.arrivals c.in-Some-pop.arrival c.is_same.result c.in-Some.is c.is_same.ensures
    c.if-not-is_same.true))

pub returns-then-len-page-clause-looked : goal.returns-then-len-page-clause-looked
returns-then-len-page-clause-looked g c =
    let x = c.in-Some-pop.arrival in
    let n = length c.args.page.now in
    let came : c.pop.new.self ≡ c.self.inside.arrivals ++ x ∷ [] =
    subst (λ (o : Option Arrival). MatchOption o (c.pop.new.self ≡ c.self.inside.arrivals) (λ x. c.pop.new.self ≡ c.self.inside.arrivals ++ x ∷ []))
    c.in-Some-pop.is c.pop.ensures in
    let p = parcel_of c.in-Got.msg c.copy_from_slice.new.self in
    let filled : c.copy_from_slice.new.self ≡ x.page.items = search rules in
    let F : List Arrival → PostState = λ cs. record { link = c.self.inside.link; came = cs } in
    subst (λ (s : PostState). Looked n s (Brought p) (F c.pop.new.self)) c.self.view_is
    (subst (λ cs. Looked n (F c.self.inside.arrivals) (Brought p) (F cs)) (sym came)
    (got n c.self.inside.link c.in-Some.link c.self.inside.arrivals x c.is_same.result c.in-Some.is c.is_same.ensures c.in-Got.msg p c.in-Got.is
    (ap (parcel_of c.in-Got.msg) filled) c.if-not-is_same.false))

pub returns-clause-looked : goal.returns-clause-looked
returns-clause-looked g c =
    let x = c.in-Some-pop.arrival in
    let n = length c.args.page.now in
    let came : c.pop.new.self ≡ c.self.inside.arrivals ++ x ∷ [] =
    subst (λ (o : Option Arrival). MatchOption o (c.pop.new.self ≡ c.self.inside.arrivals) (λ x. c.pop.new.self ≡ c.self.inside.arrivals ++ x ∷ []))
    c.in-Some-pop.is c.pop.ensures in
    let F : List Arrival → PostState = λ cs. record { link = c.self.inside.link; came = cs } in
    let G : List Arrival → PostState = λ cs. record { link = None; came = cs } in
    let hands : HandsOver n x.item x.page.items LinkLost = elim c.match-item.branch [
      | in-Got+else-len-page w ↦
          subst (λ i. HandsOver n i x.page.items LinkLost) (sym w.in-Got.is) (λ (e : length x.page.items ≡ n). w.if-len-page.false (search (rules, e)))
      | in_default-item w ↦ subst (λ i. HandsOver n i x.page.items LinkLost) (sym w.in_default-item.is) tt
    ] in
    subst (λ (s : PostState). Looked n s LinkLost (G c.pop.new.self)) c.self.view_is
    (subst (λ cs. Looked n (F c.self.inside.arrivals) LinkLost (G cs)) (sym came)
    (lost n c.self.inside.link c.in-Some.link c.self.inside.arrivals x c.is_same.result c.in-Some.is c.is_same.ensures hands c.if-not-is_same.false))
