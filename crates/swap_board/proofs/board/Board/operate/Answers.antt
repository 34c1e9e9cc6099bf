use Rattle.std.proofs.Common.{rules, arith, ◌≡◌, ◌≢◌, ◌<◌, ◌≤◌, ◌+◌, ◌∙◌, ap, sym, refl, subst, [], ◌∷◌, ◌++◌, ℕ, List, length, get_or, false}
use Rattle.swap_wire.specs.Fabric.{FabricOf}
use Rattle.swap_wire.specs.declared.Event.{Event}
use Rattle.swap_table.specs.Device.{Device}
use Rattle.swap_board.specs.Acts.{Operator, IsOperators}
use Rattle.swap_board.specs.Boards.{IsBoard, IsOperatorsOf}
use Rattle.swap_board.specs.Works.{IsSame, MakesOne}
use Rattle.swap_board.specs.declared.works.Moved.TheVariants as moved
use Rattle.swap_board.proofs.Boards.{board_same, board_operated, all_at, made_none, made_one, operates_as}
use Rattle.swap_board.proofs.board.Board.operate.Goals as goal

pub invariant_of-self : goal.invariant_of-self
invariant_of-self g c =
    let k = c.self.invariant in
    let none : c.make-moved.result ≡ moved.NoMemory = search rules in
    let same : IsSame c.self.inside.world c.make-moved.new.world =
    made_none g.D.DiskPort.moves g.F.Fabric.moves c.index.result.now c.make-moved.result c.self.inside.world c.make-moved.new.world none
    c.make-moved.ensures.made in
    record {
      board =
          board_same g.D.DiskPort.moves g.F.Fabric.moves g.N.Naming.named c.self.inside.world c.make-moved.new.world c.self.inside.begun c.self.inside.since
          c.self.inside.places.items c.self.inside.words same k.board;
      operator_is = k.operator_is;
      places = k.places;
      places_room = k.places_room;
      calls_are = k.calls_are;
      page_len = c.make-moved.ensures.page ∙ k.page_len ∙ ap (λ (d : Device). d.sizes.page_bytes) (sym same.device);
    }

pub invariant_of-self-2 : goal.invariant_of-self-2
invariant_of-self-2 g c =
    let k = c.self.invariant in
    let w = c.self.inside.world in
    let e : Event = c.index.result.now in
    let some : c.make-moved.result ≢ moved.NoMemory = search rules in
    let one : MakesOne g.D.DiskPort.moves g.F.Fabric.moves e c.make-moved.result w c.make-moved.new.world =
    made_one g.D.DiskPort.moves g.F.Fabric.moves e c.make-moved.result w c.make-moved.new.world some c.make-moved.ensures.made in
    let here : length c.self.inside.places.items < length c.self.inside.operator.items = (let m = k.places in search rules) in
    let within : length c.self.inside.places.items < length g.N.Naming.named.operator =
    (let P : List Event → Type 0 = λ l. length c.self.inside.places.items < length l in subst P k.operator_is here) in
    let next : e ≡ get_or g.N.Naming.named.operator (length c.self.inside.places.items) e =
    (let P : List Event → Type 0 = λ l. e ≡ get_or l (length c.self.inside.places.items) e in subst P k.operator_is (search rules)) in
    let is : IsOperators e =
    (let P : Event → Type 0 = IsOperatorsOf g.N.Naming.named.sizes g.N.Naming.named.lenders in
    subst P (sym next) (all_at P g.N.Naming.named.operator (length c.self.inside.places.items) e k.board.operators within)).0 in
    let grown : c.push_reserved.new.self.items ≡ c.self.inside.places.items ++ length w.log ∷ [] = search rules in
    let now =
    board_operated g.D.DiskPort.moves g.F.Fabric.moves g.N.Naming.named w c.make-moved.new.world c.self.inside.begun c.self.inside.since
    c.self.inside.places.items c.push_reserved.new.self.items c.self.inside.words e one.page one.seen
    is within next grown (one.works Operator) k.board in
    let P : ℕ → Type 0 =
    λ n.
    IsBoard g.D.DiskPort.moves g.F.Fabric.moves g.N.Naming.named c.make-moved.new.world c.self.inside.begun n c.push_reserved.new.self.items
    c.self.inside.words in
    record {
      board = subst P (sym c.since_after-self-inside.ensures) now;
      operator_is = k.operator_is;
      places = (let room = here in search rules);
      places_room = (let room = k.places_room in search rules);
      calls_are = k.calls_are;
      page_len = c.make-moved.ensures.page ∙ k.page_len ∙ ap (λ (o : FabricOf). o.sizes.page_bytes) (sym (one.works Operator).makes.of);
    }

pub returns : goal.returns
returns g c =
    let k = c.self.invariant in
    let w = c.self.inside.world in
    let e : Event = c.index.result.now in
    let some : c.make-moved.result ≢ moved.NoMemory = search rules in
    let one : MakesOne g.D.DiskPort.moves g.F.Fabric.moves e c.make-moved.result w c.make-moved.new.world =
    made_one g.D.DiskPort.moves g.F.Fabric.moves e c.make-moved.result w c.make-moved.new.world some c.make-moved.ensures.made in
    let here : length c.self.inside.places.items < length c.self.inside.operator.items = (let m = k.places in search rules) in
    let within : length c.self.inside.places.items < length g.N.Naming.named.operator =
    (let P : List Event → Type 0 = λ l. length c.self.inside.places.items < length l in subst P k.operator_is here) in
    let next : e ≡ get_or g.N.Naming.named.operator (length c.self.inside.places.items) e =
    (let P : List Event → Type 0 = λ l. e ≡ get_or l (length c.self.inside.places.items) e in subst P k.operator_is (search rules)) in
    let more : length c.push_reserved.new.self.items ≡ length c.self.inside.places.items + 1 = search rules in
    record {
      makes =
          rw (← c.self.view_is)
          (operates_as g.D.DiskPort.moves g.F.Fabric.moves g.N.Naming.named.operator e w c.make-moved.new.world c.self.inside.begun c.self.inside.since
          (length c.self.inside.places.items) c.since_after-self-inside.result (length c.push_reserved.new.self.items) c.self.inside.words
          c.make-moved.result c.operator_did.result some one within next c.since_after-self-inside.ensures more c.operator_did.ensures);
    }
