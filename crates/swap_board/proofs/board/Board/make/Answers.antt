use Rattle.std.proofs.Common.{rules, arith, ◌≡◌, ◌≤◌, ◌∙◌, ap, sym, subst, refl, [], ℕ, List, length, Some, Option}
use Rattle.std.specs.Vec.{vec_capacity}
use Rattle.swap_board.specs.Boards.{Named, IsBoard, seed_of, AreOperators}
use Rattle.swap_board.specs.Works.{IsSame}
use Rattle.swap_board.proofs.Boards.{board_made}
use Rattle.swap_board.proofs.board.Board.make.Goals as goal

pub invariant_of-result : goal.invariant_of-result
invariant_of-result g c =
    let r = c.reserve.ensures in
    let q = c.requires in
    let w = c.args.world in
    let NamedOf : Type 0 = Named g.row.D.Denot g.row.F.Denot in
    let n : NamedOf = g.N.Naming.named in
    let words : c.seed_from_u64.result ≡ seed_of n.number = c.seed_from_u64.ensures ∙ ap (λ (x : NamedOf). seed_of x.number) (sym q.named) in
    let none : c.in-Ok-with_capacity.places.items ≡ [] = search rules in
    let page : length c.in-Ok.page.items ≡ c.reserve.new.self.core.device.sizes.page_bytes = search rules in
    let same : IsSame w c.reserve.new.self = record { device = r.device; disk = r.disk; fabric = r.fabric; log = r.log; spare = r.no_less } in
    let room : c.args.calls ≤ c.reserve.new.self.core.spare = search rules in
    let C : ℕ → Type 0 = λ m. m ≤ c.reserve.new.self.core.spare in
    let P : List ℕ → Type 0 = λ l. IsBoard g.D.DiskPort.moves g.F.Fabric.moves n c.reserve.new.self 0 0 l c.seed_from_u64.result in
    let O : NamedOf → Type 0 = λ x. AreOperators x.sizes x.lenders x.operator in
    record {
      board =
          subst P (sym none)
          (board_made g.D.DiskPort.moves g.F.Fabric.moves n w c.reserve.new.self c.seed_from_u64.result (ap (λ (x : NamedOf). x.opening) q.named)
          (sym (ap (λ (x : NamedOf). x.sizes) q.named)) (sym (ap (λ (x : NamedOf). x.lenders) q.named))
          (subst O (sym q.named) q.operator) q.idle (subst C (sym (ap (λ (x : NamedOf). x.calls) q.named)) room) same words);
      operator_is = sym (ap (λ (x : NamedOf). x.operator) q.named);
      places = search rules;
      places_room = search rules;
      calls_are = sym (ap (λ (x : NamedOf). x.calls) q.named);
      page_len = page;
    }
