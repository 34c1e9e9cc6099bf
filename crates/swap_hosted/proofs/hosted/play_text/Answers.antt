use Rattle.std.proofs.Common.{◌≤◌, length, subst, arith, Option, Vec, Global}
use Rattle.std.specs.Prelude.{IfSome}
use Rattle.swap_sock.specs.declared.address.Address.{Address}
use Rattle.swap_hosted.proofs.hosted.play_text.Goals as goal

pub overflow_cast-reached : goal.overflow_cast-reached
overflow_cast-reached g c =
    let P : Option (Vec Address Global) → Type 0 = λ tcp. IfSome tcp (λ list. length list.items ≤ 8) in
    let few : length c.in-Some.list.items ≤ 8 = subst P c.in-Some.is c.requires.lenders in
    omega (arith, few, c.len.ensures, c.in-Some.list.ok.0)
