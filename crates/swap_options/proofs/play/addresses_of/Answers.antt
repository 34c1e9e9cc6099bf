use Rattle.std.proofs.Common.{◌∙◌, ◌+◌, ◌++◌, ◌∷◌, map, drop, length, List, [], ℕ, sym, ap, Bor, Option}
use Rattle.std.proofs.lemmas.List.{at_drop_more, length-append}
use Rattle.swap_sock.specs.declared.address.Address.{Address}
use Rattle.swap_options.specs.Play.{put_before, addresses_of}
use Rattle.swap_options.proofs.Lists.{put_all, unread, one_more, pushed}
use Rattle.swap_options.proofs.play.addresses_of.Goals as goal

abbrev given : List (Bor (List ℕ)) → Option (List Address)
given parts = addresses_of (map (λ part. part.now) parts)

pub returns-in_default-clause-usage : goal.returns-in_default-clause-usage
returns-in_default-clause-usage c = λ _.
    unread c.parts.list.items c.read.result (given (drop (c.parts.part-index + 1) c.args.parts.now)) (given c.args.parts.now)
    (c.parts.invariant.read
    ∙ ap (put_all c.parts.list.items) (at_drop_more given c.args.parts.now c.parts.part-index (record { ref_ptr = (0, 0); now = [] }) c.parts-test.true
    ∙ ap (λ r. put_before r (given (drop (c.parts.part-index + 1) c.args.parts.now))) (sym c.read.ensures)))
    c.in_default.is

pub parts-preserved : goal.parts-preserved
parts-preserved c =
    let items =
    c.push.ensures.items
    ∙ pushed c.push.result (c.parts.list.items ++ c.in-Some.address ∷ []) c.parts.list.items (sym c.is_err.ensures.value ∙ c.if-is_err.false) in
    record {
      read =
          one_more c.parts.list.items c.in-Some.address c.read.result (given (drop (c.parts.part-index + 1) c.args.parts.now)) (given c.args.parts.now)
          (c.parts.invariant.read
          ∙ ap (put_all c.parts.list.items) (at_drop_more given c.args.parts.now c.parts.part-index (record { ref_ptr = (0, 0); now = [] }) c.parts-test.true
          ∙ ap (λ r. put_before r (given (drop (c.parts.part-index + 1) c.args.parts.now))) (sym c.read.ensures)))
          c.in-Some.is
          ∙ ap (λ list. put_all list (given (drop (c.parts.part-index + 1) c.args.parts.now))) (sym items);
      number = ap length items ∙ length-append c.parts.list.items (c.in-Some.address ∷ []) ∙ ap (λ n. n + 1) c.parts.invariant.number;
    }
