use Rattle.std.proofs.Common.{rules, ap, ap₂, codes, true, ◌≡◌, ◌∙◌}
use Rattle.std.proofs.lemmas.Result.{IfOk-weaker}
use Rattle.clap.specs.Words.{Rule, rule_of, with_rule}
use Rattle.clap.specs.declared.builder.arg.Arg.{Arg}
use Rattle.swap_options.specs.Commands.{option_rule}
use Rattle.swap_options.proofs.lend.lend_command.Goals as goal

pub returns : goal.returns
returns c =
    let listen : rule_of c.required.result ≡ record (option_rule (codes "listen")) { required = true } =
    ap rule_of c.required.ensures ∙ ap (λ (r : Rule). record r { required = true }) c.option.ensures.rule in
    let one =
    c.in_ok-arg.ensures.shape (ap (λ (a : Arg). a.global) c.required.ensures ∙ c.option.ensures.local) ∙ ap₂ with_rule c.bare_command.ensures listen in
    let two = c.in_ok-arg-2.ensures.shape (search rules) ∙ ap₂ with_rule one c.defaulted.ensures.rule in
    let three = c.in_ok-arg-3.ensures.shape (search rules) ∙ ap₂ with_rule two c.defaulted-2.ensures.rule in
    let four = c.in_ok-arg-4.ensures.shape (search rules) ∙ ap₂ with_rule three c.defaulted-3.ensures.rule in
    let five = c.in_ok-arg-5.ensures.shape (search rules) ∙ ap₂ with_rule four c.defaulted-4.ensures.rule in
    let six = c.in_ok-arg-6.ensures.shape (search rules) ∙ ap₂ with_rule five c.defaulted-5.ensures.rule in
    let seven = c.in_ok-arg-7.ensures.shape (search rules) ∙ ap₂ with_rule six c.defaulted-6.ensures.rule in
    IfOk-weaker c.arg-8.result _ _ (λ m h. h.shape (search rules) ∙ ap₂ with_rule seven c.defaulted-7.ensures.rule) c.arg-8.ensures
