use Rattle.std.proofs.Common.{refl}
use Rattle.swap_options.proofs.lend.options_in.Goals as goal

pub returns : goal.returns
returns c =
    rw (
      c.options_of.ensures,
      c.address_of.ensures,
      c.text_at.ensures,
      c.spec_in.ensures,
      c.number_at.ensures,
      c.number_at-2.ensures,
      c.number_at-3.ensures,
      c.number_at-4.ensures,
    )
    refl
