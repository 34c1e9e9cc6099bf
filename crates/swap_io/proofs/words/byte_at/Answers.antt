use Rattle.std.proofs.Common.{◌+◌, ◌*◌, ap₂, sym, ◌∙◌}
use Rattle.swap_io.proofs.Pieces.{get_or-pairs}
use Rattle.swap_io.proofs.words.byte_at.Goals as goal

pub returns : goal.returns
returns c =
    ap₂ (λ h l. 16 * h + l) c.hex_value.ensures.value c.hex_value-2.ensures.value ∙ sym (get_or-pairs c.args.word.now c.args.i c.requires.within)
