use Rattle.std.proofs.Common.{arith, ◌+◌, ◌≤◌, ◌++◌, ◌∷◌, [], ap, ap₂, ◌∙◌, take, length}
use Rattle.std.proofs.lemmas.List.{take_all}
use Rattle.swap_io.specs.Words.{hex}
use Rattle.swap_io.proofs.Shortest.{hex_more, hex_room}
use Rattle.swap_io.proofs.line.LineBuf.shortest.Goals as goal
use Rattle.swap_io.specs.declared.TheConstants.{LINE_LENGTH}

pub text-requires : goal.text-requires
text-requires c =
    let piece = take c.shortest_len.result c.args.page.now in
    let fits : length c.args.self.now + length (hex piece) ≤ LINE_LENGTH = rw c.shortest_len.ensures.piece c.requires in
    rw c.loop-byte.invariant (hex_room c.args.self.now piece c.loop-byte.byte-index LINE_LENGTH (omega arith) fits)

pub loop-byte-preserved : goal.loop-byte-preserved
loop-byte-preserved c =
    c.text.ensures
    ∙ ap₂ (λ line digits. line ++ digits) c.loop-byte.invariant (ap₂ (λ h l. h ∷ l ∷ []) c.hex_digit.ensures c.hex_digit-in-loop-byte.ensures)
    ∙ hex_more c.args.self.now (take c.shortest_len.result c.args.page.now) c.loop-byte.byte-index (omega arith)

pub returns : goal.returns
returns c =
    let piece = take c.shortest_len.result c.args.page.now in
    c.loop-byte.invariant ∙ ap (λ p. c.args.self.now ++ hex p) (take_all c.loop-byte.byte-index piece (omega arith) ∙ c.shortest_len.ensures.piece)
