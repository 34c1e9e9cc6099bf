use Rattle.std.proofs.Common.{ap, ◌∙◌}
use Rattle.swap_wire.specs.Frames.{word, long}
use Rattle.swap_wire.specs.Buffer.{append_after}
use Rattle.swap_wire.proofs.Buffers.{appended_twice}
use Rattle.swap_wire.proofs.frames.put_rate.Goals as goal

pub returns-clause-words : goal.returns-clause-words
returns-clause-words c =
    appended_twice c.args.out.now c.put_one.new.out c.append.new.self (word c.args.first) (long c.args.second) c.put_one.ensures.word
    (c.append.ensures ∙ ap (append_after c.put_one.new.out) c.to_be_bytes.ensures)
