use Rattle.std.proofs.Common.{◌++◌}
use Rattle.swap_wire.specs.Frames.{word}
use Rattle.swap_wire.proofs.Buffers.{appended_twice}
use Rattle.swap_wire.proofs.frames.put_three.Goals as goal

pub returns-clause-words : goal.returns-clause-words
returns-clause-words c =
    let two =
    appended_twice c.args.out.now c.put_one.new.out c.put_one-2.new.out (word c.args.first)
    (word c.args.second) c.put_one.ensures.word c.put_one-2.ensures.word in
    appended_twice c.args.out.now c.put_one-2.new.out c.put_one-3.new.out (word c.args.first ++ word c.args.second)
    (word c.args.third) two c.put_one-3.ensures.word
