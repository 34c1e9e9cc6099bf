use Rattle.std.proofs.Common.{refl, sym, ◌∙◌, arith}
use Rattle.swap_wire.specs.Frames.{kind}
use Rattle.swap_wire.proofs.Fields.{pages_below, fields_short}
use Rattle.swap_wire.proofs.Unique.{counted_is, no_front, one_message, frame_within}
use Rattle.swap_wire.proofs.Answering.{excludes}
use Rattle.swap_wire.proofs.Streaming.{one_of_three, longest_is_sent}
use Rattle.swap_wire.proofs.frames_are_one.Goals as goal

pub returns-clause-has_frame : goal.returns-clause-has_frame
returns-clause-has_frame c = λ page_bytes m page most numbers len each. record {
  from = refl;
  numbers = numbers;
  pages = len;
  each = each;
  short = omega (arith, counted_is m page page_bytes len, fields_short (kind m), pages_below (kind m) page_bytes, most);
  spelled = refl;
}

pub returns-clause-one_frame : goal.returns-clause-one_frame
returns-clause-one_frame c = λ s t j k m page a b f g. f.spelled ∙ sym g.spelled

pub returns-clause-one_message : goal.returns-clause-one_message
returns-clause-one_message c = one_message

pub returns-clause-no_front : goal.returns-clause-no_front
returns-clause-no_front c = no_front

pub returns-clause-longest : goal.returns-clause-longest
returns-clause-longest c = frame_within

pub returns-clause-one_of_three : goal.returns-clause-one_of_three
returns-clause-one_of_three c = one_of_three

pub returns-clause-no_two : goal.returns-clause-no_two
returns-clause-no_two c = excludes

pub returns-clause-longest_is_sent : goal.returns-clause-longest_is_sent
returns-clause-longest_is_sent c = longest_is_sent
