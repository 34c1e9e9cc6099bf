use Rattle.swap_wire.specs.Decoding.{decoder_at_start, count_up}
use Rattle.std.proofs.Common.{refl, ◌∙◌, ap, arith}
use Rattle.swap_wire.specs.Streams.{end_of, stream, messages_given}
use Rattle.swap_wire.proofs.Streaming.{reads, refuses_none, one_reading, counts, stays_bad, has_room}
use Rattle.swap_wire.proofs.streams_are_read.Goals as goal

pub returns-clause-exactly : goal.returns-clause-exactly
returns-clause-exactly c = λ side page_bytes steps r alive. reads (decoder_at_start side page_bytes) steps r alive

pub returns-clause-however_cut : goal.returns-clause-however_cut
returns-clause-however_cut c = λ side page_bytes steps others r q e alive living absent missing.
    one_reading side page_bytes (stream (decoder_at_start side page_bytes) steps) (stream (decoder_at_start side page_bytes) others)
    (end_of (decoder_at_start side page_bytes) steps).rest
    (end_of (decoder_at_start side page_bytes) others).rest (messages_given steps) (messages_given others)
    (reads (decoder_at_start side page_bytes) steps r alive)
    (reads (decoder_at_start side page_bytes) others q living)
    e
    absent
    missing

pub returns-clause-places : goal.returns-clause-places
returns-clause-places c = λ side page_bytes steps r. counts (decoder_at_start side page_bytes) 0 steps refl r ∙ ap count_up (omega arith)

pub returns-clause-bad_stays : goal.returns-clause-bad_stays
returns-clause-bad_stays c = stays_bad

pub returns-clause-room : goal.returns-clause-room
returns-clause-room c = has_room

pub returns-clause-refuses_none : goal.returns-clause-refuses_none
returns-clause-refuses_none c = λ side page_bytes steps gs more most r sent e. refuses_none (decoder_at_start side page_bytes) steps gs more most refl r sent e
