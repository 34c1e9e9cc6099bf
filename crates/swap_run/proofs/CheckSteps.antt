-- How a check ends, from its steps.
use Rattle.std.proofs.Common.{◌≡◌, ℕ, ◌≤◌, List, [], length, refl, sym, ap, ◌∙◌, subst, arith, Option, Result, Ok, Err, inl, inr}
use Rattle.std.specs.Io.KnownBytes.{Appends, append_known}
use Rattle.std.proofs.KnownBytes.{Appends-kept}
use Rattle.swap_io.specs.Causes.{WasReadWhole}
use Rattle.swap_io.specs.Gathered.{Gathered, gathered_bytes}
use Rattle.swap_record.specs.declared.Verdict.TheVariants as verdict
use Rattle.swap_script.specs.declared.ScriptRefused.{ScriptRefused}
use Rattle.swap_script.specs.declared.TheConstants.{TEXT_LIMIT}
use Rattle.swap_transcript.specs.declared.Judgement.{Judgement}
use Rattle.swap_transcript.specs.declared.TranscriptRefused.TheVariants as refused
use Rattle.swap_transcript.specs.Transcripts.{Transcript, transcript}
use Rattle.swap_transcript.specs.Verdicts.{Answers}
use Rattle.swap_run.specs.declared.Ending.{Ending}
use Rattle.swap_run.specs.declared.Ending.TheVariants as ending
use Rattle.swap_run.specs.Judging.{verdict_line}
use Rattle.swap_run.specs.Clause.{Stream, stream}
use Rattle.swap_run.specs.Checks.{TextJudged, SourceJudged, VerdictEnds}
use Rattle.swap_run.specs.Blocks.{IsFresh, HandsOn}
use Rattle.swap_run.proofs.BlockEnds.{out_front, out_all, out_nothing, all_is_front}

judged_as :
    (source : Stream) (text : List ℕ) (read : Result Transcript ScriptRefused) (r : Result Judgement Ending) → WasReadWhole source.before source.now text
    → length text ≤ TEXT_LIMIT → transcript text ≡ read → TextJudged read r → SourceJudged source r
judged_as source text (Ok t) (Ok j) whole within is h =
    record { text = text; was_read = whole; within = within; transcript = t; is_transcript = is; judges = h }
judged_as source text (Err at) (Ok j) whole within is h = absurd h
judged_as source text (Err at) (Err (ending.Refused r)) whole within is h =
    record { text = text; was_read = whole; within = within; is_refused = is ∙ ap (λ e. Err e) (sym h) }
judged_as source text (Err at) (Err ending.NoMemory) whole within is h = tt
judged_as source text (Ok t) (Err ending.NoMemory) whole within is h = tt
judged_as source text read (Err other) whole within is h = absurd h

-- a text that was read whole
pub judged_text :
    (source : Stream) (text : List ℕ) (r : Result Judgement Ending) → WasReadWhole source.before source.now text → length text ≤ TEXT_LIMIT
    → TextJudged (transcript text) r → SourceJudged source r
judged_text source text r whole within h = judged_as source text (transcript text) r whole within refl h

-- a verdict that is told before a sink that gathers
handed_on :
    (j : Judgement) (before : Option (List ℕ)) (f : ℕ) (mid now : Gathered) (ran end : Ending) → IsFresh before → f ≤ mid.faults → HandsOn ran mid now end
    → VerdictEnds j (stream (append_known before []) (gathered_bytes mid) f mid.faults) ran → VerdictEnds j (stream before now.handed f now.faults) end
handed_on j before f mid now ending.Done end fresh later hands v =
    elim hands.1 [
      | inl same ↦
          subst (VerdictEnds j (stream before now.handed f now.faults)) (sym same.0)
          (v.0, out_all before (gathered_bytes mid) now.handed now.held (verdict_line j) same.1 v.1 hands.0)
      | inr failed ↦
          subst (VerdictEnds j (stream before now.handed f now.faults)) (sym failed.0) (
            out_front before now.handed now.held (verdict_line j) fresh
                (all_is_front (append_known before []) (gathered_bytes now) (verdict_line j)
                (Appends-kept (append_known before []) (gathered_bytes mid) (gathered_bytes now) (verdict_line j) v.1 hands.0)),
            omega (arith, later, failed.1),
          )
    ]
handed_on j before f mid now ending.NotLegal end fresh later hands v =
    elim hands.1 [
      | inl same ↦
          subst (VerdictEnds j (stream before now.handed f now.faults)) (sym same.0)
          (v.0, v.1, out_all before (gathered_bytes mid) now.handed now.held (verdict_line j) same.1 v.2 hands.0)
      | inr failed ↦
          subst (VerdictEnds j (stream before now.handed f now.faults)) (sym failed.0) (
            out_front before now.handed now.held (verdict_line j) fresh
                (all_is_front (append_known before []) (gathered_bytes now) (verdict_line j)
                (Appends-kept (append_known before []) (gathered_bytes mid) (gathered_bytes now) (verdict_line j) v.2 hands.0)),
            omega (arith, later, failed.1),
          )
    ]
handed_on j before f mid now ending.WriteFailed end fresh later hands v =
    subst (VerdictEnds j (stream before now.handed f now.faults)) (sym hands.0)
    (subst (λ (s : Gathered). VerdictEnds j (stream before s.handed f s.faults) ending.WriteFailed) (sym hands.1)
    (out_front before mid.handed mid.held (verdict_line j) fresh v.0, v.1))
handed_on j before f mid now ending.NoMemory end fresh later hands v =
    subst (VerdictEnds j (stream before now.handed f now.faults)) (sym hands.0)
    (subst (λ (s : Gathered). VerdictEnds j (stream before s.handed f s.faults) ending.NoMemory) (sym hands.1) (out_nothing before mid.handed mid.held fresh v))
handed_on j before f mid now ending.Faulted end fresh later hands v = absurd v
handed_on j before f mid now ending.Usage end fresh later hands v = absurd v
handed_on j before f mid now ending.ReadFailed end fresh later hands v = absurd v
handed_on j before f mid now (ending.Refused r) end fresh later hands v = absurd v
handed_on j before f mid now ending.HostFailed end fresh later hands v = absurd v
handed_on j before f mid now ending.TooLong end fresh later hands v = absurd v

pub verdict_in_blocks :
    (j : Judgement) (before mid now : Gathered) (ran end : Ending) → before.held ≡ [] → IsFresh before.handed → before.faults ≤ mid.faults
    → HandsOn ran mid now end → VerdictEnds j (stream (gathered_bytes before) (gathered_bytes mid) before.faults mid.faults) ran
    → VerdictEnds j (stream before.handed now.handed before.faults now.faults) end
verdict_in_blocks j before mid now ran end none fresh later hands v =
    handed_on j before.handed before.faults mid now ran end fresh later hands
    (subst (λ held. VerdictEnds j (stream (append_known before.handed held) (gathered_bytes mid) before.faults mid.faults) ran) none v)

-- a text that was judged, that is no transcript, or that wasn't read
pub text_judged : (read : Result Transcript ScriptRefused) (j : Judgement) → Answers read (Ok j) → TextJudged read (Ok j)
text_judged (Ok t) j h = h
text_judged (Err at) j h = absurd h

pub text_refused : (read : Result Transcript ScriptRefused) (r : ScriptRefused) → Answers read (Err (refused.Line r)) → TextJudged read (Err (ending.Refused r))
text_refused (Ok t) r h = absurd h
text_refused (Err at) r h = h

pub text_unread : (read : Result Transcript ScriptRefused) → TextJudged read (Err ending.NoMemory)
text_unread (Ok t) = tt
text_unread (Err at) = tt
