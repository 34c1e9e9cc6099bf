-- How a check ends where nothing fails.
use Rattle.std.proofs.Common.{◌≡◌, ℕ, suc, ◌-◌, List, ◌++◌, length, take, drop, replicate, refl, sym, ap, ◌∙◌, subst, inl, inr, arith, None, Some, Ok, Err}
use Rattle.std.proofs.lemmas.List.{take-append-drop}
use Rattle.swap_record.specs.History.{History, IsOrdered, IsFaithful, IsLegal}
use Rattle.swap_record.specs.Laws.{OrderedPasses, FaithfulPasses}
use Rattle.swap_record.specs.RecordView.{RecordView}
use Rattle.swap_record.specs.Judging.{Judges}
use Rattle.swap_record.specs.declared.Verdict.{Verdict}
use Rattle.swap_record.specs.declared.Verdict.TheVariants as verdict
use Rattle.swap_base.specs.declared.EntryNo.{EntryNo}
use Rattle.swap_script.specs.declared.ScriptRefused.{ScriptRefused}
use Rattle.swap_transcript.specs.Transcripts.{Transcript, transcript}
use Rattle.swap_transcript.specs.Verdicts.{book_of}
use Rattle.swap_run.specs.declared.Ending.TheVariants as ending
use Rattle.swap_run.specs.Clause.{Stream, Checked}
use Rattle.swap_run.specs.Checks.{ChecksTranscripts, ChecksRefuse}
use Rattle.swap_run.proofs.ReadText.{read_whole_is, read_length}

-- a history that is legal was so before its later entries
legal_before : OrderedPasses → FaithfulPasses → (zeros : List ℕ) (H : History) (k : ℕ) → IsLegal zeros H → IsLegal zeros (drop k H)
legal_before ordered faithful zeros H k h =
    let split : H ≡ take k H ++ drop k H = sym (take-append-drop k H) in
    (ordered (take k H) (drop k H) (subst IsOrdered split h.0), faithful zeros (take k H) (drop k H) (subst (IsFaithful zeros) split h.1))

one_verdict : OrderedPasses → FaithfulPasses → (b : RecordView) (at : EntryNo) → Judges b verdict.Legal → Judges b (verdict.NotLegal at) → ⊥
one_verdict ordered faithful b at legal wrong =
    elim wrong.wrong [
      | inl noted ↦ (let both : None ≡ Some at.0 = sym legal.0 ∙ noted in cc)
      | inr not ↦ not (legal_before ordered faithful (replicate b.page_bytes 0) b.history (length b.history - suc at.0) legal.1)
    ]

same_transcript : (text : List ℕ) (t u : Transcript) → transcript text ≡ Ok t → transcript text ≡ Ok u → u ≡ t
same_transcript text t u a b =
    let both : Ok t ≡ Ok u = sym a ∙ b in
    cc

-- what was judged is the text that was told
judged_is :
    (source out : Stream) (v : Verdict) (text : List ℕ) (t : Transcript) → Checked source out v → source.before ≡ Some text → transcript text ≡ Ok t
    → Judges (book_of t) v
judged_is source out v text t h told is =
    let j = h.judged in
    let same : text ≡ j.text = read_whole_is source.before source.now text j.text told j.was_read in
    let one : j.transcript ≡ t = same_transcript text t j.transcript is (subst (λ x. transcript x ≡ Ok j.transcript) (sym same) j.is_transcript) in
    subst (λ w. Judges (book_of t) w) h.is (subst (λ u. Judges (book_of u) h.judgement.verdict) one j.judges.1)

not_refused : (text : List ℕ) (t : Transcript) (refused : ScriptRefused) → transcript text ≡ Ok t → transcript text ≡ Err refused → ⊥
not_refused text t refused a b =
    let both : Ok t ≡ Err refused = sym a ∙ b in
    cc

pub checks_transcripts : OrderedPasses → FaithfulPasses → ChecksTranscripts
checks_transcripts ordered faithful source out ending.Done text t h told fits is no_fault no_write =
    inl (refl, judged_is source out verdict.Legal text t h told is)
checks_transcripts ordered faithful source out ending.NotLegal text t h told fits is no_fault no_write =
    inr (inl (refl, λ legal. one_verdict ordered faithful (book_of t) h.0 legal (judged_is source out (verdict.NotLegal h.0) text t h.1 told is)))
checks_transcripts ordered faithful source out ending.NoMemory text t h told fits is no_fault no_write = inr (inr refl)
checks_transcripts ordered faithful source out ending.Faulted text t h told fits is no_fault no_write = absurd h
checks_transcripts ordered faithful source out ending.Usage text t h told fits is no_fault no_write = absurd h
checks_transcripts ordered faithful source out ending.ReadFailed text t h told fits is no_fault no_write = absurd (no_fault h.0.failed)
checks_transcripts ordered faithful source out ending.WriteFailed text t h told fits is no_fault no_write = absurd (no_write h.failed)
checks_transcripts ordered faithful source out (ending.Refused refused) text t h told fits is no_fault no_write =
    absurd
    (not_refused text t refused is
    (subst (λ x. transcript x ≡ Err refused) (sym (read_whole_is source.before source.now text h.0.text told h.0.was_read)) h.0.is_refused))
checks_transcripts ordered faithful source out ending.HostFailed text t h told fits is no_fault no_write = absurd h
checks_transcripts ordered faithful source out ending.TooLong text t h told fits is no_fault no_write =
    let longer = read_length source.before source.now text h.0.bytes told h.0.was_read in
    absurd (omega (arith, longer, h.0.too_long))

-- a text that is no transcript isn't judged
not_judged :
    (source out : Stream) (v : Verdict) (text : List ℕ) (at : ScriptRefused) → Checked source out v → source.before ≡ Some text → transcript text ≡ Err at → ⊥
not_judged source out v text at h told is =
    let j = h.judged in
    not_refused text j.transcript at
    (subst (λ x. transcript x ≡ Ok j.transcript) (sym (read_whole_is source.before source.now text j.text told j.was_read)) j.is_transcript) is

same_fault : (text : List ℕ) (a b : ScriptRefused) → transcript text ≡ Err a → transcript text ≡ Err b → b ≡ a
same_fault text a b x y =
    let both : Err a ≡ Err b = sym x ∙ y in
    cc

pub checks_refuse : ChecksRefuse
checks_refuse source out ending.Done text at h told fits is no_fault no_write = absurd (not_judged source out verdict.Legal text at h told is)
checks_refuse source out ending.NotLegal text at h told fits is no_fault no_write = absurd (not_judged source out (verdict.NotLegal h.0) text at h.1 told is)
checks_refuse source out ending.NoMemory text at h told fits is no_fault no_write = inr refl
checks_refuse source out ending.Faulted text at h told fits is no_fault no_write = absurd h
checks_refuse source out ending.Usage text at h told fits is no_fault no_write = absurd h
checks_refuse source out ending.ReadFailed text at h told fits is no_fault no_write = absurd (no_fault h.0.failed)
checks_refuse source out ending.WriteFailed text at h told fits is no_fault no_write = absurd (no_write h.failed)
checks_refuse source out (ending.Refused refused) text at h told fits is no_fault no_write =
    inl
    (ap (λ r. ending.Refused r)
    (same_fault text at refused is
    (subst (λ x. transcript x ≡ Err refused) (sym (read_whole_is source.before source.now text h.0.text told h.0.was_read)) h.0.is_refused)))
checks_refuse source out ending.HostFailed text at h told fits is no_fault no_write = absurd h
checks_refuse source out ending.TooLong text at h told fits is no_fault no_write =
    let longer = read_length source.before source.now text h.0.bytes told h.0.was_read in
    absurd (omega (arith, longer, h.0.too_long))
