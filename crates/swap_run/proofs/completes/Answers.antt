-- Each other ending is ruled out by its cause.
use Rattle.std.proofs.Common.{◌≡◌, ℕ, ◌≤◌, ◌⊎◌, List, length, refl, sym, subst, inl, inr, arith, Some, Ok, Err}
use Rattle.swap_script.specs.declared.ScriptRefused.{ScriptRefused}
use Rattle.swap_script.specs.Reading.{script}
use Rattle.swap_script.specs.Reading as reading
use Rattle.swap_script.specs.declared.TheConstants.{TEXT_LIMIT}
use Rattle.swap_run.specs.declared.Command.TheVariants.{RunScript}
use Rattle.swap_run.specs.declared.Ending.{Ending}
use Rattle.swap_run.specs.declared.Ending.TheVariants as ending
use Rattle.swap_run.specs.Clause.{Stream, Ends, Failed}
use Rattle.swap_run.proofs.ReadText.{read_whole_is, read_length}
use Rattle.swap_run.proofs.completes.Goals as goal

not_both : (text : List ℕ) (s : reading.Script) (refused : ScriptRefused) → script text ≡ Ok s → script text ≡ Err refused → ⊥
not_both text s refused a b = cc

completes :
    (source out : Stream) (end : Ending) (text : List ℕ) (s : reading.Script) → Ends (Some RunScript) source out end → source.before ≡ Some text
    → length text ≤ TEXT_LIMIT → script text ≡ Ok s → ¬ Failed source → ¬ Failed out
    → (end ≡ ending.Done) ⊎ ((end ≡ ending.Faulted) ⊎ (end ≡ ending.NoMemory))
completes source out ending.Done text s h told fits is no_fault no_write = inl refl
completes source out ending.Faulted text s h told fits is no_fault no_write = inr (inl refl)
completes source out ending.Usage text s h told fits is no_fault no_write = absurd h
completes source out ending.ReadFailed text s h told fits is no_fault no_write = absurd (no_fault h.0.failed)
completes source out ending.WriteFailed text s h told fits is no_fault no_write = absurd (no_write h.failed)
completes source out (ending.Refused refused) text s h told fits is no_fault no_write =
    absurd
    (not_both text s refused is
    (subst (λ t. script t ≡ Err refused) (sym (read_whole_is source.before source.now text h.0.text told h.0.was_read)) h.0.is_refused))
completes source out ending.NoMemory text s h told fits is no_fault no_write = inr (inr refl)
completes source out ending.NotLegal text s h told fits is no_fault no_write = absurd h
completes source out ending.HostFailed text s h told fits is no_fault no_write = absurd h
completes source out ending.TooLong text s h told fits is no_fault no_write =
    let longer = read_length source.before source.now text h.0.bytes told h.0.was_read in absurd (omega (arith, longer, h.0.too_long))

pub returns : goal.returns
returns c = completes
