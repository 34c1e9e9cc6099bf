-- How a script's run ends.
use Rattle.std.proofs.Common.{◌≡◌, ℕ, ◌≤◌, true, false, List, ◌++◌, length, refl, sym, ap, ◌∙◌, subst, is_err, OnErr, OnOk, inl, inr, Option, None, Some, Result, Ok, Err}
use Rattle.std.specs.Io.KnownBytes.{Appends, Keeps}
use Rattle.swap_io.specs.Causes.{AppendsFront, HasCause, WasReadWhole}
use Rattle.swap_base.specs.declared.TheConstants.{MOST_LENDERS}
use Rattle.swap_world.specs.Laws.{AreInputs, AlwaysLegal, EachCallOnce, EntriesAreSeen}
use Rattle.swap_newest.specs.Laws.{AlwaysLent}
use Rattle.swap_world.specs.World.{World, start, reach, history}
use Rattle.swap_script.specs.declared.TheConstants.{TEXT_LIMIT}
use Rattle.swap_script.specs.declared.ScriptRefused.{ScriptRefused}
use Rattle.swap_script.specs.Laws.{EventsInRange, LendersMayLend, PagesAreWhole}
use Rattle.swap_script.specs.Reading as reading
use Rattle.swap_script.specs.Transcript.{end_line}
use Rattle.swap_roundtrip.specs.Numbers.{NumbersFit}
use Rattle.swap_roundtrip.specs.Back.{ScriptsAreReadBack}
use Rattle.swap_roundtrip.proofs.Runs.{are_inputs}
use Rattle.swap_run.specs.declared.Ending.{Ending}
use Rattle.swap_run.specs.declared.Ending.TheVariants as ending
use Rattle.swap_run.specs.Clause.{Stream, Told, TextEnds, ScriptEnds}
use Rattle.swap_run.specs.Printing.{headers, lines_from}
use Rattle.swap_run.specs.Run.{transcript_of, history_of, ScriptsKeepTheHeadline}

pub err_of : {T E : Type 0} (r : Result T E) (P : Type 0) → is_err r ≡ true → OnErr r P → P
err_of (Ok x) P e h = cc
err_of (Err x) P e h = h

pub ok_of : {T E : Type 0} (r : Result T E) (P : Type 0) → is_err r ≡ false → OnOk r P → P
ok_of (Ok x) P e h = h
ok_of (Err x) P e h = cc

-- the pieces of a run are its transcript
abbrev pub pieces : World → reading.Script → List ℕ
pieces w s = headers s.sizes s.lenders ++ lines_from w s.inputs ++ end_line (length (history (reach w s.inputs)))

pub pieces_are : (s left : reading.Script) (w : World) → left ≡ s → w ≡ start s.sizes s.lenders → pieces w left ≡ transcript_of s
pieces_are s left w el ew = ap (λ l. pieces w l) el ∙ ap (λ x. pieces x s) ew

pub wrote :
    (s left : reading.Script) (w : World) (a b : Option (List ℕ)) → left ≡ s → w ≡ start s.sizes s.lenders → Appends a b (pieces w left)
    → Appends a b (transcript_of s)
wrote s left w a b el ew h = let P : List ℕ → Type 0 = λ r. Appends a b r in subst P (pieces_are s left w el ew) h

pub broke :
    (s left : reading.Script) (w : World) (a b : Option (List ℕ)) → left ≡ s → w ≡ start s.sizes s.lenders → AppendsFront a b (pieces w left)
    → AppendsFront a b (transcript_of s)
broke s left w a b el ew h = let P : List ℕ → Type 0 = λ r. AppendsFront a b r in subst P (pieces_are s left w el ew) h

pub history_is :
    (s left : reading.Script) (w after : World) → left ≡ s → w ≡ start s.sizes s.lenders → after ≡ reach w left.inputs → history after ≡ history_of s
history_is s left w after el ew ea = ap history ea ∙ ap (λ (l : reading.Script). history (reach w l.inputs)) el ∙ ap (λ x. history (reach x s.inputs)) ew

pub fits_of :
    (s left : reading.Script) (w : World) → left ≡ s → w ≡ start s.sizes s.lenders → NumbersFit w left.inputs → NumbersFit (start s.sizes s.lenders) s.inputs
fits_of s left w el ew fits = subst (λ x. NumbersFit x s.inputs) ew (subst (λ (l : reading.Script). NumbersFit w l.inputs) el fits)

pub keeps_same : (known : Option (List ℕ)) → Keeps known known
keeps_same None = tt
keeps_same (Some bytes) = refl

-- what holds of every script
pub record ScriptLaws : Type 0 where
  pub range : EventsInRange
  pub lenders : LendersMayLend
  pub pages : PagesAreWhole

pub inputs_of : ScriptLaws → (text : List ℕ) (s : reading.Script) → reading.script text ≡ Ok s → AreInputs s.sizes s.lenders s.inputs
inputs_of laws text s e = are_inputs s.sizes (length s.lenders) s.inputs (laws.range text s e) (laws.pages text s e)

pub few_lenders : ScriptLaws → (text : List ℕ) (s : reading.Script) → reading.script text ≡ Ok s → length s.lenders ≤ MOST_LENDERS
few_lenders laws text s e = (laws.lenders text s e).count

-- the headline of each script
pub headline : AlwaysLegal → EachCallOnce → EntriesAreSeen → AlwaysLent → ScriptLaws → ScriptsKeepTheHeadline
headline legal once seen lent laws text s e =
    let few = few_lenders laws text s e in
    let inputs = inputs_of laws text s e in
    record {
      legal = legal s.sizes s.lenders s.inputs few inputs;
      once = λ c within. once s.sizes s.lenders s.inputs c within few inputs;
      entries = seen s.sizes s.lenders s.inputs few inputs;
      lent = λ n. lent s.sizes s.lenders s.inputs n few inputs;
    }

-- a text that was read whole, and how its run ended
pub script_ends :
    ScriptsKeepTheHeadline → ScriptsAreReadBack → (source out : Stream) (text : List ℕ) (end : Ending) → WasReadWhole source.before source.now text
    → length text ≤ TEXT_LIMIT → TextEnds (reading.script text) out end → ScriptEnds source out end
script_ends keep back source out text end read within h = go (reading.script text) end refl h
  where
    go : (r : Result reading.Script ScriptRefused) (end : Ending) → reading.script text ≡ r → TextEnds r out end → ScriptEnds source out end
    go (Ok s) ending.Done e h =
        record {
          script = s;
          read = record { text = text; was_read = read; within = within; is_script = e };
          wrote = h.wrote;
          fault = h.fault;
          headline = keep text s e;
          read_back = back text s e h.fits;
        }
    go (Ok s) ending.Faulted e h =
        record {
          script = s;
          read = record { text = text; was_read = read; within = within; is_script = e };
          wrote = h.wrote;
          fault = h.fault;
          headline = keep text s e;
          read_back = back text s e h.fits;
        }
    go (Ok s) ending.Usage e h = absurd h
    go (Ok s) ending.ReadFailed e h = absurd h
    go (Ok s) ending.WriteFailed e h =
        record { script = s; read = record { text = text; was_read = read; within = within; is_script = e }; wrote = h.0; failed = h.1 }
    go (Ok s) (ending.Refused r) e h = absurd h
    go (Ok s) ending.NoMemory e h = h
    go (Ok s) ending.NotLegal e h = absurd h
    go (Ok s) ending.HostFailed e h = absurd h
    go (Ok s) ending.TooLong e h = absurd h
    go (Err refused) (ending.Refused r) e h = (record { text = text; was_read = read; within = within; is_refused = e ∙ ap Err (sym h.0) }, h.1)
    go (Err refused) ending.Done e h = absurd h
    go (Err refused) ending.Faulted e h = absurd h
    go (Err refused) ending.Usage e h = absurd h
    go (Err refused) ending.ReadFailed e h = absurd h
    go (Err refused) ending.WriteFailed e h = absurd h
    go (Err refused) ending.NoMemory e h = absurd h
    go (Err refused) ending.NotLegal e h = absurd h
    go (Err refused) ending.HostFailed e h = absurd h
    go (Err refused) ending.TooLong e h = absurd h

-- a line was written to err, or a front of it where it failed
pub told :
    {T E : Type 0} (s : Stream) (bytes line : List ℕ) (r : Result T E) → line ≡ bytes → OnOk r (Appends s.before s.now line)
    → OnErr r (AppendsFront s.before s.now line) → HasCause s.faults_before s.faults_now r → Told s bytes
told s bytes line (Ok x) e ok err cause = inl (let P : List ℕ → Type 0 = λ l. Appends s.before s.now l in subst P e ok)
told s bytes line (Err x) e ok err cause = inr (cause.failed, let P : List ℕ → Type 0 = λ l. AppendsFront s.before s.now l in subst P e err)
