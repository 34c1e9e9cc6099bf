-- How a call of play ends.
use Rattle.std.proofs.Common.{◌≡◌, ◌≤◌, ℕ, List, length, refl, sym, ap, ◌∙◌, subst, inl, inr, arith, Option, None, Some, Result, Ok, Err}
use Rattle.std.specs.Prelude.{IfOk, []}
use Rattle.std.specs.Io.KnownBytes.{Appends, Keeps}
use Rattle.swap_base.specs.Sizes.{Sizes}
use Rattle.swap_base.specs.declared.geometry.LenderSpec.{LenderSpec}
use Rattle.swap_base.specs.declared.NoMemory.{NoMemory}
use Rattle.swap_io.specs.Causes.{WasReadWhole, AppendsFront}
use Rattle.swap_disk.specs.MemDiskView.{MemDiskView, new_drive}
use Rattle.swap_disk.specs.MemDiskView as drive
use Rattle.swap_link.specs.Harbor.{Harbor}
use Rattle.swap_link.specs.Harbor as harbor
use Rattle.swap_wire.specs.Fabric.{FabricOf}
use Rattle.swap_script.specs.declared.ScriptRefused.{ScriptRefused}
use Rattle.swap_script.specs.declared.TheConstants.{TEXT_LIMIT}
use Rattle.swap_script.specs.Reading.{Script}
use Rattle.swap_script.specs.Transcript.{transcript}
use Rattle.swap_table.specs.Device.{Device, Core, device_at_start}
use Rattle.swap_trace.specs.Traces.{trace}
use Rattle.swap_world.specs.Runs.{WorldView}
use Rattle.swap_world.specs.World.{new_harbor}
use Rattle.swap_run.specs.declared.Ending.{Ending}
use Rattle.swap_run.specs.declared.Ending.TheVariants as ending
use Rattle.swap_run.specs.Clause.{Stream}
use Rattle.swap_run.proofs.ReadText.{read_whole_is, read_length}
use Rattle.swap_play.specs.Playing.{IsPlayedOut}
use Rattle.swap_show.specs.Printing.{world_transcript}
use Rattle.swap_show.specs.Shown.{IsFirst, WasShown, PlaysKeepTheHeadline}
use Rattle.swap_show.specs.Clause.{WrittenBy, TraceEnds, TextEnds, ReadTrace, ShowEnds, ShowsComplete, ShowsRefuse, transcript_of}

pub keeps_same : (known : Option (List ℕ)) → Keeps known known
keeps_same None = tt
keeps_same (Some bytes) = refl

-- a world as it is made
pub first_is :
    (t : Script) (s : Sizes) (specs : List LenderSpec) (n : ℕ) (k : MemDiskView) (h : Harbor) (r : Result (WorldView MemDiskView Harbor) NoMemory) → s ≡ t.sizes
    → specs ≡ t.lenders → n ≡ length t.lenders → k ≡ new_drive s → h ≡ new_harbor s specs
    → IfOk r (λ w. w.core ≡ record { device = device_at_start s n; disk = k; fabric = h; spare = 0 }) → IfOk r (λ w. w.log ≡ []) → IfOk r (IsFirst t)
first_is t s specs n k h (Ok w) es el en ek eh core log = record {
  device = ap (λ (c : Core MemDiskView Harbor). c.device) core ∙ ap (λ x. device_at_start x n) es ∙ ap (λ m. device_at_start t.sizes m) en;
  disk = ap (λ (c : Core MemDiskView Harbor). c.disk) core ∙ ek ∙ ap new_drive es;
  fabric = ap (λ (c : Core MemDiskView Harbor). c.fabric) core ∙ eh ∙ ap (λ x. new_harbor x specs) es ∙ ap (λ l. new_harbor t.sizes l) el;
  log = log;
}
first_is t s specs n k h (Err e) es el en ek eh core log = tt

-- a world that was played has the sizes of its trace
sizes_stay :
    (t : Script) (number : ℕ) (first w : WorldView MemDiskView Harbor) → IsFirst t first → IsPlayedOut drive.Moves harbor.Moves t number first w
    → w.core.device.sizes ≡ t.sizes
sizes_stay t number first w is played =
    ap (λ (o : FabricOf). o.sizes) played.carried.acted.makes.of ∙ ap (λ (o : FabricOf). o.sizes) played.connects.works.makes.of
    ∙ ap (λ (d : Device). d.sizes) is.device

same_text :
    (t : Script) (lenders : List LenderSpec) (w : WorldView MemDiskView Harbor) → w.core.device.sizes ≡ t.sizes → lenders ≡ t.lenders
    → world_transcript lenders w ≡ transcript_of t w
same_text t lenders w sizes specs =
    ap (λ s. transcript s lenders w.log w.core.device.history) sizes ∙ ap (λ l. transcript t.sizes l w.log w.core.device.history) specs

-- what was written of a played world
pub trace_ends :
    (t : Script) (number : ℕ) (lenders : List LenderSpec) (first w : WorldView MemDiskView Harbor) (out : Stream) (end : Ending) → lenders ≡ t.lenders
    → IsFirst t first
    → IsPlayedOut drive.Moves harbor.Moves t number first w → WrittenBy lenders w out end → TraceEnds t number out end
trace_ends t number lenders first w out end specs is played h = go end h
  where
    shown : WasShown t number w
    shown = record { first = first; is_first = is; played = played }

    same : world_transcript lenders w ≡ transcript_of t w
    same = same_text t lenders w (sizes_stay t number first w is played) specs

    whole : Appends out.before out.now (world_transcript lenders w) → Appends out.before out.now (transcript_of t w)
    whole wrote = let P : List ℕ → Type 0 = λ l. Appends out.before out.now l in subst P same wrote

    go : (end : Ending) → WrittenBy lenders w out end → TraceEnds t number out end
    go ending.Done h = record { world = w; shown = shown; wrote = whole h.0; fault = h.1 }
    go ending.Faulted h = record { world = w; shown = shown; wrote = whole h.0; fault = h.1 }
    go ending.WriteFailed h =
        record { world = w; shown = shown; wrote = let P : List ℕ → Type 0 = λ l. AppendsFront out.before out.now l in subst P same h.0; failed = h.1 }
    go ending.Usage h = absurd h
    go ending.ReadFailed h = absurd h
    go (ending.Refused r) h = absurd h
    go ending.NoMemory h = absurd h
    go ending.NotLegal h = absurd h
    go ending.HostFailed h = absurd h
    go ending.TooLong h = absurd h

-- a text that was read whole, and how its playing ended
pub show_ends :
    PlaysKeepTheHeadline → (number : ℕ) (source out : Stream) (text : List ℕ) (end : Ending) → WasReadWhole source.before source.now text
    → length text ≤ TEXT_LIMIT → TextEnds (trace None text) number out end → ShowEnds number source out end
show_ends keep number source out text end read within h = go (trace None text) end refl h
  where
    reads : (t : Script) → trace None text ≡ Ok t → ReadTrace source t
    reads t e = record { text = text; was_read = read; within = within; is_trace = e }

    go : (r : Result Script ScriptRefused) (end : Ending) → trace None text ≡ r → TextEnds r number out end → ShowEnds number source out end
    go (Ok t) ending.Done e h =
        record { trace = t; read = reads t e; plays = h; headline = keep text t number h.shown.first h.world h.shown.played e h.shown.is_first }
    go (Ok t) ending.Faulted e h =
        record { trace = t; read = reads t e; plays = h; headline = keep text t number h.shown.first h.world h.shown.played e h.shown.is_first }
    go (Ok t) ending.Usage e h = absurd h
    go (Ok t) ending.ReadFailed e h = absurd h
    go (Ok t) ending.WriteFailed e h = record { trace = t; read = reads t e; plays = h }
    go (Ok t) (ending.Refused r) e h = absurd h
    go (Ok t) ending.NoMemory e h = h
    go (Ok t) ending.NotLegal e h = absurd h
    go (Ok t) ending.HostFailed e h = absurd h
    go (Ok t) ending.TooLong e h = absurd h
    go (Err refused) (ending.Refused r) e h = (record { text = text; was_read = read; within = within; is_refused = e ∙ ap Err (sym h.0) }, h.1)
    go (Err refused) ending.Done e h = absurd h
    go (Err refused) ending.Faulted e h = absurd h
    go (Err refused) ending.Usage e h = absurd h
    go (Err refused) ending.ReadFailed e h = absurd h
    go (Err refused) ending.WriteFailed e h = absurd h
    go (Err refused) ending.NoMemory e h = absurd h
    go (Err refused) ending.NotLegal e h = absurd h
    go (Err refused) ending.HostFailed e h = absurd h
    go (Err refused) ending.TooLong e h = absurd h

not_both : (text : List ℕ) (t : Script) (refused : ScriptRefused) → trace None text ≡ Ok t → trace None text ≡ Err refused → ⊥
not_both text t refused a b = cc

same_fault : (text : List ℕ) (refused other : ScriptRefused) → trace None text ≡ Err refused → trace None text ≡ Err other → other ≡ refused
same_fault text refused other a b = cc

pub completes : ShowsComplete
completes number source out ending.Done text t h told fits is no_fault no_write = inl refl
completes number source out ending.Faulted text t h told fits is no_fault no_write = inr (inl refl)
completes number source out ending.Usage text t h told fits is no_fault no_write = absurd h
completes number source out ending.ReadFailed text t h told fits is no_fault no_write = absurd (no_fault h.0.failed)
completes number source out ending.WriteFailed text t h told fits is no_fault no_write = absurd (no_write h.plays.failed)
completes number source out (ending.Refused refused) text t h told fits is no_fault no_write =
    absurd
    (not_both text t refused is
    (subst (λ x. trace None x ≡ Err refused) (sym (read_whole_is source.before source.now text h.0.text told h.0.was_read)) h.0.is_refused))
completes number source out ending.NoMemory text t h told fits is no_fault no_write = inr (inr refl)
completes number source out ending.NotLegal text t h told fits is no_fault no_write = absurd h
completes number source out ending.HostFailed text t h told fits is no_fault no_write = absurd h
completes number source out ending.TooLong text t h told fits is no_fault no_write =
    let longer = read_length source.before source.now text h.0.bytes told h.0.was_read in absurd (omega (arith, longer, h.0.too_long))

-- a text that was read as a trace isn't refused
read_not :
    (source : Stream) (text : List ℕ) (t : Script) (refused : ScriptRefused) → source.before ≡ Some text → trace None text ≡ Err refused → ReadTrace source t
    → ⊥
read_not source text t refused told is read =
    not_both text t refused (subst (λ x. trace None x ≡ Ok t) (sym (read_whole_is source.before source.now text read.text told read.was_read)) read.is_trace) is

pub refuses : ShowsRefuse
refuses number source out ending.Done text refused h told fits is no_fault no_write = absurd (read_not source text h.trace refused told is h.read)
refuses number source out ending.Faulted text refused h told fits is no_fault no_write = absurd (read_not source text h.trace refused told is h.read)
refuses number source out ending.Usage text refused h told fits is no_fault no_write = absurd h
refuses number source out ending.ReadFailed text refused h told fits is no_fault no_write = absurd (no_fault h.0.failed)
refuses number source out ending.WriteFailed text refused h told fits is no_fault no_write = absurd (no_write h.plays.failed)
refuses number source out (ending.Refused other) text refused h told fits is no_fault no_write =
    let P : List ℕ → Type 0 = λ x. trace None x ≡ Err other in
    inl
    (ap (λ (r : ScriptRefused). ending.Refused r)
    (same_fault text refused other is (subst P (sym (read_whole_is source.before source.now text h.0.text told h.0.was_read)) h.0.is_refused)))
refuses number source out ending.NoMemory text refused h told fits is no_fault no_write = inr refl
refuses number source out ending.NotLegal text refused h told fits is no_fault no_write = absurd h
refuses number source out ending.HostFailed text refused h told fits is no_fault no_write = absurd h
refuses number source out ending.TooLong text refused h told fits is no_fault no_write =
    let longer = read_length source.before source.now text h.0.bytes told h.0.was_read in absurd (omega (arith, longer, h.0.too_long))
