-- What a transcript prints is read as that transcript.
use Rattle.std.proofs.Common.{◌≡◌, ℕ, ◌^◌, ◌<◌, ◌≤◌, false, List, [], ◌∷◌, ◌++◌, map, refl, arith, codes}
use Rattle.std.specs.List.{AllByRecursion}
use Rattle.swap_base.specs.Sizes.{Sizes, AreInLimits}
use Rattle.swap_base.proofs.Limits.{within_limits}
use Rattle.swap_base.specs.declared.DiskWhich.TheVariants as which
use Rattle.swap_base.specs.declared.geometry.LenderSpec.{LenderSpec}
use Rattle.swap_wire.specs.declared.Event.{Event}
use Rattle.swap_wire.specs.declared.Event.TheVariants as event
use Rattle.swap_script.specs.Lines.{with_spaces, is_skipped}
use Rattle.swap_script.specs.Reading.{IsWithinLimits}
use Rattle.swap_script.specs.Transcript.{event_words}
use Rattle.swap_transcript.specs.Readers.{Words}
use Rattle.swap_transcript.specs.Printed.{told_words, pair_words}
use Rattle.swap_transcript.specs.Transcripts.{Pair, Above, nothing_above, count_pair}
use Rattle.swap_transcript.specs.Verdicts.{entries_of}
use Rattle.swap_transcript.specs.Laws.{geometry_words, lender_words, end_words, transcript_words, MayStandBelow, MayFollow, text_of, PrintedIsRead}
use Rattle.swap_transcript.proofs.Inked.{small_inked, pair_inked}
use Rattle.swap_transcript.proofs.Apart.{IsPrintedLine, kept-printed}
use Rattle.swap_transcript.proofs.Whole.{spec_small, entries_after}
use Rattle.swap_transcript.proofs.WholeBack.{few_entries, entries_of-is, transcript-back}
use Rattle.swap_script.specs.declared.TheConstants.{EVENT_LIMIT}

abbrev AllPrinted : List Words → Type 0
AllPrinted lines = AllByRecursion IsPrintedLine lines

printed-append : (lines more : List Words) → AllPrinted lines → AllPrinted more → AllPrinted (lines ++ more)
printed-append [] more h k = k
printed-append (line ∷ lines) more h k = (h.0, printed-append lines more h.1 k)

geometry_printed : (s : Sizes) → AreInLimits s → IsPrintedLine (geometry_words s)
geometry_printed s h =
    let w = within_limits s h in
    record {
      first = codes "geometry";
      others = _;
      are = refl;
      inked = (
        refl,
        (
          small_inked s.page_bytes (omega (arith, w.page_bytes.1)),
          (
            small_inked s.pages_per_slab (omega (arith, w.pages_per_slab.1)),
            (
              small_inked s.slabs (omega (arith, w.slabs.1)),
              (
                small_inked s.queue (omega (arith, w.queue.1)),
                (
                  small_inked s.callers (omega (arith, w.callers.1)),
                  (small_inked s.window (omega (arith, w.window.1)), (small_inked s.hot (omega (arith, w.hot.1)), tt)),
                ),
              ),
            ),
          ),
        ),
      );
      counts = refl;
    }

lender_printed : (spec : LenderSpec) → IsWithinLimits spec → IsPrintedLine (lender_words spec)
lender_printed spec h =
    let few = spec_small spec h in
    record {
      first = codes "lender";
      others = _;
      are = refl;
      inked = (refl, (small_inked spec.slots few.0, (small_inked spec.headroom few.1, (small_inked spec.extra few.2, tt))));
      counts = refl;
    }

lenders_printed : (s : Sizes) (others specs : List LenderSpec) → MayStandBelow s others specs → AllPrinted (map lender_words specs)
lenders_printed s others [] h = tt
lenders_printed s others (spec ∷ specs) h = (lender_printed spec h.0, lenders_printed s (others ++ spec ∷ []) specs h.2)

event_counts : (e : Event) (words : Words) → is_skipped (with_spaces (event_words e ++ codes "=" ∷ words)) ≡ false
event_counts (event.PageOut c p) words = refl
event_counts (event.PageIn c p) words = refl
event_counts (event.Finish c) words = refl
event_counts event.Start words = refl
event_counts (event.Disk (which.Write p) ok) words = refl
event_counts (event.Disk (which.Read c) ok) words = refl
event_counts (event.Tick w) words = refl
event_counts (event.Map s l) words = refl
event_counts (event.Connect l) words = refl
event_counts (event.Give l) words = refl
event_counts (event.Take l) words = refl
event_counts (event.Cut l a b) words = refl
event_counts (event.Crash l) words = refl
event_counts (event.Host l u w) words = refl
event_counts (event.Round w) words = refl

pairs_printed : (s : Sizes) (above : Above) (pairs : List Pair) → MayFollow s above pairs → AllPrinted (map pair_words pairs)
pairs_printed s above [] h = tt
pairs_printed s above (pair ∷ pairs) h = (
  record { first = _; others = _; are = refl; inked = pair_inked s pair h.0; counts = event_counts pair.event (told_words pair.told) },
  pairs_printed s (count_pair above pair) pairs h.2,
)

end_printed : (n : ℕ) → n < 2 ^ 32 → IsPrintedLine (end_words n)
end_printed n l = record { first = codes "end"; others = _; are = refl; inked = (refl, (small_inked n l, tt)); counts = refl }

pub printed_is_read : PrintedIsRead
printed_is_read t h =
    let few : entries_after nothing_above t.pairs ≤ EVENT_LIMIT = few_entries t.sizes t.pairs nothing_above h.pairs (omega arith) (omega arith) in
    let end : entries_of t < 2 ^ 32 = omega (arith, few, entries_of-is t) in
    let lines : AllPrinted (transcript_words t) = (
      geometry_printed t.sizes h.sizes,
      printed-append (map lender_words t.lenders) _ (lenders_printed t.sizes [] t.lenders h.lenders)
          (printed-append (map pair_words t.pairs) _ (pairs_printed t.sizes nothing_above t.pairs h.pairs) (end_printed (entries_of t) end, tt)),
    ) in
    transcript-back (text_of (transcript_words t)) t (record {
      sizes = h.sizes;
      lenders = h.lenders;
      pairs = h.pairs;
      lines = kept-printed 1 (transcript_words t) lines;
    })
