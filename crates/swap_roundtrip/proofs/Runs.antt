-- A run's lines are read back as pairs whose entries are the history that the run reached.
use Rattle.std.proofs.Common.{◌≡◌, ℕ, ◌+◌, ◌*◌, ◌≤◌, true, List, [], ◌∷◌, ◌++◌, length, map, flat_map, count_by, replicate, zero, suc, append-nil, append_assoc, refl, sym, ap, ap₂, subst, ◌∙◌, arith}
use Rattle.std.specs.List.{AllByRecursion}
use Rattle.std.proofs.lemmas.Nat.{mul-le}
use Rattle.std.proofs.lemmas.List.Concat.{flat_map-append}
use Rattle.swap_base.specs.declared.geometry.LenderSpec.{LenderSpec}
use Rattle.swap_base.specs.Sizes.{Sizes, AreInLimits, pages_of, zeros}
use Rattle.swap_record.specs.History.{History, IsLegal}
use Rattle.swap_wire.specs.Input.{Input, IsInRange}
use Rattle.swap_wire.specs.declared.Event.{Event}
use Rattle.swap_wire.specs.declared.Event.TheVariants as event
use Rattle.swap_wire.specs.declared.Seen.{Seen}
use Rattle.swap_wire.specs.Fabric.{FabricOf}
use Rattle.swap_disk.specs.MemDiskView as drive
use Rattle.swap_link.specs.Harbor as harbor
use Rattle.swap_base.specs.declared.TheConstants.{MOST_LENDERS}
use Rattle.swap_calls.specs.Calls.{idle_call}
use Rattle.swap_table.specs.Device.{Device}
use Rattle.swap_table.specs.Comes.{ComesTo}
use Rattle.swap_table.specs.Happens.{happens}
use Rattle.swap_table.proofs.Programs.{Leads-Along}
use Rattle.swap_base.proofs.Lists.{count_by-cons}
use Rattle.swap_world.specs.World.{World, Next, next, next_by, reach, seens, history}
use Rattle.swap_world.specs.Runs.{IsInput, IsPaged, GoesOn, busy_callers, is_busy_call, is_new_call}
use Rattle.swap_world.specs.Laws.{AreInputs, AlwaysLegal, HistoriesGoOn}
use Rattle.swap_world.proofs.WorldInMemoryStaysSound.{IsSound, starts_sound, next_sound, next_step, sound_fits}
use Rattle.swap_world.proofs.EventsKeepWhatHolds.{step_comes}
use Rattle.swap_world.proofs.RoundsKeepPlans.{event_adds, event_grows}
use Rattle.swap_script.specs.Lines.{with_spaces, with_line_end}
use Rattle.swap_script.specs.Laws.{EventsInRange, PagesAreWhole, HandsInAPage}
use Rattle.swap_script.specs.Reading.{calls_of, calls_in}
use Rattle.swap_script.specs.Transcript.{line, lender_header}
use Rattle.swap_script.specs.Transcript as printed
use Rattle.swap_script.proofs.Read.{calls_of-cons}
use Rattle.swap_transcript.specs.Readers.{Words}
use Rattle.swap_transcript.specs.Printed.{pair_words}
use Rattle.swap_transcript.specs.Transcripts.{Pair, Above, Transcript, nothing_above, count_pair, with_pairs, judge, entries_in}
use Rattle.swap_transcript.specs.Verdicts.{entries_of}
use Rattle.swap_transcript.specs.Transcripts as transcripts
use Rattle.swap_transcript.specs.Laws.{MayFollow, LinesArePrinted, PrintedIsRead, text_of, transcript_words, lender_words, end_words}
use Rattle.swap_roundtrip.specs.Numbers.{LineFits, NumbersFit}
use Rattle.swap_roundtrip.specs.Back.{start_of, output, ScriptsAreReadBack}
use Rattle.swap_roundtrip.proofs.Shapes.{Shape, FlightsWithin, flights_within, other_shape, disk_shape}
use Rattle.swap_roundtrip.proofs.Entries.{Tells, CallsWithin, calls_within, adds_none, comes_tells}
use Rattle.swap_roundtrip.proofs.Owed.{owes_none, may_stand, sized}
use Rattle.swap_roundtrip.proofs.Lines.{LineBack, line_back, unmarked, pair_with}
use Rattle.swap_script.specs.declared.TheConstants.{EVENT_LIMIT}

-- an event of a sound world tells of the entry that it adds, and what is seen is of its kind
pub record TellsOfIt (s : Sizes) (e : Event) (x : Seen) (before now : History) : Type 0 where
  pub tells : Tells s e x before now
  pub shape : Shape (pages_of s) e x

module _ (s : Sizes) (n : ℕ) where
  sizes_are : (w : World) → IsSound s n w → w.device.sizes ≡ s
  sizes_are w sound = ap (λ (x : FabricOf). x.sizes) sound.agrees.is

  within : (w : World) → IsSound s n w → CallsWithin w.device
  within w sound = let fits = sound_fits s n w sound in calls_within true (λ page given. page ≡ given) (zeros w.device.sizes) w.device fits.disk.agrees.fair

  comes : (w : World) (i : Input) (x : Next) → IsInRange s n i.event → IsSound s n w → ComesTo w.device i.page i.event x.world.device x.seen
      → Tells s i.event x.seen (history w) (history x.world)
  comes w i x range sound to =
      let same = sizes_are w sound in
      let d : Device = record w.device { rates = to.0 } in
      subst (λ z. Tells z i.event x.seen (history w) (history x.world)) same
      (comes_tells d i.page i.event x.world.device x.seen n (subst (λ z. IsInRange z n i.event) (sym same) range) (within w sound) to.2)

  flights : (w : World) → IsSound s n w → FlightsWithin (pages_of w.device.sizes) w.drive.disk.flights
  flights w sound =
      let fits = sound_fits s n w sound in
      flights_within true (pages_of w.device.sizes) w.device.sizes.callers w.device.queue w.device.calls w.drive.disk.flights fits.disk.agrees.expected

  pub event_tells : (w : World) (i : Input) → IsInput s n i → IsSound s n w → TellsOfIt s i.event (next w i).seen (history w) (history (next w i).world)
  event_tells w i input sound = go i.event input
    where
      go : (e : Event) → IsInput s n (record { event = e; page = i.page })
          → let x : Next = next_by w i.page e in TellsOfIt s e x.seen (history w) (history x.world)
      go (event.Round word) given =
          let j : Input = record { event = event.Round word; page = i.page } in
          let x : Next = next w j in
          let step = next_step s n w j given sound in
          record {
            tells =
                adds_none s w.device j x.seen (history x.world) refl
                (event_adds drive.Moves harbor.Moves w.device x.world.device w.drive x.world.drive w.harbor x.world.harbor j x.seen step);
            shape = tt;
          }
      go (event.Disk v ok) given =
          let j : Input = record { event = event.Disk v ok; page = i.page } in
          let x : Next = next w j in
          let step = next_step s n w j given sound in
          record {
            tells =
                comes w j x given.0 sound
                (step_comes drive.Moves harbor.Moves w.device x.world.device w.drive x.world.drive w.harbor x.world.harbor j x.seen step);
            shape =
                subst (λ z. Shape (pages_of z) (event.Disk v ok) x.seen) (sizes_are w sound)
                (disk_shape harbor.Moves
                (pages_of w.device.sizes) w.device x.world.device w.drive x.world.drive w.harbor x.world.harbor i.page v ok x.seen (flights w sound) step);
          }
      go e given =
          let j : Input = record { event = e; page = i.page } in
          let x : Next = next w j in
          let step = next_step s n w j given sound in
          let fits = sound_fits s n w sound in
          record {
            tells =
                comes w j x given.0 sound
                (step_comes drive.Moves harbor.Moves w.device x.world.device w.drive x.world.drive w.harbor x.world.harbor j x.seen step);
            shape =
                subst (λ z. Shape (pages_of z) e x.seen) (sizes_are w sound)
                (Leads-Along drive.Moves harbor.Moves (happens w.device i.page e) w.drive w.harbor x.world.drive x.world.harbor (x.world.device, x.seen)
                (λ (a : Device × Seen) _ _. Shape (pages_of w.device.sizes) e a.1)
                (other_shape drive.Moves harbor.Moves w.device w.drive w.harbor i.page e fits.disk.agrees.in_line (λ v ok is. cc) (λ word is. cc)) step);
          }

-- calls are counted alike
pub new_call : (e : Event) → is_new_call e ≡ calls_in e
new_call (event.PageOut c p) = refl
new_call (event.PageIn c p) = refl
new_call (event.Finish c) = refl
new_call event.Start = refl
new_call (event.Disk w ok) = refl
new_call (event.Tick w) = refl
new_call (event.Map s l) = refl
new_call (event.Connect l) = refl
new_call (event.Give l) = refl
new_call (event.Take l) = refl
new_call (event.Cut l a b) = refl
new_call (event.Crash l) = refl
new_call (event.Host l u w) = refl
new_call (event.Round w) = refl

none_busy : (n : ℕ) → count_by is_busy_call (replicate n idle_call) ≡ 0
none_busy zero = refl
none_busy (suc n) = let c = count_by-cons is_busy_call idle_call (replicate n idle_call) in let r = none_busy n in omega (arith, c, r)

-- the lines of the events from a world on, read back
pub record RunBack (s : Sizes) (above : Above) (w : World) (is : List Input) (F : History) : Type 0 where
  pub pairs : List Pair
  pub follow : MayFollow s above pairs
  pub judges : with_pairs (unmarked (history w)) pairs ≡ unmarked (history (reach w is))
  pub prints : flat_map (line F) (seens w is) ≡ text_of (map pair_words pairs)

module _ (s : Sizes) (n most : ℕ) (limits : AreInLimits s) (print : LinesArePrinted) (on : HistoriesGoOn) (few : most * s.page_bytes ≤ 1_073_741_824) where
  pub run_back : (is : List Input) (w : World) (above : Above) (F : History) → F ≡ history (reach w is) → IsSound s n w → AllByRecursion (IsInput s n) is
      → NumbersFit w is
      → above.entries ≡ length (history w) → above.events + length is ≤ EVENT_LIMIT → length (history w) + busy_callers w.device + calls_of is ≤ most
      → RunBack s above w is F
  run_back [] w above F e sound inputs fit entries events room = record { pairs = []; follow = tt; judges = refl; prints = refl }
  run_back (i ∷ is) w above F e sound inputs fit entries events room =
      let x : Next = next w i in
      let H : History = history w in
      let H' : History = history x.world in
      let tells = event_tells s n w i inputs.0 sound in
      let ends = on x.world is in
      let goes : GoesOn H' F = (ends.0, e ∙ ends.1) in
      let fits : LineFits s.page_bytes i.event x.seen H' = subst (λ (z : Sizes). LineFits z.page_bytes i.event x.seen H') (sizes_are s n w sound) fit.0 in
      let back : LineBack s i.event x.seen H H' F = line_back s i.event x.seen H H' F limits print goes fits tells.tells tells.shape in
      let pair : Pair = pair_with i.event back.told in
      let step = next_step s n w i inputs.0 sound in
      let grows = event_grows drive.Moves harbor.Moves w.device x.world.device w.drive x.world.drive w.harbor x.world.harbor i x.seen step in
      let calls = calls_of-cons i is in
      let new = new_call i.event in
      let room' : length H' + busy_callers x.world.device + calls_of is ≤ most = omega (arith, grows, calls, new, room) in
      let entries' : above.entries + entries_in back.told ≡ length H' = omega (arith, entries, back.count) in
      let within : (above.entries + entries_in back.told) * s.page_bytes ≤ 1_073_741_824 =
      omega (arith, mul-le (above.entries + entries_in back.told) s.page_bytes most s.page_bytes (omega (arith, entries', room')) (omega arith), few) in
      let rest : RunBack s (count_pair above pair) x.world is F =
      run_back is x.world (count_pair above pair) F e (next_sound s n w i inputs.0 sound) inputs.1 fit.1 entries' (omega (arith, events)) room' in
      record {
        pairs = pair ∷ rest.pairs;
        follow = (back.words, owes_none s n above pair inputs.0.0 back.page within (omega (arith, events)), rest.follow);
        judges = ap (λ j. with_pairs j rest.pairs) back.judged ∙ rest.judges;
        prints = ap₂ (λ a b. a ++ b) back.is_line rest.prints;
      }

-- the events of a script are inputs of its world
is_paged : (s : Sizes) (e : Event) (page : List ℕ) → HandsInAPage s e page → IsPaged s e page
is_paged s (event.PageOut c p) page h = h
is_paged s (event.PageIn c p) page h = tt
is_paged s (event.Finish c) page h = tt
is_paged s event.Start page h = tt
is_paged s (event.Disk w ok) page h = tt
is_paged s (event.Tick w) page h = tt
is_paged s (event.Map t l) page h = tt
is_paged s (event.Connect l) page h = tt
is_paged s (event.Give l) page h = tt
is_paged s (event.Take l) page h = tt
is_paged s (event.Cut l a b) page h = tt
is_paged s (event.Crash l) page h = tt
is_paged s (event.Host l u w) page h = tt
is_paged s (event.Round w) page h = tt

pub are_inputs : (s : Sizes) (n : ℕ) (is : List Input) → AllByRecursion (λ (i : Input). IsInRange s n i.event) is
    → AllByRecursion (λ (i : Input). HandsInAPage s i.event i.page) is → AllByRecursion (IsInput s n) is
are_inputs s n [] range pages = tt
are_inputs s n (i ∷ is) range pages = ((range.0, is_paged s i.event i.page pages.0), are_inputs s n is range.1 pages.1)

-- the printed text
lenders_text : (specs : List LenderSpec) → text_of (map lender_words specs) ≡ flat_map lender_header specs
lenders_text [] = refl
lenders_text (spec ∷ specs) = ap (λ t. lender_header spec ++ t) (lenders_text specs)

text-append : (xs ys : List Words) → text_of (xs ++ ys) ≡ text_of xs ++ text_of ys
text-append xs ys = flat_map-append (λ words. with_line_end (with_spaces words)) xs ys

text_is : (t : Transcript) (lines : List ℕ) (n : ℕ) → lines ≡ text_of (map pair_words t.pairs) → entries_of t ≡ n
    → text_of (transcript_words t) ≡ printed.header t.sizes ++ flat_map lender_header t.lenders ++ lines ++ printed.end_line n
text_is t lines n prints count =
    let end : text_of (end_words (entries_of t) ∷ []) ≡ printed.end_line n =
    append-nil (with_line_end (with_spaces (end_words (entries_of t)))) ∙ ap printed.end_line count in
    let body : text_of (map pair_words t.pairs ++ end_words (entries_of t) ∷ []) ≡ lines ++ printed.end_line n =
    text-append (map pair_words t.pairs) (end_words (entries_of t) ∷ []) ∙ ap₂ (λ a b. a ++ b) (sym prints) end in
    let head : List ℕ = printed.header t.sizes in
    let lenders : List ℕ = flat_map lender_header t.lenders in
    ap (λ r. head ++ r)
    (text-append (map lender_words t.lenders) (map pair_words t.pairs ++ end_words (entries_of t) ∷ []) ∙ ap₂ (λ a b. a ++ b) (lenders_text t.lenders) body)
    ∙ sym (append_assoc head lenders (lines ++ printed.end_line n)) ∙ sym (append_assoc (head ++ lenders) lines (printed.end_line n))

pub back : AlwaysLegal → HistoriesGoOn → LinesArePrinted → PrintedIsRead → EventsInRange → PagesAreWhole → ScriptsAreReadBack
back legal on print read range pages text s e fit =
    let known = sized text s e in
    let specs : List LenderSpec = s.lenders in
    let n : ℕ = length specs in
    let few : n ≤ MOST_LENDERS = known.lenders.count in
    let inputs : AreInputs s.sizes specs s.inputs = are_inputs s.sizes n s.inputs (range text s e) (pages text s e) in
    let F : History = history (reach (start_of s) s.inputs) in
    let room : length (history (start_of s)) + busy_callers (start_of s).device + calls_of s.inputs ≤ calls_of s.inputs =
    let b = none_busy s.sizes.callers in omega (arith, b) in
    let run : RunBack s.sizes nothing_above (start_of s) s.inputs F =
    run_back s.sizes n (calls_of s.inputs) known.sizes print on known.calls s.inputs (start_of s) nothing_above F refl
    (starts_sound s.sizes specs few) inputs fit refl (omega (arith, known.events)) room in
    let t : Transcript = record { sizes = s.sizes; lenders = specs; pairs = run.pairs } in
    let is_judged : judge t ≡ unmarked F = run.judges in
    let count : entries_of t ≡ length F = ap (λ j. length j.history) is_judged in
    let whole : text_of (transcript_words t) ≡ output s = text_is t (flat_map (line F) (seens (start_of s) s.inputs)) (length F) run.prints count in
    record {
      transcript = t;
      reads =
          ap transcripts.transcript (sym whole)
          ∙ read t (record { sizes = known.sizes; lenders = may_stand s.sizes specs [] known.lenders; pairs = run.follow });
      sizes = refl;
      lenders = refl;
      judged = is_judged;
      legal =
          (ap (λ j. j.noted) is_judged, subst (IsLegal (zeros s.sizes)) (sym (ap (λ j. j.history) is_judged)) (legal s.sizes specs s.inputs few inputs));
    }
