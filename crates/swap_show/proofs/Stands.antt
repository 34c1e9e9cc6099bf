-- Each entry that a log names stands in the history.
use Rattle.std.proofs.Common.{◌≡◌, ◌<◌, ◌++◌, ℕ, zero, suc, List, [], ◌∷◌, length, is_some, MatchOption, refl, sym, ap, ◌∙◌, subst, arith, Option, None, Some}
use Rattle.std.specs.List.{AllByRecursion, slice_get}
use Rattle.swap_base.specs.declared.EntryNo.{EntryNo}
use Rattle.swap_wire.specs.Input.{Input}
use Rattle.swap_wire.specs.declared.Event.{Event}
use Rattle.swap_wire.specs.declared.Seen.{Seen}
use Rattle.swap_wire.specs.declared.fabric.Fabric.{Ghosts as FabricMeaning}
use Rattle.swap_disk.specs.declared.port.DiskPort.{Ghosts as DiskMeaning}
use Rattle.swap_record.specs.History.{History, Row}
use Rattle.swap_table.specs.Promises.{Promises}
use Rattle.swap_world.specs.Failures.{HoldsEntry, HoldsEntriesSeen}
use Rattle.swap_world.specs.Laws.{Began, Holds, HoldsAfterEach}
use Rattle.swap_world.specs.Runs.{WorldView, Written, Alone, Together, IsReached, StandsIn, entry_seen, made_of, logged_of}
use Rattle.swap_run.proofs.Printed.{has_entry}
use Rattle.swap_show.specs.Printing.{EntriesStand}

abbrev IsIn : History → Option EntryNo → Type 0
IsIn H o = MatchOption o (Unit {0}) (λ (e : EntryNo). e.0 < length H)

abbrev AllIn : History → List (Input × Seen) → Type 0
AllIn H made = AllByRecursion (λ (m : Input × Seen). StandsIn H m.1) made

abbrev LinesIn : History → List (Event × Seen) → Type 0
LinesIn H log = AllByRecursion (λ (l : Event × Seen). StandsIn H l.1) log

stays : (row : Row) (H : History) (o : Option EntryNo) → IsIn H o → IsIn (row ∷ H) o
stays row H None h = tt
stays row H (Some e) h = omega (arith, h)

all_stay : (row : Row) (H : History) (made : List (Input × Seen)) → AllIn H made → AllIn (row ∷ H) made
all_stay row H [] all = tt
all_stay row H (m ∷ made) all = (stays row H (entry_seen m.1) all.0, all_stay row H made all.1)

-- all entries that were seen stand there
all_in : (made : List (Input × Seen)) (H : History) → HoldsEntriesSeen made H → AllIn H made
all_in [] H h = tt
all_in ((i, s) ∷ made) H h = go (λ (H : History). all_in made H) (entry_seen s) H refl h
  where
    go :
        ((H : History) → HoldsEntriesSeen made H → AllIn H made) → (o : Option EntryNo) (H : History) → entry_seen s ≡ o
        → HoldsEntry (HoldsEntriesSeen made) made H o → AllIn H ((i, s) ∷ made)
    go earlier None H e h = (let P : Option EntryNo → Type 0 = IsIn H in subst P (sym e) tt, earlier H h)
    go earlier (Some x) [] e h = absurd h
    go earlier (Some x) (row ∷ H) e h = (
      let P : Option EntryNo → Type 0 = IsIn (row ∷ H) in let below : x.0 < length (row ∷ H) = omega (arith, h.0) in
          subst P (sym e) below,
      all_stay row H made (earlier H h.2),
    )

-- what stands behind others
rest_in : (H : History) (xs ys : List (Input × Seen)) → AllIn H (xs ++ ys) → AllIn H ys
rest_in H [] ys all = all
rest_in H (x ∷ xs) ys all = rest_in H xs ys all.1

one_more : (H : History) (log : List (Event × Seen)) (e : Event) (s : Seen) → LinesIn H log → StandsIn H s → LinesIn H (log ++ (e, s) ∷ [])
one_more H [] e s all here = (here, tt)
one_more H (l ∷ log) e s all here = (all.0, one_more H log e s all.1 here)

lines_in : (H : History) (written : List Written) → AllIn H (made_of written) → LinesIn H (logged_of written)
lines_in H [] all = tt
lines_in H (Alone i s ∷ written) all = one_more H (logged_of written) i.event s (lines_in H written all.1) all.0
lines_in H (Together word mapped parts ∷ written) all = one_more H (logged_of written) _ _ (lines_in H written (rest_in H parts (made_of written) all)) tt

line_in : (H : History) (log : List (Event × Seen)) (i : ℕ) (e : Event) (s : Seen) → LinesIn H log → slice_get log i ≡ Some (e, s) → StandsIn H s
line_in H [] i e s all is = cc
line_in H (l ∷ log) zero e s all is = let same : l ≡ (e, s) = cc in let P : Event × Seen → Type 0 = λ x. StandsIn H x.1 in subst P same all.0
line_in H (l ∷ log) (suc i) e s all is = line_in H log i e s all.1 is

module _ {D F : Type 0} (disk : DiskMeaning D) (fabric : FabricMeaning F) (laws : Promises fabric) where
  pub entries_stand : (w : WorldView D F) → HoldsAfterEach disk fabric → IsReached disk fabric w.core w.log → EntriesStand w.log w.core.device.history
  entries_stand w always r i e s is =
      let began : Began disk fabric r.sizes r.lenders r.first r.first_fabric =
      record { blank = r.blank; is_of = laws.fresh_is_of r.first_fabric _ r.fresh; few = r.few } in
      let holds : Holds (is_some (disk.means r.first).blocks) fabric.answers r.sizes (made_of r.written) w.core.device =
      always r.sizes r.lenders r.first r.first_fabric (made_of r.written) w.core.device w.core.disk w.core.fabric began r.run in
      let H : History = w.core.device.history in
      let lines : LinesIn H (logged_of r.written) = lines_in H r.written (all_in (made_of r.written) H holds.entries) in
      has_entry H s (line_in H (logged_of r.written) i e s lines (ap (λ l. slice_get l i) (sym r.logged) ∙ is))
