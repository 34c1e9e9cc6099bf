-- What a put is, by what the sink answered.
use Rattle.std.proofs.Common.{◌≡◌, ℕ, ◌≤◌, Bool, true, false, List, refl, sym, subst, Option, Some}
use Rattle.std.specs.Io.KnownBytes.{Appends}
use Rattle.swap_io.specs.Causes.{Rose, AppendsFront}
use Rattle.swap_wire.specs.declared.Msg.{Msg}
use Rattle.swap_wire.specs.Frames.{frame, page_with}
use Rattle.swap_node.specs.RepliesView.{RepliesView, Puts, Leaves}
use Rattle.swap_node.specs.Boards.{PutsLine, PutsUnless}

module _ {K : Type 0} (taken : K → Option (List ℕ)) (faults : K → ℕ) where
  pub puts_ok :
      (before now : RepliesView K) (m : Msg) (page : List ℕ) → now.failed ≡ false → Appends (taken before.sink) (taken now.sink) (frame m (page_with m page))
      → faults before.sink ≤ faults now.sink → now.page_bytes ≡ before.page_bytes
      → Puts taken faults before (frame m (page_with m page)) now
  puts_ok before now m page f took later same = record {
    leaves = subst (λ b. Leaves taken faults before.sink (frame m (page_with m page)) now.sink b) (sym f) took;
    later = later;
    page_bytes = same;
  }

  pub puts_err :
      (before now : RepliesView K) (m : Msg) (page : List ℕ) → now.failed ≡ true
      → AppendsFront (taken before.sink) (taken now.sink) (frame m (page_with m page))
      → Rose (faults before.sink) (faults now.sink) → faults before.sink ≤ faults now.sink
      → now.page_bytes ≡ before.page_bytes
      → Puts taken faults before (frame m (page_with m page)) now
  puts_err before now m page f took rose later same = record {
    leaves = subst (λ b. Leaves taken faults before.sink (frame m (page_with m page)) now.sink b) (sym f) (took, rose);
    later = later;
    page_bytes = same;
  }

  pub line_failed : (o : RepliesView K) (p : List ℕ) → o.failed ≡ true → PutsLine taken faults (Some o) p (Some o) false
  line_failed o p f = rw f (refl, refl)

  pub line_open :
      (o next : RepliesView K) (p : List ℕ) (fails : Bool) → o.failed ≡ false → fails ≡ next.failed → Puts taken faults o p next
      → PutsLine taken faults (Some o) p (Some next) fails
  line_open o next p fails f same puts =
      subst (λ (b : Bool). PutsUnless taken faults b o p (Some next) fails) (sym f) (record { next = next; is = refl; fails_is = sym same; puts = puts })
