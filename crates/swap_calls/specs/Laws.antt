-- What the changes of a table of calls leave as it was.
use Rattle.std.specs.Prelude.{◌≡◌, ◌≢◌, ℕ, ◌<◌, List, length}
use Rattle.swap_base.specs.declared.Page.{Page}
use Rattle.swap_base.specs.declared.Caller.{Caller}
use Rattle.swap_base.specs.declared.EntryNo.{EntryNo}
use Rattle.swap_base.specs.declared.Lender.{Lender}
use Rattle.swap_base.specs.declared.Via.{Via}
use Rattle.swap_calls.specs.Calls.{Calls, CallsView, IsTable, all_idle, call_of, end_after, waits_for_room, reads, came_after, failed_after, lost_after, paged_out}

-- no change makes or removes a caller
pub record KeepsLength : Type 0 where
  pub end : (cs : Calls) (c : Caller) → length (end_after cs c) ≡ length cs
  pub begin_room :
      (cs : Calls) (c : Caller) (p : Page) (since : ℕ) (bytes : List ℕ)
      → length (waits_for_room cs c p since bytes) ≡ length cs
  pub begin_read :
      (cs : Calls) (c : Caller) (p : Page) (newest : EntryNo) (v : Via) (since : ℕ)
      → length (reads cs c p newest v since) ≡ length cs
  pub came : (cs : Calls) (c : Caller) (bytes : List ℕ) → length (came_after cs c bytes) ≡ length cs
  pub failed : (cs : Calls) (c : Caller) → length (failed_after cs c) ≡ length cs
  pub lost : (cs : Calls) (l : Lender) → length (lost_after cs l) ≡ length cs
  pub paged_out : (cs : Calls) (p : Page) → length (paged_out cs p) ≡ length cs

-- a caller's change leaves the other callers' calls as they were
pub record KeepsOthers : Type 0 where
  pub end : (cs : Calls) (c other : Caller) → other.0 ≢ c.0 → call_of (end_after cs c) other ≡ call_of cs other
  pub begin_room :
      (cs : Calls) (c other : Caller) (p : Page) (since : ℕ) (bytes : List ℕ) → other.0 ≢ c.0
      → call_of (waits_for_room cs c p since bytes) other ≡ call_of cs other
  pub begin_read :
      (cs : Calls) (c other : Caller) (p : Page) (newest : EntryNo) (v : Via) (since : ℕ) → other.0 ≢ c.0
      → call_of (reads cs c p newest v since) other ≡ call_of cs other
  pub came :
      (cs : Calls) (c other : Caller) (bytes : List ℕ) → other.0 ≢ c.0
      → call_of (came_after cs c bytes) other ≡ call_of cs other
  pub failed : (cs : Calls) (c other : Caller) → other.0 ≢ c.0 → call_of (failed_after cs c) other ≡ call_of cs other

-- each change keeps a whole page or nothing for each call
pub record KeepsTable : Type 0 where
  pub make : (callers page_bytes : ℕ) → IsTable (record { calls = all_idle callers; page_bytes = page_bytes })
  pub end : (t : CallsView) (c : Caller) → IsTable t → IsTable (record t { calls = end_after t.calls c })
  pub begin_room :
      (t : CallsView) (c : Caller) (p : Page) (since : ℕ) (bytes : List ℕ) → length bytes ≡ t.page_bytes → IsTable t
      → IsTable (record t { calls = waits_for_room t.calls c p since bytes })
  pub begin_read :
      (t : CallsView) (c : Caller) (p : Page) (newest : EntryNo) (v : Via) (since : ℕ) → IsTable t
      → IsTable (record t { calls = reads t.calls c p newest v since })
  pub came :
      (t : CallsView) (c : Caller) (bytes : List ℕ) → c.0 < length t.calls → length bytes ≡ t.page_bytes → IsTable t
      → IsTable (record t { calls = came_after t.calls c bytes })
  pub failed :
      (t : CallsView) (c : Caller) → c.0 < length t.calls → IsTable t
      → IsTable (record t { calls = failed_after t.calls c })
  pub lost : (t : CallsView) (l : Lender) → IsTable t → IsTable (record t { calls = lost_after t.calls l })
  pub paged_out : (t : CallsView) (p : Page) → IsTable t → IsTable (record t { calls = paged_out t.calls p })
