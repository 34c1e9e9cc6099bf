-- By the lemmas on lists; a call that is written keeps its own page or nothing.
use Rattle.std.proofs.Common.{refl}
use Rattle.std.proofs.lemmas.List.Elements.{All-set, All-replicate, All-get_or}
use Rattle.swap_calls.specs.Calls.{KeepsItsPage, idle_call, call_of, state_of, newer_if_reads, lost_if_through}
use Rattle.swap_calls.proofs.InMemory.{came_whole, failed_whole, each_kept, lost_keeps, newer_keeps}
use Rattle.swap_calls.proofs.laws.Goals as goal

pub returns-clause-table : goal.returns-clause-table
returns-clause-table c = record {
  make = λ callers n. All-replicate (KeepsItsPage n) callers idle_call refl;
  end = λ t c h. All-set (KeepsItsPage t.page_bytes) t.calls c.0 _ refl h;
  begin_room = λ t c p since bytes len h. All-set (KeepsItsPage t.page_bytes) t.calls c.0 _ len h;
  begin_read = λ t c p newest v since h. All-set (KeepsItsPage t.page_bytes) t.calls c.0 _ refl h;
  came =
      λ t c bytes lt len h.
      All-set (KeepsItsPage t.page_bytes) t.calls c.0 _
      (came_whole t.page_bytes bytes (call_of t.calls c) (state_of t.calls c) len (All-get_or (KeepsItsPage t.page_bytes) t.calls c.0 idle_call lt h)) h;
  failed =
      λ t c lt h.
      All-set (KeepsItsPage t.page_bytes) t.calls c.0 _
      (failed_whole t.page_bytes (call_of t.calls c) (state_of t.calls c) (All-get_or (KeepsItsPage t.page_bytes) t.calls c.0 idle_call lt h)) h;
  lost = λ t l h. each_kept (lost_if_through l) (lost_keeps l) t.page_bytes t.calls h;
  paged_out = λ t p h. each_kept (newer_if_reads p) (newer_keeps p) t.page_bytes t.calls h;
}
