-- The write in flight that was started first.
use Rattle.std.proofs.Common.{◌≡◌, ℕ, ◌<◌, ◌≤◌, Bool, true, false, cond, leb, List, [], ◌∷◌, sym, ap, ◌∙◌, arith, Option, None, Some}
use Rattle.std.proofs.lemmas.Bool.{lt-leb, le-leb}
use Rattle.std.specs.List.{AllByRecursion}
use Rattle.swap_base.specs.declared.Page.{Page}
use Rattle.swap_queue.specs.Queue.{Queue}
use Rattle.swap_calls.specs.Calls.{Calls}
use Rattle.swap_disk.specs.Disk.{Flight, Write, Read}
use Rattle.swap_disk.specs.Port.{writes_in, oldest_write_in}
use Rattle.swap_table.specs.Fits.{IsExpected}
use Rattle.swap_world.specs.World.{World}
use Rattle.swap_drill.specs.Drill.{after, write_ends, oldest_write_ends}
use Rattle.swap_drill.proofs.Afters.{after-nil, after_if, after_unless}

-- its page is one of the device's
pub oldest_within :
    (told : Bool) (pages callers : ℕ) (q : Queue) (calls : Calls) (flights : List Flight) (p : Page)
    → AllByRecursion (IsExpected told pages callers q calls) flights → oldest_write_in flights ≡ Some p → p.0 < pages
oldest_within told pages callers q calls [] p all is = cc
oldest_within told pages callers q calls (Write page bytes ∷ flights) p all is = omega (arith, all.0.0, ap (λ (o : Option Page). at o) is)
  where
    at : Option Page → ℕ
    at None = 0
    at (Some x) = x.0
oldest_within told pages callers q calls (Read caller page ∷ flights) p all is = oldest_within told pages callers q calls flights p all.1 is

-- where there is none, no event is made
pub no_write_ends : (w : World) (flights : List Flight) → oldest_write_in flights ≡ None → w ≡ after w (oldest_write_ends flights)
no_write_ends w flights none = go (leb 4 (writes_in flights))
  where
    go : (b : Bool) → w ≡ after w (cond b (write_ends (oldest_write_in flights)) [])
    go true = sym (after-nil w) ∙ ap (λ o. after w (write_ends o)) (sym none)
    go false = sym (after-nil w)

pub few_writes : (w : World) (flights : List Flight) (n : ℕ) → n ≡ writes_in flights → n ≤ 3 → w ≡ after w (oldest_write_ends flights)
few_writes w flights n is few =
    after_unless (leb 4 (writes_in flights)) w (write_ends (oldest_write_in flights)) (lt-leb 4 (writes_in flights) (omega (arith, is, few)))

-- one that ends
pub write_ended :
    (w w' : World) (flights : List Flight) (p : Page) (n : ℕ) → n ≡ writes_in flights → 3 < n → oldest_write_in flights ≡ Some p
    → w' ≡ after w (write_ends (Some p)) → w' ≡ after w (oldest_write_ends flights)
write_ended w w' flights p n is many oldest ended =
    after_if (leb 4 (writes_in flights)) w w' (write_ends (oldest_write_in flights)) (le-leb 4 (writes_in flights) (omega (arith, is, many)))
    (ended ∙ ap (λ o. after w (write_ends o)) (sym oldest))
