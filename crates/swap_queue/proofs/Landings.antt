-- What a call finds of a page in the queue that it stands over.
use Rattle.std.proofs.Common.{◌≡◌, ℕ, ◌<◌, Bool, true, false, List, length, not, sym, ap, ◌∙◌, subst, is_some, is_none, Option, Some, IsSome, position}
use Rattle.swap_base.specs.declared.Page.{Page}
use Rattle.swap_base.specs.Sizes.{Sizes, pages_of}
use Rattle.swap_queue.specs.Queue.{flying, has_room, newest, next_copy}
use Rattle.swap_queue.specs.BehindView.{BehindView}
use Rattle.swap_queue.specs.Cells.{is_for, queue_in}
use Rattle.swap_queue.specs.Stored.{StoreView, BehindFits}
use Rattle.swap_queue.proofs.Steps.{next_found, flying_range, not_some}

-- a page whose copy flies, in its place, and whether a next one waits
pub record Landing (s : Sizes) (stored : StoreView) (line : List Page) (page : Page) (place : ℕ) (waits : Bool) : Type 0 where
  pub flies : IsSome (flying (queue_in s stored.cells line) page)
  pub found : position (is_for true page.0) stored.cells ≡ Some place
  pub next : waits ≡ is_some (next_copy (queue_in s stored.cells line) page)

-- a page-out that the queue has room for, and whether its page joins the line
pub record Putting (s : Sizes) (stored : StoreView) (line : List Page) (page : Page) (bytes : List ℕ) (joins : Bool) : Type 0 where
  pub low : page.0 < pages_of s
  pub fills : length bytes ≡ s.page_bytes
  pub room : has_room (queue_in s stored.cells line) page ≡ true
  pub waits : joins ≡ is_none (newest (queue_in s stored.cells line) page)

module _ (s : Sizes) (stored : StoreView) (line : List Page) (room : ℕ) (b : BehindView) (page : Page) (fits : BehindFits s stored line room)
    (same : ◌≡◌ {A = BehindView} (record { sizes = s; queue = queue_in s stored.cells line }) b)
  where
    pub flies_in : IsSome (flying b.queue page) → IsSome (flying (queue_in s stored.cells line) page)
    flies_in some = subst (λ (b : BehindView). IsSome (flying b.queue page)) (sym same) some

    -- it is a page of the queue, and of its table
    pub in_range : page.0 < pages_of b.sizes → page.0 < pages_of s
    in_range lt = subst (λ (b : BehindView). page.0 < pages_of b.sizes) (sym same) lt

    pub in_table : page.0 < pages_of s → page.0 < stored.pages
    in_table lt = subst (λ n. page.0 < n) (sym fits.2) lt

    pub flying_low : IsSome (flying b.queue page) → page.0 < pages_of s
    flying_low some = flying_range s stored.cells line fits.0 page (flies_in some)

    pub landing :
        (place : ℕ) (waits : Bool) (flier waiter : Option ℕ) → IsSome (flying b.queue page) → flier ≡ position (is_for true page.0) stored.cells
        → flier ≡ Some place → waiter ≡ position (is_for false page.0) stored.cells → waits ≡ is_some waiter → Landing s stored line page place waits
    landing place waits flier waiter some fly at wait told =
        record {
          flies = flies_in some;
          found = sym fly ∙ at;
          next = told ∙ ap (λ (o : Option ℕ). is_some o) wait ∙ next_found s stored.cells line fits.0 page (flying_low some);
        }

    -- a page-out that may be put, and whether its page waits anew
    pub putting :
        (bytes : List ℕ) (held : Bool) → page.0 < pages_of b.sizes → length bytes ≡ b.sizes.page_bytes → has_room b.queue page ≡ true
        → held ≡ is_some (newest b.queue page) → Putting s stored line page bytes (not held)
    putting bytes held lt long room' told =
        record {
          low = in_range lt;
          fills = long ∙ ap (λ (b : BehindView). b.sizes.page_bytes) (sym same);
          room = subst (λ (b : BehindView). has_room b.queue page ≡ true) (sym same) room';
          waits =
              ap not (told ∙ ap (λ (b : BehindView). is_some (newest b.queue page)) (sym same)) ∙ not_some (newest (queue_in s stored.cells line) page);
        }
