-- Each move over the cells is the queue's, and keeps what the cells keep.
use Rattle.std.proofs.Common.{◌≡◌, ◌≢◌, ℕ, ◌+◌, ◌<◌, ◌≤◌, Bool, true, false, List, length, get_or, set, sym, ap, ◌∙◌, subst, arith, Option, None, sum_by, ⊎_elim, get_or-set_same, get_or-set_other, length-set, ext_get_or}
use Rattle.std.proofs.lemmas.Bool.{cases_eq}
use Rattle.std.proofs.lemmas.List.FromFn.{length-map-range_with_len, get_or-map-range_with_len}
use Rattle.std.proofs.lemmas.List.Sums.{sum_by-set}
use Rattle.swap_base.specs.declared.Page.{Page}
use Rattle.swap_base.specs.Sizes.{Sizes, pages_of}
use Rattle.swap_queue.specs.Queue.{Copy, Places, Queue, places_of, copies_at, one_if, waits, waits_at}
use Rattle.swap_queue.specs.Kept.{IsQueue}
use Rattle.swap_queue.specs.Cells.{Kept, free_cell, is_for, is_used, copy_in, places_at, places_in, queue_in, Fits}
use Rattle.swap_queue.proofs.Copies.{cell_at, count_for, one, copy_in-same, single_after}

abbrev none : Places
none = record { flying = None; next = None }

pub places_of_cells :
    (s : Sizes) (cells : List Kept) (line : List Page) (page : Page) → page.0 < pages_of s → places_of (queue_in s cells line) page ≡ places_at cells page.0
places_of_cells s cells line page lt = get_or-map-range_with_len (λ p. places_at cells p) 0 (pages_of s) page.0 page.0 none lt (omega arith)

-- a cell that is for one page changes that page's places alone
module _ (s : Sizes) (cells : List Kept) (i : ℕ) (c : Kept) (page : Page) (pl : Places)
    (others : (k : Bool) (p : ℕ) → p ≢ page.0 → (is_for k p (cell_at cells i) ≡ false) × (is_for k p c ≡ false))
    (here : places_at (set cells i c) page.0 ≡ pl) where
  others_same : (p : ℕ) → p ≢ page.0 → places_at (set cells i c) p ≡ places_at cells p
  others_same p ne =
      let flies : copy_in true p (set cells i c) ≡ copy_in true p cells = copy_in-same true p cells i c (others true p ne).0 (others true p ne).1 in
      let waits : copy_in false p (set cells i c) ≡ copy_in false p cells = copy_in-same false p cells i c (others false p ne).0 (others false p ne).1 in
      let F : Option Copy → Option Copy → Places = λ f n. record { flying = f; next = n } in
      ap (λ f. F f (copy_in false p (set cells i c))) flies ∙ ap (λ n. F (copy_in true p cells) n) waits

  pub places_in-set : page.0 < pages_of s → places_in (pages_of s) (set cells i c) ≡ set (places_in (pages_of s) cells) page.0 pl
  places_in-set lt =
      let n : ℕ = pages_of s in
      let l : length (places_in (pages_of s) cells) ≡ pages_of s = length-map-range_with_len (λ p. places_at cells p) 0 (pages_of s) in
      let l' : length (places_in (pages_of s) (set cells i c)) ≡ pages_of s = length-map-range_with_len (λ p. places_at (set cells i c) p) 0 (pages_of s) in
      ext_get_or none (places_in (pages_of s) (set cells i c)) (set (places_in (pages_of s) cells) page.0 pl)
      (l' ∙ sym (length-set (places_in (pages_of s) cells) page.0 pl ∙ l))
      (λ p within.
      let at : p < pages_of s = omega (arith, l', within) in
      get_or-map-range_with_len (λ q. places_at (set cells i c) q) 0 (pages_of s) p p none at (omega arith)
      ∙ ⊎_elim
      (λ (e : p ≡ page.0).
      ap (λ q. places_at (set cells i c) q) e ∙ here
      ∙ sym
      (ap (λ q. get_or (set (places_in (pages_of s) cells) page.0 pl) q none) e
      ∙ get_or-set_same (places_in (pages_of s) cells) page.0 pl none (omega (arith, l, lt))))
      (λ (ne : p ≢ page.0).
      others_same p ne
      ∙ sym
      (get_or-set_other (places_in (pages_of s) cells) page.0 p pl none ne
      ∙ get_or-map-range_with_len (λ q. places_at cells q) 0 (pages_of s) p p none at (omega arith)))
      (cases_eq p page.0))

  -- a queue with new places for the page and another line
  abbrev pub queue_after : List Page → Queue
  queue_after line' = record { places = set (places_in (pages_of s) cells) page.0 pl; line = line'; capacity = s.queue }

  pub queue_in-set : (line' : List Page) → page.0 < pages_of s → queue_in s (set cells i c) line' ≡ queue_after line'
  queue_in-set line' lt =
      let F : List Places → Queue = λ ps. record { places = ps; line = line'; capacity = s.queue } in
      ap F (places_in-set lt)

  pub fits_after : (line line' : List Page) → Fits s cells line → page.0 < pages_of s → i < length cells → length c.bytes ≡ s.page_bytes
      → ((k : Bool) (p : ℕ) → is_for k p c ≡ true → count_for k p cells ≤ one (is_for k p (cell_at cells i)))
      → one (is_used c) + copies_at (places_of (queue_in s cells line) page) ≡ one (is_used (cell_at cells i)) + copies_at pl
      → length line' + one_if (waits (queue_in s cells line) page) ≡ length line + one_if (waits_at pl)
      → IsQueue s (queue_after line') → Fits s (set cells i c) line'
  fits_after line line' h lt at bytes only used more kept =
      let l : length (places_in (pages_of s) cells) ≡ pages_of s = length-map-range_with_len (λ p. places_at cells p) 0 (pages_of s) in
      let w : Places → ℕ = λ p. one_if (waits_at p) in
      record {
        queue = subst (λ (q : Queue). IsQueue s q) (sym (queue_in-set line' lt)) kept;
        room = length-set cells i c ∙ h.room;
        sized = λ j within.
            ⊎_elim
            (λ (e : j ≡ i). ap (λ k. length (get_or (set cells i c) k free_cell).bytes) e
            ∙ ap (λ (x : Kept). length x.bytes) (get_or-set_same cells i c free_cell at) ∙ bytes)
            (λ (ne : j ≢ i). ap (λ (x : Kept). length x.bytes) (get_or-set_other cells i j c free_cell ne)
            ∙ h.sized j (omega (arith, length-set cells i c, within)))
            (cases_eq j i);
        single = single_after cells i c at h.single only;
        used =
            omega (
              arith,
              sum_by-set (λ (x : Kept). one (is_used x)) cells i c free_cell at,
              h.used,
              used,
              sum_by-set copies_at (places_in (pages_of s) cells) page.0 pl none (omega (arith, l, lt)),
              ap (λ ps. sum_by copies_at ps) (places_in-set lt),
            );
        waiting =
            omega (
              arith,
              h.waiting,
              more,
              sum_by-set w (places_in (pages_of s) cells) page.0 pl none (omega (arith, l, lt)),
              ap (λ ps. sum_by w ps) (places_in-set lt),
            );
      }
