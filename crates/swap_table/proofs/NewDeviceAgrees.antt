-- The device as it is made, over a blank disk.
use Rattle.std.proofs.lemmas.List.{length-replicate, get_or-replicate}
use Rattle.std.proofs.Common.{◌≡◌, ℕ, ◌+◌, ◌<◌, List, [], length, get_or, count_by, replicate, zero, suc, refl, sym, ap, ◌∙◌, subst, is_some, MatchOption, Option, None, Some}
use Rattle.swap_base.specs.declared.Page.{Page}
use Rattle.swap_base.specs.Sizes.{Sizes, pages_of, zeros}
use Rattle.swap_disk.specs.Port.{Port, writes_in}
use Rattle.swap_queue.specs.Queue.{Places}
use Rattle.swap_calls.specs.Calls.{Call, idle_call}
use Rattle.swap_table.specs.Device.{device_at_start}
use Rattle.swap_table.specs.Fits.{FitsDisk, IsFair, HoldsPage, IsBlank, flies, block_in}
use Rattle.swap_base.proofs.Lists.{All-replicate, count_by-cons}
use Rattle.swap_table.proofs.HistoryStaysOrdered.{new_in_order}

-- a new device over a blank disk
new_holds :
    (s : Sizes) (bl : Option (List (List ℕ))) (q : Page) → q.0 < pages_of s → MatchOption bl (Unit {0}) (λ bs. bs ≡ replicate (pages_of s) (zeros s))
    → HoldsPage (record { flying = None; next = None }) (block_in bl q) (zeros s)
new_holds s None q within blank = tt
new_holds s (Some bs) q within blank = ap (λ xs. get_or xs q.0 []) blank ∙ get_or-replicate (pages_of s) q.0 (zeros s) [] within

new_blocks :
    (s : Sizes) (bl : Option (List (List ℕ))) → MatchOption bl (Unit {0}) (λ bs. bs ≡ replicate (pages_of s) (zeros s))
    → MatchOption bl (Unit {0}) (λ bs. length bs ≡ pages_of s)
new_blocks s None blank = tt
new_blocks s (Some bs) blank = ap length blank ∙ length-replicate (pages_of s) (zeros s)

none_flies : (n : ℕ) → count_by flies (replicate n (record { flying = None; next = None })) ≡ 0
none_flies zero = refl
none_flies (suc n) =
    count_by-cons flies (record { flying = None; next = None }) (replicate n (record { flying = None; next = None })) ∙ ap (λ m. 0 + m) (none_flies n)

pub new_fits : (A : List ℕ → List ℕ → Type 0) (s : Sizes) (n : ℕ) (p : Port) → IsBlank s p → FitsDisk (is_some p.blocks) A (device_at_start s n) p
new_fits A s n p blank =
    let nothing : Places = record { flying = None; next = None } in
    record {
      sizes = blank.sizes;
      in_order = new_in_order s n;
      agrees =
          record {
            tells = refl;
            places_len = length-replicate (pages_of s) nothing;
            blocks_len = new_blocks s p.blocks blank.blocks;
            calls_len = length-replicate s.callers idle_call;
            held =
                λ q within. let P : Places → Type 0 = λ x. HoldsPage x (block_in p.blocks q) (zeros s) in
                subst P (sym (get_or-replicate (pages_of s) q.0 nothing nothing within)) (new_holds s p.blocks q within blank.blocks);
            expected = rw blank.flights tt;
            distinct = rw blank.flights tt;
            writes = ap writes_in blank.flights ∙ sym (none_flies (pages_of s));
            under_way = rw blank.finished tt;
            in_line = tt;
            apart = tt;
            fair =
                All-replicate (λ (call : Call). IsFair (is_some p.blocks) A (pages_of s) (zeros s) [] (device_at_start s n).queue call.bytes call.state)
                s.callers idle_call tt;
            faithful = tt;
          };
    }
