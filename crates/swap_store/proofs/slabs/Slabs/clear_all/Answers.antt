use Rattle.std.proofs.Common.{◌≡◌, ℕ, ◌*◌, List, length, replicate, sym, ap, ◌∙◌, arith}
use Rattle.std.specs.Vec.{with_items}
use Rattle.std.proofs.lemmas.List.{with_items_is}
use Rattle.swap_store.specs.Slabs.{Slabs as Store, slabs_in}
use Rattle.swap_store.proofs.SlabsLaws.{length-slabs, slabs-zeros}
use Rattle.swap_store.proofs.slabs.Slabs.clear_all.Goals as goal

pub returns : goal.returns
returns c =
    let slots = c.self.inside.slabs in
    let pages = c.self.inside.pages_per_slab in
    let n = c.self.inside.page_bytes in
    let long : length c.fill.new.self ≡ c.self.inside.bytes.len = omega (arith, c.fill.ensures.len, c.as_mut_slice.ensures.len, c.self.inside.bytes.ok) in
    let same : (with_items c.self.inside.bytes c.fill.new.self).items ≡ c.fill.new.self = with_items_is c.self.inside.bytes c.fill.new.self long in
    let size : length c.as_mut_slice.result.now ≡ slots * (pages * n) = ap length c.as_mut_slice.ensures.value ∙ c.self.invariant in
    let zeros : c.fill.new.self ≡ replicate (slots * (pages * n)) 0 = c.fill.ensures.after (λ y e. e) ∙ ap (λ k. replicate k 0) size in
    let F : List (List (List ℕ)) → Store = λ s. record { slabs = s; page_bytes = n; pages_per_slab = pages } in
    let W : Store → Store = λ t. record t { slabs = replicate (length t.slabs) (replicate t.pages_per_slab (replicate t.page_bytes 0)) } in
    ap F
    (ap (λ l. slabs_in slots pages n l) (same ∙ zeros) ∙ slabs-zeros slots pages n
    ∙ ap (λ k. replicate k (replicate pages (replicate n 0))) (sym (length-slabs slots pages n c.self.inside.bytes.items)))
    ∙ ap W c.self.view_is
