-- A lying fabric is a fabric: its pages have the length of a page, and it promises nothing of what they hold.
use Rattle.std.proofs.Common.{◌≡◌, ℕ, ◌==◌, true, cond, [], length, refl, sym, ap, ◌∙◌, subst, replicate}
use Rattle.std.proofs.lemmas.List.{length-replicate}
use Rattle.std.proofs.lemmas.Bool.{cond_both}
use Rattle.swap_base.specs.declared.Lender.{Lender}
use Rattle.swap_wire.specs.declared.Msg.{Msg}
use Rattle.swap_wire.specs.Fabric.{Parcel, parcel_of, carries_page, Handed, Brought, NothingCame, LinkLost, FabricCall, Take, FabricAnswer}
use Rattle.swap_link.specs.Harbor as harbor
use Rattle.swap_link.specs.lemmas.HarborLaws as laws
use Rattle.swap_hostile.specs.Lying.{Lying, of_lying, lie, lie_told, Moves}

pub moves_keep_of :
    (f : Lying) (c : FabricCall) (r : FabricAnswer c) (g : Lying) → Moves f c r g → of_lying g ≡ of_lying f
moves_keep_of f c r g moved =
    ap (λ (x : FabricAnswer c × Lying). of_lying x.1) (sym moved.1)
    ∙ laws.moves_keep_of f.harbor c (harbor.ask f.harbor c).0 (harbor.ask f.harbor c).1 (moved.0, refl)

abbrev PageFits : ℕ → Handed → Type 0
PageFits n h = (p : Parcel) → h ≡ Brought p → carries_page p.msg ≡ true → length p.page ≡ n

-- the page of a lie has the length of a page
lie_fits : (m : Msg) (n : ℕ) → carries_page m ≡ true → length (parcel_of m (replicate n 255)).page ≡ n
lie_fits m n carries = ap (λ b. length {A = ℕ} (cond b (replicate n 255) [])) carries ∙ length-replicate n 255

told_fits :
    (f : Lying) (h : Handed) → PageFits f.harbor.sizes.page_bytes h → PageFits f.harbor.sizes.page_bytes (lie_told f h)
told_fits f (Brought q) fits = cond_both (f.came == f.at) _ _ (λ (h : Handed). PageFits f.harbor.sizes.page_bytes h)
    (λ _ p e carries. let same : lie f ≡ p = cc in
    subst (λ (x : Parcel). carries_page x.msg ≡ true → length x.page ≡ f.harbor.sizes.page_bytes) same
    (lie_fits f.says f.harbor.sizes.page_bytes) carries)
    (λ _. fits)
told_fits f NothingCame fits = fits
told_fits f LinkLost fits = fits

pub taken_fits :
    (f : Lying) (l : Lender) (p : Parcel) (g : Lying) → Moves f (Take l) (Brought p) g → carries_page p.msg ≡ true
    → length p.page ≡ (of_lying f).sizes.page_bytes
taken_fits f l p g moved =
    told_fits f (harbor.ask f.harbor (Take l)).0
    (λ q e.
    laws.taken_fits f.harbor l q (harbor.ask f.harbor (Take l)).1
    (moved.0, ap (λ (h : Handed). (h, (harbor.ask f.harbor (Take l)).1)) e))
    p
    (ap (λ (x : Handed × Lying). x.0) moved.1)
