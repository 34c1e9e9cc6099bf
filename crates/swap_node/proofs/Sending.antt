-- Messages put one after another.
use Rattle.std.proofs.Common.{◌≡◌, ℕ, cond, List, [], ◌∷◌, drop, refl, sym, ap, ◌∙◌, subst, Option, None, Some}
use Rattle.swap_base.specs.declared.Link.{Link}
use Rattle.swap_wire.specs.declared.Msg.{Msg}
use Rattle.swap_wire.specs.declared.Msg.TheVariants as msg
use Rattle.swap_wire.specs.Frames.{frame, page_with}
use Rattle.swap_wire.specs.Fabric.{Parcel, carries_page}
use Rattle.swap_lender.specs.Outbox.{first_message, first_page}
use Rattle.swap_node.specs.RepliesView.{frame_of}
use Rattle.swap_node.specs.Boards.{Board, PutsOn, PutsAll}

-- a page that a message doesn't carry doesn't matter
page_kept : (m : Msg) (page other : List ℕ) → page_with m (cond (carries_page m) page other) ≡ page_with m page
page_kept (msg.Hello version page_bytes pages_per_slab) page other = refl
page_kept (msg.Query slab) page other = refl
page_kept (msg.Borrow slab) page other = refl
page_kept (msg.Write lease place) page other = refl
page_kept (msg.Read lease place) page other = refl
page_kept (msg.Rates lease value) page other = refl
page_kept (msg.Done lease) page other = refl
page_kept (msg.Room slab free) page other = refl
page_kept (msg.Lent slab lease) page other = refl
page_kept (msg.Refused slab) page other = refl
page_kept (msg.Wrote lease place) page other = refl
page_kept (msg.PageIs lease place) page other = refl
page_kept (msg.AskRates lease) page other = refl
page_kept (msg.Evict lease) page other = refl

some_is : {A : Type 0} {a b : A} → Some a ≡ Some b → a ≡ b
some_is e = cc

pub none_left : (parcels : List (Link × Parcel)) → first_message parcels ≡ None → parcels ≡ []
none_left [] e = refl
none_left (p ∷ ps) e = cc

module _ {K : Type 0} (taken : K → Option (List ℕ)) (faults : K → ℕ) where
  pub puts_step :
      (b mid b' : Board K) (parcels : List (Link × Parcel)) (link : Link) (m : Msg) (page buffer : List ℕ) → first_message parcels ≡ Some (link, m)
      → page ≡ first_page parcels buffer
      → PutsOn taken faults b link (frame m (page_with m page)) mid
      → PutsAll taken faults mid (drop 1 parcels) b'
      → PutsAll taken faults b parcels b'
  puts_step b mid b' [] link m page buffer e is on all = cc
  puts_step b mid b' (p ∷ ps) link m page buffer e is on all =
      let both : (p.0, p.1.msg) ≡ (link, m) = some_is e in
      let a : p.0 ≡ link = ap (λ x. x.0) both in
      let c : p.1.msg ≡ m = ap (λ x. x.1) both in
      let q : page_with m page ≡ page_with p.1.msg p.1.page =
      ap (λ x. page_with m x) is
      ∙ (subst (λ n. page_with n (cond (carries_page p.1.msg) p.1.page buffer) ≡ page_with p.1.msg p.1.page) c (page_kept p.1.msg p.1.page buffer)) in
      let f : frame m (page_with m page) ≡ frame_of p.1 = ap (λ x. frame m x) q ∙ ap (λ n. frame n (page_with p.1.msg p.1.page)) (sym c) in
      (mid, subst (λ l. PutsOn taken faults b l (frame_of p.1) mid) (sym a) (subst (λ x. PutsOn taken faults b link x mid) f on), all)
