-- Entries of a history by their names.
use Rattle.std.proofs.Common.{◌≡◌, ℕ, ◌<◌, ◌≤◌, Bool, true, false, cond, ◌==◌, List, [], ◌∷◌, length, refl, sym, ap, ◌∙◌, subst, arith, Some}
use Rattle.std.proofs.lemmas.Bool.{eqb-true, eq-eqb}
use Rattle.swap_base.specs.declared.Page.{Page}
use Rattle.swap_base.specs.declared.EntryNo.{EntryNo}
use Rattle.swap_record.specs.History.{History, Row, array, last, row_named, is_out_of, next_name}
use Rattle.swap_table.specs.Serves.{IsOut, IsOutIn, bytes_of, bytes_in}
use Rattle.swap_base.proofs.Lists.{not_eqb}

-- an entry stands in the history
pub out_within : (H : History) (p : Page) (e : EntryNo) → IsOut H p e → e.0 < length H
out_within [] p e out = absurd out
out_within (row ∷ H) p e out = go (length H == e.0) refl out (out_within H p e)
  where
    go : (b : Bool) → (length H == e.0) ≡ b → IsOutIn p (cond b (Some row) (row_named H e.0)) → (IsOut H p e → e.0 < length H) → e.0 < length (row ∷ H)
    go true is out rest = let same = eqb-true (length H) e.0 is in omega (arith, same)
    go false is out rest = let less = rest out in omega (arith, less)

-- it stays as the history goes on
pub named_on : (H : History) (row : Row) (e : EntryNo) → e.0 < length H → row_named (row ∷ H) e.0 ≡ row_named H e.0
named_on H row e within = ap (λ b. cond b (Some row) (row_named H e.0)) (not_eqb (length H) e.0 (λ same. absurd (omega (arith, same, within))))

pub out_on : (H : History) (row : Row) (p : Page) (e : EntryNo) → IsOut H p e → IsOut (row ∷ H) p e × (bytes_of (row ∷ H) e ≡ bytes_of H e)
out_on H row p e out = let same = named_on H row e (out_within H p e out) in (subst (λ o. IsOutIn p o) (sym same) out, ap bytes_in same)

-- the entry that was pushed last
pub named_last : (H : History) (row : Row) → row_named (row ∷ H) (next_name H).0 ≡ Some row
named_last H row = ap (λ b. cond b (Some row) (row_named H (length H))) (eq-eqb (length H) (length H) refl)

pub last_within : (H : History) (p : Page) (e : EntryNo) → last H p ≡ Some e → e.0 < length H
last_within [] p e is = cc
last_within (row ∷ H) p e is = go (is_out_of p row) is (last_within H p e)
  where
    go : (b : Bool) → cond b (Some (next_name H)) (last H p) ≡ Some e → (last H p ≡ Some e → e.0 < length H) → e.0 < length (row ∷ H)
    go true is rest = let same : next_name H ≡ e = cc in subst (λ (x : EntryNo). x.0 < length (row ∷ H)) same (omega arith)
    go false is rest = let less = rest is in omega (arith, less)

-- and is a page-out of it
pub last_out : (H : History) (p : Page) (e : EntryNo) → last H p ≡ Some e → IsOut H p e
last_out [] p e is = cc
last_out (row ∷ H) p e is = go (is_out_of p row) refl is (last_out H p e)
  where
    go : (b : Bool) → is_out_of p row ≡ b → cond b (Some (next_name H)) (last H p) ≡ Some e → (last H p ≡ Some e → IsOut H p e) → IsOut (row ∷ H) p e
    go true out is rest =
        let same : next_name H ≡ e = cc in subst (λ (x : EntryNo). IsOut (row ∷ H) p x) same (subst (λ o. IsOutIn p o) (sym (named_last H row)) out)
    go false out is rest = (out_on H row p e (rest is)).0

-- the last page-out of a page has its content
pub last_bytes : (z : List ℕ) (H : History) (p : Page) (e : EntryNo) → last H p ≡ Some e → bytes_of H e ≡ array z H p
last_bytes z [] p e is = cc
last_bytes z (row ∷ H) p e is = go (is_out_of p row) is (last_bytes z H p e)
  where
    go :
        (b : Bool) → cond b (Some (next_name H)) (last H p) ≡ Some e → (last H p ≡ Some e → bytes_of H e ≡ array z H p)
        → bytes_of (row ∷ H) e ≡ cond b row.bytes (array z H p)
    go true is rest = let same : next_name H ≡ e = cc in subst (λ (x : EntryNo). bytes_of (row ∷ H) x ≡ row.bytes) same (ap bytes_in (named_last H row))
    go false is rest = ap bytes_in (named_on H row e (last_within H p e is)) ∙ rest is

-- and no page-out of the page comes after it
pub none_later : (H : History) (p : Page) (e g : EntryNo) → last H p ≡ Some e → IsOut H p g → g.0 ≤ e.0
none_later [] p e g is out = absurd out
none_later (row ∷ H) p e g is out = go (is_out_of p row) refl is (none_later H p e g)
  where
    here : (b : Bool) → (length H == g.0) ≡ b → IsOutIn p (cond b (Some row) (row_named H g.0)) → (is_out_of p row ≡ true → ⊥) → IsOut H p g
    here true same out off = absurd (off out)
    here false same out off = out

    go : (b : Bool) → is_out_of p row ≡ b → cond b (Some (next_name H)) (last H p) ≡ Some e → (last H p ≡ Some e → IsOut H p g → g.0 ≤ e.0) → g.0 ≤ e.0
    go true eb is rest =
        let same : next_name H ≡ e = cc in let less = out_within (row ∷ H) p g out in subst (λ (x : EntryNo). g.0 ≤ x.0) same (omega (arith, less))
    go false eb is rest = rest is (here (length H == g.0) refl out (λ yes. both eb yes))
      where
        both : {b : Bool} → b ≡ false → b ≡ true → ⊥
        both a b = cc
