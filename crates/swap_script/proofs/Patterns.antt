-- Whether hex is a pattern is told by its length, and what it fills is a page.
use Rattle.std.proofs.Common.{◌≡◌, ℕ, ◌/◌, Bool, true, false, cond, eqb, leb, ◌&&◌, List, [], ◌∷◌, length, is_some, Option, None, Some, refl, sym, ap, ◌∙◌, arith}
use Rattle.std.proofs.lemmas.Bool.{and_parts, leb-true}
use Rattle.std.specs.List.{list_any}
use Rattle.swap_base.specs.Sizes.{page_lengths}
use Rattle.swap_io.specs.Words.{piece_of, pairs, lengths, is_piece, repeat_piece, fill_page, pattern}
use Rattle.swap_io.proofs.Pieces.{divides, length-times, length-pairs}

is_some-filled :
    (size : ℕ) (piece : List ℕ) (b hex : Bool) → is_piece size piece ≡ b → is_some (cond hex (Some piece) None) ≡ true
    → is_some (fill_page size (cond hex (Some piece) None)) ≡ b
is_some-filled size piece true true e h = ap (λ t. is_some (cond t (Some (repeat_piece size piece)) None)) e
is_some-filled size piece false true e h = ap (λ t. is_some (cond t (Some (repeat_piece size piece)) None)) e
is_some-filled size piece b false e h = cc

pub is_some_pattern :
    (size : ℕ) (word : List ℕ) → is_some (piece_of word) ≡ true
    → is_some (pattern size word) ≡ (list_any (λ n. eqb (length word / 2) n) lengths && leb (length word / 2) size)
is_some_pattern size word h =
    is_some-filled size (pairs word) _ _ refl h ∙ ap (λ l. list_any (λ n. eqb l n) lengths && leb l size) (length-pairs word)

if_piece :
    (size : ℕ) (piece page : List ℕ) (b : Bool) → list_any (λ n. eqb size n) page_lengths ≡ true → is_piece size piece ≡ b
    → cond b (Some (repeat_piece size piece)) None ≡ Some page → length page ≡ size
if_piece size piece page true is_page is e =
    let same : repeat_piece size piece ≡ page = cc in
    let parts = and_parts (list_any (λ n. eqb (length piece) n) lengths) (leb (length piece) size) is in
    ap length (sym same) ∙ length-times (size / length piece) piece ∙ divides size (length piece) is_page parts.0 (leb-true (length piece) size parts.1)
if_piece size piece page false is_page is e = cc

-- a page that a piece fills has its size
pub length-filled :
    (size : ℕ) (o : Option (List ℕ)) (page : List ℕ) → list_any (λ n. eqb size n) page_lengths ≡ true → fill_page size o ≡ Some page → length page ≡ size
length-filled size None page is_page e = cc
length-filled size (Some piece) page is_page e = if_piece size piece page (is_piece size piece) is_page refl e
