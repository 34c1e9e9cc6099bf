-- The shortest piece of a page, by its length, and its hex.
use Rattle.std.proofs.Common.{◌≡◌, ℕ, ◌+◌, ◌*◌, ◌/◌, ◌%◌, ◌<◌, ◌≤◌, Bool, true, false, cond, min, List, [], ◌∷◌, ◌++◌, length, take, get_or, map, Option, None, Some, refl, sym, ap, ◌∙◌, arith}
use Rattle.std.specs.Str.{bytes_eq}
use Rattle.std.specs.List.{find}
use Rattle.std.specs.Option.{unwrap_or, option_map}
use Rattle.std.specs.Fmt.{digit_glyph}
use Rattle.std.proofs.lemmas.List.{take_more, flat_map_more, take_min, length-append, length-take, length-take-le, take_all}
use Rattle.swap_io.specs.Words.{lengths, repeat_piece, shortest_piece, hex}

map-cond :
    {X Y : Type 0} (f : X → Y) (b : Bool) (x : X) (o : Option X) (r : Option Y) → r ≡ option_map f o → cond b (Some (f x)) r ≡ option_map f (cond b (Some x) o)
map-cond f true x o r e = refl
map-cond f false x o r e = e

find-map : {X Y : Type 0} (p : Y → Bool) (f : X → Y) (xs : List X) → find p (map f xs) ≡ option_map f (find (λ x. p (f x)) xs)
find-map p f [] = refl
find-map p f (x ∷ xs) = map-cond f (p (f x)) x (find (λ y. p (f y)) xs) (find p (map f xs)) (find-map p f xs)

-- the shortest piece by the first length that fits
found :
    (page : List ℕ)
    → shortest_piece page ≡ unwrap_or (option_map (λ n. take n page) (find (λ n. bytes_eq (repeat_piece (length page) (take n page)) page) lengths)) page
found page =
    ap (λ o. unwrap_or o page) (find-map (λ piece. bytes_eq (repeat_piece (length page) piece) page) (λ n. take n page) lengths)

pub piece_found :
    (page : List ℕ) (r : Option ℕ) (n : ℕ) → r ≡ find (λ k. bytes_eq (repeat_piece (length page) (take k page)) page) lengths → r ≡ Some n
    → take (min n (length page)) page ≡ shortest_piece page
piece_found page r n e is =
    take_min n page ∙ ap (λ o. unwrap_or (option_map (λ k. take k page) o) page) (sym is ∙ e) ∙ sym (found page)

pub piece_none :
    (page : List ℕ) (r : Option ℕ) → r ≡ find (λ k. bytes_eq (repeat_piece (length page) (take k page)) page) lengths → r ≡ None
    → take (length page) page ≡ shortest_piece page
piece_none page r e is =
    take_all (length page) page (omega arith) ∙ ap (λ o. unwrap_or (option_map (λ k. take k page) o) page) (sym is ∙ e) ∙ sym (found page)

pub length-hex : (bytes : List ℕ) → length (hex bytes) ≡ 2 * length bytes
length-hex [] = refl
length-hex (b ∷ rest) = omega (arith, length-hex rest)

-- one more byte of a piece is two more digits
pub hex_more :
    (line bytes : List ℕ) (i : ℕ) → i < length bytes
    → (line ++ hex (take i bytes)) ++ (digit_glyph false (get_or bytes i 0 / 16) ∷ digit_glyph false (get_or bytes i 0 % 16) ∷ []) ≡ line
    ++ hex (take (i + 1) bytes)
hex_more line bytes i within =
    flat_map_more (λ b. digit_glyph false (b / 16) ∷ digit_glyph false (b % 16) ∷ []) line (take i bytes) (get_or bytes i 0)
    ∙ ap (λ r. line ++ hex r) (sym (take_more bytes i 0 within))

-- where the whole hex has room, two more digits have it
pub hex_room : (line bytes : List ℕ) (i room : ℕ) → i < length bytes → length line + length (hex bytes) ≤ room → length (line ++ hex (take i bytes)) + 2 ≤ room
hex_room line bytes i room within fits =
    omega (arith, length-append line (hex (take i bytes)), length-hex (take i bytes), length-hex bytes, length-take-le i bytes (omega arith))
