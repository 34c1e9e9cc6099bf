-- Words behind one another, and how long a page's word is.
use Rattle.std.proofs.Common.{◌≡◌, ℕ, ◌*◌, ◌^◌, ◌<◌, ◌≤◌, decimal, Bool, true, false, cond, List, [], ◌∷◌, ◌++◌, length, take, map, Option, Some, None, refl, ap, sym, ◌∙◌, arith, append_assoc}
use Rattle.std.proofs.lemmas.List.{append-nil}
use Rattle.std.proofs.lemmas.Fmt.{length-decimal-le}
use Rattle.std.specs.List.{find, join_with_byte}
use Rattle.std.specs.Option.{unwrap_or, option_map}
use Rattle.std.specs.Str.{bytes_eq}
use Rattle.std.proofs.lemmas.List.{length-take}
use Rattle.swap_io.specs.Words.{lengths, repeat_piece, shortest_piece, shortest}
use Rattle.swap_record.specs.declared.Entry.{Entry}
use Rattle.swap_record.specs.History.{Row}
use Rattle.swap_record.specs.Text.{spaced_after}
use Rattle.swap_io.proofs.Shortest.{length-hex}

pub joined : (word : List ℕ) (words : List (List ℕ)) → join_with_byte 32 (word ∷ words) ≡ word ++ spaced_after words
joined word [] = sym (append-nil word)
joined word (next ∷ words) = ap (λ rest. word ++ 32 ∷ rest) (joined next words)

pub spaced-append : (xs ys : List (List ℕ)) → spaced_after (xs ++ ys) ≡ spaced_after xs ++ spaced_after ys
spaced-append [] ys = refl
spaced-append (x ∷ xs) ys = ap (λ rest. 32 ∷ rest) (ap (λ rest. x ++ rest) (spaced-append xs ys) ∙ sym (append_assoc x (spaced_after xs) (spaced_after ys)))

found_within :
    (page : List ℕ) (n : ℕ) (b : Bool) (o : Option (List ℕ)) → length (unwrap_or o page) ≤ length page
    → length (unwrap_or (cond b (Some (take n page)) o) page) ≤ length page
found_within page n true o h = omega (arith, length-take n page)
found_within page n false o h = h

piece_within : (page : List ℕ) (test : List ℕ → Bool) (ns : List ℕ) → length (unwrap_or (find test (map (λ n. take n page) ns)) page) ≤ length page
piece_within page test [] = omega arith
piece_within page test (n ∷ ns) = found_within page n (test (take n page)) (find test (map (λ k. take k page) ns)) (piece_within page test ns)

-- one more word, and more words
pub word_more : (line : List ℕ) (words : List (List ℕ)) (word : List ℕ) → (line ++ spaced_after words) ++ 32 ∷ word ≡ line ++ spaced_after (words ++ word ∷ [])
word_more line words word =
    append_assoc line (spaced_after words) (32 ∷ word)
    ∙ ap (λ rest. line ++ rest) (ap (λ rest. spaced_after words ++ 32 ∷ rest) (sym (append-nil word)) ∙ sym (spaced-append words (word ∷ [])))

pub words_more : (line : List ℕ) (words more : List (List ℕ)) → (line ++ spaced_after words) ++ spaced_after more ≡ line ++ spaced_after (words ++ more)
words_more line words more = append_assoc line (spaced_after words) (spaced_after more) ∙ ap (λ rest. line ++ rest) (sym (spaced-append words more))

pub one : (line a : List ℕ) → line ++ 32 ∷ a ≡ line ++ spaced_after (a ∷ [])
one line a = ap (λ rest. line ++ 32 ∷ rest) (sym (append-nil a))

pub two : (line a b : List ℕ) → (line ++ 32 ∷ a) ++ 32 ∷ b ≡ line ++ spaced_after (a ∷ b ∷ [])
two line a b = ap (λ text. text ++ 32 ∷ b) (one line a) ∙ word_more line (a ∷ []) b

pub three : (line a b c : List ℕ) → ((line ++ 32 ∷ a) ++ 32 ∷ b) ++ 32 ∷ c ≡ line ++ spaced_after (a ∷ b ∷ c ∷ [])
three line a b c = ap (λ text. text ++ 32 ∷ c) (two line a b) ∙ word_more line (a ∷ b ∷ []) c

pub four : (line a b c d : List ℕ) → (((line ++ 32 ∷ a) ++ 32 ∷ b) ++ 32 ∷ c) ++ 32 ∷ d ≡ line ++ spaced_after (a ∷ b ∷ c ∷ d ∷ [])
four line a b c d = ap (λ text. text ++ 32 ∷ d) (three line a b c) ∙ word_more line (a ∷ b ∷ c ∷ []) d

-- a page's word has at most two digits for each byte
pub shortest_within : (page : List ℕ) → length (shortest page) ≤ 2 * length page
shortest_within page = omega (arith, length-hex (shortest_piece page), piece_within page (λ piece. bytes_eq (repeat_piece (length page) piece) page) lengths)

-- a row by its two parts
pub row_by_parts :
    (o : Option Row) (entry : Entry) (bytes : List ℕ) → option_map (λ (row : Row). row.entry) o ≡ Some entry
    → option_map (λ (row : Row). row.bytes) o ≡ Some bytes → o ≡ Some (record { entry = entry; bytes = bytes })
row_by_parts None entry bytes e b = cc
row_by_parts (Some row) entry bytes e b =
    let same_entry : row.entry ≡ entry = cc in let same_bytes : row.bytes ≡ bytes = cc in rw (← same_entry, ← same_bytes) refl

-- a u64 has at most twenty digits
pub digits_within : (n : ℕ) → n < 2 ^ 64 → length (decimal n) ≤ 20
digits_within n h = length-decimal-le 20 n (omega arith) (omega arith) h

-- a first word, then others
pub entry_line :
    (line first a : List ℕ) (words : List (List ℕ)) → ((line ++ first) ++ 32 ∷ a) ++ spaced_after words ≡ line ++ join_with_byte 32 (first ∷ a ∷ words)
entry_line line first a words =
    ap (λ text. text ++ spaced_after words) (one (line ++ first) a)
    ∙ words_more (line ++ first) (a ∷ []) words
    ∙ append_assoc line first (spaced_after (a ∷ words))
    ∙ ap (λ rest. line ++ rest) (sym (joined first (a ∷ words)))
