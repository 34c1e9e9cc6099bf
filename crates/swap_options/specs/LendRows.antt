-- Words and the options that they give, by hand.
use Rattle.std.specs.Prelude.{◌≡◌, ℕ, List, [], ◌∷◌, codes, Option, None, Some}
use Rattle.swap_options.specs.declared.lend.LendOptions.{LendOptions}
use Rattle.swap_options.specs.Lend.{lend_options}

-- what lies beside the address: seven numbers
abbrev lends : ℕ → ℕ → ℕ → ℕ → ℕ → ℕ → ℕ → Option LendOptions
lends slots headroom extra page_bytes pages_per_slab links used = Some (record {
  listen = record { a = 127; b = 0; c = 0; d = 1; port = 7070 };
  spec = record { slots = slots; headroom = headroom; extra = extra };
  page_bytes = page_bytes;
  pages_per_slab = pages_per_slab;
  links = links;
  used = used;
})

-- the words with `--listen 127.0.0.1:7070` before them
abbrev listening : List (List ℕ) → List (List ℕ)
listening rest = codes "--listen" ∷ codes "127.0.0.1:7070" ∷ rest

abbrev pub LendRows : Type 0
LendRows =
    (lend_options (listening []) ≡ lends 16 2 2 4096 1024 1 0) × (lend_options [] ≡ None)
    × (lend_options
    (listening (codes "--slots" ∷ codes "4" ∷ codes "--headroom" ∷ codes "0" ∷ codes "--page-bytes=8" ∷ []))
    ≡ lends 4 0 2 8 1024 1 0)
    × (lend_options
    (listening
    (codes "--extra" ∷ codes "64" ∷ codes "--pages-per-slab" ∷ codes "7" ∷ codes "--links" ∷ codes "64"
    ∷ codes "--used" ∷ codes "4294967295" ∷ []))
    ≡ lends 16 2 64 4096 7 64 4294967295)
    × (lend_options (listening (codes "--slots" ∷ codes "65" ∷ [])) ≡ None)
    × (lend_options (listening (codes "--slots" ∷ codes "04" ∷ [])) ≡ None)
    × (lend_options (listening (codes "--slots" ∷ [])) ≡ None)
    × (lend_options (listening (codes "--slots" ∷ codes "4" ∷ codes "--slots" ∷ codes "4" ∷ [])) ≡ None)
    × (lend_options (listening (codes "--page-bytes" ∷ codes "24" ∷ [])) ≡ None)
    × (lend_options (listening (codes "--help" ∷ [])) ≡ None)
    × (lend_options (listening (codes "7" ∷ [])) ≡ None)
