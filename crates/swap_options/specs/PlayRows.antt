-- Words and the options that they give, by hand.
use Rattle.std.specs.Prelude.{◌≡◌, ℕ, List, [], ◌∷◌, codes, Option, None, Some}
use Rattle.swap_sock.specs.declared.address.Address.{Address}
use Rattle.swap_options.specs.Play.{Play, play_options}

abbrev plays : ℕ → Option (List ℕ) → Option (List Address) → Option Play
plays number disk tcp = Some (record { number = number; disk = disk; tcp = tcp })

-- 127.0.0.1 and a port
abbrev loopback_at : ℕ → Address
loopback_at port = record { a = 127; b = 0; c = 0; d = 1; port = port }

abbrev pub PlayRows : Type 0
PlayRows =
    (play_options [] ≡ plays 1 None None)
    × (play_options (codes "--number" ∷ codes "18446744073709551615" ∷ codes "--disk" ∷ codes "a b" ∷ [])
    ≡ plays 18446744073709551615 (Some (codes "a b")) None)
    × (play_options (codes "--tcp" ∷ codes "127.0.0.1:1,127.0.0.1:65535" ∷ codes "--number=0" ∷ [])
    ≡ plays 0 None (Some (loopback_at 1 ∷ loopback_at 65535 ∷ [])))
    × (play_options (codes "--number" ∷ codes "18446744073709551616" ∷ []) ≡ None)
    × (play_options (codes "--number" ∷ codes "01" ∷ []) ≡ None)
    × (play_options (codes "--number" ∷ codes "1" ∷ codes "--number" ∷ codes "1" ∷ []) ≡ None)
    × (play_options (codes "--tcp" ∷ codes "127.0.0.1:1," ∷ []) ≡ None)
    × (play_options (codes "--tcp" ∷ codes "localhost:1" ∷ []) ≡ None)
    × (play_options (codes "--disk" ∷ []) ≡ None)
    × (play_options (codes "--help" ∷ []) ≡ None)
    × (play_options (codes "x" ∷ []) ≡ None)
