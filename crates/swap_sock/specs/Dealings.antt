-- What was asked for, given and got back of one kind: links of a door, or the disks, fabrics and doors of a host.
use Rattle.std.specs.Prelude.{ℕ, List, [], ◌∷◌, ◌++◌, option_map, Option, None}
use Rattle.swap_io.specs.Memory.{raise}
use Rattle.swap_sock.specs.declared.host.LinkEnd.{LinkEnd}

-- under which names it was asked for, each as it was given, and each as it came back, in order
pub record Books (N P Q : Type 0) : Type 0 where
  pub names : List N
  pub given : List P
  pub returned : List Q

-- how often it was asked for, given and got back, by counts that stop at 2 ^ 64 - 1, and where it is told, which
pub record Dealings (N P Q : Type 0) : Type 0 where
  pub asked : ℕ
  pub gave : ℕ
  pub back : ℕ
  pub told : Option (Books N P Q)

-- numbers alone
abbrev pub untold : {N P Q : Type 0} → ℕ → ℕ → ℕ → Dealings N P Q
untold asked gave back = record { asked = asked; gave = gave; back = back; told = None }

-- one was asked for by this name, and given
abbrev pub noted_given : {N P Q : Type 0} → N → P → Books N P Q → Books N P Q
noted_given name given b = record b { names = b.names ++ name ∷ []; given = b.given ++ given ∷ [] }

abbrev pub gave_one : {N P Q : Type 0} → N → P → Dealings N P Q → Dealings N P Q
gave_one name given d =
    record d { asked = raise d.asked; gave = raise d.gave; told = option_map (noted_given name given) d.told }

-- one was asked for by this name, and none was given
abbrev pub noted_name : {N P Q : Type 0} → N → Books N P Q → Books N P Q
noted_name name b = record b { names = b.names ++ name ∷ [] }

abbrev pub gave_none : {N P Q : Type 0} → N → Dealings N P Q → Dealings N P Q
gave_none name d = record d { asked = raise d.asked; told = option_map (noted_name name) d.told }

-- one came back
abbrev pub noted_back : {N P Q : Type 0} → Q → Books N P Q → Books N P Q
noted_back returned b = record b { returned = b.returned ++ returned ∷ [] }

abbrev pub got_back : {N P Q : Type 0} → Q → Dealings N P Q → Dealings N P Q
got_back returned d = record d { back = raise d.back; told = option_map (noted_back returned) d.told }

-- a link as it came back: its reader, and how it ended
pub record Left (S K : Type 0) : Type 0 where
  pub reader : S
  pub end : LinkEnd K

abbrev pub left_by : {S K : Type 0} → S → LinkEnd K → Left S K
left_by reader end = record { reader = reader; end = end }
