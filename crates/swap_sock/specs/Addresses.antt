-- Addresses as text: four numbers parted by dots, a colon and a port, each in decimal without leading zeros.
use Rattle.std.specs.Prelude.{ℕ, ◌+◌, ◌==◌, nat_le, if◌then◌else◌, List, [], take, drop, position, Option, None, Some}
use Rattle.swap_io.specs.Words.{number}
use Rattle.swap_sock.specs.declared.address.Address.{Address}

-- the place of the first byte of this kind
abbrev pub place_of : ℕ → List ℕ → Option ℕ
place_of separator text = position (λ c. c == separator) text

-- what stands before and after a place; without one all stands before it
abbrev pub before_place : List ℕ → Option ℕ → List ℕ
before_place text None = text
before_place text (Some place) = take place text

abbrev pub after_place : List ℕ → Option ℕ → List ℕ
after_place text None = []
after_place text (Some place) = drop (place + 1) text

abbrev pub bytes_before : ℕ → List ℕ → List ℕ
bytes_before separator text = before_place text (place_of separator text)

abbrev pub bytes_behind : ℕ → List ℕ → List ℕ
bytes_behind separator text = after_place text (place_of separator text)

-- a number that is no more than this
abbrev pub at_most : ℕ → Option ℕ → Option ℕ
at_most most None = None
at_most most (Some n) = if nat_le n most then Some n else None

abbrev pub dot : ℕ
dot = 46

abbrev pub colon : ℕ
colon = 58

abbrev pub address_of_parts : Option ℕ → Option ℕ → Option ℕ → Option ℕ → Option ℕ → Option Address
address_of_parts (Some a) (Some b) (Some c) (Some d) (Some port) =
    Some (record { a = a; b = b; c = c; d = d; port = port })
address_of_parts (Some a) (Some b) (Some c) (Some d) None = None
address_of_parts (Some a) (Some b) (Some c) None port = None
address_of_parts (Some a) (Some b) None d port = None
address_of_parts (Some a) None c d port = None
address_of_parts None b c d port = None

-- the address that a text spells
abbrev pub address_in : List ℕ → Option Address
address_in text =
    let second = bytes_behind dot text in
    let third = bytes_behind dot second in
    let fourth = bytes_behind dot third in
    address_of_parts (at_most 255 (number (bytes_before dot text))) (at_most 255 (number (bytes_before dot second)))
    (at_most 255 (number (bytes_before dot third))) (at_most 255 (number (bytes_before colon fourth)))
    (at_most 65535 (number (bytes_behind colon fourth)))
