-- Texts and their addresses, by hand.
use Rattle.std.specs.Prelude.{◌≡◌, ℕ, codes, Option, None, Some}
use Rattle.swap_sock.specs.declared.address.Address.{Address}
use Rattle.swap_sock.specs.Addresses.{address_in}

abbrev address : ℕ → ℕ → ℕ → ℕ → ℕ → Option Address
address a b c d port = Some (record { a = a; b = b; c = c; d = d; port = port })

abbrev pub AddressRows : Type 0
AddressRows =
    (address_in (codes "127.0.0.1:7070") ≡ address 127 0 0 1 7070)
    × (address_in (codes "255.255.255.255:65535") ≡ address 255 255 255 255 65535)
    × (address_in (codes "0.0.0.0:0") ≡ address 0 0 0 0 0)
    × (address_in (codes "256.0.0.1:1") ≡ None)
    × (address_in (codes "1.2.3.4:65536") ≡ None)
    × (address_in (codes "01.2.3.4:5") ≡ None)
    × (address_in (codes "1.2.3.4:05") ≡ None)
    × (address_in (codes "1.2.3:4") ≡ None)
    × (address_in (codes "1.2.3.4.5:6") ≡ None)
    × (address_in (codes "1.2.3.4") ≡ None)
    × (address_in (codes "1.2.3.4:") ≡ None)
    × (address_in (codes "1.2.3.4:5:6") ≡ None)
    × (address_in (codes "1.2.3.4:5 ") ≡ None)
    × (address_in (codes "1..3.4:5") ≡ None)
    × (address_in (codes "localhost:80") ≡ None)
    × (address_in (codes "") ≡ None)
