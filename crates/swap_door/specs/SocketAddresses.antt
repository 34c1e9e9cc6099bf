-- An address as the system has it.
use Rattle.std.specs.Prelude.{◌≡◌, [], ◌∷◌}
use Rattle.std.specs.Net.Addr.{ipv4_octets}
use Rattle.std.specs.Net.Socket.{v4_ip, v4_port}
use Rattle.std.specs.declared.net.socket_addr.SocketAddr.{SocketAddr}
use Rattle.std.specs.declared.net.socket_addr.SocketAddr.TheVariants.{V4, V6}
use Rattle.swap_sock.specs.declared.address.Address.{Address}

-- of the same four numbers and the same port
abbrev pub IsAddressOf : Address → SocketAddr → Type 0
IsAddressOf address (V4 s) =
    (ipv4_octets (v4_ip s) ≡ address.a ∷ address.b ∷ address.c ∷ address.d ∷ []) × (v4_port s ≡ address.port)
IsAddressOf address (V6 s) = ⊥
