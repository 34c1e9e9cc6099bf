use Rattle.std.proofs.Common.{◌≡◌, ◌≤◌, length, vec_capacity}
use Rattle.swap_net.proofs.socket_fabric.SocketFabric.open.Given as goal

abbrev pub invariant-loop-address : goal.invariant-loop-address
invariant-loop-address g l = (length l.posts.items ≡ l.address-index) × (length l.fn.addresses ≤ vec_capacity l.posts)
