-- Bytes that are appended one after another.
use Rattle.std.proofs.Common.{◌≡◌, ℕ, List, ◌++◌, ap, ◌∙◌, append_assoc}
use Rattle.swap_wire.specs.Buffer.{BufferView, append_after}

pub appended_twice : (h one two : BufferView) (a b : List ℕ) → one ≡ append_after h a → two ≡ append_after one b → two ≡ append_after h (a ++ b)
appended_twice h one two a b p q =
    q ∙ ap (λ (x : BufferView). append_after x b) p ∙ ap (λ (bytes : List ℕ). record h { bytes = bytes }) (append_assoc h.bytes a b)
