-- Frames one after another, and what no further bytes make one.
use Rattle.std.proofs.Common.{◌≡◌, ℕ, ◌⊎◌, List, [], ◌∷◌, ◌++◌, refl, sym, ap, subst, ◌∙◌, append_assoc, append-nil, inl, inr}
use Rattle.swap_wire.specs.declared.Msg.{Msg}
use Rattle.swap_wire.specs.declared.side.Side.{Side}
use Rattle.swap_wire.specs.Frames.{frame, IsFrame, IsHopeless}
use Rattle.swap_wire.specs.Streams.{frames_of, AreSent}

pub sent_last :
    (side : Side) (page_bytes : ℕ) (gs : List (Msg × List ℕ)) (m : Msg) (page : List ℕ) → AreSent side page_bytes gs
    → IsFrame side page_bytes m page (frame m page)
    → AreSent side page_bytes (gs ++ (m, page) ∷ [])
sent_last side page_bytes [] m page each f = (f, tt)
sent_last side page_bytes (g ∷ gs) m page each f = (each.0, sent_last side page_bytes gs m page each.1 f)

pub frames_last : (gs : List (Msg × List ℕ)) (m : Msg) (page : List ℕ) → frames_of (gs ++ (m, page) ∷ []) ≡ frames_of gs ++ frame m page
frames_last [] m page = append-nil (frame m page)
frames_last (g ∷ gs) m page = ap (λ (x : List ℕ). frame g.0 g.1 ++ x) (frames_last gs m page) ∙ sym (append_assoc (frame g.0 g.1) (frames_of gs) (frame m page))

heads : {A : Type 0} {x y : A} {xs ys : List A} → x ∷ xs ≡ y ∷ ys → x ≡ y
heads e = cc

tails : {A : Type 0} {x y : A} {xs ys : List A} → x ∷ xs ≡ y ∷ ys → xs ≡ ys
tails e = cc

cons_is : {A : Type 0} {x y : A} {xs ys : List A} → x ≡ y → xs ≡ ys → x ∷ xs ≡ y ∷ ys
cons_is p q = cc

-- of two fronts of the same bytes one begins the other
fronts : (a b c d : List ℕ) → a ++ b ≡ c ++ d → ((x : List ℕ) × (a ≡ c ++ x)) ⊎ ((x : List ℕ) × (c ≡ a ++ x))
fronts [] b c d e = inr (c, refl)
fronts (x ∷ a) b [] d e = inl (x ∷ a, refl)
fronts (x ∷ a) b (y ∷ c) d e =
    elim (fronts a b c d (tails e)) [
      | inl h ↦ inl (h.0, cons_is (heads e) h.1)
      | inr h ↦ inr (h.0, cons_is (sym (heads e)) h.1)
    ]

none_in_front :
    (side : Side) (page_bytes : ℕ) (bytes more : List ℕ) → IsHopeless side page_bytes bytes → (m : Msg) (page front rest : List ℕ)
    → IsFrame side page_bytes m page front → bytes ++ more ≡ front ++ rest → ⊥
none_in_front side page_bytes bytes more h m page front rest f parts =
    elim (fronts bytes more front rest parts) [
      | inl x ↦ h.none_in_front m page front x.0 f x.1
      | inr x ↦ h.none_beyond m page x.0 (subst (λ (b : List ℕ). IsFrame side page_bytes m page b) x.1 f)
    ]

pub hopeless_more : (side : Side) (page_bytes : ℕ) (bytes more : List ℕ) → IsHopeless side page_bytes bytes → IsHopeless side page_bytes (bytes ++ more)
hopeless_more side page_bytes bytes more h = record {
  none_in_front = none_in_front side page_bytes bytes more h;
  none_beyond =
      λ m page further f. h.none_beyond m page (more ++ further) (subst (λ (b : List ℕ). IsFrame side page_bytes m page b) (append_assoc bytes more further) f);
}
