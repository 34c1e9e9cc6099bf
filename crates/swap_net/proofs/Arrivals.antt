-- What a take of a post may be.
use Rattle.std.proofs.Common.{◌≡◌, ℕ, Bool, true, false, List, [], ◌∷◌, ◌++◌, refl, sym, ap, ◌∙◌, subst, Option, None, Some, inr}
use Rattle.swap_base.specs.declared.Link.{Link}
use Rattle.swap_wire.specs.declared.Msg.{Msg}
use Rattle.swap_wire.specs.Fabric.{Parcel, Brought, NothingCame, LinkLost, parcel_of}
use Rattle.swap_net.specs.declared.post.Arrival.{Arrival}
use Rattle.swap_net.specs.declared.post.Item.TheVariants as item_is
use Rattle.swap_net.specs.Posts.{stands_as, HandsOver, Looked}

module _ (n : ℕ) (own : Option Link) (link : Link) (came : List Arrival) (item : Arrival) (b : Bool) (at : own ≡ Some link)
    (same : b ≡ stands_as (Some link) item.link) where
  pub older : b ≡ false → Looked n (record { link = own; came = came }) NothingCame (record { link = own; came = came ++ item ∷ [] })
  older f = inr (inr (record { item = item; came = refl; older = ap (λ l. stands_as l item.link) at ∙ sym same ∙ f }))

  pub got :
      (m : Msg) (p : Parcel) → item.item ≡ item_is.Got m → p ≡ parcel_of m item.page.items → b ≡ true
      → Looked n (record { link = own; came = came }) (Brought p) (record { link = own; came = came ++ item ∷ [] })
  got m p kind is t =
      record {
        item = item;
        came = refl;
        link = ap (λ l. stands_as l item.link) at ∙ sym same ∙ t;
        hands = subst (λ i. HandsOver n i item.page.items (Brought p)) (sym kind) is;
      }

  pub lost :
      HandsOver n item.item item.page.items LinkLost → b ≡ true
      → Looked n (record { link = own; came = came }) LinkLost (record { link = None; came = came ++ item ∷ [] })
  lost hands t = record { item = item; came = refl; link = ap (λ l. stands_as l item.link) at ∙ sym same ∙ t; hands = hands }
