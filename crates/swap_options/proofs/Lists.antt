-- Addresses that were read before others.
use Rattle.std.proofs.Common.{◌≡◌, List, [], ◌∷◌, ◌++◌, Option, None, Some, Result, Ok, Err, false, is_ok, is_err, if◌then◌else◌, refl, ap, ◌∙◌, sym}
use Rattle.std.proofs.lemmas.List.{append_assoc}
use Rattle.swap_sock.specs.declared.address.Address.{Address}
use Rattle.swap_options.specs.Play.{put_before}

abbrev pub put_all : List Address → Option (List Address) → Option (List Address)
put_all list None = None
put_all list (Some rest) = Some (list ++ rest)

-- a part that is none, and one that is an address
pub unread :
    (list : List Address) (read : Option Address) (rest all : Option (List Address)) → all ≡ put_all list (put_before read rest) → read ≡ None → all ≡ None
unread list read rest all e none = e ∙ ap (λ r. put_all list (put_before r rest)) none

joined :
    (list : List Address) (address : Address) (rest : Option (List Address))
    → put_all list (put_before (Some address) rest) ≡ put_all (list ++ address ∷ []) rest
joined list address None = refl
joined list address (Some rest) = ap Some (sym (append_assoc list (address ∷ []) rest))

pub one_more :
    (list : List Address) (address : Address) (read : Option Address) (rest all : Option (List Address)) → all ≡ put_all list (put_before read rest)
    → read ≡ Some address → all ≡ put_all (list ++ address ∷ []) rest
one_more list address read rest all e some = e ∙ ap (λ r. put_all list (put_before r rest)) some ∙ joined list address rest

pub pushed : {T E : Type 0} (r : Result T E) (more less : List Address) → is_err r ≡ false → (if is_ok r then more else less) ≡ more
pushed (Ok x) more less e = refl
pushed (Err x) more less e = cc
