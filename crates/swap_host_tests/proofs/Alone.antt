-- An operation that is alone in flight leaves none behind.
use Rattle.std.proofs.Common.{◌≡◌, Bool, true, false, cond, List, [], ◌∷◌, length, find, refl, arith, None, Some}
use Rattle.swap_base.specs.declared.DiskWhich.{DiskWhich}
use Rattle.swap_disk.specs.Disk.{Flight, is_flight_of, without_flight}

left_of : (b : Bool) (f g : Flight) → cond b (Some f) None ≡ Some g → cond b [] (f ∷ []) ≡ []
left_of true f g e = refl
left_of false f g e = cc

pub without_alone : (w : DiskWhich) (fs : List Flight) (g : Flight) → length fs ≡ 1 → find (is_flight_of w) fs ≡ Some g → without_flight w fs ≡ []
without_alone w [] g one found = absurd (omega (arith, one))
without_alone w (f ∷ []) g one found = left_of (is_flight_of w f) f g found
without_alone w (f ∷ h ∷ fs) g one found = absurd (omega (arith, one))
