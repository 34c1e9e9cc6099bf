-- An event is read from its words, and from no others.
use Rattle.std.proofs.Common.{◌≡◌, ℕ, ◌^◌, ◌<◌, Bool, true, false, cond, List, [], ◌∷◌, ◌++◌, None, Some, codes, refl, sym, ap, subst, ◌∙◌}
use Rattle.std.specs.Fmt.{decimal}
use Rattle.std.specs.List.{AllByRecursion}
use Rattle.std.specs.Option.{option_and_then}
use Rattle.std.proofs.lemmas.Slice.Eq.{bytes_eq-Decides}
use Rattle.swap_base.specs.declared.DiskWhich.{DiskWhich}
use Rattle.swap_base.specs.declared.DiskWhich.TheVariants as which
use Rattle.swap_wire.specs.declared.Event.{Event}
use Rattle.swap_wire.specs.declared.Event.TheVariants as event
use Rattle.swap_script.specs.Forms.{ok_word}
use Rattle.swap_script.specs.Lines.{is_word}
use Rattle.swap_script.specs.Transcript.{ok_or_bad, disk_words, event_words}
use Rattle.swap_transcript.specs.Readers.{Words, small_at, wide_at, three_of, two_of, row, by_rows}
use Rattle.swap_transcript.specs.Events.{ok_at, which_rows, disk_at, host_at, start_at, far_rows, event_rows, event_at}
use Rattle.swap_transcript.specs.Printed.{HasWhichWords, HasEventWords}
use Rattle.swap_transcript.proofs.Front.{bind_some, bound, small_at-only, wide_at-only, small_at-back, wide_at-back, RowSays, Prints, one-row, one_wide-row, two-row, by_rows-only, one-back, one_wide-back, two-back, two-only}

three-row :
    {A : Type 0} (prints : A → Words) (P : A → Type 0) (name : List ℕ) (f : ℕ → ℕ → ℕ → A)
    → ((a b c : ℕ) → prints (f a b c) ≡ name ∷ decimal a ∷ decimal b ∷ decimal c ∷ []) → ((a b c : ℕ) → a < 2 ^ 32 → b < 2 ^ 32 → c < 2 ^ 32 → P (f a b c))
    → RowSays (Prints prints P) (row name (three_of f))
three-row prints P name f spells fits words x e =
    let a = bind_some (small_at words) (λ a. two_of (f a.0) a.1) x e in
    let first = small_at-only words a.0 a.1 in
    let t = two-only (f a.0.0) a.0.1 x a.2 in (
      subst P (sym t.is) (fits a.0.0 t.a t.b first.within t.a_within t.b_within),
      ap (λ w. name ∷ w) (first.spelled ∙ ap (λ w. decimal a.0.0 ∷ w) t.spelled) ∙ sym (ap (λ p. p ++ x.1) (ap prints t.is ∙ spells a.0.0 t.a t.b)),
    )

three-back :
    {A : Type 0} (f : ℕ → ℕ → ℕ → A) (a b c : ℕ) (rest : Words) → a < 2 ^ 32 → b < 2 ^ 32 → c < 2 ^ 32
    → three_of f (decimal a ∷ decimal b ∷ decimal c ∷ rest) ≡ Some (f a b c, rest)
three-back f a b c rest la lb lc =
    bound (small_at (decimal a ∷ decimal b ∷ decimal c ∷ rest)) (λ x. two_of (f x.0) x.1) (a, decimal b ∷ decimal c ∷ rest)
    (small_at-back a (decimal b ∷ decimal c ∷ rest) la)
    ∙ two-back (f a) b c rest lb lc

ok_word-only :
    (how : List ℕ) (ok b c : Bool) → is_word (codes "ok") how ≡ b → is_word (codes "bad") how ≡ c → cond b (Some true) (cond c (Some false) None) ≡ Some ok
    → how ≡ ok_or_bad ok
ok_word-only how ok true c is other e =
    let same : true ≡ ok = cc in
    sym ((bytes_eq-Decides (codes "ok") how).0 is) ∙ ap ok_or_bad same
ok_word-only how ok false true is other e =
    let same : false ≡ ok = cc in
    sym ((bytes_eq-Decides (codes "bad") how).0 other) ∙ ap ok_or_bad same
ok_word-only how ok false false is other e = cc

ok_at-only : (words : Words) (x : Bool × Words) → ok_at words ≡ Some x → words ≡ ok_or_bad x.0 ∷ x.1
ok_at-only [] x e = cc
ok_at-only (word ∷ words) x e =
    let ok = bind_some (ok_word word) (λ ok. Some (ok, words)) x e in
    let same : (ok.0, words) ≡ x = cc in
    ap (λ w. w ∷ words) (ok_word-only word ok.0 _ _ refl refl ok.1) ∙ ap (λ y. ok_or_bad y.0 ∷ y.1) same

ok_at-back : (ok : Bool) (rest : Words) → ok_at (ok_or_bad ok ∷ rest) ≡ Some (ok, rest)
ok_at-back true rest = refl
ok_at-back false rest = refl

-- the words of an operation without how it ended
which_words : DiskWhich → Words
which_words (which.Write p) = codes "write" ∷ decimal p.0 ∷ []
which_words (which.Read c) = codes "read" ∷ decimal c.0 ∷ []

which-only : (words : Words) (x : DiskWhich × Words) → by_rows which_rows words ≡ Some x → HasWhichWords x.0 × (words ≡ which_words x.0 ++ x.1)
unfolding which_words
which-only words x e =
    by_rows-only (Prints which_words HasWhichWords) which_rows
    (one-row which_words HasWhichWords _ _ (λ n. refl) (λ n l. l), (one-row which_words HasWhichWords _ _ (λ n. refl) (λ n l. l), tt)) words x e

which-back : (w : DiskWhich) (rest : Words) → HasWhichWords w → by_rows which_rows (which_words w ++ rest) ≡ Some (w, rest)
unfolding which_words
which-back (which.Write p) rest h = one-back (λ n. which.Write (record { 0 = n })) p.0 rest h
which-back (which.Read c) rest h = one-back (λ n. which.Read (record { 0 = n })) c.0 rest h

disk_words-is : (w : DiskWhich) (ok : Bool) (rest : Words) → which_words w ++ ok_or_bad ok ∷ rest ≡ disk_words w ok ++ rest
unfolding which_words
disk_words-is (which.Write p) ok rest = refl
disk_words-is (which.Read c) ok rest = refl

disk-row : RowSays (Prints event_words HasEventWords) (row (codes "disk") disk_at)
disk-row words x e =
    let w = bind_some (by_rows which_rows words) (λ w. option_and_then (λ ok. Some (event.Disk w.0 ok.0, ok.1)) (ok_at w.1)) x e in
    let ok = bind_some (ok_at w.0.1) (λ ok. Some (event.Disk w.0.0 ok.0, ok.1)) x w.2 in
    let first = which-only words w.0 w.1 in
    let same : (event.Disk w.0.0 ok.0.0, ok.0.1) ≡ x = cc in
    subst (Prints event_words HasEventWords (codes "disk" ∷ words)) same
    (first.0, ap (λ r. codes "disk" ∷ r) (first.1 ∙ ap (λ r. which_words w.0.0 ++ r) (ok_at-only w.0.1 ok.0 ok.1) ∙ disk_words-is w.0.0 ok.0.0 ok.0.1))

host-row : RowSays (Prints event_words HasEventWords) (row (codes "host") host_at)
host-row words x e =
    let l =
    bind_some (small_at words)
    (λ l. option_and_then (λ u. option_and_then (λ w. Some (event.Host (record { 0 = l.0 }) u.0 w.0, w.1)) (wide_at u.1)) (small_at l.1)) x e in
    let u = bind_some (small_at l.0.1) (λ u. option_and_then (λ w. Some (event.Host (record { 0 = l.0.0 }) u.0 w.0, w.1)) (wide_at u.1)) x l.2 in
    let w = bind_some (wide_at u.0.1) (λ w. Some (event.Host (record { 0 = l.0.0 }) u.0.0 w.0, w.1)) x u.2 in
    let first = small_at-only words l.0 l.1 in
    let second = small_at-only l.0.1 u.0 u.1 in
    let third = wide_at-only u.0.1 w.0 w.1 in
    let same : (event.Host (record { 0 = l.0.0 }) u.0.0 w.0.0, w.0.1) ≡ x = cc in
    subst (Prints event_words HasEventWords (codes "host" ∷ words)) same (
      (first.within, second.within, third.within),
      ap (λ r. codes "host" ∷ r) (first.spelled ∙ ap (λ r. decimal l.0.0 ∷ r) (second.spelled ∙ ap (λ r. decimal u.0.0 ∷ r) third.spelled)),
    )

start-row : RowSays (Prints event_words HasEventWords) (row (codes "start") start_at)
start-row words x e =
    let same : (event.Start, words) ≡ x = cc in
    subst (Prints event_words HasEventWords (codes "start" ∷ words)) same (tt, refl)

far_rows-only : AllByRecursion (RowSays (Prints event_words HasEventWords)) far_rows
far_rows-only = (
  two-row event_words HasEventWords _ _ (λ a b. refl) (λ a b la lb. (la, lb)),
  (
    one-row event_words HasEventWords _ _ (λ n. refl) (λ n l. l),
    (
      one-row event_words HasEventWords _ _ (λ n. refl) (λ n l. l),
      (
        one-row event_words HasEventWords _ _ (λ n. refl) (λ n l. l),
        (
          three-row event_words HasEventWords _ _ (λ a b c. refl) (λ a b c la lb lc. (la, lb, lc)),
          (
            one-row event_words HasEventWords _ _ (λ n. refl) (λ n l. l),
            (
              host-row,
              (
                one_wide-row event_words HasEventWords _ _ (λ n. refl) (λ n l. l),
                tt,
              ),
            ),
          ),
        ),
      ),
    ),
  ),
)

event_rows-only : AllByRecursion (RowSays (Prints event_words HasEventWords)) event_rows
event_rows-only = (
  two-row event_words HasEventWords _ _ (λ a b. refl) (λ a b la lb. (la, lb)),
  (
    two-row event_words HasEventWords _ _ (λ a b. refl) (λ a b la lb. (la, lb)),
    (
      one-row event_words HasEventWords _ _ (λ n. refl) (λ n l. l),
      (
        start-row,
        (
          disk-row,
          (
            one_wide-row event_words HasEventWords _ _ (λ n. refl) (λ n l. l),
            far_rows-only,
          ),
        ),
      ),
    ),
  ),
)

pub event_at-only : (words : Words) (x : Event × Words) → event_at words ≡ Some x → HasEventWords x.0 × (words ≡ event_words x.0 ++ x.1)
event_at-only words x e = by_rows-only (Prints event_words HasEventWords) event_rows event_rows-only words x e

disk-back : (w : DiskWhich) (ok : Bool) (rest : Words) → HasWhichWords w → disk_at (disk_words w ok ++ rest) ≡ Some (event.Disk w ok, rest)
disk-back w ok rest h =
    ap disk_at (sym (disk_words-is w ok rest))
    ∙ bound (by_rows which_rows (which_words w ++ ok_or_bad ok ∷ rest)) (λ w. option_and_then (λ ok. Some (event.Disk w.0 ok.0, ok.1)) (ok_at w.1))
    (w, ok_or_bad ok ∷ rest) (which-back w (ok_or_bad ok ∷ rest) h)
    ∙ bound (ok_at (ok_or_bad ok ∷ rest)) (λ ok. Some (event.Disk w ok.0, ok.1)) (ok, rest) (ok_at-back ok rest)

host-back :
    (l u w : ℕ) (rest : Words) → l < 2 ^ 32 → u < 2 ^ 32 → w < 2 ^ 64
    → host_at (decimal l ∷ decimal u ∷ decimal w ∷ rest) ≡ Some (event.Host (record { 0 = l }) u w, rest)
host-back l u w rest ll lu lw =
    bound (small_at (decimal l ∷ decimal u ∷ decimal w ∷ rest))
    (λ l. option_and_then (λ u. option_and_then (λ w. Some (event.Host (record { 0 = l.0 }) u.0 w.0, w.1)) (wide_at u.1)) (small_at l.1))
    (l, decimal u ∷ decimal w ∷ rest) (small_at-back l (decimal u ∷ decimal w ∷ rest) ll)
    ∙ bound (small_at (decimal u ∷ decimal w ∷ rest)) (λ u. option_and_then (λ w. Some (event.Host (record { 0 = l }) u.0 w.0, w.1)) (wide_at u.1))
    (u, decimal w ∷ rest) (small_at-back u (decimal w ∷ rest) lu)
    ∙ bound (wide_at (decimal w ∷ rest)) (λ w. Some (event.Host (record { 0 = l }) u w.0, w.1)) (w, rest) (wide_at-back w rest lw)

pub event_at-back : (e : Event) (rest : Words) → HasEventWords e → event_at (event_words e ++ rest) ≡ Some (e, rest)
event_at-back (event.PageOut c p) rest h = two-back (λ c p. event.PageOut (record { 0 = c }) (record { 0 = p })) c.0 p.0 rest h.0 h.1
event_at-back (event.PageIn c p) rest h = two-back (λ c p. event.PageIn (record { 0 = c }) (record { 0 = p })) c.0 p.0 rest h.0 h.1
event_at-back (event.Finish c) rest h = one-back (λ c. event.Finish (record { 0 = c })) c.0 rest h
event_at-back event.Start rest h = refl
event_at-back (event.Disk w ok) rest h = disk-back w ok rest h
event_at-back (event.Tick w) rest h = one_wide-back event.Tick w rest h
event_at-back (event.Map s l) rest h = two-back (λ s l. event.Map (record { 0 = s }) (record { 0 = l })) s.0 l.0 rest h.0 h.1
event_at-back (event.Connect l) rest h = one-back (λ l. event.Connect (record { 0 = l })) l.0 rest h
event_at-back (event.Give l) rest h = one-back (λ l. event.Give (record { 0 = l })) l.0 rest h
event_at-back (event.Take l) rest h = one-back (λ l. event.Take (record { 0 = l })) l.0 rest h
event_at-back (event.Cut l a b) rest h = three-back (λ l a b. event.Cut (record { 0 = l }) a b) l.0 a b rest h.0 h.1 h.2
event_at-back (event.Crash l) rest h = one-back (λ l. event.Crash (record { 0 = l })) l.0 rest h
event_at-back (event.Host l u w) rest h = host-back l.0 u w rest h.0 h.1 h.2
event_at-back (event.Round w) rest h = one_wide-back event.Round w rest h
