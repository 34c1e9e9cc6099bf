-- From the commands' own contracts to the options that the words give.
use Rattle.std.proofs.Common.{◌≡◌, ◌∙◌, ap, sym, subst, refl, inl, inr, true, List, [], ◌∷◌, Option, None}
use Rattle.std.specs.Prelude.{◌⊎◌}
use Rattle.clap.specs.Words.{App, Row, Text, fault_of, matches_of, is_simple, is_simple_and_free, Kinds, IsAmong}
use Rattle.clap.specs.declared.error.kind.ErrorKind.{ErrorKind}
use Rattle.clap.specs.declared.error.kind.ErrorKind.TheVariants as kind
use Rattle.swap_options.specs.declared.lend.LendOptions.{LendOptions}
use Rattle.swap_options.specs.Commands.{IsAtFault, unless_at_fault}
use Rattle.swap_options.specs.Lend.{lend_command, lend_faults, lend_rows, lend_options, within_limits, options_in}
use Rattle.swap_options.specs.Play.{play_command, play_faults, play_rows, play_options}
use Rattle.swap_options.specs.Play as play

lend-free : is_simple_and_free lend_command ≡ true
lend-free = refl

lend-simple : is_simple lend_command ≡ true
lend-simple = refl

play-free : is_simple_and_free play_command ≡ true
play-free = refl

play-simple : is_simple play_command ≡ true
play-simple = refl

pub lend-may : (a : App) → a ≡ lend_command → (is_simple a ≡ true) × (is_simple_and_free a ≡ true)
lend-may a e = (ap is_simple e ∙ lend-simple, ap is_simple_and_free e ∙ lend-free)

pub play-may : (a : App) → a ≡ play_command → (is_simple a ≡ true) × (is_simple_and_free a ≡ true)
play-may a e = (ap is_simple e ∙ play-simple, ap is_simple_and_free e ∙ play-free)

-- what a command finds at fault, and what it makes of the words
pub lend-faults-are : (a : App) (words : List Text) → a ≡ lend_command → fault_of a words ≡ lend_faults words
unfolding lend_faults
lend-faults-are a words e = ap (λ (x : App). fault_of x words) e

pub lend-rows-are : (a : App) (words : List Text) → a ≡ lend_command → matches_of a words ≡ lend_rows words
unfolding lend_rows
lend-rows-are a words e = ap (λ (x : App). matches_of x words) e

pub play-faults-are : (a : App) (words : List Text) → a ≡ play_command → fault_of a words ≡ play_faults words
unfolding play_faults
play-faults-are a words e = ap (λ (x : App). fault_of x words) e

pub play-rows-are : (a : App) (words : List Text) → a ≡ play_command → matches_of a words ≡ play_rows words
unfolding play_rows
play-rows-are a words e = ap (λ (x : App). matches_of x words) e

among : (k : ErrorKind) (kinds : Kinds) → IsAmong k kinds → IsAtFault kinds
among k [] h = absurd h
among k (x ∷ xs) h = tt

pub at-fault : (k : ErrorKind) (kinds : Kinds) → (k ≡ kind.OutOfMemory → ⊥) → (k ≡ kind.OutOfMemory) ⊎ IsAmong k kinds → IsAtFault kinds
at-fault k kinds other h = elim h [
  | inl x ↦ absurd (other x)
  | inr y ↦ among k kinds y
]

fault-refuses : {A : Type 0} (kinds : Kinds) (options : Option A) → IsAtFault kinds → unless_at_fault kinds options ≡ None
fault-refuses [] options h = absurd h
fault-refuses (x ∷ xs) options h = refl

pub lend-refuses : (a : App) (words : List Text) → a ≡ lend_command → IsAtFault (fault_of a words) → lend_options words ≡ None
lend-refuses a words e h = fault-refuses (lend_faults words) (within_limits (options_in (lend_rows words))) (subst IsAtFault (lend-faults-are a words e) h)

pub play-refuses : (a : App) (words : List Text) → a ≡ play_command → IsAtFault (fault_of a words) → play_options words ≡ None
play-refuses a words e h = fault-refuses (play_faults words) (play.options_in (play_rows words)) (subst IsAtFault (play-faults-are a words e) h)

pub given :
    (words : List Text) (rows : List Row) (options : Option LendOptions) → lend_faults words ≡ [] → rows ≡ lend_rows words → options ≡ options_in rows
    → lend_options words ≡ within_limits options
given words rows options none is e =
    ap (λ ks. unless_at_fault ks (within_limits (options_in (lend_rows words)))) none ∙ ap within_limits (ap options_in (sym is) ∙ sym e)

pub played : (words : List Text) (rows : List Row) → play_faults words ≡ [] → rows ≡ play_rows words → play_options words ≡ play.options_in rows
played words rows none is = ap (λ ks. unless_at_fault ks (play.options_in (play_rows words))) none ∙ ap play.options_in (sym is)
