-- Commands of options: their rules for the kit's reader of command lines, and what holds where it finds words at fault.
use Rattle.std.specs.Prelude.{true, [], ◌∷◌, Option, None, Some}
use Rattle.clap.specs.Words.{App, Rule, Text, new_app, new_rule}
use Rattle.clap.specs.Kinds.{Kinds}

-- an option with one value, and one with the value that it has where it isn't given
abbrev pub option_rule : Text → Rule
option_rule name = record (new_rule name) { long = Some name }

abbrev pub with_default : Text → Text → Rule
with_default name value = record (option_rule name) { defaults = value ∷ [] }

-- a command of which all words are arguments, without a flag for help
abbrev pub bare_command : Text → App
bare_command name =
    record (new_app name) { top = record (new_app name).top { no_binary_name = true; disable_help_flag = true } }

abbrev pub IsAtFault : Kinds → Type 0
IsAtFault [] = ⊥
IsAtFault (kind ∷ kinds) = Unit {0}

-- words at fault give no options
abbrev pub unless_at_fault : {A : Type 0} → Kinds → Option A → Option A
unless_at_fault [] options = options
unless_at_fault (kind ∷ kinds) options = None
