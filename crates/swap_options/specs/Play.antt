-- The words behind `play`: what the kit's reader of command lines makes of them, and the options that this gives.
use Rattle.std.specs.Prelude.{ℕ, ◌==◌, nat_le, if◌then◌else◌, List, [], ◌∷◌, length, codes, Option, None, Some, option_map, option_and_then}
use Rattle.std.specs.List.{slice_split}
use Rattle.clap.specs.Words.{App, Row, Text, first_of, matches_of, fault_of, with_rule}
use Rattle.clap.specs.Kinds.{Kinds}
use Rattle.swap_io.specs.Words.{number}
use Rattle.swap_sock.specs.Addresses.{address_in}
use Rattle.swap_sock.specs.declared.address.Address.{Address}
use Rattle.swap_options.specs.declared.play.PlayOptions.{PlayOptions}
use Rattle.swap_options.specs.Commands.{option_rule, with_default, bare_command, unless_at_fault}

-- the number that draws come from, the path of the disk's file and the lenders' addresses
pub record Play : Type 0 where
  pub number : ℕ
  pub disk : Option (List ℕ)
  pub tcp : Option (List Address)

abbrev pub play_asked : PlayOptions → Play
play_asked o =
    record {
      number = o.number;
      disk = option_map (λ text. text.now) o.disk;
      tcp = option_map (λ list. list.items) o.tcp;
    }

-- the command behind `play`
abbrev pub play_command : App
play_command =
    with_rule
    (with_rule (with_rule (bare_command (codes "play")) (with_default (codes "number") (codes "1")))
    (option_rule (codes "disk")))
    (option_rule (codes "tcp"))

abbrev pub comma : ℕ
comma = 44

-- an address before others
abbrev pub put_before : Option Address → Option (List Address) → Option (List Address)
put_before (Some address) (Some list) = Some (address ∷ list)
put_before (Some address) None = None
put_before None list = None

-- the addresses of the parts, where each is one
abbrev pub addresses_of : List Text → Option (List Address)
addresses_of [] = Some []
addresses_of (part ∷ parts) = put_before (address_in part) (addresses_of parts)

abbrev pub of_few : List Text → Option (List Address)
of_few parts = if nat_le (length parts) 8 then addresses_of parts else None

-- the addresses, 1 to 8 of them, that commas part
abbrev pub addresses_in : Text → Option (List Address)
addresses_in text = of_few (slice_split (λ b. b == comma) text)

-- none where no list is given
abbrev pub addresses_given : Option Text → Option (Option (List Address))
addresses_given None = Some None
addresses_given (Some text) = option_map Some (addresses_in text)

abbrev pub options_of : Option ℕ → Option Text → Option (Option (List Address)) → Option Play
options_of (Some number) disk (Some tcp) = Some (record { number = number; disk = disk; tcp = tcp })
options_of (Some number) disk None = None
options_of None disk tcp = None

-- the options that the values spell
abbrev pub options_in : List Row → Option Play
options_in rows =
    options_of (option_and_then number (first_of (codes "number") rows)) (first_of (codes "disk") rows)
    (addresses_given (first_of (codes "tcp") rows))

-- what the command finds at fault in the words, and what it makes of them
unfoldable pub play_faults : List Text → Kinds
play_faults words = fault_of play_command words

unfoldable pub play_rows : List Text → List Row
play_rows words = matches_of play_command words

-- the options that the words give: the command takes them, and their values spell options
abbrev pub play_options : List Text → Option Play
play_options words = unless_at_fault (play_faults words) (options_in (play_rows words))
