-- The words behind `lend`: what the kit's reader of command lines makes of them, and the options that this gives.
use Rattle.std.specs.Prelude.{ℕ, ◌*◌, Bool, true, ◌&&◌, ◌==◌, nat_le, if◌then◌else◌, List, codes, Option, None, Some, option_and_then}
use Rattle.std.specs.List.{list_any}
use Rattle.clap.specs.Words.{App, Row, Text, first_of, matches_of, fault_of, with_rule}
use Rattle.clap.specs.Kinds.{Kinds}
use Rattle.swap_base.specs.declared.geometry.LenderSpec.{LenderSpec}
use Rattle.swap_base.specs.Sizes.{page_lengths, is_within}
use Rattle.swap_io.specs.Words.{number}
use Rattle.swap_sock.specs.Addresses.{at_most, address_in}
use Rattle.swap_sock.specs.declared.address.Address.{Address}
use Rattle.swap_options.specs.declared.lend.LendOptions.{LendOptions}
use Rattle.swap_options.specs.Commands.{option_rule, with_default, bare_command, unless_at_fault}
use Rattle.swap_base.specs.declared.TheConstants.{MOST_LENT_BYTES, MOST_SLOTS}
use Rattle.swap_options.specs.declared.TheConstants.{MOST_SERVED}

-- the command behind `lend`
abbrev pub lend_command : App
lend_command =
    with_rule
    (with_rule
    (with_rule
    (with_rule
    (with_rule
    (with_rule
    (with_rule
    (with_rule (bare_command (codes "lend")) (record (option_rule (codes "listen")) { required = true }))
    (with_default (codes "slots") (codes "16")))
    (with_default (codes "headroom") (codes "2")))
    (with_default (codes "extra") (codes "2")))
    (with_default (codes "page-bytes") (codes "4096")))
    (with_default (codes "pages-per-slab") (codes "1024")))
    (with_default (codes "links") (codes "1")))
    (with_default (codes "used") (codes "0"))

-- the highest number of 32 bits
abbrev pub highest : ℕ
highest = 4_294_967_295

-- the number that a text spells, where it is one of 32 bits, and the one that an option was given
abbrev pub number_of : Option Text → Option ℕ
number_of text = at_most highest (option_and_then number text)

abbrev pub number_at : Text → List Row → Option ℕ
number_at name rows = number_of (first_of name rows)

abbrev pub spec_of : Option ℕ → Option ℕ → Option ℕ → Option LenderSpec
spec_of (Some slots) (Some headroom) (Some extra) = Some (record { slots = slots; headroom = headroom; extra = extra })
spec_of (Some slots) (Some headroom) None = None
spec_of (Some slots) None extra = None
spec_of None headroom extra = None

-- what a lender's slots, headroom and extra are given as
abbrev pub spec_in : List Row → Option LenderSpec
spec_in rows =
    spec_of (number_at (codes "slots") rows) (number_at (codes "headroom") rows) (number_at (codes "extra") rows)

abbrev pub options_of :
    Option Address → Option LenderSpec → Option ℕ → Option ℕ → Option ℕ → Option ℕ → Option LendOptions
options_of (Some listen) (Some spec) (Some page_bytes) (Some pages_per_slab) (Some links) (Some used) =
    Some
    (record {
      listen = listen;
      spec = spec;
      page_bytes = page_bytes;
      pages_per_slab = pages_per_slab;
      links = links;
      used = used;
    })
options_of (Some listen) (Some spec) (Some page_bytes) (Some pages_per_slab) (Some links) None = None
options_of (Some listen) (Some spec) (Some page_bytes) (Some pages_per_slab) None used = None
options_of (Some listen) (Some spec) (Some page_bytes) None links used = None
options_of (Some listen) (Some spec) None pages_per_slab links used = None
options_of (Some listen) None page_bytes pages_per_slab links used = None
options_of None spec page_bytes pages_per_slab links used = None

-- the options that the values spell, whatever their limits
abbrev pub options_in : List Row → Option LendOptions
options_in rows =
    options_of (option_and_then address_in (first_of (codes "listen") rows)) (spec_in rows)
    (number_at (codes "page-bytes") rows) (number_at (codes "pages-per-slab") rows) (number_at (codes "links") rows)
    (number_at (codes "used") rows)

-- the limits of a lender, of a device's pages, of what all slots hold and of the links
abbrev pub keeps_limits : LendOptions → Bool
keeps_limits o =
    is_within 1 MOST_SLOTS o.spec.slots
    && nat_le o.spec.headroom MOST_SLOTS
    && nat_le o.spec.extra MOST_SLOTS
    && list_any (λ n. o.page_bytes == n) page_lengths
    && is_within 1 65_536 o.pages_per_slab
    && nat_le (o.spec.slots * o.pages_per_slab * o.page_bytes) MOST_LENT_BYTES
    && nat_le o.links MOST_SERVED

abbrev pub within_limits : Option LendOptions → Option LendOptions
within_limits None = None
within_limits (Some o) = if keeps_limits o then Some o else None

-- what the command finds at fault in the words, and what it makes of them
unfoldable pub lend_faults : List Text → Kinds
lend_faults words = fault_of lend_command words

unfoldable pub lend_rows : List Text → List Row
lend_rows words = matches_of lend_command words

-- the options that the words give: the command takes them, and their values spell options within the limits
abbrev pub lend_options : List Text → Option LendOptions
lend_options words = unless_at_fault (lend_faults words) (within_limits (options_in (lend_rows words)))
