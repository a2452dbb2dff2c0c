-- What the instructions may do outside of the engine, by their forms: how many messages they send to caches and to the memory at the
-- most, and whether they take a head off its channel.
use Rattle.std.specs.Prelude.{ℕ, ◌+◌, List, [], ◌∷◌, Bool, if◌then◌else◌, Option, Some, None}
use Rattle.bk_isa.specs.declared.form.Form.{Form}
use Rattle.bk_isa.specs.declared.form.Form.TheVariants as forms
use Rattle.bk_msg.specs.declared.row.Row.{Row}
use Rattle.bk_msg.specs.Networks.{network_of}
use Rattle.bk_engine.specs.declared.parts.Choice.{Choice}
use Rattle.bk_system.specs.declared.needs.Need.{Need}
use Rattle.bk_system.specs.declared.needs.Need.TheVariants as needs
use Rattle.bk_system.specs.declared.needs.TheConstants.{MOST_INVALIDATIONS}
use Rattle.bk_system.specs.Events.{is_command, is_memout, is_choice}

abbrev pub need_of : Form → Need
need_of (forms.Popq _) = needs.Origin
need_of (forms.Inv _) = needs.Invalidations
need_of (forms.Stwb _ _) = needs.Command
need_of (forms.Blk _) = needs.Command
need_of forms.Wake = needs.Command
need_of (forms.Tr _ _) = needs.Command
need_of forms.Ucblk = needs.Command
need_of forms.Ucdone = needs.Command
need_of forms.Done = needs.Command
need_of forms.Memrd = needs.Memory
need_of forms.Memwb = needs.Memory
need_of forms.Memww = needs.Memory
need_of f = needs.Nothing

-- that of the instruction at a place, where there is one
abbrev pub need_at : Option Form → Need
need_at None = needs.Nothing
need_at (Some f) = need_of f

-- the same, where the instruction may be run with a choice
abbrev pub need_with : Option Form → Choice → Option Need
need_with form choice = if is_choice form choice then Some (need_at form) else None

-- HOW MANY of each there are at the most

abbrev pub most_commands : Need → ℕ
most_commands needs.Command = 1
most_commands needs.Invalidations = MOST_INVALIDATIONS
most_commands need = 0

abbrev pub most_to_memory : Need → ℕ
most_to_memory needs.Memory = 1
most_to_memory need = 0

abbrev pub most_origins : Need → ℕ
most_origins needs.Origin = 1
most_origins need = 0

-- HOW MANY there are

abbrev pub one_if : Bool → ℕ
one_if here = if here then 1 else 0

abbrev pub command_count : List Row → ℕ
command_count [] = 0
command_count (m ∷ ms) = one_if (is_command (network_of m)) + command_count ms

abbrev pub memory_count : List Row → ℕ
memory_count [] = 0
memory_count (m ∷ ms) = one_if (is_memout (network_of m)) + memory_count ms

abbrev pub origin_count : Option Choice → ℕ
origin_count None = 0
origin_count (Some choice) = 1
