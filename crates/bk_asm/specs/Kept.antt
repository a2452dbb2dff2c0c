-- The labels of a map, which has them in no order.
use Rattle.std.specs.Prelude.{List, [], ◌∷◌}
use Rattle.std.specs.Ordering.{nat_cmp}
use Rattle.std.specs.Cmp.Lexicographic.{slice_cmp}
use Rattle.std.specs.BTreeMap.{insert_entry}
use Rattle.bk_asm.specs.Names.{Naming}

-- the same labels in the order of their names
abbrev pub in_order : List Naming → List Naming
in_order [] = []
in_order (l ∷ labels) = insert_entry (slice_cmp nat_cmp) (in_order labels) l.0 l.1
