-- Events as the product's types have them.
use Rattle.std.specs.Prelude.{List, [], ◌∷◌}
use Rattle.bk_base.specs.Places.{IsAddr}
use Rattle.bk_lce.specs.CacheTable.{address_of}
use Rattle.bk_system.specs.declared.event.Event.{Event}
use Rattle.bk_system.specs.declared.event.Event.TheVariants as events

-- An operation is at a word's address: below 2^40 and a multiple of 8. (Nothing wants a bound on its value.)
abbrev pub IsLawful : Event → Type 0
IsLawful (events.Issue c way op) = IsAddr (address_of op)
IsLawful (events.Command c) = Unit {0}
IsLawful (events.Fill to from) = Unit {0}
IsLawful events.Memory = Unit {0}
IsLawful (events.Engine choice) = Unit {0}

abbrev pub AreLawful : List Event → Type 0
AreLawful [] = Unit {0}
AreLawful (e ∷ es) = IsLawful e × AreLawful es
