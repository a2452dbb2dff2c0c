-- A run of a sound image stays coherent.
use Rattle.std.proofs.Common.{subst, List, [], ◌∷◌, ◌++◌}
use Rattle.bk_base.specs.Places.{Shape, InProfile}
use Rattle.bk_isa.specs.declared.form.Form.{Form}
use Rattle.bk_system.specs.declared.event.Event.{Event}
use Rattle.bk_system.specs.Lawful.{AreLawful}
use Rattle.bk_coherent.specs.Coherent.{StaysCoherent}
use Rattle.bk_sound.specs.Sound.{IsSound}

-- the first events of a list are lawful where all are
lawful-before : (before after : List Event) → AreLawful (before ++ after) → AreLawful before
lawful-before [] after h = tt
lawful-before (e ∷ before) after h = (h.0, lawful-before before after h.1)

pub stays-coherent : (k : Shape) (program : List Form) (es : List Event) → IsSound program → InProfile k → AreLawful es
    → StaysCoherent k program es
stays-coherent k program es sound profile lawful before after e =
    (sound k before profile (lawful-before before after (subst AreLawful e lawful))).coherent
