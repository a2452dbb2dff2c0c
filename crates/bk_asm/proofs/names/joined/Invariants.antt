use Rattle.std.proofs.Common.{◌≡◌, map}
use Rattle.std.specs.Option.{option_map}
use Rattle.bk_asm.specs.Names.{set_with, joined}
use Rattle.bk_asm.proofs.Named.{pieces, left_len}
use Rattle.bk_asm.proofs.names.joined.Given as goal

abbrev pub invariant-loop-left : goal.invariant-loop-left
invariant-loop-left l = set_with (map (λ name. (name.0.now, name.1)) l.names) l.set (pieces l.separator (option_map (λ w. w.now) l.left))
    ≡ joined (map (λ name. (name.0.now, name.1)) l.names) l.separator l.word

abbrev pub decreases-loop-left : goal.decreases-loop-left
decreases-loop-left l = left_len (option_map (λ w. w.now) l.left)
