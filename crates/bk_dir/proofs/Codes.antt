-- The tests of a field's code, as tests of the state.
use Rattle.std.proofs.Common.{◌≡◌, ℕ, ◌%◌, true, not, refl, ap, sym, ◌∙◌, arith}
use Rattle.std.specs.Prelude.{◌==◌}
use Rattle.bk_base.specs.States.{code_of, is_readable, is_owner_like}
use Rattle.bk_base.specs.declared.coh.Coh.{Coh}
use Rattle.bk_base.specs.declared.coh.Coh.TheVariants.{I, S, E, F, M, O}
use Rattle.bk_dir.specs.Segments.{state_in, entry_in, HasCode}
use Rattle.bk_dir.specs.Summaries.{is_shared}

readable-code : (y : Coh) → not (code_of y == 0) ≡ is_readable y
readable-code I = refl
readable-code S = refl
readable-code E = refl
readable-code F = refl
readable-code M = refl
readable-code O = refl

shared-code : (y : Coh) → (code_of y == 1) ≡ is_shared y
shared-code I = refl
shared-code S = refl
shared-code E = refl
shared-code F = refl
shared-code M = refl
shared-code O = refl

pub readable_in : (field : ℕ) → HasCode field → not (field % 8 == 0) ≡ is_readable (entry_in field).state
readable_in field h = ap (λ n. not (n == 0)) (sym h) ∙ readable-code (state_in (field % 8))

pub shared_in : (field : ℕ) → HasCode field → (field % 8 == 1) ≡ is_shared (entry_in field).state
shared_in field h = ap (λ n. n == 1) (sym h) ∙ shared-code (state_in (field % 8))

-- a copy that is readable is either S or answers for the block
pub answers_unless : (y : Coh) → is_readable y ≡ true → is_owner_like y ≡ not (is_shared y)
answers_unless y h = grind arith
