use Rattle.std.proofs.Common.{◌≡◌, ◌<◌, ◌++◌, [], ◌∷◌, ℕ, List, length, arith, ◌∙◌, refl}
use Rattle.std.specs.Prelude.{◌==◌}
use Rattle.std.proofs.lemmas.Bool.Decides.{nat_tests}
use Rattle.bk_base.specs.Counting.{is_nil}
use Rattle.bk_system.proofs.queue.Queue.is_empty.Goals as goal

-- the list after the ring is empty where the ring is
parts-nil : {X : Type 0} (xs ys : List X) (n : ℕ) → n ≡ length ys → (0 < n → length xs ≡ 16)
    → (length xs == 0) ≡ is_nil (xs ++ ys)
parts-nil [] [] n e h = refl
parts-nil [] (y ∷ ys) n e h = absurd (let full : 0 ≡ 16 = h (omega arith) in omega arith)
parts-nil (x ∷ xs) ys n e h = grind (arith, nat_tests)

pub returns : goal.returns
returns c =
    c.is_empty.ensures
    ∙ parts-nil c.args.self.now.ring.items c.args.self.now.list.items c.args.self.now.list.len c.args.self.now.list.ok.0
    c.args.self.now.full
