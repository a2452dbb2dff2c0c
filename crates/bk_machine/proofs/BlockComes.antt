-- A block, a fill or a wake comes to the cache that waits for it.
use Rattle.std.proofs.Common.{◌≡◌, ℕ, ◌≢◌, true, false, ◌&&◌, refl, arith, List, [], sym, ◌∙◌, if◌then◌else◌, ◌==◌}
use Rattle.std.proofs.lemmas.Bool.Decides.{nat_tests}
use Rattle.bk_base.specs.Tables.{put}
use Rattle.bk_machine.specs.Tables.{put2}
use Rattle.bk_machine.specs.Entries.{Holds}
use Rattle.bk_machine.specs.Messages.{Spot, Load, Store, ToCache, FillMessage}
use Rattle.bk_machine.specs.Transactions.{InProgress, paid_directory}
use Rattle.bk_machine.specs.Phases.{Flight, ByBlock, ByWake, ByFill, Flying, Settling, commands_of, fills_of}
use Rattle.bk_machine.specs.World.{GroupState}
use Rattle.bk_machine.specs.Copies.{Copies, Matches, OneWay}
use Rattle.bk_machine.specs.Invariant.{Good}
use Rattle.bk_machine.proofs.Growing.{RightAnswers-append}
use Rattle.bk_machine.proofs.Arrive.{loaded, stored, arrived, loaded-copies, stored-copies, loaded-values, loaded-answers, stored-values}
use Rattle.bk_base.specs.declared.coh.Coh.{Coh}
use Rattle.bk_base.specs.declared.coh.Coh.TheVariants.{M}
use Rattle.bk_base.specs.States.{is_writable, is_dirty}
use Rattle.bk_machine.proofs.FlushComes.{light-dirty}

abbrev pub take_command : GroupState → ℕ → List ToCache → GroupState
take_command part c rest = record part { command = put part.command c rest }

abbrev pub take_fill : GroupState → ℕ → ℕ → List FillMessage → GroupState
take_fill part c o rest = record part { fill = put2 part.fill c o rest }

-- facts of the three flights
module _ (part : GroupState) (c : ℕ) (b : InProgress) (state : Coh) (ws : ℕ
    → ℕ) (rest : List ToCache) (good : Good (Flying c b (ByBlock state ws)) part) (last : rest ≡ []) where
  block-commands : (t i : ℕ) → put part.command c rest i ≡ commands_of (Settling c t) i
  unfolding put
  block-commands t i = grind (arith, nat_tests, good.commands i)

module _ (part : GroupState) (c : ℕ) (b : InProgress) (rest : List ToCache) (good : Good (Flying c b ByWake) part)
    (last : rest ≡ []) where
  wake-commands : (t i : ℕ) → put part.command c rest i ≡ commands_of (Settling c t) i
  unfolding put
  wake-commands t i = grind (arith, nat_tests, good.commands i)

module _ (part : GroupState) (c o : ℕ) (b : InProgress) (state : Coh) (ws : ℕ
    → ℕ) (rest : List FillMessage) (good : Good (Flying c b (ByFill o state ws)) part) (last : rest ≡ []) where
  fill-fills : (t i j : ℕ) → put2 part.fill c o rest i j ≡ fills_of (Settling c t) i j
  unfolding put2
  fill-fills t i j = grind (arith, nat_tests, good.fills i j)

pub block_loaded : (part : GroupState) (c t w : ℕ) (spot : Spot) (state : Coh) (ws : ℕ → ℕ) (rest : List ToCache)
    → Good (Flying c (record { op = Load t spot; way = w }) (ByBlock state ws)) part
    → rest ≡ []
    → Good (Settling c t) (take_command (loaded part c t w state ws spot) c rest)
block_loaded part c t w spot state ws rest good last =
    arrived part c t w _ state _ good state _ _ _ _ (block-commands part c _ state ws rest good last t) good.fills
    (loaded-copies part c t w _ state _ good good.copies.matches)
    (loaded-values part c t w spot state ws _ good good.values.flying (λ u l. light-dirty _ good.copies.standing.light) (λ u j e. refl)
    good.copies.standing.is_valid)
    (loaded-answers part c t w spot state ws _ good good.values.flying (λ u l. light-dirty _ good.copies.standing.light)
    (λ u j e. refl))

module _ (part : GroupState) (c t w j : ℕ) (change : ℕ → ℕ) (ws : ℕ → ℕ) (state : Coh) (f : Flight)
    (good : Good (Flying c (record { op = Store t j change; way = w }) f) part)
    (writes : is_writable state ≡ true)
    (m : (i v : ℕ) → Matches (paid_directory part.transaction part.directory i v) (if i == c && v == w
    then record { tag = t; state = state } else part.entries i v)) where
  copies : Copies (Settling c t) (paid_directory part.transaction part.directory) (put2 part.entries c w (record { tag = t; state = M }))
  copies = stored-copies part c t w _ state f good m writes

  mine : Holds (put2 part.entries c w (record { tag = t; state = M }) c w) t
  unfolding put2
  mine = record { is_valid = grind (arith, nat_tests); is_tag = grind (arith, nat_tests) }

  mine_writes : is_writable (put2 part.entries c w (record { tag = t; state = M }) c w).state ≡ true
  unfolding put2
  mine_writes = grind (arith, nat_tests)

  pub only_mine : (i v : ℕ) → Holds (put2 part.entries c w (record { tag = t; state = M }) i v) t → i ≡ c
  only_mine i v j = grind (arith, copies.real_alone t c w i v mine j, mine_writes)

  pub one_way : OneWay (put2 part.entries c w (record { tag = t; state = M }))
  one_way = copies.real_way

-- The Blk was the group's one command, and the CohAck takes its place. The directory with its debts paid had the block here already, in
-- a state to write, so no other cache has a copy that could be behind. The words were the latest, and what they replace is clean.
pub block_stored : (part : GroupState) (c t w number : ℕ) (change : ℕ → ℕ) (state : Coh) (ws : ℕ → ℕ) (rest : List ToCache)
    → Good (Flying c (record { op = Store t number change; way = w }) (ByBlock state ws)) part → is_writable state ≡ true → rest ≡ []
    → Good (Settling c t) (take_command (stored part c t w ws number change) c rest)
block_stored part c t w number change state ws rest good writes last =
    arrived part c t w _ state _ good M _ _ _ _ (block-commands part c _ state ws rest good last t) good.fills
    (stored-copies part c t w _ state _ good good.copies.matches writes)
    (stored-values part c t w number change ws _ good good.values.flying
    (only_mine part c t w number change ws state _ good writes good.copies.matches)
    (one_way part c t w number change ws state _ good writes good.copies.matches) (λ u d l. light-dirty _ good.copies.standing.light)
    (λ u j d. refl))
    (RightAnswers-append (λ u j. 0) part.history _ good.answers refl)

-- A wake's copy is there, with the latest words, and the directory with its debts paid has it in M: so no other cache has a copy that
-- could be behind. Nothing is replaced, and the CohAck takes the StWake's place.
pub wake_stored : (part : GroupState) (c t w number : ℕ) (change : ℕ → ℕ) (rest : List ToCache)
    → Good (Flying c (record { op = Store t number change; way = w }) ByWake) part → rest ≡ []
    → Good (Settling c t) (take_command (stored part c t w (part.words c w) number change) c rest)
wake_stored part c t w number change rest good last =
    arrived part c t w _ M _ good M _ _ _ _ (wake-commands part c _ rest good last t) good.fills
    (stored-copies part c t w _ M _ good good.copies.matches refl)
    (stored-values part c t w number change (part.words c w) _ good (λ j. good.values.copies t c w j good.copies.standing)
    (only_mine part c t w number change (part.words c w) M _ good refl good.copies.matches)
    (one_way part c t w number change (part.words c w) M _ good refl good.copies.matches)
    (λ u d l. absurd (d (sym l.is_tag ∙ good.copies.standing.is_tag))) (λ u j d. refl))
    (RightAnswers-append (λ u j. 0) part.history _ good.answers refl)

fill_flies : (state : Coh) (t : ℕ) (u : ℕ) → (u ≡ t → is_dirty state ≡ false) → (is_dirty state && u == t) ≡ false
fill_flies state t u e = grind (arith, nat_tests)

fill_elsewhere : (state : Coh) (t : ℕ) (u : ℕ) → u ≢ t → (is_dirty state && u == t) ≡ false
fill_elsewhere state t u e = grind (arith, nat_tests)

pub fill_loaded : (part : GroupState) (c o t w : ℕ) (spot : Spot) (state : Coh) (ws : ℕ → ℕ) (rest : List FillMessage)
    → Good (Flying c (record { op = Load t spot; way = w }) (ByFill o state ws)) part → rest ≡ []
    → Good (Settling c t) (take_fill (loaded part c t w state ws spot) c o rest)
fill_loaded part c o t w spot state ws rest good last =
    arrived part c t w _ state _ good state _ _ _ _ good.commands (fill-fills part c o _ state ws rest good last t)
    (loaded-copies part c t w _ state _ good good.copies.matches)
    (loaded-values part c t w spot state ws _ good good.values.flying (λ u l. light-dirty _ good.copies.standing.light)
    (λ u j e. fill_flies state t u e)
    good.copies.standing.is_valid)
    (loaded-answers part c t w spot state ws _ good good.values.flying (λ u l. light-dirty _ good.copies.standing.light)
    (λ u j e. fill_flies state t u e))

-- As for a Blk, from the owner: the words are the latest, no other cache has a copy that could be behind, and what is replaced is
-- clean. A dirty Fill had words of this block alone, which is in M now, so no more is asked of memory for any other block.
pub fill_stored : (part : GroupState) (c o t w number : ℕ) (change : ℕ → ℕ) (state : Coh) (ws : ℕ → ℕ) (rest : List FillMessage)
    → Good (Flying c (record { op = Store t number change; way = w }) (ByFill o state ws)) part → is_writable state ≡ true → rest ≡ []
    → Good (Settling c t) (take_fill (stored part c t w ws number change) c o rest)
fill_stored part c o t w number change state ws rest good writes last =
    arrived part c t w _ state _ good M _ _ _ _ good.commands (fill-fills part c o _ state ws rest good last t)
    (stored-copies part c t w _ state _ good good.copies.matches writes)
    (stored-values part c t w number change ws _ good good.values.flying
    (only_mine part c t w number change ws state _ good writes good.copies.matches)
    (one_way part c t w number change ws state _ good writes good.copies.matches) (λ u d l. light-dirty _ good.copies.standing.light)
    (λ u j d. fill_elsewhere state t u d))
    (RightAnswers-append (λ u j. 0) part.history _ good.answers refl)
