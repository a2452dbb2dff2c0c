-- The memory takes one message.
use Rattle.std.proofs.Common.{◌≡◌, ℕ, ◌+◌, arith, List, [], ◌∷◌, ◌++◌, ◌∙◌, subst, ap, length}
use Rattle.std.specs.Prelude.{Option}
use Rattle.bk_machine.specs.Messages.{ToMemory, Read, Write, WriteWord, MemoryBlock}
use Rattle.bk_machine.specs.Transactions.{Transaction}
use Rattle.bk_machine.specs.Phases.{Phase}
use Rattle.bk_machine.specs.World.{GroupState}
use Rattle.bk_machine.specs.Words.{write_block, write_word, latest, effective}
use Rattle.bk_machine.specs.Values.{Values, MemoryChannels, transaction_tag}
use Rattle.bk_machine.specs.Invariant.{Good}
use Rattle.bk_machine.proofs.Growing.{BlocksFor-append}
use Rattle.bk_machine.proofs.Unchanged.{still-good}

length-push : {X : Type 0} (xs : List X) (x : X) → length (xs ++ x ∷ []) ≡ length xs + 1
length-push [] x = grind arith
length-push (y ∷ xs) x = omega (arith, length-push xs x)

channels-read : (transaction : Option Transaction) (m v : ℕ → ℕ → ℕ) (u : ℕ) (ms : List ToMemory) (bs : List MemoryBlock)
    → MemoryChannels transaction m v (Read u ∷ ms) bs
    → MemoryChannels transaction m v ms (bs ++ record { tag = u; words = m u } ∷ [])
channels-read transaction m v u ms bs c = record {
  count = omega (arith, c.count, length-push bs (record { tag = u; words = m u }));
  to = c.to.2;
  back = BlocksFor-append (transaction_tag transaction) (v (transaction_tag transaction)) bs _ c.back c.to.0
      (λ k. ap (λ (t : ℕ). m t k) c.to.0 ∙ c.to.1 k);
}

module _ (p : Phase) (part : GroupState) (good : Good p part) where
  values-with : (ms : List ToMemory) → part.memout ≡ ms
      → Values p part.transaction part.entries part.words (latest part.history) (effective part.memory ms)
  values-with ms e = subst
      (λ (ms : List ToMemory). Values p part.transaction part.entries part.words (latest part.history) (effective part.memory ms))
      e good.values

  channels-with : (ms : List ToMemory) → part.memout ≡ ms
      → MemoryChannels part.transaction part.memory (latest part.history) ms part.memin
  channels-with ms e =
      subst (λ (ms : List ToMemory). MemoryChannels part.transaction part.memory (latest part.history) ms part.memin) e good.channels

  pub read_comes : (u : ℕ) (rest : List ToMemory) → part.memout ≡ Read u ∷ rest
      → Good p (record part { memout = rest; memin = part.memin ++ record { tag = u; words = part.memory u } ∷ [] })
  read_comes u rest e =
      still-good part.memory rest _ part.history good (values-with (Read u ∷ rest) e)
      (channels-read part.transaction part.memory (latest part.history) u rest part.memin (channels-with (Read u ∷ rest) e)) good.answers

  -- Effective memory is memory with the channel's writes done, so it is the same before and after the first of them is done, and so is
  -- what each Read behind it finds. No entry and no Read or Block is touched.
  pub write_comes : (u : ℕ) (ws : ℕ → ℕ) (rest : List ToMemory) → part.memout ≡ Write u ws ∷ rest
      → Good p (record part { memout = rest; memory = write_block part.memory u ws })
  write_comes u ws rest e =
      let c = channels-with (Write u ws ∷ rest) e in
      still-good (write_block part.memory u ws) rest part.memin part.history good (values-with (Write u ws ∷ rest) e)
      (record { count = c.count; to = c.to; back = c.back }) good.answers

  -- As for a Write: effective memory and what the Reads behind find have counted the word as written already, and nothing else of the
  -- group changes.
  pub write_word_comes : (u j : ℕ) (change : ℕ → ℕ) (rest : List ToMemory) → part.memout ≡ WriteWord u j change ∷ rest
      → Good p (record part { memout = rest; memory = write_word part.memory u j change })
  write_word_comes u j change rest e =
      let c = channels-with (WriteWord u j change ∷ rest) e in
      still-good (write_word part.memory u j change) rest part.memin part.history good (values-with (WriteWord u j change ∷ rest) e)
      (record { count = c.count; to = c.to; back = c.back }) good.answers
