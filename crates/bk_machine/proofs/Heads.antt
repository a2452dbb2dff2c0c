-- What the head of a channel says of the phase.
use Rattle.std.proofs.Common.{◌≡◌, ℕ, arith, List, [], ◌∷◌}
use Rattle.std.specs.Prelude.{Option, Some}
use Rattle.std.proofs.lemmas.Bool.Decides.{nat_tests}
use Rattle.bk_base.specs.declared.coh.Coh.{Coh}
use Rattle.bk_machine.specs.Messages.{ToCache, Blk, StWake, UcBlk, UcDone, EvictDone, FillMessage, Response, InvAck, CohAck}
use Rattle.bk_machine.specs.Transactions.{InProgress}
use Rattle.bk_machine.specs.Phases.{Flush, Ack, InvAcked, ByBlock, ByWake, ByFill, ByWord, ByDone, Phase, Open, Flying, Settling, commands_of, fills_of, responses_of, flush_response}
use Rattle.bk_machine.specs.Invariant.{Taker}

pub blk_head : (p : Phase) (busy : ℕ → Option InProgress) (c t w : ℕ) (state : Coh) (ws : ℕ
    → ℕ) (rest : List ToCache) (b : InProgress)
    → commands_of p c ≡ Blk t w state ws ∷ rest → Taker p busy → busy c ≡ Some b → (p ≡ Flying c b (ByBlock state ws))
    × (rest ≡ [])
blk_head p busy c t w state ws rest b e k l = grind (arith, nat_tests)

pub wake_head : (p : Phase) (busy : ℕ → Option InProgress) (c t w : ℕ) (rest : List ToCache) (b : InProgress)
    → commands_of p c ≡ StWake t w ∷ rest → Taker p busy → busy c ≡ Some b → (p ≡ Flying c b ByWake) × (rest ≡ [])
wake_head p busy c t w rest b e k l = grind (arith, nat_tests)

pub word_head : (p : Phase) (busy : ℕ → Option InProgress) (c t j n : ℕ) (rest : List ToCache) (b : InProgress)
    → commands_of p c ≡ UcBlk t j n ∷ rest → Taker p busy → busy c ≡ Some b → (p ≡ Flying c b (ByWord n)) × (rest ≡ [])
word_head p busy c t j n rest b e k' l = grind (arith, nat_tests)

pub uc_done_head : (p : Phase) (busy : ℕ → Option InProgress) (c t j : ℕ) (rest : List ToCache) (b : InProgress)
    → commands_of p c ≡ UcDone t j ∷ rest → Taker p busy → busy c ≡ Some b → (p ≡ Flying c b ByDone) × (rest ≡ [])
uc_done_head p busy c t j rest b e k' l = grind (arith, nat_tests)

pub done_head : (p : Phase) (busy : ℕ → Option InProgress) (c t : ℕ) (rest : List ToCache) (b : InProgress)
    → commands_of p c ≡ EvictDone t ∷ rest → Taker p busy → busy c ≡ Some b → (p ≡ Flying c b ByDone) × (rest ≡ [])
done_head p busy c t rest b e k l = grind (arith, nat_tests)

pub fill_head : (p : Phase) (busy : ℕ → Option InProgress) (c o : ℕ) (m : FillMessage) (rest : List FillMessage) (b : InProgress)
    → fills_of p c o ≡ m ∷ rest → Taker p busy → busy c ≡ Some b → (p ≡ Flying c b (ByFill o m.state m.words))
    × (rest ≡ [])
fill_head p busy c o m rest b e k l = grind (arith, nat_tests)

-- of an open transaction or a settling one: the response's head

pub ack_head : (p : Phase) (c t : ℕ) (rest : List Response) → responses_of p c ≡ InvAck t ∷ rest
    → (r : ℕ) (b : InProgress) (fl : Flush) (inv : ℕ → Ack) → p ≡ Open r b fl inv → (inv c ≡ InvAcked)
    × (flush_response fl c ≡ [])
    × (rest ≡ [])
ack_head p c t rest e r b fl inv is = grind (arith, nat_tests)

pub settle_head : (p : Phase) (c t : ℕ) (rest : List Response) → responses_of p c ≡ CohAck t ∷ rest
    → (p ≡ Settling c t) × (rest ≡ [])
settle_head p c t rest e = grind (arith, nat_tests)
