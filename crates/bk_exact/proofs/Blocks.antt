-- The block that the engine keeps and the words that memory has sent, where they agree with the transaction.
use Rattle.std.proofs.Common.{◌≡◌, ℕ, refl, subst, ap, sym, List, Option, Some, None}
use Rattle.bk_base.specs.Places.{Shape, group_of, tag_at}
use Rattle.bk_engine.specs.declared.parts.DirtyBlock.{DirtyBlock}
use Rattle.bk_machine.specs.Messages.{MemoryBlock}
use Rattle.bk_machine.specs.Products.{words_of}
use Rattle.bk_machine.specs.Transactions.{WriteBack, Idle, FlushAsked, FlushKept, Reading, NotRead, ReadAsked, Got}
use Rattle.bk_exact.specs.Agrees.{KeptAlike, GotAlike}

-- a block that the transaction keeps is the engine's
pub record KeptFound (k : Shape) (g : ℕ) (o : Option DirtyBlock) (q : MemoryBlock) : Type 0 where
  pub block : DirtyBlock
  pub is : o ≡ Some block
  pub group : group_of k block.addr ≡ g
  pub same : q ≡ record { tag = tag_at k block.addr; words = words_of block.words }

pub kept-found : (k : Shape) (g : ℕ) (o : Option DirtyBlock) (b : WriteBack) (q : MemoryBlock) → KeptAlike k g o b → b ≡ FlushKept q
    → KeptFound k g o q
kept-found k g o b q a e = go o (subst (KeptAlike k g o) e a)
  where
    go : (o : Option DirtyBlock) → KeptAlike k g o (FlushKept q) → KeptFound k g o q
    go None a = absurd a
    go (Some d) a = record { block = d; is = refl; group = a.0; same = a.1 }

-- and so are words that it has got
pub record GotFound (o : Option (List ℕ)) (r : Reading) : Type 0 where
  pub words : List ℕ
  pub is : o ≡ Some words
  pub same : r ≡ Got (words_of words)

pub got-found : (o : Option (List ℕ)) (r : Reading) (ws : ℕ → ℕ) → GotAlike o r → r ≡ Got ws → GotFound o r
got-found o r ws a e = subst (GotFound o) (sym e) (go o (subst (GotAlike o) e a))
  where
    go : (o : Option (List ℕ)) → GotAlike o (Got ws) → GotFound o (Got ws)
    go None a = absurd a
    go (Some words) a = record { words = words; is = refl; same = ap Got a }

-- nothing is kept where no flush is under way, or one is asked
pub idle-none : (k : Shape) (g : ℕ) (o : Option DirtyBlock) (b : WriteBack) → b ≡ Idle → KeptAlike k g o b → o ≡ None
idle-none k g None b e a = refl
idle-none k g (Some d) b e a = absurd (subst (KeptAlike k g (Some d)) e a)

pub asked-none : (k : Shape) (g : ℕ) (o : Option DirtyBlock) (b : WriteBack) → b ≡ FlushAsked → KeptAlike k g o b → o ≡ None
asked-none k g None b e a = refl
asked-none k g (Some d) b e a = absurd (subst (KeptAlike k g (Some d)) e a)

-- where no block is kept, none is once a flush is asked, or is over
pub none-asked : (k : Shape) (g : ℕ) (o : Option DirtyBlock) → o ≡ None → KeptAlike k g o FlushAsked
none-asked k g o e = subst (λ (p : Option DirtyBlock). KeptAlike k g p FlushAsked) (sym e) tt

pub none-idle : (k : Shape) (g : ℕ) (o : Option DirtyBlock) → o ≡ None → KeptAlike k g o Idle
none-idle k g o e = subst (λ (p : Option DirtyBlock). KeptAlike k g p Idle) (sym e) tt

-- nor are words got where memory was not read
pub none-got : (o : Option (List ℕ)) (r : Reading) → r ≡ NotRead → GotAlike o r → GotAlike o ReadAsked
none-got None r e a = tt
none-got (Some ws) r e a = absurd (subst (GotAlike (Some ws)) e a)
