-- What the engine sends goes on the command network or on memout.
use Rattle.std.proofs.Common.{ℕ, zero, suc, Bool, true, false, ◌==◌, if◌then◌else◌, List, [], ◌∷◌, ◌++◌, Option, Some, None}
use Rattle.bk_base.specs.Places.{Shape}
use Rattle.bk_base.specs.Counting.{join_below}
use Rattle.bk_base.specs.declared.coh.Coh.{Coh}
use Rattle.bk_isa.specs.declared.form.Form.{Form}
use Rattle.bk_isa.specs.declared.form.Form.TheVariants.{Inv, Stwb, Blk, Wake, Tr, Ucblk, Ucdone, Done, Memrd, Memwb, Memww}
use Rattle.bk_isa.specs.declared.operand.TheConstants.{WHOSE_OWN, WHOSE_OWNER, WITH_OWNER}
use Rattle.bk_msg.specs.declared.row.Row.{Row}
use Rattle.bk_msg.specs.declared.row.Network.{Network}
use Rattle.bk_msg.specs.declared.row.Network.TheVariants as networks
use Rattle.bk_msg.specs.Networks.{network_of}
use Rattle.bk_dir.specs.declared.entry.Summary.{Summary}
use Rattle.bk_dir.specs.Contents.{Contents}
use Rattle.bk_engine.specs.declared.parts.Choice.{Choice}
use Rattle.bk_engine.specs.declared.parts.Held.{Held}
use Rattle.bk_engine.specs.declared.parts.DirtyBlock.{DirtyBlock}
use Rattle.bk_engine.specs.Engine.{EngineState}
use Rattle.bk_engine.specs.Reads.{summary_for}
use Rattle.bk_engine.specs.Sends.{is_invalidated, inv_to, flush_to, flushes, transfer_to, grants, answers_word, writes_back, sends_for, sends_held, sends}
use Rattle.bk_engine.specs.Step.{ran_at}

-- the engine sends on these two
abbrev pub IsEngines : Network → Type 0
IsEngines networks.Request = ⊥
IsEngines networks.Command = Unit {0}
IsEngines networks.Fill = ⊥
IsEngines networks.Response = ⊥
IsEngines networks.Memout = Unit {0}
IsEngines networks.Memin = ⊥

abbrev pub AreEngines : List Row → Type 0
AreEngines [] = Unit {0}
AreEngines (m ∷ ms) = IsEngines (network_of m) × AreEngines ms

joined : (xs ys : List Row) → AreEngines xs → AreEngines ys → AreEngines (xs ++ ys)
joined [] ys p q = q
joined (m ∷ xs) ys p q = (p.0, joined xs ys p.1 q)

either : (b : Bool) (xs ys : List Row) → AreEngines xs → AreEngines ys → AreEngines (if b then xs else ys)
either true xs ys p q = p
either false xs ys p q = q

invs-outward : (held : Held) (with_owner : Bool) (summary : Summary) (n : ℕ)
    → AreEngines (join_below n (inv_to held with_owner summary))
invs-outward held with_owner summary zero = tt
invs-outward held with_owner summary (suc n) =
    joined (join_below n (inv_to held with_owner summary)) (inv_to held with_owner summary n)
    (invs-outward held with_owner summary n) (either (is_invalidated with_owner summary n) _ [] (tt, tt) tt)

flush-outward : (o : Option (ℕ × ℕ)) (state : Coh) (addr : ℕ) → AreEngines (flush_to o state addr)
flush-outward None state addr = tt
flush-outward (Some at) state addr = (tt, tt)

flushes-outward : (k : Shape) (d : Contents) (held : Held) (who : ℕ) (state : Coh) → AreEngines (flushes k d held who state)
flushes-outward k d held who state =
    either (who == WHOSE_OWN) _ _ (tt, tt)
    (either (who == WHOSE_OWNER) _ _ (flush-outward (summary_for k d held).owner state held.addr) (tt, tt))

transfer-outward : (held : Held) (o : Option (ℕ × ℕ)) (y state : Coh) → AreEngines (transfer_to held o y state)
transfer-outward held None y state = tt
transfer-outward held (Some at) y state = (tt, tt)

grants-outward : (held : Held) (state : Coh) (got : Option (List ℕ)) → AreEngines (grants held state got)
grants-outward held state None = tt
grants-outward held state (Some words) = (tt, tt)

word-outward : (held : Held) (got : Option (List ℕ)) → AreEngines (answers_word held got)
word-outward held None = tt
word-outward held (Some words) = (tt, tt)

back-outward : (dirty : Option DirtyBlock) → AreEngines (writes_back dirty)
back-outward None = tt
back-outward (Some kept) = (tt, tt)

for-outward : (k : Shape) (engine : EngineState) (held : Held) (f : Form) → AreEngines (sends_for k engine held f)
for-outward k engine held (Inv a) = invs-outward held (a == WITH_OWNER) (summary_for k engine.directory held) k.caches
for-outward k engine held (Stwb who state) = flushes-outward k engine.directory held who state
for-outward k engine held (Tr y state) = transfer-outward held (summary_for k engine.directory held).owner y state
for-outward k engine held (Blk state) = grants-outward held state engine.core.got
for-outward k engine held Wake = (tt, tt)
for-outward k engine held Ucblk = word-outward held engine.core.got
for-outward k engine held Ucdone = (tt, tt)
for-outward k engine held Done = (tt, tt)
for-outward k engine held Memrd = (tt, tt)
for-outward k engine held Memww = (tt, tt)
for-outward k engine held f = tt

held-outward : (k : Shape) (engine : EngineState) (o : Option Held) (f : Form) → AreEngines (sends_held k engine o f)
held-outward k engine None f = tt
held-outward k engine (Some held) f = for-outward k engine held f

sends-outward : (k : Shape) (engine : EngineState) (f : Form) → AreEngines (sends k engine f)
sends-outward k engine Memwb = back-outward engine.core.dirty
sends-outward k engine f = held-outward k engine engine.core.held f

pub ran-outward : (k : Shape) (engine : EngineState) (o : Option Form) (choice : Choice) (message : Option Row)
    → AreEngines (ran_at k engine o choice message).sent
ran-outward k engine None choice message = tt
ran-outward k engine (Some f) choice message = sends-outward k engine f
