-- What an instruction sends is whole: addresses are those of words, and a block has eight words.
use Rattle.std.proofs.Common.{◌≡◌, ℕ, zero, suc, Bool, List, [], ◌∷◌, ◌++◌, length, Option, Some, None, IfSome, ◌==◌, mod-lt}
use Rattle.bk_base.specs.Places.{Shape, InProfile, IsAddr, group_of}
use Rattle.bk_base.specs.Counting.{join_below}
use Rattle.bk_base.specs.declared.coh.Coh.{Coh}
use Rattle.bk_isa.specs.declared.form.Form.{Form}
use Rattle.bk_isa.specs.declared.form.Form.TheVariants.{Inv, Stwb, Blk, Wake, Tr, Ucblk, Ucdone, Done, Memrd, Memwb, Memww}
use Rattle.bk_msg.specs.declared.row.Row.{Row}
use Rattle.bk_dir.specs.declared.entry.Summary.{Summary}
use Rattle.bk_dir.specs.Contents.{Contents}
use Rattle.bk_engine.specs.declared.parts.Held.{Held}
use Rattle.bk_engine.specs.declared.parts.DirtyBlock.{DirtyBlock}
use Rattle.bk_engine.specs.Engine.{EngineState}
use Rattle.bk_engine.specs.Reads.{summary_for}
use Rattle.bk_engine.specs.Sends.{is_invalidated, inv_to, invs, flush_to, victim_address, flushes, transfer_to, grants, answers_word, writes_back, sends_for, sends_held, sends}
use Rattle.bk_bridge.specs.Formed.{IsWhole, WellFormedEngine}
use Rattle.bk_bridge.proofs.Places.{sets_pos, start_IsAddr}
use Rattle.bk_bridge.proofs.Formed.{cond-all}
use Rattle.bk_bridge.proofs.Tags.{in_IsAddr}

abbrev pub AreWhole : List Row → Type 0
AreWhole [] = Unit {0}
AreWhole (m ∷ ms) = IsWhole m × AreWhole ms

both : (ms ns : List Row) → AreWhole ms → AreWhole ns → AreWhole (ms ++ ns)
both [] ns h i = i
both (m ∷ ms) ns h i = (h.0, both ms ns h.1 i)

joined : (n : ℕ) (f : ℕ → List Row) → ((c : ℕ) → AreWhole (f c)) → AreWhole (join_below n f)
joined zero f h = tt
joined (suc n) f h = both (join_below n f) (f n) (joined n f h) (h n)

invs-whole : (k : Shape) (held : Held) (with_owner : Bool) (summary : Summary) → IsAddr held.addr
    → AreWhole (invs k held with_owner summary)
invs-whole k held with_owner summary a =
    joined k.caches (inv_to held with_owner summary)
    (λ c. cond-all AreWhole (is_invalidated with_owner summary c) _ [] (record { address = start_IsAddr held.addr a; block = tt }, tt) tt)

flush_to-whole : (at : Option (ℕ × ℕ)) (state : Coh) (addr : ℕ) → IsAddr addr → AreWhole (flush_to at state addr)
flush_to-whole None state addr a = tt
flush_to-whole (Some at) state addr a = (record { address = start_IsAddr addr a; block = tt }, tt)

flushes-whole : (k : Shape) (d : Contents) (held : Held) (who : ℕ) (state : Coh) → IsAddr held.addr → IsAddr (victim_address k d held)
    → AreWhole (flushes k d held who state)
flushes-whole k d held who state a v =
    cond-all AreWhole (who == 0) _ _ (record { address = start_IsAddr held.addr a; block = tt }, tt)
    (cond-all AreWhole (who == 1) _ _ (flush_to-whole (summary_for k d held).owner state held.addr a)
    (record { address = start_IsAddr (victim_address k d held) v; block = tt }, tt))

transfer_to-whole : (held : Held) (at : Option (ℕ × ℕ)) (owner_state state : Coh) → IsAddr held.addr
    → AreWhole (transfer_to held at owner_state state)
transfer_to-whole held None owner_state state a = tt
transfer_to-whole held (Some at) owner_state state a = (record { address = start_IsAddr held.addr a; block = tt }, tt)

grants-whole : (held : Held) (state : Coh) (got : Option (List ℕ)) → IsAddr held.addr → IfSome got (λ words. length words ≡ 8)
    → AreWhole (grants held state got)
grants-whole held state None a e = tt
grants-whole held state (Some words) a e = (record { address = start_IsAddr held.addr a; block = e }, tt)

word-whole : (held : Held) (got : Option (List ℕ)) → IsAddr held.addr → AreWhole (answers_word held got)
word-whole held None a = tt
word-whole held (Some words) a = (record { address = a; block = tt }, tt)

back-whole : (kept : Option DirtyBlock) → IfSome kept (λ d. IsAddr d.addr × (length d.words ≡ 8)) → AreWhole (writes_back kept)
back-whole None h = tt
back-whole (Some kept) h = (record { address = start_IsAddr kept.addr h.0; block = h.1 }, tt)

for-whole : (k : Shape) (engine : EngineState) (held : Held) (f : Form) → InProfile k → WellFormedEngine k engine → IsAddr held.addr
    → AreWhole (sends_for k engine held f)
for-whole k engine held (Inv a') p h a = invs-whole k held (a' == 1) (summary_for k engine.directory held) a
for-whole k engine held (Stwb who state) p h a =
    flushes-whole k engine.directory held who state a
    (in_IsAddr k (group_of k held.addr) _ p (mod-lt _ (sets_pos k p)) (h.entries held.source (group_of k held.addr) held.way))
for-whole k engine held (Tr owner_state state) p h a =
    transfer_to-whole held (summary_for k engine.directory held).owner owner_state state a
for-whole k engine held (Blk state) p h a = grants-whole held state engine.core.got a h.got
for-whole k engine held Wake p h a = (record { address = start_IsAddr held.addr a; block = tt }, tt)
for-whole k engine held Ucblk p h a = word-whole held engine.core.got a
for-whole k engine held Ucdone p h a = (record { address = a; block = tt }, tt)
for-whole k engine held Done p h a = (record { address = start_IsAddr held.addr a; block = tt }, tt)
for-whole k engine held Memrd p h a = (record { address = start_IsAddr held.addr a; block = tt }, tt)
for-whole k engine held Memww p h a = (record { address = a; block = tt }, tt)
for-whole k engine held f p h a = tt

held-whole : (k : Shape) (engine : EngineState) (held : Option Held) (f : Form) → InProfile k → WellFormedEngine k engine
    → IfSome held (λ y. IsAddr y.addr)
    → AreWhole (sends_held k engine held f)
held-whole k engine None f p h a = tt
held-whole k engine (Some held) f p h a = for-whole k engine held f p h a

pub sends-whole : (k : Shape) (engine : EngineState) (f : Form) → InProfile k → WellFormedEngine k engine
    → AreWhole (sends k engine f)
sends-whole k engine Memwb p h = back-whole engine.core.dirty h.dirty
sends-whole k engine f p h = held-whole k engine engine.core.held f p h h.held
