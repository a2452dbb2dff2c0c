-- What an instruction sends and pops is no more than its form needs.
use Rattle.std.proofs.Common.{◌≡◌, ℕ, zero, suc, ◌+◌, ◌≤◌, List, [], ◌∷◌, ◌++◌, Bool, Option, Some, None, subst, arith}
use Rattle.std.specs.Prelude.{◌==◌, if◌then◌else◌, slice_get}
use Rattle.std.proofs.lemmas.Bool.{cond_both}
use Rattle.bk_base.specs.Places.{Shape, block_start}
use Rattle.bk_base.specs.Counting.{join_below}
use Rattle.bk_base.specs.declared.coh.Coh.{Coh}
use Rattle.bk_base.specs.declared.config.TheConstants.{MOST_CACHES}
use Rattle.bk_isa.specs.declared.form.Form.{Form}
use Rattle.bk_isa.specs.declared.form.Form.TheVariants.{Popq, Inv, Stwb, Blk, Wake, Tr, Ucblk, Ucdone, Done, Memrd, Memwb, Memww}
use Rattle.bk_msg.specs.declared.row.Row.{Row}
use Rattle.bk_msg.specs.declared.row.Row.TheVariants as rows
use Rattle.bk_msg.specs.declared.row.TheConstants.{ENGINE}
use Rattle.bk_dir.specs.declared.entry.Summary.{Summary}
use Rattle.bk_dir.specs.Contents.{Contents}
use Rattle.bk_engine.specs.declared.parts.Choice.{Choice}
use Rattle.bk_engine.specs.declared.parts.Head.{Head}
use Rattle.bk_engine.specs.declared.parts.Held.{Held}
use Rattle.bk_engine.specs.declared.parts.DirtyBlock.{DirtyBlock}
use Rattle.bk_engine.specs.Engine.{EngineState}
use Rattle.bk_engine.specs.Reads.{summary_for}
use Rattle.bk_engine.specs.Sends.{is_invalidated, inv_to, invs, flush_to, victim_address, flushes, transfer_to, grants, answers_word, writes_back, sends_for, sends_held, sends}
use Rattle.bk_engine.specs.Step.{Outcome, choice_of, pops, ran_at, runs_to}
use Rattle.bk_system.specs.declared.needs.Need.{Need}
use Rattle.bk_system.specs.declared.needs.Need.TheVariants as needs
use Rattle.bk_system.specs.Needs.{need_of, need_at, most_commands, most_to_memory, most_origins, command_count, memory_count, origin_count}

-- A list of messages is no more than a need.
record Fits (need : Need) (ms : List Row) : Type 0 where
  pub commands : command_count ms ≤ most_commands need
  pub memory : memory_count ms ≤ most_to_memory need

-- So is what an instruction sends, and the head that it pops.
pub record IsWithinNeed (need : Need) (sent : List Row) (popped : Option Choice) : Type 0 where
  pub commands : command_count sent ≤ most_commands need
  pub memory : memory_count sent ≤ most_to_memory need
  pub origins : origin_count popped ≤ most_origins need

none : (need : Need) → Fits need []
none need = record { commands = omega arith; memory = omega arith }

command-both : (xs ys : List Row) → command_count (xs ++ ys) ≡ command_count xs + command_count ys
command-both [] ys = omega arith
command-both (m ∷ xs) ys = let h : command_count (xs ++ ys) ≡ command_count xs + command_count ys = command-both xs ys in omega arith

memory-both : (xs ys : List Row) → memory_count (xs ++ ys) ≡ memory_count xs + memory_count ys
memory-both [] ys = omega arith
memory-both (m ∷ xs) ys = let h : memory_count (xs ++ ys) ≡ memory_count xs + memory_count ys = memory-both xs ys in omega arith

one-inv : (held : Held) (with_owner : Bool) (summary : Summary) (c : ℕ)
    → (command_count (inv_to held with_owner summary c) ≤ 1) × (memory_count (inv_to held with_owner summary c) ≤ 0)
one-inv held with_owner summary c =
    cond_both (is_invalidated with_owner summary c) (rows.Inv ENGINE c (block_start held.addr) ∷ []) []
    (λ (ms : List Row). (command_count ms ≤ 1) × (memory_count ms ≤ 0)) (λ e. (omega arith, omega arith))
    (λ e. (omega arith, omega arith))

invs-below : (held : Held) (with_owner : Bool) (summary : Summary) (n : ℕ)
    → (command_count (join_below n (inv_to held with_owner summary)) ≤ n)
    × (memory_count (join_below n (inv_to held with_owner summary)) ≤ 0)
invs-below held with_owner summary zero = (omega arith, omega arith)
invs-below held with_owner summary (suc n) =
    let one = one-inv held with_owner summary n in
    let more = invs-below held with_owner summary n in
    let xs : List Row = join_below n (inv_to held with_owner summary) in
    let ys : List Row = inv_to held with_owner summary n in
    let commands : command_count (xs ++ ys) ≡ command_count xs + command_count ys = command-both xs ys in
    let memory : memory_count (xs ++ ys) ≡ memory_count xs + memory_count ys = memory-both xs ys in
    (omega (arith, one.0, more.0), omega (arith, one.1, more.1))

invs-fit : (k : Shape) (held : Held) (with_owner : Bool) (summary : Summary) → k.caches ≤ MOST_CACHES
    → Fits needs.Invalidations (invs k held with_owner summary)
invs-fit k held with_owner summary l =
    let below = invs-below held with_owner summary k.caches in
    record { commands = omega (arith, below.0); memory = omega (arith, below.1) }

flush_to-fits : (at : Option (ℕ × ℕ)) (state : Coh) (addr : ℕ) → Fits needs.Command (flush_to at state addr)
flush_to-fits None state addr = none needs.Command
flush_to-fits (Some at) state addr = record { commands = omega arith; memory = omega arith }

flushes-fit : (k : Shape) (d : Contents) (held : Held) (who : ℕ) (state : Coh) → Fits needs.Command (flushes k d held who state)
flushes-fit k d held who state =
    let own : List Row = rows.StWb ENGINE held.source state (block_start held.addr) ∷ [] in
    let owners : List Row = flush_to (summary_for k d held).owner state held.addr in
    let victim : List Row = rows.StWb ENGINE held.source state (block_start (victim_address k d held)) ∷ [] in
    cond_both (who == 0) own (if who == 1 then owners else victim) (Fits needs.Command)
    (λ e. record { commands = omega arith; memory = omega arith })
    (λ e. cond_both (who == 1) owners victim (Fits needs.Command) (λ i. flush_to-fits (summary_for k d held).owner state held.addr)
    (λ i. record { commands = omega arith; memory = omega arith }))

transfer_to-fits : (held : Held) (at : Option (ℕ × ℕ)) (owner_state state : Coh)
    → Fits needs.Command (transfer_to held at owner_state state)
transfer_to-fits held None owner_state state = none needs.Command
transfer_to-fits held (Some at) owner_state state = record { commands = omega arith; memory = omega arith }

grants-fit : (held : Held) (state : Coh) (got : Option (List ℕ)) → Fits needs.Command (grants held state got)
grants-fit held state None = none needs.Command
grants-fit held state (Some words) = record { commands = omega arith; memory = omega arith }

word-fits : (held : Held) (got : Option (List ℕ)) → Fits needs.Command (answers_word held got)
word-fits held None = none needs.Command
word-fits held (Some words) = record { commands = omega arith; memory = omega arith }

back-fits : (dirty : Option DirtyBlock) → Fits needs.Memory (writes_back dirty)
back-fits None = none needs.Memory
back-fits (Some kept) = record { commands = omega arith; memory = omega arith }

for-fits : (k : Shape) (engine : EngineState) (held : Held) (f : Form) → k.caches ≤ MOST_CACHES
    → Fits (need_of f) (sends_for k engine held f)
for-fits k engine held (Inv a) l = invs-fit k held (a == 1) (summary_for k engine.directory held) l
for-fits k engine held (Stwb who state) l = flushes-fit k engine.directory held who state
for-fits k engine held (Tr a b) l = transfer_to-fits held (summary_for k engine.directory held).owner a b
for-fits k engine held (Blk state) l = grants-fit held state engine.core.got
for-fits k engine held Wake l = record { commands = omega arith; memory = omega arith }
for-fits k engine held Ucblk l = word-fits held engine.core.got
for-fits k engine held Ucdone l = record { commands = omega arith; memory = omega arith }
for-fits k engine held Done l = record { commands = omega arith; memory = omega arith }
for-fits k engine held Memrd l = record { commands = omega arith; memory = omega arith }
for-fits k engine held Memww l = record { commands = omega arith; memory = omega arith }
for-fits k engine held f l = none (need_of f)

held-fits : (k : Shape) (engine : EngineState) (o : Option Held) (f : Form) → k.caches ≤ MOST_CACHES
    → Fits (need_of f) (sends_held k engine o f)
held-fits k engine None f l = none (need_of f)
held-fits k engine (Some held) f l = for-fits k engine held f l

sends-fit : (k : Shape) (engine : EngineState) (f : Form) → k.caches ≤ MOST_CACHES → Fits (need_of f) (sends k engine f)
sends-fit k engine Memwb l = back-fits engine.core.dirty
sends-fit k engine f l = held-fits k engine engine.core.held f l

choice-le : (o : Option Head) → origin_count (choice_of o) ≤ 1
choice-le None = omega arith
choice-le (Some head) = omega arith

pops-fit : (engine : EngineState) (f : Form) → origin_count (pops engine f) ≤ most_origins (need_of f)
pops-fit engine (Popq _) = choice-le engine.core.head
pops-fit engine f = omega arith

at-within : (k : Shape) (engine : EngineState) (form : Option Form) (choice : Choice) (m : Option Row) → k.caches ≤ MOST_CACHES
    → IsWithinNeed (need_at form) (ran_at k engine form choice m).sent (ran_at k engine form choice m).popped
at-within k engine None choice m l = record { commands = omega arith; memory = omega arith; origins = omega arith }
at-within k engine (Some f) choice m l =
    let fits = sends-fit k engine f l in
    record { commands = fits.commands; memory = fits.memory; origins = pops-fit engine f }

pub ran-within : (k : Shape) (engine new : EngineState) (program : List Form) (choice : Choice) (m : Option Row) (sent : List Row)
    (popped : Option Choice)
    → k.caches ≤ MOST_CACHES → runs_to k engine program choice m ≡ record { engine = new; sent = sent; popped = popped }
    → IsWithinNeed (need_at (slice_get program engine.core.place)) sent popped
ran-within k engine new program choice m sent popped l e =
    subst (λ (o : Outcome). IsWithinNeed (need_at (slice_get program engine.core.place)) o.sent o.popped) e
    (at-within k engine (slice_get program engine.core.place) choice m l)
