-- Command: the head of a cache's command channel, by its kind.
use Rattle.std.proofs.Common.{◌≡◌, ℕ, ltb, eqb, Bool, true, false, cond, refl, subst, List, [], ◌∷◌, Option, Some, None}
use Rattle.std.specs.List.{filter_map}
use Rattle.bk_base.specs.Places.{Shape, block_start, group_of, tag_at}
use Rattle.bk_base.specs.Tables.{put}
use Rattle.bk_base.specs.declared.coh.Coh.{Coh}
use Rattle.bk_isa.specs.declared.form.Form.{Form}
use Rattle.bk_msg.specs.declared.row.Row.{Row}
use Rattle.bk_msg.specs.declared.row.Row.TheVariants as rows
use Rattle.bk_msg.specs.declared.row.Network.TheVariants as networks
use Rattle.bk_lce.specs.CacheState.{found, line_at}
use Rattle.bk_lce.specs.CacheTable as table
use Rattle.bk_system.specs.declared.event.Event.TheVariants as events
use Rattle.bk_system.specs.State.{State}
use Rattle.bk_system.specs.Events.{first, command_of, command_taken, without_command}
use Rattle.bk_machine.specs.Messages.{ToCache}
use Rattle.bk_machine.specs.Transactions.{Transaction}
use Rattle.bk_machine.specs.Products.{as_command}
use Rattle.bk_machine.specs.Steps.{FlushComes, TransferComes}
use Rattle.bk_machine.specs.CacheSteps.{at_way, step_of_command}
use Rattle.bk_machine.specs.Runs as machine
use Rattle.bk_bridge.specs.Worlds.{world_of}
use Rattle.bk_bridge.specs.Formed.{AreOf, IsOf, WellFormed}
use Rattle.bk_bridge.specs.Steps.{IsStep}
use Rattle.bk_bridge.proofs.Places.{sets_pos}
use Rattle.bk_bridge.proofs.Agrees.{Agrees, behind, left_of, IsSame, same, found-find}
use Rattle.bk_bridge.proofs.Channels.{left}
use Rattle.bk_bridge.proofs.CommandRows.{inv_row, flush_row, transfer_row}
use Rattle.bk_bridge.proofs.CommandOps.{block_comes, wake_comes, word_comes, store_comes, evict_comes}

-- a head that is taken leaves the rest of the channel
popped : (k : Shape) (s : State) (x : Option (ℕ × Transaction)) (c : ℕ) (m : Row) (ms : List Row) → s.command c ≡ m ∷ ms
    → (world_of k (without_command s c) x).command ≡ put (world_of k s x).command c (filter_map (as_command k) ms)
popped k s x c m ms e = left (as_command k) s.command c m ms e

-- StWb and StTr, by the way that holds the block
flush_at : (k : Shape) (s : State) (x : Option (ℕ × Transaction)) (c addr : ℕ) (state : Coh) (rest : List (ℕ × ToCache))
    (o : Option ℕ)
    → (world_of k (without_command s c) x).command ≡ put (world_of k s x).command c rest
    → Agrees (left_of k x (without_command s c) c) (world_of k s x) (table.flush_row k (s.caches c) c addr state o)
    (at_way o (λ v. Some (group_of k addr, FlushComes c v (tag_at k addr) state rest)) None)
flush_at k s x c addr state rest None e = tt
flush_at k s x c addr state rest (Some v) e = flush_row k (without_command s c) x c addr v state (world_of k s x).command rest e

transfer_other : (k : Shape) (s : State) (x : Option (ℕ × Transaction)) (c addr : ℕ) (state : Coh) (peer peer_way : ℕ)
    (peer_state : Coh)
    (rest : List (ℕ × ToCache)) (w : ℕ) (b : Bool)
    → (world_of k (without_command s c) x).command ≡ put (world_of k s x).command c rest
    → Agrees (left_of k x (without_command s c) c) (world_of k s x)
    (cond b None (Some (table.answer_row (table.with_line_state k (s.caches c) addr w state)
    (rows.Fill c peer peer_way peer_state (block_start addr) (line_at k (s.caches c) addr w).words))))
    (cond b None (Some (group_of k addr, TransferComes c w (tag_at k addr) state peer peer_way peer_state rest)))
transfer_other k s x c addr state peer peer_way peer_state rest w true e = tt
transfer_other k s x c addr state peer peer_way peer_state rest w false e =
    transfer_row k (without_command s c) x c addr w state peer peer_way peer_state (world_of k s x).command rest e

transfer_at : (k : Shape) (s : State) (x : Option (ℕ × Transaction)) (c addr : ℕ) (state : Coh) (peer peer_way : ℕ)
    (peer_state : Coh)
    (rest : List (ℕ × ToCache)) (o : Option ℕ)
    → (world_of k (without_command s c) x).command ≡ put (world_of k s x).command c rest
    → Agrees (left_of k x (without_command s c) c) (world_of k s x)
    (table.transfer_row k (s.caches c) c addr state peer peer_way peer_state o)
    (at_way o (λ v. cond (eqb peer c) None (Some (
      group_of k addr,
      TransferComes c v (tag_at k addr) state peer peer_way peer_state rest,
    ))) None)
transfer_at k s x c addr state peer peer_way peer_state rest None e = tt
transfer_at k s x c addr state peer peer_way peer_state rest (Some v) e =
    transfer_other k s x c addr state peer peer_way peer_state rest v (eqb peer c) e

-- by the head
head : (k : Shape) (s : State) (x : Option (ℕ × Transaction)) (c : ℕ) (m : Row) (ms : List Row) → WellFormed k s
    → s.command c ≡ m ∷ ms
    → IsOf networks.Command m
    → Agrees (left_of k x (without_command s c) c) (world_of k s x) (table.command k (s.caches c) c m)
    (step_of_command k.ways (world_of k s x) c (filter_map (as_command k) (m ∷ ms)))
head k s x c (rows.Inv from to addr) ms f e h =
    inv_row k (without_command s c) x c addr (world_of k s x).command (filter_map (as_command k) ms) (popped k s x c _ ms e)
head k s x c (rows.StWb from to state addr) ms f e h =
    subst (λ (o : Option ℕ). Agrees (left_of k x (without_command s c) c) (world_of k s x)
    (table.flush_row k (s.caches c) c addr state (found k (s.caches c) addr))
    (at_way o (λ v. Some (group_of k addr, FlushComes c v (tag_at k addr) state (filter_map (as_command k) ms))) None))
    (found-find k s x c addr)
    (flush_at k s x c addr state (filter_map (as_command k) ms) (found k (s.caches c) addr) (popped k s x c _ ms e))
head k s x c (rows.StTr from to state peer peer_way peer_state addr) ms f e h =
    subst (λ (o : Option ℕ). Agrees (left_of k x (without_command s c) c) (world_of k s x)
    (table.transfer_row k (s.caches c) c addr state peer peer_way peer_state (found k (s.caches c) addr))
    (at_way o (λ v. cond (eqb peer c) None (Some
    (group_of k addr, TransferComes c v (tag_at k addr) state peer peer_way peer_state (filter_map (as_command k) ms)))) None))
    (found-find k s x c addr)
    (transfer_at k s x c addr state peer peer_way peer_state (filter_map (as_command k) ms) (found k (s.caches c) addr)
    (popped k s x c _ ms e))
head k s x c (rows.Blk from to way state addr words) ms f e h =
    block_comes k (without_command s c) x c (world_of k s x).command (filter_map (as_command k) ms) (sets_pos k f.profile)
    (popped k s x c _ ms e)
    (f.lines c) way addr state words (s.caches c).busy h.whole.block
head k s x c (rows.StWake from to way state addr) ms f e h =
    wake_comes k (without_command s c) x c (world_of k s x).command (filter_map (as_command k) ms) (sets_pos k f.profile)
    (popped k s x c _ ms e)
    (f.lines c) way addr (s.caches c).busy
head k s x c (rows.UcBlk from to addr word) ms f e h =
    word_comes k (without_command s c) x c (world_of k s x).command (filter_map (as_command k) ms) (sets_pos k f.profile)
    (popped k s x c _ ms e)
    (f.lines c) addr word (s.caches c).busy h.whole.address (f.busy c)
head k s x c (rows.UcDone from to addr) ms f e h =
    store_comes k (without_command s c) x c (world_of k s x).command (filter_map (as_command k) ms) (sets_pos k f.profile)
    (popped k s x c _ ms e)
    (f.lines c) addr (s.caches c).busy h.whole.address (f.busy c)
head k s x c (rows.Done from to addr) ms f e h =
    evict_comes k (without_command s c) x c (world_of k s x).command (filter_map (as_command k) ms) (sets_pos k f.profile)
    (popped k s x c _ ms e)
    (f.lines c) addr (s.caches c).busy
head k s x c m ms f e h = absurd (cc h.is)

channel : (k : Shape) (s : State) (x : Option (ℕ × Transaction)) (c : ℕ) (ms : List Row) → WellFormed k s → s.command c ≡ ms
    → AreOf networks.Command ms
    → Agrees (left_of k x (without_command s c) c) (world_of k s x) (command_of k s c (first ms))
    (step_of_command k.ways (world_of k s x) c (filter_map (as_command k) ms))
channel k s x c [] f e h = tt
channel k s x c (m ∷ ms) f e h = head k s x c m ms f e h.0

pub command_step : (k : Shape) (program : List Form) (s : State) (x : Option (ℕ × Transaction)) (c : ℕ) → WellFormed k s
    → IsStep k program s x (events.Command c) (machine.Command c)
command_step k program s x c f = record { enabled = both.enabled; left = both.left }
  where
    both : IsSame k x s (without_command s c) c (command_taken k s c) (machine.step_of k (world_of k s x) (machine.Command c))
    both = same k x s (without_command s c) c _ _ (behind _ _ (ltb c k.caches) _ _ (channel k s x c (s.command c) f refl (f.command c)))
