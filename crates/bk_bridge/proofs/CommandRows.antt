-- The rows of Command and Fill. `p` is the state whose channel has lost its head; for the machine the channel's messages were C.
use Rattle.std.proofs.Common.{◌≡◌, ℕ, cond, refl, sym, ap, ◌∙◌, Bool, true, false, List, Option, Some, None}
use Rattle.std.specs.List.{filter_map}
use Rattle.bk_base.specs.Places.{Shape, block_start, group_of, tag_at}
use Rattle.bk_base.specs.Tables.{put}
use Rattle.bk_base.specs.States.{is_dirty}
use Rattle.bk_base.specs.declared.op.Op.{Op as Operation}
use Rattle.bk_base.specs.declared.coh.Coh.{Coh}
use Rattle.bk_msg.specs.declared.row.Row.{Row}
use Rattle.bk_msg.specs.declared.row.Row.TheVariants as rows
use Rattle.bk_msg.specs.declared.row.TheConstants.{ENGINE}
use Rattle.bk_msg.specs.declared.row.Network.TheVariants as networks
use Rattle.bk_msg.specs.Networks.{network_of}
use Rattle.bk_lce.specs.declared.line.Line.{Line}
use Rattle.bk_lce.specs.CacheState.{line_at}
use Rattle.bk_lce.specs.CacheTable as table
use Rattle.bk_system.specs.State.{State}
use Rattle.bk_system.specs.Events.{with_taken}
use Rattle.bk_machine.specs.Messages.{Op, op_tag, ToCache, InvAck, CohAck, Wb, NullWb, answer_of}
use Rattle.bk_machine.specs.Transactions.{Transaction}
use Rattle.bk_machine.specs.Products.{words_of, op_of, as_request, as_fill, as_response, completed_of}
use Rattle.bk_machine.specs.Steps.{step_after, InvComes, FlushComes, TransferComes, with_completion, with_filled_entry, with_way_first}
use Rattle.bk_bridge.specs.Worlds.{world_of, entry_of}
use Rattle.bk_bridge.proofs.Places.{group-start, tag-start}
use Rattle.bk_bridge.proofs.Tables.{put-same, put-of, put-put2}
use Rattle.bk_bridge.proofs.Caches.{seen_entries, seen_words, seen_recency, seen_busy, table-kept, table-written, table-wiped, pair-kept, pair-written, line-of, line-same, wiped-of, wiped-words, used-recency}
use Rattle.bk_bridge.proofs.Channels.{pushed, pushed-to, unlisted, listed}
use Rattle.bk_bridge.proofs.Sent.{response-no_request, response-to, response-no_fill}
use Rattle.bk_bridge.proofs.Same.{world}

-- Inv: each line that holds the block becomes I, and InvAck is sent
pub inv_row : (k : Shape) (s : State) (x : Option (ℕ × Transaction)) (c addr : ℕ) (C : ℕ
    → List (ℕ × ToCache)) (rest : List (ℕ × ToCache))
    → (world_of k s x).command ≡ put C c rest
    → world_of k (with_taken s c
    (table.answer_row (table.with_invalid_block k (s.caches c) addr) (rows.InvAck c ENGINE (block_start addr)))).state x
    ≡ step_after (group_of k addr) (InvComes c (tag_at k addr) rest) (record (world_of k s x) { command = C })
inv_row k s x c addr C rest e = world (record {
  entries = table-wiped s.caches c (group_of k addr) (tag_at k addr) _ (wiped-of (s.caches c).lines (group_of k addr) (tag_at k addr));
  words = table-kept seen_words s.caches c _ (wiped-words (s.caches c).lines (group_of k addr) (tag_at k addr));
  directory = refl;
  recency = pair-kept seen_recency s.caches c _ refl;
  busy = put-same (seen_busy k) s.caches c _ refl;
  pending = refl;
  memory = refl;
  request = refl;
  command = e;
  fill = refl;
  response = pushed-to (as_response k) s.response c _ _ (λ i. Some (group-start k addr i, InvAck (tag-start k addr i)));
  memout = refl;
  memin = refl;
  transaction = refl;
  history = unlisted (completed_of k) s.history;
  taken_count = refl;
  settled_count = refl;
})

-- what a cache answers to StWb
flush-said : (k : Shape) (c addr : ℕ) (words : List ℕ) (b : Bool)
    → as_response k (cond b (rows.Wb c ENGINE (block_start addr) words) (rows.NullWb c ENGINE (block_start addr)))
    ≡ Some (group_of k addr, answer_of (tag_at k addr) (cond b (Some (words_of words)) None))
flush-said k c addr words true = λ i. Some (group-start k addr i, Wb (tag-start k addr i) (words_of words))
flush-said k c addr words false = λ i. Some (group-start k addr i, NullWb (tag-start k addr i))

flush-network : (c addr : ℕ) (words : List ℕ) (b : Bool)
    → network_of (cond b (rows.Wb c ENGINE (block_start addr) words) (rows.NullWb c ENGINE (block_start addr))) ≡ networks.Response
flush-network c addr words true = refl
flush-network c addr words false = refl

-- the acknowledgement and the entry of the history, of an operation o
said-ack : (k : Shape) (c addr : ℕ) (o : Op) → op_tag o ≡ tag_at k addr
    → as_response k (rows.CohAck c ENGINE (block_start addr)) ≡ Some (group_of k addr, CohAck (op_tag o))
said-ack k c addr o t = λ i. Some (group-start k addr i, CohAck ((tag-start k addr ∙ sym t) i))

said-done : (k : Shape) (c : ℕ) (op : Operation) (g : ℕ) (o : Op) (answer : ℕ) → op_of k op ≡ (g, o)
    → completed_of k (record { cache = c; op = op; answer = answer }) ≡ (g, record { cache = c; op = o; answer = answer })
said-done k c op g o answer e = ap (λ (q : ℕ × Op). (q.0, record { cache = c; op = q.1; answer = answer })) e

-- StWb: the copy takes the state, and Wb or NullWb is sent
pub flush_row : (k : Shape) (s : State) (x : Option (ℕ × Transaction)) (c addr w : ℕ) (state : Coh) (C : ℕ → List (ℕ × ToCache))
    (rest : List (ℕ × ToCache))
    → (world_of k s x).command ≡ put C c rest
    → world_of k (with_taken s c (table.answer_row (table.with_line_state k (s.caches c) addr w state)
    (table.flush_answer c addr (line_at k (s.caches c) addr w)))).state x
    ≡ step_after (group_of k addr) (FlushComes c w (tag_at k addr) state rest) (record (world_of k s x) { command = C })
flush_row k s x c addr w state C rest e = world (record {
  entries = table-written seen_entries s.caches c _ (group_of k addr) w _ (line-of entry_of (s.caches c).lines (group_of k addr) w _);
  words = table-kept seen_words s.caches c _ (line-same (λ (l : Line). words_of l.words) (s.caches c).lines (group_of k addr) w _ refl);
  directory = refl;
  recency = pair-kept seen_recency s.caches c _ refl;
  busy = put-same (seen_busy k) s.caches c _ refl;
  pending = refl;
  memory = refl;
  request = ap (λ (h : ℕ → List Row). λ i. filter_map (as_request k) (h i)) (response-no_request c m s.request network);
  command = e;
  fill = ap (λ (h : ℕ → ℕ → List Row). λ to from. filter_map (as_fill k) (h to from)) (response-no_fill c m s.fill network);
  response = ap (λ (h : ℕ → List Row). λ i. filter_map (as_response k) (h i)) (response-to c m s.response network)
      ∙ pushed-to (as_response k) s.response c m _ (flush-said k c addr line.words (is_dirty line.state));
  memout = refl;
  memin = refl;
  transaction = refl;
  history = unlisted (completed_of k) s.history;
  taken_count = refl;
  settled_count = refl;
})
  where
    line : Line
    line = line_at k (s.caches c) addr w

    m : Row
    m = table.flush_answer c addr line

    network : network_of m ≡ networks.Response
    network = flush-network c addr line.words (is_dirty line.state)

-- StTr: the copy takes the state, and its words are sent to the peer
pub transfer_row : (k : Shape) (s : State) (x : Option (ℕ × Transaction)) (c addr w : ℕ) (state : Coh) (peer peer_way : ℕ)
    (peer_state : Coh)
    (C : ℕ → List (ℕ × ToCache)) (rest : List (ℕ × ToCache)) → (world_of k s x).command ≡ put C c rest
    → world_of k (with_taken s c (table.answer_row (table.with_line_state k (s.caches c) addr w state)
    (rows.Fill c peer peer_way peer_state (block_start addr) (line_at k (s.caches c) addr w).words))).state x
    ≡ step_after (group_of k addr) (TransferComes c w (tag_at k addr) state peer peer_way peer_state rest)
    (record (world_of k s x) { command = C })
transfer_row k s x c addr w state peer peer_way peer_state C rest e = world (record {
  entries = table-written seen_entries s.caches c _ (group_of k addr) w _ (line-of entry_of (s.caches c).lines (group_of k addr) w _);
  words = table-kept seen_words s.caches c _ (line-same (λ (l : Line). words_of l.words) (s.caches c).lines (group_of k addr) w _ refl);
  directory = refl;
  recency = pair-kept seen_recency s.caches c _ refl;
  busy = put-same (seen_busy k) s.caches c _ refl;
  pending = refl;
  memory = refl;
  request = refl;
  command = e;
  fill = put-put2 (filter_map (as_fill k)) s.fill peer c _ _
      (pushed (as_fill k) (s.fill peer c) _ _ (λ i. Some (
        group-start k addr i,
        record {
          tag = tag-start k addr i;
          way = peer_way;
          state = peer_state;
          words = words_of
              (line_at k (s.caches c) addr w).words;
        },
      )));
  response = refl;
  memout = refl;
  memin = refl;
  transaction = refl;
  history = unlisted (completed_of k) s.history;
  taken_count = refl;
  settled_count = refl;
})

-- An operation completes: the cache is idle, CohAck is sent and the history has its answer. `old` is the cache's state but for that.
pub completes_row : (k : Shape) (s : State) (x : Option (ℕ × Transaction)) (c : ℕ) (op : Operation) (addr : ℕ) (o : Op)
    (answer way : ℕ)
    → op_of k op ≡ (group_of k addr, o) → op_tag o ≡ tag_at k addr
    → world_of k (with_taken s c (table.completion_row (s.caches c) c op addr answer way)).state x
    ≡ with_completion (group_of k addr) c o answer
    (world_of k s x)
completes_row k s x c op addr o answer way e t = world (record {
  entries = table-kept seen_entries s.caches c _ (λ g w. refl);
  words = table-kept seen_words s.caches c _ (λ g w. refl);
  directory = refl;
  recency = pair-kept seen_recency s.caches c _ refl;
  busy = put-of (seen_busy k) s.caches c _ _ refl;
  pending = refl;
  memory = refl;
  request = refl;
  command = refl;
  fill = refl;
  response = pushed-to (as_response k) s.response c _ _ (said-ack k c addr o t);
  memout = refl;
  memin = refl;
  transaction = refl;
  history = listed (completed_of k) s.history _ _ (said-done k c op (group_of k addr) o answer e);
  taken_count = refl;
  settled_count = refl;
})

-- A line is written and used, and an operation completes.
pub fills_row : (k : Shape) (s : State) (x : Option (ℕ × Transaction)) (c : ℕ) (op : Operation) (addr : ℕ) (o : Op) (answer w : ℕ)
    (line : Line)
    (ws : ℕ → ℕ)
    → op_of k op ≡ (group_of k addr, o) → op_tag o ≡ tag_at k addr → words_of line.words ≡ ws
    → world_of k (with_taken s c (table.filled_row k (s.caches c) c op addr answer w line)).state x
    ≡ with_completion (group_of k addr) c o answer (with_filled_entry (group_of k addr) c w line.tag line.state ws
    (with_way_first (group_of k addr) c w (world_of k s x)))
fills_row k s x c op addr o answer w line ws e t f = world (record {
  entries = table-written seen_entries s.caches c _ (group_of k addr) w _ (line-of entry_of (s.caches c).lines (group_of k addr) w line);
  words =
      table-written seen_words s.caches c _ (group_of k addr) w _
      (line-of (λ (l : Line). words_of l.words) (s.caches c).lines (group_of k addr) w line)
      ∙ ap (λ (ws : ℕ → ℕ). (with_filled_entry (group_of k addr) c w line.tag line.state ws (world_of k s x)).words) f;
  directory = refl;
  recency = pair-written seen_recency s.caches c _ (group_of k addr) _ (used-recency (s.caches c) (group_of k addr) w);
  busy = put-of (seen_busy k) s.caches c _ _ refl;
  pending = refl;
  memory = refl;
  request = refl;
  command = refl;
  fill = refl;
  response = pushed-to (as_response k) s.response c _ _ (said-ack k c addr o t);
  memout = refl;
  memin = refl;
  transaction = refl;
  history = listed (completed_of k) s.history _ _ (said-done k c op (group_of k addr) o answer e);
  taken_count = refl;
  settled_count = refl;
})
