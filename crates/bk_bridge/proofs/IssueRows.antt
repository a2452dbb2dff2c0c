-- The rows of Issue: a hit, a request, and an Evict of a block that isn't there.
use Rattle.std.proofs.Common.{◌≡◌, ℕ, refl, ap, ◌∙◌, List, length, Option, Some, slice_index}
use Rattle.std.specs.List.{filter_map}
use Rattle.bk_base.specs.Places.{Shape, word_of, group_of, tag_at}
use Rattle.bk_base.specs.declared.op.Op.{Op as Operation}
use Rattle.bk_base.specs.declared.op.Op.TheVariants as ops
use Rattle.bk_msg.specs.declared.row.Row.{Row}
use Rattle.bk_msg.specs.declared.row.Network.TheVariants as networks
use Rattle.bk_msg.specs.Networks.{network_of}
use Rattle.bk_lce.specs.CacheState.{line_at, used}
use Rattle.bk_lce.specs.declared.line.Line.{Line}
use Rattle.bk_lce.specs.CacheTable as table
use Rattle.bk_system.specs.State.{State}
use Rattle.bk_system.specs.Events.{with_taken}
use Rattle.bk_machine.specs.Messages.{whole, becomes, request_of}
use Rattle.bk_machine.specs.Transactions.{Transaction}
use Rattle.bk_machine.specs.Products.{words_of, op_of, as_request, as_fill, as_response, completed_of}
use Rattle.bk_machine.specs.Steps.{step_after, Asks, LoadHits, StoreHits, EvictIdles}
use Rattle.bk_bridge.specs.Worlds.{world_of, entry_of}
use Rattle.bk_bridge.proofs.Places.{word-below}
use Rattle.bk_base.specs.Tables.{put}
use Rattle.bk_bridge.proofs.Tables.{put-same, put-of}
use Rattle.bk_bridge.proofs.Caches.{seen_entries, seen_words, seen_recency, seen_busy, table-kept, table-written, pair-kept, pair-written, line-of, word_set, used-recency}
use Rattle.bk_bridge.proofs.Channels.{pushed-to, unlisted, listed}
use Rattle.bk_bridge.proofs.Sent.{request-to, request-no_response, request-no_fill}
use Rattle.bk_bridge.proofs.Same.{world}

-- the operation is in progress, and its request is sent
pub asks_row : (k : Shape) (s : State) (x : Option (ℕ × Transaction)) (c : ℕ) (op : Operation) (way : ℕ) (m : Row)
    → network_of m ≡ networks.Request
    → as_request k m ≡ Some ((op_of k op).0, request_of (op_of k op).1 way)
    → world_of k (with_taken s c (table.request_row (s.caches c) op way m)).state x
    ≡ step_after (op_of k op).0 (Asks c way (op_of k op).1)
    (world_of k s x)
asks_row k s x c op way m e f = world (record {
  entries = table-kept seen_entries s.caches c _ (λ g w. refl);
  words = table-kept seen_words s.caches c _ (λ g w. refl);
  directory = refl;
  recency = pair-kept seen_recency s.caches c _ refl;
  busy = put-of (seen_busy k) s.caches c _ _ refl;
  pending = refl;
  memory = refl;
  request = ap (λ (h : ℕ → List Row). λ i. filter_map (as_request k) (h i)) (request-to c m s.request e)
      ∙ pushed-to (as_request k) s.request c m _ f;
  command = refl;
  fill = ap (λ (h : ℕ → ℕ → List Row). λ to from. filter_map (as_fill k) (h to from)) (request-no_fill c m s.fill e);
  response = ap (λ (h : ℕ → List Row). λ i. filter_map (as_response k) (h i)) (request-no_response c m s.response e);
  memout = refl;
  memin = refl;
  transaction = refl;
  history = unlisted (completed_of k) s.history;
  taken_count = refl;
  settled_count = refl;
})

-- a Load of a copy: its way is the most recently used, and the answer is the copy's word
pub load_hits_row : (k : Shape) (s : State) (x : Option (ℕ × Transaction)) (c addr v : ℕ)
    → world_of k (with_taken s c (table.hit_row (used (s.caches c) (group_of k addr) v) c (ops.Load addr)
    (slice_index (line_at k (s.caches c) addr v).words (word_of addr)) v)).state x
    ≡ step_after (group_of k addr) (LoadHits c (tag_at k addr) v (whole (word_of addr))) (world_of k s x)
load_hits_row k s x c addr v = world (record {
  entries = table-kept seen_entries s.caches c _ (λ g w. refl);
  words = table-kept seen_words s.caches c _ (λ g w. refl);
  directory = refl;
  recency = pair-written seen_recency s.caches c _ (group_of k addr) _ (used-recency (s.caches c) (group_of k addr) v);
  busy = put-same (seen_busy k) s.caches c _ refl;
  pending = refl;
  memory = refl;
  request = refl;
  command = refl;
  fill = refl;
  response = refl;
  memout = refl;
  memin = refl;
  transaction = refl;
  history = listed (completed_of k) s.history _ _ refl;
  taken_count = refl;
  settled_count = refl;
})

-- a Store into a copy in E or M: its word is written, and it is in M
pub store_hits_row : (k : Shape) (s : State) (x : Option (ℕ × Transaction)) (c addr value v : ℕ)
    → length ((s.caches c).lines (group_of k addr) v).words ≡ 8
    → world_of k (with_taken s c (table.store_hit k (s.caches c) c addr value v)).state x
    ≡ step_after (group_of k addr) (StoreHits c (tag_at k addr) v (word_of addr) (becomes value)) (world_of k s x)
store_hits_row k s x c addr value v e = world (record {
  entries = table-written seen_entries s.caches c _ (group_of k addr) v _ (line-of entry_of (s.caches c).lines (group_of k addr) v _);
  words = table-written seen_words s.caches c _ (group_of k addr) v _ (λ g w.
      line-of (λ (l : Line). words_of l.words) (s.caches c).lines (group_of k addr) v _ g w
      ∙ ap (λ (ws : ℕ → ℕ). put {X = ℕ → ℕ → ℕ} (λ g w. words_of ((s.caches c).lines g w).words) (group_of k addr)
      (put {X = ℕ → ℕ} (λ w. words_of ((s.caches c).lines (group_of k addr) w).words) v ws) g w)
      (word_set _ (word_of addr) value e (word-below addr)));
  directory = refl;
  recency = pair-written seen_recency s.caches c _ (group_of k addr) _ (used-recency (s.caches c) (group_of k addr) v);
  busy = put-same (seen_busy k) s.caches c _ refl;
  pending = refl;
  memory = refl;
  request = refl;
  command = refl;
  fill = refl;
  response = refl;
  memout = refl;
  memin = refl;
  transaction = refl;
  history = listed (completed_of k) s.history _ _ refl;
  taken_count = refl;
  settled_count = refl;
})

-- an Evict of a block that isn't there is done at once
pub evict_idles_row : (k : Shape) (s : State) (x : Option (ℕ × Transaction)) (c addr : ℕ)
    → world_of k (with_taken s c (table.hit_row (s.caches c) c (ops.Evict addr) 0 0)).state x ≡ step_after (group_of k addr)
    (EvictIdles c (tag_at k addr)) (world_of k s x)
evict_idles_row k s x c addr = world (record {
  entries = table-kept seen_entries s.caches c _ (λ g w. refl);
  words = table-kept seen_words s.caches c _ (λ g w. refl);
  directory = refl;
  recency = pair-kept seen_recency s.caches c _ refl;
  busy = put-same (seen_busy k) s.caches c _ refl;
  pending = refl;
  memory = refl;
  request = refl;
  command = refl;
  fill = refl;
  response = refl;
  memout = refl;
  memin = refl;
  transaction = refl;
  history = listed (completed_of k) s.history _ _ refl;
  taken_count = refl;
  settled_count = refl;
})
