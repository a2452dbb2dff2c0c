-- The message that a choice offers stands first in its channel, in the system and in the machine; and an answer is of the transaction.
use Rattle.std.proofs.Common.{◌≡◌, ℕ, ◌==◌, Bool, true, false, cond, refl, sym, ap, subst, List, [], ◌∷◌, drop, Option, Some, None}
use Rattle.std.specs.List.{filter_map, cons_option}
use Rattle.bk_base.specs.Places.{Shape, group_of, tag_at}
use Rattle.bk_msg.specs.declared.row.Row.{Row}
use Rattle.bk_msg.specs.declared.row.Row.TheVariants as rows
use Rattle.bk_msg.specs.declared.row.Network.{Network}
use Rattle.bk_msg.specs.declared.row.Network.TheVariants as networks
use Rattle.bk_msg.specs.Networks.{network_of}
use Rattle.bk_engine.specs.declared.parts.Choice.{Choice}
use Rattle.bk_system.specs.State.{State}
use Rattle.bk_system.specs.Events.{first, offered_head}
use Rattle.bk_machine.specs.Claims.{Collectable, ServesUngranted}
use Rattle.bk_machine.specs.Entries.{times}
use Rattle.bk_machine.specs.Messages.{Request, Response, InvAck, MemoryBlock, answer_of}
use Rattle.bk_machine.specs.Products.{words_of, as_request, as_response, as_block}
use Rattle.bk_machine.specs.Transactions.{FlushAsked, ReadAsked}
use Rattle.bk_machine.specs.World.{World}
use Rattle.bk_machine.proofs.Collectable.{collectable}
use Rattle.bk_bridge.specs.Formed.{WellFormed, AreOf}
use Rattle.bk_exact.specs.Told.{Told}
use Rattle.bk_exact.specs.Ties.{Tied, told_world}

-- the first message of a channel is of the channel's network
at-front : (network : Network) (ms : List Row) (m : Row) → AreOf network ms → first ms ≡ Some m
    → (ms ≡ m ∷ drop 1 ms) × (network_of m ≡ network)
at-front network [] m a e = absurd (cc)
at-front network (y ∷ ms) m a e = let same : y ≡ m = cc in (
  ap (λ (message : Row). message ∷ ms) same,
  subst (λ (message : Row). network_of message ≡ network) same a.0.is,
)

-- by the class of the choice: 1 a response, 2 memory's, 3 a request
pub by-class : (k : Shape) (s : State) (choice : Choice) (m : Row) (G : Type 0) → WellFormed k s → offered_head s choice ≡ Some m
    → ((choice.class == 1) ≡ true → s.response choice.source ≡ m ∷ drop 1 (s.response choice.source)
    → network_of m ≡ networks.Response → G)
    → ((choice.class == 2) ≡ true → s.memin ≡ m ∷ drop 1 s.memin → network_of m ≡ networks.Memin → G)
    → ((choice.class == 3) ≡ true → s.request choice.source ≡ m ∷ drop 1 (s.request choice.source)
    → network_of m ≡ networks.Request → G) → G
by-class k s choice m G f e response memin request =
    go (choice.class == 1) refl (choice.class == 2) refl (choice.source == 0) (choice.class == 3) refl e
  where
    go : (b1 : Bool) → (choice.class == 1) ≡ b1 → (b2 : Bool) → (choice.class == 2) ≡ b2 → (b0 b3 : Bool)
        → (choice.class == 3) ≡ b3
        → cond b1 (first (s.response choice.source))
        (cond b2 (cond b0 (first s.memin) None) (cond b3 (first (s.request choice.source)) None)) ≡ Some m → G
    go true i b2 j b0 b3 l e = let q = at-front networks.Response (s.response choice.source) m (f.response choice.source) e
        in response i q.0 q.1
    go false i true j true b3 l e = let q = at-front networks.Memin s.memin m f.memin e in memin j q.0 q.1
    go false i true j false b3 l e = absurd (cc)
    go false i false j b0 true l e = let q = at-front networks.Request (s.request choice.source) m (f.request choice.source) e
        in request l q.0 q.1
    go false i false j b0 false l e = absurd (cc)

-- the same in the machine
world-front : {X : Type 0} (h : Row → Option X) (ms : List Row) (m : Row) (y : X) → ms ≡ m ∷ drop 1 ms → h m ≡ Some y
    → filter_map h ms ≡ y ∷ drop 1 (filter_map h ms)
world-front {X} h [] m y e i = absurd (cc)
world-front {X} h (r ∷ ms) m y e i =
    let same : m ≡ r = cc in
    subst (λ (o : Option X). cons_option o (filter_map h ms) ≡ y ∷ drop 1 (cons_option o (filter_map h ms)))
    (sym (subst (λ (q : Row). h q ≡ Some y) same i)) refl

module _ (k : Shape) (s : State) (told : Told) (tied : Tied k s told) (choice : Choice) (m : Row) (f : offered_head s choice
    ≡ Some m) where
  abbrev w : World
  w = told_world k s told

  abbrev c : ℕ
  c = choice.source

  -- by the network of the message
  pub request-front : (y : ℕ × Request) → network_of m ≡ networks.Request → as_request k m ≡ Some y
      → w.request c ≡ y ∷ drop 1 (w.request c)
  request-front y i j =
      by-class k s choice m (w.request c ≡ y ∷ drop 1 (w.request c)) tied.formed f (λ l e z. absurd (cc)) (λ l e z. absurd (cc))
      (λ l e z. world-front (as_request k) (s.request c) m y e j)

  pub response-front : (y : ℕ × Response) → network_of m ≡ networks.Response → as_response k m ≡ Some y
      → w.response c ≡ y ∷ drop 1 (w.response c)
  response-front y i j =
      by-class k s choice m (w.response c ≡ y ∷ drop 1 (w.response c)) tied.formed f
      (λ l e z. world-front (as_response k) (s.response c) m y e j)
      (λ l e z. absurd (cc)) (λ l e z. absurd (cc))

  pub block-front : (y : ℕ × MemoryBlock) → network_of m ≡ networks.Memin → as_block k m ≡ Some y
      → w.memin ≡ y ∷ drop 1 w.memin
  block-front y i j =
      by-class k s choice m (w.memin ≡ y ∷ drop 1 w.memin) tied.formed f (λ l e z. absurd (cc))
      (λ l e z. world-front (as_block k) s.memin m y e j) (λ l e z. absurd (cc))

-- AN ANSWER is of the transaction, which waits for it
module _ (k : Shape) (s : State) (told : Told) (tied : Tied k s told) (choice : Choice) where
  abbrev answers : Collectable (told_world k s told)
  answers = collectable (told_world k s told) tied.invariant.groups

  -- InvAck
  pub ack-of : (from to addr : ℕ) → offered_head s choice ≡ Some (rows.InvAck from to addr)
      → ServesUngranted (told_world k s told) (group_of k addr) (λ x. times choice.source x.waiting ≡ 1)
  ack-of from to addr f = answers.ack (group_of k addr) choice.source (tag_at k addr) _
      (response-front k s told tied choice (rows.InvAck from to addr) f (group_of k addr, InvAck (tag_at k addr)) refl refl)

  -- Wb
  pub wb-of : (from to addr : ℕ) (words : List ℕ) → offered_head s choice ≡ Some (rows.Wb from to addr words)
      → ServesUngranted (told_world k s told) (group_of k addr) (λ x. x.write_back ≡ FlushAsked)
  wb-of from to addr words f = answers.answer (group_of k addr) choice.source (tag_at k addr) (Some (words_of words)) _
      (response-front k s told tied choice (rows.Wb from to addr words) f (
        group_of k addr,
        answer_of (tag_at k addr) (Some (words_of words)),
      ) refl refl)

  -- NullWb
  pub null_wb-of : (from to addr : ℕ) → offered_head s choice ≡ Some (rows.NullWb from to addr)
      → ServesUngranted (told_world k s told) (group_of k addr) (λ x. x.write_back ≡ FlushAsked)
  null_wb-of from to addr f = answers.answer (group_of k addr) choice.source (tag_at k addr) None _
      (response-front k s told tied choice (rows.NullWb from to addr) f (group_of k addr, answer_of (tag_at k addr) None) refl refl)

  -- Block
  pub block-of : (from to addr : ℕ) (words : List ℕ) → offered_head s choice ≡ Some (rows.Block from to addr words)
      → ServesUngranted (told_world k s told) (group_of k addr) (λ x. x.reading ≡ ReadAsked)
  block-of from to addr words f = answers.block (group_of k addr) (record { tag = tag_at k addr; words = words_of words }) _
      (block-front k s told tied choice (rows.Block from to addr words) f
      (group_of k addr, record { tag = tag_at k addr; words = words_of words }) refl refl)
