-- `wfq`: a head that comes is one that may come.
use Rattle.std.proofs.Common.{◌≡◌, ℕ, ◌<◌, ◌-◌, ◌==◌, ◌&&◌, Bool, true, false, refl, sym, ap, ◌∙◌, subst, arith, length, Option, Some, None}
use Rattle.std.specs.Prelude.{nat_lt, is_none, bit_or, if◌then◌else◌}
use Rattle.std.proofs.lemmas.Bool.{and_parts, and_from, eqb-true}
use Rattle.bk_base.specs.Places.{Shape, group_of}
use Rattle.bk_isa.specs.declared.form.Form.TheVariants.{Wfq}
use Rattle.bk_know.specs.declared.sets.Sets.{Sets}
use Rattle.bk_know.specs.Sets.{only, subset}
use Rattle.bk_flow.specs.Flow.{may, when, heads, wait}
use Rattle.bk_isa.specs.declared.operand.TheConstants.{CLASS_RESPONSES, CLASS_MEMORY, CLASS_REQUESTS}
use Rattle.bk_know.specs.declared.values.TheConstants.{HEAD_REQUEST, HEAD_INV_ACK, HEAD_COH_ACK, HEAD_WB, HEAD_NULL_WB, HEAD_BLOCK, HEAD_WB_NULL_WB, GP_FREE, GP_ANY, ACKS_SOME, WB_ASKED, MEM_ASKED, MEM_WRITTEN}
use Rattle.bk_order.specs.Fits.{Fits, is_closing}
use Rattle.bk_order.proofs.Belows.{part_itself}
use Rattle.bk_order.proofs.Filled.{Filled}
use Rattle.bk_order.proofs.Leading.{leads}
use Rattle.bk_order.proofs.Subsets.{itself}
use Rattle.bk_msg.specs.declared.row.Row.{Row}
use Rattle.bk_msg.specs.declared.row.Row.TheVariants as rows
use Rattle.bk_msg.specs.declared.row.Network.{Network}
use Rattle.bk_msg.specs.declared.row.Network.TheVariants as networks
use Rattle.bk_msg.specs.Networks.{network_of, address_of}
use Rattle.bk_engine.specs.declared.parts.Choice.{Choice}
use Rattle.bk_engine.specs.declared.parts.Core.{Core}
use Rattle.bk_engine.specs.declared.parts.Head.{Head}
use Rattle.bk_engine.specs.declared.stop.Stop.TheVariants.{Waits}
use Rattle.bk_engine.specs.Changes.{after_wait}
use Rattle.bk_engine.specs.Heads.{head_value, head_number, names_class, has_value}
use Rattle.bk_engine.specs.Reads.{number_of, gp_value}
use Rattle.bk_engine.specs.Stops.{wait_stop, form_stop}
use Rattle.bk_system.specs.State.{State}
use Rattle.bk_system.specs.Events.{offered_head}
use Rattle.bk_machine.specs.Transactions.{WriteBack, FlushAsked, Reading, NotRead, ReadAsked, Transaction}
use Rattle.bk_exact.specs.Told.{Told}
use Rattle.bk_exact.specs.Exact.{exact, gp_of, wb_of, mem_of, write_back_value, reading_value}
use Rattle.bk_exact.specs.Ties.{Tied}
use Rattle.bk_exact.proofs.Fronts.{by-class, ack-of, wb-of, null_wb-of, block-of}
use Rattle.bk_exact.proofs.Parts.{clash, is-above, some-times}
use Rattle.bk_exact.proofs.Serving.{served}
use Rattle.bk_exact.proofs.Somes.{exact-filled}
use Rattle.bk_flows.proofs.Masks.{after_mask, Goal, beside, idle-mask}
use Rattle.bk_flows.proofs.Small.{below-eight}

-- THE CLASSES that a `wfq` names

-- by their bits: responses, memory, requests
class-resp : (a : ℕ) → a < 8 → has_value a 0 ≡ true → may a CLASS_RESPONSES ≡ true
class-resp =
    below-eight (λ a. has_value a 0 ≡ true → may a CLASS_RESPONSES ≡ true)
    (λ e. absurd (cc)) (λ e. refl) (λ e. absurd (cc)) (λ e. refl) (λ e. absurd (cc)) (λ e. refl) (λ e. absurd (cc)) (λ e. refl)

class-mem : (a : ℕ) → a < 8 → has_value a 1 ≡ true → may a CLASS_MEMORY ≡ true
class-mem =
    below-eight (λ a. has_value a 1 ≡ true → may a CLASS_MEMORY ≡ true)
    (λ e. absurd (cc)) (λ e. absurd (cc)) (λ e. refl) (λ e. refl) (λ e. absurd (cc)) (λ e. absurd (cc)) (λ e. refl) (λ e. refl)

class-req : (a : ℕ) → a < 8 → has_value a 2 ≡ true → may a CLASS_REQUESTS ≡ true
class-req =
    below-eight (λ a. has_value a 2 ≡ true → may a CLASS_REQUESTS ≡ true)
    (λ e. absurd (cc)) (λ e. absurd (cc)) (λ e. absurd (cc)) (λ e. absurd (cc)) (λ e. refl) (λ e. refl) (λ e. refl) (λ e. refl)

named : (a c d : ℕ) → (c == d) ≡ true → names_class a c ≡ true → has_value a (d - 1) ≡ true
named a c d i e = subst (λ (n : ℕ). has_value a (n - 1) ≡ true) (eqb-true c d i) (and_parts _ _ e).1

-- THE HEADS that may come, by five tests

abbrev any_heads : Bool → Bool → Bool → Bool → Bool → ℕ
any_heads b1 b2 b3 b4 b5 =
    let all = bit_or (when b1 HEAD_REQUEST) (when b2 HEAD_COH_ACK) in
    let all = bit_or all (when b3 HEAD_INV_ACK) in
    let all = bit_or all (when b4 HEAD_WB_NULL_WB) in
    bit_or all (when b5 HEAD_BLOCK)

head-request : (b1 b2 b3 b4 b5 : Bool) → b1 ≡ true → subset HEAD_REQUEST (any_heads b1 b2 b3 b4 b5) ≡ true
head-request b1 b2 b3 b4 b5 e = grind arith

head-coh_ack : (b1 b2 b3 b4 b5 : Bool) → b2 ≡ true → subset HEAD_COH_ACK (any_heads b1 b2 b3 b4 b5) ≡ true
head-coh_ack b1 b2 b3 b4 b5 e = grind arith

head-inv_ack : (b1 b2 b3 b4 b5 : Bool) → b3 ≡ true → subset HEAD_INV_ACK (any_heads b1 b2 b3 b4 b5) ≡ true
head-inv_ack b1 b2 b3 b4 b5 e = grind arith

head-wb : (b1 b2 b3 b4 b5 : Bool) → b4 ≡ true → subset HEAD_WB (any_heads b1 b2 b3 b4 b5) ≡ true
head-wb b1 b2 b3 b4 b5 e = grind arith

head-null_wb : (b1 b2 b3 b4 b5 : Bool) → b4 ≡ true → subset HEAD_NULL_WB (any_heads b1 b2 b3 b4 b5) ≡ true
head-null_wb b1 b2 b3 b4 b5 e = grind arith

head-block : (b1 b2 b3 b4 b5 : Bool) → b5 ≡ true → subset HEAD_BLOCK (any_heads b1 b2 b3 b4 b5) ≡ true
head-block b1 b2 b3 b4 b5 e = grind arith

-- WHAT IS AWAITED

-- a Wb or NullWb comes where a flush is asked, a Block where a read is
asked-wb : (x : Option (ℕ × Transaction)) (g : ℕ) (other : Transaction) → x ≡ Some (g, other) → other.write_back ≡ FlushAsked
    → may (wb_of x) WB_ASKED ≡ true
asked-wb x g other e f =
    subst (λ (o : Option (ℕ × Transaction)). may (wb_of o) WB_ASKED ≡ true) (sym e)
    (ap (λ (b : WriteBack). may (write_back_value b) WB_ASKED) f)

asked-mem : (x : Option (ℕ × Transaction)) (group : ℕ) (other : Transaction) → x ≡ Some (group, other)
    → other.reading ≡ ReadAsked
    → (other.written ≡ true → other.reading ≡ NotRead)
    → may (mem_of x) MEM_ASKED ≡ true
asked-mem x group other e f g =
    subst (λ (o : Option (ℕ × Transaction)). may (mem_of o) MEM_ASKED ≡ true) (sym e) (lem other.written other.reading f g)
  where
    lem : (b : Bool) (r : Reading) → r ≡ ReadAsked → (b ≡ true → r ≡ NotRead)
        → may (if b then MEM_WRITTEN else reading_value r) MEM_ASKED ≡ true
    lem b r e f = grind arith

-- two masks that differ in head and gp
fits-heads : (sets : Sets) (a b g h : ℕ) → Filled sets → subset a b ≡ true → subset g h ≡ true
    → Fits (record sets { head = a; gp = g }) (record sets { head = b; gp = h })
fits-heads sets a b g h some e f =
    let owner = part_itself (is_closing sets) sets.owner some.owner in
    let others = part_itself (is_closing sets) sets.others some.others in
    let victim = part_itself (is_closing sets) sets.victim some.victim in
    search itself

module _ (k : Shape) (later : State) (told : Told) (tied : Tied k later told) (choice : Choice) (a : ℕ) (l : a < 8) where
  abbrev s : Sets
  s = exact k later.engine told

  abbrev e : Core
  e = later.engine.core

  abbrev resp : Bool
  resp = may a CLASS_RESPONSES

  abbrev mem : Bool
  mem = may a CLASS_MEMORY

  abbrev req : Bool
  req = may a CLASS_REQUESTS

  abbrev is_named : Bool
  is_named = names_class a choice.class

  -- a message that is offered is of a class that is named
  abbrev Named : Network → Type 0
  Named networks.Response = resp ≡ true
  Named networks.Memin = mem ≡ true
  Named networks.Request = req ≡ true
  Named network = Unit {0}

  names-it : (m : Row) → offered_head later choice ≡ Some m → is_named ≡ true → Named (network_of m)
  names-it m f c =
      by-class k later choice m (Named (network_of m)) tied.formed f
      (λ q x z. subst Named (sym z) (class-resp a l (named a choice.class 1 q c)))
      (λ q x z. subst Named (sym z) (class-mem a l (named a choice.class 2 q c)))
      (λ q x z. subst Named (sym z) (class-req a l (named a choice.class 3 q c)))

  -- and is a head that may come
  heads-say : (m : Row) → offered_head later choice ≡ Some m → is_named ≡ true
      → subset (only (head_number m)) (heads a s) ≡ true
  heads-say (rows.Rd from to u addr) f c = head-request req resp _ _ _ (names-it (rows.Rd from to u addr) f c)
  heads-say (rows.Wr from to u addr) f c = head-request req resp _ _ _ (names-it (rows.Wr from to u addr) f c)
  heads-say (rows.UcRd from to addr) f c = head-request req resp _ _ _ (names-it (rows.UcRd from to addr) f c)
  heads-say (rows.UcWr from to addr word) f c = head-request req resp _ _ _ (names-it (rows.UcWr from to addr word) f c)
  heads-say (rows.Evict from to u addr) f c = head-request req resp _ _ _ (names-it (rows.Evict from to u addr) f c)
  heads-say (rows.InvAck from to addr) f c =
      let y = ack-of k later told tied choice from to addr f in
      let sv = (served k e e.held told.transaction (group_of k addr, y.transaction) tied.agrees y.is).2 in
      let some : may (only (number_of (nat_lt 0 e.acks))) ACKS_SOME ≡ true
      = ap (λ (b : Bool). may (only (number_of b)) ACKS_SOME)
      (is-above e.acks (length y.transaction.waiting) sv.acks (some-times choice.source y.transaction.waiting y.so)) in
      head-inv_ack req resp (resp && may s.acks ACKS_SOME) _ _ (and_from _ _ (names-it (rows.InvAck from to addr) f c) some)
  heads-say (rows.CohAck from to addr) f c = head-coh_ack req resp _ _ _ (names-it (rows.CohAck from to addr) f c)
  heads-say (rows.Wb from to addr words) f c =
      let y = wb-of k later told tied choice from to addr words f in
      head-wb req resp (resp && may s.acks ACKS_SOME) (resp && may s.wb WB_ASKED) _
      (and_from _ _ (names-it (rows.Wb from to addr words) f c) (asked-wb told.transaction (group_of k addr) y.transaction y.is y.so))
  heads-say (rows.NullWb from to addr) f c =
      let y = null_wb-of k later told tied choice from to addr f in
      head-null_wb req resp (resp && may s.acks ACKS_SOME) (resp && may s.wb WB_ASKED) _
      (and_from _ _ (names-it (rows.NullWb from to addr) f c) (asked-wb told.transaction (group_of k addr) y.transaction y.is y.so))
  heads-say (rows.Block from to addr words) f c =
      let y = block-of k later told tied choice from to addr words f in
      let sv = (served k e e.held told.transaction (group_of k addr, y.transaction) tied.agrees y.is).2 in
      head-block req resp (resp && may s.acks ACKS_SOME) (resp && may s.wb WB_ASKED) (mem && may s.mem MEM_ASKED)
      (and_from _ _ (names-it (rows.Block from to addr words) f c)
      (asked-mem told.transaction (group_of k addr) y.transaction y.is y.so sv.written))
  heads-say m f c = absurd (by-class k later choice m ⊥ tied.formed f (λ q e z. cc) (λ q e z. cc) (λ q e z. cc))

  -- a request that is the head: its group may be pending or not
  gp-says : (m : Row) → offered_head later choice ≡ Some m → is_named ≡ true
      → subset (gp_of later.engine.directory k (Some (record { choice = choice; message = m })))
      (if req then GP_ANY else GP_FREE) ≡ true
  gp-says m f c = go (head_number m == 1) refl req refl
    where
      any : (b : Bool) → subset (only (number_of b)) GP_ANY ≡ true
      any true = refl
      any false = refl

      asks : (m : Row) → (head_number m == 1) ≡ true → network_of m ≡ networks.Request
      asks m i = grind arith

      go : (b : Bool) → (head_number m == 1) ≡ b → (q : Bool) → req ≡ q
          → subset (if b then only (gp_value k later.engine.directory (Some (record { choice = choice; message = m }))) else GP_FREE)
          (if q then GP_ANY else GP_FREE) ≡ true
      go true i true j = any (later.engine.directory.pending (group_of k (address_of m)))
      go true i false j = clash (subst Named (asks m i) (names-it m f c)) j
      go false i true j = refl
      go false i false j = refl

  abbrev message : Option Row
  message = offered_head later choice

  -- the head that a `wfq` that runs takes up
  taken : (o : Option Head) (r : Option Row) → is_none (wait_stop o a choice r) ≡ true → (q : Row) × (r ≡ Some q)
      × (is_named ≡ true)
  taken (Some h) r e = absurd (cc)
  taken None None e = absurd (cc)
  taken None (Some r) e = (r, refl, lem is_named e)
    where
      lem : (b : Bool) → is_none (if b then None else Some (Waits a)) ≡ true → b ≡ true
      lem true e = refl
      lem false e = absurd (cc)

  pub leads-wfq : is_none (form_stop k later.engine (Wfq a) choice message) ≡ true → Goal k later told choice message (Wfq a)
  leads-wfq runs filled =
      let t = taken e.head message runs in
      let r : Option Head = Some (record { choice = choice; message = t.0 }) in
      let same : after_mask k later told choice message (Wfq a) ≡ record s {
        head = only (head_value r);
        gp = gp_of later.engine.directory k r;
      }
      = idle-mask k later told choice message (Wfq a) refl (λ h y. refl) refl (λ h. refl) (held-same message)
      ∙ (λ z. beside k later told choice message (after_wait e choice (t.1 z)) told.deferred) in
      leads _ _ filled
      (subst (λ (sets : Sets). Fits sets (wait a s)) (sym same)
      (fits-heads s (only (head_value r)) (heads a s) (gp_of later.engine.directory k r)
      (if req then GP_ANY else GP_FREE) (exact-filled k later told tied)
      (heads-say t.0 t.1 t.2) (gp-says t.0 t.1 t.2)))
    where
      held-same : (o : Option Row) → (after_wait e choice o).held ≡ e.held
      held-same None = refl
      held-same (Some r) = refl
