-- No instruction whose obligations the exact mask meets halts.
use Rattle.std.proofs.Common.{◌≡◌, ◌≢◌, ℕ, zero, suc, ◌<◌, ◌==◌, ◌&&◌, Bool, true, false, refl, sym, ap, ◌∙◌, subst, arith, length, Option, Some, None, IfSome}
use Rattle.std.specs.Prelude.{nat_lt, is_some, is_none, option_map, if◌then◌else◌}
use Rattle.std.proofs.lemmas.Bool.{and_parts}
use Rattle.std.proofs.lemmas.Bool.Decides.{nat_tests}
use Rattle.bk_base.specs.Places.{Shape, group_of}
use Rattle.bk_base.specs.States.{is_readable}
use Rattle.bk_base.specs.declared.coh.Coh.{Coh}
use Rattle.bk_base.specs.declared.coh.Coh.TheVariants as states
use Rattle.bk_isa.specs.declared.form.Form.{Form}
use Rattle.bk_isa.specs.declared.form.Form.TheVariants as forms
use Rattle.bk_isa.specs.Words.{IsInRange}
use Rattle.bk_isa.proofs.Operands.{operands}
use Rattle.bk_know.specs.declared.sets.Sets.{Sets}
use Rattle.bk_know.specs.Sets.{only, subset}
use Rattle.bk_flow.specs.Flow.{lacks}
use Rattle.bk_know.specs.declared.values.TheConstants.{HEAD_REQUEST, STAGE_IDLE, STAGE_HELD, STAGE_HELD_CLOSING, SUMM_SUM, OWNER_NONE, VICTIM_HEAVY, GP_FREE, MEM_GOT}
use Rattle.bk_check.specs.Obligations.{is_summed, may_branch, implies, may_flush, may_pay, sends, single_head}
use Rattle.bk_order.proofs.Meets.{Met, met}
use Rattle.bk_order.proofs.Tests.{implied}
use Rattle.bk_msg.specs.declared.row.Row.{Row}
use Rattle.bk_msg.specs.declared.row.Row.TheVariants as rows
use Rattle.bk_dir.specs.Summaries.{owner, owner_state}
use Rattle.bk_engine.specs.declared.parts.Choice.{Choice}
use Rattle.bk_engine.specs.declared.parts.Core.{Core}
use Rattle.bk_engine.specs.declared.parts.Head.{Head}
use Rattle.bk_engine.specs.declared.parts.Held.{Held}
use Rattle.bk_engine.specs.declared.stop.Halt.{Halt}
use Rattle.bk_engine.specs.declared.stop.Halt.TheVariants as halts
use Rattle.bk_engine.specs.declared.stop.Stop.{Stop}
use Rattle.bk_engine.specs.declared.stop.Stop.TheVariants.{Waits}
use Rattle.bk_engine.specs.Heads.{head_value, head_number, names_class}
use Rattle.bk_engine.specs.Sends.{HasStates}
use Rattle.bk_engine.specs.Reads.{query_of, has_own, has_owner, has_victim, number_of, is_heavy, is_of_summary}
use Rattle.bk_engine.specs.Stops.{halts_unless, wait_stop, pop_stop, branch_stop, entry_stop, named_entry, request_stop, block_stop, form_stop}
use Rattle.bk_system.specs.State.{State}
use Rattle.bk_system.specs.Events.{offered_head}
use Rattle.bk_bridge.specs.Fronts.{IsFront}
use Rattle.bk_exact.specs.Told.{Told}
use Rattle.bk_exact.specs.Exact.{exact, mem_of}
use Rattle.bk_exact.specs.Ties.{Tied}
use Rattle.bk_exact.proofs.Blocks.{kept-found, got-found, asked-none}
use Rattle.bk_exact.proofs.Flushes.{IsFlushed, flushed}
use Rattle.bk_exact.proofs.Forms.{states-of}
use Rattle.bk_exact.proofs.Fronts.{ack-of, wb-of}
use Rattle.bk_exact.proofs.Parts.{and3, and4, is-above, some-times}
use Rattle.bk_exact.proofs.Readings.{sum, reads, at-owner}
use Rattle.bk_exact.proofs.Serving.{Serving, mask, met-of, recorded, owing, served, unserved, serves-held, serves-closing, serves-sending, serves-any}
use Rattle.bk_exact.proofs.Values as values
use Rattle.bk_flows.specs.Flows.{IsNoHalt, NeverHalts}

-- a test that is passed
unless-runs : (b : Bool) (r : Halt) (o : Option Stop) → b ≡ true → IsNoHalt o → IsNoHalt (halts_unless b r o)
unless-runs true r o e h = h
unless-runs false r o e h = absurd (cc)

-- the entries that an instruction names are there to be read
readable : (y : Coh) → y ≢ states.I → is_readable y ≡ true
readable states.I n = absurd (n refl)
readable y n = refl

readable-heavy : (y : Coh) → (only (number_of (is_heavy y)) == VICTIM_HEAVY) ≡ true → is_readable y ≡ true
readable-heavy y e = grind arith

-- an owner that the machine reads is there
some-from : (o : Option (ℕ × ℕ)) (c : ℕ) → option_map (λ at. at.0) o ≡ Some c → is_some o ≡ true
some-from None c e = absurd (cc)
some-from (Some at) c e = refl

module _ (k : Shape) (later : State) (told : Told) (tied : Tied k later told) where
  abbrev e : Core
  e = later.engine.core

  abbrev m : Sets
  m = exact k later.engine told

  -- WHAT IS HELD

  -- a request is held, so an instruction that needs one runs
  request-runs : Serving k later told → IsNoHalt (request_stop e)
  request-runs v = unless-runs (is_some e.held) halts.Request None (ap is_some v.is_held) tt

  -- the directory was read far enough
  past : (v w : ℕ) → e.summ ≡ v → w < v → nat_lt w e.summ ≡ true
  past v w i l = grind (arith, nat_tests)

  sent-summed : sends m ≡ true → e.summ ≡ 2
  sent-summed q = values.summ-sum e.summ (and3 (m.stage == STAGE_HELD) _ (m.summ == SUMM_SUM) q).2

  -- a block that memory has answered is there
  block-runs : (v : Serving k later told) → (m.mem == MEM_GOT) ≡ true → IsNoHalt (block_stop e)
  block-runs v q =
      let sent : (mem_of told.transaction == MEM_GOT) ≡ true = q in
      let g = values.mem-got v.transaction.written v.transaction.reading
      (subst (λ (x : Option (ℕ × _)). (mem_of x == MEM_GOT) ≡ true) v.is_told sent) in
      unless-runs (is_some e.held) halts.Request _ (ap is_some v.is_held)
      (unless-runs (is_some e.got) halts.Block None (ap is_some (got-found e.got v.transaction.reading g.0 v.serves.got g.1).is) tt)

  -- ENTRIES

  -- the summary, and an entry to act on
  entry-runs : (b : Bool) → e.summ ≡ 2 → b ≡ true → IsNoHalt (entry_stop e b)
  entry-runs b i j = unless-runs (nat_lt 1 e.summ) halts.Summary _ (past 2 1 i (omega arith)) (unless-runs b halts.Target None j tt)

  module _ (v : Serving k later told) where
    abbrev there : ℕ → Bool
    there who = named_entry k later.engine.directory e.held who

    own-there : (sum k later told v).own ≢ states.I → there 0 ≡ true
    own-there q = subst (λ (o : Option Held). has_own k later.engine.directory o ≡ true) (sym v.is_held)
        (readable (sum k later told v).own q)

    owner-named : is_some (sum k later told v).owner ≡ true → there 1 ≡ true
    owner-named q = subst (λ (o : Option Held). has_owner k later.engine.directory o ≡ true) (sym v.is_held) q

    -- an owner whose state is read is there
    owner-there : lacks (mask k later told v).owner OWNER_NONE ≡ true → there 1 ≡ true
    owner-there q = owner-named
        (go (owner k later.engine.directory (query_of k v.held)) (values.owner-there (sum k later told v).owner_state q))
      where
        go : (o : Option (ℕ × ℕ)) → owner_state later.engine.directory (query_of k v.held).set o ≢ states.I → is_some o ≡ true
        go None later = absurd (later refl)
        go (Some at) later = refl

    victim-there : ((mask k later told v).victim == VICTIM_HEAVY) ≡ true → there 2 ≡ true
    victim-there q = subst (λ (o : Option Held). has_victim k later.engine.directory o ≡ true) (sym v.is_held)
        (readable-heavy (sum k later told v).victim q)

    stwb-there : (who : ℕ) (y : Coh) → HasStates (forms.Stwb who y) → who < 3 → may_flush who y (mask k later told v) ≡ true
        → there who ≡ true
    stwb-there who y g l q = by who (flushed who y (sum k later told v).own (mask k later told v) g l refl q).1
      where
        by : (who : ℕ) → IsFlushed who y (sum k later told v).own (mask k later told v) → there who ≡ true
        by zero f = own-there f.0
        by (suc zero) f = owner-there f
        by (suc (suc zero)) f = victim-there f.1
        by (suc (suc (suc a))) f = absurd f

    -- while the owner's debt is unpaid there is an owner
    wds-there : (who : ℕ) (y : Coh) → who < 2 → may_pay who y (mask k later told v) ≡ true → there who ≡ true
    wds-there zero y l q = own-there (values.own-valid _ (and_parts _ _ (and_parts _ _ q).1).1)
    wds-there (suc zero) y l q =
        let f = values.down-is v.transaction.owner_debt y (λ d z. ((recorded k later told tied v).owner d z).weaker) (and_parts _ _ q).1 in
        owner-named (some-from _ f.0.cache ((reads k later told v).owner
        ∙ (at-owner k later told v f.0.cache f.0.way ((owing k later told tied v).owner f.0 f.1)).0))
    wds-there (suc (suc a)) y l q = absurd (omega (arith, l))

  -- BRANCHES

  requested : (only (head_value e.head) == HEAD_REQUEST) ≡ true → (head_value e.head == 1) ≡ true
  requested q = ap (λ (w : ℕ). w == 1) (values.only-is 1 (head_value e.head) q)

  -- `bk`: by the field that it tests
  branch-runs : (field : ℕ) → may_branch field m ≡ true → IsNoHalt (branch_stop e field)
  branch-runs field q =
      let p = and3 _ _ _ q in
      by (field == 3) (field == 4) (is_of_summary field) refl p.0 p.1 p.2
    where
      summary-field : (field : ℕ) → is_of_summary field ≡ true → is_summed field ≡ true
      summary-field field i = i

      by : (b3 b4 b6 : Bool) → is_of_summary field ≡ b6 → implies b3 (m.head == HEAD_REQUEST) ≡ true
          → implies b4 (subset m.stage STAGE_HELD_CLOSING) ≡ true
          → implies (is_summed field) ((m.stage == STAGE_HELD) && (m.summ == SUMM_SUM)) ≡ true
          → IsNoHalt (if b3 then halts_unless (head_value e.head == 1) halts.Head None
          else if b4 then halts_unless (is_some e.held) halts.Request None
          else if b6 then halts_unless (nat_lt 1 e.summ) halts.Summary None
          else None)
      by true b4 b6 i h s q = unless-runs (head_value e.head == 1) halts.Head None (requested h) tt
      by false true b6 i h s q = request-runs (serves-any k later told tied s)
      by false false true i h s q =
          let sent = and_parts (m.stage == STAGE_HELD) _ (implied _ _ (summary-field field i) q) in
          unless-runs (nat_lt 1 e.summ) halts.Summary None (past 2 1 (values.summ-sum e.summ sent.1) (omega arith)) tt
      by false false false i h s q = tt

  -- QUEUES

  -- `wfq`: it runs or waits where no head is held
  wait-runs : (classes : ℕ) (choice : Choice) (message : Option Row) (o : Option Head) → o ≡ None
      → IsNoHalt (wait_stop o classes choice message)
  wait-runs classes choice message (Some h) i = absurd (cc)
  wait-runs classes choice None None i = tt
  wait-runs classes choice (Some sent) None i = by (names_class classes choice.class)
    where
      by : (b : Bool) → IsNoHalt (if b then None else Some (Waits classes))
      by true = tt
      by false = tt

  unheld : (m.stage == STAGE_IDLE) ≡ true → is_none e.held ≡ true
  unheld q = ap is_none (unserved k e e.held told.transaction tied.agrees (values.stage-idle told.transaction told.deferred q).0).1

  -- `popq`: there is room for what it takes off
  pop-runs : (choice : Choice) (sent : Row) → offered_head later choice ≡ Some sent → single_head (only (head_number sent)) ≡ true
      → (head_number sent ≡ 1 → (m.stage == STAGE_IDLE) ≡ true)
      → IsNoHalt (pop_stop e (Some (record { choice = choice; message = sent })))
  pop-runs c (rows.Rd from to v addr) f s q = unless-runs (is_none e.held) halts.Request None (unheld (q refl)) tt
  pop-runs c (rows.Wr from to v addr) f s q = unless-runs (is_none e.held) halts.Request None (unheld (q refl)) tt
  pop-runs c (rows.UcRd from to addr) f s q = unless-runs (is_none e.held) halts.Request None (unheld (q refl)) tt
  pop-runs c (rows.UcWr from to addr word) f s q = unless-runs (is_none e.held) halts.Request None (unheld (q refl)) tt
  pop-runs c (rows.Evict from to v addr) f s q = unless-runs (is_none e.held) halts.Request None (unheld (q refl)) tt
  pop-runs c (rows.InvAck from to addr) f s q =
      let y = ack-of k later told tied c from to addr f in
      let sv = (served k e e.held told.transaction (group_of k addr, y.transaction) tied.agrees y.is).2 in
      unless-runs (nat_lt 0 e.acks) halts.Acks None
      (is-above e.acks (length y.transaction.waiting) sv.acks (some-times c.source y.transaction.waiting y.so)) tt
  pop-runs c (rows.CohAck from to addr) f s q = tt
  pop-runs c (rows.Wb from to addr words) f s q =
      let y = wb-of k later told tied c from to addr words f in
      let sv = (served k e e.held told.transaction (group_of k addr, y.transaction) tied.agrees y.is).2 in
      unless-runs (is_none e.dirty) halts.Block None
      (ap is_none (asked-none k (group_of k addr) e.dirty y.transaction.write_back y.so sv.kept)) tt
  pop-runs c (rows.NullWb from to addr) f s q = tt
  pop-runs c (rows.Block from to addr words) f s q = tt
  pop-runs c sent f s q = absurd (cc)

  popq-runs : (wp : ℕ) (o : Option Head) → e.head ≡ o → IfSome o (IsFront k later) → Met (forms.Popq wp) m
      → IsNoHalt (pop_stop e o)
  popq-runs wp o i f p = by o i f (subst (λ (h : Option Head). single_head (only (head_value h)) ≡ true) i p.o7)
    where
      by : (o : Option Head) → e.head ≡ o → IfSome o (IsFront k later) → single_head (only (head_value o)) ≡ true
          → IsNoHalt (pop_stop e o)
      by None i f s = absurd (cc)
      by (Some head) i f s =
          pop-runs head.choice head.message f.first s
          (λ q. (and_parts (m.stage == STAGE_IDLE) (m.gp == GP_FREE)
          (implied _ _ (ap (λ (w : ℕ). only w == HEAD_REQUEST) (ap head_value i ∙ q)) p.o8)).0)

  -- BY THE FORM

  -- What an instruction would halt for is there by its obligations: the request and the summary by O10, O11, O21 and O22, the head by
  -- O5, O7 and O8, the entry by O12, O19 and O21, the block by O16, O18 and O20. For `popq` the invariant has an InvAck counted and
  -- room for a Wb.
  form-runs : (f : Form) (choice : Choice) (message : Option Row) → IsInRange f → Met f m
      → IsNoHalt (form_stop k later.engine f choice message)
  form-runs (forms.Mova a) c sent g o = request-runs (serves-any k later told tied o.o11)
  form-runs (forms.Movs a) c sent g o = request-runs (serves-any k later told tied o.o11)
  form-runs (forms.Movw a) c sent g o = request-runs (serves-any k later told tied o.o11)
  form-runs (forms.Bk field set to) c sent g o = branch-runs field o.o10
  form-runs (forms.Wfq a) c sent g o = wait-runs a c sent e.head (values.head-none e.head (and3 _ _ _ o.o5).0)
  form-runs (forms.Popq wp) c sent g o = popq-runs wp e.head refl tied.front o
  form-runs forms.Defer c sent g o = unless-runs (head_value e.head == 1) halts.Head None (requested (and3 _ _ _ o.o8).1) tt
  form-runs forms.Rdw c sent g o = request-runs (serves-held k later told tied (and_parts _ _ o.o11).0).serving
  form-runs forms.Gad c sent g o =
      unless-runs (nat_lt 0 e.summ) halts.Summary None (past 1 0 (values.only-is 1 e.summ (and_parts _ _ o.o11).1) (omega arith)) tt
  form-runs (forms.Wde y) c sent g o = request-runs (serves-closing k later told tied (and_parts _ _ o.o21).0).serving
  form-runs (forms.Wds who y) c sent g o =
      let v = serves-closing k later told tied (and_parts _ _ o.o21).0 in
      entry-runs _ (v.serving.serves.closed v.is_granted).summed
      (wds-there v.serving who y (operands (forms.Wds who y) g) (met-of k later told v.serving (forms.Wds who y) o).o21)
  form-runs forms.Fin c sent g o = request-runs (serves-closing k later told tied (and4 _ _ _ _ o.o22).0).serving
  form-runs (forms.Inv a) c sent g o =
      unless-runs (nat_lt 1 e.summ) halts.Summary None (past 2 1 (sent-summed (and_parts _ _ o.o11).0) (omega arith)) tt
  form-runs (forms.Stwb who y) c sent g o =
      let v = (serves-sending k later told tied (and_parts _ _ o.o11).0).serving in
      entry-runs _ (sent-summed (and_parts _ _ o.o11).0)
      (stwb-there v who y (states-of (forms.Stwb who y) g) (operands (forms.Stwb who y) g)
      (and_parts _ _ (met-of k later told v (forms.Stwb who y) o).o12).1)
  form-runs (forms.Tr y z) c sent g o =
      let v = (serves-sending k later told tied (and_parts _ _ o.o11).0).serving in
      entry-runs _ (sent-summed (and_parts _ _ o.o11).0) (owner-there v (and3 _ _ _ (met-of k later told v (forms.Tr y z) o).o19).0)
  form-runs (forms.Blk y) c sent g o = block-runs (serves-sending k later told tied (and_parts _ _ o.o11).0).serving (and4 _ _ _ _ o.o18).1
  form-runs forms.Ucblk c sent g o = block-runs (serves-sending k later told tied (and_parts _ _ o.o11).0).serving (and_parts _ _ o.o16).1
  form-runs forms.Wake c sent g o = request-runs (serves-sending k later told tied (and_parts _ _ o.o11).0).serving
  form-runs forms.Ucdone c sent g o = request-runs (serves-sending k later told tied (and_parts _ _ o.o11).0).serving
  form-runs forms.Done c sent g o = request-runs (serves-sending k later told tied (and_parts _ _ o.o11).0).serving
  form-runs forms.Memrd c sent g o = request-runs (serves-sending k later told tied (and_parts _ _ o.o11).0).serving
  form-runs forms.Memww c sent g o = request-runs (serves-sending k later told tied (and_parts _ _ o.o11).0).serving
  form-runs forms.Memwb c sent g o =
      let v = (serves-sending k later told tied (and_parts _ _ o.o11).0).serving in
      let q = values.wb-dirty v.transaction.write_back (met-of k later told v forms.Memwb o).o20 in
      unless-runs (is_some e.dirty) halts.Block None (ap is_some
      (kept-found k (group_of k v.held.addr) e.dirty v.transaction.write_back q.0 v.serves.kept q.1).is) tt
  form-runs f c sent g o = tt

pub never-halts : NeverHalts
never-halts k n told f choice message tied g u = form-runs k n told tied f choice message g (met f (exact k n.engine told) u)
