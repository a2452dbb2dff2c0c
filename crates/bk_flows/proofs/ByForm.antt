-- After each instruction that runs, by its form, the exact mask fits the edge that is taken.
use Rattle.std.proofs.Common.{◌≡◌, ◌==◌, ◌&&◌, Bool, true, false, refl, sym, subst, arith, Option, slice_get}
use Rattle.std.specs.Prelude.{nat_lt, is_none}
use Rattle.std.proofs.lemmas.Bool.{and_parts}
use Rattle.bk_base.specs.Places.{Shape, InProfile}
use Rattle.bk_isa.specs.declared.form.Form.{Form}
use Rattle.bk_isa.specs.declared.form.Form.TheVariants as forms
use Rattle.bk_isa.specs.Words.{IsInRange}
use Rattle.bk_isa.proofs.Operands.{operands}
use Rattle.bk_know.specs.declared.sets.Sets.{Sets}
use Rattle.bk_know.specs.declared.values.TheConstants.{STAGE_CLOSING}
use Rattle.bk_check.specs.Obligations.{sends}
use Rattle.bk_order.specs.Fits.{Leads}
use Rattle.bk_order.proofs.Filled.{Filled}
use Rattle.bk_order.proofs.Meets.{Met, met}
use Rattle.bk_msg.specs.declared.row.Row.{Row}
use Rattle.bk_engine.specs.declared.parts.Choice.{Choice}
use Rattle.bk_engine.specs.declared.parts.Core.{Core}
use Rattle.bk_engine.specs.Engine.{EngineState}
use Rattle.bk_engine.specs.Reads.{is_branch_taken}
use Rattle.bk_engine.specs.Stops.{form_stop, stop_at}
use Rattle.bk_system.specs.declared.event.Event.TheVariants as events
use Rattle.bk_system.specs.State.{State}
use Rattle.bk_system.specs.Events.{is_choice, offered_head}
use Rattle.bk_system.specs.Runs.{after}
use Rattle.bk_exact.specs.Told.{Told}
use Rattle.bk_exact.specs.Exact.{exact}
use Rattle.bk_exact.specs.After.{told_after}
use Rattle.bk_exact.specs.Ties.{Tied, told_world}
use Rattle.bk_exact.proofs.Forms.{states-of}
use Rattle.bk_exact.proofs.Idles.{only-registers, only-reads}
use Rattle.bk_exact.proofs.Parts.{and4}
use Rattle.bk_exact.proofs.Serving.{Staged, mask, met-of, serves-closing, serves-sending}
use Rattle.bk_exact.proofs.Somes.{exact-filled}
use Rattle.bk_exact.proofs.Steps.{form-acted, acted-ties}
use Rattle.bk_flows.specs.Flows.{edge_of, MaskFollows}
use Rattle.bk_flows.proofs.Branches.{leads-bk}
use Rattle.bk_flows.proofs.Closings.{leads-wde, leads-wds}
use Rattle.bk_flows.proofs.Flags.{leads-sf, leads-cf, leads-nf, leads-movf, leads-andf, leads-orf}
use Rattle.bk_flows.proofs.Flushes.{leads-stwb}
use Rattle.bk_flows.proofs.Invs.{leads-inv}
use Rattle.bk_flows.proofs.Masks.{Goal, engine-is, quiet-leads, same-edge}
use Rattle.bk_flows.proofs.Pops.{leads-popq}
use Rattle.bk_flows.proofs.Queues.{leads-rdw, leads-gad, leads-defer}
use Rattle.bk_flows.proofs.Sent.{leads-memrd, leads-memww, leads-memwb, leads-blk, leads-wake, leads-tr, leads-ucblk, leads-ucdone, leads-done, leads-fin}
use Rattle.bk_flows.proofs.Waits.{leads-wfq}

module _ (k : Shape) (s : State) (told : Told) (choice : Choice) (profile : InProfile k) (tied : Tied k s told) where
  abbrev e : Core
  e = s.engine.core

  abbrev message : Option Row
  message = offered_head s choice

  abbrev m : Sets
  m = exact k s.engine told

  abbrev goal : Form → Type 0
  goal = Goal k s told choice message

  -- what is sent for a request that isn't granted, and what follows the grant
  sending : (f : Form) → Met f m → sends m ≡ true
      → ((v : Staged k s told false) → Met f (mask k s told v.serving) → goal f) → goal f
  sending f o q leads = let v = serves-sending k s told tied q in leads v (met-of k s told v.serving f o)

  closing : (f : Form) → Met f m → (m.stage == STAGE_CLOSING) ≡ true
      → ((v : Staged k s told true) → Met f (mask k s told v.serving) → goal f) → goal f
  closing f o q leads = let v = serves-closing k s told tied q in leads v (met-of k s told v.serving f o)

  -- Each form has its lemma `leads-...`. O11 has a send in Held, and O21 and O22 have `wde`, `wds` and `fin` in Closing, so that a
  -- request is served, as those lemmas need. What only calculates or branches on registers changes nothing that the mask tells.
  by-form : (f : Form) → IsInRange f → is_none (form_stop k s.engine f choice message) ≡ true → Met f m → goal f
  by-form (forms.Inv a) g r o =
      sending (forms.Inv a) o (and_parts _ _ o.o11).0 (λ v q. leads-inv k s told tied v choice message profile a q)
  by-form (forms.Stwb who y) g r o =
      sending (forms.Stwb who y) o (and_parts _ _ o.o11).0
      (λ v q. leads-stwb k s told tied v choice message who y (states-of (forms.Stwb who y) g) (operands (forms.Stwb who y) g) q)
  by-form (forms.Tr y z) g r o =
      sending (forms.Tr y z) o (and_parts _ _ o.o11).0 (λ v q. leads-tr k s told tied v.serving choice message y z q)
  by-form (forms.Blk y) g r o =
      sending (forms.Blk y) o (and_parts _ _ o.o11).0 (λ v q. leads-blk k s told tied v.serving choice message y q)
  by-form forms.Wake g r o = sending forms.Wake o (and_parts _ _ o.o11).0 (λ v q. leads-wake k s told tied v.serving choice message)
  by-form forms.Ucblk g r o = sending forms.Ucblk o (and_parts _ _ o.o11).0 (λ v q. leads-ucblk k s told tied v.serving choice message q)
  by-form forms.Ucdone g r o = sending forms.Ucdone o (and_parts _ _ o.o11).0 (λ v q. leads-ucdone k s told tied v.serving choice message)
  by-form forms.Done g r o = sending forms.Done o (and_parts _ _ o.o11).0 (λ v q. leads-done k s told tied v.serving choice message)
  by-form forms.Memrd g r o = sending forms.Memrd o (and_parts _ _ o.o11).0 (λ v q. leads-memrd k s told tied v.serving choice message q)
  by-form forms.Memwb g r o = sending forms.Memwb o (and_parts _ _ o.o11).0 (λ v q. leads-memwb k s told tied v.serving choice message q)
  by-form forms.Memww g r o = sending forms.Memww o (and_parts _ _ o.o11).0 (λ v q. leads-memww k s told tied v.serving choice message)
  by-form (forms.Wde y) g r o = closing (forms.Wde y) o (and_parts _ _ o.o21).0 (λ v q. leads-wde k s told tied v choice message y q)
  by-form (forms.Wds who y) g r o =
      closing (forms.Wds who y) o (and_parts _ _ o.o21).0
      (λ v q. leads-wds k s told tied v choice message who y (operands (forms.Wds who y) g) q)
  by-form forms.Fin g r o =
      closing forms.Fin o (and4 _ _ _ _ o.o22).0 (λ v q. leads-fin k s told tied v.serving choice message v.is_granted)
  by-form forms.Rdw g r o = leads-rdw k s told choice message
  by-form forms.Gad g r o = leads-gad k s told choice message
  by-form (forms.Wfq a) g r o = leads-wfq k s told tied choice a (operands (forms.Wfq a) g).1 r
  by-form forms.Defer g r o = leads-defer k s told choice message o
  by-form (forms.Popq wp) g r o = leads-popq k s told tied wp choice message e.head refl tied.front o
  by-form (forms.Bk a b to) g r o = leads-bk k s told tied choice message a b to g o.o10
  by-form (forms.Sf a) g r o = leads-sf k s told choice message tied.formed.engine.flags a (operands (forms.Sf a) g)
  by-form (forms.Cf a) g r o = leads-cf k s told choice message tied.formed.engine.flags a (operands (forms.Cf a) g)
  by-form (forms.Nf a) g r o = leads-nf k s told choice message tied.formed.engine.flags a (operands (forms.Nf a) g)
  by-form (forms.Movf a b) g r o = let p = operands (forms.Movf a b) g
      in leads-movf k s told choice message tied.formed.engine.flags a b p.0 p.1
  by-form (forms.Andf a b) g r o = let p = operands (forms.Andf a b) g
      in leads-andf k s told choice message tied.formed.engine.flags a b p.0 p.1
  by-form (forms.Orf a b) g r o = let p = operands (forms.Orf a b) g
      in leads-orf k s told choice message tied.formed.engine.flags a b p.0 p.1
  by-form (forms.Mova a) g r o =
      quiet-leads k s told choice message (forms.Mova a) refl (λ h y. refl) refl (λ h. refl) (
        _,
        only-reads e e.held (forms.Mova a),
      ) refl refl
  by-form (forms.Movs a) g r o =
      quiet-leads k s told choice message (forms.Movs a) refl (λ h y. refl) refl (λ h. refl) (
        _,
        only-reads e e.held (forms.Movs a),
      ) refl refl
  by-form (forms.Movw a) g r o =
      quiet-leads k s told choice message (forms.Movw a) refl (λ h y. refl) refl (λ h. refl) (
        _,
        only-reads e e.held (forms.Movw a),
      ) refl refl
  by-form (forms.Beq a b to) g r o =
      quiet-leads k s told choice message (forms.Beq a b to) refl (λ h y. refl) refl (λ h. refl) (
        _,
        only-registers e (forms.Beq a b to),
      ) refl
      (same-edge k s told choice message (is_branch_taken k s.engine (forms.Beq a b to)))
  by-form (forms.Bne a b to) g r o =
      quiet-leads k s told choice message (forms.Bne a b to) refl (λ h y. refl) refl (λ h. refl) (
        _,
        only-registers e (forms.Bne a b to),
      ) refl
      (same-edge k s told choice message (is_branch_taken k s.engine (forms.Bne a b to)))
  by-form (forms.Blt a b to) g r o =
      quiet-leads k s told choice message (forms.Blt a b to) refl (λ h y. refl) refl (λ h. refl) (
        _,
        only-registers e (forms.Blt a b to),
      ) refl
      (same-edge k s told choice message (is_branch_taken k s.engine (forms.Blt a b to)))
  by-form (forms.Bge a b to) g r o =
      quiet-leads k s told choice message (forms.Bge a b to) refl (λ h y. refl) refl (λ h. refl) (
        _,
        only-registers e (forms.Bge a b to),
      ) refl
      (same-edge k s told choice message (is_branch_taken k s.engine (forms.Bge a b to)))
  by-form f g r o = quiet-leads k s told choice message f refl (λ h y. refl) refl (λ h. refl) (_, only-registers e f) refl refl

last-part : (a b test : Bool) → (a && b && test) ≡ true → test ≡ true
last-part a b test e = grind arith

pub mask-follows : MaskFollows
mask-follows k program n told choice f profile g tied here can unmet =
    let o = met f (exact k n.engine told) unmet in
    let tie = acted-ties k program n told choice profile tied can f here (form-acted k program n told choice profile tied can f g here o) in
    let runs = last-part (nat_lt choice.source k.caches) (is_choice (slice_get program n.engine.core.place) choice) _ can in
    subst (λ (engine : EngineState). Leads (edge_of k n.engine f (exact k n.engine told))
    (exact k engine (told_after k n.engine.core (told_world k n told) f told)))
    (sym (engine-is k program n choice f here can))
    (by-form k n told choice profile tied f g
    (subst (λ (o : Option Form). is_none (stop_at k n.engine o choice (offered_head n choice)) ≡ true) here runs) o
    (subst (λ (engine : EngineState). Filled (exact k engine (told_after k n.engine.core (told_world k n told) f told)))
    (engine-is k program n choice f here can)
    (exact-filled k (after k program n (events.Engine choice)) (told_after k n.engine.core (told_world k n told) f told) tie)))
