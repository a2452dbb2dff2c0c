-- For the request that is served: the mask after an instruction that sends or pays.
use Rattle.std.proofs.Common.{◌≡◌, ℕ, Bool, true, refl, sym, ap, ◌∙◌, subst, length, Option, Some, None}
use Rattle.std.specs.Prelude.{nat_lt, option_map, if◌then◌else◌}
use Rattle.std.proofs.lemmas.Bool.{and_parts, eq-eqb}
use Rattle.bk_base.specs.Places.{Shape, group_of, tag_at, word_of}
use Rattle.bk_base.specs.declared.coh.Coh.{Coh}
use Rattle.bk_base.specs.declared.coh.Coh.TheVariants as states
use Rattle.bk_isa.specs.declared.form.Form.{Form}
use Rattle.bk_isa.specs.declared.form.Form.TheVariants as forms
use Rattle.bk_know.specs.declared.sets.Sets.{Sets}
use Rattle.bk_know.specs.Sets.{only}
use Rattle.bk_flow.specs.Flow.{idle_with}
use Rattle.bk_know.specs.declared.values.TheConstants.{GP_FREE, MEM_ASKED, MEM_WRITTEN}
use Rattle.bk_order.specs.Fits.{Leads}
use Rattle.bk_order.proofs.Filled.{Filled}
use Rattle.bk_order.proofs.Leading.{leads-path}
use Rattle.bk_order.proofs.Meets.{Met}
use Rattle.bk_msg.specs.declared.row.Row.{Row}
use Rattle.bk_dir.specs.Contents.{Contents}
use Rattle.bk_engine.specs.declared.parts.Choice.{Choice}
use Rattle.bk_engine.specs.declared.parts.Core.{Core}
use Rattle.bk_engine.specs.declared.parts.Head.{Head}
use Rattle.bk_engine.specs.declared.parts.Held.{Held}
use Rattle.bk_engine.specs.declared.parts.DirtyBlock.{DirtyBlock}
use Rattle.bk_engine.specs.Changes.{core_after, directory_after, directory_for_held, directory_for}
use Rattle.bk_engine.specs.Heads.{head_value}
use Rattle.bk_engine.specs.Reads.{number_of}
use Rattle.bk_system.specs.State.{State}
use Rattle.bk_machine.specs.Actions.{Action, action_after, GrantsByBlock, GrantsByWake, GrantsByTransfer, AnswersWord, AnswersStore, AnswersEvict, ReadsMemory, WritesWord, WritesBack, debt_of_requester, debt_of_owner}
use Rattle.bk_machine.specs.Messages.{becomes, MemoryBlock}
use Rattle.bk_machine.specs.Products.{words_of}
use Rattle.bk_machine.specs.Transactions.{Idle, ReadAsked, Transaction}
use Rattle.bk_machine.specs.World.{World}
use Rattle.bk_bridge.specs.Acting.{action_of, kept_action}
use Rattle.bk_exact.specs.Told.{Told}
use Rattle.bk_exact.specs.Exact.{exact, exact_of, stage_of, mem_of, wb_of, gp_of, dreq_of, down_of}
use Rattle.bk_exact.specs.After.{action_at, served_action, transaction_after, deferred_after}
use Rattle.bk_exact.specs.Ties.{Tied, told_world}
use Rattle.bk_exact.proofs.Blocks.{kept-found, got-found}
use Rattle.bk_exact.proofs.Moves.{no-deferred}
use Rattle.bk_exact.proofs.Parts.{and3, and4, and5}
use Rattle.bk_exact.proofs.Readings.{owner-there, owner-place}
use Rattle.bk_exact.proofs.Serving.{Serving, mask, mask-of, granted-is}
use Rattle.bk_exact.proofs.Values as values
use Rattle.bk_flows.specs.Flows.{edge_of}
use Rattle.bk_flows.proofs.Masks.{after_mask, Goal}

-- the mask of the request that is served, by core, directory and transaction
abbrev pub mask_in : (k : Shape) (s : State) (told : Told) → Serving k s told → Core → Contents → Transaction → Sets
mask_in k s told v core d x =
    exact_of k (record { core = core; directory = d }) (Some v.held) (Some (group_of k v.held.addr, x)) told.deferred

module _ (k : Shape) (later : State) (told : Told) (tied : Tied k later told) (v : Serving k later told) (choice : Choice)
    (message : Option Row) where
  abbrev e : Core
  e = later.engine.core

  abbrev w : World
  w = told_world k later told

  open v use {held as h, transaction as x}

  abbrev s : ℕ
  s = group_of k h.addr

  abbrev pub m : Sets
  m = mask k later told v

  abbrev pub after_served : Form → Contents → Transaction → Sets
  after_served f d x = mask_in k later told v (core_after k later.engine f choice message) d x

  abbrev pub goal : Form → Type 0
  goal = Goal k later told choice message

  -- an instruction of the table, by its action, and the directory and the transaction after it
  pub served-to : (f : Form) (a : Action) (d : Contents) (other : Transaction)
      → action_at k e w f ≡ served_action k e e.held told.transaction w f
      → action_of k e h x w f ≡ Some a → (action_after s a w).transaction ≡ Some (s, other)
      → (core_after k later.engine f choice message).held ≡ e.held
      → directory_after k later.engine f ≡ directory_for_held k later.engine.directory e.held f
      → directory_for k later.engine.directory h f ≡ d
      → deferred_after k e f told.deferred ≡ told.deferred
      → (Filled (after_served f d other) → Leads (edge_of k later.engine f m) (after_served f d other)) → goal f
  served-to f a d other i j q held dir for stays lead filled =
      subst (λ (sets : Sets). Leads (edge_of k later.engine f sets) (after_mask k later told choice message f))
      (sym (mask-of k later told v))
      (subst (Leads (edge_of k later.engine f m)) (sym same) (lead (subst Filled same filled)))
    where
      directory : directory_after k later.engine f ≡ d
      directory = dir ∙ ap (λ (o : Option Held). directory_for_held k later.engine.directory o f) v.is_held ∙ for

      transaction : transaction_after w (action_at k e w f) ≡ Some (s, other)
      transaction =
          ap (transaction_after w) (i ∙ (λ z. served_action k e (v.is_held z) (v.is_told z) w f)
          ∙ ap (option_map (λ b. (s, b))) j) ∙ q

      same : after_mask k later told choice message f ≡ after_served f d other
      same =
          λ z. exact_of k (record { core = core_after k later.engine f choice message; directory = directory z }) ((held ∙ v.is_held) z)
          (transaction z)
          (stays z)

  -- one that writes no entry
  sent-to : (f : Form) (a : Action) (other : Transaction) → action_at k e w f ≡ served_action k e e.held told.transaction w f
      → action_of k e h x w f ≡ Some a → (action_after s a w).transaction ≡ Some (s, other)
      → (core_after k later.engine f choice message).held ≡ e.held
      → directory_after k later.engine f ≡ directory_for_held k later.engine.directory e.held f
      → directory_for k later.engine.directory h f ≡ later.engine.directory
      → deferred_after k e f told.deferred ≡ told.deferred
      → (Filled (after_served f later.engine.directory other)
      → Leads (edge_of k later.engine f m) (after_served f later.engine.directory other)) → goal f
  sent-to f a other = served-to f a later.engine.directory other

  -- MEMORY

  pub leads-memrd : Met forms.Memrd m → goal forms.Memrd
  leads-memrd o =
      let q = values.mem-idle x.written x.reading (and5 _ _ _ _ _ o.o14).1 in
      sent-to forms.Memrd (ReadsMemory x) (record x { reading = ReadAsked }) refl refl refl refl refl refl refl
      (leads-path _ _ (ap (λ (b : Bool). record m { mem = if b then MEM_WRITTEN else MEM_ASKED }) q.0))

  pub leads-memww : goal forms.Memww
  leads-memww =
      sent-to forms.Memww (WritesWord (tag_at k h.addr) (word_of h.addr) (becomes h.value) x) (record x { written = true }) refl
      refl refl refl
      refl refl refl
      (leads-path _ _ refl)

  pub leads-memwb : Met forms.Memwb m → goal forms.Memwb
  leads-memwb o =
      let q = values.wb-dirty x.write_back o.o20 in
      let f = kept-found k s e.dirty x.write_back q.0 v.serves.kept q.1 in
      let b : MemoryBlock = record { tag = tag_at k f.block.addr; words = words_of f.block.words } in
      sent-to forms.Memwb (WritesBack b x) (record x { write_back = Idle }) refl
      (ap (λ (o : Option DirtyBlock). kept_action k h o x) f.is
      ∙ ap (λ (same : Bool). if same then Some (WritesBack b x) else None) (eq-eqb (group_of k f.block.addr) s f.group))
      refl refl refl refl refl (leads-path _ _ refl)

  -- GRANTS AND ANSWERS

  pub leads-blk : (y : Coh) → Met (forms.Blk y) m → goal (forms.Blk y)
  leads-blk y o =
      let q = values.mem-got x.written x.reading (and4 _ _ _ _ o.o18).1 in
      let f = got-found e.got x.reading q.0 v.serves.got q.1 in
      sent-to (forms.Blk y) (GrantsByBlock (words_of f.words) y x)
      (record x { granted = true; requester_debt = debt_of_requester x y }) refl
      (ap (option_map (λ words. GrantsByBlock (words_of words) y x)) f.is) refl refl refl refl refl (leads-path _ _ refl)

  pub leads-wake : goal forms.Wake
  leads-wake =
      sent-to forms.Wake (GrantsByWake (tag_at k h.addr) h.way x)
      (record x {
        granted = true;
        requester_debt = Some (record
            { cache = x.cache; way = h.way; entry = record { tag = tag_at k h.addr; state = states.M } });
      })
      refl refl refl refl refl refl refl (leads-path _ _ refl)

  pub leads-tr : (y z : Coh) → Met (forms.Tr y z) m → goal (forms.Tr y z)
  leads-tr y z o =
      let f = owner-there k later told v (and3 _ _ _ o.o19).0 in
      sent-to (forms.Tr y z) (GrantsByTransfer f.cache f.way y z x)
      (record x { granted = true; requester_debt = debt_of_requester x z; owner_debt = debt_of_owner f.cache f.way x y }) refl
      (ap (option_map (λ (at : ℕ × ℕ). GrantsByTransfer at.0 at.1 y z x))
      (owner-place k later told v f.cache f.way f.is_owner f.is_way)) refl refl refl refl refl
      (leads-path _ _ refl)

  pub leads-ucblk : Met forms.Ucblk m → goal forms.Ucblk
  leads-ucblk o =
      let q = values.mem-got x.written x.reading (and_parts _ _ o.o16).1 in
      let f = got-found e.got x.reading q.0 v.serves.got q.1 in
      sent-to forms.Ucblk (AnswersWord (tag_at k h.addr) (word_of h.addr) (words_of f.words) x) (record x { granted = true }) refl
      (ap (option_map (λ words. AnswersWord (tag_at k h.addr) (word_of h.addr) (words_of words) x)) f.is) refl refl refl refl refl
      (leads-path _ _ refl)

  pub leads-ucdone : goal forms.Ucdone
  leads-ucdone =
      sent-to forms.Ucdone (AnswersStore (tag_at k h.addr) (word_of h.addr) (becomes h.value) x) (record x { granted = true }) refl
      refl refl refl
      refl refl refl
      (leads-path _ _ refl)

  pub leads-done : goal forms.Done
  leads-done =
      sent-to forms.Done (AnswersEvict (tag_at k h.addr) h.way x) (record x { granted = true }) refl refl refl refl refl refl refl
      (leads-path _ _ refl)

  -- THE END: nothing is told any more

  pub leads-fin : x.granted ≡ true → goal forms.Fin
  leads-fin granted =
      leads-path (idle_with (exact k later.engine told)) (after_mask k later told choice message forms.Fin)
      (λ z. record (idle_with (exact k later.engine told)) {
        stage =
            (ap (λ (o : Option (ℕ × Transaction)). stage_of o told.deferred) gone
            ∙ ap (stage_of None) (no-deferred w told.deferred (s, x) tied.left v.is_told)) z;
        head = only (head_value ((v.serves.closed granted).no_head z));
        gp = (gp-none (directory_for_held k later.engine.directory e.held forms.Fin) e.head (v.serves.closed granted).no_head) z;
        acks = only (number_of (nat_lt 0 (no-acks z)));
        wb = wb_of (gone z);
        mem = mem_of (gone z);
        dreq = dreq_of (gone z);
        down = down_of (gone z);
      })
    where
      gone : transaction_after w (action_at k e w forms.Fin) ≡ None
      gone = ap (transaction_after w) (λ z. served_action k e (v.is_held z) (v.is_told z) w forms.Fin)

      no-acks : e.acks ≡ 0
      no-acks = v.serves.acks ∙ ap length (granted-is k later told tied v granted).no_acks

      gp-none : (d : Contents) (o : Option Head) → o ≡ None → gp_of d k o ≡ GP_FREE
      gp-none d o i = ap (gp_of d k) i
