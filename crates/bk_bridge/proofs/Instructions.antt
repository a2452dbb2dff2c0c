-- Each instruction that takes no head off does in the machine what the table says.
use Rattle.std.proofs.Common.{◌≡◌, ℕ, ◌<◌, Bool, true, false, ltb, eqb, ◌&&◌, refl, sym, ap, subst, ◌∙◌, arith, List, [], ◌∷◌, Option, Some, None, ◌==◌, slice_get, inl, inr}
use Rattle.std.specs.Prelude.{option_map, option_and_then, if◌then◌else◌}
use Rattle.std.specs.List.{filter_map}
use Rattle.std.proofs.lemmas.Nat.{div-mul-add, mod-mul-add}
use Rattle.std.proofs.lemmas.Bool.{lt-ltb, cases_lt}
use Rattle.std.proofs.lemmas.Bool.Decides.{nat_tests}
use Rattle.bk_base.specs.Places.{Shape, InProfile, block_start, group_of, tag_at, word_of, address_in}
use Rattle.bk_base.specs.declared.coh.Coh.{Coh}
use Rattle.bk_isa.specs.declared.form.Form.{Form}
use Rattle.bk_isa.specs.declared.form.Form.TheVariants as forms
use Rattle.bk_msg.specs.declared.row.Row.{Row}
use Rattle.bk_msg.specs.declared.row.Row.TheVariants as rows
use Rattle.bk_msg.specs.declared.row.TheConstants.{ENGINE, MEMORY}
use Rattle.bk_msg.specs.declared.row.Network.TheVariants as networks
use Rattle.bk_msg.specs.Networks.{network_of, receiver_of}
use Rattle.bk_dir.specs.declared.entry.Summary.{Summary}
use Rattle.bk_dir.specs.Contents.{Contents, with_state}
use Rattle.bk_engine.specs.declared.parts.Choice.{Choice}
use Rattle.bk_engine.specs.declared.parts.Held.{Held}
use Rattle.bk_engine.specs.declared.parts.DirtyBlock.{DirtyBlock}
use Rattle.bk_engine.specs.Engine.{EngineState}
use Rattle.bk_engine.specs.Reads.{query_of, summary_for}
use Rattle.bk_engine.specs.Changes.{core_after, with_state_at, with_named_state, directory_for_held, directory_after}
use Rattle.bk_engine.specs.Changes as changes
use Rattle.bk_engine.specs.Sends as sending
use Rattle.bk_engine.specs.Step.{pops, ran, ran_at, runs_to}
use Rattle.bk_system.specs.declared.event.Event.TheVariants.{Engine}
use Rattle.bk_system.specs.State.{State}
use Rattle.bk_system.specs.Events.{offered_head, with_outcome, can_run}
use Rattle.bk_system.specs.Runs.{state_after_row, after}
use Rattle.bk_machine.specs.Actions as actions
use Rattle.bk_machine.specs.Directory as machine
use Rattle.bk_machine.specs.Entries as entries
use Rattle.bk_machine.specs.Messages.{becomes, ToCache, StWb, StTr, Blk, StWake, UcBlk, UcDone, EvictDone, Read, Write, WriteWord}
use Rattle.bk_machine.specs.Products.{as_command, as_to_memory, words_of}
use Rattle.bk_machine.specs.Transactions.{Transaction}
use Rattle.bk_machine.specs.World.{World}
use Rattle.bk_bridge.specs.Ranges.{InRange}
use Rattle.bk_bridge.specs.Readings.{seen, ReadsAlike}
use Rattle.bk_bridge.specs.Worlds.{world_of}
use Rattle.bk_bridge.specs.Effects as effects
use Rattle.bk_bridge.proofs.Effects.{effect, outcome-effect, effect-is, command-effect, memory-effect, entry-seen, entry-effect, invs-sent, invs-no_memout, wipes-seen}
use Rattle.bk_bridge.proofs.Inside.{group-within}
use Rattle.bk_bridge.proofs.Places.{group-start, tag-start}
use Rattle.bk_bridge.proofs.Readings.{reads_alike, at-least}

-- the block of a tag in a way group
in-group : (k : Shape) (g t : ℕ) → g < k.sets → group_of k (address_in k g t) ≡ g
in-group k g t l = grind (arith, nat_tests, mod-mul-add t k.sets g l)

in-tag : (k : Shape) (g t : ℕ) → g < k.sets → tag_at k (address_in k g t) ≡ t
in-tag k g t l = grind (arith, nat_tests, div-mul-add t k.sets g l)

module _ (k : Shape) (s : State) (x : Option (ℕ × Transaction)) where
  abbrev old : World
  old = world_of k s x

  abbrev directory : Contents
  directory = s.engine.directory

  -- a command and nothing else
  told : (m : Row) (c : ℕ) (y : ℕ × ToCache) → receiver_of m ≡ c → network_of m ≡ networks.Command
      → as_command k m ≡ Some y
      → effect k s x directory (m ∷ []) ≡ actions.with_command_sent y.0 c y.1 old
  told m c y r e f = command-effect k s x directory (seen directory) m y refl refl e f
      ∙ ap (λ (c : ℕ). actions.with_command_sent y.0 c y.1 old) r

  module _ (p : InProfile k) (h : Held) where
    abbrev group : ℕ
    group = group_of k h.addr

    abbrev tag : ℕ
    tag = tag_at k h.addr

    abbrev sum : Summary
    sum = summary_for k directory h

    reads : ReadsAlike k directory (query_of k h) sum
    reads = reads_alike k directory (query_of k h)

    owner-same : effects.owner_place k h old ≡ sum.owner
    owner-same = go sum.owner refl
      where
        at : ℕ → Option (ℕ × ℕ)
        at c = option_map (λ w. (c, w)) (machine.owner_way k.ways (old.directory group) tag c)

        go : (o : Option (ℕ × ℕ)) → sum.owner ≡ o → effects.owner_place k h old ≡ o
        go None e = ap (option_and_then at) (sym reads.owner ∙ ap (option_map (λ (q : ℕ × ℕ). q.0)) e)
        go (Some o) e = ap (option_and_then at) (sym reads.owner ∙ ap (option_map (λ (q : ℕ × ℕ). q.0)) e)
            ∙ ap (option_map (λ (w : ℕ). (o.0, w))) (reads.owner_way o e)

    -- ENTRIES

    state-effect : (c w : ℕ) (y : Coh) → effect k s x (with_state directory c group w y) []
        ≡ effects.writes_state group (Some (c, w)) y old
    state-effect c w y = entry-effect k s x c group w (record { tag = (directory.entries c group w).tag; state = y })

    owner-state : (o : Option (ℕ × ℕ)) (y : Coh) → effect k s x (with_state_at directory group o y) []
        ≡ effects.writes_state group o y old
    owner-state None y = refl
    owner-state (Some at) y = state-effect at.0 at.1 y

    named-state : (who : ℕ) (y : Coh) → effect k s x (with_named_state k directory h who y) []
        ≡ effects.writes_state group (effects.place_of k h who old) y old
    named-state who y = go (who == 0) (who == 1)
      where
        go : (b0 b1 : Bool) → effect k s x (if b0 then with_state directory h.source group sum.own_way y else if b1
            then with_state_at directory group sum.owner y else with_state directory h.source group h.way y) []
            ≡ effects.writes_state group (if b0 then Some (effects.own_place k h old) else if b1 then effects.owner_place k h old
            else Some (h.source, h.way)) y old
        go true b1 = subst (λ (w : ℕ). effect k s x (with_state directory h.source group sum.own_way y) []
            ≡ effects.writes_state group (Some (h.source, w)) y old) reads.own_way (state-effect h.source sum.own_way y)
        go false true = subst (λ (o : Option (ℕ × ℕ)). effect k s x (with_state_at directory group sum.owner y) []
            ≡ effects.writes_state group o y old) (sym owner-same) (owner-state sum.owner y)
        go false false = state-effect h.source h.way y

    -- FLUSHES

    flush-effect : (c w addr t : ℕ) (y : Coh) → group_of k (block_start addr) ≡ group → tag_at k (block_start addr) ≡ t
        → effect k s x (with_state directory c group w y) (rows.StWb ENGINE c y (block_start addr) ∷ [])
        ≡ effects.flushes group (Some (c, w)) t y old
    flush-effect c w addr t y e f =
        command-effect k s x (with_state directory c group w y) _ (rows.StWb ENGINE c y (block_start addr)) (group, StWb t y)
        (entry-seen directory c group w (record { tag = (directory.entries c group w).tag; state = y })) refl refl
        (λ j. Some (e j, StWb (f j) y))

    owner-flush : (o : Option (ℕ × ℕ)) (y : Coh) → effect k s x (with_state_at directory group o y) (sending.flush_to o y h.addr)
        ≡ effects.flushes group o tag y old
    owner-flush None y = refl
    owner-flush (Some at) y = flush-effect at.0 at.1 h.addr tag y (group-start k h.addr) (tag-start k h.addr)

    abbrev victim : ℕ
    victim = sending.victim_address k directory h

    victim-group : group_of k (block_start victim) ≡ group
    victim-group = group-start k victim ∙ in-group k group (directory.entries h.source group h.way).tag (group-within k h.addr p)

    victim-tag : tag_at k (block_start victim) ≡ (directory.entries h.source group h.way).tag
    victim-tag = tag-start k victim ∙ in-tag k group (directory.entries h.source group h.way).tag (group-within k h.addr p)

    named-flush : (who : ℕ) (y : Coh) → effect k s x (with_named_state k directory h who y) (sending.flushes k directory h who y)
        ≡ effects.flushes group (effects.place_of k h who old) (effects.flushed_tag k h who old) y old
    named-flush who y = go (who == 0) (who == 1)
      where
        go : (b0 b1 : Bool)
            → effect k s x (if b0 then with_state directory h.source group sum.own_way y else if b1
            then with_state_at directory group sum.owner y else with_state directory h.source group h.way y)
            (if b0 then rows.StWb ENGINE h.source y (block_start h.addr) ∷ [] else if b1 then sending.flush_to sum.owner y h.addr
            else rows.StWb ENGINE h.source y (block_start victim) ∷ [])
            ≡ effects.flushes group (if b0 then Some (effects.own_place k h old) else if b1 then effects.owner_place k h old
            else Some (h.source, h.way))
            (if b0 then tag else if b1 then tag else (old.directory group h.source h.way).tag) y old
        go true b1 = subst (λ (w : ℕ). effect k s x (with_state directory h.source group sum.own_way y)
            (rows.StWb ENGINE h.source y (block_start h.addr) ∷ []) ≡ effects.flushes group (Some (h.source, w)) tag y old)
            reads.own_way (flush-effect h.source sum.own_way h.addr tag y (group-start k h.addr) (tag-start k h.addr))
        go false true = subst
            (λ (o : Option (ℕ × ℕ)). effect k s x (with_state_at directory group sum.owner y) (sending.flush_to sum.owner y h.addr)
            ≡ effects.flushes group o tag y old)
            (sym owner-same) (owner-flush sum.owner y)
        go false false = flush-effect h.source h.way victim _ y victim-group victim-tag

    -- MESSAGES

    transfer : (o : Option (ℕ × ℕ)) (a y : Coh) → effect k s x directory (sending.transfer_to h o a y)
        ≡ effects.transfers k h o a y old
    transfer None a y = refl
    transfer (Some at) a y =
        told (rows.StTr ENGINE at.0 a h.source h.way y (block_start h.addr)) at.0 (group, StTr tag a h.source h.way y) refl refl
        (λ j. Some (group-start k h.addr j, StTr (tag-start k h.addr j) a h.source h.way y))

    grant : (got : Option (List ℕ)) (y : Coh) → effect k s x directory (sending.grants h y got) ≡ effects.grants k h y got old
    grant None y = refl
    grant (Some words) y =
        told (rows.Blk ENGINE h.source h.way y (block_start h.addr) words) h.source (group, Blk tag h.way y (words_of words)) refl refl
        (λ j. Some (group-start k h.addr j, Blk (tag-start k h.addr j) h.way y (words_of words)))

    answer-word : (got : Option (List ℕ)) → effect k s x directory (sending.answers_word h got) ≡ effects.answers_word k h got old
    answer-word None = refl
    answer-word (Some words) = told (rows.UcBlk ENGINE h.source h.addr _) h.source (
      group,
      UcBlk tag (word_of h.addr) (words_of words (word_of h.addr)),
    ) refl refl refl

    invalidation : (r : InRange k s) (with_owner : Bool)
        → effect k s x (changes.with_invalid_block k directory h with_owner sum) (sending.invs k h with_owner sum)
        ≡ effects.invalidates group tag
        (actions.invalidation_targets with_owner (machine.owner k.caches k.ways (old.directory group) h.source tag)
        (machine.others k.caches k.ways (old.directory group) h.source tag)) old
    invalidation r with_owner =
        effect-is k s x (changes.with_invalid_block k directory h with_owner sum) (sending.invs k h with_owner sum) _ _ _
        (wipes-seen k directory h with_owner sum to r.directory (reads.invalidated with_owner)) refl
        (invs-sent k h with_owner sum to s.command counted)
        (ap (filter_map (as_to_memory k)) (invs-no_memout h with_owner sum k.caches s.memout))
      where
        to : List ℕ
        to = actions.invalidation_targets with_owner (machine.owner k.caches k.ways (old.directory group) h.source tag)
            (machine.others k.caches k.ways (old.directory group) h.source tag)

        counted : (c : ℕ) → (ltb c k.caches && sending.is_invalidated with_owner sum c) ≡ eqb (entries.times c to) 1
        counted c = elim (cases_lt c k.caches) [
          | inl l ↦ ap (λ (b : Bool). b && sending.is_invalidated with_owner sum c) (lt-ltb c k.caches l)
              ∙ reads.invalidated with_owner c l
          | inr l ↦ ap (λ (b : Bool). b && sending.is_invalidated with_owner sum c) (at-least c k.caches l)
              ∙ sym (reads.nobody_else with_owner c l)
        ]

    -- THE TABLE

    for-effect : (r : InRange k s) (f : Form) → effect k s x (changes.directory_for k directory h f) (sending.sends_for k s.engine h f)
        ≡ effects.done_for k s.engine.core h f old
    for-effect r (forms.Wde state) = entry-effect k s x h.source group h.way (record { tag = tag; state = state })
    for-effect r (forms.Wds who state) = named-state who state
    for-effect r (forms.Inv a) = invalidation r (a == 1)
    for-effect r (forms.Stwb who state) = named-flush who state
    for-effect r (forms.Tr a y) = subst (λ (o : Option (ℕ × ℕ)). effect k s x directory (sending.transfer_to h sum.owner a y)
        ≡ effects.transfers k h o a y old) (sym owner-same) (transfer sum.owner a y)
    for-effect r (forms.Blk y) = grant s.engine.core.got y
    for-effect r forms.Wake =
        told (rows.StWake ENGINE h.source h.way _ (block_start h.addr)) h.source (
          group,
          StWake tag h.way,
        ) refl refl (λ j. Some (group-start k h.addr j, StWake (tag-start k h.addr j) h.way))
    for-effect r forms.Ucblk = answer-word s.engine.core.got
    for-effect r forms.Ucdone = told (rows.UcDone ENGINE h.source h.addr) h.source (group, UcDone tag (word_of h.addr)) refl refl refl
    for-effect r forms.Done = told (rows.Done ENGINE h.source (block_start h.addr)) h.source (
      group,
      EvictDone tag,
    ) refl refl (λ j. Some (group-start k h.addr j, EvictDone (tag-start k h.addr j)))
    for-effect r forms.Memrd = memory-effect k s x (rows.Read ENGINE MEMORY (block_start h.addr)) (
      group,
      Read tag,
    ) refl (λ j. Some (group-start k h.addr j, Read (tag-start k h.addr j)))
    for-effect r forms.Memww = memory-effect k s x (rows.WriteWord ENGINE MEMORY h.addr h.value) (
      group,
      WriteWord tag (word_of h.addr) (becomes h.value),
    ) refl refl
    for-effect r f = refl

  held-effect : InProfile k → InRange k s → (o : Option Held) (f : Form)
      → effect k s x (directory_for_held k directory o f) (sending.sends_held k s.engine o f)
      ≡ effects.done_held k s.engine.core o f old
  held-effect p r None f = refl
  held-effect p r (Some h) f = for-effect p h r f

  kept-effect : (o : Option DirtyBlock) → effect k s x directory (sending.writes_back o) ≡ effects.writes_back k o old
  kept-effect None = refl
  kept-effect (Some kept) =
      memory-effect k s x (rows.Write ENGINE MEMORY (block_start kept.addr) kept.words) (
        group_of k kept.addr,
        Write (tag_at k kept.addr) (words_of kept.words),
      ) refl
      (λ j. Some (group-start k kept.addr j, Write (tag-start k kept.addr j) (words_of kept.words)))

  memwb-directory : (o : Option Held) → directory_for_held k directory o forms.Memwb ≡ directory
  memwb-directory None = refl
  memwb-directory (Some h) = refl

  form-effect : InProfile k → InRange k s → (f : Form) → effects.is_pop f ≡ false
      → effect k s x (directory_after k s.engine f) (sending.sends k s.engine f) ≡ effects.done_by k s.engine.core f old
  form-effect p r (forms.Popq wp) e = absurd (cc)
  form-effect p r forms.Memwb e = ap (λ (d : Contents). effect k s x d (sending.writes_back s.engine.core.dirty))
      (memwb-directory s.engine.core.held) ∙ kept-effect s.engine.core.dirty
  form-effect p r f e = held-effect p r s.engine.core.held f

no-pop : (engine : EngineState) (f : Form) → effects.is_pop f ≡ false → pops engine f ≡ None
no-pop engine (forms.Popq wp) e = absurd (cc)
no-pop engine f e = refl

pub instructions-do : (k : Shape) (program : List Form) (s : State) (x : Option (ℕ × Transaction)) (choice : Choice) (f : Form)
    → InProfile k → InRange k s → slice_get program s.engine.core.place ≡ Some f → effects.is_pop f ≡ false
    → can_run k program s choice ≡ true
    → world_of k (after k program s (Engine choice)) x ≡ effects.done_by k s.engine.core f (world_of k s x)
instructions-do k program s x choice f p r here e runs =
    ap (λ (b : Bool). world_of k
    (state_after_row s (if b then Some (with_outcome k s (runs_to k s.engine program choice (offered_head s choice))) else None)) x) runs
    ∙ ap (λ (o : Option Form). world_of k (with_outcome k s (ran_at k s.engine o choice (offered_head s choice))).state x) here
    ∙ ap (λ (popped : Option Choice).
    world_of k (with_outcome k s (record {
      engine = (ran k s.engine f choice (offered_head s choice)).engine;
      sent = sending.sends k s.engine f;
      popped = popped;
    })).state x) (no-pop s.engine f e)
    ∙ outcome-effect k s x (ran k s.engine f choice (offered_head s choice)).engine (sending.sends k s.engine f)
    ∙ form-effect k s x p r f e
