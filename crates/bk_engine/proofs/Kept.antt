-- What an engine keeps of the directory is of the configuration, and stands after an instruction.
use Rattle.std.proofs.Common.{◌≡◌, ◌∙◌, ◌⊎◌, ℕ, ◌+◌, Bool, false, ◌<◌, ◌^◌, Option, Some, None, refl, subst, sym, ap, inl, inr, arith}
use Rattle.std.specs.Prelude.{IfSome, is_none, is_some, if◌then◌else◌}
use Rattle.std.proofs.lemmas.Bool.{both_ways, cond_both}
use Rattle.bk_base.specs.Places.{Shape}
use Rattle.bk_isa.specs.declared.form.Form.{Form}
use Rattle.bk_isa.specs.declared.form.Form.TheVariants.{Bi, Beq, Bne, Blt, Bge, Bk, Fin, Wfq, Popq, Mova, Movs, Movw}
use Rattle.bk_msg.specs.declared.row.Row.{Row}
use Rattle.bk_msg.specs.declared.row.Row.TheVariants as rows
use Rattle.bk_msg.specs.Within.{IsWay}
use Rattle.bk_dir.specs.declared.entry.Entry.{Entry}
use Rattle.bk_dir.specs.declared.entry.Query.{Query}
use Rattle.bk_dir.specs.declared.entry.Summary.{Summary}
use Rattle.bk_dir.specs.Contents.{Contents}
use Rattle.bk_dir.specs.Summaries.{summary}
use Rattle.bk_dir.specs.Laws.{OwnSays}
use Rattle.bk_dir.proofs.SummaryLaws.{own-law, others-law}
use Rattle.bk_engine.specs.declared.parts.Choice.{Choice}
use Rattle.bk_engine.specs.declared.parts.Core.{Core}
use Rattle.bk_engine.specs.declared.parts.Head.{Head}
use Rattle.bk_engine.specs.declared.parts.Held.{Held}
use Rattle.bk_engine.specs.declared.stop.Halt.TheVariants as halts
use Rattle.bk_engine.specs.Engine.{EngineState}
use Rattle.bk_engine.specs.Reads.{query_of, summary_for, is_branch_taken, target}
use Rattle.bk_engine.specs.Changes.{after_request_read, after_pop, after_wait, core_but_place, next_place, with_head_mark}
use Rattle.bk_engine.specs.Step.{is_plain, branch_runs}
use Rattle.bk_engine.specs.Stops.{halts_unless, branch_stop, pop_stop, form_stop}
use Rattle.bk_engine.specs.Summed.{Tells, IsSummed}
use Rattle.bk_engine.proofs.InstructionLaws.{head-entries}
use Rattle.bk_engine.proofs.Outward.{owner-within}

-- A SUMMARY IS OF THE CONFIGURATION

own_way-within : (k : Shape) (d : Contents) (query : Query) → 0 < k.ways → OwnSays k d query (summary k d query)
    → (summary k d query).own_way < k.ways
own_way-within k d query few (inl there) = there.way.within
own_way-within k d query few (inr absent) = rw (absent.way) few

owner_pair-within : (k : Shape) (d : Contents) (query : Query) (o : Option (ℕ × ℕ)) → (summary k d query).owner ≡ o
    → IfSome o (λ at. (at.0 < k.caches) × (at.1 < k.ways))
owner_pair-within k d query None e = tt
owner_pair-within k d query (Some at) e = let found = owner-within k d query at e in (found.cache_within, found.way_within)

-- what is kept is what the directory says
pub told : (k : Shape) (d : Contents) (held : Held) (summed : Option Summary) (kept : Summary) → Tells k d held summed
    → summed ≡ Some kept
    → kept ≡ summary_for k d held
told k d held summed kept t e = subst (λ (x : Option Summary). Tells k d held x) e t

pub kept_own_way : (k : Shape) (d : Contents) (held : Held) (kept : Summary) → IsWay k held.source held.way
    → kept ≡ summary_for k d held
    → kept.own_way < k.ways
kept_own_way k d held kept way e =
    let few : 0 < k.ways = omega arith in
    subst (λ (x : Summary). x.own_way < k.ways) (sym e)
    (own_way-within k d (query_of k held) few (own-law k d (query_of k held)))

pub kept_owner : (k : Shape) (d : Contents) (held : Held) (kept : Summary) → kept ≡ summary_for k d held
    → IfSome kept.owner (λ at. (at.0 < k.caches) × (at.1 < k.ways))
kept_owner k d held kept e =
    subst (λ (x : Summary). IfSome x.owner (λ at. (at.0 < k.caches) × (at.1 < k.ways))) (sym e)
    (owner_pair-within k d (query_of k held) (summary_for k d held).owner refl)

pub kept_others : (k : Shape) (d : Contents) (held : Held) (kept : Summary) → kept ≡ summary_for k d held
    → kept.others < 2 ^ k.caches
kept_others k d held kept e =
    subst (λ (x : Summary). x.others < 2 ^ k.caches) (sym e) (others-law k d (query_of k held)).no_more

-- WHAT IS KEPT STANDS where the request and the entries are the same. A summary doesn't look at pending bits

summary-same : (k : Shape) (d later : Contents) (held : Held) → later.entries ≡ d.entries
    → summary_for k d held ≡ summary_for k later held
summary-same k d later held same =
    ap (λ (x : ℕ → ℕ → ℕ → Entry). summary_for k (record { entries = x; pending = d.pending }) held) (sym same)

tells-same : (k : Shape) (d later : Contents) (held : Held) (summed : Option Summary) → later.entries ≡ d.entries
    → Tells k d held summed → Tells k later held summed
tells-same k d later held None same t = tt
tells-same k d later held (Some kept) same t = t ∙ summary-same k d later held same

-- the mark of a head that is popped leaves them
pub marked_stands : (k : Shape) (d later : Contents) (head : Option Head) (request : Option Held) (summed : Option Summary)
    → later ≡ with_head_mark k d head → IsSummed k d request summed → IsSummed k later request summed
marked_stands k d later head request summed e b =
    let same : later.entries ≡ d.entries = ap (λ (x : Contents). x.entries) e ∙ head-entries k d head in
    record { none = b.none; tells = λ held i. tells-same k d later held summed same (b.tells held i) }

-- nothing is kept for no request, and then nothing is told of the next one
nothing : (k : Shape) (later : Contents) (next : Option Held) (summed : Option Summary) → summed ≡ None → IsSummed k later next summed
nothing k later next summed e = record {
  none = λ i. e;
  tells = λ held i. subst (λ (x : Option Summary). Tells k later held x) (sym e) tt;
}

-- `popq` leaves the request as it was, or there was none
none-held : (request : Option Held) → halts_unless (is_none request) halts.Request None ≡ None → request ≡ None
none-held None e = refl
none-held (Some held) e = absurd (cc)

row-held : (core : Core) (choice : Choice) (m : Row) → pop_stop core (Some (record { choice = choice; message = m })) ≡ None
    → ((after_pop core (Some (record { choice = choice; message = m }))).held ≡ core.held) ⊎ (core.held ≡ None)
row-held core choice (rows.Rd _ _ _ _) e = inr (none-held core.held e)
row-held core choice (rows.Wr _ _ _ _) e = inr (none-held core.held e)
row-held core choice (rows.UcRd _ _ _) e = inr (none-held core.held e)
row-held core choice (rows.UcWr _ _ _ _) e = inr (none-held core.held e)
row-held core choice (rows.Evict _ _ _ _) e = inr (none-held core.held e)
row-held core choice (rows.InvAck _ _ _) e = inl refl
row-held core choice (rows.Wb _ _ _ _) e = inl refl
row-held core choice (rows.Block _ _ _ _) e = inl refl
row-held core choice m e = inl refl

popped-held : (core : Core) (o : Option Head) → pop_stop core o ≡ None
    → ((after_pop core o).held ≡ core.held) ⊎ (core.held ≡ None)
popped-held core None e = inl refl
popped-held core (Some head) e = row-held core head.choice head.message e

-- no other instruction but `fin` changes it
waited-held : (core : Core) (choice : Choice) (o : Option Row) → (after_wait core choice o).held ≡ core.held
waited-held core choice None = refl
waited-held core choice (Some m) = refl

read-held : (core : Core) (o : Option Held) (f : Form) → (after_request_read core o f).held ≡ core.held
read-held core None f = refl
read-held core (Some held) (Mova a) = refl
read-held core (Some held) (Movs a) = refl
read-held core (Some held) (Movw a) = refl
read-held core (Some held) f = refl

-- AFTER AN INSTRUCTION that runs

-- what is kept where a request is held
abbrev kept_for : Option Held → Option Summary → Option Summary
kept_for request summed = if is_some request then summed else None

held-stands : (k : Shape) (d : Contents) (request : Option Held) (summed : Option Summary) → IsSummed k d request summed
    → IsSummed k d request (kept_for request summed)
held-stands k d None summed b = nothing k d None None refl
held-stands k d (Some held) summed b = b

stands : (k : Shape) (d : Contents) (request next : Option Held) (summed : Option Summary) → IsSummed k d request summed
    → next ≡ request → IsSummed k d next (kept_for next summed)
stands k d request next summed b e =
    subst (λ (o : Option Held). IsSummed k d o (kept_for o summed)) (sym e) (held-stands k d request summed b)

none-kept : (k : Shape) (d : Contents) (next : Option Held) (summed : Option Summary) → summed ≡ None
    → IsSummed k d next (kept_for next summed)
none-kept k d next summed e = nothing k d next (kept_for next summed)
    (cond_both (is_some next) summed None (λ (o : Option Summary). o ≡ None) (λ i. e) (λ i. refl))

after : (k : Shape) (d : Contents) (engine : EngineState) (sent : ℕ) (f : Form) (choice : Choice) (o : Option Row)
    (summed : Option Summary)
    → IsSummed k d engine.core.held summed → form_stop k engine f choice o ≡ None
    → (let next = (core_but_place engine.core sent f choice o).held in IsSummed k d next (kept_for next summed))
after k d engine sent Fin choice o summed b e = nothing k d None None refl
after k d engine sent (Popq wp) choice o summed b e = elim (popped-held engine.core engine.core.head e) [
  | inl same ↦ stands k d engine.core.held _ summed b same
  | inr none ↦ none-kept k d _ summed (b.none none)
]
after k d engine sent (Wfq classes) choice o summed b e = stands k d engine.core.held _ summed b (waited-held engine.core choice o)
after k d engine sent (Mova a) choice o summed b e =
    stands k d engine.core.held _ summed b (read-held engine.core engine.core.held (Mova a))
after k d engine sent (Movs a) choice o summed b e =
    stands k d engine.core.held _ summed b (read-held engine.core engine.core.held (Movs a))
after k d engine sent (Movw a) choice o summed b e =
    stands k d engine.core.held _ summed b (read-held engine.core engine.core.held (Movw a))
after k d engine sent f choice o summed b e = stands k d engine.core.held _ summed b refl

pub summed_after : (k : Shape) (d : Contents) (engine : EngineState) (sent : ℕ) (f : Form) (choice : Choice) (o : Option Row)
    (summed : Option Summary) (core : Core) (kept : Option Summary) (place : ℕ)
    → IsSummed k d engine.core.held summed → form_stop k engine f choice o ≡ None
    → core ≡ core_but_place engine.core sent f choice o → kept ≡ (if is_some core.held then summed else None)
    → IsSummed k d (record core { place = place }).held kept
summed_after k d engine sent f choice o summed core kept place b runs e i =
    let h = after k d engine sent f choice o summed b runs in
    subst (λ (x : Option Summary). IsSummed k d core.held x) (sym i)
    (subst (λ (x : Core). IsSummed k d x.held (kept_for x.held summed)) (sym e) h)

-- no instruction is a branch but the plain ones and `bk`: where any other one runs the next place comes
untaken : (k : Shape) (engine : EngineState) (f : Form) (choice : Choice) (o : Option Row) → is_plain f ≡ false
    → branch_runs engine.core f ≡ false → form_stop k engine f choice o ≡ None → is_branch_taken k engine f ≡ false
untaken k engine (Bi _) choice o e i runs = absurd (cc)
untaken k engine (Beq _ _ _) choice o e i runs = absurd (cc)
untaken k engine (Bne _ _ _) choice o e i runs = absurd (cc)
untaken k engine (Blt _ _ _) choice o e i runs = absurd (cc)
untaken k engine (Bge _ _ _) choice o e i runs = absurd (cc)
untaken k engine (Bk field _ _) choice o e i runs = absurd (both_ways (is_none (branch_stop engine.core field)) i (ap is_none runs))
untaken k engine f choice o e i runs = refl

pub next_is : (k : Shape) (engine : EngineState) (f : Form) (choice : Choice) (o : Option Row) → is_plain f ≡ false
    → branch_runs engine.core f ≡ false → form_stop k engine f choice o ≡ None → next_place k engine f ≡ engine.core.place + 1
next_is k engine f choice o e i runs =
    ap (λ (taken : Bool). if taken then target f else engine.core.place + 1) (untaken k engine f choice o e i runs)
