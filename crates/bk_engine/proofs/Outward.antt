-- What an engine sends and pops is of the configuration.
use Rattle.std.proofs.Common.{◌≡◌, ℕ, zero, suc, ◌<◌, ◌≤◌, List, [], ◌∷◌, Bool, Option, Some, None, refl, subst, sym, inl, inr, arith}
use Rattle.std.specs.Prelude.{All, IfSome, MatchOption, ◌==◌, if◌then◌else◌}
use Rattle.std.proofs.lemmas.Bool.{cond_both}
use Rattle.std.proofs.lemmas.List.Elements.{All-append, All-cons, All-nil, All-same}
use Rattle.bk_base.specs.Places.{Shape, block_start}
use Rattle.bk_base.specs.Counting.{join_below}
use Rattle.bk_base.specs.declared.coh.Coh.{Coh}
use Rattle.bk_base.specs.declared.coh.Coh.TheVariants.{I}
use Rattle.bk_isa.specs.declared.form.Form.{Form}
use Rattle.bk_isa.specs.declared.form.Form.TheVariants.{Popq, Inv, Stwb, Blk, Wake, Tr, Ucblk, Ucdone, Done, Memrd, Memwb, Memww}
use Rattle.bk_msg.specs.declared.row.Row.{Row}
use Rattle.bk_msg.specs.declared.row.Row.TheVariants as rows
use Rattle.bk_msg.specs.declared.row.TheConstants.{ENGINE}
use Rattle.bk_msg.specs.Within.{IsWay}
use Rattle.bk_dir.specs.declared.entry.Query.{Query}
use Rattle.bk_dir.specs.declared.entry.Summary.{Summary}
use Rattle.bk_dir.specs.Contents.{Contents}
use Rattle.bk_dir.specs.Laws.{IsOwner, NoOwner}
use Rattle.bk_dir.specs.Summaries.{summary}
use Rattle.bk_dir.proofs.SummaryLaws.{owner-law}
use Rattle.bk_engine.specs.declared.parts.Choice.{Choice}
use Rattle.bk_engine.specs.declared.parts.Head.{Head}
use Rattle.bk_engine.specs.declared.parts.Held.{Held}
use Rattle.bk_engine.specs.declared.parts.DirtyBlock.{DirtyBlock}
use Rattle.bk_engine.specs.Engine.{EngineState}
use Rattle.bk_engine.specs.Heads.{IsHead, IsSound}
use Rattle.bk_engine.specs.Step.{IsOutward, choice_of, pops}
use Rattle.bk_engine.specs.Reads.{query_of, summary_for}
use Rattle.bk_engine.specs.Sends.{is_invalidated, inv_to, flush_to, victim_address, flushes, transfer_to, grants, answers_word, writes_back, sends_for, sends_held, sends}

-- the owner is a cache of the configuration
pub owner-within : (k : Shape) (d : Contents) (query : Query) (at : ℕ × ℕ) → (summary k d query).owner ≡ Some at
    → IsOwner k d query at.0 at.1
owner-within k d query at e =
    let P : Option (ℕ × ℕ) → Type 0 = λ o. MatchOption o (NoOwner k d query × ((summary k d query).owner_state ≡ I))
    (λ a. IsOwner k d query a.0 a.1 × ((summary k d query).owner_state ≡ (d.entries a.0 query.set a.1).state)) in
    (subst P e (owner-law k d query)).0

none : (k : Shape) → All (IsOutward k) []
none k = All-nil (IsOutward k)

one : (k : Shape) (m : Row) → IsOutward k m → All (IsOutward k) (m ∷ [])
one k m h = All-cons (IsOutward k) m [] h (All-nil (IsOutward k))

inv_to-outward : (k : Shape) (held : Held) (with_owner : Bool) (summary : Summary) (c : ℕ) → c < k.caches
    → All (IsOutward k) (inv_to held with_owner summary c)
inv_to-outward k held with_owner summary c l =
    cond_both (is_invalidated with_owner summary c) (rows.Inv ENGINE c (block_start held.addr) ∷ []) [] (λ xs. All (IsOutward k) xs)
    (λ e. (one k _ (record { within = l; network = inl refl }))) (λ e. none k)

invs-below : (k : Shape) (held : Held) (with_owner : Bool) (summary : Summary) (n : ℕ) → n ≤ k.caches
    → All (IsOutward k) (join_below n (inv_to held with_owner summary))
invs-below k held with_owner summary zero l = none k
invs-below k held with_owner summary (suc n) l =
    All-append (IsOutward k) (join_below n (inv_to held with_owner summary)) (inv_to held with_owner summary n)
    (invs-below k held with_owner summary n (omega arith)) (inv_to-outward k held with_owner summary n (omega arith))

flush_to-outward : (k : Shape) (at : Option (ℕ × ℕ)) (state : Coh) (addr : ℕ)
    → ((a : ℕ × ℕ) → at ≡ Some a → a.0 < k.caches)
    → All (IsOutward k) (flush_to at state addr)
flush_to-outward k None state addr l = none k
flush_to-outward k (Some at) state addr l = one k _ (record { within = l at refl; network = inl refl })

owner-cache : (k : Shape) (d : Contents) (held : Held) (at : ℕ × ℕ) → (summary_for k d held).owner ≡ Some at → at.0 < k.caches
owner-cache k d held at e = (owner-within k d (query_of k held) at e).cache_within

flushes-outward : (k : Shape) (d : Contents) (held : Held) (who : ℕ) (state : Coh) → held.source < k.caches
    → All (IsOutward k) (flushes k d held who state)
flushes-outward k d held who state l =
    let own : List Row = rows.StWb ENGINE held.source state (block_start held.addr) ∷ [] in
    let owners : List Row = flush_to (summary_for k d held).owner state held.addr in
    let victim : List Row = rows.StWb ENGINE held.source state (block_start (victim_address k d held)) ∷ [] in
    cond_both (who == 0) own (if who == 1 then owners else victim) (λ xs. All (IsOutward k) xs)
    (λ e. one k _ (record { within = l; network = inl refl }))
    (λ e. cond_both (who == 1) owners victim (λ xs. All (IsOutward k) xs)
    (λ i. flush_to-outward k (summary_for k d held).owner state held.addr (λ at j. owner-cache k d held at j))
    (λ i. one k _ (record { within = l; network = inl refl })))

transfer_to-outward : (k : Shape) (held : Held) (at : Option (ℕ × ℕ)) (a b : Coh) → IsWay k held.source held.way
    → ((o : ℕ × ℕ) → at ≡ Some o → o.0 < k.caches)
    → All (IsOutward k) (transfer_to held at a b)
transfer_to-outward k held None a b w l = none k
transfer_to-outward k held (Some at) a b w l = one k _ (record { within = (l at refl, w); network = inl refl })

grants-outward : (k : Shape) (held : Held) (state : Coh) (got : Option (List ℕ)) → IsWay k held.source held.way
    → All (IsOutward k) (grants held state got)
grants-outward k held state None w = none k
grants-outward k held state (Some words) w = one k _ (record { within = w; network = inl refl })

word-outward : (k : Shape) (held : Held) (got : Option (List ℕ)) → held.source < k.caches → All (IsOutward k) (answers_word held got)
word-outward k held None l = none k
word-outward k held (Some words) l = one k _ (record { within = l; network = inl refl })

back-outward : (k : Shape) (dirty : Option DirtyBlock) → All (IsOutward k) (writes_back dirty)
back-outward k None = none k
back-outward k (Some kept) = one k _ (record { within = tt; network = inr refl })

for-outward : (k : Shape) (engine : EngineState) (held : Held) (f : Form) → IsWay k held.source held.way
    → All (IsOutward k) (sends_for k engine held f)
for-outward k engine held (Inv a) w = invs-below k held (a == 1) (summary_for k engine.directory held) k.caches (omega arith)
for-outward k engine held (Stwb who state) w = flushes-outward k engine.directory held who state w.cache
for-outward k engine held (Tr a b) w =
    transfer_to-outward k held (summary_for k engine.directory held).owner a b w (λ at j. owner-cache k engine.directory held at j)
for-outward k engine held (Blk state) w = grants-outward k held state engine.core.got w
for-outward k engine held Wake w = one k _ (record { within = w; network = inl refl })
for-outward k engine held Ucblk w = word-outward k held engine.core.got w.cache
for-outward k engine held Ucdone w = one k _ (record { within = w.cache; network = inl refl })
for-outward k engine held Done w = one k _ (record { within = w.cache; network = inl refl })
for-outward k engine held Memrd w = one k _ (record { within = tt; network = inr refl })
for-outward k engine held Memww w = one k _ (record { within = tt; network = inr refl })
for-outward k engine held f w = none k

held-outward : (k : Shape) (engine : EngineState) (o : Option Held) (f : Form) → ((h : Held) → o ≡ Some h → IsWay k h.source h.way)
    → All (IsOutward k) (sends_held k engine o f)
held-outward k engine None f w = none k
held-outward k engine (Some held) f w = for-outward k engine held f (w held refl)

-- each message is of the configuration
pub sends_outward : (k : Shape) (engine : EngineState) (f : Form) → IsSound k engine.core → All (IsOutward k) (sends k engine f)
sends_outward k engine Memwb b = back-outward k engine.core.dirty
sends_outward k engine f b = held-outward k engine engine.core.held f b.held

-- so of a list that is what is sent
pub sent_outward : (k : Shape) (engine : EngineState) (f : Form) (sent : List Row) → sent ≡ sends k engine f → IsSound k engine.core
    → All (IsOutward k) sent
sent_outward k engine f sent e b = All-same (IsOutward k) sent (sends k engine f) e (sends_outward k engine f b)

choice-within : (k : Shape) (o : Option Head) → ((h : Head) → o ≡ Some h → IsHead k h)
    → IfSome (choice_of o) (λ choice. choice.source < k.caches)
choice-within k None b = tt
choice-within k (Some head) b = (b head refl).source

pops-within : (k : Shape) (engine : EngineState) (f : Form) → IsSound k engine.core
    → IfSome (pops engine f) (λ choice. choice.source < k.caches)
pops-within k engine (Popq _) b = choice-within k engine.core.head b.head
pops-within k engine f b = tt

-- and so is the head that is popped
pub popped_within : (k : Shape) (engine : EngineState) (f : Form) (popped : Option Choice) → popped ≡ pops engine f
    → IsSound k engine.core
    → IfSome popped (λ choice. choice.source < k.caches)
popped_within k engine f popped e b =
    subst (λ (o : Option Choice). IfSome o (λ choice. choice.source < k.caches)) (sym e) (pops-within k engine f b)
