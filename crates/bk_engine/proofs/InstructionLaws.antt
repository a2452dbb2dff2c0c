-- The laws of the instructions.
use Rattle.std.proofs.Common.{◌≡◌, ◌≢◌, ℕ, zero, suc, ◌+◌, ◌<◌, [], ◌∷◌, Bool, true, false, ◌&&◌, cond, Option, Some, None, refl, subst, sym, ap, ◌∙◌, inl, inr, arith, zero-add}
use Rattle.std.specs.Prelude.{All, ◌==◌, nat_lt, not, if◌then◌else◌, slice_get}
use Rattle.std.proofs.lemmas.Bool.{cond_both, cond-true, cond-false, lt-ltb, le-ltb, eq-eqb, ne_eqb, and_left, and_right, or_from, or_left, or_right, and_from, cases_lt, not_from_true}
use Rattle.std.proofs.lemmas.Bool.Decides.{nat_tests}
use Rattle.std.proofs.lemmas.List.Elements.{All-append, All-cons, All-nil}
use Rattle.std.proofs.lemmas.List.Sums.{sum_by-append}
use Rattle.bk_base.specs.Places.{Shape, block_start, group_of, tag_at}
use Rattle.bk_base.specs.Counting.{join_below}
use Rattle.bk_base.specs.States.{is_readable}
use Rattle.bk_base.specs.Tables.{put}
use Rattle.bk_base.specs.declared.coh.Coh.{Coh}
use Rattle.bk_base.specs.declared.coh.Coh.TheVariants.{I}
use Rattle.bk_isa.specs.declared.form.Form.{Form}
use Rattle.bk_isa.specs.declared.form.Form.TheVariants.{Popq, Wde, Wds, Inv, Stwb, Wfq}
use Rattle.bk_msg.specs.declared.row.Row.{Row}
use Rattle.bk_msg.specs.declared.row.Row.TheVariants as rows
use Rattle.bk_msg.specs.declared.row.TheConstants.{ENGINE}
use Rattle.bk_msg.specs.declared.row.Network.TheVariants as networks
use Rattle.bk_msg.specs.Networks.{network_of, address_of, receiver_of}
use Rattle.bk_dir.specs.declared.entry.Entry.{Entry}
use Rattle.bk_dir.specs.declared.entry.Summary.{Summary}
use Rattle.bk_dir.specs.Contents.{Contents, with_state, with_pending}
use Rattle.bk_dir.specs.Laws.{Holds}
use Rattle.bk_dir.specs.Summaries.{holds, has_bit, shares, is_other}
use Rattle.bk_dir.proofs.SummaryLaws.{bits-law}
use Rattle.bk_engine.specs.declared.parts.Choice.{Choice}
use Rattle.bk_engine.specs.declared.parts.Head.{Head}
use Rattle.bk_engine.specs.declared.parts.Held.{Held}
use Rattle.bk_engine.specs.declared.stop.Halt.{Halt}
use Rattle.bk_engine.specs.declared.stop.Stop.{Stop}
use Rattle.bk_engine.specs.declared.stop.Stop.TheVariants.{Halts, Waits}
use Rattle.bk_engine.specs.Engine.{EngineState}
use Rattle.bk_engine.specs.Heads.{head_number, names_class}
use Rattle.bk_engine.specs.Reads.{query_of, summary_for}
use Rattle.bk_engine.specs.Changes.{wiped_entry, wiped_ways, with_invalid_block, with_state_at, with_named_state, directory_for_held, with_message_mark, with_head_mark, directory_after}
use Rattle.bk_engine.specs.Sends.{is_owner, is_invalidated, inv_to, invs, sends_held, sends}
use Rattle.bk_engine.specs.Stops.{wait_stop, form_stop, stop_at}
use Rattle.bk_engine.specs.Laws.{is_marking, OnlyPopMarks, IsMarked, RequestMarks, ResponseMarks, BlockMarksNone, writes_entries, OnlyFourWrite, count_to, InvSends, IsInvalidated, InvReaches, InvReachesOwner, HaltsForGood}
use Rattle.bk_engine.proofs.Outward.{owner-within}
use Rattle.bk_engine.proofs.Wiping.{put-at, put-other}

-- PENDING BITS

written-pending : (d : Contents) (set : ℕ) (at : Option (ℕ × ℕ)) (state : Coh)
    → (with_state_at d set at state).pending ≡ d.pending
written-pending d set None state = refl
written-pending d set (Some at) state = refl

named-pending : (k : Shape) (d : Contents) (held : Held) (who : ℕ) (state : Coh)
    → (with_named_state k d held who state).pending ≡ d.pending
named-pending k d held who state =
    let own = with_state d held.source (group_of k held.addr) (summary_for k d held).own_way state in
    let owners = with_state_at d (group_of k held.addr) (summary_for k d held).owner state in
    let victim = with_state d held.source (group_of k held.addr) held.way state in
    cond_both (who == 0) own (if who == 1 then owners else victim) (λ (contents : Contents). contents.pending ≡ d.pending) (λ e. refl)
    (λ e. cond_both (who == 1) owners victim (λ (contents : Contents). contents.pending ≡ d.pending)
    (λ i. written-pending d (group_of k held.addr) (summary_for k d held).owner state) (λ i. refl))

held-pending : (k : Shape) (d : Contents) (o : Option Held) (f : Form) → (directory_for_held k d o f).pending ≡ d.pending
held-pending k d None f = refl
held-pending k d (Some held) (Wds who state) = named-pending k d held who state
held-pending k d (Some held) (Stwb who state) = named-pending k d held who state
held-pending k d (Some held) f = refl

marks-not : (k : Shape) (engine : EngineState) (f : Form) → is_marking f ≡ false
    → (directory_after k engine f).pending ≡ engine.directory.pending
marks-not k engine (Popq wp) e =
    ap (λ (d : Contents). d.pending) (cond-false (wp == 1) (with_head_mark k engine.directory engine.core.head) engine.directory e)
marks-not k engine f e = held-pending k engine.directory engine.core.held f

pub only_pop_marks : OnlyPopMarks
only_pop_marks k n f e = marks-not k n f e

-- a head that is popped with `wp` marks its group
marked : (k : Shape) (engine : EngineState) (head : Head) (bit : Bool) → engine.core.head ≡ Some head
    → with_message_mark k engine.directory (head_number head.message) head.message
    ≡ with_pending engine.directory (group_of k (address_of head.message)) bit
    → IsMarked k engine head bit
marked k engine head bit e m =
    let g : ℕ = group_of k (address_of head.message) in
    let after : with_head_mark k engine.directory engine.core.head ≡ with_pending engine.directory g bit =
    ap (λ (o : Option Head). with_head_mark k engine.directory o) e
    ∙ m in
    record {
      own = ap (λ (d : Contents). d.pending g) after ∙ put-at engine.directory.pending g bit;
      others = λ h ne. ap (λ (d : Contents). d.pending h) after ∙ put-other engine.directory.pending g bit h ne;
    }

request-marked : (k : Shape) (d : Contents) (m : Row) → network_of m ≡ networks.Request
    → with_message_mark k d (head_number m) m ≡ with_pending d (group_of k (address_of m)) true
request-marked k d (rows.Rd source to way addr) e = refl
request-marked k d (rows.Wr source to way addr) e = refl
request-marked k d (rows.UcRd source to addr) e = refl
request-marked k d (rows.UcWr source to addr word) e = refl
request-marked k d (rows.Evict source to way addr) e = refl
request-marked k d m e = absurd (cc)

pub request_marks : RequestMarks
request_marks k n head e i = marked k n head true e (request-marked k n.directory head.message i)

response-marked : (k : Shape) (d : Contents) (m : Row) → network_of m ≡ networks.Response
    → with_message_mark k d (head_number m) m ≡ with_pending d (group_of k (address_of m)) false
response-marked k d (rows.InvAck source to addr) e = refl
response-marked k d (rows.CohAck source to addr) e = refl
response-marked k d (rows.Wb source to addr words) e = refl
response-marked k d (rows.NullWb source to addr) e = refl
response-marked k d m e = absurd (cc)

pub response_marks : ResponseMarks
response_marks k n head e i = marked k n head false e (response-marked k n.directory head.message i)

block-marked : (k : Shape) (d : Contents) (m : Row) → network_of m ≡ networks.Memin → with_message_mark k d (head_number m) m ≡ d
block-marked k d (rows.Block source to addr words) e = refl
block-marked k d m e = absurd (cc)

pub block_marks_none : BlockMarksNone
block_marks_none k n head e i =
    ap (λ (o : Option Head). (with_head_mark k n.directory o).pending) e
    ∙ ap (λ (d : Contents). d.pending) (block-marked k n.directory head.message i)

-- ENTRIES

message-entries : (k : Shape) (d : Contents) (kind : ℕ) (m : Row) → (with_message_mark k d kind m).entries ≡ d.entries
message-entries k d kind m =
    let g : ℕ = group_of k (address_of m) in
    cond_both (kind == 1) (with_pending d g true) (if nat_lt 1 kind && nat_lt kind 6 then with_pending d g false else d)
    (λ (contents : Contents). contents.entries ≡ d.entries) (λ e. refl)
    (λ e. cond_both (nat_lt 1 kind && nat_lt kind 6) (with_pending d g false) d (λ (contents : Contents). contents.entries ≡ d.entries)
    (λ i. refl) (λ i. refl))

pub head-entries : (k : Shape) (d : Contents) (o : Option Head) → (with_head_mark k d o).entries ≡ d.entries
head-entries k d None = refl
head-entries k d (Some head) = message-entries k d (head_number head.message) head.message

held-entries : (k : Shape) (d : Contents) (o : Option Held) (f : Form) → writes_entries f ≡ false
    → (directory_for_held k d o f).entries ≡ d.entries
held-entries k d None f e = refl
held-entries k d (Some held) (Wde state) e = absurd (cc)
held-entries k d (Some held) (Wds who state) e = absurd (cc)
held-entries k d (Some held) (Inv a) e = absurd (cc)
held-entries k d (Some held) (Stwb who state) e = absurd (cc)
held-entries k d (Some held) f e = refl

writes-not : (k : Shape) (engine : EngineState) (f : Form) → writes_entries f ≡ false
    → (directory_after k engine f).entries ≡ engine.directory.entries
writes-not k engine (Popq wp) e =
    cond_both (wp == 1) (with_head_mark k engine.directory engine.core.head) engine.directory (λ (d : Contents). d.entries
    ≡ engine.directory.entries)
    (λ i. head-entries k engine.directory engine.core.head) (λ i. refl)
writes-not k engine f e = held-entries k engine.directory engine.core.held f e

pub only_four_write : OnlyFourWrite
only_four_write k n f e = writes-not k n f e

-- HALTS

wait-again : (o : Option Head) (classes : ℕ) (reason : Halt) (first next : Choice) (offered later : Option Row)
    → wait_stop o classes first offered ≡ Some (Halts reason) → wait_stop o classes next later ≡ Some (Halts reason)
wait-again (Some head) classes reason first next offered later e = e
wait-again None classes reason first next None later e = absurd (cc)
wait-again None classes reason first next (Some m) later e =
    absurd (cond_both (names_class classes first.class) None (Some (Waits classes)) (λ (x : Option Stop). x
    ≡ Some (Halts reason) → ⊥)
    (λ i. λ j. cc) (λ i. λ j. cc) e)

form-again : (k : Shape) (engine : EngineState) (f : Form) (reason : Halt) (first next : Choice) (offered later : Option Row)
    → form_stop k engine f first offered ≡ Some (Halts reason) → form_stop k engine f next later ≡ Some (Halts reason)
form-again k engine (Wfq classes) reason first next offered later e = wait-again engine.core.head classes reason first next offered later e
form-again k engine f reason first next offered later e = e

at-again : (k : Shape) (engine : EngineState) (o : Option Form) (reason : Halt) (first next : Choice) (offered later : Option Row)
    → stop_at k engine o first offered ≡ Some (Halts reason) → stop_at k engine o next later ≡ Some (Halts reason)
at-again k engine None reason first next offered later e = e
at-again k engine (Some f) reason first next offered later e = form-again k engine f reason first next offered later e

pub halts_for_good : HaltsForGood
halts_for_good k n program reason first next offered later e =
    at-again k n (slice_get program n.core.place) reason first next offered later e

-- INVALIDATIONS

each-of : (held : Held) (b : Bool) (summary : Summary) (n : ℕ)
    → All (λ m. m ≡ rows.Inv ENGINE (receiver_of m) (block_start held.addr)) (join_below n (inv_to held b summary))
each-of held b summary zero = All-nil (λ m. m ≡ rows.Inv ENGINE (receiver_of m) (block_start held.addr))
each-of held b summary (suc n) =
    let P : Row → Type 0 = λ m. m ≡ rows.Inv ENGINE (receiver_of m) (block_start held.addr) in
    All-append P (join_below n (inv_to held b summary)) (inv_to held b summary n) (each-of held b summary n)
    (cond_both (is_invalidated b summary n) (rows.Inv ENGINE n (block_start held.addr) ∷ []) [] (λ xs. All P xs)
    (λ e. All-cons P (rows.Inv ENGINE n (block_start held.addr)) [] refl (All-nil P)) (λ e. All-nil P))

-- how many of them go to a cache

one-count : (held : Held) (test : Bool) (summary : Summary) (c n : ℕ)
    → count_to c (inv_to held test summary n) ≡ cond (is_invalidated test summary n && n == c) 1 0
one-count held test summary c n =
    let b : Bool = is_invalidated test summary n in
    cond_both b (rows.Inv ENGINE n (block_start held.addr) ∷ []) [] (λ xs. count_to c xs ≡ cond (b && n == c) 1 0)
    (λ e. zero-add (cond (n == c) 1 0) ∙ sym (ap (λ (also : Bool). cond (also && n == c) 1 0) e))
    (λ e. sym (ap (λ (also : Bool). cond (also && n == c) 1 0) e))

one-more : (c n number y : ℕ) (here there : Bool) → (c ≡ n → here ≡ there) → number ≡ cond (nat_lt c n && here) 1 0
    → y ≡ cond (there && n == c) 1 0
    → number + y ≡ cond (nat_lt c (suc n) && here) 1 0
one-more c n number y true true same e i = grind (arith, nat_tests)
one-more c n number y true false same e i = grind (arith, nat_tests)
one-more c n number y false true same e i = grind (arith, nat_tests)
one-more c n number y false false same e i = grind (arith, nat_tests)

-- a cache below n is sent one where it is chosen, and any other none
counts-below : (held : Held) (b : Bool) (summary : Summary) (c n : ℕ)
    → count_to c (join_below n (inv_to held b summary)) ≡ cond (nat_lt c n && is_invalidated b summary c) 1 0
counts-below held b summary c zero =
    sym (cond-false (nat_lt c 0 && is_invalidated b summary c) 1 0
    (and_left (nat_lt c 0) (is_invalidated b summary c) (le-ltb c 0 (omega arith))))
counts-below held b summary c (suc n) =
    sum_by-append (λ m. cond (receiver_of m == c) 1 0) (join_below n (inv_to held b summary)) (inv_to held b summary n)
    ∙ one-more c n (count_to c (join_below n (inv_to held b summary))) (count_to c (inv_to held b summary n)) (is_invalidated b summary c)
    (is_invalidated b summary n)
    (λ e. ap (λ i. is_invalidated b summary i) e) (counts-below held b summary c n) (one-count held b summary c n)

-- what `inv` sends, for a held request
inv-list : (k : Shape) (engine : EngineState) (held : Held) (a : ℕ) → engine.core.held ≡ Some held
    → sends k engine (Inv a) ≡ invs k held (a == 1) (summary_for k engine.directory held)
inv-list k engine held a e = ap (λ (o : Option Held). sends_held k engine o (Inv a)) e

not-asker : (o : Option (ℕ × ℕ)) (c : ℕ) → ((at : ℕ × ℕ) → o ≡ Some at → at.0 ≢ c) → is_owner o c ≡ false
not-asker None c h = refl
not-asker (Some at) c h = ne_eqb c at.0 (λ e. h at refl (sym e))

-- a cache that is none of the others nor, where it is asked for, the owner is sent none
unsent : (k : Shape) (d : Contents) (held : Held) (b : Bool) (c : ℕ) → is_other k d (query_of k held) c ≡ false
    → (b && is_owner (summary_for k d held).owner c) ≡ false
    → (nat_lt c k.caches && is_invalidated b (summary_for k d held) c) ≡ false
unsent k d held b c other owner =
    let s = summary_for k d held in
    elim (cases_lt c k.caches) [
      | inl l ↦ and_right (nat_lt c k.caches) (is_invalidated b s c)
          (or_from (has_bit s.others c) (b && is_owner s.owner c) (bits-law k d (query_of k held) c l ∙ other) owner)
      | inr g ↦ and_left (nat_lt c k.caches) (is_invalidated b s c) (le-ltb c k.caches g)
    ]

-- nor is the cache that asks, which is none of them
pub asker-unsent : (k : Shape) (d : Contents) (held : Held) (b : Bool)
    → (nat_lt held.source k.caches && is_invalidated b (summary_for k d held) held.source) ≡ false
asker-unsent k d held b =
    let s = summary_for k d held in
    unsent k d held b held.source
    (and_left (not (held.source == held.source)) (shares k d held.source (group_of k held.addr) (tag_at k held.addr))
    (not_from_true (held.source == held.source) (eq-eqb held.source held.source refl)))
    (and_right b (is_owner s.owner held.source)
    (not-asker s.owner held.source (λ at e. (owner-within k d (query_of k held) at e).is_other)))

pub inv_sends : InvSends
inv_sends k n held a e =
    let s = summary_for k n.directory held in
    let list : sends k n (Inv a) ≡ invs k held (a == 1) s = inv-list k n held a e in
    let count : (c : ℕ) → (nat_lt c k.caches && is_invalidated (a == 1) s c) ≡ false
    → count_to c (sends k n (Inv a)) ≡ 0 = λ c i.
    ap (λ xs. count_to c xs) list ∙ counts-below held (a == 1) s c k.caches
    ∙ cond-false (nat_lt c k.caches && is_invalidated (a == 1) s c) 1 0 i in
    record {
      each = subst (λ xs. All (λ m. m ≡ rows.Inv ENGINE (receiver_of m) (block_start held.addr)) xs) (sym list)
          (each-of held (a == 1) s k.caches);
      asker = count held.source (asker-unsent k n.directory held (a == 1));
      nobody_else = λ c other owner. count c (unsent k n.directory held (a == 1) c other owner);
    }

-- a wiped entry doesn't hold the block
wiped-gone : (tag : ℕ) (entry : Entry) → Holds (wiped_entry tag entry) tag → ⊥
wiped-gone tag entry =
    cond_both (holds entry tag) (record entry { state = I }) entry (λ (x : Entry). Holds x tag → ⊥)
    (λ e. λ h. let wrong : false ≡ true = h.is_valid in cc)
    (λ e. λ h.
    let right : holds entry tag ≡ true =
    and_from (is_readable entry.state) (entry.tag == tag) h.is_valid (eq-eqb entry.tag tag h.is_tag) in cc)

-- nor does any way of a cache that is sent an invalidation
pub wiped-entries : (k : Shape) (d : Contents) (held : Held) (b : Bool) (summary : Summary) (c v : ℕ)
    → is_invalidated b summary c ≡ true → v < k.ways
    → (with_invalid_block k d held b summary).entries c (group_of k held.addr) v
    ≡ wiped_entry (tag_at k held.addr) (d.entries c (group_of k held.addr) v)
wiped-entries k d held b summary c v on l =
    let g : ℕ = group_of k held.addr in
    let row : ℕ → Entry = wiped_ways k (tag_at k held.addr) (d.entries c g) in
    ap (λ (f : ℕ → ℕ → Entry). f g v) (cond-true (is_invalidated b summary c) (put (d.entries c) g row) (d.entries c) on)
    ∙ ap (λ (f : ℕ → Entry). f v) (put-at (d.entries c) g row)
    ∙ cond-true (nat_lt v k.ways) (wiped_entry (tag_at k held.addr) (d.entries c g v)) (d.entries c g v) (lt-ltb v k.ways l)

-- a cache that is sent one
reached : (k : Shape) (engine : EngineState) (held : Held) (a c : ℕ) → engine.core.held ≡ Some held → c < k.caches
    → is_invalidated (a == 1) (summary_for k engine.directory held) c ≡ true → IsInvalidated k engine held a c
reached k engine held a c e l on =
    let s = summary_for k engine.directory held in
    let after : directory_after k engine (Inv a) ≡ with_invalid_block k engine.directory held (a == 1) s =
    ap (λ (o : Option Held). directory_for_held k engine.directory o (Inv a)) e in
    record {
      once = ap (λ xs. count_to c xs) (inv-list k engine held a e) ∙ counts-below held (a == 1) s c k.caches
          ∙ cond-true (nat_lt c k.caches && is_invalidated (a == 1) s c) 1 0
          (and_from (nat_lt c k.caches) (is_invalidated (a == 1) s c) (lt-ltb c k.caches l) on);
      gone = λ v i h. wiped-gone (tag_at k held.addr) (engine.directory.entries c (group_of k held.addr) v)
          (subst (λ (x : Entry). Holds x (tag_at k held.addr))
          (ap (λ (x : Contents). x.entries c (group_of k held.addr) v) after
          ∙ wiped-entries k engine.directory held (a == 1) s c v on i) h);
    }

pub inv_reaches : InvReaches
inv_reaches k n held a c e l other =
    let s = summary_for k n.directory held in
    reached k n held a c e l
    (or_left (has_bit s.others c) ((a == 1) && is_owner s.owner c) (bits-law k n.directory (query_of k held) c l ∙ other))

pub inv_reaches_owner : InvReachesOwner
inv_reaches_owner k n held at e o =
    let s = summary_for k n.directory held in
    reached k n held 1 at.0 e (owner-within k n.directory (query_of k held) at o).cache_within
    (or_right (has_bit s.others at.0) (is_owner s.owner at.0) (ap (λ (x : Option (ℕ × ℕ)). is_owner x at.0) o
    ∙ eq-eqb at.0 at.0 refl))
