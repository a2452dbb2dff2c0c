-- What is kept of the directory is renewed where an instruction writes entries.
use Rattle.std.proofs.Common.{◌≡◌, ◌≢◌, ◌∙◌, ℕ, zero, suc, ◌<◌, Bool, true, false, Option, Some, None, refl, subst, sym, ap, inl, inr, arith, not}
use Rattle.std.specs.Prelude.{◌&&◌, ◌==◌, nat_lt, if◌then◌else◌, is_some}
use Rattle.std.proofs.lemmas.Bool.{cond_both, cond-false, cases_Bool, and_right, and_cases, or_parts, both_ways, lt-ltb, ne_eqb}
use Rattle.bk_base.specs.Places.{Shape, group_of, tag_at}
use Rattle.bk_base.specs.Counting.{first_below, least_below}
use Rattle.bk_base.specs.States.{is_owner_like}
use Rattle.bk_base.specs.declared.coh.Coh.{Coh}
use Rattle.bk_base.specs.declared.coh.Coh.TheVariants.{I}
use Rattle.bk_base.proofs.Below.{first_below-none, first_below-some, first_below-found}
use Rattle.bk_dir.specs.declared.entry.Entry.{Entry}
use Rattle.bk_dir.specs.declared.entry.Query.{Query}
use Rattle.bk_dir.specs.declared.entry.Summary.{Summary}
use Rattle.bk_dir.specs.Contents.{Contents, with_entry, with_state}
use Rattle.bk_dir.specs.Summaries.{holds, is_shared, has_bit, bits_below, with_cache, owner_at, owner, owner_state, is_other, summary, AgreeElsewhere}
use Rattle.bk_dir.proofs.Renewed.{owner_at-same, is_other-same, own-same, own_way-same, victim-same, same_fields}
use Rattle.bk_dir.proofs.SummaryLaws.{bits-law}
use Rattle.bk_engine.specs.declared.parts.Held.{Held}
use Rattle.bk_engine.specs.Changes.{wiped_entry, with_invalid_block, with_state_at, with_named_state, wipes_owner, unshared}
use Rattle.bk_engine.specs.Reads.{query_of, summary_for}
use Rattle.bk_engine.specs.Sends.{is_owner, is_invalidated}
use Rattle.bk_engine.specs.Summed.{Tells}
use Rattle.bk_engine.proofs.InstructionLaws.{asker-unsent, wiped-entries}
use Rattle.bk_engine.proofs.Wiping.{put-other}

-- BELOW A COUNT, where no number has an answer, and where none passes a test

first_below-empty : {X : Type 0} (n : ℕ) (f : ℕ → Option X) → ((i : ℕ) → i < n → f i ≡ None) → first_below n f ≡ None
first_below-empty zero f h = refl
first_below-empty (suc n) f h = rw (first_below-empty n f (λ i l. h i (omega arith)), h n (omega arith)) refl

bits-empty : (n : ℕ) (test : ℕ → Bool) → ((i : ℕ) → i < n → test i ≡ false) → bits_below n test ≡ 0
bits-empty zero test h = refl
bits-empty (suc n) test h = rw (bits-empty n test (λ i l. h i (omega arith)), h n (omega arith)) refl

-- A CACHE THAT IS SENT AN INVALIDATION has neither an owner's entry nor one in S

wiped-not : (tag : ℕ) (entry : Entry) → holds (wiped_entry tag entry) tag ≡ false
wiped-not tag entry =
    cond_both (holds entry tag) (record entry { state = I }) entry (λ (x : Entry). holds x tag ≡ false) (λ e. refl) (λ e. e)

not-answered : (x : Entry) (tag w : ℕ) (test : Entry → Bool) → holds x tag ≡ false
    → (if holds x tag && test x then Some w else None) ≡ None
not-answered x tag w test e = rw e refl

none-passes : (k : Shape) (d : Contents) (held : Held) (b : Bool) (sm : Summary) (c : ℕ) (test : Entry → Bool)
    → is_invalidated b sm c ≡ true
    → (let later = with_invalid_block k d held b sm in
    least_below k.ways (λ w. holds (later.entries c (group_of k held.addr) w) (tag_at k held.addr)
    && test (later.entries c (group_of k held.addr) w))) ≡ None
none-passes k d held b sm c test on =
    let later = with_invalid_block k d held b sm in
    let g : ℕ = group_of k held.addr in
    let tag : ℕ = tag_at k held.addr in
    first_below-empty k.ways (λ w. if holds (later.entries c g w) tag && test (later.entries c g w) then Some w else None)
    (λ w l. not-answered (later.entries c g w) tag w test
    (ap (λ (x : Entry). holds x tag) (wiped-entries k d held b sm c w on l) ∙ wiped-not tag (d.entries c g w)))

owner_at-wiped : (k : Shape) (d : Contents) (held : Held) (b : Bool) (sm : Summary) (c : ℕ) → is_invalidated b sm c ≡ true
    → owner_at k (with_invalid_block k d held b sm) (query_of k held) c ≡ None
owner_at-wiped k d held b sm c on =
    ap (λ (o : Option ℕ). if c == held.source then None else with_cache c o)
    (none-passes k d held b sm c (λ (x : Entry). is_owner_like x.state) on)
    ∙ cond_both (c == held.source) None None (λ (o : Option (ℕ × ℕ)). o ≡ None) (λ e. refl) (λ e. refl)

is_other-wiped : (k : Shape) (d : Contents) (held : Held) (b : Bool) (sm : Summary) (c : ℕ) → is_invalidated b sm c ≡ true
    → is_other k (with_invalid_block k d held b sm) (query_of k held) c ≡ false
is_other-wiped k d held b sm c on =
    ap (λ (o : Option ℕ). not (c == held.source) && is_some o)
    (none-passes k d held b sm c (λ (x : Entry). is_shared x.state) on)
    ∙ and_right (not (c == held.source)) false refl

-- ANY OTHER CACHE is as it was, the asking one among them

spared : (k : Shape) (d : Contents) (held : Held) (b : Bool) (sm : Summary) (c : ℕ) → is_invalidated b sm c ≡ false
    → d.entries c ≡ (with_invalid_block k d held b sm).entries c
spared k d held b sm c off = sym (cond-false (is_invalidated b sm c) _ (d.entries c) off)

asker-spared : (k : Shape) (d : Contents) (held : Held) (b : Bool) → held.source < k.caches
    → is_invalidated b (summary_for k d held) held.source ≡ false
asker-spared k d held b l =
    elim (and_cases (nat_lt held.source k.caches) (is_invalidated b (summary_for k d held) held.source) (asker-unsent k d held b)) [
      | inl e ↦ absurd (both_ways (nat_lt held.source k.caches) e (lt-ltb held.source k.caches l))
      | inr e ↦ e
    ]

owner_at-spared : (k : Shape) (d : Contents) (held : Held) (b : Bool) (sm : Summary) (c : ℕ) → is_invalidated b sm c ≡ false
    → owner_at k d (query_of k held) c ≡ owner_at k (with_invalid_block k d held b sm) (query_of k held) c
owner_at-spared k d held b sm c off =
    owner_at-same k d (with_invalid_block k d held b sm) (query_of k held) c
    (ap (λ (rows : ℕ → ℕ → Entry). rows (group_of k held.addr)) (spared k d held b sm c off))

is_other-spared : (k : Shape) (d : Contents) (held : Held) (b : Bool) (sm : Summary) (c : ℕ) → is_invalidated b sm c ≡ false
    → is_other k d (query_of k held) c ≡ is_other k (with_invalid_block k d held b sm) (query_of k held) c
is_other-spared k d held b sm c off =
    is_other-same k d (with_invalid_block k d held b sm) (query_of k held) c
    (ap (λ (rows : ℕ → ℕ → Entry). rows (group_of k held.addr)) (spared k d held b sm c off))

-- THE OWNER stays, where it isn't sent an invalidation

-- no cache answers that didn't
none-answers : (k : Shape) (d : Contents) (held : Held) (b : Bool) (sm : Summary) (c : ℕ)
    → owner_at k d (query_of k held) c ≡ None
    → owner_at k (with_invalid_block k d held b sm) (query_of k held) c ≡ None
none-answers k d held b sm c none = elim (cases_Bool (is_invalidated b sm c)) [
  | inl on ↦ owner_at-wiped k d held b sm c on
  | inr off ↦ sym (owner_at-spared k d held b sm c off) ∙ none
]

cache-is : (b : Bool) (c : ℕ) (o : Option ℕ) (at : ℕ × ℕ) → (if b then None else with_cache c o) ≡ Some at → at.0 ≡ c
cache-is true c o at e = absurd (cc)
cache-is false c None at e = absurd (cc)
cache-is false c (Some w) at e = let pair : at ≡ (c, w) = cc in ap (λ (p : ℕ × ℕ). p.0) pair

owner-stays : (k : Shape) (d : Contents) (held : Held) (b : Bool) (sm : Summary) (o : Option (ℕ × ℕ))
    → owner k d (query_of k held) ≡ o → wipes_owner b sm o ≡ false
    → owner k (with_invalid_block k d held b sm) (query_of k held) ≡ o
owner-stays k d held b sm None e off =
    let query : Query = query_of k held in
    first_below-empty k.caches (owner_at k (with_invalid_block k d held b sm) query)
    (λ c l. none-answers k d held b sm c (first_below-none k.caches (owner_at k d query) e c l))
owner-stays k d held b sm (Some at) e off =
    let query : Query = query_of k held in
    let later = with_invalid_block k d held b sm in
    let least = first_below-some k.caches (owner_at k d query) at e in
    let at_cache : at.0 ≡ least.0 = cache-is (least.0 == held.source) least.0 _ at least.2 in
    first_below-found k.caches least.0 (owner_at k later query) at least.1
    (first_below-empty least.0 (owner_at k later query) (λ c l. none-answers k d held b sm c (least.3 c l)))
    (sym (owner_at-spared k d held b sm least.0 (subst (λ (c : ℕ). is_invalidated b sm c ≡ false) at_cache off)) ∙ least.2)

owner_state-stays : (k : Shape) (d : Contents) (held : Held) (b : Bool) (sm : Summary) (set : ℕ) (o : Option (ℕ × ℕ))
    → wipes_owner b sm o ≡ false → owner_state d set o ≡ owner_state (with_invalid_block k d held b sm) set o
owner_state-stays k d held b sm set None off = refl
owner_state-stays k d held b sm set (Some at) off =
    ap (λ (rows : ℕ → ℕ → Entry). (rows set at.1).state) (spared k d held b sm at.0 off)

-- NOBODY ELSE has an entry in S

nobody-shares : (k : Shape) (d : Contents) (held : Held) (b : Bool) (c : ℕ) → c < k.caches
    → is_other k (with_invalid_block k d held b (summary_for k d held)) (query_of k held) c ≡ false
nobody-shares k d held b c l =
    let s : Summary = summary_for k d held in
    elim (cases_Bool (is_invalidated b s c)) [
      | inl on ↦ is_other-wiped k d held b s c on
      | inr off ↦ sym (is_other-spared k d held b s c off) ∙ sym (bits-law k d (query_of k held) c l)
          ∙ (or_parts (has_bit s.others c) (b && is_owner s.owner c) off).0
    ]

-- AFTER INVALIDATIONS

unshared-is : (k : Shape) (d : Contents) (held : Held) (b : Bool) → held.source < k.caches
    → wipes_owner b (summary_for k d held) (summary_for k d held).owner ≡ false
    → record (summary_for k d held) { others = 0 }
    ≡ summary_for k (with_invalid_block k d held b (summary_for k d held)) held
unshared-is k d held b l off =
    let s : Summary = summary_for k d held in
    let query : Query = query_of k held in
    let later : Contents = with_invalid_block k d held b s in
    let asker : d.entries held.source ≡ later.entries held.source = spared k d held b s held.source (asker-spared k d held b l) in
    let stays : owner k later query ≡ owner k d query = owner-stays k d held b s (owner k d query) refl off in
    same_fields (record s { others = 0 }) (summary_for k later held)
    (own-same k d later query asker) (own_way-same k d later query asker) (sym stays)
    (owner_state-stays k d held b s query.set (owner k d query) off
    ∙ ap (λ (o : Option (ℕ × ℕ)). owner_state later query.set o) (sym stays))
    (sym (bits-empty k.caches (is_other k later query) (nobody-shares k d held b)))
    (victim-same k d later query asker)

-- so of what the code makes: where it is kept, it is what the directory says
pub unshared_tells : (k : Shape) (d later : Contents) (held : Held) (b : Bool) (sm : Summary) (kept : Option Summary)
    → held.source < k.caches → sm ≡ summary_for k d held → later ≡ with_invalid_block k d held b sm → kept ≡ unshared b sm
    → Tells k later held kept
unshared_tells k d later held b sm kept l e i j =
    let s : Summary = summary_for k d held in
    let told : Tells k (with_invalid_block k d held b s) held (unshared b s) =
    cond_both (wipes_owner b s s.owner) None (Some (record s { others = 0 }))
    (λ (o : Option Summary). Tells k (with_invalid_block k d held b s) held o)
    (λ on. tt) (λ off. unshared-is k d held b l off) in
    subst (λ (o : Option Summary). Tells k later held o) (sym (j ∙ ap (λ (x : Summary). unshared b x) e))
    (subst (λ (x : Contents). Tells k x held (unshared b s)) (sym (i ∙ ap (λ (x : Summary). with_invalid_block k d held b x) e)) told)

-- AFTER AN ENTRY OF THE ASKING CACHE is written

written-elsewhere : (d : Contents) (c set w : ℕ) (x : Entry) → AgreeElsewhere d (with_entry d c set w x) c set
written-elsewhere d c set w x e n = ap (λ (rows : ℕ → ℕ → Entry). rows set) (sym (put-other d.entries c _ e n))

named_elsewhere : (k : Shape) (d : Contents) (held : Held) (who : ℕ) (state : Coh) → who ≢ 1
    → AgreeElsewhere d (with_named_state k d held who state) held.source (group_of k held.addr)
named_elsewhere k d held who state other =
    let g : ℕ = group_of k held.addr in
    let own : Contents = with_state d held.source g (summary_for k d held).own_way state in
    let owners : Contents = with_state_at d g (summary_for k d held).owner state in
    let victim : Contents = with_state d held.source g held.way state in
    cond_both (who == 0) own (if who == 1 then owners else victim) (λ (x : Contents). AgreeElsewhere d x held.source g)
    (λ e. written-elsewhere d held.source g (summary_for k d held).own_way _)
    (λ e. cond_both (who == 1) owners victim (λ (x : Contents). AgreeElsewhere d x held.source g)
    (λ i. absurd (both_ways (who == 1) (ne_eqb who 1 other) i)) (λ i. written-elsewhere d held.source g held.way _))

-- what is read anew for the asking cache, with the rest as it was, is what the directory says
pub renewed_tells : (k kn : Shape) (d later : Contents) (held : Held) (who : ℕ) (state : Coh) (query : Query) (kept result : Summary)
    → kn ≡ k → query ≡ query_of k held → later ≡ with_named_state k d held who state → who ≢ 1
    → kept ≡ summary_for k d held
    → ((before : Contents) → kept ≡ summary kn before query → AgreeElsewhere before later query.cache query.set
    → result ≡ summary kn later query)
    → result ≡ summary_for k later held
renewed_tells k kn d later held who state query kept result e i j other told renews =
    let of_shape : (before : Contents) → kept ≡ summary k before query → AgreeElsewhere before later query.cache query.set
    → result ≡ summary k later query =
    subst (λ (x : Shape). (before : Contents) → kept ≡ summary x before query → AgreeElsewhere before later query.cache query.set
    → result ≡ summary x later query) e renews in
    let of_query : (before : Contents) → kept ≡ summary_for k before held
    → AgreeElsewhere before later held.source (group_of k held.addr) → result ≡ summary_for k later held =
    subst (λ (x : Query). (before : Contents) → kept ≡ summary k before x → AgreeElsewhere before later x.cache x.set
    → result ≡ summary k later x) i of_shape in
    of_query d told (subst (λ (x : Contents). AgreeElsewhere d x held.source (group_of k held.addr)) (sym j)
    (named_elsewhere k d held who state other))
