-- What a summary says of the other caches, where entries of the asking cache alone were written.
use Rattle.std.proofs.Common.{◌≡◌, ◌≢◌, ◌∙◌, inl, inr, ℕ, Bool, Option, Some, None, refl, ap, not}
use Rattle.std.specs.Prelude.{◌&&◌, ◌==◌, if◌then◌else◌, IfSome, is_some, unwrap_or}
use Rattle.std.proofs.lemmas.Bool.{cases_eq, eq-eqb}
use mathlib.Core.Path.{fun_ext}
use Rattle.bk_base.specs.Places.{Shape}
use Rattle.bk_base.specs.Counting.{first_below, least_below}
use Rattle.bk_base.specs.States.{is_owner_like}
use Rattle.bk_base.specs.declared.coh.Coh.{Coh}
use Rattle.bk_dir.proofs.SummaryLaws.{owner-other}
use Rattle.bk_dir.specs.declared.entry.Entry.{Entry}
use Rattle.bk_dir.specs.declared.entry.Query.{Query}
use Rattle.bk_dir.specs.declared.entry.Summary.{Summary}
use Rattle.bk_dir.specs.Contents.{Contents}
use Rattle.bk_dir.specs.Summaries.{holds, is_shared, found, state_at, with_cache, owner_at, owner, owner_state, is_other, bits_below, victim_of, summary, AgreeElsewhere}

-- A CACHE whose entries of the set are the same

pub owner_at-same : (k : Shape) (d later : Contents) (query : Query) (c : ℕ) → d.entries c query.set ≡ later.entries c query.set
    → owner_at k d query c ≡ owner_at k later query c
owner_at-same k d later query c e =
    ap (λ (row : ℕ → Entry). if c == query.cache then None
    else with_cache c (least_below k.ways (λ w. holds (row w) query.tag && is_owner_like (row w).state))) e

pub is_other-same : (k : Shape) (d later : Contents) (query : Query) (c : ℕ) → d.entries c query.set ≡ later.entries c query.set
    → is_other k d query c ≡ is_other k later query c
is_other-same k d later query c e =
    ap (λ (row : ℕ → Entry). not (c == query.cache)
    && is_some (least_below k.ways (λ w. holds (row w) query.tag && is_shared (row w).state))) e

-- the asking cache is looked up for itself alone
owner_at-again : (k : Shape) (d later : Contents) (query : Query) → AgreeElsewhere d later query.cache query.set
    → (c : ℕ) → owner_at k d query c ≡ owner_at k later query c
owner_at-again k d later query same c = elim (cases_eq c query.cache) [
  | inl e ↦ rw (eq-eqb c query.cache e) refl
  | inr n ↦ owner_at-same k d later query c (same c n)
]

is_other-again : (k : Shape) (d later : Contents) (query : Query) → AgreeElsewhere d later query.cache query.set
    → (c : ℕ) → is_other k d query c ≡ is_other k later query c
is_other-again k d later query same c = elim (cases_eq c query.cache) [
  | inl e ↦ rw (eq-eqb c query.cache e) refl
  | inr n ↦ is_other-same k d later query c (same c n)
]

-- THE OWNER AND THE OTHERS

owner-again : (k : Shape) (d later : Contents) (query : Query) → AgreeElsewhere d later query.cache query.set
    → owner k d query ≡ owner k later query
owner-again k d later query same =
    ap (λ (f : ℕ → Option (ℕ × ℕ)). first_below k.caches f) (fun_ext (owner_at-again k d later query same))

others-again : (k : Shape) (d later : Contents) (query : Query) → AgreeElsewhere d later query.cache query.set
    → bits_below k.caches (is_other k d query) ≡ bits_below k.caches (is_other k later query)
others-again k d later query same =
    ap (λ (f : ℕ → Bool). bits_below k.caches f) (fun_ext (is_other-again k d later query same))

owner_state-at : (d later : Contents) (query : Query) → AgreeElsewhere d later query.cache query.set
    → (o : Option (ℕ × ℕ)) → IfSome o (λ at. at.0 ≢ query.cache) → owner_state d query.set o ≡ owner_state later query.set o
owner_state-at d later query same None n = refl
owner_state-at d later query same (Some at) n = ap (λ (row : ℕ → Entry). (row at.1).state) (same at.0 n)

owner_state-again : (k : Shape) (d later : Contents) (query : Query) → AgreeElsewhere d later query.cache query.set
    → owner_state d query.set (owner k d query) ≡ owner_state later query.set (owner k later query)
owner_state-again k d later query same =
    owner_state-at d later query same (owner k d query) (owner-other k d query (owner k d query) refl)
    ∙ ap (λ (o : Option (ℕ × ℕ)). owner_state later query.set o) (owner-again k d later query same)

-- THE ASKING CACHE, where its entries are the same

found-same : (k : Shape) (d later : Contents) (query : Query) → d.entries query.cache ≡ later.entries query.cache
    → found k d query.cache query.set query.tag ≡ found k later query.cache query.set query.tag
found-same k d later query e =
    ap (λ (rows : ℕ → ℕ → Entry). least_below k.ways (λ w. holds (rows query.set w) query.tag)) e

state_at-same : (d later : Contents) (c set : ℕ) (o : Option ℕ) → d.entries c ≡ later.entries c
    → state_at d c set o ≡ state_at later c set o
state_at-same d later c set None e = refl
state_at-same d later c set (Some w) e = ap (λ (rows : ℕ → ℕ → Entry). (rows set w).state) e

pub own-same : (k : Shape) (d later : Contents) (query : Query) → d.entries query.cache ≡ later.entries query.cache
    → (summary k d query).own ≡ (summary k later query).own
own-same k d later query e =
    state_at-same d later query.cache query.set (found k d query.cache query.set query.tag) e
    ∙ ap (λ (o : Option ℕ). state_at later query.cache query.set o) (found-same k d later query e)

pub own_way-same : (k : Shape) (d later : Contents) (query : Query) → d.entries query.cache ≡ later.entries query.cache
    → (summary k d query).own_way ≡ (summary k later query).own_way
own_way-same k d later query e = ap (λ (o : Option ℕ). unwrap_or o 0) (found-same k d later query e)

pub victim-same : (k : Shape) (d later : Contents) (query : Query) → d.entries query.cache ≡ later.entries query.cache
    → (summary k d query).victim ≡ (summary k later query).victim
victim-same k d later query e =
    ap (λ (rows : ℕ → ℕ → Entry). victim_of query.placed query.tag (rows query.set query.way)) e

-- ALL OF IT

-- summaries are the same where their fields are
abbrev of_fields : Coh → ℕ → Option (ℕ × ℕ) → Coh → ℕ → Coh → Summary
of_fields own way o state others victim =
    record { own = own; own_way = way; owner = o; owner_state = state; others = others; victim = victim }

pub same_fields : (a b : Summary) → a.own ≡ b.own → a.own_way ≡ b.own_way → a.owner ≡ b.owner
    → a.owner_state ≡ b.owner_state → a.others ≡ b.others → a.victim ≡ b.victim → a ≡ b
same_fields a b own way o state others victim =
    ap (λ (x : Coh). of_fields x a.own_way a.owner a.owner_state a.others a.victim) own
    ∙ ap (λ (x : ℕ). of_fields b.own x a.owner a.owner_state a.others a.victim) way
    ∙ ap (λ (x : Option (ℕ × ℕ)). of_fields b.own b.own_way x a.owner_state a.others a.victim) o
    ∙ ap (λ (x : Coh). of_fields b.own b.own_way b.owner x a.others a.victim) state
    ∙ ap (λ (x : ℕ). of_fields b.own b.own_way b.owner b.owner_state x a.victim) others
    ∙ ap (λ (x : Coh). of_fields b.own b.own_way b.owner b.owner_state b.others x) victim

-- the asking cache's part is that of the later directory, and the other caches' is as it was
pub summary_renewed : (k : Shape) (d later : Contents) (query : Query) (kept : Summary) (own victim : Coh) (way : ℕ)
    → own ≡ (summary k later query).own → way ≡ (summary k later query).own_way → victim ≡ (summary k later query).victim
    → kept ≡ summary k d query → AgreeElsewhere d later query.cache query.set
    → record kept { own = own; own_way = way; victim = victim } ≡ summary k later query
summary_renewed k d later query kept own victim way state place leaves e same =
    same_fields (record kept { own = own; own_way = way; victim = victim }) (summary k later query) state place
    (ap (λ (x : Summary). x.owner) e ∙ owner-again k d later query same)
    (ap (λ (x : Summary). x.owner_state) e ∙ owner_state-again k d later query same)
    (ap (λ (x : Summary). x.others) e ∙ others-again k d later query same) leaves
