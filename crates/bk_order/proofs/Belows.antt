-- What it is to be below: from `within` and from the sets that have values.
use Rattle.std.proofs.Common.{◌≡◌, ℕ, ◌==◌, Bool, true, false, refl, sym, ◌∙◌}
use Rattle.std.proofs.lemmas.Bool.{and_parts, and_from}
use Rattle.std.proofs.lemmas.Nat.{and_comm}
use Rattle.bk_know.specs.declared.sets.Sets.{Sets}
use Rattle.bk_know.specs.Sets.{subset, within, union}
use Rattle.bk_order.specs.Below.{Part, Below}
use Rattle.bk_order.specs.Order.{MasksAreOrdered}
use Rattle.bk_order.proofs.Filled.{Filled}
use Rattle.bk_order.proofs.Subsets.{same, itself, chain, some-up, or-left, or-right, or-up, or-both}

-- `within` is a chain of tests, one for each field
pub from_within : (sets wider : Sets) → within sets wider ≡ true → Below false sets wider
from_within sets wider e =
    let at-stage = and_parts _ _ e in
    let at-head = and_parts _ _ at-stage.1 in
    let at-gp = and_parts _ _ at-head.1 in
    let at-kind = and_parts _ _ at-gp.1 in
    let at-summ = and_parts _ _ at-kind.1 in
    let at-own = and_parts _ _ at-summ.1 in
    let at-owner = and_parts _ _ at-own.1 in
    let at-others = and_parts _ _ at-owner.1 in
    let at-victim = and_parts _ _ at-others.1 in
    let at-acks = and_parts _ _ at-victim.1 in
    let at-wb = and_parts _ _ at-acks.1 in
    let at-mem = and_parts _ _ at-wb.1 in
    let at-dreq = and_parts _ _ at-mem.1 in
    let at-down = and_parts _ _ at-dreq.1 in
    let at-f0 = and_parts _ _ at-down.1 in
    let at-f1 = and_parts _ _ at-f0.1 in
    let at-f2 = and_parts _ _ at-f1.1 in
    let at-f3 = and_parts _ _ at-f2.1 in
    record {
      stage = at-stage.0;
      head = at-head.0;
      gp = at-gp.0;
      kind = at-kind.0;
      summ = at-summ.0;
      own = at-own.0;
      owner = at-owner.0;
      others = at-others.0;
      victim = at-victim.0;
      acks = at-acks.0;
      wb = at-wb.0;
      mem = at-mem.0;
      dreq = at-dreq.0;
      down = at-down.0;
      f0 = at-f0.0;
      f1 = at-f1.0;
      f2 = at-f2.0;
      f3 = at-f3.0;
    }

pub to_within : (sets wider : Sets) → Below false sets wider → within sets wider ≡ true
to_within sets wider b = search (and_from, b)

pub below_itself : (sets : Sets) → Below false sets sets
below_itself sets = search itself

pub union_left : (a b : Sets) → Below false a (union a b)
union_left a b = search or-left

pub union_right : (a b : Sets) → Below false b (union a b)
union_right a b = search or-right

pub union_up : (a b sets d : Sets) → Below false a sets → Below false b d → Below false (union a b) (union sets d)
union_up a b sets d p q = search (or-up, p, q)

pub union_least : (a b sets : Sets) → Below false a sets → Below false b sets → Below false (union a b) sets
union_least a b sets p q = search (or-both, p, q)

-- a part that is compared; one of a set with itself; one that is loose too; and what is above a value
pub part : (test : Bool) (a b : ℕ) → test ≡ false → Part test a b → subset a b ≡ true
part false a b e p = p
part true a b e p = absurd (cc)

pub part_itself : (b : Bool) (a : ℕ) → (a == 0) ≡ false → Part b a a
part_itself false a some = itself a
part_itself true a some = some

pub part_as : (test d : Bool) (a b : ℕ) → (test ≡ true → d ≡ true) → Part test a b → (a == 0) ≡ false → Part d a b
part_as false false a b i p some = p
part_as false true a b i p some = some-up a b p some
part_as true false a b i p some = absurd (let e = i refl in cc)
part_as true true a b i p some = p

pub part_some : (test : Bool) (a b : ℕ) → Part test a b → (a == 0) ≡ false → (b == 0) ≡ false
part_some false a b p some = some-up a b p some
part_some true a b p some = p

part_chain : (b d : Bool) (n y z : ℕ) → (d ≡ true → b ≡ true) → Part b n y → Part d y z → Part b n z
part_chain false false n y z i p q = chain n y z p q
part_chain false true n y z i p q = absurd (let e = i refl in cc)
part_chain true false n y z i p q = some-up y z q p
part_chain true true n y z i p q = q

-- a mask above one with values has values
pub filled_up : (test : Bool) (sets wider : Sets) → Below test sets wider → Filled sets → Filled wider
filled_up test sets wider b h =
    let owner = part_some test sets.owner wider.owner b.owner h.owner in
    let others = part_some test sets.others wider.others b.others h.others in
    let victim = part_some test sets.victim wider.victim b.victim h.victim in
    search (some-up, b, h)

-- below is a chain; the upper one may be loose only where the lower one is
pub below_chain : (b d : Bool) (sets wider u : Sets) → (d ≡ true → b ≡ true) → Below b sets wider → Below d wider u
    → Below b sets u
below_chain b d sets wider u i p q =
    let owner = part_chain b d sets.owner wider.owner u.owner i p.owner q.owner in
    let others = part_chain b d sets.others wider.others u.others i p.others q.others in
    let victim = part_chain b d sets.victim wider.victim u.victim i p.victim q.victim in
    search (chain, p, q)

-- what is below a mask is so too where more is loose
pub below_as : (test d : Bool) (sets wider : Sets) → (test ≡ true → d ≡ true) → Filled sets → Below test sets wider
    → Below d sets wider
below_as test d sets wider i h b =
    let owner = part_as test d sets.owner wider.owner i b.owner h.owner in
    let others = part_as test d sets.others wider.others i b.others h.others in
    let victim = part_as test d sets.victim wider.victim i b.victim h.victim in
    assumption b

alike : (a b : ℕ) → subset a b ≡ true → subset b a ≡ true → a ≡ b
alike a b p q = sym (same a b p) ∙ (and_comm a b ∙ same b a q)

-- masks below each other are the same
pub same_mask : (sets wider : Sets) → Below false sets wider → Below false wider sets → sets ≡ wider
same_mask sets wider p q = λ i. record {
  stage = alike sets.stage wider.stage p.stage q.stage i;
  head = alike sets.head wider.head p.head q.head i;
  gp = alike sets.gp wider.gp p.gp q.gp i;
  kind = alike sets.kind wider.kind p.kind q.kind i;
  summ = alike sets.summ wider.summ p.summ q.summ i;
  own = alike sets.own wider.own p.own q.own i;
  owner = alike sets.owner wider.owner p.owner q.owner i;
  others = alike sets.others wider.others p.others q.others i;
  victim = alike sets.victim wider.victim p.victim q.victim i;
  acks = alike sets.acks wider.acks p.acks q.acks i;
  wb = alike sets.wb wider.wb p.wb q.wb i;
  mem = alike sets.mem wider.mem p.mem q.mem i;
  dreq = alike sets.dreq wider.dreq p.dreq q.dreq i;
  down = alike sets.down wider.down p.down q.down i;
  f0 = alike sets.f0 wider.f0 p.f0 q.f0 i;
  f1 = alike sets.f1 wider.f1 p.f1 q.f1 i;
  f2 = alike sets.f2 wider.f2 p.f2 q.f2 i;
  f3 = alike sets.f3 wider.f3 p.f3 q.f3 i;
}

pub masks-are-ordered : MasksAreOrdered
masks-are-ordered =
    record {
      itself = λ s. to_within s s (below_itself s);
      chain = λ s t u p q. to_within s u (below_chain false false s t u (λ e. e) (from_within s t p) (from_within t u q));
      same = λ s t p q. same_mask s t (from_within s t p) (from_within t s q);
      left = λ s t. to_within s (union s t) (union_left s t);
      right = λ s t. to_within t (union s t) (union_right s t);
      least = λ s t u p q. to_within (union s t) u (union_least s t u (from_within s u p) (from_within t u q));
    }
