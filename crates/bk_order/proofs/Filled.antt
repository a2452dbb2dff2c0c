-- Masks with a value in each field.
use Rattle.std.proofs.Common.{◌≡◌, ◌==◌, false}
use Rattle.std.proofs.lemmas.Bool.{or_parts, or_from}
use Rattle.bk_know.specs.declared.sets.Sets.{Sets}
use Rattle.bk_know.specs.Sets.{any_empty}

-- each field has a value
pub record Filled (sets : Sets) : Type 0 where
  pub stage : (sets.stage == 0) ≡ false
  pub head : (sets.head == 0) ≡ false
  pub gp : (sets.gp == 0) ≡ false
  pub kind : (sets.kind == 0) ≡ false
  pub summ : (sets.summ == 0) ≡ false
  pub own : (sets.own == 0) ≡ false
  pub owner : (sets.owner == 0) ≡ false
  pub others : (sets.others == 0) ≡ false
  pub victim : (sets.victim == 0) ≡ false
  pub acks : (sets.acks == 0) ≡ false
  pub wb : (sets.wb == 0) ≡ false
  pub mem : (sets.mem == 0) ≡ false
  pub dreq : (sets.dreq == 0) ≡ false
  pub down : (sets.down == 0) ≡ false
  pub f0 : (sets.f0 == 0) ≡ false
  pub f1 : (sets.f1 == 0) ≡ false
  pub f2 : (sets.f2 == 0) ≡ false
  pub f3 : (sets.f3 == 0) ≡ false

-- `any_empty` is a chain of tests, one for each field
pub filled : (sets : Sets) → any_empty sets ≡ false → Filled sets
filled sets e =
    let at-stage = or_parts _ _ e in
    let at-head = or_parts _ _ at-stage.1 in
    let at-gp = or_parts _ _ at-head.1 in
    let at-kind = or_parts _ _ at-gp.1 in
    let at-summ = or_parts _ _ at-kind.1 in
    let at-own = or_parts _ _ at-summ.1 in
    let at-owner = or_parts _ _ at-own.1 in
    let at-others = or_parts _ _ at-owner.1 in
    let at-victim = or_parts _ _ at-others.1 in
    let at-acks = or_parts _ _ at-victim.1 in
    let at-wb = or_parts _ _ at-acks.1 in
    let at-mem = or_parts _ _ at-wb.1 in
    let at-dreq = or_parts _ _ at-mem.1 in
    let at-down = or_parts _ _ at-dreq.1 in
    let at-f0 = or_parts _ _ at-down.1 in
    let at-f1 = or_parts _ _ at-f0.1 in
    let at-f2 = or_parts _ _ at-f1.1 in
    let at-f3 = or_parts _ _ at-f2.1 in
    record {
      stage = at-stage.0;
      head = at-head.0;
      gp = at-gp.0;
      kind = at-kind.0;
      summ = at-summ.0;
      own = at-own.0;
      owner = at-owner.0;
      others = at-others.0;
      victim = at-victim.0;
      acks = at-acks.0;
      wb = at-wb.0;
      mem = at-mem.0;
      dreq = at-dreq.0;
      down = at-down.0;
      f0 = at-f0.0;
      f1 = at-f1.0;
      f2 = at-f2.0;
      f3 = at-f3.0;
    }

pub filled-some : (sets : Sets) → Filled sets → any_empty sets ≡ false
filled-some sets h = search (or_from, h)
