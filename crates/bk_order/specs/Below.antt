-- The order of know masks, field by field.
use Rattle.std.specs.Prelude.{◌≡◌, ℕ, ◌==◌, Bool, true, false}
use Rattle.bk_know.specs.declared.sets.Sets.{Sets}
use Rattle.bk_know.specs.Sets.{subset}

-- a set below another; where it is loose the two are not compared, but the upper one has a value
abbrev pub Part : Bool → ℕ → ℕ → Type 0
Part true a b = (b == 0) ≡ false
Part false a b = subset a b ≡ true

-- A mask below another: each field's set is a subset of the other's. Owner, others and victim may be loose.
pub record Below (loose : Bool) (sets wider : Sets) : Type 0 where
  pub stage : subset sets.stage wider.stage ≡ true
  pub head : subset sets.head wider.head ≡ true
  pub gp : subset sets.gp wider.gp ≡ true
  pub kind : subset sets.kind wider.kind ≡ true
  pub summ : subset sets.summ wider.summ ≡ true
  pub own : subset sets.own wider.own ≡ true
  pub owner : Part loose sets.owner wider.owner
  pub others : Part loose sets.others wider.others
  pub victim : Part loose sets.victim wider.victim
  pub acks : subset sets.acks wider.acks ≡ true
  pub wb : subset sets.wb wider.wb ≡ true
  pub mem : subset sets.mem wider.mem ≡ true
  pub dreq : subset sets.dreq wider.dreq ≡ true
  pub down : subset sets.down wider.down ≡ true
  pub f0 : subset sets.f0 wider.f0 ≡ true
  pub f1 : subset sets.f1 wider.f1 ≡ true
  pub f2 : subset sets.f2 wider.f2 ≡ true
  pub f3 : subset sets.f3 wider.f3 ≡ true
