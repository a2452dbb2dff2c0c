use Rattle.std.proofs.Common.{ℕ, ◌<◌, refl, sym, subst}
use Rattle.bk_base.specs.Places.{Shape}
use Rattle.bk_lce.specs.CacheState.{CacheState}
use Rattle.bk_lce.specs.CacheTable.{issue}
use Rattle.bk_system.proofs.CacheList.{own-here, own-after, call-told}
use Rattle.bk_system.proofs.Idle.{idle-after}
use Rattle.bk_system.proofs.caches.Caches.issue_at.Goals as goal

pub issue_at-step-requires : goal.issue_at-step-requires
issue_at-step-requires c =
    let own = own-here c.args.self.now c.args.cache c.index_mut-arrays.result.now c.requires.cache c.index_mut-arrays.ensures.value in
    subst (λ (k : Shape). c.args.way < k.ways) (sym own.1) c.requires.way

pub invariant_of-self : goal.invariant_of-self
invariant_of-self c = record {
  few = c.args.self.now.few;
  each = c.args.self.now.each;
  own = own-after c.args.self.now c.args.cache c.index_mut-arrays.result.now c.requires.cache c.index_mut-arrays.ensures.value
      c.issue_at-step.new.self c.issue_at-step.ensures.number c.issue_at-step.ensures.config;
  idlers = idle-after c.args.self.now c.args.cache c.issue_at-step.new.self c.busy-is_idle.result c.marked-self.result c.requires.cache
      c.busy-is_idle.ensures c.marked-self.ensures;
}

pub returns : goal.returns
returns c =
    let told = call-told c.args.self.now c.args.cache c.index_mut-arrays.result.now c.requires.cache c.index_mut-arrays.ensures.value
    (λ (k : Shape) (cache : CacheState) (number : ℕ). issue k cache number c.args.op c.args.way) c.issue_at-step.new.self
    c.issue_at-step.result
    c.issue_at-step.ensures.gives c.issue_at-step.ensures.within c.issue_at-step.ensures.own in
    record { gives = told.gives; others = told.others; within = told.within; own = told.own; config = refl }
