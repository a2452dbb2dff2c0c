use Rattle.std.proofs.Common.{ℕ, refl, sym, subst}
use Rattle.bk_base.specs.Places.{Shape}
use Rattle.bk_msg.specs.Within.{IsWithin}
use Rattle.bk_lce.specs.CacheState.{CacheState}
use Rattle.bk_lce.specs.CacheTable.{fill}
use Rattle.bk_system.proofs.CacheList.{own-here, own-after, call-told}
use Rattle.bk_system.proofs.Idle.{idle-after}
use Rattle.bk_system.proofs.caches.Caches.fill.Goals as goal

pub fill-step-requires : goal.fill-step-requires
fill-step-requires c =
    let own = own-here c.args.self.now c.args.cache c.index_mut-arrays.result.now c.requires.cache c.index_mut-arrays.ensures.value in
    subst (λ (k : Shape). IsWithin k c.args.message.now) (sym own.1) c.requires.within

pub invariant_of-self : goal.invariant_of-self
invariant_of-self c = record {
  few = c.args.self.now.few;
  each = c.args.self.now.each;
  own = own-after c.args.self.now c.args.cache c.index_mut-arrays.result.now c.requires.cache c.index_mut-arrays.ensures.value
      c.fill-step.new.self c.fill-step.ensures.number c.fill-step.ensures.config;
  idlers = idle-after c.args.self.now c.args.cache c.fill-step.new.self c.busy-is_idle.result c.marked-self.result c.requires.cache
      c.busy-is_idle.ensures c.marked-self.ensures;
}

pub returns : goal.returns
returns c =
    let told = call-told c.args.self.now c.args.cache c.index_mut-arrays.result.now c.requires.cache c.index_mut-arrays.ensures.value
    (λ (k : Shape) (cache : CacheState) (number : ℕ). fill k cache number c.args.message.now) c.fill-step.new.self c.fill-step.result
    c.fill-step.ensures.gives c.fill-step.ensures.within c.fill-step.ensures.own in
    record { gives = told.gives; others = told.others; within = told.within; own = told.own; config = refl }
