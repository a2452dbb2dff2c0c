use Rattle.std.proofs.Common.{ℕ, refl, sym, subst}
use Rattle.bk_base.specs.Places.{Shape}
use Rattle.bk_msg.specs.Within.{IsWithin}
use Rattle.bk_lce.specs.CacheState.{CacheState}
use Rattle.bk_lce.specs.CacheTable.{command}
use Rattle.bk_system.proofs.CacheList.{own-here, own-after, call-told}
use Rattle.bk_system.proofs.Idle.{idle-after}
use Rattle.bk_system.proofs.caches.Caches.command.Goals as goal

pub command-step-requires : goal.command-step-requires
command-step-requires c =
    let own = own-here c.args.self.now c.args.cache c.index_mut-arrays.result.now c.requires.cache c.index_mut-arrays.ensures.value in
    subst (λ (k : Shape). IsWithin k c.args.message.now) (sym own.1) c.requires.within

pub invariant_of-self : goal.invariant_of-self
invariant_of-self c = record {
  few = c.args.self.now.few;
  each = c.args.self.now.each;
  own = own-after c.args.self.now c.args.cache c.index_mut-arrays.result.now c.requires.cache c.index_mut-arrays.ensures.value
      c.command-step.new.self c.command-step.ensures.number c.command-step.ensures.config;
  idlers = idle-after c.args.self.now c.args.cache c.command-step.new.self c.busy-is_idle.result c.marked-self.result c.requires.cache
      c.busy-is_idle.ensures c.marked-self.ensures;
}

pub returns : goal.returns
returns c =
    let told = call-told c.args.self.now c.args.cache c.index_mut-arrays.result.now c.requires.cache c.index_mut-arrays.ensures.value
    (λ (k : Shape) (cache : CacheState) (number : ℕ). command k cache number c.args.message.now) c.command-step.new.self
    c.command-step.result
    c.command-step.ensures.gives c.command-step.ensures.within c.command-step.ensures.own in
    record { gives = told.gives; others = told.others; within = told.within; own = told.own; config = refl }
