use Rattle.std.proofs.Common.{◌≡◌, ◌<◌, ◌≤◌, ℕ, List, [], ap, sym, subst, ◌∙◌}
use Rattle.bk_base.specs.declared.op.Done.{Done}
use Rattle.bk_base.specs.declared.config.TheConstants.{MOST_CACHES}
use Rattle.bk_system.specs.Numbering.{fills_of, AreCounts}
use Rattle.bk_system.proofs.Fills.{fills-none}
use Rattle.bk_system.proofs.hardware.Hardware.make.Goals as goal

pub returns-clause-state : goal.returns-clause-state
returns-clause-state c = λ i. record {
  caches = c.in_ok-make.ensures.state i;
  engine = c.in_ok-make-2.ensures.state i;
  memory = c.make-9.ensures i;
  request = c.in_ok-make-3.ensures.empty i;
  command = c.in_ok-make-4.ensures.empty i;
  response = c.in_ok-make-5.ensures.empty i;
  fill = (ap fills_of c.in_ok-make-6.ensures.empty ∙ fills-none) i;
  memout = c.in_ok-make-7.ensures.empty i 0;
  memin = c.in_ok-make-8.ensures.empty i 0;
  history = c.new.ensures.items i;
  taken = c.new-2.ensures.items i;
  settled = c.new-3.ensures.items i;
}

-- each part was made for the configuration
pub invariant_of-result : goal.invariant_of-result
invariant_of-result c =
    let count : c.cache_count-caches.result ≡ c.args.config.caches = c.cache_count-caches.ensures.value in
    record {
      few_caches = subst (λ (n : ℕ). n ≤ MOST_CACHES) count c.cache_count-caches.ensures.few;
      some_caches = subst (λ (n : ℕ). 0 < n) count c.cache_count-caches.ensures.some;
      caches_config = c.in_ok-make.ensures.config;
      engine_config = c.in_ok-make-2.ensures.config;
      requests_config = c.in_ok-make-3.ensures.config;
      requests_each = c.in_ok-make-3.ensures.count ∙ count;
      commands_config = c.in_ok-make-4.ensures.config;
      commands_each = c.in_ok-make-4.ensures.count ∙ count;
      responses_config = c.in_ok-make-5.ensures.config;
      responses_each = c.in_ok-make-5.ensures.count ∙ count;
      fills_config = c.in_ok-make-6.ensures.config;
      fills_each = c.in_ok-make-6.ensures.count;
      memout_config = c.in_ok-make-7.ensures.config;
      memout_one = c.in_ok-make-7.ensures.count;
      memin_config = c.in_ok-make-8.ensures.config;
      memin_one = c.in_ok-make-8.ensures.count;
      completed_each = c.in_ok-zeros.ensures.count ∙ count;
      counted = subst (λ (history : List Done). AreCounts c.args.config.caches c.in_ok-zeros.field-0.items history)
          (sym c.new.ensures.items)
          (subst (λ (n : ℕ). AreCounts n c.in_ok-zeros.field-0.items []) count c.in_ok-zeros.ensures.zero);
    }
