use Rattle.std.proofs.Common.{◌≡◌, ◌+◌, ◌-◌, suc, arith}
use Rattle.std.proofs.lemmas.Grind.{common_steps}
use Rattle.std.proofs.lemmas.List.Elements.{All-push}
use Rattle.bk_trace.specs.Traces.{IsLine}
use Rattle.bk_trace.proofs.Generated.{draws_on, draws_end}
use Rattle.bk_trace.proofs.draws.operations_of_draws.Goals as goal

pub loop-number-preserved : goal.loop-number-preserved
loop-number-preserved c =
    let number = c.loop-number.number in
    let left : c.args.operations - number ≡ suc (c.args.operations - (number + 1)) = omega arith in
    record {
      value = draws_on c.args.config c.loop-number.draws.state c.next_operation.new.draws.state (number + 1)
          (c.args.operations - (number + 1)) (c.args.operations - number)
          c.loop-number.lines.items c.push.new.self.items c.next_operation.result _ left c.next_operation.ensures.state
          c.next_operation.ensures.operation c.in_ok-push.ensures.items c.loop-number.invariant.value;
      each = rw c.in_ok-push.ensures.items
          (All-push (λ line. IsLine c.args.config.caches line) c.loop-number.lines.items c.next_operation.result
          c.loop-number.invariant.each
          c.next_operation.ensures.line);
      count = grind (arith, common_steps);
    }

pub returns-clause-value : goal.returns-clause-value
returns-clause-value c =
    draws_end c.args.config c.loop-number.draws.state (c.loop-number.number + 1) (c.args.operations - c.loop-number.number)
    c.loop-number.lines.items _ (omega arith) c.loop-number.invariant.value
