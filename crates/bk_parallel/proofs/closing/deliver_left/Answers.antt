use Rattle.std.proofs.Common.{refl, sym, ◌∙◌}
use Rattle.bk_parallel.specs.ClosesOne.{at_end}
use Rattle.bk_parallel.proofs.OneChannel.{keeps-twice, delivered-one}
use Rattle.bk_parallel.proofs.closing.deliver_left.Goals as goal

pub loop-preserved-in-Continue-1 : goal.loop-preserved-in-Continue-1
loop-preserved-in-Continue-1 g c =
    let k = c.args.config in
    let before = c.loop.invariant.moved in
    let later = c.in_ok-put_at_end.ensures.moved in
    record {
      team = c.put_at_end.ensures.team;
      ends = keeps-twice c.args.agents.now c.loop.agents c.put_at_end.new.agents c.loop.invariant.ends c.put_at_end.ensures.ends;
      moved = record {
        channels = λ n other differ. later.channels n other differ ∙ before.channels n other differ;
        parts = λ n. later.parts n ∙ before.parts n;
        ending = refl;
        beginning = later.beginning ∙ before.beginning;
      };
      rest = delivered-one k c.in-Some-next.packet c.next-in-loop.new.self c.loop.left c.in-Some-read.message
          (at_end k c.loop.agents c.args.channel) (at_end k c.put_at_end.new.agents c.args.channel)
          (sym c.in-Some-read.ensures.message) c.in-Some-next.ensures later.ending ∙ c.loop.invariant.rest;
    }

pub returns-in_err-put_at_end-clause-ends : goal.returns-in_err-put_at_end-clause-ends
returns-in_err-put_at_end-clause-ends g c =
    keeps-twice c.args.agents.now c.loop.agents c.put_at_end.new.agents c.loop.invariant.ends c.put_at_end.ensures.ends
