use Rattle.std.proofs.Common.{◌≡◌, List, [], ◌∷◌, ◌++◌, drop, append-nil, refl, sym, subst, ap, ◌∙◌}
use Rattle.bk_base.specs.Places.{Shape}
use Rattle.bk_msg.specs.declared.row.Row.{Row}
use Rattle.bk_msg.specs.Within.{IsWithin}
use Rattle.bk_system.specs.Events.{first}
use Rattle.bk_rounds.proofs.Channels.{head-rest, no-head}
use Rattle.bk_parallel.specs.Teams.{IsAgent}
use Rattle.bk_parallel.specs.ClosesOne.{at_end, at_beginning}
use Rattle.bk_parallel.proofs.OneChannel.{begins-within, beginning-read, its-channel, its-config, keeps-twice, moved-same, handed-one}
use Rattle.bk_parallel.proofs.closing.hand_over.Goals as goal

pub head-requires : goal.head-requires
head-requires g c =
    let agent = subst (IsAgent c.args.config) (sym c.begins_at-from.ensures)
    (begins-within c.args.config c.args.channel c.requires.between.there) in
    its-channel c.args.config c.loop.agents c.begins_at-from.result c.index-agents-from.result c.index-agents-from.result
    c.loop.invariant.team agent c.args.channel c.requires.between.there

pub returns-in_default-clause-moved : goal.returns-in_default-clause-moved
returns-in_default-clause-moved g c =
    let k = c.args.config in
    let channel = c.args.channel in
    let agent = subst (IsAgent k) (sym c.begins_at-from.ensures) (begins-within k channel c.requires.between.there) in
    let read = beginning-read k c.loop.agents c.begins_at-from.result c.index-agents-from.result c.loop.invariant.team agent channel
    c.begins_at-from.ensures in
    let none : at_beginning c.args.config c.loop.agents c.args.channel ≡ [] = read ∙ no-head _ (sym c.in_default.ensures.value) in
    moved-same k channel c.args.agents.now c.loop.agents (at_end k c.loop.agents channel) (at_beginning k c.loop.agents channel)
    (at_end k c.args.agents.now channel ++ at_beginning k c.args.agents.now channel) [] c.loop.invariant.moved
    (sym (append-nil (at_end k c.loop.agents channel)) ∙ ap (λ (xs : List Row). at_end k c.loop.agents channel ++ xs) (sym none)
    ∙ c.loop.invariant.rest) none

pub put_at_end-requires-clause-within : goal.put_at_end-requires-clause-within
put_at_end-requires-clause-within g c =
    let agent = subst (IsAgent c.args.config) (sym c.begins_at-from.ensures)
    (begins-within c.args.config c.args.channel c.requires.between.there) in
    subst (λ (k : Shape). IsWithin k c.in-Some-head.field-0.now)
    (its-config c.args.config c.loop.agents c.begins_at-from.result c.index-agents-from.result c.index-agents-from.result
    c.loop.invariant.team agent) c.in-Some-head.ensures.within

pub returns-in_err-put_at_end-clause-ends : goal.returns-in_err-put_at_end-clause-ends
returns-in_err-put_at_end-clause-ends g c =
    keeps-twice c.args.agents.now c.loop.agents c.put_at_end.new.agents c.loop.invariant.ends c.put_at_end.ensures.ends

pub loop-preserved : goal.loop-preserved
loop-preserved g c =
    let k = c.args.config in
    let channel = c.args.channel in
    let agent = subst (IsAgent k) (sym c.begins_at-from.ensures) (begins-within k channel c.requires.between.there) in
    let read = beginning-read k c.loop.agents c.begins_at-from.result c.index-agents-from.result c.loop.invariant.team agent channel
    c.begins_at-from.ensures in
    let before = c.loop.invariant.moved in
    let put = c.in_ok-put_at_end.ensures.moved in
    let dropped = c.drop_at_beginning.ensures.moved in
    let m = c.in-Some-head.field-0.now in
    let new = c.drop_at_beginning.new.agents in
    record {
      team = c.drop_at_beginning.ensures.team;
      ends = keeps-twice c.args.agents.now c.loop.agents new c.loop.invariant.ends
          (keeps-twice c.loop.agents c.put_at_end.new.agents new c.put_at_end.ensures.ends c.drop_at_beginning.ensures.ends);
      moved = record {
        channels = λ n other differ. dropped.channels n other differ ∙ put.channels n other differ ∙ before.channels n other differ;
        parts = λ n. dropped.parts n ∙ put.parts n ∙ before.parts n;
        ending = refl;
        beginning = refl;
      };
      rest = handed-one (at_end k c.loop.agents channel) (at_beginning k c.loop.agents channel) (at_end k new channel)
          (at_beginning k new channel) m (dropped.ending ∙ put.ending)
          (ap (λ (xs : List Row). m ∷ xs) (dropped.beginning ∙ ap (drop 1) put.beginning)
          ∙ head-rest (at_beginning k c.loop.agents channel) m (ap first read ∙ sym c.in-Some-head.ensures.value))
          ∙ c.loop.invariant.rest;
    }
