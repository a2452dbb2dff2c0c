use Rattle.std.proofs.Common.{◌≤◌, ◌<◌, length, refl, ap, sym, subst, ◌∙◌, drop, arith}
use Rattle.bk_base.specs.Tables.{put}
use Rattle.bk_system.specs.Queues.{EachWithin, items_of, room_of}
use Rattle.bk_system.specs.Channels.{queue, room}
use Rattle.bk_system.proofs.Marks.{marks-changed, mark-holds}
use Rattle.bk_system.proofs.Queues.{queue-set, queue-at, queue-item, room-item, room-kept, within-set, within-item, within-rest}
use Rattle.bk_system.proofs.channels.Channels.drop_head.Goals as goal

pub invariant_of-self : goal.invariant_of-self
invariant_of-self c =
    let l : c.args.channel < length c.args.self.now.queues.items = omega (arith, c.args.self.now.queues.ok.0) in
    record {
      few = c.args.self.now.few;
      within = within-set c.args.self.now.config c.args.self.now.queues.items c.args.channel c.drop_head.new.self l c.args.self.now.within
          (subst (EachWithin c.args.self.now.config) (sym c.drop_head.ensures.rest)
          (within-rest c.args.self.now.config (items_of c.index_mut-queue.result.now)
          (within-item c.args.self.now.config c.args.self.now.queues.items c.args.channel c.index_mut-queue.result.now l
          c.index_mut-queue.ensures.value c.args.self.now.within)));
      marked = marks-changed c.args.self.now.marks c.mark.new.marks c.args.self.now.queues.items c.args.channel c.drop_head.new.self _ l
          (mark-holds (items_of c.drop_head.new.self) _ c.is_empty-holds.ensures)
          c.args.self.now.marked c.mark.ensures;
    }

pub returns-clause-rest : goal.returns-clause-rest
returns-clause-rest c =
    let was = queue-item c.args.self.now c.args.channel c.index_mut-queue.result.now c.requires c.index_mut-queue.ensures.value in
    queue-set c.args.self.now _ c.args.channel c.drop_head.new.self refl c.requires
    ∙ ap (put (queue c.args.self.now) c.args.channel) (c.drop_head.ensures.rest ∙ ap (drop 1) (sym was))

pub returns-clause-own : goal.returns-clause-own
returns-clause-own c =
    let was = queue-item c.args.self.now c.args.channel c.index_mut-queue.result.now c.requires c.index_mut-queue.ensures.value in
    queue-at c.args.self.now _ c.args.channel c.drop_head.new.self refl c.requires ∙ c.drop_head.ensures.rest ∙ ap (drop 1) (sym was)

pub returns-clause-grows : goal.returns-clause-grows
returns-clause-grows c =
    let was = room-item c.args.self.now c.args.channel c.index_mut-queue.result.now c.requires c.index_mut-queue.ensures.value in
    let more : room c.args.self.now c.args.channel ≤ room_of c.drop_head.new.self = omega (arith, was, c.drop_head.ensures.grows) in
    room-kept c.args.self.now _ c.args.channel c.drop_head.new.self refl c.requires more
