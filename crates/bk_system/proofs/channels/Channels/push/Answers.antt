use Rattle.std.proofs.Common.{◌≤◌, ◌+◌, ◌<◌, ◌∷◌, [], ◌++◌, length, refl, ap, sym, subst, ◌∙◌, List, arith}
use Rattle.bk_msg.specs.declared.row.Row.{Row}
use Rattle.bk_base.specs.Tables.{put}
use Rattle.bk_system.specs.Queues.{EachWithin, items_of, room_of, mark_of}
use Rattle.bk_system.specs.Channels.{queue, room}
use Rattle.bk_system.proofs.Marks.{marks-changed, mark-append}
use Rattle.bk_system.proofs.Queues.{queue-set, queue-at, queue-item, room-item, room-there, room-changed, within-set, within-item, within-append}
use Rattle.bk_system.proofs.channels.Channels.push.Goals as goal

pub index_mut-queue-requires : goal.index_mut-queue-requires
index_mut-queue-requires c = room-there c.args.self.now c.args.channel c.requires.room

pub push-requires : goal.push-requires
push-requires c =
    let there = room-there c.args.self.now c.args.channel c.requires.room in
    let was = room-item c.args.self.now c.args.channel c.index_mut-queue.result.now there c.index_mut-queue.ensures.value in
    subst (λ n. 1 ≤ n) was c.requires.room

pub invariant_of-self : goal.invariant_of-self
invariant_of-self c =
    let there = room-there c.args.self.now c.args.channel c.requires.room in
    let l : c.args.channel < length c.args.self.now.queues.items = omega (arith, c.args.self.now.queues.ok.0) in
    record {
      few = c.args.self.now.few;
      within = within-set c.args.self.now.config c.args.self.now.queues.items c.args.channel c.push.new.self l
          c.args.self.now.within
          (subst (EachWithin c.args.self.now.config) (sym c.push.ensures.items)
          (within-append c.args.self.now.config (items_of c.index_mut-queue.result.now) c.args.message.now
          (within-item c.args.self.now.config c.args.self.now.queues.items c.args.channel c.index_mut-queue.result.now l
          c.index_mut-queue.ensures.value c.args.self.now.within) c.requires.within));
      marked = marks-changed c.args.self.now.marks c.mark.new.marks c.args.self.now.queues.items c.args.channel c.push.new.self 1 l
          (mark-append (items_of c.index_mut-queue.result.now) c.args.message.now ∙ sym (ap mark_of c.push.ensures.items))
          c.args.self.now.marked c.mark.ensures;
    }

pub returns-clause-queue : goal.returns-clause-queue
returns-clause-queue c =
    let there = room-there c.args.self.now c.args.channel c.requires.room in
    let was = queue-item c.args.self.now c.args.channel c.index_mut-queue.result.now there c.index_mut-queue.ensures.value in
    queue-set c.args.self.now _ c.args.channel c.push.new.self refl there
    ∙ ap (put (queue c.args.self.now) c.args.channel) (c.push.ensures.items
    ∙ ap (λ (ms : List Row). ms ++ c.args.message.now ∷ []) (sym was))

pub returns-clause-own : goal.returns-clause-own
returns-clause-own c =
    let there = room-there c.args.self.now c.args.channel c.requires.room in
    let was = queue-item c.args.self.now c.args.channel c.index_mut-queue.result.now there c.index_mut-queue.ensures.value in
    queue-at c.args.self.now _ c.args.channel c.push.new.self refl there ∙ c.push.ensures.items
    ∙ ap (λ (ms : List Row). ms ++ c.args.message.now ∷ []) (sym was)

pub returns-clause-room : goal.returns-clause-room
returns-clause-room c = λ j.
    let there = room-there c.args.self.now c.args.channel c.requires.room in
    let was = room-item c.args.self.now c.args.channel c.index_mut-queue.result.now there c.index_mut-queue.ensures.value in
    let less : room c.args.self.now c.args.channel ≤ room_of c.push.new.self + 1 = omega (arith, was, c.push.ensures.room) in
    room-changed c.args.self.now _ c.args.channel c.push.new.self 1 refl there less j
