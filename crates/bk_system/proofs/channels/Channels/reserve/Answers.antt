use Rattle.std.proofs.Common.{◌≤◌, refl, sym, ◌∙◌, arith}
use Rattle.bk_system.specs.Queues.{items_of, room_of}
use Rattle.bk_system.specs.Channels.{queue, room}
use Rattle.bk_system.proofs.Queues.{queue-set, queue-item, room-item, room-made, room-kept, put-same}
use Rattle.bk_system.proofs.channels.Channels.reserve.Goals as goal

pub returns-clause-queue : goal.returns-clause-queue
returns-clause-queue c =
    let was = queue-item c.args.self.now c.args.channel c.index_mut-queue.result.now c.requires c.index_mut-queue.ensures.value in
    queue-set c.args.self.now _ c.args.channel c.reserve.new.self refl c.requires
    ∙ put-same (queue c.args.self.now) c.args.channel (items_of c.reserve.new.self) (c.reserve.ensures.items ∙ sym was)

pub returns-clause-room : goal.returns-clause-room
returns-clause-room c =
    room-made c.args.self.now _ c.args.channel c.reserve.new.self c.args.more c.reserve.result refl c.requires c.reserve.ensures.room

pub returns-clause-grows : goal.returns-clause-grows
returns-clause-grows c =
    let was = room-item c.args.self.now c.args.channel c.index_mut-queue.result.now c.requires c.index_mut-queue.ensures.value in
    let more : room c.args.self.now c.args.channel ≤ room_of c.reserve.new.self = omega (arith, was, c.reserve.ensures.grows) in
    room-kept c.args.self.now _ c.args.channel c.reserve.new.self refl c.requires more
