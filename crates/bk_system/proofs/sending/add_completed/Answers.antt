use Rattle.std.proofs.Common.{◌≤◌, ◌<◌, length, vec_len, arith}
use Rattle.bk_base.specs.declared.op.Done.{Done}
use Rattle.bk_system.proofs.Entries.{count-le, counts-one}
use Rattle.bk_system.proofs.sending.add_completed.Goals as goal

pub overflow_add-index_mut : goal.overflow_add-index_mut
overflow_add-index_mut c =
    let few = count-le c.args.completed.now.items c.args.history.now.items (vec_len c.args.completed.now) c.args.cache
    c.index_mut.result.now c.requires.counted c.requires.place c.args.completed.now.ok.0 c.index_mut.ensures.value in
    let le : c.index_mut.result.now ≤ length c.args.history.now.items = few in
    omega (arith, c.args.history.now.ok.0, c.args.history.now.small)

pub returns-clause-counted : goal.returns-clause-counted
returns-clause-counted c =
    let l : c.args.cache < length c.args.completed.now.items = omega (arith, c.args.completed.now.ok.0, c.requires.place) in
    let d : Done = record { cache = c.args.cache; op = c.args.op.now; answer = c.args.answer } in
    rw c.in-Ok.ensures.items
    (counts-one (vec_len c.args.completed.now) c.args.completed.now.items c.args.history.now.items d c.index_mut.result.now l
    c.args.completed.now.ok.0 c.index_mut.ensures.value c.requires.counted)
