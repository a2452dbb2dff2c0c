use Rattle.std.proofs.Common.{◌<◌, length, sym, arith}
use Rattle.bk_system.proofs.CacheList.{own-item, caches-item}
use Rattle.bk_system.proofs.caches.Caches.cache.Goals as goal

pub returns-clause-state : goal.returns-clause-state
returns-clause-state c =
    let l : c.args.cache < length c.args.self.now.arrays.items = omega (arith, c.args.self.now.arrays.ok.0, c.args.self.now.each) in
    sym (caches-item c.args.self.now.config c.args.self.now.arrays.items c.args.cache c.index.result.now l c.index.ensures)

pub returns-clause-config : goal.returns-clause-config
returns-clause-config c =
    (own-item c.args.self.now.config c.args.self.now.arrays.items c.args.self.now.arrays.len c.args.cache c.index.result.now
    c.args.self.now.own c.args.self.now.arrays.ok.0 (omega (arith, c.args.self.now.each)) c.index.ensures).1

pub returns-clause-number : goal.returns-clause-number
returns-clause-number c =
    (own-item c.args.self.now.config c.args.self.now.arrays.items c.args.self.now.arrays.len c.args.cache c.index.result.now
    c.args.self.now.own c.args.self.now.arrays.ok.0 (omega (arith, c.args.self.now.each)) c.index.ensures).0
