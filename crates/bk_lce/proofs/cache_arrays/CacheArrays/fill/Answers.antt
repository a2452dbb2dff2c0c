-- The step is a row's, and what a row sends and completes is in the configuration.
use Rattle.bk_lce.specs.CacheArrays.{state_of}
use Rattle.bk_lce.proofs.Proper.{fill_is, proper_steps}
use Rattle.bk_lce.proofs.cache_arrays.CacheArrays.fill.Goals as goal

pub returns-clause-within : goal.returns-clause-within
returns-clause-within c =
    (proper_steps c.args.self.now.config (state_of c.args.self.now) c.args.self.now.number c.args.self.now.numbered _ _
    (state_of c.fill_row.new.self)
    (fill_is c.args.self.now.config (state_of c.args.self.now) c.args.self.now.number c.args.self.now.numbered
    c.row.result) c.fill_row.result c.fill_row.ensures.gives).0

pub returns-clause-own : goal.returns-clause-own
returns-clause-own c =
    (proper_steps c.args.self.now.config (state_of c.args.self.now) c.args.self.now.number c.args.self.now.numbered _ _
    (state_of c.fill_row.new.self)
    (fill_is c.args.self.now.config (state_of c.args.self.now) c.args.self.now.number c.args.self.now.numbered
    c.row.result) c.fill_row.result c.fill_row.ensures.gives).1
