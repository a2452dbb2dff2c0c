use Rattle.bk_threads.proofs.Running.{walks_run, channels_hold, stamps_order}
use Rattle.bk_threads.proofs.Walking.{walks_go_on, walks_join, parts_follow}
use Rattle.bk_threads.proofs.agents.walk_laws.Goals as goal

pub returns-clause-go_on : goal.returns-clause-go_on
returns-clause-go_on g c = walks_go_on

pub returns-clause-join : goal.returns-clause-join
returns-clause-join g c = walks_join

pub returns-clause-order : goal.returns-clause-order
returns-clause-order g c = stamps_order

pub returns-clause-run : goal.returns-clause-run
returns-clause-run g c = walks_run

pub returns-clause-channels : goal.returns-clause-channels
returns-clause-channels g c = channels_hold

pub returns-clause-parts : goal.returns-clause-parts
returns-clause-parts g c = parts_follow
