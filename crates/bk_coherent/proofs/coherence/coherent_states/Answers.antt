use Rattle.bk_coherent.proofs.Claims.{claims}
use Rattle.bk_coherent.proofs.Resting.{quiet-rested}
use Rattle.bk_coherent.proofs.Stuck.{stuck-rested, engine-runs}
use Rattle.bk_coherent.proofs.Tied.{coherent, takes}
use Rattle.bk_coherent.proofs.coherence.coherent_states.Goals as goal

pub returns-clause-claims : goal.returns-clause-claims
returns-clause-claims c = claims

pub returns-clause-tied : goal.returns-clause-tied
returns-clause-tied c = coherent

pub returns-clause-taken : goal.returns-clause-taken
returns-clause-taken c = takes

pub returns-clause-rests : goal.returns-clause-rests
returns-clause-rests c = quiet-rested

pub returns-clause-moves : goal.returns-clause-moves
returns-clause-moves c = λ k program n told g tied o never. stuck-rested k program n never told g tied o

pub returns-clause-places : goal.returns-clause-places
returns-clause-places c = λ k program n profile never. engine-runs k program n never profile
