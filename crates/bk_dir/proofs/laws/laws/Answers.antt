use Rattle.bk_dir.proofs.SummaryLaws.{found-law, own-law, owner-law, others-law, bits-law, victim-law}
use Rattle.bk_dir.proofs.laws.laws.Goals as goal

pub returns-clause-found : goal.returns-clause-found
returns-clause-found c = found-law

pub returns-clause-own : goal.returns-clause-own
returns-clause-own c = own-law

pub returns-clause-owner : goal.returns-clause-owner
returns-clause-owner c = owner-law

pub returns-clause-others : goal.returns-clause-others
returns-clause-others c = others-law

pub returns-clause-bits : goal.returns-clause-bits
returns-clause-bits c = bits-law

pub returns-clause-victim : goal.returns-clause-victim
returns-clause-victim c = victim-law
