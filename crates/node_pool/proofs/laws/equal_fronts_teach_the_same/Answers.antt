use Rattle.node_pool.proofs.Sharing.{know_alike, may_branch, may_prune, may_offer}
use Rattle.node_pool.proofs.laws.equal_fronts_teach_the_same.Goals as goal

pub returns-clause-alike : goal.returns-clause-alike
returns-clause-alike c problem upto bound some others same = know_alike problem upto bound some others same

pub returns-clause-branch : goal.returns-clause-branch
returns-clause-branch c pool ticket cuts trace v fits = may_branch pool.problem ticket.cuts ticket.bound cuts pool.state.cuts fits.alike ticket.cube trace v

pub returns-clause-prune : goal.returns-clause-prune
returns-clause-prune c pool ticket cuts trace reason fits = may_prune pool.problem ticket.cuts ticket.bound cuts pool.state.cuts fits.alike ticket.cube trace reason

pub returns-clause-offer : goal.returns-clause-offer
returns-clause-offer c pool ticket cuts trace fits = may_offer pool.problem ticket.cuts ticket.bound cuts pool.state.cuts fits.alike ticket.cube trace
