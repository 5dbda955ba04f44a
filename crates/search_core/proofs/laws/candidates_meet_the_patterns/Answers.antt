use Rattle.search_core.proofs.CandidateLaws.{candidate_there, candidate_told, candidate_studied}
use Rattle.search_core.proofs.laws.candidates_meet_the_patterns.Goals as goal

pub returns-clause-node : goal.returns-clause-node
returns-clause-node c problem state number node cube right is reached at whose = candidate_there problem right is state number node cube reached at whose

pub returns-clause-told : goal.returns-clause-told
returns-clause-told c problem state number arch right is of h = candidate_told problem right is state number arch of h

pub returns-clause-studied : goal.returns-clause-studied
returns-clause-studied c problem state worker number arch right is of h = candidate_studied problem right is state worker number arch of h
