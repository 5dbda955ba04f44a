use Rattle.search_core.proofs.AnswerLaws.{complete_rests, rest_completes, no_answer, complete_answer}
use Rattle.search_core.proofs.laws.complete_states_are_at_rest.Goals as goal

pub returns-clause-complete : goal.returns-clause-complete
returns-clause-complete c state = (complete_rests state, λ h. rest_completes state h.0 h.1)

pub returns-clause-none : goal.returns-clause-none
returns-clause-none c state = no_answer state

pub returns-clause-best : goal.returns-clause-best
returns-clause-best c state done = complete_answer state done
