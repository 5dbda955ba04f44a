use Rattle.std.proofs.Common.{[], ◌∷◌, refl}
use Rattle.search_core.specs.State.{start_of}
use Rattle.search_core.proofs.Counts.{steps_join}
use Rattle.search_core.proofs.Determined.{steps_are_determined}
use Rattle.search_core.proofs.laws.legal_histories_lead_to_one_state.Goals as goal

pub returns-clause-start : goal.returns-clause-start
returns-clause-start c problem limit few = record { few = few; steps = refl }

pub returns-clause-next : goal.returns-clause-next
returns-clause-next c problem limit entries old new entry reached step =
    record { few = reached.few; steps = steps_join problem entries (entry ∷ []) (start_of limit) old new reached.steps (new, step, refl) }

pub returns-clause-one : goal.returns-clause-one
returns-clause-one c problem limit entries a b one other = steps_are_determined problem entries (start_of limit) a b one.steps other.steps
