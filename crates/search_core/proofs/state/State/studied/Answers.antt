use Rattle.search_core.proofs.state.State.studied.Goals as goal

pub returns-in-Some-clause-some : goal.returns-in-Some-clause-some
returns-in-Some-clause-some c = record { study = record { cube = c.in-Some.study.cube; studied = c.in-Some.ensures.some.found.live }; candidate = c.in-Some.ensures.some.candidate }
