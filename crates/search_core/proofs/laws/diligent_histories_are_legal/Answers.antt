use Rattle.search_core.specs.State.{start_of}
use Rattle.search_core.proofs.Diligence.{diligent_steps, diligent_join, diligent_part}
use Rattle.search_core.proofs.laws.diligent_histories_are_legal.Goals as goal

pub returns-clause-legal : goal.returns-clause-legal
returns-clause-legal c problem analysts limit entries few d =
    let led = diligent_steps problem analysts (start_of limit) entries d in (led.0, record { few = few; steps = led.1 })

pub returns-clause-steps : goal.returns-clause-steps
returns-clause-steps c = diligent_steps

pub returns-clause-join : goal.returns-clause-join
returns-clause-join c = diligent_join

pub returns-clause-part : goal.returns-clause-part
returns-clause-part c = diligent_part
