use Rattle.node_pool.proofs.Ready.{ticket_is_known, ticket_is_below, ticket_is_candidate}
use Rattle.node_pool.proofs.laws.tickets_are_ready.Goals as goal

pub returns-clause-known : goal.returns-clause-known
returns-clause-known c pool ticket right problem is held = ticket_is_known pool right problem is ticket held

pub returns-clause-cube : goal.returns-clause-cube
returns-clause-cube c pool ticket right problem is held = ticket_is_below pool right problem is ticket held

pub returns-clause-candidate : goal.returns-clause-candidate
returns-clause-candidate c pool ticket right problem is study = ticket_is_candidate pool right problem is ticket study
