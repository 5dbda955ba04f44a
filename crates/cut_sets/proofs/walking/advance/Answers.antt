use Rattle.std.proofs.Common.{ap, arith, ◌∙◌}
use Rattle.arch_model.specs.declared.limits.TheConstants.{MEMBERS}
use Rattle.arch_model.proofs.NextMember.{members_first}
use Rattle.cut_sets.specs.Inner.Upcoming.{PlaceParts, candidates_from}
use Rattle.cut_sets.proofs.Spent.{inside_limit}
use Rattle.cut_sets.proofs.Steps.{moved_place, moved_turn}
use Rattle.cut_sets.proofs.walking.advance.Goals as goal

pub choose-requires-clause-place : goal.choose-requires-clause-place
choose-requires-clause-place c = moved_place c.args.net.now c.args.place.now c.skip_to.new.self c.skip_to.new.self c.in-Some.v.0 c.in-Some.ensures c.skip_to.ensures c.requires.place

pub choose-requires-clause-candidates : goal.choose-requires-clause-candidates
choose-requires-clause-candidates c =
    ap (λ (p : PlaceParts). candidates_from c.args.net.now p.at) c.skip_to.ensures
    ∙ members_first c.args.net.now.candidates c.in-Some.v.0 c.in-Some.v.0 MEMBERS (omega arith) (inside_limit c.args.net.now c.requires.network c.in-Some.v.0 c.in-Some.ensures.candidate) (λ j from to. absurd (omega (arith, from, to))) c.in-Some.ensures.candidate

pub choose-requires-clause-small : goal.choose-requires-clause-small
choose-requires-clause-small c = inside_limit c.args.net.now c.requires.network c.in-Some.v.0 c.in-Some.ensures.candidate

pub returns-in-Some-clause-turn : goal.returns-in-Some-clause-turn
returns-in-Some-clause-turn c = moved_turn c.args.net.now c.args.place.now c.skip_to.new.self c.choose.new.place c.in-Some.v.0 c.in-Some.ensures c.skip_to.ensures c.choose.result c.choose.ensures.turn
