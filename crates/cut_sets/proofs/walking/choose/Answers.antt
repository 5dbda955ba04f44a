use Rattle.std.proofs.Common.{◌∷◌, ◌∙◌, sym, ap, true, false}
use Rattle.cut_sets.specs.Inner.Upcoming.{sets_from}
use Rattle.cut_sets.proofs.Steps.{room, members_small, more_place, more_turn, skipped_place, skipped_turn, given_turn, with_one, cut_on_set, minimal_is}
use Rattle.cut_sets.proofs.walking.choose.Goals as goal

pub set-chosen-requires : goal.set-chosen-requires
set-chosen-requires c = members_small c.args.net.now c.requires.network c.args.place.now c.requires.place

pub choose-requires : goal.choose-requires
choose-requires c = room c.args.net.now c.requires.network c.args.place.now c.requires.place c.args.v.0 c.requires.candidates

pub with-found-requires : goal.with-found-requires
with-found-requires c = room c.args.net.now c.requires.network c.args.place.now c.requires.place c.args.v.0 c.requires.candidates

pub returns-then-not-cuts-clause-place : goal.returns-then-not-cuts-clause-place
returns-then-not-cuts-clause-place c = more_place c.args.net.now c.requires.network c.args.place.now c.requires.place c.args.v.0 c.requires.candidates c.choose.new.self c.choose.ensures

pub returns-then-not-cuts-clause-turn : goal.returns-then-not-cuts-clause-turn
returns-then-not-cuts-clause-turn c =
    more_turn c.args.net.now c.requires.network c.args.place.now c.requires.place c.args.v.0 c.requires.candidates c.choose.new.self c.choose.ensures
    (cut_on_set c.args.net.now c.requires.network c.args.place.now c.requires.place c.args.v.0 c.requires.candidates c.put.new.self
    (with_one c.args.net.now c.requires.network c.args.place.now c.requires.place c.args.v.0 c.requires.candidates c.set-chosen.result c.put.new.self c.set-chosen.ensures c.put.ensures)
    false (sym c.if-not-cuts.true ∙ c.cuts.ensures))

pub returns-then-is_minimal-clause-place : goal.returns-then-is_minimal-clause-place
returns-then-is_minimal-clause-place c = skipped_place c.args.net.now c.requires.network c.args.place.now c.requires.place c.args.v.0 c.requires.candidates c.skip_to.new.self (c.skip_to.ensures)

pub returns-then-is_minimal-clause-turn : goal.returns-then-is_minimal-clause-turn
returns-then-is_minimal-clause-turn c =
    let same = with_one c.args.net.now c.requires.network c.args.place.now c.requires.place c.args.v.0 c.requires.candidates c.set-chosen.result c.put.new.self c.set-chosen.ensures c.put.ensures in
    let cuts = cut_on_set c.args.net.now c.requires.network c.args.place.now c.requires.place c.args.v.0 c.requires.candidates c.put.new.self same true (sym c.if-not-cuts.false ∙ c.cuts.ensures) in
    given_turn c.args.net.now c.requires.network c.args.place.now c.requires.place c.args.v.0 c.requires.candidates c.skip_to.new.self c.skip_to.ensures cuts
    (minimal_is c.args.net.now c.requires.network c.args.place.now c.requires.place c.args.v.0 c.requires.candidates c.put.new.self same true (sym c.if-is_minimal.true ∙ c.is_minimal.ensures) cuts)
    ∙ ap (λ m. m ∷ sets_from c.args.net.now c.skip_to.new.self) (sym c.with-found.ensures)

pub returns-else-is_minimal-clause-place : goal.returns-else-is_minimal-clause-place
returns-else-is_minimal-clause-place c = skipped_place c.args.net.now c.requires.network c.args.place.now c.requires.place c.args.v.0 c.requires.candidates c.skip_to-else-is_minimal.new.self (c.skip_to-else-is_minimal.ensures)

pub returns-else-is_minimal-clause-turn : goal.returns-else-is_minimal-clause-turn
returns-else-is_minimal-clause-turn c =
    let same = with_one c.args.net.now c.requires.network c.args.place.now c.requires.place c.args.v.0 c.requires.candidates c.set-chosen.result c.put.new.self c.set-chosen.ensures c.put.ensures in
    let cuts = cut_on_set c.args.net.now c.requires.network c.args.place.now c.requires.place c.args.v.0 c.requires.candidates c.put.new.self same true (sym c.if-not-cuts.false ∙ c.cuts.ensures) in
    skipped_turn c.args.net.now c.requires.network c.args.place.now c.requires.place c.args.v.0 c.requires.candidates c.skip_to-else-is_minimal.new.self c.skip_to-else-is_minimal.ensures cuts
    (minimal_is c.args.net.now c.requires.network c.args.place.now c.requires.place c.args.v.0 c.requires.candidates c.put.new.self same false (sym c.if-is_minimal.false ∙ c.is_minimal.ensures) cuts)
