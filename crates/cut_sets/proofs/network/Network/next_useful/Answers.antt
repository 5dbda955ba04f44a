use Rattle.std.proofs.Common.{◌≡◌, ◌∙◌, true, false, sym, ap, inl, inr, length, not}
use Rattle.std.proofs.lemmas.Bool.{cases_lt}
use Rattle.arch_model.specs.Set.{Set, has}
use Rattle.arch_model.specs.Path.{parts}
use Rattle.cut_sets.specs.Inner.Upcoming.{NetworkParts}
use Rattle.cut_sets.proofs.Beyond.{spent_wider}
use Rattle.cut_sets.proofs.Places.{chosen_has}
use Rattle.cut_sets.proofs.Spent.{no_sink, uncut_path}
use Rattle.cut_sets.proofs.network.Network.next_useful.Goals as goal

pub returns-then-not-has_sink : goal.returns-then-not-has_sink
returns-then-not-has_sink c = no_sink c.args.self.now c.requires.network c.args.place.now c.requires.place (elim (cases_lt c.args.self.now.sink (length c.args.self.now.lib.components)) [
  | inl low ↦ absurd (let e : true ≡ false = sym (c.has_sink.ensures.1 low) ∙ c.if-not-has_sink.true in cc)
  | inr high ↦ high
])

pub undecided-members-requires-clause-chosen : goal.undecided-members-requires-clause-chosen
undecided-members-requires-clause-chosen c v h = chosen_has c.args.self.now 0 0 c.args.place.now.chosen c.args.place.now.at c.requires.place v h

pub returns-then-has : goal.returns-then-has
returns-then-has c =
    let net = c.args.self.now in
    spent_wider net c.requires.network.fits c.args.place.now.chosen c.args.place.now.at c.undecided-members.result c.undecided-members.ensures.chosen c.undecided-members.ensures.candidates
    (uncut_path net.lib net.arch c.requires.network.fits net.sink (has c.undecided-members.result) (has c.reached-reached.result net.sink) (c.reached-reached.ensures net.sink)
    ∙ ap not (ap (λ (net : NetworkParts). has c.reached-reached.result net.sink) (sym c.self.view_is) ∙ sym c.has.ensures.member ∙ c.if-has.true))
