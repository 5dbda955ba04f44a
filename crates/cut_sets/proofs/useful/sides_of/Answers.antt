use Rattle.std.proofs.Common.{refl}
use Rattle.paths.specs.Links.{is_linked}
use Rattle.paths.proofs.Searches.{down_exact, up_exact}
use Rattle.cut_sets.proofs.Spent.{are_sides, links_past_near, links_past_far}
use Rattle.cut_sets.proofs.useful.sides_of.Goals as goal

pub reach_over-before-requires-clause-links : goal.reach_over-before-requires-clause-links
reach_over-before-requires-clause-links c =
    links_past_near c.args.lib.now c.args.arch.now c.requires.fits c.args.sink.0 c.requires.in_range c.args.chosen.now.members c.args.wide.now.members c.args.chosen.now.links.now c.requires.chosen
    c.ancestors_over-above.result c.tails.result c.union-near.result c.with_components-past_near.result c.ancestors_over-above.ensures
    (λ x. up_exact c.args.lib.now c.args.arch.now c.args.wide.now.members c.requires.fits c.components.ensures.library.few_components c.ancestors_over-above.result c.tails.result c.args.arch.now.comps (λ a d. is_linked c.args.wide.now.links.now d a) refl x (c.tails.ensures x) (λ a d. c.requires.wide.joined d a))
    c.union-near.ensures c.with_components-past_near.ensures

pub ancestors_over-after-requires-clause-links : goal.ancestors_over-after-requires-clause-links
ancestors_over-after-requires-clause-links c =
    links_past_far c.args.lib.now c.args.arch.now c.requires.fits c.args.sink.0 c.requires.in_range c.args.chosen.now.members c.args.wide.now.members c.args.chosen.now.links.now c.requires.chosen
    c.args.reached.now c.heads.result c.union-far.result c.with_components-past_far.result c.requires.reached
    (λ x. down_exact c.args.lib.now c.args.arch.now c.args.wide.now.members c.requires.fits c.components.ensures.library.few_components c.args.reached.now c.heads.result c.args.arch.now.comps (is_linked c.args.wide.now.links.now) refl x (c.heads.ensures x) c.requires.wide.joined)
    c.union-far.ensures c.with_components-past_far.ensures

pub returns : goal.returns
returns c =
    are_sides c.args.lib.now c.args.arch.now c.requires.fits c.args.sink.0 c.requires.in_range c.args.chosen.now.members c.args.wide.now.members
    c.args.reached.now c.heads.result c.union-far.result c.ancestors_over-above.result c.tails.result c.union-near.result c.with_components-past_near.result c.with_components-past_far.result
    (record { before = c.reach_over-before.result; entered = c.heads-2.result; after = c.ancestors_over-after.result; left = c.tails-2.result })
    c.requires.reached
    (λ x. down_exact c.args.lib.now c.args.arch.now c.args.wide.now.members c.requires.fits c.components.ensures.library.few_components c.args.reached.now c.heads.result c.args.arch.now.comps (is_linked c.args.wide.now.links.now) refl x (c.heads.ensures x) c.requires.wide.joined)
    c.union-far.ensures c.ancestors_over-above.ensures
    (λ x. up_exact c.args.lib.now c.args.arch.now c.args.wide.now.members c.requires.fits c.components.ensures.library.few_components c.ancestors_over-above.result c.tails.result c.args.arch.now.comps (λ a d. is_linked c.args.wide.now.links.now d a) refl x (c.tails.ensures x) (λ a d. c.requires.wide.joined d a))
    c.union-near.ensures c.with_components-past_near.ensures c.with_components-past_far.ensures
    c.reach_over-before.ensures c.ancestors_over-after.ensures
    (λ x. down_exact c.args.lib.now c.args.arch.now c.args.chosen.now.members c.requires.fits c.components.ensures.library.few_components c.reach_over-before.result c.heads-2.result c.args.arch.now.comps (is_linked c.args.chosen.now.links.now) refl x (c.heads-2.ensures x) c.requires.chosen.joined)
    (λ x. up_exact c.args.lib.now c.args.arch.now c.args.chosen.now.members c.requires.fits c.components.ensures.library.few_components c.ancestors_over-after.result c.tails-2.result c.args.arch.now.comps (λ a d. is_linked c.args.chosen.now.links.now d a) refl x (c.tails-2.ensures x) (λ a d. c.requires.chosen.joined d a))
