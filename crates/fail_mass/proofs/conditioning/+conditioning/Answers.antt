use Rattle.std.proofs.Common.{◌∙◌, sym, ap}
use Rattle.arch_model.specs.Set.{has}
use Rattle.arch_model.specs.Member.{member_count}
use Rattle.arch_model.specs.Path.{parts}
use Rattle.fail_mass.proofs.StepLemmas.{where_cut, where_safe, where_done, where_certain, where_open}
use Rattle.fail_mass.proofs.conditioning.+conditioning.Goals as goal

pub where_failed-returns-in-None-clause-value : goal.where_failed-returns-in-None-clause-value
where_failed-returns-in-None-clause-value t c =
    where_cut c.args.net.now.lib.now c.requires.network.library c.args.net.now.arch.now c.requires.network.architecture c.args.net.now.sink.0 c.args.failed.now c.args.undecided.now c.args.from (member_count c.args.net.now.lib.now)
    c.settled.result c.settled.ensures.low c.settled.ensures.high c.in-None.ensures.parted

pub where_reached-returns-else-is_parted-clause-value : goal.where_reached-returns-else-is_parted-clause-value
where_reached-returns-else-is_parted-clause-value t c =
    where_safe c.args.net.now.lib.now c.requires.network.library c.args.net.now.arch.now c.requires.network.architecture c.args.net.now.sink.0 c.args.failed.now c.args.undecided.now c.args.from (member_count c.args.net.now.lib.now)
    c.settled.result c.settled.ensures.low c.settled.ensures.high
    (ap (λ s. parts c.args.net.now.lib.now c.args.net.now.arch.now c.args.net.now.sink.0 (has s)) (sym c.union.ensures) ∙ sym c.is_parted.ensures ∙ c.if-is_parted.false)

pub split-returns-in-None-clause-value : goal.split-returns-in-None-clause-value
split-returns-in-None-clause-value t c =
    where_done c.args.net.now.lib.now c.requires.network.library c.args.net.now.arch.now c.requires.network.architecture c.args.net.now.sink.0 c.args.failed.now c.args.undecided.now c.args.from (member_count c.args.net.now.lib.now)
    c.settled.result c.settled.ensures.low c.settled.ensures.high c.requires.reached c.in-None.ensures

pub split-returns-then-ppm-eq-MILLION-clause-value : goal.split-returns-then-ppm-eq-MILLION-clause-value
split-returns-then-ppm-eq-MILLION-clause-value t c =
    where_certain c.args.net.now.lib.now c.requires.network.library c.args.net.now.arch.now c.requires.network.architecture c.args.net.now.sink.0 c.args.failed.now c.args.undecided.now c.args.from (member_count c.args.net.now.lib.now)
    c.in-Some.member.0 c.in-Some.ensures.0 (c.requires.in_range c.in-Some.member.0 c.in-Some.ensures.1) c.in-Some.ensures.2 c.in-Some.ensures.1
    c.with.result c.but-rest.result c.with.ensures c.but-rest.ensures.rest c.where_failed-failing.result c.where_failed-failing.ensures.value (sym c.fail-ppm.ensures.value ∙ c.if-ppm-eq-MILLION.true)

pub split-returns-else-ppm-eq-MILLION-clause-value : goal.split-returns-else-ppm-eq-MILLION-clause-value
split-returns-else-ppm-eq-MILLION-clause-value t c =
    where_open c.args.net.now.lib.now c.requires.network.library c.args.net.now.arch.now c.requires.network.architecture c.args.net.now.sink.0 c.args.failed.now c.args.undecided.now c.args.from (member_count c.args.net.now.lib.now)
    c.in-Some.member.0 c.in-Some.ensures.0 (c.requires.in_range c.in-Some.member.0 c.in-Some.ensures.1) c.in-Some.ensures.2 c.in-Some.ensures.1
    c.with.result c.but-rest.result c.with.ensures c.but-rest.ensures.rest c.where_failed-failing.result c.where_reached-working.result c.both.result c.fail-ppm.result
    c.where_failed-failing.ensures.value c.where_reached-working.ensures.value c.fail-ppm.ensures.value c.both.ensures.low c.both.ensures.high
