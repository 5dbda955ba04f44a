use Rattle.std.proofs.Common.{◌≡◌, refl}
use Rattle.outside.specs.declared.counts.Counts.{Counts}
use Rattle.outside.specs.Counts.{after_failed_write}
use Rattle.outside.proofs.CountLaws.{counts_after-own, counts_after-shared, counts-raised, counts_related, counts-alone, only_one, write_raised, rose-writes}
use Rattle.outside.proofs.fault_counts.FaultCounts.raise_writes.Goals as goal

pub returns-in-Some-clause-after : goal.returns-in-Some-clause-after
returns-in-Some-clause-after c =
    counts_after-own after_failed_write _ _ _ _ _ _ _ c.self.view_is c.in-Some.ensures c.index_mut.ensures.value c.raise_writes.ensures

pub returns-in-Some-clause-rose : goal.returns-in-Some-clause-rose
returns-in-Some-clause-rose c = rose-writes c.args.self.now _ c.args.name.now (returns-in-Some-clause-after c)

pub returns-in-Some-clause-writes_never_fall : goal.returns-in-Some-clause-writes_never_fall
returns-in-Some-clause-writes_never_fall c = λ other. (counts-raised after_failed_write write_raised c.args.self.now _ c.args.name.now (returns-in-Some-clause-after c) other).1

pub returns-in-None-clause-after : goal.returns-in-None-clause-after
returns-in-None-clause-after c =
    counts_after-shared after_failed_write _ _ _ _ _ c.self.view_is c.in-None.ensures c.raise_writes-in-None.ensures

pub returns-in-None-clause-rose : goal.returns-in-None-clause-rose
returns-in-None-clause-rose c = rose-writes c.args.self.now _ c.args.name.now (returns-in-None-clause-after c)

pub returns-in-None-clause-writes_never_fall : goal.returns-in-None-clause-writes_never_fall
returns-in-None-clause-writes_never_fall c = λ other. (counts-raised after_failed_write write_raised c.args.self.now _ c.args.name.now (returns-in-None-clause-after c) other).1

pub returns-in-Some-clause-reads_stay : goal.returns-in-Some-clause-reads_stay
returns-in-Some-clause-reads_stay c = λ other. counts_related (λ (x y : Counts). y.reads ≡ x.reads) (λ x. refl) after_failed_write (λ x. refl) c.args.self.now _ c.args.name.now (returns-in-Some-clause-after c) other

pub returns-in-Some-clause-writes_alone : goal.returns-in-Some-clause-writes_alone
returns-in-Some-clause-writes_alone c = only_one (λ x. x.writes) _ _ c.args.name.now (counts-alone after_failed_write c.args.self.now _ c.args.name.now (returns-in-Some-clause-after c))

pub returns-in-None-clause-reads_stay : goal.returns-in-None-clause-reads_stay
returns-in-None-clause-reads_stay c = λ other. counts_related (λ (x y : Counts). y.reads ≡ x.reads) (λ x. refl) after_failed_write (λ x. refl) c.args.self.now _ c.args.name.now (returns-in-None-clause-after c) other

pub returns-in-None-clause-writes_alone : goal.returns-in-None-clause-writes_alone
returns-in-None-clause-writes_alone c = only_one (λ x. x.writes) _ _ c.args.name.now (counts-alone after_failed_write c.args.self.now _ c.args.name.now (returns-in-None-clause-after c))
