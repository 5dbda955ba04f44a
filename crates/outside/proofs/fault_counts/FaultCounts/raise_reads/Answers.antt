use Rattle.std.proofs.Common.{◌≡◌, refl}
use Rattle.outside.specs.declared.counts.Counts.{Counts}
use Rattle.outside.specs.Counts.{after_failed_read}
use Rattle.outside.proofs.CountLaws.{counts_after-own, counts_after-shared, counts-raised, counts_related, counts-alone, only_one, read_raised, rose-reads}
use Rattle.outside.proofs.fault_counts.FaultCounts.raise_reads.Goals as goal

pub returns-in-Some-clause-after : goal.returns-in-Some-clause-after
returns-in-Some-clause-after c =
    counts_after-own after_failed_read _ _ _ _ _ _ _ c.self.view_is c.in-Some.ensures c.index_mut.ensures.value c.raise_reads.ensures

pub returns-in-Some-clause-rose : goal.returns-in-Some-clause-rose
returns-in-Some-clause-rose c = rose-reads c.args.self.now _ c.args.name.now (returns-in-Some-clause-after c)

pub returns-in-Some-clause-reads_never_fall : goal.returns-in-Some-clause-reads_never_fall
returns-in-Some-clause-reads_never_fall c = λ other. (counts-raised after_failed_read read_raised c.args.self.now _ c.args.name.now (returns-in-Some-clause-after c) other).0

pub returns-in-None-clause-after : goal.returns-in-None-clause-after
returns-in-None-clause-after c =
    counts_after-shared after_failed_read _ _ _ _ _ c.self.view_is c.in-None.ensures c.raise_reads-in-None.ensures

pub returns-in-None-clause-rose : goal.returns-in-None-clause-rose
returns-in-None-clause-rose c = rose-reads c.args.self.now _ c.args.name.now (returns-in-None-clause-after c)

pub returns-in-None-clause-reads_never_fall : goal.returns-in-None-clause-reads_never_fall
returns-in-None-clause-reads_never_fall c = λ other. (counts-raised after_failed_read read_raised c.args.self.now _ c.args.name.now (returns-in-None-clause-after c) other).0

pub returns-in-Some-clause-writes_stay : goal.returns-in-Some-clause-writes_stay
returns-in-Some-clause-writes_stay c = λ other. counts_related (λ (x y : Counts). y.writes ≡ x.writes) (λ x. refl) after_failed_read (λ x. refl) c.args.self.now _ c.args.name.now (returns-in-Some-clause-after c) other

pub returns-in-Some-clause-reads_alone : goal.returns-in-Some-clause-reads_alone
returns-in-Some-clause-reads_alone c = only_one (λ x. x.reads) _ _ c.args.name.now (counts-alone after_failed_read c.args.self.now _ c.args.name.now (returns-in-Some-clause-after c))

pub returns-in-None-clause-writes_stay : goal.returns-in-None-clause-writes_stay
returns-in-None-clause-writes_stay c = λ other. counts_related (λ (x y : Counts). y.writes ≡ x.writes) (λ x. refl) after_failed_read (λ x. refl) c.args.self.now _ c.args.name.now (returns-in-None-clause-after c) other

pub returns-in-None-clause-reads_alone : goal.returns-in-None-clause-reads_alone
returns-in-None-clause-reads_alone c = only_one (λ x. x.reads) _ _ c.args.name.now (counts-alone after_failed_read c.args.self.now _ c.args.name.now (returns-in-None-clause-after c))
