use Rattle.proof_log.proofs.writing.write_cut.Goals as goal

pub returns-in-Redundancy-clause-ok : goal.returns-in-Redundancy-clause-ok
returns-in-Redundancy-clause-ok c =
    rw c.in-Redundancy.is (rw (c.small.ensures, c.small-in-Redundancy.ensures, c.small-in-Redundancy-2.ensures) at c.write_line.ensures.ok)

pub returns-in-NoGood-clause-ok : goal.returns-in-NoGood-clause-ok
returns-in-NoGood-clause-ok c =
    rw c.in-NoGood.is (rw (c.small-in-NoGood.ensures, c.small-in-NoGood-2.ensures, c.small-in-NoGood-3.ensures) at c.write_line-in-NoGood.ensures.ok)
