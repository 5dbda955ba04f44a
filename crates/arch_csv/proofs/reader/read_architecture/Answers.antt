use Rattle.arch_csv.proofs.RecordsRead.{bytes_read, bytes_refused, too_large}
use Rattle.arch_csv.proofs.reader.read_architecture.Goals as goal

pub returns-then-bytes-gt-LARGEST-clause-fault : goal.returns-then-bytes-gt-LARGEST-clause-fault
returns-then-bytes-gt-LARGEST-clause-fault c = rw c.at.ensures (too_large c.args.lib.now c.args.bytes.now c.if-bytes-gt-LARGEST.true)

pub returns-clause-architecture : goal.returns-clause-architecture
returns-clause-architecture c =
    bytes_read c.args.lib.now c.args.bytes.now c.in_ok-read_records.field-0 c.finish.result c.if-bytes-gt-LARGEST.false c.in_ok-read_records.ensures.draft c.finish.ensures.ok

pub returns-clause-fault : goal.returns-clause-fault
returns-clause-fault c =
    bytes_refused c.args.lib.now c.args.bytes.now c.in_ok-read_records.field-0 c.finish.result c.if-bytes-gt-LARGEST.false c.in_ok-read_records.ensures.draft c.finish.ensures.err
