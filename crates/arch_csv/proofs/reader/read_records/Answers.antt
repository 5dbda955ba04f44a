use Rattle.std.proofs.Common.{◌∙◌, [], sym, refl, arith, inr}
use Rattle.std.proofs.lemmas.Result.{err_from_is_err_and}
use Rattle.csv.specs.Reading.{Reached, strip_bom}
use Rattle.arch_csv.proofs.RecordsRead.{all_read, few_records, goes_on, stopped}
use Rattle.arch_csv.proofs.reader.read_records.Goals as goal

pub loop-row-init : goal.loop-row-init
unfolding Reached
loop-row-init c =
    let fr = c.from_reader.ensures in
    let e = c.has_headers.ensures in
    let g = c.flexible.ensures in
    let start = c.into_iter-row-iterator.ensures.into_iter_gives ∙ refl in
    let rdr = c.into_byte_records-rows.ensures.rdr in
    let left = c.into_byte_records-rows.ensures.left in
    rw (start, rdr) (
      left,
      record {
        trim = rw (g, e) at fr.trim ∙ c.new.ensures.trim;
        ready = inr (inr (rw (g, e) at fr.has_headers, fr.headers));
        config = rw (g, e) at fr.config ∙ c.new.ensures.config;
        flexible = rw g at fr.flexible;
        rest = strip_bom c.args.bytes.now;
        source = fr.source;
        rows = [];
        reached = (sym fr.state, refl);
        draft = c.in_ok-draft.ensures.empty;
      },
    )

pub take-requires-clause-few : goal.take-requires-clause-few
take-requires-clause-few c =
    let few = few_records c.args.lib.now c.args.bytes.now c.loop-row.row-iterator.rdr c.loop-row.draft c.loop-row.invariant.1 in
    omega (arith, few, c.requires)

pub overflow_add-draft : goal.overflow_add-draft
overflow_add-draft c =
    let few = few_records c.args.lib.now c.args.bytes.now c.loop-row.row-iterator.rdr c.loop-row.draft c.loop-row.invariant.1 in
    omega (arith, few, c.requires)

pub loop-row-preserved : goal.loop-row-preserved
loop-row-preserved c =
    let inv = c.loop-row.invariant in
    let steps = c.next.ensures.steps inv.0 inv.1.trim in
    let s = rw (c.in-Some.is, c.in-Ok.is) at (steps.0 inv.1.ready) in
    let f = rw (c.in-Some.is, c.in-Ok.is) at steps.3 in
    (s.2, goes_on c.args.lib.now (strip_bom c.args.bytes.now) c.loop-row.row-iterator.rdr c.next.new.self.rdr c.loop-row.draft c.take.new.self c.in-Ok.row c.next.new.self.left inv.1 s f c.in_ok-take-in-Ok.ensures)

pub returns-in_err-take-in-Ok-clause-fault : goal.returns-in_err-take-in-Ok-clause-fault
returns-in_err-take-in-Ok-clause-fault c =
    let inv = c.loop-row.invariant in
    let s = rw (c.in-Some.is, c.in-Ok.is) at ((c.next.ensures.steps inv.0 inv.1.trim).0 inv.1.ready) in
    let p = err_from_is_err_and c.from_residual-in_err-take-in-Ok.result c.from_residual-in_err-take-in-Ok.ensures.1 in
    rw (p.1, p.2) (stopped c.args.lib.now c.args.bytes.now c.loop-row.row-iterator.rdr c.next.new.self.rdr c.loop-row.draft c.in-Ok.row c.next.new.self.left c.in_err-take-in-Ok.field-0.0 c.requires inv.1 s c.in_err-take-in-Ok.ensures)

pub returns-clause-draft : goal.returns-clause-draft
returns-clause-draft c =
    let inv = c.loop-row.invariant in
    let s = rw c.in-None.is at ((c.next.ensures.steps inv.0 inv.1.trim).0 inv.1.ready) in
    all_read c.args.lib.now c.args.bytes.now c.loop-row.row-iterator.rdr c.next.new.self.rdr c.loop-row.draft c.next.new.self.left inv.1 s
