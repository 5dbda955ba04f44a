use Rattle.rows.proofs.TraceLaws.{trace_keeps_vectors}
use Rattle.rows.proofs.laws.traces_keep_vectors.Goals as goal

pub returns : goal.returns
returns c known cube next trace x ok e holds lies = trace_keeps_vectors known x holds trace cube next e ok.within lies
