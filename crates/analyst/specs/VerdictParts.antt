-- What a verdict says.
use Rattle.std.specs.Prelude.{Option, Some, None}
use Rattle.redundancy_cut.specs.declared.cut.Cut.{Cut}
use Rattle.analyst.specs.declared.verdict.Verdict.{Verdict}
use Rattle.analyst.specs.declared.verdict.Verdict.TheVariants.{Meets, Breaks}

-- the cut that a verdict names; none where the candidate meets every bound
abbrev pub cut_of : Verdict → Option Cut
cut_of Meets = None
cut_of (Breaks cut) = Some cut
