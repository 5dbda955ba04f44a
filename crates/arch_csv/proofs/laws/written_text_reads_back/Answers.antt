use Rattle.arch_csv.proofs.ReadBack.{reads_back}
use Rattle.arch_csv.proofs.laws.written_text_reads_back.Goals as goal

pub returns : goal.returns
returns c = λ lib h arch fits. reads_back lib arch h fits
