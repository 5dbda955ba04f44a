use Rattle.std.proofs.Common.{◌∙◌, ◌++◌, List, ℕ, ap, drop, length}
use Rattle.std.proofs.Math.Seq.{drop-append_seam}
use Rattle.arch_csv.specs.ArchitectureOf.{architecture_of_bytes}
use Rattle.arch_csv.specs.Text.{architecture_text}
use Rattle.arch_csv.proofs.ReadBack.{reads_back}
use Rattle.arch_csv.proofs.writer.write_architecture.Goals as goal

pub returns-clause-text : goal.returns-clause-text
returns-clause-text c =
    let written = architecture_text c.args.lib.now c.args.arch.now in
    c.in_ok-extend_from_slice.ensures.items
    ∙ ap (λ (t : List ℕ). c.args.out.now.items ++ t)
    (c.as_bytes.ensures.value ∙ c.in_ok-push_architecture.ensures ∙ ap (λ (t : List ℕ). t ++ written) c.in_ok-text.ensures.bytes)

pub returns-clause-reads_back : goal.returns-clause-reads_back
returns-clause-reads_back c =
    let lib = c.args.lib.now in
    let text = architecture_text lib c.args.arch.now in
    ap (λ (bytes : List ℕ). architecture_of_bytes lib (drop (length c.args.out.now.items) bytes)) (returns-clause-text c)
    ∙ ap (architecture_of_bytes lib) (drop-append_seam c.args.out.now.items text)
    ∙ reads_back lib c.args.arch.now c.components.ensures.library c.requires
