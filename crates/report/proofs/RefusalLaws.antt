-- The lines of refusals, from what the code reads of a fault.
use Rattle.std.proofs.Common.{◌≡◌, ℕ, List, ◌++◌, codes, sym, ap, ◌∙◌, append_assoc}
use Rattle.std.specs.Fmt.{decimal}
use Rattle.lib_read.specs.declared.fault.LibFault.{LibFault}
use Rattle.arch_csv.specs.declared.fault.ArchFault.{ArchFault}
use Rattle.report.specs.Refusal.{class_text, table_text, key_text, refused_library_text, arch_class_text, refused_architecture_text}

-- what the refusal of a library has before the key
abbrev pub before_key : List ℕ → List ℕ → ℕ → List ℕ
before_key class table position = codes "refused library " ++ (class ++ (codes " " ++ (table ++ (codes " " ++ (decimal position ++ codes " ")))))

library_pieces : (a class b table position key z : List ℕ) → a ++ class ++ b ++ table ++ b ++ position ++ b ++ key ++ z ≡ (a ++ (class ++ (b ++ (table ++ (b ++ (position ++ b)))))) ++ key ++ z
library_pieces a class b table position key z = simp append_assoc

pub library_is : (fault : LibFault) (class table key : List ℕ) → class ≡ class_text fault.class → table ≡ table_text fault.table → key ≡ fault.key →
    refused_library_text fault ≡ before_key class table fault.position ++ key_text key ++ codes "\n"
library_is fault class table key of_class of_table of_key =
    library_pieces (codes "refused library ") (class_text fault.class) (codes " ") (table_text fault.table) (decimal fault.position) (key_text fault.key) (codes "\n")
    ∙ ap (λ (t : List ℕ). before_key t (table_text fault.table) fault.position ++ key_text fault.key ++ codes "\n") (sym of_class)
    ∙ ap (λ (t : List ℕ). before_key class t fault.position ++ key_text fault.key ++ codes "\n") (sym of_table)
    ∙ ap (λ (t : List ℕ). before_key class table fault.position ++ key_text t ++ codes "\n") (sym of_key)

architecture_pieces : (a place b class z : List ℕ) → a ++ place ++ b ++ class ++ z ≡ a ++ (place ++ (b ++ (class ++ z)))
architecture_pieces a place b class z = simp append_assoc

pub architecture_is : (fault : ArchFault) (class : List ℕ) → class ≡ arch_class_text fault.class →
    refused_architecture_text fault ≡ codes "refused architecture " ++ (decimal fault.place ++ (codes " " ++ (class ++ codes "\n")))
architecture_is fault class of_class =
    architecture_pieces (codes "refused architecture ") (decimal fault.place) (codes " ") (arch_class_text fault.class) (codes "\n")
    ∙ ap (λ (t : List ℕ). codes "refused architecture " ++ (decimal fault.place ++ (codes " " ++ (t ++ codes "\n")))) (sym of_class)
