-- For the code's own contracts: how what contracts see of a checker of a text is stored.
use Rattle.std.specs.Prelude.{ℕ, List, refl}
use Rattle.std.specs.Coded.{Coded, code_by, coded×, coded_ℕ, coded_list}
use Rattle.log_checker.specs.Phase.{CheckerParts}
use Rattle.log_checker.specs.Reading.{TextParts}

-- a checker of a text is stored as its parts
abbrev pub text_code : Coded CheckerParts → Coded TextParts
text_code checker =
    code_by (CheckerParts × (List ℕ × ℕ)) (coded× checker (coded× (coded_list coded_ℕ) coded_ℕ)) (λ r. (r.checker, (r.kept, r.bytes)))
    (λ p. record { checker = p.0; kept = p.1.0; bytes = p.1.1 }) (λ _. refl)
