use Rattle.std.proofs.Common.{ℕ, List, ◌++◌, take_all, string_bytes, ap, sym, ◌∙◌}
use Rattle.std.specs.List.{flat_map}
use Rattle.std.proofs.lemmas.List.Folds.{flat_map-map}
use Rattle.arch_model.specs.declared.sets.VarId.{VarId}
use Rattle.report.specs.Sets.{spaced_name}
use Rattle.report.proofs.LineLaws.{spaced_of}
use Rattle.report.proofs.TextLaws.{next_of_list}
use Rattle.report.proofs.set_lines.push_members.Goals as goal

pub loop-member-preserved : goal.loop-member-preserved
loop-member-preserved c =
    next_of_list (spaced_of c.args.lib.now) c.args.members.now c.loop-member.member-index (record { 0 = 0 }) (string_bytes c.args.text.now) (string_bytes c.loop-member.text) (string_bytes c.push_spaced.new.text)
    c.loop-member-test.true c.in_ok-push_spaced.ensures c.loop-member.invariant

pub returns : goal.returns
returns c =
    c.loop-member.invariant
    ∙ ap (λ (l : List VarId). string_bytes c.args.text.now ++ flat_map (spaced_of c.args.lib.now) l) (take_all c.loop-member.member-index c.args.members.now c.loop-member-test.false)
    ∙ ap (λ (t : List ℕ). string_bytes c.args.text.now ++ t) (sym (flat_map-map (spaced_name c.args.lib.now) (λ (m : VarId). m.0) c.args.members.now))
