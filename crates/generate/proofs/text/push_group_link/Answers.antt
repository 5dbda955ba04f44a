use Rattle.std.proofs.Common.{append_assoc, ◌∙◌}
use Rattle.generate.specs.Generated.{link_text}
use Rattle.generate.proofs.text.push_group_link.Goals as goal

pub returns : goal.returns
unfolding link_text
returns c = c.in_ok-write.ensures.bytes ∙ simp append_assoc
