use Rattle.std.proofs.Common.{arith, ◌∙◌}
use Rattle.replay_output.specs.EightLaws.{part_put, parts_put}
use Rattle.replay_output.proofs.put_line.Goals as goal

pub returns : goal.returns
returns c =
    parts_put _ _ _ _ _ _ _ c.requires (part_put _ _ _ _ _ c.copy_from_slice.ensures.after (omega arith))
    (part_put _ _ _ _ _ (c.copy_from_slice-2.ensures.after ∙ c.eight.ensures) (omega arith))
    (part_put _ _ _ _ _ (c.copy_from_slice-3.ensures.after ∙ c.eight-2.ensures) (omega arith))
