use Rattle.replay_output.specs.EightLaws.{eight_is}
use Rattle.replay_output.proofs.eight.Goals as goal

pub returns : goal.returns
returns c = eight_is _ _ _ _ c.spread.ensures c.glyphs.ensures c.to_le_bytes.ensures
