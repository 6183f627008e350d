use Rattle.step.proofs.Soundness.{step_keeps}
use Rattle.step.proofs.laws.steps_keep_sound.Goals as goal

pub returns : goal.returns
returns c = step_keeps
