-- No two cases of a list have one number.
use Rattle.std.specs.Prelude.{◌≡◌}
use Rattle.outcomes.specs.declared.Verdict.{Verdict}
use Rattle.outcomes.specs.declared.Pause.{Pause}
use Rattle.outcomes.specs.declared.Stage.{Stage}
use Rattle.outcomes.specs.declared.Refusal.{Refusal}
use Rattle.outcomes.specs.Numbers.{number_of_verdict, number_of_pause, number_of_stage, number_of_refusal}

pub record EachNumberIsOneCase : Type 0 where
  pub verdicts : (v w : Verdict) → number_of_verdict v ≡ number_of_verdict w → v ≡ w
  pub pauses : (p q : Pause) → number_of_pause p ≡ number_of_pause q → p ≡ q
  pub stages : (s t : Stage) → number_of_stage s ≡ number_of_stage t → s ≡ t
  pub refusals : (r s : Refusal) → number_of_refusal r ≡ number_of_refusal s → r ≡ s
