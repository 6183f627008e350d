-- What a run of an object file from another language answers.
use Rattle.std.specs.Prelude.{◌≡◌, List, ◌⊎◌, ℕ, ◌<◌, length, get_or}
use Rattle.outcomes.specs.declared.Refusal.TheVariants.{UnfitStore}
use Rattle.outcomes.specs.Numbers.{number_of_verdict, number_of_pause, number_of_refusal}
use Rattle.object.specs.declared.checked.ObjectFault.{ObjectFault}
use Rattle.object.specs.File.{Object, file_of}
use Rattle.object.specs.Inspection.{WellFormed, RefusedFor}
use Rattle.machine.specs.declared.machine.Progress.{Progress}
use Rattle.machine.specs.declared.machine.Progress.TheVariants.{Ended, Paused, Refused}
use Rattle.machine.specs.Machines.{Stores, lengths_of, Suffices}

-- how the run stopped: 0 for a verdict, else the number of the pause
abbrev pub stop_of : Progress → ℕ
stop_of (Ended verdict steps) = 0
stop_of (Paused machine pause steps) = number_of_pause pause
stop_of (Refused refusal machine) = number_of_refusal refusal

abbrev pub verdict_of : Progress → ℕ
verdict_of (Ended verdict steps) = number_of_verdict verdict
verdict_of (Paused machine pause steps) = 0
verdict_of (Refused refusal machine) = 0

abbrev pub steps_of : Progress → ℕ
steps_of (Ended verdict steps) = steps
steps_of (Paused machine pause steps) = steps
steps_of (Refused refusal machine) = 0

-- what a run is made of: an object file, and stores that suffice for it
pub record Runnable (bytes : List ℕ) (before : Stores) : Type 0 where
  pub object : Object
  pub file : bytes ≡ file_of object
  pub formed : WellFormed object
  pub suffices : Suffices object.globals (lengths_of before)

-- no run: a file that is none, with its offset; stores that do not suffice; or a report that is too short
pub data Declines (bytes : List ℕ) (before : Stores) (report : List ℕ) : ℕ → Type 0 where
  file : (fault : ObjectFault) → RefusedFor bytes fault → get_or report 0 0 ≡ fault.offset → Declines bytes before report (number_of_refusal fault.refusal)
  store : (o : Object) → bytes ≡ file_of o → WellFormed o → (Suffices o.globals (lengths_of before) → ⊥) → Declines bytes before report (number_of_refusal UnfitStore)
  short : length report < 5 → Declines bytes before report 255

-- 0 exactly for what can be run; else nothing changes but the report
abbrev pub Answered : ℕ → List ℕ → Stores → Stores → List ℕ → Type 0
Answered r bytes before after report = ((r ≡ 0) × Runnable bytes before) ⊎ (Declines bytes before report r × (after ≡ before))
