-- Another run, with the machine that a run left.
use Rattle.std.specs.Prelude.{◌≡◌, ℕ, Some, None, Option}
use Rattle.machine.specs.declared.machine.Machine.{Machine}
use Rattle.machine.specs.declared.machine.Progress.{Progress}
use Rattle.machine.specs.declared.machine.Progress.TheVariants.{Ended, Paused, Refused}
use Rattle.machine.specs.Runs.{View}
use Rattle.machine.specs.Machines.{Stores}
use Rattle.machine.specs.Answers.{AdvancedAs}

-- a run leaves a machine unless the program ended
abbrev pub machine_of : Progress → Option Machine
machine_of (Ended verdict steps) = None
machine_of (Paused m pause steps) = Some m
machine_of (Refused refusal m) = Some m

-- resume: a run exactly if there is a machine; else nothing changes
abbrev pub ResumedAs : Option Progress → Option Machine → ℕ → Stores → View → Stores → View → Type 0
ResumedAs (Some p) (Some m) budget s v s' v' = AdvancedAs p m budget s v s' v'
ResumedAs None None budget s v s' v' = (s' ≡ s) × (v' ≡ v)
ResumedAs (Some p) None budget s v s' v' = ⊥
ResumedAs None (Some m) budget s v s' v' = ⊥
