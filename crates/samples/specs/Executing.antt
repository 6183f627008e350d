-- An execution in many small runs: what one run with the whole budget does.
use Rattle.std.specs.Prelude.{◌≡◌, ℕ, ◌+◌, ◌<◌, List, Ok, Err, Result}
use Rattle.step.specs.declared.registers.Registers.{Registers}
use Rattle.machine.specs.declared.machine.Machine.{Machine}
use Rattle.machine.specs.Runs.{View, Scene, scene, stops, turn, Led}
use Rattle.machine.specs.Machines.{Stores, cleared, state_with, state_in}
use Rattle.machine.specs.Answers.{PausesAt}
use Rattle.samples.specs.declared.begin.Unfit.{Unfit}
use Rattle.outcomes.specs.declared.Stop.TheVariants.{Ended, Paused}
use Rattle.samples.specs.declared.execute.Report.{Report}
use Rattle.samples.specs.Beginning.{Begun, BegunAs}

-- why no step comes after n of them: the next one is a verdict's, which is counted; or there is a pause
abbrev pub StopsAfter : ℕ → Report → List ℕ → ℕ → Scene → Type 0
StopsAfter n report code budget to = elim report.stop [
  | Ended verdict ↦ (report.steps ≡ n + 1) × (n < budget) × (turn code to ≡ stops verdict)
  | Paused pause ↦ (report.steps ≡ n) × PausesAt pause code budget n to
]

-- the steps of all runs, from a scene to the stores and the console that they leave, and why they stop
pub record Drove (report : Report) (code : List ℕ) (budget : ℕ) (from : Scene) (s : Stores) (v : View) : Type 0 where
  pub made : ℕ
  pub registers : Registers
  pub led : Led code made from (scene (state_with registers s) v)
  pub stopped : StopsAfter made report code budget (scene (state_with registers s) v)

-- an execution of a file: its machine begins, and all runs together go on from there
pub record Executed (report : Report) (bytes : List ℕ) (budget : ℕ) (s : Stores) (v : View) (s' : Stores) (v' : View) : Type 0 where
  pub machine : Machine
  pub begun : Begun machine bytes s
  pub drove : Drove report machine.code.now budget (scene (state_in machine (cleared s)) v) s' v'

-- execute: all runs, or the refusal of the beginning, with nothing changed
abbrev pub ExecutedAs : Result Report Unfit → List ℕ → ℕ → Stores → View → Stores → View → Type 0
ExecutedAs (Ok report) bytes budget s v s' v' = Executed report bytes budget s v s' v'
ExecutedAs (Err unfit) bytes budget s v s' v' = BegunAs (Err unfit) bytes s s' × (v' ≡ v)
