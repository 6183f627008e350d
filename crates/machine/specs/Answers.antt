-- What start and advance answer, and what they leave in the stores and the console.
use Rattle.std.specs.Prelude.{◌≡◌, ℕ, ◌+◌, ◌<◌, List, Ok, Err, Result, ◌≢◌}
use Rattle.outcomes.specs.declared.Pause.{Pause}
use Rattle.outcomes.specs.declared.Pause.TheVariants.{Budget, Input, Output}
use Rattle.outcomes.specs.declared.Refusal.{Refusal}
use Rattle.outcomes.specs.declared.Refusal.TheVariants.{UnfitStore, StoreLengthChanged}
use Rattle.outcomes.specs.declared.Verdict.{Verdict}
use Rattle.object.specs.File.{Object}
use Rattle.step.specs.declared.registers.Registers.{Registers}
use Rattle.machine.specs.declared.machine.Machine.{Machine}
use Rattle.machine.specs.declared.machine.Progress.{Progress}
use Rattle.machine.specs.declared.machine.Progress.TheVariants.{Ended, Paused, Refused}
use Rattle.machine.specs.Runs.{View, Scene, scene, pauses, stops, turn, Led}
use Rattle.machine.specs.Machines.{Stores, lengths_of, Suffices, cleared, state_with, state_in, Begins}

-- start: a machine in cleared stores, or 16 exactly if a length does not suffice, with nothing changed
abbrev pub StartedAs : Object → Result Machine Refusal → Stores → Stores → Type 0
StartedAs o (Ok m) before after = Suffices o.globals (lengths_of before) × Begins o before m × (after ≡ cleared before)
StartedAs o (Err r) before after = (r ≡ UnfitStore) × (Suffices o.globals (lengths_of before) → ⊥) × (after ≡ before)

-- how a run ends with a verdict: after the steps before it, the next one is the verdict's, which is counted and changes nothing
pub record EndsWith (verdict : Verdict) (code : List ℕ) (budget counted : ℕ) (from : Scene) (s : Stores) (v : View) : Type 0 where
  pub before : ℕ
  pub registers : Registers
  pub counts : counted ≡ before + 1
  pub within : before < budget
  pub led : Led code before from (scene (state_with registers s) v)
  pub next : turn code (scene (state_with registers s) v) ≡ stops verdict

-- why a run of n counted steps pauses: the budget first; else a read that finds no word, a print that finds too little room
abbrev pub PausesAt : Pause → List ℕ → ℕ → ℕ → Scene → Type 0
PausesAt Budget code budget n to = n ≡ budget
PausesAt Input code budget n to = (n < budget) × (turn code to ≡ pauses Input)
PausesAt Output code budget n to = (n < budget) × (turn code to ≡ pauses Output)

-- a machine that goes on later: the same code and lengths
pub record Continues (m m' : Machine) : Type 0 where
  pub code : m'.code.now ≡ m.code.now
  pub lengths : m'.lengths ≡ m.lengths

-- advance: a verdict, or a pause and the machine; 17 exactly if a store's length differs from the start, with nothing changed
abbrev pub AdvancedAs : Progress → Machine → ℕ → Stores → View → Stores → View → Type 0
AdvancedAs (Ended verdict steps) m budget s v s' v' = (lengths_of s ≡ m.lengths) × EndsWith verdict m.code.now budget steps (scene (state_in m s) v) s' v'
AdvancedAs (Paused m' pause steps) m budget s v s' v' =
    (lengths_of s ≡ m.lengths) × Led m.code.now steps (scene (state_in m s) v) (scene (state_in m' s') v') × PausesAt pause m.code.now budget steps (scene (state_in m' s') v') × Continues m m'
AdvancedAs (Refused refusal m') m budget s v s' v' = (refusal ≡ StoreLengthChanged) × (lengths_of s ≢ m.lengths) × (m' ≡ m) × (s' ≡ s) × (v' ≡ v)
