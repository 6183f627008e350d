-- A law of steps.
use Rattle.std.specs.Prelude.{ℕ, List, ℤ}
use Rattle.step.specs.State.{State, Step, moves, takes, writes, ends}
use Rattle.step.specs.Perform.{step}
use Rattle.step.specs.Sound.{Sound}

-- whatever state the step comes to is sound
abbrev pub Keeps : Step → Type 0
Keeps (moves s) = Sound s
Keeps (takes f) = (w : ℤ) → Sound (f w)
Keeps (writes bytes s) = Sound s
Keeps (ends v) = Unit {0}

-- a step from a sound state leads to a sound state, whatever the code
abbrev pub StepsKeepSound : Type 0
StepsKeepSound = (code : List ℕ) (s : State) → Sound s → Keeps (step code s)
