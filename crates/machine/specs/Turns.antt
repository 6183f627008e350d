-- What the functions that make one turn promise.
use Rattle.std.specs.Prelude.{◌≡◌, ℕ, ◌<◌, ◌≤◌, List, length, ℤ, pos, Ok, Err, Result}
use Rattle.words.specs.declared.printing.Kind.{Kind}
use Rattle.words.specs.Bytes.{kept}
use Rattle.words.specs.Printing.{printed_as}
use Rattle.step.specs.declared.interpreter.Interpreter.{Interpreter}
use Rattle.step.specs.declared.registers.Effect.{Effect}
use Rattle.step.specs.declared.registers.Effect.TheVariants.{Moved, Takes, Writes}
use Rattle.step.specs.State.{State, Step, moves, takes, writes, at}
use Rattle.step.specs.Stacks.{pushed}
use Rattle.step.specs.Promises.{SameLoans, printed_from, state_of}
use Rattle.machine.specs.declared.advance.Rest.{Rest}
use Rattle.outcomes.specs.declared.Stop.{Stop}
use Rattle.outcomes.specs.declared.Stop.TheVariants.{Ended, Paused}
use Rattle.machine.specs.Answers.{PausesAt}
use Rattle.machine.specs.Runs.{View, Scene, scene, Turn, goes, pauses, stops, turn_of, turn, Led}

-- only a step that is made changes anything
abbrev pub Turned : Result (Unit {0}) Stop → Turn → Scene → Scene → Type 0
Turned (Ok _) t before after = t ≡ goes after
Turned (Err (Ended verdict)) t before after = (t ≡ stops verdict) × (after ≡ before)
Turned (Err (Paused pause)) t before after = (t ≡ pauses pause) × (after ≡ before)

-- a turn of an interpreter, with its code and the stores that it is lent
abbrev pub Turning : Result (Unit {0}) Stop → Turn → Interpreter → View → Interpreter → View → Type 0
Turning o t i v j w = SameLoans i j × Turned o t (scene (state_of i) v) (scene (state_of j) w)

abbrev pub TurnedAs : Result (Unit {0}) Stop → Interpreter → View → Interpreter → View → Type 0
TurnedAs o i v j w = Turning o (turn i.code.now (scene (state_of i) v)) i v j w

-- a read
abbrev pub Read : Result (Unit {0}) Stop → Kind → ℕ → Interpreter → View → Interpreter → View → Type 0
Read o kind next i v j w = Turning o (turn_of (takes (λ word. at (pos next) (pushed (kept kind word) (state_of i)))) v) i v j w

-- a print
abbrev pub Printed : Result (Unit {0}) Stop → Kind → ℤ → ℤ → ℕ → Interpreter → View → Interpreter → View → Type 0
Printed o kind value width next i v j w = Turning o (turn_of (writes (printed_as kind value width) (printed_from next (state_of i))) v) i v j w

-- the step that an effect stands for, in the state that it left
abbrev pub step_of : Effect → State → Step
step_of Moved s = moves s
step_of (Takes kind next) s = takes (λ w. at (pos next) (pushed (kept kind w) s))
step_of (Writes kind value width next) s = writes (printed_as kind value width) (printed_from next s)

-- there is a place for the word, and there are the value and the width
abbrev pub Wanted : Effect → Interpreter → Type 0
Wanted Moved i = Unit {0}
Wanted (Takes kind next) i = i.height < length i.operand.now
Wanted (Writes kind value width next) i = 2 ≤ i.height

abbrev pub ExchangedAs : Result (Unit {0}) Stop → Effect → Interpreter → View → Interpreter → View → Type 0
ExchangedAs o effect i v j w = Turning o (turn_of (step_of effect (state_of i)) v) i v j w

-- why no step was made after those of a run
abbrev pub Halted : Stop → List ℕ → ℕ → ℕ → Scene → Type 0
Halted (Ended verdict) code budget n to = (n < budget) × (turn code to ≡ stops verdict)
Halted (Paused pause) code budget n to = PausesAt pause code budget n to

-- the steps of a run, and why it stopped
pub record Drove (rest : Rest) (budget : ℕ) (i : Interpreter) (v : View) (j : Interpreter) (w : View) : Type 0 where
  pub same : SameLoans i j
  pub led : Led i.code.now rest.steps (scene (state_of i) v) (scene (state_of j) w)
  pub halted : Halted rest.stop i.code.now budget rest.steps (scene (state_of j) w)
