-- Runs: one step after another, beside a console.
use Rattle.std.specs.Prelude.{◌≡◌, ℕ, zero, suc, ◌+◌, ◌-◌, cond, List, [], ◌∷◌, ◌++◌, length, ℤ, Some, None, Option, nat_le}
use Rattle.outcomes.specs.declared.Pause.{Pause}
use Rattle.outcomes.specs.declared.Pause.TheVariants.{Input, Output}
use Rattle.outcomes.specs.declared.Verdict.{Verdict}
use Rattle.step.specs.State.{State, Step, moves, takes, writes, ends}
use Rattle.step.specs.Perform.{step}

-- what a console means: the words waiting, the bytes written and not drained, the room
pub record View : Type 0 where
  pub waiting : List ℤ
  pub written : List ℕ
  pub room : ℕ

abbrev pub view : List ℤ → List ℕ → ℕ → View
view ws bs n = record { waiting = ws; written = bs; room = n }

-- a machine's state and its console
pub record Scene : Type 0 where
  pub state : State
  pub console : View

abbrev pub scene : State → View → Scene
scene s v = record { state = s; console = v }

-- what comes next: a step that is made, a pause, or a verdict
pub data Turn : Type 0 where
  goes : Scene → Turn
  pauses : Pause → Turn
  stops : Verdict → Turn

-- a read takes the first waiting word; without one it pauses
abbrev pub with_word : (ℤ → State) → View → List ℤ → Turn
with_word f v [] = pauses Input
with_word f v (w ∷ ws) = goes (scene (f w) (view ws v.written v.room))

-- a print writes all its bytes; without room for them it pauses
abbrev pub with_bytes : List ℕ → State → View → Turn
with_bytes bytes s v = cond (nat_le (length bytes) v.room) (goes (scene s (view v.waiting (v.written ++ bytes) (v.room - length bytes)))) (pauses Output)

abbrev pub turn_of : Step → View → Turn
turn_of (moves s) v = goes (scene s v)
turn_of (takes f) v = with_word f v v.waiting
turn_of (writes bytes s) v = with_bytes bytes s v
turn_of (ends verdict) v = stops verdict

-- what comes next in a scene
abbrev pub turn : List ℕ → Scene → Turn
turn code s = turn_of (step code s.state) s.console

abbrev pub made : Turn → Option Scene
made (goes s) = Some s
made (pauses p) = None
made (stops v) = None

abbrev pub onward : List ℕ → Option Scene → Option Scene
onward code None = None
onward code (Some s) = made (turn code s)

-- the scene after n steps, if so many are made
unfoldable pub after : ℕ → List ℕ → Scene → Option Scene
after zero code s = Some s
after (suc n) code s = onward code (after n code s)

-- what a run exchanges with its console: words from the front of those waiting, bytes behind those written
pub record Exchanged (v u : View) : Type 0 where
  pub words : List ℤ
  pub bytes : List ℕ
  pub taken : v.waiting ≡ words ++ u.waiting
  pub put : u.written ≡ v.written ++ bytes
  pub left : v.room ≡ u.room + length bytes

-- n steps lead from one scene to the other
pub record Led (code : List ℕ) (n : ℕ) (from to : Scene) : Type 0 where
  pub steps : after n code from ≡ Some to
  pub exchanged : Exchanged from.console to.console
