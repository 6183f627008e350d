-- The machine on a whole input, with unlimited room: what n steps take and write, and how they end.
use Rattle.std.specs.Prelude.{ℕ, zero, suc, List, [], ◌∷◌, ◌++◌, replicate, ℤ, pos, negsuc, slice_set}
use Rattle.outcomes.specs.declared.Verdict.{Verdict}
use Rattle.step.specs.State.{State, state, Step, moves, takes, writes, ends}
use Rattle.step.specs.Perform.{step}
use Rattle.program.specs.Core.{Program}
use Rattle.meaning.specs.World.{Limits}
use Rattle.code.specs.Objects.{object_of}

pub data Config : Type 0 where
  -- the state, the input that is left, the words taken and the bytes written so far
  runs : State → List ℤ → List ℤ → List ℕ → Config
  -- a read wants a word, and none is left: no step is made any more
  waits : State → List ℤ → List ℕ → Config
  -- the verdict, and what the stores hold then
  ended : Verdict → State → List ℤ → List ℕ → Config

abbrev pub with_word : State → (ℤ → State) → List ℤ → List ℤ → List ℕ → Config
with_word s f [] ws bs = waits s ws bs
with_word s f (x ∷ xs) ws bs = runs (f x) xs (ws ++ x ∷ []) bs

abbrev pub config_of : Step → State → List ℤ → List ℤ → List ℕ → Config
config_of (moves t) s xs ws bs = runs t xs ws bs
config_of (takes f) s xs ws bs = with_word s f xs ws bs
config_of (writes b t) s xs ws bs = runs t xs ws (bs ++ b)
config_of (ends v) s xs ws bs = ended v s ws bs

abbrev pub next : List ℕ → Config → Config
next code (runs s xs ws bs) = config_of (step code s) s xs ws bs
next code (waits s ws bs) = waits s ws bs
next code (ended v s ws bs) = ended v s ws bs

-- the n-fold step
abbrev pub steps : ℕ → List ℕ → Config → Config
steps zero code c = c
steps (suc n) code c = next code (steps n code c)

-- a machine as it is made, in a data store of so many words: at its main address, all stores cleared
abbrev pub made : ℕ → Limits → ℕ → State
made datas L main =
    state (record { pc = pos main; frame = pos 0; top = 1; height = 0; free = 1 }) (replicate datas (pos 0)) (replicate L.heap (pos 0)) (slice_set (replicate L.call (pos 0)) 0 (negsuc 0)) (replicate L.operand (pos 0))

-- the machine of a program's object on an input, whose main method is number m
abbrev pub started : Program → ℕ → ℕ → Limits → List ℤ → Config
started p m datas L input = runs (made datas L (object_of p m).main) input [] []

abbrev pub taken_by : Config → List ℤ
taken_by (runs s xs ws bs) = ws
taken_by (waits s ws bs) = ws
taken_by (ended v s ws bs) = ws

abbrev pub written_by : Config → List ℕ
written_by (runs s xs ws bs) = bs
written_by (waits s ws bs) = bs
written_by (ended v s ws bs) = bs
