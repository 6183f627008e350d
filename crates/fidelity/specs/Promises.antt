-- What the code of a program promises: on every input, the machine shows the program's trace, event for event, at fixed counts of steps.
use Rattle.std.specs.Prelude.{◌≡◌, ℕ, suc, ◌<◌, ◌≤◌, false, ◌⊎◌, ◌↔◌, List, [], ◌∷◌, ◌++◌, length, take, ℤ, pos, Some, None, Option, ◌≢◌}
use mathlib.Core.List.{Memᴰ}
use Rattle.outcomes.specs.declared.Verdict.TheVariants.{IllegalStep}
use Rattle.step.specs.State.{State}
use Rattle.program.specs.Core.{Program}
use Rattle.program.specs.Legal.{Legal}
use Rattle.meaning.specs.World.{Event, took, wrote, ended, limits}
use Rattle.meaning.specs.Trace.{Case, InTrace}
use Rattle.code.specs.Patterns.{lines_of, size_methods}
use Rattle.code.specs.Objects.{object_of, high}
use Rattle.fidelity.specs.Inputs as machine
use Rattle.fidelity.specs.Inputs.{Config, runs, waits, started, steps, taken_by, written_by}
use Rattle.fidelity.specs.Operands.{operands, statement_boundaries, Few, NoneHeld}

-- a program that the last stage accepts, its main method, and the lengths of the stores that a machine is made with
pub record Setting : Type 0 where
  pub program : Program
  pub main : ℕ
  pub main_is : program.main ≡ Some main
  pub legal : Legal program
  pub low : high (lines_of program) ≡ false
  pub short : size_methods program.methods ≤ 8192
  pub datas : ℕ
  pub enough : length program.globals ≤ datas
  pub heap : ℕ
  pub heap_some : 1 ≤ heap
  pub call : ℕ
  pub call_some : 1 ≤ call
  pub operand : ℕ
  pub operand_enough : 32 ≤ operand

abbrev pub case_of : Setting → List ℤ → Case
case_of g input = record { program = g.program; limits = limits g.heap g.call g.operand; input = input }

abbrev pub code_of : Setting → List ℕ
code_of g = (object_of g.program g.main).code

-- the machine after n steps on an input, with unlimited room
abbrev pub after : Setting → List ℤ → ℕ → Config
after g input n = steps n (code_of g) (started g.program g.main g.datas (limits g.heap g.call g.operand) input)

abbrev pub words_in : List Event → List ℤ
words_in [] = []
words_in (took w ∷ es) = w ∷ words_in es
words_in (wrote bs ∷ es) = words_in es
words_in (ended v gs ∷ es) = words_in es

abbrev pub bytes_in : List Event → List ℕ
bytes_in [] = []
bytes_in (took w ∷ es) = bytes_in es
bytes_in (wrote bs ∷ es) = bs ++ bytes_in es
bytes_in (ended v gs ∷ es) = bytes_in es

-- events from number i on
abbrev pub FromNumber : Case → ℕ → List Event → Type 0
FromNumber c i [] = Unit {0}
FromNumber c i (e ∷ es) = InTrace c i e × FromNumber c (suc i) es

abbrev pub NoVerdict : List Event → Type 0
NoVerdict [] = Unit {0}
NoVerdict (took w ∷ es) = NoVerdict es
NoVerdict (wrote bs ∷ es) = NoVerdict es
NoVerdict (ended v gs ∷ es) = ⊥

-- a prefix of the trace without a verdict, whose words and bytes are exactly these
pub record Prefix (c : Case) (ws : List ℤ) (bs : List ℕ) (es : List Event) : Type 0 where
  pub begins : FromNumber c 0 es
  pub plain : NoVerdict es
  pub words : words_in es ≡ ws
  pub bytes : bytes_in es ≡ bs

-- the values of the globals
abbrev pub globals_in : Setting → State → List ℤ
globals_in g s = take (length g.program.globals) s.datas

-- behind the prefix comes a verdict, if one was given
abbrev pub Ending : Setting → List ℤ → Config → ℕ → Type 0
Ending g input (runs s xs ws bs) n = Unit {0}
Ending g input (waits s ws bs) n = Unit {0}
Ending g input (machine.ended v s ws bs) n = InTrace (case_of g input) n (ended v (globals_in g s))

-- what was taken and written is exactly a prefix of the trace, the only one; a verdict is the next event, with the values of the globals
pub record Shows (g : Setting) (input : List ℤ) (n : ℕ) : Type 0 where
  pub events : List Event
  pub prefix : Prefix (case_of g input) (taken_by (after g input n)) (written_by (after g input n)) events
  pub only : (es : List Event) → Prefix (case_of g input) (taken_by (after g input n)) (written_by (after g input n)) es → es ≡ events
  pub ending : Ending g input (after g input n) (length events)

abbrev pub MachineShowsTheTrace : Type 0
MachineShowsTheTrace = (g : Setting) (input : List ℤ) (n : ℕ) → Shows g input n

-- event number i has been shown: it is among those of the prefix, or it is the verdict
abbrev pub HasShown : Setting → List ℤ → Config → ℕ → Type 0
HasShown g input c i = (es : List Event) × Prefix (case_of g input) (taken_by c) (written_by c) es × ((i < length es) ⊎ ((i ≡ length es) × Stopped c))
  where
    Stopped : Config → Type 0
    Stopped (runs s xs ws bs) = ⊥
    Stopped (waits s ws bs) = ⊥
    Stopped (machine.ended v s ws bs) = Unit {0}

-- the least number of steps after which event number i has been shown
pub record Least (g : Setting) (input : List ℤ) (i n : ℕ) : Type 0 where
  pub shown : HasShown g input (after g input n) i
  pub not_before : (k : ℕ) → k < n → HasShown g input (after g input k) i → ⊥

-- every event of the trace has its number of steps: at least 1, rising with the event's number, and from there on the event stays shown
pub record FixedSteps (g : Setting) (input : List ℤ) : Type 0 where
  pub number : (i : ℕ) (e : Event) → InTrace (case_of g input) i e → ℕ
  pub least : (i : ℕ) (e : Event) (t : InTrace (case_of g input) i e) → Least g input i (number i e t)
  pub positive : (i : ℕ) (e : Event) (t : InTrace (case_of g input) i e) → 1 ≤ number i e t
  pub rises : (i j : ℕ) (e f : Event) (t : InTrace (case_of g input) i e) (u : InTrace (case_of g input) j f) → i < j → number i e t < number j f u
  pub from_then : (i : ℕ) (e : Event) (t : InTrace (case_of g input) i e) (n : ℕ) → HasShown g input (after g input n) i ↔ (number i e t ≤ n)

abbrev pub EventsComeAtFixedSteps : Type 0
EventsComeAtFixedSteps = (g : Setting) (input : List ℤ) → FixedSteps g input

-- the offset of the next instruction
abbrev pub pc_of : Config → Option ℤ
pc_of (runs s xs ws bs) = Some s.registers.pc
pc_of (waits s ws bs) = Some s.registers.pc
pc_of (machine.ended v s ws bs) = None

pub record HoldsFew (g : Setting) (input : List ℤ) (n : ℕ) : Type 0 where
  pub few : Few (operands n (code_of g) (started g.program g.main g.datas (limits g.heap g.call g.operand) input))
  pub none_between :
      (pc : ℕ) → Memᴰ pc (statement_boundaries g.program.methods 0) → pc_of (after g input n) ≡ Some (pos pc) →
      NoneHeld (operands n (code_of g) (started g.program g.main g.datas (limits g.heap g.call g.operand) input))

-- no call ever holds more than 32 operands, and none between statements
abbrev pub OperandsStayFew : Type 0
OperandsStayFew = (g : Setting) (input : List ℤ) (n : ℕ) → HoldsFew g input n

-- on an input that goes on, the same steps come to the same, as long as no word is missing
abbrev pub Longer : List ℤ → Config → Config
Longer more (runs s xs ws bs) = runs s (xs ++ more) ws bs
Longer more (waits s ws bs) = waits s ws bs
Longer more (machine.ended v s ws bs) = machine.ended v s ws bs

abbrev pub NotWaiting : Config → Type 0
NotWaiting (runs s xs ws bs) = Unit {0}
NotWaiting (waits s ws bs) = ⊥
NotWaiting (machine.ended v s ws bs) = Unit {0}

abbrev pub LongerInputDoesTheSame : Type 0
LongerInputDoesTheSame = (g : Setting) (input more : List ℤ) (n : ℕ) → NotWaiting (after g input n) → after g (input ++ more) n ≡ Longer more (after g input n)

-- verdict 9 never comes
abbrev pub NoIllegalStep : Type 0
NoIllegalStep = (g : Setting) (input : List ℤ) (n : ℕ) (s : State) (ws : List ℤ) (bs : List ℕ) → after g input n ≢ machine.ended IllegalStep s ws bs
