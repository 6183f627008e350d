-- Operands by call, and where statements begin and end in the code.
use Rattle.std.specs.Prelude.{◌≡◌, ℕ, zero, suc, ◌+◌, ◌-◌, ◌≤◌, List, [], ◌∷◌, ◌++◌, Some, None, Option}
use Rattle.std.specs.List.{All}
use Rattle.instructions.specs.declared.Decoded.{Decoded}
use Rattle.instructions.specs.declared.Instruction.{Instruction}
use Rattle.instructions.specs.declared.Instruction.TheVariants.{Load, Store, GetStatic, PutStatic, Const, Binary, Negate, Increment, NewArray, ArrayLoad, ArrayStore, ArrayLength, Pop, Dup, Dup2, Jump, JumpIf, Call, Return, Enter, Exit, Read, Print, Trap}
use Rattle.step.specs.Perform.{fetched}
use Rattle.program.specs.Core.{Action, assign, step, read, print, invoke, discard, when, choose, while, break, return, give, block, nothing, Actions, no_actions, and_then, Method}
use Rattle.code.specs.Patterns.{size_a, size_condition, size_method}
use Rattle.fidelity.specs.Inputs.{Config, runs, waits, ended, next, steps}

-- the operands of each call, the running one first; a push or a pop changes the first
abbrev pub change : ℕ → ℕ → List ℕ → List ℕ
change pops pushes [] = []
change pops pushes (h ∷ hs) = (h - pops + pushes) ∷ hs

-- the arguments leave the caller, and the new call has none
abbrev pub entered : ℕ → List ℕ → List ℕ
entered parameters hs = 0 ∷ change parameters 0 hs

-- what is left goes to the caller
abbrev pub exited : List ℕ → List ℕ
exited [] = []
exited (h ∷ []) = []
exited (h ∷ k ∷ hs) = (h + k) ∷ hs

abbrev pub operands_after : Instruction → List ℕ → List ℕ
operands_after (Load n) hs = change 0 1 hs
operands_after (Store n) hs = change 1 0 hs
operands_after (GetStatic n) hs = change 0 1 hs
operands_after (PutStatic n) hs = change 1 0 hs
operands_after (Const w) hs = change 0 1 hs
operands_after (Binary o) hs = change 2 1 hs
operands_after Negate hs = change 1 1 hs
operands_after (Increment n by) hs = hs
operands_after (NewArray k) hs = change 1 1 hs
operands_after (ArrayLoad k) hs = change 2 1 hs
operands_after (ArrayStore k) hs = change 3 0 hs
operands_after ArrayLength hs = change 1 1 hs
operands_after Pop hs = change 1 0 hs
operands_after Dup hs = change 0 1 hs
operands_after Dup2 hs = change 0 2 hs
operands_after (Jump by) hs = hs
operands_after (JumpIf r by) hs = change 2 0 hs
operands_after (Call by) hs = hs
operands_after Return hs = hs
operands_after (Enter parameters locals) hs = entered parameters hs
operands_after Exit hs = exited hs
operands_after (Read k) hs = change 0 1 hs
operands_after (Print k) hs = change 2 0 hs
operands_after (Trap n) hs = hs

abbrev pub operands_by : Option Decoded → List ℕ → List ℕ
operands_by None hs = hs
operands_by (Some d) hs = operands_after d.instruction hs

-- a step that is made; a verdict ends all calls
abbrev pub follow : List ℕ → Config → Config → List ℕ → List ℕ
follow code (runs s xs ws bs) (runs t ys vs cs) hs = operands_by (fetched code s.registers.pc) hs
follow code (runs s xs ws bs) (waits t vs cs) hs = hs
follow code (runs s xs ws bs) (ended v t vs cs) hs = []
follow code (waits s ws bs) d hs = hs
follow code (ended v s ws bs) d hs = []

-- the operands of each call after n steps; at first there is no call
abbrev pub operands : ℕ → List ℕ → Config → List ℕ
operands zero code c = []
operands (suc n) code c = follow code (steps n code c) (next code (steps n code c)) (operands n code c)

-- the offsets where the code of a statement begins or ends, nested and empty ones too; the code of this one begins at pc
abbrev mutual
  pub boundaries : Action → ℕ → List ℕ
  boundaries (assign t v) pc = pc ∷ (pc + size_a (assign t v)) ∷ []
  boundaries (step d t) pc = pc ∷ (pc + size_a (step d t)) ∷ []
  boundaries (read k t) pc = pc ∷ (pc + size_a (read k t)) ∷ []
  boundaries (print k v n) pc = pc ∷ (pc + size_a (print k v n)) ∷ []
  boundaries (invoke m vs) pc = pc ∷ (pc + size_a (invoke m vs)) ∷ []
  boundaries (discard m vs) pc = pc ∷ (pc + size_a (discard m vs)) ∷ []
  boundaries (when c a) pc = pc ∷ (pc + size_a (when c a)) ∷ boundaries a (pc + size_condition c)
  boundaries (choose c a e) pc = pc ∷ (pc + size_a (choose c a e)) ∷ (boundaries a (pc + size_condition c) ++ boundaries e (pc + size_condition c + size_a a + 3))
  boundaries (while c a) pc = pc ∷ (pc + size_a (while c a)) ∷ boundaries a (pc + size_condition c)
  boundaries break pc = pc ∷ (pc + 3) ∷ []
  boundaries return pc = pc ∷ (pc + 2) ∷ []
  boundaries (give v) pc = pc ∷ (pc + size_a (give v)) ∷ []
  boundaries (block bs) pc = pc ∷ (pc + size_a (block bs)) ∷ boundaries_in bs pc
  boundaries nothing pc = pc ∷ []

  pub boundaries_in : Actions → ℕ → List ℕ
  boundaries_in no_actions pc = []
  boundaries_in (and_then a bs) pc = boundaries a pc ++ boundaries_in bs (pc + size_a a)

-- of all methods; the body of a method begins behind its `enter`
abbrev pub statement_boundaries : List Method → ℕ → List ℕ
statement_boundaries [] pc = []
statement_boundaries (m ∷ ms) pc = boundaries_in m.body (pc + 3) ++ statement_boundaries ms (pc + size_method m)

-- every call holds at most 32 operands
abbrev pub Few : List ℕ → Type 0
Few hs = All (λ h. h ≤ 32) hs

-- the running call holds none
abbrev pub NoneHeld : List ℕ → Type 0
NoneHeld [] = Unit {0}
NoneHeld (h ∷ hs) = h ≡ 0
