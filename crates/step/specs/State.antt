-- The machine's state, and what one step comes to.
use Rattle.std.specs.Prelude.{ℕ, List, ℤ}
use Rattle.outcomes.specs.declared.Verdict.{Verdict}
use Rattle.step.specs.declared.registers.Registers.{Registers}

-- the registers, and four stores of words that the host lends
pub record State : Type 0 where
  pub registers : Registers
  pub datas : List ℤ
  pub heap : List ℤ
  pub call : List ℤ
  pub operand : List ℤ

abbrev pub state : Registers → List ℤ → List ℤ → List ℤ → List ℤ → State
state r d h c o = record { registers = r; datas = d; heap = h; call = c; operand = o }

pub data Step : Type 0 where
  -- the step is made
  moves : State → Step
  -- a read: the state that comes of the word taken
  takes : (ℤ → State) → Step
  -- a print: the bytes written, and the state that comes then
  writes : List ℕ → State → Step
  -- the program ends; nothing changes
  ends : Verdict → Step

-- the state at another instruction
abbrev pub at : ℤ → State → State
at pc s = state (record { pc = pc; frame = s.registers.frame; top = s.registers.top; height = s.registers.height; free = s.registers.free }) s.datas s.heap s.call s.operand

-- the state with another operand stack, heap, call stack or data store
abbrev pub with_operand : ℕ → List ℤ → State → State
with_operand height operand s = state (record { pc = s.registers.pc; frame = s.registers.frame; top = s.registers.top; height = height; free = s.registers.free }) s.datas s.heap s.call operand

abbrev pub with_heap : ℕ → List ℤ → State → State
with_heap free heap s = state (record { pc = s.registers.pc; frame = s.registers.frame; top = s.registers.top; height = s.registers.height; free = free }) s.datas heap s.call s.operand

abbrev pub with_call : ℤ → ℕ → List ℤ → State → State
with_call frame top call s = state (record { pc = s.registers.pc; frame = frame; top = top; height = s.registers.height; free = s.registers.free }) s.datas s.heap call s.operand

abbrev pub with_data : List ℤ → State → State
with_data datas s = state s.registers datas s.heap s.call s.operand
