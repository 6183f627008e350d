-- What the methods of an interpreter promise.
use Rattle.std.specs.Prelude.{◌≡◌, ℕ, ◌+◌, ◌-◌, ◌<◌, ◌≤◌, List, length, take, drop, ℤ, pos, ◌≤ℤ◌, ◌<ℤ◌, Ok, Err, Result, ◌≢◌}
use Rattle.outcomes.specs.declared.Verdict.{Verdict}
use Rattle.outcomes.specs.declared.Verdict.TheVariants.{IllegalStep}
use Rattle.words.specs.declared.printing.Kind.{Kind}
use Rattle.words.specs.Bytes.{kept}
use Rattle.words.specs.Printing.{printed_as}
use Rattle.instructions.specs.declared.Instruction.{Instruction}
use Rattle.step.specs.declared.interpreter.Interpreter.{Interpreter}
use Rattle.step.specs.declared.registers.Registers.{Registers}
use Rattle.step.specs.declared.registers.Element.{Element}
use Rattle.step.specs.declared.registers.Effect.{Effect}
use Rattle.step.specs.declared.registers.Effect.TheVariants.{Moved, Takes, Writes}
use Rattle.step.specs.State.{State, state, Step, moves, takes, writes, ends, at, with_operand, with_call}
use Rattle.step.specs.Stacks.{pushed, word_at}
use Rattle.step.specs.Arrays.{element, over}
use Rattle.step.specs.Loans.{SameStore}
use Rattle.step.specs.Perform.{perform, step}

-- the state after a print: the value and the width have left the operand stack
abbrev pub printed_from : ℕ → State → State
printed_from next s = at (pos next) (with_operand (s.registers.height - 2) s.operand s)

-- how an answer relates a step to the states before and after the call: only a step that is made changes anything
abbrev pub Did : Result Effect Verdict → Step → State → State → Type 0
Did (Ok Moved) step before after = step ≡ moves after
Did (Ok (Takes k next)) step before after = (step ≡ takes (λ w. at (pos next) (pushed (kept k w) before))) × (before.registers.height < length before.operand) × (after ≡ before)
Did (Ok (Writes k v w next)) step before after = (step ≡ writes (printed_as k v w) (printed_from next before)) × (2 ≤ before.registers.height) × (after ≡ before)
Did (Err verdict) step before after = (step ≡ ends verdict) × (after ≡ before)

-- the registers that an interpreter has, and its registers and stores
abbrev pub registers_of : Interpreter → Registers
registers_of i = record { pc = i.pc; frame = i.frame; top = i.top; height = i.height; free = i.free }

abbrev pub state_of : Interpreter → State
state_of i = state (registers_of i) i.«data».now i.heap.now i.call.now i.operand.now

-- code and stores are the ones that were lent
pub record SameLoans (i j : Interpreter) : Type 0 where
  pub code : j.code.now ≡ i.code.now
  pub datas : SameStore i.«data» j.«data»
  pub heap : SameStore i.heap j.heap
  pub call : SameStore i.call j.call
  pub operand : SameStore i.operand j.operand

-- what a method that performs an instruction does: the instruction's step
abbrev pub Performed : Instruction → ℕ → Result Effect Verdict → Interpreter → Interpreter → Type 0
Performed x next o i j = SameLoans i j × Did o (perform x (pos next) (state_of i)) (state_of i) (state_of j)

-- what step does: the step at the next instruction
abbrev pub Stepped : Result Effect Verdict → Interpreter → Interpreter → Type 0
Stepped o i j = SameLoans i j × Did o (step i.code.now (state_of i)) (state_of i) (state_of j)

-- an integer as a place in a store of so many words, or verdict 9
abbrev pub PlaceFound : Result ℕ Verdict → ℤ → ℕ → Type 0
PlaceFound (Ok i) z size = (i < size) × (z ≡ pos i)
PlaceFound (Err verdict) z size = (verdict ≡ IllegalStep) × ((i : ℕ) → i < size → z ≢ pos i)

-- the n uppermost operands, the lowest of them first; or verdict 9, where there are fewer
abbrev pub Uppermost : ℕ → Result (List ℤ) Verdict → Interpreter → Type 0
Uppermost n (Ok ws) i = (n ≤ i.height) × ((k : ℕ) → k < n → word_at ws k ≡ word_at i.operand.now (i.height - n + k))
Uppermost n (Err verdict) i = (verdict ≡ IllegalStep) × (i.height < n)

-- so many operands from a place on, as words of the call store from another place on
abbrev pub ArgumentsPassed : ℕ → ℕ → ℕ → Interpreter → Interpreter → Type 0
ArgumentsPassed first left count i j = SameLoans i j × (state_of j ≡ with_call i.frame i.top (over i.call.now first (take count (drop left i.operand.now))) (state_of i))

-- an offset in a code of at most 8,192 bytes
abbrev pub InCode : ℤ → Type 0
InCode pc = (pos 0 ≤ℤ pc) × (pc <ℤ pos 8192)

-- where an element stands, or the verdict that it is not there
abbrev pub ElementFound : Kind → ℤ → ℤ → ℕ → List ℤ → Result Element Verdict → Type 0
ElementFound kind reference index free heap (Ok e) = (go : ℕ → ℕ → Step) → element kind reference index free heap go ≡ go e.word e.index
ElementFound kind reference index free heap (Err verdict) = (go : ℕ → ℕ → Step) → element kind reference index free heap go ≡ ends verdict

-- the end of a read, and of a print
abbrev pub Received : Kind → ℤ → ℕ → Interpreter → Interpreter → Type 0
Received kind word next i j = SameLoans i j × (state_of j ≡ at (pos next) (pushed (kept kind word) (state_of i)))

abbrev pub Dropped : ℕ → Interpreter → Interpreter → Type 0
Dropped next i j = SameLoans i j × (state_of j ≡ printed_from next (state_of i))

-- the same of registers and an operand store, and of registers alone, whatever the other stores hold
abbrev pub ReceivedIn : Kind → ℤ → ℕ → Registers → List ℤ → Registers → List ℤ → Type 0
ReceivedIn kind word next r p r' p' = (d h c : List ℤ) → state r' d h c p' ≡ at (pos next) (pushed (kept kind word) (state r d h c p))

abbrev pub DroppedIn : ℕ → Registers → Registers → Type 0
DroppedIn next r r' = (d h c p : List ℤ) → state r' d h c p ≡ printed_from next (state r d h c p)
