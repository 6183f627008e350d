-- Words of the stores: the operand stack, and places in a store.
use Rattle.std.specs.Prelude.{ℕ, ◌+◌, ◌-◌, cond, List, length, ℤ, pos, negsuc, ◌+ℤ◌, nat_lt, slice_index_or, slice_set}
use Rattle.outcomes.specs.declared.Verdict.TheVariants.{IllegalStep}
use Rattle.step.specs.State.{State, Step, moves, ends, at, with_operand}

-- what no other verdict is for: verdict 9
abbrev pub illegal : Step
illegal = ends IllegalStep

-- the word at a place of a store
abbrev pub word_at : List ℤ → ℕ → ℤ
word_at store i = slice_index_or store i (pos 0)

-- on to another instruction
abbrev pub go_to : ℤ → State → Step
go_to pc s = moves (at pc s)

-- the state with a word more on the operand stack
abbrev pub pushed : ℤ → State → State
pushed w s = with_operand (s.registers.height + 1) (slice_set s.operand s.registers.height w) s

-- a word goes onto the operand stack, where the store has one free
abbrev pub push : ℤ → State → (State → Step) → Step
push w s go = cond (nat_lt s.registers.height (length s.operand)) (go (pushed w s)) illegal

-- the uppermost word leaves the operand stack; the store keeps what it held
abbrev pub pop : State → (ℤ → State → Step) → Step
pop s go = cond (nat_lt 0 s.registers.height) (go (word_at s.operand (s.registers.height - 1)) (with_operand (s.registers.height - 1) s.operand s)) illegal

-- an integer as a place in a store of so many words
abbrev pub inside : ℤ → ℕ → (ℕ → Step) → Step
inside (pos i) size go = cond (nat_lt i size) (go i) illegal
inside (negsuc i) size go = illegal

-- the call-store word of a local: the store's length alone bounds it
abbrev pub local : ℕ → State → (ℕ → Step) → Step
local n s go = inside (s.registers.frame +ℤ pos n) (length s.call) go
