-- The instruction set: a row for each opcode or run of opcodes, in the order of docs/machine.md.
use Rattle.std.specs.Prelude.{ℕ, zero, suc, ◌-◌, Bool, cond, ◌&&◌, List, [], ◌∷◌, ℤ, pos, negsuc, Some, None, Option, ◌==◌, nat_le}
use Rattle.std.specs.Int.{w8}
use Rattle.std.proofs.Common.{to_z}
use Rattle.words.specs.declared.arithmetic.Operator.TheVariants.{Add, Subtract, Multiply, Divide, Remainder}
use Rattle.words.specs.declared.arithmetic.Relation.TheVariants.{Equal, NotEqual, Less, LessOrEqual, Greater, GreaterOrEqual}
use Rattle.words.specs.declared.printing.Kind.TheVariants.{Int, Char}
use Rattle.instructions.specs.declared.Instruction.{Instruction}
use Rattle.instructions.specs.declared.Instruction.TheVariants.{Load, Store, GetStatic, PutStatic, Const, Binary, Negate, Increment, NewArray, ArrayLoad, ArrayStore, ArrayLength, Pop, Dup, Dup2, Jump, JumpIf, Call, Return, Enter, Exit, Read, Print, Trap}

-- what stands behind an opcode, and the instruction that it makes
pub data Operands : Type 0 where
  -- nothing
  alone : Instruction → Operands
  -- a byte, not every one of which need be allowed
  byte : (ℕ → Option Instruction) → Operands
  -- two bytes
  pair : (ℕ → ℕ → Option Instruction) → Operands
  -- two bytes, a number from 0 to 65,535
  short : (ℕ → Instruction) → Operands
  -- two bytes, a number from −32,768 to 32,767
  signed_short : (ℤ → Instruction) → Operands
  -- four bytes, a word
  word : (ℤ → Instruction) → Operands

-- which opcodes a row is for, and what stands behind them
pub record Row : Type 0 where
  pub has : ℕ → Bool
  pub operands : ℕ → Operands

-- one opcode
abbrev pub row : ℕ → Operands → Row
row op o = record { has = λ k. (k == op); operands = λ _. o }

-- the opcodes from `first` to `last`; f is given how far an opcode lies behind the first
abbrev pub rows : ℕ → ℕ → (ℕ → Operands) → Row
rows first last f = record { has = λ k. nat_le first k && nat_le k last; operands = λ k. f (k - first) }

-- the kind of a new array: byte 0 for char, 1 for int
abbrev pub new_array : ℕ → Option Instruction
new_array zero = Some (NewArray Char)
new_array (suc zero) = Some (NewArray Int)
new_array (suc (suc n)) = None

-- parameters are among the locals
abbrev pub enter : ℕ → ℕ → Option Instruction
enter parameters locals = cond (nat_le parameters locals) (Some (Enter parameters locals)) None

abbrev pub table : List Row
table =
    row 1 (byte (λ n. Some (Load n)))
    ∷ rows 2 5 (λ n. alone (Load n))
    ∷ row 6 (byte (λ n. Some (Store n)))
    ∷ rows 7 10 (λ n. alone (Store n))
    ∷ row 11 (short GetStatic)
    ∷ row 12 (short PutStatic)
    ∷ rows 15 20 (λ n. alone (Const (pos n)))
    ∷ row 21 (alone (Const (negsuc 0)))
    ∷ row 22 (word Const)
    ∷ row 23 (alone (Binary Add))
    ∷ row 24 (alone (Binary Subtract))
    ∷ row 25 (alone (Binary Multiply))
    ∷ row 26 (alone (Binary Divide))
    ∷ row 27 (alone (Binary Remainder))
    ∷ row 28 (alone Negate)
    ∷ row 31 (pair (λ n by. Some (Increment n (to_z w8 by))))
    ∷ row 33 (byte new_array)
    ∷ row 34 (alone (ArrayLoad Int))
    ∷ row 35 (alone (ArrayStore Int))
    ∷ row 36 (alone (ArrayLoad Char))
    ∷ row 37 (alone (ArrayStore Char))
    ∷ row 38 (alone ArrayLength)
    ∷ row 39 (alone Pop)
    ∷ row 40 (alone Dup)
    ∷ row 41 (alone Dup2)
    ∷ row 42 (signed_short Jump)
    ∷ row 43 (signed_short (JumpIf Equal))
    ∷ row 44 (signed_short (JumpIf NotEqual))
    ∷ row 45 (signed_short (JumpIf Less))
    ∷ row 46 (signed_short (JumpIf LessOrEqual))
    ∷ row 47 (signed_short (JumpIf Greater))
    ∷ row 48 (signed_short (JumpIf GreaterOrEqual))
    ∷ row 49 (signed_short Call)
    ∷ row 50 (alone Return)
    ∷ row 51 (pair enter)
    ∷ row 52 (alone Exit)
    ∷ row 53 (alone (Read Int))
    ∷ row 54 (alone (Print Int))
    ∷ row 55 (alone (Read Char))
    ∷ row 56 (alone (Print Char))
    ∷ row 57 (byte (λ n. Some (Trap n)))
    ∷ []
