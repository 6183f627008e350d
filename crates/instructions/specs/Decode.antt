-- The instruction that bytes begin with.
use Rattle.std.specs.Prelude.{ℕ, ◌+◌, ◌*◌, cond, List, [], ◌∷◌, Some, None, Option}
use Rattle.std.specs.Int.{w16, w32}
use Rattle.std.proofs.Common.{to_z}
use Rattle.instructions.specs.declared.Instruction.{Instruction}
use Rattle.instructions.specs.declared.Decoded.{Decoded}
use Rattle.instructions.specs.Table.{Operands, alone, byte, pair, short, signed_short, word, Row, table}

-- an instruction and how many bytes it takes
abbrev pub sized : ℕ → Instruction → Option Decoded
sized n i = Some (record { instruction = i; size = n })

abbrev pub sized_if : ℕ → Option Instruction → Option Decoded
sized_if n None = None
sized_if n (Some i) = sized n i

-- operands stand high byte first; where one is missing there is no instruction
abbrev pub with_operands : Operands → List ℕ → Option Decoded
with_operands (alone i) rest = sized 1 i
with_operands (byte f) [] = None
with_operands (byte f) (a ∷ _) = sized_if 2 (f a)
with_operands (pair f) [] = None
with_operands (pair f) (a ∷ []) = None
with_operands (pair f) (a ∷ b ∷ _) = sized_if 3 (f a b)
with_operands (short f) [] = None
with_operands (short f) (a ∷ []) = None
with_operands (short f) (a ∷ b ∷ _) = sized 3 (f (a * 256 + b))
with_operands (signed_short f) [] = None
with_operands (signed_short f) (a ∷ []) = None
with_operands (signed_short f) (a ∷ b ∷ _) = sized 3 (f (to_z w16 (a * 256 + b)))
with_operands (word f) [] = None
with_operands (word f) (a ∷ []) = None
with_operands (word f) (a ∷ b ∷ []) = None
with_operands (word f) (a ∷ b ∷ c ∷ []) = None
with_operands (word f) (a ∷ b ∷ c ∷ d ∷ _) = sized 5 (f (to_z w32 (a * 16777216 + b * 65536 + c * 256 + d)))

-- the row of an opcode; an opcode with no row is no instruction
abbrev pub by_row : List Row → ℕ → List ℕ → Option Decoded
by_row [] op rest = None
by_row (r ∷ rs) op rest = cond (r.has op) (with_operands (r.operands op) rest) (by_row rs op rest)

abbrev pub decoded : List ℕ → Option Decoded
decoded [] = None
decoded (op ∷ rest) = by_row table op rest
