-- Instructions as the translator writes them: the shortest form, operands high byte first.
use Rattle.std.specs.Prelude.{ℕ, ◌+◌, ◌/◌, ◌%◌, cond, List, [], ◌∷◌, length, ℤ, pos, negsuc, nat_le}
use Rattle.std.specs.Int.{w8, w16, w32}
use Rattle.std.proofs.Common.{of_z}
use Rattle.words.specs.declared.arithmetic.Operator.{Operator}
use Rattle.words.specs.declared.arithmetic.Operator.TheVariants.{Add, Subtract, Multiply, Divide, Remainder}
use Rattle.words.specs.declared.arithmetic.Relation.{Relation}
use Rattle.words.specs.declared.arithmetic.Relation.TheVariants.{Equal, NotEqual, Less, LessOrEqual, Greater, GreaterOrEqual}
use Rattle.words.specs.declared.printing.Kind.{Kind}
use Rattle.words.specs.declared.printing.Kind.TheVariants.{Int, Char}
use Rattle.object.specs.File.{four_bytes}
use Rattle.instructions.specs.declared.Instruction.{Instruction}
use Rattle.instructions.specs.declared.Instruction.TheVariants.{Load, Store, GetStatic, PutStatic, Const, Binary, Negate, Increment, NewArray, ArrayLoad, ArrayStore, ArrayLength, Pop, Dup, Dup2, Jump, JumpIf, Call, Return, Enter, Exit, Read, Print, Trap}

abbrev pub two_bytes : ℕ → List ℕ
two_bytes n = (n / 256 % 256) ∷ (n % 256) ∷ []

abbrev pub operator : Operator → ℕ
operator Add = 23
operator Subtract = 24
operator Multiply = 25
operator Divide = 26
operator Remainder = 27

abbrev pub relation : Relation → ℕ
relation Equal = 43
relation NotEqual = 44
relation Less = 45
relation LessOrEqual = 46
relation Greater = 47
relation GreaterOrEqual = 48

abbrev pub by_kind : {A : Type 0} → Kind → A → A → A
by_kind Int i c = i
by_kind Char i c = c

-- 0 to 5 have an opcode each
abbrev pub constant : ℤ → List ℕ
constant (pos n) = cond (nat_le n 5) ((15 + n) ∷ []) (22 ∷ four_bytes n)
constant (negsuc n) = 22 ∷ four_bytes (of_z w32 (negsuc n))

-- locals 0 to 3 have an opcode each, from `first` on
abbrev pub local : ℕ → ℕ → ℕ → List ℕ
local first long n = cond (nat_le n 3) ((first + n) ∷ []) (long ∷ (n ∷ []))

abbrev pub encode : Instruction → List ℕ
encode (Load n) = local 2 1 n
encode (Store n) = local 7 6 n
encode (GetStatic n) = 11 ∷ two_bytes n
encode (PutStatic n) = 12 ∷ two_bytes n
encode (Const w) = constant w
encode (Binary o) = operator o ∷ []
encode Negate = 28 ∷ []
encode (Increment n by) = 31 ∷ (n ∷ (of_z w8 by ∷ []))
encode (NewArray k) = 33 ∷ (by_kind k 1 0 ∷ [])
encode (ArrayLoad k) = by_kind k 34 36 ∷ []
encode (ArrayStore k) = by_kind k 35 37 ∷ []
encode ArrayLength = 38 ∷ []
encode Pop = 39 ∷ []
encode Dup = 40 ∷ []
encode Dup2 = 41 ∷ []
encode (Jump by) = 42 ∷ two_bytes (of_z w16 by)
encode (JumpIf r by) = relation r ∷ two_bytes (of_z w16 by)
encode (Call by) = 49 ∷ two_bytes (of_z w16 by)
encode Return = 50 ∷ []
encode (Enter parameters locals) = 51 ∷ (parameters ∷ (locals ∷ []))
encode Exit = 52 ∷ []
encode (Read k) = by_kind k 53 55 ∷ []
encode (Print k) = by_kind k 54 56 ∷ []
encode (Trap n) = 57 ∷ (n ∷ [])

abbrev pub size : Instruction → ℕ
size i = length (encode i)
