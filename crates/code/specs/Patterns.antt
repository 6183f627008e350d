-- The code of a core program, form by form, with the operand height before each instruction: how many operands the method holds there.
use Rattle.std.specs.Prelude.{ℕ, suc, ◌+◌, List, [], ◌∷◌, ◌++◌, length, take, ℤ, pos, negsuc, ◌-ℤ◌, Some, None, Option}
use Rattle.std.specs.List.{sum_by}
use Rattle.words.specs.declared.arithmetic.Operator.TheVariants.{Add, Subtract}
use Rattle.words.specs.declared.arithmetic.Relation.{Relation}
use Rattle.words.specs.declared.arithmetic.Relation.TheVariants.{Equal, NotEqual, Less, LessOrEqual, Greater, GreaterOrEqual}
use Rattle.words.specs.declared.printing.Kind.{Kind}
use Rattle.instructions.specs.declared.Instruction.{Instruction}
use Rattle.instructions.specs.declared.Instruction.TheVariants.{Load, Store, GetStatic, PutStatic, Const, Binary, Negate, Increment, NewArray, ArrayLoad, ArrayStore, ArrayLength, Pop, Dup2, Jump, JumpIf, Call, Return, Enter, Exit, Read, Print, Trap}
use Rattle.program.specs.declared.Direction.{Direction}
use Rattle.program.specs.declared.Direction.TheVariants.{Up, Down}
use Rattle.program.specs.declared.Variable.{Variable}
use Rattle.program.specs.declared.Variable.TheVariants.{Local, Global}
use Rattle.program.specs.Core.{Value, constant, load, load_element, negate, binary, new_array, length_of, convert, result, Values, no_values, and_value, Comparison, compare, Conjunction, single, both, Condition, only, either, Target, variable, element, Action, assign, step, read, print, invoke, discard, when, choose, while, break, return, give, block, nothing, Actions, no_actions, and_then, Method, Program, count, variable_count}
use Rattle.code.specs.Encoding.{size}

-- an instruction, and the operand height before it
pub record Line : Type 0 where
  pub instruction : Instruction
  pub height : ℕ

abbrev pub line : Instruction → ℕ → List Line
line i h = record { instruction = i; height = h } ∷ []

abbrev pub loads : Variable → Instruction
loads (Local n) = Load n
loads (Global n) = GetStatic n

abbrev pub stores : Variable → Instruction
stores (Local n) = Store n
stores (Global n) = PutStatic n

abbrev pub opposite : Relation → Relation
opposite Equal = NotEqual
opposite NotEqual = Equal
opposite Less = GreaterOrEqual
opposite LessOrEqual = Greater
opposite Greater = LessOrEqual
opposite GreaterOrEqual = Less

-- how far it is from the first byte of a jump or call to its target
abbrev pub distance : ℕ → ℕ → ℤ
distance from to = pos to -ℤ pos from

abbrev mutual
  pub size_v : Value → ℕ
  size_v (constant n) = size (Const (pos n))
  size_v (load x) = size (loads x)
  size_v (load_element k x v) = size (loads x) + size_v v + 1
  size_v (negate v) = size_v v + 1
  size_v (binary o v u) = size_v v + size_v u + 1
  size_v (new_array k v) = size_v v + 2
  size_v (length_of v) = size_v v + 1
  size_v (convert k v) = size_v v
  size_v (result m vs) = size_vs vs + 3

  pub size_vs : Values → ℕ
  size_vs no_values = 0
  size_vs (and_value v vs) = size_v v + size_vs vs

abbrev pub size_comparison : Comparison → ℕ
size_comparison (compare r v u) = size_v v + size_v u + 3

abbrev pub size_conjunction : Conjunction → ℕ
size_conjunction (single c) = size_comparison c
size_conjunction (both c k) = size_comparison c + size_conjunction k

abbrev pub size_condition : Condition → ℕ
size_condition (only k) = size_conjunction k
size_condition (either k c) = size_conjunction k + size_condition c

-- what stands before the value that is stored, and the store
abbrev pub size_before : Target → ℕ
size_before (variable x) = 0
size_before (element k x v) = size (loads x) + size_v v

abbrev pub size_store : Target → ℕ
size_store (variable x) = size (stores x)
size_store (element k x v) = 1

abbrev pub size_step : Target → ℕ
size_step (variable (Local n)) = 3
size_step (variable (Global n)) = 8
size_step (element k x v) = size (loads x) + size_v v + 5

abbrev mutual
  pub size_a : Action → ℕ
  size_a (assign t v) = size_before t + size_v v + size_store t
  size_a (step d t) = size_step t
  size_a (read k t) = size_before t + 1 + size_store t
  size_a (print k v n) = size_v v + size (Const (pos n)) + 1
  size_a (invoke m vs) = size_vs vs + 3
  size_a (discard m vs) = size_vs vs + 4
  size_a (when c a) = size_condition c + size_a a
  size_a (choose c a e) = size_condition c + size_a a + 3 + size_a e
  size_a (while c a) = size_condition c + size_a a + 3
  size_a break = 3
  size_a return = 2
  size_a (give v) = size_v v + 2
  size_a (block bs) = size_as bs
  size_a nothing = 0

  pub size_as : Actions → ℕ
  size_as no_actions = 0
  size_as (and_then a bs) = size_a a + size_as bs

-- the operand height behind an element's array and index
abbrev pub height_behind : Target → ℕ
height_behind (variable x) = 0
height_behind (element k x v) = 2

abbrev pub code_store : Target → List Line
code_store (variable x) = line (stores x) 1
code_store (element k x v) = line (ArrayStore k) 3

abbrev pub amount : Direction → ℤ
amount Up = pos 1
amount Down = negsuc 0

abbrev pub operation : Direction → Instruction
operation Up = Binary Add
operation Down = Binary Subtract

-- a void method returns at its end; another one traps there
abbrev pub code_end : Option Kind → List Line
code_end None = line Exit 0 ++ line Return 0
code_end (Some k) = line (Trap 1) 0

-- entry: the offset of each method's first byte. pc: the offset of the piece's first byte. h: the operand height there.
module _ (entry : ℕ → ℕ) where
  abbrev mutual
    pub code_v : Value → ℕ → ℕ → List Line
    code_v (constant n) pc h = line (Const (pos n)) h
    code_v (load x) pc h = line (loads x) h
    code_v (load_element k x v) pc h = line (loads x) h ++ (code_v v (pc + size (loads x)) (suc h) ++ line (ArrayLoad k) (suc (suc h)))
    code_v (negate v) pc h = code_v v pc h ++ line Negate (suc h)
    code_v (binary o v u) pc h = code_v v pc h ++ (code_v u (pc + size_v v) (suc h) ++ line (Binary o) (suc (suc h)))
    code_v (new_array k v) pc h = code_v v pc h ++ line (NewArray k) (suc h)
    code_v (length_of v) pc h = code_v v pc h ++ line ArrayLength (suc h)
    code_v (convert k v) pc h = code_v v pc h
    code_v (result m vs) pc h = code_vs vs pc h ++ line (Call (distance (pc + size_vs vs) (entry m))) (count vs + h)

    pub code_vs : Values → ℕ → ℕ → List Line
    code_vs no_values pc h = []
    code_vs (and_value v vs) pc h = code_v v pc h ++ code_vs vs (pc + size_v v) (suc h)

  -- left, right, and one jump to a target
  abbrev pub code_comparison : Value → Value → Relation → ℕ → ℕ → List Line
  code_comparison v u r pc to = code_v v pc 0 ++ (code_v u (pc + size_v v) 1 ++ line (JumpIf r (distance (pc + size_v v + size_v u) to)) 2)

  -- the last term of ||: each comparison jumps to `else` by the opposite relation
  abbrev pub code_last : Conjunction → ℕ → ℕ → List Line
  code_last (single (compare r v u)) pc else = code_comparison v u (opposite r) pc else
  code_last (both (compare r v u) k) pc else = code_comparison v u (opposite r) pc else ++ code_last k (pc + size_v v + size_v u + 3) else

  -- another term: its last comparison jumps to `then` by its own relation, the others to the next term by the opposite one
  abbrev pub code_term : Conjunction → ℕ → ℕ → ℕ → List Line
  code_term (single (compare r v u)) pc then next = code_comparison v u r pc then
  code_term (both (compare r v u) k) pc then next = code_comparison v u (opposite r) pc next ++ code_term k (pc + size_v v + size_v u + 3) then next

  -- then: the offset of the statement, right behind the condition; else: the offset of the `else` part, or else of the end
  abbrev pub code_condition : Condition → ℕ → ℕ → ℕ → List Line
  code_condition (only k) pc then else = code_last k pc else
  code_condition (either k c) pc then else = code_term k pc then (pc + size_conjunction k) ++ code_condition c (pc + size_conjunction k) then else

  -- an element's array and index
  abbrev pub code_before : Target → ℕ → List Line
  code_before (variable x) pc = []
  code_before (element k x v) pc = line (loads x) 0 ++ code_v v (pc + size (loads x)) 1

  abbrev pub code_step : Direction → Target → ℕ → List Line
  code_step d (variable (Local n)) pc = line (Increment n (amount d)) 0
  code_step d (variable (Global n)) pc = line (GetStatic n) 0 ++ (line (Const (pos 1)) 1 ++ (line (operation d) 2 ++ line (PutStatic n) 1))
  code_step d (element k x v) pc =
      code_before (element k x v) pc ++ (line Dup2 2 ++ (line (ArrayLoad k) 4 ++ (line (Const (pos 1)) 3 ++ (line (operation d) 4 ++ line (ArrayStore k) 3))))

  -- out: the offset behind the innermost loop
  abbrev mutual
    pub code_a : Action → ℕ → ℕ → List Line
    code_a (assign t v) pc out = code_before t pc ++ (code_v v (pc + size_before t) (height_behind t) ++ code_store t)
    code_a (step d t) pc out = code_step d t pc
    code_a (read k t) pc out = code_before t pc ++ (line (Read k) (height_behind t) ++ code_store t)
    code_a (print k v n) pc out = code_v v pc 0 ++ (line (Const (pos n)) 1 ++ line (Print k) 2)
    code_a (invoke m vs) pc out = code_v (result m vs) pc 0
    code_a (discard m vs) pc out = code_v (result m vs) pc 0 ++ line Pop 1
    code_a (when c a) pc out =
        code_condition c pc (pc + size_condition c) (pc + size_condition c + size_a a) ++ code_a a (pc + size_condition c) out
    code_a (choose c a e) pc out =
        code_condition c pc (pc + size_condition c) (pc + size_condition c + size_a a + 3)
        ++ (code_a a (pc + size_condition c) out ++ (line (Jump (pos (3 + size_a e))) 0 ++ code_a e (pc + size_condition c + size_a a + 3) out))
    code_a (while c a) pc out =
        code_condition c pc (pc + size_condition c) (pc + size_condition c + size_a a + 3)
        ++ (code_a a (pc + size_condition c) (pc + size_condition c + size_a a + 3) ++ line (Jump (distance (pc + size_condition c + size_a a) pc)) 0)
    code_a break pc out = line (Jump (distance pc out)) 0
    code_a return pc out = line Exit 0 ++ line Return 0
    code_a (give v) pc out = code_v v pc 0 ++ (line Exit 1 ++ line Return 0)
    code_a (block bs) pc out = code_as bs pc out
    code_a nothing pc out = []

    pub code_as : Actions → ℕ → ℕ → List Line
    code_as no_actions pc out = []
    code_as (and_then a bs) pc out = code_a a pc out ++ code_as bs (pc + size_a a) out

  abbrev pub code_method : Method → ℕ → List Line
  code_method m pc = line (Enter (length m.parameters) (variable_count m)) 0 ++ (code_as m.body (pc + 3) 0 ++ code_end m.result)

-- both ends have two bytes
abbrev pub size_method : Method → ℕ
size_method m = 3 + size_as m.body + 2

-- methods stand in the order of the text
abbrev pub size_methods : List Method → ℕ
size_methods ms = sum_by size_method ms

-- a method begins behind the code of those before it
abbrev pub entry_of : List Method → ℕ → ℕ
entry_of ms n = size_methods (take n ms)

abbrev pub code_methods : (ℕ → ℕ) → List Method → ℕ → List Line
code_methods entry [] pc = []
code_methods entry (m ∷ ms) pc = code_method entry m pc ++ code_methods entry ms (pc + size_method m)

abbrev pub lines_of : Program → List Line
lines_of p = code_methods (entry_of p.methods) p.methods 0
