-- The code of each form is as long as its size says.
use Rattle.std.proofs.Common.{◌≡◌, ℕ, ◌+◌, List, [], ◌∷◌, ◌++◌, length, Some, None, Option, sym, refl, ap, ◌∙◌, append-nil, arith, length-append}
use Rattle.std.proofs.lemmas.Grind.{flat_map-append}
use Rattle.std.proofs.lemmas.List.Sums.{sum_by-cons}
use Rattle.words.specs.declared.arithmetic.Relation.{Relation}
use Rattle.words.specs.declared.printing.Kind.{Kind}
use Rattle.instructions.specs.declared.Instruction.{Instruction}
use Rattle.program.specs.declared.Direction.{Direction}
use Rattle.program.specs.declared.Direction.TheVariants.{Up, Down}
use Rattle.program.specs.declared.Variable.TheVariants.{Local, Global}
use Rattle.program.specs.Core.{Value, constant, load, load_element, negate, binary, new_array, length_of, convert, result, Values, no_values, and_value, compare, Conjunction, single, both, Condition, only, either, Target, variable, element, Action, assign, step, read, print, invoke, discard, when, choose, while, break, return, give, block, nothing, Actions, no_actions, and_then, Method}
use Rattle.code.specs.Encoding.{encode, size}
use Rattle.code.specs.Patterns.{Line, line, opposite, size_v, size_vs, size_conjunction, size_condition, size_before, size_store, size_step, size_a, size_as, code_v, code_vs, code_comparison, code_last, code_term, code_condition, code_before, code_store, operation, code_step, code_a, code_as, code_end, code_method, size_method, size_methods, code_methods, entry_of}
use Rattle.code.specs.Objects.{bytes_of}
use Rattle.code.specs.Laws.{CodeHasItsSize}

infixr 20 ◌then◌
-- code of so many bytes
pub record Long (ls : List Line) (n : ℕ) : Type 0 where
  pub is : length (bytes_of ls) ≡ n

-- one piece behind the other
◌then◌ : {a b : List Line} {m n : ℕ} → Long a m → Long b n → Long (a ++ b) (m + n)
◌then◌ {a} {b} x y = record { is = ap length (flat_map-append (λ l. encode l.instruction) a b) ∙ omega (arith, length-append (bytes_of a) (bytes_of b), x.is, y.is) }

one : {i : Instruction} {h : ℕ} → Long (line i h) (size i)
one {i} = record { is = ap length (append-nil (encode i)) }

none : Long [] 0
none = record { is = refl }

-- the same number, summed up otherwise
as_sum : {a : List Line} {m n : ℕ} → Long a m → m ≡ n → Long a n
as_sum x e = record { is = x.is ∙ e }

module _ (entry : ℕ → ℕ) where
  mutual
    value_size : (v : Value) (pc h : ℕ) → Long (code_v entry v pc h) (size_v v)
    value_size (constant n) pc h = one
    value_size (load x) pc h = one
    value_size (load_element k x v) pc h = as_sum (one then (value_size v _ _ then one)) (omega arith)
    value_size (negate v) pc h = value_size v pc h then one
    value_size (binary o v u) pc h = as_sum (value_size v pc h then (value_size u _ _ then one)) (omega arith)
    value_size (new_array k v) pc h = value_size v pc h then one
    value_size (length_of v) pc h = value_size v pc h then one
    value_size (convert k v) pc h = value_size v pc h
    value_size (result m vs) pc h = values_size vs pc h then one

    values_size : (vs : Values) (pc h : ℕ) → Long (code_vs entry vs pc h) (size_vs vs)
    values_size no_values pc h = none
    values_size (and_value v vs) pc h = value_size v pc h then values_size vs _ _

  comparison_size : (v u : Value) (r : Relation) (pc to : ℕ) → Long (code_comparison entry v u r pc to) (size_v v + size_v u + 3)
  comparison_size v u r pc to = as_sum (value_size v pc 0 then (value_size u _ 1 then one)) (omega arith)

  last_size : (k : Conjunction) (pc to : ℕ) → Long (code_last entry k pc to) (size_conjunction k)
  last_size (single (compare r v u)) pc to = comparison_size v u (opposite r) pc to
  last_size (both (compare r v u) k) pc to = comparison_size v u (opposite r) pc to then last_size k _ to

  term_size : (k : Conjunction) (pc to next : ℕ) → Long (code_term entry k pc to next) (size_conjunction k)
  term_size (single (compare r v u)) pc to next = comparison_size v u r pc to
  term_size (both (compare r v u) k) pc to next = comparison_size v u (opposite r) pc next then term_size k _ to next

  condition_size : (c : Condition) (pc to other : ℕ) → Long (code_condition entry c pc to other) (size_condition c)
  condition_size (only k) pc to other = last_size k pc other
  condition_size (either k c) pc to other = term_size k pc to _ then condition_size c _ to other

  before_size : (t : Target) (pc : ℕ) → Long (code_before entry t pc) (size_before t)
  before_size (variable x) pc = none
  before_size (element k x v) pc = one then value_size v _ 1

  store_size : (t : Target) → Long (code_store t) (size_store t)
  store_size (variable x) = one
  store_size (element k x v) = one

  operation_size : (d : Direction) {h : ℕ} → Long (line (operation d) h) 1
  operation_size Up = one
  operation_size Down = one

  step_size : (d : Direction) (t : Target) (pc : ℕ) → Long (code_step entry d t pc) (size_step t)
  step_size d (variable (Local n)) pc = one
  step_size d (variable (Global n)) pc = one then (one then (operation_size d then one))
  step_size d (element k x v) pc = as_sum (before_size (element k x v) pc then (one then (one then (one then (operation_size d then one))))) (omega arith)

  mutual
    action_size : (a : Action) (pc out : ℕ) → Long (code_a entry a pc out) (size_a a)
    action_size (assign t v) pc out = as_sum (before_size t pc then (value_size v _ _ then store_size t)) (omega arith)
    action_size (step d t) pc out = step_size d t pc
    action_size (read k t) pc out = as_sum (before_size t pc then (one then store_size t)) (omega arith)
    action_size (print k v n) pc out = as_sum (value_size v pc 0 then (one then one)) (omega arith)
    action_size (invoke m vs) pc out = value_size (result m vs) pc 0
    action_size (discard m vs) pc out = as_sum (value_size (result m vs) pc 0 then one) (omega arith)
    action_size (when c a) pc out = condition_size c pc _ _ then action_size a _ out
    action_size (choose c a e) pc out = as_sum (condition_size c pc _ _ then (action_size a _ out then (one then action_size e _ out))) (omega arith)
    action_size (while c a) pc out = as_sum (condition_size c pc _ _ then (action_size a _ _ then one)) (omega arith)
    action_size break pc out = one
    action_size return pc out = one then one
    action_size (give v) pc out = value_size v pc 0 then (one then one)
    action_size (block bs) pc out = actions_size bs pc out
    action_size nothing pc out = none

    actions_size : (bs : Actions) (pc out : ℕ) → Long (code_as entry bs pc out) (size_as bs)
    actions_size no_actions pc out = none
    actions_size (and_then a bs) pc out = action_size a pc out then actions_size bs _ out

  end_size : (r : Option Kind) → Long (code_end r) 2
  end_size None = one then one
  end_size (Some k) = one

  pub method_size : (m : Method) (pc : ℕ) → Long (code_method entry m pc) (size_method m)
  method_size m pc = as_sum (one then (actions_size m.body _ 0 then end_size m.result)) (omega arith)

  pub methods_size : (ms : List Method) (pc : ℕ) → Long (code_methods entry ms pc) (size_methods ms)
  methods_size [] pc = none
  methods_size (m ∷ ms) pc = as_sum (method_size m pc then methods_size ms _) (sym (sum_by-cons size_method m ms))

pub code_has_its_size : CodeHasItsSize
code_has_its_size p = (methods_size (entry_of p.methods) p.methods 0).is
