-- The core program: names are numbers, types are decided, constants are their values. Nothing is computed ahead.
use Rattle.std.specs.Prelude.{ℕ, suc, ◌+◌, Bool, true, false, List, length, Option, nat_le}
use Rattle.outcomes.specs.declared.Position.{Position}
use Rattle.words.specs.declared.arithmetic.Operator.{Operator}
use Rattle.words.specs.declared.arithmetic.Relation.{Relation}
use Rattle.words.specs.declared.printing.Kind.{Kind}
use Rattle.words.specs.declared.printing.Kind.TheVariants.{Int, Char}
use Rattle.program.specs.declared.Direction.{Direction}
use Rattle.program.specs.declared.Shape.{Shape}
use Rattle.program.specs.declared.Variable.{Variable}

mutual
  pub data Value : Type 0 where
    constant : ℕ → Value
    load : Variable → Value
    -- an element of the array in a variable
    load_element : Kind → Variable → Value → Value
    negate : Value → Value
    binary : Operator → Value → Value → Value
    -- an array of so many elements
    new_array : Kind → Value → Value
    length_of : Value → Value
    -- `chr` makes a char of an int, and `ord` an int of a char
    convert : Kind → Value → Value
    -- the result of a method
    result : ℕ → Values → Value

  pub data Values : Type 0 where
    no_values : Values
    and_value : Value → Values → Values

pub data Comparison : Type 0 where
  compare : Relation → Value → Value → Comparison

-- comparisons joined by &&
pub data Conjunction : Type 0 where
  single : Comparison → Conjunction
  both : Comparison → Conjunction → Conjunction

-- conjunctions joined by ||
pub data Condition : Type 0 where
  only : Conjunction → Condition
  either : Conjunction → Condition → Condition

pub data Target : Type 0 where
  variable : Variable → Target
  element : Kind → Variable → Value → Target

mutual
  pub data Action : Type 0 where
    assign : Target → Value → Action
    step : Direction → Target → Action
    read : Kind → Target → Action
    -- a value, with blanks before it up to a width
    print : Kind → Value → ℕ → Action
    -- a call of a method without a result
    invoke : ℕ → Values → Action
    -- a call of a method whose result is not used
    discard : ℕ → Values → Action
    when : Condition → Action → Action
    choose : Condition → Action → Action → Action
    while : Condition → Action → Action
    break : Action
    return : Action
    give : Value → Action
    block : Actions → Action
    nothing : Action

  pub data Actions : Type 0 where
    no_actions : Actions
    and_then : Action → Actions → Actions

pub record Method : Type 0 where
  -- where the text has its name
  pub position : Position
  pub parameters : List Shape
  -- those that are no parameters
  pub locals : List Shape
  -- none for a void method
  pub result : Option Kind
  pub body : Actions

pub record Program : Type 0 where
  pub globals : List Shape
  pub methods : List Method
  -- the number of the void method `main` without parameters
  pub main : Option ℕ

-- how many values there are
abbrev pub count : Values → ℕ
count no_values = 0
count (and_value v vs) = suc (count vs)

-- how many words the parameters and locals take
abbrev pub variable_count : Method → ℕ
variable_count m = length m.parameters + length m.locals

abbrev pub same_kind : Kind → Kind → Bool
same_kind Int Int = true
same_kind Int Char = false
same_kind Char Int = false
same_kind Char Char = true

abbrev pub scalar : Kind → Shape
scalar k = record { kind = k; dimension = 0 }

abbrev pub array_of : Kind → Shape
array_of k = record { kind = k; dimension = 1 }

abbrev pub is_array : Shape → Bool
is_array s = nat_le 1 s.dimension
