-- What names stand for, and the two scopes in which they are sought.
use Rattle.std.specs.Prelude.{ℕ, ◌-◌, cond, List, [], ◌∷◌, ◌++◌, length, Some, None, codes, Option}
use Rattle.std.specs.Option.{option_or}
use Rattle.std.specs.Str.{bytes_eq}
use Rattle.words.specs.declared.printing.Kind.{Kind}
use Rattle.words.specs.declared.printing.Kind.TheVariants.{Int, Char}
use Rattle.program.specs.declared.Shape.{Shape}
use Rattle.program.specs.declared.Variable.{Variable}
use Rattle.program.specs.Core.{scalar}

-- the type of an expression: that of a variable, or that of `null`; `null` has a type, which a None would not say
pub data ValueType : Type 0 where
  shaped : Shape → ValueType
  null : ValueType

pub data Standard : Type 0 where
  chr ord len : Standard

pub data Thing : Type 0 where
  -- the name of the program itself
  class : Thing
  -- `int` and `char`
  type_name : Kind → Thing
  constant : ValueType → ℕ → Thing
  variable : Variable → Shape → Thing
  -- a method's number, its result if it has one, and its parameters
  method : ℕ → Option Kind → List Shape → Thing
  standard : Standard → Thing

pub record Entry : Type 0 where
  pub text : List ℕ
  pub thing : Thing

abbrev pub entry : List ℕ → Thing → Entry
entry w t = record { text = w; thing = t }

pub record Scope : Type 0 where
  -- the predeclared names, the class, constants, globals and methods so far
  pub outer : List Entry
  -- parameters and locals of the present method so far
  pub local : List Entry

abbrev pub predeclared : List Entry
predeclared =
    entry (codes "int") (type_name Int) ∷ entry (codes "char") (type_name Char) ∷ entry (codes "null") (constant null 0) ∷ entry (codes "eol") (constant (shaped (scalar Char)) 10)
    ∷ entry (codes "chr") (standard chr) ∷ entry (codes "ord") (standard ord) ∷ entry (codes "len") (standard len) ∷ []

abbrev pub seek : List Entry → List ℕ → Option Thing
seek [] w = None
seek (e ∷ es) w = cond (bytes_eq e.text w) (Some e.thing) (seek es w)

-- a name is sought in the method's scope, then in the outer one, and may be in neither
abbrev pub lookup : Scope → List ℕ → Option Thing
lookup S w = option_or (seek S.local w) (seek S.outer w)

abbrev pub with_outer : Scope → List ℕ → Thing → Scope
with_outer S w t = record { outer = S.outer ++ entry w t ∷ []; local = S.local }

abbrev pub with_local : Scope → List ℕ → Thing → Scope
with_local S w t = record { outer = S.outer; local = S.local ++ entry w t ∷ [] }

-- a method's names are forgotten at its end
abbrev pub without_locals : Scope → Scope
without_locals S = record { outer = S.outer; local = [] }

-- how many names count: class, constants, globals and methods, without those predeclared
abbrev pub outer_count : Scope → ℕ
outer_count S = length S.outer - length predeclared
