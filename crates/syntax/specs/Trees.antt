-- Trees of the grammar, as it is written in docs/language.md. Every token stands in its tree; of a symbol only its position is kept.
use Rattle.std.specs.Prelude.{ℕ, Bool, true, false, ◌&&◌, List}
use Rattle.std.specs.List.{list_all}
use Rattle.outcomes.specs.declared.Position.{Position}
use Rattle.words.specs.declared.arithmetic.Relation.{Relation}

abbrev pub At : Type 0
At = Position

pub record Name : Type 0 where
  pub text : List ℕ
  pub position : Position

-- + and -; and where they are doubled, ++ and --
pub data Addop : Type 0 where
  plus minus : Addop

-- * / %
pub data Mulop : Type 0 where
  times over percent : Mulop

pub data Literal : Type 0 where
  integer : ℕ → At → Literal
  letter : ℕ → At → Literal

mutual
  -- ["-"] Term {Addop Term}
  pub data Expr : Type 0 where
    positive : Term → Terms → Expr
    negative : At → Term → Terms → Expr

  pub data Terms : Type 0 where
    no_terms : Terms
    and_term : Addop → At → Term → Terms → Terms

  -- Factor {Mulop Factor}
  pub data Term : Type 0 where
    product : Factor → Factors → Term

  pub data Factors : Type 0 where
    no_factors : Factors
    and_factor : Mulop → At → Factor → Factors → Factors

  pub data Factor : Type 0 where
    -- Designator
    value : Designator → Factor
    -- Designator "(" [Arguments] ")"
    call : Designator → At → Arguments → At → Factor
    -- number or character constant
    literal : Literal → Factor
    -- "new" name "[" Expr "]"
    new : At → Name → At → Expr → At → Factor
    -- "(" Expr ")"
    parenthesis : At → Expr → At → Factor

  -- name ["[" Expr "]"]
  pub data Designator : Type 0 where
    whole : Name → Designator
    element : Name → At → Expr → At → Designator

  -- Expr {"," Expr}
  pub data Arguments : Type 0 where
    no_arguments : Arguments
    arguments : Expr → More → Arguments

  pub data More : Type 0 where
    no_more : More
    and_argument : At → Expr → More → More

-- Expr Relop Expr
pub record Comparison : Type 0 where
  pub left : Expr
  pub relation : Relation
  pub relation_at : At
  pub right : Expr

-- Comparison {"&&" Comparison}
pub data Conjunction : Type 0 where
  single : Comparison → Conjunction
  both : Comparison → At → Conjunction → Conjunction

-- Conjunction {"||" Conjunction}
pub data Condition : Type 0 where
  only : Conjunction → Condition
  either : Conjunction → At → Condition → Condition

mutual
  pub data Statement : Type 0 where
    -- Designator "=" Expr ";"
    assign : Designator → At → Expr → At → Statement
    -- Designator "(" [Arguments] ")" ";"
    invoke : Designator → At → Arguments → At → At → Statement
    -- Designator ("++" | "--") ";"
    step : Designator → Addop → At → At → Statement
    -- "if" "(" Condition ")" Statement ["else" Statement]
    when : At → At → Condition → At → Statement → Statement
    choose : At → At → Condition → At → Statement → At → Statement → Statement
    -- "while" "(" Condition ")" Statement
    while : At → At → Condition → At → Statement → Statement
    -- "break" ";"
    break : At → At → Statement
    -- "return" [Expr] ";"
    return : At → At → Statement
    give : At → Expr → At → Statement
    -- "read" "(" Designator ")" ";"
    read : At → At → Designator → At → At → Statement
    -- "print" "(" Expr ["," number] ")" ";"
    print : At → At → Expr → At → At → Statement
    print_wide : At → At → Expr → At → ℕ → At → At → At → Statement
    -- "{" {Statement} "}"
    block : At → Statements → At → Statement
    -- ";"
    empty : At → Statement

  pub data Statements : Type 0 where
    none : Statements
    and_then : Statement → Statements → Statements

-- name ["[" "]"]
pub data Declared : Type 0 where
  scalar : Name → Declared
  array : Name → At → At → Declared

-- name {"," name}, each with brackets or without
pub data Declareds : Type 0 where
  last : Declared → Declareds
  and : Declared → At → Declareds → Declareds

-- Type Declared {"," Declared} ";"
pub record Variables : Type 0 where
  pub kind : Name
  pub declared : Declareds
  pub semicolon : At

pub data Declaration : Type 0 where
  -- "final" Type name "=" (number | character constant) ";"
  constant : At → Name → Name → At → Literal → At → Declaration
  variables : Variables → Declaration

pub record Parameter : Type 0 where
  pub kind : Name
  pub declared : Declared

-- [Parameter {"," Parameter}]
pub data Parameters : Type 0 where
  no_parameters : Parameters
  parameters : Parameter → List (At × Parameter) → Parameters

pub data ResultType : Type 0 where
  void : At → ResultType
  typed : Name → ResultType

-- (Type | "void") name "(" [Parameters] ")" {Variables} "{" {Statement} "}"
pub record Method : Type 0 where
  pub result : ResultType
  pub name : Name
  pub opens : At
  pub takes : Parameters
  pub closes : At
  pub locals : List Variables
  pub begins : At
  pub body : Statements
  pub ends : At

-- "class" name {Declaration} "{" {Method} "}"
pub record Program : Type 0 where
  pub class : At
  pub name : Name
  pub declarations : List Declaration
  pub begins : At
  pub methods : List Method
  pub ends : At

-- a statement that does not end with an `if` that has no `else`
abbrev pub closed : Statement → Bool
closed (assign d p e q) = true
closed (invoke d p a q r) = true
closed (step d o p q) = true
closed (when p q c r s) = false
closed (choose p q c r s x t) = closed t
closed (while p q c r s) = closed s
closed (break p q) = true
closed (return p q) = true
closed (give p e q) = true
closed (read p q d r s) = true
closed (print p q e r s) = true
closed (print_wide p q e r n s t u) = true
closed (block p ss q) = true
closed (empty p) = true

-- each `else` belongs to the nearest `if` that has none
abbrev mutual
  pub nearest : Statement → Bool
  nearest (assign d p e q) = true
  nearest (invoke d p a q r) = true
  nearest (step d o p q) = true
  nearest (when p q c r s) = nearest s
  nearest (choose p q c r s x t) = closed s && (nearest s && nearest t)
  nearest (while p q c r s) = nearest s
  nearest (break p q) = true
  nearest (return p q) = true
  nearest (give p e q) = true
  nearest (read p q d r s) = true
  nearest (print p q e r s) = true
  nearest (print_wide p q e r n s t u) = true
  nearest (block p ss q) = nearest_all ss
  nearest (empty p) = true

  pub nearest_all : Statements → Bool
  nearest_all none = true
  nearest_all (and_then s ss) = nearest s && nearest_all ss

abbrev pub nearest_in : List Method → Bool
nearest_in ms = list_all (λ m. nearest_all m.body) ms
