-- The type of each expression, which forms are legal, and the core that a legal form stands for.
use Rattle.std.specs.Prelude.{ℕ, Bool, true, false, cond, ◌&&◌, ◌||◌, List, [], ◌∷◌, Some, None, Option, ◌==◌, nat_le}
use Rattle.words.specs.declared.arithmetic.Operator.{Operator}
use Rattle.words.specs.declared.arithmetic.Operator.TheVariants.{Add, Subtract, Multiply, Divide, Remainder}
use Rattle.words.specs.declared.arithmetic.Relation.{Relation}
use Rattle.words.specs.declared.arithmetic.Relation.TheVariants.{Equal, NotEqual, Less, LessOrEqual, Greater, GreaterOrEqual}
use Rattle.words.specs.declared.printing.Kind.{Kind}
use Rattle.words.specs.declared.printing.Kind.TheVariants.{Int, Char}
use Rattle.program.specs.declared.Direction.{Direction}
use Rattle.program.specs.declared.Direction.TheVariants.{Up, Down}
use Rattle.program.specs.declared.Shape.{Shape}
use Rattle.program.specs.declared.Variable.{Variable}
use Rattle.program.specs.Core as core
use Rattle.program.specs.Core.{Value, Values, Action, same_kind, scalar, array_of, is_array}
use Rattle.syntax.specs.Trees.{Name, Addop, plus, minus, Mulop, times, over, percent, Literal, integer, letter, Expr, positive, negative, Terms, no_terms, and_term, Term, product, Factors, no_factors, and_factor, Factor, value, call, literal, new, parenthesis, Designator, whole, element, Arguments, no_arguments, arguments, More, no_more, and_argument, Comparison, Conjunction, single, both, Condition, only, either}
use Rattle.context.specs.Scopes.{ValueType, shaped, null, Standard, chr, ord, len, Thing, class, type_name, constant, variable, method, standard, Scope, lookup}

abbrev pub ◌>>=◌ : {A B : Type 0} → Option A → (A → Option B) → Option B
◌>>=◌ None f = None
◌>>=◌ (Some a) f = f a

-- only if a rule holds
abbrev pub if : {A : Type 0} → Bool → A → Option A
if rule a = cond rule (Some a) None

-- types are the same if their element kinds and dimensions are
abbrev pub same_shape : Shape → Shape → Bool
same_shape s t = same_kind s.kind t.kind && s.dimension == t.dimension

abbrev pub is_kind : Kind → ValueType → Bool
is_kind k (shaped s) = same_shape s (scalar k)
is_kind k null = false

-- a value of type t may be stored in a variable of shape s: the same type, or `null` in an array variable
abbrev pub assignable : Shape → ValueType → Bool
assignable s (shaped t) = same_shape s t
assignable s null = is_array s

-- types that may be compared: the same, or an array and `null`
abbrev pub compatible : ValueType → ValueType → Bool
compatible (shaped s) t = assignable s t
compatible null (shaped s) = is_array s
compatible null null = true

abbrev pub is_equality : Relation → Bool
is_equality Equal = true
is_equality NotEqual = true
is_equality Less = false
is_equality LessOrEqual = false
is_equality Greater = false
is_equality GreaterOrEqual = false

-- arrays and `null` are only compared for being equal or not
abbrev pub comparable : Relation → ValueType → Bool
comparable r (shaped s) = is_equality r || s.dimension == 0
comparable r null = is_equality r

pub record Typed : Type 0 where
  pub value : Value
  pub type : ValueType

abbrev pub typed : Value → Shape → Typed
typed v s = record { value = v; type = shaped s }

abbrev pub is_int : Typed → Bool
is_int a = is_kind Int a.type

abbrev pub is_char : Typed → Bool
is_char a = is_kind Char a.type

abbrev pub addition : Addop → Operator
addition plus = Add
addition minus = Subtract

abbrev pub multiplication : Mulop → Operator
multiplication times = Multiply
multiplication over = Divide
multiplication percent = Remainder

-- operands are ints
abbrev pub joined : Operator → Option Typed → Option Typed → Option Typed
joined o x y = do
  a ← x
  b ← y
  if (is_int a && is_int b) (typed (core.binary o a.value b.value) (scalar Int))

abbrev pub negated : Option Typed → Option Typed
negated x = do
  a ← x
  if (is_int a) (typed (core.negate a.value) (scalar Int))

abbrev pub literally : Literal → Typed
literally (integer n p) = typed (core.constant n) (scalar Int)
literally (letter c p) = typed (core.constant c) (scalar Char)

-- the kind that a type name stands for
abbrev pub kind_named : Thing → Option Kind
kind_named class = None
kind_named (type_name k) = Some k
kind_named (constant t n) = None
kind_named (variable x s) = None
kind_named (method m r ps) = None
kind_named (standard f) = None

abbrev pub kind_of : Scope → Name → Option Kind
kind_of S x = do
  t ← lookup S x.text
  kind_named t

-- a name as a value: a constant or a variable
abbrev pub value_named : Thing → Option Typed
value_named class = None
value_named (type_name k) = None
value_named (constant t n) = Some (record { value = core.constant n; type = t })
value_named (variable x s) = Some (typed (core.load x) s)
value_named (method m r ps) = None
value_named (standard f) = None

-- what can be stored to or read from
pub record Place : Type 0 where
  pub target : core.Target
  pub load : Value
  pub shape : Shape

abbrev pub place : core.Target → Value → Shape → Place
place t v s = record { target = t; load = v; shape = s }

abbrev pub variable_named : Thing → Option (Variable × Shape)
variable_named class = None
variable_named (type_name k) = None
variable_named (constant t n) = None
variable_named (variable x s) = Some (x, s)
variable_named (method m r ps) = None
variable_named (standard f) = None

abbrev pub variable_place : Variable × Shape → Place
variable_place x = place (core.variable x.0) (core.load x.0) x.1

-- an element of an array variable, by an int
abbrev pub element_place : Variable × Shape → Typed → Option Place
element_place x i =
    if (is_array x.1 && is_int i) (place (core.element x.1.kind x.0 i.value) (core.load_element x.1.kind x.0 i.value) (scalar x.1.kind))

abbrev pub value_of : Place → Typed
value_of x = typed x.load x.shape

-- arguments fit parameters in number and type
abbrev pub suit : List Shape → List Typed → Bool
suit [] [] = true
suit [] (a ∷ xs) = false
suit (s ∷ ss) [] = false
suit (s ∷ ss) (a ∷ xs) = assignable s a.type && suit ss xs

abbrev pub values_of : List Typed → Values
values_of [] = core.no_values
values_of (a ∷ xs) = core.and_value a.value (values_of xs)

-- `chr` takes an int, `ord` a char, `len` an array
abbrev pub standard_of : Standard → Typed → Option Typed
standard_of chr a = if (is_int a) (typed (core.convert Char a.value) (scalar Char))
standard_of ord a = if (is_char a) (typed (core.convert Int a.value) (scalar Int))
standard_of len a = length_of a.type a.value
  where
    length_of : ValueType → Value → Option Typed
    length_of (shaped s) v = if (is_array s) (typed (core.length_of v) (scalar Int))
    length_of null v = None

abbrev pub one_argument : List Typed → Option Typed
one_argument [] = None
one_argument (a ∷ []) = Some a
one_argument (a ∷ b ∷ xs) = None

-- a call as a value: the method has a result
abbrev pub result_named : Thing → List Typed → Option Typed
result_named class xs = None
result_named (type_name k) xs = None
result_named (constant t n) xs = None
result_named (variable x s) xs = None
result_named (method m r ps) xs = do
  k ← r
  if (suit ps xs) (typed (core.result m (values_of xs)) (scalar k))
result_named (standard f) xs = do
  a ← one_argument xs
  standard_of f a

abbrev pub invoked : ℕ → Option Kind → List Typed → Action
invoked m None xs = core.invoke m (values_of xs)
invoked m (Some k) xs = core.discard m (values_of xs)

-- a call as a statement; `chr`, `ord` and `len` stand only in expressions
abbrev pub method_named : Thing → List Typed → Option Action
method_named class xs = None
method_named (type_name k) xs = None
method_named (constant t n) xs = None
method_named (variable x s) xs = None
method_named (method m r ps) xs = if (suit ps xs) (invoked m r xs)
method_named (standard f) xs = None

-- a method is called by its name alone
abbrev pub called_name : Designator → Option Name
called_name (whole x) = Some x
called_name (element x p e q) = None

abbrev mutual
  pub type_e : Expr → Scope → Option Typed
  type_e (positive t ts) S = type_ts ts S (type_t t S)
  type_e (negative p t ts) S = type_ts ts S (negated (type_t t S))

  pub type_ts : Terms → Scope → Option Typed → Option Typed
  type_ts no_terms S a = a
  type_ts (and_term o p t ts) S a = type_ts ts S (joined (addition o) a (type_t t S))

  pub type_t : Term → Scope → Option Typed
  type_t (product f fs) S = type_fs fs S (type_f f S)

  pub type_fs : Factors → Scope → Option Typed → Option Typed
  type_fs no_factors S a = a
  type_fs (and_factor o p f fs) S a = type_fs fs S (joined (multiplication o) a (type_f f S))

  pub type_f : Factor → Scope → Option Typed
  type_f (value d) S = type_d d S
  type_f (call d p xs q) S = do
    x ← called_name d
    t ← lookup S x.text
    as₁ ← type_as xs S
    result_named t as₁
  type_f (literal l) S = Some (literally l)
  type_f (new p x q e r) S = do
    k ← kind_of S x
    n ← type_e e S
    if (is_int n) (typed (core.new_array k n.value) (array_of k))
  type_f (parenthesis p e q) S = type_e e S

  pub type_d : Designator → Scope → Option Typed
  type_d (whole x) S = do
    t ← lookup S x.text
    value_named t
  type_d (element x p e q) S = do
    t ← lookup S x.text
    x₁ ← variable_named t
    i ← type_e e S
    y ← element_place x₁ i
    Some (value_of y)

  pub type_as : Arguments → Scope → Option (List Typed)
  type_as no_arguments S = Some []
  type_as (arguments e m) S = do
    a ← type_e e S
    rest ← type_more m S
    Some (a ∷ rest)

  pub type_more : More → Scope → Option (List Typed)
  type_more no_more S = Some []
  type_more (and_argument p e m) S = do
    a ← type_e e S
    rest ← type_more m S
    Some (a ∷ rest)

-- what a designator names that can be changed: a variable or an element
abbrev pub place_of : Designator → Scope → Option Place
place_of (whole x) S = do
  t ← lookup S x.text
  y ← variable_named t
  Some (variable_place y)
place_of (element x p e q) S = do
  t ← lookup S x.text
  y ← variable_named t
  i ← type_e e S
  element_place y i

abbrev pub compared : Comparison → Scope → Option core.Comparison
compared c S = do
  a ← type_e c.left S
  b ← type_e c.right S
  if (compatible a.type b.type && comparable c.relation a.type) (core.compare c.relation a.value b.value)

abbrev pub conjoined : Conjunction → Scope → Option core.Conjunction
conjoined (single c) S = do
  a ← compared c S
  Some (core.single a)
conjoined (both c p k) S = do
  a ← compared c S
  b ← conjoined k S
  Some (core.both a b)

abbrev pub condition_of : Condition → Scope → Option core.Condition
condition_of (only k) S = do
  a ← conjoined k S
  Some (core.only a)
condition_of (either k p c) S = do
  a ← conjoined k S
  b ← condition_of c S
  Some (core.either a b)

abbrev pub direction : Addop → Direction
direction plus = Up
direction minus = Down

-- the kind of an int or a char
abbrev pub kind_in : ValueType → Option Kind
kind_in (shaped s) = if (s.dimension == 0) s.kind
kind_in null = None

abbrev pub assigned : Designator → Expr → Scope → Option Action
assigned d e S = do
  x ← place_of d S
  a ← type_e e S
  if (assignable x.shape a.type) (core.assign x.target a.value)

abbrev pub invoked_by : Designator → Arguments → Scope → Option Action
invoked_by d xs S = do
  x ← called_name d
  t ← lookup S x.text
  ys ← type_as xs S
  method_named t ys

-- only an int is stepped
abbrev pub stepped_by : Addop → Designator → Scope → Option Action
stepped_by o d S = do
  x ← place_of d S
  if (is_kind Int (shaped x.shape)) (core.step (direction o) x.target)

-- an int or a char is read
abbrev pub read_to : Designator → Scope → Option Action
read_to d S = do
  x ← place_of d S
  k ← kind_in (shaped x.shape)
  Some (core.read k x.target)

-- an int or a char is printed, at a width of at most 255
abbrev pub printed_at : Expr → ℕ → Scope → Option Action
printed_at e width S = do
  a ← type_e e S
  k ← kind_in a.type
  if (nat_le width 255) (core.print k a.value width)

abbrev pub breaking : Bool → Option Action
breaking looping = if looping core.break

-- a void method returns no value, another one returns one of its kind
abbrev pub returning : Option Kind → Option Action
returning None = Some core.return
returning (Some k) = None

abbrev pub giving : Option Kind → Expr → Scope → Option Action
giving r e S = do
  k ← r
  a ← type_e e S
  if (assignable (scalar k) a.type) (core.give a.value)
