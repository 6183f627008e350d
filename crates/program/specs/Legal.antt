-- Legal core programs: every variable and method is there, types fit, and numbers keep their limits. What a legal text stands for is one.
use Rattle.std.specs.Prelude.{◌≡◌, ℕ, ◌≤◌, Bool, true, false, ◌⊎◌, List, [], ◌∷◌, ◌++◌, length, Some, None, Option}
use Rattle.std.specs.List.{slice_get}
use Rattle.words.specs.declared.printing.Kind.{Kind}
use Rattle.words.specs.declared.printing.Kind.TheVariants.{Int}
use Rattle.program.specs.declared.Shape.{Shape}
use Rattle.program.specs.declared.Variable.{Variable}
use Rattle.program.specs.declared.Variable.TheVariants.{Local, Global}
use Rattle.program.specs.Core.{Value, constant, load, load_element, negate, binary, new_array, length_of, convert, result, Values, no_values, and_value, Comparison, compare, Conjunction, single, both, Condition, only, either, Target, variable, element, Action, assign, step, read, print, invoke, discard, when, choose, while, break, return, give, block, nothing, Actions, no_actions, and_then, Method, Program, variable_count, scalar, array_of}

-- where a form stands: the methods and globals of its program, the parameters and locals of its method, the method's result, and whether it is in a loop
pub record Where : Type 0 where
  pub methods : List Method
  pub globals : List Shape
  pub locals : List Shape
  pub gives : Option Kind
  pub looping : Bool

abbrev pub in_loop : Where → Where
in_loop c = record { methods = c.methods; globals = c.globals; locals = c.locals; gives = c.gives; looping = true }

abbrev pub shape_of : Variable → Where → Option Shape
shape_of (Local n) c = slice_get c.locals n
shape_of (Global n) c = slice_get c.globals n

-- a value of this type; `null` is the constant 0, of every array type
abbrev mutual
  pub HasV : Value → Where → Shape → Type 0
  HasV (constant n) c s = (n ≤ 2147483647) × ((s.dimension ≡ 0) ⊎ (n ≡ 0))
  HasV (load x) c s = shape_of x c ≡ Some s
  HasV (load_element k x v) c s = (shape_of x c ≡ Some (array_of k)) × HasV v c (scalar Int) × (s ≡ scalar k)
  HasV (negate v) c s = HasV v c (scalar Int) × (s ≡ scalar Int)
  HasV (binary o v u) c s = HasV v c (scalar Int) × HasV u c (scalar Int) × (s ≡ scalar Int)
  HasV (new_array k v) c s = HasV v c (scalar Int) × (s ≡ array_of k)
  HasV (length_of v) c s = (k : Kind) × HasV v c (array_of k) × (s ≡ scalar Int)
  HasV (convert k v) c s = (j : Kind) × HasV v c (scalar j) × (s ≡ scalar k)
  HasV (result m vs) c s = (x : Method) × (k : Kind) × (slice_get c.methods m ≡ Some x) × (x.result ≡ Some k) × HasVs vs c x.parameters × (s ≡ scalar k)

  -- as many values as types, and each of its type
  pub HasVs : Values → Where → List Shape → Type 0
  HasVs no_values c ss = ss ≡ []
  HasVs (and_value v vs) c ss = (s : Shape) × (rest : List Shape) × (ss ≡ s ∷ rest) × HasV v c s × HasVs vs c rest

-- both sides have one type
abbrev pub FitsComparison : Comparison → Where → Type 0
FitsComparison (compare r v u) c = (s : Shape) × HasV v c s × HasV u c s

abbrev pub FitsConjunction : Conjunction → Where → Type 0
FitsConjunction (single x) c = FitsComparison x c
FitsConjunction (both x k) c = FitsComparison x c × FitsConjunction k c

abbrev pub FitsCondition : Condition → Where → Type 0
FitsCondition (only k) c = FitsConjunction k c
FitsCondition (either k x) c = FitsConjunction k c × FitsCondition x c

abbrev pub HasTarget : Target → Where → Shape → Type 0
HasTarget (variable x) c s = shape_of x c ≡ Some s
HasTarget (element k x v) c s = (shape_of x c ≡ Some (array_of k)) × HasV v c (scalar Int) × (s ≡ scalar k)

abbrev mutual
  pub FitsAction : Action → Where → Type 0
  FitsAction (assign t v) c = (s : Shape) × HasTarget t c s × HasV v c s
  FitsAction (step d t) c = HasTarget t c (scalar Int)
  FitsAction (read k t) c = HasTarget t c (scalar k)
  FitsAction (print k v n) c = HasV v c (scalar k) × (n ≤ 255)
  FitsAction (invoke m vs) c = (x : Method) × (slice_get c.methods m ≡ Some x) × (x.result ≡ None) × HasVs vs c x.parameters
  FitsAction (discard m vs) c = (x : Method) × (k : Kind) × (slice_get c.methods m ≡ Some x) × (x.result ≡ Some k) × HasVs vs c x.parameters
  FitsAction (when b a) c = FitsCondition b c × FitsAction a c
  FitsAction (choose b a e) c = FitsCondition b c × FitsAction a c × FitsAction e c
  FitsAction (while b a) c = FitsCondition b c × FitsAction a (in_loop c)
  FitsAction break c = c.looping ≡ true
  FitsAction return c = c.gives ≡ None
  FitsAction (give v) c = (k : Kind) × (c.gives ≡ Some k) × HasV v c (scalar k)
  FitsAction (block bs) c = FitsActions bs c
  FitsAction nothing c = Unit {0}

  pub FitsActions : Actions → Where → Type 0
  FitsActions no_actions c = Unit {0}
  FitsActions (and_then a bs) c = FitsAction a c × FitsActions bs c

abbrev pub within : Program → Method → Where
within p m = record { methods = p.methods; globals = p.globals; locals = m.parameters ++ m.locals; gives = m.result; looping = false }

pub record LegalMethod (p : Program) (m : Method) : Type 0 where
  pub few : variable_count m ≤ 255
  pub body : FitsActions m.body (within p m)

abbrev pub LegalMethods : Program → List Method → Type 0
LegalMethods p [] = Unit {0}
LegalMethods p (m ∷ ms) = LegalMethod p m × LegalMethods p ms

-- main is a void method without parameters
abbrev pub LegalMain : Program → Option ℕ → Type 0
LegalMain p None = Unit {0}
LegalMain p (Some n) = (m : Method) × (slice_get p.methods n ≡ Some m) × (m.parameters ≡ []) × (m.result ≡ None)

pub record Legal (p : Program) : Type 0 where
  pub few_globals : length p.globals ≤ 512
  pub methods : LegalMethods p p.methods
  pub main : LegalMain p p.main
