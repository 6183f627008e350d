-- Whole programs: items are judged in the order of the text, and the first that is not legal decides.
use Rattle.std.specs.Prelude.{ℕ, ◌+◌, Bool, true, false, List, [], ◌∷◌, ◌++◌, map, length, Some, None, Ok, Err, codes, Option, Result}
use Rattle.std.specs.Option.{option_map, option_or}
use Rattle.outcomes.specs.declared.Fault.{Fault}
use Rattle.outcomes.specs.declared.Position.{Position}
use Rattle.words.specs.declared.printing.Kind.{Kind}
use Rattle.program.specs.declared.Shape.{Shape}
use Rattle.program.specs.declared.Variable.TheVariants.{Local, Global}
use Rattle.program.specs.Core as core
use Rattle.syntax.specs.Trees.{Name, Literal, integer, letter, Designator, whole, element, Statement, assign, invoke, step, when, choose, while, break, return, give, read, print, print_wide, block, empty, Statements, none, and_then, Declared, Variables, Declaration, constant, variables, Parameter, ResultType, void, typed, Method, Program}
use Rattle.context.specs.Scopes as scope
use Rattle.context.specs.Scopes.{Thing, shaped, Scope, predeclared, seek, lookup, with_outer, with_local, without_locals, outer_count}
use Rattle.context.specs.Typing as typing
use Rattle.context.specs.Typing.{Typed, kind_of, literally, condition_of, assigned, invoked_by, stepped_by, read_to, printed_at, breaking, returning, giving, assignable}
use Rattle.context.specs.Items.{names_e, names_d, names_as, names_condition, name_of, shape_of, each, names_of, each_parameter, parameter_names, texts, visible, unknown, repeated, taken_locally, unfit_parameter, past_outer, past_local, judged, using_names}

abbrev pub ◌>>=◌ : {A B : Type 0} → Result A Fault → (A → Result B Fault) → Result B Fault
◌>>=◌ (Ok a) f = f a
◌>>=◌ (Err e) f = Err e

-- where a statement stands
pub record Site : Type 0 where
  pub scope : Scope
  pub result : Option Kind
  pub looping : Bool

abbrev pub in_loop : Site → Site
in_loop s = record { scope = s.scope; result = s.result; looping = true }

abbrev pub first_of : Designator → Position
first_of (whole x) = x.position
first_of (element x p e q) = x.position

-- an `if` or a `while` is judged by its condition; the statements in it are items of their own, as those of a block are
abbrev mutual
  pub action : Statement → Site → Result core.Action Fault
  action (assign d p e q) s = using_names s.scope (names_d d ++ names_e e) (first_of d) (assigned d e s.scope)
  action (invoke d p xs q r) s = using_names s.scope (names_d d ++ names_as xs) (first_of d) (invoked_by d xs s.scope)
  action (step d o p q) s = using_names s.scope (names_d d) (first_of d) (stepped_by o d s.scope)
  action (when p q c r a) s = do
    b ← using_names s.scope (names_condition c) p (condition_of c s.scope)
    x ← action a s
    Ok (core.when b x)
  action (choose p q c r a e z) s = do
    b ← using_names s.scope (names_condition c) p (condition_of c s.scope)
    x ← action a s
    y ← action z s
    Ok (core.choose b x y)
  action (while p q c r a) s = do
    b ← using_names s.scope (names_condition c) p (condition_of c s.scope)
    x ← action a (in_loop s)
    Ok (core.while b x)
  action (break p q) s = using_names s.scope [] p (breaking s.looping)
  action (return p q) s = using_names s.scope [] p (returning s.result)
  action (give p e q) s = using_names s.scope (names_e e) p (giving s.result e s.scope)
  action (read p q d r t) s = using_names s.scope (names_d d) p (read_to d s.scope)
  action (print p q e r t) s = using_names s.scope (names_e e) p (printed_at e 0 s.scope)
  action (print_wide p q e r n t u v) s = using_names s.scope (names_e e) p (printed_at e n s.scope)
  action (block p ss q) s = do
    xs ← actions ss s
    Ok (core.block xs)
  action (empty p) s = Ok core.nothing

  pub actions : Statements → Site → Result core.Actions Fault
  actions none s = Ok core.no_actions
  actions (and_then a ss) s = do
    x ← action a s
    xs ← actions ss s
    Ok (core.and_then x xs)

-- locals are numbered from 0 on, the parameters first
abbrev pub enter_locals : Kind → List Declared → Scope → Scope
enter_locals k [] S = S
enter_locals k (d ∷ ds) S = enter_locals k ds (with_local S (name_of d).text (scope.variable (Local (length S.local)) (shape_of k d)))

abbrev pub shapes_of : Kind → List Declared → List Shape
shapes_of k ds = map (shape_of k) ds

pub record Locals : Type 0 where
  pub scope : Scope
  pub shapes : List Shape

abbrev pub local_variables : List Variables → Scope → Result Locals Fault
local_variables [] S = Ok (record { scope = S; shapes = [] })
local_variables (v ∷ vs) S = do
  k ← judged (option_or (unknown (visible S) (v.kind ∷ [])) (repeated (taken_locally S) (names_of (each v.declared)))) (past_local (outer_count S) (length S.local) (names_of (each v.declared))) v.kind.position (kind_of S v.kind)
  rest ← local_variables vs (enter_locals k (each v.declared) S)
  Ok (record { scope = rest.scope; shapes = shapes_of k (each v.declared) ++ rest.shapes })

abbrev pub result_of : ResultType → Scope → Option (Option Kind)
result_of (void p) S = Some None
result_of (typed x) S = option_map Some (kind_of S x)

abbrev pub result_names : ResultType → List Name
result_names (void p) = []
result_names (typed x) = x ∷ []

abbrev pub result_position : ResultType → Position
result_position (void p) = p
result_position (typed x) = x.position

-- parameters, from left to right
abbrev pub enter_parameters : List Parameter → Scope → Option Locals
enter_parameters [] S = Some (record { scope = S; shapes = [] })
enter_parameters (x ∷ xs) S =
    typing.◌>>=◌ (kind_of S x.kind) λ k.
    typing.◌>>=◌ (enter_parameters xs (enter_locals k (x.declared ∷ []) S)) λ rest.
    Some (record { scope = rest.scope; shapes = shape_of k x.declared ∷ rest.shapes })

pub record Head : Type 0 where
  pub scope : Scope
  pub result : Option Kind
  pub parameters : List Shape

-- a method is entered at its name; its parameters are filled in when all are known
abbrev pub enter_method : Method → ℕ → Scope → Option Head
enter_method m n S =
    typing.◌>>=◌ (result_of m.result S) λ r.
    typing.◌>>=◌ (enter_parameters (each_parameter m.takes) (with_outer S m.name.text (scope.method n r []))) λ ps.
    Some (record { scope = record { outer = (with_outer S m.name.text (scope.method n r ps.shapes)).outer; local = ps.scope.local }; result = r; parameters = ps.shapes })

-- a method's head is one item
abbrev pub head_of : Method → ℕ → Scope → Result Head Fault
head_of m n S =
    judged
    (option_or (unknown (visible S) (result_names m.result)) (option_or (repeated (texts S.outer) (m.name ∷ [])) (unfit_parameter (texts S.outer ++ m.name.text ∷ []) [] (each_parameter m.takes))))
    (option_or (past_outer (outer_count S) (m.name ∷ [])) (past_local (outer_count S + 1) 0 (parameter_names (each_parameter m.takes))))
    (result_position m.result)
    (enter_method m n S)

pub record Methods : Type 0 where
  pub scope : Scope
  pub methods : List core.Method

-- a method, after n others
abbrev pub methods_of : List Method → ℕ → Scope → Result Methods Fault
methods_of [] n S = Ok (record { scope = S; methods = [] })
methods_of (m ∷ ms) n S = do
  h ← head_of m n S
  l ← local_variables m.locals h.scope
  b ← actions m.body (record { scope = l.scope; result = h.result; looping = false })
  rest ← methods_of ms (n + 1) (without_locals h.scope)
  Ok (record { scope = rest.scope; methods = record { position = m.name.position; parameters = h.parameters; locals = l.shapes; result = h.result; body = b } ∷ rest.methods })

-- the outer scope so far, and the globals in it
pub record Outer : Type 0 where
  pub scope : Scope
  pub globals : List Shape

-- globals are numbered from 0 on
abbrev pub enter_globals : Kind → List Declared → Outer → Outer
enter_globals k [] G = G
enter_globals k (d ∷ ds) G =
    enter_globals k ds (record { scope = with_outer G.scope (name_of d).text (scope.variable (Global (length G.globals)) (shape_of k d)); globals = G.globals ++ shape_of k d ∷ [] })

-- a constant has the type of its literal
abbrev pub constant_of : Name → Literal → Scope → Option Thing
constant_of x l S = typing.◌>>=◌ (kind_of S x) λ k. typing.if (assignable (core.scalar k) (literally l).type) (scope.constant (literally l).type (value_in l))
  where
    value_in : Literal → ℕ
    value_in (integer n p) = n
    value_in (letter c p) = c

abbrev pub declare : Declaration → Outer → Result Outer Fault
declare (constant p x y q l r) G = do
  t ← judged (option_or (unknown (visible G.scope) (x ∷ [])) (repeated (texts G.scope.outer) (y ∷ []))) (past_outer (outer_count G.scope) (y ∷ [])) p (constant_of x l G.scope)
  Ok (record { scope = with_outer G.scope y.text t; globals = G.globals })
declare (variables v) G = do
  k ← judged (option_or (unknown (visible G.scope) (v.kind ∷ [])) (repeated (texts G.scope.outer) (names_of (each v.declared)))) (past_outer (outer_count G.scope) (names_of (each v.declared))) v.kind.position (kind_of G.scope v.kind)
  Ok (enter_globals k (each v.declared) G)

abbrev pub declare_all : List Declaration → Outer → Result Outer Fault
declare_all [] G = Ok G
declare_all (d ∷ ds) G = do
  H ← declare d G
  declare_all ds H

-- the class name is in the outer scope
abbrev pub class_of : Name → Result Scope Fault
class_of x = judged (repeated (texts predeclared) (x ∷ [])) None x.position (Some (record { outer = predeclared ++ scope.entry x.text scope.class ∷ []; local = [] }))

abbrev pub is_main : Option Thing → Option ℕ
is_main None = None
is_main (Some scope.class) = None
is_main (Some (scope.type_name k)) = None
is_main (Some (scope.constant t n)) = None
is_main (Some (scope.variable x s)) = None
is_main (Some (scope.method m None [])) = Some m
is_main (Some (scope.method m None (p ∷ ps))) = None
is_main (Some (scope.method m (Some k) ps)) = None
is_main (Some (scope.standard f)) = None

-- the third stage's answer for a tree: the core program that it stands for, or the earliest fault
abbrev pub resolved : Program → Result core.Program Fault
resolved t = do
  S ← class_of t.name
  G ← declare_all t.declarations (record { scope = S; globals = [] })
  ms ← methods_of t.methods 0 G.scope
  Ok (record { globals = G.globals; methods = ms.methods; main = is_main (seek ms.scope.outer (codes "main")) })
