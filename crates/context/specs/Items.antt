-- The names of an item, in the order of the text: which are unknown, repeated or too many; and the refusal that an item gets.
use Rattle.std.specs.Prelude.{ℕ, ◌+◌, Bool, cond, ◌||◌, List, [], ◌∷◌, ◌++◌, map, Some, None, Err, Option, Result, nat_le}
use Rattle.std.specs.List.{list_any}
use Rattle.std.specs.Option.{ok_or, option_or}
use Rattle.std.specs.Str.{bytes_eq}
use Rattle.outcomes.specs.declared.Fault.{Fault}
use Rattle.outcomes.specs.declared.Position.{Position}
use Rattle.outcomes.specs.declared.Refusal.{Refusal}
use Rattle.outcomes.specs.declared.Refusal.TheVariants.{UnfitName, ContextRule, TooManyNames}
use Rattle.words.specs.declared.printing.Kind.{Kind}
use Rattle.program.specs.declared.Shape.{Shape}
use Rattle.program.specs.Core as core
use Rattle.syntax.specs.Trees.{Name, Expr, positive, negative, Terms, no_terms, and_term, Term, product, Factors, no_factors, and_factor, Factor, value, call, literal, new, parenthesis, Designator, whole, element, Arguments, no_arguments, arguments, More, no_more, and_argument, Comparison, Conjunction, single, both, Condition, only, either, Declared, scalar, array, Declareds, last, and, Parameter, Parameters, no_parameters, parameters}
use Rattle.context.specs.Scopes.{Entry, Scope, predeclared}

abbrev mutual
  pub names_e : Expr → List Name
  names_e (positive t ts) = names_t t ++ names_ts ts
  names_e (negative p t ts) = names_t t ++ names_ts ts

  pub names_ts : Terms → List Name
  names_ts no_terms = []
  names_ts (and_term o p t ts) = names_t t ++ names_ts ts

  pub names_t : Term → List Name
  names_t (product f fs) = names_f f ++ names_fs fs

  pub names_fs : Factors → List Name
  names_fs no_factors = []
  names_fs (and_factor o p f fs) = names_f f ++ names_fs fs

  pub names_f : Factor → List Name
  names_f (value d) = names_d d
  names_f (call d p xs q) = names_d d ++ names_as xs
  names_f (literal l) = []
  names_f (new p x q e r) = x ∷ names_e e
  names_f (parenthesis p e q) = names_e e

  pub names_d : Designator → List Name
  names_d (whole x) = x ∷ []
  names_d (element x p e q) = x ∷ names_e e

  pub names_as : Arguments → List Name
  names_as no_arguments = []
  names_as (arguments e m) = names_e e ++ names_more m

  pub names_more : More → List Name
  names_more no_more = []
  names_more (and_argument p e m) = names_e e ++ names_more m

abbrev pub names_comparison : Comparison → List Name
names_comparison c = names_e c.left ++ names_e c.right

abbrev pub names_conjunction : Conjunction → List Name
names_conjunction (single c) = names_comparison c
names_conjunction (both c p k) = names_comparison c ++ names_conjunction k

abbrev pub names_condition : Condition → List Name
names_condition (only k) = names_conjunction k
names_condition (either k p c) = names_conjunction k ++ names_condition c

abbrev pub name_of : Declared → Name
name_of (scalar x) = x
name_of (array x p q) = x

abbrev pub shape_of : Kind → Declared → Shape
shape_of k (scalar x) = core.scalar k
shape_of k (array x p q) = core.array_of k

abbrev pub each : Declareds → List Declared
each (last d) = d ∷ []
each (and d p ds) = d ∷ each ds

abbrev pub names_of : List Declared → List Name
names_of ds = map name_of ds

abbrev pub each_parameter : Parameters → List Parameter
each_parameter no_parameters = []
each_parameter (parameters x xs) = x ∷ map (λ y. y.1) xs

abbrev pub parameter_names : List Parameter → List Name
parameter_names xs = map (λ x. name_of x.declared) xs

abbrev pub texts : List Entry → List (List ℕ)
texts es = map (λ e. e.text) es

abbrev pub has : List (List ℕ) → List ℕ → Bool
has vs w = list_any (λ v. bytes_eq v w) vs

-- all names that can be used
abbrev pub visible : Scope → List (List ℕ)
visible S = texts S.local ++ texts S.outer

-- the first name that is unknown
abbrev pub unknown : List (List ℕ) → List Name → Option Position
unknown vs [] = None
unknown vs (x ∷ xs) = cond (has vs x.text) (unknown vs xs) (Some x.position)

-- the first name that stands in its scope already, or was declared before it in the same item
abbrev pub repeated : List (List ℕ) → List Name → Option Position
repeated own [] = None
repeated own (x ∷ xs) = cond (has own x.text) (Some x.position) (repeated (own ++ x.text ∷ []) xs)

-- the names that a method cannot declare
abbrev pub taken_locally : Scope → List (List ℕ)
taken_locally S = texts predeclared ++ texts S.local

-- a parameter's type is sought among the parameters before it too
abbrev pub unfit_parameter : List (List ℕ) → List (List ℕ) → List Parameter → Option Position
unfit_parameter outer own [] = None
unfit_parameter outer own (x ∷ xs) =
    option_or (unknown (own ++ outer) (x.kind ∷ [])) (option_or (repeated (texts predeclared ++ own) (name_of x.declared ∷ [])) (unfit_parameter outer (own ++ (name_of x.declared).text ∷ []) xs))

-- the first outer name past 512; n are there before
abbrev pub past_outer : ℕ → List Name → Option Position
past_outer n [] = None
past_outer n (x ∷ xs) = cond (nat_le 512 n) (Some x.position) (past_outer (n + 1) xs)

-- the first parameter or local past 255, or past 512 names with the outer ones
abbrev pub past_local : ℕ → ℕ → List Name → Option Position
past_local outer n [] = None
past_local outer n (x ∷ xs) = cond (nat_le 255 n || nat_le 512 (outer + n)) (Some x.position) (past_local outer (n + 1) xs)

abbrev pub unless : {A : Type 0} → Refusal → Option Position → Result A Fault → Result A Fault
unless r None x = x
unless r (Some p) x = Err (record { refusal = r; position = p })

-- an item: 6 at the first name that is unfit, else 8 at the first name past a limit, else 7 at the first token
abbrev pub judged : {A : Type 0} → Option Position → Option Position → Position → Option A → Result A Fault
judged unfit past first a = unless UnfitName unfit (unless TooManyNames past (ok_or a (record { refusal = ContextRule; position = first })))

-- an item that declares nothing
abbrev pub using_names : {A : Type 0} → Scope → List Name → Position → Option A → Result A Fault
using_names S xs first a = judged (unknown (visible S) xs) None first a
