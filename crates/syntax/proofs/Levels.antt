-- A token begins nothing at a deeper level than there are tokens before it.
use Rattle.std.proofs.Common.{ℕ, zero, suc, ◌+◌, ◌≤◌, List, [], ◌∷◌, ◌++◌, get_or, length, ◌-◌, arith}
use Rattle.std.proofs.Math.ListN.{get_or-append}
use Rattle.std.proofs.Math.Seq.{get_or-append_right}
use Rattle.std.specs.List.{flat_map}
use Rattle.syntax.specs.Tokens.{Token}
use Rattle.syntax.specs.Trees.{Literal, integer, letter, Expr, positive, negative, Terms, no_terms, and_term, Term, product, Factors, no_factors, and_factor, Factor, value, call, literal, new, parenthesis, Designator, whole, element, Arguments, no_arguments, arguments, More, no_more, and_argument, Comparison, Conjunction, single, both, Condition, only, either, Statement, assign, invoke, step, when, choose, while, break, return, give, read, print, print_wide, block, empty, Statements, none, and_then, Declared, scalar, array, Declareds, last, and, Variables, Declaration, constant, variables, Parameter, Parameters, no_parameters, parameters, ResultType, void, typed, Method, Program}
use Rattle.syntax.specs.Spelling as spelling
use Rattle.syntax.specs.Spelling.{levels}

infixr 20 ◌then◌
-- the number at place k is at most n + k
pub record Low (n : ℕ) (xs : List ℕ) : Type 0 where
  pub under : (k : ℕ) → get_or xs k 0 ≤ n + k

nothing : {n : ℕ} → Low n []
nothing = record { under = λ k. omega arith }

raise : {n m : ℕ} {xs : List ℕ} → Low n xs → n ≤ m → Low m xs
raise u h = record { under = λ k. omega (arith, u.under k) }

-- the same one place further on
up : {n : ℕ} {xs : List ℕ} → Low n xs → Low (suc n) xs
up u = raise u (omega arith)

-- a token that begins something, before the rest
first : {n x : ℕ} {xs : List ℕ} → x ≤ n → Low (suc n) xs → Low n (x ∷ xs)
first {n} {x} {xs} h u = record { under = go }
  where
    go : (k : ℕ) → get_or (x ∷ xs) k 0 ≤ n + k
    go zero = omega arith
    go (suc k) = omega (arith, u.under k)

-- one that begins nothing
mark : {n : ℕ} {xs : List ℕ} → Low n xs → Low n (0 ∷ xs)
mark u = first (omega arith) (up u)

-- one list behind the other
◌then◌ : {n : ℕ} {a b : List ℕ} → Low n a → Low n b → Low n (a ++ b)
◌then◌ {n} {a} {b} u v = record { under = λ k. grind (arith, get_or-append {A = ℕ}, get_or-append_right {A = ℕ}, u.under k, v.under (k - length a)) }

abbrev level : ℕ → Token → ℕ
level n t = n

literal_low : (x : Literal) (o n : ℕ) → o ≤ n → Low n (spelling.literally level o x ∷ [])
literal_low (integer k p) o n h = first h nothing
literal_low (letter c p) o n h = first h nothing

mutual
  expr_low : (e : Expr) (l : ℕ) → Low l (spelling.expr level e l)
  expr_low (positive t ts) l = term_low t l l (omega arith) then terms_low ts l
  expr_low (negative p t ts) l = first (omega arith) (up (term_low t l 0 (omega arith) then terms_low ts l))

  terms_low : (ts : Terms) (l : ℕ) → Low l (spelling.terms level ts l)
  terms_low no_terms l = nothing
  terms_low (and_term o p t ts) l = mark (term_low t l 0 (omega arith) then terms_low ts l)

  term_low : (t : Term) (l o : ℕ) → o ≤ l → Low l (spelling.term level t l o)
  term_low (product f fs) l o h = factor_low f l o h then factors_low fs l

  factors_low : (fs : Factors) (l : ℕ) → Low l (spelling.factors level fs l)
  factors_low no_factors l = nothing
  factors_low (and_factor o p f fs) l = mark (factor_low f l 0 (omega arith) then factors_low fs l)

  factor_low : (f : Factor) (l o : ℕ) → o ≤ l → Low l (spelling.factor level f l o)
  factor_low (value d) l o h = designator_low d l o h
  factor_low (call d p xs q) l o h = designator_low d l o h then first (omega arith) (arguments_low xs l then mark nothing)
  factor_low (literal x) l o h = literal_low x o l h
  factor_low (new p x q e r) l o h = first h (mark (mark (expr_low e (suc l) then mark nothing)))
  factor_low (parenthesis p e q) l o h = first h (expr_low e (suc l) then mark nothing)

  designator_low : (d : Designator) (l o : ℕ) → o ≤ l → Low l (spelling.designator level d l o)
  designator_low (whole x) l o h = first h nothing
  designator_low (element x p e q) l o h = first h (mark (expr_low e (suc l) then mark nothing))

  -- behind the opening parenthesis
  arguments_low : (xs : Arguments) (l : ℕ) → Low (suc l) (spelling.argument_list level xs l)
  arguments_low no_arguments l = nothing
  arguments_low (arguments e m) l = expr_low e (suc l) then more_low m l

  more_low : (m : More) (l : ℕ) → Low (suc l) (spelling.more level m l)
  more_low no_more l = nothing
  more_low (and_argument p e m) l = mark (expr_low e (suc l) then more_low m l)

comparison_low : (c : Comparison) (l : ℕ) → Low l (spelling.comparison level c l)
comparison_low c l = expr_low c.left l then mark (expr_low c.right l)

conjunction_low : (k : Conjunction) (l : ℕ) → Low l (spelling.conjunction level k l)
conjunction_low (single c) l = comparison_low c l
conjunction_low (both c p k) l = comparison_low c l then mark (conjunction_low k l)

condition_low : (c : Condition) (l : ℕ) → Low l (spelling.condition level c l)
condition_low (only k) l = conjunction_low k l
condition_low (either k p c) l = conjunction_low k l then mark (condition_low c l)

-- `if` or `while` with its condition, and what stands behind, one level deeper
headed_low : (c : Condition) (l : ℕ) {xs : List ℕ} → Low (suc l) xs → Low l (l ∷ (0 ∷ ((spelling.condition level c l ++ 0 ∷ []) ++ xs)))
headed_low c l u = first (omega arith) (mark ((up (condition_low c l) then mark nothing) then u))

mutual
  statement_low : (s : Statement) (l : ℕ) → Low l (spelling.statement level s l)
  statement_low (assign d p e q) l = designator_low d l l (omega arith) then mark (expr_low e l then mark nothing)
  statement_low (invoke d p xs q r) l = designator_low d l l (omega arith) then first (omega arith) (arguments_low xs l then mark (mark nothing))
  statement_low (step d o p q) l = designator_low d l l (omega arith) then mark (mark nothing)
  statement_low (when p q c r s) l = headed_low c l (statement_low s (suc l))
  statement_low (choose p q c r s x t) l = headed_low c l (statement_low s (suc l) then mark (statement_low t (suc l)))
  statement_low (while p q c r s) l = headed_low c l (statement_low s (suc l))
  statement_low (break p q) l = first (omega arith) (mark nothing)
  statement_low (return p q) l = first (omega arith) (mark nothing)
  statement_low (give p e q) l = first (omega arith) (up (expr_low e l) then mark nothing)
  statement_low (read p q d r s) l = first (omega arith) (up (mark (designator_low d l 0 (omega arith) then mark (mark nothing))))
  statement_low (print p q e r s) l = first (omega arith) (up (mark (expr_low e l then mark (mark nothing))))
  statement_low (print_wide p q e r w s t u) l = first (omega arith) (up (mark (expr_low e l then mark (mark (mark (mark nothing))))))
  statement_low (block p ss q) l = first (omega arith) (statements_low ss (suc l) then mark nothing)
  statement_low (empty p) l = first (omega arith) nothing

  statements_low : (ss : Statements) (l : ℕ) → Low l (spelling.statements level ss l)
  statements_low none l = nothing
  statements_low (and_then s ss) l = statement_low s l then statements_low ss l

-- what stands one behind the other
all_low : {X : Type 0} {f : X → List ℕ} → ((x : X) (n : ℕ) → Low n (f x)) → (xs : List X) (n : ℕ) → Low n (flat_map f xs)
all_low h [] n = nothing
all_low h (x ∷ xs) n = h x n then all_low h xs n

declared_low : (d : Declared) (n : ℕ) → Low n (spelling.declared level d)
declared_low (scalar x) n = mark nothing
declared_low (array x p q) n = mark (mark (mark nothing))

declareds_low : (ds : Declareds) (n : ℕ) → Low n (spelling.declareds level ds)
declareds_low (last d) n = declared_low d n
declareds_low (and d p ds) n = declared_low d n then mark (declareds_low ds n)

variables_low : (v : Variables) (n : ℕ) → Low n (spelling.variables_of level v)
variables_low v n = mark (declareds_low v.declared n then mark nothing)

declaration_low : (d : Declaration) (n : ℕ) → Low n (spelling.declaration level d)
declaration_low (constant p x y q c r) n = mark (mark (mark (mark (literal_low c 0 n (omega arith) then mark nothing))))
declaration_low (variables v) n = variables_low v n

parameter_low : (x : Parameter) (n : ℕ) → Low n (spelling.parameter level x)
parameter_low x n = mark (declared_low x.declared n)

parameters_low : (xs : Parameters) (n : ℕ) → Low n (spelling.parameter_list level xs)
parameters_low no_parameters n = nothing
parameters_low (parameters x xs) n = parameter_low x n then all_low (λ y n. mark (parameter_low y.1 n)) xs n

result_low : (r : ResultType) {n : ℕ} {xs : List ℕ} → Low n xs → Low n (spelling.result_type level r ∷ xs)
result_low (void p) u = mark u
result_low (typed x) u = mark u

-- the statements of a body stand at level 1, behind other tokens
method_low : (m : Method) (n : ℕ) → Low n (spelling.method level m)
method_low m n =
    result_low m.result (first (omega arith) (mark (parameters_low m.takes _ then mark (all_low variables_low m.locals _ then mark (raise (statements_low m.body 1) (omega arith) then mark nothing)))))

program_low : (t : Program) → Low 0 (levels t)
program_low t = mark (mark (all_low declaration_low t.declarations _ then mark (all_low method_low t.methods _ then mark nothing)))

pub level_at : (t : Program) (k : ℕ) → get_or (levels t) k 0 ≤ k
level_at t k = omega (arith, (program_low t).under k)
