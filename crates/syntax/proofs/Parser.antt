-- A parser as a function, for proofs: n bounds how deep its calls go.
use Rattle.std.proofs.Common.{ℕ, zero, suc, cond, eqb, List, [], ◌∷◌}
use Rattle.words.specs.declared.arithmetic.Relation.{Relation}
use Rattle.words.specs.declared.arithmetic.Relation.TheVariants as relation
use Rattle.syntax.specs.declared.symbol.Symbol.{Symbol}
use Rattle.syntax.specs.declared.symbol.Symbol.TheVariants as sym
use Rattle.syntax.specs.Tokens.{TokenKind, name, number, character, Token}
use Rattle.syntax.specs.Trees.{At, Name, Addop, plus, minus, Mulop, times, over, percent, Literal, integer, letter, Expr, positive, negative, Terms, no_terms, and_term, Term, product, Factors, no_factors, and_factor, Factor, value, call, literal, new, parenthesis, Designator, whole, element, Arguments, no_arguments, arguments, More, no_more, and_argument, Comparison, Conjunction, single, both, Condition, only, either, Statement, assign, invoke, step, when, choose, while, break, return, give, read, print, print_wide, block, empty, Statements, none, and_then, Declared, scalar, array, Declareds, last, and, Variables, Declaration, constant, variables, Parameter, Parameters, no_parameters, parameters, ResultType, void, typed, Method, Program}
use Rattle.syntax.proofs.Fronts.{a_name, front, is_front, rest, place}

infixl 20 ◌>>=◌
pub data Parsed (A : Type 0) : Type 0 where
  took : A → List Token → Parsed A
  failed : Parsed A

abbrev pub bind_p : {A B : Type 0} → Parsed A → (A → List Token → Parsed B) → Parsed B
bind_p (took a ts) f = f a ts
bind_p failed f = failed

abbrev pub Parse : Type 0 → Type 0
Parse A = List Token → Parsed A

abbrev pub ◌>>=◌ : {A B : Type 0} → Parse A → (A → Parse B) → Parse B
◌>>=◌ p f ts = bind_p (p ts) f

abbrev pub expect : Symbol → Parse At
expect s ts = cond (is_front s ts) (took (place ts) (rest ts)) failed

abbrev pub if_front : {A : Type 0} → Symbol → Parse A → Parse A → Parse A
if_front s p q ts = cond (is_front s ts) (p ts) (q ts)

abbrev pub if_name : {A : Type 0} → Parse A → Parse A → Parse A
if_name p q ts = cond (eqb (front ts) a_name) (p ts) (q ts)

abbrev pub name_of : TokenKind → List Token → Parse Name
name_of (name w) ts us = took (record { text = w; position = place us }) ts
name_of k ts us = failed

abbrev pub p_name : Parse Name
p_name [] = failed
p_name (t ∷ ts) = name_of t.kind ts (t ∷ ts)

abbrev pub number_of : TokenKind → List Token → Parse (ℕ × At)
number_of (number n) ts us = took (n, place us) ts
number_of k ts us = failed

abbrev pub p_number : Parse (ℕ × At)
p_number [] = failed
p_number (t ∷ ts) = number_of t.kind ts (t ∷ ts)

abbrev pub literal_of : TokenKind → List Token → Parse Literal
literal_of (number n) ts us = took (integer n (place us)) ts
literal_of (character c) ts us = took (letter c (place us)) ts
literal_of k ts us = failed

abbrev pub p_literal : Parse Literal
p_literal [] = failed
p_literal (t ∷ ts) = literal_of t.kind ts (t ∷ ts)

abbrev pub p_addop : {A : Type 0} → (Addop → Parse A) → Parse A → Parse A
p_addop f q = if_front sym.Plus (f plus) (if_front sym.Minus (f minus) q)

abbrev pub p_mulop : {A : Type 0} → (Mulop → Parse A) → Parse A → Parse A
p_mulop f q = if_front sym.Times (f times) (if_front sym.Over (f over) (if_front sym.Percent (f percent) q))

-- the symbol at the front, whatever it is
abbrev pub skip : Parse At
skip ts = took (place ts) (rest ts)

abbrev mutual
  pub p_e : ℕ → Parse Expr
  p_e zero = λ ts. failed
  p_e (suc n) =
      if_front sym.Minus
      (skip >>= λ p. p_t n >>= λ t. p_ts n >>= λ ts. took (negative p t ts))
      (p_t n >>= λ t. p_ts n >>= λ ts. took (positive t ts))

  pub p_ts : ℕ → Parse Terms
  p_ts zero = λ ts. failed
  p_ts (suc n) = p_addop (λ o. skip >>= λ p. p_t n >>= λ t. p_ts n >>= λ ts. took (and_term o p t ts)) (took no_terms)

  pub p_t : ℕ → Parse Term
  p_t zero = λ ts. failed
  p_t (suc n) = p_f n >>= λ f. p_fs n >>= λ fs. took (product f fs)

  pub p_fs : ℕ → Parse Factors
  p_fs zero = λ ts. failed
  p_fs (suc n) = p_mulop (λ o. skip >>= λ p. p_f n >>= λ f. p_fs n >>= λ fs. took (and_factor o p f fs)) (took no_factors)

  pub p_f : ℕ → Parse Factor
  p_f zero = λ ts. failed
  p_f (suc n) =
      if_name (p_d n >>= λ d. if_front sym.OpenParenthesis (skip >>= λ p. p_as n >>= λ xs. expect sym.CloseParenthesis >>= λ q. took (call d p xs q)) (took (value d)))
      (if_front sym.New (skip >>= λ p. p_name >>= λ x. expect sym.OpenBracket >>= λ q. p_e n >>= λ e. expect sym.CloseBracket >>= λ r. took (new p x q e r))
      (if_front sym.OpenParenthesis (skip >>= λ p. p_e n >>= λ e. expect sym.CloseParenthesis >>= λ q. took (parenthesis p e q))
      (p_literal >>= λ l. took (literal l))))

  pub p_d : ℕ → Parse Designator
  p_d zero = λ ts. failed
  p_d (suc n) = p_name >>= λ x. if_front sym.OpenBracket (skip >>= λ p. p_e n >>= λ e. expect sym.CloseBracket >>= λ q. took (element x p e q)) (took (whole x))

  pub p_as : ℕ → Parse Arguments
  p_as zero = λ ts. failed
  p_as (suc n) = if_front sym.CloseParenthesis (took no_arguments) (p_e n >>= λ e. p_more n >>= λ m. took (arguments e m))

  pub p_more : ℕ → Parse More
  p_more zero = λ ts. failed
  p_more (suc n) = if_front sym.Comma (skip >>= λ p. p_e n >>= λ e. p_more n >>= λ m. took (and_argument p e m)) (took no_more)

abbrev pub p_relation : Parse Relation
p_relation ts =
    cond (is_front sym.Equal ts) (took relation.Equal ts)
    (cond (is_front sym.NotEqual ts) (took relation.NotEqual ts)
    (cond (is_front sym.Less ts) (took relation.Less ts)
    (cond (is_front sym.LessOrEqual ts) (took relation.LessOrEqual ts)
    (cond (is_front sym.Greater ts) (took relation.Greater ts)
    (cond (is_front sym.GreaterOrEqual ts) (took relation.GreaterOrEqual ts) failed)))))

abbrev pub p_comparison : ℕ → Parse Comparison
p_comparison n = p_e n >>= λ a. p_relation >>= λ r. skip >>= λ p. p_e n >>= λ b. took (record { left = a; relation = r; relation_at = p; right = b })

abbrev pub p_conjunction : ℕ → Parse Conjunction
p_conjunction zero = λ ts. failed
p_conjunction (suc n) = p_comparison n >>= λ c. if_front sym.And (skip >>= λ p. p_conjunction n >>= λ k. took (both c p k)) (took (single c))

abbrev pub p_condition : ℕ → Parse Condition
p_condition zero = λ ts. failed
p_condition (suc n) = p_conjunction n >>= λ k. if_front sym.Or (skip >>= λ p. p_condition n >>= λ c. took (either k p c)) (took (only k))

-- the part of a statement behind its designator
abbrev pub p_behind : ℕ → Designator → Parse Statement
p_behind n d =
    if_front sym.Assign (skip >>= λ p. p_e n >>= λ e. expect sym.Semicolon >>= λ q. took (assign d p e q))
    (if_front sym.OpenParenthesis (skip >>= λ p. p_as n >>= λ xs. expect sym.CloseParenthesis >>= λ q. expect sym.Semicolon >>= λ r. took (invoke d p xs q r))
    (if_front sym.Increment (skip >>= λ p. expect sym.Semicolon >>= λ q. took (step d plus p q))
    (expect sym.Decrement >>= λ p. expect sym.Semicolon >>= λ q. took (step d minus p q))))

abbrev pub p_print : ℕ → Parse Statement
p_print n =
    skip >>= λ p. expect sym.OpenParenthesis >>= λ q. p_e n >>= λ e.
    if_front sym.Comma
    (skip >>= λ r. p_number >>= λ w. expect sym.CloseParenthesis >>= λ t. expect sym.Semicolon >>= λ u. took (print_wide p q e r w.0 w.1 t u))
    (expect sym.CloseParenthesis >>= λ r. expect sym.Semicolon >>= λ s. took (print p q e r s))

abbrev pub p_return : ℕ → Parse Statement
p_return n = skip >>= λ p. if_front sym.Semicolon (skip >>= λ q. took (return p q)) (p_e n >>= λ e. expect sym.Semicolon >>= λ q. took (give p e q))

abbrev pub p_read : ℕ → Parse Statement
p_read n = skip >>= λ p. expect sym.OpenParenthesis >>= λ q. p_d n >>= λ d. expect sym.CloseParenthesis >>= λ r. expect sym.Semicolon >>= λ s. took (read p q d r s)

-- `if` or `while` and its condition
abbrev pub p_head : {A : Type 0} → ℕ → (At → At → Condition → At → Parse A) → Parse A
p_head n f = skip >>= λ p. expect sym.OpenParenthesis >>= λ q. p_condition n >>= λ c. expect sym.CloseParenthesis >>= λ r. f p q c r

abbrev mutual
  pub p_s : ℕ → Parse Statement
  p_s zero = λ ts. failed
  p_s (suc n) =
      if_name (p_d n >>= p_behind n)
      (if_front sym.If
      (p_head n λ p q c r. p_s n >>= λ s. if_front sym.Else (skip >>= λ x. p_s n >>= λ t. took (choose p q c r s x t)) (took (when p q c r s)))
      (if_front sym.While (p_head n λ p q c r. p_s n >>= λ s. took (while p q c r s))
      (if_front sym.Break (skip >>= λ p. expect sym.Semicolon >>= λ q. took (break p q))
      (if_front sym.Return (p_return n)
      (if_front sym.Read (p_read n)
      (if_front sym.Print (p_print n)
      (if_front sym.OpenBrace (skip >>= λ p. p_ss n >>= λ ss. expect sym.CloseBrace >>= λ q. took (block p ss q))
      (expect sym.Semicolon >>= λ p. took (empty p)))))))))

  pub p_ss : ℕ → Parse Statements
  p_ss zero = λ ts. failed
  p_ss (suc n) = if_front sym.CloseBrace (took none) (p_s n >>= λ s. p_ss n >>= λ ss. took (and_then s ss))

abbrev pub p_declared : Parse Declared
p_declared = p_name >>= λ x. if_front sym.OpenBracket (skip >>= λ p. expect sym.CloseBracket >>= λ q. took (array x p q)) (took (scalar x))

abbrev pub p_declareds : ℕ → Parse Declareds
p_declareds zero = λ ts. failed
p_declareds (suc n) = p_declared >>= λ d. if_front sym.Comma (skip >>= λ p. p_declareds n >>= λ ds. took (and d p ds)) (took (last d))

abbrev pub p_variables : ℕ → Parse Variables
p_variables n = p_name >>= λ x. p_declareds n >>= λ ds. expect sym.Semicolon >>= λ p. took (record { kind = x; declared = ds; semicolon = p })

abbrev pub p_constant : Parse Declaration
p_constant = skip >>= λ p. p_name >>= λ x. p_name >>= λ y. expect sym.Assign >>= λ q. p_literal >>= λ l. expect sym.Semicolon >>= λ r. took (constant p x y q l r)

abbrev pub p_declarations : ℕ → Parse (List Declaration)
p_declarations zero = λ ts. failed
p_declarations (suc n) =
    if_front sym.Final (p_constant >>= λ d. p_declarations n >>= λ ds. took (d ∷ ds))
    (if_name (p_variables n >>= λ v. p_declarations n >>= λ ds. took (variables v ∷ ds)) (took []))

abbrev pub p_locals : ℕ → Parse (List Variables)
p_locals zero = λ ts. failed
p_locals (suc n) = if_name (p_variables n >>= λ v. p_locals n >>= λ vs. took (v ∷ vs)) (took [])

abbrev pub p_parameter : Parse Parameter
p_parameter = p_name >>= λ x. p_declared >>= λ d. took (record { kind = x; declared = d })

abbrev pub p_others : ℕ → Parse (List (At × Parameter))
p_others zero = λ ts. failed
p_others (suc n) = if_front sym.Comma (skip >>= λ p. p_parameter >>= λ x. p_others n >>= λ xs. took ((p, x) ∷ xs)) (took [])

abbrev pub p_parameters : ℕ → Parse Parameters
p_parameters n = if_name (p_parameter >>= λ x. p_others n >>= λ xs. took (parameters x xs)) (took no_parameters)

abbrev pub p_result : Parse ResultType
p_result = if_front sym.Void (skip >>= λ p. took (void p)) (p_name >>= λ x. took (typed x))

abbrev pub p_method : ℕ → Parse Method
p_method n =
    p_result >>= λ r. p_name >>= λ x. expect sym.OpenParenthesis >>= λ p. p_parameters n >>= λ xs. expect sym.CloseParenthesis >>= λ q.
    p_locals n >>= λ vs. expect sym.OpenBrace >>= λ b. p_ss n >>= λ ss. expect sym.CloseBrace >>= λ e.
    took (record { result = r; name = x; opens = p; takes = xs; closes = q; locals = vs; begins = b; body = ss; ends = e })

abbrev pub p_methods : ℕ → Parse (List Method)
p_methods zero = λ ts. failed
p_methods (suc n) = if_front sym.CloseBrace (took []) (p_method n >>= λ m. p_methods n >>= λ ms. took (m ∷ ms))

abbrev pub p_program : ℕ → Parse Program
p_program n =
    expect sym.Class >>= λ p. p_name >>= λ x. p_declarations n >>= λ ds. expect sym.OpenBrace >>= λ b. p_methods n >>= λ ms. expect sym.CloseBrace >>= λ e.
    took (record { class = p; name = x; declarations = ds; begins = b; methods = ms; ends = e })
