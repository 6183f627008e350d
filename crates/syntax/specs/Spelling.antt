-- What a tree spells: its tokens in order, and the level of the statement or expression that begins with each.
use Rattle.std.specs.Prelude.{ℕ, suc, List, [], ◌∷◌, ◌++◌}
use Rattle.std.specs.List.{flat_map}
use Rattle.words.specs.declared.arithmetic.Relation.{Relation}
use Rattle.words.specs.declared.arithmetic.Relation.TheVariants as relation
use Rattle.syntax.specs.declared.symbol.Symbol.{Symbol}
use Rattle.syntax.specs.declared.symbol.Symbol.TheVariants as sym
use Rattle.syntax.specs.Tokens.{name, number, character, symbol, Token, token}
use Rattle.syntax.specs.Trees.{At, Name, Addop, plus, minus, Mulop, times, over, percent, Literal, integer, letter, Expr, positive, negative, Terms, no_terms, and_term, Term, product, Factors, no_factors, and_factor, Factor, value, call, literal, new, parenthesis, Designator, whole, element, Arguments, no_arguments, arguments, More, no_more, and_argument, Comparison, Conjunction, single, both, Condition, only, either, Statement, assign, invoke, step, when, choose, while, break, return, give, read, print, print_wide, block, empty, Statements, none, and_then, Declared, scalar, array, Declareds, last, and, Variables, Declaration, constant, variables, Parameter, Parameters, no_parameters, parameters, ResultType, void, typed, Method, Program}

abbrev pub addop : Addop → Symbol
addop plus = sym.Plus
addop minus = sym.Minus

abbrev pub doubled : Addop → Symbol
doubled plus = sym.Increment
doubled minus = sym.Decrement

abbrev pub mulop : Mulop → Symbol
mulop times = sym.Times
mulop over = sym.Over
mulop percent = sym.Percent

abbrev pub relop : Relation → Symbol
relop relation.Equal = sym.Equal
relop relation.NotEqual = sym.NotEqual
relop relation.Less = sym.Less
relop relation.LessOrEqual = sym.LessOrEqual
relop relation.Greater = sym.Greater
relop relation.GreaterOrEqual = sym.GreaterOrEqual

-- `put` is given each token, and the level of the statement or expression that begins with it, or 0
module _ {A : Type 0} (put : ℕ → Token → A) where
  -- o: the level of what begins with this token
  abbrev pub sign : ℕ → Symbol → At → A
  sign o s p = put o (token (symbol s) p)

  abbrev pub named : ℕ → Name → A
  named o x = put o (token (name x.text) x.position)

  abbrev pub literally : ℕ → Literal → A
  literally o (integer n p) = put o (token (number n) p)
  literally o (letter c p) = put o (token (character c) p)

  -- n: the level of the expression; an index, an argument, a length and what stands in parentheses are one level deeper
  abbrev mutual
    pub expr : Expr → ℕ → List A
    expr (positive t ts) n = term t n n ++ terms ts n
    expr (negative p t ts) n = sign n sym.Minus p ∷ (term t n 0 ++ terms ts n)

    pub terms : Terms → ℕ → List A
    terms no_terms n = []
    terms (and_term o p t ts) n = sign 0 (addop o) p ∷ (term t n 0 ++ terms ts n)

    pub term : Term → ℕ → ℕ → List A
    term (product f fs) n o = factor f n o ++ factors fs n

    pub factors : Factors → ℕ → List A
    factors no_factors n = []
    factors (and_factor o p f fs) n = sign 0 (mulop o) p ∷ (factor f n 0 ++ factors fs n)

    pub factor : Factor → ℕ → ℕ → List A
    factor (value d) n o = designator d n o
    factor (call d p xs q) n o = designator d n o ++ sign 0 sym.OpenParenthesis p ∷ (argument_list xs n ++ sign 0 sym.CloseParenthesis q ∷ [])
    factor (literal l) n o = literally o l ∷ []
    factor (new p x q e r) n o = sign o sym.New p ∷ (named 0 x ∷ (sign 0 sym.OpenBracket q ∷ (expr e (suc n) ++ sign 0 sym.CloseBracket r ∷ [])))
    factor (parenthesis p e q) n o = sign o sym.OpenParenthesis p ∷ (expr e (suc n) ++ sign 0 sym.CloseParenthesis q ∷ [])

    pub designator : Designator → ℕ → ℕ → List A
    designator (whole x) n o = named o x ∷ []
    designator (element x p e q) n o = named o x ∷ (sign 0 sym.OpenBracket p ∷ (expr e (suc n) ++ sign 0 sym.CloseBracket q ∷ []))

    pub argument_list : Arguments → ℕ → List A
    argument_list no_arguments n = []
    argument_list (arguments e m) n = expr e (suc n) ++ more m n

    pub more : More → ℕ → List A
    more no_more n = []
    more (and_argument p e m) n = sign 0 sym.Comma p ∷ (expr e (suc n) ++ more m n)

  -- an expression directly in a statement stands at the statement's level
  abbrev pub comparison : Comparison → ℕ → List A
  comparison c n = expr c.left n ++ sign 0 (relop c.relation) c.relation_at ∷ expr c.right n

  abbrev pub conjunction : Conjunction → ℕ → List A
  conjunction (single c) n = comparison c n
  conjunction (both c p k) n = comparison c n ++ sign 0 sym.And p ∷ conjunction k n

  abbrev pub condition : Condition → ℕ → List A
  condition (only k) n = conjunction k n
  condition (either k p c) n = conjunction k n ++ sign 0 sym.Or p ∷ condition c n

  -- `if` or `while`, and its condition
  abbrev pub headed : Symbol → At → At → Condition → At → ℕ → List A
  headed s p q c r n = sign n s p ∷ (sign 0 sym.OpenParenthesis q ∷ (condition c n ++ sign 0 sym.CloseParenthesis r ∷ []))

  -- n: the level of the statement; a statement within a statement is one level deeper
  abbrev mutual
    pub statement : Statement → ℕ → List A
    statement (assign d p e q) n = designator d n n ++ sign 0 sym.Assign p ∷ (expr e n ++ sign 0 sym.Semicolon q ∷ [])
    statement (invoke d p xs q r) n = designator d n n ++ sign 0 sym.OpenParenthesis p ∷ (argument_list xs n ++ sign 0 sym.CloseParenthesis q ∷ (sign 0 sym.Semicolon r ∷ []))
    statement (step d o p q) n = designator d n n ++ sign 0 (doubled o) p ∷ (sign 0 sym.Semicolon q ∷ [])
    statement (when p q c r s) n = headed sym.If p q c r n ++ statement s (suc n)
    statement (choose p q c r s x t) n = headed sym.If p q c r n ++ (statement s (suc n) ++ sign 0 sym.Else x ∷ statement t (suc n))
    statement (while p q c r s) n = headed sym.While p q c r n ++ statement s (suc n)
    statement (break p q) n = sign n sym.Break p ∷ (sign 0 sym.Semicolon q ∷ [])
    statement (return p q) n = sign n sym.Return p ∷ (sign 0 sym.Semicolon q ∷ [])
    statement (give p e q) n = sign n sym.Return p ∷ (expr e n ++ sign 0 sym.Semicolon q ∷ [])
    statement (read p q d r s) n = sign n sym.Read p ∷ (sign 0 sym.OpenParenthesis q ∷ (designator d n 0 ++ sign 0 sym.CloseParenthesis r ∷ (sign 0 sym.Semicolon s ∷ [])))
    statement (print p q e r s) n = sign n sym.Print p ∷ (sign 0 sym.OpenParenthesis q ∷ (expr e n ++ sign 0 sym.CloseParenthesis r ∷ (sign 0 sym.Semicolon s ∷ [])))
    statement (print_wide p q e r w s t u) n =
        sign n sym.Print p ∷ (sign 0 sym.OpenParenthesis q ∷ (expr e n ++ sign 0 sym.Comma r ∷ (put 0 (token (number w) s) ∷ (sign 0 sym.CloseParenthesis t ∷ (sign 0 sym.Semicolon u ∷ [])))))
    statement (block p ss q) n = sign n sym.OpenBrace p ∷ (statements ss (suc n) ++ sign 0 sym.CloseBrace q ∷ [])
    statement (empty p) n = sign n sym.Semicolon p ∷ []

    pub statements : Statements → ℕ → List A
    statements none n = []
    statements (and_then s ss) n = statement s n ++ statements ss n

  abbrev pub declared : Declared → List A
  declared (scalar x) = named 0 x ∷ []
  declared (array x p q) = named 0 x ∷ (sign 0 sym.OpenBracket p ∷ (sign 0 sym.CloseBracket q ∷ []))

  abbrev pub declareds : Declareds → List A
  declareds (last d) = declared d
  declareds (and d p ds) = declared d ++ sign 0 sym.Comma p ∷ declareds ds

  abbrev pub variables_of : Variables → List A
  variables_of v = named 0 v.kind ∷ (declareds v.declared ++ sign 0 sym.Semicolon v.semicolon ∷ [])

  abbrev pub declaration : Declaration → List A
  declaration (constant p x y q l r) = sign 0 sym.Final p ∷ (named 0 x ∷ (named 0 y ∷ (sign 0 sym.Assign q ∷ (literally 0 l ∷ (sign 0 sym.Semicolon r ∷ [])))))
  declaration (variables v) = variables_of v

  abbrev pub declarations : List Declaration → List A
  declarations ds = flat_map declaration ds

  abbrev pub parameter : Parameter → List A
  parameter x = named 0 x.kind ∷ declared x.declared

  abbrev pub other_parameters : List (At × Parameter) → List A
  other_parameters xs = flat_map (λ x. sign 0 sym.Comma x.0 ∷ parameter x.1) xs

  abbrev pub parameter_list : Parameters → List A
  parameter_list no_parameters = []
  parameter_list (parameters x xs) = parameter x ++ other_parameters xs

  abbrev pub result_type : ResultType → A
  result_type (void p) = sign 0 sym.Void p
  result_type (typed x) = named 0 x

  abbrev pub local_variables : List Variables → List A
  local_variables vs = flat_map variables_of vs

  -- the statements of a body stand at level 1
  abbrev pub method : Method → List A
  method m =
      result_type m.result ∷ (named 0 m.name ∷ (sign 0 sym.OpenParenthesis m.opens ∷ (parameter_list m.takes ++ sign 0 sym.CloseParenthesis m.closes ∷ (local_variables m.locals ++ sign 0 sym.OpenBrace m.begins ∷ (statements m.body 1 ++ sign 0 sym.CloseBrace m.ends ∷ [])))))

  abbrev pub methods : List Method → List A
  methods ms = flat_map method ms

  abbrev pub program : Program → List A
  program t =
      sign 0 sym.Class t.class ∷ (named 0 t.name ∷ (declarations t.declarations ++ sign 0 sym.OpenBrace t.begins ∷ (methods t.methods ++ sign 0 sym.CloseBrace t.ends ∷ [])))

-- the tokens of a tree
abbrev pub spell : Program → List Token
spell = program (λ n t. t)

-- the levels at which statements and expressions begin, token by token
abbrev pub levels : Program → List ℕ
levels = program (λ n t. n)
