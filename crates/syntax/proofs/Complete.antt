-- The parser reads back what a tree spells: expressions.
use Rattle.std.proofs.Common.{◌≡◌, ℕ, zero, suc, ◌≤◌, max, true, false, List, ◌∷◌, ◌++◌, refl, append_assoc, arith}
use Rattle.std.proofs.lemmas.Bool.{eqb-true}
use Rattle.std.proofs.lemmas.Bool.Decides.{nat_tests}
use Rattle.syntax.specs.declared.symbol.Symbol.{Symbol}
use Rattle.syntax.specs.declared.symbol.Symbol.TheVariants as sym
use Rattle.syntax.specs.Tokens.{Token}
use Rattle.syntax.specs.Trees.{plus, minus, times, over, percent, integer, letter, Expr, positive, negative, Terms, no_terms, and_term, Term, product, Factors, no_factors, and_factor, Factor, value, call, literal, new, parenthesis, Designator, whole, element, Arguments, no_arguments, arguments, More, no_more, and_argument}
use Rattle.syntax.specs.Spelling as spelling
use Rattle.syntax.proofs.Fronts.{a_name, front, is_front, begins_expr}
use Rattle.syntax.proofs.Parser.{took, Parse, p_e, p_ts, p_t, p_fs, p_f, p_d, p_as, p_more}

-- tokens as they are
abbrev pub keep : ℕ → Token → Token
keep n t = t

-- with enough depth, p reads x off what it is spelt as, whatever follows, if that may follow
pub record Reads {A : Type 0} (p : ℕ → Parse A) (spelt : List Token) (x : A) (Follow : List Token → Type 0) : Type 0 where
  pub need : ℕ
  pub reads : (n : ℕ) (us : List Token) → need ≤ n → Follow us → p n (spelt ++ us) ≡ took x us

-- p needs one level more than those that it calls, one level deeper
pub deeper :
    {A : Type 0} {p : ℕ → Parse A} {spelt : List Token} {x : A} {Follow : List Token → Type 0} (k : ℕ) →
    ((m : ℕ) (us : List Token) → k ≤ m → Follow us → p (suc m) (spelt ++ us) ≡ took x us) → Reads p spelt x Follow
deeper {p = p} {spelt = spelt} {x = x} {Follow = Follow} k h = record { need = suc k; reads = go }
  where
    go : (n : ℕ) (us : List Token) → suc k ≤ n → Follow us → p n (spelt ++ us) ≡ took x us
    go zero us l f = absurd (omega arith)
    go (suc m) us l f = h m us (omega arith) f

abbrev pub Not : Symbol → List Token → Type 0
Not s us = is_front s us ≡ false

-- what may follow a factor, a term and an expression
abbrev pub AfterFactor : List Token → Type 0
AfterFactor us = Not sym.OpenParenthesis us × Not sym.OpenBracket us

abbrev pub AfterTerm : List Token → Type 0
AfterTerm us = AfterFactor us × Not sym.Times us × Not sym.Over us × Not sym.Percent us

abbrev pub AfterExpr : List Token → Type 0
AfterExpr us = AfterTerm us × Not sym.Plus us × Not sym.Minus us

abbrev pub Closes : List Token → Type 0
Closes us = is_front sym.CloseParenthesis us ≡ true

after_terms : (ts : Terms) (l : ℕ) (us : List Token) → AfterExpr us → AfterTerm (spelling.terms keep ts l ++ us)
after_terms no_terms l us f = f.0
after_terms (and_term plus p t ts) l us f = assumption refl
after_terms (and_term minus p t ts) l us f = assumption refl

after_factors : (fs : Factors) (l : ℕ) (us : List Token) → AfterTerm us → AfterFactor (spelling.factors keep fs l ++ us)
after_factors no_factors l us f = f.0
after_factors (and_factor times p t ts) l us f = (refl, refl)
after_factors (and_factor over p t ts) l us f = (refl, refl)
after_factors (and_factor percent p t ts) l us f = (refl, refl)

-- what expressions begin with
pub front_designator : (d : Designator) (l o : ℕ) (us : List Token) → front (spelling.designator keep d l o ++ us) ≡ a_name
front_designator (whole x) l o us = refl
front_designator (element x p e q) l o us = refl

-- no factor begins with a minus
starts_factor : (f : Factor) (l o : ℕ) (us : List Token) → (begins_expr (front (spelling.factor keep f l o ++ us)) ≡ true) × Not sym.Minus (spelling.factor keep f l o ++ us)
starts_factor (value (whole x)) l o us = (refl, refl)
starts_factor (call (whole x) p xs q) l o us = (refl, refl)
starts_factor (literal (integer n p)) l o us = (refl, refl)
starts_factor f l o us = (refl, refl)

starts_term : (t : Term) (l o : ℕ) (us : List Token) → (begins_expr (front (spelling.term keep t l o ++ us)) ≡ true) × Not sym.Minus (spelling.term keep t l o ++ us)
starts_term (product f fs) l o us = rw append_assoc (starts_factor f l o (spelling.factors keep fs l ++ us))

pub starts_expr : (e : Expr) (l : ℕ) (us : List Token) → begins_expr (front (spelling.expr keep e l ++ us)) ≡ true
starts_expr (positive t ts) l us = rw append_assoc (starts_term t l l (spelling.terms keep ts l ++ us)).0
starts_expr (negative p t ts) l us = refl

-- what may follow a designator
abbrev pub AfterName : List Token → Type 0
AfterName us = Not sym.OpenBracket us

-- nothing that begins an expression is a closing parenthesis
not_closing : (us : List Token) → begins_expr (front us) ≡ true → Not sym.CloseParenthesis us
not_closing us b = grind (arith, nat_tests)

after_more : (m : More) (l : ℕ) (us : List Token) → Closes us → AfterExpr (spelling.more keep m l ++ us)
after_more no_more l us c = rw (eqb-true (front us) 32 c) (assumption refl)
after_more (and_argument p e m) l us c = assumption refl

mutual
  pub reads_e : (e : Expr) (l : ℕ) → Reads p_e (spelling.expr keep e l) e AfterExpr
  reads_e (positive t ts) l =
      let r = reads_t t l l in
      let s = reads_ts ts l in
      deeper (max r.need s.need) (λ m us h f.
      let a = r.reads m (spelling.terms keep ts l ++ us) (omega arith) (after_terms ts l us f) in
      let b = s.reads m us (omega arith) f in
      let c = (starts_term t l l (spelling.terms keep ts l ++ us)).1 in
      rw (append_assoc, c, a, b) refl)
  reads_e (negative p t ts) l =
      let r = reads_t t l 0 in
      let s = reads_ts ts l in
      deeper (max r.need s.need) (λ m us h f.
      let a = r.reads m (spelling.terms keep ts l ++ us) (omega arith) (after_terms ts l us f) in
      let b = s.reads m us (omega arith) f in
      rw (append_assoc, a, b) refl)

  pub reads_ts : (ts : Terms) (l : ℕ) → Reads p_ts (spelling.terms keep ts l) ts AfterExpr
  reads_ts no_terms l = deeper 0 (λ m us h f. rw (f.1, f.2) refl)
  reads_ts (and_term o p t ts) l =
      let r = reads_t t l 0 in
      let s = reads_ts ts l in
      deeper (max r.need s.need) (λ m us h f.
      let a = r.reads m (spelling.terms keep ts l ++ us) (omega arith) (after_terms ts l us f) in
      let b = s.reads m us (omega arith) f in
      elim o as (λ o. p_ts (suc m) (spelling.terms keep (and_term o p t ts) l ++ us) ≡ took (and_term o p t ts) us)
      [ plus ↦ rw (append_assoc, a, b) refl | minus ↦ rw (append_assoc, a, b) refl ])

  pub reads_t : (t : Term) (l o : ℕ) → Reads p_t (spelling.term keep t l o) t AfterTerm
  reads_t (product g fs) l o =
      let r = reads_f g l o in
      let s = reads_fs fs l in
      deeper (max r.need s.need) (λ m us h f.
      let a = r.reads m (spelling.factors keep fs l ++ us) (omega arith) (after_factors fs l us f) in
      let b = s.reads m us (omega arith) f in
      rw (append_assoc, a, b) refl)

  pub reads_fs : (fs : Factors) (l : ℕ) → Reads p_fs (spelling.factors keep fs l) fs AfterTerm
  reads_fs no_factors l = deeper 0 (λ m us h f. rw (f.1, f.2, f.3) refl)
  reads_fs (and_factor o p g fs) l =
      let r = reads_f g l 0 in
      let s = reads_fs fs l in
      deeper (max r.need s.need) (λ m us h f.
      let a = r.reads m (spelling.factors keep fs l ++ us) (omega arith) (after_factors fs l us f) in
      let b = s.reads m us (omega arith) f in
      elim o as (λ o. p_fs (suc m) (spelling.factors keep (and_factor o p g fs) l ++ us) ≡ took (and_factor o p g fs) us)
      [ times ↦ rw (append_assoc, a, b) refl | over ↦ rw (append_assoc, a, b) refl | percent ↦ rw (append_assoc, a, b) refl ])

  pub reads_f : (f : Factor) (l o : ℕ) → Reads p_f (spelling.factor keep f l o) f AfterFactor
  reads_f (value d) l o =
      let r = reads_d d l o in
      deeper r.need (λ m us h f.
      let a = r.reads m us (omega arith) f.1 in
      let c = front_designator d l o us in
      rw (c, a, f.0) refl)
  reads_f (call d p xs q) l o =
      let r = reads_d d l o in
      let s = reads_as xs l in
      deeper (max r.need s.need) (λ m us h f.
      let rest = spelling.sign keep 0 sym.OpenParenthesis p ∷ (spelling.argument_list keep xs l ++ spelling.sign keep 0 sym.CloseParenthesis q ∷ us) in
      let e : spelling.factor keep (call d p xs q) l o ++ us ≡ spelling.designator keep d l o ++ rest = simp append_assoc in
      let a = r.reads m rest (omega arith) refl in
      let b = s.reads m (spelling.sign keep 0 sym.CloseParenthesis q ∷ us) (omega arith) refl in
      let c = front_designator d l o rest in
      rw (e, c, a, b) refl)
  reads_f (literal (integer k p)) l o = deeper 0 (λ m us h f. refl)
  reads_f (literal (letter k p)) l o = deeper 0 (λ m us h f. refl)
  reads_f (new p x q e r) l o =
      let s = reads_e e (suc l) in
      deeper s.need (λ m us h f.
      let a = s.reads m (spelling.sign keep 0 sym.CloseBracket r ∷ us) (omega arith) (assumption refl) in
      rw (append_assoc, a) refl)
  reads_f (parenthesis p e q) l o =
      let s = reads_e e (suc l) in
      deeper s.need (λ m us h f.
      let a = s.reads m (spelling.sign keep 0 sym.CloseParenthesis q ∷ us) (omega arith) (assumption refl) in
      rw (append_assoc, a) refl)

  pub reads_d : (d : Designator) (l o : ℕ) → Reads p_d (spelling.designator keep d l o) d AfterName
  reads_d (whole x) l o = deeper 0 (λ m us h f. rw f refl)
  reads_d (element x p e q) l o =
      let s = reads_e e (suc l) in
      deeper s.need (λ m us h f.
      let a = s.reads m (spelling.sign keep 0 sym.CloseBracket q ∷ us) (omega arith) (assumption refl) in
      rw (append_assoc, a) refl)

  pub reads_as : (xs : Arguments) (l : ℕ) → Reads p_as (spelling.argument_list keep xs l) xs Closes
  reads_as no_arguments l = deeper 0 (λ m us h f. rw f refl)
  reads_as (arguments e m) l =
      let r = reads_e e (suc l) in
      let s = reads_more m l in
      deeper (max r.need s.need) (λ k us h f.
      let a = r.reads k (spelling.more keep m l ++ us) (omega arith) (after_more m l us f) in
      let b = s.reads k us (omega arith) f in
      let c = not_closing (spelling.expr keep e (suc l) ++ (spelling.more keep m l ++ us)) (starts_expr e (suc l) (spelling.more keep m l ++ us)) in
      rw (append_assoc, c, a, b) refl)

  pub reads_more : (m : More) (l : ℕ) → Reads p_more (spelling.more keep m l) m Closes
  reads_more no_more l = deeper 0 (λ k us h f. rw (eqb-true (front us) 32 f) refl)
  reads_more (and_argument p e m) l =
      let r = reads_e e (suc l) in
      let s = reads_more m l in
      deeper (max r.need s.need) (λ k us h f.
      let a = r.reads k (spelling.more keep m l ++ us) (omega arith) (after_more m l us f) in
      let b = s.reads k us (omega arith) f in
      rw (append_assoc, a, b) refl)
