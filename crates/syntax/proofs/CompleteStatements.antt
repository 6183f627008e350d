-- The parser reads back what a tree spells: conditions and statements.
use Rattle.std.proofs.Common.{◌≡◌, ℕ, suc, ◌≤◌, max, true, false, ◌&&◌, List, ◌∷◌, ◌++◌, refl, append_assoc, arith}
use Rattle.std.proofs.lemmas.Bool.{eqb-true, both_ways, and_parts}
use Rattle.std.proofs.lemmas.Bool.Decides.{nat_tests}
use Rattle.words.specs.declared.arithmetic.Relation.{Relation}
use Rattle.words.specs.declared.arithmetic.Relation.TheVariants as relation
use Rattle.syntax.specs.declared.symbol.Symbol.TheVariants as sym
use Rattle.syntax.specs.Tokens.{number, Token, token}
use Rattle.syntax.specs.Trees.{At, Addop, plus, minus, whole, Comparison, Conjunction, single, both, Condition, only, either, Statement, assign, invoke, step, when, choose, while, break, return, give, read, print, print_wide, block, empty, Statements, none, and_then, closed, nearest, nearest_all}
use Rattle.syntax.specs.Spelling as spelling
use Rattle.syntax.proofs.Fronts.{front, is_front, begins_expr, begins_statement}
use Rattle.syntax.proofs.Parser.{took, p_relation, p_comparison, p_conjunction, p_condition, p_behind, p_s, p_ss}
use Rattle.syntax.proofs.Complete.{keep, Reads, deeper, Not, AfterExpr, starts_expr, front_designator, reads_e, reads_d, reads_as}

relop_read : (o : Relation) (p : At) (us : List Token) → p_relation (spelling.sign keep 0 (spelling.relop o) p ∷ us) ≡ took o (spelling.sign keep 0 (spelling.relop o) p ∷ us)
relop_read relation.Equal p us = refl
relop_read o p us = refl

-- an expression ends before a relation
relop_ends : (o : Relation) (p : At) (us : List Token) → AfterExpr (spelling.sign keep 0 (spelling.relop o) p ∷ us)
relop_ends relation.Equal p us = assumption refl
relop_ends o p us = assumption refl

reads_comparison : (c : Comparison) (l : ℕ) → Reads p_comparison (spelling.comparison keep c l) c AfterExpr
reads_comparison c l =
    let r = reads_e c.left l in
    let s = reads_e c.right l in
    record {
      need = max r.need s.need;
      reads = λ n us h f.
          let t = spelling.expr keep c.right l ++ us in
          let a = r.reads n (spelling.sign keep 0 (spelling.relop c.relation) c.relation_at ∷ t) (omega arith) (relop_ends c.relation c.relation_at t) in
          let b = s.reads n us (omega arith) f in
          let d = relop_read c.relation c.relation_at t in
          rw (append_assoc, a, d, b) refl;
    }

abbrev AfterConjunction : List Token → Type 0
AfterConjunction us = AfterExpr us × Not sym.And us

abbrev AfterCondition : List Token → Type 0
AfterCondition us = AfterConjunction us × Not sym.Or us

reads_conjunction : (k : Conjunction) (l : ℕ) → Reads p_conjunction (spelling.conjunction keep k l) k AfterConjunction
reads_conjunction (single c) l = deeper (reads_comparison c l).need (λ m us h f.
    let a = (reads_comparison c l).reads m us (omega arith) f.0 in
    rw (a, f.1) refl)
reads_conjunction (both c p k) l =
    let r = reads_comparison c l in
    let s = reads_conjunction k l in
    deeper (max r.need s.need) (λ m us h f.
    let t = spelling.sign keep 0 sym.And p ∷ (spelling.conjunction keep k l ++ us) in
    let e : spelling.conjunction keep (both c p k) l ++ us ≡ spelling.comparison keep c l ++ t = simp append_assoc in
    let a = r.reads m t (omega arith) (assumption refl) in
    let b = s.reads m us (omega arith) f in
    rw (e, a, b) refl)

reads_condition : (c : Condition) (l : ℕ) → Reads p_condition (spelling.condition keep c l) c AfterCondition
reads_condition (only k) l = deeper (reads_conjunction k l).need (λ m us h f.
    let a = (reads_conjunction k l).reads m us (omega arith) f.0 in
    rw (a, f.1) refl)
reads_condition (either k p c) l =
    let r = reads_conjunction k l in
    let s = reads_condition c l in
    deeper (max r.need s.need) (λ m us h f.
    let t = spelling.sign keep 0 sym.Or p ∷ (spelling.condition keep c l ++ us) in
    let e : spelling.condition keep (either k p c) l ++ us ≡ spelling.conjunction keep k l ++ t = simp append_assoc in
    let a = r.reads m t (omega arith) (assumption refl) in
    let b = s.reads m us (omega arith) f in
    rw (e, a, b) refl)

-- what statements begin with
starts_statement : (s : Statement) (l : ℕ) (us : List Token) → begins_statement (front (spelling.statement keep s l ++ us)) ≡ true
starts_statement (assign (whole x) p e q) l us = refl
starts_statement (invoke (whole x) p xs q r) l us = refl
starts_statement (step (whole x) o p q) l us = refl
starts_statement s l us = refl

-- an open `if` is not followed by an `else`
abbrev pub ElseFree : Statement → List Token → Type 0
ElseFree s us = closed s ≡ false → Not sym.Else us

abbrev pub ClosesBlock : List Token → Type 0
ClosesBlock us = is_front sym.CloseBrace us ≡ true

statement_no_else : (us : List Token) → begins_statement (front us) ≡ true → Not sym.Else us × Not sym.CloseBrace us
statement_no_else us b = (grind (arith, nat_tests), grind (arith, nat_tests))

abbrev semi : At → List Token → List Token
semi q us = spelling.sign keep 0 sym.Semicolon q ∷ us

-- a designator ends before `++` and `--`
doubled_ends : (o : Addop) (p : At) (us : List Token) → Not sym.OpenBracket (spelling.sign keep 0 (spelling.doubled o) p ∷ us)
doubled_ends plus p us = refl
doubled_ends minus p us = refl

-- the condition of an `if` or `while`, with the parenthesis behind it
head_reads :
    (c : Condition) (r : At) (l m : ℕ) (us : List Token) → (reads_condition c l).need ≤ m →
    p_condition m (spelling.condition keep c l ++ spelling.sign keep 0 sym.CloseParenthesis r ∷ us) ≡ took c (spelling.sign keep 0 sym.CloseParenthesis r ∷ us)
head_reads c r l m us h = (reads_condition c l).reads m (spelling.sign keep 0 sym.CloseParenthesis r ∷ us) h (assumption refl)

not_semi : (us : List Token) → begins_expr (front us) ≡ true → Not sym.Semicolon us
not_semi us b = grind (arith, nat_tests)

no_else_behind : (ss : Statements) (l : ℕ) (us : List Token) → ClosesBlock us → Not sym.Else (spelling.statements keep ss l ++ us)
no_else_behind none l us c = rw (eqb-true (front us) 36 c) refl
no_else_behind (and_then s ss) l us c = rw append_assoc (statement_no_else (spelling.statement keep s l ++ (spelling.statements keep ss l ++ us)) (starts_statement s l (spelling.statements keep ss l ++ us))).0

mutual
  pub reads_statement : (s : Statement) (l : ℕ) → nearest s ≡ true → Reads p_s (spelling.statement keep s l) s (ElseFree s)
  reads_statement (assign d p e q) l n = deeper (max (reads_d d l l).need (reads_e e l).need) (λ m us h f.
      let t = spelling.sign keep 0 sym.Assign p ∷ (spelling.expr keep e l ++ semi q us) in
      let w : spelling.statement keep (assign d p e q) l ++ us ≡ spelling.designator keep d l l ++ t = simp append_assoc in
      let a = (reads_d d l l).reads m t (omega arith) refl in
      let b = (reads_e e l).reads m (semi q us) (omega arith) (assumption refl) in
      let c = front_designator d l l t in
      rw (w, c, a, b) refl)
  reads_statement (invoke d p xs q r) l n = deeper (max (reads_d d l l).need (reads_as xs l).need) (λ m us h f.
      let z = spelling.sign keep 0 sym.CloseParenthesis q ∷ semi r us in
      let t = spelling.sign keep 0 sym.OpenParenthesis p ∷ (spelling.argument_list keep xs l ++ z) in
      let w : spelling.statement keep (invoke d p xs q r) l ++ us ≡ spelling.designator keep d l l ++ t = simp append_assoc in
      let a = (reads_d d l l).reads m t (omega arith) refl in
      let b = (reads_as xs l).reads m z (omega arith) refl in
      let c = front_designator d l l t in
      rw (w, c, a, b) refl)
  reads_statement (step d o p q) l n = deeper (reads_d d l l).need (λ m us h f.
      let t = spelling.sign keep 0 (spelling.doubled o) p ∷ semi q us in
      let w : spelling.statement keep (step d o p q) l ++ us ≡ spelling.designator keep d l l ++ t = simp append_assoc in
      let a = (reads_d d l l).reads m t (omega arith) (doubled_ends o p (semi q us)) in
      let c = front_designator d l l t in
      rw (w, c, a) (elim o as (λ o. p_behind m d (spelling.sign keep 0 (spelling.doubled o) p ∷ semi q us) ≡ took (step d o p q) us) [ plus ↦ refl | minus ↦ refl ]))
  reads_statement (when p q c r s) l n =
      let x = reads_statement s (suc l) n in
      deeper (max (reads_condition c l).need x.need) (λ m us h f.
      let a = head_reads c r l m (spelling.statement keep s (suc l) ++ us) (omega arith) in
      let b = x.reads m us (omega arith) (λ _. f refl) in
      let g = f refl in
      simp append_assoc (rw (a, b, g) refl))
  reads_statement (choose p q c r s y t) l n =
      let k = and_parts (closed s) (nearest s && nearest t) n in
      let i = and_parts (nearest s) (nearest t) k.1 in
      let x = reads_statement s (suc l) i.0 in
      let z = reads_statement t (suc l) i.1 in
      deeper (max (reads_condition c l).need (max x.need z.need)) (λ m us h f.
      let v = spelling.sign keep 0 sym.Else y ∷ (spelling.statement keep t (suc l) ++ us) in
      let a = head_reads c r l m (spelling.statement keep s (suc l) ++ v) (omega arith) in
      let b = x.reads m v (omega arith) (λ e. absurd (both_ways _ e k.0)) in
      let d = z.reads m us (omega arith) f in
      simp append_assoc (rw (a, b, d) refl))
  reads_statement (while p q c r s) l n =
      let x = reads_statement s (suc l) n in
      deeper (max (reads_condition c l).need x.need) (λ m us h f.
      let a = head_reads c r l m (spelling.statement keep s (suc l) ++ us) (omega arith) in
      let b = x.reads m us (omega arith) f in
      simp append_assoc (rw (a, b) refl))
  reads_statement (break p q) l n = deeper 0 (λ m us h f. refl)
  reads_statement (return p q) l n = deeper 0 (λ m us h f. refl)
  reads_statement (give p e q) l n = deeper (reads_e e l).need (λ m us h f.
      let a = (reads_e e l).reads m (semi q us) (omega arith) (assumption refl) in
      let c = not_semi (spelling.expr keep e l ++ semi q us) (starts_expr e l (semi q us)) in
      rw (append_assoc, c, a) refl)
  reads_statement (read p q d r s) l n = deeper (reads_d d l 0).need (λ m us h f.
      let a = (reads_d d l 0).reads m (spelling.sign keep 0 sym.CloseParenthesis r ∷ semi s us) (omega arith) refl in
      rw (append_assoc, a) refl)
  reads_statement (print p q e r s) l n = deeper (reads_e e l).need (λ m us h f.
      let a = (reads_e e l).reads m (spelling.sign keep 0 sym.CloseParenthesis r ∷ semi s us) (omega arith) (assumption refl) in
      rw (append_assoc, a) refl)
  reads_statement (print_wide p q e r w s t u) l n = deeper (reads_e e l).need (λ m us h f.
      let a = (reads_e e l).reads m (spelling.sign keep 0 sym.Comma r ∷ (token (number w) s ∷ (spelling.sign keep 0 sym.CloseParenthesis t ∷ semi u us))) (omega arith) (assumption refl) in
      rw (append_assoc, a) refl)
  reads_statement (block p ss q) l n =
      let x = reads_statements ss (suc l) n in
      deeper x.need (λ m us h f.
      let a = x.reads m (spelling.sign keep 0 sym.CloseBrace q ∷ us) (omega arith) refl in
      rw (append_assoc, a) refl)
  reads_statement (empty p) l n = deeper 0 (λ m us h f. refl)

  pub reads_statements : (ss : Statements) (l : ℕ) → nearest_all ss ≡ true → Reads p_ss (spelling.statements keep ss l) ss ClosesBlock
  reads_statements none l n = deeper 0 (λ m us h f. rw f refl)
  reads_statements (and_then s ss) l n =
      let i = and_parts (nearest s) (nearest_all ss) n in
      let x = reads_statement s l i.0 in
      let z = reads_statements ss l i.1 in
      deeper (max x.need z.need) (λ m us h f.
      let v = spelling.statements keep ss l ++ us in
      let a = x.reads m v (omega arith) (λ _. no_else_behind ss l us f) in
      let b = z.reads m us (omega arith) f in
      let c = (statement_no_else (spelling.statement keep s l ++ v) (starts_statement s l v)).1 in
      rw (append_assoc, c, a, b) refl)
