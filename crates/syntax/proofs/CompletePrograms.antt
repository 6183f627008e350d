-- The parser reads back what a tree spells: declarations, methods and programs. So no two trees spell the same tokens.
use Rattle.std.proofs.Common.{◌≡◌, ℕ, suc, ◌≤◌, max, true, List, [], ◌∷◌, ◌++◌, sym, refl, ap, ◌∙◌, append_assoc, arith}
use Rattle.std.proofs.lemmas.Bool.{eqb-true, and_parts}
use Rattle.syntax.specs.declared.symbol.Symbol.TheVariants as sym
use Rattle.syntax.specs.Tokens.{Token}
use Rattle.syntax.specs.Trees.{At, integer, letter, Statements, Declared, scalar, array, Declareds, last, and, Variables, Declaration, constant, variables, Parameter, Parameters, no_parameters, parameters, ResultType, void, typed, Method, Program, nearest_all, nearest_in}
use Rattle.syntax.specs.Spelling as spelling
use Rattle.syntax.specs.Reading.{OneReading}
use Rattle.syntax.proofs.Fronts.{front, is_front}
use Rattle.syntax.proofs.Parser.{took, p_declared, p_declareds, p_declarations, p_locals, p_others, p_parameters, p_result, p_method, p_methods, p_program, p_ss}
use Rattle.syntax.proofs.Complete.{keep, Reads, deeper, Not, Closes}
use Rattle.syntax.proofs.CompleteStatements.{ClosesBlock, reads_statements}

-- what may follow a name and its brackets
declared_reads : (d : Declared) (us : List Token) → Not sym.OpenBracket us → p_declared (spelling.declared keep d ++ us) ≡ took d us
declared_reads (scalar x) us f = rw f refl
declared_reads (array x p q) us f = refl

abbrev AfterDeclareds : List Token → Type 0
AfterDeclareds us = Not sym.OpenBracket us × Not sym.Comma us

reads_declareds : (ds : Declareds) → Reads p_declareds (spelling.declareds keep ds) ds AfterDeclareds
reads_declareds (last d) = deeper 0 (λ m us h f.
    let a = declared_reads d us f.0 in
    rw (a, f.1) refl)
reads_declareds (and d p ds) =
    let r = reads_declareds ds in
    deeper r.need (λ m us h f.
    let t = spelling.sign keep 0 sym.Comma p ∷ (spelling.declareds keep ds ++ us) in
    let w : spelling.declareds keep (and d p ds) ++ us ≡ spelling.declared keep d ++ t = simp append_assoc in
    let a = declared_reads d t refl in
    let b = r.reads m us (omega arith) f in
    rw (w, a, b) refl)

-- the names of a declaration and the semicolon behind them
names_read : (v : Variables) (n : ℕ) (us : List Token) → (reads_declareds v.declared).need ≤ n → p_declareds n (spelling.declareds keep v.declared ++ spelling.sign keep 0 sym.Semicolon v.semicolon ∷ us) ≡ took v.declared (spelling.sign keep 0 sym.Semicolon v.semicolon ∷ us)
names_read v n us h = (reads_declareds v.declared).reads n (spelling.sign keep 0 sym.Semicolon v.semicolon ∷ us) h (refl, refl)

abbrev AfterDeclarations : List Token → Type 0
AfterDeclarations us = is_front sym.OpenBrace us ≡ true

reads_declarations : (ds : List Declaration) → Reads p_declarations (spelling.declarations keep ds) ds AfterDeclarations
reads_declarations [] = deeper 0 (λ m us h f. rw (eqb-true (front us) 35 f) refl)
reads_declarations (constant p x y q (integer k t) r ∷ ds) = let s = reads_declarations ds in deeper s.need (λ m us h f. let b = s.reads m us (omega arith) f in rw b refl)
reads_declarations (constant p x y q (letter k t) r ∷ ds) = let s = reads_declarations ds in deeper s.need (λ m us h f. let b = s.reads m us (omega arith) f in rw b refl)
reads_declarations (variables v ∷ ds) =
    let s = reads_declarations ds in
    deeper (max (reads_declareds v.declared).need s.need) (λ m us h f.
    let a = names_read v m (spelling.declarations keep ds ++ us) (omega arith) in
    let b = s.reads m us (omega arith) f in
    simp append_assoc (rw (a, b) refl))

reads_locals : (vs : List Variables) → Reads p_locals (spelling.local_variables keep vs) vs AfterDeclarations
reads_locals [] = deeper 0 (λ m us h f. rw (eqb-true (front us) 35 f) refl)
reads_locals (v ∷ vs) =
    let s = reads_locals vs in
    deeper (max (reads_declareds v.declared).need s.need) (λ m us h f.
    let a = names_read v m (spelling.local_variables keep vs ++ us) (omega arith) in
    let b = s.reads m us (omega arith) f in
    simp append_assoc (rw (a, b) refl))

no_bracket : (xs : List (At × Parameter)) (us : List Token) → Closes us → Not sym.OpenBracket (spelling.other_parameters keep xs ++ us)
no_bracket [] us f = rw (eqb-true (front us) 32 f) refl
no_bracket (x ∷ xs) us f = refl

reads_others : (xs : List (At × Parameter)) → Reads p_others (spelling.other_parameters keep xs) xs Closes
reads_others [] = deeper 0 (λ m us h f. rw (eqb-true (front us) 32 f) refl)
reads_others (x ∷ xs) =
    let s = reads_others xs in
    deeper s.need (λ m us h f.
    let w = append_assoc (spelling.declared keep x.1.declared) (spelling.other_parameters keep xs) us in
    let a = declared_reads x.1.declared (spelling.other_parameters keep xs ++ us) (no_bracket xs us f) in
    let b = s.reads m us (omega arith) f in
    rw (w, a, b) refl)

reads_parameters : (xs : Parameters) → Reads p_parameters (spelling.parameter_list keep xs) xs Closes
reads_parameters no_parameters = record { need = 0; reads = λ n us h f. rw (eqb-true (front us) 32 f) refl }
reads_parameters (parameters x xs) = record {
  need = (reads_others xs).need;
  reads = λ n us h f.
      let w = append_assoc (spelling.declared keep x.declared) (spelling.other_parameters keep xs) us in
      let a = declared_reads x.declared (spelling.other_parameters keep xs ++ us) (no_bracket xs us f) in
      let b = (reads_others xs).reads n us h f in
      rw (w, a, b) refl;
}

result_reads : (r : ResultType) (us : List Token) → p_result (spelling.result_type keep r ∷ us) ≡ took r us
result_reads (void p) us = refl
result_reads (typed x) us = refl

result_no_brace : (r : ResultType) (us : List Token) → Not sym.CloseBrace (spelling.result_type keep r ∷ us)
result_no_brace (void p) us = refl
result_no_brace (typed x) us = refl

abbrev ReadsBody : Statements → Type 0
ReadsBody ss = Reads p_ss (spelling.statements keep ss 1) ss ClosesBlock

abbrev method_need : Method → ℕ → ℕ
method_need m body = max (reads_parameters m.takes).need (max (reads_locals m.locals).need body)

-- what stands behind the parameters of a method, and behind its locals
abbrev behind_locals : Method → List Token → List Token
behind_locals m us = spelling.sign keep 0 sym.OpenBrace m.begins ∷ (spelling.statements keep m.body 1 ++ spelling.sign keep 0 sym.CloseBrace m.ends ∷ us)

abbrev behind_parameters : Method → List Token → List Token
behind_parameters m us = spelling.sign keep 0 sym.CloseParenthesis m.closes ∷ (spelling.local_variables keep m.locals ++ behind_locals m us)

method_reads : (m : Method) (b : ReadsBody m.body) (n : ℕ) (us : List Token) → method_need m b.need ≤ n → p_method n (spelling.method keep m ++ us) ≡ took m us
method_reads m b n us h =
    let r = result_reads m.result (spelling.named keep 0 m.name ∷ (spelling.sign keep 0 sym.OpenParenthesis m.opens ∷ (spelling.parameter_list keep m.takes ++ behind_parameters m us))) in
    let x = (reads_parameters m.takes).reads n (behind_parameters m us) (omega arith) refl in
    let y = (reads_locals m.locals).reads n (behind_locals m us) (omega arith) refl in
    let z = b.reads n (spelling.sign keep 0 sym.CloseBrace m.ends ∷ us) (omega arith) refl in
    simp append_assoc (rw (r, x, y, z) refl)

reads_methods : (xs : List Method) → nearest_in xs ≡ true → Reads p_methods (spelling.methods keep xs) xs ClosesBlock
reads_methods [] h = deeper 0 (λ m us l f. rw f refl)
reads_methods (x ∷ xs) h =
    let n = and_parts (nearest_all x.body) (nearest_in xs) h in
    let b = reads_statements x.body 1 n.0 in
    let s = reads_methods xs n.1 in
    deeper (max (method_need x b.need) s.need) (λ m us h f.
    let w = append_assoc (spelling.method keep x) (spelling.methods keep xs) us in
    let a = method_reads x b m (spelling.methods keep xs ++ us) (omega arith) in
    let c = s.reads m us (omega arith) f in
    let d = result_no_brace x.result in
    ap (p_methods (suc m)) w ∙ rw (a, d, c) refl)

-- the parser reads a program back
pub program_reads : (t : Program) → nearest_in t.methods ≡ true → Reads p_program (spelling.program keep t) t (λ us. Unit {0})
program_reads t h =
    let d = reads_declarations t.declarations in
    let s = reads_methods t.methods h in
    record {
      need = max d.need s.need;
      reads = λ n us k f.
          let z = spelling.sign keep 0 sym.CloseBrace t.ends ∷ us in
          let a = d.reads n (spelling.sign keep 0 sym.OpenBrace t.begins ∷ (spelling.methods keep t.methods ++ z)) (omega arith) refl in
          let b = s.reads n z (omega arith) refl in
          simp append_assoc (rw (a, b) refl);
    }

pub one_reading : OneReading
one_reading ts t u r s =
    let a = program_reads t r.else_nearest in
    let b = program_reads u s.else_nearest in
    let n = max a.need b.need in
    let x = a.reads n [] (omega arith) tt in
    let y = b.reads n [] (omega arith) tt in
    let e : spelling.program keep t ≡ spelling.program keep u = sym r.tokens ∙ s.tokens in
    cc
