-- The longest lexeme at the front of the bytes, computed.
use Rattle.std.proofs.Common.{◌≡◌, ℕ, suc, ◌≤◌, Bool, true, false, cond, eqb, List, [], ◌∷◌, length, take, Some, None, Option, refl, subst, arith}
use Rattle.std.proofs.lemmas.Bool.{eqb-true, and_parts}
use Rattle.syntax.specs.Lexemes.{is_letter, is_digit, is_name_part, is_blank, Class, blank, comment, namelike, numeric, quotation, operator, is, Lexeme, Longest, NoLexeme}
use Rattle.syntax.proofs.Classes.{by_first, empty_none}
use Rattle.syntax.proofs.Longest.{in_line, lexeme, Run, run_more, run_none, run_empty, name_longest, number_longest, blank_longest, comment_longest, operator_longest, operator_none, constant_longest, constant_none}

-- how many bytes pass the test before one does not; stops there, unlike a `cond`, whose parts are computed first
unfoldable pub front : (ℕ → Bool) → List ℕ → ℕ
front test [] = 0
front test (b ∷ bs) = elim (test b) [ true ↦ suc (front test bs) | false ↦ 0 ]

front_run : (test : ℕ → Bool) (bs : List ℕ) → Run test bs (front test bs)
unfolding front
front_run test [] = run_empty test
front_run test (b ∷ bs) = by (test b) refl (front_run test bs)
  where
    by : (t : Bool) → test b ≡ t → Run test bs (front test bs) → Run test (b ∷ bs) (elim t [ true ↦ suc (front test bs) | false ↦ 0 ])
    by true e r = run_more test b bs _ e r
    by false e r = run_none test b bs e

-- a character constant of three bytes, or of four, or none
unfoldable pub constant_at : Bool → Bool → Option Lexeme
constant_at true four = Some (lexeme quotation 3)
constant_at false true = Some (lexeme quotation 4)
constant_at false false = None

-- a comment, an operator of two bytes, one of one byte, or none
unfoldable pub operator_at : Bool → Bool → Bool → List ℕ → Option Lexeme
operator_at true two one bs = Some (lexeme comment (suc (suc (front in_line bs))))
operator_at false true one bs = Some (lexeme operator 2)
operator_at false false true bs = Some (lexeme operator 1)
operator_at false false false bs = None

unfoldable pub quote_at : List ℕ → Option Lexeme
quote_at [] = None
quote_at (a ∷ []) = None
quote_at (a ∷ b ∷ []) = None
quote_at (a ∷ b ∷ c ∷ []) = constant_at (is quotation (a ∷ b ∷ c ∷ [])) false
quote_at (a ∷ b ∷ c ∷ d ∷ bs) = constant_at (is quotation (a ∷ b ∷ c ∷ [])) (is quotation (a ∷ b ∷ c ∷ d ∷ []))

unfoldable pub sign_at : List ℕ → Option Lexeme
sign_at [] = None
sign_at (a ∷ []) = operator_at false false (is operator (a ∷ [])) []
sign_at (a ∷ b ∷ bs) = operator_at (is comment (a ∷ b ∷ [])) (is operator (a ∷ b ∷ [])) (is operator (a ∷ [])) bs

unfoldable pub best_of : Class → ℕ → List ℕ → Option Lexeme
best_of blank b bs = Some (lexeme blank 1)
best_of comment b bs = None
best_of namelike b bs = Some (lexeme namelike (suc (front is_name_part bs)))
best_of numeric b bs = Some (lexeme numeric (suc (front is_digit bs)))
best_of quotation b bs = quote_at (b ∷ bs)
best_of operator b bs = sign_at (b ∷ bs)

-- the longest lexeme that the bytes begin with
unfoldable pub best : List ℕ → Option Lexeme
best [] = None
best (b ∷ bs) = best_of (by_first b) b bs

-- what an answer says of the bytes
abbrev Found : List ℕ → Option Lexeme → Type 0
Found bs None = NoLexeme bs
Found bs (Some l) = Longest bs l

constant_found :
    (t u : Bool) (b : ℕ) (bs : List ℕ) → eqb b 39 ≡ true → 3 ≤ length (b ∷ bs) → is quotation (take 3 (b ∷ bs)) ≡ t →
    (u ≡ true → 4 ≤ length (b ∷ bs)) → (4 ≤ length (b ∷ bs) → is quotation (take 4 (b ∷ bs)) ≡ u) → Found (b ∷ bs) (constant_at t u)
unfolding constant_at
constant_found true u b bs q l h f i = constant_longest b bs 3 q l h
constant_found false true b bs q l h f i = constant_longest b bs 4 q (f refl) (i (f refl))
constant_found false false b bs q l h f i = constant_none b bs q (λ _. h) i

quote_found : (b : ℕ) (bs : List ℕ) → eqb b 39 ≡ true → Found (b ∷ bs) (quote_at (b ∷ bs))
unfolding quote_at
quote_found b [] q = constant_none b [] q (λ l. absurd (omega arith)) (λ l. absurd (omega arith))
quote_found b (c ∷ []) q = constant_none b (c ∷ []) q (λ l. absurd (omega arith)) (λ l. absurd (omega arith))
quote_found b (c ∷ d ∷ []) q = constant_found _ false b (c ∷ d ∷ []) q (omega arith) refl (λ h. absurd cc) (λ l. absurd (omega arith))
quote_found b (c ∷ d ∷ e ∷ bs) q = constant_found _ _ b (c ∷ d ∷ e ∷ bs) q (omega arith) refl (λ h. omega arith) (λ l. refl)

slashes_found : (a b : ℕ) (bs : List ℕ) → is comment (a ∷ b ∷ []) ≡ true → Longest (a ∷ b ∷ bs) (lexeme comment (suc (suc (front in_line bs))))
slashes_found a b bs h =
    let first : a ≡ 47 = eqb-true a 47 (and_parts _ _ (and_parts _ _ h).0).0 in
    let second : b ≡ 47 = eqb-true b 47 (and_parts _ _ (and_parts _ _ h).0).1 in
    rw (first, second) (comment_longest bs _ (front_run in_line bs))

operator_found :
    (t u v : Bool) (a b : ℕ) (bs : List ℕ) → by_first a ≡ operator → is comment (a ∷ b ∷ []) ≡ t → is operator (a ∷ b ∷ []) ≡ u → is operator (a ∷ []) ≡ v →
    Found (a ∷ b ∷ bs) (operator_at t u v bs)
unfolding operator_at
operator_found true u v a b bs o s two one = slashes_found a b bs s
operator_found false true v a b bs o s two one = operator_longest a (b ∷ bs) 2 o s (omega arith) two (λ l. absurd (omega arith)) (omega arith)
operator_found false false true a b bs o s two one = operator_longest a (b ∷ bs) 1 o s (omega arith) one (λ l g. two) (omega arith)
operator_found false false false a b bs o s two one = operator_none a (b ∷ bs) o s one (λ g. two)

single_found : (v : Bool) (a : ℕ) → by_first a ≡ operator → is operator (a ∷ []) ≡ v → Found (a ∷ []) (operator_at false false v [])
unfolding operator_at
single_found true a o h = operator_longest a [] 1 o refl (omega arith) h (λ l g. absurd (omega arith)) (omega arith)
single_found false a o h = operator_none a [] o refl h (λ g. absurd (omega arith))

sign_found : (b : ℕ) (bs : List ℕ) → by_first b ≡ operator → Found (b ∷ bs) (sign_at (b ∷ bs))
unfolding sign_at
sign_found a [] o = single_found _ a o refl
sign_found a (b ∷ bs) o = operator_found _ _ _ a b bs o refl refl refl

-- the tests in the order in which `by_first` makes them
first_found :
    (l d s q : Bool) (b : ℕ) (bs : List ℕ) → is_letter b ≡ l → is_digit b ≡ d → is_blank b ≡ s → eqb b 39 ≡ q →
    Found (b ∷ bs) (best_of (cond l namelike (cond d numeric (cond s blank (cond q quotation operator)))) b bs)
unfolding best_of
first_found true d s q b bs hl hd hs hq = name_longest b bs _ hl (front_run is_name_part bs)
first_found false true s q b bs hl hd hs hq = number_longest b bs _ hd (front_run is_digit bs)
first_found false false true q b bs hl hd hs hq = blank_longest b bs hs
first_found false false false true b bs hl hd hs hq = quote_found b bs hq
first_found false false false false b bs hl hd hs hq = sign_found b bs (rw (hl, hd, hs, hq) refl)

best_found : (bs : List ℕ) → Found bs (best bs)
unfolding best
best_found [] = empty_none
best_found (b ∷ bs) = first_found _ _ _ _ b bs refl refl refl refl

-- `best` finds the longest lexeme
pub best_longest : (bs : List ℕ) (l : Lexeme) → best bs ≡ Some l → Longest bs l
best_longest bs l e = subst (Found bs) e (best_found bs)

-- where `best` finds none, there is none
pub best_none : (bs : List ℕ) → best bs ≡ None → NoLexeme bs
best_none bs e = subst (Found bs) e (best_found bs)
