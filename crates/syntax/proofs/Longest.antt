-- Which front of the bytes is their longest lexeme, class by class; `best` computes it.
use Rattle.std.proofs.Common.{◌≡◌, ℕ, zero, suc, ◌+◌, ◌<◌, ◌≤◌, Bool, true, false, cond, not, eqb, ◌⊎◌, List, [], ◌∷◌, length, take, is_some, sym, refl, ◌∙◌, subst, ⊎_elim, arith}
use Rattle.std.specs.List.{prefix_len, list_all}
use Rattle.std.proofs.lemmas.List.{length-take-le}
use Rattle.std.proofs.lemmas.Bool.{eqb-true, both_ways, false_from_ne_true, and_parts, and_from, and_left, and_right, cond-false}
use Rattle.std.proofs.Math.Bool.{and-true}
use Rattle.syntax.specs.Lexemes.{is_letter, is_digit, is_name_part, is_blank, plain, Class, blank, comment, namelike, numeric, quotation, operator, is, Lexeme, Longest, NoLexeme}
use Rattle.syntax.proofs.Classes.{by_first, first_letter, first_digit, first_blank, first_quote, not_slash, class_first, quoted_some, quoted_value, operators_short, constants_short, class_is, none_empty}

abbrev pub in_line : ℕ → Bool
in_line b = not (eqb b 10)

abbrev pub lexeme : Class → ℕ → Lexeme
lexeme c n = record { class = c; size = n }

-- n bytes pass the test, and the next does not
pub record Run (test : ℕ → Bool) (bs : List ℕ) (n : ℕ) : Type 0 where
  pub within : n ≤ length bs
  pub passes : list_all test (take n bs) ≡ true
  pub stops : (m : ℕ) → n < m → m ≤ length bs → list_all test (take m bs) ≡ false

pub run_more : (test : ℕ → Bool) (b : ℕ) (bs : List ℕ) (n : ℕ) → test b ≡ true → Run test bs n → Run test (b ∷ bs) (suc n)
run_more test b bs n h r = record { within = omega (arith, r.within); passes = and_from _ _ h r.passes; stops = stops }
  where
    stops : (m : ℕ) → suc n < m → m ≤ length (b ∷ bs) → list_all test (take m (b ∷ bs)) ≡ false
    stops zero l g = absurd (omega arith)
    stops (suc m) l g = and_right (test b) _ (r.stops m (omega arith) (omega arith))

pub run_none : (test : ℕ → Bool) (b : ℕ) (bs : List ℕ) → test b ≡ false → Run test (b ∷ bs) 0
run_none test b bs h = record { within = omega arith; passes = refl; stops = stops }
  where
    stops : (m : ℕ) → 0 < m → m ≤ length (b ∷ bs) → list_all test (take m (b ∷ bs)) ≡ false
    stops zero l g = absurd (omega arith)
    stops (suc m) l g = and_left (test b) _ h

pub run_empty : (test : ℕ → Bool) → Run test [] 0
run_empty test = record { within = omega arith; passes = refl; stops = λ m l g. absurd (omega arith) }

pub leading_run : (test : ℕ → Bool) (bs : List ℕ) → Run test bs (prefix_len test bs)
leading_run test [] = run_empty test
leading_run test (b ∷ bs) = by (test b) refl (leading_run test bs)
  where
    by : (t : Bool) → test b ≡ t → Run test bs (prefix_len test bs) → Run test (b ∷ bs) (cond t (1 + prefix_len test bs) 0)
    by true e r = subst (Run test (b ∷ bs)) (let s : suc (prefix_len test bs) ≡ 1 + prefix_len test bs = omega arith in s) (run_more test b bs _ e r)
    by false e r = run_none test b bs e

-- no lexeme, where every lexeme is of a class that has none
none_of : (c d : Class) (w : List ℕ) → (is d w ≡ true → d ≡ c) → (is c w ≡ true → ⊥) → is d w ≡ false
none_of c d w only none = false_from_ne_true _ (λ h. none (rw (only h) at h))

-- where the first byte decides the class, a longer lexeme is one of that class
decided :
    (b : ℕ) (bs : List ℕ) (c : Class) (k : ℕ) → by_first b ≡ c → not_slash c ≡ true →
    ((m : ℕ) → k < suc m → m ≤ length bs → is c (b ∷ take m bs) ≡ true → ⊥) → (n : ℕ) (d : Class) → k < n → n ≤ length (b ∷ bs) → is d (take n (b ∷ bs)) ≡ false
decided b bs c k e s no_longer zero d l g = absurd (omega arith)
decided b bs c k e s no_longer (suc m) d l g = none_of c d _ (λ h. sym (class_is d _ h) ∙ class_first b _ c e s) (no_longer m l (omega arith))

pub name_longest : (b : ℕ) (bs : List ℕ) (n : ℕ) → is_letter b ≡ true → Run is_name_part bs n → Longest (b ∷ bs) (lexeme namelike (suc n))
name_longest b bs n h r = record {
  within = omega (arith, r.within);
  lexeme = and_from _ _ h r.passes;
  longest = decided b bs namelike (suc n) (first_letter b h) refl (λ m l g i. both_ways _ (r.stops m (omega arith) g) (and_parts _ _ i).1);
}

pub number_longest : (b : ℕ) (bs : List ℕ) (n : ℕ) → is_digit b ≡ true → Run is_digit bs n → Longest (b ∷ bs) (lexeme numeric (suc n))
number_longest b bs n h r = record {
  within = omega (arith, r.within);
  lexeme = and_from _ _ h r.passes;
  longest = decided b bs numeric (suc n) (first_digit b h) refl (λ m l g i. both_ways _ (r.stops m (omega arith) g) (and_parts _ _ i).1);
}

no_two : (b c : ℕ) (w : List ℕ) → is blank (b ∷ c ∷ w) ≡ true → ⊥
no_two b c w h = both_ways _ refl h

pub blank_longest : (b : ℕ) (bs : List ℕ) → is_blank b ≡ true → Longest (b ∷ bs) (lexeme blank 1)
blank_longest b bs h = record { within = omega arith; lexeme = h; longest = decided b bs blank 1 (first_blank b h) refl (λ m l g i. longer bs m l g i) }
  where
    longer : (cs : List ℕ) (m : ℕ) → 1 < suc m → m ≤ length cs → is blank (b ∷ take m cs) ≡ true → ⊥
    longer cs zero l g i = omega arith
    longer [] (suc m) l g i = omega arith
    longer (c ∷ cs) (suc m) l g i = no_two b c (take m cs) i

pub comment_longest : (bs : List ℕ) (n : ℕ) → Run in_line bs n → Longest (47 ∷ 47 ∷ bs) (lexeme comment (suc (suc n)))
comment_longest bs n r = record { within = omega (arith, r.within); lexeme = r.passes; longest = longest }
  where
    longest : (m : ℕ) (d : Class) → suc (suc n) < m → m ≤ length (47 ∷ 47 ∷ bs) → is d (take m (47 ∷ 47 ∷ bs)) ≡ false
    longest zero d l g = absurd (omega arith)
    longest (suc zero) d l g = absurd (omega arith)
    longest (suc (suc m)) d l g =
        false_from_ne_true _ (λ h.
        let o : d ≡ operator = sym (class_is d (47 ∷ 47 ∷ take m bs) h) ∙ cond-false (list_all in_line (take m bs)) comment operator (r.stops m (omega arith) (omega arith)) in
        let short : length (47 ∷ 47 ∷ take m bs) ≤ 2 = operators_short (47 ∷ 47 ∷ take m bs) (rw o at h) in
        omega (arith, length-take-le m bs (omega arith)))

-- where an operator can begin and no comment does, every lexeme is an operator
only_operators :
    (b : ℕ) (bs : List ℕ) (n : ℕ) (d : Class) → by_first b ≡ operator → is comment (take 2 (b ∷ bs)) ≡ false → is d (take n (b ∷ bs)) ≡ true → d ≡ operator
only_operators b bs zero d e s h = absurd (both_ways _ (none_empty d) h)
only_operators b [] (suc zero) d e s h = sym (class_is d (b ∷ []) h) ∙ e
only_operators b [] (suc (suc n)) d e s h = sym (class_is d (b ∷ []) h) ∙ e
only_operators b (c ∷ cs) (suc zero) d e s h = sym (class_is d (b ∷ []) h) ∙ e
only_operators b (c ∷ cs) (suc (suc n)) d e s h = sym (class_is d (b ∷ c ∷ take n cs) h) ∙ cond-false (is comment (b ∷ c ∷ take n cs)) comment (by_first b) (and_left _ _ (sym (and-true _) ∙ s)) ∙ e

pub operator_longest :
    (b : ℕ) (bs : List ℕ) (k : ℕ) → by_first b ≡ operator → is comment (take 2 (b ∷ bs)) ≡ false → k ≤ length (b ∷ bs) → is operator (take k (b ∷ bs)) ≡ true →
    (k < 2 → 2 ≤ length (b ∷ bs) → is operator (take 2 (b ∷ bs)) ≡ false) → 0 < k → Longest (b ∷ bs) (lexeme operator k)
operator_longest b bs k e s w h two some = record {
  within = w;
  lexeme = h;
  longest = λ n d l g. none_of operator d _ (only_operators b bs n d e s) (longer n l g);
}
  where
    longer : (n : ℕ) → k < n → n ≤ length (b ∷ bs) → is operator (take n (b ∷ bs)) ≡ true → ⊥
    longer n l g i =
        let short : length (take n (b ∷ bs)) ≤ 2 = operators_short (take n (b ∷ bs)) i in
        let n-two : n ≡ 2 = omega (arith, length-take-le n (b ∷ bs) g) in
        both_ways _ (two (omega arith) (omega arith)) (rw n-two at i)

pub operator_none :
    (b : ℕ) (bs : List ℕ) → by_first b ≡ operator → is comment (take 2 (b ∷ bs)) ≡ false → is operator (b ∷ []) ≡ false →
    (2 ≤ length (b ∷ bs) → is operator (take 2 (b ∷ bs)) ≡ false) → NoLexeme (b ∷ bs)
operator_none b bs e s one two n d g = none_of operator d _ (only_operators b bs n d e s) (none n g)
  where
    none : (n : ℕ) → n ≤ length (b ∷ bs) → is operator (take n (b ∷ bs)) ≡ true → ⊥
    none zero g i = both_ways _ refl i
    none (suc zero) g i = both_ways _ one i
    none (suc (suc n)) g i =
        let short : length (take (suc (suc n)) (b ∷ bs)) ≤ 2 = operators_short (take (suc (suc n)) (b ∷ bs)) i in
        let n-two : suc (suc n) ≡ 2 = omega (arith, length-take-le (suc (suc n)) (b ∷ bs) g) in
        both_ways _ (two (omega arith)) (subst (λ (m : ℕ). is operator (take m (b ∷ bs)) ≡ true) n-two i)

only_constants : (b : ℕ) (bs : List ℕ) (n : ℕ) (d : Class) → eqb b 39 ≡ true → is d (take n (b ∷ bs)) ≡ true → d ≡ quotation
only_constants b bs zero d e h = absurd (both_ways _ (none_empty d) h)
only_constants b bs (suc n) d e h = sym (class_is d (b ∷ take n bs) h) ∙ class_first b (take n bs) quotation (first_quote b e) refl

three_or_four : (w : List ℕ) (n : ℕ) → n ≤ length w → is quotation (take n w) ≡ true → (n ≡ 3) ⊎ (n ≡ 4)
three_or_four w n g h = subst (λ (m : ℕ). (m ≡ 3) ⊎ (m ≡ 4)) (length-take-le n w g) (constants_short _ h)

-- a constant of three bytes holds no backslash
not_both : (a x c d : ℕ) → is quotation (a ∷ x ∷ c ∷ []) ≡ true → is quotation (a ∷ x ∷ c ∷ d ∷ []) ≡ true → ⊥
not_both a x c d h i =
    let backslash : x ≡ 92 = eqb-true x 92 (and_parts _ _ (and_parts _ _ (quoted_some _ _ i)).0).1 in
    let stands : is_some (plain x) ≡ true = quoted_value _ _ h in
    both_ways _ refl (rw backslash at stands)

pub constant_longest :
    (b : ℕ) (bs : List ℕ) (k : ℕ) → eqb b 39 ≡ true → k ≤ length (b ∷ bs) → is quotation (take k (b ∷ bs)) ≡ true → Longest (b ∷ bs) (lexeme quotation k)
constant_longest b bs k e w h = record {
  within = w;
  lexeme = h;
  longest = λ n d l g. none_of quotation d _ (only_constants b bs n d e) (longer n l g);
}
  where
    three_four : (cs : List ℕ) → 4 ≤ length cs → is quotation (take 3 cs) ≡ true → is quotation (take 4 cs) ≡ true → ⊥
    three_four [] l h i = omega arith
    three_four (p ∷ []) l h i = omega arith
    three_four (p ∷ q ∷ []) l h i = omega arith
    three_four (p ∷ q ∷ r ∷ []) l h i = omega arith
    three_four (p ∷ q ∷ r ∷ s ∷ cs) l h i = not_both p q r s h i

    longer : (n : ℕ) → k < n → n ≤ length (b ∷ bs) → is quotation (take n (b ∷ bs)) ≡ true → ⊥
    longer n l g i =
        let k-is = three_or_four (b ∷ bs) k w h in
        let n-is = three_or_four (b ∷ bs) n g i in
        let k-three : k ≡ 3 = omega arith in
        let n-four : n ≡ 4 = omega arith in
        three_four (b ∷ bs) (omega arith) (rw k-three at h) (rw n-four at i)

pub constant_none :
    (b : ℕ) (bs : List ℕ) → eqb b 39 ≡ true → (3 ≤ length (b ∷ bs) → is quotation (take 3 (b ∷ bs)) ≡ false) → (4 ≤ length (b ∷ bs) → is quotation (take 4 (b ∷ bs)) ≡ false) →
    NoLexeme (b ∷ bs)
constant_none b bs e three four n d g = none_of quotation d _ (only_constants b bs n d e) (none n g)
  where
    none : (n : ℕ) → n ≤ length (b ∷ bs) → is quotation (take n (b ∷ bs)) ≡ true → ⊥
    none n g i =
        ⊎_elim
        (λ (m : n ≡ 3). both_ways _ (three (omega arith)) (rw m at i))
        (λ (m : n ≡ 4). both_ways _ (four (omega arith)) (rw m at i))
        (three_or_four (b ∷ bs) n g i)
