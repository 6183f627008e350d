-- The front of a text that the code finds is the longest lexeme.
use Rattle.std.proofs.Common.{◌≡◌, ℕ, suc, ◌<◌, ◌≤◌, Bool, true, false, eqb, ◌&&◌, List, [], ◌∷◌, length, get_or, take, drop, is_some, Some, None, Option, refl, sym, ap, ◌∙◌, subst, arith}
use Rattle.std.specs.Option.{option_map, MatchOption}
use Rattle.std.specs.List.{prefix_len, starts_with}
use Rattle.std.proofs.lemmas.List.Sums.{prefix_len_is}
use Rattle.std.proofs.lemmas.Bool.{and_parts, cond-true, cond-false, eq-eqb, eqb-true, or_left}
use Rattle.std.proofs.lemmas.Bool.Decides.{Decides-eqb}
use Rattle.std.proofs.lemmas.Slice.Eq.{starts_is}
use Rattle.outcomes.specs.declared.Position.{Position}
use Rattle.outcomes.specs.declared.Refusal.TheVariants.{NumberTooLarge}
use Rattle.syntax.specs.Borrowed.{kind_meant}
use Rattle.syntax.specs.Tokens.{number, character}
use Rattle.syntax.specs.declared.token.TokenKind.TheVariants.{Character}
use Rattle.syntax.specs.Lexemes.{is_letter, is_digit, is_name_part, is_blank, Class, blank, comment, namelike, numeric, quotation, operator, is, escape, plain, quoted, constant, token_of, Longest, NoLexeme}
use Rattle.syntax.proofs.Classes.{by_first, number_class}
use Rattle.syntax.proofs.Longest.{in_line, lexeme, leading_run, name_longest, number_longest, blank_longest, comment_longest, operator_longest, operator_none, constant_longest, constant_none}
use Rattle.scanner.specs.declared.lexeme.Lexeme.{Lexeme}
use Rattle.scanner.specs.Bytes.{IsRun}
use Rattle.scanner.specs.Found.{Found, FoundOrNone, Candidate, Tried, OnlyOperators, TooLarge}
use Rattle.scanner.specs.Steps.{RefusedAt, large}

-- a run of the bytes that pass a test has the size that is counted
pub run_size :
    (p : ℕ → Bool) (Says : ℕ → Bool → Type 0) (text w : List ℕ) → ((b : ℕ) (r : Bool) → Says b r → r ≡ p b) → IsRun Says text w → length w ≡ prefix_len p text
run_size p Says text w says r =
    sym (prefix_len_is p text (length w) 0 r.within (λ k l. sym (says _ _ (r.passes k l))) (λ l. sym (says _ _ (r.ends l))))

-- the first byte counts
run_more : (p : ℕ → Bool) (b n : ℕ) (bs : List ℕ) → p b ≡ true → n ≡ prefix_len p (b ∷ bs) → suc (prefix_len p bs) ≡ n
run_more p b n bs h e = let m = e ∙ cond-true (p b) _ _ h in omega (arith, m)

pub word_found : (text : List ℕ) (n : ℕ) → 0 < length text → is_letter (get_or text 0 0) ≡ true → n ≡ prefix_len is_name_part text → Longest text (lexeme namelike n)
word_found [] n some h e = absurd (omega arith)
word_found (b ∷ bs) n some h e = subst (λ (m : ℕ). Longest (b ∷ bs) (lexeme namelike m)) (run_more is_name_part b n bs (or_left _ _ h) e) (name_longest b bs _ h (leading_run is_name_part bs))

pub number_found : (text : List ℕ) (n : ℕ) → 0 < length text → is_digit (get_or text 0 0) ≡ true → n ≡ prefix_len is_digit text → Longest text (lexeme numeric n)
number_found [] n some h e = absurd (omega arith)
number_found (b ∷ bs) n some h e = subst (λ (m : ℕ). Longest (b ∷ bs) (lexeme numeric m)) (run_more is_digit b n bs h e) (number_longest b bs _ h (leading_run is_digit bs))

pub blank_found : (text : List ℕ) → 0 < length text → is_blank (get_or text 0 0) ≡ true → Longest text (lexeme blank 1)
blank_found [] some h = absurd (omega arith)
blank_found (b ∷ bs) some h = blank_longest b bs h

slashes_found : (bs : List ℕ) (n : ℕ) → n ≡ prefix_len in_line (47 ∷ 47 ∷ bs) → Longest (47 ∷ 47 ∷ bs) (lexeme comment n)
slashes_found bs n e = subst (λ (m : ℕ). Longest (47 ∷ 47 ∷ bs) (lexeme comment m)) (let m : suc (suc (prefix_len in_line bs)) ≡ n = omega arith in m) (comment_longest bs _ (leading_run in_line bs))

pub comment_found : (text : List ℕ) (n : ℕ) → true ≡ starts_with eqb text (47 ∷ 47 ∷ []) → n ≡ prefix_len in_line text → Longest text (lexeme comment n)
comment_found text n h e =
    let begins : text ≡ 47 ∷ 47 ∷ drop 2 text = (starts_is Decides-eqb text (47 ∷ 47 ∷ []) true h).0 refl in
    subst (λ (t : List ℕ). n ≡ prefix_len in_line t → Longest t (lexeme comment n)) (sym begins) (slashes_found (drop 2 text) n) e

candidate_found : (c : Class) (n : ℕ) (text : List ℕ) (l : Lexeme) → Candidate c n text l → Longest text (lexeme c n) → Found text l
candidate_found c n text l k h = record {
  class = c;
  longest = subst (λ (m : ℕ). Longest text (lexeme c m)) (sym k.size) h;
  token = k.token ∙ ap (λ (m : ℕ). token_of c (take m text)) (sym k.size);
}

only_operators : (b : ℕ) (bs : List ℕ) → OnlyOperators (b ∷ bs) → by_first b ≡ operator
only_operators b bs o = cond-false _ _ _ o.letter ∙ cond-false _ _ _ o.digit ∙ cond-false _ _ _ o.blank ∙ cond-false _ _ _ o.quote

-- two bytes are tried before one
pub operator_found :
    (text : List ℕ) (two r : Option Lexeme) → OnlyOperators text → Tried operator 2 text two → MatchOption two (Tried operator 1 text r) (λ l. r ≡ Some l) → FoundOrNone text r
operator_found [] two r o t k = absurd (omega (arith, o.some))
operator_found (b ∷ bs) (Some l) r o t k =
    rw k (candidate_found operator 2 (b ∷ bs) l t (operator_longest b bs 2 (only_operators b bs o) o.comment t.within t.lexeme (λ small. absurd (omega arith)) (omega arith)))
operator_found (b ∷ bs) None None o t k = operator_none b bs (only_operators b bs o) o.comment (k (omega arith)) t
operator_found (b ∷ bs) None (Some l) o t k =
    candidate_found operator 1 (b ∷ bs) l k (operator_longest b bs 1 (only_operators b bs o) o.comment k.within k.lexeme (λ small within. t within) (omega arith))

-- a character constant and its token, in a text that begins with a quote
abbrev pub character_lexeme : ℕ → ℕ → Lexeme
character_lexeme n v = record { size = n; kind = Some (Character v) }

constant_found :
    (n v : ℕ) (text : List ℕ) → 0 < length text → get_or text 0 0 ≡ 39 → n ≤ length text → constant (take n text) ≡ Some v → Found text (character_lexeme n v)
constant_found n v [] some q l e = absurd (omega arith)
constant_found n v (b ∷ bs) some q l e =
    let is_one : is quotation (take n (b ∷ bs)) ≡ true = ap is_some e in
    record {
      class = quotation;
      longest = constant_longest b bs n (eq-eqb b 39 q) l is_one;
      token = sym (ap (option_map character) e);
    }

three_bytes : (text : List ℕ) → 3 ≤ length text → constant (take 3 text) ≡ quoted (eqb (get_or text 0 0) 39 && eqb (get_or text 2 0) 39) (plain (get_or text 1 0))
three_bytes [] l = absurd (omega arith)
three_bytes (a ∷ []) l = absurd (omega arith)
three_bytes (a ∷ b ∷ []) l = absurd (omega arith)
three_bytes (a ∷ b ∷ c ∷ bs) l = refl

four_bytes :
    (text : List ℕ) → 4 ≤ length text →
    constant (take 4 text) ≡ quoted ((eqb (get_or text 0 0) 39 && eqb (get_or text 1 0) 92) && eqb (get_or text 3 0) 39) (escape (get_or text 2 0))
four_bytes [] l = absurd (omega arith)
four_bytes (a ∷ []) l = absurd (omega arith)
four_bytes (a ∷ b ∷ []) l = absurd (omega arith)
four_bytes (a ∷ b ∷ c ∷ []) l = absurd (omega arith)
four_bytes (a ∷ b ∷ c ∷ d ∷ bs) l = refl

pub plain_found :
    (text : List ℕ) (v : ℕ) → 3 ≤ length text → get_or text 0 0 ≡ 39 → get_or text 2 0 ≡ 39 → plain (get_or text 1 0) ≡ Some v → Found text (character_lexeme 3 v)
plain_found text v l q z e = constant_found 3 v text (omega arith) q l (three_bytes text l ∙ (rw (q, z) e))

pub escape_found :
    (text : List ℕ) (v : ℕ) → 4 ≤ length text → get_or text 0 0 ≡ 39 → get_or text 1 0 ≡ 92 → get_or text 3 0 ≡ 39 → escape (get_or text 2 0) ≡ Some v → Found text (character_lexeme 4 v)
escape_found text v l q s z e = constant_found 4 v text (omega arith) q l (four_bytes text l ∙ (rw (q, s, z) e))

shut : (t : Bool) (r : Option ℕ) → (t ≡ true → r ≡ None) → quoted t r ≡ None
shut true r h = h refl
shut false r h = refl

-- no character constant begins with the quote, and nothing else does
pub no_constant :
    (text : List ℕ) → 0 < length text → get_or text 0 0 ≡ 39 → (3 ≤ length text → get_or text 2 0 ≡ 39 → plain (get_or text 1 0) ≡ None) →
    (4 ≤ length text → get_or text 1 0 ≡ 92 → get_or text 3 0 ≡ 39 → escape (get_or text 2 0) ≡ None) → NoLexeme text
no_constant [] some q three four = absurd (omega arith)
no_constant (b ∷ bs) some q three four = constant_none b bs (eq-eqb b 39 q) (λ l. ap is_some (no_three l)) (λ l. ap is_some (no_four l))
  where
    no_three : 3 ≤ length (b ∷ bs) → constant (take 3 (b ∷ bs)) ≡ None
    no_three l = three_bytes (b ∷ bs) l ∙ shut _ _ (λ e. three l (eqb-true _ 39 (and_parts _ _ e).1))

    no_four : 4 ≤ length (b ∷ bs) → constant (take 4 (b ∷ bs)) ≡ None
    no_four l = four_bytes (b ∷ bs) l ∙ shut _ _ (λ e. let front = and_parts _ _ e in four l (eqb-true _ 92 (and_parts _ _ front.0).1) (eqb-true _ 39 front.1))

pub large_found : (rest : List ℕ) (p : Position) (l : Lexeme) → Found rest l → TooLarge (option_map kind_meant l.kind) → RefusedAt rest p (record { refusal = NumberTooLarge; position = p })
large_found rest p l f t =
    let token : token_of f.class (take l.size rest) ≡ Some (number t.value) = sym f.token ∙ t.is in
    let same : f.class ≡ numeric = number_class f.class (take l.size rest) t.value token in
    large l.size t.value (subst (λ (c : Class). Longest rest (lexeme c l.size)) same f.longest)
    (subst (λ (c : Class). token_of c (take l.size rest) ≡ Some (number t.value)) same token) t.large
