-- The answer of the first stage for a text, computed: concrete texts are scanned by `refl`.
use Rattle.std.proofs.Common.{◌≡◌, ℕ, zero, suc, ◌<◌, ◌≤◌, Bool, true, false, leb, List, [], ◌∷◌, ◌++◌, length, take, drop, Some, None, Ok, Err, Option, Result, sym, refl, ap, subst, arith}
use Rattle.std.specs.Result.{result_ok}
use Rattle.std.proofs.lemmas.List.{append_assoc, append-nil, length-drop}
use Rattle.std.proofs.lemmas.Bool.{leb-true, leb-false}
use Rattle.outcomes.specs.declared.Fault.{Fault}
use Rattle.outcomes.specs.declared.Position.{Position}
use Rattle.outcomes.specs.declared.Refusal.TheVariants.{TextTooLong, NoToken, NumberTooLarge}
use Rattle.syntax.specs.Tokens.{TokenKind, number, Token, start, behind}
use Rattle.syntax.specs.Lexemes.{Class, numeric, Lexeme, token_of, Longest}
use Rattle.syntax.specs.Scanning.{Fits, before, Cuts, RefusedByScan, long, no_token, large, ScannedAs}
use Rattle.syntax.proofs.Best.{front, constant_at, operator_at, quote_at, sign_at, best_of, best, best_longest, best_none}
use Rattle.syntax.proofs.Classes.{number_class}
use Rattle.syntax.proofs.Longest.{lexeme}
use Rattle.syntax.proofs.Progress.{Progress, no_progress, progress_more, progress_cuts, up_to, lexeme_some}

abbrev pub Answer : Type 0
Answer = Result (List Token) Fault

unfoldable pub fitting : Option TokenKind → Bool
fitting (Some (number n)) = leb n 2147483647
fitting k = true

unfoldable pub with_token : Option TokenKind → Position → Answer → Answer
with_token k p (Ok ts) = Ok (before k p ts)
with_token k p (Err f) = Err f

-- goes on behind a lexeme w if it fits
unfoldable pub behind_lexeme : (Position → List ℕ → Answer) → Bool → Option TokenKind → Position → List ℕ → List ℕ → Answer
behind_lexeme scan true k p w rest = with_token k p (scan (behind p w) rest)
behind_lexeme scan false k p w rest = Err (record { refusal = NumberTooLarge; position = p })

unfoldable pub from_lexeme : (Position → List ℕ → Answer) → Option Lexeme → Position → List ℕ → Answer
from_lexeme scan None p bs = Err (record { refusal = NoToken; position = p })
from_lexeme scan (Some l) p bs =
    let w = take l.size bs in
    let k = token_of l.class w in
    behind_lexeme scan (fitting k) k p w (drop l.size bs)

-- the answer for bytes of which the first stands at a position; there are at most n, so the second clause is not met
unfoldable pub answer_from : ℕ → Position → List ℕ → Answer
answer_from zero p [] = Ok []
answer_from zero p (b ∷ bs) = Ok []
answer_from (suc n) p [] = Ok []
answer_from (suc n) p (b ∷ bs) = from_lexeme (λ q cs. answer_from n q cs) (best (b ∷ bs)) p (b ∷ bs)

unfoldable pub answer_if : Bool → List ℕ → Answer
answer_if true text = answer_from (length text) start text
answer_if false text = Err (record { refusal = TextTooLong; position = record { line = 0; column = 0 } })

-- the first stage's answer. A proof that computes it says `unfolding answer`.
unfoldable pub answer : List ℕ → Answer
unfolding answer_if answer_from from_lexeme behind_lexeme with_token fitting best best_of quote_at sign_at constant_at operator_at front
answer text = answer_if (leb (length text) 65536) text

-- the tokens of a text; None where it is refused. A proof that computes it says `unfolding scanned`.
unfoldable pub scanned : List ℕ → Option (List Token)
unfolding answer
scanned text = result_ok (answer text)

fitting_fits : (k : Option TokenKind) → fitting k ≡ true → Fits k
unfolding fitting
fitting_fits (Some (number n)) h = leb-true n 2147483647 h
fitting_fits k h = tt

unfitting_large : (k : Option TokenKind) → fitting k ≡ false → (n : ℕ) × (k ≡ Some (number n)) × (2147483647 < n)
unfolding fitting
unfitting_large (Some (number n)) h = (n, refl, leb-false n 2147483647 h)
unfitting_large k h = absurd cc

-- the answer for a text, from the tokens before a place and the answer from there on
abbrev behind_tokens : List Token → Answer → Answer
behind_tokens ts (Ok us) = Ok (ts ++ us)
behind_tokens ts (Err f) = Err f

module _ (text : List ℕ) (short : length text ≤ 65536) where
  at_end : (ts : List Token) (p : Position) → Progress text ts p [] → ScannedAs text (Ok (ts ++ []))
  at_end ts p g = subst (Cuts text) (sym (append-nil ts)) (progress_cuts text ts p [] short g (omega arith))

  too_large :
      (ts : List Token) (p : Position) (bs : List ℕ) (l : Lexeme) → Progress text ts p bs → Longest bs l → fitting (token_of l.class (take l.size bs)) ≡ false →
      RefusedByScan text (record { refusal = NumberTooLarge; position = p })
  too_large ts p bs l g h f =
      let over = unfitting_large _ f in
      let class : l.class ≡ numeric = number_class l.class (take l.size bs) over.0 over.1 in
      large p bs l.size over.0 (up_to text ts p bs short g) (subst (λ (c : Class). Longest bs (lexeme c l.size)) class h)
      (subst (λ (c : Class). token_of c (take l.size bs) ≡ Some (number over.0)) class over.1) over.2

  before_tokens : (ts : List Token) (k : Option TokenKind) (p : Position) (us : List Token) → (ts ++ before k p []) ++ us ≡ ts ++ before k p us
  before_tokens ts None p us = ap (λ (vs : List Token). vs ++ us) (append-nil ts)
  before_tokens ts (Some k) p us = append_assoc ts _ us

  scanned_with_token : (ts : List Token) (k : Option TokenKind) (p : Position) (r : Answer) → ScannedAs text (behind_tokens (ts ++ before k p []) r) → ScannedAs text (behind_tokens ts (with_token k p r))
  unfolding with_token
  scanned_with_token ts k p (Ok us) h = subst (Cuts text) (before_tokens ts k p us) h
  scanned_with_token ts k p (Err f) h = h

  module _ (scan : Position → List ℕ → Answer) (n : ℕ) (right : (ts : List Token) (p : Position) (bs : List ℕ) → length bs ≤ n → Progress text ts p bs → ScannedAs text (behind_tokens ts (scan p bs))) where
    scanned_from_lexeme :
        (o : Option Lexeme) (ts : List Token) (p : Position) (bs : List ℕ) → best bs ≡ o → 0 < length bs → length bs ≤ suc n → Progress text ts p bs →
        ScannedAs text (behind_tokens ts (from_lexeme scan o p bs))
    unfolding from_lexeme behind_lexeme
    scanned_from_lexeme None ts p bs e some fuel g = no_token p bs (up_to text ts p bs short g) some (best_none bs e)
    scanned_from_lexeme (Some l) ts p bs e some fuel g = by (fitting (token_of l.class (take l.size bs))) refl
      where
        by : (t : Bool) → fitting (token_of l.class (take l.size bs)) ≡ t →
            ScannedAs text (behind_tokens ts (behind_lexeme scan t (token_of l.class (take l.size bs)) p (take l.size bs) (drop l.size bs)))
        by true f =
            let h = best_longest bs l e in
            scanned_with_token ts _ p _
            (right (ts ++ before (token_of l.class (take l.size bs)) p []) (behind p (take l.size bs)) (drop l.size bs) (omega (arith, length-drop l.size bs, lexeme_some bs l h))
            (progress_more text ts p bs l g h (fitting_fits _ f)))
        by false f = too_large ts p bs l g (best_longest bs l e) f

  answered_from : (n : ℕ) (ts : List Token) (p : Position) (bs : List ℕ) → length bs ≤ n → Progress text ts p bs → ScannedAs text (behind_tokens ts (answer_from n p bs))
  unfolding answer_from
  answered_from zero ts p [] fuel g = at_end ts p g
  answered_from zero ts p (b ∷ bs) fuel g = absurd (omega arith)
  answered_from (suc n) ts p [] fuel g = at_end ts p g
  answered_from (suc n) ts p (b ∷ bs) fuel g = scanned_from_lexeme (λ q cs. answer_from n q cs) n (answered_from n) (best (b ∷ bs)) ts p (b ∷ bs) refl (omega arith) fuel g

nothing_before : (text : List ℕ) (r : Answer) → ScannedAs text (behind_tokens [] r) → ScannedAs text r
nothing_before text (Ok us) h = h
nothing_before text (Err f) h = h

-- `answer` is the first stage's answer, for every text
pub answer_is : (text : List ℕ) → ScannedAs text (answer text)
unfolding answer
answer_is text = by (leb (length text) 65536) refl
  where
    by : (t : Bool) → leb (length text) 65536 ≡ t → ScannedAs text (answer_if t text)
    by true e = nothing_before text _ (answered_from text (leb-true _ _ e) (length text) [] start text (omega arith) (no_progress text))
    by false e = long (leb-false _ _ e)

-- a text that is scanned by computing is cut into those tokens
pub scanned_cuts : (text : List ℕ) (ts : List Token) → scanned text ≡ Some ts → Cuts text ts
unfolding scanned
scanned_cuts text ts h = cut (answer text) (answer_is text) h
  where
    cut : (r : Answer) → ScannedAs text r → result_ok r ≡ Some ts → Cuts text ts
    cut (Ok us) s e = subst (Cuts text) (let same : us ≡ ts = cc in same) s
    cut (Err f) s e = absurd cc
