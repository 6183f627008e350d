-- A text that is cut lexeme by lexeme, from its front.
use Rattle.std.proofs.Common.{◌≡◌, ℕ, zero, suc, ◌+◌, ◌<◌, ◌≤◌, true, cond, eqb, List, [], ◌∷◌, ◌++◌, length, take, drop, Some, None, Option, refl, subst, arith}
use Rattle.std.proofs.lemmas.List.{append-nil, append_assoc, nil_from_length, take-append-drop}
use Rattle.std.proofs.lemmas.Bool.{both_ways}
use Rattle.outcomes.specs.declared.Position.{Position}
use Rattle.syntax.specs.Tokens.{TokenKind, Token, start, behind}
use Rattle.syntax.specs.Lexemes.{Lexeme, is, token_of, Longest}
use Rattle.syntax.specs.Scanning.{Fits, Cut, before, tokens, Cuts, CutUpTo}
use Rattle.syntax.proofs.Classes.{none_empty}

-- the bytes of the lexemes at the front of a text
pub taken : List Lexeme → List ℕ → List ℕ
taken [] text = []
taken (l ∷ ls) text = take l.size text ++ taken ls (drop l.size text)

taken_parts : (ls : List Lexeme) (text rest : List ℕ) → Cut ls text rest → text ≡ taken ls text ++ rest
unfolding taken
taken_parts [] text rest c = c
taken_parts (l ∷ ls) text rest c =
    cc (take-append-drop l.size text, taken_parts ls (drop l.size text) rest c.2, append_assoc (take l.size text) (taken ls (drop l.size text)) rest)

taken_more : (ls : List Lexeme) (text rest : List ℕ) (l : Lexeme) → Cut ls text rest → taken (ls ++ l ∷ []) text ≡ taken ls text ++ take l.size rest
unfolding taken
taken_more [] text rest l c = cc (append-nil (take l.size text))
taken_more (m ∷ ls) text rest l c = cc (taken_more ls (drop m.size text) rest l c.2, append_assoc (take m.size text) (taken ls (drop m.size text)) (take l.size rest))

cut_more :
    (ls : List Lexeme) (text rest : List ℕ) (l : Lexeme) → Cut ls text rest → Longest rest l → Fits (token_of l.class (take l.size rest)) → Cut (ls ++ l ∷ []) text (drop l.size rest)
cut_more [] text rest l c h f =
    (rw c h, rw c f, cc)
cut_more (m ∷ ls) text rest l c h f = (c.0, c.1, cut_more ls (drop m.size text) rest l c.2 h f)

pub behind_append : (p : Position) (bs cs : List ℕ) → behind p (bs ++ cs) ≡ behind (behind p bs) cs
behind_append p [] cs = refl
behind_append p (b ∷ bs) cs = behind_append (cond (eqb b 10) (record { line = p.line + 1; column = 1 }) (record { line = p.line; column = p.column + 1 })) bs cs

before_append : (k : Option TokenKind) (p : Position) (ts us : List Token) → before k p (ts ++ us) ≡ before k p ts ++ us
before_append None p ts us = refl
before_append (Some k) p ts us = refl

tokens_more :
    (ls : List Lexeme) (p : Position) (text rest : List ℕ) (l : Lexeme) → Cut ls text rest →
    tokens (ls ++ l ∷ []) p text ≡ tokens ls p text ++ before (token_of l.class (take l.size rest)) (behind p (taken ls text)) []
unfolding taken
tokens_more [] p text rest l c = cc
tokens_more (m ∷ ls) p text rest l c =
    let w = take m.size text in
    let k = token_of m.class w in
    let more = drop m.size text in
    cc (tokens_more ls (behind p w) more rest l c.2, before_append k p (tokens ls (behind p w) more) (before (token_of l.class (take l.size rest)) (behind (behind p w) (taken ls more)) []), behind_append p w (taken ls more))

-- the text is cut up to a place, and ts are the tokens before it
pub record Progress (text : List ℕ) (ts : List Token) (p : Position) (rest : List ℕ) : Type 0 where
  pub lexemes : List Lexeme
  pub cut : Cut lexemes text rest
  pub are : ts ≡ tokens lexemes start text
  pub place : p ≡ behind start (taken lexemes text)

pub no_progress : (text : List ℕ) → Progress text [] start text
unfolding taken
no_progress text = record { lexemes = []; cut = refl; are = refl; place = refl }

-- one more lexeme
pub progress_more :
    (text : List ℕ) (ts : List Token) (p : Position) (rest : List ℕ) (l : Lexeme) → Progress text ts p rest → Longest rest l → Fits (token_of l.class (take l.size rest)) →
    Progress text (ts ++ before (token_of l.class (take l.size rest)) p []) (behind p (take l.size rest)) (drop l.size rest)
progress_more text ts p rest l g h f =
    let token : Position → List Token = λ q. before (token_of l.class (take l.size rest)) q [] in
    record {
      lexemes = g.lexemes ++ l ∷ [];
      cut = cut_more g.lexemes text rest l g.cut h f;
      are = cc (tokens_more g.lexemes start text rest l g.cut);
      place = cc (behind_append start (taken g.lexemes text) (take l.size rest), taken_more g.lexemes text rest l g.cut);
    }

-- the end of the text is reached
pub progress_cuts : (text : List ℕ) (ts : List Token) (p : Position) (rest : List ℕ) → length text ≤ 65536 → Progress text ts p rest → length rest ≤ 0 → Cuts text ts
progress_cuts text ts p rest short g e =
    record { short = short; lexemes = g.lexemes; cut = subst (Cut g.lexemes text) (nil_from_length rest (omega arith)) g.cut; are = g.are }

pub progress_ends : (text : List ℕ) (ts : List Token) (p : Position) (rest : List ℕ) → Progress text ts p rest → length rest ≤ 0 → p ≡ behind start text
progress_ends text ts p rest g e =
    let none : rest ≡ [] = nil_from_length rest (omega arith) in
    cc (taken_parts g.lexemes text rest g.cut, append-nil (taken g.lexemes text))

-- the text is cut up to the place reached
pub up_to : (text : List ℕ) (ts : List Token) (p : Position) (rest : List ℕ) → length text ≤ 65536 → Progress text ts p rest → CutUpTo text p rest
up_to text ts p rest short g =
    record { short = short; lexemes = g.lexemes; cut = g.cut; front = taken g.lexemes text; parts = taken_parts g.lexemes text rest g.cut; place = g.place }

-- a lexeme has at least one byte
pub lexeme_some : (bs : List ℕ) (l : Lexeme) → Longest bs l → 0 < l.size
lexeme_some bs l h = some l.size h.lexeme
  where
    some : (n : ℕ) → is l.class (take n bs) ≡ true → 0 < n
    some zero e = absurd (both_ways _ (none_empty l.class) e)
    some (suc n) e = omega arith
