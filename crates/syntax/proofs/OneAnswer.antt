-- No text has two answers of the first stage.
use Rattle.std.proofs.Common.{◌≡◌, ℕ, ◌<◌, ◌≤◌, List, [], ◌∷◌, ◌++◌, length, take, drop, Some, Ok, Err, Result, sym, refl, ap, ◌∙◌, subst, ⊎_elim, arith}
use Rattle.std.proofs.lemmas.List.{append_cancel_right}
use Rattle.std.proofs.lemmas.Bool.{both_ways, cases_order}
use Rattle.outcomes.specs.declared.Fault.{Fault}
use Rattle.outcomes.specs.declared.Position.{Position}
use Rattle.outcomes.specs.declared.Refusal.TheVariants.{NoToken, NumberTooLarge}
use Rattle.syntax.specs.Tokens.{number, Token, start, behind}
use Rattle.syntax.specs.Lexemes.{Class, numeric, token_of, Lexeme, Longest, NoLexeme}
use Rattle.syntax.specs.Scanning.{Fits, Cut, Cuts, CutUpTo, RefusedByScan, long, no_token, large, ScannedAs}
use Rattle.syntax.proofs.Classes.{empty_none, one_class}
use Rattle.syntax.proofs.Longest.{lexeme}

not_longer : (bs : List ℕ) (l m : Lexeme) → Longest bs l → Longest bs m → l.size < m.size → ⊥
not_longer bs l m h i less = both_ways _ (h.longest m.size m.class less i.within) i.lexeme

same_size : (bs : List ℕ) (l m : Lexeme) → Longest bs l → Longest bs m → l.size ≡ m.size
same_size bs l m h i =
    ⊎_elim (λ e. e) (λ o. absurd (⊎_elim (λ less. not_longer bs l m h i less) (λ less. not_longer bs m l i h less) o)) (cases_order l.size m.size)

-- bytes have one longest lexeme
pub one_longest : (bs : List ℕ) (l m : Lexeme) → Longest bs l → Longest bs m → l ≡ m
one_longest bs l m h i =
    let size : l.size ≡ m.size = same_size bs l m h i in
    let class : l.class ≡ m.class = one_class l.class m.class (take m.size bs) (rw size at h.lexeme) i.lexeme in
    ap (λ (c : Class). lexeme c l.size) class ∙ ap (lexeme m.class) size

pub no_longest : (bs : List ℕ) (l : Lexeme) → NoLexeme bs → Longest bs l → ⊥
no_longest bs l none h = both_ways _ (none l.size l.class h.within) h.lexeme

-- no lexeme that fits begins here
abbrev Stops : List ℕ → Type 0
Stops rest = (l : Lexeme) → Longest rest l → Fits (token_of l.class (take l.size rest)) → ⊥

-- a text is cut in one way up to where it stops
record SameCut (ls ms : List Lexeme) (q r : List ℕ) : Type 0 where
  lexemes : ls ≡ ms
  rest : q ≡ r

one_cut : (ls ms : List Lexeme) (text q r : List ℕ) → Cut ls text q → Cut ms text r → Stops q → Stops r → SameCut ls ms q r
one_cut [] [] text q r c d s t = record { lexemes = refl; rest = cc }
one_cut [] (m ∷ ms) text q r c d s t = absurd (subst Stops (sym c) s m d.0 d.1)
one_cut (l ∷ ls) [] text q r c d s t = absurd (subst Stops (sym d) t l c.0 c.1)
one_cut (l ∷ ls) (m ∷ ms) text q r c d s t =
    let same : l ≡ m = one_longest text l m c.0 d.0 in
    let more : SameCut ls ms q r = one_cut ls ms (drop l.size text) q r c.2 (rw same d.2) s t in
    record { lexemes = cc; rest = more.rest }

end_stops : Stops []
end_stops l h f = no_longest [] l empty_none h

none_stops : (rest : List ℕ) → NoLexeme rest → Stops rest
none_stops rest none l h f = no_longest rest l none h

large_stops : (rest : List ℕ) (n value : ℕ) → Longest rest (lexeme numeric n) → token_of numeric (take n rest) ≡ Some (number value) → 2147483647 < value → Stops rest
large_stops rest n value h e over l i f =
    let same : l ≡ lexeme numeric n = one_longest rest l (lexeme numeric n) i h in
    let fits : value ≤ 2147483647 = subst Fits e (rw same at f) in
    omega arith

same_rest : (text : List ℕ) (p q : Position) (r s : List ℕ) → CutUpTo text p r → CutUpTo text q s → Stops r → Stops s → r ≡ s
same_rest text p q r s c d h i = (one_cut c.lexemes d.lexemes text r s c.cut d.cut h i).rest

-- a text that is cut stops at one place
one_place : (text : List ℕ) (p q : Position) (r s : List ℕ) → CutUpTo text p r → CutUpTo text q s → Stops r → Stops s → p ≡ q
one_place text p q r s c d h i =
    let e = same_rest text p q r s c d h i in
    let fronts : c.front ≡ d.front = append_cancel_right c.front d.front s (ap (λ (t : List ℕ). c.front ++ t) (sym e) ∙ sym c.parts ∙ d.parts) in
    c.place ∙ ap (behind start) fronts ∙ sym d.place

one_fault : (text : List ℕ) (f g : Fault) → RefusedByScan text f → RefusedByScan text g → f ≡ g
one_fault text f g (long h) (long i) = refl
one_fault text f g (long h) (no_token p rest c some n) = absurd (omega arith)
one_fault text f g (long h) (large p rest n value c l e o) = absurd (omega arith)
one_fault text f g (no_token p rest c some n) (long h) = absurd (omega arith)
one_fault text f g (no_token p rest c some n) (no_token q more d any m) =
    ap (λ (a : Position). record { refusal = NoToken; position = a }) (one_place text p q rest more c d (none_stops rest n) (none_stops more m))
one_fault text f g (no_token p rest c some n) (large q more k value d l e o) =
    absurd (no_longest more (lexeme numeric k) (subst NoLexeme (same_rest text p q rest more c d (none_stops rest n) (large_stops more k value l e o)) n) l)
one_fault text f g (large p rest n value c l e o) (long h) = absurd (omega arith)
one_fault text f g (large p rest n value c l e o) (no_token q more d any m) =
    absurd (no_longest rest (lexeme numeric n) (subst NoLexeme (sym (same_rest text p q rest more c d (large_stops rest n value l e o) (none_stops more m))) m) l)
one_fault text f g (large p rest n value c l e o) (large q more k worth d m i u) =
    ap (λ (a : Position). record { refusal = NumberTooLarge; position = a }) (one_place text p q rest more c d (large_stops rest n value l e o) (large_stops more k worth m i u))

-- a text is cut into one list of tokens
pub one_cutting : (text : List ℕ) (ts us : List Token) → Cuts text ts → Cuts text us → ts ≡ us
one_cutting text ts us c d =
    let same = one_cut c.lexemes d.lexemes text [] [] c.cut d.cut end_stops end_stops in
    cc

cut_or_refused : (text : List ℕ) (ts : List Token) (f : Fault) → Cuts text ts → RefusedByScan text f → ⊥
cut_or_refused text ts f c (long h) = omega arith
cut_or_refused text ts f c (no_token p rest d some n) =
    let none : [] ≡ rest = (one_cut c.lexemes d.lexemes text [] rest c.cut d.cut end_stops (none_stops rest n)).rest in
    omega (arith, ap length none)
cut_or_refused text ts f c (large p rest n value d l e o) =
    let none : [] ≡ rest = (one_cut c.lexemes d.lexemes text [] rest c.cut d.cut end_stops (large_stops rest n value l e o)).rest in
    no_longest rest (lexeme numeric n) (subst NoLexeme none empty_none) l

-- scanning has one answer
pub one_answer : (text : List ℕ) (r s : Result (List Token) Fault) → ScannedAs text r → ScannedAs text s → r ≡ s
one_answer text (Ok ts) (Ok us) h i = ap Ok (one_cutting text ts us h i)
one_answer text (Ok ts) (Err f) h i = absurd (cut_or_refused text ts f h i)
one_answer text (Err f) (Ok ts) h i = absurd (cut_or_refused text ts f i h)
one_answer text (Err f) (Err g) h i = ap Err (one_fault text f g h i)
