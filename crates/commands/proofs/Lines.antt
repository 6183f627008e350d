-- A listing, line by line.
use Rattle.std.proofs.Common.{◌≡◌, ℕ, zero, suc, ◌+◌, ◌≤◌, List, [], ◌++◌, length, get_or, drop, Some, None, sym, refl, ap, ◌∙◌, append_assoc, append-nil, arith, length-drop}
use Rattle.std.proofs.lemmas.List.{drop_all}
use Rattle.instructions.specs.Decode.{decoded}
use Rattle.instructions.specs.declared.Decoded.{Decoded}
use Rattle.object.proofs.Sizes.{decoded_size}
use Rattle.commands.specs.declared.answer.Summary.{Summary}
use Rattle.commands.specs.Listing.{line_of, line_then, lines, listing_of}
use Rattle.commands.specs.Report.{summary_line}

-- what is written and what is left make the whole
pub record Left (summary : Summary) (code text : List ℕ) (at : ℕ) : Type 0 where
  pub most : ℕ
  pub enough : length code ≤ most + at
  pub inside : at ≤ length code
  pub whole : text ++ lines most at code ≡ listing_of summary code

pub left_all : (s : Summary) (code : List ℕ) → Left s code (summary_line s) 0
left_all s code = record { most = length code; enough = omega arith; inside = omega arith; whole = refl }

lines_more : (most at : ℕ) (code : List ℕ) (d : Decoded) → length code ≤ most + at → decoded (drop at code) ≡ Some d → (n : ℕ) × (most ≡ suc n) × (lines most at code ≡ line_of at (get_or code at 0) d ++ lines n (at + d.size) code)
unfolding lines
lines_more zero at code d h e = let z : None ≡ Some d = sym (ap decoded (drop_all at code (omega arith))) ∙ e in absurd cc
lines_more (suc n) at code d h e = (n, refl, ap (λ o. line_then at code o (λ x. lines n (at + x.size) code)) e)

pub left_more : (s : Summary) (code text more : List ℕ) (at : ℕ) (d : Decoded) → Left s code text at → decoded (drop at code) ≡ Some d → more ≡ text ++ line_of at (get_or code at 0) d → Left s code more (at + d.size)
left_more s code text more at d l e w =
    let size = decoded_size (drop at code) d e in
    let f = lines_more l.most at code d l.enough e in
    record {
      most = f.0;
      enough = omega (arith, f.1, l.enough, size.some);
      inside = omega (arith, simp length-drop at size.within, l.inside);
      whole = ap (λ t. t ++ lines f.0 (at + d.size) code) w ∙ append_assoc text _ _ ∙ ap (λ t. text ++ t) (sym f.2) ∙ l.whole;
    }

lines_none : (most at : ℕ) (code : List ℕ) → decoded (drop at code) ≡ None → lines most at code ≡ []
unfolding lines
lines_none zero at code e = refl
lines_none (suc n) at code e = ap (λ o. line_then at code o (λ x. lines n (at + x.size) code)) e

pub left_none : (s : Summary) (code text : List ℕ) (at : ℕ) → Left s code text at → decoded (drop at code) ≡ None → text ≡ listing_of s code
left_none s code text at l e = sym (append-nil text) ∙ ap (λ t. text ++ t) (sym (lines_none l.most at code e)) ∙ l.whole
