-- A run in two parts.
use Rattle.std.proofs.Common.{◌≡◌, ℕ, zero, suc, ◌+◌, List, Some, None, Option, refl, ap, ◌∙◌, add-zero, add-suc}
use Rattle.machine.specs.Runs.{Scene, onward, after}
use Rattle.machine.specs.Laws.{after_more}

none_more : (code : List ℕ) (o : Option Scene) → o ≡ after_more 0 code o
unfolding after
none_more code None = refl
none_more code (Some s) = refl

one_more : (n : ℕ) (code : List ℕ) (o : Option Scene) → onward code (after_more n code o) ≡ after_more (suc n) code o
unfolding after
one_more n code None = refl
one_more n code (Some s) = refl

pub runs_compose : (m n : ℕ) (code : List ℕ) (s : Scene) → after (m + n) code s ≡ after_more n code (after m code s)
unfolding after
runs_compose m zero code s = ap (λ k. after k code s) (add-zero m) ∙ none_more code (after m code s)
runs_compose m (suc n) code s = ap (λ k. after k code s) (add-suc m n) ∙ ap (onward code) (runs_compose m n code s) ∙ one_more n code (after m code s)
