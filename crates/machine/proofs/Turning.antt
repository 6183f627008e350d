-- A word taken, and bytes written, as a turn.
use Rattle.std.proofs.Common.{◌≡◌, ℕ, ◌+◌, ◌-◌, true, cond, leb, List, ◌∷◌, ◌++◌, length, ℤ, sym, ap, ◌∙◌, arith}
use Rattle.std.proofs.lemmas.Bool.{le-leb}
use Rattle.outcomes.specs.declared.Pause.TheVariants.{Output}
use Rattle.step.specs.State.{State}
use Rattle.machine.specs.Runs.{view, scene, goes, pauses, with_word, with_bytes}

pub word_taken : (f : ℤ → State) (ws ws' : List ℤ) (bs bs' : List ℕ) (n n' : ℕ) (w : ℤ) (t : State) → ws ≡ w ∷ ws' → bs' ≡ bs → n' ≡ n → t ≡ f w → with_word f (view ws bs n) ws ≡ goes (scene t (view ws' bs' n'))
word_taken f ws ws' bs bs' n n' w t e b r s =
    ap (with_word f (view ws bs n)) e ∙ ap (λ x. goes (scene x (view ws' bs n))) (sym s) ∙ ap (λ x. goes (scene t (view ws' x n))) (sym b) ∙ ap (λ x. goes (scene t (view ws' bs' x))) (sym r)

pub bytes_put : (bytes : List ℕ) (s t : State) (ws ws' : List ℤ) (bs bs' : List ℕ) (n n' : ℕ) → n ≡ n' + length bytes → bs' ≡ bs ++ bytes → ws' ≡ ws → t ≡ s → with_bytes bytes s (view ws bs n) ≡ goes (scene t (view ws' bs' n'))
bytes_put bytes s t ws ws' bs bs' n n' r b w e =
    let fits : leb (length bytes) n ≡ true = le-leb (length bytes) n (omega arith) in
    let left : n - length bytes ≡ n' = omega arith in
    ap (λ x. cond x (goes (scene s (view ws (bs ++ bytes) (n - length bytes)))) (pauses Output)) fits ∙
    ap (λ x. goes (scene s (view ws (bs ++ bytes) x))) left ∙ ap (λ x. goes (scene s (view ws x n'))) (sym b) ∙ ap (λ x. goes (scene s (view x bs' n'))) (sym w) ∙ ap (λ x. goes (scene x (view ws' bs' n'))) (sym e)
