-- An element that was found for equal words is found.
use Rattle.std.proofs.Common.{◌≡◌, ℕ, List, ℤ, Result, subst}
use Rattle.outcomes.specs.declared.Verdict.{Verdict}
use Rattle.words.specs.declared.printing.Kind.{Kind}
use Rattle.step.specs.declared.registers.Element.{Element}
use Rattle.step.specs.Promises.{ElementFound}

pub found_at : (kind : Kind) (a b i j : ℤ) (free : ℕ) (h : List ℤ) (o : Result Element Verdict) → a ≡ b → i ≡ j → ElementFound kind a i free h o → ElementFound kind b j free h o
found_at kind a b i j free h o p q e = subst (λ z. ElementFound kind b z free h o) q (subst (λ z. ElementFound kind z i free h o) p e)
