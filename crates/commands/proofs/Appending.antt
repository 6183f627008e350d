-- One word more, at the end of a list that is written as text.
use Rattle.std.proofs.Common.{◌≡◌, List, [], ◌∷◌, ◌++◌, ℕ, ℤ, ap, append_assoc, append-nil}
use Rattle.std.specs.Fmt.{signed_decimal}
use Rattle.commands.specs.Words.{each_behind}

pub each_behind_push : (mark : List ℕ) (ws : List ℤ) (w : ℤ) → each_behind mark (ws ++ w ∷ []) ≡ each_behind mark ws ++ (mark ++ signed_decimal w)
each_behind_push mark [] w = ap (λ l. mark ++ l) (append-nil (signed_decimal w))
each_behind_push mark (v ∷ ws) w = simp append_assoc (ap (λ l. mark ++ (signed_decimal v ++ l)) (each_behind_push mark ws w))
