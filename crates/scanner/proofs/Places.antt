-- Positions behind bytes.
use Rattle.std.proofs.Common.{ℕ, suc, ◌+◌, ◌≤◌, Bool, true, false, cond, eqb, List, [], ◌∷◌, length, take, drop, arith}
use Rattle.std.proofs.lemmas.List.{length-drop, length-take-le}
use Rattle.outcomes.specs.declared.Position.{Position}
use Rattle.syntax.specs.Tokens.{behind}
use Rattle.scanner.specs.Steps.{Room}

abbrev pub at : ℕ → ℕ → Position
at line column = record { line = line; column = column }

-- a byte adds at most 1 to the line and to the column
record Near (p q : Position) (n : ℕ) : Type 0 where
  line : q.line ≤ p.line + n
  column : q.column ≤ p.column + n

behind_near : (p : Position) (bs : List ℕ) → Near p (behind p bs) (length bs)
behind_near p [] = record { line = omega arith; column = omega arith }
behind_near p (b ∷ bs) = one (eqb b 10) (behind_near (at (p.line + 1) 1) bs) (behind_near (at p.line (p.column + 1)) bs)
  where
    one :
        (t : Bool) → Near (at (p.line + 1) 1) (behind (at (p.line + 1) 1) bs) (length bs) → Near (at p.line (p.column + 1)) (behind (at p.line (p.column + 1)) bs) (length bs) →
        Near p (behind (cond t (at (p.line + 1) 1) (at p.line (p.column + 1))) bs) (suc (length bs))
    one true feed other = record { line = omega (arith, feed.line); column = omega (arith, feed.column) }
    one false feed other = record { line = omega (arith, other.line); column = omega (arith, other.column) }

pub room_more : (p : Position) (rest : List ℕ) (n : ℕ) → n ≤ length rest → Room p (length rest) → Room (behind p (take n rest)) (length (drop n rest))
room_more p rest n l r =
    let near = behind_near p (take n rest) in
    let front = length-take-le n rest l in
    let back = length-drop n rest in
    record { lines = omega (arith, near.line, front, back, r.lines); columns = omega (arith, near.column, front, back, r.columns) }
