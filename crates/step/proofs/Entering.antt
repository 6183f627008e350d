-- The entry of a method, where each of its tests is passed.
use Rattle.std.proofs.Common.{◌≡◌, ℕ, ◌+◌, ◌-◌, ◌≤◌, length, ℤ, ◌∙◌}
use Rattle.std.proofs.lemmas.Bool.{cond-true, le-leb}
use Rattle.step.specs.State.{State}
use Rattle.step.specs.Stacks.{go_to}
use Rattle.step.specs.Calls.{enter, entered}

pub enters : (parameters locals : ℕ) (next : ℤ) (s : State) → parameters ≤ locals → s.registers.top + 1 + locals ≤ length s.call → parameters ≤ s.registers.height → s.registers.height - parameters + 32 ≤ length s.operand →
    enter parameters locals next s ≡ go_to next (entered parameters locals s)
enters parameters locals next s few fits there free =
    cond-true _ _ _ (le-leb _ _ few) ∙ cond-true _ _ _ (le-leb _ _ fits) ∙ cond-true _ _ _ (le-leb _ _ there) ∙ cond-true _ _ _ (le-leb _ _ free)
