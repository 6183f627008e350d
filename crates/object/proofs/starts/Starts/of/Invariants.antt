use Rattle.std.proofs.Common.{◌≡◌, ℕ, ◌-◌, ◌<◌, ◌≤◌, true, false, length, get_or}
use Rattle.object.specs.Code.{Boundary, Begins}
use Rattle.object.proofs.starts.Starts.of.Given as goal

abbrev pub invariant-loop-at : goal.invariant-loop-at
invariant-loop-at l = record {
  boundary : Boundary l.code l.at;
  within : l.at ≤ length l.code;
  long : length l.marks ≡ 8192;
  sound : (k : ℕ) → get_or l.marks k false ≡ true → Begins l.code k;
  complete : (k : ℕ) → Boundary l.code k → k < l.at → get_or l.marks k false ≡ true;
}

abbrev pub decreases-loop-at : goal.decreases-loop-at
decreases-loop-at l = length l.code - l.at
