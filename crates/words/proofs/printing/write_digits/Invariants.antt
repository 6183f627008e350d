use Rattle.std.proofs.Common.{◌≡◌, ◌+◌, ◌^◌, ◌<◌, ◌≤◌, ◌++◌, length, take, drop, decimal}
use Rattle.words.proofs.printing.write_digits.Given as goal

abbrev pub invariant-loop-rest : goal.invariant-loop-rest
invariant-loop-rest l =
    (l.at ≤ 254) × (l.rest < 2 ^ 32) × (length l.out ≡ 255) ×
    (take (l.at + 1) l.out ≡ take (l.at + 1) l.initial.out) ×
    (decimal l.rest ++ drop (l.at + 1) l.out ≡ decimal l.n)

abbrev pub decreases-loop-rest : goal.decreases-loop-rest
decreases-loop-rest l = l.rest
