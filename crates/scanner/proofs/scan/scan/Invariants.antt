use Rattle.std.proofs.Common.{◌≡◌, ◌+◌, ◌≤◌, length, vec_items, vec_len, vec_capacity}
use Rattle.syntax.specs.Borrowed.{tokens_meant}
use Rattle.scanner.specs.Steps.{Room}
use Rattle.syntax.proofs.Progress.{Progress}
use Rattle.scanner.proofs.scan.scan.Given as goal

-- the text is cut up to the place reached, and the tokens on the way are there
abbrev pub invariant-loop-scanner : goal.invariant-loop-scanner
invariant-loop-scanner l = record {
  progress : Progress l.text (tokens_meant (vec_items l.tokens)) l.scanner.position l.scanner.rest.now;
  room : Room l.scanner.position (length l.scanner.rest.now);
  capacity : vec_capacity l.tokens ≡ vec_capacity l.initial.tokens;
  few : vec_len l.tokens + length l.scanner.rest.now ≤ 65536;
}

abbrev pub decreases-loop-scanner : goal.decreases-loop-scanner
decreases-loop-scanner l = length l.scanner.rest.now
