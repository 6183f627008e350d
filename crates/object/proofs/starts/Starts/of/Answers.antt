use Rattle.std.proofs.Common.{◌≡◌, drop, Some, sym, ap, ◌∙◌, arith, length-drop, length-set}
use Rattle.std.proofs.lemmas.List.{take_rest}
use Rattle.std.proofs.lemmas.Bool.{both_ways}
use Rattle.instructions.specs.Decode.{decoded}
use Rattle.object.proofs.Boundaries.{boundary_first, boundary_next}
use Rattle.object.proofs.Marking.{all_blank, marks_sound, marks_complete}
use Rattle.object.proofs.Sizes.{decoded_size}
use Rattle.object.proofs.starts.Starts.of.Goals as goal

pub loop-at-init : goal.loop-at-init
loop-at-init c = record { boundary = boundary_first _; within = omega arith; long = c.told-marks; sound = λ k e. absurd (both_ways _ (rw c.requires.blank (all_blank 8192 k)) e); complete = λ k b l. absurd (omega arith) }

reads : (c : goal.After-struct_known-1) → decoded (drop c.loop-at.at c.args.code.now) ≡ Some c.in_ok-found.found
reads c =
    let found : c.decode.result ≡ Some c.in_ok-found.found = grind arith in
    ap decoded (sym (take_rest c.args.code.now c.loop-at.at)) ∙ sym c.decode.ensures ∙ found

pub loop-at-smaller : goal.loop-at-smaller
loop-at-smaller c = let d = c.in_ok-found.found in omega (arith, (decoded_size (drop c.loop-at.at c.args.code.now) d (reads c)).some)

pub loop-at-preserved : goal.loop-at-preserved
loop-at-preserved c =
    let code = c.args.code.now in
    let l = c.loop-at in
    let d = c.in_ok-found.found in
    let s = simp length-drop at (decoded_size (drop l.at code) d (reads c)).within in
    record {
      boundary = boundary_next code l.at d l.invariant.boundary (reads c);
      within = omega (arith, s);
      long = simp length-set l.invariant.long;
      sound = λ k e. marks_sound code l.marks l.at k (record { boundary = l.invariant.boundary; inside = c.loop-at-test.true }) l.invariant.sound e;
      complete = λ k b h. marks_complete code l.marks l.at k d (omega arith) l.invariant.boundary (reads c) l.invariant.complete b h;
    }
