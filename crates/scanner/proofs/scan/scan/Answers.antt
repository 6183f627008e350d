use Rattle.std.proofs.Common.{List, vec_items, sym, refl, subst, arith, rules, tests}
use Rattle.std.proofs.lemmas.List.{append-nil}
use Rattle.std.proofs.lemmas.Result.{err_from_is_err_and}
use Rattle.syntax.specs.declared.token.Token.{Token as BorrowedToken}
use Rattle.syntax.specs.Tokens.{start}
use Rattle.syntax.specs.Borrowed.{tokens_meant}
use Rattle.syntax.specs.Scanning.{long}
use Rattle.scanner.specs.Steps.{Taken}
use Rattle.syntax.proofs.Progress.{Progress, no_progress, progress_ends}
use Rattle.scanner.proofs.Stepping.{step_progress, step_room, step_shorter, step_refused}
use Rattle.scanner.proofs.scan.scan.Goals as goal

pub returns-then-text-gt-LONGEST_TEXT-clause-scanned : goal.returns-then-text-gt-LONGEST_TEXT-clause-scanned
returns-then-text-gt-LONGEST_TEXT-clause-scanned c = long c.if-text-gt-LONGEST_TEXT.true

pub loop-scanner-init : goal.loop-scanner-init
loop-scanner-init c =
    let text = c.args.text.now in
    record {
      progress = subst (λ (ts : List BorrowedToken). Progress text (tokens_meant ts) start text) (sym c.clear.ensures.items) (no_progress text);
      room = record { lines = omega arith; columns = omega arith };
      capacity = refl;
      few = omega (arith, c.clear.ensures.len);
    }

pub returns-in_err-token-clause-scanned : goal.returns-in_err-token-clause-scanned
returns-in_err-token-clause-scanned c =
    let p = err_from_is_err_and c.from_residual.result c.from_residual.ensures.1 in
    rw (p.1, p.2)
    (step_refused c.args.text.now _ _ _ c.in_err-token.field-0.0 c.if-text-gt-LONGEST_TEXT.false c.loop-scanner.invariant.progress (search (rules, tests)) c.in_err-token.ensures)

pub loop-scanner-smaller-in-Some : goal.loop-scanner-smaller-in-Some
loop-scanner-smaller-in-Some c = step_shorter c.loop-scanner.scanner c.next.new.self _ c.in_ok-token.ensures

pub loop-scanner-preserved-in-Some : goal.loop-scanner-preserved-in-Some
loop-scanner-preserved-in-Some c =
    let s = c.loop-scanner.scanner in
    let t = c.next.new.self in
    let step = subst (Taken s t) c.in-Some.is c.in_ok-token.ensures in
    record {
      progress = step_progress c.args.text.now (vec_items c.loop-scanner.tokens) (vec_items c.push_reserved.new.self) s t _ c.loop-scanner.invariant.progress step c.push_reserved.ensures.items;
      room = step_room s t _ step c.loop-scanner.invariant.room;
      capacity = cc (c.push_reserved.ensures.capacity, c.loop-scanner.invariant.capacity);
      few = omega (arith, step_shorter s t _ step, c.push_reserved.ensures.len);
    }

pub loop-scanner-smaller : goal.loop-scanner-smaller
loop-scanner-smaller c = step_shorter c.loop-scanner.scanner c.next.new.self _ c.in_ok-token.ensures

pub loop-scanner-preserved : goal.loop-scanner-preserved
loop-scanner-preserved c =
    let s = c.loop-scanner.scanner in
    let t = c.next.new.self in
    let step = subst (Taken s t) c.in_default.is c.in_ok-token.ensures in
    record {
      progress = step_progress c.args.text.now (vec_items c.loop-scanner.tokens) (vec_items c.loop-scanner.tokens) s t _ c.loop-scanner.invariant.progress step (sym (append-nil _));
      room = step_room s t _ step c.loop-scanner.invariant.room;
      capacity = c.loop-scanner.invariant.capacity;
      few = omega (arith, step_shorter s t _ step);
    }

pub returns-clause-end : goal.returns-clause-end
returns-clause-end c = progress_ends c.args.text.now _ _ _ c.loop-scanner.invariant.progress (search (rules, tests))
