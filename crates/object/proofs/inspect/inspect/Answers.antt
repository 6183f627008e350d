use Rattle.std.proofs.Common.{None, Some, sym, subst, arith}
use Rattle.std.proofs.lemmas.Result.{err_from_is_err_and}
use Rattle.object.specs.Targets.{Lowest, UnfitTargetAt}
use Rattle.object.specs.Inspection.{RefusedFor, instruction, target}
use Rattle.object.proofs.inspect.inspect.Goals as goal

pub returns-in_err-starts : goal.returns-in_err-starts
returns-in_err-starts c =
    let p = err_from_is_err_and c.from_residual-in_err-starts.result c.from_residual-in_err-starts.ensures.1 in
    let f = c.in_err-starts.field-0.0 in
    let e = c.in_err-starts.ensures in
    rw (p.1, p.2) (subst (λ r. RefusedFor c.args.bytes.now (record { refusal = r; offset = f.offset })) (sym e.0) (instruction _ _ c.in_ok-header.ensures e.1))

pub returns-in-Some : goal.returns-in-Some
returns-in-Some c =
    let h = c.in_ok-header.header in
    let s = c.in_ok-starts.ensures in
    let low : Lowest (UnfitTargetAt h.code.now h.main) (Some c.in-Some.offset) = subst (λ code. Lowest (UnfitTargetAt code h.main) (Some c.in-Some.offset)) s.0 c.in-Some.ensures in
    target _ _ c.in_ok-header.ensures s.1 low

pub invariant_of-result : goal.invariant_of-result
invariant_of-result c =
    let h = c.in_ok-header.header in
    let s = c.in_ok-starts.ensures in
    let l = c.in_ok-header.ensures.limits in
    record {
      limits = record { code_some = l.code_some; code_short = l.code_short; globals_few = omega (arith, l.globals_few); main_inside = l.main_inside };
      whole = s.1;
      targets = subst (λ code. Lowest (UnfitTargetAt code h.main) None) s.0 c.in_default.ensures;
    }

pub returns : goal.returns
returns c = (c.in_ok-header.ensures.file, invariant_of-result c)
