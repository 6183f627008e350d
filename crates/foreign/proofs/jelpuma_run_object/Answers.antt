use Rattle.std.proofs.Common.{rules}
use mathlib.Core.Logic.{inr}
use mathlib.Core.Path.{refl, sym, ap, subst, ◌∙◌}
use native.Mathlib.Omega.{arith}
use lib.ListN.{set}
use lib.Seq.{get_or-set_same}
use Rattle.outcomes.specs.Numbers.{number_of_refusal}
use Rattle.foreign.specs.Reports.{Declines, file, store, short}
use Rattle.foreign.proofs.jelpuma_run_object.Goals as goal

pub returns-then-report-lt5 : goal.returns-then-report-lt5
returns-then-report-lt5 c = inr (short c.if-report-lt5.true, refl)

pub returns-in-Err : goal.returns-in-Err
returns-in-Err c =
    let at = get_or-set_same c.args.report.now 0 c.in-Err.fault.offset 0 (omega arith) in
    inr (subst (Declines c.args.object.now _ (set c.args.report.now 0 c.in-Err.fault.offset)) (sym c.number.ensures) (file c.in-Err.fault c.in-Err.ensures at), refl)

pub returns-in-Err-start : goal.returns-in-Err-start
returns-in-Err-start c =
    let s = c.in-Err-start.ensures.started in
    let i = c.in-Ok.ensures in
    inr (subst (Declines c.args.object.now _ (set c.args.report.now 0 0)) (sym (c.number-in-Err-start.ensures ∙ ap number_of_refusal s.0)) (store c.in-Ok.checked i.0 i.1 s.1), search (rules, s.2))
