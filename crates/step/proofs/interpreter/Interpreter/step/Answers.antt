use Rattle.std.proofs.Common.{◌≡◌, ◌+◌, pos, nat_abs, Some, None, Option, OnSome, sym, refl, ap, ◌∙◌, subst, w32, SFits, rules}
use Rattle.std.proofs.lemmas.Int.{to_z-of_z}
use Rattle.instructions.specs.declared.Decoded.{Decoded}
use Rattle.std.proofs.lemmas.Result.{err_from_is_err_and}
use Rattle.step.specs.State.{State, Step, ends}
use Rattle.step.specs.Perform.{step, fetched, performed, perform}
use Rattle.step.specs.Promises.{Did, InCode, state_of}
use Rattle.step.proofs.Fetching.{next_is, none_is_err, some_is_ok}
use Rattle.step.proofs.interpreter.Interpreter.step.Goals as goal

pub returns-in_err-found : goal.returns-in_err-found
unfolding step
returns-in_err-found c =
    let a = c.args.self.now in
    let p = err_from_is_err_and c.from_residual.result c.from_residual.ensures.1 in
    let none = none_is_err c.fetch.result _ c.ok_or.result c.in_err-found.field-0.0 c.ok_or.ensures.value c.in_err-found.was in
    let e : fetched a.code.now a.pc ≡ None = sym c.fetch.ensures.value ∙ none.0 in
    rw (p.1, p.2)
    (search rules, (ap (λ o. performed o (state_of a)) e ∙ ap ends (sym none.1), refl))

pub returns : goal.returns
unfolding step
returns c =
    let a = c.args.self.now in
    let s : State = state_of a in
    let t : State = state_of c.perform.new.self in
    let d = c.in_ok-found.found in
    let some : c.fetch.result ≡ Some d = some_is_ok c.fetch.result _ c.ok_or.result d c.ok_or.ensures.value c.in_ok-found.was in
    let e : fetched a.code.now a.pc ≡ Some d = sym c.fetch.ensures.value ∙ some in
    let within : InCode a.pc = subst (λ (o : Option Decoded). OnSome o (InCode a.pc)) some c.fetch.ensures.inside in
    let f : SFits w32 a.pc = search rules in
    let same : perform d.instruction (pos (nat_abs a.pc + d.size)) s ≡ performed (fetched a.code.now a.pc) s =
    ap (λ z. perform d.instruction z s) (next_is a.pc d.size within) ∙ ap (λ o. performed o s) (sym e) in
    let P : Step → Type 0 = λ x. Did c.perform.result x s t in
    (c.perform.ensures.0, subst P same (simp to_z-of_z at c.perform.ensures.1))
