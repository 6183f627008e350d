use Rattle.std.proofs.Common.{◌+◌, set, ap, ◌∙◌, arith, rules, ℤ, w32, SFits}
use Rattle.std.proofs.lemmas.Int.{to_z-of_z}
use Rattle.step.specs.State.{State, with_call}
use Rattle.step.specs.Stacks.{word_at}
use Rattle.step.specs.Promises.{state_of}
use Rattle.step.proofs.Passing.{passed_more}
use Rattle.step.proofs.interpreter.Interpreter.pass_arguments.Goals as goal

pub loop-k-preserved : goal.loop-k-preserved
loop-k-preserved c =
    let i = c.args.self.now in
    let l = c.loop-k in
    let a = c.args in
    let f : SFits w32 (word_at l.self.operand.now (a.left + l.k)) = search rules in
    let same = l.invariant.1 in (
      search rules,
      ap (λ (w : ℤ). with_call l.self.frame l.self.top (set l.self.call.now (a.first + l.k) w) (state_of l.self)) (to_z-of_z w32 (word_at l.self.operand.now (a.left + l.k)) f) ∙
          ap (λ (s : State). with_call s.registers.frame s.registers.top (set s.call (a.first + l.k) (word_at s.operand (a.left + l.k))) s) same ∙
          ap (λ x. with_call i.frame i.top x (state_of i)) (passed_more i.call.now i.operand.now a.first a.left l.k (omega arith) (omega arith)),
    )
