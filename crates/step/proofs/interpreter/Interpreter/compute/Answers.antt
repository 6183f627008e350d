use Rattle.std.proofs.Common.{◌≡◌, ℕ, ◌+◌, ◌-◌, get_or, set, ℤ, pos, Some, Option, sym, ap, ◌∙◌, arith, w32, SFits, to_z, of_z, rules}
use Rattle.std.proofs.lemmas.Int.{to_z-of_z, to_z_pos}
use Rattle.words.specs.Arithmetic.{compute}
use Rattle.step.specs.State.{State, Step, with_operand}
use Rattle.step.specs.Stacks.{go_to, push}
use Rattle.step.specs.Perform.{result}
use Rattle.step.specs.Promises.{state_of}
use Rattle.step.proofs.Fetching.{some_is_ok}
use Rattle.step.proofs.Stacking.{pops_two, pushes, uppermost_two}
use Rattle.step.proofs.interpreter.Interpreter.compute.Goals as goal

pub returns : goal.returns
returns c =
    let i = c.args.self.now in
    let p = i.operand.now in
    let h = i.height in
    let op = c.args.operator in
    let ws = c.in_ok-a.field-0 in
    let word = c.in_ok-word.word in
    let top = uppermost_two ws i c.in_ok-a.ensures in
    let f : SFits w32 (get_or ws 0 (pos 0)) = search rules in
    let g : SFits w32 (get_or ws 1 (pos 0)) = search rules in
    let x : SFits w32 word = search rules in
    let some : compute op (get_or ws 0 (pos 0)) (get_or ws 1 (pos 0)) ≡ Some word = sym (simp to_z-of_z at c.compute.ensures) ∙ some_is_ok c.compute.result _ c.ok_or.result word c.ok_or.ensures.value c.in_ok-word.was in
    let e : compute op (get_or p (h - 2) (pos 0)) (get_or p (h - 1) (pos 0)) ≡ Some word = ap (λ z. compute op z (get_or p (h - 1) (pos 0))) (sym top.1) ∙ ap (λ z. compute op (get_or ws 0 (pos 0)) z) (sym top.2) ∙ some in
    let s : State = state_of i in
    let u : State = with_operand (h - 2) p s in
    let on : ℤ → Step = λ w. push w u (go_to (pos c.args.next)) in
    let up : h - 2 + 1 ≡ h - 1 = omega (arith, top.0) in (
      search rules,
      pops_two s (λ b a t. result (compute op a b) (λ w. push w t (go_to (pos c.args.next)))) top.0 ∙
          ap (λ (o : Option ℤ). result o on) e ∙
          pushes word u (go_to (pos c.args.next)) (omega arith) ∙
          ap (λ (n : ℕ). go_to (pos c.args.next) (with_operand n (set p (h - 2) word) u)) up ∙
          ap (λ (w : ℤ). go_to (pos c.args.next) (with_operand (h - 1) (set p (h - 2) w) u)) (sym (to_z-of_z w32 word x)) ∙
          ap (λ (z : ℤ). go_to z (with_operand (h - 1) (set p (h - 2) (to_z w32 (of_z w32 word))) u)) (sym (to_z_pos w32 c.args.next (omega arith))),
    )
