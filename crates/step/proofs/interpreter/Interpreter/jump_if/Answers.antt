use Rattle.std.proofs.Common.{◌≡◌, ◌-◌, Bool, true, cond, get_or, ℤ, pos, ◌+ℤ◌, sym, ap, ◌∙◌, arith, w16, w32, SFits, to_z, of_z, rules}
use Rattle.std.proofs.lemmas.Int.{ints, to_z-of_z}
use Rattle.words.specs.Arithmetic.{holds}
use Rattle.step.specs.State.{State, with_operand}
use Rattle.step.specs.Stacks.{go_to}
use Rattle.step.specs.Promises.{state_of}
use Rattle.step.proofs.Stacking.{pops_two, uppermost_two}
use Rattle.step.proofs.interpreter.Interpreter.jump_if.Goals as goal

pub returns-then-holds : goal.returns-then-holds
returns-then-holds c =
    let i = c.args.self.now in
    let p = i.operand.now in
    let h = i.height in
    let s : State = state_of i in
    let ws = c.in_ok-a.field-0 in
    let top = uppermost_two ws i c.in_ok-a.ensures in
    let f : SFits w32 (get_or ws 0 (pos 0)) = search rules in
    let g : SFits w32 (get_or ws 1 (pos 0)) = search rules in
    let r = c.args.relation in
    let e : true ≡ holds r (get_or ws 0 (pos 0)) (get_or ws 1 (pos 0)) = simp to_z-of_z at c.if-holds.ensures in
    let e' : true ≡ holds r (get_or p (h - 2) (pos 0)) (get_or p (h - 1) (pos 0)) = e ∙ ap (λ z. holds r z (get_or ws 1 (pos 0))) top.1 ∙ ap (λ z. holds r (get_or p (h - 2) (pos 0)) z) top.2 in
    let t : i.pc +ℤ c.args.by ≡ to_z w32 (of_z w32 (to_z w32 (of_z w32 i.pc) +ℤ to_z w32 (of_z w32 (to_z w16 (of_z w16 c.args.by))))) = omega (arith, ints) in (
      search rules,
      pops_two s (λ b a u. go_to (cond (holds r a b) (i.pc +ℤ c.args.by) (pos c.args.next)) u) top.0 ∙
          ap (λ (b : Bool). go_to (cond b (i.pc +ℤ c.args.by) (pos c.args.next)) (with_operand (h - 2) p s)) (sym e') ∙
          ap (λ (z : ℤ). go_to z (with_operand (h - 2) p s)) t,
    )
