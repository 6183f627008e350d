use Rattle.std.proofs.Common.{◌≡◌, ◌+◌, ◌%◌, ◌^◌, get_or, pos, ◌+ℤ◌, ap, ◌∙◌, arith, w8, w32, SFits, to_z, of_z, rules}
use Rattle.std.proofs.lemmas.Int.{to_z-of_z, wrapping_add_is}
use Rattle.words.specs.Arithmetic.{wrap}
use Rattle.step.proofs.interpreter.Interpreter.increment.Goals as goal

pub returns : goal.returns
unfolding wrap
returns c =
    let x = get_or c.args.self.now.call.now c.in_ok-at.at (pos 0) in
    let by = c.args.by in
    let f : SFits w32 x = search rules in
    let g : SFits w32 by = record { sfits = omega (arith, c.ranges.by.sfits) } in
    let e : to_z w32 ((of_z w32 x + of_z w32 (to_z w8 (of_z w8 by))) % 2 ^ 32) ≡ wrap (x +ℤ by) = ap (λ z. to_z w32 ((of_z w32 x + of_z w32 z) % 2 ^ 32)) (to_z-of_z w8 by c.ranges.by) ∙ wrapping_add_is w32 x by f g in
    search (rules, e)
