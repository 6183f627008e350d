use Rattle.std.proofs.Common.{◌≡◌, ◌+◌, ◌-◌, ◌/◌, ◌%◌, ◌++◌, length, take, drop, set, decimal, sym, refl, ap, ◌∙◌, append-nil, arith, length-set}
use Rattle.std.proofs.lemmas.List.{drop_all, take-set, take-take}
use Rattle.std.proofs.lemmas.Fmt.{decimal_digit}
use Rattle.words.proofs.Digits.{ten_at_most, some_digit, reaches, again, whole}
use Rattle.words.proofs.printing.write_digits.Goals as goal

pub loop-rest-init : goal.loop-rest-init
loop-rest-init c =
    let none = drop_all 255 c.args.out.now (omega arith) in
    (omega arith, omega arith, c.told-out, refl, ap (λ l. decimal c.args.n ++ l) none ∙ append-nil (decimal c.args.n))

pub overflow_sub-at : goal.overflow_sub-at
overflow_sub-at c =
    let l = c.loop-rest in
    omega (arith, reaches c.args.n l.rest l.at l.out (omega arith) l.invariant.0 l.invariant.2 l.invariant.4, some_digit l.rest l.invariant.1, ten_at_most c.args.n (omega arith))

pub loop-rest-preserved : goal.loop-rest-preserved
loop-rest-preserved c =
    let l = c.loop-rest in
    let d = 48 + l.rest % 10 in
    let here : l.at - 1 + 1 ≡ l.at = omega (arith, reaches c.args.n l.rest l.at l.out (omega arith) l.invariant.0 l.invariant.2 l.invariant.4, some_digit l.rest l.invariant.1, ten_at_most c.args.n (omega arith)) in
    let front : take l.at (set l.out l.at d) ≡ take l.at c.args.out.now =
    take-set l.out l.at d ∙ sym (take-take l.at (l.at + 1) l.out (omega arith)) ∙ ap (take l.at) l.invariant.3 ∙ take-take l.at (l.at + 1) c.args.out.now (omega arith) in (
      omega arith,
      omega arith,
      simp length-set l.invariant.2,
      ap (λ k. take k (set l.out l.at d)) here ∙ front ∙ ap (λ k. take k c.args.out.now) (sym here),
      ap (λ k. decimal (l.rest / 10) ++ drop k (set l.out l.at d)) here ∙ again c.args.n l.rest l.at l.out l.invariant.1 c.loop-rest-test.true (omega arith) l.invariant.4,
    )

pub returns : goal.returns
returns c =
    let l = c.loop-rest in
    record {
      text = whole c.args.n l.rest l.at l.out c.args.out.now c.loop-rest-test.false (omega arith) l.invariant.3 l.invariant.4;
      place = omega (arith, reaches c.args.n l.rest l.at l.out (omega arith) l.invariant.0 l.invariant.2 l.invariant.4, ap length (decimal_digit l.rest c.loop-rest-test.false));
      short = ten_at_most c.args.n (omega arith);
    }
