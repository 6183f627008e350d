use Rattle.std.proofs.Common.{◌≡◌, ◌-◌, ◌^◌, ◌<◌, ◌∷◌, ◌++◌, length, take, nat_abs, decimal, sym, ap, ◌∙◌, arith, w32, SFits}
use Rattle.std.proofs.lemmas.Fmt.{decimal_nonempty}
use Rattle.std.proofs.lemmas.Int.{to_z-of_z}
use Rattle.words.proofs.Blanks.{signed_negative, sets_before}
use Rattle.words.proofs.text.write_number.Goals as goal

pub returns-then-value-lt0 : goal.returns-then-value-lt0
returns-then-value-lt0 c =
    let f : SFits w32 c.args.value = c.ranges.value in
    let old = c.args.out.now in
    let w = c.write_digits-at in
    let n = c.unsigned_abs.result in
    let e : n ≡ nat_abs c.args.value = simp to_z-of_z at c.unsigned_abs.ensures.value in
    let small : n < 2 ^ 64 = omega arith in
    let minus = signed_negative c.args.value (simp to_z-of_z at c.if-value-lt0.true) ∙ ap (λ k. 45 ∷ decimal k) (sym e) in
    record {
      text = sets_before 45 w.result w.new.out old (decimal n) (omega arith) (omega arith) (decimal_nonempty n small) w.ensures.text ∙ ap (λ l. take (w.result - 1) old ++ l) (sym minus);
      place = omega (arith, ap length minus);
    }
