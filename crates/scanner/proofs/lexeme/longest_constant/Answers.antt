use Rattle.std.proofs.Common.{◌≡◌, get_or, refl, sym, ◌∙◌, rules, tests}
use Rattle.scanner.proofs.Finding.{no_constant, plain_found, escape_found}
use Rattle.scanner.proofs.lexeme.longest_constant.Goals as goal

pub returns-in_err-escape_value-in-39 : goal.returns-in_err-escape_value-in-39
returns-in_err-escape_value-in-39 c =
    let slash : get_or c.args.text.now 1 0 ≡ 92 = search (rules, tests) in
    let none = sym c.escape_value.ensures ∙ c.in_err-escape_value-in-39.was in
    rw c.from_residual.ensures (no_constant c.args.text.now c.requires.some c.requires.quote (λ l z. rw slash refl) (λ l s z. none))

pub returns-in_err-plain_value-in-39-2 : goal.returns-in_err-plain_value-in-39-2
returns-in_err-plain_value-in-39-2 c =
    let quote : get_or c.args.text.now 2 0 ≡ 39 = search (rules, tests) in
    let none = sym c.plain_value.ensures ∙ c.in_err-plain_value-in-39-2.was in
    rw c.from_residual-in_err-plain_value-in-39-2.ensures (no_constant c.args.text.now c.requires.some c.requires.quote (λ l z. none) (λ l s z. rw quote refl))

pub returns-in_default : goal.returns-in_default
returns-in_default c =
    let neither = no_constant c.args.text.now c.requires.some c.requires.quote in
    elim c.in_default.branch [
      | goal.in_default-via-then-text-lt3 w ↦ neither (λ l z. absurd (search (rules, tests))) (λ l s z. absurd (search (rules, tests)))
      | goal.in_default-via-else-text-lt3+then-text-lt4+in_default-1 w ↦ neither (λ l z. absurd (search (rules, tests))) (λ l s z. absurd (search (rules, tests)))
      | goal.in_default-via-else-text-lt3+else-text-lt4+in-39+in_default+in_default-text-5 w ↦ neither (λ l z. absurd (search (rules, tests))) (λ l s z. absurd (search (rules, tests)))
      | goal.in_default-via-else-text-lt3+else-text-lt4+in_default-1 w ↦ neither (λ l z. absurd (search (rules, tests))) (λ l s z. absurd (search (rules, tests)))
      | goal.in_default-via-else-text-lt3+in_default w ↦ neither (λ l z. absurd (search (rules, tests))) (λ l s z. absurd (search (rules, tests)))
    ]

pub returns : goal.returns
returns c =
    let text = c.args.text.now in
    elim c.if-text-lt4.branch [
      | goal.in-39+in_ok-escape_value-in-39 w ↦ rw w.size-is
          (escape_found text _ (search (rules, tests)) c.requires.quote (search (rules, tests)) (search (rules, tests)) (sym w.escape_value.ensures ∙ w.in_ok-escape_value-in-39.was))
      | goal.in-39-2+in_ok-plain_value-in-39-2 w ↦ rw w.size-is
          (plain_found text _ (search (rules, tests)) c.requires.quote (search (rules, tests)) (sym w.plain_value.ensures ∙ w.in_ok-plain_value-in-39-2.was))
    ]
