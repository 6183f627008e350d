use Rattle.std.proofs.Common.{sym, refl, ap, ◌∙◌, rules, tests}
use Rattle.syntax.specs.Lexemes.{blank, comment, namelike, numeric, token_of, is_name_part, is_digit}
use Rattle.syntax.proofs.Longest.{in_line}
use Rattle.scanner.proofs.Finding.{run_size, word_found, number_found, blank_found, comment_found}
use Rattle.scanner.proofs.lexeme.longest_lexeme.Goals as goal

pub returns-then-is_ascii_alphabetic : goal.returns-then-is_ascii_alphabetic
returns-then-is_ascii_alphabetic c =
    let text = c.args.text.now in
    let word = c.run-word.ensures in
    record {
      class = namelike;
      longest = word_found text _ c.requires (sym c.if-is_ascii_alphabetic.ensures.value) (run_size is_name_part _ text _ (λ b r h. search (rules, tests)) word);
      token = c.word_kind.ensures ∙ ap (token_of namelike) word.front;
    }

pub returns-then-is_ascii_digit : goal.returns-then-is_ascii_digit
returns-then-is_ascii_digit c =
    let text = c.args.text.now in
    let digits = c.run-digits.ensures in
    record {
      class = numeric;
      longest = number_found text _ c.requires (sym c.if-is_ascii_digit.ensures.value) (run_size is_digit _ text _ (λ b r h. search (rules, tests)) digits);
      token = ap (token_of numeric) digits.front;
    }

pub returns-then-is_blank : goal.returns-then-is_blank
returns-then-is_blank c = record { class = blank; longest = blank_found c.args.text.now c.requires (sym c.if-is_blank.ensures); token = refl }

pub returns-then-starts_with : goal.returns-then-starts_with
returns-then-starts_with c =
    let text = c.args.text.now in
    record {
      class = comment;
      longest = comment_found text _ c.if-starts_with.ensures.value (run_size in_line _ text _ (λ b r h. search (rules, tests)) c.run-comment.ensures);
      token = refl;
    }
