-- Digits written from the end of a buffer of 255 bytes.
use Rattle.std.proofs.Common.{◌≡◌, ℕ, suc, ◌+◌, ◌-◌, ◌/◌, ◌%◌, ◌^◌, ◌<◌, ◌≤◌, List, [], ◌∷◌, ◌++◌, length, take, drop, set, decimal, sym, ap, ◌∙◌, append_assoc, arith, length-append, length-drop}
use Rattle.std.proofs.lemmas.Fmt.{length-decimal-le, decimal_nonempty, decimal_step, decimal_digit}
use Rattle.std.proofs.lemmas.List.{take-take, drop-set, set_split}

pub ten_at_most : (n : ℕ) → n < 2 ^ 32 → length (decimal n) ≤ 10
ten_at_most n h = length-decimal-le 10 n (omega arith) (omega arith) (omega arith)

pub some_digit : (n : ℕ) → n < 2 ^ 32 → 0 < length (decimal n)
some_digit n h = decimal_nonempty n (omega arith)

-- how far the digits reach down, where those of m come before what is written from at + 1 on
pub reaches : (n m at : ℕ) (out : List ℕ) → n < 2 ^ 32 → at ≤ 254 → length out ≡ 255 → decimal m ++ drop (at + 1) out ≡ decimal n → length (decimal m) + (254 - at) ≡ length (decimal n)
reaches n m at out h g long e =
    let l = simp (length-append, length-drop) at (ap length e) in
    omega arith

-- one digit more
pub again : (n m at : ℕ) (out : List ℕ) → m < 2 ^ 32 → 10 ≤ m → at < length out → decimal m ++ drop (at + 1) out ≡ decimal n → decimal (m / 10) ++ drop at (set out at (48 + m % 10)) ≡ decimal n
again n m at out h g lt e =
    ap (λ l. decimal (m / 10) ++ l) (drop-set out at (48 + m % 10) lt) ∙
    sym (append_assoc (decimal (m / 10)) ((48 + m % 10) ∷ []) (drop (at + 1) out)) ∙
    ap (λ l. l ++ drop (at + 1) out) (sym (decimal_step m g (omega arith))) ∙ e

-- the first digit
pub whole : (n m at : ℕ) (out old : List ℕ) → m < 10 → at < length out → take (at + 1) out ≡ take (at + 1) old → decimal m ++ drop (at + 1) out ≡ decimal n → set out at (48 + m) ≡ take at old ++ decimal n
whole n m at out old h lt same e =
    let one : at + 1 ≡ suc at = omega arith in
    let front : take at out ≡ take at old = sym (take-take at (at + 1) out (omega arith)) ∙ ap (take at) same ∙ take-take at (at + 1) old (omega arith) in
    set_split out at (48 + m) lt ∙
    ap (λ l. l ++ (48 + m) ∷ drop (suc at) out) front ∙
    ap (λ k. take at old ++ (48 + m) ∷ drop k out) (sym one) ∙
    ap (λ l. take at old ++ l) (ap (λ l. l ++ drop (at + 1) out) (sym (decimal_digit m h)) ∙ e)
