-- A sign before digits, and blanks before a text, at the end of a buffer.
use Rattle.std.proofs.Common.{◌≡◌, ℕ, suc, ◌+◌, ◌-◌, ◌<◌, ◌≤◌, min, true, List, [], ◌∷◌, ◌++◌, length, take, drop, set, replicate, ℤ, pos, negsuc, nat_abs, decimal, refl, ap, ◌∙◌, arith, length-append}
use lib.ListN.{length-replicate}
use lib.Signed.{lt_z}
use Rattle.std.specs.Fmt.{signed_decimal}
use Rattle.std.proofs.lemmas.List.{drop_at, take-take, take-append-le, drop-append-le, set_split, length-take-le, take-replicate, drop-replicate, drop_all}
use Rattle.std.proofs.lemmas.Bool.Decides.{nat_tests}

pub signed_negative : (z : ℤ) → lt_z z (pos 0) ≡ true → signed_decimal z ≡ 45 ∷ decimal (nat_abs z)
signed_negative (pos n) h = absurd (grind (arith, nat_tests))
signed_negative (negsuc n) h = refl

pub sets_before : (b at : ℕ) (out old text : List ℕ) → 0 < at → at ≤ length old → 0 < length text → out ≡ take at old ++ text → set out (at - 1) b ≡ take (at - 1) old ++ b ∷ text
sets_before b at out old text some within more e =
    let long : length (take at old) ≡ at = length-take-le at old within in
    let lt : at - 1 < length out = omega (arith, simp length-append at (ap length e)) in
    let here : suc (at - 1) ≡ at = omega arith in
    let front : take (at - 1) out ≡ take (at - 1) old =
    ap (take (at - 1)) e ∙ take-append-le (at - 1) (take at old) text (omega arith) ∙ take-take (at - 1) at old (omega arith) in
    let back : drop (suc (at - 1)) out ≡ text = ap (λ k. drop k out) here ∙ ap (drop at) e ∙ drop_at (take at old) text at long in
    set_split out (at - 1) b lt ∙ ap (λ l. l ++ b ∷ drop (suc (at - 1)) out) front ∙ ap (λ l. take (at - 1) old ++ b ∷ l) back

pub sets_last : (b at : ℕ) (out : List ℕ) → length out ≡ suc at → set out at b ≡ take at out ++ b ∷ []
sets_last b at out long = set_split out at b (omega arith) ∙ ap (λ l. take at out ++ b ∷ l) (drop_all (suc at) out (omega arith))

-- a text at the end of a buffer of n blanks, read from w bytes before the end where it is shorter
pub reads_padded : (n w at : ℕ) (out text : List ℕ) → w ≤ n → at + length text ≡ n → out ≡ take at (replicate n 32) ++ text → drop (min at (n - w)) out ≡ replicate (w - length text) 32 ++ text
reads_padded n w at out text h g e =
    let blank : take at (replicate n 32) ≡ replicate at 32 = take-replicate at n 32 (omega arith) in
    let long : min at (n - w) ≤ length (replicate at 32) = simp length-replicate (omega arith) in
    let left : at - min at (n - w) ≡ w - length text = omega arith in
    let whole : out ≡ replicate at 32 ++ text = e ∙ ap (λ l. l ++ text) blank in
    let behind : drop (min at (n - w)) (replicate at 32) ≡ replicate (w - length text) 32 = drop-replicate (min at (n - w)) at 32 ∙ ap (λ k. replicate k 32) left in
    ap (drop (min at (n - w))) whole ∙ drop-append-le (min at (n - w)) (replicate at 32) text long ∙ ap (λ l. l ++ text) behind
