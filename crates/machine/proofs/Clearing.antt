-- The elements of a new array.
use Rattle.std.proofs.Common.{◌≡◌, ℕ, zero, suc, ◌+◌, ◌-◌, ◌%◌, ◌^◌, ◌<◌, ◌≤◌, cond, ltb, leb, List, ◌∷◌, ◌++◌, length, get_or, take, drop, replicate, ℤ, pos, refl, ap, ◌∙◌, subst, arith}
use native.Mathlib.Nat.{zero-div}
use lib.Signed.{lt_z}
use Rattle.std.proofs.lemmas.List.{length-take, length-replicate, get_or_append_left, get_or-append_right, get_or-replicate}
use Rattle.std.proofs.lemmas.Bool.{cond-true, lt-ltb, le-leb}
use Rattle.outcomes.specs.declared.Verdict.TheVariants.{IndexOutOfRange}
use Rattle.words.specs.declared.printing.Kind.{Kind}
use Rattle.words.specs.declared.printing.Kind.TheVariants.{Int, Char}
use Rattle.step.specs.State.{Step, ends}
use Rattle.step.specs.Stacks.{word_at}
use Rattle.step.specs.Arrays.{array_words, element_word, element_in, over, used, element}
use Rattle.machine.specs.Laws.{NewArraysAreCleared}

-- a word that was written over a store
at_over : (store ws : List ℤ) (i j : ℕ) → i + length ws ≤ length store → j < length ws → word_at (over store i ws) (i + j) ≡ word_at ws j
at_over store ws i j fits lt =
    let front : length (take i store) ≡ i = simp length-take (omega arith) in
    let back : i + j - i ≡ j = omega arith in
    get_or-append_right (take i store) (ws ++ drop (i + length ws) store) i (i + j) (pos 0) front (omega arith) ∙
    ap (λ k. get_or (ws ++ drop (i + length ws) store) k (pos 0)) back ∙
    get_or_append_left ws (drop (i + length ws) store) (pos 0) j lt

zero_in : (kind : Kind) (i : ℕ) → element_in kind i (pos 0) ≡ pos 0
zero_in Int i = refl
zero_in Char i = ap (λ n. pos (n % 256)) (zero-div (256 ^ (i % 4)))

zero_behind : (n k : ℕ) (first : ℤ) (j : ℕ) → j ≡ suc k → k < n → word_at (first ∷ replicate n (pos 0)) j ≡ pos 0
zero_behind n k first j e lt = ap (λ m. word_at (first ∷ replicate n (pos 0)) m) e ∙ get_or-replicate n k (pos 0) (pos 0) lt

within : (kind : Kind) (n i : ℕ) → i < n → element_word kind i < array_words kind n
within Int n i lt = omega arith
within Char n i lt = omega arith

behind : (kind : Kind) (i : ℕ) → 1 ≤ element_word kind i
behind Int i = omega arith
behind Char i = omega arith

loaded : (kind : Kind) (n i free end : ℕ) (heap : List ℤ) (go : ℤ → Step) → 0 < free → free < end → free + element_word kind i < end → i < n → word_at heap free ≡ pos n → word_at heap (free + element_word kind i) ≡ pos 0 →
    element kind (pos free) (pos i) end heap (λ w j. go (element_in kind j (word_at heap w))) ≡ go (pos 0)
loaded kind n i zero end heap go some a b lt e z = absurd (omega arith)
loaded kind n i (suc k) end heap go some a b lt e z =
    let at = suc k + element_word kind i in
    let load : ℕ → Step = λ w. go (element_in kind i (word_at heap w)) in
    cond-true (ltb (suc k) end) _ _ (lt-ltb (suc k) end a) ∙
    ap (λ w. cond (lt_z (pos i) w) (used at end load) (ends IndexOutOfRange)) e ∙
    cond-true (ltb i n) (used at end load) _ (lt-ltb i n lt) ∙
    cond-true (ltb at end) (load at) _ (lt-ltb at end b) ∙
    ap (λ w. go (element_in kind i w)) z ∙
    ap go (zero_in kind i)

pub new_arrays_cleared : NewArraysAreCleared
new_arrays_cleared kind n i s go some fits lt =
    let free = s.registers.free in
    let size = array_words kind n in
    let ws = pos n ∷ replicate (size - 1) (pos 0) in
    let at = element_word kind i in
    let inner : at < size = within kind n i lt in
    let first : 1 ≤ at = behind kind i in
    let long : length ws ≡ size = simp length-replicate (omega (arith, inner, first)) in
    let whole : free + length ws ≤ length s.heap = omega (arith, long, fits) in
    let heap = over s.heap free ws in
    let head : word_at heap (free + 0) ≡ pos n = at_over s.heap ws free 0 whole (omega (arith, long, inner)) in
    let there : free + 0 ≡ free = omega arith in
    let zeros : word_at heap (free + at) ≡ pos 0 =
    at_over s.heap ws free at whole (omega (arith, long, inner)) ∙ zero_behind (size - 1) (at - 1) (pos n) at (omega (arith, first)) (omega (arith, inner, first)) in
    cond-true (leb (free + size) (length s.heap)) _ _ (le-leb (free + size) (length s.heap) fits) ∙
    loaded kind n i free (free + size) heap go some (omega (arith, inner)) (omega (arith, inner)) lt (subst (λ k. word_at heap k ≡ pos n) there head) zeros
