-- The instruction at pc, inside and outside the code.
use Rattle.std.proofs.Common.{◌≡◌, ℕ, ◌+◌, ◌<◌, ◌≤◌, true, false, List, length, drop, ℤ, pos, negsuc, ◌+ℤ◌, nat_abs, IfSome, Some, None, Ok, Err, Option, Result, sym, refl, ap, arith}
use Rattle.std.specs.Option.{ok_or}
use lib.Signed.{lt_z}
use Rattle.std.proofs.lemmas.List.{drop_all}
use Rattle.std.proofs.lemmas.Int.{ints}
use Rattle.std.proofs.lemmas.Bool.Decides.{nat_tests}
use Rattle.instructions.specs.Decode.{decoded}
use Rattle.step.specs.Perform.{fetched}
use Rattle.step.specs.Promises.{InCode}

pub fetched_below : (code : List ℕ) (pc : ℤ) → lt_z pc (pos 0) ≡ true → None ≡ fetched code pc
fetched_below code (pos n) h = absurd (grind (arith, nat_tests))
fetched_below code (negsuc n) h = refl

pub fetched_past : (code : List ℕ) (pc : ℤ) → lt_z pc (pos 0) ≡ false → length code ≤ nat_abs pc → None ≡ fetched code pc
fetched_past code (pos n) h g = sym (ap decoded (drop_all n code g))
fetched_past code (negsuc n) h g = refl

pub fetched_inside : (code : List ℕ) (pc : ℤ) → lt_z pc (pos 0) ≡ false → decoded (drop (nat_abs pc) code) ≡ fetched code pc
fetched_inside code (pos n) h = refl
fetched_inside code (negsuc n) h = absurd (grind (arith, nat_tests))

pub in_code : (code : List ℕ) (pc : ℤ) → lt_z pc (pos 0) ≡ false → nat_abs pc < length code → length code ≤ 8192 → InCode pc
in_code code (pos n) h g l = (omega (arith, ints), omega (arith, ints))
in_code code (negsuc n) h g l = absurd (grind (arith, nat_tests))

pub whichever : {A : Type 0} {P : Type 0} (o : Option A) → P → IfSome o (λ _. P)
whichever None p = tt
whichever (Some x) p = p

pub next_is : (pc : ℤ) (size : ℕ) → InCode pc → pos (nat_abs pc + size) ≡ pc +ℤ pos size
next_is (pos n) size h = refl
next_is (negsuc n) size h = absurd (grind (arith, ints))

-- what an option was whose absence is an error
pub none_is_err : {X E : Type 0} (o : Option X) (e : E) (r : Result X E) (y : E) → r ≡ ok_or o e → r ≡ Err y → (o ≡ None) × (y ≡ e)
none_is_err None e r y p q = (refl, cc)
none_is_err (Some x) e r y p q = let z : ◌≡◌ {A = ℕ} 0 1 = cc in absurd (omega arith)

pub some_is_ok : {X E : Type 0} (o : Option X) (e : E) (r : Result X E) (x : X) → r ≡ ok_or o e → r ≡ Ok x → o ≡ Some x
some_is_ok None e r x p q = let z : ◌≡◌ {A = ℕ} 0 1 = cc in absurd (omega arith)
some_is_ok (Some y) e r x p q = cc
