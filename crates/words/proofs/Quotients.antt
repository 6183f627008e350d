-- A quotient of two words wraps around only at the least word by −1.
use Rattle.std.proofs.Common.{◌≡◌, ℕ, zero, suc, ◌/◌, ◌^◌, ◌<◌, ◌≤◌, Bool, true, false, eqb, ℤ, pos, negsuc, neg_ℤ, sym, refl, ap, ◌∙◌, div-le_self, arith, w32, SFits, to_z, of_z}
use lib.Signed.{quot_z, mag}
use Rattle.std.specs.Int.{int_wrap}
use Rattle.std.proofs.lemmas.Int.{to_z-of_z, int_wrap_fits}
use Rattle.std.proofs.lemmas.Bool.{eqb-true, eqb-false}
use Rattle.words.specs.Arithmetic.{wrap}

-- the greatest that is no word
wraps_once : to_z w32 (of_z w32 (pos (2 ^ 31))) ≡ wrap (pos (2 ^ 31))
unfolding wrap int_wrap
wraps_once = refl

fitting : (z : ℤ) → mag z < 2 ^ 31 → to_z w32 (of_z w32 z) ≡ wrap z
unfolding wrap
fitting z h =
    let f : SFits w32 z = record { sfits = h } in
    to_z-of_z w32 z f ∙ sym (int_wrap_fits w32 z f)

at_most : (q : ℕ) (t : Bool) → eqb q (2 ^ 31) ≡ t → q ≤ 2 ^ 31 → to_z w32 (of_z w32 (pos q)) ≡ wrap (pos q)
at_most q true e h = let same : q ≡ 2 ^ 31 = eqb-true q (2 ^ 31) e in ap (λ n. to_z w32 (of_z w32 (pos n))) same ∙ wraps_once ∙ ap (λ n. wrap (pos n)) (sym same)
at_most q false e h = let less : q ≡ 2 ^ 31 → ⊥ = eqb-false q (2 ^ 31) e in fitting (pos q) (grind arith)

minus : (q : ℕ) → q ≤ 2 ^ 31 → to_z w32 (of_z w32 (neg_ℤ (pos q))) ≡ wrap (neg_ℤ (pos q))
minus zero h = fitting (pos 0) (omega arith)
minus (suc q) h = fitting (negsuc q) (omega arith)

pub wraps_quotient : (a b : ℤ) → SFits w32 a → to_z w32 (of_z w32 (quot_z a b)) ≡ wrap (quot_z a b)
wraps_quotient (pos a) (pos b) f = at_most (a / b) _ refl (omega (arith, div-le_self a b, f.sfits))
wraps_quotient (pos a) (negsuc b) f = minus (a / suc b) (omega (arith, div-le_self a (suc b), f.sfits))
wraps_quotient (negsuc a) (pos b) f = minus (suc a / b) (omega (arith, div-le_self (suc a) b, f.sfits))
wraps_quotient (negsuc a) (negsuc b) f = at_most (suc a / suc b) _ refl (omega (arith, div-le_self (suc a) (suc b), f.sfits))
