-- Where jumps and calls lead, and the lowest offset to blame.
use Rattle.std.proofs.Common.{◌≡◌, ℕ, ◌<◌, ◌≤◌, Bool, not, List, drop, ℤ, pos, ◌+ℤ◌, Some, None, Decides, Option, MatchOption, sym, refl, ap, subst, inl, ⊎_elim, arith}
use Rattle.std.proofs.lemmas.Bool.Decides.{Decides-like, Decides-not}
use Rattle.instructions.specs.declared.Decoded.{Decoded}
use Rattle.instructions.specs.Decode.{decoded}
use Rattle.object.specs.Code.{Begins}
use Rattle.object.specs.Targets.{distance_of, Lands, Strays, UnfitTargetAt, Lowest}

-- the distance that what is read leads
abbrev pub leads : Option Decoded → Option ℤ
leads None = None
leads (Some d) = distance_of d.instruction

-- a distance that is asked of what is read, by a closure whose promise is P
pub leads_by : (o : Option Decoded) (q : Option ℤ) (P : Decoded → Type 0) → MatchOption o (q ≡ None) P → ((d : Decoded) → P d → q ≡ distance_of d.instruction) → leads o ≡ q
leads_by None q P m h = sym m
leads_by (Some d) q P m h = sym (h d m)

strays_if : (code : List ℕ) (at : ℕ) (by : ℤ) (o : Option Decoded) → decoded (drop at code) ≡ o → leads o ≡ Some by → Begins code at → (Lands code (pos at +ℤ by) → ⊥) → Strays code at
strays_if code at by None e f b non = absurd (cc)
strays_if code at by (Some d) e f b non = record { begins = b; what = d; reads = e; by = by; leads = f; nowhere = non }

-- an instruction that leads nowhere else is not to blame
pub fit_without : (code : List ℕ) (main at : ℕ) → leads (decoded (drop at code)) ≡ None → Begins code at → UnfitTargetAt code main at → ⊥
fit_without code main at e b u = ⊎_elim (λ s. let l = ap leads s.reads in cc (l, e, s.leads)) (λ p. p.1 b) u

-- one that leads by a distance is to blame exactly where it does not land
pub decides_unfit : (code : List ℕ) (main at : ℕ) (by : ℤ) (r : Bool) → leads (decoded (drop at code)) ≡ Some by → Begins code at → Decides r (Lands code (pos at +ℤ by)) → Decides (not r) (UnfitTargetAt code main at)
decides_unfit code main at by r e b d =
    Decides-like (not r) (λ non. inl (strays_if code at by (decoded (drop at code)) refl e b non))
    (⊎_elim (λ s l. let same : by ≡ s.by = cc (ap leads s.reads, e, s.leads) in s.nowhere (subst (λ z. Lands code (pos at +ℤ z)) same l)) (λ p l. p.1 b))
    (Decides-not r d)

-- what is found first is the lowest
pub lowest : (P : ℕ → Type 0) (n : ℕ) (r : Option ℕ) → ((k : ℕ) → P k → k < n) → MatchOption r ((k : ℕ) → 0 ≤ k → k < n → P k → ⊥) (λ i. (0 ≤ i) × (i < n) × P i × ((k : ℕ) → 0 ≤ k → k < i → P k → ⊥)) → Lowest P r
lowest P n None within m = λ k p. m k (omega arith) (within k p) p
lowest P n (Some i) within m = (m.2, λ k lt p. m.3 k (omega arith) lt p)
