-- Boundaries of instructions follow one another: none lies inside an instruction.
use Rattle.std.proofs.Common.{◌≡◌, ℕ, zero, suc, ◌+◌, ◌<◌, ◌≤◌, List, drop, Some, None, Option, refl, ap, ◌∙◌, ⊎_elim, arith}
use Rattle.std.proofs.lemmas.Bool.{cases_order}
use Rattle.std.proofs.Math.Nat.{eq-or-lt_of_le}
use Rattle.instructions.specs.declared.Decoded.{Decoded}
use Rattle.instructions.specs.Decode.{decoded}
use Rattle.object.specs.Code.{end_of, behind_next, behind, Boundary}
use Rattle.object.proofs.Sizes.{decoded_size}

pub boundary_first : (code : List ℕ) → Boundary code 0
unfolding behind
boundary_first code = record { count = 0; reached = refl }

pub boundary_next : (code : List ℕ) (at : ℕ) (d : Decoded) → Boundary code at → decoded (drop at code) ≡ Some d → Boundary code (at + d.size)
unfolding behind
boundary_next code at d b e = record { count = suc b.count; reached = ap (behind_next code) b.reached ∙ ap (end_of at) e }

-- what lies behind one instruction more
record Extended (code : List ℕ) (n b : ℕ) : Type 0 where
  from : ℕ
  what : Decoded
  reached : behind n code ≡ Some from
  reads : decoded (drop from code) ≡ Some what
  ends : from + what.size ≡ b

from_end : (code : List ℕ) (n b c : ℕ) (q : Option Decoded) → behind n code ≡ Some c → decoded (drop c code) ≡ q → end_of c q ≡ Some b → Extended code n b
from_end code n b c None r f e = absurd (cc)
from_end code n b c (Some d) r f e = record { from = c; what = d; reached = r; reads = f; ends = cc }

from_next : (code : List ℕ) (n b : ℕ) (o : Option ℕ) → behind n code ≡ o → behind_next code o ≡ Some b → Extended code n b
from_next code n b None r e = absurd (cc)
from_next code n b (Some c) r e = from_end code n b c (decoded (drop c code)) r refl e

extended : (code : List ℕ) (n b : ℕ) → behind (suc n) code ≡ Some b → Extended code n b
unfolding behind
extended code n b e = from_next code n b (behind n code) refl e

-- the instruction at a is readable, and ends at b or before
record Before (code : List ℕ) (a b : ℕ) : Type 0 where
  what : Decoded
  reads : decoded (drop a code) ≡ Some what
  within : a + what.size ≤ b

before_last : (code : List ℕ) (n j a b : ℕ) (x : Extended code j b) → behind n code ≡ Some a → n ≡ j → Before code a b
before_last code n j a b x p e =
    let same : a ≡ x.from = cc (ap (λ k. behind k code) e, p, x.reached) in
    record { what = x.what; reads = ap (λ i. decoded (drop i code)) same ∙ x.reads; within = omega (arith, x.ends) }

before : (code : List ℕ) (k n a b : ℕ) → n < k → behind n code ≡ Some a → behind k code ≡ Some b → Before code a b
before code zero n a b lt p q = absurd (omega arith)
before code (suc j) n a b lt p q =
    let x = extended code j b q in
    let le : n ≤ j = omega arith in
    ⊎_elim (before_last code n j a b x p)
    (λ l. let r = before code j n a x.from l p x.reached in record { what = r.what; reads = r.reads; within = omega (arith, r.within, x.ends) })
    (eq-or-lt_of_le le)

-- an instruction takes a byte at least, so a boundary with a lower offset has a lower count
earlier : (code : List ℕ) (at k : ℕ) → Boundary code at → Boundary code k → at < k → Before code at k
earlier code at k a b lt = ⊎_elim
    (λ e. let same : at ≡ k = cc (ap (λ n. behind n code) e, a.reached, b.reached) in absurd (omega arith))
    (λ o. ⊎_elim (λ l. before code b.count a.count at k l a.reached b.reached)
    (λ l. let r = before code a.count b.count k at l b.reached a.reached in absurd (omega (arith, r.within, (decoded_size (drop k code) r.what r.reads).some))) o)
    (cases_order a.count b.count)

pub readable_before : (code : List ℕ) (at k : ℕ) → Boundary code at → Boundary code k → at < k → (d : Decoded) × (decoded (drop at code) ≡ Some d)
readable_before code at k a b lt = let r = earlier code at k a b lt in (r.what, r.reads)

pub no_boundary_inside : (code : List ℕ) (at k : ℕ) (d : Decoded) → Boundary code at → decoded (drop at code) ≡ Some d → Boundary code k → at < k → at + d.size ≤ k
no_boundary_inside code at k d a e b lt =
    let r = earlier code at k a b lt in
    let same : d ≡ r.what = cc (e, r.reads) in
    omega (arith, ap (λ (x : Decoded). x.size) same, r.within)
