-- Marks, one instruction further.
use Rattle.std.proofs.Common.{◌≡◌, ℕ, zero, suc, ◌+◌, ◌<◌, Bool, true, false, List, length, get_or, drop, set, replicate, Some, sym, refl, ap, ◌∙◌, subst, ⊎_elim, arith}
use Rattle.std.proofs.lemmas.List.{get_or-set_same, get_or-set_other}
use Rattle.std.proofs.lemmas.Bool.{cases_eq, cases_lt}
use Rattle.instructions.specs.declared.Decoded.{Decoded}
use Rattle.instructions.specs.Decode.{decoded}
use Rattle.object.specs.Code.{Boundary, Begins}
use Rattle.object.proofs.Boundaries.{no_boundary_inside}

-- at first nothing is marked
pub all_blank : (n k : ℕ) → get_or (replicate n false) k false ≡ false
all_blank zero k = refl
all_blank (suc n) zero = refl
all_blank (suc n) (suc k) = all_blank n k

-- what is marked begins an instruction
pub marks_sound : (code : List ℕ) (starts : List Bool) (at k : ℕ) → Begins code at → ((k : ℕ) → get_or starts k false ≡ true → Begins code k) → get_or (set starts at true) k false ≡ true → Begins code k
marks_sound code starts at k b old h =
    ⊎_elim (λ e. subst (Begins code) (sym e) b) (λ ne. old k (sym (get_or-set_other starts at k true false ne) ∙ h)) (cases_eq k at)

-- what begins an instruction up to here is marked
pub marks_complete : (code : List ℕ) (starts : List Bool) (at k : ℕ) (d : Decoded) → at < length starts → Boundary code at → decoded (drop at code) ≡ Some d → ((k : ℕ) → Boundary code k → k < at → get_or starts k false ≡ true) → Boundary code k → k < at + d.size → get_or (set starts at true) k false ≡ true
marks_complete code starts at k d lt a r old b h =
    ⊎_elim (λ e. ap (λ i. get_or (set starts at true) i false) e ∙ get_or-set_same starts at true false lt)
    (λ ne. get_or-set_other starts at k true false ne ∙
    ⊎_elim (λ less. old k b less) (λ le. absurd (let more : at < k = grind (arith, ne) in omega (arith, no_boundary_inside code at k d a r b more))) (cases_lt k at))
    (cases_eq k at)
