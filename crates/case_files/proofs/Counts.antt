-- Each finding is counted once.
use Rattle.std.proofs.Common.{◌≡◌, ℕ, ◌+◌, cond, List, [], ◌∷◌, length, sum_by, count_by, refl, arith}
use Rattle.std.proofs.lemmas.List.Sums.{sum_by-cons}
use Rattle.case_files.specs.declared.tally.Finding.{Finding}
use Rattle.case_files.specs.declared.tally.Finding.TheVariants.{AsExpected, Differs, LeftOut}
use Rattle.case_files.specs.Tallies.{differs, is_as_expected, is_compared, is_left_out}

-- two sums, where the terms add up
sums : (f g h : Finding → ℕ) → ((x : Finding) → f x + g x ≡ h x) → (fs : List Finding) → sum_by f fs + sum_by g fs ≡ sum_by h fs
sums f g h e [] = refl
sums f g h e (x ∷ fs) =
    let here = e x in
    let rest = sums f g h e fs in
    rw (sum_by-cons f x fs, sum_by-cons g x fs, sum_by-cons h x fs) (omega arith)

ones : (fs : List Finding) → sum_by (λ x. 1) fs ≡ length fs
ones [] = refl
ones (x ∷ fs) = let rest = ones fs in rw (sum_by-cons (λ x. 1) x fs) (omega arith)

fit_or_differs_one : (x : Finding) → cond (is_as_expected x) 1 0 + cond (differs x) 1 0 ≡ cond (is_compared x) 1 0
fit_or_differs_one AsExpected = refl
fit_or_differs_one (Differs found) = refl
fit_or_differs_one LeftOut = refl

compared_or_left_out_one : (x : Finding) → cond (is_compared x) 1 0 + cond (is_left_out x) 1 0 ≡ 1
compared_or_left_out_one AsExpected = refl
compared_or_left_out_one (Differs found) = refl
compared_or_left_out_one LeftOut = refl

pub fit_or_differs : (fs : List Finding) → count_by is_as_expected fs + count_by differs fs ≡ count_by is_compared fs
fit_or_differs fs = sums _ _ _ fit_or_differs_one fs

pub compared_or_left_out : (fs : List Finding) → count_by is_compared fs + count_by is_left_out fs ≡ length fs
compared_or_left_out fs = rw (← ones fs) (sums _ _ _ compared_or_left_out_one fs)
