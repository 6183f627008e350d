-- A ring read round from its first place: one item more behind the others, and one less in front.
use Rattle.std.proofs.Common.{◌≡◌, ℕ, zero, suc, ◌+◌, ◌-◌, ◌%◌, ◌<◌, ◌≤◌, ◌⊎◌, List, [], ◌∷◌, ◌++◌, length, get_or, take, drop, set, sym, ap, ◌∙◌, subst, append_assoc, append-nil, inl, inr, ⊎_elim, mod-eq_of_lt, arith, length-append, length-drop, length-take}
use lib.Seq.{take-set-le, take-set-lt, take-append-le}
use Rattle.std.proofs.lemmas.List.{take_more_set, take_more, drop_more, drop_all, take_all, drop-set-add, drop-set-lt, set-append_left, set-append_right}
use native.Mathlib.Nat.{mod-eq-sub-mod}
use Rattle.std.proofs.lemmas.Bool.{cases_lt}
use Rattle.console.specs.Rounds.{along, round}

-- reading round from any place finds as many items as there are places
pub length_round : {A : Type 0} (f : ℕ) (xs : List A) → f ≤ length xs → length (round f xs) ≡ length xs
length_round f xs h = simp (length-append, length-take, length-drop) (omega arith)

-- the first n of them are n
pub length_along : {A : Type 0} (f n : ℕ) (xs : List A) → f ≤ length xs → n ≤ length xs → length (along f n xs) ≡ n
length_along f n xs h g = let e = length_round f xs h in simp length-take (omega arith)

-- the same, where that place lies before the end, and where it lies past it
set_below : {A : Type 0} (f n : ℕ) (xs : List A) (v : A) → f + n < length xs → round f (set xs (f + n) v) ≡ set (round f xs) n v
set_below f n xs v h =
    let short : n < length (drop f xs) = simp length-drop (omega arith) in
    ap (λ l. l ++ take f (set xs (f + n) v)) (drop-set-add f xs n v)
    ∙ ap (λ l. set (drop f xs) n v ++ l) (take-set-le f xs (f + n) v (omega arith))
    ∙ sym (set-append_left (drop f xs) (take f xs) n v short)

set_past : {A : Type 0} (f n k : ℕ) (xs : List A) (v : A) → k < f → length xs + k ≡ f + n → f ≤ length xs → round f (set xs k v) ≡ set (round f xs) n v
set_past f n k xs v h e g =
    let long : length (drop f xs) ≡ length xs - f = length-drop f xs in
    let m : n - (length xs - f) ≡ k = omega arith in
    ap (λ l. l ++ take f (set xs k v)) (drop-set-lt f xs k v h)
    ∙ ap (λ l. drop f xs ++ l) (take-set-lt f xs k v h)
    ∙ ap (λ i. drop f xs ++ set (take f xs) i v) (sym m)
    ∙ sym (set-append_right (drop f xs) (take f xs) (length xs - f) n v long (omega arith))

-- a place below twice n is counted from the start again once at most
wraps_once : (n place : ℕ) → place < n + n → ((place < n) × (place % n ≡ place)) ⊎ ((n ≤ place) × (place % n ≡ place - n))
wraps_once n place h = ⊎_elim (λ low. inl (low, mod-eq_of_lt low)) (λ high. inr (high, mod-eq-sub-mod high ∙ mod-eq_of_lt (omega arith))) (cases_lt place n)

-- a write at the place of the n-th item from the first, wherever it is
pub round_set : {A : Type 0} (f n : ℕ) (xs : List A) (v : A) → f < length xs → n < length xs → round f (set xs ((f + n) % length xs) v) ≡ set (round f xs) n v
round_set f n xs v h g =
    let P : ℕ → Type 0 = λ k. round f (set xs k v) ≡ set (round f xs) n v in
    ⊎_elim (λ w. subst P (sym w.1) (set_below f n xs v w.0))
    (λ w. subst P (sym w.1) (set_past f n (f + n - length xs) xs v (omega arith) (omega arith) (omega arith)))
    (wraps_once (length xs) (f + n) (omega arith))

-- one item more
pub along_push : {A : Type 0} (f n : ℕ) (xs : List A) (v : A) → f < length xs → n < length xs → along f (n + 1) (set xs ((f + n) % length xs) v) ≡ along f n xs ++ v ∷ []
along_push f n xs v h g =
    let l = length_round f xs (omega arith) in
    ap (take (n + 1)) (round_set f n xs v h g) ∙ take_more_set (round f xs) n v (omega arith)

-- the round that begins one place on: the first item is its last
pub round_next : {A : Type 0} (f : ℕ) (xs : List A) (d : A) → f < length xs → round ((f + 1) % length xs) xs ≡ drop (f + 1) xs ++ (take f xs ++ get_or xs f d ∷ [])
round_next f xs d h =
    let P : ℕ → Type 0 = λ k. round k xs ≡ drop (f + 1) xs ++ (take f xs ++ get_or xs f d ∷ []) in
    ⊎_elim (λ w. subst P (sym w.1) (ap (λ l. drop (f + 1) xs ++ l) (take_more xs f d h)))
    (λ w.
    let z : (f + 1) % length xs ≡ 0 = omega (arith, w.1) in
    ap (λ k. round k xs) z
    ∙ append-nil xs
    ∙ sym (take_all (f + 1) xs w.0)
    ∙ take_more xs f d h
    ∙ ap (λ l. l ++ (take f xs ++ get_or xs f d ∷ [])) (sym (drop_all (f + 1) xs w.0)))
    (wraps_once (length xs) (f + 1) (omega arith))

take_first : {A : Type 0} (n : ℕ) (x : A) (xs : List A) → 0 < n → take n (x ∷ xs) ≡ x ∷ take (n - 1) xs
take_first zero x xs h = absurd (omega arith)
take_first (suc n) x xs h = let e : n ≡ suc n - 1 = omega arith in ap (λ k. x ∷ take k xs) e

-- one item less
pub along_pop : {A : Type 0} (f n : ℕ) (xs : List A) (d : A) → f < length xs → 0 < n → n ≤ length xs → along f n xs ≡ get_or xs f d ∷ along ((f + 1) % length xs) (n - 1) xs
along_pop f n xs d h p g =
    let x = get_or xs f d in
    let rest = drop (f + 1) xs ++ take f xs in
    let fits : n - 1 ≤ length rest = simp (length-append, length-take, length-drop) (omega arith) in
    ap (λ l. take n (l ++ take f xs)) (drop_more xs f d h)
    ∙ take_first n x rest p
    ∙ ap (λ l. x ∷ l) (sym (take-append-le (n - 1) rest (x ∷ []) fits))
    ∙ ap (λ l. x ∷ take (n - 1) l) (append_assoc (drop (f + 1) xs) (take f xs) (x ∷ []) ∙ sym (round_next f xs d h))
