-- What digits are worth, one more at a time.
use Rattle.std.proofs.Common.{◌≡◌, ℕ, zero, suc, ◌+◌, ◌-◌, ◌*◌, ◌<◌, ◌≤◌, List, [], ◌∷◌, length, map, take, get_or, Some, None, Option, Bor, refl, sym, ap, ◌∙◌, arith}
use Rattle.std.specs.Option.{MatchOption}
use Rattle.std.specs.List.{FoldsTo}
use Rattle.std.specs.Iterator.{YieldsThen}
use Rattle.std.proofs.lemmas.Iterator.{YieldsList}
use Rattle.std.proofs.lemmas.Iterator.Consumers.{YieldsList-so_far, YieldsList-turn, YieldsList-end}
use Rattle.words.specs.Laws.{worth}

-- more digits are worth no less
worth_grows : (n : ℕ) (ds : List ℕ) → n ≤ worth n ds
worth_grows n [] = omega arith
worth_grows n (d ∷ ds) = omega (arith, worth_grows (10 * n + (d - 48)) ds)

-- a front and the digit behind it are worth no more than all
worth_front : (n : ℕ) (ds : List ℕ) (i b : ℕ) → i < length ds → 10 * worth n (take i ds) + (get_or ds i b - 48) ≤ worth n ds
worth_front n [] i b l = absurd (omega arith)
worth_front n (d ∷ ds) zero b l = worth_grows (10 * n + (d - 48)) ds
worth_front n (d ∷ ds) (suc i) b l = worth_front (10 * n + (d - 48)) ds i b (omega arith)

module _ {F : Type 0} (R : F × ℕ → Bor ℕ → F × ℕ → Type 0) (adds : (p : F × ℕ) (x : Bor ℕ) (q : F × ℕ) → R p x q → q.1 ≡ 10 * p.1 + (x.now - 48)) where
  -- turns that add a digit each lead to what the digits are worth
  worth_folded : (xs : List (Bor ℕ)) (p q : F × ℕ) → FoldsTo R p xs q → q.1 ≡ worth p.1 (map (λ x. x.now) xs)
  worth_folded [] p q k = ap (λ r. r.1) (sym k)
  worth_folded (x ∷ xs) p q k = worth_folded xs k.0 q k.2 ∙ ap (λ (n : ℕ). worth n (map (λ x. x.now) xs)) (adds p x k.0 k.1)

  -- they come to the end, or to a digit with which it is more than the largest word
  pub worth_tried :
      {S : Type 0} {steps : S → Option (Bor ℕ) → S → Type 0} {s : S} {all : List ℕ} {Stops : Bor ℕ → Type 0} (u : S) (f j : F) (a : ℕ) (r : Option ℕ) (o : Option (Bor ℕ)) (xs : List (Bor ℕ)) →
      ((x : Bor ℕ) → Stops x → (r ≡ None) × (4294967295 < 10 * a + (x.now - 48))) → YieldsList steps (λ x. x.now) s all → YieldsThen steps s xs o u → FoldsTo R (f, 0) xs (j, a) →
      MatchOption o (r ≡ Some a) Stops → MatchOption r (4294967295 < worth 0 all) (λ n. n ≡ worth 0 all)
  worth_tried u f j a r None xs stops e y k h = rw h (worth_folded xs (f, 0) (j, a) k ∙ ap (worth 0) (YieldsList-end e xs y.0 y.1 None u refl y.2).0)
  worth_tried {all = all} u f j a r (Some x) xs stops e y k h =
      let t = YieldsList-turn e xs y.0 y.1 (Some x) u x refl y.2 in
      let sum : a ≡ worth 0 (take (length xs) all) = worth_folded xs (f, 0) (j, a) k ∙ ap (worth 0) (YieldsList-so_far e xs y.0 y.1) in
      let more = stops x h in
      rw more.0 (omega (arith, more.1, t.1, sum, worth_front 0 all (length xs) x.now t.0))
