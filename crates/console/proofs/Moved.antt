-- A loop that moves the items of a list one by one to the front of another: xs is the list, out the other, i how many were moved.
use Rattle.std.proofs.Common.{◌≡◌, ℕ, ◌+◌, ◌<◌, List, [], ◌∷◌, ◌++◌, length, get_or, take, drop, set, sym, ap, ◌∙◌, append_assoc, arith, length-drop, length-take}
use Rattle.std.proofs.lemmas.List.{take_more, drop_more, set_at}

-- while an item is left, there are more than i
more_left : {A : Type 0} (xs rest : List A) (x : A) (i : ℕ) → drop i xs ≡ x ∷ rest → i < length xs
more_left xs rest x i e = omega (arith, simp length-drop at (ap length e))

pub length_left : {A : Type 0} (xs rest : List A) (x : A) (i : ℕ) → drop i xs ≡ x ∷ rest → i + 1 + length rest ≡ length xs
length_left xs rest x i e = omega (arith, simp length-drop at (ap length e))

pub rest_is : {A : Type 0} (xs rest : List A) (x : A) (i : ℕ) → drop i xs ≡ x ∷ rest → rest ≡ drop (i + 1) xs
rest_is xs rest x i e = let f = drop_more xs i x (more_left xs rest x i e) in cc

item_is : {A : Type 0} (xs rest : List A) (x : A) (i : ℕ) → drop i xs ≡ x ∷ rest → get_or xs i x ≡ x
item_is xs rest x i e = let f = drop_more xs i x (more_left xs rest x i e) in cc

pub moved_more : {A : Type 0} (xs rest out so_far : List A) (x : A) (i : ℕ) → drop i xs ≡ x ∷ rest → i < length out → so_far ≡ take i xs ++ drop i out → set so_far i x ≡ take (i + 1) xs ++ drop (i + 1) out
moved_more xs rest out so_far x i e h f =
    let more = more_left xs rest x i e in
    let long : length (take i xs) ≡ i = simp length-take (omega arith) in
    let behind = drop (i + 1) out in
    ap (λ l. set l i x) (f ∙ ap (λ l. take i xs ++ l) (drop_more out i x h))
    ∙ set_at (take i xs) (get_or out i x) behind x i long
    ∙ sym (append_assoc (take i xs) (x ∷ []) behind)
    ∙ ap (λ y. (take i xs ++ y ∷ []) ++ behind) (sym (item_is xs rest x i e))
    ∙ ap (λ l. l ++ behind) (sym (take_more xs i x more))
