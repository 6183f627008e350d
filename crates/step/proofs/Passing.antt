-- Words written over a store one after another, and words written over others.
use Rattle.std.proofs.Common.{◌≡◌, ℕ, ◌+◌, ◌-◌, ◌<◌, ◌≤◌, List, [], ◌∷◌, ◌++◌, length, take, drop, set, get_or, replicate, ℤ, pos, sym, ap, ◌∙◌, append_assoc, arith, length-append, length-take, length-drop}
use Rattle.std.proofs.Math.Seq.{set-append_seam}
use Rattle.std.proofs.lemmas.List.{set-append_right, drop_more, take_more, get_or-drop, take_at, drop_at, drop-drop, drop-append-le, drop-replicate, length-replicate}
use Rattle.step.specs.Arrays.{over}

-- a word more, behind those written
over_more : (xs ws : List ℤ) (at : ℕ) (w : ℤ) → at + length ws < length xs → set (over xs at ws) (at + length ws) w ≡ over xs at (ws ++ w ∷ [])
over_more xs ws at w lt =
    let n = at + length ws in
    let front : length (take at xs) ≡ at = simp length-take (omega arith) in
    let behind : n - at ≡ length ws = omega arith in
    let more : n + 1 ≡ at + length (ws ++ w ∷ []) = simp length-append (omega arith) in
    ap (λ l. set (take at xs ++ (ws ++ l)) n w) (drop_more xs n (pos 0) lt) ∙
    set-append_right (take at xs) _ at n w front (omega arith) ∙
    ap (λ i. take at xs ++ set (ws ++ get_or xs n (pos 0) ∷ drop (n + 1) xs) i w) behind ∙
    ap (λ l. take at xs ++ l) (set-append_seam ws (get_or xs n (pos 0)) (drop (n + 1) xs) w) ∙
    ap (λ i. take at xs ++ (ws ++ w ∷ drop i xs)) more ∙
    ap (λ l. take at xs ++ l) (sym (append_assoc ws (w ∷ []) (drop (at + length (ws ++ w ∷ [])) xs)))

-- the next of some words, written behind those before it
pub passed_more : (xs ys : List ℤ) (at left k : ℕ) → at + k < length xs → left + k < length ys →
    set (over xs at (take k (drop left ys))) (at + k) (get_or ys (left + k) (pos 0)) ≡ over xs at (take (k + 1) (drop left ys))
passed_more xs ys at left k fits there =
    let ws = take k (drop left ys) in
    let long : length ws ≡ k = simp (length-take, length-drop) (omega arith) in
    let w = get_or ys (left + k) (pos 0) in
    ap (λ i. set (over xs at ws) (at + i) w) (sym long) ∙
    over_more xs ws at w (omega (arith, long)) ∙
    ap (λ (y : ℤ). over xs at (ws ++ y ∷ [])) (sym (get_or-drop left ys k (pos 0))) ∙
    ap (over xs at) (sym (take_more (drop left ys) k (pos 0) (simp length-drop (omega arith))))

-- words written over the words behind a first one
pub passed_over : (xs args : List ℤ) (at locals : ℕ) (first : ℤ) → at + 1 + locals ≤ length xs → length args ≤ locals →
    over (over xs at (first ∷ replicate locals (pos 0))) (at + 1) args ≡ over xs at (first ∷ (args ++ replicate (locals - length args) (pos 0)))
passed_over xs args at locals first fits few =
    let zeros = replicate locals (pos 0) in
    let left = replicate (locals - length args) (pos 0) in
    let front = take at xs ++ first ∷ [] in
    let behind = drop (at + length (first ∷ zeros)) xs in
    let long : length front ≡ at + 1 = simp (length-append, length-take) (omega arith) in
    let whole : over xs at (first ∷ zeros) ≡ front ++ (zeros ++ behind) = sym (append_assoc (take at xs) (first ∷ []) (zeros ++ behind)) in
    let rest : drop (at + 1 + length args) (front ++ (zeros ++ behind)) ≡ left ++ behind =
    sym (drop-drop (length args) (at + 1) (front ++ (zeros ++ behind))) ∙
    ap (drop (length args)) (drop_at front (zeros ++ behind) (at + 1) long) ∙
    drop-append-le (length args) zeros behind (simp length-replicate few) ∙
    ap (λ l. l ++ behind) (drop-replicate (length args) locals (pos 0)) in
    let same : at + length (first ∷ zeros) ≡ at + length (first ∷ (args ++ left)) = simp (length-append, length-replicate) (omega arith) in
    ap (λ l. take (at + 1) l ++ (args ++ drop (at + 1 + length args) l)) whole ∙
    ap (λ l. l ++ (args ++ drop (at + 1 + length args) (front ++ (zeros ++ behind)))) (take_at front (zeros ++ behind) (at + 1) long) ∙
    ap (λ l. front ++ (args ++ l)) rest ∙
    ap (λ n. front ++ (args ++ (left ++ drop n xs))) same ∙
    simp append_assoc
