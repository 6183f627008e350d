-- No file has two answers.
use Rattle.std.proofs.Common.{◌≡◌, ℕ, ◌+◌, ◌-◌, ◌*◌, ◌/◌, ◌%◌, ◌<◌, List, length, drop, Some, Ok, Err, Result, sym, refl, ap, ◌∙◌, subst, ⊎_elim, arith}
use Rattle.std.proofs.lemmas.Bool.{cases_order}
use Rattle.outcomes.specs.declared.Refusal.{Refusal}
use Rattle.outcomes.specs.declared.Refusal.TheVariants.{UnfitInstruction, UnfitTarget}
use Rattle.object.specs.declared.checked.ObjectFault.{ObjectFault}
use Rattle.object.specs.File.{Object, file_of}
use Rattle.object.specs.Numbers.{number_at}
use Rattle.object.specs.Code.{Boundary, Unreadable}
use Rattle.object.specs.Targets.{UnfitTargetAt, Lowest}
use Rattle.object.specs.Inspection.{Headed, WellFormed, RefusedFor, header, instruction, target, FoundIn}
use Rattle.object.proofs.Boundaries.{readable_before}

-- a header's number is read back from its four bytes
read_back : (n : ℕ) → n < 131072 → n / 16777216 % 256 * 16777216 + n / 65536 % 256 * 65536 + n / 256 % 256 * 256 + n % 256 ≡ n
read_back n h =
    let a : n / 16777216 % 256 ≡ 0 = omega arith in
    let b : n / 65536 % 256 ≡ n / 65536 = omega arith in
    let c : n / 256 % 256 * 256 ≡ n / 256 * 256 - n / 65536 * 65536 = omega arith in
    omega arith

-- a file has one object
one_object : (bytes : List ℕ) (o p : Object) → Headed bytes o → Headed bytes p → o ≡ p
one_object bytes o p a b =
    let e : file_of o ≡ file_of p = sym a.file ∙ b.file in
    let code : o.code ≡ p.code = ap (drop 14) e in
    let globals : o.globals ≡ p.globals =
    sym (read_back o.globals (omega (arith, a.limits.globals_few))) ∙ ap (λ (l : List ℕ). number_at l 6) e ∙ read_back p.globals (omega (arith, b.limits.globals_few)) in
    let main : o.main ≡ p.main =
    sym (read_back o.main (omega (arith, a.limits.main_inside, a.limits.code_short))) ∙ ap (λ (l : List ℕ). number_at l 10) e ∙ read_back p.main (omega (arith, b.limits.main_inside, b.limits.code_short)) in
    ap (λ (c : List ℕ). record { code = c; globals = o.globals; main = o.main }) code ∙
    ap (λ (g : ℕ). record { code = p.code; globals = g; main = o.main }) globals ∙
    ap (λ (m : ℕ). record { code = p.code; globals = p.globals; main = m }) main

-- nothing behind an unreadable instruction is a boundary
none_behind : (code : List ℕ) (at k : ℕ) → Unreadable code at → Boundary code k → at < k → ⊥
none_behind code at k u b lt = let d = readable_before code at k u.begins.boundary b lt in absurd (cc (u.none, d.1))

one_unreadable : (code : List ℕ) (a b : ℕ) → Unreadable code a → Unreadable code b → a ≡ b
one_unreadable code a b u v =
    ⊎_elim (λ e. e) (λ l. absurd (⊎_elim (λ x. none_behind code a b u v.begins.boundary x) (λ x. none_behind code b a v u.begins.boundary x) l)) (cases_order a b)

not_whole : (code : List ℕ) (at : ℕ) → Unreadable code at → Boundary code (length code) → ⊥
not_whole code at u b = none_behind code at (length code) u b u.begins.inside

one_lowest : (P : ℕ → Type 0) (a b : ℕ) → Lowest P (Some a) → Lowest P (Some b) → a ≡ b
one_lowest P a b x y = ⊎_elim (λ e. e) (λ l. absurd (⊎_elim (λ lt. y.1 a lt x.0) (λ lt. x.1 b lt y.0) l)) (cases_order a b)

fault : (r : Refusal) (a b : ℕ) → a ≡ b → ◌≡◌ {A = ObjectFault} (record { refusal = r; offset = a }) (record { refusal = r; offset = b })
fault r a b e = ap (λ (n : ℕ). record { refusal = r; offset = n }) e

-- an object of the same file has the same code, so that what holds of one holds of the other
as_read : (P : Object → Type 0) (bytes : List ℕ) (o p : Object) → Headed bytes o → Headed bytes p → P p → P o
as_read P bytes o p q r x = subst P (sym (one_object bytes o p q r)) x

one_fault : (bytes : List ℕ) (f g : ObjectFault) → RefusedFor bytes f → RefusedFor bytes g → f ≡ g
one_fault bytes _ _ (header h) (header h') = refl
one_fault bytes _ _ (header h) (instruction o at q u) = absurd (h o q)
one_fault bytes _ _ (header h) (target o at q w l) = absurd (h o q)
one_fault bytes _ _ (instruction o at q u) (header h) = absurd (h o q)
one_fault bytes _ _ (instruction o at q u) (instruction p k r v) =
    fault UnfitInstruction at k (one_unreadable o.code at k u (as_read (λ x. Unreadable x.code k) bytes o p q r v))
one_fault bytes _ _ (instruction o at q u) (target p k r w l) =
    absurd (not_whole o.code at u (as_read (λ x. Boundary x.code (length x.code)) bytes o p q r w))
one_fault bytes _ _ (target o at q w l) (header h) = absurd (h o q)
one_fault bytes _ _ (target o at q w l) (instruction p k r v) =
    absurd (not_whole o.code k (as_read (λ x. Unreadable x.code k) bytes o p q r v) w)
one_fault bytes _ _ (target o at q w l) (target p k r x m) =
    fault UnfitTarget at k (one_lowest (UnfitTargetAt o.code o.main) at k l (as_read (λ x. Lowest (UnfitTargetAt x.code x.main) (Some k)) bytes o p q r m))

headed : (bytes : List ℕ) (o : Object) → bytes ≡ file_of o → WellFormed o → Headed bytes o
headed bytes o e w = record { file = e; limits = w.limits }

not_both : (bytes : List ℕ) (o : Object) (f : ObjectFault) → bytes ≡ file_of o → WellFormed o → RefusedFor bytes f → ⊥
not_both bytes o _ e w (header h) = h o (headed bytes o e w)
not_both bytes o _ e w (instruction p k r v) = not_whole o.code k (as_read (λ x. Unreadable x.code k) bytes o p (headed bytes o e w) r v) w.whole
not_both bytes o _ e w (target p k r x m) =
    w.targets k (as_read (λ x. Lowest (UnfitTargetAt x.code x.main) (Some k)) bytes o p (headed bytes o e w) r m).0

pub one_answer : (bytes : List ℕ) (r s : Result Object ObjectFault) → FoundIn bytes r → FoundIn bytes s → r ≡ s
one_answer bytes (Ok o) (Ok p) a b = ap Ok (one_object bytes o p (headed bytes o a.0 a.1) (headed bytes p b.0 b.1))
one_answer bytes (Ok o) (Err f) a b = absurd (not_both bytes o f a.0 a.1 b)
one_answer bytes (Err f) (Ok o) a b = absurd (not_both bytes o f b.0 b.1 a)
one_answer bytes (Err f) (Err g) a b = ap Err (one_fault bytes f g a b)
