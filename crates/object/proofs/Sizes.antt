-- An instruction takes at least one byte, and no more than there are.
use Rattle.std.proofs.Common.{◌≡◌, ℕ, suc, ◌≤◌, Bool, true, false, cond, List, [], ◌∷◌, length, Some, None, Option, sym, refl, ap, ◌∙◌, arith}
use Rattle.instructions.specs.declared.Instruction.{Instruction}
use Rattle.instructions.specs.declared.Decoded.{Decoded}
use Rattle.instructions.specs.Table.{Operands, alone, byte, pair, short, signed_short, word, Row, table}
use Rattle.instructions.specs.Decode.{sized_if, with_operands, by_row, decoded}

pub record Sized (d : Decoded) (n : ℕ) : Type 0 where
  pub some : 1 ≤ d.size
  pub within : d.size ≤ n

abbrev size_in : Option Decoded → ℕ
size_in None = 0
size_in (Some d) = d.size

at_size : (n k : ℕ) (d : Decoded) (o : Option Decoded) → size_in o ≡ n → 1 ≤ n → n ≤ k → o ≡ Some d → Sized d k
at_size n k d o s some most e = let same : d.size ≡ n = sym (ap size_in e) ∙ s in record { some = omega arith; within = omega arith }

if_size : (n k : ℕ) (d : Decoded) (o : Option Instruction) → 1 ≤ n → n ≤ k → sized_if n o ≡ Some d → Sized d k
if_size n k d None some most e = absurd (cc)
if_size n k d (Some i) some most e = at_size n k d _ refl some most e

operands_size : (o : Operands) (rest : List ℕ) (d : Decoded) → with_operands o rest ≡ Some d → Sized d (suc (length rest))
operands_size (alone i) rest d e = at_size 1 _ d _ refl (omega arith) (omega arith) e
operands_size (byte f) [] d e = absurd (cc)
operands_size (byte f) (a ∷ r) d e = if_size 2 _ d (f a) (omega arith) (omega arith) e
operands_size (pair f) [] d e = absurd (cc)
operands_size (pair f) (a ∷ []) d e = absurd (cc)
operands_size (pair f) (a ∷ b ∷ r) d e = if_size 3 _ d (f a b) (omega arith) (omega arith) e
operands_size (short f) [] d e = absurd (cc)
operands_size (short f) (a ∷ []) d e = absurd (cc)
operands_size (short f) (a ∷ b ∷ r) d e = at_size 3 _ d _ refl (omega arith) (omega arith) e
operands_size (signed_short f) [] d e = absurd (cc)
operands_size (signed_short f) (a ∷ []) d e = absurd (cc)
operands_size (signed_short f) (a ∷ b ∷ r) d e = at_size 3 _ d _ refl (omega arith) (omega arith) e
operands_size (word f) [] d e = absurd (cc)
operands_size (word f) (a ∷ []) d e = absurd (cc)
operands_size (word f) (a ∷ b ∷ []) d e = absurd (cc)
operands_size (word f) (a ∷ b ∷ c ∷ []) d e = absurd (cc)
operands_size (word f) (a ∷ b ∷ c ∷ x ∷ r) d e = at_size 5 _ d _ refl (omega arith) (omega arith) e

either : (b : Bool) (x y : Option Decoded) (d : Decoded) (n : ℕ) → (x ≡ Some d → Sized d n) → (y ≡ Some d → Sized d n) → cond b x y ≡ Some d → Sized d n
either true x y d n f g e = f e
either false x y d n f g e = g e

row_size : (rs : List Row) (op : ℕ) (rest : List ℕ) (d : Decoded) → by_row rs op rest ≡ Some d → Sized d (suc (length rest))
row_size [] op rest d e = absurd (cc)
row_size (r ∷ rs) op rest d e = either (r.has op) _ _ d _ (operands_size (r.operands op) rest d) (row_size rs op rest d) e

pub decoded_size : (bytes : List ℕ) (d : Decoded) → decoded bytes ≡ Some d → Sized d (length bytes)
decoded_size [] d e = absurd (cc)
decoded_size (op ∷ rest) d e = row_size table op rest d e
