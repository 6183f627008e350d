-- A byte of a word, replaced.
use Rattle.std.proofs.Common.{◌≡◌, ℕ, zero, suc, ◌+◌, ◌*◌, ◌/◌, ◌%◌, ◌^◌, ◌<◌, List, [], ◌∷◌, get_or, set, ℤ, pos, negsuc, refl, ap, ◌∙◌, arith, w32, SFits}
use Rattle.std.proofs.lemmas.Int.{of_z-to_z}
use Rattle.words.specs.Bytes.{bits, with_byte}
use Rattle.words.specs.Laws.{ReplacedAlone}

abbrev apart : ℕ → List ℕ
apart n = (n % 256) ∷ (n / 256 % 256) ∷ (n / 65536 % 256) ∷ (n / 16777216 % 256) ∷ []

abbrev together : List ℕ → ℕ
together bs = get_or bs 0 0 + get_or bs 1 0 * 256 + get_or bs 2 0 * 65536 + get_or bs 3 0 * 16777216

at_byte : (k n b : ℕ) → k < 4 → n < 2 ^ 32 → together (set (apart n) k b) ≡ n / 256 ^ suc k * 256 ^ suc k + b * 256 ^ k + n % 256 ^ k
at_byte zero n b h g = omega arith
at_byte (suc zero) n b h g = omega arith
at_byte (suc (suc zero)) n b h g = omega arith
at_byte (suc (suc (suc zero))) n b h g = omega arith
at_byte (suc (suc (suc (suc k)))) n b h g = absurd (omega arith)

pub replaces_byte : (k n b : ℕ) (bs : List ℕ) → k < 4 → n < 2 ^ 32 → bs ≡ apart n → together (set bs k b) ≡ n / 256 ^ suc k * 256 ^ suc k + b * 256 ^ k + n % 256 ^ k
replaces_byte k n b bs h g e = ap (λ l. together (set l k b)) e ∙ at_byte k n b h g

-- the bits of a word n with b as byte k
abbrev joined : ℕ → ℕ → ℕ → ℕ
joined k b n = n / 256 ^ suc k * 256 ^ suc k + b * 256 ^ k + n % 256 ^ k

joined_fits : (k b n : ℕ) → k < 4 → b < 256 → n < 2 ^ 32 → joined k b n < 2 ^ 32
joined_fits zero b n h g s = omega arith
joined_fits (suc zero) b n h g s = omega arith
joined_fits (suc (suc zero)) b n h g s = omega arith
joined_fits (suc (suc (suc zero))) b n h g s = omega arith
joined_fits (suc (suc (suc (suc k)))) b n h g s = absurd (omega arith)

own_byte : (k b n : ℕ) → k < 4 → b < 256 → n < 2 ^ 32 → joined k b n / 256 ^ k % 256 ≡ b
own_byte zero b n h g s = omega arith
own_byte (suc zero) b n h g s = omega arith
own_byte (suc (suc zero)) b n h g s = omega arith
own_byte (suc (suc (suc zero))) b n h g s = omega arith
own_byte (suc (suc (suc (suc k)))) b n h g s = absurd (omega arith)

other_byte : (j k b n : ℕ) → j < 4 → k < 4 → (j ≡ k → ⊥) → b < 256 → n < 2 ^ 32 → joined k b n / 256 ^ j % 256 ≡ n / 256 ^ j % 256
other_byte zero zero b n h i ne g s = absurd (ne refl)
other_byte zero (suc zero) b n h i ne g s = omega arith
other_byte zero (suc (suc zero)) b n h i ne g s = omega arith
other_byte zero (suc (suc (suc zero))) b n h i ne g s = omega arith
other_byte zero (suc (suc (suc (suc k)))) b n h i ne g s = absurd (omega arith)
other_byte (suc zero) zero b n h i ne g s = omega arith
other_byte (suc zero) (suc zero) b n h i ne g s = absurd (ne refl)
other_byte (suc zero) (suc (suc zero)) b n h i ne g s = omega arith
other_byte (suc zero) (suc (suc (suc zero))) b n h i ne g s = omega arith
other_byte (suc zero) (suc (suc (suc (suc k)))) b n h i ne g s = absurd (omega arith)
other_byte (suc (suc zero)) zero b n h i ne g s = omega arith
other_byte (suc (suc zero)) (suc zero) b n h i ne g s = omega arith
other_byte (suc (suc zero)) (suc (suc zero)) b n h i ne g s = absurd (ne refl)
other_byte (suc (suc zero)) (suc (suc (suc zero))) b n h i ne g s = omega arith
other_byte (suc (suc zero)) (suc (suc (suc (suc k)))) b n h i ne g s = absurd (omega arith)
other_byte (suc (suc (suc zero))) zero b n h i ne g s = omega arith
other_byte (suc (suc (suc zero))) (suc zero) b n h i ne g s = omega arith
other_byte (suc (suc (suc zero))) (suc (suc zero)) b n h i ne g s = omega arith
other_byte (suc (suc (suc zero))) (suc (suc (suc zero))) b n h i ne g s = absurd (ne refl)
other_byte (suc (suc (suc zero))) (suc (suc (suc (suc k)))) b n h i ne g s = absurd (omega arith)
other_byte (suc (suc (suc (suc j)))) k b n h i ne g s = absurd (omega arith)

of_z_fits : (z : ℤ) → SFits w32 z → bits z < 2 ^ 32
of_z_fits (pos n) f = omega (arith, f.sfits)
of_z_fits (negsuc n) f = omega (arith, f.sfits)

pub replaced_alone : (k b : ℕ) (z : ℤ) → k < 4 → b < 256 → SFits w32 z → ReplacedAlone k b z
replaced_alone k b z h g f =
    let s : bits z < 2 ^ 32 = of_z_fits z f in
    let e : bits (with_byte k b z) ≡ joined k b (bits z) = of_z-to_z w32 (joined k b (bits z)) (joined_fits k b (bits z) h g s) in
    record {
      itself = ap (λ n. n / 256 ^ k % 256) e ∙ own_byte k b (bits z) h g s;
      others = λ j i ne. ap (λ n. n / 256 ^ j % 256) e ∙ other_byte j k b (bits z) i h ne g s;
    }
