-- A file from its header's numbers.
use Rattle.std.proofs.Common.{◌≡◌, ℕ, ◌+◌, ◌*◌, ◌/◌, ◌%◌, ◌<◌, ◌≤◌, List, [], ◌∷◌, ◌++◌, length, get_or, drop, sym, ap, ◌∙◌, arith, w8, Fits}
use Rattle.std.proofs.lemmas.List.{drop_more}
use Rattle.object.specs.File.{four_bytes}
use Rattle.object.specs.Inspection.{Headed}
use Rattle.object.specs.Numbers.{number_at}

-- four bytes are the digits of their number
same_bytes : (a b c d n : ℕ) → a < 256 → b < 256 → c < 256 → d < 256 → n ≡ a * 16777216 + b * 65536 + c * 256 + d → a ∷ b ∷ c ∷ d ∷ [] ≡ four_bytes n
same_bytes a b c d n ha hb hc hd e =
    let ea : a ≡ n / 16777216 % 256 = omega arith in
    let eb : b ≡ n / 65536 % 256 = omega arith in
    let ec : c ≡ n / 256 % 256 = omega arith in
    let ed : d ≡ n % 256 = omega arith in
    ap (λ x. x ∷ b ∷ c ∷ d ∷ []) ea ∙ ap (λ x. (n / 16777216 % 256) ∷ x ∷ c ∷ d ∷ []) eb ∙ ap (λ x. (n / 16777216 % 256) ∷ (n / 65536 % 256) ∷ x ∷ d ∷ []) ec ∙ ap (λ x. (n / 16777216 % 256) ∷ (n / 65536 % 256) ∷ (n / 256 % 256) ∷ x ∷ []) ed

-- four bytes of a list, from an offset on
four_from : (bytes : List ℕ) (at n : ℕ) → ((i : ℕ) → Fits w8 (get_or bytes i 0)) → at + 4 ≤ length bytes → n ≡ number_at bytes at → drop at bytes ≡ four_bytes n ++ drop (at + 4) bytes
four_from bytes at n fits long e =
    let a = get_or bytes at 0 in
    let b = get_or bytes (at + 1) 0 in
    let c = get_or bytes (at + 2) 0 in
    let d = get_or bytes (at + 3) 0 in
    let e1 : at + 1 + 1 ≡ at + 2 = omega arith in
    let e2 : at + 2 + 1 ≡ at + 3 = omega arith in
    let e3 : at + 3 + 1 ≡ at + 4 = omega arith in
    drop_more bytes at 0 (omega arith) ∙
    ap (λ l. a ∷ l) (drop_more bytes (at + 1) 0 (omega arith) ∙ ap (λ k. b ∷ drop k bytes) e1) ∙
    ap (λ l. a ∷ b ∷ l) (drop_more bytes (at + 2) 0 (omega arith) ∙ ap (λ k. c ∷ drop k bytes) e2) ∙
    ap (λ l. a ∷ b ∷ c ∷ l) (drop_more bytes (at + 3) 0 (omega arith) ∙ ap (λ k. d ∷ drop k bytes) e3) ∙
    ap (λ l. l ++ drop (at + 4) bytes) (same_bytes a b c d n (fits at).fits (fits (at + 1)).fits (fits (at + 2)).fits (fits (at + 3)).fits e)

-- a file whose bytes are read so
pub headed : (bytes code : List ℕ) (size globals main : ℕ) → ((i : ℕ) → Fits w8 (get_or bytes i 0)) → 14 ≤ length bytes → get_or bytes 0 0 ≡ 77 → get_or bytes 1 0 ≡ 74 →
    size ≡ number_at bytes 2 → globals ≡ number_at bytes 6 → main ≡ number_at bytes 10 → code ≡ drop 14 bytes → length code ≡ size → 1 ≤ size → size ≤ 8192 → globals ≤ 65536 → main < size →
    Headed bytes (record { code = code; globals = globals; main = main })
headed bytes code size globals main fits long m j es eg em ec el some most few inside =
    let one = drop_more bytes 0 0 (omega arith) in
    let two = drop_more bytes 1 0 (omega arith) in
    record {
      file =
          one ∙ ap (λ l. get_or bytes 0 0 ∷ l) two ∙ ap (λ x. x ∷ get_or bytes 1 0 ∷ drop 2 bytes) m ∙ ap (λ x. 77 ∷ x ∷ drop 2 bytes) j ∙
          ap (λ l. 77 ∷ 74 ∷ l)
          (four_from bytes 2 size fits (omega arith) es ∙ ap (λ n. four_bytes n ++ drop 6 bytes) (sym el) ∙
          ap (λ l. four_bytes (length code) ++ l)
          (four_from bytes 6 globals fits (omega arith) eg ∙
          ap (λ l. four_bytes globals ++ l)
          (four_from bytes 10 main fits (omega arith) em ∙ ap (λ l. four_bytes main ++ l) (sym ec))));
      limits = record { code_some = omega arith; code_short = omega arith; globals_few = few; main_inside = omega arith };
    }
