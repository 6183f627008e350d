-- The names of the opcodes.
use Rattle.std.specs.Prelude.{ℕ, List, [], ◌∷◌, codes, slice_index_or}

-- from opcode 0 on, five to a line; no name where there is no such opcode
abbrev pub mnemonics : List (List ℕ)
mnemonics =
    codes "" ∷ codes "load" ∷ codes "load_0" ∷ codes "load_1" ∷ codes "load_2"
    ∷ codes "load_3" ∷ codes "store" ∷ codes "store_0" ∷ codes "store_1" ∷ codes "store_2"
    ∷ codes "store_3" ∷ codes "getstatic" ∷ codes "putstatic" ∷ codes "" ∷ codes ""
    ∷ codes "const_0" ∷ codes "const_1" ∷ codes "const_2" ∷ codes "const_3" ∷ codes "const_4"
    ∷ codes "const_5" ∷ codes "const_m1" ∷ codes "const" ∷ codes "add" ∷ codes "sub"
    ∷ codes "mul" ∷ codes "div" ∷ codes "rem" ∷ codes "neg" ∷ codes ""
    ∷ codes "" ∷ codes "inc" ∷ codes "" ∷ codes "newarray" ∷ codes "aload"
    ∷ codes "astore" ∷ codes "baload" ∷ codes "bastore" ∷ codes "arraylength" ∷ codes "pop"
    ∷ codes "dup" ∷ codes "dup2" ∷ codes "jmp" ∷ codes "jeq" ∷ codes "jne"
    ∷ codes "jlt" ∷ codes "jle" ∷ codes "jgt" ∷ codes "jge" ∷ codes "call"
    ∷ codes "return" ∷ codes "enter" ∷ codes "exit" ∷ codes "read" ∷ codes "print"
    ∷ codes "bread" ∷ codes "bprint" ∷ codes "trap" ∷ []

abbrev pub mnemonic_of : ℕ → List ℕ
mnemonic_of opcode = slice_index_or mnemonics opcode []
