-- Programs of the four protocols with one word replaced: the name of the protocol, the place, the new instruction's word, and where
-- and by which obligation the verifier refuses it.
use Rattle.std.specs.Prelude.{ℕ, List, [], ◌∷◌, codes}
use Rattle.bk_check.specs.declared.pass.Refusal.{Refusal}

abbrev pub refused : List ℕ → ℕ → ℕ → ℕ → ℕ → List ℕ × ℕ × ℕ × Refusal
refused name place word at obligation = (name, place, word, record { at = at; obligation = obligation })

abbrev pub mutants : List (List ℕ × ℕ × ℕ × Refusal)
mutants =
    refused (codes "ei") 2 0x5100000000000000 2 9 ∷  -- `popq`
    refused (codes "ei") 53 0x0 55 14 ∷  -- `nop`
    refused (codes "ei") 62 0x0 65 14 ∷  -- `nop`
    refused (codes "ei") 61 0x2000000000000004 61 3 ∷  -- `bi 4`
    refused (codes "ei") 82 0x5301000000000000 82 13 ∷  -- `inv o`
    refused (codes "ei") 38 0x6800000000000000 38 20 ∷  -- `pushq memwb`
    refused (codes "msi") 3 0x20000000000000ff 3 2 ∷  -- `bi 255`
    refused (codes "msi") 57 0x6106000000000000 57 18 ∷  -- `pushq blk M`
    refused (codes "msi") 59 0x5001000000000000 59 23 ∷  -- `wfq resp`
    refused (codes "msi") 61 0x0 62 4 ∷  -- `nop`
    refused (codes "msi") 64 0x6106000000000000 64 18 ∷  -- `pushq blk M`
    refused (codes "msi") 69 0x0 71 22 ∷  -- `nop`
    refused (codes "mesi") 62 0x6102000000000000 62 18 ∷  -- `pushq blk E`
    refused (codes "mesi") 95 0x0 96 4 ∷  -- `nop`
    refused (codes "mesi") 55 0x0 56 7 ∷  -- `nop`
    refused (codes "mesi") 59 0x4201000000000000 59 21 ∷  -- `wde S`
    refused (codes "mesi") 73 0x6300010000000000 73 19 ∷  -- `pushq tr I S`
    refused (codes "mesi") 91 0x6001000000000000 91 12 ∷  -- `pushq stwb owner I`
    refused (codes "moesif") 5 0x0 6 5 ∷  -- `nop`
    refused (codes "moesif") 6 0x5005000000000000 6 6 ∷  -- `wfq req,resp`
    refused (codes "moesif") 16 0x5101000000000000 16 10 ∷  -- `popq wp`
    refused (codes "moesif") 28 0x0 28 4 ∷  -- `nop`
    refused (codes "moesif") 37 0x0 38 16 ∷  -- `nop`
    refused (codes "moesif") 67 0x6303010000000000 67 19 ∷  -- `pushq tr F S`
    []
