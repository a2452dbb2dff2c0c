-- The verdict on programs with one word changed, computed from the word: each is refused at the place, by the obligation that
-- speaks of what went wrong.
use Rattle.std.proofs.Common.{ℕ, zero, suc, List, ◌∷◌, Result, Ok, refl}
use Rattle.bk_isa.specs.declared.fault.WordFault.{WordFault}
use Rattle.bk_isa.specs.declared.form.Form.{Form}
use Rattle.bk_isa.specs.Words.{decode}
use Rattle.bk_image.specs.Images.{Parts}
use Rattle.bk_check.proofs.Programs.{IsRefused, ei, msi, mesi, moesif}

abbrev replaced : List Form → ℕ → Result Form WordFault → List Form
replaced (f ∷ fs) zero (Ok g) = g ∷ fs
replaced (f ∷ fs) (suc p) g = f ∷ replaced fs p g
replaced fs p g = fs

-- the image with this word at this place
abbrev with_word : Parts → ℕ → ℕ → Parts
with_word image place word = record image { instrs = replaced image.instrs place (decode word) }

record Mutants : Type 0 where
  -- `popq`: popq without wp leaves a group pending that is settled
  ei_2 : IsRefused (with_word ei 2 0x5100000000000000) 2 9
  -- `nop`: memory is read though there may be an owner
  ei_53 : IsRefused (with_word ei 53 0x0) 55 14
  -- `nop`: and though the writer's own copy may be dirty
  ei_62 : IsRefused (with_word ei 62 0x0) 65 14
  -- `bi 4`: a branch back that waits for nothing
  ei_61 : IsRefused (with_word ei 61 0x2000000000000004) 61 3
  -- `inv o`: a dirty owner is invalidated and its words are lost
  ei_82 : IsRefused (with_word ei 82 0x5301000000000000) 82 13
  -- `pushq memwb`: nothing is kept that could be written back
  ei_38 : IsRefused (with_word ei 38 0x6800000000000000) 38 20
  -- `bi 255`: a branch to a place without an instruction
  msi_3 : IsRefused (with_word msi 3 0x20000000000000ff) 3 2
  -- `pushq blk M`: a reader is granted M where others may have copies
  msi_57 : IsRefused (with_word msi 57 0x6106000000000000) 57 18
  -- `wfq resp`: a wait before the transaction is closed
  msi_59 : IsRefused (with_word msi 59 0x5001000000000000) 59 23
  -- `nop`: others may have copies where the know line says that none has
  msi_61 : IsRefused (with_word msi 61 0x0) 62 4
  -- `pushq blk M`: a block is granted that memory was not asked for
  msi_64 : IsRefused (with_word msi 64 0x6106000000000000) 64 18
  -- `nop`: the owner's entry is not given its state
  msi_69 : IsRefused (with_word msi 69 0x0) 71 22
  -- `pushq blk E`: an exclusive copy is granted where others have one
  mesi_62 : IsRefused (with_word mesi 62 0x6102000000000000) 62 18
  -- `nop`: acknowledgements are awaited where none is owed
  mesi_95 : IsRefused (with_word mesi 95 0x0) 96 4
  -- `nop`: a pop where there is no message
  mesi_55 : IsRefused (with_word mesi 55 0x0) 56 7
  -- `wde S`: the requester's entry is given another state than its copy
  mesi_59 : IsRefused (with_word mesi 59 0x4201000000000000) 59 21
  -- `pushq tr I S`: a writer is granted S
  mesi_73 : IsRefused (with_word mesi 73 0x6300010000000000) 73 19
  -- `pushq stwb owner I`: an owner is asked where there may be none
  mesi_91 : IsRefused (with_word mesi 91 0x6001000000000000) 91 12
  -- `nop`: a second wait while a head is held
  moesif_5 : IsRefused (with_word moesif 5 0x0) 6 5
  -- `wfq req,resp`: requests are taken while one is deferred
  moesif_6 : IsRefused (with_word moesif 6 0x5005000000000000) 6 6
  -- `popq wp`: a writeback ends a group's transaction
  moesif_16 : IsRefused (with_word moesif 16 0x5101000000000000) 16 10
  -- `nop`: the directory's row is not summed up
  moesif_28 : IsRefused (with_word moesif 28 0x0) 28 4
  -- `nop`: a write is told done that memory was not told
  moesif_37 : IsRefused (with_word moesif 37 0x0) 38 16
  -- `pushq tr F S`: a dirty owner becomes a clean one
  moesif_67 : IsRefused (with_word moesif 67 0x6303010000000000) 67 19
  -- `popq`: a CohAck is popped and its group stays pending
  mesi_2 : IsRefused (with_word mesi 2 0x5100000000000000) 2 9
  -- `bk kind Rd 62`: a request that was granted goes to a second grant: its taken edge exists
  mesi_60 : IsRefused (with_word mesi 60 0x250401000000003e) 60 4

-- Program, word and know lines are all known, so the definitions compute for each of the 26: every place before meets its obligations,
-- and at this place that one is the least unmet.
mutants : Mutants
mutants = record {
  ei_2 = record { before = refl; unmet = refl };
  ei_53 = record { before = refl; unmet = refl };
  ei_62 = record { before = refl; unmet = refl };
  ei_61 = record { before = refl; unmet = refl };
  ei_82 = record { before = refl; unmet = refl };
  ei_38 = record { before = refl; unmet = refl };
  msi_3 = record { before = refl; unmet = refl };
  msi_57 = record { before = refl; unmet = refl };
  msi_59 = record { before = refl; unmet = refl };
  msi_61 = record { before = refl; unmet = refl };
  msi_64 = record { before = refl; unmet = refl };
  msi_69 = record { before = refl; unmet = refl };
  mesi_62 = record { before = refl; unmet = refl };
  mesi_95 = record { before = refl; unmet = refl };
  mesi_55 = record { before = refl; unmet = refl };
  mesi_59 = record { before = refl; unmet = refl };
  mesi_73 = record { before = refl; unmet = refl };
  mesi_91 = record { before = refl; unmet = refl };
  moesif_5 = record { before = refl; unmet = refl };
  moesif_6 = record { before = refl; unmet = refl };
  moesif_16 = record { before = refl; unmet = refl };
  moesif_28 = record { before = refl; unmet = refl };
  moesif_37 = record { before = refl; unmet = refl };
  moesif_67 = record { before = refl; unmet = refl };
  mesi_2 = record { before = refl; unmet = refl };
  mesi_60 = record { before = refl; unmet = refl };
}
