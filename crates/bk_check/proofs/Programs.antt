-- The verdict on whole images, computed: the programs of four protocols are accepted, those past the caches are refused.
use Rattle.std.proofs.Common.{◌≡◌, ℕ, zero, suc, Bool, true, false, List, [], ◌∷◌, Option, Some, None, length, refl, cond}
use Rattle.bk_base.specs.declared.coh.Coh.TheVariants.{I, S, E, F, M, O}
use Rattle.bk_isa.specs.declared.form.Form.{Form}
use Rattle.bk_isa.specs.declared.form.Form.TheVariants.{Wfq, Bk, Popq, Bi, Defer, Rdw, Gad, Wde, Wds, Fin, Inv, Stwb, Blk, Wake, Tr, Ucblk, Ucdone, Done, Memrd, Memwb, Memww}
use Rattle.bk_know.specs.Sets.{sets_of}
use Rattle.bk_image.specs.Images.{Parts, Line}
use Rattle.bk_check.specs.Accepted.{unmet_at}

abbrev is_met : Option ℕ → Bool
is_met None = true
is_met (Some k) = false

-- each place below n meets its obligations
abbrev pub all_met : Parts → ℕ → Bool
all_met image zero = true
all_met image (suc n) = cond (is_met (unmet_at image n)) (all_met image n) false

-- this place is the first that doesn't meet its obligations, and this obligation the least
pub record IsRefused (image : Parts) (at obligation : ℕ) : Type 0 where
  pub before : all_met image at ≡ true
  pub unmet : unmet_at image at ≡ Some obligation

-- no copies are shared

abbrev ei_lines : List Line
ei_lines =
    (0, sets_of 0xff08225508242811) ∷ (4, sets_of 0xff08225508243821) ∷ (9, sets_of 0xff08229ffff3e814)
    ∷ (14, sets_of 0xff08229ffff3e884)
    ∷ (16, sets_of 0xff08229ffff3e904) ∷ (19, sets_of 0xff08226ffff3e814) ∷ (24, sets_of 0xff08226ffff3e884)
    ∷ (26, sets_of 0xff08225508242821)
    ∷ (29, sets_of 0xff08225ffff3e814) ∷ (41, sets_of 0xff082257fff20814) ∷ (45, sets_of 0xff082257fff08814)
    ∷ (53, sets_of 0xff082257f8302814)
    ∷ (62, sets_of 0xff082257fd704814) ∷ (72, sets_of 0xff08225bfff3e814) ∷ (74, sets_of 0xff08225ff7f3e814)
    ∷ (76, sets_of 0xff08225ff7f3e814)
    ∷ (78, sets_of 0xff08225fffd3e814) ∷ (80, sets_of 0xff08225ffe93e814) ∷ (82, sets_of 0xff08225efff3e814) ∷ []

abbrev ei_forms : List Form
ei_forms =
    Wfq 5 ∷ Bk 2 2 4 ∷ Popq 1 ∷ Bi 0 ∷ Bk 3 1 26 ∷ Defer ∷ Wfq 1 ∷ Popq 1 ∷ Bi 0 ∷ Wfq 1 ∷ Bk 2 8 14 ∷ Bk 2 16 16
    ∷ Popq 0 ∷ Bi 29
    ∷ Popq 1 ∷ Bi 9
    ∷ Popq 0 ∷ Memwb ∷ Bi 29 ∷ Wfq 1 ∷ Bk 2 8 24 ∷ Popq 0 ∷ Bk 10 2 19 ∷ Bi 29 ∷ Popq 1 ∷ Bi 19 ∷ Popq 1 ∷ Rdw
    ∷ Gad ∷ Bk 9 2 72 ∷ Bk 4 1 53
    ∷ Bk 4 2 62 ∷ Bk 4 4 45 ∷ Bk 4 16 41 ∷ Bk 7 30 74 ∷ Bk 6 62 78 ∷ Bk 8 2 82 ∷ Memww ∷ Ucdone ∷ Fin
    ∷ Bi 0 ∷ Bk 6 62 78
    ∷ Done ∷ Fin ∷ Bi 0
    ∷ Bk 7 26 74 ∷ Bk 6 52 78 ∷ Memrd ∷ Wfq 2 ∷ Popq 0 ∷ Ucblk ∷ Fin ∷ Bi 0 ∷ Bk 7 30 74 ∷ Bk 8 2 82 ∷ Memrd ∷ Wfq 2
    ∷ Popq 0 ∷ Blk E
    ∷ Wde E ∷ Fin
    ∷ Bi 0 ∷ Bk 6 42 78 ∷ Bk 7 30 74 ∷ Bk 8 2 82 ∷ Memrd ∷ Wfq 2 ∷ Popq 0 ∷ Blk E ∷ Wde E ∷ Fin ∷ Bi 0 ∷ Stwb 2 I
    ∷ Bi 9 ∷ Stwb 1 I
    ∷ Bi 9 ∷ Stwb 1 S
    ∷ Bi 9 ∷ Stwb 0 I ∷ Bi 9 ∷ Stwb 0 S ∷ Bi 9 ∷ Inv 0 ∷ Bi 19 ∷ []

abbrev pub ei : Parts
ei = record { version = 1; limit = 8; instrs = ei_forms; knows = ei_lines }

ei_size : length ei.instrs ≡ 84
ei_size = refl

ei_accepted : all_met ei 84 ≡ true
ei_accepted = refl

-- modified, shared, invalid

abbrev msi_lines : List Line
msi_lines =
    (0, sets_of 0xff08225508242811) ∷ (4, sets_of 0xff08225508243821) ∷ (9, sets_of 0xff08229ffff3e814)
    ∷ (14, sets_of 0xff08229ffff3e884)
    ∷ (16, sets_of 0xff08229ffff3e904) ∷ (19, sets_of 0xff08226ffff3e814) ∷ (24, sets_of 0xff08226ffff3e884)
    ∷ (26, sets_of 0xff08225508242821)
    ∷ (29, sets_of 0xff08225ffff3e814) ∷ (41, sets_of 0xff082257fff20814) ∷ (45, sets_of 0xff082257fff08814)
    ∷ (53, sets_of 0xff082257f8302814)
    ∷ (61, sets_of 0xff082257fd704814) ∷ (68, sets_of 0xff082255f5704814) ∷ (73, sets_of 0xff08225508304814)
    ∷ (80, sets_of 0xff08225bfff3e814)
    ∷ (82, sets_of 0xff08225ff7f3e814) ∷ (84, sets_of 0xff08225ff7f3e814) ∷ (86, sets_of 0xff08225fffd3e814)
    ∷ (88, sets_of 0xff08225ffe93e814)
    ∷ (90, sets_of 0xff08225efff3e814) ∷ []

abbrev msi_forms : List Form
msi_forms =
    Wfq 5 ∷ Bk 2 2 4 ∷ Popq 1 ∷ Bi 0 ∷ Bk 3 1 26 ∷ Defer ∷ Wfq 1 ∷ Popq 1 ∷ Bi 0 ∷ Wfq 1 ∷ Bk 2 8 14 ∷ Bk 2 16 16
    ∷ Popq 0 ∷ Bi 29
    ∷ Popq 1 ∷ Bi 9
    ∷ Popq 0 ∷ Memwb ∷ Bi 29 ∷ Wfq 1 ∷ Bk 2 8 24 ∷ Popq 0 ∷ Bk 10 2 19 ∷ Bi 29 ∷ Popq 1 ∷ Bi 19 ∷ Popq 1 ∷ Rdw
    ∷ Gad ∷ Bk 9 2 80 ∷ Bk 4 1 53
    ∷ Bk 4 2 61 ∷ Bk 4 4 45 ∷ Bk 4 16 41 ∷ Bk 7 30 82 ∷ Bk 6 62 86 ∷ Bk 8 2 90 ∷ Memww ∷ Ucdone ∷ Fin
    ∷ Bi 0 ∷ Bk 6 62 86
    ∷ Done ∷ Fin ∷ Bi 0
    ∷ Bk 7 26 84 ∷ Bk 6 52 88 ∷ Memrd ∷ Wfq 2 ∷ Popq 0 ∷ Ucblk ∷ Fin ∷ Bi 0 ∷ Bk 7 30 84 ∷ Memrd ∷ Wfq 2
    ∷ Popq 0 ∷ Blk S
    ∷ Wde S ∷ Fin ∷ Bi 0
    ∷ Bk 8 2 90 ∷ Bk 7 30 68 ∷ Bk 6 1 73 ∷ Wake ∷ Wds 0 M ∷ Fin ∷ Bi 0 ∷ Tr I M ∷ Wds 1 I ∷ Wde M ∷ Fin ∷ Bi 0
    ∷ Memrd ∷ Wfq 2
    ∷ Popq 0 ∷ Blk M
    ∷ Wde M ∷ Fin ∷ Bi 0 ∷ Stwb 2 I ∷ Bi 9 ∷ Stwb 1 I ∷ Bi 9 ∷ Stwb 1 S ∷ Bi 9 ∷ Stwb 0 I ∷ Bi 9 ∷ Stwb 0 S ∷ Bi 9
    ∷ Inv 0 ∷ Bi 19 ∷ []

abbrev pub msi : Parts
msi = record { version = 1; limit = 8; instrs = msi_forms; knows = msi_lines }

msi_size : length msi.instrs ≡ 92
msi_size = refl

msi_accepted : all_met msi 92 ≡ true
msi_accepted = refl

-- and exclusive

abbrev mesi_lines : List Line
mesi_lines =
    (0, sets_of 0xff08225508242811) ∷ (4, sets_of 0xff08225508243821) ∷ (9, sets_of 0xff08229ffff3e814)
    ∷ (14, sets_of 0xff08229ffff3e884)
    ∷ (16, sets_of 0xff08229ffff3e904) ∷ (19, sets_of 0xff08226ffff3e814) ∷ (24, sets_of 0xff08226ffff3e884)
    ∷ (26, sets_of 0xff08225508242821)
    ∷ (29, sets_of 0xff08225ffff3e814) ∷ (41, sets_of 0xff082257fff20814) ∷ (45, sets_of 0xff082257fff08814)
    ∷ (53, sets_of 0xff082257f8302814)
    ∷ (62, sets_of 0xff08285608302814) ∷ (66, sets_of 0xff082257fd704814) ∷ (73, sets_of 0xff082255f5704814)
    ∷ (78, sets_of 0xff08225508304814)
    ∷ (85, sets_of 0xff08225bfff3e814) ∷ (87, sets_of 0xff08225ff7f3e814) ∷ (89, sets_of 0xff08225ff7f3e814)
    ∷ (91, sets_of 0xff08225fffd3e814)
    ∷ (93, sets_of 0xff08225ffe93e814) ∷ (95, sets_of 0xff08225efff3e814) ∷ []

abbrev mesi_forms : List Form
mesi_forms =
    Wfq 5 ∷ Bk 2 2 4 ∷ Popq 1 ∷ Bi 0 ∷ Bk 3 1 26 ∷ Defer ∷ Wfq 1 ∷ Popq 1 ∷ Bi 0 ∷ Wfq 1 ∷ Bk 2 8 14 ∷ Bk 2 16 16
    ∷ Popq 0 ∷ Bi 29
    ∷ Popq 1 ∷ Bi 9
    ∷ Popq 0 ∷ Memwb ∷ Bi 29 ∷ Wfq 1 ∷ Bk 2 8 24 ∷ Popq 0 ∷ Bk 10 2 19 ∷ Bi 29 ∷ Popq 1 ∷ Bi 19 ∷ Popq 1 ∷ Rdw
    ∷ Gad ∷ Bk 9 2 85 ∷ Bk 4 1 53
    ∷ Bk 4 2 66 ∷ Bk 4 4 45 ∷ Bk 4 16 41 ∷ Bk 7 30 87 ∷ Bk 6 62 91 ∷ Bk 8 2 95 ∷ Memww ∷ Ucdone ∷ Fin
    ∷ Bi 0 ∷ Bk 6 62 91
    ∷ Done ∷ Fin ∷ Bi 0
    ∷ Bk 7 26 89 ∷ Bk 6 52 93 ∷ Memrd ∷ Wfq 2 ∷ Popq 0 ∷ Ucblk ∷ Fin ∷ Bi 0 ∷ Bk 7 30 89 ∷ Memrd ∷ Wfq 2 ∷ Popq 0
    ∷ Bk 8 2 62 ∷ Blk E
    ∷ Wde E ∷ Fin
    ∷ Bi 0 ∷ Blk S ∷ Wde S ∷ Fin ∷ Bi 0 ∷ Bk 8 2 95 ∷ Bk 7 30 73 ∷ Bk 6 1 78 ∷ Wake ∷ Wds 0 M ∷ Fin ∷ Bi 0
    ∷ Tr I M ∷ Wds 1 I
    ∷ Wde M ∷ Fin ∷ Bi 0
    ∷ Memrd ∷ Wfq 2 ∷ Popq 0 ∷ Blk M ∷ Wde M ∷ Fin ∷ Bi 0 ∷ Stwb 2 I ∷ Bi 9 ∷ Stwb 1 I ∷ Bi 9 ∷ Stwb 1 S ∷ Bi 9
    ∷ Stwb 0 I ∷ Bi 9
    ∷ Stwb 0 S ∷ Bi 9
    ∷ Inv 0 ∷ Bi 19 ∷ []

abbrev pub mesi : Parts
mesi = record { version = 1; limit = 8; instrs = mesi_forms; knows = mesi_lines }

mesi_size : length mesi.instrs ≡ 97
mesi_size = refl

mesi_accepted : all_met mesi 97 ≡ true
mesi_accepted = refl

-- and owned and forward

abbrev moesif_lines : List Line
moesif_lines =
    (0, sets_of 0xff08225508242811) ∷ (4, sets_of 0xff08225508243821) ∷ (9, sets_of 0xff08229ffff3e814)
    ∷ (14, sets_of 0xff08229ffff3e884)
    ∷ (16, sets_of 0xff08229ffff3e904) ∷ (19, sets_of 0xff08226ffff3e814) ∷ (24, sets_of 0xff08226ffff3e884)
    ∷ (26, sets_of 0xff08225508242821)
    ∷ (29, sets_of 0xff08225ffff3e814) ∷ (41, sets_of 0xff082257fff20814) ∷ (45, sets_of 0xff082257fff08814)
    ∷ (53, sets_of 0xff082257f8302814)
    ∷ (63, sets_of 0xff08285608302814) ∷ (67, sets_of 0xff082257d0302814) ∷ (72, sets_of 0xff08225720302814)
    ∷ (77, sets_of 0xff082257fd704814)
    ∷ (84, sets_of 0xff082255f5704814) ∷ (89, sets_of 0xff08225508304814) ∷ (96, sets_of 0xff08225bfff3e814)
    ∷ (98, sets_of 0xff08225ff7f3e814)
    ∷ (100, sets_of 0xff08225ff7f3e814) ∷ (102, sets_of 0xff08225fffd3e814) ∷ (104, sets_of 0xff08225ffe93e814)
    ∷ (106, sets_of 0xff08225efff3e814)
    ∷ []

abbrev moesif_forms : List Form
moesif_forms =
    Wfq 5 ∷ Bk 2 2 4 ∷ Popq 1 ∷ Bi 0 ∷ Bk 3 1 26 ∷ Defer ∷ Wfq 1 ∷ Popq 1 ∷ Bi 0 ∷ Wfq 1 ∷ Bk 2 8 14 ∷ Bk 2 16 16
    ∷ Popq 0 ∷ Bi 29
    ∷ Popq 1 ∷ Bi 9
    ∷ Popq 0 ∷ Memwb ∷ Bi 29 ∷ Wfq 1 ∷ Bk 2 8 24 ∷ Popq 0 ∷ Bk 10 2 19 ∷ Bi 29 ∷ Popq 1 ∷ Bi 19 ∷ Popq 1 ∷ Rdw
    ∷ Gad ∷ Bk 9 2 96 ∷ Bk 4 1 53
    ∷ Bk 4 2 77 ∷ Bk 4 4 45 ∷ Bk 4 16 41 ∷ Bk 7 30 98 ∷ Bk 6 62 102 ∷ Bk 8 2 106 ∷ Memww ∷ Ucdone ∷ Fin ∷ Bi 0
    ∷ Bk 6 62 102
    ∷ Done ∷ Fin ∷ Bi 0
    ∷ Bk 7 26 100 ∷ Bk 6 52 104 ∷ Memrd ∷ Wfq 2 ∷ Popq 0 ∷ Ucblk ∷ Fin ∷ Bi 0 ∷ Bk 7 26 67 ∷ Bk 7 4 72 ∷ Memrd
    ∷ Wfq 2 ∷ Popq 0
    ∷ Bk 8 2 63 ∷ Blk E
    ∷ Wde E ∷ Fin ∷ Bi 0 ∷ Blk F ∷ Wde F ∷ Fin ∷ Bi 0 ∷ Tr O S ∷ Wds 1 O ∷ Wde S ∷ Fin ∷ Bi 0 ∷ Tr F S ∷ Wds 1 F
    ∷ Wde S ∷ Fin
    ∷ Bi 0 ∷ Bk 8 2 106
    ∷ Bk 7 30 84 ∷ Bk 6 1 89 ∷ Wake ∷ Wds 0 M ∷ Fin ∷ Bi 0 ∷ Tr I M ∷ Wds 1 I ∷ Wde M ∷ Fin ∷ Bi 0 ∷ Memrd ∷ Wfq 2
    ∷ Popq 0 ∷ Blk M
    ∷ Wde M ∷ Fin
    ∷ Bi 0 ∷ Stwb 2 I ∷ Bi 9 ∷ Stwb 1 I ∷ Bi 9 ∷ Stwb 1 S ∷ Bi 9 ∷ Stwb 0 I ∷ Bi 9 ∷ Stwb 0 S ∷ Bi 9
    ∷ Inv 0 ∷ Bi 19 ∷ []

abbrev pub moesif : Parts
moesif = record { version = 1; limit = 8; instrs = moesif_forms; knows = moesif_lines }

moesif_size : length moesif.instrs ≡ 108
moesif_size = refl

moesif_accepted : all_met moesif 108 ≡ true
moesif_accepted = refl

-- accesses past the caches alone

abbrev uc_forms : List Form
uc_forms =
    Wfq 5 ∷ Bk 2 2 4 ∷ Popq 1 ∷ Bi 0 ∷ Bk 3 1 9 ∷ Defer ∷ Wfq 1 ∷ Popq 1 ∷ Bi 0 ∷ Popq 1 ∷ Bk 4 4 15 ∷ Memww
    ∷ Ucdone ∷ Fin ∷ Bi 0
    ∷ Memrd ∷ Wfq 2
    ∷ Popq 0 ∷ Ucblk ∷ Fin ∷ Bi 0 ∷ []

abbrev uc_lines : List Line
uc_lines =
    (0, sets_of 0xff08225508242811) ∷ (4, sets_of 0xff08225508243821) ∷ (9, sets_of 0xff08225508242821)
    ∷ (15, sets_of 0xff08225fffe48814) ∷ []

abbrev uc : Parts
uc = record { version = 1; limit = 8; instrs = uc_forms; knows = [] }

abbrev uck : Parts
uck = record { version = 1; limit = 8; instrs = uc_forms; knows = uc_lines }

-- without know lines there is no mask at the start
uc_refused : IsRefused uc 0 1
uc_refused = record { before = refl; unmet = refl }

-- with them it is refused where it writes to memory without having read the directory
uck_refused : IsRefused uck 11 11
uck_refused = record { before = refl; unmet = refl }
