-- The numbers that the constants and the table of places come to.
use Rattle.std.proofs.Common.{◌≡◌, ℕ, zero, suc, ◌+◌, List, [], ◌∷◌, ◌++◌, map, refl}
use Rattle.bk_know.specs.declared.sets.Sets.{Sets}
use Rattle.bk_know.specs.Sets.{Field, Stage, Head, Gp, Kind, Summ, Own, Owner, Others, Victim, Acks, Wb, Mem, Dreq, Down, F0, fields, place, set_of, field, mask_of, only, idle_base, held_base}
use Rattle.bk_know.specs.declared.values.TheConstants.{STAGE_IDLE, STAGE_BLOCKED, STAGE_HELD, STAGE_CLOSING, HEAD_NONE, HEAD_REQUEST, HEAD_INV_ACK, HEAD_COH_ACK, HEAD_WB, HEAD_NULL_WB, HEAD_BLOCK, GP_FREE, GP_PENDING, KIND_RD, KIND_WR, KIND_UC_RD, KIND_UC_WR, KIND_EVICT, SUMM_NO, SUMM_ROW, SUMM_SUM, OWN_I, OWN_S, OWN_E, OWN_F, OWN_M, OWN_O, OWNER_NONE, OWNER_E, OWNER_F, OWNER_M, OWNER_O, OTHERS_NO, OTHERS_YES, VICTIM_LIGHT, VICTIM_HEAVY, ACKS_ZERO, ACKS_SOME, WB_IDLE, WB_ASKED, WB_DIRTY, MEM_IDLE, MEM_ASKED, MEM_GOT, MEM_WRITTEN, DREQ_PAID, DREQ_S, DREQ_E, DREQ_F, DREQ_M, DREQ_O, DOWN_PAID, DOWN_I, DOWN_S, DOWN_F, DOWN_O, FLAG_CLEAR, FLAG_SET}

-- the base masks
idle-word : mask_of idle_base ≡ 0xff08225508242811
idle-word = refl

held-word : mask_of held_base ≡ 0xff08225fffe7e814
held-word = refl

-- numbers one after another, from the first one on
abbrev numbers : ℕ → ℕ → List ℕ
numbers zero first = []
numbers (suc count) first = first ∷ numbers count (suc first)

-- the fields are numbered from 1 in the order of a mask, and each begins where the one before it ends
in-order : (sets : Sets) → map (field sets) (numbers 18 1) ≡ map (set_of sets) fields
in-order sets = refl

adjoining : map (λ f. (place f).0) fields ++ 64 ∷ [] ≡ 0 ∷ map (λ f. (place f).0 + (place f).1) fields
adjoining = refl

-- the sets of one value of a field, the first value's before
abbrev singles : Field → List ℕ
singles f = map only (numbers (place f).1 0)

stages : singles Stage ≡ STAGE_IDLE ∷ STAGE_BLOCKED ∷ STAGE_HELD ∷ STAGE_CLOSING ∷ []
stages = refl

heads : singles Head ≡ HEAD_NONE ∷ HEAD_REQUEST ∷ HEAD_INV_ACK ∷ HEAD_COH_ACK ∷ HEAD_WB ∷ HEAD_NULL_WB ∷ HEAD_BLOCK ∷ []
heads = refl

groups : singles Gp ≡ GP_FREE ∷ GP_PENDING ∷ []
groups = refl

kinds : singles Kind ≡ KIND_RD ∷ KIND_WR ∷ KIND_UC_RD ∷ KIND_UC_WR ∷ KIND_EVICT ∷ []
kinds = refl

sums : singles Summ ≡ SUMM_NO ∷ SUMM_ROW ∷ SUMM_SUM ∷ []
sums = refl

owns : singles Own ≡ OWN_I ∷ OWN_S ∷ OWN_E ∷ OWN_F ∷ OWN_M ∷ OWN_O ∷ []
owns = refl

owners : singles Owner ≡ OWNER_NONE ∷ OWNER_E ∷ OWNER_F ∷ OWNER_M ∷ OWNER_O ∷ []
owners = refl

others : singles Others ≡ OTHERS_NO ∷ OTHERS_YES ∷ []
others = refl

victims : singles Victim ≡ VICTIM_LIGHT ∷ VICTIM_HEAVY ∷ []
victims = refl

acknowledgements : singles Acks ≡ ACKS_ZERO ∷ ACKS_SOME ∷ []
acknowledgements = refl

write-backs : singles Wb ≡ WB_IDLE ∷ WB_ASKED ∷ WB_DIRTY ∷ []
write-backs = refl

memories : singles Mem ≡ MEM_IDLE ∷ MEM_ASKED ∷ MEM_GOT ∷ MEM_WRITTEN ∷ []
memories = refl

requester-debts : singles Dreq ≡ DREQ_PAID ∷ DREQ_S ∷ DREQ_E ∷ DREQ_F ∷ DREQ_M ∷ DREQ_O ∷ []
requester-debts = refl

owner-debts : singles Down ≡ DOWN_PAID ∷ DOWN_I ∷ DOWN_S ∷ DOWN_F ∷ DOWN_O ∷ []
owner-debts = refl

flags : singles F0 ≡ FLAG_CLEAR ∷ FLAG_SET ∷ []
flags = refl
