-- What is owed at an instruction, of the sets at its place: the obligations from the fifth on, by their numbers.
-- "Is" means that the field has that value alone, "in" that it has no other values.
use Rattle.std.specs.Prelude.{ℕ, ◌+◌, ◌==◌, Bool, true, false, ◌&&◌, ◌||◌, not, if◌then◌else◌, Option, Some, None, List, [], ◌∷◌}
use Rattle.bk_base.specs.declared.coh.Coh.{Coh}
use Rattle.bk_base.specs.declared.coh.Coh.TheVariants.{I, S, E, F, M, O}
use Rattle.bk_base.specs.States.{is_writable}
use Rattle.bk_isa.specs.declared.form.Form.{Form}
use Rattle.bk_isa.specs.declared.form.Form.TheVariants.{Mova, Movs, Movw, Bk, Rdw, Gad, Wde, Wds, Fin, Wfq, Popq, Defer, Inv, Stwb, Blk, Wake, Tr, Ucblk, Ucdone, Done, Memrd, Memwb, Memww}
use Rattle.bk_know.specs.declared.sets.Sets.{Sets}
use Rattle.bk_know.specs.Sets.{subset}
use Rattle.bk_isa.specs.declared.operand.TheConstants.{CLASS_RESPONSES, CLASS_MEMORY, CLASS_REQUESTS, CLASS_RESPONSES_REQUESTS, PLAIN, WITH_MARK, WITH_OWNER, WHOSE_OWN, WHOSE_OWNER}
use Rattle.bk_know.specs.declared.values.TheConstants.{STAGE_IDLE, STAGE_BLOCKED, STAGE_HELD, STAGE_CLOSING, STAGE_HELD_CLOSING, HEAD_NONE, HEAD_REQUEST, HEAD_INV_ACK, HEAD_COH_ACK, HEAD_WB, HEAD_NULL_WB, HEAD_BLOCK, GP_FREE, GP_PENDING, KIND_RD, KIND_WR, KIND_UC_RD, KIND_UC_WR, KIND_EVICT, KIND_RD_WR, KIND_RD_WR_UC_RD, SUMM_NO, SUMM_ROW, SUMM_SUM, OWN_I, OWN_I_S, OWN_I_S_F, OWN_S_F_O, OWNER_NONE, OWNER_F, OWNER_NONE_F, OTHERS_NO, VICTIM_LIGHT, VICTIM_HEAVY, ACKS_ZERO, ACKS_SOME, WB_IDLE, WB_ASKED, WB_DIRTY, MEM_IDLE, MEM_ASKED, MEM_GOT, MEM_WRITTEN, DREQ_PAID, DOWN_PAID}
use Rattle.bk_know.specs.declared.fields.TheConstants.{FIELD_GP, FIELD_KIND, FIELD_OWN, FIELD_OWNER, FIELD_OTHERS, FIELD_VICTIM}
use Rattle.bk_flow.specs.Flow.{may, lacks, only_debt, only_down}

abbrev pub implies : Bool → Bool → Bool
implies p q = if p then q else true

-- ---- waiting and taking

abbrev pub single_stage : ℕ → Bool
single_stage v = (v == STAGE_IDLE) || (v == STAGE_BLOCKED) || (v == STAGE_HELD) || (v == STAGE_CLOSING)

-- one kind of message, and not none
abbrev pub single_head : ℕ → Bool
single_head v = (v == HEAD_REQUEST) || (v == HEAD_INV_ACK) || (v == HEAD_COH_ACK) || (v == HEAD_WB) || (v == HEAD_NULL_WB)
    || (v == HEAD_BLOCK)

-- 5. `wfq`: head is None; stage has one value; where it is Idle the classes are responses and requests.
abbrev pub obligation_5 : Form → Sets → Bool
obligation_5 (Wfq a) sets = (sets.head == HEAD_NONE) && single_stage sets.stage
    && implies (sets.stage == STAGE_IDLE) (a == CLASS_RESPONSES_REQUESTS)
obligation_5 _ sets = true

-- a message of a named class will come: an acknowledgement or a write-back is owed, or a block was asked of memory
abbrev pub awaits : ℕ → Sets → Bool
awaits a sets = (may a CLASS_RESPONSES && ((sets.acks == ACKS_SOME) || (sets.wb == WB_ASKED)))
    || (may a CLASS_MEMORY && (sets.mem == MEM_ASKED))

-- 6. `wfq` in Blocked names responses alone. In Held it doesn't name requests, and a message of a named class will come.
abbrev pub obligation_6 : Form → Sets → Bool
obligation_6 (Wfq a) sets =
    implies (sets.stage == STAGE_BLOCKED) (a == CLASS_RESPONSES)
    && implies (sets.stage == STAGE_HELD) (lacks a CLASS_REQUESTS && awaits a sets)
obligation_6 _ sets = true

-- 7. `popq`: head has one value, not None.
abbrev pub obligation_7 : Form → Sets → Bool
obligation_7 (Popq a) sets = single_head sets.head
obligation_7 _ sets = true

-- 8. `popq` of a Request: stage is Idle, gp is free. `defer`: stage is Idle, head is Request, gp is pending.
abbrev pub obligation_8 : Form → Sets → Bool
obligation_8 (Popq a) sets = implies (sets.head == HEAD_REQUEST) ((sets.stage == STAGE_IDLE) && (sets.gp == GP_FREE))
obligation_8 Defer sets = (sets.stage == STAGE_IDLE) && (sets.head == HEAD_REQUEST) && (sets.gp == GP_PENDING)
obligation_8 _ sets = true

-- the messages that begin and end a group's transaction
abbrev pub marks : Sets → Bool
marks sets = (sets.head == HEAD_REQUEST) || (sets.head == HEAD_COH_ACK)

-- 9. `popq` has `wp` on a Request and on a CohAck.
abbrev pub obligation_9 : Form → Sets → Bool
obligation_9 (Popq a) sets = implies (marks sets) (a == WITH_MARK)
obligation_9 _ sets = true

-- the fields of the directory's sum
abbrev pub is_summed : ℕ → Bool
is_summed number = (number == FIELD_OWN) || (number == FIELD_OWNER) || (number == FIELD_OTHERS) || (number == FIELD_VICTIM)

abbrev pub may_branch : ℕ → Sets → Bool
may_branch number sets =
    implies (number == FIELD_GP) (sets.head == HEAD_REQUEST)
    && implies (number == FIELD_KIND) (subset sets.stage STAGE_HELD_CLOSING)
    && implies (is_summed number) ((sets.stage == STAGE_HELD) && (sets.summ == SUMM_SUM))

-- 10. `popq` of any other head has no `wp`. `bk` on gp: head is Request. `bk` on kind: stage in Held, Closing. `bk` on own, owner, others
-- and victim: stage is Held, summ is sum.
abbrev pub obligation_10 : Form → Sets → Bool
obligation_10 (Popq a) sets = implies (not (marks sets)) (a == PLAIN)
obligation_10 (Bk a b to) sets = may_branch a sets
obligation_10 _ sets = true

-- ---- reading and sending

abbrev pub sends : Sets → Bool
sends sets = (sets.stage == STAGE_HELD) && (sets.head == HEAD_NONE) && (sets.summ == SUMM_SUM)

-- `inv` and each `pushq`
abbrev pub is_send : Form → Bool
is_send (Inv a) = true
is_send (Stwb a b) = true
is_send (Blk a) = true
is_send Wake = true
is_send (Tr a b) = true
is_send Ucblk = true
is_send Ucdone = true
is_send Done = true
is_send Memrd = true
is_send Memwb = true
is_send Memww = true
is_send _ = false

abbrev pub may_read : Form → Sets → Bool
may_read Rdw sets = (sets.stage == STAGE_HELD) && (sets.summ == SUMM_NO)
may_read Gad sets = (sets.stage == STAGE_HELD) && (sets.summ == SUMM_ROW)
may_read (Mova a) sets = subset sets.stage STAGE_HELD_CLOSING
may_read (Movs a) sets = subset sets.stage STAGE_HELD_CLOSING
may_read (Movw a) sets = subset sets.stage STAGE_HELD_CLOSING
may_read _ sets = true

-- 11. `rdw`: stage is Held, summ is no. `gad`: stage is Held, summ is row. `mova`, `movs`, `movw`: stage in Held, Closing. `inv` and each
-- `pushq`: stage is Held, head is None, summ is sum.
abbrev pub obligation_11 : Form → Sets → Bool
obligation_11 f sets = implies (is_send f) (sends sets) && may_read f sets

abbrev pub may_flush_own : Coh → Sets → Bool
may_flush_own I sets = lacks sets.own OWN_I
may_flush_own S sets = lacks sets.own OWN_I_S
may_flush_own _ sets = true

abbrev pub may_flush_victim : Coh → Sets → Bool
may_flush_victim I sets = sets.victim == VICTIM_HEAVY
may_flush_victim _ sets = false

abbrev pub may_flush : ℕ → Coh → Sets → Bool
may_flush a state sets = if a == WHOSE_OWN then may_flush_own state sets else if a == WHOSE_OWNER then lacks sets.owner OWNER_NONE
    else may_flush_victim state sets

-- 12. `stwb`: wb is idle. own I: own lacks I. own S: own lacks I and S. owner: owner lacks none. victim: victim is heavy, and the state
-- is I.
abbrev pub obligation_12 : Form → Sets → Bool
obligation_12 (Stwb a b) sets = (sets.wb == WB_IDLE) && may_flush a b sets
obligation_12 _ sets = true

-- 13. `inv o`: owner in none, F.
abbrev pub obligation_13 : Form → Sets → Bool
obligation_13 (Inv a) sets = implies (a == WITH_OWNER) (subset sets.owner OWNER_NONE_F)
obligation_13 _ sets = true

-- 14. `memrd`: kind in Rd, Wr, UcRd; mem is idle; wb is idle; owner in none, F; own in I, S, F.
abbrev pub obligation_14 : Form → Sets → Bool
obligation_14 Memrd sets =
    subset sets.kind KIND_RD_WR_UC_RD
    && (sets.mem == MEM_IDLE)
    && (sets.wb == WB_IDLE)
    && subset sets.owner OWNER_NONE_F
    && subset sets.own OWN_I_S_F
obligation_14 _ sets = true

-- 15. `memww`: kind is UcWr; own is I; owner is none; others is no; acks is zero; wb is idle; mem is idle.
abbrev pub obligation_15 : Form → Sets → Bool
obligation_15 Memww sets =
    (sets.kind == KIND_UC_WR)
    && (sets.own == OWN_I)
    && (sets.owner == OWNER_NONE)
    && (sets.others == OTHERS_NO)
    && (sets.acks == ACKS_ZERO)
    && (sets.wb == WB_IDLE)
    && (sets.mem == MEM_IDLE)
obligation_15 _ sets = true

-- ---- granting

-- 16. `ucblk`: kind is UcRd, mem is got. `ucdone`: kind is UcWr, mem is written. `done`: kind is Evict, own is I.
abbrev pub obligation_16 : Form → Sets → Bool
obligation_16 Ucblk sets = (sets.kind == KIND_UC_RD) && (sets.mem == MEM_GOT)
obligation_16 Ucdone sets = (sets.kind == KIND_UC_WR) && (sets.mem == MEM_WRITTEN)
obligation_16 Done sets = (sets.kind == KIND_EVICT) && (sets.own == OWN_I)
obligation_16 _ sets = true

-- nothing is awaited any more
abbrev pub settled : Sets → Bool
settled sets = (sets.acks == ACKS_ZERO) && (sets.wb == WB_IDLE) && lacks sets.mem MEM_ASKED

-- 17. `blk`, `wake`, `tr`, `ucblk`, `ucdone`, `done`: acks is zero, wb is idle, mem lacks asked. `blk` and `tr`: victim is light.
abbrev pub obligation_17 : Form → Sets → Bool
obligation_17 (Blk a) sets = settled sets && (sets.victim == VICTIM_LIGHT)
obligation_17 Wake sets = settled sets
obligation_17 (Tr a b) sets = settled sets && (sets.victim == VICTIM_LIGHT)
obligation_17 Ucblk sets = settled sets
obligation_17 Ucdone sets = settled sets
obligation_17 Done sets = settled sets
obligation_17 _ sets = true

-- no other cache has a copy
abbrev pub alone : Sets → Bool
alone sets = (sets.owner == OWNER_NONE) && (sets.others == OTHERS_NO)

-- the copies of others bear with a grant of the state
abbrev pub bears : Coh → Sets → Bool
bears S sets = subset sets.owner OWNER_NONE_F
bears F sets = sets.owner == OWNER_NONE
bears E sets = alone sets
bears M sets = alone sets
bears _ sets = true

abbrev pub may_grant : Coh → Sets → Bool
may_grant state sets = subset sets.kind KIND_RD_WR && (sets.mem == MEM_GOT) && implies (may sets.kind KIND_WR) (is_writable state)
    && bears state sets

-- 18. `blk X`: kind in Rd, Wr; mem is got; where kind may be Wr, X is E or M. Where X is E or M, owner is none and others is no; where
-- X is F,
-- owner is none; where X is S, owner in none, F. `wake`: kind is Wr; own in S, F, O; owner is none; others is no.
abbrev pub obligation_18 : Form → Sets → Bool
obligation_18 (Blk a) sets = may_grant a sets
obligation_18 Wake sets = (sets.kind == KIND_WR) && subset sets.own OWN_S_F_O && alone sets
obligation_18 _ sets = true

-- the states that the owner and the requester may be given, in that order
abbrev pub may_pair : Coh → Coh → Sets → Bool
may_pair O S sets = true
may_pair S O sets = true
may_pair I O sets = true
may_pair I M sets = true
may_pair F S sets = sets.owner == OWNER_F
may_pair S F sets = sets.owner == OWNER_F
may_pair I F sets = sets.owner == OWNER_F
may_pair _ _ sets = false

-- the requester becomes the only one that has a copy
abbrev pub is_handover : Coh → Coh → Bool
is_handover I M = true
is_handover _ _ = false

abbrev pub may_transfer : Coh → Coh → Sets → Bool
may_transfer y state sets =
    lacks sets.owner OWNER_NONE
    && may_pair y state sets
    && (if is_handover y state then (sets.others == OTHERS_NO) && subset sets.kind KIND_RD_WR else sets.kind == KIND_RD)

-- 19. `tr Y X`: owner lacks none. The pair is (O, S), (S, O), (I, O) or (I, M); or, where owner is F, also (F, S), (S, F) or (I, F).
-- For (I, M)
-- others is no and kind in Rd, Wr. For every other pair kind is Rd.
abbrev pub obligation_19 : Form → Sets → Bool
obligation_19 (Tr a b) sets = may_transfer a b sets
obligation_19 _ sets = true

-- 20. `memwb`: wb is dirty.
abbrev pub obligation_20 : Form → Sets → Bool
obligation_20 Memwb sets = sets.wb == WB_DIRTY
obligation_20 _ sets = true

-- ---- closing

abbrev pub may_pay : ℕ → Coh → Sets → Bool
may_pay a state sets = (sets.stage == STAGE_CLOSING) && (if a == WHOSE_OWN then (sets.dreq == only_debt state) && lacks sets.own OWN_I
    else sets.down == only_down state)

-- 21. `wde X`: stage is Closing, dreq is X. `wds own X`: also own lacks I. `wds owner X`: stage is Closing, down is X.
abbrev pub obligation_21 : Form → Sets → Bool
obligation_21 (Wde a) sets = (sets.stage == STAGE_CLOSING) && (sets.dreq == only_debt a)
obligation_21 (Wds a b) sets = may_pay a b sets
obligation_21 _ sets = true

-- 22. `fin`: stage is Closing, head is None, dreq is paid, down is paid.
abbrev pub obligation_22 : Form → Sets → Bool
obligation_22 Fin sets = (sets.stage == STAGE_CLOSING) && (sets.head == HEAD_NONE) && (sets.dreq == DREQ_PAID) && (sets.down == DOWN_PAID)
obligation_22 _ sets = true

-- 23. `wfq`, `popq`, `defer`: stage lacks Closing.
abbrev pub obligation_23 : Form → Sets → Bool
obligation_23 (Wfq a) sets = lacks sets.stage STAGE_CLOSING
obligation_23 (Popq a) sets = lacks sets.stage STAGE_CLOSING
obligation_23 Defer sets = lacks sets.stage STAGE_CLOSING
obligation_23 _ sets = true

-- ---- the least

-- the number of a test that fails, or what comes of the later ones
abbrev pub or_later : Bool → ℕ → Option ℕ → Option ℕ
or_later met number later = if met then later else Some number

-- the number of the first test that fails, where the first test has a number
abbrev pub first_failed : ℕ → List Bool → Option ℕ
first_failed n [] = None
first_failed n (met ∷ later) = or_later met n (first_failed (n + 1) later)

-- the obligations on an instruction and its sets, in order, from the fifth on
abbrev pub obligations : Form → Sets → List Bool
obligations f sets =
    obligation_5 f sets
    ∷ obligation_6 f sets
    ∷ obligation_7 f sets
    ∷ obligation_8 f sets
    ∷ obligation_9 f sets
    ∷ obligation_10 f sets
    ∷ obligation_11 f sets
    ∷ obligation_12 f sets
    ∷ obligation_13 f sets
    ∷ obligation_14 f sets
    ∷ obligation_15 f sets
    ∷ obligation_16 f sets
    ∷ obligation_17 f sets
    ∷ obligation_18 f sets
    ∷ obligation_19 f sets
    ∷ obligation_20 f sets
    ∷ obligation_21 f sets
    ∷ obligation_22 f sets
    ∷ obligation_23 f sets ∷ []

-- the least of them that is not met
abbrev pub unmet_here : Form → Sets → Option ℕ
unmet_here f sets = first_failed 5 (obligations f sets)
