-- What the table admits for an operation is spelled by the form that is made of it.
use Rattle.std.proofs.Common.{◌≡◌, ℕ, Some, None, refl, sym, ap, subst, arith, eqb, false, inl, inr}
use Rattle.std.proofs.lemmas.Bool.{ne_eqb, cases_eq}
use Rattle.std.proofs.lemmas.Option.{same_Some}
use Rattle.bk_isa.specs.declared.fields.Fields.{Fields}
use Rattle.bk_isa.specs.declared.opcode.TheConstants.{NOP, ADD, SUB, AND, OR, XOR, SHL, SHR, ADDI, NOT, NEG, MOV, MOVI, MOVA, MOVS, MOVW, MOVK, BI, BEQ, BNE, BLT, BGE, BK, SF, CF, NF, MOVF, ANDF, ORF, RDW, GAD, WDE, WDS, FIN, WFQ, POPQ, DEFER, INV, STWB, BLK, WAKE, TR, UCBLK, UCDONE, DONE, MEMRD, MEMWB, MEMWW}
use Rattle.bk_isa.specs.declared.table.FieldRanges.{FieldRanges}
use Rattle.bk_isa.specs.Fields.{fields_of, form_of}
use Rattle.bk_isa.specs.Table.{ranges_of}
use Rattle.bk_isa.proofs.Admitted.{AdmitsAll}
use Rattle.bk_isa.proofs.States.{code_of-all_states, code_of-valid_states, code_of-clean_states, code_of-granted_states, code_of-left_states, code_of-received_states}

abbrev pub RoundTrips : ℕ → Type 0
RoundTrips op = (p : Fields) → p.op ≡ op → (r : FieldRanges) → ranges_of op p.a ≡ Some r → AdmitsAll r p
    → fields_of (form_of p) ≡ p

trips_nop : RoundTrips NOP
trips_nop p e r q h = grind arith

trips_add : RoundTrips ADD
trips_add p e r q h = grind arith

trips_sub : RoundTrips SUB
trips_sub p e r q h = grind arith

trips_and : RoundTrips AND
trips_and p e r q h = grind arith

trips_or : RoundTrips OR
trips_or p e r q h = grind arith

trips_xor : RoundTrips XOR
trips_xor p e r q h = grind arith

trips_shl : RoundTrips SHL
trips_shl p e r q h = grind arith

trips_shr : RoundTrips SHR
trips_shr p e r q h = grind arith

trips_addi : RoundTrips ADDI
trips_addi p e r q h = grind arith

trips_not : RoundTrips NOT
trips_not p e r q h = grind arith

trips_neg : RoundTrips NEG
trips_neg p e r q h = grind arith

trips_mov : RoundTrips MOV
trips_mov p e r q h = grind arith

trips_movi : RoundTrips MOVI
trips_movi p e r q h = grind arith

trips_mova : RoundTrips MOVA
trips_mova p e r q h = grind arith

trips_movs : RoundTrips MOVS
trips_movs p e r q h = grind arith

trips_movw : RoundTrips MOVW
trips_movw p e r q h = grind arith

trips_movk : RoundTrips MOVK
trips_movk p e r q h = grind arith

trips_bi : RoundTrips BI
trips_bi p e r q h = grind arith

trips_beq : RoundTrips BEQ
trips_beq p e r q h = grind arith

trips_bne : RoundTrips BNE
trips_bne p e r q h = grind arith

trips_blt : RoundTrips BLT
trips_blt p e r q h = grind arith

trips_bge : RoundTrips BGE
trips_bge p e r q h = grind arith

trips_bk : RoundTrips BK
trips_bk p e r q h = grind arith

trips_sf : RoundTrips SF
trips_sf p e r q h = grind arith

trips_cf : RoundTrips CF
trips_cf p e r q h = grind arith

trips_nf : RoundTrips NF
trips_nf p e r q h = grind arith

trips_movf : RoundTrips MOVF
trips_movf p e r q h = grind arith

trips_andf : RoundTrips ANDF
trips_andf p e r q h = grind arith

trips_orf : RoundTrips ORF
trips_orf p e r q h = grind arith

trips_rdw : RoundTrips RDW
trips_rdw p e r q h = grind arith

trips_gad : RoundTrips GAD
trips_gad p e r q h = grind arith

trips_wde : RoundTrips WDE
trips_wde p e r q h =
    let code_a = code_of-valid_states r.a p.a (ap (λ (x : FieldRanges). x.a) (sym (same_Some _ _ q))) h.a in
    grind (arith, code_a)

trips_wds : RoundTrips WDS
trips_wds p e r q h =
    let code_b = code_of-all_states r.b p.b (ap (λ (x : FieldRanges). x.b) (sym (same_Some _ _ q))) h.b in
    grind (arith, code_b)

trips_fin : RoundTrips FIN
trips_fin p e r q h = grind arith

trips_wfq : RoundTrips WFQ
trips_wfq p e r q h = grind arith

trips_popq : RoundTrips POPQ
trips_popq p e r q h = grind arith

trips_defer : RoundTrips DEFER
trips_defer p e r q h = grind arith

trips_inv : RoundTrips INV
trips_inv p e r q h = grind arith

trips_stwb : RoundTrips STWB
trips_stwb p e r q h =
    let code_b = code_of-clean_states r.b p.b (ap (λ (x : FieldRanges). x.b) (sym (same_Some _ _ q))) h.b in
    grind (arith, code_b)

trips_blk : RoundTrips BLK
trips_blk p e r q h =
    let code_a = code_of-granted_states r.a p.a (ap (λ (x : FieldRanges). x.a) (sym (same_Some _ _ q))) h.a in
    grind (arith, code_a)

trips_wake : RoundTrips WAKE
trips_wake p e r q h = grind arith

trips_tr : RoundTrips TR
trips_tr p e r q h =
    let code_a = code_of-left_states r.a p.a (ap (λ (x : FieldRanges). x.a) (sym (same_Some _ _ q))) h.a in
    let code_b = code_of-received_states r.b p.b (ap (λ (x : FieldRanges). x.b) (sym (same_Some _ _ q))) h.b in
    grind (arith, code_a, code_b)

trips_ucblk : RoundTrips UCBLK
trips_ucblk p e r q h = grind arith

trips_ucdone : RoundTrips UCDONE
trips_ucdone p e r q h = grind arith

trips_done : RoundTrips DONE
trips_done p e r q h = grind arith

trips_memrd : RoundTrips MEMRD
trips_memrd p e r q h = grind arith

trips_memwb : RoundTrips MEMWB
trips_memwb p e r q h = grind arith

trips_memww : RoundTrips MEMWW
trips_memww p e r q h = grind arith

-- an operation is this one, or another one
split : (op number : ℕ) → RoundTrips number → (eqb op number ≡ false → RoundTrips op) → RoundTrips op
split op number trips others =
    elim (cases_eq op number) [
      | inl e ↦ subst (λ (n : ℕ). RoundTrips n) (sym e) trips
      | inr n ↦ others (ne_eqb op number n)
    ]

-- An opcode is one of the 48, of which each has its lemma above, or none of them: then it has no ranges.
pub round_trips : (op : ℕ) → RoundTrips op
round_trips op =
    split op NOP trips_nop (λ not_nop.
    split op ADD trips_add (λ not_add.
    split op SUB trips_sub (λ not_sub.
    split op AND trips_and (λ not_and.
    split op OR trips_or (λ not_or.
    split op XOR trips_xor (λ not_xor.
    split op SHL trips_shl (λ not_shl.
    split op SHR trips_shr (λ not_shr.
    split op ADDI trips_addi (λ not_addi.
    split op NOT trips_not (λ not_not.
    split op NEG trips_neg (λ not_neg.
    split op MOV trips_mov (λ not_mov.
    split op MOVI trips_movi (λ not_movi.
    split op MOVA trips_mova (λ not_mova.
    split op MOVS trips_movs (λ not_movs.
    split op MOVW trips_movw (λ not_movw.
    split op MOVK trips_movk (λ not_movk.
    split op BI trips_bi (λ not_bi.
    split op BEQ trips_beq (λ not_beq.
    split op BNE trips_bne (λ not_bne.
    split op BLT trips_blt (λ not_blt.
    split op BGE trips_bge (λ not_bge.
    split op BK trips_bk (λ not_bk.
    split op SF trips_sf (λ not_sf.
    split op CF trips_cf (λ not_cf.
    split op NF trips_nf (λ not_nf.
    split op MOVF trips_movf (λ not_movf.
    split op ANDF trips_andf (λ not_andf.
    split op ORF trips_orf (λ not_orf.
    split op RDW trips_rdw (λ not_rdw.
    split op GAD trips_gad (λ not_gad.
    split op WDE trips_wde (λ not_wde.
    split op WDS trips_wds (λ not_wds.
    split op FIN trips_fin (λ not_fin.
    split op WFQ trips_wfq (λ not_wfq.
    split op POPQ trips_popq (λ not_popq.
    split op DEFER trips_defer (λ not_defer.
    split op INV trips_inv (λ not_inv.
    split op STWB trips_stwb (λ not_stwb.
    split op BLK trips_blk (λ not_blk.
    split op WAKE trips_wake (λ not_wake.
    split op TR trips_tr (λ not_tr.
    split op UCBLK trips_ucblk (λ not_ucblk.
    split op UCDONE trips_ucdone (λ not_ucdone.
    split op DONE trips_done (λ not_done.
    split op MEMRD trips_memrd (λ not_memrd.
    split op MEMWB trips_memwb (λ not_memwb.
    split op MEMWW trips_memww (λ not_memww.
    λ p e r q h. let none : ranges_of op p.a ≡ None = rw (
      not_nop,
      not_add,
      not_sub,
      not_and,
      not_or,
      not_xor,
      not_shl,
      not_shr,
      not_addi,
      not_not,
      not_neg,
      not_mov,
      not_movi,
      not_mova,
      not_movs,
      not_movw,
      not_movk,
      not_bi,
      not_beq,
      not_bne,
      not_blt,
      not_bge,
      not_bk,
      not_sf,
      not_cf,
      not_nf,
      not_movf,
      not_andf,
      not_orf,
      not_rdw,
      not_gad,
      not_wde,
      not_wds,
      not_fin,
      not_wfq,
      not_popq,
      not_defer,
      not_inv,
      not_stwb,
      not_blk,
      not_wake,
      not_tr,
      not_ucblk,
      not_ucdone,
      not_done,
      not_memrd,
      not_memwb,
      not_memww,
    ) refl in absurd cc
    ))))))))))))))))))))))))))))))))))))))))))))))))
