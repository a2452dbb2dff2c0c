-- Words and instructions go over into one another.
use Rattle.std.proofs.Common.{◌≡◌, ℕ, ◌/◌, ◌%◌, ◌^◌, Option, Some, None, Result, Ok, Err, refl, sym, ap, ◌∙◌, arith}
use Rattle.std.specs.Prelude.{IfOk}
use Rattle.std.proofs.lemmas.Nat.{shr-shr, shr_split}
use Rattle.bk_isa.specs.declared.fault.WordFault.{WordFault}
use Rattle.bk_isa.specs.declared.fields.Fields.{Fields}
use Rattle.bk_isa.specs.declared.form.Form.{Form}
use Rattle.bk_isa.specs.Fields.{fields_with, fields_of, form_of, pack, unpack, AreWide}
use Rattle.bk_isa.specs.Table.{fault_in}
use Rattle.bk_isa.specs.Words.{IsInRange, encode, decode, unless}
use Rattle.bk_isa.proofs.Forms.{form_of-fields_of, fields_of-form_of}

pack-unpack : (w : ℕ) → pack (unpack w) ≡ w
pack-unpack w =
    let a = shr-shr w 32 8 in
    let b = shr-shr w 40 8 in
    let c = shr-shr w 48 8 in
    omega (arith, a, b, c, shr_split w 32, shr_split (w / 2 ^ 32) 8, shr_split (w / 2 ^ 40) 8, shr_split (w / 2 ^ 48) 8)

unpack-pack : (p : Fields) → AreWide p → unpack (pack p) ≡ p
unpack-pack p h =
    let i : pack p % 2 ^ 32 ≡ p.imm = omega (arith, h.imm) in
    let c : pack p / 2 ^ 32 % 256 ≡ p.c = omega (arith, h.imm, h.c) in
    let b : pack p / 2 ^ 40 % 256 ≡ p.b = omega (arith, h.imm, h.c, h.b) in
    let a : pack p / 2 ^ 48 % 256 ≡ p.a = omega (arith, h.imm, h.c, h.b, h.a) in
    let o : pack p / 2 ^ 56 ≡ p.op = omega (arith, h.imm, h.c, h.b, h.a) in
    let e : unpack (pack p) ≡ fields_with p.op p.a p.b p.c p.imm = cc in
    e

pub decode-encode : (f : Form) → IsInRange f → decode (encode f) ≡ Ok f
decode-encode f h =
    ap (λ (p : Fields). unless (fault_in p) (form_of p)) (unpack-pack (fields_of f) h.wide)
    ∙ (ap (λ (o : Option WordFault). unless o (form_of (fields_of f))) h.admitted
    ∙ ap (λ (other : Form). unless None other) (form_of-fields_of f))

same_Ok : (f y : Form) → unless None f ≡ unless None y → f ≡ y
same_Ok f y e = cc

fields_at : (p : Fields) (o : Option WordFault) (f : Form) → fault_in p ≡ o → Ok f ≡ unless o (form_of p) → fields_of f ≡ p
fields_at p None f e r = ap (λ (other : Form). fields_of other) (same_Ok _ _ r) ∙ fields_of-form_of p e
fields_at p (Some d) f e r = absurd cc

-- what is read has this word
pub found : (w : ℕ) (r : Result Form WordFault) → r ≡ decode w → IfOk r (λ f. encode f ≡ w)
found w (Err d) e = tt
found w (Ok f) e = ap (λ (p : Fields). pack p) (fields_at (unpack w) (fault_in (unpack w)) f refl e) ∙ pack-unpack w

-- an instruction that has this word is read
pub only : (w : ℕ) (r : Result Form WordFault) → r ≡ decode w → (f : Form) → IsInRange f → encode f ≡ w → r ≡ Ok f
only w r e f h s = e ∙ (ap (λ (v : ℕ). decode v) (sym s) ∙ decode-encode f h)
