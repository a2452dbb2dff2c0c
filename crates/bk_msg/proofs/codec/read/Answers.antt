use Rattle.std.proofs.Common.{◌≡◌, ℕ, ◌<◌, length, drop, get_or, None, Some, Err, sym, ap, subst, ◌∙◌, arith}
use Rattle.bk_msg.specs.declared.fault.MsgFault.TheVariants as faults
use Rattle.bk_msg.specs.declared.row.Row.{Row}
use Rattle.bk_msg.specs.Kinds.{kind_of_code}
use Rattle.bk_msg.specs.Table.{size_of, rules_of, layout_of}
use Rattle.bk_msg.specs.Fields.{row_of}
use Rattle.bk_msg.specs.Spelling.{IsMessage}
use Rattle.bk_msg.specs.Reading.{first_fault, word_at, fields_at}
use Rattle.bk_msg.proofs.Admitted.{admitted-from_none, same_fault}
use Rattle.bk_msg.proofs.Messages.{IsRead, is_read, at_fault, at_end, at_whole}
use Rattle.bk_msg.proofs.Numbers.{kind_found}
use Rattle.bk_msg.proofs.Parts.{word_aligned}
use Rattle.bk_msg.proofs.RoundTrips.{row_in_range}
use Rattle.bk_msg.proofs.codec.read.Goals as goal

pub returns-in-Some-first_fault : goal.returns-in-Some-first_fault
returns-in-Some-first_fault c =
    let some : 0 < length c.args.bytes.now = omega arith in
    let kind : kind_of_code (get_or c.args.bytes.now 0 0) ≡ Some c.in-Some.kind = sym c.from_code.ensures ∙ c.in-Some.is in
    let fault : first_fault 1 (rules_of (layout_of c.in-Some.kind)) (drop 1 c.args.bytes.now) ≡ Some c.in-Some-first_fault.fault =
    same_fault c.rules.result (rules_of (layout_of c.in-Some.kind)) c.split_at.result.1.now (drop 1 c.args.bytes.now) c.first_fault.result
    (Some c.in-Some-first_fault.fault)
    c.first_fault.ensures (c.rules.ensures ∙ ap rules_of c.layout_of-layout.ensures) c.split_at.ensures.back c.in-Some-first_fault.is in
    sym (at_fault c.args.bytes.now c.in-Some.kind c.in-Some-first_fault.fault some kind fault)

pub returns-then-bytes-size : goal.returns-then-bytes-size
returns-then-bytes-size c =
    let some : 0 < length c.args.bytes.now = omega arith in
    let kind : kind_of_code (get_or c.args.bytes.now 0 0) ≡ Some c.in-Some.kind = sym c.from_code.ensures ∙ c.in-Some.is in
    let none : first_fault 1 (rules_of (layout_of c.in-Some.kind)) (drop 1 c.args.bytes.now) ≡ None =
    same_fault c.rules.result (rules_of (layout_of c.in-Some.kind)) c.split_at.result.1.now (drop 1 c.args.bytes.now)
    c.first_fault.result None
    c.first_fault.ensures (c.rules.ensures ∙ ap rules_of c.layout_of-layout.ensures) c.split_at.ensures.back c.in_default.is in
    let size : c.size-size.result ≡ size_of (layout_of c.in-Some.kind) = c.size-size.ensures ∙ ap size_of c.layout_of-layout.ensures in
    ap (λ (n : ℕ). Err (faults.Short n)) size
    ∙ sym (at_end c.args.bytes.now c.in-Some.kind some kind none (omega (arith, size, c.if-bytes-size.true)))

pub fields_at-requires-clause-address : goal.fields_at-requires-clause-address
fields_at-requires-clause-address c =
    let some : 0 < length c.args.bytes.now = omega arith in
    let kind : kind_of_code (get_or c.args.bytes.now 0 0) ≡ Some c.in-Some.kind = sym c.from_code.ensures ∙ c.in-Some.is in
    let none : first_fault 1 (rules_of (layout_of c.in-Some.kind)) (drop 1 c.args.bytes.now) ≡ None =
    same_fault c.rules.result (rules_of (layout_of c.in-Some.kind)) c.split_at.result.1.now (drop 1 c.args.bytes.now)
    c.first_fault.result None
    c.first_fault.ensures (c.rules.ensures ∙ ap rules_of c.layout_of-layout.ensures) c.split_at.ensures.back c.in_default.is in
    let size : c.size-size.result ≡ size_of (layout_of c.in-Some.kind) = c.size-size.ensures ∙ ap size_of c.layout_of-layout.ensures in
    let read : IsRead c.in-Some.kind c.args.bytes.now =
    is_read c.in-Some.kind c.args.bytes.now (λ i. omega (arith, c.type_inv.bytes i)) (kind_found _ _ kind)
    (admitted-from_none 1 (rules_of (layout_of c.in-Some.kind)) (drop 1 c.args.bytes.now) none)
    (omega (arith, size, c.if-bytes-size.false)) in
    record {
      below = read.fits.below;
      aligned = word_aligned (layout_of c.in-Some.kind).address (word_at 8 c.args.bytes.now) read.fits.aligned;
    }

pub of-requires : goal.of-requires
of-requires c =
    let some : 0 < length c.args.bytes.now = omega arith in
    let kind : kind_of_code (get_or c.args.bytes.now 0 0) ≡ Some c.in-Some.kind = sym c.from_code.ensures ∙ c.in-Some.is in
    let none : first_fault 1 (rules_of (layout_of c.in-Some.kind)) (drop 1 c.args.bytes.now) ≡ None =
    same_fault c.rules.result (rules_of (layout_of c.in-Some.kind)) c.split_at.result.1.now (drop 1 c.args.bytes.now)
    c.first_fault.result None
    c.first_fault.ensures (c.rules.ensures ∙ ap rules_of c.layout_of-layout.ensures) c.split_at.ensures.back c.in_default.is in
    let size : c.size-size.result ≡ size_of (layout_of c.in-Some.kind) = c.size-size.ensures ∙ ap size_of c.layout_of-layout.ensures in
    let read : IsRead c.in-Some.kind c.args.bytes.now =
    is_read c.in-Some.kind c.args.bytes.now (λ i. omega (arith, c.type_inv.bytes i)) (kind_found _ _ kind)
    (admitted-from_none 1 (rules_of (layout_of c.in-Some.kind)) (drop 1 c.args.bytes.now) none)
    (omega (arith, size, c.if-bytes-size.false)) in
    let row : c.row_of-row.result ≡ row_of (fields_at c.in-Some.kind c.args.bytes.now) = c.row_of-row.ensures
    ∙ ap row_of c.fields_at.ensures in
    subst (λ (m : Row). IsMessage m) (sym row) (row_in_range (fields_at c.in-Some.kind c.args.bytes.now) read.fits)

pub returns : goal.returns
returns c =
    let some : 0 < length c.args.bytes.now = omega arith in
    let kind : kind_of_code (get_or c.args.bytes.now 0 0) ≡ Some c.in-Some.kind = sym c.from_code.ensures ∙ c.in-Some.is in
    let none : first_fault 1 (rules_of (layout_of c.in-Some.kind)) (drop 1 c.args.bytes.now) ≡ None =
    same_fault c.rules.result (rules_of (layout_of c.in-Some.kind)) c.split_at.result.1.now (drop 1 c.args.bytes.now)
    c.first_fault.result None
    c.first_fault.ensures (c.rules.ensures ∙ ap rules_of c.layout_of-layout.ensures) c.split_at.ensures.back c.in_default.is in
    let size : c.size-size.result ≡ size_of (layout_of c.in-Some.kind) = c.size-size.ensures ∙ ap size_of c.layout_of-layout.ensures in
    let row : c.of.result ≡ row_of (fields_at c.in-Some.kind c.args.bytes.now) = c.of.ensures
    ∙ (c.row_of-row.ensures ∙ ap row_of c.fields_at.ensures) in
    rw (row, size) (sym (at_whole c.args.bytes.now c.in-Some.kind some kind none (omega (arith, size, c.if-bytes-size.false))))
