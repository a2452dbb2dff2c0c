use Rattle.std.proofs.Common.{◌≡◌, ℕ, ◌+◌, ◌≤◌, ◌++◌, length, Result, Err, sym, ap, ◌∙◌, arith}
use Rattle.std.proofs.lemmas.List.{take-append-drop}
use Rattle.bk_msg.specs.declared.fault.MsgFault.{MsgFault}
use Rattle.bk_msg.specs.declared.row.Row.{Row}
use Rattle.bk_msg.specs.declared.fault.MsgFault.TheVariants as faults
use Rattle.bk_msg.specs.Reading.{decode}
use Rattle.bk_msg.proofs.Streams.{is_short_of, starts, takes_message, takes_bytes, stops, no_short}
use Rattle.bk_msg.proofs.feed.read_messages.Goals as goal

abbrev err : MsgFault → Result (Row × ℕ) MsgFault
err fault = Err fault

pub push-requires : goal.push-requires
push-requires c =
    let s = is_short_of c.args.old.now c.requires.0 c.requires.1 in
    omega (arith, s.below, s.few, ap length c.new-rest.ensures)

pub loop-message-init : goal.loop-message-init
loop-message-init c =
    rw (c.push.ensures, c.new-rest.ensures) (starts c.args.old.now c.args.piece.now c.args.out.now.items c.requires)

pub loop-message-preserved-in-Ok : goal.loop-message-preserved-in-Ok
loop-message-preserved-in-Ok c =
    let begins = rw c.as_slice.ensures.value at c.in-Ok.ensures.found in
    rw (c.in_ok-push-in-Ok.ensures.items, c.clear.ensures) (takes_message _ _ _ _ _ _ c.loop-message.invariant begins.0)

pub push-requires-in-Err : goal.push-requires-in-Err
push-requires-in-Err c =
    let e : decode c.loop-message.rest.items ≡ Err (faults.Short c.in-Short.needed) = ap decode (sym c.as_slice.ensures.value)
    ∙ (sym c.decode.ensures.exact ∙ (c.in-Err.is ∙ ap err c.in-Short.is)) in
    let s = is_short_of c.loop-message.rest.items c.in-Short.needed e in
    omega (arith, s.below, s.few, c.split_at.ensures.front_len, c.min.ensures, c.len.ensures.value)

pub loop-message-preserved : goal.loop-message-preserved
loop-message-preserved c =
    let e : decode c.loop-message.rest.items ≡ Err (faults.Short c.in-Short.needed) = ap decode (sym c.as_slice.ensures.value)
    ∙ (sym c.decode.ensures.exact ∙ (c.in-Err.is ∙ ap err c.in-Short.is)) in
    let s = is_short_of c.loop-message.rest.items c.in-Short.needed e in
    let split : c.loop-message.left.now ≡ c.split_at.result.0.now ++ c.split_at.result.1.now =
    rw (c.split_at.ensures.front, c.split_at.ensures.back) (sym (take-append-drop c.min.result c.loop-message.left.now)) in
    let le : length c.loop-message.rest.items + length c.split_at.result.0.now ≤ c.in-Short.needed =
    omega (arith, s.below, c.split_at.ensures.front_len, c.min.ensures, c.len.ensures.value) in
    rw c.push-in-Err.ensures
    (takes_bytes _ _ c.loop-message.rest.items c.loop-message.left.now c.split_at.result.0.now c.split_at.result.1.now _ c.in-Short.needed
    c.loop-message.invariant e split le)

pub returns-in_default : goal.returns-in_default
returns-in_default c =
    let e : decode c.loop-message.rest.items ≡ Err c.in-Err.fault = ap decode (sym c.as_slice.ensures.value)
    ∙ (sym c.decode.ensures.exact ∙ c.in-Err.is) in
    record {
      ok = stops _ _ c.loop-message.rest.items c.loop-message.left.now _ c.in-Err.fault c.loop-message.invariant e
          (λ short. absurd (no_short c.in-Err.fault c.in_default.not-Short short));
      err = tt;
    }
