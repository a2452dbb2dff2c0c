use Rattle.std.proofs.Common.{◌≡◌, ◌+◌, length, ap}
use Rattle.bk_cmd.specs.Outcomes.{Facts}
use Rattle.bk_cmd.proofs.Parts.{part_of_both}
use Rattle.bk_cmd.proofs.writing.deliver.Goals as goal

pub returns-in-Err-write_all-clause-part : goal.returns-in-Err-write_all-clause-part
returns-in-Err-write_all-clause-part g c = λ not_ok.
    let second = c.in-Err-write_all.ensures in
    let both = part_of_both c.args.first.now c.args.second.now _ _ _ c.in-Err-write_all.unwritten.written c.in_default.ensures.ok
    second.part second.err in
    let written : c.ended-in-Err-write_all.result.written ≡ length c.args.first.now + c.in-Err-write_all.unwritten.written =
    ap (λ (f : Facts). f.written) c.ended-in-Err-write_all.ensures.facts in
    record { part = rw written both.0; taken = rw written both.1 }
