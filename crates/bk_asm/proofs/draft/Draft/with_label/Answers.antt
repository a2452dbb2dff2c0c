use Rattle.std.proofs.Common.{◌≡◌, length, arith}
use Rattle.bk_asm.proofs.Drafted.{label_draft}
use Rattle.bk_asm.proofs.draft.Draft.with_label.Goals as goal

pub invariant_of-result : goal.invariant_of-result
invariant_of-result c =
    let p : c.len.result ≡ length c.self.inside.statements.items = omega arith in
    rw c.in_ok-define.ensures
    (label_draft (record {
      limit = c.self.inside.limit;
      statements = c.self.inside.statements.items;
      knows = c.self.inside.knows.items;
      labels = c.self.inside.labels;
      know = c.self.inside.know;
      waits = c.self.inside.waits;
    }) c.args.name.now c.len.result p c.self.invariant)
