use Rattle.std.proofs.Common.{◌≡◌, ◌<◌, length, ap, arith}
use Rattle.bk_asm.proofs.Drafted.{statement_draft}
use Rattle.bk_asm.proofs.draft.Draft.with_statement.Goals as goal

pub invariant_of-result : goal.invariant_of-result
invariant_of-result c =
    let p : c.len.result ≡ length c.self.inside.statements.items = omega arith in
    let same = ap (λ d. length d.statements) c.self.view_is in
    let lt : length c.self.inside.statements.items < 256 = omega (arith, same, c.requires) in
    rw (
      c.in_ok-push.ensures.items,
      c.in_ok-knows.ensures,
    )
    (statement_draft (record {
      limit = c.self.inside.limit;
      statements = c.self.inside.statements.items;
      knows = c.self.inside.knows.items;
      labels = c.self.inside.labels;
      know = c.self.inside.know;
      waits = c.self.inside.waits;
    }) c.args.statement c.len.result p
    c.self.invariant lt)
