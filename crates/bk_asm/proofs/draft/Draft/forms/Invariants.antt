use Rattle.std.proofs.Common.{◌≡◌, drop, length}
use Rattle.bk_asm.specs.Reading.{forms_at}
use Rattle.bk_asm.proofs.Texts.{with_front}
use Rattle.bk_asm.proofs.draft.Draft.forms.Given as goal

abbrev pub invariant-loop-statement : goal.invariant-loop-statement
invariant-loop-statement l = record {
  value : with_front l.forms.items (forms_at l.self.labels (drop l.statement-index l.self.statements))
      ≡ forms_at l.self.labels l.self.statements;
  count : length l.forms.items ≡ l.statement-index;
}
