use Rattle.std.proofs.Common.{◌+◌, ◌<◌, ◌≤◌, ◌≡◌, drop, get_or, sym, ap, ◌∙◌, arith, length}
use Rattle.std.proofs.lemmas.List.{length_push}
use Rattle.bk_asm.specs.Reading.{forms_at}
use Rattle.bk_asm.proofs.Texts.{with_front, statement_at, form_on, fails_on, forms_end, none_left}
use Rattle.bk_asm.proofs.draft.Draft.forms.Goals as goal

pub loop-statement-preserved : goal.loop-statement-preserved
loop-statement-preserved c =
    let front = c.loop-statement.forms.items in
    let labels = c.args.self.now.labels in
    let i = c.loop-statement.statement-index in
    let xs = c.args.self.now.statements in
    let shown = ap (λ d. d.statements) c.self.view_is in
    let same : c.deref-statement-items.result.now ≡ xs = c.deref-statement-items.ensures.value ∙ shown in
    let lt : i < length xs = omega (arith, ap (λ l. length l) same, ap (λ l. length l) shown) in
    let is : c.statement-item.result ≡ get_or xs i c.statement-item.result = cc (c.statement-item.is, same, shown) in
    let at = statement_at xs i c.statement-item.result lt is in
    let on = form_on labels front c.statement-item.result (drop (i + 1) xs) c.in-Ok.form c.in-Ok.ensures in
    record {
      value = rw c.in_ok-push.ensures.items (sym on
          ∙ (ap (λ l. with_front front (forms_at labels l)) (sym at) ∙ c.loop-statement.invariant.value));
      count = rw c.in_ok-push.ensures.items (omega (arith, length_push front c.in-Ok.form));
    }

pub returns-clause-value : goal.returns-clause-value
returns-clause-value c =
    let front = c.loop-statement.forms.items in
    let labels = c.args.self.now.labels in
    let i = c.loop-statement.statement-index in
    let xs = c.args.self.now.statements in
    let shown = ap (λ d. d.statements) c.self.view_is in
    let same : c.deref-statement-items.result.now ≡ xs = c.deref-statement-items.ensures.value ∙ shown in
    let le : length xs ≤ i = omega (arith, ap (λ l. length l) same, ap (λ l. length l) shown) in
    sym c.loop-statement.invariant.value
    ∙ (ap (λ l. with_front front (forms_at labels l)) (none_left xs i le) ∙ forms_end labels front)

pub returns-in-Err-clause-value : goal.returns-in-Err-clause-value
returns-in-Err-clause-value c =
    let front = c.loop-statement.forms.items in
    let labels = c.args.self.now.labels in
    let i = c.loop-statement.statement-index in
    let xs = c.args.self.now.statements in
    let shown = ap (λ d. d.statements) c.self.view_is in
    let same : c.deref-statement-items.result.now ≡ xs = c.deref-statement-items.ensures.value ∙ shown in
    let lt : i < length xs = omega (arith, ap (λ l. length l) same, ap (λ l. length l) shown) in
    let is : c.statement-item.result ≡ get_or xs i c.statement-item.result = cc (c.statement-item.is, same, shown) in
    let at = statement_at xs i c.statement-item.result lt is in
    fails_on c.in-Err.fault labels front c.statement-item.result (drop (i + 1) xs) _ c.in-Err.ensures
    (ap (λ l. with_front front (forms_at labels l)) (sym at) ∙ c.loop-statement.invariant.value)
