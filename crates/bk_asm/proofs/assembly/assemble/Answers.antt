use Rattle.std.proofs.Common.{◌≡◌, ◌+◌, length, sym, ap, ◌∙◌, arith}
use Rattle.std.specs.Prelude.{Ok, Err}
use Rattle.std.specs.Option.{option_map}
use Rattle.std.specs.Str.Lines.{lines}
use Rattle.std.proofs.lemmas.Bool.Decides.{nat_tests}
use Rattle.bk_asm.specs.Faults.{bad, Gives}
use Rattle.bk_asm.specs.Programs.{LineParts}
use Rattle.bk_asm.specs.Reading.{lines_at, image_at}
use Rattle.bk_asm.proofs.SpelledTexts.{answer_spells}
use Rattle.bk_asm.proofs.Texts.{read_line, goes_on, stops, ends, image_stops, image_ends, fails, no_lines}
use Rattle.bk_asm.proofs.assembly.assemble.Goals as goal

pub loop-rest-preserved : goal.loop-rest-preserved
loop-rest-preserved c =
    let d = c.loop-rest.draft in
    let text = c.cut_line.result.0.now in
    let parts : LineParts = record {
      limit = c.in-Ok.parts.limit;
      label = option_map (λ w. w.now) c.in-Ok.parts.label;
      know = c.in-Ok.parts.know;
      does = c.in-Ok.parts.does;
    } in
    let labels = ap (λ d. d.labels) c.draft.view_is in
    let read : read_line d (c.loop-rest.line + 1) text ≡ Ok parts =
    (rw (c.before-in-loop-rest.ensures, c.of.ensures, labels) at c.in-Ok.ensures.value) in
    let step = goes_on d (c.loop-rest.line + 1) text (lines c.cut_line.result.1.now) parts read in
    let so_far = ap (λ texts. lines_at d (c.loop-rest.line + 1) texts) (sym c.cut_line.ensures.lines) ∙ c.loop-rest.invariant.value in
    let count = ap (λ l. length l) c.cut_line.ensures.lines in
    record {
      value = rw c.in_ok-draft.ensures (sym step ∙ so_far);
      count = omega arith;
      short = omega arith;
    }

pub returns : goal.returns
returns c =
    let d = c.loop-rest.draft in
    let empty : length c.loop-rest.rest.now ≡ 0 = grind (arith, nat_tests, c.loop-rest-test.false, c.is_empty.ensures) in
    let none = no_lines c.loop-rest.rest.now empty in
    let count = ap (λ l. length l) none in
    let len : c.loop-rest.line ≡ length (lines c.args.text.now) = omega arith in
    let read = sym c.loop-rest.invariant.value
    ∙ (ap (λ texts. lines_at d (c.loop-rest.line + 1) texts) none ∙ ends d (c.loop-rest.line + 1)) in
    let exact : Gives (λ i. i) c.finish.result (image_at c.args.text.now) =
    rw (image_ends c.args.text.now d c.loop-rest.line read len) (rw (← c.last_line.ensures) c.finish.ensures) in
    record { exact = exact; spelled = answer_spells c.finish.result c.args.text.now exact }

pub returns-in-Err : goal.returns-in-Err
returns-in-Err c =
    let d = c.loop-rest.draft in
    let text = c.cut_line.result.0.now in
    let labels = ap (λ d. d.labels) c.draft.view_is in
    let read : read_line d (c.loop-rest.line + 1) text ≡ Err c.in-Err.fault =
    (rw (c.before-in-loop-rest.ensures, c.of.ensures, labels) at c.in-Err.ensures.value) in
    let stop = stops d (c.loop-rest.line + 1) text (lines c.cut_line.result.1.now) c.in-Err.fault read in
    let so_far = ap (λ texts. lines_at d (c.loop-rest.line + 1) texts) (sym c.cut_line.ensures.lines) ∙ c.loop-rest.invariant.value in
    record {
      exact = fails c.on_line.result (bad (c.loop-rest.line + 1) c.in-Err.fault) _ c.on_line.ensures
          (image_stops c.args.text.now _ (sym so_far ∙ stop));
      spelled = tt;
    }
