use Rattle.std.proofs.Common.{◌≡◌, ◌<◌, ◌∙◌, length, drop, take, ap, arith}
use Rattle.std.proofs.lemmas.Grind.{common_steps}
use Rattle.bk_text.proofs.LineWords.{blanks_before, cut_nothing, cut_parts}
use Rattle.bk_text.proofs.text_line.cut_word.Goals as goal

pub returns-then-is_empty-clause-none : goal.returns-then-is_empty-clause-none
returns-then-is_empty-clause-none c =
    let front : c.split_at.result.1.now ≡ drop (blanks_before c.args.rest.now) c.args.rest.now =
    c.split_at.ensures.back ∙ ap (λ n. drop n c.args.rest.now) c.blanks_len.ensures.value in
    let nothing : length c.split_at.result.1.now ≡ 0 = grind (arith, common_steps) in
    cut_nothing c.args.column c.args.rest.now (rw front at nothing)

pub returns-clause-some : goal.returns-clause-some
returns-clause-some c =
    let bytes = c.args.rest.now in
    let front : c.split_at.result.1.now ≡ drop (blanks_before bytes) bytes = c.split_at.ensures.back
    ∙ ap (λ n. drop n bytes) c.blanks_len.ensures.value in
    let some : 0 < length c.split_at.result.1.now = grind (arith, common_steps) in
    cut_parts c.args.column bytes c.split_at.result.1.now c.split_at.result.0.now c.split_at-2.result.0.now c.split_at-2.result.1.now
    (c.split_at.ensures.front_len ∙ c.blanks_len.ensures.value) front some (c.split_at-2.ensures.front_len ∙ c.word_len.ensures.value)
    (c.split_at-2.ensures.front ∙ ap (λ n. take n c.split_at.result.1.now) c.word_len.ensures.value)
    (c.split_at-2.ensures.back ∙ ap (λ n. drop n c.split_at.result.1.now) c.word_len.ensures.value)
