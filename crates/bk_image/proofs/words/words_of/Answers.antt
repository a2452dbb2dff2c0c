use Rattle.std.proofs.Common.{arith, ◌∷◌, []}
use Rattle.std.proofs.lemmas.Result.{err_from_is_err_and}
use Rattle.std.proofs.lemmas.List.{length-append}
use Rattle.bk_image.specs.Reading.{words_at}
use Rattle.bk_image.proofs.Loop.{words_go_on, words_end, words_done}
use Rattle.bk_image.proofs.words.words_of.Goals as goal

pub returns-in_err-word-clause-value : goal.returns-in_err-word-clause-value
returns-in_err-word-clause-value c =
    let p = err_from_is_err_and c.from_residual.result c.from_residual.ensures.1 in
    rw (p.1, p.2) (words_end c.in_err-word.field-0.0 c.loop.words.items c.args.total c.args.count c.loop.counter c.loop.rest.now
    (words_at c.args.total c.args.count c.args.bytes.now) c.loop-test.true c.in_err-word.ensures.value c.loop.invariant.0)

pub loop-preserved : goal.loop-preserved
loop-preserved c =
    let longer = length-append c.loop.words.items (c.in_ok-word.word ∷ []) in
    rw (
      c.in_ok-push.ensures.items,
      c.split_at.ensures.back,
    ) (
      words_go_on c.loop.words.items c.args.total c.args.count c.loop.counter c.loop.rest.now c.in_ok-word.word
          (words_at c.args.total c.args.count c.args.bytes.now) c.loop-test.true c.in_ok-word.ensures.value c.loop.invariant.0,
      omega (arith, longer, c.loop.invariant.1),
    )

pub returns-clause-value : goal.returns-clause-value
returns-clause-value c = words_done c.loop.words.items c.args.total c.args.count c.loop.counter c.loop.rest.now
    (words_at c.args.total c.args.count c.args.bytes.now) c.loop-test.false c.loop.invariant.0
