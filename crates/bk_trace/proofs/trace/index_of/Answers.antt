use Rattle.std.proofs.Common.{◌≡◌, ◌++◌, ◌∷◌, [], take, length, get_or, sym, ap, ◌∙◌, arith}
use Rattle.std.proofs.lemmas.List.{take_more, length-take-le}
use Rattle.std.proofs.lemmas.List.Elements.{All-get_or}
use Rattle.bk_trace.specs.Traces.{IsLine, places_from, index_of}
use Rattle.bk_trace.proofs.Index.{length-index, index-at, index-more}
use Rattle.bk_trace.proofs.trace.index_of.Goals as goal

pub index_mut-places-requires : goal.index_mut-places-requires
index_mut-places-requires c =
    let index = c.loop-number.index in
    let number = c.loop-number.number in
    let lines = c.args.lines.now in
    let whole = length-index (λ places. places.items) index.items c.args.caches (take number lines) c.loop-number.invariant in
    let line = All-get_or (λ line. IsLine c.args.caches line) lines number c.index-lines-number.result c.loop-number-test.true
    c.requires.each in
    omega (arith, whole, line.below, index.ok.0)

pub loop-number-preserved : goal.loop-number-preserved
loop-number-preserved c =
    let index = c.loop-number.index in
    let number = c.loop-number.number in
    let lines = c.args.lines.now in
    let line = get_or lines number c.index-lines-number.result in
    let so_far = take number lines in
    let is = All-get_or (λ line. IsLine c.args.caches line) lines number c.index-lines-number.result c.loop-number-test.true
    c.requires.each in
    let counted : length so_far ≡ number = length-take-le number lines (omega (arith, c.loop-number-test.true)) in
    let at = index-at (λ places. places.items) index.items c.args.caches so_far c.loop-number.invariant line.0
    c.index_mut-places.result.now is.below c.index_mut-places.ensures.value in
    let pushed : c.push.new.self.items ≡ places_from 0 line.0 so_far ++ length so_far ∷ [] =
    c.in_ok-push.ensures.items ∙ ap (λ places. places ++ number ∷ []) at
    ∙ ap (λ n. places_from 0 line.0 so_far ++ n ∷ []) (sym counted) in
    index-more (λ places. places.items) index.items c.args.caches so_far line c.push.new.self is.below c.loop-number.invariant pushed
    ∙ ap (index_of c.args.caches) (sym (take_more lines number c.index-lines-number.result c.loop-number-test.true))
