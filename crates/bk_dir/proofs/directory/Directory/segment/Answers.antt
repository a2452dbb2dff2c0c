use Rattle.std.proofs.Common.{◌∙◌, subst, arith, List, ℕ}
use Rattle.bk_dir.proofs.Words.{IsWords}
use Rattle.bk_dir.proofs.Lists.{words-again}
use Rattle.bk_dir.proofs.directory.Directory.segment.Goals as goal

pub returns : goal.returns
returns c =
    let value = c.words_of.ensures.value in
    let five = c.words_of.ensures.five in
    let small = c.words_of.ensures.small in
    let words : IsWords c.index.result.now = subst (λ (xs : List ℕ). IsWords xs) value (record { five = five; small = small }) in
    value ∙ words-again c.args.self.now.config c.args.self.now.segments.items c.args.cache c.args.set c.place_of.result
    c.index.result.now (omega (arith, c.args.self.now.segments.ok.0)) c.place_of.ensures c.index.ensures words
    c.args.self.now.few_ways (omega arith) c.args.self.now.fields
