use Rattle.std.proofs.Common.{arith, ap, length}
use Rattle.std.proofs.lemmas.List.{length-append}
use Rattle.bk_msg.proofs.Kept.{reads_within}
use Rattle.bk_msg.proofs.feed.Feed.feed.Goals as goal

pub kept-requires-clause-within : goal.kept-requires-clause-within
kept-requires-clause-within c =
    let w = reads_within _ _ _ _ _ _ c.in-Ok.ensures.ok in
    omega (arith, w, ap length c.as_slice.ensures.value, length-append c.as_slice.result.now c.args.piece.now, c.self.invariant.within)
