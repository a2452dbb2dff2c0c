-- Channels that were chosen among others.
use Rattle.std.proofs.Common.{◌≡◌, ◌≢◌, ℕ, suc, Bool, true, false, cond, List, [], ◌∷◌, refl, sym, ap, ◌∙◌, arith}
use Rattle.std.specs.Prelude.{filter, ◌==◌, if◌then◌else◌}
use Rattle.std.specs.List.{All, AllPairs}
use Rattle.std.proofs.lemmas.Bool.{eqb-true, eq-eqb}
use Rattle.std.proofs.lemmas.List.Kept.{AllPairs-cons}
use Rattle.std.proofs.lemmas.List.Elements.{All-filter, filter_passes}
use Rattle.bk_agents.proofs.SameChannel.{same-channel}
use Rattle.bk_base.specs.Places.{Shape}
use Rattle.bk_rounds.specs.Ends.{IsInward, IsOutward, is_in}
use Rattle.bk_system.specs.declared.channel.Channel.{Channel}
use Rattle.bk_system.specs.Routes.{is_same, begins_at, ends_at, IsChannel}
use Rattle.bk_threads.proofs.Orders.{pairs-tail}
use Rattle.bk_parallel.specs.Joined.{IsBetween, AreBetween, ending_at, beginning_at}

-- PAIRS

module _ {X : Type 0} (P : X → X → Type 0) where
  pub pairs-nil : AllPairs P []
  pairs-nil i j d before within = absurd (omega arith)

  first-of : (x : X) (xs : List X) → AllPairs P (x ∷ xs) → All (P x) xs
  first-of x xs pairs = λ i d within. pairs 0 (suc i) d (omega arith) (omega arith)

  module _ (p : X → Bool) where
    kept-pairs : (b : Bool) (x : X) (xs : List X) → All (P x) xs → AllPairs P xs → AllPairs P (cond b (x ∷ xs) xs)
    kept-pairs true x xs all pairs = AllPairs-cons P x xs all pairs
    kept-pairs false x xs all pairs = pairs

    pub pairs-filter : (xs : List X) → AllPairs P xs → AllPairs P (filter p xs)
    pairs-filter [] pairs = pairs-nil
    pairs-filter (x ∷ xs) pairs =
        kept-pairs (p x) x (filter p xs) (All-filter p (P x) xs (first-of x xs pairs)) (pairs-filter xs (pairs-tail P x xs pairs))

-- CHANNELS

module _ (p : Channel → Bool) (channel : Channel) (chosen : p channel ≡ true) where
  in-kept : (same kept : Bool) (other : Channel) (others : List Channel) → is_same other channel ≡ same → p other ≡ kept
      → (same ≡ true → kept ≡ true) → (same ≡ false → is_in channel others ≡ true)
      → is_in channel (cond kept (other ∷ others) others) ≡ true
  in-kept same false other others e h this rest = rest (whether same refl)
    where
      whether : (b : Bool) → same ≡ b → same ≡ false
      whether true is = let no = this is in absurd (cc)
      whether false is = is
  in-kept true true other others e h this rest = rw e refl
  in-kept false true other others e h this rest = rw e (rest refl)

  pub in-filter : (channels : List Channel) → is_in channel channels ≡ true → is_in channel (filter p channels) ≡ true
  in-filter [] there = there
  in-filter (other ∷ others) there =
      in-kept (is_same other channel) (p other) other (filter p others) refl refl
      (λ same. ap p ((same-channel other channel).0 same) ∙ chosen)
      (λ differ. in-filter others (sym (ap (λ (b : Bool). if b then true else is_in channel others) differ) ∙ there))

module _ (k : Shape) (n : ℕ) (channels : List Channel) (between : AreBetween k channels) where
  pub ending-channels : All (IsChannel k) (ending_at k n channels)
  ending-channels = λ i d within. (All-filter (λ channel. ends_at k channel == n) (IsBetween k) channels between.each i d within).there

  pub ending-inward : All (IsInward k n) (ending_at k n channels)
  ending-inward = λ i d within.
      let test : Channel → Bool = λ channel. ends_at k channel == n in
      let one = All-filter test (IsBetween k) channels between.each i d within in
      let here = eqb-true _ n (filter_passes test channels i d within) in
      record { here = here; elsewhere = λ begins. one.apart (begins ∙ sym here) }

  pub ending-different : AllPairs (λ channel other. channel ≢ other) (ending_at k n channels)
  ending-different = pairs-filter (λ channel other. channel ≢ other) (λ channel. ends_at k channel == n) channels between.different

  pub beginning-channels : All (IsChannel k) (beginning_at k n channels)
  beginning-channels = λ i d within.
      (All-filter (λ channel. begins_at k channel == n) (IsBetween k) channels between.each i d within).there

  pub beginning-outward : All (IsOutward k n) (beginning_at k n channels)
  beginning-outward = λ i d within.
      let test : Channel → Bool = λ channel. begins_at k channel == n in
      let one = All-filter test (IsBetween k) channels between.each i d within in
      let here = eqb-true _ n (filter_passes test channels i d within) in
      record { here = here; elsewhere = λ ends. one.apart (here ∙ sym ends) }

  pub beginning-different : AllPairs (λ channel other. channel ≢ other) (beginning_at k n channels)
  beginning-different = pairs-filter (λ channel other. channel ≢ other) (λ channel. begins_at k channel == n) channels between.different

  pub beginning-whole : (channel : Channel) → IsChannel k channel → IsOutward k n channel
      → is_in channel (beginning_at k n channels) ≡ true
  beginning-whole channel there outward =
      in-filter (λ other. begins_at k other == n) channel (eq-eqb (begins_at k channel) n outward.here) channels
      (between.whole channel (record { there = there; apart = λ same. outward.elsewhere (sym same ∙ outward.here) }))
