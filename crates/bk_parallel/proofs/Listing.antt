-- The channels of a configuration are listed one at a time.
use Rattle.std.proofs.Common.{rules, ◌≡◌, ◌≢◌, ◌⊎◌, inl, inr, ℕ, zero, suc, ◌+◌, ◌<◌, Bool, true, false, ◌||◌, if◌then◌else◌, List, [], ◌∷◌, ◌++◌, refl, sym, ap, ◌∙◌, arith}
use Rattle.std.specs.Bool.{Decides, one_answer}
use Rattle.std.specs.List.{All, AllPairs, list_any}
use Rattle.std.proofs.lemmas.Bool.{cases_Bool, true≢false}
use Rattle.std.proofs.lemmas.List.Elements.{All-append, All-head, All-tail}
use Rattle.std.proofs.lemmas.List.Kept.{AllPairs-cons}
use Rattle.bk_base.specs.Places.{Shape}
use Rattle.bk_agents.proofs.SameChannel.{same-channel}
use Rattle.bk_system.specs.contracts.channel.ChannelPartialEq.TheImpl as derived
use Rattle.bk_system.specs.declared.channel.Channel.{Channel}
use Rattle.bk_system.specs.declared.channel.Channel.TheVariants.{Request, Command, Fill, Response, Memout, Memin}
use Rattle.bk_system.specs.Routes.{is_same}
use Rattle.bk_rounds.specs.Ends.{is_in}
use Rattle.bk_rounds.proofs.Channels.{same-one}
use Rattle.bk_rounds.proofs.Choices.{if-true, if-false}
use Rattle.bk_parallel.specs.Joined.{IsBetween}
use Rattle.bk_parallel.specs.Opens.{AreSome, Adds}

-- WHETHER A CHANNEL IS IN A LIST

equal-Decides : (x y : Channel) → Decides (derived.eq-value.it x y) (x ≡ y)
equal-Decides x y = search rules

equal-same : (x y : Channel) → derived.eq-value.it x y ≡ is_same x y
equal-same x y = one_answer (derived.eq-value.it x y) (is_same x y) (equal-Decides x y) (same-channel x y)

or-if : (test rest : Bool) → (test || rest) ≡ (if test then true else rest)
or-if true rest = refl
or-if false rest = refl

-- the list's own search says so
pub found-is_in : (channel : Channel) (channels : List Channel)
    → list_any (λ other. derived.eq-value.it other channel) channels ≡ is_in channel channels
found-is_in channel [] = refl
found-is_in channel (other ∷ others) =
    or-if (derived.eq-value.it other channel) (list_any (λ o. derived.eq-value.it o channel) others)
    ∙ ap (λ (test : Bool). if test then true else list_any (λ o. derived.eq-value.it o channel) others) (equal-same other channel)
    ∙ ap (λ (rest : Bool). if is_same other channel then true else rest) (found-is_in channel others)

is_in-longer : (channel : Channel) (xs ys : List Channel) → is_in channel xs ≡ true → is_in channel (xs ++ ys) ≡ true
is_in-longer channel [] ys there = absurd (cc (there))
is_in-longer channel (x ∷ xs) ys there = elim (cases_Bool (is_same x channel)) as (λ cases. is_in channel (x ∷ xs ++ ys) ≡ true) [
  | inl same ↦ if-true (is_same x channel) true (is_in channel (xs ++ ys)) same
  | inr differ ↦ if-false (is_same x channel) true (is_in channel (xs ++ ys)) differ
      ∙ is_in-longer channel xs ys (sym (if-false (is_same x channel) true (is_in channel xs) differ) ∙ there)
]

is_in-last : (channel : Channel) (xs : List Channel) → is_in channel (xs ++ channel ∷ []) ≡ true
is_in-last channel [] = if-true (is_same channel channel) true false (same-one channel)
is_in-last channel (x ∷ xs) = elim (cases_Bool (is_same x channel)) as (λ cases. is_in channel (x ∷ xs ++ channel ∷ []) ≡ true) [
  | inl same ↦ if-true (is_same x channel) true (is_in channel (xs ++ channel ∷ [])) same
  | inr differ ↦ if-false (is_same x channel) true (is_in channel (xs ++ channel ∷ [])) differ ∙ is_in-last channel xs
]

others-differ : (channel : Channel) (xs : List Channel) → is_in channel xs ≡ false → All (λ other. other ≢ channel) xs
others-differ channel [] none i d within = absurd (omega arith)
others-differ channel (x ∷ xs) none zero d within = λ e.
    true≢false (sym (if-true (is_same x channel) true (is_in channel xs) ((same-channel x channel).1 e)) ∙ none)
others-differ channel (x ∷ xs) none (suc i) d within = others-differ channel xs (rest (is_same x channel) (is_in channel xs) none) i d
    (omega arith)
  where
    rest : (test later : Bool) → (if test then true else later) ≡ false → later ≡ false
    rest true later e = absurd (true≢false e)
    rest false later e = e

-- ONE MORE

module _ {X : Type 0} where
  one-of-one : (P : X → Type 0) (x : X) → P x → All P (x ∷ [])
  one-of-one P x p zero d within = p
  one-of-one P x p (suc i) d within = absurd (omega arith)

  pairs-append : (P : X → X → Type 0) (xs : List X) (y : X) → AllPairs P xs → All (λ x. P x y) xs → AllPairs P (xs ++ y ∷ [])
  pairs-append P [] y pairs all = λ i j d before within. absurd (omega arith)
  pairs-append P (x ∷ xs) y pairs all =
      AllPairs-cons P x (xs ++ y ∷ [])
      (All-append (P x) xs (y ∷ []) (λ i d within. pairs 0 (suc i) d (omega arith) (omega arith))
      (one-of-one (P x) y (All-head (λ z. P z y) x xs all)))
      (pairs-append P xs y (λ i j d before within. pairs (suc i) (suc j) d (omega arith) (omega arith)) (All-tail (λ z. P z y) x xs all))

pub adds-one : (k : Shape) (channel : Channel) (old : List Channel) → AreSome k old → IsBetween k channel
    → is_in channel old ≡ false
    → Adds k channel old (old ++ channel ∷ [])
adds-one k channel old some between none = record {
  some = record {
    each = All-append (IsBetween k) old (channel ∷ []) some.each (one-of-one (IsBetween k) channel between);
    different = pairs-append (λ x y. x ≢ y) old channel some.different (others-differ channel old none);
  };
  kept = λ other there. is_in-longer other old (channel ∷ []) there;
  there = λ _. is_in-last channel old;
}

pub adds-none : (k : Shape) (channel : Channel) (old : List Channel) → AreSome k old
    → (IsBetween k channel → is_in channel old ≡ true)
    → Adds k channel old old
adds-none k channel old some there = record {
  some = some;
  kept = λ other in_old. in_old;
  there = there;
}

-- WHICH ARE IN THE LIST

-- of the channels with a property, each that leads from one agent to another is in it
abbrev pub HasAll : Shape → (Channel → Type 0) → List Channel → Type 0
HasAll k P channels = (channel : Channel) → IsBetween k channel → P channel → is_in channel channels ≡ true

-- those of the caches below n
abbrev pub IsBelow : ℕ → Channel → Type 0
IsBelow n (Request from) = from < n
IsBelow n (Command to) = to < n
IsBelow n (Fill to from) = to < n
IsBelow n (Response from) = from < n
IsBelow n Memout = ⊥
IsBelow n Memin = ⊥

-- those, and of cache n all but the blocks from cache m on
abbrev pub IsSooner : ℕ → ℕ → Channel → Type 0
IsSooner n m (Request from) = from < n + 1
IsSooner n m (Command to) = to < n + 1
IsSooner n m (Fill to from) = (to < n) ⊎ ((to ≡ n) × (from < m))
IsSooner n m (Response from) = from < n + 1
IsSooner n m Memout = ⊥
IsSooner n m Memin = ⊥
