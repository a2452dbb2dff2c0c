-- One channel holds other messages than before.
use Rattle.std.proofs.Common.{◌≡◌, ◌≢◌, ℕ, ◌∷◌, List, [], Bool, true, false, not, Option, Some, None, drop, Bor, refl, sym, subst, ap, ◌∙◌}
use Rattle.std.specs.Prelude.{is_some}
use Rattle.std.specs.Option.{option_copied}
use Rattle.std.proofs.lemmas.Bool.{false_from_ne_true, true≢false}
use Rattle.bk_base.specs.Places.{Shape}
use Rattle.bk_msg.specs.declared.row.Row.{Row}
use Rattle.bk_agents.specs.Parts.{part_of}
use Rattle.bk_agents.proofs.SameChannel.{same-channel}
use Rattle.bk_system.specs.Deliveries.{Holds}
use Rattle.bk_system.specs.Events.{first}
use Rattle.bk_system.specs.Routes.{channel_of, is_same, IsChannel}
use Rattle.bk_system.specs.State.{State}
use Rattle.bk_system.specs.declared.channel.Channel.{Channel}
use Rattle.bk_rounds.proofs.Choices.{if-true, if-false, is-if, if-twice}

pub same-one : (channel : Channel) → is_same channel channel ≡ true
same-one channel = (same-channel channel channel).1 refl

pub other-one : (channel other : Channel) → channel ≢ other → is_same channel other ≡ false
other-one channel other differ = false_from_ne_true (is_same channel other) (λ same. differ ((same-channel channel other).0 same))

-- nothing has changed
pub holds-still : (s : State) (channel : Channel) (ms : List Row) → channel_of s channel ≡ ms → Holds s s channel ms
holds-still s channel ms here = record {
  channels = λ other. is-if (is_same channel other) ms (channel_of s other) (channel_of s other)
      (λ same. ap (channel_of s) (sym ((same-channel channel other).0 same)) ∙ here) (λ differ. refl);
  caches = refl;
  engine = refl;
  memory = refl;
  history = refl;
  taken = refl;
  settled = refl;
}

pub holds-here : (old new : State) (channel : Channel) (ms : List Row) → Holds old new channel ms → channel_of new channel ≡ ms
holds-here old new channel ms holds =
    holds.channels channel ∙ if-true (is_same channel channel) ms (channel_of old channel) (same-one channel)

pub holds-there : (old new : State) (channel other : Channel) (ms : List Row) → Holds old new channel ms → channel ≢ other
    → channel_of new other ≡ channel_of old other
holds-there old new channel other ms holds differ =
    holds.channels other ∙ if-false (is_same channel other) ms (channel_of old other) (other-one channel other differ)

-- twice on one channel is once
pub holds-twice : (old mid new : State) (channel : Channel) (early late : List Row) → Holds old mid channel early
    → Holds mid new channel late
    → Holds old new channel late
holds-twice old mid new channel early late one two = record {
  channels = λ other. if-twice (is_same channel other) late early (channel_of old other) (channel_of mid other) (channel_of new other)
      (two.channels other) (one.channels other);
  caches = two.caches ∙ one.caches;
  engine = two.engine ∙ one.engine;
  memory = two.memory ∙ one.memory;
  history = two.history ∙ one.history;
  taken = two.taken ∙ one.taken;
  settled = two.settled ∙ one.settled;
}

-- no agent's part has changed
pub holds-part : (k : Shape) (n : ℕ) (old new : State) (channel : Channel) (ms : List Row) → Holds old new channel ms
    → part_of k new n ≡ part_of k old n
holds-part k n old new channel ms holds = rw (holds.caches, holds.engine, holds.memory, holds.history) refl

-- a list begins with its head
pub head-rest : (ms : List Row) (m : Row) → first ms ≡ Some m → m ∷ drop 1 ms ≡ ms
head-rest [] m head = absurd (cc (head))
head-rest (x ∷ xs) m head = cc (head)

pub no-head : (ms : List Row) → first ms ≡ None → ms ≡ []
no-head [] head = refl
no-head (x ∷ xs) head = absurd (cc (head))

-- it is a channel of the configuration as that is by now
pub is-channel : (k here : Shape) (channel at : Channel) → here ≡ k → at ≡ channel → IsChannel k channel → IsChannel here at
is-channel k here channel at config same there =
    subst (λ (p : Shape × Channel). IsChannel p.0 p.1) (λ i. (sym config i, sym same i)) there

-- the same of what a call answered
pub none-there : (ms : List Row) (head : Option (Bor Row)) (none : Bool) → option_copied head ≡ first ms → is_some head ≡ not none
    → none ≡ true → ms ≡ []
none-there ms None none value some there = no-head ms (sym value)
none-there ms (Some m) none value some there = absurd (true≢false (some ∙ ap not there))
