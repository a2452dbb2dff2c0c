-- Where the hardware of one agent of a team holds other messages in one channel.
use Rattle.std.proofs.Common.{◌≡◌, ◌≢◌, ◌<◌, ℕ, List, [], ◌∷◌, ◌++◌, Option, Some, length, get_or, set, append_assoc, refl, sym, subst, ap, ◌∙◌, arith}
use Rattle.std.specs.Prelude.{option_map}
use Rattle.std.specs.Option.{option_to_list}
use Rattle.std.proofs.lemmas.List.{get_or_default}
use Rattle.bk_base.specs.Places.{Shape}
use Rattle.bk_msg.specs.declared.codec.Packet as wire
use Rattle.bk_msg.specs.declared.row.Row.{Row}
use Rattle.bk_agents.specs.Parts.{part_of}
use Rattle.bk_system.specs.Deliveries.{Holds}
use Rattle.bk_system.specs.State.{State}
use Rattle.bk_system.specs.Systems.{state_of}
use Rattle.bk_system.specs.Routes.{channel_of, begins_at, ends_at, IsChannel}
use Rattle.bk_system.specs.declared.channel.Channel.{Channel}
use Rattle.bk_system.specs.declared.channel.Channel.TheVariants.{Request, Command, Fill, Response, Memout, Memin}
use Rattle.bk_threads.specs.System.{messages_of}
use Rattle.bk_rounds.specs.declared.agent.Agent.{Agent}
use Rattle.bk_rounds.specs.Reading.{message_in, packets_in, with_stamp}
use Rattle.bk_rounds.proofs.Channels.{holds-here, holds-there, holds-part, is-channel}
use Rattle.bk_parallel.specs.Teams.{IsAgent, IsTeam, state_in, inlets_in, outlets_in, entries_in, state_at}
use Rattle.bk_parallel.specs.ClosesOne.{at_end, at_beginning, KeepsEnds, IsMoved}
use Rattle.bk_parallel.proofs.Places.{there, as-before, within-team, team-set, state-here, state-there}

pub begins-within : (k : Shape) (channel : Channel) → IsChannel k channel → IsAgent k (begins_at k channel)
begins-within k (Request from) there = omega (arith, there)
begins-within k (Command to) there = omega (arith)
begins-within k (Fill to from) there = omega (arith, there.1)
begins-within k (Response from) there = omega (arith, there)
begins-within k Memout there = omega (arith)
begins-within k Memin there = omega (arith)

pub ends-within : (k : Shape) (channel : Channel) → IsChannel k channel → IsAgent k (ends_at k channel)
ends-within k (Request from) there = omega (arith)
ends-within k (Command to) there = omega (arith, there)
ends-within k (Fill to from) there = omega (arith, there.0)
ends-within k (Response from) there = omega (arith)
ends-within k Memout there = omega (arith)
ends-within k Memin there = omega (arith)

module _ (k : Shape) (channel : Channel) where
  pub moved-same : (old new : List Agent) (a b c d : List Row) → IsMoved k channel old new a b → a ≡ c → b ≡ d
      → IsMoved k channel old new c d
  moved-same old new a b c d moved first second = record {
    channels = moved.channels;
    parts = moved.parts;
    ending = moved.ending ∙ first;
    beginning = moved.beginning ∙ second;
  }

pub keeps-twice : (old mid new : List Agent) → KeepsEnds old mid → KeepsEnds mid new → KeepsEnds old new
keeps-twice old mid new one two = record {
  inlets = λ n. two.inlets n ∙ one.inlets n;
  outlets = λ n. two.outlets n ∙ one.outlets n;
  entries = λ n. two.entries n ∙ one.entries n;
}

-- Of a team, the agent at a place is another one, of the same number and in the same configuration.
module _ (k : Shape) (agents : List Agent) (i : ℕ) (d a : Agent) (team : IsTeam k agents) (agent : IsAgent k i) where
  pub within : i < length agents
  within = within-team k agents i team agent

  pub same-place : get_or agents i d ≡ get_or agents i (get_or agents i d)
  same-place = get_or_default agents i d (get_or agents i d) within

  pub its-config : (get_or agents i d).hardware.config ≡ k
  its-config = (team.each i (get_or agents i d) (there agents i (get_or agents i d) within same-place)).config

  -- the channel is one of its configuration
  pub its-channel : (channel : Channel) → IsChannel k channel → IsChannel (get_or agents i d).hardware.config channel
  its-channel channel = is-channel k (get_or agents i d).hardware.config channel channel its-config refl

  pub state-before : state_at k agents i ≡ state_of (get_or agents i d).hardware
  state-before = ap (state_in k) (there agents i (get_or agents i d) within same-place)

  pub team-kept : a.number ≡ (get_or agents i d).number → a.hardware.config ≡ (get_or agents i d).hardware.config
      → IsTeam k (set agents i a)
  team-kept number config =
      let member = team.each i (get_or agents i d) (there agents i (get_or agents i d) within same-place) in
      team-set k agents i a within team (record { number = number ∙ member.number; config = config ∙ member.config })

  pub ends-kept : a.inlets.items ≡ (get_or agents i d).inlets.items → a.outlets.items ≡ (get_or agents i d).outlets.items
      → a.entries.items ≡ (get_or agents i d).entries.items → KeepsEnds agents (set agents i a)
  ends-kept inlets outlets entries = record {
    inlets = as-before inlets_in agents i (get_or agents i d) a within same-place inlets;
    outlets = as-before outlets_in agents i (get_or agents i d) a within same-place outlets;
    entries = as-before entries_in agents i (get_or agents i d) a within same-place entries;
  }

  module _ (channel : Channel) (ms : List Row)
      (holds : Holds (state_of (get_or agents i d).hardware) (state_of a.hardware) channel ms) where
    other-channels : (n : ℕ) (other : Channel) → channel ≢ other
        → channel_of (state_at k (set agents i a) n) other ≡ channel_of (state_at k agents n) other
    other-channels n other differ =
        as-before (λ (o : Option Agent). channel_of (state_in k o) other) agents i (get_or agents i d) a within same-place
        (holds-there (state_of (get_or agents i d).hardware) (state_of a.hardware) channel other ms holds differ) n

    same-parts : (n : ℕ) → part_of k (state_at k (set agents i a) n) n ≡ part_of k (state_at k agents n) n
    same-parts n =
        as-before (λ (o : Option Agent). part_of k (state_in k o) n) agents i (get_or agents i d) a within same-place
        (holds-part k n (state_of (get_or agents i d).hardware) (state_of a.hardware) channel ms holds) n

    its-messages : channel_of (state_at k (set agents i a) i) channel ≡ ms
    its-messages =
        ap (λ (s : State). channel_of s channel) (state-here k agents i a within)
        ∙ holds-here (state_of (get_or agents i d).hardware) (state_of a.hardware) channel ms holds

    pub moved-end : i ≡ ends_at k channel → begins_at k channel ≢ ends_at k channel
        → IsMoved k channel agents (set agents i a) ms (at_beginning k agents channel)
    moved-end here apart = record {
      channels = other-channels;
      parts = same-parts;
      ending = subst (λ (n : ℕ). channel_of (state_at k (set agents i a) n) channel ≡ ms) here its-messages;
      beginning = ap (λ (s : State). channel_of s channel)
          (state-there agents i a (begins_at k channel) (λ e. apart (e ∙ here)) k);
    }

    pub moved-beginning : i ≡ begins_at k channel → begins_at k channel ≢ ends_at k channel
        → IsMoved k channel agents (set agents i a) (at_end k agents channel) ms
    moved-beginning here apart = record {
      channels = other-channels;
      parts = same-parts;
      ending = ap (λ (s : State). channel_of s channel)
          (state-there agents i a (ends_at k channel) (λ e. apart (sym here ∙ sym e)) k);
      beginning = subst (λ (n : ℕ). channel_of (state_at k (set agents i a) n) channel ≡ ms) here its-messages;
    }

-- What was left of a channel has gone to its end, and then what was at its beginning.
pub moved-whole : (k : Shape) (channel : Channel) (old two three four : List Agent) (ms : List Row)
    → ((n : ℕ) → state_at k two n ≡ state_at k old n)
    → IsMoved k channel two three (at_end k two channel ++ ms) (at_beginning k two channel)
    → IsMoved k channel three four (at_end k three channel ++ at_beginning k three channel) []
    → IsMoved k channel old four (at_end k old channel ++ (ms ++ at_beginning k old channel)) []
moved-whole k channel old two three four ms same first second = record {
  channels = λ n other differ. second.channels n other differ ∙ first.channels n other differ
      ∙ ap (λ (s : State). channel_of s other) (same n);
  parts = λ n. second.parts n ∙ first.parts n ∙ ap (λ (s : State). part_of k s n) (same n);
  ending = second.ending ∙ ap (λ (xs : List Row). xs ++ at_beginning k three channel) first.ending
      ∙ ap (λ (xs : List Row). (at_end k two channel ++ ms) ++ xs) first.beginning
      ∙ append_assoc (at_end k two channel) ms (at_beginning k two channel)
      ∙ ap (λ (s : State). channel_of s channel ++ (ms ++ at_beginning k two channel)) (same (ends_at k channel))
      ∙ ap (λ (s : State). at_end k old channel ++ (ms ++ channel_of s channel)) (same (begins_at k channel));
  beginning = second.beginning;
}

-- WHAT PACKETS SAY

module _ (k : Shape) (packet : wire.Packet) (packets : List wire.Packet) where
  pub says : (m : Row) → message_in k packet.bytes.items ≡ Some m
      → messages_of (packets_in k (packet ∷ packets)) ≡ m ∷ messages_of (packets_in k packets)
  says m is = ap (λ (o : Option Row). messages_of (option_to_list (option_map (with_stamp packet.stamp) o) ++ packets_in k packets)) is

-- a message more is at the end, and the packet that says it is left no more
pub delivered-one : (k : Shape) (packet : wire.Packet) (packets left : List wire.Packet) (m : Row) (before after : List Row)
    → message_in k packet.bytes.items ≡ Some m → left ≡ packet ∷ packets → after ≡ before ++ m ∷ []
    → after ++ messages_of (packets_in k packets) ≡ before ++ messages_of (packets_in k left)
delivered-one k packet packets left m before after is first more =
    ap (λ (xs : List Row). xs ++ messages_of (packets_in k packets)) more
    ∙ append_assoc before (m ∷ []) (messages_of (packets_in k packets))
    ∙ ap (λ (xs : List Row). before ++ xs)
    (sym (ap (λ (ps : List wire.Packet). messages_of (packets_in k ps)) first ∙ says k packet packets m is))

-- a message has gone from the beginning to the end
pub handed-one : (there here later rest : List Row) (m : Row) → later ≡ there ++ m ∷ [] → m ∷ rest ≡ here
    → later ++ rest ≡ there ++ here
handed-one there here later rest m more first =
    ap (λ (xs : List Row). xs ++ rest) more ∙ append_assoc there (m ∷ []) rest ∙ ap (λ (xs : List Row). there ++ xs) first

-- what is read at the beginning of a channel
pub beginning-read : (k : Shape) (agents : List Agent) (i : ℕ) (d : Agent) → IsTeam k agents → IsAgent k i → (channel : Channel)
    → i ≡ begins_at k channel → at_beginning k agents channel ≡ channel_of (state_of (get_or agents i d).hardware) channel
beginning-read k agents i d team agent channel here =
    ap (λ (s : State). channel_of s channel)
    (ap (state_at k agents) (sym here) ∙ state-before k agents i d d team agent)
