-- The merge of a round's journals is a run of the system, and what holds of each agent alone holds of it.
use Rattle.std.proofs.Common.{◌≡◌, ℕ, ◌≤◌, List, ◌++◌, map, refl, sym, ap, ◌∙◌, subst}
use Rattle.std.specs.List.{AllPairs, AllByRecursion}
use Rattle.std.proofs.lemmas.List.Elements.{All-from_recursion, recursion_from_All}
use Rattle.bk_base.specs.Places.{Shape}
use Rattle.bk_isa.specs.declared.form.Form.{Form}
use Rattle.bk_msg.specs.declared.row.Row.{Row}
use Rattle.bk_system.specs.declared.event.Event.{Event}
use Rattle.bk_system.specs.State.{State}
use Rattle.bk_system.specs.Runs.{run_from, IsTightFrom}
use Rattle.bk_agents.specs.Parts.{Part, part_of}
use Rattle.bk_system.specs.declared.channel.Channel.{Channel}
use Rattle.bk_system.specs.Routes.{channel_of, is_same, begins_at, ends_at}
use Rattle.bk_threads.specs.declared.merging.Stamped.{Stamped}
use Rattle.bk_threads.specs.declared.merging.Journal.{Journal}
use Rattle.bk_threads.specs.Journals.{IsMerge}
use Rattle.bk_threads.specs.Agents.{Channels, sent_by, steps_of}
use Rattle.bk_threads.specs.Walks.{WalksAlone, Walks, Runs, SendsItsStamp, SendNothingEarlier, part_after, streams_after, channels_after}
use Rattle.bk_threads.specs.System.{SystemStep, messages_of, system_rules, step_event}
use Rattle.bk_threads.specs.Rounds.{IsBy, IsRound, ComesTo, HoldsAlone, HoldsFrom}
use Rattle.bk_threads.specs.Laws.{RoundsRun, RoundsKeep, WalksHeed}
use Rattle.bk_threads.proofs.Orders.{all_along}
use Rattle.bk_threads.proofs.Merges.{journals_stand}
use Rattle.bk_threads.proofs.Taking.{streams-same}
use Rattle.bk_threads.proofs.Walking.{walks-same, walks_join, parts_follow}
use Rattle.bk_threads.proofs.Running.{walks_run, channels_hold, stamps_order}
use Rattle.bk_threads.proofs.SystemRunning.{system_local, system_runs}
use Rattle.bk_threads.proofs.RoundSteps.{AreTold, entries_rise, join}
use Rattle.bk_threads.proofs.RoundWalks.{KeepsToItsChannels, all_keep, sent_alone, left_alone}
use Rattle.bk_threads.proofs.RoundStates.{Has, run_leads, holds_along}

pub walks_heed : WalksHeed
walks_heed k program n part streams others entries steps same walk = record {
  alone = walks-same is_same (system_rules k program) (ends_at k) n part streams others steps (system_local k program).1 same walk.alone;
  own = walk.own;
  by_stamp = walk.by_stamp;
  told = walk.told;
}

module _ (k : Shape) (program : List Form) (s : State) (journals : List Journal) (events : List Event)
    (round : IsRound k program s journals) (merge : IsMerge journals events) where
  -- each agent's entries in the merge are its steps
  all_told : AreTold merge.entries round.steps
  all_told n =
      let walk = round.walks n in
      let by = recursion_from_All (IsBy n) (round.steps n) walk.own in (
        journals_stand journals events n merge
            (subst (λ entries. AllPairs (λ (a : Stamped). λ b. a.stamp ≤ b.stamp) entries) (sym walk.told)
            (entries_rise n (round.steps n) by walk.by_stamp)) ∙ walk.told,
        by,
      )

  -- what all channels bring, each to the agent at its end
  abbrev streams : Channels Channel Row
  streams channel = round.streams (ends_at k channel) channel

  -- The steps of all, as the merge has them. What each channel holds and is sent is what it brings, and what is left.
  record Merged : Type 0 where
    steps : List SystemStep
    same : (n : ℕ) → steps_of n steps ≡ round.steps n
    shown : map step_event steps ≡ events
    keep : AllByRecursion (KeepsToItsChannels k) steps
    walks : Walks is_same (system_rules k program) (part_of k s) streams steps
    order : SendNothingEarlier steps
    agrees : (channel : Channel) → round.held channel ++ sent_by steps channel ≡ streams channel ++ round.left channel

  -- each agent's walk, on the streams of all
  on_streams : (n : ℕ) → WalksAlone is_same (system_rules k program) (ends_at k) n (part_of k s n) streams (round.steps n)
  on_streams n =
      walks-same is_same (system_rules k program) (ends_at k) n (part_of k s n) (round.streams n) streams (round.steps n)
      (system_local k program).1 (λ channel at. ap (λ (m : ℕ). round.streams m channel) at) (round.walks n).alone

  merged : Merged
  merged =
      let joined = join merge.entries round.steps all_told in
      let walks : Walks is_same (system_rules k program) (part_of k s) streams joined.all =
      walks_join is_same (system_rules k program) (ends_at k) (part_of k s) streams joined.all (system_local k program).0
      (system_local k program).1
      (λ n. subst (λ all. WalksAlone is_same (system_rules k program) (ends_at k) n (part_of k s n) streams all) (sym (joined.same n))
      (on_streams n)) in
      let keep = all_keep k program (part_of k s) streams joined.all walks joined.stamps in record {
        steps = joined.all;
        same = joined.same;
        shown = joined.shown ∙ sym merge.shown;
        keep = keep;
        walks = walks;
        order = stamps_order joined.all (joined.rise merge.ordered) (All-from_recursion SendsItsStamp joined.all
            (all_along (KeepsToItsChannels k) SendsItsStamp (λ step keeps. keeps.stamped) joined.all keep));
        agrees = λ channel.
            ap (λ sent. round.held channel ++ sent) (sent_alone k channel joined.all keep
            ∙ ap (λ all. sent_by all channel) (joined.same (begins_at k channel)))
            ∙ round.whole channel;
      }

  -- they are a run
  runs : Runs is_same (system_rules k program) (part_of k s) round.held merged.steps
  runs =
      walks_run is_same (system_rules k program) (part_of k s) round.held streams round.left merged.steps (system_local k program).0
      (system_local k program).1 merged.walks merged.order merged.agrees

  opens : Has k s (part_of k s) round.held
  opens = record { part = λ n. refl; content = λ channel. sym (round.carried channel) }

  -- a channel holds what its agent did not take, and what was left
  held_after : (channel : Channel) → channels_after is_same round.held merged.steps channel
      ≡ streams_after is_same (round.streams (ends_at k channel)) (round.steps (ends_at k channel)) channel ++ round.left channel
  held_after channel =
      channels_hold is_same (system_rules k program) (part_of k s) round.held streams round.left merged.steps (system_local k program).0
      merged.walks merged.order merged.agrees channel
      ∙ ap (λ packets. packets ++ round.left channel)
      (left_alone k streams channel merged.steps merged.keep
      ∙ ap (λ all. streams_after is_same streams all channel) (merged.same (ends_at k channel))
      ∙ streams-same is_same (round.streams (ends_at k channel)) streams (round.steps (ends_at k channel)) channel refl)

  comes_to : ComesTo k program s journals round events
  comes_to =
      let has = run_leads k program s (part_of k s) round.held merged.steps opens runs in
      record {
        tight = subst (IsTightFrom k program s) merged.shown
            (system_runs k program s round.held merged.steps round.carried runs);
        parts = λ n.
            ap (λ all. part_of k (run_from k program s all) n) (sym merged.shown) ∙ has.part n
            ∙ parts_follow (part_of k s) merged.steps n ∙ ap (part_after (part_of k s n)) (merged.same n);
        channels = λ channel.
            ap (λ all. channel_of (run_from k program s all) channel) (sym merged.shown) ∙ has.content channel
            ∙ ap messages_of (held_after channel);
      }

  holds_from : (Holds : Part → Event → Type 0) → ((n : ℕ) → HoldsAlone Holds (part_of k s n) (round.steps n))
      → HoldsFrom Holds k program s events
  holds_from Holds alone =
      subst (HoldsFrom Holds k program s) merged.shown
      (holds_along Holds k program s (part_of k s) round.held merged.steps opens runs
      (λ n. subst (HoldsAlone Holds (part_of k s n)) (sym (merged.same n)) (alone n)))

pub rounds_run : RoundsRun
rounds_run k program s journals events round merge = comes_to k program s journals events round merge

pub rounds_keep : (Holds : Part → Event → Type 0) → RoundsKeep Holds
rounds_keep Holds k program s journals events round merge = holds_from k program s journals events round merge Holds
