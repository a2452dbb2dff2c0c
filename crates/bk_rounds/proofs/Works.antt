-- An agent's work begins, and what it has to send is sent.
use Rattle.std.proofs.Common.{◌≡◌, ℕ, ◌≤◌, Bool, true, false, cond, ltb, eqb, List, [], ◌∷◌, ◌++◌, Some, length, refl, sym, ap, ◌∙◌, subst, inr, arith, eqb-true}
use Rattle.std.specs.Prelude.{slice_get, if◌then◌else◌}
use Rattle.std.specs.List.{AllByRecursion}
use Rattle.std.proofs.lemmas.List.Elements.{All-nil, All-from_recursion}
use Rattle.bk_base.specs.Places.{Shape}
use Rattle.bk_msg.specs.declared.row.Row.{Row}
use Rattle.bk_engine.specs.declared.parts.Head.{Head}
use Rattle.bk_system.specs.declared.channel.Channel.{Channel}
use Rattle.bk_system.specs.Routes.{channel_of, heads_of, begins_at, ends_at, engine_number, memory_number}
use Rattle.bk_system.specs.Runs.{completed_by}
use Rattle.bk_system.specs.State.{State}
use Rattle.bk_agents.specs.Parts.{CachePart, EnginePart, MemoryPart, NoPart, part_of}
use Rattle.bk_agents.specs.Held.{held_head, HoldsFirst}
use Rattle.bk_agents.proofs.Touched.{touched-ends}
use Rattle.bk_threads.specs.declared.merging.Stamped.{Stamped}
use Rattle.bk_threads.specs.Agents.{Packet, Channels}
use Rattle.bk_threads.specs.System.{SystemStep, messages_of, packets_of}
use Rattle.bk_threads.specs.Rounds.{IsBy as IsOf}
use Rattle.bk_rounds.specs.Moves.{IsBy, Sends}
use Rattle.bk_rounds.specs.Tasks.{Task}
use Rattle.bk_rounds.specs.Work.{IsWork, IsSent, stream, brought}

-- IT BEGINS

-- nothing was brought yet
nothing_brought : (k : Shape) (n : ℕ) (took : Channels Channel Row) (channel : Channel) → took channel ≡ []
    → brought k n [] took channel ≡ []
nothing_brought k n took channel none = whether (eqb (begins_at k channel) n)
  where
    whether : (b : Bool) → (if b then [] else took channel) ≡ []
    whether true = refl
    whether false = none

messages_back : (stamp : ℕ) (ms : List Row) (more : List (Packet Row)) → more ≡ []
    → ms ≡ messages_of (packets_of stamp ms ++ more)
messages_back stamp [] more none = sym (ap messages_of none)
messages_back stamp (m ∷ ms) more none = ap (λ rest. m ∷ rest) (messages_back stamp ms more none)

-- what was there has stamp 0
all_there : (clock : ℕ) (ms : List Row) (more : List (Packet Row)) → more ≡ []
    → AllByRecursion (IsBy clock) (packets_of 0 ms ++ more)
all_there clock [] more none = subst (AllByRecursion (IsBy clock)) (sym none) tt
all_there clock (m ∷ ms) more none = (omega arith, all_there clock ms more none)

pub work-begins : (task : Task) (n : ℕ) (begun : State) (took sent : Channels Channel Row) (clock : ℕ)
    → ((channel : Channel) → took channel ≡ []) → ((channel : Channel) → sent channel ≡ []) → IsSent task.config n begun
    → HoldsFirst (part_of task.config begun n) (heads_of begun) → IsWork task n begun begun took sent clock []
work-begins task n begun took sent clock none_taken none_sent waits holds =
    let none : (channel : Channel) → brought task.config n [] took channel ≡ [] =
    λ channel. nothing_brought task.config n took channel (none_taken channel) in record {
      steps = [];
      walk = record {
        alone = tt;
        own = All-nil (IsOf n);
        by_stamp = λ i j d before within. absurd (omega arith);
        told = refl;
      };
      due = tt;
      part = refl;
      inbox = λ channel here. messages_back 0 (channel_of begun channel) (brought task.config n [] took channel) (none channel);
      outbox = λ channel outward.
          sym (ap (λ (packets : List (Packet Row)). packets ++ packets_of clock (channel_of begun channel)) (none_sent channel)
          ∙ ap (packets_of clock) (waits channel outward));
      through = λ channel. inr refl;
      holds = holds;
      stamps = λ channel here.
          All-from_recursion (IsBy clock) (stream task.config n begun [] took channel)
          (all_there clock (channel_of begun channel) (brought task.config n [] took channel) (none channel));
      past = All-nil (λ (step : SystemStep). step.stamp ≤ clock);
    }

-- IT IS SENT

-- who holds a head is the engine
holder : (k : Shape) (s : State) (n : ℕ) (head : Head) → held_head (part_of k s n) ≡ Some head → n ≡ engine_number k
holder k s n head = go (ltb n k.caches) (eqb n (engine_number k)) (eqb n (memory_number k)) refl
  where
    go : (x y z : Bool) → eqb n (engine_number k) ≡ y
        → held_head (cond x (CachePart (s.caches n) (length (completed_by n s.history)))
        (cond y (EnginePart s.engine) (cond z (MemoryPart s.memory) NoPart))) ≡ Some head
        → n ≡ engine_number k
    go true y z e h = absurd (cc h)
    go false true z e h = eqb-true n (engine_number k) e
    go false false true e h = absurd (cc h)
    go false false false e h = absurd (cc h)

pub work-sends : (task : Task) (n : ℕ) (begun now new : State) (took sent later : Channels Channel Row) (clock : ℕ)
    (entries : List Stamped) → IsWork task n begun now took sent clock entries → Sends task.config n now new sent later clock
    → IsWork task n begun new took later clock entries
work-sends task n begun now new took sent later clock entries work sends = record {
  steps = work.steps;
  walk = work.walk;
  due = work.due;
  part = sends.part ∙ work.part;
  inbox = λ channel here. sends.inbox channel here ∙ work.inbox channel here;
  outbox = λ channel outward. work.outbox channel outward ∙ sym (sends.total channel outward);
  through = work.through;
  holds = λ head channel held at.
      let before : held_head (part_of task.config now n) ≡ Some head = ap held_head (sym sends.part) ∙ held in
      let here : ends_at task.config channel ≡ n =
      touched-ends task.config head.choice (Some head.choice) channel at
      ∙ sym (holder task.config now n head before) in
      ap (λ (ms : List Row). slice_get ms 0) (sends.inbox channel here) ∙ work.holds head channel before at;
  stamps = work.stamps;
  past = work.past;
}
