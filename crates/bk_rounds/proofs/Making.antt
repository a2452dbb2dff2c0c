-- What an event of an agent does to its streams, its channels and its part, where it works alone.
use Rattle.std.proofs.Common.{◌≡◌, ℕ, Bool, true, false, eqb, ◌&&◌, List, [], ◌∷◌, ◌++◌, drop, Option, Some, None, option_map, refl, sym, ap, ◌∙◌, subst, arith, append-nil, eq-eqb}
use Rattle.std.specs.Prelude.{All, if◌then◌else◌}
use Rattle.std.specs.List.{AllByRecursion}
use Rattle.std.proofs.lemmas.Option.{same_Some}
use Rattle.std.proofs.lemmas.List.Elements.{All-drop}
use Rattle.bk_base.specs.Places.{Shape}
use Rattle.bk_isa.specs.declared.form.Form.{Form}
use Rattle.bk_msg.specs.declared.row.Row.{Row}
use Rattle.bk_system.specs.declared.channel.Channel.{Channel}
use Rattle.bk_system.specs.declared.event.Event.{Event}
use Rattle.bk_system.specs.Events.{Happening, row}
use Rattle.bk_system.specs.Queues.{EachWithin}
use Rattle.bk_system.specs.Routes.{channel_of, heads_of, is_same, begins_at}
use Rattle.bk_system.specs.State.{State}
use Rattle.bk_system.proofs.Queues.{put_at}
use Rattle.bk_agents.specs.Parts.{Part, part_of, agent_of}
use Rattle.bk_agents.specs.Local.{Local, local_row, left_in, is_touched, sent_on, widened}
use Rattle.bk_agents.proofs.EventParts.{parts-stay}
use Rattle.bk_agents.proofs.EventRows.{rows-local}
use Rattle.bk_agents.proofs.Tight.{channels-grow}
use Rattle.bk_threads.specs.Agents.{Packet, Effect, Channels, is_at, after_taking}
use Rattle.bk_threads.specs.System.{packets_of}
use Rattle.bk_rounds.specs.Moves.{IsBy}

-- an event that has a row has a local one, and leaves what that says
pub record Made (k : Shape) (program : List Form) (n : ℕ) (now new : State) (event : Event) : Type 0 where
  pub local : Local
  pub found : local_row k program (part_of k now n) (heads_of now) event ≡ Some local
  pub part : part_of k new n ≡ local.part
  pub channels : (channel : Channel) → channel_of new channel ≡ left_in local channel (channel_of now channel)
      ++ sent_on n channel local.sent

of-row : (f : Local → Happening) (o : Option Local) (h : Option Happening) (new : Happening) → h ≡ option_map f o → h ≡ Some new
    → (local : Local) × (o ≡ Some local) × (f local ≡ new)
of-row f None h new e is = let no : None ≡ Some new = sym e ∙ is in absurd (cc no)
of-row f (Some local) h new e is = (local, refl, same_Some (f local) new (sym e ∙ is))

made-by : (k : Shape) (program : List Form) (now new : State) (ms : List Row) (event : Event)
    → row k program now event ≡ Some (record { state = new; sent = ms }) → Made k program (agent_of k event) now new event
made-by k program now new ms event e =
    let n = agent_of k event in
    let found = of-row (widened now n) (local_row k program (part_of k now n) (heads_of now) event) (row k program now event)
    (record { state = new; sent = ms }) (rows-local k program now event) e in
    let state : (widened now n found.0).state ≡ new = ap (λ (h : Happening). h.state) found.2 in record {
      local = found.0;
      found = found.1;
      part = ap (λ (s : State). part_of k s n) (sym state) ∙ parts-stay k program now event found.0 found.1 n
          ∙ put_at (part_of k now) n found.0.part;
      channels = λ channel.
          ap (λ (s : State). channel_of s channel) (sym state) ∙ channels-grow now n found.0 channel;
    }

pub made : (k : Shape) (program : List Form) (n : ℕ) (now new : State) (ms : List Row) (event : Event) → agent_of k event ≡ n
    → row k program now event ≡ Some (record { state = new; sent = ms }) → Made k program n now new event
made k program n now new ms event own e =
    subst (λ (i : ℕ). Made k program i now new event) own (made-by k program now new ms event e)

-- nothing is taken off an empty channel,
pub none_left : (local : Local) (channel : Channel) → left_in local channel [] ≡ []
none_left local channel = whether (local.pops && is_touched local.touched channel)
  where
    none : List Row
    none = []

    whether : (b : Bool) → (if b then drop 1 none else none) ≡ none
    whether true = refl
    whether false = refl

-- nor off one whose head stays
pub all_left : (local : Local) (channel : Channel) (ms : List Row) → (local.pops && is_touched local.touched channel) ≡ false
    → left_in local channel ms ≡ ms
all_left local channel ms e = ap (λ (b : Bool). if b then drop 1 ms else ms) e

-- what is within is so behind what stands before it
pub within-behind : (k : Shape) (before ms : List Row) → EachWithin k (before ++ ms) → EachWithin k ms
within-behind k [] ms within = within
within-behind k (m ∷ before) ms within = within-behind k before ms within.1

-- STAMPS

pub all_by : (stamp : ℕ) (ms : List Row) → AllByRecursion (IsBy stamp) (packets_of stamp ms)
all_by stamp [] = tt
all_by stamp (m ∷ ms) = (omega arith, all_by stamp ms)

pub by-left : (clock : ℕ) (effect : Effect Channel Part Row) (channels : Channels Channel Row) (channel : Channel)
    → All (IsBy clock) (channels channel) → All (IsBy clock) (after_taking is_same effect channels channel)
by-left clock effect channels channel all = whether effect.takes (is_at is_same effect.looked channel)
  where
    whether : (a b : Bool)
        → All (IsBy clock) (if a then (if b then drop 1 (channels channel) else channels channel) else channels channel)
    whether false b = all
    whether true false = all
    whether true true = All-drop (IsBy clock) 1 (channels channel) all

-- What a channel of the agent to itself brings is longer by what the agent sends there; on those of others it sends nothing.
pub brought-more : (k : Shape) (n : ℕ) (before longer took sent : List (Packet Row)) (channel : Channel) → longer ≡ before ++ sent
    → ((begins_at k channel ≡ n → ⊥) → sent ≡ [])
    → (if eqb (begins_at k channel) n then longer else took) ≡ (if eqb (begins_at k channel) n then before else took) ++ sent
brought-more k n before longer took sent channel more none = whether (eqb (begins_at k channel) n) refl
  where
    apart : {b : Bool} → b ≡ false → b ≡ true → ⊥
    apart fails passes = absurd (cc (fails, passes))

    whether : (b : Bool) → eqb (begins_at k channel) n ≡ b → (if b then longer else took) ≡ (if b then before else took) ++ sent
    whether true e = more
    whether false e =
        sym (append-nil took)
        ∙ ap (λ (packets : List (Packet Row)). took ++ packets) (sym (none (λ here. apart e (eq-eqb (begins_at k channel) n here))))
