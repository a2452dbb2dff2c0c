-- The row of an event of a cache is the local row of its part.
use Rattle.std.proofs.Common.{◌≡◌, ℕ, ◌+◌, Bool, true, false, cond, ltb, eqb, ◌&&◌, sym, refl, ap, ◌∙◌, List, [], ◌∷◌, ◌++◌, length, Option, Some, None, option_map, option_and_then, option_to_list, append-nil}
use mathlib.Core.Path.{fun_ext}
use Rattle.bk_base.specs.Places.{Shape}
use Rattle.bk_base.specs.Tables.{put}
use Rattle.bk_base.specs.declared.op.Op.{Op}
use Rattle.bk_isa.specs.declared.form.Form.{Form}
use Rattle.bk_msg.specs.declared.row.Row.{Row}
use Rattle.bk_msg.specs.declared.row.Network.{Network}
use Rattle.bk_msg.specs.declared.row.Network.TheVariants as networks
use Rattle.bk_msg.specs.Networks.{network_of, receiver_of}
use Rattle.bk_lce.specs.CacheTable as table
use Rattle.bk_lce.specs.CacheTable.{Transition}
use Rattle.bk_system.specs.declared.event.Event.TheVariants as events
use Rattle.bk_system.specs.State.{State}
use Rattle.bk_system.specs.Events.{first, with_taken, cache_row, command_of, fill_of, without_command, without_fill, row}
use Rattle.bk_system.specs.Runs.{completed_by}
use Rattle.bk_agents.specs.Parts.{CachePart, EnginePart, MemoryPart, NoPart, part_of}
use Rattle.bk_system.specs.declared.channel.Channel.TheVariants as channels
use Rattle.bk_system.specs.declared.channel.Channel.{Channel}
use Rattle.bk_system.specs.Routes.{channel_in, is_same, heads_of}
use Rattle.bk_agents.specs.Local.{cache_local, local_row, sent_on, widened}
use Rattle.bk_agents.proofs.Sending.{without_head, without_head_of_two, request-sent, response-sent, fill-sent, unsent}
use Rattle.bk_agents.proofs.Own.{IsCaches, SendsOwn, MayBeOwn, issue_own, command_own, fill_own}

-- a cache sends nothing on the engine's channels and the memory's
none-on : (c : ℕ) (o : Option Row) (channel : Channel) → SendsOwn o
    → ((n : Network) (to : ℕ) → IsCaches n → is_same (channel_in n c to) channel ≡ false)
    → sent_on c channel (option_to_list o) ≡ []
none-on c None channel own other = refl
none-on c (Some m) channel own other =
    ap (λ (b : Bool). cond b (m ∷ []) []) (other (network_of m) (receiver_of m) own)

no-command : (c to : ℕ) (n : Network) (at : ℕ) → IsCaches n → is_same (channel_in n c at) (channels.Command to) ≡ false
no-command c to networks.Request at h = refl
no-command c to networks.Command at h = absurd h
no-command c to networks.Fill at h = refl
no-command c to networks.Response at h = refl
no-command c to networks.Memout at h = absurd h
no-command c to networks.Memin at h = absurd h

no-memout : (c : ℕ) (n : Network) (at : ℕ) → IsCaches n → is_same (channel_in n c at) channels.Memout ≡ false
no-memout c networks.Request at h = refl
no-memout c networks.Command at h = absurd h
no-memout c networks.Fill at h = refl
no-memout c networks.Response at h = refl
no-memout c networks.Memout at h = absurd h
no-memout c networks.Memin at h = absurd h

no-memin : (c : ℕ) (n : Network) (at : ℕ) → IsCaches n → is_same (channel_in n c at) channels.Memin ≡ false
no-memin c networks.Request at h = refl
no-memin c networks.Command at h = absurd h
no-memin c networks.Fill at h = refl
no-memin c networks.Response at h = refl
no-memin c networks.Memout at h = absurd h
no-memin c networks.Memin at h = absurd h

-- THE ROW OF A TABLE, put into a system

issue-same : (s : State) (c completed : ℕ) (t : Transition) → SendsOwn t.sent
    → with_taken s c t ≡ widened s c (cache_local completed None t)
issue-same s c completed t own = λ i. record {
  state = record s {
    caches = put s.caches c t.state;
    request = fun_ext (λ from. request-sent c t.sent s.request from) i;
    command = fun_ext (λ to. unsent (s.command to) _ (none-on c t.sent (channels.Command to) own (no-command c to))) i;
    response = fun_ext (λ from. response-sent c t.sent s.response from) i;
    fill = fun_ext (λ to. fun_ext (λ from. fill-sent c t.sent s.fill to from)) i;
    memout = unsent s.memout _ (none-on c t.sent channels.Memout own (no-memout c)) i;
    memin = unsent s.memin _ (none-on c t.sent channels.Memin own (no-memin c)) i;
    history = s.history ++ option_to_list t.done;
    taken = sym (append-nil s.taken) i;
    settled = sym (append-nil s.settled) i;
  };
  sent = option_to_list t.sent;
}

command-same : (s : State) (c completed : ℕ) (t : Transition) → SendsOwn t.sent
    → with_taken (without_command s c) c t ≡ widened s c (cache_local completed (Some (channels.Command c)) t)
command-same s c completed t own = λ i. record {
  state = record s {
    caches = put s.caches c t.state;
    request = fun_ext (λ from. request-sent c t.sent s.request from) i;
    command = fun_ext (λ to. without_head s.command c to ∙ unsent _ _ (none-on c t.sent (channels.Command to) own (no-command c to))) i;
    response = fun_ext (λ from. response-sent c t.sent s.response from) i;
    fill = fun_ext (λ to. fun_ext (λ from. fill-sent c t.sent s.fill to from)) i;
    memout = unsent s.memout _ (none-on c t.sent channels.Memout own (no-memout c)) i;
    memin = unsent s.memin _ (none-on c t.sent channels.Memin own (no-memin c)) i;
    history = s.history ++ option_to_list t.done;
    taken = sym (append-nil s.taken) i;
    settled = sym (append-nil s.settled) i;
  };
  sent = option_to_list t.sent;
}

fill-same : (s : State) (c by completed : ℕ) (t : Transition) → SendsOwn t.sent
    → with_taken (without_fill s c by) c t ≡ widened s c (cache_local completed (Some (channels.Fill c by)) t)
fill-same s c by completed t own = λ i. record {
  state = record s {
    caches = put s.caches c t.state;
    request = fun_ext (λ from. request-sent c t.sent s.request from) i;
    command = fun_ext (λ to. unsent (s.command to) _ (none-on c t.sent (channels.Command to) own (no-command c to))) i;
    response = fun_ext (λ from. response-sent c t.sent s.response from) i;
    fill = fun_ext (λ to. fun_ext (λ from.
        fill-sent c t.sent (without_fill s c by).fill to from
        ∙ ap (λ (l : List Row). l ++ sent_on c (channels.Fill to from) (option_to_list t.sent))
        (without_head_of_two s.fill c by to from))) i;
    memout = unsent s.memout _ (none-on c t.sent channels.Memout own (no-memout c)) i;
    memin = unsent s.memin _ (none-on c t.sent channels.Memin own (no-memin c)) i;
    history = s.history ++ option_to_list t.done;
    taken = sym (append-nil s.taken) i;
    settled = sym (append-nil s.settled) i;
  };
  sent = option_to_list t.sent;
}

-- where there is a row
rows-same : (s old : State) (c completed : ℕ) (touched : Option Channel) (o : Option Transition)
    → ((t : Transition) → SendsOwn t.sent → with_taken s c t ≡ widened old c (cache_local completed touched t)) → MayBeOwn c o
    → cache_row s c o ≡ option_map (widened old c) (option_map (cache_local completed touched) o)
rows-same s old c completed touched None same own = refl
rows-same s old c completed touched (Some t) same own = ap Some (same t own.sent)

if-own : (c : ℕ) (b : Bool) (o : Option Transition) → MayBeOwn c o → MayBeOwn c (cond b o None)
if-own c true o own = own
if-own c false o own = tt

-- THE PART is a cache's where the number is below that of caches. Any other part has no such event.

pub issue-row : (k : Shape) (program : List Form) (s : State) (c way : ℕ) (op : Op)
    → row k program s (events.Issue c way op)
    ≡ option_map (widened s c) (local_row k program (part_of k s c) (heads_of s) (events.Issue c way op))
issue-row k program s c way op = go (ltb c k.caches) (eqb c k.caches) (eqb c (k.caches + 1))
  where
    go : (b x y : Bool)
        → cache_row s c (cond (b && ltb way k.ways) (table.issue k (s.caches c) c op way) None)
        ≡ option_map (widened s c) (local_row k program
        (cond b (CachePart (s.caches c) (length (completed_by c s.history)))
        (cond x (EnginePart s.engine) (cond y (MemoryPart s.memory) NoPart)))
        (heads_of s) (events.Issue c way op))
    go true x y =
        rows-same s s c (length (completed_by c s.history)) None _ (issue-same s c (length (completed_by c s.history)))
        (if-own c (ltb way k.ways) (table.issue k (s.caches c) c op way) (issue_own k (s.caches c) c op way))
    go false true y = refl
    go false false true = refl
    go false false false = refl

pub command-row : (k : Shape) (program : List Form) (s : State) (c : ℕ)
    → row k program s (events.Command c)
    ≡ option_map (widened s c) (local_row k program (part_of k s c) (heads_of s) (events.Command c))
command-row k program s c = go (ltb c k.caches) (eqb c k.caches) (eqb c (k.caches + 1))
  where
    completed : ℕ
    completed = length (completed_by c s.history)

    head : (o : Option Row) → cache_row (without_command s c) c (command_of k s c o)
        ≡ option_map (widened s c) (option_map (cache_local completed (Some (channels.Command c)))
        (option_and_then (table.command k (s.caches c) c) o))
    head None = refl
    head (Some m) =
        rows-same (without_command s c) s c completed (Some (channels.Command c)) (table.command k (s.caches c) c m)
        (command-same s c completed) (command_own k (s.caches c) c m)

    go : (b x y : Bool)
        → cache_row (without_command s c) c (cond b (command_of k s c (first (s.command c))) None)
        ≡ option_map (widened s c) (local_row k program
        (cond b (CachePart (s.caches c) completed)
        (cond x (EnginePart s.engine) (cond y (MemoryPart s.memory) NoPart)))
        (heads_of s) (events.Command c))
    go true x y = head (first (s.command c))
    go false true y = refl
    go false false true = refl
    go false false false = refl

pub fill-row : (k : Shape) (program : List Form) (s : State) (to from : ℕ)
    → row k program s (events.Fill to from)
    ≡ option_map (widened s to) (local_row k program (part_of k s to) (heads_of s) (events.Fill to from))
fill-row k program s to from = go (ltb to k.caches) (eqb to k.caches) (eqb to (k.caches + 1))
  where
    completed : ℕ
    completed = length (completed_by to s.history)

    head : (b : Bool) (o : Option Row) → cache_row (without_fill s to from) to (cond b (fill_of k s to o) None)
        ≡ option_map (widened s to) (option_map (cache_local completed (Some (channels.Fill to from)))
        (cond b (option_and_then (table.fill k (s.caches to) to) o) None))
    head false o = refl
    head true None = refl
    head true (Some m) =
        rows-same (without_fill s to from) s to completed (Some (channels.Fill to from)) (table.fill k (s.caches to) to m)
        (fill-same s to from completed) (fill_own k (s.caches to) to m)

    go : (b x y : Bool)
        → cache_row (without_fill s to from) to (cond (b && ltb from k.caches) (fill_of k s to (first (s.fill to from))) None)
        ≡ option_map (widened s to) (local_row k program
        (cond b (CachePart (s.caches to) completed)
        (cond x (EnginePart s.engine) (cond y (MemoryPart s.memory) NoPart)))
        (heads_of s) (events.Fill to from))
    go true x y = head (ltb from k.caches) (first (s.fill to from))
    go false true y = refl
    go false false true = refl
    go false false false = refl
