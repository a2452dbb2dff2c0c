-- One channel more is open.
use Rattle.std.proofs.Common.{◌≡◌, ◌≢◌, inl, inr, ℕ, ◌+◌, ◌<◌, ◌==◌, cond, Bool, true, false, if◌then◌else◌, List, [], ◌∷◌, ◌++◌, map, length, get_or, take, refl, sym, subst, ap, ◌∙◌, arith}
use Rattle.std.specs.List.{All, AllPairs, filter}
use Rattle.std.proofs.lemmas.Bool.{cases_Bool}
use Rattle.std.proofs.lemmas.List.{append-nil, map-append, get_or-take, length-take-le, get_or_default, take_more}
use Rattle.std.proofs.lemmas.List.Elements.{All-head, All-tail, All-filter, filter-append}
use Rattle.atomic_table.specs.Seated.{TableId}
use Rattle.bk_base.specs.Places.{Shape}
use Rattle.bk_msg.specs.declared.codec.Packet as wire
use Rattle.bk_system.specs.declared.channel.Channel.{Channel}
use Rattle.bk_system.specs.declared.channel.Channel.TheVariants.{Memout}
use Rattle.bk_system.specs.Routes.{begins_at, ends_at, is_same}
use Rattle.bk_rounds.specs.declared.agent.Agent.{Agent}
use Rattle.bk_rounds.specs.declared.ends.Inlet.{Inlet}
use Rattle.bk_rounds.specs.declared.ends.Outlet.{Outlet}
use Rattle.bk_rounds.specs.Ends.{taken_of, sent_to, inlet_channel, outlet_channel, inlet_table, outlet_table, is_in}
use Rattle.bk_rounds.proofs.AtEnds.{taken_at, sent_at}
use Rattle.bk_rounds.proofs.Channels.{same-one, other-one}
use Rattle.bk_rounds.proofs.Choices.{if-true, if-false}
use Rattle.bk_rounds.proofs.EndLists.{packets_at, inlets-packets, outlets-packets}
use Rattle.bk_parallel.specs.Teams.{AreApart, inlets_at, outlets_at}
use Rattle.bk_parallel.specs.Joined.{AreBetween, AreJoined, AreUnused}
use Rattle.bk_parallel.specs.Opens.{Opens}

-- the queue of one channel is told
abbrev pub with_queue : Channel → TableId → (Channel → TableId) → Channel → TableId
with_queue channel queue queues other = if is_same other channel then queue else queues other

map-agree : {X Y : Type 0} (f g : X → Y) (xs : List X) → All (λ x. f x ≡ g x) xs → map f xs ≡ map g xs
map-agree f g [] agree = refl
map-agree f g (x ∷ xs) agree =
    λ i. All-head (λ y. f y ≡ g y) x xs agree i ∷ map-agree f g xs (All-tail (λ y. f y ≡ g y) x xs agree) i

-- THE ENDS OF ONE AGENT
module _ {End : Type 0} (channel_at : End → Channel) (table_at : End → TableId) (p : Channel → Bool) (opened : List Channel)
    (channel : Channel) (ends more : List End) (end : End) (grown : more ≡ (if p channel then ends ++ end ∷ [] else ends)) where
  ends-joined : map channel_at ends ≡ filter p opened → channel_at end ≡ channel
      → map channel_at more ≡ filter p (opened ++ channel ∷ [])
  ends-joined list is = by-test (p channel) grown ∙ sym (filter-append p opened (channel ∷ []))
    where
      by-test : (b : Bool) → more ≡ (if b then ends ++ end ∷ [] else ends)
          → map channel_at more ≡ filter p opened ++ cond b (channel ∷ []) []
      by-test true g = ap (map channel_at) g ∙ map-append channel_at ends (end ∷ []) ∙ (λ i. list i ++ is i ∷ [])
      by-test false g = ap (map channel_at) g ∙ list ∙ sym (append-nil (filter p opened))

  tables-joined : (queues : Channel → TableId) (queue : TableId) → All (λ other. other ≢ channel) opened
      → map table_at ends ≡ map queues (filter p opened) → table_at end ≡ queue
      → map table_at more ≡ map (with_queue channel queue queues) (filter p (opened ++ channel ∷ []))
  tables-joined queues queue differ list is =
      by-test (p channel) grown ∙ sym (ap (map later) (filter-append p opened (channel ∷ [])))
    where
      later : Channel → TableId
      later = with_queue channel queue queues

      old : map table_at ends ≡ map later (filter p opened)
      old = list ∙ map-agree queues later (filter p opened) (All-filter p (λ other. queues other ≡ later other) opened
          (λ i d within. sym (if-false (is_same (get_or opened i d) channel) queue (queues (get_or opened i d))
          (other-one (get_or opened i d) channel (differ i d within)))))

      here : table_at end ≡ later channel
      here = is ∙ sym (if-true (is_same channel channel) queue (queues channel) (same-one channel))

      by-test : (b : Bool) → more ≡ (if b then ends ++ end ∷ [] else ends)
          → map table_at more ≡ map later (filter p opened ++ cond b (channel ∷ []) [])
      by-test true g = ap (map table_at) g ∙ map-append table_at ends (end ∷ []) ∙ (λ i. old i ++ here i ∷ [])
          ∙ sym (map-append later (filter p opened) (channel ∷ []))
      by-test false g = ap (map table_at) g ∙ old ∙ ap (map later) (sym (append-nil (filter p opened)))

module _ {End : Type 0} (channel_at : End → Channel) (packets : End → List wire.Packet) (end : End) (channel : Channel) where
  none-added : (ends : List End) → packets_at channel_at packets ends channel ≡ [] → packets end ≡ []
      → packets_at channel_at packets (ends ++ end ∷ []) channel ≡ []
  none-added [] none nothing = elim (cases_Bool (is_same (channel_at end) channel)) [
    | inl same ↦ if-true (is_same (channel_at end) channel) (packets end) [] same ∙ nothing
    | inr other ↦ if-false (is_same (channel_at end) channel) (packets end) [] other
  ]
  none-added (first ∷ ends) none nothing = elim (cases_Bool (is_same (channel_at first) channel)) [
    | inl same ↦ if-true (is_same (channel_at first) channel) (packets first)
        (packets_at channel_at packets (ends ++ end ∷ []) channel) same
        ∙ sym (if-true (is_same (channel_at first) channel) (packets first) (packets_at channel_at packets ends channel) same) ∙ none
    | inr other ↦ if-false (is_same (channel_at first) channel) (packets first)
        (packets_at channel_at packets (ends ++ end ∷ []) channel) other
        ∙ none-added ends (sym (if-false (is_same (channel_at first) channel) (packets first)
        (packets_at channel_at packets ends channel) other) ∙ none) nothing
  ]

  still-none : (b : Bool) (ends more : List End) → more ≡ (if b then ends ++ end ∷ [] else ends)
      → packets_at channel_at packets ends channel ≡ [] → packets end ≡ [] → packets_at channel_at packets more channel ≡ []
  still-none true ends more grown none nothing =
      ap (λ (xs : List End). packets_at channel_at packets xs channel) grown ∙ none-added ends none nothing
  still-none false ends more grown none nothing = ap (λ (xs : List End). packets_at channel_at packets xs channel) grown ∙ none

-- ALL AGENTS

joined-next : (k : Shape) (opened : List Channel) (channel : Channel) (inlet : Inlet) (outlet : Outlet) (queues : Channel → TableId)
    (old new : List Agent) → Opens k channel inlet outlet old new → All (λ other. other ≢ channel) opened
    → AreJoined k opened queues old
    → AreJoined k (opened ++ channel ∷ []) (with_queue channel inlet.receiver.channel queues) new
joined-next k opened channel inlet outlet queues old new opens differ joined = record {
  inlets = λ n agent. ends-joined inlet_channel inlet_table (λ c. ends_at k c == n) opened channel (inlets_at old n)
      (inlets_at new n) inlet
      (opens.inlets n) (joined.inlets n agent) opens.end;
  outlets = λ n agent. ends-joined outlet_channel outlet_table (λ c. begins_at k c == n) opened channel (outlets_at old n)
      (outlets_at new n) outlet (opens.outlets n) (joined.outlets n agent) opens.beginning;
  inlet_tables = λ n agent. tables-joined inlet_channel inlet_table (λ c. ends_at k c == n) opened channel (inlets_at old n)
      (inlets_at new n) inlet (opens.inlets n) queues inlet.receiver.channel differ (joined.inlet_tables n agent) refl;
  outlet_tables = λ n agent. tables-joined outlet_channel outlet_table (λ c. begins_at k c == n) opened channel (outlets_at old n)
      (outlets_at new n) outlet (opens.outlets n) queues inlet.receiver.channel differ (joined.outlet_tables n agent) (sym opens.table);
}

pub joined-none : (k : Shape) (queues : Channel → TableId) (agents : List Agent) → AreApart agents → AreJoined k [] queues agents
joined-none k queues agents apart = record {
  inlets = λ n agent. ap (map inlet_channel) (apart.inlets n);
  outlets = λ n agent. ap (map outlet_channel) (apart.outlets n);
  inlet_tables = λ n agent. ap (map inlet_table) (apart.inlets n);
  outlet_tables = λ n agent. ap (map outlet_table) (apart.outlets n);
}

unused-next : (k : Shape) (channel : Channel) (inlet : Inlet) (outlet : Outlet) (old new : List Agent)
    → Opens k channel inlet outlet old new → AreUnused old → AreUnused new
unused-next k channel inlet outlet old new opens unused = record {
  taken = λ n other. inlets-packets (inlets_at new n) other
      ∙ still-none inlet_channel taken_at inlet other (ends_at k channel == n) (inlets_at old n) (inlets_at new n) (opens.inlets n)
      (sym (inlets-packets (inlets_at old n) other) ∙ unused.taken n other) opens.taken;
  sent = λ n other. outlets-packets (outlets_at new n) other
      ∙ still-none outlet_channel sent_at outlet other (begins_at k channel == n) (outlets_at old n) (outlets_at new n) (opens.outlets n)
      (sym (outlets-packets (outlets_at old n) other) ∙ unused.sent n other) opens.sent;
}

pub unused-none : (agents : List Agent) → AreApart agents → AreUnused agents
unused-none agents apart = record {
  taken = λ n channel. ap (λ (xs : List Inlet). taken_of xs channel) (apart.inlets n);
  sent = λ n channel. ap (λ (xs : List Outlet). sent_to xs channel) (apart.outlets n);
}

-- THE CHANNELS THAT ARE OPEN

-- those that were opened before one are others
earlier-differ : (channels : List Channel) (i : ℕ) (d : Channel) → AllPairs (λ channel other. channel ≢ other) channels
    → i < length channels → All (λ other. other ≢ get_or channels i d) (take i channels)
earlier-differ channels i d pairs within j e inside =
    let before : j < i = subst (λ (l : ℕ). j < l) (length-take-le i channels (omega arith)) inside in
    subst (λ (other : Channel). other ≢ get_or channels i d) (sym (get_or-take i channels j e before))
    (subst (λ (other : Channel). get_or channels j e ≢ other) (get_or_default channels i e d within) (pairs j i e before within))

some-in : (channels : List Channel) (channel : Channel) → is_in channel channels ≡ true → 0 < length channels
some-in [] channel there = absurd (cc (there))
some-in (first ∷ channels) channel there = omega arith

-- there is at least one channel: the one to the memory
pub some-channel : (k : Shape) (channels : List Channel) → AreBetween k channels → 0 < length channels
some-channel k channels between = some-in channels Memout (between.whole Memout (record { there = tt; apart = λ e. omega (arith, e) }))

pub opened-next : (k : Shape) (channels : List Channel) (i : ℕ) (d : Channel) (old new : List Agent) → AreBetween k channels
    → i < length channels → ((inlet : Inlet) × (outlet : Outlet) × Opens k (get_or channels i d) inlet outlet old new)
    → (TableId → ((queues : Channel → TableId) × AreJoined k (take i channels) queues old))
    → (queues : Channel → TableId) × AreJoined k (take (i + 1) channels) queues new
opened-next k channels i d old new between within opens joined =
    let channel = get_or channels i d in
    let queue = opens.0.receiver.channel in
    let before = joined queue in (
      with_queue channel queue before.0,
      subst (λ (opened : List Channel). AreJoined k opened (with_queue channel queue before.0) new) (sym (take_more channels i d within))
          (joined-next k (take i channels) channel opens.0 opens.1 before.0 old new opens.2
          (earlier-differ channels i d between.different within) before.1),
    )

pub opened-unused : (k : Shape) (channels : List Channel) (i : ℕ) (d : Channel) (old new : List Agent)
    → ((inlet : Inlet) × (outlet : Outlet) × Opens k (get_or channels i d) inlet outlet old new) → AreUnused old → AreUnused new
opened-unused k channels i d old new opens unused =
    unused-next k (get_or channels i d) opens.0 opens.1 old new opens.2 unused
