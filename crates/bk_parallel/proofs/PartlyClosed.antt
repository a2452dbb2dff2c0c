-- Channels of which the last ones are closed.
use Rattle.std.proofs.Common.{◌≡◌, ◌≢◌, ◌⊎◌, inl, inr, ◌<◌, ◌≤◌, ◌+◌, ◌-◌, ℕ, List, [], ◌∷◌, ◌++◌, Bool, true, false, if◌then◌else◌, cond, map, take, drop, length, get_or, append-nil, append_assoc, eq-eqb, refl, sym, subst, ap, ◌∙◌, arith}
use Rattle.std.specs.Prelude.{filter, ◌==◌}
use Rattle.std.proofs.lemmas.Bool.{false_from_ne_true, cases_lt}
use Rattle.std.proofs.lemmas.List.{get_or_default, get_or-take, length-take-le, take_more, drop_at}
use Rattle.std.proofs.lemmas.Option.{slice_get_past}
use Rattle.atomic_table.specs.Seated.{TableId}
use Rattle.bk_base.specs.Places.{Shape}
use Rattle.bk_msg.specs.declared.codec.Packet as wire
use Rattle.bk_msg.specs.declared.row.Row.{Row}
use Rattle.bk_agents.specs.Parts.{part_of}
use Rattle.bk_agents.proofs.SameChannel.{same-channel}
use Rattle.bk_system.specs.Routes.{channel_of, begins_at, ends_at, is_same}
use Rattle.bk_system.specs.declared.channel.Channel.{Channel}
use Rattle.bk_threads.specs.System.{messages_of}
use Rattle.bk_rounds.specs.declared.agent.Agent.{Agent}
use Rattle.bk_rounds.specs.declared.ends.Inlet.{Inlet}
use Rattle.bk_rounds.specs.declared.ends.Outlet.{Outlet}
use Rattle.bk_rounds.specs.Ends.{taken_of, sent_to, inlet_channel, outlet_channel, is_in}
use Rattle.bk_rounds.specs.Reading.{packets_in}
use Rattle.bk_rounds.proofs.Channels.{same-one, other-one}
use Rattle.bk_rounds.proofs.Choices.{if-true, if-false}
use Rattle.bk_rounds.proofs.EndLists.{AreDifferent, in-list}
use Rattle.bk_rounds.proofs.Spelled.{packets-append}
use Rattle.bk_rounds.proofs.TakesSends.{this-or-other}
use Rattle.bk_parallel.specs.Teams.{IsTeam, AreApart, inlets_in, outlets_in, state_at, inlets_at, outlets_at}
use Rattle.bk_parallel.specs.Joined.{IsBetween, AreJoined, AreClosed}
use Rattle.bk_parallel.specs.ClosesOne.{at_end, at_beginning, ClosesOne}
use Rattle.bk_parallel.proofs.LastEnds.{joined-less}
use Rattle.bk_parallel.proofs.OneChannel.{begins-within, ends-within}

-- CHANNELS IN A LIST

choose : {A : Type 0} (b : Bool) (P : A → Type 0) (x y : A) → (b ≡ true → P x) → (b ≡ false → P y) → P (if b then x else y)
choose true P x y holds fails = holds refl
choose false P x y holds fails = fails refl

pub in-left : (c : Channel) (xs ys : List Channel) → is_in c xs ≡ true → is_in c (xs ++ ys) ≡ true
in-left c [] ys there = absurd (cc (there))
in-left c (x ∷ xs) ys there =
    choose (is_same x c) (λ (b : Bool). b ≡ true) true (is_in c (xs ++ ys)) (λ same. refl)
    (λ differ. in-left c xs ys (sym (if-false (is_same x c) true (is_in c xs) differ) ∙ there))

pub in-last : (c : Channel) (xs : List Channel) → is_in c (xs ++ c ∷ []) ≡ true
in-last c [] = if-true (is_same c c) true false (same-one c)
in-last c (x ∷ xs) =
    choose (is_same x c) (λ (b : Bool). b ≡ true) true (is_in c (xs ++ c ∷ [])) (λ same. refl) (λ differ. in-last c xs)

-- what is not in a list is another than each in it
not-first : (c x : Channel) (xs : List Channel) → is_in c (x ∷ xs) ≡ false → is_same x c ≡ false
not-first c x xs out =
    false_from_ne_true (is_same x c) (λ same. absurd (cc (sym (if-true (is_same x c) true (is_in c xs) same) ∙ out)))

not-later : (c x : Channel) (xs : List Channel) → is_in c (x ∷ xs) ≡ false → is_in c xs ≡ false
not-later c x xs out = sym (if-false (is_same x c) true (is_in c xs) (not-first c x xs out)) ∙ out

pub not-in-more : (c channel : Channel) (xs : List Channel) → is_in c xs ≡ false → channel ≢ c
    → is_in c (xs ++ channel ∷ []) ≡ false
not-in-more c channel [] out differ = if-false (is_same channel c) true false (other-one channel c differ)
not-in-more c channel (x ∷ xs) out differ =
    if-false (is_same x c) true (is_in c (xs ++ channel ∷ [])) (not-first c x xs out)
    ∙ not-in-more c channel xs (not-later c x xs out) differ

not-in-kept : (b : Bool) (c x : Channel) (xs : List Channel) → is_same x c ≡ false → is_in c xs ≡ false
    → is_in c (cond b (x ∷ xs) xs) ≡ false
not-in-kept true c x xs first out = if-false (is_same x c) true (is_in c xs) first ∙ out
not-in-kept false c x xs first out = out

pub not-in-filter : (p : Channel → Bool) (c : Channel) (xs : List Channel) → is_in c xs ≡ false → is_in c (filter p xs) ≡ false
not-in-filter p c [] out = out
not-in-filter p c (x ∷ xs) out =
    not-in-kept (p x) c x (filter p xs) (not-first c x xs out) (not-in-filter p c xs (not-later c x xs out))

-- of different channels, one is not in those before it
pub fresh : (cs : List Channel) (i : ℕ) (d : Channel) → AreDifferent cs → i < length cs
    → is_in (get_or cs i d) (take i cs) ≡ false
fresh cs i d different inside =
    let many : length (take i cs) ≡ i = length-take-le i cs (omega (arith, inside)) in
    false_from_ne_true (is_in (get_or cs i d) (take i cs)) (λ there.
    in-list (λ (c : Channel). c ≢ get_or cs i d) (take i cs) (get_or cs i d) there
    (λ j e below. let before : j < i = omega (arith, below, many) in
    subst (λ (c : Channel). c ≢ get_or cs i d) (sym (get_or-take i cs j e before))
    (λ same. different j i e before inside (same ∙ get_or_default cs i d e inside))) refl)

pub one-more : (cs : List Channel) (place : ℕ) (d : Channel) → 0 < place → place ≤ length cs
    → take place cs ≡ take (place - 1) cs ++ get_or cs (place - 1) d ∷ []
one-more cs place d some few =
    let next : place ≡ (place - 1) + 1 = omega (arith, some) in
    ap (λ (n : ℕ). take n cs) next ∙ take_more cs (place - 1) d (omega (arith, some, few))

-- PACKETS AT THE LAST END

taken-last : (channel : Channel) (ends : List Inlet) (inlet : Inlet) (more : List Inlet)
    → is_in channel (map inlet_channel ends) ≡ false → inlet.channel ≡ channel
    → taken_of ((ends ++ inlet ∷ []) ++ more) channel ≡ inlet.receiver.taken
taken-last channel [] inlet more out is =
    if-true (is_same inlet.channel channel) inlet.receiver.taken (taken_of more channel) ((same-channel inlet.channel channel).1 is)
taken-last channel (end ∷ ends) inlet more out is =
    if-false (is_same end.channel channel) end.receiver.taken (taken_of ((ends ++ inlet ∷ []) ++ more) channel)
    (not-first channel end.channel (map inlet_channel ends) out)
    ∙ taken-last channel ends inlet more (not-later channel end.channel (map inlet_channel ends) out) is

sent-last : (channel : Channel) (ends : List Outlet) (outlet : Outlet) (more : List Outlet)
    → is_in channel (map outlet_channel ends) ≡ false → outlet.channel ≡ channel
    → sent_to ((ends ++ outlet ∷ []) ++ more) channel ≡ outlet.sender.sent
sent-last channel [] outlet more out is =
    if-true (is_same outlet.channel channel) outlet.sender.sent (sent_to more channel) ((same-channel outlet.channel channel).1 is)
sent-last channel (end ∷ ends) outlet more out is =
    if-false (is_same end.channel channel) end.sender.sent (sent_to ((ends ++ outlet ∷ []) ++ more) channel)
    (not-first channel end.channel (map outlet_channel ends) out)
    ∙ sent-last channel ends outlet more (not-later channel end.channel (map outlet_channel ends) out) is

-- SOME ARE CLOSED

-- what a channel's receiver had not taken
abbrev pub left_in : Shape → List Agent → Channel → List wire.Packet
left_in k old channel =
    drop (length (taken_of (inlets_at old (ends_at k channel)) channel)) (sent_to (outlets_at old (begins_at k channel)) channel)

pub record IsClosed (k : Shape) (channel : Channel) (old now : List Agent) : Type 0 where
  pub queue : sent_to (outlets_at old (begins_at k channel)) channel
      ≡ taken_of (inlets_at old (ends_at k channel)) channel ++ left_in k old channel
  pub received : at_end k now channel
      ≡ at_end k old channel ++ (messages_of (packets_in k (left_in k old channel)) ++ at_beginning k old channel)
  pub given : at_beginning k now channel ≡ []

-- of all channels, those that are not open any more
pub record IsPartly (k : Shape) (those : List Channel) (old now : List Agent) : Type 0 where
  pub inlets : (n : ℕ) → (more : List Inlet) × (inlets_at old n ≡ inlets_at now n ++ more)
  pub outlets : (n : ℕ) → (more : List Outlet) × (outlets_at old n ≡ outlets_at now n ++ more)
  pub still : (channel : Channel) → is_in channel those ≡ true
      → (n : ℕ) → channel_of (state_at k now n) channel ≡ channel_of (state_at k old n) channel
  pub others : (channel : Channel) → (IsBetween k channel → ⊥)
      → (n : ℕ) → channel_of (state_at k now n) channel ≡ channel_of (state_at k old n) channel
  pub closed : (channel : Channel) → IsBetween k channel → is_in channel those ≡ false → IsClosed k channel old now
  pub parts : (n : ℕ) → part_of k (state_at k now n) n ≡ part_of k (state_at k old n) n

pub partly-none : (k : Shape) (those : List Channel) (old : List Agent)
    → ((channel : Channel) → IsBetween k channel → is_in channel those ≡ true) → IsPartly k those old old
partly-none k those old whole = record {
  inlets = λ n. ([], sym (append-nil (inlets_at old n)));
  outlets = λ n. ([], sym (append-nil (outlets_at old n)));
  still = λ channel there n. refl;
  others = λ channel apart n. refl;
  closed = λ channel between out. absurd (cc (sym (whole channel between) ∙ out));
  parts = λ n. refl;
}

module _ (k : Shape) (rest : List Channel) (channel : Channel) (queues : Channel → TableId) (old now new : List Agent)
    (between : IsBetween k channel) (out : is_in channel rest ≡ false) (joined : AreJoined k (rest ++ channel ∷ []) queues now)
    (partly : IsPartly k (rest ++ channel ∷ []) old now) (closes : ClosesOne k channel now new) where
  later : AreJoined k rest queues new
  later = joined-less k rest channel queues now joined new closes

  abbrev to : ℕ
  to = ends_at k channel

  abbrev from : ℕ
  from = begins_at k channel

  taken-here : taken_of (inlets_at old to) channel ≡ closes.inlet.receiver.taken
  taken-here =
      let more = partly.inlets to in
      let none : is_in channel (map inlet_channel (inlets_at new to)) ≡ false =
      ap (is_in channel) (later.inlets to (ends-within k channel between.there))
      ∙ not-in-filter (λ (c : Channel). ends_at k c == to) channel rest out in
      ap (λ (es : List Inlet). taken_of es channel) (more.1
      ∙ ap (λ (es : List Inlet). es ++ more.0) (closes.inlets to
      ∙ ap (λ (es : List Inlet). inlets_at new to ++ es) (if-true (to == to) (closes.inlet ∷ []) [] (eq-eqb to to refl))))
      ∙ taken-last channel (inlets_at new to) closes.inlet more.0 none closes.ends

  sent-here : sent_to (outlets_at old from) channel ≡ closes.outlet.sender.sent
  sent-here =
      let more = partly.outlets from in
      let none : is_in channel (map outlet_channel (outlets_at new from)) ≡ false =
      ap (is_in channel) (later.outlets from (begins-within k channel between.there))
      ∙ not-in-filter (λ (c : Channel). begins_at k c == from) channel rest out in
      ap (λ (es : List Outlet). sent_to es channel) (more.1
      ∙ ap (λ (es : List Outlet). es ++ more.0) (closes.outlets from
      ∙ ap (λ (es : List Outlet). outlets_at new from ++ es) (if-true (from == from) (closes.outlet ∷ []) [] (eq-eqb from from refl))))
      ∙ sent-last channel (outlets_at new from) closes.outlet more.0 none closes.begins

  left-here : left_in k old channel ≡ closes.left
  left-here =
      ap (λ (ps : List wire.Packet). drop (length ps) (sent_to (outlets_at old from) channel)) taken-here
      ∙ ap (drop (length closes.inlet.receiver.taken)) (sent-here ∙ closes.queue)
      ∙ drop_at closes.inlet.receiver.taken closes.left (length closes.inlet.receiver.taken) refl

  closed-here : IsClosed k channel old new
  closed-here =
      let same = partly.still channel (in-last channel rest) in
      record {
        queue = sent-here ∙ closes.queue ∙ ap (λ (ps : List wire.Packet). ps ++ closes.left) (sym taken-here)
            ∙ ap (λ (ps : List wire.Packet). taken_of (inlets_at old to) channel ++ ps) (sym left-here);
        received = closes.moved.ending
            ∙ ap (λ (ms : List Row). ms ++ (messages_of (packets_in k closes.left) ++ at_beginning k now channel)) (same to)
            ∙ ap (λ (ms : List Row). at_end k old channel ++ (messages_of (packets_in k closes.left) ++ ms)) (same from)
            ∙ ap (λ (ps : List wire.Packet). at_end k old channel ++ (messages_of (packets_in k ps) ++ at_beginning k old channel))
            (sym left-here);
        given = closes.moved.beginning;
      }

  closed-there : (c : Channel) → IsBetween k c → is_in c rest ≡ false → channel ≢ c → IsClosed k c old new
  closed-there c leads apart differ =
      let before = partly.closed c leads (not-in-more c channel rest apart differ) in
      record {
        queue = before.queue;
        received = closes.moved.channels (ends_at k c) c differ ∙ before.received;
        given = closes.moved.channels (begins_at k c) c differ ∙ before.given;
      }

  closed-any : (c : Channel) → IsBetween k c → is_in c rest ≡ false → (channel ≡ c) ⊎ (channel ≢ c) → IsClosed k c old new
  closed-any c leads apart (inl same) = subst (λ (x : Channel). IsClosed k x old new) same closed-here
  closed-any c leads apart (inr differ) = closed-there c leads apart differ

  pub partly-more : IsPartly k rest old new
  partly-more = record {
    inlets = λ n. let last = (if ends_at k channel == n then closes.inlet ∷ [] else []) in (
      last ++ (partly.inlets n).0,
      (partly.inlets n).1 ∙ ap (λ (es : List Inlet). es ++ (partly.inlets n).0) (closes.inlets n)
          ∙ append_assoc (inlets_at new n) last (partly.inlets n).0,
    );
    outlets = λ n. let last = (if begins_at k channel == n then closes.outlet ∷ [] else []) in (
      last ++ (partly.outlets n).0,
      (partly.outlets n).1 ∙ ap (λ (es : List Outlet). es ++ (partly.outlets n).0) (closes.outlets n)
          ∙ append_assoc (outlets_at new n) last (partly.outlets n).0,
    );
    still = λ c there n.
        closes.moved.channels n c (λ same. absurd (cc (sym (subst (λ (x : Channel). is_in x rest ≡ false) same out) ∙ there)))
        ∙ partly.still c (in-left c rest (channel ∷ []) there) n;
    others = λ c apart n.
        closes.moved.channels n c (λ same. apart (subst (IsBetween k) same between)) ∙ partly.others c apart n;
    closed = λ c leads apart. closed-any c leads apart (this-or-other channel c);
    parts = λ n. closes.moved.parts n ∙ partly.parts n;
  }

-- ALL ARE CLOSED

pub all-closed : (k : Shape) (old new : List Agent) → IsPartly k [] old new
    → AreClosed k old new (λ channel. packets_in k (left_in k old channel))
all-closed k old new partly = record {
  queues = λ channel between.
      ap (packets_in k) (partly.closed channel between refl).queue
      ∙ packets-append k (taken_of (inlets_at old (ends_at k channel)) channel) (left_in k old channel);
  received = λ channel between. (partly.closed channel between refl).received;
  given = λ channel between. (partly.closed channel between refl).given;
  others = partly.others;
  parts = partly.parts;
}

none-told : {X Y : Type 0} (tell : X → Y) (xs : List X) → map tell xs ≡ [] → xs ≡ []
none-told tell [] none = refl
none-told tell (x ∷ xs) none = absurd (cc (none))

pub all-apart : (k : Shape) (queues : Channel → TableId) (agents : List Agent) → IsTeam k agents → AreJoined k [] queues agents
    → AreApart agents
all-apart k queues agents team joined = record {
  inlets = λ n. elim (cases_lt n (k.caches + 2)) as (λ cases. inlets_at agents n ≡ []) [
    | inl agent ↦ none-told inlet_channel (inlets_at agents n) (joined.inlets n agent)
    | inr past ↦ let far : length agents ≤ n = omega (arith, past, team.count) in ap inlets_in (slice_get_past agents n far)
  ];
  outlets = λ n. elim (cases_lt n (k.caches + 2)) as (λ cases. outlets_at agents n ≡ []) [
    | inl agent ↦ none-told outlet_channel (outlets_at agents n) (joined.outlets n agent)
    | inr past ↦ let far : length agents ≤ n = omega (arith, past, team.count) in ap outlets_in (slice_get_past agents n far)
  ];
}
