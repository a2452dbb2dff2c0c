-- Packets of one channel that are taken or sent one after the other.
use Rattle.std.proofs.Common.{◌≡◌, ℕ, ◌≤◌, List, [], ◌∷◌, ◌++◌, Option, Some, None, drop, append-nil, append_assoc, refl, sym, subst, ap, ◌∙◌, arith}
use Rattle.std.specs.List.{All}
use Rattle.std.specs.Option.{option_to_list, option_map}
use Rattle.std.proofs.lemmas.List.{map-append}
use Rattle.std.proofs.lemmas.List.Elements.{All-nil, All-cons, All-append, All-weaker}
use Rattle.bk_base.specs.Places.{Shape}
use Rattle.bk_msg.specs.declared.codec.Packet as wire
use Rattle.bk_msg.specs.declared.row.Row.{Row}
use Rattle.bk_system.specs.Deliveries.{Holds}
use Rattle.bk_system.specs.Events.{first}
use Rattle.bk_system.specs.Routes.{channel_of}
use Rattle.bk_system.specs.State.{State}
use Rattle.bk_system.specs.declared.channel.Channel.{Channel}
use Rattle.bk_threads.specs.Agents.{Packet}
use Rattle.bk_threads.specs.System.{messages_of, message_of, packets_of}
use Rattle.bk_rounds.specs.Moves.{Brings, Sheds, IsBy}
use Rattle.bk_rounds.specs.Reading.{message_in, packet_of, packets_in, with_stamp}
use Rattle.bk_rounds.proofs.Channels.{holds-still, holds-here, holds-twice, head-rest}
use Rattle.bk_rounds.proofs.Spelled.{packets-append}

pub brings-none : (k : Shape) (channel : Channel) (s : State) (taken : List wire.Packet) (clock : ℕ)
    → Brings k channel s s taken taken clock clock
brings-none k channel s taken clock = record {
  more = [];
  taken_later = sym (append-nil taken);
  holds = holds-still s channel (channel_of s channel ++ []) (sym (append-nil (channel_of s channel)));
  stamps = All-nil (IsBy clock);
  forward = omega arith;
}

one-by : (clock stamp : ℕ) (said : Option Row) → stamp ≤ clock
    → All (IsBy clock) (option_to_list (option_map (with_stamp stamp) said) ++ [])
one-by clock stamp None by = All-nil (IsBy clock)
one-by clock stamp (Some m) by = All-cons (IsBy clock) (with_stamp stamp m) [] by (All-nil (IsBy clock))

-- what the packets of a list and one more say
one-more : (k : Shape) (more : List wire.Packet) (packet : wire.Packet)
    → packets_in k (more ++ packet ∷ []) ≡ packets_in k more ++ option_to_list (packet_of k packet)
one-more k more packet =
    packets-append k more (packet ∷ []) ∙ ap (λ ps. packets_in k more ++ ps) (append-nil (option_to_list (packet_of k packet)))

-- One packet more is taken. The call that put it in speaks of the configuration and of the channel as they are by then.
pub brings-more : (k here : Shape) (channel at : Channel) (old mid new : State) (taken later last : List wire.Packet) (packet : wire.Packet)
    (clock next now : ℕ) → here ≡ k → at ≡ channel → Brings k channel old mid taken later clock next
    → last ≡ later ++ packet ∷ []
    → Holds mid new at (channel_of mid at ++ messages_of (option_to_list (packet_of here packet))) → next ≤ now
    → packet.stamp ≤ now
    → Brings k channel old new taken last clock now
brings-more k here channel at old mid new taken later last packet clock next now config same brings one holds on by =
    let more = brings.more in
    let said = packets_in k more in
    let there = subst (λ (p : Shape × Channel). Holds mid new p.1 (channel_of mid p.1 ++ messages_of (option_to_list
    (packet_of p.0 packet))))
    (λ i. (config i, same i)) holds in
    let before : channel_of mid channel ≡ channel_of old channel ++ messages_of said =
    holds-here old mid channel (channel_of old channel ++ messages_of said) brings.holds in
    let list : channel_of mid channel ++ messages_of (option_to_list (packet_of k packet))
    ≡ channel_of old channel ++ messages_of (packets_in k (more ++ packet ∷ [])) =
    ap (λ (ms : List Row). ms ++ messages_of (option_to_list (packet_of k packet))) before
    ∙ append_assoc (channel_of old channel) (messages_of said) (messages_of (option_to_list (packet_of k packet)))
    ∙ ap (λ (ms : List Row). channel_of old channel ++ ms) (sym (map-append message_of said (option_to_list (packet_of k packet)))
    ∙ ap messages_of (sym (one-more k more packet))) in
    record {
      more = more ++ packet ∷ [];
      taken_later = one ∙ ap (λ (ps : List wire.Packet). ps ++ packet ∷ []) brings.taken_later
          ∙ append_assoc taken more (packet ∷ []);
      holds = subst (λ (ms : List Row). Holds old new channel ms) list
          (holds-twice old mid new channel (channel_of old channel ++ messages_of said) _ brings.holds there);
      stamps = subst (λ (ps : List (Packet Row)). All (IsBy now) ps) (sym (packets-append k more (packet ∷ [])))
          (All-append (IsBy now) said (packets_in k (packet ∷ []))
          (All-weaker (IsBy next) (IsBy now) (λ p early. omega (arith, early, on)) said brings.stamps)
          (one-by now packet.stamp (message_in k packet.bytes.items) by));
      forward = let early = brings.forward in omega (arith, early, on);
    }

pub sheds-none : (k : Shape) (channel : Channel) (s : State) (given : List wire.Packet) (clock : ℕ)
    → Sheds k channel s s given given clock
sheds-none k channel s given clock = record {
  rest = channel_of s channel;
  holds = holds-still s channel (channel_of s channel) refl;
  total = refl;
}

-- One more is sent: the head of the channel.
pub sheds-more : (k : Shape) (channel at : Channel) (old mid new : State) (given later last : List wire.Packet)
    (packet : wire.Packet) (m : Row)
    (clock : ℕ) → at ≡ channel → Sheds k channel old mid given later clock → last ≡ later ++ packet ∷ []
    → packet_of k packet ≡ Some (with_stamp clock m) → first (channel_of mid at) ≡ Some m
    → Holds mid new at (drop 1 (channel_of mid at))
    → Sheds k channel old new given last clock
sheds-more k channel at old mid new given later last packet m clock same sheds one says head holds =
    let there = subst (λ (x : Channel). Holds mid new x (drop 1 (channel_of mid x))) same holds in
    let front = subst (λ (x : Channel). first (channel_of mid x) ≡ Some m) same head in
    let left = drop 1 (channel_of mid channel) in
    let list : packets_in k last ≡ packets_in k later ++ with_stamp clock m ∷ [] =
    ap (packets_in k) one ∙ one-more k later packet
    ∙ ap (λ (said : Option (Packet Row)). packets_in k later ++ option_to_list said) says in
    record {
      rest = left;
      holds = holds-twice old mid new channel sheds.rest left sheds.holds there;
      total = ap (λ (ps : List (Packet Row)). ps ++ packets_of clock left) list
          ∙ append_assoc (packets_in k later) (with_stamp clock m ∷ []) (packets_of clock left)
          ∙ ap (λ (ms : List Row). packets_in k later ++ packets_of clock ms)
          (head-rest (channel_of mid channel) m front ∙ holds-here old mid channel sheds.rest sheds.holds)
          ∙ sheds.total;
    }
