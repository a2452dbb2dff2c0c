-- A run of the system's agents is a tight list of events.
use Rattle.std.proofs.Common.{◌≡◌, ℕ, Bool, true, false, cond, eqb, List, [], ◌∷◌, ◌++◌, Option, Some, None, drop, map, option_map, sym, refl, ap, ◌∙◌, subst, ◌⊎◌, inl, inr, if◌then◌else◌, eq-eqb, ne_eqb}
use Rattle.std.specs.Prelude.{slice_get, ◌&&◌}
use Rattle.std.proofs.lemmas.Option.{same_Some, slice_get-map}
use Rattle.std.proofs.lemmas.Bool.{cases_eq, eqb-true}
use Rattle.std.proofs.lemmas.List.{drop-map, map-append}
use Rattle.bk_base.specs.Places.{Shape}
use Rattle.bk_base.specs.Tables.{put}
use Rattle.bk_isa.specs.declared.form.Form.{Form}
use Rattle.bk_msg.specs.declared.row.Row.{Row}
use Rattle.bk_agents.specs.Parts.{Part, part_of, agent_of}
use Rattle.bk_system.specs.declared.channel.Channel.{Channel}
use Rattle.bk_system.specs.Routes.{channel_of, is_same}
use Rattle.bk_agents.specs.Local.{Local, local_row, is_touched, sent_on, channel_after}
use Rattle.bk_agents.specs.Walks.{Walks}
use Rattle.bk_agents.proofs.Heads.{one-head-counts}
use Rattle.bk_agents.proofs.SameChannel.{same-channel}
use Rattle.bk_agents.proofs.Tight.{walks-tight}
use Rattle.bk_threads.specs.declared.merging.Stamped.{Stamped}
use Rattle.bk_threads.specs.Agents.{Packet, Effect, Channels, heads, is_at, after_effect, with_part}
use Rattle.bk_threads.specs.Walks.{Runs}
use Rattle.bk_threads.specs.System.{SystemStep, message_of, messages_of, packets_of, effect_of, system_rules, step_event}
use Rattle.bk_threads.specs.Laws.{SystemIsLocal, SystemRuns}
use Rattle.bk_threads.proofs.Walking.{with_part-same, with_part-other}

-- what the rules say of an event, they say by its local row
pub record HasRow (k : Shape) (n : ℕ) (entry : Stamped) (o : Option Local) (effect : Effect Channel Part Row) : Type 0 where
  pub own : agent_of k entry.event ≡ n
  pub local : Local
  pub found : o ≡ Some local
  pub same : effect_of n entry.stamp local ≡ effect

pub has_row : (k : Shape) (n : ℕ) (entry : Stamped) (o : Option Local) (effect : Effect Channel Part Row)
    → (if eqb (agent_of k entry.event) n then option_map (effect_of n entry.stamp) o else None) ≡ Some effect
    → HasRow k n entry o effect
has_row k n entry o effect = whether (eqb (agent_of k entry.event) n) o refl
  where
    whether : (b : Bool) (p : Option Local) → eqb (agent_of k entry.event) n ≡ b
        → (if b then option_map (effect_of n entry.stamp) p else None) ≡ Some effect → HasRow k n entry p effect
    whether false p b e = absurd (cc (e))
    whether true None b e = absurd (cc (e))
    whether true (Some local) b e = record {
      own = eqb-true (agent_of k entry.event) n b;
      local = local;
      found = refl;
      same = same_Some (effect_of n entry.stamp local) effect e;
    }

pub system_local : SystemIsLocal
system_local k program = (
  same-channel,
  λ n part entry seen other effect e same.
      let row = has_row k n entry (local_row k program part (λ channel. option_map message_of (seen channel)) entry.event) effect e in
      let there : local_row k program part (λ channel. option_map message_of (other channel)) entry.event ≡ Some row.local =
      one-head-counts k program part (λ channel. option_map message_of (seen channel)) (λ channel. option_map message_of (other channel))
      entry.event row.local row.found
      (λ channel at. ap (option_map message_of) (same channel (ap (λ (f : Effect Channel Part Row). f.looked) (sym row.same) ∙ at))) in
      ap (λ (b : Bool). if b then option_map (effect_of n entry.stamp)
      (local_row k program part (λ channel. option_map message_of (other channel)) entry.event) else None)
      (eq-eqb (agent_of k entry.event) n row.own)
      ∙ ap (option_map (effect_of n entry.stamp)) there ∙ ap Some row.same,
)

-- PARTS AND CHANNELS AFTER A STEP

pub parts_same : (parts others : ℕ → Part) (a n : ℕ) (part new : Part) → a ≡ n → part ≡ new
    → ((i : ℕ) → others i ≡ parts i) → (i : ℕ) → put others a part i ≡ with_part parts n new i
unfolding put
parts_same parts others a n part new own e same i = whether (cases_eq n i)
  where
    whether : (n ≡ i) ⊎ (n ≡ i → ⊥) → put others a part i ≡ with_part parts n new i
    whether (inl at) =
        ap (λ (b : Bool). cond b part (others i)) (eq-eqb i a (sym (own ∙ at))) ∙ e
        ∙ sym (subst (λ (i : ℕ). with_part parts n new i ≡ new) at (with_part-same parts n new))
    whether (inr apart) =
        ap (λ (b : Bool). cond b part (others i)) (ne_eqb i a (λ at. apart (sym (at ∙ own)))) ∙ same i
        ∙ sym (with_part-other parts n new i apart)

touched_at : (o : Option Channel) (channel : Channel) → is_touched o channel ≡ is_at is_same o channel
touched_at None channel = refl
touched_at (Some touched) channel = refl

left_same : (a b : Bool) (ms : List Row) (packets : List (Packet Row)) → ms ≡ messages_of packets
    → (if a && b then drop 1 ms else ms) ≡ messages_of (if a then (if b then drop 1 packets else packets) else packets)
left_same false b ms packets e = e
left_same true false ms packets e = e
left_same true true ms packets e = ap (drop 1) e ∙ drop-map message_of 1 packets

sent_same : (stamp : ℕ) (ms : List Row) → ms ≡ messages_of (packets_of stamp ms)
sent_same stamp [] = refl
sent_same stamp (m ∷ ms) = ap (λ rest. m ∷ rest) (sent_same stamp ms)

grown_same : (contents : Channel → List Row) (channels : Channels Channel Row) (n stamp : ℕ) (local : Local) (channel : Channel)
    → contents channel ≡ messages_of (channels channel)
    → channel_after contents n local channel ≡ messages_of (after_effect is_same (effect_of n stamp local) channels channel)
grown_same contents channels n stamp local channel e =
    ap (λ (b : Bool). (if local.pops && b then drop 1 (contents channel) else contents channel) ++ sent_on n channel local.sent)
    (touched_at local.touched channel)
    ∙ ap (λ left. left ++ sent_on n channel local.sent)
    (left_same local.pops (is_at is_same local.touched channel) (contents channel) (channels channel) e)
    ∙ ap (λ more. messages_of (left) ++ more) (sent_same stamp (sent_on n channel local.sent))
    ∙ sym (map-append message_of left (packets_of stamp (sent_on n channel local.sent)))
  where
    left : List (Packet Row)
    left = if local.pops then (if is_at is_same local.touched channel then drop 1 (channels channel) else channels channel)
        else channels channel

pub channels_same : (contents : Channel → List Row) (channels : Channels Channel Row) (a n stamp : ℕ) (local : Local)
    (effect : Effect Channel Part Row) → a ≡ n → effect_of n stamp local ≡ effect
    → ((channel : Channel) → contents channel ≡ messages_of (channels channel))
    → (channel : Channel) → channel_after contents a local channel ≡ messages_of (after_effect is_same effect channels channel)
channels_same contents channels a n stamp local effect own e same channel =
    ap (λ (i : ℕ). channel_after contents i local channel) own
    ∙ grown_same contents channels n stamp local channel (same channel)
    ∙ ap (λ (f : Effect Channel Part Row). messages_of (after_effect is_same f channels channel)) e

-- a run of the agents is a walk of the events
walks : (k : Shape) (program : List Form) (parts others : ℕ → Part) (contents : Channel → List Row) (channels : Channels Channel Row)
    (steps : List SystemStep) → ((i : ℕ) → others i ≡ parts i)
    → ((channel : Channel) → contents channel ≡ messages_of (channels channel))
    → Runs is_same (system_rules k program) parts channels steps → Walks k program others contents (map step_event steps)
walks k program parts others contents channels [] same alike runs = tt
walks k program parts others contents channels (step ∷ steps) same alike runs =
    let event = step.event.event in
    let row = has_row k step.agent step.event
    (local_row k program (parts step.agent) (λ channel. option_map message_of (heads channels channel)) event) step.effect runs.0 in
    let there : local_row k program (parts step.agent) (λ channel. slice_get (contents channel) 0) event ≡ Some row.local =
    one-head-counts k program (parts step.agent) (λ channel. option_map message_of (heads channels channel))
    (λ channel. slice_get (contents channel) 0) event row.local row.found
    (λ channel at. ap (λ (ms : List Row). slice_get ms 0) (alike channel) ∙ slice_get-map message_of (channels channel) 0) in (
      row.local,
      ap (λ (part : Part). local_row k program part (λ channel. slice_get (contents channel) 0) event)
          (same (agent_of k event) ∙ ap parts row.own) ∙ there,
      walks k program (with_part parts step.agent step.effect.part) (put others (agent_of k event) row.local.part)
          (channel_after contents (agent_of k event) row.local) (after_effect is_same step.effect channels) steps
          (parts_same parts others (agent_of k event) step.agent row.local.part step.effect.part row.own
          (ap (λ (f : Effect Channel Part Row). f.part) row.same) same)
          (channels_same contents channels (agent_of k event) step.agent step.event.stamp row.local step.effect row.own row.same alike)
          runs.1,
    )

pub system_runs : SystemRuns
system_runs k program s channels steps alike runs =
    (walks-tight k program s (map step_event steps)).0
    (walks k program (part_of k s) (part_of k s) (channel_of s) channels steps (λ m. refl) (λ channel. sym (alike channel)) runs)
