-- Walks of single agents: on longer streams, and joined.
use Rattle.std.proofs.Common.{◌≡◌, ℕ, Bool, List, [], ◌∷◌, ◌++◌, Option, Some, sym, refl, ap, ◌∙◌, subst, ◌⊎◌, inl, inr, if◌then◌else◌}
use Rattle.std.specs.Prelude.{slice_get}
use Rattle.std.proofs.lemmas.Bool.{cases_eq, eq-eqb, ne_eqb}
use Rattle.bk_threads.specs.Agents.{Packet, Step, Rules, Channels, heads, IsLocal, after_taking, with_part, steps_of}
use Rattle.bk_threads.specs.Walks.{WalksAlone, part_after}
use Rattle.bk_threads.specs.Laws.{WalksGoOn, WalksJoin, PartsAfter}
use Rattle.bk_threads.proofs.Taking.{taking-same, taking-other, taking-longer, streams-same}

module _ {Message : Type 0} where
  abbrev first : List (Packet Message) → Option (Packet Message)
  first packets = slice_get packets 0

module _ {Channel Message : Type 0} where
  -- the streams that lead to an agent are the same: a walk of it looks at no others
  abbrev SameFor : (Channel → ℕ) → ℕ → Channels Channel Message → Channels Channel Message → Type 0
  SameFor receiver n streams others = (channel : Channel) → receiver channel ≡ n → others channel ≡ streams channel

module _ {X : Type 0} where
  pub with_part-same : (parts : ℕ → X) (n : ℕ) (part : X) → with_part parts n part n ≡ part
  with_part-same parts n part = ap (λ (b : Bool). if b then part else parts n) (eq-eqb n n refl)

  pub with_part-other : (parts : ℕ → X) (n : ℕ) (part : X) (other : ℕ) → (n ≡ other → ⊥)
      → with_part parts n part other ≡ parts other
  with_part-other parts n part other apart = ap (λ (b : Bool). if b then part else parts other) (ne_eqb n other apart)

module _ {Channel Part Event Message : Type 0} where
  pub steps_of-same : (n : ℕ) (step : Step Channel Part Event Message) (steps : List (Step Channel Part Event Message))
      → step.agent ≡ n
      → steps_of n (step ∷ steps) ≡ step ∷ steps_of n steps
  steps_of-same n step steps same = ap (λ (b : Bool). if b then step ∷ steps_of n steps else steps_of n steps) (eq-eqb step.agent n same)

  pub steps_of-other : (n : ℕ) (step : Step Channel Part Event Message) (steps : List (Step Channel Part Event Message))
      → (step.agent ≡ n
      → ⊥) → steps_of n (step ∷ steps) ≡ steps_of n steps
  steps_of-other n step steps apart = ap
      (λ (b : Bool). if b then step ∷ steps_of n steps else steps_of n steps) (ne_eqb step.agent n apart)

  pub walks-same : (is_same : Channel → Channel → Bool) (does : Rules Channel Part Event Message) (receiver : Channel
      → ℕ) (n : ℕ) (part : Part) (streams others : Channels Channel Message) (steps : List (Step Channel Part Event Message))
      → IsLocal does → SameFor receiver n streams others → WalksAlone is_same does receiver n part streams steps
      → WalksAlone is_same does receiver n part others steps
  walks-same is_same does receiver n part streams others [] local same walks = tt
  walks-same is_same does receiver n part streams others (step ∷ steps) local same walks = (
    local n part step.event (heads streams) (heads others) step.effect walks.0
        (λ channel at. ap first (same channel (walks.2 channel at))),
    (λ channel at. let see = walks.1 channel at in (see.0, see.1, same channel (walks.2 channel at) ∙ see.2, see.3)),
    walks.2,
    walks-same is_same does receiver n step.effect.part (after_taking is_same step.effect streams)
        (after_taking is_same step.effect others) steps local
        (λ channel own. taking-same is_same step.effect streams others channel (same channel own)) walks.3,
  )

  pub walks_go_on : WalksGoOn Channel Part Event Message
  walks_go_on is_same does receiver n part streams more [] tells local walks = (tt, λ channel. refl)
  walks_go_on is_same does receiver n part streams more (step ∷ steps) tells local walks =
      let begins : (other : Channel) → step.effect.looked ≡ Some other
      → (packet : Packet Message) × (rest : List (Packet Message)) × (streams other ≡ packet ∷ rest) =
      λ other at. let see = walks.1 other at in (see.0, see.1, see.2) in
      let rest = walks_go_on is_same does receiver n step.effect.part
      (after_taking is_same step.effect streams) more steps tells local walks.3 in
      let same : (channel : Channel)
      → after_taking is_same step.effect
      (λ other. streams other ++ more other) channel ≡ after_taking is_same step.effect streams channel ++ more channel =
      λ channel. taking-longer is_same tells step.effect streams more channel begins in (
        (
          local n part step.event (heads streams) (heads (λ other. streams other ++ more other)) step.effect walks.0
              (λ channel at. let b = begins channel at in ap (λ packets. first (packets ++ more channel)) b.2 ∙ sym (ap first b.2)),
          (λ channel at. let see = walks.1 channel at in (
            see.0,
            see.1 ++ more channel,
            ap
                (λ packets. packets ++ more channel) see.2,
            see.3,
          )),
          walks.2,
          walks-same is_same does receiver n step.effect.part (λ channel. after_taking is_same step.effect streams channel ++ more channel)
              (after_taking is_same step.effect (λ other. streams other ++ more other)) steps local (λ channel own. same channel) rest.0,
        ),
        λ channel.
            streams-same is_same (λ other. after_taking is_same step.effect streams other ++ more other) (after_taking is_same step.effect
            (λ other. streams other ++ more other)) steps channel (same channel) ∙ rest.1 channel,
      )

  pub walks_join : WalksJoin Channel Part Event Message
  walks_join is_same does receiver parts streams [] tells local walks = tt
  walks_join is_same does receiver parts streams (step ∷ steps) tells local walks =
      let mine : WalksAlone is_same does receiver step.agent (parts step.agent) streams (step ∷ steps_of step.agent steps) =
      subst (λ all. WalksAlone is_same does receiver step.agent (parts step.agent) streams all) (steps_of-same step.agent step steps refl)
      (walks step.agent) in (
        mine.0,
        mine.1,
        walks_join is_same does receiver (with_part parts step.agent step.effect.part)
            (after_taking is_same step.effect streams) steps tells local
            (λ n. whether n (cases_eq step.agent n) mine),
      )
    where
      whether : (n : ℕ) → (step.agent ≡ n) ⊎ (step.agent ≡ n → ⊥)
          → WalksAlone is_same does receiver step.agent (parts step.agent) streams (step ∷ steps_of step.agent steps)
          → WalksAlone is_same does receiver n (with_part parts step.agent step.effect.part n) (after_taking is_same step.effect streams)
          (steps_of n steps)
      whether n (inl same) mine =
          subst (λ (m : ℕ). WalksAlone is_same does receiver m (with_part parts step.agent step.effect.part m)
          (after_taking is_same step.effect streams) (steps_of m steps)) same
          (subst (λ (part : Part). WalksAlone is_same does receiver step.agent part (after_taking is_same step.effect streams)
          (steps_of step.agent steps))
          (sym (with_part-same parts step.agent step.effect.part)) mine.3)
      whether n (inr apart) mine =
          subst (λ (part : Part). WalksAlone is_same does receiver n part (after_taking is_same step.effect streams)
          (steps_of n steps)) (sym
          (with_part-other parts step.agent step.effect.part n apart))
          (walks-same is_same does receiver n (parts n) streams (after_taking is_same step.effect streams) (steps_of n steps) local
          (λ channel own. taking-other is_same tells step.effect streams channel (λ at. apart (sym (mine.2 channel at) ∙ own)))
          (subst (λ all. WalksAlone is_same does receiver n (parts n) streams all) (steps_of-other n step steps apart) (walks n)))

  -- each agent's part comes from its own steps
  pub parts_follow : PartsAfter Channel Part Event Message
  parts_follow parts [] n = refl
  parts_follow parts (step ∷ steps) n = parts_follow (with_part parts step.agent step.effect.part) steps n
      ∙ whether (cases_eq step.agent n)
    where
      whether : (step.agent ≡ n) ⊎ (step.agent ≡ n → ⊥)
          → part_after (with_part parts step.agent step.effect.part n) (steps_of n steps) ≡ part_after (parts n) (steps_of n
          (step ∷ steps))
      whether (inl same) =
          ap (λ m. part_after (with_part parts step.agent step.effect.part m) (steps_of n steps)) (sym same)
          ∙ ap (λ part. part_after part (steps_of n steps)) (with_part-same parts step.agent step.effect.part)
          ∙ sym (ap (part_after (parts n)) (steps_of-same n step steps same))
      whether (inr apart) =
          ap (λ part. part_after part (steps_of n steps)) (with_part-other parts step.agent step.effect.part n apart)
          ∙ sym (ap (part_after (parts n)) (steps_of-other n step steps apart))
