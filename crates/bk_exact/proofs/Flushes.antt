-- `stwb` of the own copy, of the owner and of the victim is permitted.
use Rattle.std.proofs.Common.{◌≡◌, ◌≢◌, ℕ, zero, suc, ◌<◌, ◌==◌, inl, inr, true, false, refl, sym, ap, ◌∙◌, subst, arith, Some}
use Rattle.std.specs.Prelude.{option_map}
use Rattle.std.proofs.lemmas.Bool.{and_parts}
use Rattle.bk_base.specs.Places.{Shape, group_of}
use Rattle.bk_base.specs.declared.coh.Coh.{Coh}
use Rattle.bk_base.specs.declared.coh.Coh.TheVariants as states
use Rattle.bk_isa.specs.declared.form.Form.TheVariants as forms
use Rattle.bk_know.specs.declared.sets.Sets.{Sets}
use Rattle.bk_know.specs.Sets.{only}
use Rattle.bk_flow.specs.Flow.{lacks}
use Rattle.bk_know.specs.declared.values.TheConstants.{OWNER_NONE, VICTIM_HEAVY}
use Rattle.bk_check.specs.Obligations.{may_flush_own, may_flush_victim, may_flush}
use Rattle.bk_order.proofs.Meets.{Met}
use Rattle.bk_engine.specs.declared.parts.Core.{Core}
use Rattle.bk_engine.specs.Reads.{own_number}
use Rattle.bk_engine.specs.Sends.{HasStates}
use Rattle.bk_system.specs.State.{State}
use Rattle.bk_machine.specs.Actions.{Action, Permitted, action_after, FlushState, FlushesVictim, FlushesOwn, FlushesOwner}
use Rattle.bk_machine.specs.Transactions.{Idle, FlushAsked}
use Rattle.bk_machine.specs.World.{World}
use Rattle.bk_bridge.specs.Acting.{flush_action}
use Rattle.bk_exact.specs.Told.{Told}
use Rattle.bk_exact.specs.Ties.{Tied, told_world}
use Rattle.bk_exact.proofs.Blocks.{idle-none, none-asked}
use Rattle.bk_exact.proofs.Moves.{Moves, serves-as}
use Rattle.bk_exact.proofs.Parts.{clash}
use Rattle.bk_exact.proofs.Permits.{acts-still, ungranted}
use Rattle.bk_exact.proofs.Readings.{sum, own-way, own-read, own-there, owner-there, owner-at, owner-place, heavy-victim}
use Rattle.bk_exact.proofs.Serving.{Staged, mask}
use Rattle.bk_exact.proofs.Values as values

-- the states that a flush leaves
flush-states : (who : ℕ) (y : Coh) → HasStates (forms.Stwb who y) → FlushState y
flush-states who states.I e = inl refl
flush-states who states.S e = inr refl
flush-states who states.E e = absurd (cc)
flush-states who states.F e = absurd (cc)
flush-states who states.M e = absurd (cc)
flush-states who states.O e = absurd (cc)

-- What is there to be flushed, by whose copy it is: an own copy, not S where it is to become S; an owner; or a heavy victim, to I alone.
abbrev pub IsFlushed : ℕ → Coh → Coh → Sets → Type 0
IsFlushed zero y own sets = (own ≢ states.I) × (y ≡ states.S → own ≢ states.S)
IsFlushed (suc zero) y own sets = lacks sets.owner OWNER_NONE ≡ true
IsFlushed (suc (suc zero)) y own sets = (y ≡ states.I) × ((sets.victim == VICTIM_HEAVY) ≡ true)
IsFlushed (suc (suc (suc n))) y own sets = ⊥

-- it is so where O12 is met, of an instruction in range
pub flushed : (who : ℕ) (y own : Coh) (sets : Sets) → HasStates (forms.Stwb who y) → who < 3 → sets.own ≡ only (own_number own)
    → may_flush who y sets ≡ true
    → FlushState y × IsFlushed who y own sets
flushed who y own sets g l i q = (flush-states who y g, by who l g q)
  where
    by : (who : ℕ) → who < 3 → HasStates (forms.Stwb who y) → may_flush who y sets ≡ true → IsFlushed who y own sets
    by zero l g q = own-copy y g (subst (λ (a : ℕ). may_flush_own y (record sets { own = a }) ≡ true) i q)
      where
        own-copy : (y : Coh) → HasStates (forms.Stwb 0 y) → may_flush_own y (record sets { own = only (own_number own) }) ≡ true
            → (own ≢ states.I) × (y ≡ states.S → own ≢ states.S)
        own-copy states.I g q = (values.own-valid own q, λ j. absurd (cc))
        own-copy states.S g q = let p = values.own-past_S own q in (p.0, λ j. p.1)
        own-copy states.E g q = absurd (cc)
        own-copy states.F g q = absurd (cc)
        own-copy states.M g q = absurd (cc)
        own-copy states.O g q = absurd (cc)
    by (suc zero) l g q = q
    by (suc (suc zero)) l g q = victim y q
      where
        victim : (y : Coh) → may_flush_victim y sets ≡ true → (y ≡ states.I) × ((sets.victim == VICTIM_HEAVY) ≡ true)
        victim states.I q = (refl, q)
        victim states.S q = absurd (cc)
        victim states.E q = absurd (cc)
        victim states.F q = absurd (cc)
        victim states.M q = absurd (cc)
        victim states.O q = absurd (cc)
    by (suc (suc (suc n))) l g q = absurd (omega (arith, l))

module _ (k : Shape) (later : State) (told : Told) (tied : Tied k later told) (v : Staged k later told false) where
  abbrev e : Core
  e = later.engine.core

  open v use {serving as served, serving.{held as h, transaction as x, serves as sv}}

  abbrev s : ℕ
  s = group_of k h.addr

  abbrev w : World
  w = told_world k later told

  -- a flush is asked after it
  flushes : (who : ℕ) (y : Coh) (a : Action) → flush_action k h who y x w ≡ Some a → Permitted k s a w → x.write_back ≡ Idle
      → (action_after s a w).transaction ≡ Some (s, record x { write_back = FlushAsked }) → Moves k later told (forms.Stwb who y)
  flushes who y a i p b g =
      acts-still k later told tied served (forms.Stwb who y) a (record x { write_back = FlushAsked }) refl i p g (λ c r. refl) refl
      (serves-as k e e h s x (record x { write_back = FlushAsked }) sv refl refl sv.acks
      (none-asked k s e.dirty (idle-none k s e.dirty x.write_back b sv.kept)) sv.got sv.written (λ q. clash q v.is_granted))

  -- O12 has the flush idle, and something there to flush: a valid own entry, not in S where S is asked; an owner; or a heavy victim, to
  -- I. The machine's table asks for the same of the same directory, and in Held the transaction is ungranted.
  pub permits-stwb : (who : ℕ) (y : Coh) → HasStates (forms.Stwb who y) → who < 3
      → Met (forms.Stwb who y) (mask k later told served)
      → Moves k later told (forms.Stwb who y)
  permits-stwb who y g l o =
      let q = and_parts _ _ o.o12 in
      let f = flushed who y (sum k later told served).own (mask k later told served) g l refl q.1
      in by who f.0 f.1 (values.wb-idle x.write_back q.0)
    where
      by : (who : ℕ) → FlushState y → IsFlushed who y (sum k later told served).own (mask k later told served)
          → x.write_back ≡ Idle
          → Moves k later told (forms.Stwb who y)
      by zero c f b =
          let at = own-there k later told served f.0 in
          flushes 0 y (FlushesOwn at.0 y x) (ap (option_map (λ u. FlushesOwn u y x)) at.1) (
            ungranted k later told v,
            b,
            own-way k later told served ∙ at.1,
            c,
            λ i j. f.1 i (sym (own-read k later told served) ∙ j),
          ) b refl
      by (suc zero) c f b =
          let at = owner-there k later told served f in
          flushes 1 y (FlushesOwner at.cache at.way y x)
          (ap (option_map (λ (u : ℕ × ℕ). FlushesOwner u.0 u.1 y x))
          (owner-place k later told served at.cache at.way at.is_owner at.is_way))
          (ungranted k later told v, b, owner-at k later told served at, c) b refl
      by (suc (suc zero)) c f b =
          subst (λ (u : Coh). Moves k later told (forms.Stwb 2 u)) (sym f.0)
          (flushes 2 states.I (FlushesVictim x) refl (ungranted k later told v, b, heavy-victim k later told served f.1) b refl)
      by (suc (suc (suc a))) c f b = absurd f
