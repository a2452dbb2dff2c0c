-- `inv`: no other cache has a shared copy any more, with `o` there is no owner, and acks are to come from whom it was sent to.
use Rattle.std.proofs.Common.{◌≡◌, ℕ, ◌+◌, ◌%◌, ◌^◌, ◌<◌, ◌==◌, ◌&&◌, ◌||◌, Bool, true, false, cond, eqb, not, refl, sym, ap, ◌∙◌, subst, arith, List, [], ◌∷◌, ◌++◌, length, length-append, Option, Some, None}
use Rattle.std.specs.Prelude.{nat_lt, bit_or, if◌then◌else◌}
use Rattle.bk_base.specs.Counting.{is_nil}
use Rattle.bk_base.specs.Places.{Shape, InProfile, group_of, tag_at}
use Rattle.bk_base.specs.States.{is_owner_like}
use Rattle.bk_base.specs.declared.coh.Coh.{Coh}
use Rattle.bk_base.specs.declared.coh.Coh.TheVariants as states
use Rattle.bk_isa.specs.declared.form.Form.TheVariants as forms
use Rattle.bk_know.specs.declared.sets.Sets.{Sets}
use Rattle.bk_know.specs.Sets.{only}
use Rattle.bk_flow.specs.Flow.{lacks, acks_after}
use Rattle.bk_know.specs.declared.values.TheConstants.{ACKS_SOME, OTHERS_NO, OTHERS_YES, OWNER_NONE}
use Rattle.bk_order.proofs.Leading.{leads-path}
use Rattle.bk_order.proofs.Meets.{Met}
use Rattle.bk_order.proofs.Tests.{implied}
use Rattle.bk_msg.specs.declared.row.Row.{Row}
use Rattle.bk_dir.specs.Contents.{Contents}
use Rattle.bk_engine.specs.declared.parts.Choice.{Choice}
use Rattle.bk_engine.specs.declared.parts.Core.{Core}
use Rattle.bk_engine.specs.Changes.{core_after, with_invalid_block}
use Rattle.bk_engine.specs.Heads.{is_placed}
use Rattle.bk_engine.specs.Reads.{number_of, owner_number}
use Rattle.bk_engine.specs.Sends.{sends}
use Rattle.bk_system.specs.State.{State}
use Rattle.bk_machine.specs.Actions.{Invalidates, NoneOrForward, invalidation_targets}
use Rattle.bk_machine.specs.Directory as machine
use Rattle.bk_machine.specs.Entries.{Entry, times, wiped_in_caches}
use Rattle.bk_machine.specs.Transactions.{Transaction}
use Rattle.bk_machine.proofs.DirectoryReads.{Readable}
use Rattle.bk_machine.proofs.Opened.{readable}
use Rattle.bk_machine.proofs.Summary.{owner-some}
use Rattle.bk_machine.proofs.View.{put-here}
use Rattle.bk_bridge.specs.Readings.{seen}
use Rattle.bk_bridge.proofs.Effects.{wipes-seen}
use Rattle.bk_exact.specs.Told.{Told}
use Rattle.bk_exact.specs.Ties.{Tied, told_world}
use Rattle.bk_exact.proofs.Invalidations.{counted}
use Rattle.bk_exact.proofs.Parts.{is-above}
use Rattle.bk_exact.proofs.Readings.{sum, reads, forward}
use Rattle.bk_exact.proofs.Serving.{Staged, mask}
use Rattle.bk_flows.proofs.Listed.{others-seen, rewritten, owner_in}
use Rattle.bk_flows.proofs.Sent.{served-to, goal}
use Rattle.bk_flows.proofs.Wiped.{own-wiped, victim-wiped, others-wiped, owner-wiped, owner-spared}

-- THE ACKS

some-acks : (n : ℕ) → 0 < n → only (number_of (nat_lt 0 n)) ≡ ACKS_SOME
some-acks n l = ap (λ (b : Bool). only (number_of b)) (is-above n n refl l)

-- `acks_after` by what it reads
abbrev after_acks : Bool → ℕ → ℕ → ℕ → ℕ
after_acks b others owner acks =
    if (others == OTHERS_YES) || (b && lacks owner OWNER_NONE) then ACKS_SOME
    else if (others == OTHERS_NO) && (not b || (owner == OWNER_NONE)) then acks else bit_or acks ACKS_SOME

sent-some : (b : Bool) (q : Option ℕ) (c : ℕ) (os : List ℕ) → 0 < length (invalidation_targets b q (c ∷ os))
sent-some false q c os = omega arith
sent-some true None c os = omega arith
sent-some true (Some a) c os = by (eqb (times a (c ∷ os)) 0)
  where
    by : (b : Bool) → 0 < length (cond b (a ∷ c ∷ os) (c ∷ os))
    by true = omega arith
    by false = omega arith

-- by whom it is sent to: n acks were to come before
acks-are : (b : Bool) (os : List ℕ) (q : Option ℕ) (owner n : ℕ) → (q ≡ None → owner ≡ OWNER_NONE)
    → ((c : ℕ) → q ≡ Some c → lacks owner OWNER_NONE ≡ true)
    → only (number_of (nat_lt 0 (n + length (invalidation_targets b q os))))
    ≡ after_acks b (only (number_of (not (is_nil os)))) owner (only (number_of (nat_lt 0 n)))
acks-are b (c ∷ os) q owner n f g =
    some-acks (n + length (invalidation_targets b q (c ∷ os)))
    (more n (length (invalidation_targets b q (c ∷ os))) (sent-some b q c os))
  where
    more : (a b : ℕ) → 0 < b → 0 < a + b
    more a b l = omega (arith, l)
acks-are true [] (Some c) owner n f g =
    some-acks (n + 1) (omega arith)
    ∙ sym (ap (λ (b : Bool). if b then ACKS_SOME else if owner == OWNER_NONE then only (number_of (nat_lt 0 n)) else bit_or
    (only (number_of (nat_lt 0 n))) ACKS_SOME) (g c refl))
acks-are true [] None owner n f g = same n owner (f refl)
  where
    same : (n owner : ℕ) → owner ≡ OWNER_NONE → only (number_of (nat_lt 0 (n + 0)))
        ≡ after_acks true OTHERS_NO owner (only (number_of (nat_lt 0 n)))
    same n owner e = (λ z. only (number_of (nat_lt 0 (none z))))
        ∙ sym (ap (λ (a : ℕ). after_acks true OTHERS_NO a (only (number_of (nat_lt 0 n)))) e)
      where
        none : n + 0 ≡ n
        none = omega arith
acks-are false [] q owner n f g = ap (λ (a : ℕ). only (number_of (nat_lt 0 a))) none
  where
    none : n + 0 ≡ n
    none = omega arith

-- THE ROW

module _ (k : Shape) (later : State) (told : Told) (tied : Tied k later told) (open-yet : Staged k later told false) (choice : Choice)
    (message : Option Row)
    (profile : InProfile k) (a : ℕ) (o : Met (forms.Inv a) (mask k later told open-yet.serving)) where
  open open-yet use {serving as v, serving.{held as h, transaction as x}}

  abbrev s : ℕ
  s = group_of k h.addr

  abbrev t : ℕ
  t = tag_at k h.addr

  abbrev r : ℕ
  r = h.source

  abbrev list : Contents
  list = later.engine.directory

  abbrev d : ℕ → ℕ → Entry
  d = seen list s

  abbrev m : Sets
  m = mask k later told v

  abbrev owner : Option ℕ
  owner = machine.owner k.caches k.ways d r t

  abbrev to : List ℕ
  to = invalidation_targets (a == 1) owner (machine.others k.caches k.ways d r t)

  abbrev after : Contents
  after = with_invalid_block k list h (a == 1) (sum k later told v)

  abbrev core : Core
  core = core_after k later.engine (forms.Inv a) choice message

  abbrev next : Transaction
  next = record x { waiting = x.waiting ++ to }

  -- the directory after it, as the machine has it
  after-seen : seen after s ≡ wiped_in_caches to t d
  after-seen =
      ap (λ (g : ℕ → ℕ → ℕ → Entry). g s)
      (wipes-seen k list h (a == 1) (sum k later told v) to tied.range.directory (λ c l. (reads k later told v).invalidated (a == 1) c l))
      ∙ put-here (seen list) s (wiped_in_caches to t d)

  good : Readable k d
  good = readable k (told_world k later told) tied.invariant s x v.is_told open-yet.is_granted

  -- with the owner, there is none or one in F
  forwards : (a == 1) ≡ true → NoneOrForward (machine.owner_state k.caches k.ways d r t)
  forwards i = subst NoneOrForward (reads k later told v).owner_state (forward k later told v (implied (a == 1) _ i o.o13))

  -- the owner is gone where it is asked too, and stays otherwise
  owner-is : owner_in k later told v (wiped_in_caches to t d) ≡ (if a == 1 then states.I else (sum k later told v).owner_state)
  owner-is = go (a == 1) refl
    where
      go : (b : Bool) → (a == 1) ≡ b → owner_in k later told v (wiped_in_caches to t d)
          ≡ (if b then states.I else (sum k later told v).owner_state)
      go true i = owner-wiped k d good r t (a == 1) forwards i
      go false i = owner-spared k d good r t (a == 1) forwards i ∙ sym (reads k later told v).owner_state

  owner-mask : (b : Bool) (y : Coh) → only (owner_number (if b then states.I else y))
      ≡ (if b then OWNER_NONE else only (owner_number y))
  owner-mask true y = refl
  owner-mask false y = refl

  -- where nobody is asked the mask says so
  no-owner : owner ≡ None → m.owner ≡ OWNER_NONE
  no-owner i = ap (λ (y : Coh). only (owner_number y)) ((reads k later told v).owner_state ∙ ap (machine.state_of_owner k.ways d t) i)

  an-owner : (c : ℕ) → owner ≡ Some c → lacks m.owner OWNER_NONE ≡ true
  an-owner c i =
      let f = owner-some k.caches k.ways d r t c i in
      lem (sum k later told v).owner_state
      (subst (λ (y : Coh). is_owner_like y ≡ true)
      (sym ((reads k later told v).owner_state ∙ ap (machine.state_of_owner k.ways d t) i ∙ ap (machine.state_at (d c)) f.1.1)) f.1.3)
    where
      lem : (y : Coh) → is_owner_like y ≡ true → lacks (only (owner_number y)) OWNER_NONE ≡ true
      lem y e = grind arith

  -- the acks of the flow are those of the engine
  acks-is : only (number_of (nat_lt 0 ((later.engine.core.acks + length (sends k later.engine (forms.Inv a))) % 2 ^ 64))) ≡ acks_after a m
  acks-is =
      ap (λ (q : ℕ). only (number_of (nat_lt 0 q)))
      (counted k later told tied open-yet profile a o ∙ length-append x.waiting to
      ∙ ap (λ (q : ℕ). q + length to) (sym v.serves.acks))
      ∙ acks-are (a == 1) (machine.others k.caches k.ways d r t) owner m.owner later.engine.core.acks no-owner an-owner
      ∙ ap (λ (q : ℕ). after_acks (a == 1) q m.owner m.acks) (sym (others-seen k later told v list d refl))

  pub leads-inv : goal k later told tied v choice message (forms.Inv a)
  leads-inv =
      served-to k later told tied v choice message (forms.Inv a) (Invalidates (a == 1) to x) after next refl refl refl refl refl refl refl
      (leads-path _ _
      (rewritten k later told v core after next (wiped_in_caches to t d) after-seen refl
      (sum k later told v).own (if a == 1 then states.I else (sum k later told v).owner_state) (sum k later told v).victim true
      (own-wiped k d good r t (a == 1) forwards ∙ sym (reads k later told v).own)
      owner-is
      (ap is_nil (others-wiped k d good r t (a == 1) forwards))
      (victim-wiped k d good r t (a == 1) forwards (is_placed h.kind) h.way ∙ sym (reads k later told v).victim)
      ∙ (λ z. record m { acks = acks-is z; others = OTHERS_NO; owner = owner-mask (a == 1) (sum k later told v).owner_state z })))
