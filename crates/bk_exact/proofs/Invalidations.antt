-- `inv` is permitted, and the acks that the engine counts are those that the transaction waits for.
use Rattle.std.proofs.Common.{◌≡◌, ◌≢◌, ℕ, ◌+◌, ◌%◌, ◌^◌, ◌<◌, ◌≤◌, ◌==◌, ◌++◌, length-append, false, refl, sym, ap, ◌∙◌, subst, arith, List, length, Option}
use Rattle.bk_base.specs.Places.{Shape, InProfile, group_of, tag_at}
use Rattle.bk_isa.specs.declared.form.Form.TheVariants as forms
use Rattle.bk_order.proofs.Meets.{Met}
use Rattle.bk_order.proofs.Tests.{implied}
use Rattle.bk_dir.proofs.Lists.{few_caches}
use Rattle.bk_engine.specs.declared.parts.Core.{Core}
use Rattle.bk_engine.specs.declared.parts.Held.{Held}
use Rattle.bk_engine.specs.Sends.{sends, sends_held}
use Rattle.bk_system.specs.State.{State}
use Rattle.bk_machine.specs.Actions.{Permitted, Invalidates, NoneOrForward, action_after, invalidation_targets}
use Rattle.bk_machine.specs.Directory as machine
use Rattle.bk_machine.specs.Entries.{Entry, times}
use Rattle.bk_machine.specs.Invariant.{Invariant}
use Rattle.bk_machine.specs.Runs.{Engine}
use Rattle.bk_machine.specs.Transactions.{Transaction}
use Rattle.bk_machine.specs.World.{World}
use Rattle.bk_machine.proofs.Bounds.{under_way}
use Rattle.bk_machine.proofs.Send.{times-append}
use Rattle.bk_machine.proofs.Sound.{event_keeps}
use Rattle.bk_exact.specs.Told.{Told}
use Rattle.bk_exact.specs.Ties.{Tied, told_world}
use Rattle.bk_exact.proofs.Counts.{invs-length, total-length}
use Rattle.bk_exact.proofs.Moves.{Moves, serves-as}
use Rattle.bk_exact.proofs.Parts.{clash}
use Rattle.bk_exact.proofs.Permits.{acts-to, ungranted}
use Rattle.bk_exact.proofs.Readings.{sum, reads, owner-same, owner-read, others-same, forward}
use Rattle.bk_exact.proofs.Serving.{Staged, mask}

module _ (k : Shape) (then_state : State) (told : Told) (tied : Tied k then_state told) (v : Staged k then_state told false)
    (profile : InProfile k) (a : ℕ)
    (o : Met (forms.Inv a) (mask k then_state told v.serving)) where
  abbrev e : Core
  e = then_state.engine.core

  open v use {serving as served, serving.{held as h, transaction as x, serves as sv}}

  abbrev s : ℕ
  s = group_of k h.addr

  abbrev w : World
  w = told_world k then_state told

  abbrev d : ℕ → ℕ → Entry
  d = w.directory s

  -- whom it is sent to
  abbrev pub to : List ℕ
  to = invalidation_targets (a == 1) (machine.owner k.caches k.ways d h.source (tag_at k h.addr))
      (machine.others k.caches k.ways d h.source (tag_at k h.addr))

  abbrev y : Transaction
  y = record x { waiting = x.waiting ++ to }

  permitted : Permitted k s (Invalidates (a == 1) to x) w
  permitted = (
    ungranted k then_state told v,
    sym (λ i. invalidation_targets (a == 1) (owner-same k then_state told served i) (others-same k then_state told served i)),
    λ i. subst NoneOrForward (sym (owner-read k then_state told served)) (forward k then_state told served (implied (a == 1) _ i o.o13)),
  )

  -- the machine after it has its invariant, which bounds the acks
  later : Invariant k (action_after s (Invalidates (a == 1) to x) w)
  later = event_keeps k w (Engine s (Invalidates (a == 1) to x)) permitted tied.invariant

  -- each cache stands in the list once at most, and is one of the configuration
  once : (c : ℕ) → times c to ≤ 1
  once c = lem (times c x.waiting) (times c to) (sym (times-append c x.waiting to)) ((under_way k _ later).once s y refl v.is_granted c)
    where
      lem : (p q : ℕ) → p + q ≡ times c (x.waiting ++ to) → times c (x.waiting ++ to) ≤ 1 → q ≤ 1
      lem p q i l = omega (arith, i, l)

  from : (c : ℕ) → times c to ≢ 0 → c < k.caches
  from c i = (later.recorded).from c (lem (times c x.waiting) (times c to) (times-append c x.waiting to) i)
    where
      lem : (p q : ℕ) → times c (x.waiting ++ to) ≡ p + q → q ≢ 0 → times c (x.waiting ++ to) ≢ 0
      lem p q i then_state z = then_state (omega (arith, i, z))

  -- so as many messages are sent as the list is long
  sent : length (sends k then_state.engine (forms.Inv a)) ≡ length to
  sent =
      ap (λ (q : Option Held). length (sends_held k then_state.engine q (forms.Inv a))) served.is_held
      ∙ invs-length k.caches h (a == 1) (sum k then_state told served) to
      (λ c l. (reads k then_state told served).invalidated (a == 1) c l) once
      ∙ total-length k.caches to from

  -- no count of acks comes near 2^64
  pub counted : (e.acks + length (sends k then_state.engine (forms.Inv a))) % 2 ^ 64 ≡ length (x.waiting ++ to)
  counted =
      lem e.acks (length x.waiting) (length (sends k then_state.engine (forms.Inv a))) (length to) (length (x.waiting ++ to)) sv.acks sent
      (length-append x.waiting to) ((under_way k _ later).acks s y refl v.is_granted) (few_caches k profile)
    where
      lem : (p q r u v : ℕ) → p ≡ q → r ≡ u → v ≡ q + u → v < k.caches → k.caches ≤ 16 → (p + r) % 2 ^ 64 ≡ v
      lem p q r u v i j z l f = omega (arith, i, j, z, l, f)

  pub permits-inv : Moves k then_state told (forms.Inv a)
  permits-inv =
      acts-to k then_state told tied served (forms.Inv a) (Invalidates (a == 1) to x) y refl refl permitted refl (λ c r. refl) refl
      (λ c r.
      serves-as k e _ h s x y sv refl refl counted sv.kept sv.got sv.written (λ g. clash g v.is_granted))
