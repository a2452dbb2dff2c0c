-- The action of a head that is popped: what it takes, and what was awaited.
use Rattle.std.proofs.Common.{◌≡◌, ℕ, true, false, refl, subst, Option, Some, None}
use Rattle.bk_base.specs.Places.{Shape}
use Rattle.bk_know.specs.Sets.{only}
use Rattle.bk_check.specs.Obligations.{single_head}
use Rattle.bk_msg.specs.declared.row.Row.{Row}
use Rattle.bk_msg.specs.declared.row.Row.TheVariants as rows
use Rattle.bk_engine.specs.declared.heads.TheConstants.{HEAD_REQUEST, HEAD_INV_ACK, HEAD_COH_ACK, HEAD_WB, HEAD_NULL_WB, HEAD_BLOCK}
use Rattle.bk_engine.specs.Heads.{head_number}
use Rattle.bk_machine.specs.Actions.{Action, Permitted}
use Rattle.bk_machine.specs.Transactions.{Transaction, FlushAsked, ReadAsked}
use Rattle.bk_machine.specs.World.{World}
use Rattle.bk_exact.specs.Told.{Deferred}
use Rattle.bk_exact.specs.After.{GroupAction, pop_action, deferred_popped}
use Rattle.bk_bound.proofs.WorldCounts.{heads_taken, messages_sent, messages_taken}

-- the transaction that awaits an answer or a block
pub record Awaits (world : World) (P : Transaction → Type 0) : Type 0 where
  pub group : ℕ
  pub transaction : Transaction
  pub is : world.transaction ≡ Some (group, transaction)
  pub ungranted : transaction.granted ≡ false
  pub so : P transaction

abbrev pub AnswerAsked : Transaction → Type 0
AnswerAsked x = x.write_back ≡ FlushAsked

abbrev pub BlockAsked : Transaction → Type 0
BlockAsked x = x.reading ≡ ReadAsked

-- whether the request that was deferred stays so
abbrev pub StaysDeferred : Row → Type 0
StaysDeferred m = (d : Option Deferred) → deferred_popped m d ≡ d

-- By the head: its number, and what its action takes. None sends a message.
pub data PopOf (world : World) (m : Row) (a : Action) : Type 0 where
  OfRequest : head_number m ≡ HEAD_REQUEST → heads_taken a ≡ 6 → messages_taken a ≡ 15 → messages_sent a ≡ 0
      → StaysDeferred m → PopOf world m a
  OfAck : head_number m ≡ HEAD_INV_ACK → heads_taken a ≡ 1 → messages_sent a ≡ 0 → StaysDeferred m → PopOf world m a
  OfSettle : head_number m ≡ HEAD_COH_ACK → heads_taken a ≡ 2 → messages_sent a ≡ 0
      → ((d : Option Deferred) → deferred_popped m d ≡ None) → PopOf world m a
  OfWrite : head_number m ≡ HEAD_WB → Awaits world AnswerAsked → messages_sent a ≡ 0 → StaysDeferred m → PopOf world m a
  OfNull : head_number m ≡ HEAD_NULL_WB → Awaits world AnswerAsked → messages_sent a ≡ 0 → StaysDeferred m → PopOf world m a
  OfBlock : head_number m ≡ HEAD_BLOCK → Awaits world BlockAsked → messages_sent a ≡ 0 → StaysDeferred m → PopOf world m a

-- what is so of an action, if it is permitted, is so of the one that is the same
by-same : (k : Shape) (world : World) (m : Row) (y z : GroupAction) → ◌≡◌ {A = Option GroupAction} (Some y) (Some z)
    → (Permitted k y.0 y.1 world → PopOf world m y.1) → Permitted k z.0 z.1 world → PopOf world m z.1
by-same k world m y z e h = subst (λ (a : GroupAction). Permitted k a.0 a.1 world → PopOf world m a.1) (parts e) h
  where
    parts : ◌≡◌ {A = Option GroupAction} (Some y) (Some z) → y ≡ z
    parts e = cc

pub pop-of : (k : Shape) (x : Option (ℕ × Transaction)) (c : ℕ) (m : Row) (world : World) (z : GroupAction)
    → single_head (only (head_number m)) ≡ true → pop_action k x c m world ≡ Some z → Permitted k z.0 z.1 world
    → PopOf world m z.1
pop-of k (Some y) c (rows.InvAck from to addr) world z i e =
    by-same k world (rows.InvAck from to addr) _ z e (λ p. OfAck refl refl refl (λ d. refl))
pop-of k x c (rows.CohAck from to addr) world z i e =
    by-same k world (rows.CohAck from to addr) _ z e (λ p. OfSettle refl refl refl (λ d. refl))
pop-of k (Some y) c (rows.Wb from to addr words) world z i e =
    by-same k world (rows.Wb from to addr words) _ z e
    (λ p. OfWrite refl (record { group = _; transaction = y.1; is = p.0.is; ungranted = p.0.ungranted; so = p.2 }) refl (λ d. refl))
pop-of k (Some y) c (rows.NullWb from to addr) world z i e =
    by-same k world (rows.NullWb from to addr) _ z e
    (λ p. OfNull refl (record { group = _; transaction = y.1; is = p.0.is; ungranted = p.0.ungranted; so = p.2 }) refl (λ d. refl))
pop-of k (Some y) c (rows.Block from to addr words) world z i e =
    by-same k world (rows.Block from to addr words) _ z e
    (λ p. OfBlock refl (record { group = _; transaction = y.1; is = p.0.is; ungranted = p.0.ungranted; so = p.2 }) refl (λ d. refl))
pop-of k None c (rows.InvAck from to addr) world z i e = absurd (cc)
pop-of k None c (rows.Wb from to addr words) world z i e = absurd (cc)
pop-of k None c (rows.NullWb from to addr) world z i e = absurd (cc)
pop-of k None c (rows.Block from to addr words) world z i e = absurd (cc)
pop-of k x c (rows.Rd from to way addr) world z i e =
    by-same k world (rows.Rd from to way addr) _ z e (λ p. OfRequest refl refl refl refl (λ d. refl))
pop-of k x c (rows.Wr from to way addr) world z i e =
    by-same k world (rows.Wr from to way addr) _ z e (λ p. OfRequest refl refl refl refl (λ d. refl))
pop-of k x c (rows.UcRd from to addr) world z i e =
    by-same k world (rows.UcRd from to addr) _ z e (λ p. OfRequest refl refl refl refl (λ d. refl))
pop-of k x c (rows.UcWr from to addr word) world z i e =
    by-same k world (rows.UcWr from to addr word) _ z e (λ p. OfRequest refl refl refl refl (λ d. refl))
pop-of k x c (rows.Evict from to way addr) world z i e =
    by-same k world (rows.Evict from to way addr) _ z e (λ p. OfRequest refl refl refl refl (λ d. refl))
pop-of k x c m world z i e = absurd (cc)
