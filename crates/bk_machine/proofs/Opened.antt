-- The directory of a transaction that isn't granted: it has no debts, so what the invariant says of the directory with its debts
-- paid holds of it as it is.
use Rattle.std.proofs.Common.{◌≡◌, ℕ, true, false, refl, arith, sym, ◌∙◌, subst, ap, true≢false}
use Rattle.std.specs.Prelude.{Option, Some, None}
use Rattle.std.proofs.lemmas.Bool.Decides.{nat_tests}
use Rattle.bk_base.specs.Places.{Shape}
use Rattle.bk_base.specs.declared.coh.Coh.{Coh}
use Rattle.bk_base.specs.States.{is_readable, covers}
use Rattle.bk_machine.specs.Entries.{Entry, Holds}
use Rattle.bk_machine.specs.Messages.{op_tag}
use Rattle.bk_machine.specs.Transactions.{InProgress, Transaction, Debt, with_debt_paid, paid_directory}
use Rattle.bk_machine.specs.World.{World, view}
use Rattle.bk_machine.specs.Phases.{Flush, NoFlush, FlushSent, FlushDone, Ack, Phase, Free, Open, Flying, Settling, inv_effect, flush_effect}
use Rattle.bk_machine.specs.Copies.{Copies, FlushAims}
use Rattle.bk_machine.specs.Invariant.{Good, TransactionAt, OpenTransaction, GrantedTransaction, Invariant, Recorded, RecordOf}
use Rattle.bk_machine.proofs.View.{option_of_group-some}
use Rattle.bk_machine.proofs.DirectoryReads.{Readable}
use Rattle.bk_machine.proofs.Settle.{at_granted}

-- a transaction that isn't granted stands open
pub record AtOpen (p : Phase) (x : Transaction) : Type 0 where
  pub cache : ℕ
  pub busy : InProgress
  pub flush : Flush
  pub acks : ℕ → Ack
  pub is : p ≡ Open cache busy flush acks
  pub at : OpenTransaction cache busy flush acks x

pub at_open : (p : Phase) (x : Transaction) → TransactionAt p (Some x) → x.granted ≡ false → AtOpen p x
at_open Free x t g = absurd (true≢false (sym t.granted ∙ g))
at_open (Open r b fl inv) x t g = record { cache = r; busy = b; flush = fl; acks = inv; is = refl; at = t }
at_open (Flying r b f) x t g = absurd (true≢false (sym t.granted ∙ g))
at_open (Settling r u) x t g = absurd (true≢false (sym t.granted ∙ g))

-- an entry that the directory has at an open phase is held by its cache
flush-held : (fl : Flush) (c v : ℕ) (h : ℕ → ℕ → Entry) → FlushAims fl h
    → is_readable (flush_effect fl c v (h c v)).state ≡ true
    → is_readable (h c v).state ≡ true
flush-held NoFlush c v h a e = e
flush-held (FlushSent o w t x) c v h a e = lem a.0.is_valid e
  where
    lem : is_readable (h o w).state ≡ true → is_readable (flush_effect (FlushSent o w t x) c v (h c v)).state ≡ true
        → is_readable (h c v).state ≡ true
    lem a e = grind (arith, nat_tests)
flush-held (FlushDone o t ws) c v h a e = e

inv-held : (t : ℕ) (a : Ack) (h : Entry) → is_readable (inv_effect t a h).state ≡ true → is_readable h.state ≡ true
inv-held t a h e = grind (arith, nat_tests)

covered-valid : (state y : Coh) → covers state y ≡ true → is_readable state ≡ true → is_readable y ≡ true
covered-valid state y e f = grind arith

pub open-held : (r : ℕ) (b : InProgress) (fl : Flush) (inv : ℕ → Ack) (d h : ℕ → ℕ → Entry) → Copies (Open r b fl inv) d h
    → (c w t : ℕ)
    → Holds (d c w) t
    → is_readable (h c w).state ≡ true
open-held r b fl inv d h copies c w t k =
    flush-held fl c w h copies.standing.0
    (inv-held (op_tag b.op) (inv c) (flush_effect fl c w (h c w)) (covered-valid (d c w).state _ (copies.matches c w).covered k.is_valid))

paid-open : (x : Transaction) (d : ℕ → ℕ → Entry) → x.requester_debt ≡ None → x.owner_debt ≡ None
    → paid_directory (Some x) d ≡ d
paid-open x d e f = ap (λ (a : Option Debt). with_debt_paid a (with_debt_paid x.owner_debt d)) e
    ∙ ap (λ (a : Option Debt). with_debt_paid None (with_debt_paid a d)) f

module _ (k : Shape) (world : World) (inv : Invariant k world) (group : ℕ) (x : Transaction) (is : world.transaction
    ≡ Some (group, x)) where
  pub now : (view group world).transaction ≡ Some x
  now = option_of_group-some group world.transaction x is

  pub phase : Phase
  phase = (inv.groups group).0

  pub good : Good (inv.groups group).0 (view group world)
  good = (inv.groups group).1

  pub standing : TransactionAt (inv.groups group).0 (Some x)
  standing = subst (λ (o : Option Transaction). TransactionAt (inv.groups group).0 o) now (inv.groups group).1.transaction

  pub opened : x.granted ≡ false → AtOpen (inv.groups group).0 x
  opened g = at_open (inv.groups group).0 x standing g

  pub granted : x.granted ≡ true → GrantedTransaction x
  granted g = at_granted (inv.groups group).0 x standing g

  pub copies-here : x.granted ≡ false → Copies (inv.groups group).0 (world.directory group) (world.entries group)
  copies-here g = subst (λ (d : ℕ → ℕ → Entry). Copies (inv.groups group).0 d (world.entries group))
      (ap (λ (o : Option Transaction). paid_directory o (world.directory group)) now
      ∙ paid-open x (world.directory group) (opened g).at.no_requester_debt (opened g).at.no_owner_debt) (inv.groups group).1.copies

  pub readable : x.granted ≡ false → Readable k (world.directory group)
  readable g = record {
    one_way = (copies-here g).one_way;
    one_owner = (copies-here g).one_owner;
    range = λ c v t h. inv.ranges.entries group c v (world.entries group c v).tag (record {
      is_valid = open-held (opened g).cache (opened g).busy (opened g).flush (opened g).acks (world.directory group) (world.entries group)
          (subst (λ (p : Phase). Copies p (world.directory group) (world.entries group)) (opened g).is (copies-here g)) c v t h;
      is_tag = refl;
    });
  }

  pub record_of : Recorded k x (world.directory group)
  record_of = subst (λ (o : Option (ℕ × Transaction)). RecordOf k o world.directory) is inv.recorded
