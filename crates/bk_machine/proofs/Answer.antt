-- The engine answers an uncached access or an eviction, pays its debts and finishes.
use Rattle.std.proofs.Common.{◌≡◌, ℕ, Bool, true, false, not, ◌&&◌, ◌||◌, refl, arith, [], ◌∷◌, ◌++◌, sym, ◌∙◌, subst, ap, true≢false}
use Rattle.std.specs.Prelude.{Option, Some, None, if◌then◌else◌, ◌==◌}
use Rattle.std.proofs.lemmas.Bool.Decides.{nat_tests}
use mathlib.Core.Path.{fun_ext}
use Rattle.bk_base.specs.Tables.{put}
use Rattle.bk_machine.specs.Tables.{put2}
use Rattle.bk_machine.specs.Entries.{Entry}
use Rattle.bk_machine.specs.Messages.{Spot, UcLoad, UcStore, Evict, ToCache, UcBlk, UcDone, EvictDone, request_of}
use Rattle.bk_machine.specs.Transactions.{InProgress, WriteBack, Idle, Reading, Got, Debt, Transaction, open_transaction, granted_transaction, is_asked, with_debt_paid, paid_directory}
use Rattle.bk_machine.specs.Phases.{NoFlush, Ack, Flight, ByWord, ByDone, Phase, Free, Open, Flying, Settling, at_cache, flight_command, flight_fill, flight_effect}
use Rattle.bk_machine.specs.World.{GroupState}
use Rattle.bk_machine.specs.Words.{latest, effective}
use Rattle.bk_machine.specs.Copies.{Copies, Matches, FlightAims}
use Rattle.bk_machine.specs.Values.{FlightValues, flight_away, transaction_away, kept_away, request_at}
use Rattle.bk_machine.specs.Invariant.{flight_kind, Good, GrantedTransaction, NoneOrGranted, DebtsApart, TransactionAt}
use Rattle.bk_machine.proofs.Unchanged.{copies-at}
use Rattle.bk_machine.proofs.Settle.{channels-none, OpenValues-granted, at_granted, granted-unread}
use Rattle.bk_machine.proofs.Engine.{not_at}
use Rattle.bk_machine.proofs.Grant.{quiet-matches, quiet-commands, quiet-responses}
use Rattle.bk_machine.proofs.FlushComes.{light-writable}

-- an answer goes to the requester, and no copy changes
module _ (part : GroupState) (r : ℕ) (b : InProgress) (rd : Reading) (wr : Bool) (inv : ℕ → Ack)
    (good : Good (Open r b NoFlush inv) (record part { transaction = Some (open_transaction r b Idle rd wr []) }))
    (not_asked : is_asked rd ≡ false) (m : ToCache) (f : Flight)
    (is : (c : ℕ) → flight_command f r b c ≡ at_cache c r m) (no_fill : (c o : ℕ)
    → flight_fill f r b c o ≡ []) (no_effect : (c w : ℕ) (h : Entry) → flight_effect f r b c w h ≡ h)
    (kind : flight_kind f b.op ≡ true) (aims : FlightAims f r b part.entries)
    (away : (u j : ℕ) → flight_away f b u j ≡ false → (wr && true && request_at (request_of b.op b.way) u j) ≡ false)
    (values : FlightValues f b part.entries (latest part.history) (effective part.memory part.memout)) where
  answer-commands : (c : ℕ) → put part.command r (part.command r ++ m ∷ []) c ≡ flight_command f r b c
  unfolding put
  answer-commands c = lem (quiet-commands part r b rd wr inv good c) (quiet-commands part r b rd wr inv good r) ∙ sym (is c)
    where
      lem : part.command c ≡ [] → part.command r ≡ [] → (if c == r then part.command r ++ m ∷ [] else part.command c)
          ≡ at_cache c r m
      lem e f = grind (arith, nat_tests)

  not_reading : (not false && is_asked rd) ≡ false
  not_reading = rw not_asked refl

  -- The answer is the one command on its way: no flush and no invalidation is under way, and it changes no entry.
  pub answer_good : Good (Flying r b f) (record part {
    command = put part.command r (part.command r ++ m ∷ []);
    transaction = Some (granted_transaction r b rd wr None None);
  })
  answer_good = record {
    commands = answer-commands;
    fills = λ c o. good.fills c o ∙ sym (no_fill c o);
    responses = quiet-responses part r b rd wr inv good;
    requests = good.requests;
    taker = good.taker;
    placed = good.placed;
    transaction = record { granted = refl; no_flush = refl; no_acks = refl; not_asked = not_asked; debts_apart = tt };
    pending = good.pending;
    taken_count = good.taken_count;
    copies = copies-at
        (λ c w. subst (λ (h : Entry). Matches (part.directory c w) h) (sym (no_effect c w (part.entries c w)))
        (quiet-matches part r b rd wr inv good c w))
        aims good.copies;
    values = record {
      copies = good.values.copies;
      memory = λ u j home. good.values.memory u j (record { clean = home.clean; not_flying = refl; not_kept = away u j home.not_flying });
      flying = values;
      ungranted = tt;
    };
    channels = channels-none (Some (open_transaction r b Idle rd wr [])) _ _ _ _ _ _ not_reading refl good.channels;
    kind = kind;
    answers = good.answers;
  }

pub word_good : (part : GroupState) (r w t : ℕ) (spot : Spot) (ws : ℕ → ℕ) (wr : Bool) (inv : ℕ → Ack)
    → Good (Open r (record { op = UcLoad t spot; way = w }) NoFlush inv)
    (record part { transaction = Some (open_transaction r (record { op = UcLoad t spot; way = w }) Idle (Got ws) wr []) })
    → Good (Flying r (record { op = UcLoad t spot; way = w }) (ByWord (ws spot.word)))
    (record part {
      command = put part.command r (part.command r ++ UcBlk t spot.word (ws spot.word) ∷ []);
      transaction = Some (granted_transaction r (record { op = UcLoad t spot; way = w }) (Got ws) wr None None);
    })
word_good part r w t spot ws wr inv good =
    answer_good part r _ (Got ws) wr inv good refl (UcBlk t spot.word (ws spot.word)) (ByWord (ws spot.word)) (λ c. refl) (λ c o. refl)
    (λ c v h. refl) refl tt (λ u j e. not_at (UcLoad t spot) w u j (wr && true) refl)
    (good.values.ungranted.read.0 spot.word, λ c v l. light-writable _ (good.values.ungranted.read.1 c v l))

-- a word was written
pub stored_good : (part : GroupState) (r w t number : ℕ) (change : ℕ → ℕ) (rd : Reading) (inv : ℕ → Ack)
    → Good (Open r (record { op = UcStore t number change; way = w }) NoFlush inv)
    (record part { transaction = Some (open_transaction r (record { op = UcStore t number change; way = w }) Idle rd true []) })
    → is_asked rd ≡ false
    → Good (Flying r (record { op = UcStore t number change; way = w }) ByDone)
    (record part {
      command = put part.command r (part.command r ++ UcDone t number ∷ []);
      transaction = Some (granted_transaction r (record { op = UcStore t number change; way = w }) rd true None None);
    })
stored_good part r w t number change rd inv good e =
    answer_good part r _ rd true inv good e (UcDone t number) ByDone (λ c. refl) (λ c o. refl) (λ c v h. refl) refl tt (λ u j f. f)
    good.values.ungranted.written

and_right : (b : Bool) → (b && false) ≡ false
and_right b = grind arith

pub evicted_good : (part : GroupState) (r w t : ℕ) (rd : Reading) (wr : Bool) (inv : ℕ → Ack)
    → Good (Open r (record { op = Evict t; way = w }) NoFlush inv)
    (record part { transaction = Some (open_transaction r (record { op = Evict t; way = w }) Idle rd wr []) })
    → is_asked rd ≡ false
    → Good (Flying r (record { op = Evict t; way = w }) ByDone)
    (record part {
      command = put part.command r (part.command r ++ EvictDone t ∷ []);
      transaction = Some (granted_transaction r (record { op = Evict t; way = w }) rd wr None None);
    })
evicted_good part r w t rd wr inv good e =
    answer_good part r _ rd wr inv good e (EvictDone t) ByDone (λ c. refl) (λ c o. refl) (λ c v h. refl) refl tt
    (λ u j f. and_right (wr && true)) tt

-- debts

-- the phase of a granted transaction stands where another granted one, or none, takes its place
granted-at : (p : Phase) (x : Transaction) (y : Option Transaction) → x.granted ≡ true → TransactionAt p (Some x) → NoneOrGranted y
    → TransactionAt p y
granted-at Free x y e q h = h
granted-at (Open r b fl inv) x y e q h = absurd (true≢false (sym e ∙ q.ungranted))
granted-at (Flying r b f) x y e q h = h
granted-at (Settling r t) x y e q h = h

-- the record changes but for what the copies and the values see of it
module _ (p : Phase) (part : GroupState) (x : Transaction) (ty : Option Transaction) (directory : ℕ → ℕ
    → Entry) (good : Good p (record part { transaction = Some x })) (granted : x.granted ≡ true) (after : NoneOrGranted ty)
    (same : paid_directory (Some x) part.directory ≡ paid_directory ty directory) where
  was_granted : GrantedTransaction x
  was_granted = at_granted p x good.transaction granted

  was_away : (u j : ℕ) → transaction_away (Some x) u j ≡ false
  was_away u j = lem x.write_back x.granted was_granted.no_flush granted
    where
      lem : (wb : WriteBack) (y : Bool) → wb ≡ Idle → y ≡ true
          → (kept_away wb u || (x.written && not y && request_at x.request u j)) ≡ false
      lem wb y e f = grind arith

  -- The transaction is granted already and the directory is the same once the debts are paid, so nothing else turns on the two.
  pub closes_good : Good p (record part { transaction = ty; directory = directory })
  closes_good = record {
    commands = good.commands;
    fills = good.fills;
    responses = good.responses;
    requests = good.requests;
    taker = good.taker;
    placed = good.placed;
    transaction = granted-at p x ty granted good.transaction after;
    pending = good.pending;
    taken_count = good.taken_count;
    copies = subst (λ (d : ℕ → ℕ → Entry). Copies p d part.entries) same good.copies;
    values = record {
      copies = good.values.copies;
      memory = λ u j home. good.values.memory u j (record { clean = home.clean; not_flying = home.not_flying; not_kept = was_away u j });
      flying = good.values.flying;
      ungranted = OpenValues-granted ty _ _ _ after;
    };
    channels = channels-none (Some x) ty _ _ _ _ _ (granted-unread (Some x) was_granted) (granted-unread ty after) good.channels;
    kind = good.kind;
    answers = good.answers;
  }

paid-put : (part : GroupState) (debt : Debt) (od : Option Debt) → DebtsApart (Some debt) od
    → with_debt_paid (Some debt) (with_debt_paid od part.directory)
    ≡ with_debt_paid None (with_debt_paid od (put2 part.directory debt.cache debt.way debt.entry))
unfolding put2
paid-put g d None n = fun_ext (λ c. fun_ext (λ w. refl))
paid-put g d (Some e) n = fun_ext (λ c. fun_ext (λ w. commute c w))
  where
    commute : (c w : ℕ)
        → (if c == d.cache && w == d.way then d.entry else if c == e.cache && w == e.way then e.entry else g.directory c w)
        ≡ (if c == e.cache && w == e.way then e.entry else if c == d.cache && w == d.way then d.entry else g.directory c w)
    commute c w = grind (arith, nat_tests)

paid-put_owner : (part : GroupState) (debt : Debt) → with_debt_paid (Some debt) part.directory
    ≡ with_debt_paid None (put2 part.directory debt.cache debt.way debt.entry)
unfolding put2
paid-put_owner g d = fun_ext (λ c. fun_ext (λ w. refl))

no-debt : (od : Option Debt) → DebtsApart od None
no-debt None = tt
no-debt (Some e) = tt

module _ (p : Phase) (part : GroupState) (x : Transaction) (good : Good p part) (is : part.transaction ≡ Some x) (granted : x.granted
    ≡ true) where
  known : Good p (record part { transaction = Some x })
  known = subst (λ (second : GroupState). Good p second) (ap (λ (y : Option Transaction). record part { transaction = y }) is) good

  is_granted : GrantedTransaction x
  is_granted = at_granted p x known.transaction granted

  -- the requester's debt is paid
  pub own_paid : (debt : Debt) → x.requester_debt ≡ Some debt
      → Good p (record part {
        directory = put2 part.directory debt.cache debt.way debt.entry;
        transaction = Some (record x { requester_debt = None });
      })
  own_paid debt e = closes_good p part x (Some (record x { requester_debt = None })) (put2 part.directory debt.cache debt.way debt.entry)
      known granted
      (record {
        granted = granted;
        no_flush = is_granted.no_flush;
        no_acks = is_granted.no_acks;
        not_asked = is_granted.not_asked;
        debts_apart = tt;
      })
      (ap (λ (o : Option Debt). with_debt_paid o (with_debt_paid x.owner_debt part.directory)) e
      ∙ paid-put part debt x.owner_debt (subst (λ (o : Option Debt). DebtsApart o x.owner_debt) e is_granted.debts_apart))

  -- the owner's debt is paid
  pub owner_paid : (debt : Debt) → x.owner_debt ≡ Some debt
      → Good p (record part {
        directory = put2 part.directory debt.cache debt.way debt.entry;
        transaction = Some (record x { owner_debt = None });
      })
  owner_paid debt e = closes_good p part x (Some (record x { owner_debt = None })) (put2 part.directory debt.cache debt.way debt.entry)
      known granted
      (record {
        granted = granted;
        no_flush = is_granted.no_flush;
        no_acks = is_granted.no_acks;
        not_asked = is_granted.not_asked;
        debts_apart = no-debt x.requester_debt;
      })
      (ap (λ (o : Option Debt). with_debt_paid x.requester_debt (with_debt_paid o part.directory)) e
      ∙ ap (with_debt_paid x.requester_debt) (paid-put_owner part debt))

  -- both debts are paid, and the transaction ends
  pub finished_good : x.requester_debt ≡ None → x.owner_debt ≡ None → Good p (record part { transaction = None })
  finished_good e f =
      closes_good p part x None part.directory known granted tt
      (ap (λ (o : Option Debt). with_debt_paid o (with_debt_paid x.owner_debt part.directory)) e
      ∙ ap (λ (o : Option Debt). with_debt_paid None (with_debt_paid o part.directory)) f)
