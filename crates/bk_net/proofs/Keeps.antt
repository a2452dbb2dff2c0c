-- Each step of a channel keeps its rule, and what it tells.
use Rattle.std.proofs.Common.{◌≡◌, ◌≢◌, ℕ, zero, suc, true, false, true≢false, List, [], ◌∷◌, ◌++◌, length, set, sym, refl, ap, ◌∙◌, subst, ⊎_elim, append_assoc}
use Rattle.std.specs.Prelude.{⊤}
use mathlib.Core.Option.{some, some-ne-none}
use lib.ListN.{get_elem?}
use Rattle.crossbeam_queue.specs.Fifo.{Pushes, Pops, Forks, Merges, Learns}
use Rattle.crossbeam_queue.proofs.Lists.{at_set, at_snoc}
use Rattle.bk_msg.specs.declared.codec.Packet.{Packet}
use Rattle.bk_net.specs.declared.rule.Account.{Account}
use Rattle.bk_net.specs.Rule.{account, having_sent, having_taken, KnowsSent, KnowsTaken, IsFifo, IsNext}

-- what stands in a list with one account more, and didn't before, stands at its end
at_end : (l : List Account) (a b : Account) (j : ℕ) → get_elem? l j ≢ some b → get_elem? (l ++ a ∷ []) j ≡ some b
    → j ≡ length l
at_end [] a b zero n e = refl
at_end [] a b (suc j) n e = absurd (some-ne-none b (sym e))
at_end (x ∷ l) a b zero n e = absurd (n e)
at_end (x ∷ l) a b (suc j) n e = ap suc (at_end l a b j n e)

-- a fact of each account, by the number of its pass
abbrev AllAt : (ℕ → Account → Type 0) → List Account → Type 0
AllAt P accounts = (pass : ℕ) (v : Account) → get_elem? accounts pass ≡ some v → P pass v

-- it holds of all once one account is another, where it holds of that one and of the others
all_set : (P : ℕ → Account → Type 0) (accounts : List Account) (i : ℕ) (u : Account) → P i u
    → ((j : ℕ) (v : Account) → j ≢ i → get_elem? accounts j ≡ some v → P j v) → AllAt P (set accounts i u)
all_set P accounts i u own others j v e =
    ⊎_elim (λ (x : (j ≡ i) × (u ≡ v)). subst (λ (y : ℕ × Account). P y.0 y.1) (λ n. (sym x.0 n, x.1 n)) own)
    (λ (x : (j ≢ i) × (get_elem? accounts j ≡ some v)). others j v x.0 x.1) (at_set accounts i j u v e)

-- a pass that isn't the sender may not send, so nothing is asked of it
others_send : (sender : ℕ) (sent later : List Packet) (pass : ℕ) (v : Account) → pass ≢ sender
    → KnowsSent sender sent pass v → KnowsSent sender later pass v
others_send sender sent later pass v other p may = absurd (other (p may).0)

others_take : (receiver : ℕ) (taken later : List Packet) (pass : ℕ) (v : Account) → pass ≢ receiver
    → KnowsTaken receiver taken pass v → KnowsTaken receiver later pass v
others_take receiver taken later pass v other p may = absurd (other (p may).0)

never : {A : Type 0} → false ≡ true → A
never e = absurd (true≢false (sym e))

abbrev first : Account
first = account true true [] []

none_else : (P : ℕ → Account → Type 0) (j : ℕ) (v : Account) → j ≢ 0 → get_elem? (first ∷ []) j ≡ some v → P j v
none_else P j v other e = absurd (other (at_end [] first v j (λ p. some-ne-none v (sym p)) e))

-- a new queue
pub begins : IsFifo [] (account true true [] [] ∷ [])
begins = record {
  sender = 0;
  receiver = 0;
  sent = [];
  taken = [];
  order = refl;
  sends = all_set (KnowsSent 0 []) (first ∷ []) 0 first (λ _. (refl, refl)) (none_else (KnowsSent 0 []));
  takes = all_set (KnowsTaken 0 []) (first ∷ []) 0 first (λ _. (refl, refl)) (none_else (KnowsTaken 0 []));
}

-- a packet goes in
pub keeps_send : (n i : ℕ) (v : Account) (packet : Packet) → v.may_send ≡ true
    → Pushes IsFifo n i v packet (λ u. u ≡ having_sent v packet)
keeps_send n i v packet may held accounts _ h at =
    let own = h.sends i v at may in
    let sent = h.sent ++ packet ∷ [] in
    let rule : IsFifo (held ++ packet ∷ []) (set accounts i (having_sent v packet)) = record {
      sender = h.sender;
      receiver = h.receiver;
      sent = sent;
      taken = h.taken;
      order = ap (λ l. l ++ packet ∷ []) h.order ∙ append_assoc h.taken held (packet ∷ []);
      sends = all_set (KnowsSent h.sender sent) accounts i (having_sent v packet) (λ _. (own.0, ap (λ l. l ++ packet ∷ []) own.1))
          (λ j x other e. others_send h.sender h.sent sent j x (λ p. other (p ∙ sym own.0)) (h.sends j x e));
      takes = all_set (KnowsTaken h.receiver h.taken) accounts i (having_sent v packet) (h.takes i v at) (λ j x _ e. h.takes j x e);
    } in
    (having_sent v packet, rule, refl)

-- a packet comes out
pub keeps_take : (i : ℕ) (v : Account) → v.may_take ≡ true → Pops IsFifo i v (λ packet u. u ≡ having_taken v packet)
keeps_take i v may packet held accounts h at =
    let own = h.takes i v at may in
    let taken = h.taken ++ packet ∷ [] in
    let rule : IsFifo held (set accounts i (having_taken v packet)) = record {
      sender = h.sender;
      receiver = h.receiver;
      sent = h.sent;
      taken = taken;
      order = h.order ∙ sym (append_assoc h.taken (packet ∷ []) held);
      sends = all_set (KnowsSent h.sender h.sent) accounts i (having_taken v packet) (h.sends i v at) (λ j x _ e. h.sends j x e);
      takes = all_set (KnowsTaken h.receiver taken) accounts i (having_taken v packet) (λ _. (own.0, ap (λ l. l ++ packet ∷ []) own.1))
          (λ j x other e. others_take h.receiver h.taken taken j x (λ p. other (p ∙ sym own.0)) (h.takes j x e));
    } in
    (having_taken v packet, rule, refl)

-- one pass becomes two, the sender's and the receiver's
pub forks : (i : ℕ) (v : Account) → v.may_send ≡ true → v.may_take ≡ true
    → Forks IsFifo i v (account true false v.sent []) (account false true [] v.taken)
forks i v a b held accounts h at =
    let left : Account = account true false v.sent [] in
    let right : Account = account false true [] v.taken in
    let l : List Account = set accounts i left in
    let own = h.takes i v at b in
    let Sent : ℕ → Account → Type 0 = KnowsSent h.sender h.sent in
    let sent : AllAt Sent l = all_set Sent accounts i left (λ _. h.sends i v at a) (λ j x _ e. h.sends j x e) in
    let TakesNot : ℕ → Account → Type 0 = λ j x. x.may_take ≢ true in
    let takes_not : AllAt TakesNot l = all_set TakesNot accounts i left never
    (λ j x other e p. other ((h.takes j x e p).0 ∙ sym own.0)) in
    record {
      sender = h.sender;
      receiver = length l;
      sent = h.sent;
      taken = h.taken;
      order = h.order;
      sends = λ j x e may. ⊎_elim (λ before. sent j x before may)
          (λ (is : right ≡ x). never (ap (λ (y : Account). y.may_send) is ∙ may)) (at_snoc l right x j e);
      takes = λ j x e may. ⊎_elim (λ before. absurd (takes_not j x before may))
          (λ (is : right ≡ x). (
            at_end l right x j (λ before. takes_not j x before may) e,
            ap (λ (y : Account). y.taken) (sym is) ∙ own.1,
          ))
          (at_snoc l right x j e);
    }

-- the receiver's pass takes the sender's in
pub merges : (i : ℕ) (v : Account) (j : ℕ) (u : Account) → v.may_take ≡ true → u.may_send ≡ true
    → Merges IsFifo i v j u (account true true u.sent v.taken) (account false false [] [])
merges i v j u a b held accounts h at two at' =
    let both : Account = account true true u.sent v.taken in
    let l : List Account = set accounts i both in
    let was : get_elem? accounts j ≡ some u = ⊎_elim (λ x. absurd (two x.0)) (λ x. x.1) (at_set accounts i j both u at') in
    let theirs = h.sends j u was b in
    let own = h.takes i v at a in
    let Sent : ℕ → Account → Type 0 = λ n x. n ≢ j → KnowsSent i h.sent n x in
    let sent : AllAt Sent l = all_set Sent accounts i both (λ _ _. (refl, theirs.1))
    (λ n x _ e apart may. absurd (apart ((h.sends n x e may).0 ∙ sym theirs.0))) in
    let Taken : ℕ → Account → Type 0 = KnowsTaken i h.taken in
    let taken : AllAt Taken l = all_set Taken accounts i both (λ _. (refl, own.1))
    (λ n x other e may. absurd (other ((h.takes n x e may).0 ∙ sym own.0))) in
    let spent : Account = account false false [] [] in
    record {
      sender = i;
      receiver = i;
      sent = h.sent;
      taken = h.taken;
      order = h.order;
      sends = all_set (KnowsSent i h.sent) l j spent never (λ n x apart e. sent n x e apart);
      takes = all_set Taken l j spent never (λ n x _ e. taken n x e);
    }

-- what a sender sent ends with what the queue holds
pub holds_last : (i : ℕ) (v : Account) → v.may_send ≡ true
    → Learns IsFifo i v (λ held. (before : List Packet) × (v.sent ≡ before ++ held))
holds_last i v may held accounts h at = (h.taken, (h.sends i v at may).1 ∙ h.order)

-- a receiver learns nothing of what the queue holds
pub learns_none : (i : ℕ) (v : Account) → Learns IsFifo i v (λ held. ⊤)
learns_none i v held accounts h at = tt

-- both ends together know what the queue holds
pub knows_rest : (i : ℕ) (v : Account) → v.may_send ≡ true → v.may_take ≡ true
    → Learns IsFifo i v (λ held. v.sent ≡ v.taken ++ held)
knows_rest i v a b held accounts h at = (h.sends i v at a).1 ∙ h.order ∙ ap (λ l. l ++ held) (sym (h.takes i v at b).1)

-- and what comes out of it
pub keeps_rest : (i : ℕ) (v : Account) → v.may_send ≡ true → v.may_take ≡ true
    → Pops IsFifo i v (λ packet u. (u ≡ having_taken v packet) × IsNext v packet)
keeps_rest i v a b packet held accounts h at =
    let r = keeps_take i v b packet held accounts h at in
    (r.0, r.1, (r.2, (held, knows_rest i v a b (packet ∷ held) accounts h at)))
