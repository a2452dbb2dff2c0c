-- The steps of all agents as one list, in the order in which the merge has their entries.
use Rattle.std.proofs.Common.{◌≡◌, ℕ, ◌≤◌, List, [], ◌∷◌, map, sym, refl, ap, ◌∙◌, subst, arith, ◌⊎◌, inl, inr}
use Rattle.std.specs.List.{AllPairs, AllByRecursion}
use Rattle.std.proofs.lemmas.Bool.{cases_eq}
use Rattle.std.proofs.lemmas.List.Elements.{All-from_recursion}
use Rattle.std.proofs.lemmas.List.Kept.{AllPairs-cons}
use Rattle.bk_threads.specs.declared.merging.Stamped.{Stamped}
use Rattle.bk_threads.specs.declared.merging.Entry.{Entry}
use Rattle.bk_threads.specs.Journals.{stamped, own, MayPrecede, event_of}
use Rattle.bk_threads.specs.Agents.{with_part, steps_of}
use Rattle.bk_threads.specs.Walks.{AreByStamp}
use Rattle.bk_threads.specs.System.{SystemStep, step_event}
use Rattle.bk_threads.specs.Rounds.{IsBy, entry_of}
use Rattle.bk_threads.proofs.Orders.{pairs-head, pairs-tail, all_along}
use Rattle.bk_threads.proofs.Merges.{own-is, own-other, no_later}
use Rattle.bk_threads.proofs.Walking.{with_part-same, with_part-other, steps_of-same, steps_of-other}

-- a step's entry has its stamp
abbrev pub HasItsStamp : SystemStep → Type 0
HasItsStamp step = step.event.stamp ≡ step.stamp

-- THE ENTRIES OF A JOURNAL RISE, where its steps do

late_entries : (t n : ℕ) (steps : List SystemStep) → AllByRecursion (IsBy n) steps → AllByRecursion (λ step. t ≤ step.stamp) steps
    → AllByRecursion (λ entry. t ≤ entry.stamp) (map entry_of steps)
late_entries t n [] by late = tt
late_entries t n (step ∷ steps) by late = (omega (arith, by.0.1, late.0), late_entries t n steps by.1 late.1)

pub entries_rise : (n : ℕ) (steps : List SystemStep) → AllByRecursion (IsBy n) steps → AreByStamp steps
    → AllPairs (λ entry later. entry.stamp ≤ later.stamp) (map entry_of steps)
entries_rise n [] by rise = λ i j d before within. absurd (omega arith)
entries_rise n (step ∷ steps) by rise =
    let late = pairs-head (λ (a : SystemStep). λ b. a.stamp ≤ b.stamp) step steps rise in
    let from : AllByRecursion (λ (later : SystemStep). step.event.stamp ≤ later.stamp) steps =
    all_along (λ (later : SystemStep). step.stamp ≤ later.stamp) (λ later. step.event.stamp ≤ later.stamp)
    (λ later e. omega (arith, by.0.1, e)) steps late in
    AllPairs-cons (λ (a : Stamped). λ b. a.stamp ≤ b.stamp) step.event (map entry_of steps)
    (All-from_recursion (λ (later : Stamped). step.event.stamp ≤ later.stamp) (map entry_of steps)
    (late_entries step.event.stamp n steps by.1 from))
    (entries_rise n steps by.1 (pairs-tail (λ (a : SystemStep). λ b. a.stamp ≤ b.stamp) step steps rise))

-- ONE LIST OF STEPS

-- each agent's own entries are its steps
abbrev pub AreTold : List Entry → (ℕ → List SystemStep) → Type 0
AreTold entries steps = (n : ℕ) → (own n entries ≡ map entry_of (steps n)) × AllByRecursion (IsBy n) (steps n)

-- steps of all agents: of each its own, and one for each entry
pub record Joined (entries : List Entry) (steps : ℕ → List SystemStep) : Type 0 where
  pub all : List SystemStep
  pub same : (n : ℕ) → steps_of n all ≡ steps n
  pub shown : map step_event all ≡ map event_of entries
  pub stamps : AllByRecursion HasItsStamp all
  pub late : (t : ℕ) → AllByRecursion (λ entry. t ≤ entry.stamp) entries → AllByRecursion (λ step. t ≤ step.stamp) all
  pub rise : AllPairs MayPrecede entries → AreByStamp all

no_steps : (steps : List SystemStep) → [] ≡ map entry_of steps → [] ≡ steps
no_steps [] e = refl
no_steps (step ∷ steps) e = absurd (cc (e))

-- the first entry is the first of its agent's steps
record First (entry : Entry) (entries : List Entry) (mine : List SystemStep) : Type 0 where
  step : SystemStep
  rest : List SystemStep
  begins : mine ≡ step ∷ rest
  agent : step.agent ≡ entry.agent
  event : step.event ≡ stamped entry
  stamp : step.event.stamp ≡ step.stamp
  told : own entry.agent entries ≡ map entry_of rest
  others : AllByRecursion (IsBy entry.agent) rest

first_step : (entry : Entry) (entries : List Entry) (mine : List SystemStep)
    → own entry.agent (entry ∷ entries) ≡ map entry_of mine → AllByRecursion (IsBy entry.agent) mine → First entry entries mine
first_step entry entries [] e by =
    let no : stamped entry ∷ own entry.agent entries ≡ [] = sym (own-is entry.agent entry entries refl) ∙ e in absurd (cc (no))
first_step entry entries (step ∷ rest) e by =
    let both : stamped entry ∷ own entry.agent entries ≡ step.event ∷ map entry_of rest =
    sym (own-is entry.agent entry entries refl) ∙ e in record {
      step = step;
      rest = rest;
      begins = refl;
      agent = by.0.0;
      event = cc (both);
      stamp = by.0.1;
      told = cc (both);
      others = by.1;
    }

-- without that step the rest of the entries are the steps that are left
told_after : (entry : Entry) (entries : List Entry) (steps : ℕ → List SystemStep) → AreTold (entry ∷ entries) steps
    → (first : First entry entries (steps entry.agent)) → AreTold entries (with_part steps entry.agent first.rest)
told_after entry entries steps told first n = whether (cases_eq entry.agent n)
  where
    whether : (entry.agent ≡ n) ⊎ (entry.agent ≡ n → ⊥)
        → (own n entries ≡ map entry_of (with_part steps entry.agent first.rest n))
        × AllByRecursion (IsBy n) (with_part steps entry.agent first.rest n)
    whether (inl same) =
        subst (λ (m : ℕ). (own m entries ≡ map entry_of (with_part steps entry.agent first.rest m))
        × AllByRecursion (IsBy m) (with_part steps entry.agent first.rest m)) same
        (subst (λ (mine : List SystemStep). (own entry.agent entries ≡ map entry_of mine) × AllByRecursion (IsBy entry.agent) mine)
        (sym (with_part-same steps entry.agent first.rest)) (first.told, first.others))
    whether (inr apart) =
        subst (λ (mine : List SystemStep). (own n entries ≡ map entry_of mine) × AllByRecursion (IsBy n) mine)
        (sym (with_part-other steps entry.agent first.rest n apart))
        (sym (own-other n entry entries apart) ∙ (told n).0, (told n).1)

-- with it each agent has its own again
same_with : (entry : Entry) (entries : List Entry) (steps : ℕ → List SystemStep) (first : First entry entries (steps entry.agent))
    (all : List SystemStep) → ((n : ℕ) → steps_of n all ≡ with_part steps entry.agent first.rest n)
    → (n : ℕ) → steps_of n (first.step ∷ all) ≡ steps n
same_with entry entries steps first all same n = whether (cases_eq first.step.agent n)
  where
    whether : (first.step.agent ≡ n) ⊎ (first.step.agent ≡ n → ⊥) → steps_of n (first.step ∷ all) ≡ steps n
    whether (inl at) =
        let mine : first.step ∷ with_part steps entry.agent first.rest entry.agent ≡ steps entry.agent =
        ap (λ rest. first.step ∷ rest) (with_part-same steps entry.agent first.rest) ∙ sym first.begins in
        steps_of-same n first.step all at ∙ ap (λ rest. first.step ∷ rest) (same n)
        ∙ subst (λ (m : ℕ). first.step ∷ with_part steps entry.agent first.rest m ≡ steps m) (sym first.agent ∙ at) mine
    whether (inr apart) =
        steps_of-other n first.step all apart ∙ same n
        ∙ with_part-other steps entry.agent first.rest n (λ at. apart (first.agent ∙ at))

pub join : (entries : List Entry) (steps : ℕ → List SystemStep) → AreTold entries steps → Joined entries steps
join [] steps told = record {
  all = [];
  same = λ n. no_steps (steps n) (told n).0;
  shown = refl;
  stamps = tt;
  late = λ t late. tt;
  rise = λ pairs. λ i j d before within. absurd (omega arith);
}
join (entry ∷ entries) steps told =
    let first = first_step entry entries (steps entry.agent) (told entry.agent).0 (told entry.agent).1 in
    let rest = join entries (with_part steps entry.agent first.rest) (told_after entry entries steps told first) in
    let stamp : first.step.stamp ≡ entry.stamp = sym first.stamp ∙ ap (λ (e : Stamped). e.stamp) first.event in record {
      all = first.step ∷ rest.all;
      same = same_with entry entries steps first rest.all rest.same;
      shown = ap (λ (e : Stamped). e.event ∷ map step_event rest.all) first.event
          ∙ ap (λ events. entry.event ∷ events) rest.shown;
      stamps = (first.stamp, rest.stamps);
      late = λ t late. (omega (arith, stamp, late.0), rest.late t late.1);
      rise = λ pairs.
          let later : AllByRecursion (λ (other : Entry). first.step.stamp ≤ other.stamp) entries =
          all_along (MayPrecede entry) (λ other. first.step.stamp ≤ other.stamp)
          (λ other before. let l = no_later entry other before in omega (arith, stamp, l)) entries
          (pairs-head MayPrecede entry entries pairs) in
          AllPairs-cons (λ (a : SystemStep). λ b. a.stamp ≤ b.stamp) first.step rest.all
          (All-from_recursion (λ (other : SystemStep). first.step.stamp ≤ other.stamp) rest.all (rest.late first.step.stamp later))
          (rest.rise (pairs-tail MayPrecede entry entries pairs));
    }
