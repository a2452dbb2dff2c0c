-- A command to write back and weaken comes to its cache.
use Rattle.std.proofs.Common.{◌≡◌, ℕ, Bool, true, false, refl, arith, List, [], ◌∷◌, ◌++◌, sym, ◌∙◌, subst}
use Rattle.std.specs.Prelude.{Option, Some, None, if◌then◌else◌}
use Rattle.std.proofs.lemmas.Bool.Decides.{nat_tests}
use Rattle.bk_base.specs.Tables.{put}
use Rattle.bk_machine.specs.Tables.{put2}
use Rattle.bk_machine.specs.Entries.{Entry, Holds, with_state, is_light}
use Rattle.bk_machine.specs.Messages.{ToCache, StWb, op_tag, answer_of}
use Rattle.bk_machine.specs.Transactions.{InProgress, Idle, FlushAsked, FlushKept, paid_directory}
use Rattle.bk_machine.specs.Phases.{Flush, NoFlush, FlushSent, FlushDone, Ack, Flight, Phase, Free, Open, Flying, Settling, commands_of, responses_of, at_cache, expected_entry, flush_command, inv_command, flight_command}
use Rattle.bk_machine.specs.World.{GroupState}
use Rattle.bk_machine.specs.Words.{latest}
use Rattle.bk_machine.specs.Copies.{Matches, Invalidating, OneWay, FlushAims}
use Rattle.bk_machine.specs.Values.{NoWriter, AtHome, FlushValues}
use Rattle.bk_machine.specs.Invariant.{Good}
use Rattle.bk_machine.proofs.Growing.{TransactionAt-moves}
use Rattle.bk_machine.proofs.Fewer.{Fewer, weaker-lighter, weaker-fewer, OneWay-fewer, Alone-fewer, WaitingCopies-fewer, OpenValues-fewer}
use Rattle.bk_base.specs.declared.coh.Coh.{Coh}
use Rattle.bk_base.specs.States.{is_writable, is_dirty}

-- the words, where the entry is dirty
abbrev pub words_back : GroupState → ℕ → ℕ → Option (ℕ → ℕ)
words_back part c w = if is_dirty (part.entries c w).state then Some (part.words c w) else None

abbrev pub after_flush : GroupState → ℕ → ℕ → ℕ → Coh → List ToCache → GroupState
after_flush part c w t state rest = record part {
  entries = put2 part.entries c w (with_state (part.entries c w) state);
  command = put part.command c rest;
  response = put part.response c (part.response c ++ answer_of t (words_back part c w) ∷ []);
}

pub light-writable : (state : Coh) → is_light state ≡ true → is_writable state ≡ false
light-writable state e = grind arith

pub light-dirty : (state : Coh) → is_light state ≡ true → is_dirty state ≡ false
light-dirty state e = grind arith

module _ (part : GroupState) (r c w t : ℕ) (state : Coh) (b : InProgress) (inv : ℕ → Ack) (rest : List ToCache)
    (good : Good (Open r b (FlushSent c w t state) inv) part) (last : rest ≡ inv_command (op_tag b.op) (inv c)) where
  ws : Option (ℕ → ℕ)
  ws = words_back part c w

  abbrev pub after : Phase
  after = Open r b (FlushDone c t (words_back part c w)) inv

  flush-commands : (i : ℕ) → put part.command c rest i ≡ commands_of after i
  unfolding put
  flush-commands i = grind (arith, nat_tests, good.commands i)

  flush-responses : (i : ℕ) → put part.response c (part.response c ++ answer_of t (words_back part c w) ∷ []) i
      ≡ responses_of after i
  unfolding put
  flush-responses i = grind (arith, nat_tests, good.responses, good.copies.standing.1.behind c)

  fewer : Fewer (put2 part.entries c w (with_state (part.entries c w) state)) part.entries
  fewer = weaker-fewer c w state part.entries (light-writable state good.copies.standing.0.1) good.copies.standing.0.0.is_valid

  flush-matches : (i v : ℕ)
      → Matches (paid_directory part.transaction part.directory i v)
      (expected_entry (Open r b (FlushSent c w t state) inv) i v (part.entries i v))
      → Matches (paid_directory part.transaction part.directory i v)
      (expected_entry after i v (put2 part.entries c w (with_state (part.entries c w) state) i v))
  unfolding put2
  flush-matches i v m = grind (arith, nat_tests)

  flush-going : Invalidating r (op_tag b.op) (FlushSent c w t state) inv (paid_directory part.transaction part.directory) part.entries
      → Invalidating r (op_tag b.op) (FlushDone c t (words_back part c w)) inv (paid_directory part.transaction part.directory)
      (put2 part.entries c w (with_state (part.entries c w) state))
  unfolding put2
  flush-going a = record {
    not_own = a.not_own;
    gone = a.gone;
    clean = λ i v e j. grind (arith, nat_tests, a.clean i v);
    behind = λ i e. refl;
  }

  flush-clean : (u j : ℕ)
      → AtHome after part.transaction (put2 part.entries c w (with_state (part.entries c w) state)) u j → (i v : ℕ)
      → Holds (part.entries i v) u
      → is_dirty (part.entries i v).state ≡ false
  unfolding put2
  flush-clean u j home i v l = grind (arith, nat_tests, good.copies.standing.0.0, home.clean i v)

  flush-writers : is_dirty (part.entries c w).state ≡ true → NoWriter (put2 part.entries c w (with_state (part.entries c w) state)) t
  unfolding put2
  flush-writers e i v j =
      grind (
        arith,
        nat_tests,
        good.copies.standing.0.0,
        good.copies.standing.0.1,
        good.copies.real_way t c w v,
        good.copies.real_alone t i v c w,
      )

  flush-values : (y : Bool) → is_dirty (part.entries c w).state ≡ y
      → FlushValues (FlushDone c t (if y then Some (part.words c w) else None))
      (put2 part.entries c w (with_state (part.entries c w) state)) (latest part.history)
  flush-values true e = ((λ j. good.values.copies t c w j good.copies.standing.0.0), flush-writers e)
  flush-values false e = tt

  -- The entry takes a light state. Where it was dirty its words, the latest, go back in the Wb, and no cache may write the block.
  pub flush-good : Good after (after_flush part c w t state rest)
  flush-good = record {
    commands = flush-commands;
    fills = good.fills;
    responses = flush-responses;
    requests = good.requests;
    taker = good.taker;
    placed = λ i y e. WaitingCopies-fewer fewer y.op y.way i (good.placed i y e);
    transaction =
        TransactionAt-moves r b (FlushSent c w t state) (FlushDone c t (words_back part c w)) inv inv
        (elim [ Idle ↦ λ p. p | FlushAsked ↦ λ p. p | FlushKept y ↦ λ p. p ]) (λ u. refl) (λ i. refl) part.transaction
        good.transaction;
    pending = good.pending;
    taken_count = good.taken_count;
    copies = record {
      matches = λ i v. flush-matches i v (good.copies.matches i v);
      one_way = good.copies.one_way;
      alone = good.copies.alone;
      one_owner = good.copies.one_owner;
      real_way = OneWay-fewer fewer good.copies.real_way;
      real_alone = Alone-fewer fewer good.copies.real_alone;
      standing = (tt, flush-going good.copies.standing.1);
    };
    values = record {
      copies = λ u i v j l. good.values.copies u i v j (fewer.holds i v u l);
      memory = λ u j home. good.values.memory u j (record { clean = flush-clean u j home; not_flying = refl; not_kept = home.not_kept });
      flying = flush-values (is_dirty (part.entries c w).state) refl;
      ungranted = OpenValues-fewer fewer (weaker-lighter c w state part.entries good.copies.standing.0.1) part.transaction _ _
          good.values.ungranted;
    };
    channels = good.channels;
    kind = refl;
    answers = good.answers;
  }

-- what a channel that begins with this command says of the flush
flush_head : (h : ℕ → ℕ → Entry) (c w t : ℕ) (state : Coh) (rest : List ToCache) (fl : Flush) (u : ℕ) (a : Ack)
    → OneWay h → Holds (h c w) t → FlushAims fl h → flush_command fl c ++ inv_command u a ≡ StWb t state ∷ rest
    → (fl ≡ FlushSent c w t state) × (rest ≡ inv_command u a)
flush_head h c w t state rest NoFlush u a one k aims e = absurd (none u a e)
  where
    none : (u : ℕ) (a : Ack) → inv_command u a ≡ StWb t state ∷ rest → ⊥
    none u a e = grind arith
flush_head h c w t state rest (FlushSent o v g y) u a one k aims e = sent o v g y aims e
  where
    sent : (o v g : ℕ) (y : Coh) → (Holds (h o v) g) × (is_light y ≡ true)
        → at_cache c o (StWb g y) ++ inv_command u a ≡ StWb t state ∷ rest
        → (FlushSent o v g y ≡ FlushSent c w t state) × (rest ≡ inv_command u a)
    sent o v g y l e = grind (arith, nat_tests, one t c w v)
flush_head h c w t state rest (FlushDone o g ws) u a one k aims e = absurd (none u a e)
  where
    none : (u : ℕ) (a : Ack) → inv_command u a ≡ StWb t state ∷ rest → ⊥
    none u a e = grind arith

-- the command comes to a cache that has the block: all stays good
pub flush_comes : (part : GroupState) (c w t : ℕ) (state : Coh) (rest : List ToCache) (p : Phase) → Good p part
    → part.command c ≡ StWb t state ∷ rest → Holds (part.entries c w) t
    → (q : Phase) × Good q (after_flush part c w t state rest)
flush_comes part c w t state rest Free good e k = absurd (cc (good.commands c))
flush_comes part c w t state rest (Open r b fl inv) good e k =
    let head : (fl ≡ FlushSent c w t state) × (rest ≡ inv_command (op_tag b.op) (inv c)) =
    flush_head part.entries c w t state rest fl (op_tag b.op) (inv c) good.copies.real_way k good.copies.standing.0
    (sym (good.commands c) ∙ e) in (
      Open r b (FlushDone c t (words_back part c w)) inv,
      flush-good part r c w t state b inv rest (subst (λ (f : Flush). Good (Open r b f inv) part) head.0 good) head.1,
    )
flush_comes part c w t state rest (Flying r b f) good e k = absurd (no_flying f r b c t rest (sym (good.commands c) ∙ e))
  where
    no_flying : (f : Flight) (r : ℕ) (b : InProgress) (c t : ℕ) (rest : List ToCache)
        → flight_command f r b c ≡ StWb t state ∷ rest → ⊥
    no_flying f r b c t rest e = grind arith
flush_comes part c w t state rest (Settling r u) good e k = absurd (cc (good.commands c))
