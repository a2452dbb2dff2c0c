-- A command to hand a block on comes to its owner.
use Rattle.std.proofs.Common.{◌≡◌, ℕ, true, false, refl, arith, List, [], ◌∷◌, ◌++◌, sym, ◌∙◌, subst}
use Rattle.std.proofs.lemmas.Bool.Decides.{nat_tests}
use Rattle.bk_base.specs.Tables.{put}
use Rattle.bk_machine.specs.Tables.{put2}
use Rattle.bk_machine.specs.Entries.{Entry, Holds, with_state, is_light}
use Rattle.bk_machine.specs.Messages.{ToCache, StTr, Blk, StWake, UcBlk, op_tag, op_word}
use Rattle.bk_machine.specs.Transactions.{InProgress, paid_directory}
use Rattle.bk_machine.specs.Phases.{Flush, Ack, Flight, ByBlock, ByWake, ByTransfer, ByFill, ByWord, ByDone, Phase, Free, Open, Flying, Settling, commands_of, fills_of, at_cache, expected_entry, flush_command, inv_command, flight_command, uncached_done}
use Rattle.bk_machine.specs.World.{GroupState}
use Rattle.bk_machine.specs.Copies.{Matches, OneWay, FlightAims, Transferring}
use Rattle.bk_machine.specs.Values.{AtHome}
use Rattle.bk_machine.specs.Invariant.{Good}
use Rattle.bk_machine.proofs.Settle.{OpenValues-granted}
use Rattle.bk_machine.proofs.Fewer.{Fewer, weaker-fewer, OneWay-fewer, Alone-fewer, WaitingCopies-fewer}
use Rattle.bk_base.specs.declared.coh.Coh.{Coh}
use Rattle.bk_base.specs.States.{is_dirty}

abbrev pub after_transfer : GroupState → ℕ → ℕ → ℕ → Coh → ℕ → ℕ → Coh → List ToCache → GroupState
after_transfer part c w t y peer way state rest = record part {
  entries = put2 part.entries c w (with_state (part.entries c w) y);
  command = put part.command c rest;
  fill = put2 part.fill peer c (part.fill peer c ++ record { tag = t; way = way; state = state; words = part.words c w } ∷ []);
}

module _ (part : GroupState) (r c w t : ℕ) (y state : Coh) (b : InProgress) (rest : List ToCache)
    (good : Good (Flying r b (ByTransfer c w y state)) part) (tag : t ≡ op_tag b.op) (last : rest ≡ []) where
  abbrev pub after : Phase
  after = Flying r b (ByFill c state (part.words c w))

  transfer-commands : (i : ℕ) → put part.command c rest i ≡ commands_of after i
  unfolding put
  transfer-commands i = grind (arith, nat_tests, good.commands i)

  transfer-fills : (i o : ℕ)
      → put2 part.fill r c (part.fill r c ++ record { tag = t; way = b.way; state = state; words = part.words c w } ∷ []) i o
      ≡ fills_of after i o
  unfolding put2
  transfer-fills i o = grind (arith, nat_tests, good.fills)

  has : Holds (part.entries c w) t
  has = rw tag good.copies.standing.has

  fewer : Fewer (put2 part.entries c w (with_state (part.entries c w) y)) part.entries
  fewer = weaker-fewer c w y part.entries good.copies.standing.weaker has.is_valid

  transfer-matches : (i v : ℕ)
      → Matches (paid_directory part.transaction part.directory i v)
      (expected_entry (Flying r b (ByTransfer c w y state)) i v (part.entries i v))
      → Matches (paid_directory part.transaction part.directory i v)
      (expected_entry after i v (put2 part.entries c w (with_state (part.entries c w) y) i v))
  unfolding put2
  transfer-matches i v m = grind (arith, nat_tests)

  transfer-light : is_light (put2 part.entries c w (with_state (part.entries c w) y) r b.way).state ≡ true
  unfolding put2
  transfer-light = grind (arith, nat_tests, good.copies.standing)

  transfer-clean : (u j : ℕ)
      → AtHome after part.transaction (put2 part.entries c w (with_state (part.entries c w) y)) u j → (i v : ℕ)
      → Holds (part.entries i v) u
      → is_dirty (part.entries i v).state ≡ false
  unfolding put2
  transfer-clean u j home i v l = grind (arith, nat_tests, good.copies.standing, home.clean i v, home.not_flying)

  -- The owner's words, the latest, go on in the Fill, and its entry takes the weaker state. What was dirty is so on one side.
  pub transfer-good : Good after (after_transfer part c w t y r b.way state rest)
  transfer-good = record {
    commands = transfer-commands;
    fills = transfer-fills;
    responses = good.responses;
    requests = good.requests;
    taker = good.taker;
    placed = λ i z e. WaitingCopies-fewer fewer z.op z.way i (good.placed i z e);
    transaction = good.transaction;
    pending = good.pending;
    taken_count = good.taken_count;
    copies = record {
      matches = λ i v. transfer-matches i v (good.copies.matches i v);
      one_way = good.copies.one_way;
      alone = good.copies.alone;
      one_owner = good.copies.one_owner;
      real_way = OneWay-fewer fewer good.copies.real_way;
      real_alone = Alone-fewer fewer good.copies.real_alone;
      standing = record { light = transfer-light; is_valid = good.copies.standing.is_valid };
    };
    values = record {
      copies = λ u i v j l. good.values.copies u i v j (fewer.holds i v u l);
      memory = λ u j home. good.values.memory u j (record {
        clean = transfer-clean u j home;
        not_flying = refl;
        not_kept = home.not_kept;
      });
      flying = λ j. good.values.copies (op_tag b.op) c w j good.copies.standing.has;
      ungranted = OpenValues-granted part.transaction _ _ _ good.transaction;
    };
    channels = good.channels;
    kind = good.kind;
    answers = good.answers;
  }

-- what a channel that begins with this command says of the flight
pub record TransferHead (c w t : ℕ) (y : Coh) (peer way : ℕ) (state : Coh) (rest : List ToCache) (f : Flight) (r : ℕ)
    (b : InProgress) : Type 0 where
  pub flight : f ≡ ByTransfer c w y state
  pub is_peer : peer ≡ r
  pub is_way : way ≡ b.way
  pub tag : t ≡ op_tag b.op
  pub last : rest ≡ []

-- Of the grants only a transfer sends a StTr, and it is the only command of the group in its channel.
transfer_head : (h : ℕ → ℕ → Entry) (c w t : ℕ) (y : Coh) (peer way : ℕ) (state : Coh) (rest : List ToCache) (r : ℕ)
    (b : InProgress) (f : Flight)
    → OneWay h → Holds (h c w) t → FlightAims f r b h → flight_command f r b c ≡ StTr t y peer way state ∷ rest
    → TransferHead c w t y peer way state rest f r b
transfer_head h c w t y peer way state rest r b (ByBlock z ws) one k aims e = absurd (cc-none e)
  where
    cc-none : at_cache c r (Blk (op_tag b.op) b.way z ws) ≡ StTr t y peer way state ∷ rest → ⊥
    cc-none e = grind arith
transfer_head h c w t y peer way state rest r b ByWake one k aims e = absurd (cc-none e)
  where
    cc-none : at_cache c r (StWake (op_tag b.op) b.way) ≡ StTr t y peer way state ∷ rest → ⊥
    cc-none e = grind arith
transfer_head h c w t y peer way state rest r b (ByTransfer o ow z u) one k aims e = sent o ow z u aims e
  where
    sent : (o ow : ℕ) (z u : Coh) → Transferring r o ow b z u h → at_cache c o (StTr (op_tag b.op) z r b.way u)
        ≡ StTr t y peer way state ∷ rest
        → TransferHead c w t y peer way state rest (ByTransfer o ow z u) r b
    sent o ow z u l e = record {
      flight = grind (arith, nat_tests, one t c w ow);
      is_peer = grind (arith, nat_tests);
      is_way = grind (arith, nat_tests);
      tag = grind (arith, nat_tests);
      last = grind (arith, nat_tests);
    }
transfer_head h c w t y peer way state rest r b (ByFill o z ws) one k aims e = absurd (cc e)
transfer_head h c w t y peer way state rest r b (ByWord n) one k aims e = absurd (cc-none e)
  where
    cc-none : at_cache c r (UcBlk (op_tag b.op) (op_word b.op) n) ≡ StTr t y peer way state ∷ rest → ⊥
    cc-none e = grind arith
transfer_head h c w t y peer way state rest r b ByDone one k aims e = absurd (cc-none e)
  where
    cc-none : at_cache c r (uncached_done b.op) ≡ StTr t y peer way state ∷ rest → ⊥
    cc-none e = grind arith

-- the command comes to a cache that has the block: all stays good
pub transfer_comes : (part : GroupState) (c w t : ℕ) (y : Coh) (peer way : ℕ) (state : Coh) (rest : List ToCache) (p : Phase)
    → Good p part
    → part.command c ≡ StTr t y peer way state ∷ rest → Holds (part.entries c w) t
    → (q : Phase) × Good q (after_transfer part c w t y peer way state rest)
transfer_comes part c w t y peer way state rest Free good e k = absurd (cc (good.commands c))
transfer_comes part c w t y peer way state rest (Open r b fl inv) good e k =
    absurd (no_open fl (op_tag b.op) (inv c) (sym (good.commands c) ∙ e))
  where
    no_open : (fl : Flush) (u : ℕ) (a : Ack) → flush_command fl c ++ inv_command u a ≡ StTr t y peer way state ∷ rest → ⊥
    no_open fl u a e = grind arith
transfer_comes part c w t y peer way state rest (Flying r b f) good e k =
    let head : TransferHead c w t y peer way state rest f r b = transfer_head part.entries c w t y peer way state rest r b f
    good.copies.real_way k good.copies.standing (sym (good.commands c) ∙ e) in (
      Flying r b (ByFill c state (part.words c w)),
      rw (head.is_peer, head.is_way)
          (transfer-good part r c w t y state b rest (subst (λ (f : Flight). Good (Flying r b f) part) head.flight good)
          head.tag head.last),
    )
transfer_comes part c w t y peer way state rest (Settling r u) good e k = absurd (cc (good.commands c))
