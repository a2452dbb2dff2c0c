-- A block or a wake comes to the cache that waits for it.
use Rattle.std.proofs.Common.{◌≡◌, ℕ, ◌≢◌, true, false, ◌&&◌, refl, ap, arith, List, [], ◌∷◌, ◌++◌}
use Rattle.std.specs.Prelude.{Some, None, if◌then◌else◌, ◌==◌}
use Rattle.std.proofs.lemmas.Bool.Decides.{nat_tests}
use Rattle.bk_base.specs.Tables.{put}
use Rattle.bk_machine.specs.Tables.{put2}
use Rattle.bk_machine.specs.Entries.{Holds}
use Rattle.bk_machine.specs.Messages.{Op, Spot, Load, Store, ToCache, FillMessage, CohAck}
use Rattle.bk_machine.specs.Transactions.{InProgress, paid_directory}
use Rattle.bk_machine.specs.Phases.{Flight, Flying, Settling, commands_of, fills_of, responses_of, requests_of}
use Rattle.bk_machine.specs.World.{GroupState}
use Rattle.bk_machine.specs.Words.{RightAnswers, latest, effective, after_op}
use Rattle.bk_machine.specs.Copies.{Copies, Matches, OneWay}
use Rattle.bk_machine.specs.Values.{SameWords, Values, flight_away}
use Rattle.bk_machine.specs.Invariant.{Good, WaitingCopies}
use Rattle.bk_machine.proofs.Growing.{values-append, RightAnswers-append}
use Rattle.bk_machine.proofs.Settle.{OpenValues-granted, WaitingCopies-same, settled-copies, channels-granted, Values-at}
use Rattle.bk_base.specs.declared.coh.Coh.{Coh}
use Rattle.bk_base.specs.declared.coh.Coh.TheVariants.{M}
use Rattle.bk_base.specs.States.{is_readable, is_writable, is_dirty}

-- the cache takes the block, and its operation completes
abbrev pub loaded : GroupState → ℕ → ℕ → ℕ → Coh → (ℕ → ℕ) → Spot → GroupState
loaded part c t w state ws spot = record part {
  entries = put2 part.entries c w (record { tag = t; state = state });
  words = put2 part.words c w ws;
  busy = put part.busy c None;
  response = put part.response c (part.response c ++ CohAck t ∷ []);
  history = part.history ++ record { cache = c; op = Load t spot; answer = spot.of (ws spot.word) } ∷ [];
}

abbrev pub stored : GroupState → ℕ → ℕ → ℕ → (ℕ → ℕ) → ℕ → (ℕ → ℕ) → GroupState
stored part c t w ws j change = record part {
  entries = put2 part.entries c w (record { tag = t; state = M });
  words = put2 part.words c w (put ws j (change (ws j)));
  busy = put part.busy c None;
  response = put part.response c (part.response c ++ CohAck t ∷ []);
  history = part.history ++ record { cache = c; op = Store t j change; answer = 0 } ∷ [];
}

-- what does not turn on how the block came
module _ (part : GroupState) (c t w : ℕ) (op : Op) (state : Coh) (f : Flight)
    (good : Good (Flying c (record { op = op; way = w }) f) part) where
  arrive-responses : (i : ℕ) → put part.response c (part.response c ++ CohAck t ∷ []) i ≡ responses_of (Settling c t) i
  unfolding put
  arrive-responses i = grind (arith, nat_tests, good.responses)

  arrive-requests : (i : ℕ) → part.request i ≡ requests_of false (put part.busy c None i)
  unfolding put
  arrive-requests i = grind (arith, nat_tests, good.requests i, good.taker)

  arrive-placed : (y : Coh) (i : ℕ) (b : InProgress) → put part.busy c None i ≡ Some b
      → WaitingCopies b.op b.way (put2 part.entries c w (record { tag = t; state = y }) i)
  unfolding put put2
  arrive-placed y i b e =
      WaitingCopies-same b.op b.way (part.entries i) (put2 part.entries c w (record { tag = t; state = y }) i)
      (λ v. grind (arith, nat_tests)) (good.placed i b (grind (arith, nat_tests)))

  arrive-loaded : ((i v : ℕ)
      → Matches (paid_directory part.transaction part.directory i v) (if i == c && v == w then record { tag = t; state = state }
      else part.entries i v))
      → (i v : ℕ) → Matches (paid_directory part.transaction part.directory i v)
      (put2 part.entries c w (record { tag = t; state = state }) i v)
  unfolding put2
  arrive-loaded m i v = m i v

  arrive-stored : ((i v : ℕ)
      → Matches (paid_directory part.transaction part.directory i v) (if i == c && v == w then record { tag = t; state = state }
      else part.entries i v))
      → is_writable state ≡ true
      → (i v : ℕ) → Matches (paid_directory part.transaction part.directory i v)
      (put2 part.entries c w (record { tag = t; state = M }) i v)
  unfolding put2
  arrive-stored m e i v = grind (arith, nat_tests, m i v)

  pub loaded-copies : ((i v : ℕ)
      → Matches (paid_directory part.transaction part.directory i v) (if i == c && v == w then record { tag = t; state = state }
      else part.entries i v))
      → Copies (Settling c t) (paid_directory part.transaction part.directory) (put2 part.entries c w (record { tag = t; state = state }))
  loaded-copies m =
      settled-copies (Settling c t) (paid_directory part.transaction part.directory) _ (arrive-loaded m) (arrive-loaded m)
      good.copies.one_way good.copies.alone good.copies.one_owner tt

  pub stored-copies : ((i v : ℕ)
      → Matches (paid_directory part.transaction part.directory i v) (if i == c && v == w then record { tag = t; state = state }
      else part.entries i v))
      → is_writable state ≡ true
      → Copies (Settling c t) (paid_directory part.transaction part.directory) (put2 part.entries c w (record { tag = t; state = M }))
  stored-copies m e =
      settled-copies (Settling c t) (paid_directory part.transaction part.directory) _ (arrive-stored m e) (arrive-stored m e)
      good.copies.one_way good.copies.alone good.copies.one_owner tt

  -- The operation completes. The channels of its message, and its entry, words and answer, are given; the rest is the same for all.
  pub arrived : (y : Coh) (commands : ℕ → List ToCache) (fills : ℕ → ℕ → List FillMessage) (words : ℕ → ℕ
      → ℕ → ℕ) (n : ℕ)
      → ((i : ℕ) → commands i ≡ commands_of (Settling c t) i) → ((i o : ℕ) → fills i o ≡ fills_of (Settling c t) i o)
      → Copies (Settling c t) (paid_directory part.transaction part.directory) (put2 part.entries c w (record { tag = t; state = y }))
      → Values (Settling c t) part.transaction (put2 part.entries c w (record { tag = t; state = y })) words
      (after_op op (latest part.history))
      (effective part.memory part.memout)
      → RightAnswers (λ u j. 0) (part.history ++ record { cache = c; op = op; answer = n } ∷ [])
      → Good (Settling c t) (record part {
        command = commands;
        fill = fills;
        entries = put2 part.entries c w (record { tag = t; state = y });
        words = words;
        busy = put part.busy c None;
        response = put part.response c (part.response c ++ CohAck t ∷ []);
        history = part.history ++ record { cache = c; op = op; answer = n } ∷ [];
      })
  arrived y commands fills words n to-cache between copies values answers = record {
    commands = to-cache;
    fills = between;
    responses = arrive-responses;
    requests = arrive-requests;
    taker = tt;
    placed = arrive-placed y;
    transaction = good.transaction;
    pending = good.pending;
    taken_count = good.taken_count;
    copies = copies;
    values = Values-at (values-append (λ u j. 0) part.history _) values;
    channels = channels-granted part.transaction _ _ _ _ _ good.transaction good.channels;
    kind = refl;
    answers = answers;
  }

module _ (part : GroupState) (c t w : ℕ) (spot : Spot) (state : Coh) (ws : ℕ → ℕ) (f : Flight)
    (good : Good (Flying c (record { op = Load t spot; way = w }) f) part)
    (same : SameWords ws (latest part.history t))
    (old_clean : (u : ℕ) → Holds (part.entries c w) u → is_dirty (part.entries c w).state ≡ false)
    (flies : (u j : ℕ) → (u ≡ t → is_dirty state ≡ false) → flight_away f (record { op = Load t spot; way = w }) u j
    ≡ false) where
  loaded-words : (u i v j : ℕ) → Holds (put2 part.entries c w (record { tag = t; state = state }) i v) u
      → put2 part.words c w ws i v j ≡ latest part.history u j
  unfolding put2
  loaded-words u i v j l = grind (arith, nat_tests, good.values.copies u i v j, same j)

  loaded-clean : (u : ℕ)
      → ((i v : ℕ) → Holds (put2 part.entries c w (record { tag = t; state = state }) i v) u
      → is_dirty (put2 part.entries c w (record { tag = t; state = state }) i v).state ≡ false)
      → (i v : ℕ) → Holds (part.entries i v) u → is_dirty (part.entries i v).state ≡ false
  unfolding put2
  loaded-clean u home i v l = grind (arith, nat_tests, home i v, old_clean u)

  loaded-here : (u : ℕ) → is_readable state ≡ true
      → ((i v : ℕ) → Holds (put2 part.entries c w (record { tag = t; state = state }) i v) u
      → is_dirty (put2 part.entries c w (record { tag = t; state = state }) i v).state ≡ false)
      → u ≡ t → is_dirty state ≡ false
  unfolding put2
  loaded-here u y home e = grind (arith, nat_tests, home c w)

  pub loaded-values : is_readable state ≡ true
      → Values (Settling c t) part.transaction (put2 part.entries c w (record { tag = t; state = state })) (put2 part.words c w ws)
      (latest part.history) (effective part.memory part.memout)
  loaded-values y = record {
    copies = loaded-words;
    memory = λ u j home. good.values.memory u j (record {
      clean = loaded-clean u home.clean;
      not_flying = flies u j (loaded-here u y home.clean);
      not_kept = home.not_kept;
    });
    flying = tt;
    ungranted = OpenValues-granted part.transaction _ _ _ good.transaction;
  }

  pub loaded-answers : RightAnswers (λ u j. 0) (part.history ++ record
      { cache = c; op = Load t spot; answer = spot.of (ws spot.word) } ∷ [])
  loaded-answers = RightAnswers-append (λ u j. 0) part.history _ good.answers (ap spot.of (same spot.word))

module _ (part : GroupState) (c t w number : ℕ) (change : ℕ → ℕ) (ws : ℕ → ℕ) (f : Flight)
    (good : Good (Flying c (record { op = Store t number change; way = w }) f) part)
    (same : SameWords ws (latest part.history t))
    (alone : (i v : ℕ) → Holds (put2 part.entries c w (record { tag = t; state = M }) i v) t → i ≡ c)
    (one_way : OneWay (put2 part.entries c w (record { tag = t; state = M })))
    (old_clean : (u : ℕ) → u ≢ t → Holds (part.entries c w) u → is_dirty (part.entries c w).state ≡ false)
    (flies : (u j : ℕ) → u ≢ t → flight_away f (record { op = Store t number change; way = w }) u j ≡ false) where
  stored-words : (u i v j : ℕ) → Holds (put2 part.entries c w (record { tag = t; state = M }) i v) u
      → put2 part.words c w (put ws number (change (ws number))) i v j ≡ after_op (Store t number change) (latest part.history) u j
  unfolding put2 put
  stored-words u i v j l = grind (arith, nat_tests, good.values.copies u i v j, same j, alone i v, one_way t i v w)

  stored-clean : (u : ℕ) → u ≢ t
      → ((i v : ℕ) → Holds (put2 part.entries c w (record { tag = t; state = M }) i v) u
      → is_dirty (put2 part.entries c w (record { tag = t; state = M }) i v).state ≡ false)
      → (i v : ℕ) → Holds (part.entries i v) u → is_dirty (part.entries i v).state ≡ false
  unfolding put2
  stored-clean u d home i v l = grind (arith, nat_tests, home i v, old_clean u)

  stored-elsewhere : (u : ℕ)
      → ((i v : ℕ) → Holds (put2 part.entries c w (record { tag = t; state = M }) i v) u
      → is_dirty (put2 part.entries c w (record { tag = t; state = M }) i v).state ≡ false)
      → u ≢ t
  unfolding put2
  stored-elsewhere u home = grind (arith, nat_tests, home c w)

  stored-memory : (u j : ℕ) → u ≢ t → effective part.memory part.memout u j ≡ latest part.history u j
      → effective part.memory part.memout u j ≡ after_op (Store t number change) (latest part.history) u j
  stored-memory u j d e = grind (arith, nat_tests)

  pub stored-values : Values (Settling c t) part.transaction (put2 part.entries c w (record { tag = t; state = M }))
      (put2 part.words c w (put ws number (change (ws number)))) (after_op (Store t number change) (latest part.history))
      (effective part.memory part.memout)
  stored-values = record {
    copies = stored-words;
    memory = λ u j home. stored-memory u j (stored-elsewhere u home.clean) (good.values.memory u j (record {
      clean = stored-clean u (stored-elsewhere u home.clean) home.clean;
      not_flying = flies u j (stored-elsewhere u home.clean);
      not_kept = home.not_kept;
    }));
    flying = tt;
    ungranted = OpenValues-granted part.transaction _ _ _ good.transaction;
  }
