-- The answer of an uncached access or of an eviction comes.
use Rattle.std.proofs.Common.{◌≡◌, ℕ, ◌≢◌, false, refl, arith, List, [], ◌∷◌, ◌++◌, ◌∙◌, subst, ap}
use Rattle.std.specs.Prelude.{Some, None}
use Rattle.std.proofs.lemmas.Bool.Decides.{nat_tests}
use Rattle.bk_base.specs.Tables.{put}
use Rattle.bk_machine.specs.Entries.{Entry, Holds}
use Rattle.bk_machine.specs.Messages.{Spot, Op, UcLoad, UcStore, Evict, ToCache, CohAck}
use Rattle.bk_machine.specs.Transactions.{InProgress, paid_directory}
use Rattle.bk_machine.specs.Phases.{Flight, ByWord, ByDone, Flying, Settling, commands_of, responses_of, requests_of, flight_command, flight_fill, flight_effect}
use Rattle.bk_machine.specs.World.{GroupState}
use Rattle.bk_machine.specs.Words.{answer_is, latest, effective, after_op}
use Rattle.bk_machine.specs.Copies.{Matches}
use Rattle.bk_machine.specs.Values.{Values, AtHome, stores_at}
use Rattle.bk_machine.specs.Invariant.{Good}
use Rattle.bk_machine.proofs.Growing.{values-append, RightAnswers-append}
use Rattle.bk_machine.proofs.Unchanged.{copies-at}
use Rattle.bk_machine.proofs.Settle.{channels-granted, Values-at, OpenValues-granted}

-- the operation completes
abbrev pub finished : GroupState → ℕ → ℕ → Op → ℕ → List ToCache → GroupState
finished part c t op n rest = record part {
  command = put part.command c rest;
  busy = put part.busy c None;
  response = put part.response c (part.response c ++ CohAck t ∷ []);
  history = part.history ++ record { cache = c; op = op; answer = n } ∷ [];
}

module _ (part : GroupState) (c w : ℕ) (op : Op) (f : Flight) (rest : List ToCache)
    (good : Good (Flying c (record { op = op; way = w }) f) part) (last : rest ≡ []) where
  finished-commands : (t : ℕ) → ((i : ℕ) → i ≢ c → flight_command f c (record { op = op; way = w }) i ≡ []) → (i : ℕ)
      → put part.command c rest i ≡ commands_of (Settling c t) i
  unfolding put
  finished-commands t none i = grind (arith, nat_tests, good.commands i, none i)

  finished-responses : (t i : ℕ) → put part.response c (part.response c ++ CohAck t ∷ []) i ≡ responses_of (Settling c t) i
  unfolding put
  finished-responses t i = grind (arith, nat_tests, good.responses)

  finished-requests : (i : ℕ) → part.request i ≡ requests_of false (put part.busy c None i)
  unfolding put
  finished-requests i = grind (arith, nat_tests, good.requests i, good.taker)

  was_busy : (i : ℕ) (b : InProgress) → put part.busy c None i ≡ Some b → part.busy i ≡ Some b
  unfolding put
  was_busy i b e = grind (arith, nat_tests)

  -- where the operation's values v come to be the latest, and nothing of the copies changes
  finished-good : (t n : ℕ) → ((i : ℕ) → i ≢ c → flight_command f c (record { op = op; way = w }) i ≡ [])
      → ((i o : ℕ) → flight_fill f c (record { op = op; way = w }) i o ≡ [])
      → ((i v : ℕ) (h : Entry) → flight_effect f c (record { op = op; way = w }) i v h ≡ h)
      → answer_is op (latest part.history) n
      → Values (Settling c t) part.transaction part.entries part.words (after_op op (latest part.history))
      (effective part.memory part.memout)
      → Good (Settling c t) (finished part c t op n rest)
  finished-good t n only no_fill no_effect answer values = record {
    commands = finished-commands t only;
    fills = λ i o. good.fills i o ∙ no_fill i o;
    responses = finished-responses t;
    requests = finished-requests;
    taker = tt;
    placed = λ i b e. good.placed i b (was_busy i b e);
    transaction = good.transaction;
    pending = good.pending;
    taken_count = good.taken_count;
    copies = copies-at
        (λ i v. subst (λ (h : Entry). Matches (paid_directory part.transaction part.directory i v) h) (no_effect i v (part.entries i v))
        (good.copies.matches i v))
        tt good.copies;
    values = Values-at (values-append (λ u j. 0) part.history _) values;
    channels = channels-granted part.transaction _ _ _ _ _ good.transaction good.channels;
    kind = refl;
    answers = RightAnswers-append (λ u j. 0) part.history _ good.answers answer;
  }

word_only : (c w : ℕ) (op : Op) (n i : ℕ) → i ≢ c → flight_command (ByWord n) c (record { op = op; way = w }) i ≡ []
word_only c w op n i d = grind (arith, nat_tests)

done_only : (c w : ℕ) (op : Op) (i : ℕ) → i ≢ c → flight_command ByDone c (record { op = op; way = w }) i ≡ []
done_only c w op i d = grind (arith, nat_tests)

pub word_comes : (part : GroupState) (c t w : ℕ) (spot : Spot) (n : ℕ) (rest : List ToCache)
    → Good (Flying c (record { op = UcLoad t spot; way = w }) (ByWord n)) part → rest ≡ []
    → Good (Settling c t) (finished part c t (UcLoad t spot) (spot.of n) rest)
word_comes part c t w spot n rest good last = finished-good part c w (UcLoad t spot) (ByWord n) rest good last t (spot.of n)
    (word_only c w (UcLoad t spot) n) (λ i o. refl) (λ i v h. refl) (ap spot.of good.values.flying.0) (record {
      copies = good.values.copies;
      memory = λ u j home. good.values.memory u j (record { clean = home.clean; not_flying = refl; not_kept = home.not_kept });
      flying = tt;
      ungranted = OpenValues-granted part.transaction _ _ _ good.transaction;
    })

pub evict_comes : (part : GroupState) (c t w : ℕ) (rest : List ToCache)
    → Good (Flying c (record { op = Evict t; way = w }) ByDone) part → rest ≡ []
    → Good (Settling c t) (finished part c t (Evict t) 0 rest)
evict_comes part c t w rest good last =
    finished-good part c w (Evict t) ByDone rest good last t 0 (done_only c w (Evict t)) (λ i o. refl) (λ i v h. refl) refl (record {
      copies = good.values.copies;
      memory = λ u j home. good.values.memory u j (record { clean = home.clean; not_flying = refl; not_kept = home.not_kept });
      flying = tt;
      ungranted = OpenValues-granted part.transaction _ _ _ good.transaction;
    })

module _ (part : GroupState) (c t w number : ℕ) (change : ℕ → ℕ)
    (good : Good (Flying c (record { op = UcStore t number change; way = w }) ByDone) part) where
  store-words : (u i v j : ℕ) → Holds (part.entries i v) u → part.words i v j
      ≡ after_op (UcStore t number change) (latest part.history) u j
  store-words u i v j l = grind (arith, nat_tests, good.values.copies u i v j, good.values.flying.1 i v)

  store-memory : (u j : ℕ) → AtHome (Settling c t) part.transaction part.entries u j
      → (stores_at (UcStore t number change) u j ≡ false → effective part.memory part.memout u j ≡ latest part.history u j)
      → effective part.memory part.memout u j ≡ after_op (UcStore t number change) (latest part.history) u j
  store-memory u j home e = grind (arith, nat_tests, good.values.flying.0)

pub store_comes : (part : GroupState) (c t w number : ℕ) (change : ℕ → ℕ) (rest : List ToCache)
    → Good (Flying c (record { op = UcStore t number change; way = w }) ByDone) part → rest ≡ []
    → Good (Settling c t) (finished part c t (UcStore t number change) 0 rest)
store_comes part c t w number change rest good last = finished-good part c w (UcStore t number change) ByDone rest good last t 0
    (done_only c w (UcStore t number change)) (λ i o. refl) (λ i v h. refl) refl (record {
      copies = store-words part c t w number change good;
      memory =
          λ u j home. store-memory part c t w number change good u j home
          (λ e. good.values.memory u j (record { clean = home.clean; not_flying = e; not_kept = home.not_kept }));
      flying = tt;
      ungranted = OpenValues-granted part.transaction _ _ _ good.transaction;
    })
