-- The law of the table machine.
use Rattle.std.proofs.Common.{◌++◌, ◌∙◌, ap, ◌≡◌, ℕ, ◌+◌, ◌<◌, ◌≤◌, ◌≢◌, Bool, true, false, not, refl, arith, List, [], ◌∷◌, sym, subst}
use Rattle.std.specs.Prelude.{Option, Some, None, unwrap_or, if◌then◌else◌, ◌==◌}
use Rattle.std.proofs.lemmas.Bool.Decides.{nat_tests}
use Rattle.bk_base.specs.Places.{Shape}
use Rattle.bk_base.specs.Tables.{put}
use Rattle.bk_base.specs.declared.coh.Coh.TheVariants.{I}
use Rattle.bk_machine.specs.Entries.{Holds}
use Rattle.bk_machine.specs.Phases.{Free}
use Rattle.bk_machine.specs.Words.{Completed, RightAnswers, after_op, answer_is}
use Rattle.bk_machine.specs.Invariant.{is_free}
use Rattle.bk_machine.specs.World.{World, of_group, empty_world}
use Rattle.bk_machine.specs.Messages.{Op, request_tag, request_way}
use Rattle.bk_machine.specs.Actions.{Action, action_after, Takes, Settles, CollectsAck, CollectsAnswer, CollectsBlock, Invalidates, FlushesVictim, FlushesOwn, FlushesOwner, WritesBack, ReadsMemory, WritesWord, GrantsByBlock, GrantsByWake, GrantsByTransfer, AnswersWord, AnswersStore, AnswersEvict, PaysRequester, PaysOwner, Finishes, Idles}
use Rattle.bk_machine.proofs.Allowed.{Allowed, StepFits}
use Rattle.bk_machine.specs.Steps.{MachineStep, step_after, LoadHits, StoreHits, Asks, EvictIdles, InvComes, FlushComes, TransferComes, BlockLoads, BlockStores, WakeStores, WordComes, StoreComes, EvictComes, FillLoads, FillStores, MemoryReads, MemoryWrites, MemoryWritesWord}
use Rattle.bk_machine.proofs.View.{of_group-head, of_group-rest, put-here, put-other}
use Rattle.bk_machine.specs.Claims.{Sole, Latest, PendingAgrees, changed_in, changed_by, value_after, latest_value}
use Rattle.bk_machine.specs.Invariant.{EveryGroup}
use Rattle.bk_machine.proofs.KeepsCaches.{keeps_inv, keeps_flush, keeps_transfer, keeps_load_hit, keeps_store_hit, keeps_ask, keeps_evict_idle, keeps_block_load, keeps_block_store, keeps_wake, keeps_word, keeps_store, keeps_evict, keeps_fill_load, keeps_fill_store, keeps_read, keeps_write, keeps_write_word}
use Rattle.bk_machine.proofs.KeepsEngine.{keeps_take, keeps_settle, keeps_ack, keeps_back, keeps_got, keeps_invalidate, keeps_flush_sent, keeps_write_back, keeps_read_sent, keeps_word_sent, keeps_grant_block, keeps_grant_wake, keeps_grant_transfer, keeps_answer_word, keeps_answer_store, keeps_answer_evict, keeps_pay_own, keeps_pay_owner, keeps_finish}
use mathlib.Core.Path.{fun_ext}

-- each step and each action keeps every way group good
pub keeps_step : (shape : Shape) (g : ℕ) (a : MachineStep) (world : World) → StepFits shape g a world → EveryGroup world
    → EveryGroup (step_after g a world)
keeps_step shape g (LoadHits c t v k) world a all = keeps_load_hit g world all c t v k a.0 a.1
keeps_step shape g (StoreHits c t v k n) world a all = keeps_store_hit g world all c t v k n a.0 a.1 a.2
keeps_step shape g (Asks c v op) world a all = keeps_ask g world all c v op a.0 a.1
keeps_step shape g (EvictIdles c t) world a all = keeps_evict_idle g world all c t
keeps_step shape g (InvComes c t rest) world a all = keeps_inv g world all c t rest a
keeps_step shape g (FlushComes c v t x rest) world a all = keeps_flush g world all c v t x rest a.0 a.1
keeps_step shape g (TransferComes c v t y peer pv x rest) world a all = keeps_transfer g world all c v t y peer pv x rest a.0 a.1
keeps_step shape g (BlockLoads c t v k x ws rest) world a all = keeps_block_load g world all c t v k x ws rest a.0 a.1
keeps_step shape g (BlockStores c t v k n x ws rest) world a all = keeps_block_store g world all c t v k n x ws rest a.0 a.1 a.2
keeps_step shape g (WakeStores c t v k n rest) world a all = keeps_wake g world all c t v k n rest a.0 a.1
keeps_step shape g (WordComes c t v k n rest) world a all = keeps_word g world all c t v k n rest a.0 a.1
keeps_step shape g (StoreComes c t v k n rest) world a all = keeps_store g world all c t v k n rest a.0 a.1
keeps_step shape g (EvictComes c t v rest) world a all = keeps_evict g world all c t v rest a.0 a.1
keeps_step shape g (FillLoads c o t v k x ws rest) world a all = keeps_fill_load g world all c o t v k x ws rest a.0 a.1
keeps_step shape g (FillStores c o t v k n x ws rest) world a all = keeps_fill_store g world all c o t v k n x ws rest a.0 a.1 a.2
keeps_step shape g (MemoryReads t rest) world a all = keeps_read g world all t rest a
keeps_step shape g (MemoryWrites t ws rest) world a all = keeps_write g world all t ws rest a
keeps_step shape g (MemoryWritesWord t k n rest) world a all = keeps_write_word g world all t k n rest a

-- each action keeps every group good, by its own lemma
pub keeps : (g : ℕ) (a : Action) (world : World) → Allowed g a world → EveryGroup world → EveryGroup (action_after g a world)
keeps g (Takes c q rest) world a all = keeps_take g world all c q rest a.0 a.1 a.2
keeps g (Settles c t rest) world a all = keeps_settle g world all c t rest a.0 a.1
keeps g (CollectsAck c t rest x) world a all = keeps_ack g world all x a.0.is c t rest a.0.ungranted a.1
keeps g (CollectsAnswer c t ws rest x) world a all = keeps_back g world all x a.0.is c t ws rest a.0.ungranted a.1
keeps g (CollectsBlock t ws rest x) world a all = keeps_got g world all x a.0.is t ws rest a.0.ungranted a.1 a.2
keeps g (Invalidates f to x) world a all = keeps_invalidate g world all x a.0.is f to a.0.ungranted a.1 a.2 a.3 a.4
keeps g (FlushesVictim x) world a all =
    keeps_flush_sent g world all x a.ungranted.is x.cache (request_way x.request) (world.directory g x.cache (request_way x.request)).tag I
    a.ungranted.ungranted a.idle a.aims a.light a.weaker a.own
keeps g (FlushesOwn v y x) world a all =
    keeps_flush_sent g world all x a.ungranted.is x.cache v (request_tag x.request) y a.ungranted.ungranted a.idle a.aims a.light
    a.weaker a.own
keeps g (FlushesOwner o v y x) world a all =
    keeps_flush_sent g world all x a.ungranted.is o v (request_tag x.request) y a.ungranted.ungranted a.idle a.aims a.light a.weaker a.own
keeps g (WritesBack b x) world a all = keeps_write_back g world all x a.0.is b a.0.ungranted a.1
keeps g (ReadsMemory x) world a all = keeps_read_sent g world all x a.0.is a.0.ungranted a.1 a.2 a.3 a.4
keeps g (WritesWord t k n x) world a all =
    keeps_word_sent g world all x a.0.ungranted.is t k n a.0.ungranted.ungranted a.0.idle a.0.acked a.1 a.2 a.3 a.4
keeps g (GrantsByBlock ws y x) world a all =
    keeps_grant_block g world all x a.0.ungranted.is ws y a.0.ungranted.ungranted a.0.idle a.0.acked a.1 a.2 a.3 a.4 a.5 a.6
keeps g (GrantsByWake t v x) world a all =
    keeps_grant_wake g world all x a.0.ungranted.is t v a.3.0 a.0.ungranted.ungranted a.0.idle a.0.acked a.1 a.2 a.3.1 a.4
keeps g (GrantsByTransfer o ow y z x) world a all =
    keeps_grant_transfer g world all x a.0.ungranted.is o ow y z a.0.ungranted.ungranted a.0.idle a.0.acked a.1 a.2 a.3 a.4 a.5
    a.6 a.7 a.8 a.9
keeps g (AnswersWord t k ws x) world a all =
    keeps_answer_word g world all x a.0.ungranted.is t k ws a.0.ungranted.ungranted a.0.idle a.0.acked a.1 a.2
keeps g (AnswersStore t k n x) world a all =
    keeps_answer_store g world all x a.0.ungranted.is t k n a.0.ungranted.ungranted a.0.idle a.0.acked a.1 a.2 a.3
keeps g (AnswersEvict t v x) world a all =
    keeps_answer_evict g world all x a.0.ungranted.is t v a.0.ungranted.ungranted a.0.idle a.0.acked a.1 a.2
keeps g (PaysRequester d x) world a all = keeps_pay_own g world all x a.0.is d a.0.granted a.1
keeps g (PaysOwner d x) world a all = keeps_pay_owner g world all x a.0.is d a.0.granted a.1
keeps g (Finishes x) world a all = keeps_finish g world all x a.0.is a.0.granted a.1 a.2
keeps g Idles world a all = all

-- the empty system is good
pub no-entry : (t : ℕ) → Holds (record { tag = 0; state = I }) t → ⊥
no-entry t k = absurd (cc k.is_valid)

-- Nothing is held and nothing is under way, so each fact holds by itself.
pub start : (ways : ℕ) → EveryGroup (empty_world ways)
start ways s = (
  Free,
  record {
    commands = λ c. refl;
    fills = λ c o. refl;
    responses = λ c. refl;
    requests = λ c. refl;
    taker = tt;
    placed = λ c b e. absurd (cc e);
    transaction = tt;
    pending = refl;
    taken_count = refl;
    copies = record {
      matches = λ c v. record { covered = refl; same_tag = λ e. refl };
      one_way = λ t c v i k l. absurd (no-entry t k);
      alone = λ t c v o i k l n. absurd (no-entry t k);
      one_owner = λ t c v o i k l n e. absurd (no-entry t k);
      real_way = λ t c v i k l. absurd (no-entry t k);
      real_alone = λ t c v o i k l n. absurd (no-entry t k);
      standing = tt;
    };
    values = record { copies = λ t c v k l. refl; memory = λ t k home. refl; flying = tt; ungranted = tt };
    channels = record { count = refl; to = tt; back = tt };
    kind = refl;
    answers = tt;
  },
)

-- what good groups say of the system

pub sole : (world : World) → EveryGroup world → Sole world
sole world all = record {
  alone = λ s t c v o i k l n. (all s).1.copies.real_alone t c v o i k l n;
  one_way = λ s t c v i k l. (all s).1.copies.real_way t c v i k l;
}

-- each answer of a history is right, where the words had these values (by group, tag, word) at first
abbrev AllAnswers : (ℕ → ℕ → ℕ → ℕ) → List (ℕ × Completed) → Type 0
AllAnswers v [] = Unit {0}
AllAnswers v (d ∷ ds) = answer_is d.1.op (v d.0) d.1.answer × AllAnswers (put v d.0 (after_op d.1.op (v d.0))) ds

answers-tail : (g u : ℕ) (v : ℕ → ℕ → ℕ → ℕ) (d : Completed) (ds : List (ℕ × Completed))
    → ((i : ℕ) → RightAnswers (v i) (of_group i ((g, d) ∷ ds)))
    → RightAnswers (put v g (after_op d.op (v g)) u) (of_group u ds)
answers-tail g u v d ds f = decide (u == g) refl
  where
    is : (u == g) ≡ true → g ≡ u
    is e = grind (arith, nat_tests)

    differs : (u == g) ≡ false → u ≢ g
    differs e = grind (arith, nat_tests)

    decide : (b : Bool) → (u == g) ≡ b → RightAnswers (put v g (after_op d.op (v g)) u) (of_group u ds)
    decide true e = subst (λ (i : ℕ). RightAnswers (put v g (after_op d.op (v g)) i) (of_group i ds)) (is e)
        (subst (λ (x : ℕ → ℕ → ℕ). RightAnswers x (of_group g ds)) (sym (put-here v g (after_op d.op (v g))))
        (subst (λ (xs : List Completed). RightAnswers (v g) xs) (of_group-head g ((g, d) ∷ ds) ds d refl) (f g)).1)
    decide false e = subst (λ (x : ℕ → ℕ → ℕ). RightAnswers x (of_group u ds))
        (sym (put-other v g u (after_op d.op (v g)) (differs e)))
        (subst (λ (xs : List Completed). RightAnswers (v u) xs) (sym (of_group-rest u g ((g, d) ∷ ds) ds d (differs e) refl)) (f u))

all-answers : (v : ℕ → ℕ → ℕ → ℕ) (ds : List (ℕ × Completed)) → ((g : ℕ) → RightAnswers (v g) (of_group g ds))
    → AllAnswers v ds
all-answers v [] f = tt
all-answers v (x ∷ ds) f = (
  (subst (λ (xs : List Completed). RightAnswers (v x.0) xs) (of_group-head x.0 (x ∷ ds) ds x.1 refl) (f x.0)).0,
  all-answers (put v x.0 (after_op x.1.op (v x.0))) ds (λ u. answers-tail x.0 u v x.1 ds f),
)

-- the words' values after a history
abbrev tables : (ℕ → ℕ → ℕ → ℕ) → List (ℕ × Completed) → ℕ → ℕ → ℕ → ℕ
tables v [] = v
tables v (d ∷ ds) = tables (put v d.0 (after_op d.1.op (v d.0))) ds

answer-at : (v : ℕ → ℕ → ℕ → ℕ) (xs : List (ℕ × Completed)) (d : ℕ × Completed) (ys : List (ℕ × Completed))
    → AllAnswers v (xs ++ d ∷ ys)
    → answer_is d.1.op (tables v xs d.0) d.1.answer
answer-at v [] d ys a = a.0
answer-at v (x ∷ xs) d ys a = answer-at (put v x.0 (after_op x.1.op (v x.0))) xs d ys a.1

after-store : (op : Op) (v : ℕ → ℕ → ℕ) (t j : ℕ) → after_op op v t j ≡ changed_in op t j (v t j)
after-store op v t j = grind (arith, nat_tests)

tables-are : (v : ℕ → ℕ → ℕ → ℕ) (xs : List (ℕ × Completed)) (g t j : ℕ)
    → tables v xs g t j ≡ value_after (v g t j) xs g t j
unfolding put
tables-are v [] s t k = refl
tables-are v (d ∷ ds) s t k =
    tables-are (put v d.0 (after_op d.1.op (v d.0))) ds s t k ∙ ap (λ (i : ℕ). value_after i ds s t k) one
  where
    one : put v d.0 (after_op d.1.op (v d.0)) s t k ≡ changed_by d s t k (v s t k)
    one = decide (s == d.0) refl
      where
        is : (s == d.0) ≡ true → d.0 ≡ s
        is e = grind (arith, nat_tests)

        decide : (b : Bool) → (s == d.0) ≡ b → (if b then after_op d.1.op (v d.0) else v s) t k
            ≡ (if b then changed_in d.1.op t k (v s t k) else v s t k)
        decide true e = after-store d.1.op (v d.0) t k ∙ ap (λ (i : ℕ). changed_in d.1.op t k (v i t k)) (is e)
        decide false e = refl

value-is : (xs : List (ℕ × Completed)) (g t j : ℕ) → tables (λ g t j. 0) xs g t j ≡ latest_value xs g t j
value-is xs g t j = tables-are (λ g t j. 0) xs g t j

pub latest_stores : (world : World) → EveryGroup world → Latest world
latest_stores world all = record {
  answers = λ xs d ys e. subst (λ (v : ℕ → ℕ → ℕ). answer_is d.1.op v d.1.answer)
      (fun_ext (λ t. fun_ext (λ k. value-is xs d.0 t k)))
      (answer-at (λ s t k. 0) xs d ys
      (subst (λ (ds : List (ℕ × Completed)). AllAnswers (λ s t k. 0) ds) e
      (all-answers (λ s t k. 0) world.history (λ s. (all s).1.answers))));
}

pub pending_agrees : (world : World) → EveryGroup world → PendingAgrees world
pending_agrees world all = record {
  pending = λ g e. here g e ((all g).1.pending) ((all g).1.taken_count);
  free = λ g e. gone g e ((all g).1.pending) ((all g).1.taken_count);
  one = λ g. most g ((all g).1.taken_count);
}
  where
    here : (g : ℕ) → world.pending g ≡ true → world.pending g ≡ not (is_free (all g).0)
        → world.taken_count g ≡ world.settled_count g + (if is_free (all g).0 then 0 else 1)
        → world.settled_count g < world.taken_count g
    here g e f k = grind arith

    gone : (g : ℕ) → world.pending g ≡ false → world.pending g ≡ not (is_free (all g).0)
        → world.taken_count g ≡ world.settled_count g + (if is_free (all g).0 then 0 else 1)
        → world.taken_count g ≡ world.settled_count g
    gone g e f k = grind arith

    most : (g : ℕ) → world.taken_count g ≡ world.settled_count g + (if is_free (all g).0 then 0 else 1)
        → world.taken_count g ≤ world.settled_count g + 1
    most g k = grind arith
