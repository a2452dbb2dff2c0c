-- The latest values of words by address, from the machine's by group, tag and place.
use Rattle.std.proofs.Common.{◌≡◌, ℕ, ◌<◌, eqb, ◌&&◌, Bool, true, false, cond, refl, sym, ap, ◌∙◌, subst, List, [], ◌∷◌, ◌++◌, map, Option, Some, None}
use Rattle.std.specs.Prelude.{unwrap_or}
use Rattle.std.proofs.lemmas.List.{map-append}
use Rattle.bk_base.specs.Counting.{or_else}
use Rattle.bk_base.specs.Places.{Shape, IsAddr, group_of, tag_at, word_of}
use Rattle.bk_base.specs.declared.op.Op.{Op}
use Rattle.bk_base.specs.declared.op.Op.TheVariants as ops
use Rattle.bk_base.specs.declared.op.Done.{Done}
use Rattle.bk_lce.specs.CacheTable.{address_of}
use Rattle.bk_system.specs.State.{State}
use Rattle.bk_machine.specs.Claims.{Latest, changed_by, value_after, latest_value}
use Rattle.bk_machine.specs.Products.{completed_of}
use Rattle.bk_machine.specs.Transactions.{Transaction}
use Rattle.bk_machine.specs.Words.{answer_is}
use Rattle.bk_bridge.specs.Formed.{AreAddressed}
use Rattle.bk_bridge.specs.Worlds.{world_of}
use Rattle.bk_bridge.proofs.Places.{words_apart}
use Rattle.bk_coherent.specs.Coherent.{stored_at, latest_store, right_answer, AnswersLatest}

module _ (k : Shape) (some : 0 < k.sets) where
  -- a store is into the word where group, tag and place are the word's
  same-store : (a addr value n : ℕ) → IsAddr a → IsAddr addr
      → cond (eqb (group_of k a) (group_of k addr))
      (cond (eqb (tag_at k a) (tag_at k addr) && eqb (word_of a) (word_of addr)) value n) n
      ≡ unwrap_or (cond (eqb a addr) (Some value) None) n
  same-store a addr value n f g =
      twice (eqb (group_of k a) (group_of k addr)) (eqb (tag_at k a) (tag_at k addr) && eqb (word_of a) (word_of addr))
      ∙ ap (λ (b : Bool). cond b value n) (sym (words_apart k a addr some f g))
      ∙ chosen (eqb a addr)
    where
      twice : (p q : Bool) → cond p (cond q value n) n ≡ cond (p && q) value n
      twice true q = refl
      twice false q = refl

      chosen : (b : Bool) → cond b value n ≡ unwrap_or (cond b (Some value) None) n
      chosen true = refl
      chosen false = refl

  neither : (b : Bool) (n : ℕ) → cond b n n ≡ n
  neither true n = refl
  neither false n = refl

  same-changed : (a c answer n : ℕ) (op : Op) → IsAddr a → IsAddr (address_of op)
      → changed_by (completed_of k (record { cache = c; op = op; answer = answer })) (group_of k a) (tag_at k a) (word_of a) n
      ≡ unwrap_or (stored_at a op) n
  same-changed a c answer n (ops.Load addr) f g = neither (eqb (group_of k a) (group_of k addr)) n
  same-changed a c answer n (ops.Store addr value) f g = same-store a addr value n f g
  same-changed a c answer n (ops.UcLoad addr) f g = neither (eqb (group_of k a) (group_of k addr)) n
  same-changed a c answer n (ops.UcStore addr value) f g = same-store a addr value n f g
  same-changed a c answer n (ops.Evict addr) f g = neither (eqb (group_of k a) (group_of k addr)) n

  -- the value after a list is that of its latest store, and where there is none the value before
  same-latest : (a n : ℕ) (ds : List Done) → IsAddr a → AreAddressed ds
      → value_after n (map (completed_of k) ds) (group_of k a) (tag_at k a) (word_of a) ≡ unwrap_or (latest_store ds a) n
  same-latest a n [] f g = refl
  same-latest a n (d ∷ ds) f g =
      same-latest a (changed_by (completed_of k d) (group_of k a) (tag_at k a) (word_of a) n) ds f g.1
      ∙ ap (unwrap_or (latest_store ds a)) (same-changed a d.cache d.answer n d.op f g.0)
      ∙ later (latest_store ds a) (stored_at a d.op)
    where
      later : (o p : Option ℕ) → unwrap_or o (unwrap_or p n) ≡ unwrap_or (or_else o p) n
      later (Some value) p = refl
      later None p = refl

  same-value : (a : ℕ) (ds : List Done) → IsAddr a → AreAddressed ds
      → latest_value (map (completed_of k) ds) (group_of k a) (tag_at k a) (word_of a) ≡ unwrap_or (latest_store ds a) 0
  same-value a ds f g = same-latest a 0 ds f g

  answered : (before : List Done) (c answer : ℕ) (op : Op) → AreAddressed before → IsAddr (address_of op)
      → let d = completed_of k (record { cache = c; op = op; answer = answer }) in
      answer_is d.1.op (latest_value (map (completed_of k) before) d.0) d.1.answer → answer ≡ right_answer before op
  answered before c answer (ops.Load addr) g f e = e ∙ same-value addr before f g
  answered before c answer (ops.Store addr value) g f e = e
  answered before c answer (ops.UcLoad addr) g f e = e ∙ same-value addr before f g
  answered before c answer (ops.UcStore addr value) g f e = e
  answered before c answer (ops.Evict addr) g f e = e

  -- of a history that is cut at an entry
  parts : (before : List Done) (d : Done) (later : List Done) → AreAddressed (before ++ d ∷ later)
      → AreAddressed before × IsAddr (address_of d.op)
  parts [] d later h = (tt, h.0)
  parts (b ∷ before) d later h = let p = parts before d later h.1 in ((h.0, p.0), p.1)

  pub answers : (s : State) (x : Option (ℕ × Transaction)) → AreAddressed s.history → Latest (world_of k s x) → AnswersLatest s
  answers s x h latest before d later e =
      let p = parts before d later (subst AreAddressed e h) in
      answered before d.cache d.answer d.op p.0 p.1
      (latest.answers (map (completed_of k) before) (completed_of k d) (map (completed_of k) later)
      (ap (map (completed_of k)) e ∙ map-append (completed_of k) before (d ∷ later)))
