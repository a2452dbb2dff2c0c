-- The tags of blocks are below a limit, and a block of such a tag has an address. A directory's tags stay below it.
use Rattle.std.proofs.Common.{◌≡◌, ℕ, ◌+◌, ◌*◌, ◌/◌, ◌^◌, ◌<◌, Bool, true, ◌&&◌, sym, subst, arith, Option, Some, None, IfSome}
use Rattle.std.proofs.lemmas.Bool.Decides.{nat_tests}
use Rattle.std.proofs.lemmas.Nat.{div_below, mul-add-lt}
use Rattle.bk_base.specs.Places.{Shape, InProfile, IsAddr, is_set_count, block_of, group_of, tag_at, tag_limit, address_in}
use Rattle.bk_base.specs.declared.coh.Coh.{Coh}
use Rattle.bk_isa.specs.declared.form.Form.{Form}
use Rattle.bk_isa.specs.declared.form.Form.TheVariants.{Wde, Wds, Inv, Stwb, Popq}
use Rattle.bk_dir.specs.declared.entry.Entry.{Entry}
use Rattle.bk_dir.specs.declared.entry.Summary.{Summary}
use Rattle.bk_dir.specs.Contents.{Contents, with_entry, with_state}
use Rattle.bk_dir.specs.Summaries.{holds}
use Rattle.bk_engine.specs.declared.parts.Head.{Head}
use Rattle.bk_engine.specs.declared.parts.Held.{Held}
use Rattle.bk_engine.specs.Engine.{EngineState}
use Rattle.bk_engine.specs.Heads.{head_number}
use Rattle.bk_engine.specs.Reads.{summary_for}
use Rattle.bk_engine.specs.Sends.{is_invalidated}
use Rattle.bk_engine.specs.Changes.{wiped_entry, wiped_ways, with_invalid_block, with_state_at, with_named_state, directory_for, directory_for_held, with_message_mark, with_head_mark, directory_after}
use Rattle.bk_msg.specs.declared.row.Row.{Row}
use Rattle.std.specs.Prelude.{nat_lt, ◌==◌}
use Rattle.bk_bridge.proofs.Places.{sets_pos}
use Rattle.bk_bridge.proofs.Formed.{cond-all, put-all}

whole-blocks : (n : ℕ) → is_set_count n ≡ true → 2 ^ 34 / n * n ≡ 2 ^ 34
whole-blocks n e = grind (arith, nat_tests)

pub tag_below : (k : Shape) (a : ℕ) → InProfile k → IsAddr a → tag_at k a < tag_limit k
tag_below k a p h =
    div_below (block_of a) k.sets (tag_limit k) (sets_pos k p)
    (subst (λ (n : ℕ). block_of a < n) (sym (whole-blocks k.sets p.sets)) block)
  where
    below : a < 2 ^ 40
    below = h.below

    block : block_of a < 2 ^ 34
    block = omega arith

pub in_IsAddr : (k : Shape) (group t : ℕ) → InProfile k → group < k.sets → t < tag_limit k → IsAddr (address_in k group t)
in_IsAddr k group t p l h =
    lem (t * k.sets + group)
    (subst (λ (number : ℕ). t * k.sets + group < number) (whole-blocks-turned k.sets p.sets)
    (mul-add-lt t k.sets group (tag_limit k) h l))
  where
    whole-blocks-turned : (n : ℕ) → is_set_count n ≡ true → n * (2 ^ 34 / n) ≡ 2 ^ 34
    whole-blocks-turned n e = grind (arith, nat_tests)

    lem : (b : ℕ) → b < 2 ^ 34 → IsAddr (b * 64)
    lem b g = record { below = omega arith; aligned = omega arith }

-- each tag of a directory is below the limit
abbrev pub TagsBelow : Shape → Contents → Type 0
TagsBelow k d = (c g w : ℕ) → (d.entries c g w).tag < tag_limit k

pub entry_below : (k : Shape) (d : Contents) (c g w : ℕ) (entry : Entry) → TagsBelow k d → entry.tag < tag_limit k
    → TagsBelow k (with_entry d c g w entry)
entry_below k d c g w entry h l =
    put-all (λ (table : ℕ → ℕ → Entry). (g w : ℕ) → (table g w).tag < tag_limit k) d.entries c _ h
    (put-all (λ (row : ℕ → Entry). (w : ℕ) → (row w).tag < tag_limit k) (d.entries c) g _ (h c)
    (put-all (λ (y : Entry). y.tag < tag_limit k) (d.entries c g) w entry (h c g) l))

state_below : (k : Shape) (d : Contents) (c g w : ℕ) (state : Coh) → TagsBelow k d → TagsBelow k (with_state d c g w state)
state_below k d c g w state h = entry_below k d c g w _ h (h c g w)

written_below : (k : Shape) (d : Contents) (g : ℕ) (at : Option (ℕ × ℕ)) (state : Coh) → TagsBelow k d
    → TagsBelow k (with_state_at d g at state)
written_below k d g None state h = h
written_below k d g (Some at) state h = state_below k d at.0 g at.1 state h

named_below : (k : Shape) (d : Contents) (held : Held) (who : ℕ) (state : Coh) → TagsBelow k d
    → TagsBelow k (with_named_state k d held who state)
named_below k d held who state h =
    cond-all (TagsBelow k) (who == 0) _ _ (state_below k d held.source (group_of k held.addr) (summary_for k d held).own_way state h)
    (cond-all (TagsBelow k) (who == 1) _ _ (written_below k d (group_of k held.addr) (summary_for k d held).owner state h)
    (state_below k d held.source (group_of k held.addr) held.way state h))

wiped_below : (k : Shape) (row : ℕ → Entry) (tag w : ℕ) → ((w : ℕ) → (row w).tag < tag_limit k)
    → (wiped_entry tag (row w)).tag < tag_limit k
wiped_below k row tag w h = cond-all (λ (y : Entry). y.tag < tag_limit k) (holds (row w) tag) _ _ (h w) (h w)

wiped_at-below : (k : Shape) (row : ℕ → Entry) (tag w : ℕ) → ((w : ℕ) → (row w).tag < tag_limit k)
    → (wiped_ways k tag row w).tag < tag_limit k
wiped_at-below k row tag w h = cond-all (λ (y : Entry). y.tag < tag_limit k) (nat_lt w k.ways) _ _ (wiped_below k row tag w h) (h w)

invalidated_below : (k : Shape) (d : Contents) (held : Held) (with_owner : Bool) (sum : Summary) → TagsBelow k d
    → TagsBelow k (with_invalid_block k d held with_owner sum)
invalidated_below k d held with_owner sum h c =
    cond-all (λ (table : ℕ → ℕ → Entry). (g w : ℕ) → (table g w).tag < tag_limit k) (is_invalidated with_owner sum c) _ _
    (put-all (λ (row : ℕ → Entry). (w : ℕ) → (row w).tag < tag_limit k) (d.entries c) (group_of k held.addr) _ (h c)
    (λ w. wiped_at-below k (d.entries c (group_of k held.addr)) (tag_at k held.addr) w (h c (group_of k held.addr))))
    (h c)

for_below : (k : Shape) (d : Contents) (held : Held) (f : Form) → InProfile k → IsAddr held.addr → TagsBelow k d
    → TagsBelow k (directory_for k d held f)
for_below k d held (Wde state) p a h = entry_below k d held.source (group_of k held.addr) held.way _ h (tag_below k held.addr p a)
for_below k d held (Wds who state) p a h = named_below k d held who state h
for_below k d held (Inv a') p a h = invalidated_below k d held (a' == 1) (summary_for k d held) h
for_below k d held (Stwb who state) p a h = named_below k d held who state h
for_below k d held f p a h = h

held_below : (k : Shape) (d : Contents) (held : Option Held) (f : Form) → InProfile k → IfSome held (λ y. IsAddr y.addr)
    → TagsBelow k d
    → TagsBelow k (directory_for_held k d held f)
held_below k d None f p a h = h
held_below k d (Some held) f p a h = for_below k d held f p a h

marked_below : (k : Shape) (d : Contents) (kind : ℕ) (m : Row) → TagsBelow k d → TagsBelow k (with_message_mark k d kind m)
marked_below k d kind m h = cond-all (TagsBelow k) (kind == 1) _ _ h (cond-all (TagsBelow k) (nat_lt 1 kind && nat_lt kind 6) _ _ h h)

head_below : (k : Shape) (d : Contents) (head : Option Head) → TagsBelow k d → TagsBelow k (with_head_mark k d head)
head_below k d None h = h
head_below k d (Some head) h = marked_below k d (head_number head.message) head.message h

pub directory_below : (k : Shape) (engine : EngineState) (f : Form) → InProfile k → IfSome engine.core.held (λ y. IsAddr y.addr)
    → TagsBelow k engine.directory
    → TagsBelow k (directory_after k engine f)
directory_below k engine (Popq wp) p a h = cond-all (TagsBelow k) (wp == 1) _ _ (head_below k engine.directory engine.core.head h) h
directory_below k engine f p a h = held_below k engine.directory engine.core.held f p a h
