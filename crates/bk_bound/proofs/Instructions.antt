-- What an instruction that takes no head off sends, and what it does to the head that is looked at.
use Rattle.std.proofs.Common.{◌≡◌, ℕ, ◌≤◌, ◌==◌, Bool, true, false, refl, ap, subst, arith, Option, Some, None}
use Rattle.std.specs.Prelude.{if◌then◌else◌, option_map, is_none}
use Rattle.bk_base.specs.Places.{Shape, group_of, tag_at, word_of}
use Rattle.bk_base.specs.declared.coh.Coh.{Coh}
use Rattle.bk_base.specs.declared.coh.Coh.TheVariants as states
use Rattle.bk_isa.specs.declared.form.Form.{Form}
use Rattle.bk_isa.specs.declared.form.Form.TheVariants as forms
use Rattle.bk_isa.specs.declared.operand.TheConstants.{WHOSE_OWN, WHOSE_OWNER}
use Rattle.bk_know.specs.declared.values.TheConstants.{HEAD_REQUEST}
use Rattle.bk_know.specs.Sets.{only}
use Rattle.bk_msg.specs.declared.row.Row.{Row}
use Rattle.bk_engine.specs.declared.parts.Choice.{Choice}
use Rattle.bk_engine.specs.declared.parts.Core.{Core}
use Rattle.bk_engine.specs.declared.parts.DirtyBlock.{DirtyBlock}
use Rattle.bk_engine.specs.declared.parts.Head.{Head}
use Rattle.bk_engine.specs.declared.parts.Held.{Held}
use Rattle.bk_engine.specs.Engine.{EngineState}
use Rattle.bk_engine.specs.Changes.{after_wait, after_service}
use Rattle.bk_engine.specs.Heads.{head_value}
use Rattle.bk_engine.specs.Reads.{is_branch_taken}
use Rattle.bk_engine.specs.Stops.{wait_stop}
use Rattle.bk_machine.specs.Actions.{Action, FlushesVictim, FlushesOwn, FlushesOwner, GrantsByBlock, GrantsByTransfer, AnswersWord, PaysOwner, Idles}
use Rattle.bk_machine.specs.Products.{words_of}
use Rattle.bk_machine.specs.Transactions.{Transaction}
use Rattle.bk_machine.specs.World.{World}
use Rattle.bk_bridge.specs.Acting.{action_of, victim_action, kept_action, debt_at}
use Rattle.bk_bridge.specs.Effects.{is_pop}
use Rattle.bk_exact.specs.After.{GroupAction, served_action, action_at, deferred_head}
use Rattle.bk_exact.proofs.Idles.{only-flags, only-reads}
use Rattle.bk_bound.proofs.Counted.{number_in}
use Rattle.bk_bound.proofs.DueAfter.{cost}
use Rattle.bk_bound.proofs.WorldCounts.{messages_sent}

-- THE MESSAGES OF AN ACTION are those of its instruction

at-most : (n : ℕ) (a b : Action) → ◌≡◌ {A = Option Action} (Some a) (Some b) → messages_sent a ≤ n → messages_sent b ≤ n
at-most n a b e l = subst (λ (c : Action). messages_sent c ≤ n) (parts e) l
  where
    parts : ◌≡◌ {A = Option Action} (Some a) (Some b) → a ≡ b
    parts e = cc

map-most : {X : Type 0} (n : ℕ) (o : Option X) (h : X → Action) (b : Action) → ((y : X) → messages_sent (h y) ≤ n)
    → option_map h o ≡ Some b → messages_sent b ≤ n
map-most n None h b l e = absurd (cc)
map-most n (Some y) h b l e = at-most n (h y) b e (l y)

if-most : (n : ℕ) (c : Bool) (o p : Option Action) (b : Action) → (o ≡ Some b → messages_sent b ≤ n)
    → (p ≡ Some b → messages_sent b ≤ n) → (if c then o else p) ≡ Some b → messages_sent b ≤ n
if-most n true o p b first second e = first e
if-most n false o p b first second e = second e

itself-le : (n : ℕ) → n ≤ n
itself-le n = omega arith

none-le : (n : ℕ) → 0 ≤ n
none-le n = omega arith

victim-costs : (y : Coh) (x : Transaction) (b : Action) → victim_action y x ≡ Some b → messages_sent b ≤ 2
victim-costs states.I x b e = at-most 2 (FlushesVictim x) b e (itself-le 2)
victim-costs y x b e = absurd (cc)

kept-costs : (k : Shape) (h : Held) (o : Option DirtyBlock) (x : Transaction) (b : Action) → kept_action k h o x ≡ Some b
    → messages_sent b ≤ 1
kept-costs k h None x b e = absurd (cc)
kept-costs k h (Some d) x b e =
    if-most 1 (group_of k d.addr == group_of k h.addr) _ None b (λ i. at-most 1 _ b i (itself-le 1)) (λ i. absurd (cc)) e

action-costs : (k : Shape) (core : Core) (h : Held) (x : Transaction) (world : World) (f : Form) (b : Action) → is_pop f ≡ false
    → action_of k core h x world f ≡ Some b → messages_sent b ≤ cost f
action-costs k core h x world (forms.Inv a) b p i = at-most 0 _ b i (itself-le 0)
action-costs k core h x world (forms.Stwb who y) b p i =
    if-most 2 (who == WHOSE_OWN) _ _ b (λ j. map-most 2 _ (λ w. FlushesOwn w y x) b (λ w. itself-le 2) j)
    (λ j. if-most 2 (who == WHOSE_OWNER) _ _ b (λ l. map-most 2 _ (λ at. FlushesOwner at.0 at.1 y x) b (λ at. itself-le 2) l)
    (λ l. victim-costs y x b l) j) i
action-costs k core h x world (forms.Tr y z) b p i =
    map-most 2 _ (λ at. GrantsByTransfer at.0 at.1 y z x) b (λ at. itself-le 2) i
action-costs k core h x world (forms.Blk y) b p i =
    map-most 2 core.got (λ words. GrantsByBlock (words_of words) y x) b (λ words. itself-le 2) i
action-costs k core h x world forms.Wake b p i = at-most 2 _ b i (itself-le 2)
action-costs k core h x world forms.Ucblk b p i =
    map-most 2 core.got (λ words. AnswersWord (tag_at k h.addr) (word_of h.addr) (words_of words) x) b (λ words. itself-le 2) i
action-costs k core h x world forms.Ucdone b p i = at-most 2 _ b i (itself-le 2)
action-costs k core h x world forms.Done b p i = at-most 2 _ b i (itself-le 2)
action-costs k core h x world forms.Memrd b p i = at-most 1 _ b i (itself-le 1)
action-costs k core h x world forms.Memww b p i = at-most 1 _ b i (itself-le 1)
action-costs k core h x world forms.Memwb b p i = kept-costs k h core.dirty x b i
action-costs k core h x world (forms.Wde y) b p i = at-most 0 _ b i (itself-le 0)
action-costs k core h x world (forms.Wds who y) b p i =
    if-most 0 (who == WHOSE_OWN) _ _ b (λ j. at-most 0 _ b j (itself-le 0))
    (λ j. if-most 0 (who == WHOSE_OWNER) _ None b
    (λ l. map-most 0 _ (λ at. PaysOwner (debt_at k h at y world) x) b (λ at. itself-le 0) l) (λ l. absurd (cc)) j) i
action-costs k core h x world forms.Fin b p i = at-most 0 _ b i (itself-le 0)
action-costs k core h x world (forms.Popq wp) b p i = absurd (cc)
action-costs k core h x world f b p i = at-most 0 Idles b i (itself-le 0)

pub second-part : {g n : ℕ} {a b : Action} → ◌≡◌ {A = Option GroupAction} (Some (g, a)) (Some (n, b)) → a ≡ b
second-part {g} {n} {a} {b} e = ap (λ (y : GroupAction). y.1) (parts e)
  where
    parts : ◌≡◌ {A = Option GroupAction} (Some (g, a)) (Some (n, b)) → ◌≡◌ {A = GroupAction} (g, a) (n, b)
    parts e = cc

served-costs : (k : Shape) (core : Core) (o : Option Held) (x : Option (ℕ × Transaction)) (world : World) (f : Form) (g : ℕ)
    (b : Action) → is_pop f ≡ false → served_action k core o x world f ≡ Some (g, b) → messages_sent b ≤ cost f
served-costs k core (Some h) (Some x) world f g b p i = go (action_of k core h x.1 world f) refl i
  where
    go : (o : Option Action) → action_of k core h x.1 world f ≡ o
        → option_map {U = GroupAction} (λ a. (group_of k h.addr, a)) o ≡ Some (g, b) → messages_sent b ≤ cost f
    go None j q = absurd (cc)
    go (Some a) j q = subst (λ (c : Action). messages_sent c ≤ cost f) (second-part q) (action-costs k core h x.1 world f a p j)
served-costs k core (Some h) None world f g b p i =
    subst (λ (c : Action). messages_sent c ≤ cost f) (second-part i) (none-le (cost f))
served-costs k core None x world f g b p i =
    subst (λ (c : Action). messages_sent c ≤ cost f) (second-part i) (none-le (cost f))

pub at-costs : (k : Shape) (core : Core) (world : World) (f : Form) (g : ℕ) (b : Action) → is_pop f ≡ false
    → action_at k core world f ≡ Some (g, b) → messages_sent b ≤ cost f
at-costs k core world (forms.Popq wp) g b p i = absurd (cc)
at-costs k core world f g b p i = served-costs k core core.held world.transaction world f g b p i

-- a branch that is taken sends nothing
pub branch-costs : (k : Shape) (engine : EngineState) (f : Form) → is_branch_taken k engine f ≡ true → cost f ≡ 0
branch-costs k engine (forms.Bi to) e = refl
branch-costs k engine (forms.Beq a b to) e = refl
branch-costs k engine (forms.Bne a b to) e = refl
branch-costs k engine (forms.Blt a b to) e = refl
branch-costs k engine (forms.Bge a b to) e = refl
branch-costs k engine (forms.Bk a b to) e = refl
branch-costs k engine f e = absurd (cc)

-- THE HEAD that is looked at: only `wfq`, `popq` and `defer` change it

pub service-head : (core : Core) (sent : ℕ) (f : Form) → (after_service core sent f).head ≡ core.head
service-head core sent forms.Rdw = refl
service-head core sent forms.Gad = refl
service-head core sent forms.Fin = refl
service-head core sent (forms.Inv a) = refl
service-head core sent forms.Memwb = refl
service-head core sent (forms.Mova a) = ap (λ (c : Core). c.head) (only-reads core core.held (forms.Mova a))
service-head core sent (forms.Movs a) = ap (λ (c : Core). c.head) (only-reads core core.held (forms.Movs a))
service-head core sent (forms.Movw a) = ap (λ (c : Core). c.head) (only-reads core core.held (forms.Movw a))
service-head core sent f = ap (λ (c : Core). c.head) (only-flags core f)

-- a `wfq` that runs had no head and has one then
pub waits-head : (core : Core) (head : Option Head) (classes : ℕ) (choice : Choice) (message : Option Row)
    → is_none (wait_stop head classes choice message) ≡ true
    → (number_in head ≡ 0) × (number_in (after_wait core choice message).head ≡ 1)
waits-head core (Some h) classes choice message i = absurd (cc)
waits-head core None classes choice None i = absurd (cc)
waits-head core None classes choice (Some m) i = (refl, refl)

pub one-at-most : {X : Type 0} (o : Option X) → number_in o ≤ 1
one-at-most None = omega arith
one-at-most (Some x) = omega arith

pub deferred-one : (k : Shape) (o : Option Head) → (only (head_value o) == HEAD_REQUEST) ≡ true → number_in (deferred_head k o) ≡ 1
deferred-one k None e = absurd (cc)
deferred-one k (Some h) e = refl
