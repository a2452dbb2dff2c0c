-- A `popq` that runs takes the head off its channel, in the machine too.
use Rattle.std.proofs.Common.{◌≡◌, ℕ, ◌+◌, Bool, true, false, cond, eqb, refl, sym, ap, subst, ◌∙◌, arith, List, [], ◌∷◌, ◌++◌, drop, Option, Some, None, IfSome, ◌==◌, append-nil, slice_get}
use Rattle.std.specs.Prelude.{if◌then◌else◌}
use Rattle.std.specs.List.{filter_map, cons_option}
use Rattle.std.proofs.lemmas.Bool.Decides.{nat_tests}
use Rattle.std.proofs.lemmas.List.Sums.{sum_by-append}
use mathlib.Core.Path.{fun_ext}
use Rattle.bk_base.specs.Places.{Shape, group_of}
use Rattle.bk_base.specs.Tables.{put}
use Rattle.bk_isa.specs.declared.form.Form.{Form}
use Rattle.bk_isa.specs.declared.form.Form.TheVariants as forms
use Rattle.bk_msg.specs.declared.row.Row.{Row}
use Rattle.bk_msg.specs.declared.row.Row.TheVariants as rows
use Rattle.bk_msg.specs.declared.row.Network.{Network}
use Rattle.bk_msg.specs.declared.row.Network.TheVariants as networks
use Rattle.bk_msg.specs.Networks.{network_of}
use Rattle.bk_dir.specs.Contents.{Contents, with_pending}
use Rattle.bk_engine.specs.declared.parts.Choice.{Choice}
use Rattle.bk_engine.specs.declared.parts.Head.{Head}
use Rattle.bk_engine.specs.declared.parts.Held.{Held}
use Rattle.bk_engine.specs.Changes.{core_after, with_head_mark}
use Rattle.bk_engine.specs.Sends as sending
use Rattle.bk_engine.specs.Step.{choice_of, ran_at, runs_to}
use Rattle.bk_system.specs.declared.event.Event.TheVariants.{Engine}
use Rattle.bk_system.specs.declared.event.Origin.{Origin}
use Rattle.bk_system.specs.State.{State}
use Rattle.bk_system.specs.Events.{first, offered_head, origins_of, with_outcome, can_run}
use Rattle.bk_system.specs.Runs.{state_after_row, after}
use Rattle.bk_machine.specs.Messages.{Request, Response, MemoryBlock}
use Rattle.bk_machine.specs.Products.{as_request, as_response, as_block}
use Rattle.bk_machine.specs.Transactions.{Transaction}
use Rattle.bk_machine.specs.World.{World}
use Rattle.bk_bridge.specs.Formed.{WellFormed, AreOf}
use Rattle.bk_bridge.specs.Fronts.{HoldsFront, IsFront}
use Rattle.bk_bridge.specs.Readings.{seen}
use Rattle.bk_bridge.specs.Worlds.{listed_of, count_of, world_of}
use Rattle.bk_bridge.specs.Effects.{marked, pops_head}
use Rattle.bk_bridge.proofs.Channels.{left}

-- a channel without its head, as the machine sees it
off : {X : Type 0} (h : Row → Option X) (channel : ℕ → List Row) (c : ℕ) (m : Row) (rest : List Row) (y : X)
    → channel c ≡ m ∷ rest
    → h m ≡ Some y
    → ◌≡◌ {A = ℕ → List X} (λ i. filter_map h (put channel c (drop 1 (channel c)) i))
    (put (λ i. filter_map h (channel i)) c (drop 1 (filter_map h (channel c))))
off {X} h channel c m rest y e f =
    left h channel c m rest e
    ∙ ap (put (λ i. filter_map h (channel i)) c) (sym (ap (λ (ms : List Row). drop 1 (filter_map h ms)) e
    ∙ ap (λ (o : Option X). drop 1 (cons_option o (filter_map h rest))) f))

counted : (gs : List Origin) (c g : ℕ) → count_of (gs ++ record { cache = c; group = g } ∷ [])
    ≡ put (count_of gs) g (count_of gs g + 1)
unfolding put
counted gs c g = fun_ext
    (λ group. sum_by-append (λ (x : Origin). cond (x.group == group) 1 0) gs (record { cache = c; group = g } ∷ []) ∙ at group)
  where
    at : (group : ℕ) → count_of gs group + count_of (record { cache = c; group = g } ∷ []) group
        ≡ cond (eqb group g) (count_of gs g + 1) (count_of gs group)
    at group = grind (arith, nat_tests)

uncounted : (gs : List Origin) → count_of (gs ++ []) ≡ count_of gs
uncounted gs = ap count_of (append-nil gs)

one-not : (a : ℕ) → (a == 1) ≡ true → ((a == 2) ≡ false) × ((a == 3) ≡ false)
one-not a e = (grind (arith, nat_tests), grind (arith, nat_tests))

two-not : (a : ℕ) → (a == 2) ≡ true → ((a == 1) ≡ false) × ((a == 3) ≡ false)
two-not a e = (grind (arith, nat_tests), grind (arith, nat_tests))

module _ (k : Shape) (later : State) (x : Option (ℕ × Transaction)) (c : ℕ) (wp : Bool) where
  abbrev old : World
  old = world_of k later x

  -- the directory after it, where the head is this message
  abbrev bits : Row → Contents
  bits m = if wp then with_head_mark k later.engine.directory (Some (record { choice = record { class = 0; source = 0 }; message = m }))
      else later.engine.directory

  -- the state after it, by the class of the head
  abbrev popped : Bool → Bool → Bool → Row → World
  popped b1 b2 b3 m = record old {
    directory = λ s c w. listed_of ((bits m).entries c s w);
    pending = (bits m).pending;
    response = λ i. filter_map (as_response k) ((if b1 then put later.response c (drop 1 (later.response c)) else later.response) i);
    memin = filter_map (as_block k) (if b2 then drop 1 later.memin else later.memin);
    request = λ i. filter_map (as_request k) ((if b3 then put later.request c (drop 1 (later.request c)) else later.request) i);
    taken_count = count_of (later.taken ++ origins_of k 1 c (Some m));
    settled_count = count_of (later.settled ++ origins_of k 3 c (Some m));
  }

  -- field by field
  popped-is : (b1 b2 b3 : Bool) (m : Row) (pending : ℕ → Bool) (response : ℕ
      → List (ℕ × Response)) (memin : List (ℕ × MemoryBlock)) (request : ℕ
      → List (ℕ × Request)) (taken settled : ℕ → ℕ)
      → ◌≡◌ {A = ℕ → ℕ → ℕ → Rattle.bk_machine.specs.Entries.Entry} (λ s c w. listed_of ((bits m).entries c s w))
      (seen later.engine.directory)
      → (bits m).pending ≡ pending
      → ◌≡◌ {A = ℕ → List (ℕ × Response)}
      (λ i. filter_map (as_response k) ((if b1 then put later.response c (drop 1 (later.response c)) else later.response) i)) response
      → filter_map (as_block k) (if b2 then drop 1 later.memin else later.memin) ≡ memin
      → ◌≡◌ {A = ℕ → List (ℕ × Request)}
      (λ i. filter_map (as_request k) ((if b3 then put later.request c (drop 1 (later.request c)) else later.request) i)) request
      → count_of (later.taken ++ origins_of k 1 c (Some m)) ≡ taken
      → count_of (later.settled ++ origins_of k 3 c (Some m)) ≡ settled
      → popped b1 b2 b3 m ≡ record old {
        pending = pending;
        response = response;
        memin = memin;
        request = request;
        taken_count = taken;
        settled_count = settled;
      }
  popped-is b1 b2 b3 m pending response memin request taken settled d p message i q t s =
      λ j. record old {
        directory = d j;
        pending = p j;
        response = message j;
        memin = i j;
        request = q j;
        taken_count = t j;
        settled_count = s j;
      }

  -- pending bits alone
  same-entries : (b : Bool) (d e : Contents) → d.entries ≡ e.entries
      → ◌≡◌ {A = ℕ → ℕ → ℕ → Rattle.bk_machine.specs.Entries.Entry}
      (λ s c w. listed_of ((if b then d else e).entries c s w)) (seen e)
  same-entries true d e h = λ j. λ s c w. listed_of (h j c s w)
  same-entries false d e h = refl

  same-bits : (b bit : Bool) (d : Contents) (g : ℕ) → (if b then with_pending d g bit else d).pending ≡ marked b g bit d.pending
  same-bits true bit d g = refl
  same-bits false bit d g = refl

  unmarked : (b : Bool) (d : Contents) → (if b then d else d).pending ≡ d.pending
  unmarked true d = refl
  unmarked false d = refl

  -- RESPONSES

  -- By the kind of the response: its channel loses its head, the pending bit is cleared with `wp`, and a CohAck is counted as settled.
  response-off : (m : Row) (rest : List Row) → later.response c ≡ m ∷ rest → network_of m ≡ networks.Response
      → popped true false false m ≡ pops_head k wp c m old
  response-off (rows.InvAck from to addr) rest e h =
      popped-is true false false (rows.InvAck from to addr) _ _ _ _ _ _ (same-entries wp _ later.engine.directory refl)
      (same-bits wp false later.engine.directory (group_of k addr))
      (off (as_response k) later.response c (rows.InvAck from to addr) rest _ e refl) refl refl (uncounted later.taken)
      (uncounted later.settled)
  response-off (rows.CohAck from to addr) rest e h =
      popped-is true false false (rows.CohAck from to addr) _ _ _ _ _ _ (same-entries wp _ later.engine.directory refl)
      (same-bits wp false later.engine.directory (group_of k addr))
      (off (as_response k) later.response c (rows.CohAck from to addr) rest _ e refl) refl refl (uncounted later.taken)
      (counted later.settled c (group_of k addr))
  response-off (rows.Wb from to addr words) rest e h =
      popped-is true false false (rows.Wb from to addr words) _ _ _ _ _ _ (same-entries wp _ later.engine.directory refl)
      (same-bits wp false later.engine.directory (group_of k addr))
      (off (as_response k) later.response c (rows.Wb from to addr words) rest _ e refl) refl refl (uncounted later.taken)
      (uncounted later.settled)
  response-off (rows.NullWb from to addr) rest e h =
      popped-is true false false (rows.NullWb from to addr) _ _ _ _ _ _ (same-entries wp _ later.engine.directory refl)
      (same-bits wp false later.engine.directory (group_of k addr))
      (off (as_response k) later.response c (rows.NullWb from to addr) rest _ e refl) refl refl (uncounted later.taken)
      (uncounted later.settled)
  response-off m rest e h = absurd (cc)

  -- REQUESTS

  -- By the kind of the request: its channel loses its head, the pending bit is set with `wp`, and the request is counted as taken.
  request-off : (m : Row) (rest : List Row) → later.request c ≡ m ∷ rest → network_of m ≡ networks.Request
      → popped false false true m ≡ pops_head k wp c m old
  request-off (rows.Rd from to way addr) rest e h =
      popped-is false false true (rows.Rd from to way addr) _ _ _ _ _ _ (same-entries wp _ later.engine.directory refl)
      (same-bits wp true later.engine.directory (group_of k addr))
      refl refl (off (as_request k) later.request c (rows.Rd from to way addr) rest _ e refl) (counted later.taken c (group_of k addr))
      (uncounted later.settled)
  request-off (rows.Wr from to way addr) rest e h =
      popped-is false false true (rows.Wr from to way addr) _ _ _ _ _ _ (same-entries wp _ later.engine.directory refl)
      (same-bits wp true later.engine.directory (group_of k addr))
      refl refl (off (as_request k) later.request c (rows.Wr from to way addr) rest _ e refl) (counted later.taken c (group_of k addr))
      (uncounted later.settled)
  request-off (rows.UcRd from to addr) rest e h =
      popped-is false false true (rows.UcRd from to addr) _ _ _ _ _ _ (same-entries wp _ later.engine.directory refl)
      (same-bits wp true later.engine.directory (group_of k addr))
      refl refl (off (as_request k) later.request c (rows.UcRd from to addr) rest _ e refl) (counted later.taken c (group_of k addr))
      (uncounted later.settled)
  request-off (rows.UcWr from to addr word) rest e h =
      popped-is false false true (rows.UcWr from to addr word) _ _ _ _ _ _ (same-entries wp _ later.engine.directory refl)
      (same-bits wp true later.engine.directory (group_of k addr))
      refl refl (off (as_request k) later.request c (rows.UcWr from to addr word) rest _ e refl) (counted later.taken c (group_of k addr))
      (uncounted later.settled)
  request-off (rows.Evict from to way addr) rest e h =
      popped-is false false true (rows.Evict from to way addr) _ _ _ _ _ _ (same-entries wp _ later.engine.directory refl)
      (same-bits wp true later.engine.directory (group_of k addr))
      refl refl (off (as_request k) later.request c (rows.Evict from to way addr) rest _ e refl) (counted later.taken c (group_of k addr))
      (uncounted later.settled)
  request-off m rest e h = absurd (cc)

  -- BLOCKS

  block-off : (m : Row) (rest : List Row) → later.memin ≡ m ∷ rest → network_of m ≡ networks.Memin
      → popped false true false m ≡ pops_head k wp c m old
  block-off (rows.Block from to addr words) rest e h =
      popped-is false true false (rows.Block from to addr words) _ _ _ _ _ _
      (same-entries wp later.engine.directory later.engine.directory refl) (unmarked wp later.engine.directory)
      refl (ap (λ (ms : List Row). filter_map (as_block k) (drop 1 ms)) e
      ∙ sym (ap (λ (ms : List Row). drop 1 (filter_map (as_block k) ms)) e)) refl (uncounted later.taken) (uncounted later.settled)
  block-off m rest e h = absurd (cc)

  -- THE HEAD OF A CHANNEL

  at-front : (network : Network) (G : Type 0) (ms : List Row) (m : Row) → AreOf network ms → first ms ≡ Some m
      → ((rest : List Row) → ms ≡ m ∷ rest → network_of m ≡ network → G) → G
  at-front network G [] m a e f = absurd (cc)
  at-front network G (y ∷ ms) m a e f =
      let same : y ≡ m = cc
      in f ms (ap (λ (message : Row). message ∷ ms) same) (subst (λ (message : Row). network_of message ≡ network) same a.0.is)

  by-class : (class : ℕ) (m : Row) → WellFormed k later → offered_head later (record { class = class; source = c }) ≡ Some m
      → popped (class == 1) (class == 2) (class == 3) m ≡ pops_head k wp c m old
  by-class class m f front = go (class == 1) refl (class == 2) refl (class == 3) refl (c == 0) front
    where
      named : Bool → Bool → Bool → Bool → Option Row
      named b1 b2 b3 b0 = cond b1 (first (later.response c))
          (cond b2 (cond b0 (first later.memin) None) (cond b3 (first (later.request c)) None))

      go : (b1 : Bool) → (class == 1) ≡ b1 → (b2 : Bool) → (class == 2) ≡ b2 → (b3 : Bool) → (class == 3) ≡ b3
          → (b0 : Bool)
          → named b1 b2 b3 b0 ≡ Some m
          → popped b1 b2 b3 m ≡ pops_head k wp c m old
      go true i1 false i2 false i3 b0 e =
          at-front networks.Response _ (later.response c) m (f.response c) e (λ rest message h. response-off m rest message h)
      go true i1 true i2 b3 i3 b0 e = absurd (let other = (one-not class i1).0 in cc)
      go true i1 false i2 true i3 b0 e = absurd (let other = (one-not class i1).1 in cc)
      go false i1 true i2 false i3 true e =
          at-front networks.Memin _ later.memin m f.memin e (λ rest message h. block-off m rest message h)
      go false i1 true i2 b3 i3 false e = absurd (cc)
      go false i1 true i2 true i3 true e = absurd (let other = (two-not class i2).1 in cc)
      go false i1 false i2 true i3 b0 e =
          at-front networks.Request _ (later.request c) m (f.request c) e (λ rest message h. request-off m rest message h)
      go false i1 false i2 false i3 b0 e = absurd (cc)

sends-none : (k : Shape) (s : State) (wp : ℕ) (o : Option Held) → sending.sends_held k s.engine o (forms.Popq wp) ≡ []
sends-none k s wp None = refl
sends-none k s wp (Some h) = refl

-- The instruction runs and sends nothing: it takes the head from its channel, and marks and counts its group.
pub pops-do : (k : Shape) (program : List Form) (s : State) (x : Option (ℕ × Transaction)) (choice : Choice) (wp : ℕ) (head : Head)
    → WellFormed k s → HoldsFront k s → slice_get program s.engine.core.place ≡ Some (forms.Popq wp)
    → s.engine.core.head ≡ Some head
    → can_run k program s choice ≡ true
    → world_of k (after k program s (Engine choice)) x ≡ pops_head k (wp == 1) head.choice.source head.message (world_of k s x)
pops-do k program s x choice wp head f front here held runs =
    ap (λ (b : Bool). world_of k
    (state_after_row s (if b then Some (with_outcome k s (runs_to k s.engine program choice (offered_head s choice))) else None)) x) runs
    ∙ ap (λ (o : Option Form). world_of k (with_outcome k s (ran_at k s.engine o choice (offered_head s choice))).state x) here
    ∙ ap (λ (sent : List Row). world_of k (left_by s.engine.core.head sent) x) (sends-none k s wp s.engine.core.held)
    ∙ ap (λ (o : Option Head). world_of k (left_by o []) x) held
    ∙ ap seen_by is_front.first
    ∙ by-class k s x head.choice.source (wp == 1) head.choice.class head.message f is_front.first
  where
    is_front : IsFront k s head
    is_front = subst (λ (o : Option Head). IfSome o (IsFront k s)) held front

    -- the state that is left, by the head and by what is sent
    left_by : Option Head → List Row → State
    left_by o sent = (with_outcome k s (record {
      engine = record {
        core = core_after k s.engine (forms.Popq wp) choice (offered_head s choice);
        directory = if wp == 1 then with_head_mark k s.engine.directory o else s.engine.directory;
      };
      sent = sent;
      popped = choice_of o;
    })).state

    -- what the machine sees of it, by what stands first in the channel
    seen_by : Option Row → World
    seen_by o = record (popped k s x head.choice.source (wp == 1) (head.choice.class == 1) (head.choice.class == 2) (head.choice.class == 3)
        head.message) {
          taken_count = count_of (s.taken ++ origins_of k 1 head.choice.source o);
          settled_count = count_of (s.settled ++ origins_of k 3 head.choice.source o);
        }
