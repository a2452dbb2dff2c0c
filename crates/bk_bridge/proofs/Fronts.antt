-- While the engine looks at a head, the head stands first in its channel.
use Rattle.std.proofs.Common.{◌≡◌, ℕ, ◌<◌, Bool, true, false, cond, refl, sym, ap, ◌∙◌, subst, List, [], ◌∷◌, ◌++◌, Option, Some, None, IfSome, ◌&&◌, ◌==◌, slice_get, option_to_list, length, arith}
use Rattle.std.specs.Prelude.{nat_lt}
use Rattle.std.proofs.lemmas.Bool.{cond_both}
use Rattle.std.proofs.lemmas.Bool.Decides.{nat_tests}
use Rattle.bk_base.specs.Places.{Shape}
use Rattle.bk_base.specs.Tables.{put}
use Rattle.bk_isa.specs.declared.form.Form.{Form}
use Rattle.bk_isa.specs.declared.form.Form.TheVariants.{Add, Sub, And, Or, Xor, Shl, Shr, Addi, Not, Neg, Mov, Movi, Mova, Movs, Movw, Movk, Sf, Cf, Nf, Movf, Andf, Orf, Rdw, Gad, Fin, Wfq, Popq, Defer, Inv, Memwb}
use Rattle.bk_msg.specs.declared.row.Row.{Row}
use Rattle.bk_msg.specs.declared.row.Row.TheVariants as rows
use Rattle.bk_msg.specs.Networks.{network_of}
use Rattle.bk_lce.specs.CacheTable.{Transition}
use Rattle.bk_engine.specs.declared.parts.Choice.{Choice}
use Rattle.bk_engine.specs.declared.parts.Core.{Core}
use Rattle.bk_engine.specs.declared.parts.Head.{Head}
use Rattle.bk_engine.specs.declared.parts.Held.{Held}
use Rattle.bk_engine.specs.Heads.{request_of}
use Rattle.bk_engine.specs.Changes.{after_arithmetic, after_move, after_held_read, after_request_read, after_flag, after_take, after_pop, after_wait, after_service}
use Rattle.bk_engine.specs.Sends.{sends}
use Rattle.bk_engine.specs.Step.{ran, ran_at, runs_to}
use Rattle.bk_system.specs.declared.event.Event.{Event}
use Rattle.bk_system.specs.declared.event.Event.TheVariants as events
use Rattle.bk_system.specs.State.{State, opening}
use Rattle.bk_system.specs.Memory.{answer_to}
use Rattle.bk_system.specs.Events.{first, added_if, is_request, is_response, requests_with, responses_with, with_taken, cache_row, access_row, offered_head, can_run, with_outcome, engine_row, issue_taken, command_taken, fill_taken, without_command, without_fill}
use Rattle.bk_system.specs.Runs.{state_after_row, after, run_from}
use Rattle.bk_bridge.specs.Fronts.{IsFront, HoldsFront}
use Rattle.bk_bridge.proofs.Formed.{put-each}

-- CHANNELS

-- what stands first in a channel stands first in a later one
abbrev StaysFirst : List Row → List Row → Type 0
StaysFirst xs ys = (m : Row) → first xs ≡ Some m → first ys ≡ Some m

append-stays : (xs ys : List Row) → StaysFirst xs (xs ++ ys)
append-stays [] ys m e = absurd (cc)
append-stays (x ∷ xs) ys m e = e

put-stays : (channel : ℕ → List Row) (c : ℕ) (ms : List Row) (j : ℕ) → StaysFirst (channel c) ms
    → StaysFirst (channel j) (put channel c ms j)
put-stays channel c ms j h = put-each (λ i xs. StaysFirst (channel i) xs) channel c ms (λ i m e. e) h j

added-stays : (here : Bool) (c : ℕ) (m : Row) (channel : ℕ → List Row) (j : ℕ)
    → StaysFirst (channel j) (added_if here c m channel j)
added-stays true c m channel j = put-stays channel c (channel c ++ m ∷ []) j (append-stays (channel c) (m ∷ []))
added-stays false c m channel j = λ r e. e

requests-stay : (c : ℕ) (o : Option Row) (channel : ℕ → List Row) (j : ℕ) → StaysFirst (channel j) (requests_with c o channel j)
requests-stay c None channel j = λ r e. e
requests-stay c (Some m) channel j = added-stays (is_request (network_of m)) c m channel j

responses-stay : (c : ℕ) (o : Option Row) (channel : ℕ → List Row) (j : ℕ) → StaysFirst (channel j) (responses_with c o channel j)
responses-stay c None channel j = λ r e. e
responses-stay c (Some m) channel j = added-stays (is_response (network_of m)) c m channel j

-- the channels that the engine takes from
record ChannelsStay (s later : State) : Type 0 where
  response : (c : ℕ) → StaysFirst (s.response c) (later.response c)
  memin : StaysFirst s.memin later.memin
  request : (c : ℕ) → StaysFirst (s.request c) (later.request c)

offered-stays : (later then_state : State) (choice : Choice) (m : Row) → ChannelsStay later then_state
    → offered_head later choice ≡ Some m
    → offered_head then_state choice ≡ Some m
offered-stays later then_state choice m stay = class (choice.class == 1) (choice.class == 2) (choice.source == 0) (choice.class == 3)
  where
    named : Bool → Bool → Bool → Bool → State → Option Row
    named b1 b2 b0 b3 s =
        cond b1 (first (s.response choice.source)) (cond b2 (cond b0 (first s.memin) None) (cond b3 (first (s.request choice.source)) None))

    class : (b1 b2 b0 b3 : Bool) → named b1 b2 b0 b3 later ≡ Some m → named b1 b2 b0 b3 then_state ≡ Some m
    class true b2 b0 b3 = stay.response choice.source m
    class false true true b3 = stay.memin m
    class false true false b3 = λ e. e
    class false false b0 true = stay.request choice.source m
    class false false b0 false = λ e. e

front-stays : (k : Shape) (s later : State) (o : Option Head) → ChannelsStay s later → IfSome o (IsFront k s)
    → IfSome o (IsFront k later)
front-stays k s later None stay h = tt
front-stays k s later (Some head) stay h = record { source = h.source; first = offered-stays s later head.choice head.message stay h.first }

-- CACHES AND MEMORY

taken-stays : (k : Shape) (s : State) (c : ℕ) (t : Transition) → HoldsFront k s → HoldsFront k (with_taken s c t).state
taken-stays k s c t h = front-stays k s (with_taken s c t).state s.engine.core.head (record {
  response = responses-stay c t.sent s.response;
  memin = λ m e. e;
  request = requests-stay c t.sent s.request;
}) h

row-stays : (k : Shape) (s later : State) (c : ℕ) (o : Option Transition) → HoldsFront k s → HoldsFront k later
    → HoldsFront k (state_after_row s (cache_row later c o))
row-stays k s later c None h g = h
row-stays k s later c (Some t) h g = taken-stays k later c t g

-- the engine looks at no command, fill or message to the memory
elsewhere : (k : Shape) (s later : State) (o : Option Head) → ((c : ℕ) → later.response c ≡ s.response c)
    → later.memin ≡ s.memin
    → ((c : ℕ) → later.request c ≡ s.request c)
    → IfSome o (IsFront k s) → IfSome o (IsFront k later)
elsewhere k s later o r i q h = front-stays k s later o (record {
  response = λ c m e. ap first (r c) ∙ e;
  memin = λ m e. ap first i ∙ e;
  request = λ c m e. ap first (q c) ∙ e;
}) h

memory-stays : (k : Shape) (s : State) (o : Option Row) → HoldsFront k s → HoldsFront k (state_after_row s (access_row s o))
memory-stays k s None h = h
memory-stays k s (Some m) h = front-stays k s (state_after_row s (access_row s (Some m))) s.engine.core.head (record {
  response = λ c r e. e;
  memin = append-stays s.memin (option_to_list (answer_to s.memory m));
  request = λ c r e. e;
}) h

-- THE ENGINE

arithmetic-head : (core : Core) (f : Form) → (after_arithmetic core f).head ≡ core.head
arithmetic-head core (Add a b c) = refl
arithmetic-head core (Sub a b c) = refl
arithmetic-head core (And a b c) = refl
arithmetic-head core (Or a b c) = refl
arithmetic-head core (Xor a b c) = refl
arithmetic-head core (Shl a b imm) = refl
arithmetic-head core (Shr a b imm) = refl
arithmetic-head core (Addi a b imm) = refl
arithmetic-head core f = refl

moves-head : (core : Core) (f : Form) → (after_move core f).head ≡ core.head
moves-head core (Not a b) = refl
moves-head core (Neg a b) = refl
moves-head core (Mov a b) = refl
moves-head core (Movi a imm) = refl
moves-head core (Movk a) = refl
moves-head core f = arithmetic-head core f

flags-head : (core : Core) (f : Form) → (after_flag core f).head ≡ core.head
flags-head core (Sf a) = refl
flags-head core (Cf a) = refl
flags-head core (Nf a) = refl
flags-head core (Movf a b) = refl
flags-head core (Andf a b) = refl
flags-head core (Orf a b) = refl
flags-head core f = moves-head core f

held-head : (core : Core) (held : Held) (f : Form) → (after_held_read core held f).head ≡ core.head
held-head core held (Mova a) = refl
held-head core held (Movs a) = refl
held-head core held (Movw a) = refl
held-head core held f = refl

request-head : (core : Core) (o : Option Held) (f : Form) → (after_request_read core o f).head ≡ core.head
request-head core None f = refl
request-head core (Some held) f = held-head core held f

serves-head : (core : Core) (sent : ℕ) (f : Form) → (after_service core sent f).head ≡ core.head
serves-head core sent Rdw = refl
serves-head core sent Gad = refl
serves-head core sent Fin = refl
serves-head core sent (Inv a) = refl
serves-head core sent Memwb = refl
serves-head core sent (Mova a) = request-head core core.held (Mova a)
serves-head core sent (Movs a) = request-head core core.held (Movs a)
serves-head core sent (Movw a) = request-head core core.held (Movw a)
serves-head core sent f = flags-head core f

took-head : (core : Core) (o : Option Held) (m : Row) → (after_take core o m).head ≡ core.head
took-head core (Some held) m = refl
took-head core None (rows.InvAck c v addr) = refl
took-head core None (rows.Wb c v addr words) = refl
took-head core None (rows.Block c v addr words) = refl
took-head core None m = refl

-- a head that was popped is looked at no more
popped-none : (core : Core) (o : Option Head) → core.head ≡ o → (after_pop core o).head ≡ None
popped-none core None h = h
popped-none core (Some head) h = took-head (record core { head = None }) (request_of head.choice.source head.message) head.message

-- where a form changes neither the head nor a channel that the engine takes from
same-head : (k : Shape) (s later : State) (o : Option Head) → o ≡ s.engine.core.head → HoldsFront k s
    → ((m : Head) → IsFront k s m → IsFront k later m) → IfSome o (IsFront k later)
same-head k s later o e h stay = go o (subst (λ (x : Option Head). IfSome x (IsFront k s)) (sym e) h)
  where
    go : (o : Option Head) → IfSome o (IsFront k s) → IfSome o (IsFront k later)
    go None f = tt
    go (Some head) f = stay head f

no-head : (k : Shape) (s : State) (o : Option Head) → o ≡ None → IfSome o (IsFront k s)
no-head k s None e = tt
no-head k s (Some head) e = absurd (cc)

-- what `wfq` looks at stands first
waited-front : (k : Shape) (s later : State) (choice : Choice) (o : Option Row) → o ≡ offered_head s choice → choice.source < k.caches
    → HoldsFront k s
    → ((m : Head) → IsFront k s m → IsFront k later m) → IfSome (after_wait s.engine.core choice o).head (IsFront k later)
waited-front k s later choice None e l h stay = same-head k s later s.engine.core.head refl h stay
waited-front k s later choice (Some m) e l h stay = stay (record { choice = choice; message = m }) (record { source = l; first = sym e })

form-front : (k : Shape) (s : State) (f : Form) (choice : Choice) → choice.source < k.caches → HoldsFront k s
    → HoldsFront k (with_outcome k s (ran k s.engine f choice (offered_head s choice))).state
form-front k s (Wfq classes) choice l h =
    waited-front k s (with_outcome k s (ran k s.engine (Wfq classes) choice (offered_head s choice))).state choice
    (offered_head s choice) refl l h
    (λ m i. record { source = i.source; first = i.first })
form-front k s (Popq wp) choice l h =
    no-head k (with_outcome k s (ran k s.engine (Popq wp) choice (offered_head s choice))).state
    (after_pop s.engine.core s.engine.core.head).head (popped-none s.engine.core s.engine.core.head refl)
form-front k s Defer choice l h = tt
form-front k s f choice l h =
    same-head k s (with_outcome k s (ran k s.engine f choice (offered_head s choice))).state
    (after_service s.engine.core (length (sends k s.engine f)) f).head
    (serves-head s.engine.core (length (sends k s.engine f)) f) h (λ m i. record { source = i.source; first = i.first })

at-front : (k : Shape) (s : State) (o : Option Form) (choice : Choice) → choice.source < k.caches → HoldsFront k s
    → HoldsFront k (with_outcome k s (ran_at k s.engine o choice (offered_head s choice))).state
at-front k s None choice l h = same-head k s (with_outcome k s (ran_at k s.engine None choice (offered_head s choice))).state
    s.engine.core.head refl h (λ m i. record { source = i.source; first = i.first })
at-front k s (Some f) choice l h = form-front k s f choice l h

-- a choice that may be run has a source of the configuration
pub source-of : (a b : ℕ) (test y : Bool) → (nat_lt a b && test && y) ≡ true → a < b
source-of a b test y e = grind (arith, nat_tests)

engine-front : (k : Shape) (program : List Form) (s : State) (choice : Choice) → HoldsFront k s
    → HoldsFront k (state_after_row s (engine_row k program s choice))
engine-front k program s choice h =
    let form : Option Form = slice_get program s.engine.core.place in
    cond_both (can_run k program s choice) (Some (with_outcome k s (runs_to k s.engine program choice (offered_head s choice)))) None
    (λ o. HoldsFront k (state_after_row s o))
    (λ e. at-front k s form choice (source-of choice.source k.caches _ _ e) h)
    (λ e. h)

-- EVENTS AND RUNS

pub event-front : (k : Shape) (program : List Form) (s : State) (event : Event) → HoldsFront k s
    → HoldsFront k (after k program s event)
event-front k program s (events.Issue c way op) h = row-stays k s s c (issue_taken k s c op way) h h
event-front k program s (events.Command c) h =
    row-stays k s (without_command s c) c (command_taken k s c) h
    (elsewhere k s (without_command s c) s.engine.core.head (λ i. refl) refl (λ i. refl) h)
event-front k program s (events.Fill to from) h =
    row-stays k s (without_fill s to from) to (fill_taken k s to from) h
    (elsewhere k s (without_fill s to from) s.engine.core.head (λ i. refl) refl (λ i. refl) h)
event-front k program s events.Memory h = memory-stays k s (first s.memout) h
event-front k program s (events.Engine choice) h = engine-front k program s choice h

run-front : (k : Shape) (program : List Form) (s : State) (es : List Event) → HoldsFront k s → HoldsFront k (run_from k program s es)
run-front k program s [] h = h
run-front k program s (e ∷ es) h = run-front k program (after k program s e) es (event-front k program s e h)

pub runs-front : (k : Shape) (program : List Form) (es : List Event) → HoldsFront k (run_from k program (opening k) es)
runs-front k program es = run-front k program (opening k) es tt
