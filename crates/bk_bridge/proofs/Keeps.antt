-- Each event leaves a well formed state, and each list of events.
use Rattle.std.proofs.Common.{ℕ, ltb, ◌&&◌, refl, List, [], ◌∷◌, ◌++◌, drop, Option, Some, None, IfSome, option_to_list, append-nil, subst, sym}
use Rattle.bk_base.specs.Places.{Shape}
use Rattle.bk_isa.specs.declared.form.Form.{Form}
use Rattle.bk_msg.specs.declared.row.Row.{Row}
use Rattle.bk_msg.specs.declared.row.Row.TheVariants as rows
use Rattle.bk_msg.specs.declared.row.Network.TheVariants as networks
use Rattle.bk_lce.specs.CacheTable.{Transition}
use Rattle.bk_system.specs.declared.event.Event.{Event}
use Rattle.bk_system.specs.declared.event.Event.TheVariants as events
use Rattle.bk_system.specs.State.{State}
use Rattle.bk_system.specs.Memory.{answer_to}
use Rattle.bk_system.specs.Events.{first, cache_row, access_row, command_of, fill_of, without_command, without_fill}
use Rattle.bk_system.specs.Runs.{state_after_row, after, run_from}
use Rattle.bk_system.specs.Lawful.{IsLawful, AreLawful}
use Rattle.bk_bridge.specs.Formed.{WellFormed, AreOf, IsOf}
use Rattle.bk_bridge.proofs.Places.{start_IsAddr}
use Rattle.bk_bridge.proofs.Formed.{put-all, guard, push, without_head}
use Rattle.bk_bridge.proofs.EngineEvent.{engine-keeps}
use Rattle.bk_bridge.proofs.TakenFormed.{FormedTaken, FormedCache, taken_keeps, issue-formed, command-formed, fill-formed}

cache-formed : (k : Shape) (s : State) (c : ℕ) → WellFormed k s → FormedCache (s.caches c)
cache-formed k s c f = record { lines = f.lines c; busy = f.busy c }

-- where there is no row the state stays, which is not the popped one
row-keeps : (k : Shape) (s later : State) (c : ℕ) (t : Option Transition) → WellFormed k s → WellFormed k later
    → IfSome t FormedTaken
    → WellFormed k (state_after_row s (cache_row later c t))
row-keeps k s later c None f g h = f
row-keeps k s later c (Some t) f g h = taken_keeps k later c t g h

-- without the head of a command or fill channel
command-left : (k : Shape) (s : State) (c : ℕ) → WellFormed k s → WellFormed k (without_command s c)
command-left k s c f = record {
  profile = f.profile;
  lines = f.lines;
  busy = f.busy;
  request = f.request;
  command = put-all (AreOf networks.Command) s.command c _ f.command (without_head networks.Command (s.command c) (f.command c));
  fill = f.fill;
  response = f.response;
  memout = f.memout;
  memin = f.memin;
  history = f.history;
  engine = f.engine;
}

fill-left : (k : Shape) (s : State) (to from : ℕ) → WellFormed k s → WellFormed k (without_fill s to from)
fill-left k s to from f = record {
  profile = f.profile;
  lines = f.lines;
  busy = f.busy;
  request = f.request;
  command = f.command;
  fill = put-all (λ (row : ℕ → List Row). (j : ℕ) → AreOf networks.Fill (row j)) s.fill to _ f.fill
      (put-all (AreOf networks.Fill) (s.fill to) from _ (f.fill to) (without_head networks.Fill (s.fill to from) (f.fill to from)));
  response = f.response;
  memout = f.memout;
  memin = f.memin;
  history = f.history;
  engine = f.engine;
}

command_head : (k : Shape) (s : State) (c : ℕ) (ms : List Row) → WellFormed k s → AreOf networks.Command ms
    → IfSome (command_of k s c (first ms)) FormedTaken
command_head k s c [] f h = tt
command_head k s c (m ∷ ms) f h = command-formed k (s.caches c) c m (cache-formed k s c f) h.0.whole

fill_head : (k : Shape) (s : State) (c : ℕ) (ms : List Row) → WellFormed k s → AreOf networks.Fill ms
    → IfSome (fill_of k s c (first ms)) FormedTaken
fill_head k s c [] f h = tt
fill_head k s c (m ∷ ms) f h = fill-formed k (s.caches c) c m (cache-formed k s c f) h.0.whole

-- MEMORY

answered : (memory : ℕ → ℕ) (m : Row) (channel : List Row) → IsOf networks.Memout m → AreOf networks.Memin channel
    → AreOf networks.Memin (channel ++ option_to_list (answer_to memory m))
answered memory (rows.Read from to addr) channel h f =
    push networks.Memin channel _ f (record { is = refl; whole = record { address = start_IsAddr addr h.whole.address; block = refl } })
answered memory (rows.Write from to addr words) channel h f = subst (AreOf networks.Memin) (sym (append-nil channel)) f
answered memory (rows.WriteWord from to addr word) channel h f = subst (AreOf networks.Memin) (sym (append-nil channel)) f
answered memory m channel h f = absurd (cc h.is)

memory-keeps : (k : Shape) (s : State) (ms : List Row) → AreOf networks.Memout ms → WellFormed k s
    → AreOf networks.Memout (drop 1 s.memout)
    → WellFormed k (state_after_row s (access_row s (first ms)))
memory-keeps k s [] h f g = f
memory-keeps k s (m ∷ ms) h f g = record {
  profile = f.profile;
  lines = f.lines;
  busy = f.busy;
  request = f.request;
  command = f.command;
  fill = f.fill;
  response = f.response;
  memout = g;
  memin = answered s.memory m s.memin h.0 f.memin;
  history = f.history;
  engine = f.engine;
}

-- AN EVENT, AND A LIST OF THEM

pub event-keeps : (k : Shape) (program : List Form) (s : State) (event : Event) → WellFormed k s → IsLawful event
    → WellFormed k (after k program s event)
event-keeps k program s (events.Issue c way op) f l =
    row-keeps k s s c _ f f
    (guard FormedTaken (ltb c k.caches && ltb way k.ways) _ (issue-formed k (s.caches c) c op way (cache-formed k s c f) l))
event-keeps k program s (events.Command c) f l =
    row-keeps k s (without_command s c) c _ f (command-left k s c f)
    (guard FormedTaken (ltb c k.caches) _ (command_head k s c (s.command c) f (f.command c)))
event-keeps k program s (events.Fill to from) f l =
    row-keeps k s (without_fill s to from) to _ f (fill-left k s to from f)
    (guard FormedTaken (ltb to k.caches && ltb from k.caches) _ (fill_head k s to (s.fill to from) f (f.fill to from)))
event-keeps k program s events.Memory f l = memory-keeps k s s.memout f.memout f (without_head networks.Memout s.memout f.memout)
event-keeps k program s (events.Engine choice) f l = engine-keeps k program s choice f

pub run-keeps : (k : Shape) (program : List Form) (s : State) (es : List Event) → WellFormed k s → AreLawful es
    → WellFormed k (run_from k program s es)
run-keeps k program s [] f l = f
run-keeps k program s (e ∷ es) f l = run-keeps k program (after k program s e) es (event-keeps k program s e f l.0) l.1
