-- Local rows computed: an uncached load of cache 1, from its issue to the read of memory, in a configuration of 2 caches. The engine serves
-- uncached requests alone.
use Rattle.std.proofs.Common.{◌≡◌, refl, Bool, true, false, List, [], ◌∷◌, replicate, Option, Some, None, option_map, ◌==◌, if◌then◌else◌}
use Rattle.bk_base.specs.Places.{Shape}
use Rattle.bk_base.specs.Tables.{put}
use Rattle.bk_base.specs.declared.op.Op.TheVariants.{UcLoad}
use Rattle.bk_isa.specs.declared.form.Form.{Form}
use Rattle.bk_isa.specs.declared.form.Form.TheVariants.{Wfq, Popq, Memrd}
use Rattle.bk_msg.specs.declared.row.Row.{Row}
use Rattle.bk_msg.specs.declared.row.Row.TheVariants as rows
use Rattle.bk_lce.specs.CacheState.{CacheState}
use Rattle.bk_lce.specs.CacheState as caches
use Rattle.bk_engine.specs.Engine.{EngineState, new_engine, new_core}
use Rattle.bk_system.specs.declared.event.Event.TheVariants as events
use Rattle.bk_system.specs.declared.event.Origin.{Origin}
use Rattle.bk_agents.specs.Parts.{CachePart, EnginePart, MemoryPart}
use Rattle.bk_system.specs.declared.channel.Channel.TheVariants as channels
use Rattle.bk_system.specs.declared.channel.Channel.{Channel}
use Rattle.bk_system.specs.Routes.{heads_of}
use Rattle.bk_agents.specs.Local.{local_row}

k : Shape
k = record { caches = 2; sets = 4; ways = 2 }

program : List Form
program = Wfq 4 ∷ Popq 1 ∷ Memrd ∷ []

-- the message that asks for the word at 64
request : Row
request = rows.UcRd 1 240 64

no_heads : Channel → Option Row
no_heads channel = None

-- that message first in the channel of cache 1, and nothing in any other
one_request : Channel → Option Row
one_request (channels.Request from) = if from == 1 then Some request else None
one_request channel = None

-- the engine where it has looked at the message
looking : EngineState
looking = record new_engine {
  core = record new_core { place = 1; head = Some (record { choice = record { class = 3; source = 1 }; message = request }) };
}

issue : local_row k program (CachePart (caches.opening k) 0) no_heads (events.Issue 1 0 (UcLoad 64)) ≡ Some (record {
  part = CachePart (record (caches.opening k) { busy = Some (record { op = UcLoad 64; way = 0 }) }) 0;
  sent = request ∷ [];
  touched = None;
  pops = false;
  done = None;
  taken = [];
  settled = [];
})
unfolding k request no_heads put
issue = refl

-- `wfq` looks at the message and leaves it in its channel
wait : local_row k program (EnginePart new_engine) one_request (events.Engine (record { class = 3; source = 1 })) ≡ Some (record {
  part = EnginePart looking;
  sent = [];
  touched = Some (channels.Request 1);
  pops = false;
  done = None;
  taken = [];
  settled = [];
})
unfolding k program request one_request looking put
wait = refl

-- it does not run where it is offered another channel, whose head is not there
no_wait : local_row k program (EnginePart new_engine) one_request (events.Engine (record { class = 3; source = 0 })) ≡ None
unfolding k program request one_request put
no_wait = refl

-- `popq` takes the message off, which comes from group 1 of cache 1
popped : option_map {U = Option Channel × Bool × List Origin} (λ local. (local.touched, local.pops, local.taken))
    (local_row k program (EnginePart looking) one_request (events.Engine (record { class = 0; source = 0 })))
    ≡ Some (Some (channels.Request 1), true, record { cache = 1; group = 1 } ∷ [])
unfolding k program request one_request looking put
popped = refl

-- the memory answers a Read on memin, with the block's eight words
read : local_row k program (MemoryPart (λ a. 0)) (λ channel. Some (rows.Read 240 241 64)) events.Memory ≡ Some (record {
  part = MemoryPart (λ a. 0);
  sent = rows.Block 241 240 64 (replicate 8 0) ∷ [];
  touched = Some channels.Memout;
  pops = true;
  done = None;
  taken = [];
  settled = [];
})
unfolding k program put
read = refl
