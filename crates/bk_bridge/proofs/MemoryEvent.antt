-- A Memory event: the head of the memory's channel is done. Read, Write and WriteWord.
use Rattle.std.proofs.Common.{ℕ, ◌<◌, refl, List, [], ◌∷◌, Option, Some}
use Rattle.bk_base.specs.Places.{Shape}
use Rattle.bk_isa.specs.declared.form.Form.{Form}
use Rattle.bk_msg.specs.declared.row.Row.{Row}
use Rattle.bk_msg.specs.declared.row.Row.TheVariants as rows
use Rattle.bk_msg.specs.declared.row.Network.TheVariants as networks
use Rattle.bk_system.specs.declared.event.Event.TheVariants as events
use Rattle.bk_system.specs.State.{State}
use Rattle.bk_machine.specs.Transactions.{Transaction}
use Rattle.bk_machine.specs.Products.{as_block}
use Rattle.bk_machine.specs.Runs as machine
use Rattle.bk_bridge.specs.Formed.{AreOf, IsOf, WellFormed}
use Rattle.bk_bridge.specs.Steps.{IsStep}
use Rattle.bk_bridge.proofs.Places.{group-start, tag-start, sets_pos}
use Rattle.bk_bridge.proofs.Channels.{pushed, unpushed}
use Rattle.bk_bridge.proofs.MemoryWrites.{block_written, word_written, block_read}
use Rattle.bk_bridge.proofs.Same.{world}

-- a step where the head is this one
head-step : (k : Shape) (program : List Form) (s : State) (x : Option (ℕ × Transaction)) (m : Row) (ms : List Row) → 0 < k.sets
    → IsOf networks.Memout m
    → IsStep k program (record s { memout = m ∷ ms }) x events.Memory machine.Memory
head-step k program s x (rows.Read from to addr) ms l h = record {
  enabled = refl;
  left = world (record {
    entries = refl;
    words = refl;
    directory = refl;
    recency = refl;
    busy = refl;
    pending = refl;
    memory = refl;
    request = refl;
    command = refl;
    fill = refl;
    response = refl;
    memout = refl;
    transaction = refl;
    history = refl;
    taken_count = refl;
    settled_count = refl;
    memin = pushed (as_block k) s.memin _ _ (λ i. Some
        (group-start k addr i, record { tag = tag-start k addr i; words = block_read k s.memory addr l i }));
  });
}
head-step k program s x (rows.Write from to addr words) ms l h = record {
  enabled = refl;
  left = world (record {
    entries = refl;
    words = refl;
    directory = refl;
    recency = refl;
    busy = refl;
    pending = refl;
    request = refl;
    command = refl;
    fill = refl;
    response = refl;
    memout = refl;
    transaction = refl;
    history = refl;
    taken_count = refl;
    settled_count = refl;
    memory = block_written k s.memory addr words l h.whole.block;
    memin = unpushed (as_block k) s.memin;
  });
}
head-step k program s x (rows.WriteWord from to addr word) ms l h = record {
  enabled = refl;
  left = world (record {
    entries = refl;
    words = refl;
    directory = refl;
    recency = refl;
    busy = refl;
    pending = refl;
    request = refl;
    command = refl;
    fill = refl;
    response = refl;
    memout = refl;
    transaction = refl;
    history = refl;
    taken_count = refl;
    settled_count = refl;
    memory = word_written k s.memory addr word l h.whole.address.aligned;
    memin = unpushed (as_block k) s.memin;
  });
}
head-step k program s x m ms l h = absurd (cc h.is)

channel-step : (k : Shape) (program : List Form) (s : State) (x : Option (ℕ × Transaction)) (ms : List Row) → 0 < k.sets
    → AreOf networks.Memout ms
    → IsStep k program (record s { memout = ms }) x events.Memory machine.Memory
channel-step k program s x [] l h = record { enabled = refl; left = refl }
channel-step k program s x (m ∷ ms) l h = head-step k program s x m ms l h.0

pub memory_step : (k : Shape) (program : List Form) (s : State) (x : Option (ℕ × Transaction)) → WellFormed k s
    → IsStep k program s x events.Memory machine.Memory
memory_step k program s x f = channel-step k program s x s.memout (sets_pos k f.profile) f.memout
