-- Two states of the machine are one where their parts are.
use Rattle.std.proofs.Common.{◌≡◌}
use Rattle.bk_machine.specs.World.{World}

pub record Same (world later : World) : Type 0 where
  pub entries : world.entries ≡ later.entries
  pub words : world.words ≡ later.words
  pub directory : world.directory ≡ later.directory
  pub recency : world.recency ≡ later.recency
  pub busy : world.busy ≡ later.busy
  pub pending : world.pending ≡ later.pending
  pub memory : world.memory ≡ later.memory
  pub request : world.request ≡ later.request
  pub command : world.command ≡ later.command
  pub fill : world.fill ≡ later.fill
  pub response : world.response ≡ later.response
  pub memout : world.memout ≡ later.memout
  pub memin : world.memin ≡ later.memin
  pub transaction : world.transaction ≡ later.transaction
  pub history : world.history ≡ later.history
  pub taken_count : world.taken_count ≡ later.taken_count
  pub settled_count : world.settled_count ≡ later.settled_count

pub world : {later then_world : World} → Same later then_world → later ≡ then_world
world e = λ i. record {
  entries = e.entries i;
  words = e.words i;
  directory = e.directory i;
  recency = e.recency i;
  busy = e.busy i;
  pending = e.pending i;
  memory = e.memory i;
  request = e.request i;
  command = e.command i;
  fill = e.fill i;
  response = e.response i;
  memout = e.memout i;
  memin = e.memin i;
  transaction = e.transaction i;
  history = e.history i;
  taken_count = e.taken_count i;
  settled_count = e.settled_count i;
}
