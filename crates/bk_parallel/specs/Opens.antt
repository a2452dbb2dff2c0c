-- The steps by which channels are listed and opened, one at a time.
use Rattle.std.specs.Prelude.{◌≡◌, ◌≢◌, ℕ, ◌==◌, List, [], ◌∷◌, ◌++◌, true, if◌then◌else◌, All, AllPairs}
use Rattle.bk_base.specs.Places.{Shape}
use Rattle.bk_system.specs.declared.channel.Channel.{Channel}
use Rattle.bk_system.specs.Routes.{begins_at, ends_at}
use Rattle.bk_rounds.specs.declared.agent.Agent.{Agent}
use Rattle.bk_rounds.specs.declared.ends.Inlet.{Inlet}
use Rattle.bk_rounds.specs.declared.ends.Outlet.{Outlet}
use Rattle.bk_rounds.specs.Ends.{is_in}
use Rattle.bk_parallel.specs.Teams.{inlets_at, outlets_at}
use Rattle.bk_parallel.specs.Joined.{IsBetween}

-- some of the channels of a configuration that lead from one agent to another, each once
pub record AreSome (k : Shape) (channels : List Channel) : Type 0 where
  pub each : All (IsBetween k) channels
  pub different : AllPairs (λ channel other. channel ≢ other) channels

-- one channel more, if it leads from one agent to another
pub record Adds (k : Shape) (channel : Channel) (old new : List Channel) : Type 0 where
  pub some : AreSome k new
  pub kept : (other : Channel) → is_in other old ≡ true → is_in other new ≡ true
  pub there : IsBetween k channel → is_in channel new ≡ true

-- An inlet and an outlet of a channel, of one queue of which nothing was taken and to which nothing was sent, stand behind those that the
-- agents at its ends had. The other agents have what they had.
pub record Opens (k : Shape) (channel : Channel) (inlet : Inlet) (outlet : Outlet) (old new : List Agent) : Type 0 where
  pub end : inlet.channel ≡ channel
  pub beginning : outlet.channel ≡ channel
  pub table : inlet.receiver.channel ≡ outlet.sender.channel
  pub taken : inlet.receiver.taken ≡ []
  pub sent : outlet.sender.sent ≡ []
  pub inlets : (n : ℕ) → inlets_at new n ≡ (if ends_at k channel == n then inlets_at old n ++ inlet ∷ [] else inlets_at old n)
  pub outlets : (n : ℕ) → outlets_at new n ≡ (if begins_at k channel == n then outlets_at old n ++ outlet ∷ [] else outlets_at old n)
