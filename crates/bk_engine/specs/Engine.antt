-- The engine's state, the engine at its start, and the state that an `Engine` or its two parts stand for.
use Rattle.std.specs.Prelude.{false, None, replicate}
use Rattle.bk_dir.specs.Contents.{Contents, opening}
use Rattle.bk_dir.specs.declared.directory.Directory.{Directory}
use Rattle.bk_dir.specs.Directories.{contents_of}
use Rattle.bk_engine.specs.declared.parts.TheConstants.{NOT_READ}
use Rattle.bk_engine.specs.declared.parts.Core.{Core}
use Rattle.bk_engine.specs.declared.engine.Engine.{Engine}

-- the engine's own parts, and the directory with the pending bits
pub record EngineState : Type 0 where
  pub core : Core
  pub directory : Contents

abbrev pub new_core : Core
new_core = record {
  place = 0;
  head = None;
  held = None;
  summ = NOT_READ;
  acks = 0;
  dirty = None;
  got = None;
  registers = replicate 8 0;
  flags = replicate 4 false;
}

abbrev pub new_engine : EngineState
new_engine = record { core = new_core; directory = opening }

-- THE STATE THAT PARTS STAND FOR

abbrev pub engine_of : Core → Directory → EngineState
engine_of core directory = record { core = core; directory = contents_of directory }

abbrev pub state_of : Engine → EngineState
state_of e = engine_of e.core e.directory
