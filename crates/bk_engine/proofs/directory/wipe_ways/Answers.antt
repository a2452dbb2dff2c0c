-- At each way, the way's entry is wiped.
use Rattle.std.proofs.Common.{◌∙◌, ap}
use Rattle.bk_dir.specs.declared.entry.Entry.{Entry}
use Rattle.bk_dir.specs.Contents.{with_entry}
use Rattle.bk_dir.specs.Directories.{contents_of}
use Rattle.bk_engine.specs.Changes.{wiped_entry}
use Rattle.bk_engine.proofs.Wiping.{ways-none, ways-more}
use Rattle.bk_engine.proofs.directory.wipe_ways.Goals as goal

pub loop-way-init : goal.loop-way-init
loop-way-init c = record {
  config = c.requires.config;
  state = ways-none (contents_of c.args.directory.now) c.args.cache c.args.set c.args.tag;
}

pub loop-way-preserved : goal.loop-way-preserved
loop-way-preserved c = record {
  config = c.write_entry.ensures.config ∙ c.loop-way.invariant.config;
  state = c.write_entry.ensures.state
      ∙ ap (λ (x : Entry). with_entry (contents_of c.loop-way.directory) c.args.cache c.args.set c.loop-way.way x)
      (c.wiped_entry.ensures.value ∙ ap (λ (x : Entry). wiped_entry c.args.tag x) c.entry-entry.ensures.value)
      ∙ ways-more c.loop-way.way (contents_of c.args.directory.now) c.args.cache c.args.set c.args.tag
      (contents_of c.loop-way.directory) c.loop-way.invariant.state;
}
