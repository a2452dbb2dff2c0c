-- The contents that a directory stands for.
use Rattle.bk_dir.specs.declared.directory.Directory.{Directory}
use Rattle.bk_dir.specs.Contents.{Contents}
use Rattle.bk_dir.specs.Lists.{entries_of, bits_of}

abbrev pub contents_of : Directory → Contents
contents_of d = record { entries = entries_of d.segments.items; pending = bits_of d.pending }
