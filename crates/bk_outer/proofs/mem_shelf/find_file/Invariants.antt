use Rattle.std.proofs.Common.{◌≡◌, drop}
use Rattle.bk_outer.specs.Shelf.{file_in}
use Rattle.bk_outer.proofs.mem_shelf.find_file.Given as goal

-- none of the files so far has the name
abbrev pub invariant-loop-file : goal.invariant-loop-file
invariant-loop-file l = file_in l.files l.name ≡ file_in (drop l.file-index l.files) l.name
