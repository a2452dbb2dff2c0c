-- The definitions computed on runs of two protocols: cache 0 loads and stores a block, and cache 1 loads it. Each Issue has way 0,
-- which is the oldest way of a set that was never used.
use Rattle.std.proofs.Common.{◌≡◌, ℕ, List, [], ◌∷◌, ◌++◌, true, refl}
use Rattle.std.specs.Prelude.{codes}
use Rattle.std.specs.Fmt.{digits}
use Rattle.bk_base.specs.Places.{Shape}
use Rattle.bk_base.specs.Tables.{put}
use Rattle.bk_base.specs.declared.op.Op.{Op}
use Rattle.bk_base.specs.declared.op.Op.TheVariants.{Load, Store}
use Rattle.bk_check.proofs.Programs.{mesi, moesif}
use Rattle.bk_system.specs.declared.event.Event.{Event}
use Rattle.bk_system.specs.State.{opening}
use Rattle.bk_system.specs.Runs.{run, is_rested}
use Rattle.bk_run.specs.Greedy.{IsEnd}
use Rattle.bk_run.specs.Report.{report_text, counts_of}
use Rattle.bk_run.proofs.RowOne.{least_events}

two_caches : Shape
two_caches = record { caches = 2; sets = 4; ways = 2 }

lines : List (ℕ × Op)
lines = (0, Load 0) ∷ (0, Store 0 5) ∷ (1, Load 0) ∷ []

-- The owner's copy, which was granted in E and stored into, is flushed for the other load, and both share it.
mesi_events : List Event
mesi_events = least_events two_caches mesi.instrs lines (opening two_caches) 100

mesi_ends : IsEnd two_caches mesi.instrs (run two_caches mesi.instrs mesi_events) lines
unfolding mesi_events lines two_caches put digits
mesi_ends = refl

mesi_rests : is_rested two_caches mesi.instrs (run two_caches mesi.instrs mesi_events) ≡ true
unfolding mesi_events lines two_caches put digits
mesi_rests = refl

mesi_reports : report_text two_caches (run two_caches mesi.instrs mesi_events) (counts_of two_caches mesi.instrs mesi_events) true ≡
    codes "0 L 0x0 = 0\n"
    ++ codes "0 S 0x0 5\n"
    ++ codes "1 L 0x0 = 5\n"
    ++ codes "events issue 3 command 3 fill 0 memory 3 engine 56\n"
    ++ codes "messages request 2 command 3 fill 0 response 3 memout 3 memin 2\n"
    ++ codes "cache 0 set 0 way 0 tag 0x0 S\n"
    ++ codes "cache 1 set 0 way 0 tag 0x0 S\n"
    ++ codes "end rested\n"
unfolding mesi_events lines two_caches put digits
mesi_reports = refl

-- The owner answers the other load itself and keeps the block in O. Memory isn't written.
moesif_events : List Event
moesif_events = least_events two_caches moesif.instrs lines (opening two_caches) 100

moesif_ends : IsEnd two_caches moesif.instrs (run two_caches moesif.instrs moesif_events) lines
unfolding moesif_events lines two_caches put digits
moesif_ends = refl

moesif_rests : is_rested two_caches moesif.instrs (run two_caches moesif.instrs moesif_events) ≡ true
unfolding moesif_events lines two_caches put digits
moesif_rests = refl

moesif_reports : report_text two_caches (run two_caches moesif.instrs moesif_events)
    (counts_of two_caches moesif.instrs moesif_events) true ≡
    codes "0 L 0x0 = 0\n"
    ++ codes "0 S 0x0 5\n"
    ++ codes "1 L 0x0 = 5\n"
    ++ codes "events issue 3 command 2 fill 1 memory 1 engine 43\n"
    ++ codes "messages request 2 command 2 fill 1 response 2 memout 1 memin 1\n"
    ++ codes "cache 0 set 0 way 0 tag 0x0 O\n"
    ++ codes "cache 1 set 0 way 0 tag 0x0 S\n"
    ++ codes "end rested\n"
unfolding moesif_events lines two_caches put digits
moesif_reports = refl
