-- The definitions computed on a run of two uncached operations, the second of which finds its group pending. Each Issue has way 0, which
-- is the oldest way of a set that was never used.
use Rattle.std.proofs.Common.{◌≡◌, ℕ, zero, suc, List, [], ◌∷◌, ◌++◌, true, refl, length, Option, Some, None}
use Rattle.std.specs.Prelude.{codes}
use Rattle.std.specs.Fmt.{digits}
use Rattle.bk_base.specs.Places.{Shape}
use Rattle.bk_base.specs.Tables.{put}
use Rattle.bk_base.specs.declared.op.Op.{Op}
use Rattle.bk_base.specs.declared.op.Op.TheVariants.{UcLoad, UcStore}
use Rattle.bk_isa.specs.declared.form.Form.{Form}
use Rattle.bk_isa.specs.declared.form.Form.TheVariants.{Bi, Bk, Fin, Wfq, Popq, Defer, Ucblk, Ucdone, Memrd, Memww}
use Rattle.bk_system.specs.declared.event.Event.{Event}
use Rattle.bk_system.specs.State.{State, opening}
use Rattle.bk_system.specs.Runs.{after, run, is_rested}
use Rattle.bk_run.specs.Greedy.{least_enabled, IsEnd}
use Rattle.bk_run.specs.Report.{report_text, counts_of}

two_caches : Shape
two_caches = record { caches = 2; sets = 4; ways = 2 }

-- the engine that serves uncached requests alone
abbrev pub uncached : List Form
uncached =
    Wfq 5 ∷ Bk 2 2 4 ∷ Popq 1 ∷ Bi 0
    ∷ Bk 3 1 9 ∷ Defer ∷ Wfq 1 ∷ Popq 1 ∷ Bi 0
    ∷ Popq 1 ∷ Bk 4 4 15 ∷ Memww ∷ Ucdone ∷ Fin ∷ Bi 0
    ∷ Memrd ∷ Wfq 2 ∷ Popq 0 ∷ Ucblk ∷ Fin ∷ Bi 0 ∷ []

lines : List (ℕ × Op)
lines = (0, UcStore 64 7) ∷ (1, UcLoad 64) ∷ []

-- an event and those after it, or nothing
abbrev with_next : Option Event → (Event → List Event) → List Event
with_next None later = []
with_next (Some event) later = event ∷ later event

-- the least events one after the other, at most so many, each Issue with way 0
abbrev pub least_events : Shape → List Form → List (ℕ × Op) → State → ℕ → List Event
least_events k program operations s zero = []
least_events k program operations s (suc n) =
    with_next (least_enabled k program s operations 0) (λ event. least_events k program operations (after k program s event) n)

events : List Event
events = least_events two_caches uncached lines (opening two_caches) 100

-- the greedy list has 37 events, after which none is enabled and the system is at rest
all_events : length events ≡ 37
unfolding events lines two_caches put digits
all_events = refl

at_its_end : IsEnd two_caches uncached (run two_caches uncached events) lines
unfolding events lines two_caches put digits
at_its_end = refl

rests : is_rested two_caches uncached (run two_caches uncached events) ≡ true
unfolding events lines two_caches put digits
rests = refl

-- its report
row_one : report_text two_caches (run two_caches uncached events) (counts_of two_caches uncached events) true ≡
    codes "0 US 0x40 7\n"
    ++ codes "1 UL 0x40 = 7\n"
    ++ codes "events issue 2 command 2 fill 0 memory 2 engine 31\n"
    ++ codes "messages request 2 command 2 fill 0 response 2 memout 2 memin 1\n"
    ++ codes "end rested\n"
unfolding events lines two_caches put digits
row_one = refl
