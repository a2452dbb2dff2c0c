-- An instruction leaves the engine's head and request of the configuration.
use Rattle.std.proofs.Common.{◌≡◌, ℕ, ◌<◌, Option, Some, None, refl, subst, sym}
use Rattle.bk_base.specs.Places.{Shape}
use Rattle.bk_isa.specs.declared.form.Form.{Form}
use Rattle.bk_isa.specs.declared.form.Form.TheVariants.{Fin, Wfq, Popq, Defer, Mova, Movs, Movw}
use Rattle.bk_msg.specs.declared.row.Row.{Row}
use Rattle.bk_msg.specs.declared.row.Row.TheVariants as rows
use Rattle.bk_msg.specs.Within.{IsWithin, IsWay}
use Rattle.bk_engine.specs.declared.parts.Choice.{Choice}
use Rattle.bk_engine.specs.declared.parts.Core.{Core}
use Rattle.bk_engine.specs.declared.parts.Head.{Head}
use Rattle.bk_engine.specs.declared.parts.Held.{Held}
use Rattle.bk_engine.specs.Engine.{new_core}
use Rattle.bk_engine.specs.Heads.{request_of, IsHead, IsSound}
use Rattle.bk_engine.specs.Changes.{after_request_read, after_take, after_pop, after_wait, core_but_place}

pub sound_new : (k : Shape) → IsSound k new_core
sound_new k = record { head = λ h i. absurd (cc); held = λ h i. absurd (cc) }

way-of : (k : Shape) (h : Held) (source way : ℕ) → source < k.caches → way < k.ways → h.source ≡ source → h.way ≡ way
    → IsWay k h.source h.way
way-of k h source way l w e i = record { cache = rw e l; way = rw i w }

-- the request of a message has a way of the configuration
request-way : (k : Shape) (source : ℕ) (m : Row) (h : Held) → 0 < k.ways → source < k.caches → IsWithin k m
    → request_of source m ≡ Some h
    → IsWay k h.source h.way
request-way k source (rows.Rd _ _ way addr) h few l w i =
    let e : h.source ≡ source = cc in let j : h.way ≡ way = cc in way-of k h source way l w.way e j
request-way k source (rows.Wr _ _ way addr) h few l w i =
    let e : h.source ≡ source = cc in let j : h.way ≡ way = cc in way-of k h source way l w.way e j
request-way k source (rows.UcRd _ _ addr) h few l w i = let e : h.source ≡ source = cc in let j : h.way ≡ 0 = cc
    in way-of k h source 0 l few e j
request-way k source (rows.UcWr _ _ addr word) h few l w i = let e : h.source ≡ source = cc in let j : h.way ≡ 0 = cc
    in way-of k h source 0 l few e j
request-way k source (rows.Evict _ _ way addr) h few l w i =
    let e : h.source ≡ source = cc in let j : h.way ≡ way = cc in way-of k h source way l w.way e j
request-way k source m h few l w i = absurd (cc)

took-sound : (k : Shape) (core : Core) (o : Option Held) (m : Row) → IsSound k core
    → ((h : Held) → o ≡ Some h → IsWay k h.source h.way)
    → IsSound k (after_take core o m)
took-sound k core (Some held) m b l = record { head = b.head; held = λ h i. l h i }
took-sound k core None (rows.InvAck _ _ _) b l = record { head = b.head; held = b.held }
took-sound k core None (rows.Wb _ _ _ _) b l = record { head = b.head; held = b.held }
took-sound k core None (rows.Block _ _ _ _) b l = record { head = b.head; held = b.held }
took-sound k core None m b l = b

popped-sound : (k : Shape) (core : Core) (o : Option Head) → 0 < k.ways → core.head ≡ o → IsSound k core
    → IsSound k (after_pop core o)
popped-sound k core None few i b = b
popped-sound k core (Some head) few i b =
    let h = b.head head i in
    took-sound k (record core { head = None }) (request_of head.choice.source head.message) head.message
    (record { head = λ h j. absurd (cc); held = b.held })
    (λ r j. request-way k head.choice.source head.message r few h.source h.within j)

waited-sound : (k : Shape) (core : Core) (choice : Choice) (o : Option Row) → choice.source < k.caches
    → ((m : Row) → o ≡ Some m → IsWithin k m)
    → IsSound k core
    → IsSound k (after_wait core choice o)
waited-sound k core choice None l w b = b
waited-sound k core choice (Some m) l w b = record {
  head = λ h i. let same : record { choice = choice; message = m } ≡ h = cc in
      subst (λ (x : Head). IsHead k x) same (record { source = l; within = w m refl });
  held = b.held;
}

read-sound : (k : Shape) (core : Core) (o : Option Held) (f : Form) → IsSound k core → IsSound k (after_request_read core o f)
read-sound k core None f b = b
read-sound k core (Some held) (Mova a) b = record { head = b.head; held = b.held }
read-sound k core (Some held) (Movs a) b = record { head = b.head; held = b.held }
read-sound k core (Some held) (Movw a) b = record { head = b.head; held = b.held }
read-sound k core (Some held) f b = b

changed-sound : (k : Shape) (core : Core) (sent : ℕ) (f : Form) (choice : Choice) (o : Option Row)
    → 0 < k.ways → choice.source < k.caches → ((m : Row) → o ≡ Some m → IsWithin k m) → IsSound k core
    → IsSound k (core_but_place core sent f choice o)
changed-sound k core sent (Wfq _) choice o few l w b = waited-sound k core choice o l w b
changed-sound k core sent (Popq _) choice o few l w b = popped-sound k core core.head few refl b
changed-sound k core sent Defer choice o few l w b = record { head = λ h i. absurd (cc); held = b.held }
changed-sound k core sent Fin choice o few l w b = record { head = b.head; held = λ h i. absurd (cc) }
changed-sound k core sent (Mova a) choice o few l w b = read-sound k core core.held (Mova a) b
changed-sound k core sent (Movs a) choice o few l w b = read-sound k core core.held (Movs a) b
changed-sound k core sent (Movw a) choice o few l w b = read-sound k core core.held (Movw a) b
changed-sound k core sent f choice o few l w b = record { head = b.head; held = b.held }

-- so does the whole instruction: the place is neither head nor request
pub sound_after : (k : Shape) (core after : Core) (sent : ℕ) (f : Form) (choice : Choice) (o : Option Row) (place : ℕ)
    → 0 < k.ways → choice.source < k.caches → ((m : Row) → o ≡ Some m → IsWithin k m) → IsSound k core
    → after ≡ core_but_place core sent f choice o
    → IsSound k (record after { place = place })
sound_after k core after sent f choice o place few l w b e' =
    let s = subst (λ (later_core : Core). IsSound k later_core) (sym e') (changed-sound k core sent f choice o few l w b) in
    record { head = s.head; held = s.held }
