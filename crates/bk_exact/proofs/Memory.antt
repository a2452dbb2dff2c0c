-- `memrd`, `memww` and `memwb` are permitted.
use Rattle.std.proofs.Common.{◌≡◌, ℕ, Bool, true, false, refl, sym, ap, ◌∙◌, subst, Option, Some, None}
use Rattle.std.specs.Prelude.{if◌then◌else◌}
use Rattle.std.proofs.lemmas.Bool.{eq-eqb}
use Rattle.bk_base.specs.Places.{Shape, group_of, tag_at, word_of}
use Rattle.bk_base.specs.declared.coh.Coh.{Coh}
use Rattle.bk_isa.specs.declared.form.Form.TheVariants as forms
use Rattle.bk_know.specs.declared.sets.Sets.{Sets}
use Rattle.bk_know.specs.Sets.{only, subset}
use Rattle.bk_know.specs.declared.values.TheConstants.{KIND_RD_WR_UC_RD}
use Rattle.bk_order.proofs.Meets.{Met}
use Rattle.bk_engine.specs.declared.parts.Core.{Core}
use Rattle.bk_engine.specs.declared.parts.Held.{Held}
use Rattle.bk_engine.specs.declared.parts.DirtyBlock.{DirtyBlock}
use Rattle.bk_engine.specs.declared.parts.RequestKind.{RequestKind}
use Rattle.bk_engine.specs.declared.parts.RequestKind.TheVariants as kinds
use Rattle.bk_engine.specs.Heads.{kind_number}
use Rattle.bk_system.specs.State.{State}
use Rattle.bk_machine.specs.Actions.{NoneOrForward, ReadsMemory, WritesWord, WritesBack}
use Rattle.bk_machine.specs.Entries.{is_light}
use Rattle.bk_machine.specs.Messages.{becomes, MemoryBlock, asks_read}
use Rattle.bk_machine.specs.Products.{words_of}
use Rattle.bk_machine.specs.Transactions.{Idle, FlushKept, ReadAsked}
use Rattle.bk_bridge.specs.Acting.{kept_action, request_by}
use Rattle.bk_exact.specs.Told.{Told}
use Rattle.bk_exact.specs.Ties.{Tied}
use Rattle.bk_exact.proofs.Blocks.{kept-found, none-got}
use Rattle.bk_exact.proofs.Moves.{Moves, serves-as}
use Rattle.bk_exact.proofs.Parts.{and5, and7, clash}
use Rattle.bk_exact.proofs.Permits.{acts-to, acts-still, ungranted, no-acks}
use Rattle.bk_exact.proofs.Readings.{of-kind, own-read, owner-read, forward, no-owner, no-others}
use Rattle.bk_exact.proofs.Serving.{Staged, mask}
use Rattle.bk_exact.proofs.Values as values

-- Rd, Wr and UcRd may read memory
reads-asked : (k : Shape) (h : Held) (q : RequestKind) → subset (only (kind_number q)) KIND_RD_WR_UC_RD ≡ true
    → asks_read (request_by k q h) ≡ true
reads-asked k h kinds.Rd e = refl
reads-asked k h kinds.Wr e = refl
reads-asked k h kinds.UcRd e = refl
reads-asked k h kinds.UcWr e = absurd (cc)
reads-asked k h kinds.Evict e = absurd (cc)

module _ (k : Shape) (later : State) (told : Told) (tied : Tied k later told) (v : Staged k later told false) where
  abbrev e : Core
  e = later.engine.core

  open v use {serving as served, serving.{held as h, transaction as x, serves as sv}}

  abbrev s : ℕ
  s = group_of k h.addr

  abbrev m : Sets
  m = mask k later told served

  pub permits-memrd : Met forms.Memrd m → Moves k later told forms.Memrd
  permits-memrd o =
      let q = and5 _ _ _ _ _ o.o14 in
      let idle = values.mem-idle x.written x.reading q.1 in
      acts-still k later told tied served forms.Memrd (ReadsMemory x) (record x { reading = ReadAsked }) refl refl (
        ungranted k later told v,
        ap asks_read sv.serves.request ∙ reads-asked k h h.kind q.0,
        idle.1,
        values.wb-idle x.write_back q.2,
        subst NoneOrForward (sym (owner-read k later told served)) (forward k later told served q.3),
        subst (λ (y : Coh). is_light y ≡ true) (sym (own-read k later told served)) (values.own-light _ q.4),
      ) refl (λ c r. refl) refl
      (serves-as k e e h s x (record x { reading = ReadAsked }) sv refl refl sv.acks sv.kept
      (none-got e.got x.reading idle.1 sv.got) (λ i. clash i idle.0) (λ g. clash g v.is_granted))

  pub permits-memww : Met forms.Memww m → Moves k later told forms.Memww
  permits-memww o =
      let q = and7 _ _ _ _ _ _ _ o.o15 in
      let idle = values.mem-idle x.written x.reading q.6 in
      acts-still k later told tied served forms.Memww (WritesWord (tag_at k h.addr) (word_of h.addr) (becomes h.value) x)
      (record x { written = true }) refl refl (
        record { ungranted = ungranted k later told v; idle = values.wb-idle x.write_back q.5; acked = no-acks k later told v q.4 },
        of-kind k later told served kinds.UcWr (values.kind-uc_wr h.kind q.0),
        idle.0,
        own-read k later told served ∙ values.own-none _ q.1,
        no-owner k later told served q.2,
        no-others k later told served q.3,
        idle.1,
      ) refl (λ c r. refl) refl
      (serves-as k e e h s x (record x { written = true }) sv refl refl sv.acks sv.kept sv.got
      (λ i. idle.1) (λ g. clash g v.is_granted))

  pub permits-memwb : Met forms.Memwb m → Moves k later told forms.Memwb
  permits-memwb o =
      let q = values.wb-dirty x.write_back o.o20 in
      let f = kept-found k s e.dirty x.write_back q.0 sv.kept q.1 in
      let b : MemoryBlock = record { tag = tag_at k f.block.addr; words = words_of f.block.words } in
      acts-to k later told tied served forms.Memwb (WritesBack b x) (record x { write_back = Idle }) refl
      (ap (λ (o : Option DirtyBlock). kept_action k h o x) f.is
      ∙ ap (λ (same : Bool). if same then Some (WritesBack b x) else None) (eq-eqb (group_of k f.block.addr) s f.group))
      (served.is_told, q.1 ∙ ap FlushKept f.same) refl (λ c r. refl) refl
      (λ c r.
      serves-as k e _ h s x (record x { write_back = Idle }) sv refl refl sv.acks tt sv.got sv.written
      (λ g. clash g v.is_granted))
