-- The mask after an instruction that writes entries, by what the machine reads of the way group's entries.
use Rattle.std.proofs.Common.{◌≡◌, ℕ, ◌==◌, Bool, not, refl, ap, ◌∙◌, arith}
use Rattle.std.specs.Prelude.{nat_lt}
use Rattle.std.proofs.lemmas.Bool.Decides.{nat_tests}
use Rattle.bk_base.specs.Counting.{is_nil}
use Rattle.bk_base.specs.Places.{Shape, group_of, tag_at}
use Rattle.bk_base.specs.declared.coh.Coh.{Coh}
use Rattle.bk_base.specs.declared.coh.Coh.TheVariants as states
use Rattle.bk_know.specs.declared.sets.Sets.{Sets}
use Rattle.bk_know.specs.Sets.{only}
use Rattle.bk_flow.specs.Flow.{only_state}
use Rattle.bk_dir.specs.declared.entry.Entry.{Entry as DirectoryEntry}
use Rattle.bk_dir.specs.Contents.{Contents, with_entry}
use Rattle.bk_engine.specs.declared.parts.Core.{Core}
use Rattle.bk_engine.specs.Heads.{is_placed}
use Rattle.bk_engine.specs.Reads.{query_of, summary_for, number_of, own_number, owner_number, is_heavy}
use Rattle.bk_system.specs.State.{State}
use Rattle.bk_machine.specs.Tables.{put2}
use Rattle.bk_machine.specs.Directory as machine
use Rattle.bk_machine.specs.Entries.{Entry}
use Rattle.bk_machine.specs.Transactions.{Transaction}
use Rattle.bk_machine.proofs.View.{put-here}
use Rattle.bk_bridge.specs.Readings.{ReadsAlike, seen}
use Rattle.bk_bridge.specs.Worlds.{listed_of}
use Rattle.bk_bridge.proofs.Effects.{entry-seen}
use Rattle.bk_bridge.proofs.Readings.{reads_alike}
use Rattle.bk_exact.specs.Told.{Told}
use Rattle.bk_exact.specs.Exact.{gp_of}
use Rattle.bk_exact.proofs.Serving.{Serving}
use Rattle.bk_flows.proofs.Sent.{mask_in}

-- a state's number is its bit
pub state-only : (y : Coh) → only (own_number y) ≡ only_state y
state-only states.I = refl
state-only states.S = refl
state-only states.E = refl
state-only states.F = refl
state-only states.M = refl
state-only states.O = refl

module _ (k : Shape) (later : State) (told : Told) (v : Serving k later told) where
  open v use {held as h}

  abbrev s : ℕ
  s = group_of k h.addr

  abbrev r : ℕ
  r = h.source

  abbrev t : ℕ
  t = tag_at k h.addr

  abbrev list : Contents
  list = later.engine.directory

  abbrev mask : Core → Contents → Transaction → Sets
  mask = mask_in k later told v

  -- what the machine reads for the request in these entries
  abbrev pub own_in : (ℕ → ℕ → Entry) → Coh
  own_in f = machine.own k.ways f r t

  abbrev pub owner_in : (ℕ → ℕ → Entry) → Coh
  owner_in f = machine.owner_state k.caches k.ways f r t

  abbrev pub none_in : (ℕ → ℕ → Entry) → Bool
  none_in f = is_nil (machine.others k.caches k.ways f r t)

  abbrev pub victim_in : (ℕ → ℕ → Entry) → Coh
  victim_in f = machine.victim (is_placed h.kind) f r t h.way

  -- the engine's summary is what the machine reads
  alike : (q : Contents) → ReadsAlike k q (query_of k h) (summary_for k q h)
  alike q = reads_alike k q (query_of k h)

  others-number : (q : ℕ) (b : Bool) → (q == 0) ≡ b → only (number_of (nat_lt 0 q)) ≡ only (number_of (not b))
  others-number q b e = ap (λ (test : Bool). only (number_of test)) (lem q b e)
    where
      lem : (q : ℕ) (b : Bool) → (q == 0) ≡ b → nat_lt 0 q ≡ not b
      lem q b e = grind (arith, nat_tests)

  -- own and others, read in entries that the machine sees
  pub own-seen : (q : Contents) (f : ℕ → ℕ → Entry) → seen q s ≡ f → (summary_for k q h).own ≡ own_in f
  own-seen q f i = (alike q).own ∙ ap own_in i

  pub others-seen : (q : Contents) (f : ℕ → ℕ → Entry) → seen q s ≡ f
      → only (number_of (nat_lt 0 (summary_for k q h).others)) ≡ only (number_of (not (none_in f)))
  others-seen q f i = others-number (summary_for k q h).others (none_in f) ((alike q).no_others ∙ ap none_in i)

  -- Other entries of the group are in the directory, and no other pending bits: own, owner, others and victim are what is read of them.
  pub rewritten : (core : Core) (q : Contents) (x : Transaction) (f : ℕ → ℕ → Entry) → seen q s ≡ f
      → q.pending ≡ list.pending
      → (own owner victim : Coh) (no_others : Bool) → own_in f ≡ own → owner_in f ≡ owner → none_in f ≡ no_others
      → victim_in f ≡ victim
      → mask core q x ≡ record (mask core list x) {
        own = only (own_number own);
        owner = only (owner_number owner);
        others = only (number_of (not no_others));
        victim = only (number_of (is_heavy victim));
      }
  rewritten core q x f i p own owner victim no_others a b o g = λ z. record (mask core list x) {
    gp = gp_of (record { entries = q.entries; pending = p z }) k core.head;
    own = only (own_number ((own-seen q f i ∙ a) z));
    owner = only (owner_number (((alike q).owner_state ∙ ap owner_in i ∙ b) z));
    others = (others-seen q f i ∙ ap (λ (b : Bool). only (number_of (not b))) o) z;
    victim = only (number_of (is_heavy (((alike q).victim ∙ ap victim_in i ∙ g) z)));
  }

  -- one of them is written
  pub entry-in : (c u : ℕ) (g : DirectoryEntry) → seen (with_entry list c s u g) s ≡ put2 (seen list s) c u (listed_of g)
  entry-in c u g = ap (λ (f : ℕ → ℕ → ℕ → Entry). f s) (entry-seen list c s u g)
      ∙ put-here (seen list) s (put2 (seen list s) c u (listed_of g))
