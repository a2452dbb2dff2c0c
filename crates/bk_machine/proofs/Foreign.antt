-- A head of a command or fill channel is never foreign.
use Rattle.std.proofs.Common.{◌<◌, ◌&&◌, ◌≡◌, ℕ, ◌≢◌, Bool, true, false, refl, arith, List, [], ◌∷◌, ◌++◌, sym, ◌∙◌, subst, ap}
use Rattle.std.specs.Prelude.{Option, Some, None, if◌then◌else◌, ◌==◌, nat_lt, is_some}
use Rattle.std.proofs.lemmas.Bool.Decides.{nat_tests}
use Rattle.bk_base.specs.declared.coh.Coh.{Coh}
use Rattle.bk_machine.specs.Entries.{Entry, Holds}
use Rattle.bk_machine.specs.Messages.{ToCache, Inv, StWb, StTr, Blk, StWake, UcBlk, UcDone, EvictDone, FillMessage, op_tag, op_word}
use Rattle.bk_machine.specs.Transactions.{InProgress, paid_directory}
use Rattle.bk_machine.specs.Phases.{Flush, NoFlush, FlushSent, FlushDone, Ack, Flight, ByBlock, ByWake, ByTransfer, ByFill, ByWord, ByDone, Phase, Free, Open, Flying, Settling, commands_of, fills_of, at_cache, flush_command, inv_command, flight_command, flight_fill, uncached_done}
use Rattle.bk_machine.specs.Copies.{Standing, Transferring}
use Rattle.bk_machine.specs.Invariant.{op_suits, is_store, flight_kind, phase_kind, Taker}
use Rattle.bk_machine.specs.World.{World, of_group, option_of_group, view}
use Rattle.bk_machine.proofs.View.{of_group-head}
use Rattle.bk_machine.specs.Directory.{found_way}
use Rattle.bk_machine.specs.Steps.{MachineStep, TransferComes}
use Rattle.bk_machine.specs.CacheSteps.{at_way, for_busy, block_row, wake_row, word_row, stored_row, evicted_row, command_row, step_of_command, fill_row, step_of_fill}
use Rattle.bk_machine.specs.Claims.{NoForeign}
use Rattle.bk_machine.specs.Invariant.{EveryGroup}
use Rattle.bk_base.specs.Places.{Shape}
use Rattle.bk_machine.specs.Invariant.{Ranges}
use Rattle.bk_machine.proofs.Summary.{not_found}

-- what a head says of the phase

-- A StWb is in a cache's channel only while its flush is under way, and then the cache still has the block: the phase says so.
stwb_aims : (p : Phase) (d h : ℕ → ℕ → Entry) (c t : ℕ) (state : Coh) (rest : List ToCache)
    → commands_of p c ≡ StWb t state ∷ rest
    → Standing p d h
    → (v : ℕ) × Holds (h c v) t
stwb_aims Free d h c t state rest e s = absurd (cc e)
stwb_aims (Open r b NoFlush inv) d h c t state rest e s = absurd (none (inv c) e)
  where
    none : (a : Ack) → inv_command (op_tag b.op) a ≡ StWb t state ∷ rest → ⊥
    none a e = grind arith
stwb_aims (Open r b (FlushSent o w u y) inv) d h c t state rest e s = (w, lem (inv c) e s.0.0)
  where
    lem : (a : Ack) → at_cache c o (StWb u y) ++ inv_command (op_tag b.op) a ≡ StWb t state ∷ rest → Holds (h o w) u
        → Holds (h c w) t
    lem a e k = grind (arith, nat_tests)
stwb_aims (Open r b (FlushDone o u ws) inv) d h c t state rest e s = absurd (none (inv c) e)
  where
    none : (a : Ack) → inv_command (op_tag b.op) a ≡ StWb t state ∷ rest → ⊥
    none a e = grind arith
stwb_aims (Flying r b f) d h c t state rest e s = absurd (none f r b e)
  where
    none : (f : Flight) (r : ℕ) (b : InProgress) → flight_command f r b c ≡ StWb t state ∷ rest → ⊥
    none f r b e = grind arith
stwb_aims (Settling r u) d h c t state rest e s = absurd (cc e)

-- A StTr stands first only where a transfer is on its way, whose owner has the block and isn't the requester.
sttr_aims : (p : Phase) (d h : ℕ → ℕ → Entry) (c t : ℕ) (y : Coh) (peer pv : ℕ) (state : Coh) (rest : List ToCache)
    → commands_of p c ≡ StTr t y peer pv state ∷ rest
    → Standing p d h → (w : ℕ) × (Holds (h c w) t) × (peer ≢ c)
sttr_aims Free d h c t y peer pv state rest e s = absurd (cc e)
sttr_aims (Open r b fl inv) d h c t y peer pv state rest e s = absurd (none fl (inv c) e)
  where
    none : (fl : Flush) (a : Ack) → flush_command fl c ++ inv_command (op_tag b.op) a ≡ StTr t y peer pv state ∷ rest → ⊥
    none fl a e = grind arith
sttr_aims (Flying r b (ByTransfer o ow z u)) d h c t y peer pv state rest e s = (ow, lem e s, other e s.other)
  where
    lem : at_cache c o (StTr (op_tag b.op) z r b.way u) ≡ StTr t y peer pv state ∷ rest → Transferring r o ow b z u h
        → Holds (h c ow) t
    lem e k = grind (arith, nat_tests)

    other : at_cache c o (StTr (op_tag b.op) z r b.way u) ≡ StTr t y peer pv state ∷ rest → r ≢ o → peer ≢ c
    other e n = grind (arith, nat_tests)
sttr_aims (Flying r b (ByBlock z ws)) d h c t y peer pv state rest e s = absurd (none e)
  where
    none : at_cache c r (Blk (op_tag b.op) b.way z ws) ≡ StTr t y peer pv state ∷ rest → ⊥
    none e = grind arith
sttr_aims (Flying r b ByWake) d h c t y peer pv state rest e s = absurd (none e)
  where
    none : at_cache c r (StWake (op_tag b.op) b.way) ≡ StTr t y peer pv state ∷ rest → ⊥
    none e = grind arith
sttr_aims (Flying r b (ByFill o z ws)) d h c t y peer pv state rest e s = absurd (cc e)
sttr_aims (Flying r b (ByWord n)) d h c t y peer pv state rest e s = absurd (none e)
  where
    none : at_cache c r (UcBlk (op_tag b.op) (op_word b.op) n) ≡ StTr t y peer pv state ∷ rest → ⊥
    none e = grind arith
sttr_aims (Flying r b ByDone) d h c t y peer pv state rest e s = absurd (none e)
  where
    none : at_cache c r (uncached_done b.op) ≡ StTr t y peer pv state ∷ rest → ⊥
    none e = grind arith
sttr_aims (Settling r u) d h c t y peer pv state rest e s = absurd (cc e)

-- any other command's head: the grant of the operation in progress
pub record Grants (p : Phase) (c : ℕ) (m : ToCache) : Type 0 where
  pub busy : InProgress
  pub flight : Flight
  pub is : p ≡ Flying c busy flight
  pub sent : flight_command flight c busy c ≡ m ∷ []

abbrev pub is_grant : ToCache → Bool
is_grant (Inv t) = false
is_grant (StWb t x) = false
is_grant (StTr t y peer pv x) = false
is_grant (Blk t v x ws) = true
is_grant (StWake t v) = true
is_grant (UcBlk t k n) = true
is_grant (UcDone t k) = true
is_grant (EvictDone t) = true

grants : (p : Phase) (c : ℕ) (m : ToCache) (rest : List ToCache) → is_grant m ≡ true → commands_of p c ≡ m ∷ rest
    → Grants p c m
grants Free c m rest g e = absurd (cc e)
grants (Open r b fl inv) c m rest g e = absurd (none fl (inv c) e)
  where
    none : (fl : Flush) (a : Ack) → flush_command fl c ++ inv_command (op_tag b.op) a ≡ m ∷ rest → ⊥
    none fl a e = grind arith
grants (Flying r b f) c m rest g e = record { busy = b; flight = f; is = ap (λ (i : ℕ). Flying i b f) (same f e); sent = sent f e }
  where
    same : (f : Flight) → flight_command f r b c ≡ m ∷ rest → r ≡ c
    same f e = grind (arith, nat_tests)

    sent : (f : Flight) → flight_command f r b c ≡ m ∷ rest → flight_command f c b c ≡ m ∷ []
    sent f e = grind (arith, nat_tests)
grants (Settling r u) c m rest g e = absurd (cc e)

-- the rows

pub option_of_group-back : {X : Type 0} (g : ℕ) (x : Option (ℕ × X)) (y : X) → option_of_group g x ≡ Some y → x ≡ Some (g, y)
option_of_group-back g None y e = absurd (cc e)
option_of_group-back {X} g (Some x) y e = decide (g == x.0) refl e
  where
    is : (g == x.0) ≡ true → x.0 ≡ g
    is e = grind (arith, nat_tests)

    same : Some x.1 ≡ Some y → x.1 ≡ y
    same e = cc

    decide : (b : Bool) → (g == x.0) ≡ b → (if b then Some x.1 else None) ≡ Some y → Some x ≡ Some (g, y)
    decide true q e = ap (λ (i : ℕ). Some (i, x.1)) (is q) ∙ ap (λ (z : X). Some (g, z)) (same e)
    decide false q e = absurd (cc e)

acts-busy : (g : ℕ) (o : Option (ℕ × InProgress)) (b : InProgress) (f : InProgress → Option (ℕ × MachineStep))
    → o ≡ Some (g, b)
    → is_some (f b) ≡ true
    → is_some (for_busy g o f) ≡ true
acts-busy g o b f e k = ap (λ (q : Option (ℕ × InProgress)). is_some (for_busy g q f)) e ∙ lem (g == g) (same g)
  where
    same : (g : ℕ) → (g == g) ≡ true
    same g = grind (arith, nat_tests)

    lem : (y : Bool) → y ≡ true → is_some (if y then f b else None) ≡ true
    lem true q = k
    lem false q = absurd (cc q)

acts-found : (shape : Shape) (world : World) (group c t w : ℕ) (f : ℕ → Option (ℕ × MachineStep)) (d : Option (ℕ × MachineStep))
    → Ranges shape world → Holds (world.entries group c w) t
    → ((w : ℕ) → is_some (f w) ≡ true) → is_some (at_way (found_way shape.ways (world.entries group c) t) f d) ≡ true
acts-found shape world group c t w f d k l g = lem (found_way shape.ways (world.entries group c) t) refl
  where
    lem : (o : Option ℕ) → found_way shape.ways (world.entries group c) t ≡ o → is_some (at_way o f d) ≡ true
    lem None e = absurd (not_found shape.ways (world.entries group c) t e w (k.entries group c w t l).way l)
    lem (Some u) e = g u

block-acts : (g c t w : ℕ) (state : Coh) (ws : ℕ → ℕ) (rest : List (ℕ × ToCache)) (b : InProgress)
    → flight_command (ByBlock state ws) c b c ≡ Blk t w state ws ∷ []
    → op_suits b.op state ≡ true → is_some (if b.way == w then block_row g c t w state ws rest b.op else None) ≡ true
block-acts g c t w state ws rest b e k = grind (arith, nat_tests)

flight-blk : (c t w : ℕ) (state : Coh) (ws : ℕ → ℕ) (b : InProgress) (f : Flight)
    → flight_command f c b c ≡ Blk t w state ws ∷ []
    → f ≡ ByBlock state ws
flight-blk c t w state ws b f e = grind arith

flight-wake : (c t w : ℕ) (b : InProgress) (f : Flight) → flight_command f c b c ≡ StWake t w ∷ []
    → (f ≡ ByWake) × (t ≡ op_tag b.op) × (w ≡ b.way)
flight-wake c t w b f e = grind arith

wake-acts : (world : World) (g c t w : ℕ) (rest : List (ℕ × ToCache)) (b : InProgress) → t ≡ op_tag b.op → w ≡ b.way
    → is_store b.op ≡ true
    → Holds (world.entries g c b.way) (op_tag b.op) → is_some (if b.way == w then wake_row world g c t w rest b.op else None) ≡ true
wake-acts world g c t w rest b e f k l = grind (arith, nat_tests)

word-acts : (g c t j n : ℕ) (rest : List (ℕ × ToCache)) (b : InProgress) (f : Flight) → flight_command f c b c ≡ UcBlk t j n ∷ []
    → flight_kind f b.op ≡ true
    → is_some (word_row g c t b.way j n rest b.op) ≡ true
word-acts g c t j n rest b f e k = grind (arith, nat_tests)

stored-acts : (g c t j : ℕ) (rest : List (ℕ × ToCache)) (b : InProgress) (f : Flight) → flight_command f c b c ≡ UcDone t j ∷ []
    → flight_kind f b.op ≡ true
    → is_some (stored_row g c t b.way j rest b.op) ≡ true
stored-acts g c t j rest b f e k = grind (arith, nat_tests)

evicted-acts : (g c t : ℕ) (rest : List (ℕ × ToCache)) (b : InProgress) (f : Flight) → flight_command f c b c ≡ EvictDone t ∷ []
    → flight_kind f b.op ≡ true
    → is_some (evicted_row g c t b.way rest b.op) ≡ true
evicted-acts g c t rest b f e k = grind (arith, nat_tests)

pub record Filling (p : Phase) (c o : ℕ) (m : FillMessage) : Type 0 where
  pub busy : InProgress
  pub is : p ≡ Flying c busy (ByFill o m.state m.words)
  pub tag : m.tag ≡ op_tag busy.op
  pub way : m.way ≡ busy.way

fill_of : (c o : ℕ) (m : FillMessage) (rest : List FillMessage) (p : Phase) → fills_of p c o ≡ m ∷ rest → Filling p c o m
fill_of c o m rest Free e = absurd (cc e)
fill_of c o m rest (Open r b fl inv) e = absurd (cc e)
fill_of c o m rest (Flying r b f) e = record { busy = b; is = (lem f e).0; tag = (lem f e).1; way = (lem f e).2 }
  where
    lem : (f : Flight) → flight_fill f r b c o ≡ m ∷ rest → (Flying r b f ≡ Flying c b (ByFill o m.state m.words))
        × (m.tag ≡ op_tag b.op)
        × (m.way ≡ b.way)
    lem f e = grind (arith, nat_tests)
fill_of c o m rest (Settling r u) e = absurd (cc e)

fill-acts : (g c o : ℕ) (m : FillMessage) (rest : List (ℕ × FillMessage)) (b : InProgress) → m.tag ≡ op_tag b.op
    → m.way ≡ b.way
    → op_suits b.op m.state ≡ true
    → is_some (if b.way == m.way then fill_row g c o m rest b.op else None) ≡ true
fill-acts g c o m rest b e f k = grind (arith, nat_tests)

module _ (shape : Shape) (world : World) (all : EveryGroup world) (k : Ranges shape world) where
  -- the operation in progress and the grant's kind
  busy_of : (group c : ℕ) (m : ToCache) (g : Grants (all group).0 c m) → world.busy c ≡ Some (group, g.busy)
  busy_of group c m g =
      option_of_group-back group (world.busy c) g.busy (subst (λ (p : Phase). Taker p (view group world).busy) g.is (all group).1.taker)

  kind_of : (group c : ℕ) (m : ToCache) (g : Grants (all group).0 c m) → flight_kind g.flight g.busy.op ≡ true
  kind_of group c m g = subst (λ (p : Phase). phase_kind p ≡ true) g.is (all group).1.kind

  head_of : (group c : ℕ) (m : ToCache) (rest : List (ℕ × ToCache)) → world.command c ≡ (group, m) ∷ rest
      → commands_of (all group).0 c ≡ m ∷ of_group group rest
  head_of group c m rest e = sym ((all group).1.commands c) ∙ of_group-head group (world.command c) rest m e

  -- The phase says which command is first, and what it says of that command is what the row asks for.
  pub never_foreign : (group c : ℕ) (rest : List (ℕ × ToCache)) (m : ToCache) → world.command c ≡ (group, m) ∷ rest
      → is_some (command_row shape.ways world c group rest m) ≡ true
  never_foreign group c rest (Inv t) e = refl
  never_foreign group c rest (StWb t x) e =
      let a : (w : ℕ) × Holds (world.entries group c w) t =
      stwb_aims (all group).0 _ _ c t x (of_group group rest) (head_of group c (StWb t x) rest e) (all group).1.copies.standing in
      acts-found shape world group c t a.0 _ _ k a.1 (λ w. refl)
  never_foreign group c rest (StTr t y peer pv x) e =
      let a : (w : ℕ) × (Holds (world.entries group c w) t) × (peer ≢ c) =
      sttr_aims (all group).0 _ _ c t y peer pv x (of_group group rest) (head_of group c (StTr t y peer pv x) rest e)
      (all group).1.copies.standing in
      acts-found shape world group c t a.0 _ _ k a.1 (λ w. other w a.2)
    where
      other : (w : ℕ) → peer ≢ c
          → is_some {T = ℕ × MachineStep} (if peer == c then None else Some (group, TransferComes c w t y peer pv x rest)) ≡ true
      other w n = grind (arith, nat_tests)
  never_foreign group c rest (Blk t w x ws) e =
      let g : Grants (all group).0 c (Blk t w x ws) =
      grants (all group).0 c (Blk t w x ws) (of_group group rest) refl (head_of group c (Blk t w x ws) rest e) in
      let f : g.flight ≡ ByBlock x ws = flight-blk c t w x ws g.busy g.flight g.sent in
      acts-busy group (world.busy c) g.busy _ (busy_of group c _ g)
      (block-acts group c t w x ws rest g.busy (subst (λ (f : Flight). flight_command f c g.busy c ≡ Blk t w x ws ∷ []) f g.sent)
      (subst (λ (f : Flight). flight_kind f g.busy.op ≡ true) f (kind_of group c _ g)))
  never_foreign group c rest (StWake t w) e =
      let g : Grants (all group).0 c (StWake t w) =
      grants (all group).0 c (StWake t w) (of_group group rest) refl (head_of group c (StWake t w) rest e) in
      let f : (g.flight ≡ ByWake) × (t ≡ op_tag g.busy.op) × (w ≡ g.busy.way) = flight-wake c t w g.busy g.flight g.sent in
      let p : (all group).0 ≡ Flying c g.busy ByWake = g.is ∙ ap (λ (f : Flight). Flying c g.busy f) f.0 in
      acts-busy group (world.busy c) g.busy _ (busy_of group c _ g)
      (wake-acts world group c t w rest g.busy f.1 f.2 (subst (λ (f : Flight). flight_kind f g.busy.op ≡ true) f.0 (kind_of group c _ g))
      (subst (λ (p : Phase). Standing p (paid_directory (view group world).transaction (world.directory group)) (world.entries group)) p
      (all group).1.copies.standing))
  never_foreign group c rest (UcBlk t j n) e =
      let g : Grants (all group).0 c (UcBlk t j n) =
      grants (all group).0 c (UcBlk t j n) (of_group group rest) refl (head_of group c (UcBlk t j n) rest e) in
      acts-busy group (world.busy c) g.busy _ (busy_of group c _ g)
      (word-acts group c t j n rest g.busy g.flight g.sent (kind_of group c _ g))
  never_foreign group c rest (UcDone t j) e =
      let g : Grants (all group).0 c (UcDone t j) =
      grants (all group).0 c (UcDone t j) (of_group group rest) refl (head_of group c (UcDone t j) rest e) in
      acts-busy group (world.busy c) g.busy _ (busy_of group c _ g)
      (stored-acts group c t j rest g.busy g.flight g.sent (kind_of group c _ g))
  never_foreign group c rest (EvictDone t) e =
      let g : Grants (all group).0 c (EvictDone t) =
      grants (all group).0 c (EvictDone t) (of_group group rest) refl (head_of group c (EvictDone t) rest e) in
      acts-busy group (world.busy c) g.busy _ (busy_of group c _ g)
      (evicted-acts group c t rest g.busy g.flight g.sent (kind_of group c _ g))

  pub never_foreign_fill : (group c o : ℕ) (rest : List (ℕ × FillMessage)) (m : FillMessage) → world.fill c o ≡ (group, m) ∷ rest
      → is_some (step_of_fill world c o ((group, m) ∷ rest)) ≡ true
  never_foreign_fill group c o rest m e =
      let f : Filling (all group).0 c o m =
      fill_of c o m (of_group group rest) (all group).0 (sym ((all group).1.fills c o) ∙ of_group-head group (world.fill c o) rest m e) in
      let b : world.busy c
      ≡ Some (group, f.busy) = option_of_group-back group (world.busy c) f.busy
      (subst (λ (p : Phase). Taker p (view group world).busy) f.is (all group).1.taker) in
      acts-busy group (world.busy c) f.busy _ b
      (fill-acts group c o m rest f.busy f.tag f.way (subst (λ (p : Phase). phase_kind p ≡ true) f.is (all group).1.kind))

  command-row : (c : ℕ) (ms : List (ℕ × ToCache)) (group : ℕ) (m : ToCache) (rest : List (ℕ × ToCache)) → world.command c ≡ ms
      → ms ≡ (group, m) ∷ rest
      → is_some (step_of_command shape.ways world c ms) ≡ true
  command-row c ms group m rest e f =
      subst (λ (xs : List (ℕ × ToCache)). is_some (step_of_command shape.ways world c xs) ≡ true) (sym f)
      (never_foreign group c rest m (e ∙ f))

  fill-row : (c o : ℕ) (ms : List (ℕ × FillMessage)) (group : ℕ) (m : FillMessage) (rest : List (ℕ × FillMessage))
      → world.fill c o ≡ ms
      → ms ≡ (group, m) ∷ rest
      → is_some (step_of_fill world c o ms) ≡ true
  fill-row c o ms group m rest e f = subst (λ (xs : List (ℕ × FillMessage)). is_some (step_of_fill world c o xs) ≡ true) (sym f)
      (never_foreign_fill group c o rest m (e ∙ f))

  pub no_foreign : NoForeign shape world
  no_foreign = record {
    command = λ c group m rest l e. guarded (nat_lt c shape.caches) _ (below c shape.caches l)
        (command-row c (world.command c) group m rest refl e);
    fill = λ c o group m rest l h e. guarded (nat_lt c shape.caches && nat_lt o shape.caches) _ (both c o shape.caches l h)
        (fill-row c o (world.fill c o) group m rest refl e);
  }
    where
      below : (c n : ℕ) → c < n → nat_lt c n ≡ true
      below c n l = grind (arith, nat_tests)

      both : (c o n : ℕ) → c < n → o < n → (nat_lt c n && nat_lt o n) ≡ true
      both c o n l h = grind (arith, nat_tests)

      guarded : (b : Bool) (o : Option (ℕ × MachineStep)) → b ≡ true → is_some o ≡ true
          → is_some (if b then o else None) ≡ true
      guarded true o e f = f
      guarded false o e f = absurd (cc e)
