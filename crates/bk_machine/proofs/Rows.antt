-- The step that an event of a cache or the memory is fits: what its row in the tables says holds.
use Rattle.std.proofs.Common.{◌≡◌, ℕ, ◌<◌, Bool, true, false, ◌&&◌, refl, arith, List, [], ◌∷◌, ◌∙◌, subst, ap, sym, inl, inr}
use Rattle.std.specs.Prelude.{Option, Some, None, if◌then◌else◌, ◌==◌, nat_lt}
use Rattle.std.proofs.lemmas.Bool.Decides.{nat_tests}
use Rattle.bk_base.specs.Places.{Shape}
use Rattle.bk_base.specs.declared.coh.Coh.{Coh}
use Rattle.bk_base.specs.States.{is_writable}
use Rattle.bk_machine.specs.Entries.{Holds, holds}
use Rattle.bk_machine.specs.Directory.{found_way}
use Rattle.bk_machine.specs.Messages.{Op, Load, Store, UcLoad, UcStore, Evict, ToCache, Inv, StWb, StTr, Blk, StWake, UcBlk, UcDone, EvictDone, FillMessage, ToMemory, Read, Write, WriteWord}
use Rattle.bk_machine.specs.Transactions.{InProgress}
use Rattle.bk_machine.specs.World.{World}
use Rattle.bk_machine.specs.Steps.{MachineStep}
use Rattle.bk_machine.specs.CacheSteps.{step_if, at_way, issue_row, step_of_issue, block_row, wake_row, word_row, stored_row, evicted_row, for_busy, command_row, step_of_command, fill_row, step_of_fill, memory_row, step_of_memory}
use Rattle.bk_machine.specs.Runs.{Event, Issue, Command, Fill, Memory, Engine, step_of}
use Rattle.bk_machine.specs.Invariant.{WayInRange, Ranges}
use Rattle.bk_machine.proofs.Allowed.{StepFits}
use Rattle.bk_machine.proofs.Summary.{found, not_found, is-holds}

-- what a step needs, if there is one
abbrev pub IfFits : Shape → World → Option (ℕ × MachineStep) → Type 0
IfFits shape world None = Unit {0}
IfFits shape world (Some x) = StepFits shape x.0 x.1 world

if-cond : (shape : Shape) (world : World) (b : Bool) (o p : Option (ℕ × MachineStep)) → (b ≡ true → IfFits shape world o)
    → (b ≡ false → IfFits shape world p)
    → IfFits shape world (if b then o else p)
if-cond shape world true o p f g = f refl
if-cond shape world false o p f g = g refl

if-when : (shape : Shape) (world : World) (b : Bool) (g : ℕ) (a : MachineStep) → (b ≡ true → StepFits shape g a world)
    → IfFits shape world (step_if b g a)
if-when shape world true g a f = f refl
if-when shape world false g a f = tt

if-way : (shape : Shape) (world : World) (o : Option ℕ) (f : ℕ → Option (ℕ × MachineStep)) (d : Option (ℕ × MachineStep))
    → ((w : ℕ) → o ≡ Some w → IfFits shape world (f w))
    → (o ≡ None → IfFits shape world d) → IfFits shape world (at_way o f d)
if-way shape world None f d g k = k refl
if-way shape world (Some w) f d g k = g w refl

same : (n y : ℕ) → (n == y) ≡ true → n ≡ y
same n y e = grind (arith, nat_tests)

left_is : (b y : Bool) → b && y ≡ true → b ≡ true
left_is b y e = grind arith

right_is : (b y : Bool) → b && y ≡ true → y ≡ true
right_is b y e = grind arith

if-busy : (shape : Shape) (world : World) (group c : ℕ) (o : Option (ℕ × InProgress)) (f : InProgress → Option (ℕ × MachineStep))
    → world.busy c ≡ o
    → ((b : InProgress) → world.busy c ≡ Some (group, b) → IfFits shape world (f b)) → IfFits shape world (for_busy group o f)
if-busy shape world group c None f e g = tt
if-busy shape world group c (Some x) f e g =
    if-cond shape world (x.0 == group) (f x.1) None
    (λ q. g x.1 (subst (λ (i : ℕ). world.busy c ≡ Some (i, x.1)) (same x.0 group q) e)) (λ q. tt)

below : (n y : ℕ) → nat_lt n y ≡ true → n < y
below n y e = grind (arith, nat_tests)

in_range : (shape : Shape) (c w : ℕ) → (nat_lt c shape.caches && nat_lt w shape.ways) ≡ true → WayInRange shape c w
in_range shape c w e =
    record { cache = below c shape.caches (left_is _ _ e); way = below w shape.ways (right_is (nat_lt c shape.caches) _ e) }

module _ (shape : Shape) (world : World) (k : Ranges shape world) where
  first_way : (c way : ℕ) → WayInRange shape c way → WayInRange shape c 0
  first_way c way l = record { cache = l.cache; way = above l.way }
    where
      above : way < shape.ways → 0 < shape.ways
      above m = omega arith

  missing : (g c t : ℕ) → found_way shape.ways (world.entries g c) t ≡ None → (w : ℕ) → Holds (world.entries g c w) t → ⊥
  missing g c t event w l = not_found shape.ways (world.entries g c) t event w (k.entries g c w t l).way l

  -- a copy that is found is at a way of the configuration
  found-range : (g c t w : ℕ) → found_way shape.ways (world.entries g c) t ≡ Some w → WayInRange shape c w
  found-range g c t w f = k.entries g c w t (found shape.ways (world.entries g c) t w f).1

  issue_fits : (g c way : ℕ) (op : Op) → world.busy c ≡ None → WayInRange shape c way
      → IfFits shape world (issue_row shape.ways world c g way op)
  issue_fits g c way (Load t spot) event l =
      if-way shape world (found_way shape.ways (world.entries g c) t) _ _ (λ w f. (event, (found shape.ways (world.entries g c) t w f).1))
      (λ f. (event, missing g c t f, l))
  issue_fits g c way (Store t j change) event l = if-way shape world (found_way shape.ways (world.entries g c) t) _ _
      (λ w f. if-cond shape world (is_writable (world.entries g c w).state) _ _
      (λ q. (event, (found shape.ways (world.entries g c) t w f).1, q))
      (λ q. (event, inl ((found shape.ways (world.entries g c) t w f).1, q), found-range g c t w f)))
      (λ f. (event, inr (missing g c t f), l))
  issue_fits g c way (UcLoad t spot) event l = (event, refl, first_way c way l)
  issue_fits g c way (UcStore t j change) event l = (event, refl, first_way c way l)
  issue_fits g c way (Evict t) event l =
      if-way shape world (found_way shape.ways (world.entries g c) t) _ _
      (λ w f. (event, (found shape.ways (world.entries g c) t w f).1, found-range g c t w f)) (λ f. (event, missing g c t f))

  issued : (g c way : ℕ) (op : Op) (o : Option (ℕ × InProgress)) → world.busy c ≡ o
      → IfFits shape world (step_of_issue shape world c g way op o)
  issued g c way op None event = if-cond shape world (nat_lt c shape.caches && nat_lt way shape.ways) _ None
      (λ q. issue_fits g c way op event (in_range shape c way q)) (λ q. tt)
  issued g c way op (Some b) event = tt

  -- an operation in progress at the way of the message
  at_way_of : (g c w : ℕ) (b : InProgress) → b.way ≡ w → world.busy c ≡ Some (g, b)
      → world.busy c ≡ Some (g, record { op = b.op; way = w })
  at_way_of g c w b q event = event ∙ ap (λ (y : ℕ). Some (g, record { op = b.op; way = y })) q

  block_fits : (g c t w : ℕ) (state : Coh) (ws : ℕ → ℕ) (rest : List (ℕ × ToCache)) (op : Op)
      → world.command c ≡ (g, Blk t w state ws) ∷ rest
      → world.busy c ≡ Some (g, record { op = op; way = w }) → IfFits shape world (block_row g c t w state ws rest op)
  block_fits g c t w state ws rest (Load u spot) event f =
      if-when shape world (u == t) g _
      (λ q. (event, subst (λ (i : ℕ). world.busy c ≡ Some (g, record { op = Load i spot; way = w })) (same u t q) f))
  block_fits g c t w state ws rest (Store u j change) event f = if-when shape world (u == t && is_writable state) g _
      (λ q. (
        event,
        subst (λ (i : ℕ). world.busy c ≡ Some (g, record { op = Store i j change; way = w })) (same u t (left_is _ _ q)) f,
        right_is (u == t) _ q,
      ))
  block_fits g c t w state ws rest (UcLoad u spot) event f = tt
  block_fits g c t w state ws rest (UcStore u j change) event f = tt
  block_fits g c t w state ws rest (Evict u) event f = tt

  wake_fits : (g c t w : ℕ) (rest : List (ℕ × ToCache)) (op : Op) → world.command c ≡ (g, StWake t w) ∷ rest
      → world.busy c ≡ Some (g, record { op = op; way = w })
      → IfFits shape world (wake_row world g c t w rest op)
  wake_fits g c t w rest (Load u spot) event f = tt
  wake_fits g c t w rest (Store u j change) event f = if-when shape world (u == t && holds (world.entries g c w) t) g _
      (λ q. (
        event,
        subst (λ (i : ℕ). world.busy c ≡ Some (g, record { op = Store i j change; way = w })) (same u t (left_is _ _ q)) f,
        is-holds _ t (right_is (u == t) _ q),
      ))
  wake_fits g c t w rest (UcLoad u spot) event f = tt
  wake_fits g c t w rest (UcStore u j change) event f = tt
  wake_fits g c t w rest (Evict u) event f = tt

  word_fits : (g c t w j n : ℕ) (rest : List (ℕ × ToCache)) (op : Op) → world.command c ≡ (g, UcBlk t j n) ∷ rest
      → world.busy c ≡ Some (g, record { op = op; way = w })
      → IfFits shape world (word_row g c t w j n rest op)
  word_fits g c t w j n rest (Load u spot) event f = tt
  word_fits g c t w j n rest (Store u i change) event f = tt
  word_fits g c t w j n rest (UcLoad u spot) event f = if-when shape world (u == t && spot.word == j) g _
      (λ q. (
        subst (λ (y : ℕ). world.command c ≡ (g, UcBlk t y n) ∷ rest) (sym (same spot.word j (right_is (u == t) _ q))) event,
        subst (λ (y : ℕ). world.busy c ≡ Some (g, record { op = UcLoad y spot; way = w })) (same u t (left_is _ _ q)) f,
      ))
  word_fits g c t w j n rest (UcStore u i change) event f = tt
  word_fits g c t w j n rest (Evict u) event f = tt

  stored_fits : (g c t w j : ℕ) (rest : List (ℕ × ToCache)) (op : Op) → world.command c ≡ (g, UcDone t j) ∷ rest
      → world.busy c ≡ Some (g, record { op = op; way = w })
      → IfFits shape world (stored_row g c t w j rest op)
  stored_fits g c t w j rest (Load u spot) event f = tt
  stored_fits g c t w j rest (Store u i change) event f = tt
  stored_fits g c t w j rest (UcLoad u spot) event f = tt
  stored_fits g c t w j rest (UcStore u i change) event f = if-when shape world (u == t && i == j) g _
      (λ q. (
        event,
        subst (λ (y : ℕ). world.busy c ≡ Some (g, record { op = UcStore t y change; way = w })) (same i j (right_is (u == t) _ q))
            (subst (λ (y : ℕ). world.busy c ≡ Some (g, record { op = UcStore y i change; way = w })) (same u t (left_is _ _ q)) f),
      ))
  stored_fits g c t w j rest (Evict u) event f = tt

  evicted_fits : (g c t w : ℕ) (rest : List (ℕ × ToCache)) (op : Op) → world.command c ≡ (g, EvictDone t) ∷ rest
      → world.busy c ≡ Some (g, record { op = op; way = w })
      → IfFits shape world (evicted_row g c t w rest op)
  evicted_fits g c t w rest (Load u spot) event f = tt
  evicted_fits g c t w rest (Store u i change) event f = tt
  evicted_fits g c t w rest (UcLoad u spot) event f = tt
  evicted_fits g c t w rest (UcStore u i change) event f = tt
  evicted_fits g c t w rest (Evict u) event f =
      if-when shape world (u == t) g _
      (λ q. (event, subst (λ (y : ℕ). world.busy c ≡ Some (g, record { op = Evict y; way = w })) (same u t q) f))

  -- By the kind of the command: where it needs a copy, the way that is found is one that holds the block.
  command_fits : (g c : ℕ) (rest : List (ℕ × ToCache)) (m : ToCache) → world.command c ≡ (g, m) ∷ rest
      → IfFits shape world (command_row shape.ways world c g rest m)
  command_fits g c rest (Inv t) event = event
  command_fits g c rest (StWb t state) event = if-way shape world (found_way shape.ways (world.entries g c) t) _ _
      (λ w f. (event, (found shape.ways (world.entries g c) t w f).1)) (λ f. tt)
  command_fits g c rest (StTr t y peer pv state) event =
      if-way shape world (found_way shape.ways (world.entries g c) t) _ _
      (λ w f. if-cond shape world (peer == c) None _ (λ q. tt) (λ q. (event, (found shape.ways (world.entries g c) t w f).1))) (λ f. tt)
  command_fits g c rest (Blk t w state ws) event =
      if-busy shape world g c (world.busy c) _ refl
      (λ b f. if-cond shape world (b.way == w) _ None
      (λ q. block_fits g c t w state ws rest b.op event (at_way_of g c w b (same b.way w q) f)) (λ q. tt))
  command_fits g c rest (StWake t w) event =
      if-busy shape world g c (world.busy c) _ refl
      (λ b f. if-cond shape world (b.way == w) _ None
      (λ q. wake_fits g c t w rest b.op event (at_way_of g c w b (same b.way w q) f)) (λ q. tt))
  command_fits g c rest (UcBlk t j n) event =
      if-busy shape world g c (world.busy c) _ refl (λ b f. word_fits g c t b.way j n rest b.op event f)
  command_fits g c rest (UcDone t j) event =
      if-busy shape world g c (world.busy c) _ refl (λ b f. stored_fits g c t b.way j rest b.op event f)
  command_fits g c rest (EvictDone t) event =
      if-busy shape world g c (world.busy c) _ refl (λ b f. evicted_fits g c t b.way rest b.op event f)

  commanded_fits : (c : ℕ) (ms : List (ℕ × ToCache)) → world.command c ≡ ms
      → IfFits shape world (step_of_command shape.ways world c ms)
  commanded_fits c [] event = tt
  commanded_fits c (m ∷ rest) event = command_fits m.0 c rest m.1 event

  fill_fits : (g c o : ℕ) (m : FillMessage) (rest : List (ℕ × FillMessage)) (op : Op) → world.fill c o ≡ (g, m) ∷ rest
      → world.busy c ≡ Some (g, record { op = op; way = m.way }) → IfFits shape world (fill_row g c o m rest op)
  fill_fits g c o m rest (Load u spot) event f =
      if-when shape world (u == m.tag) g _
      (λ q. (event, subst (λ (i : ℕ). world.busy c ≡ Some (g, record { op = Load i spot; way = m.way })) (same u m.tag q) f))
  fill_fits g c o m rest (Store u j change) event f = if-when shape world (u == m.tag && is_writable m.state) g _
      (λ q. (
        event,
        subst (λ (i : ℕ). world.busy c ≡ Some (g, record { op = Store i j change; way = m.way })) (same u m.tag (left_is _ _ q)) f,
        right_is (u == m.tag) _ q,
      ))
  fill_fits g c o m rest (UcLoad u spot) event f = tt
  fill_fits g c o m rest (UcStore u j change) event f = tt
  fill_fits g c o m rest (Evict u) event f = tt

  filled_fits : (c o : ℕ) (ms : List (ℕ × FillMessage)) → world.fill c o ≡ ms → IfFits shape world (step_of_fill world c o ms)
  filled_fits c o [] event = tt
  filled_fits c o (m ∷ rest) event =
      if-busy shape world m.0 c (world.busy c) _ refl
      (λ b f. if-cond shape world (b.way == m.1.way) _ None
      (λ q. fill_fits m.0 c o m.1 rest b.op event (at_way_of m.0 c m.1.way b (same b.way m.1.way q) f)) (λ q. tt))

  memory_fits : (g : ℕ) (rest : List (ℕ × ToMemory)) (m : ToMemory) → world.memout ≡ (g, m) ∷ rest
      → IfFits shape world (Some (memory_row g rest m))
  memory_fits g rest (Read t) event = event
  memory_fits g rest (Write t ws) event = event
  memory_fits g rest (WriteWord t j change) event = event

  remembered_fits : (ms : List (ℕ × ToMemory)) → world.memout ≡ ms → IfFits shape world (step_of_memory ms)
  remembered_fits [] event = tt
  remembered_fits (m ∷ rest) event = memory_fits m.0 rest m.1 event

  -- the step that an event is fits
  pub event_fits : (event : Event) → IfFits shape world (step_of shape world event)
  event_fits (Issue c g op way) = issued g c way op (world.busy c) refl
  event_fits (Command c) = if-cond shape world (nat_lt c shape.caches) _ None (λ q. commanded_fits c (world.command c) refl) (λ q. tt)
  event_fits (Fill c o) =
      if-cond shape world (nat_lt c shape.caches && nat_lt o shape.caches) _ None (λ q. filled_fits c o (world.fill c o) refl) (λ q. tt)
  event_fits Memory = remembered_fits world.memout refl
  event_fits (Engine g a) = tt
