-- One write of the system, as its own way group sees it and as every other does.
use Rattle.std.proofs.Common.{◌≡◌, ℕ, ◌≢◌, Bool, refl, List, [], ◌∷◌, ◌++◌, sym, ◌∙◌, ap}
use Rattle.std.specs.Prelude.{Option, Some, None}
use mathlib.Core.Path.{fun_ext}
use Rattle.bk_base.specs.Tables.{put}
use Rattle.bk_machine.specs.Tables.{put2}
use Rattle.bk_machine.specs.Entries.{Entry}
use Rattle.bk_machine.specs.Messages.{Request, ToCache, FillMessage, Response, ToMemory, MemoryBlock}
use Rattle.bk_machine.specs.Transactions.{InProgress, Transaction}
use Rattle.bk_machine.specs.Words.{Completed}
use Rattle.bk_machine.specs.World.{GroupState, World, of_group, option_of_group, view}
use Rattle.bk_machine.specs.Steps.{with_way_first}
use Rattle.bk_machine.proofs.View.{of_group-push, of_group-push_other, of_group-rest, option_of_group-here, option_of_group-other, put-here, put-other, chan-put, chan-put_same, chan2-put, chan2-put_same}

-- the group g of the system is part
pub record Seen (g : ℕ) (world : World) (part : GroupState) : Type 0 where
  pub is : view g world ≡ part

-- of the group g the list has these
pub record Has {X : Type 0} (g : ℕ) (xs : List (ℕ × X)) (ys : List X) : Type 0 where
  pub is : of_group g xs ≡ ys

pub record Is {X : Type 0} (g : ℕ) (x : Option (ℕ × X)) (y : Option X) : Type 0 where
  pub is : option_of_group g x ≡ y

-- of the group u two lists have the same
pub record Keeps {X : Type 0} (u : ℕ) (xs ys : List (ℕ × X)) : Type 0 where
  pub is : of_group u xs ≡ of_group u ys

pub record Stays {X : Type 0} (u : ℕ) (x y : Option (ℕ × X)) : Type 0 where
  pub is : option_of_group u x ≡ option_of_group u y

pub seen : (g : ℕ) (world : World) → Seen g world (view g world)
seen g world = record { is = refl }

pub pushed : {X : Type 0} (g : ℕ) (xs : List (ℕ × X)) (x : X) → Has g (xs ++ (g, x) ∷ []) (of_group g xs ++ x ∷ [])
pushed g xs x = record { is = of_group-push g xs x }

pub left : {X : Type 0} (g : ℕ) (xs : List (ℕ × X)) → Has g xs (of_group g xs)
left g xs = record { is = refl }

pub pushed_other : {X : Type 0} (u g : ℕ) (xs : List (ℕ × X)) (x : X) → u ≢ g → Keeps u (xs ++ (g, x) ∷ []) xs
pushed_other u g xs x n = record { is = of_group-push_other u g xs x n }

pub left_other : {X : Type 0} (u g : ℕ) (xs rest : List (ℕ × X)) (x : X) → u ≢ g → xs ≡ (g, x) ∷ rest → Keeps u rest xs
left_other u g xs rest x n e = record { is = of_group-rest u g xs rest x n e }

pub some_is : {X : Type 0} (g : ℕ) (x : X) → Is g (Some (g, x)) (Some x)
some_is g x = record { is = option_of_group-here g x }

pub none_is : {X : Type 0} (g : ℕ) → Is {X = X} g None None
none_is g = record { is = refl }

-- a value of the group g in place of none or of one of the group g
pub from_none : {X : Type 0} (u g : ℕ) (x : X) (y : Option (ℕ × X)) → u ≢ g → y ≡ None → Stays u (Some (g, x)) y
from_none u g x y n e = record { is = option_of_group-other u g x n ∙ sym (ap (option_of_group u) e) }

pub from_some : {X : Type 0} (u g : ℕ) (x z : X) (y : Option (ℕ × X)) → u ≢ g → y ≡ Some (g, z) → Stays u (Some (g, x)) y
from_some u g x z y n e = record { is = option_of_group-other u g x n ∙ sym (ap (option_of_group u) e ∙ option_of_group-other u g z n) }

pub to_none : {X : Type 0} (u g : ℕ) (z : X) (y : Option (ℕ × X)) → u ≢ g → y ≡ Some (g, z) → Stays u None y
to_none u g z y n e = record { is = sym (ap (option_of_group u) e ∙ option_of_group-other u g z n) }

-- ONE PART IS WRITTEN. `change` puts a value into that part of a group's state.

-- The group's own part becomes y. Where that is z, and the group was part, it is part with z now.
changed : {Y : Type 0} (change : GroupState → Y → GroupState) {g : ℕ} {v world : World} {part : GroupState} {y z : Y}
    → view g v ≡ change (view g world) y → y ≡ z → Seen g world part → Seen g v (change part z)
changed change e f k = record { is = e ∙ (λ i. change (k.is i) (f i)) }

-- What another group sees of the part becomes y. Where that is what it saw before, the group is as it was.
unchanged : {Y : Type 0} (change : GroupState → Y → GroupState) {u : ℕ} {v world : World} {part : GroupState} {y z : Y}
    → view u v ≡ change (view u world) y → y ≡ z → change (view u world) z ≡ view u world → Seen u world part
    → Seen u v part
unchanged change {u = u} {world = world} e f same k = record { is = e ∙ ap (change (view u world)) f ∙ same ∙ k.is }

-- PARTS BY GROUP

abbrev pub set_entries : ℕ → (ℕ → ℕ → Entry) → World → World
set_entries g x world = record world { entries = put world.entries g x }

pub entries-here : (g : ℕ) (x : ℕ → ℕ → Entry) {world : World} {part : GroupState} → Seen g world part
    → Seen g (set_entries g x world) (record part { entries = x })
entries-here g x {world = world} k = changed (λ (part : GroupState) (y : ℕ → ℕ → Entry). record part { entries = y }) refl
    (put-here world.entries g x) k

pub entries-other : (u g : ℕ) (x : ℕ → ℕ → Entry) {world : World} {part : GroupState} → u ≢ g → Seen u world part
    → Seen u (set_entries g x world) part
entries-other u g x {world = world} n k =
    unchanged (λ (part : GroupState) (y : ℕ → ℕ → Entry). record part { entries = y }) refl
    (put-other world.entries g u x n) refl k

abbrev pub set_words : ℕ → (ℕ → ℕ → ℕ → ℕ) → World → World
set_words g x world = record world { words = put world.words g x }

pub words-here : (g : ℕ) (x : ℕ → ℕ → ℕ → ℕ) {world : World} {part : GroupState} → Seen g world part
    → Seen g (set_words g x world) (record part { words = x })
words-here g x {world = world} k = changed (λ (part : GroupState) (y : ℕ → ℕ → ℕ → ℕ). record part { words = y }) refl
    (put-here world.words g x) k

pub words-other : (u g : ℕ) (x : ℕ → ℕ → ℕ → ℕ) {world : World} {part : GroupState} → u ≢ g → Seen u world part
    → Seen u (set_words g x world) part
words-other u g x {world = world} n k =
    unchanged (λ (part : GroupState) (y : ℕ → ℕ → ℕ → ℕ). record part { words = y }) refl
    (put-other world.words g u x n) refl k

abbrev pub set_directory : ℕ → (ℕ → ℕ → Entry) → World → World
set_directory g x world = record world { directory = put world.directory g x }

pub directory-here : (g : ℕ) (x : ℕ → ℕ → Entry) {world : World} {part : GroupState} → Seen g world part
    → Seen g (set_directory g x world) (record part { directory = x })
directory-here g x {world = world} k =
    changed (λ (part : GroupState) (y : ℕ → ℕ → Entry). record part { directory = y }) refl (put-here world.directory g x) k

pub directory-other : (u g : ℕ) (x : ℕ → ℕ → Entry) {world : World} {part : GroupState} → u ≢ g → Seen u world part
    → Seen u (set_directory g x world) part
directory-other u g x {world = world} n k =
    unchanged (λ (part : GroupState) (y : ℕ → ℕ → Entry). record part { directory = y }) refl
    (put-other world.directory g u x n) refl k

abbrev pub set_pending : ℕ → Bool → World → World
set_pending g b world = record world { pending = put world.pending g b }

pub pending-here : (g : ℕ) (b : Bool) {world : World} {part : GroupState} → Seen g world part
    → Seen g (set_pending g b world) (record part { pending = b })
pending-here g b {world = world} k = changed (λ (part : GroupState) (y : Bool). record part { pending = y }) refl
    (put-here world.pending g b) k

pub pending-other : (u g : ℕ) (b : Bool) {world : World} {part : GroupState} → u ≢ g → Seen u world part
    → Seen u (set_pending g b world) part
pending-other u g b {world = world} n k =
    unchanged (λ (part : GroupState) (y : Bool). record part { pending = y }) refl (put-other world.pending g u b n) refl k

abbrev pub set_memory : ℕ → (ℕ → ℕ → ℕ) → World → World
set_memory g x world = record world { memory = put world.memory g x }

pub memory-here : (g : ℕ) (x : ℕ → ℕ → ℕ) {world : World} {part : GroupState} → Seen g world part
    → Seen g (set_memory g x world) (record part { memory = x })
memory-here g x {world = world} k = changed (λ (part : GroupState) (y : ℕ → ℕ → ℕ). record part { memory = y }) refl
    (put-here world.memory g x) k

pub memory-other : (u g : ℕ) (x : ℕ → ℕ → ℕ) {world : World} {part : GroupState} → u ≢ g → Seen u world part
    → Seen u (set_memory g x world) part
memory-other u g x {world = world} n k =
    unchanged (λ (part : GroupState) (y : ℕ → ℕ → ℕ). record part { memory = y }) refl (put-other world.memory g u x n) refl k

abbrev pub set_taken_count : ℕ → ℕ → World → World
set_taken_count g n world = record world { taken_count = put world.taken_count g n }

pub taken_count-here : (g : ℕ) (n : ℕ) {world : World} {part : GroupState} → Seen g world part
    → Seen g (set_taken_count g n world) (record part { taken_count = n })
taken_count-here g n {world = world} k = changed (λ (part : GroupState) (y : ℕ). record part { taken_count = y }) refl
    (put-here world.taken_count g n) k

pub taken_count-other : (u g : ℕ) (number : ℕ) {world : World} {part : GroupState} → u ≢ g → Seen u world part
    → Seen u (set_taken_count g number world) part
taken_count-other u g number {world = world} n k =
    unchanged (λ (part : GroupState) (y : ℕ). record part { taken_count = y }) refl (put-other world.taken_count g u number n) refl k

abbrev pub set_settled_count : ℕ → ℕ → World → World
set_settled_count g n world = record world { settled_count = put world.settled_count g n }

pub settled_count-here : (g : ℕ) (n : ℕ) {world : World} {part : GroupState} → Seen g world part
    → Seen g (set_settled_count g n world) (record part { settled_count = n })
settled_count-here g n {world = world} k =
    changed (λ (part : GroupState) (y : ℕ). record part { settled_count = y }) refl (put-here world.settled_count g n) k

pub settled_count-other : (u g : ℕ) (number : ℕ) {world : World} {part : GroupState} → u ≢ g → Seen u world part
    → Seen u (set_settled_count g number world) part
settled_count-other u g number {world = world} n k =
    unchanged (λ (part : GroupState) (y : ℕ). record part { settled_count = y }) refl (put-other world.settled_count g u number n) refl k

-- PARTS BY CACHE: the channels, and the operations in progress

abbrev pub set_request : ℕ → List (ℕ × Request) → World → World
set_request c xs world = record world { request = put world.request c xs }

pub request-here : (g c : ℕ) {xs : List (ℕ × Request)} {ys : List Request} {world : World} {part : GroupState} → Has g xs ys
    → Seen g world part
    → Seen g (set_request c xs world) (record part { request = put part.request c ys })
request-here g c {xs = xs} {world = world} e k =
    changed (λ (part : GroupState) (z : List Request). record part { request = put part.request c z })
    (ap (λ (z : ℕ → List Request). record (view g world) { request = z }) (chan-put (of_group g) world.request c xs)) e.is k

pub request-other : (u c : ℕ) {xs : List (ℕ × Request)} {world : World} {part : GroupState} → Keeps u xs (world.request c)
    → Seen u world part
    → Seen u (set_request c xs world) part
request-other u c {xs = xs} {world = world} e k =
    unchanged (λ (part : GroupState) (z : ℕ → List Request). record part { request = z }) refl
    (chan-put_same (of_group u) world.request c xs e.is) refl k

abbrev pub set_command : ℕ → List (ℕ × ToCache) → World → World
set_command c xs world = record world { command = put world.command c xs }

pub command-here : (g c : ℕ) {xs : List (ℕ × ToCache)} {ys : List ToCache} {world : World} {part : GroupState} → Has g xs ys
    → Seen g world part
    → Seen g (set_command c xs world) (record part { command = put part.command c ys })
command-here g c {xs = xs} {world = world} e k =
    changed (λ (part : GroupState) (z : List ToCache). record part { command = put part.command c z })
    (ap (λ (z : ℕ → List ToCache). record (view g world) { command = z }) (chan-put (of_group g) world.command c xs)) e.is k

pub command-other : (u c : ℕ) {xs : List (ℕ × ToCache)} {world : World} {part : GroupState} → Keeps u xs (world.command c)
    → Seen u world part
    → Seen u (set_command c xs world) part
command-other u c {xs = xs} {world = world} e k =
    unchanged (λ (part : GroupState) (z : ℕ → List ToCache). record part { command = z }) refl
    (chan-put_same (of_group u) world.command c xs e.is) refl k

abbrev pub set_response : ℕ → List (ℕ × Response) → World → World
set_response c xs world = record world { response = put world.response c xs }

pub response-here : (g c : ℕ) {xs : List (ℕ × Response)} {ys : List Response} {world : World} {part : GroupState} → Has g xs ys
    → Seen g world part
    → Seen g (set_response c xs world) (record part { response = put part.response c ys })
response-here g c {xs = xs} {world = world} e k =
    changed (λ (part : GroupState) (z : List Response). record part { response = put part.response c z })
    (ap (λ (z : ℕ → List Response). record (view g world) { response = z }) (chan-put (of_group g) world.response c xs)) e.is k

pub response-other : (u c : ℕ) {xs : List (ℕ × Response)} {world : World} {part : GroupState} → Keeps u xs (world.response c)
    → Seen u world part
    → Seen u (set_response c xs world) part
response-other u c {xs = xs} {world = world} e k =
    unchanged (λ (part : GroupState) (z : ℕ → List Response). record part { response = z }) refl
    (chan-put_same (of_group u) world.response c xs e.is) refl k

abbrev pub set_fill : ℕ → ℕ → List (ℕ × FillMessage) → World → World
set_fill c o xs world = record world { fill = put2 world.fill c o xs }

pub fill-here : (g c o : ℕ) {xs : List (ℕ × FillMessage)} {ys : List FillMessage} {world : World} {part : GroupState} → Has g xs ys
    → Seen g world part
    → Seen g (set_fill c o xs world) (record part { fill = put2 part.fill c o ys })
fill-here g c o {xs = xs} {world = world} e k =
    changed (λ (part : GroupState) (z : List FillMessage). record part { fill = put2 part.fill c o z })
    (ap (λ (z : ℕ → ℕ → List FillMessage). record (view g world) { fill = z }) (chan2-put (of_group g) world.fill c o xs)) e.is k

pub fill-other : (u c o : ℕ) {xs : List (ℕ × FillMessage)} {world : World} {part : GroupState} → Keeps u xs (world.fill c o)
    → Seen u world part
    → Seen u (set_fill c o xs world) part
fill-other u c o {xs = xs} {world = world} e k =
    unchanged (λ (part : GroupState) (z : ℕ → ℕ → List FillMessage). record part { fill = z }) refl
    (chan2-put_same (of_group u) world.fill c o xs e.is) refl k

abbrev pub set_busy : ℕ → Option (ℕ × InProgress) → World → World
set_busy c x world = record world { busy = put world.busy c x }

pub busy-here : (g c : ℕ) {x : Option (ℕ × InProgress)} {y : Option InProgress} {world : World} {part : GroupState} → Is g x y
    → Seen g world part
    → Seen g (set_busy c x world) (record part { busy = put part.busy c y })
busy-here g c {x = x} {world = world} e k =
    changed (λ (part : GroupState) (z : Option InProgress). record part { busy = put part.busy c z })
    (ap (λ (z : ℕ → Option InProgress). record (view g world) { busy = z }) (chan-put (option_of_group g) world.busy c x)) e.is k

pub busy-other : (u c : ℕ) {x : Option (ℕ × InProgress)} {world : World} {part : GroupState} → Stays u x (world.busy c)
    → Seen u world part
    → Seen u (set_busy c x world) part
busy-other u c {x = x} {world = world} e k =
    unchanged (λ (part : GroupState) (z : ℕ → Option InProgress). record part { busy = z }) refl
    (chan-put_same (option_of_group u) world.busy c x e.is) refl k

-- PARTS WITHOUT AN INDEX

abbrev pub set_transaction : Option (ℕ × Transaction) → World → World
set_transaction x world = record world { transaction = x }

pub transaction-here : (g : ℕ) {x : Option (ℕ × Transaction)} {y : Option Transaction} {world : World} {part : GroupState} → Is g x y
    → Seen g world part
    → Seen g (set_transaction x world) (record part { transaction = y })
transaction-here g e k = changed (λ (part : GroupState) (z : Option Transaction). record part { transaction = z }) refl e.is k

pub transaction-other : (u : ℕ) {x : Option (ℕ × Transaction)} {world : World} {part : GroupState} → Stays u x world.transaction
    → Seen u world part
    → Seen u (set_transaction x world) part
transaction-other u e k = unchanged (λ (part : GroupState) (z : Option Transaction). record part { transaction = z }) refl e.is refl k

abbrev pub set_memout : List (ℕ × ToMemory) → World → World
set_memout xs world = record world { memout = xs }

pub memout-here : (g : ℕ) {xs : List (ℕ × ToMemory)} {ys : List ToMemory} {world : World} {part : GroupState} → Has g xs ys
    → Seen g world part
    → Seen g (set_memout xs world) (record part { memout = ys })
memout-here g e k = changed (λ (part : GroupState) (z : List ToMemory). record part { memout = z }) refl e.is k

pub memout-other : (u : ℕ) {xs : List (ℕ × ToMemory)} {world : World} {part : GroupState} → Keeps u xs world.memout
    → Seen u world part
    → Seen u (set_memout xs world) part
memout-other u e k = unchanged (λ (part : GroupState) (z : List ToMemory). record part { memout = z }) refl e.is refl k

abbrev pub set_memin : List (ℕ × MemoryBlock) → World → World
set_memin xs world = record world { memin = xs }

pub memin-here : (g : ℕ) {xs : List (ℕ × MemoryBlock)} {ys : List MemoryBlock} {world : World} {part : GroupState} → Has g xs ys
    → Seen g world part
    → Seen g (set_memin xs world) (record part { memin = ys })
memin-here g e k = changed (λ (part : GroupState) (z : List MemoryBlock). record part { memin = z }) refl e.is k

pub memin-other : (u : ℕ) {xs : List (ℕ × MemoryBlock)} {world : World} {part : GroupState} → Keeps u xs world.memin
    → Seen u world part
    → Seen u (set_memin xs world) part
memin-other u e k = unchanged (λ (part : GroupState) (z : List MemoryBlock). record part { memin = z }) refl e.is refl k

abbrev pub set_history : List (ℕ × Completed) → World → World
set_history xs world = record world { history = xs }

pub history-here : (g : ℕ) {xs : List (ℕ × Completed)} {ys : List Completed} {world : World} {part : GroupState} → Has g xs ys
    → Seen g world part
    → Seen g (set_history xs world) (record part { history = ys })
history-here g e k = changed (λ (part : GroupState) (z : List Completed). record part { history = z }) refl e.is k

pub history-other : (u : ℕ) {xs : List (ℕ × Completed)} {world : World} {part : GroupState} → Keeps u xs world.history
    → Seen u world part
    → Seen u (set_history xs world) part
history-other u e k = unchanged (λ (part : GroupState) (z : List Completed). record part { history = z }) refl e.is refl k

-- all command channels at once
abbrev pub set_commands : (ℕ → List (ℕ × ToCache)) → World → World
set_commands f world = record world { command = f }

pub commands-here : (g : ℕ) (f : ℕ → List (ℕ × ToCache)) (h : ℕ → List ToCache) {world : World} {part : GroupState}
    → ((c : ℕ) → of_group g (f c) ≡ h c)
    → Seen g world part
    → Seen g (set_commands f world) (record part { command = h })
commands-here g f h e k = changed (λ (part : GroupState) (z : ℕ → List ToCache). record part { command = z }) refl (fun_ext e) k

pub commands-other : (u : ℕ) (f : ℕ → List (ℕ × ToCache)) {world : World} {part : GroupState}
    → ((c : ℕ) → of_group u (f c) ≡ of_group u (world.command c))
    → Seen u world part
    → Seen u (set_commands f world) part
commands-other u f e k = unchanged (λ (part : GroupState) (z : ℕ → List ToCache). record part { command = z }) refl (fun_ext e) refl k

-- recency is no part of a group's facts
pub way_first-seen : (g c w : ℕ) {u : ℕ} {world : World} {part : GroupState} → Seen u world part
    → Seen u (with_way_first g c w world) part
way_first-seen g c w e = record { is = e.is }
