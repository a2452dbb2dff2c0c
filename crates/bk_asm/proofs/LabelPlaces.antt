-- Labels and the map that keeps them.
use Rattle.std.proofs.Common.{◌≡◌, ℕ, Bool, true, false, cond, ◌<◌, ◌≤◌, List, [], ◌∷◌, map, refl, sym, ap, subst, ◌∙◌, arith, Bor}
use Rattle.std.specs.Prelude.{Option, Some, T, nat_lt}
use Rattle.std.specs.List.{list_all}
use Rattle.std.specs.declared.cmp.Ordering.{Ordering}
use Rattle.std.specs.declared.cmp.Ordering.TheVariants.{Less, Equal, Greater}
use Rattle.std.specs.Ordering.{nat_cmp, match_ordering}
use Rattle.std.specs.Cmp.Lexicographic.{slice_cmp, nat_list_cmp_total, nat_list_eq_equiv}
use Rattle.std.specs.Map.{lookup}
use Rattle.std.specs.BTreeMap.{insert_entry}
use Rattle.std.specs.FinMap.{nat_cmp-IsAntisymmetric, slice_cmp-IsAntisymmetric}
use Rattle.std.specs.FinMap.Entries.{by_order, put, find, is_sorted, is_sorted-put, same_entries}
use Rattle.std.specs.Str.{bytes_eq}
use Rattle.std.proofs.lemmas.Bool.{and_parts, and_from}
use Rattle.std.proofs.lemmas.Map.Text.{is_eq-slice_cmp}
use Rattle.std.proofs.lemmas.Bool.Decides.{nat_tests}
use Rattle.bk_asm.specs.Names.{Naming}
use Rattle.bk_asm.specs.Kept.{in_order}
use Rattle.bk_asm.specs.Reading.{place_of}
use Rattle.bk_asm.proofs.LabelsAgain.{place_inserted}

-- the entries of the map
abbrev pub Kept : Type 0
Kept = List (Bor (List ℕ) × ℕ)

abbrev pub shown : Kept → List Naming
shown entries = map (λ e. (e.0.now, e.1)) entries

-- what the map has at a name
abbrev pub kept_at : Kept → List ℕ → Option ℕ
kept_at entries name = lookup (λ k. bytes_eq name k.now) entries

kept_shown : (entries : Kept) (name : List ℕ) → kept_at entries name ≡ place_of (shown entries) name
kept_shown [] name = refl
kept_shown (e ∷ entries) name = ap (cond (bytes_eq name e.0.now) (Some e.1)) (kept_shown entries name)

-- their order changes no place
place_ordered : (labels : List Naming) (name : List ℕ) → place_of (in_order labels) name ≡ place_of labels name
place_ordered [] name = refl
place_ordered (l ∷ labels) name =
    place_inserted name (in_order labels) l.0 l.1 ∙ ap (cond (bytes_eq name l.0) (Some l.1)) (place_ordered labels name)

pub place_found : (entries : Kept) (name : List ℕ) → kept_at entries name ≡ place_of (in_order (shown entries)) name
place_found entries name = kept_shown entries name ∙ sym (place_ordered (shown entries) name)

-- ---- labels in the order of their names are told apart by their places alone

by_either : {A : Type 0} (o : Ordering) (a b c : A) → by_order o a b c ≡ match_ordering o a b c
by_either Less a b c = refl
by_either Equal a b c = refl
by_either Greater a b c = refl

put_inserts : (name : List ℕ) (v : ℕ) (labels : List Naming)
    → put (slice_cmp nat_cmp) name v labels ≡ insert_entry (slice_cmp nat_cmp) labels name v
put_inserts name v [] = refl
put_inserts name v (l ∷ labels) =
    ap (λ more. by_order (slice_cmp nat_cmp name l.0) ((name, v) ∷ l ∷ labels) ((l.0, v) ∷ labels) (l ∷ more)) (put_inserts name v labels)
    ∙ by_either (slice_cmp nat_cmp name l.0) _ _ _

sorted_inserted : (labels : List Naming) (name : List ℕ) (v : ℕ) → T (is_sorted (slice_cmp nat_cmp) labels)
    → T (is_sorted (slice_cmp nat_cmp) (insert_entry (slice_cmp nat_cmp) labels name v))
sorted_inserted labels name v s =
    subst (λ l. T (is_sorted (slice_cmp nat_cmp) l)) (put_inserts name v labels)
    (is_sorted-put (slice_cmp nat_cmp) nat_list_cmp_total name v labels s)

sorted_in_order : (labels : List Naming) → T (is_sorted (slice_cmp nat_cmp) (in_order labels))
sorted_in_order [] = tt
sorted_in_order (l ∷ labels) = sorted_inserted (in_order labels) l.0 l.1 (sorted_in_order labels)

find_place : (name : List ℕ) (labels : List Naming) → find (slice_cmp nat_cmp) name labels ≡ place_of labels name
find_place name [] = refl
find_place name (l ∷ labels) =
    ap (λ t. cond t (Some l.1) (find (slice_cmp nat_cmp) name labels)) (is_eq-slice_cmp name l.0)
    ∙ ap (cond (bytes_eq name l.0) (Some l.1)) (find_place name labels)

same_labels : (labels others : List Naming) → T (is_sorted (slice_cmp nat_cmp) labels) → T (is_sorted (slice_cmp nat_cmp) others)
    → ((name : List ℕ) → place_of labels name ≡ place_of others name) → labels ≡ others
same_labels labels others s t same =
    same_entries (slice_cmp nat_cmp) nat_list_cmp_total (slice_cmp-IsAntisymmetric nat_cmp-IsAntisymmetric) labels others s t
    (λ name. find_place name labels ∙ (same name ∙ sym (find_place name others)))

-- a map with one more label, wherever it keeps it
pub inserted : (before after : Kept) (name : List ℕ) (v : ℕ)
    → ((q : List ℕ) → kept_at after q ≡ cond (bytes_eq name q) (Some v) (kept_at before q))
    → in_order (shown after) ≡ insert_entry (slice_cmp nat_cmp) (in_order (shown before)) name v
inserted before after name v is =
    same_labels _ _ (sorted_in_order (shown after)) (sorted_inserted (in_order (shown before)) name v (sorted_in_order (shown before)))
    (λ q. sym (place_found after q)
    ∙ (is q
    ∙ (ap (λ t. cond t (Some v) (kept_at before q)) (nat_list_eq_equiv.symm name q)
    ∙ (ap (cond (bytes_eq q name) (Some v)) (place_found before q)
    ∙ sym (place_inserted q (in_order (shown before)) name v)))))

-- each label stands for a place below this one
abbrev pub all_under : ℕ → List Naming → Bool
all_under n labels = list_all (λ l. nat_lt l.1 n) labels

under_by : (b : Bool) (n v p : ℕ) (o : Option ℕ) → v < n → (o ≡ Some p → p < n) → cond b (Some v) o ≡ Some p → p < n
under_by true n v p o lt more e = let same : v ≡ p = cc in rw (← same) lt
under_by false n v p o lt more e = more e

pub place_under : (n : ℕ) (labels : List Naming) (name : List ℕ) (p : ℕ) → all_under n labels ≡ true
    → place_of labels name ≡ Some p → p < n
place_under n [] name p e is = absurd cc
place_under n (l ∷ labels) name p e is =
    let parts = and_parts (nat_lt l.1 n) (all_under n labels) e in
    let lt : l.1 < n = grind (arith, nat_tests, parts.0) in
    under_by (bytes_eq name l.0) n l.1 p (place_of labels name) lt (place_under n labels name p parts.1) is

insert_under_by : (o : Ordering) (n : ℕ) (l : Naming) (name : List ℕ) (v : ℕ) (labels more : List Naming) → v < n
    → all_under n (l ∷ labels) ≡ true → all_under n more ≡ true
    → all_under n (match_ordering o ((name, v) ∷ l ∷ labels) ((l.0, v) ∷ labels) (l ∷ more)) ≡ true
insert_under_by Less n l name v labels more lt e m = and_from (nat_lt v n) _ (grind (arith, nat_tests)) e
insert_under_by Equal n l name v labels more lt e m =
    and_from (nat_lt v n) _ (grind (arith, nat_tests)) (and_parts (nat_lt l.1 n) (all_under n labels) e).1
insert_under_by Greater n l name v labels more lt e m = and_from (nat_lt l.1 n) _ (and_parts (nat_lt l.1 n) (all_under n labels) e).0 m

pub insert_under : (n : ℕ) (labels : List Naming) (name : List ℕ) (v : ℕ) → v < n → all_under n labels ≡ true
    → all_under n (insert_entry (slice_cmp nat_cmp) labels name v) ≡ true
insert_under n [] name v lt e = and_from (nat_lt v n) true (grind (arith, nat_tests)) refl
insert_under n (l ∷ labels) name v lt e =
    insert_under_by (slice_cmp nat_cmp name l.0) n l name v labels (insert_entry (slice_cmp nat_cmp) labels name v) lt e
    (insert_under n labels name v lt (and_parts (nat_lt l.1 n) (all_under n labels) e).1)

pub under_more : (number n : ℕ) (labels : List Naming) → number ≤ n → all_under number labels ≡ true
    → all_under n labels ≡ true
under_more number n [] le e = refl
under_more number n (l ∷ labels) le e =
    let parts = and_parts (nat_lt l.1 number) (all_under number labels) e in
    and_from (nat_lt l.1 n) _ (grind (arith, nat_tests, parts.0)) (under_more number n labels le parts.1)
