-- The know lines of what was read so far.
use Rattle.std.proofs.Common.{◌≡◌, ℕ, ◌+◌, ◌<◌, ◌≤◌, Bool, true, false, cond, ◌&&◌, length, List, [], ◌∷◌, ◌++◌, refl, arith}
use Rattle.std.specs.Prelude.{Option, Some, None, nat_lt, nat_le}
use Rattle.std.specs.Ordering.{nat_cmp}
use Rattle.std.specs.Cmp.Lexicographic.{slice_cmp}
use Rattle.std.specs.BTreeMap.{insert_entry}
use Rattle.std.proofs.lemmas.Bool.Decides.{nat_tests}
use Rattle.std.proofs.lemmas.List.{append-nil, length_push}
use Rattle.bk_know.specs.declared.sets.Sets.{Sets}
use Rattle.bk_image.specs.Images.{Line, are_lines}
use Rattle.bk_asm.specs.Programs.{Statement}
use Rattle.bk_asm.specs.Reading.{Draft, know_line, place_of}
use Rattle.bk_asm.specs.Drafts.{IsDraft}
use Rattle.bk_asm.specs.Ranges.{last_ok, is_target}
use Rattle.bk_asm.specs.declared.slots.Last.{Last}
use Rattle.bk_asm.specs.declared.slots.Last.TheVariants as lasts
use Rattle.bk_asm.proofs.LabelPlaces.{all_under, under_more, insert_under, place_under}

waiting : (b : Bool) (n : ℕ) → n + cond b 1 0 ≤ n + 1 + 0
waiting true n = omega arith
waiting false n = omega arith

waiting_one : (b : Bool) (n : ℕ) → n + cond b 1 0 ≤ n + 1
waiting_one true n = omega arith
waiting_one false n = omega arith

three : (a b test : Bool) → a ≡ true → b ≡ true → test ≡ true → a && b && test ≡ true
three true true true p q r = refl
three true true false p q r = absurd cc
three true false test p q r = absurd cc
three false b test p q r = absurd cc

parts : (a b test : Bool) → a && b && test ≡ true → (a ≡ true) × (b ≡ true) × (test ≡ true)
parts true true true e = (refl, refl, refl)
parts true true false e = absurd cc
parts true false test e = absurd cc
parts false b test e = absurd cc

lines_more : (number n least : ℕ) (ks : List Line) → number ≤ n → are_lines number least ks ≡ true
    → are_lines n least ks ≡ true
lines_more number n least [] le e = refl
lines_more number n least (k ∷ ks) le e =
    let p = parts (nat_le least k.0) (nat_lt k.0 number) (are_lines number (k.0 + 1) ks) e in
    three (nat_le least k.0) (nat_lt k.0 n) (are_lines n (k.0 + 1) ks) p.0 (grind (arith, nat_tests, p.1))
    (lines_more number n (k.0 + 1) ks le p.2)

lines_push : (n least : ℕ) (ks : List Line) (sets : Sets) → least ≤ n → are_lines n least ks ≡ true
    → are_lines (n + 1) least (ks ++ (n, sets) ∷ []) ≡ true
lines_push n least [] sets le e = three (nat_le least n) (nat_lt n (n + 1)) true (grind (arith, nat_tests)) (grind (arith, nat_tests)) refl
lines_push n least (k ∷ ks) sets le e =
    let p = parts (nat_le least k.0) (nat_lt k.0 n) (are_lines n (k.0 + 1) ks) e in
    let lt : k.0 + 1 ≤ n = grind (arith, nat_tests, p.1) in
    three (nat_le least k.0) (nat_lt k.0 (n + 1)) (are_lines (n + 1) (k.0 + 1) (ks ++ (n, sets) ∷ [])) p.0 (grind (arith, nat_tests, p.1))
    (lines_push n (k.0 + 1) ks sets lt p.2)

pub know_pushed : (n : ℕ) (ks : List Line) (know : Option Sets) → are_lines n 0 ks ≡ true
    → are_lines (n + 1) 0 (ks ++ know_line n know) ≡ true
know_pushed n ks None e = rw append-nil (lines_more n (n + 1) 0 ks (omega arith) e)
know_pushed n ks (Some s) e = lines_push n 0 ks s (omega arith) e

pub statement_draft : (d : Draft) (statement : Statement) (p : ℕ) → p ≡ length d.statements → IsDraft d
    → length d.statements < 256
    → IsDraft (record {
      limit = d.limit;
      statements = d.statements ++ statement ∷ [];
      knows = d.knows ++ know_line p d.know;
      labels = d.labels;
      know = None;
      waits = false;
    })
statement_draft d statement p is h lt =
    let len : length (d.statements ++ statement ∷ []) ≡ length d.statements + 1 = length_push d.statements statement in
    record {
      limit = h.limit;
      few = omega arith;
      lines = rw (len, is) (know_pushed (length d.statements) d.knows d.know h.lines);
      labels = rw len (under_more (length d.statements + cond d.waits 1 0) (length d.statements + 1 + 0) d.labels
          (waiting d.waits (length d.statements)) h.labels);
    }

pub label_draft : (d : Draft) (name : List ℕ) (p : ℕ) → p ≡ length d.statements → IsDraft d
    → IsDraft (record {
      limit = d.limit;
      statements = d.statements;
      knows = d.knows;
      labels = insert_entry (slice_cmp nat_cmp) d.labels name p;
      know = d.know;
      waits = true;
    })
label_draft d name p is h = record {
  limit = h.limit;
  few = h.few;
  lines = h.lines;
  labels = insert_under (length d.statements + 1) d.labels name p (omega arith)
      (under_more (length d.statements + cond d.waits 1 0) (length d.statements + 1) d.labels
      (waiting_one d.waits (length d.statements)) h.labels);
}

-- where a branch goes
pub target_ok : (l : Last) (place : ℕ) → is_target l ≡ true → place < 256 → last_ok l place ≡ true
target_ok lasts.Nothing place e lt = absurd cc
target_ok lasts.Shift place e lt = absurd cc
target_ok lasts.Number place e lt = absurd cc
target_ok lasts.Target place e lt = grind (arith, nat_tests)

pub place_ok : (d : Draft) (name : List ℕ) (place : ℕ) → IsDraft d → d.waits ≡ false → place_of d.labels name ≡ Some place
    → place < 256
place_ok d name place h w is =
    let under : all_under (length d.statements + 0) d.labels ≡ true = (rw w at h.labels) in
    let lt = place_under (length d.statements + 0) d.labels name place under is in
    let few = h.few in
    omega arith
