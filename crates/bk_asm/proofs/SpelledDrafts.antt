-- The lines that are read one after the other, and what they leave of instructions, know lines and labels.
use Rattle.std.proofs.Common.{◌≡◌, ◌⊎◌, ℕ, ◌+◌, Bool, true, false, cond, nat_le, Option, Some, None, Result, Ok}
use Rattle.std.proofs.Common.{Err, List, [], ◌∷◌, ◌++◌, length, map, append_assoc}
use Rattle.std.proofs.Common.{append-nil, refl, sym, ap, subst, ◌∙◌, inl, inr, arith}
use Rattle.std.specs.Prelude.{is_some}
use Rattle.std.specs.List.{AllByRecursion, Contains, IsDistinct}
use Rattle.std.specs.Ordering.{nat_cmp}
use Rattle.std.specs.Cmp.Lexicographic.{slice_cmp}
use Rattle.std.specs.BTreeMap.{insert_entry}
use Rattle.std.specs.Str.{bytes_eq}
use Rattle.std.proofs.lemmas.Bool.Decides.{nat_tests}
use Rattle.std.proofs.lemmas.List.{length_push}
use Rattle.std.proofs.lemmas.Map.Keys.{IsDistinct-cons}
use Rattle.std.proofs.lemmas.Slice.Eq.{bytes_eq-Decides}
use Rattle.bk_know.specs.declared.sets.Sets.{Sets}
use Rattle.bk_image.specs.Images.{Line}
use Rattle.bk_text.specs.Texts.{words_of}
use Rattle.bk_text.proofs.Laws.{words_in_line}
use Rattle.bk_text.proofs.LineWords.{tested}
use Rattle.bk_asm.specs.Faults.{At}
use Rattle.bk_asm.specs.Names.{Naming}
use Rattle.bk_asm.specs.Drafts.{IsDraft}
use Rattle.bk_asm.specs.Programs.{Statement, LineParts}
use Rattle.bk_asm.specs.Reading.{Draft, place_of, has_begun, with_limit}
use Rattle.bk_asm.specs.Reading.{line_at, on_line, comment_mark, row_at, with_label, with_know}
use Rattle.bk_asm.specs.Reading.{with_statement, know_line, after, lines_at}
use Rattle.bk_asm.specs.Spelled.{label_in}
use Rattle.bk_asm.proofs.Drafted.{statement_draft, label_draft}
use Rattle.bk_asm.proofs.LabelsAgain.{place_inserted}
use Rattle.bk_asm.proofs.SpelledWords.{bound, ok_is, some_is, first, later}
use Rattle.bk_asm.proofs.SpelledLine.{Stated, Empty, Mask, Does, StatedLine, know_of, does_of, line_parts, SpellsStatedLine, IsAllowed}
use Rattle.bk_asm.proofs.SpelledLine.{IsFresh, IsFirst, line_spelled}

-- ---- lines, one after the other

-- from what was read before, these lines lead to what was read at last
abbrev pub Follows : Draft → List (List ℕ) → List StatedLine → Draft → Type 0
Follows d [] [] e = d ≡ e
Follows d [] (s ∷ more) e = ⊥
Follows d (text ∷ texts) [] e = ⊥
Follows d (text ∷ texts) (s ∷ more) e =
    SpellsStatedLine (words_of comment_mark text) s.limit s.label s.content
    × IsAllowed (nat_le 256 (length d.statements)) (is_some d.know) s.content × IsFresh d.labels s.label
    × IsFirst (has_begun d) s.limit
    × Follows (after (line_parts s.limit s.label s.content) d) texts more e

on_line_is : {X : Type 0} (line : ℕ) (r : Result X At) (x : X) → on_line line r ≡ Ok x → r ≡ Ok x
on_line_is line (Ok y) x e = ap Ok (ok_is y x e)
on_line_is line (Err fault) x e = absurd cc

pub lines_follow : (d : Draft) (line : ℕ) (texts : List (List ℕ)) (e : Draft) → lines_at d line texts ≡ Ok e
    → (ss : List StatedLine)
    × Follows d texts ss e
unfolding lines_at
lines_follow d line [] e h = ([], ok_is d e h)
lines_follow d line (text ∷ texts) e h =
    let full = nat_le 256 (length d.statements) in
    let known = is_some d.know in
    let read = line_at d.labels (has_begun d) full known line (row_at text) (row_at text).words in
    let one = bound (on_line line read) (λ parts. lines_at (after parts d) (line + 1) texts) e h in
    let l = line_spelled d.labels (has_begun d) full known line (row_at text) (row_at text).words one.0
    (on_line_is line read one.0 one.1) in
    let more = lines_follow (after one.0 d) (line + 1) texts e one.2 in (
      record { limit = l.limit; label = l.label; content = l.content } ∷ more.0,
      (
        subst (λ (ws : List (List ℕ)). SpellsStatedLine ws l.limit l.label l.content) (sym (words_in_line comment_mark text)) l.spelled,
        l.allowed,
        l.fresh,
        l.first,
        subst (λ (p : LineParts). Follows (after p d) texts more.0 e) l.is more.1,
      ),
    )

-- ---- what the lines leave

abbrev pub stated_in : Stated → List Statement
stated_in Empty = []
stated_in (Mask sets) = []
stated_in (Does s) = s ∷ []

abbrev pub statements_in : List StatedLine → List Statement
statements_in [] = []
statements_in (s ∷ more) = stated_in s.content ++ statements_in more

abbrev pub stated_know : ℕ → Stated → List Line
stated_know place Empty = []
stated_know place (Mask sets) = (place, sets) ∷ []
stated_know place (Does s) = []

abbrev pub stated_knows : ℕ → List StatedLine → List Line
stated_knows place [] = []
stated_knows place (s ∷ more) = stated_know place s.content ++ stated_knows (place + length (stated_in s.content)) more

abbrev pub stated_labels : ℕ → List StatedLine → List Naming
stated_labels place [] = []
stated_labels place (s ∷ more) = label_in place s.label ++ stated_labels (place + length (stated_in s.content)) more

-- labels that came to those before, in the order of the text, and all of them as the map keeps them
pub record LabelsOf (labels added all : List Naming) : Type 0 where
  pub found : (name : List ℕ) (n : ℕ) → place_of all name ≡ Some n → (place_of labels name ≡ Some n)
      ⊎ Contains added (name, n)
  pub stays : (name : List ℕ) (n : ℕ) → place_of labels name ≡ Some n → place_of all name ≡ Some n
  pub places : AllByRecursion (λ (l : Naming). place_of all l.0 ≡ Some l.1) added
  pub apart : AllByRecursion (λ (l : Naming). place_of labels l.0 ≡ None) added
  pub once : IsDistinct bytes_eq (map (λ l. l.0) added)

nothing_twice : IsDistinct bytes_eq []
unfolding IsDistinct
nothing_twice = tt

no_labels : (labels : List Naming) → LabelsOf labels [] labels
no_labels labels = record { found = λ name n e. inl e; stays = λ name n e. e; places = tt; apart = tt; once = nothing_twice }

same_name : (name : List ℕ) → bytes_eq name name ≡ true
same_name name = (bytes_eq-Decides name name).1 refl

turned : (bytes y : List ℕ) → bytes_eq bytes y ≡ false → bytes_eq y bytes ≡ false
turned bytes y e = elim (tested (bytes_eq y bytes)) [
  | inl is ↦
      let yes : bytes_eq bytes y ≡ true = (bytes_eq-Decides bytes y).1 (sym ((bytes_eq-Decides y bytes).0 is)) in
      absurd cc
  | inr differs ↦ differs
]

none_by : (b : Bool) (v : ℕ) (o : Option ℕ) → cond b (Some v) o ≡ None → (b ≡ false) × (o ≡ None)
none_by true v o e = absurd cc
none_by false v o e = (refl, e)

none_and_some : {P : Type 0} (o : Option ℕ) (n : ℕ) → o ≡ None → o ≡ Some n → P
none_and_some o n e f = absurd cc

others_differ : (name : List ℕ) (v : ℕ) (labels added : List Naming)
    → AllByRecursion (λ (l : Naming). place_of (insert_entry (slice_cmp nat_cmp) labels name v) l.0 ≡ None) added
    → (AllByRecursion (λ other. bytes_eq name other ≡ false) (map (λ l. l.0) added))
    × (AllByRecursion (λ (l : Naming). place_of labels l.0 ≡ None) added)
others_differ name v labels [] h = (tt, tt)
others_differ name v labels (l ∷ added) h =
    let one = none_by (bytes_eq l.0 name) v (place_of labels l.0) (sym (place_inserted l.0 labels name v) ∙ h.0) in
    let more = others_differ name v labels added h.1 in
    ((turned l.0 name one.0, more.0), (one.1, more.1))

-- One more label, which is none of those before, in front of others. The map keeps it, since no later label has its name.
one_label : (name : List ℕ) (v : ℕ) (labels added all : List Naming) → place_of labels name ≡ None
    → LabelsOf (insert_entry (slice_cmp nat_cmp) labels name v) added all → LabelsOf labels ((name, v) ∷ added) all
one_label name v labels added all new h =
    let differ = others_differ name v labels added h.apart in
    let put : (q : List ℕ) → place_of (insert_entry (slice_cmp nat_cmp) labels name v) q ≡ cond (bytes_eq q name) (Some v)
    (place_of labels q) =
    λ q. place_inserted q labels name v in
    record {
      found = λ q n e. elim (h.found q n e) [
        | inl old ↦ elim (tested (bytes_eq q name)) [
          | inl is ↦
              let value = some_is v n (sym (ap (λ t. cond t (Some v) (place_of labels q)) is) ∙ sym (put q) ∙ old) in
              inr (first (name, v) added (q, n) (ap (λ w. (w, v)) (sym ((bytes_eq-Decides q name).0 is)) ∙ ap (λ k. (q, k)) value))
          | inr differs ↦ inl (sym (ap (λ t. cond t (Some v) (place_of labels q)) differs) ∙ sym (put q) ∙ old)
        ]
        | inr is ↦ inr (later (name, v) added (q, n) is)
      ];
      stays = λ q n e. h.stays q n (put q ∙ elim (tested (bytes_eq q name)) [
        | inl is ↦ none_and_some (place_of labels q) n (ap (place_of labels) ((bytes_eq-Decides q name).0 is) ∙ new) e
        | inr differs ↦ ap (λ t. cond t (Some v) (place_of labels q)) differs ∙ e
      ]);
      places = (h.stays name v (put name ∙ ap (λ t. cond t (Some v) (place_of labels name)) (same_name name)), h.places);
      apart = (new, differ.1);
      once = IsDistinct-cons bytes_eq name (map (λ l. l.0) added) differ.0 h.once;
    }

-- what was read at last, by what was read before and what came to it
pub record Leaves (d : Draft) (ss : List Statement) (ks : List Line) (ls : List Naming) (e : Draft) : Type 0 where
  pub statements : e.statements ≡ d.statements ++ ss
  pub knows : e.knows ++ know_line (length e.statements) e.know ≡ d.knows ++ (know_line (length d.statements) d.know ++ ks)
  pub labels : LabelsOf d.labels ls e.labels
  pub draft : IsDraft d → IsDraft e

label_step : (label : Option (List ℕ)) (d : Draft) (statements : List Statement) (knows : List Line) (labels : List Naming) (e : Draft)
    → IsFresh d.labels label
    → Leaves (with_label label d) statements knows labels e
    → Leaves d statements knows (label_in (length d.statements) label ++ labels) e
label_step None d statements knows labels e fresh h = h
label_step (Some name) d statements knows labels e fresh h = record {
  statements = h.statements;
  knows = h.knows;
  labels = one_label name (length d.statements) d.labels labels e.labels fresh h.labels;
  draft = λ is. h.draft (label_draft d name (length d.statements) refl is);
}

abbrev with_content : Stated → Draft → Draft
with_content c d = with_statement (does_of c) (with_know (know_of c) d)

none_waits : (o : Option Sets) → is_some o ≡ false → o ≡ None
none_waits None e = refl
none_waits (Some s) e = absurd cc

content_step : (c : Stated) (d : Draft) (statements : List Statement) (knows : List Line) (labels : List Naming) (e : Draft)
    → IsAllowed (nat_le 256 (length d.statements)) (is_some d.know) c → Leaves (with_content c d) statements knows labels e
    → Leaves d (stated_in c ++ statements) (stated_know (length d.statements) c ++ knows) labels e
content_step Empty d statements knows labels e allowed h = h
content_step (Mask sets) d statements knows labels e allowed h = record {
  statements = h.statements;
  knows = h.knows ∙ ap (λ o. d.knows ++ (know_line (length d.statements) o ++ ((length d.statements, sets) ∷ knows)))
      (sym (none_waits d.know allowed));
  labels = h.labels;
  draft = λ is. h.draft (record { limit = is.limit; few = is.few; lines = is.lines; labels = is.labels });
}
content_step (Does s) d statements knows labels e allowed h = record {
  statements = h.statements ∙ append_assoc d.statements (s ∷ []) statements;
  knows = h.knows ∙ append_assoc d.knows (know_line (length d.statements) d.know) knows;
  labels = h.labels;
  draft = λ is. h.draft (statement_draft d s (length d.statements) refl is (grind (arith, nat_tests, allowed)));
}

-- a label leaves the rest as it is
label_keeps : (label : Option (List ℕ)) (d : Draft) → length (with_label label d).statements ≡ length d.statements
label_keeps None d = refl
label_keeps (Some name) d = refl

allowed_still : (label : Option (List ℕ)) (d : Draft) (c : Stated) → IsAllowed (nat_le 256 (length d.statements)) (is_some d.know) c
    → IsAllowed (nat_le 256 (length (with_label label d).statements)) (is_some (with_label label d).know) c
allowed_still None d c h = h
allowed_still (Some name) d c h = h

count_after : (c : Stated) (d : Draft) → length (with_content c d).statements ≡ length d.statements + length (stated_in c)
count_after Empty d = omega arith
count_after (Mask sets) d = omega arith
count_after (Does s) d = length_push d.statements s

-- a limit leaves all else as it is
limit_step : (limit : Option ℕ) (d : Draft) (begun : Bool) (statements : List Statement) (knows : ℕ → List Line)
    (labels : ℕ → List Naming) (e : Draft) → IsFirst begun limit
    → Leaves (with_limit limit d) statements (knows (length (with_limit limit d).statements))
    (labels (length (with_limit limit d).statements)) e
    → Leaves d statements (knows (length d.statements)) (labels (length d.statements)) e
limit_step None d begun statements knows labels e first h = h
limit_step (Some limit) d begun statements knows labels e first h = record {
  statements = h.statements;
  knows = h.knows;
  labels = h.labels;
  draft = λ is. h.draft (record { limit = (first.1, first.2); few = is.few; lines = is.lines; labels = is.labels });
}

allowed_led : (limit : Option ℕ) (d : Draft) (c : Stated) → IsAllowed (nat_le 256 (length d.statements)) (is_some d.know) c
    → IsAllowed (nat_le 256 (length (with_limit limit d).statements)) (is_some (with_limit limit d).know) c
allowed_led None d c h = h
allowed_led (Some limit) d c h = h

fresh_led : (limit : Option ℕ) (d : Draft) (label : Option (List ℕ)) → IsFresh d.labels label
    → IsFresh (with_limit limit d).labels label
fresh_led None d label h = h
fresh_led (Some limit) d label h = h

-- The lines leave their instructions, their know lines and their labels: a line's label and its know line have the place of the
-- next instruction, which is the count of the instructions before it.
pub leaves : (d : Draft) (texts : List (List ℕ)) (ss : List StatedLine) (e : Draft) → Follows d texts ss e
    → Leaves d (statements_in ss) (stated_knows (length d.statements) ss) (stated_labels (length d.statements) ss) e
leaves d [] [] e h = subst (λ (e : Draft). Leaves d [] [] [] e) h (record {
  statements = sym (append-nil d.statements);
  knows = ap (λ l. d.knows ++ l) (sym (append-nil (know_line (length d.statements) d.know)));
  labels = no_labels d.labels;
  draft = λ is. is;
})
leaves d [] (s ∷ ss) e h = absurd h
leaves d (text ∷ texts) [] e h = absurd h
leaves d (text ∷ texts) (s ∷ ss) e h =
    let led = with_limit s.limit d in
    let start = with_label s.label led in
    let next = with_content s.content start in
    let count : length next.statements ≡ length led.statements + length (stated_in s.content) =
    count_after s.content start ∙ ap (λ n. n + length (stated_in s.content)) (label_keeps s.label led) in
    let place = length led.statements + length (stated_in s.content) in
    let rest = subst (λ (p : ℕ). Leaves next (statements_in ss) (stated_knows p ss) (stated_labels p ss) e) count
    (leaves next texts ss e h.4) in
    let content = content_step s.content start (statements_in ss) (stated_knows place ss) (stated_labels place ss) e
    (allowed_still s.label led s.content (allowed_led s.limit d s.content h.1)) rest in
    limit_step s.limit d (has_begun d) (stated_in s.content ++ statements_in ss)
    (λ p. stated_know p s.content ++ stated_knows (p + length (stated_in s.content)) ss)
    (λ p. label_in p s.label ++ stated_labels (p + length (stated_in s.content)) ss) e h.3
    (label_step s.label led (stated_in s.content ++ statements_in ss)
    (stated_know (length led.statements) s.content ++ stated_knows place ss) (stated_labels place ss) e (fresh_led s.limit d s.label h.2)
    (subst (λ (p : ℕ). Leaves start (stated_in s.content ++ statements_in ss) (stated_know p s.content ++ stated_knows place ss)
    (stated_labels place ss) e)
    (label_keeps s.label led) content))
