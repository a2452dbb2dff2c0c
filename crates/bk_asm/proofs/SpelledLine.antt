-- What is read of a line is what its words spell.
use Rattle.std.proofs.Common.{◌≡◌, ℕ, suc, ◌-◌, ◌==◌, ◌&&◌, Bool, true, false, cond, Option, Some, None, Ok}
use Rattle.std.proofs.Common.{Err, List, [], ◌∷◌, ◌++◌, length, map, take, drop, get_or, drop-cons, take-append-drop}
use Rattle.std.proofs.Common.{refl, sym, ap, subst, ◌∙◌, arith}
use Rattle.std.specs.Prelude.{codes, is_some, nat_le, ◌≤◌, option_and_then}
use Rattle.std.specs.Str.{bytes_eq}
use Rattle.std.proofs.lemmas.Bool.{eqb-true, and_parts}
use Rattle.std.proofs.lemmas.Bool.Decides.{nat_tests}
use Rattle.std.proofs.lemmas.List.{drop_all}
use Rattle.std.proofs.lemmas.Slice.Eq.{bytes_eq-Decides}
use Rattle.bk_know.specs.declared.sets.Sets.{Sets}
use Rattle.bk_text.specs.LineWords.{Marked, LineWords}
use Rattle.bk_text.proofs.Laws.{bytes_of}
use Rattle.bk_text.specs.Faults.{at, ◌>>=◌}
use Rattle.bk_text.specs.Texts.{number_of}
use Rattle.bk_asm.specs.declared.fault.Kind.TheVariants as kinds
use Rattle.bk_asm.specs.Names.{Naming}
use Rattle.bk_asm.specs.Programs.{Statement, LineParts}
use Rattle.bk_asm.specs.Reading.{is_label, label_of, parts, place_of, know_at, mnemonic_at, operands_at, content_at}
use Rattle.bk_asm.specs.Reading.{rest_at, fresh_label, labelled_at, limit_of, limit_in, caches_at, done, line_at}
use Rattle.bk_asm.specs.Spelled.{SpellsKnow, SpellsLimit}
use Rattle.bk_asm.proofs.SpelledForms.{SpellsStatement, mnemonic_next, operands_next, done_is}
use Rattle.bk_asm.proofs.SpelledKnow.{know_spelled}
use Rattle.bk_asm.proofs.SpelledWords.{bound, ok_is, if_true, words_in}

-- what a line says behind its label, where a target is still a label
pub data Stated : Type 0 where
  Empty : Stated
  Mask : (sets : Sets) → Stated
  Does : (statement : Statement) → Stated

pub record StatedLine : Type 0 where
  pub limit : Option ℕ
  pub label : Option (List ℕ)
  pub content : Stated

abbrev pub know_of : Stated → Option Sets
know_of Empty = None
know_of (Mask sets) = Some sets
know_of (Does s) = None

abbrev pub does_of : Stated → Option Statement
does_of Empty = None
does_of (Mask sets) = None
does_of (Does s) = Some s

abbrev pub line_parts : Option ℕ → Option (List ℕ) → Stated → LineParts
line_parts limit label c = record { limit = limit; label = label; know = know_of c; does = does_of c }

abbrev pub SpellsStated : List (List ℕ) → Stated → Type 0
SpellsStated words Empty = words ≡ []
SpellsStated words (Mask sets) = SpellsKnow words sets
SpellsStated words (Does s) = SpellsStatement words s

abbrev pub SpellsStatedLabel : List (List ℕ) → Option (List ℕ) → Stated → Type 0
SpellsStatedLabel words None c = SpellsStated words c
SpellsStatedLabel [] (Some name) c = ⊥
SpellsStatedLabel (word ∷ words) (Some name) c = (word ≡ name ++ codes ":") × (is_label name ≡ true) × SpellsStated words c

abbrev pub SpellsStatedLine : List (List ℕ) → Option ℕ → Option (List ℕ) → Stated → Type 0
SpellsStatedLine words None label c = SpellsStatedLabel words label c
SpellsStatedLine words (Some limit) label c = SpellsLimit words limit × (label ≡ None) × (c ≡ Empty)

-- no know line comes where one waits, and no instruction where the image is full
abbrev pub IsAllowed : Bool → Bool → Stated → Type 0
IsAllowed full known Empty = Unit {0}
IsAllowed full known (Mask sets) = known ≡ false
IsAllowed full known (Does s) = full ≡ false

-- a limit is from 1 to 16, and comes only before all else
abbrev pub IsFirst : Bool → Option ℕ → Type 0
IsFirst begun None = Unit {0}
IsFirst begun (Some limit) = (begun ≡ false) × (1 ≤ limit) × (limit ≤ 16)

-- no label is one of those before
abbrev pub IsFresh : List Naming → Option (List ℕ) → Type 0
IsFresh labels None = Unit {0}
IsFresh labels (Some name) = place_of labels name ≡ None

record HasContent (full known : Bool) (words : List (List ℕ)) (p : LineParts) : Type 0 where
  content : Stated
  is : p ≡ line_parts None None content
  spelled : SpellsStated words content
  allowed : IsAllowed full known content

-- The first word is `know` or a mnemonic, and the reader goes on by that: the one branch gives the sets of a know line, the other an
-- instruction.
content_by : (b full known : Bool) (line : ℕ) (marked : Marked) (row : LineWords) (p : LineParts)
    → bytes_eq marked.word (codes "know") ≡ b
    → cond b (cond known (Err (at marked.column kinds.Know)) (know_at row >>= λ sets. Ok (parts (Some sets) None)))
    (mnemonic_at full marked row >>= λ o. operands_at line o.0 o.1 >>= λ statement. Ok (parts None (Some statement))) ≡ Ok p
    → HasContent full known (marked.word ∷ words_in row) p
content_by true full true line marked row p is e = absurd cc
content_by true full false line marked row p is e =
    let one = bound (know_at row) (λ sets. Ok (parts (Some sets) None)) p e in
    record {
      content = Mask one.0;
      is = sym (ok_is (parts (Some one.0) None) p one.2);
      spelled = know_spelled marked row one.0 is one.1;
      allowed = refl;
    }
content_by false full known line marked row p is e =
    let one = bound (mnemonic_at full marked row) (λ o. operands_at line o.0 o.1 >>= λ statement. Ok (parts None (Some statement))) p e in
    let two = bound (operands_at line one.0.0 one.0.1) (λ statement. Ok (parts None (Some statement))) p one.2 in
    let m = mnemonic_next full marked row one.0 one.1 in
    record {
      content = Does two.0;
      is = sym (ok_is (parts None (Some two.0)) p two.2);
      spelled = operands_next line one.0.0 one.0.1 (marked.word ∷ words_in row) two.0 m.0 two.1;
      allowed = m.1;
    }

content_spelled : (full known : Bool) (line : ℕ) (marked : Marked) (row : LineWords) (p : LineParts)
    → content_at full known line marked row ≡ Ok p
    → HasContent full known (marked.word ∷ words_in row) p
unfolding content_at
content_spelled full known line w row p e = content_by (bytes_eq w.word (codes "know")) full known line w row p refl e

-- what stands behind a label
rest_spelled : (full known : Bool) (line : ℕ) (row : LineWords) (ws : List Marked) (p : LineParts)
    → rest_at full known line row ws ≡ Ok p
    → HasContent full known (map bytes_of ws) p
unfolding rest_at
rest_spelled full known line row [] p e = record {
  content = Empty;
  is = sym
      (done_is row.words row.bad (parts None None) p e).1;
  spelled = refl;
  allowed = tt;
}
rest_spelled full known line row (w ∷ ws) p e = content_spelled full known line w (record row { words = ws }) p e

-- a label's word is its name and `:`
label_is : (word name : List ℕ) → label_of word ≡ Some name → (word ≡ name ++ codes ":") × (is_label name ≡ true)
label_is [] name e = absurd cc
label_is (c ∷ bytes) name e =
    let word = c ∷ bytes in
    let n = length word - 1 in
    let t = if_true (get_or word n 0 == 58 && is_label (take n word)) (take n word) name e in
    let b = and_parts (get_or word n 0 == 58) (is_label (take n word)) t.0 in
    let last : drop n word ≡ 58 ∷ [] = drop-cons word n 0 (omega arith)
    ∙ ap (λ b. b ∷ drop (suc n) word) (eqb-true (get_or word n 0) 58 b.0)
    ∙ ap (λ l. 58 ∷ l) (drop_all (suc n) word (omega arith)) in (
      sym (take-append-drop n word) ∙ ap (λ l. take n word ++ l) last ∙ ap (λ name. name ++ codes ":") t.1,
      subst (λ (name : List ℕ). is_label name ≡ true) t.1 b.1,
    )

pub record HasLine (labels : List Naming) (begun full known : Bool) (words : List (List ℕ)) (p : LineParts) : Type 0 where
  pub limit : Option ℕ
  pub label : Option (List ℕ)
  pub content : Stated
  pub is : p ≡ line_parts limit label content
  pub spelled : SpellsStatedLine words limit label content
  pub first : IsFirst begun limit
  pub allowed : IsAllowed full known content
  pub fresh : IsFresh labels label

fresh_by : (o : Option ℕ) (marked : Marked) (name label : List ℕ)
    → cond (is_some o) (Err (at marked.column kinds.LabelTwice)) (Ok name) ≡ Ok label → (o ≡ None) × (name ≡ label)
fresh_by None marked name label e = (refl, ok_is name label e)
fresh_by (Some n) marked name label e = absurd cc

-- a line by its first word: a label and what stands behind it, or all that a line may say but a label
labelled_spelled : (labels : List Naming) (begun full known : Bool) (line : ℕ) (marked : Marked) (row : LineWords) (o : Option (List ℕ))
    (p : LineParts) → label_of marked.word ≡ o
    → labelled_at labels full known line marked row o ≡ Ok p → HasLine labels begun full known (marked.word ∷ words_in row) p
unfolding labelled_at
labelled_spelled labels begun full known line w row None p is e =
    let c = content_spelled full known line w row p e in
    record {
      limit = None;
      label = None;
      content = c.content;
      is = c.is;
      spelled = c.spelled;
      first = tt;
      allowed = c.allowed;
      fresh = tt;
    }
labelled_spelled labels begun full known line w row (Some name) p is e =
    let one = bound (fresh_label labels w name) (λ label. rest_at full known line row row.words
    >>= λ content. Ok (record content { label = Some label })) p e in
    let two = bound (rest_at full known line row row.words) (λ content. Ok (record content { label = Some one.0 })) p one.2 in
    let new = fresh_by (place_of labels name) w name one.0 one.1 in
    let c = rest_spelled full known line row row.words two.0 two.1 in
    let word = label_is w.word name is in
    record {
      limit = None;
      label = Some name;
      content = c.content;
      is = sym (ok_is (record two.0 { label = Some one.0 }) p two.2) ∙ ap (λ (q : LineParts). record q { label = Some one.0 }) c.is
          ∙ ap (λ n. line_parts None (Some n) c.content) (sym new.1);
      spelled = (word.0, word.1, c.spelled);
      first = tt;
      allowed = c.allowed;
      fresh = new.0;
    }

in_range : (n limit : ℕ) → (nat_le 1 n && nat_le n 16) ≡ true → n ≡ limit → (1 ≤ limit) × (limit ≤ 16)
in_range n limit e is = (grind (arith, nat_tests), grind (arith, nat_tests))

-- the word names the limit, which is in its range
limit_named : (word : List ℕ) (o : Option ℕ) (limit : ℕ) → number_of word ≡ o
    → option_and_then (λ n. cond (nat_le 1 n && nat_le n 16) (Some n) None) o ≡ Some limit
    → (number_of word ≡ Some limit) × (1 ≤ limit) × (limit ≤ 16)
limit_named word None limit is e = absurd cc
limit_named word (Some n) limit is e =
    let one = if_true (nat_le 1 n && nat_le n 16) n limit e in
    let range = in_range n limit one.0 one.1 in
    (is ∙ ap Some one.1, range.0, range.1)

no_limit : (column : ℕ) (o : Option ℕ) (limit : ℕ) → limit_in column o ≡ Ok limit → o ≡ Some limit
no_limit column None limit e = absurd cc
no_limit column (Some n) limit e = ap Some (ok_is n limit e)

not_begun : (begun : Bool) (o : Option ℕ) (limit : ℕ) → cond begun None o ≡ Some limit → (begun ≡ false) × (o ≡ Some limit)
not_begun true o limit e = absurd cc
not_begun false o limit e = (refl, e)

-- a line that gives a limit
caches_spelled : (labels : List Naming) (begun full known : Bool) (column : ℕ) (row : LineWords) (word : List ℕ) (ws : List Marked)
    (p : LineParts) → bytes_eq word (codes "caches") ≡ true
    → caches_at begun column row ws ≡ Ok p → HasLine labels begun full known (word ∷ map bytes_of ws) p
unfolding caches_at limit_of
caches_spelled labels begun full known column row word [] p is e = absurd cc
caches_spelled labels begun full known column row word (w ∷ ws) p is e =
    let limited : ℕ → LineParts = λ limit. record { limit = Some limit; label = None; know = None; does = None } in
    let one = bound (limit_in column (cond begun None (limit_of w.word)))
    (λ limit. done (record row { words = ws }) (limited limit)) p e in
    let first = not_begun begun (limit_of w.word) one.0 (no_limit column _ one.0 one.1) in
    let named = limit_named w.word (number_of w.word) one.0 refl first.1 in
    let last = done_is ws row.bad (limited one.0) p one.2 in
    record {
      limit = Some one.0;
      label = None;
      content = Empty;
      is = sym last.1;
      spelled = (
        record {
          number = w.word;
          words-are = ap (λ name. name ∷ w.word ∷ map bytes_of ws) ((bytes_eq-Decides word (codes "caches")).0 is)
              ∙ ap (λ (more : List (List ℕ)). codes "caches" ∷ w.word ∷ more) last.0;
          named = named.0;
        },
        refl,
        refl,
      );
      first = (first.0, named.1, named.2);
      allowed = tt;
      fresh = tt;
    }

-- a line by its first word: `caches`, or another
by_first : (labels : List Naming) (begun full known test : Bool) (line : ℕ) (row : LineWords) (marked : Marked) (ws : List Marked)
    (p : LineParts) → bytes_eq marked.word (codes "caches") ≡ test
    → cond test (caches_at begun marked.column (record row { words = ws }) ws)
    (labelled_at labels full known line marked (record row { words = ws }) (label_of marked.word)) ≡ Ok p
    → HasLine labels begun full known (marked.word ∷ map bytes_of ws) p
by_first labels begun full known true line row w ws p is e =
    caches_spelled labels begun full known w.column (record row { words = ws }) w.word ws p is e
by_first labels begun full known false line row w ws p is e =
    labelled_spelled labels begun full known line w (record row { words = ws }) (label_of w.word) p refl e

pub line_spelled : (labels : List Naming) (begun full known : Bool) (line : ℕ) (row : LineWords) (ws : List Marked) (p : LineParts)
    → line_at labels begun full known line row ws ≡ Ok p → HasLine labels begun full known (map bytes_of ws) p
unfolding line_at
line_spelled labels begun full known line row [] p e =
    record {
      limit = None;
      label = None;
      content = Empty;
      is = sym
          (done_is row.words row.bad (parts None None) p e).1;
      spelled = refl;
      first = tt;
      allowed = tt;
      fresh = tt;
    }
line_spelled labels begun full known line row (w ∷ ws) p e =
    by_first labels begun full known (bytes_eq w.word (codes "caches")) line row w ws p refl e
