-- What is written of one place of an image is read as that place.
use Rattle.std.proofs.Common.{◌≡◌, ℕ, ◌+◌, ◌<◌, ◌≤◌, Bool, true, false, not, ◌&&◌, ◌==◌, cond, Option, Some, None, Ok, List, [], ◌∷◌, ◌++◌, length, get_or, take, refl, sym, ap, subst, ◌∙◌, append_assoc, inl, inr, arith}
use Rattle.std.specs.Prelude.{codes, nat_lt, nat_le, is_some, IfSome}
use Rattle.std.specs.List.{list_any, AllByRecursion}
use Rattle.std.specs.Ordering.{nat_cmp}
use Rattle.std.specs.Cmp.Lexicographic.{slice_cmp}
use Rattle.std.specs.BTreeMap.{insert_entry}
use Rattle.std.specs.Str.{bytes_eq}
use Rattle.std.specs.Str.Lines.{lines}
use Rattle.std.proofs.lemmas.Bool.{eqb-true, and_from}
use Rattle.std.proofs.lemmas.Bool.Decides.{nat_tests}
use Rattle.std.proofs.lemmas.List.{length_push, take_more}
use Rattle.bk_isa.specs.declared.form.Form.{Form}
use Rattle.bk_isa.specs.Fields.{fields_of}
use Rattle.bk_isa.specs.Words.{IsInRange}
use Rattle.bk_know.specs.declared.sets.Sets.{Sets}
use Rattle.bk_know.specs.Sets.{IsKnow}
use Rattle.bk_image.specs.Images.{Parts, Line, are_lines, known}
use Rattle.bk_image.specs.Spelling.{HasMask, IsImage}
use Rattle.bk_text.specs.LineWords.{LineWords}
use Rattle.bk_text.proofs.LineWords.{tested}
use Rattle.bk_asm.specs.Names.{Naming}
use Rattle.bk_asm.specs.Mnemonics.{operation_of}
use Rattle.bk_asm.specs.Programs.{Statement}
use Rattle.bk_asm.specs.Reading.{Draft, has_begun, nothing_read, row_at, place_of, parts, fresh_label, rest_at, labelled_at, line_at, with_label, with_know, know_line, with_statement, lines_at, forms_at, image_of, image_at}
use Rattle.bk_asm.specs.Writing.{goes_to, label_text, label_line, know_line_text, form_line, places_text}
use Rattle.bk_asm.proofs.Texts.{read_line, goes_on}
use Rattle.bk_asm.proofs.Sentences.{place_append, marked, row, word_alone, word_quiet, spaced_quiet, row_is, line_again}
use Rattle.bk_asm.proofs.Computed.{IsPlaceLabel, label_again}
use Rattle.bk_asm.proofs.OperandsAgain.{statement_of, form_words}
use Rattle.bk_asm.proofs.FormAgain.{form_bytes, form_is_words, form_bytes_are, form_read}
use Rattle.bk_asm.proofs.KnowAgain.{know_words, know_bytes, know_is_words, know_bytes_are, know_read}
use Rattle.bk_asm.proofs.LabelsAgain.{AreLabels, one_label, no_label, not_yet, IsOf, AreOf, same_length, one_of_more}

-- ---- the line of a label

-- the line of a label is one word
label_row : (p : ℕ) → IsPlaceLabel p → row_at (label_text p ++ codes ":")
    ≡ row (marked 1 (label_text p ++ codes ":") ∷ []) (length (label_text p ++ codes ":") + 1)
label_row p h =
    let w = label_text p ++ codes ":" in
    row_is w (word_quiet w h.defined) ∙ ap (λ l. row l (length w + 1)) (word_alone 1 w h.defined)

-- a label alone on its line, which no line defined before
labelled : (labels : List Naming) (full known : Bool) (line end : ℕ) (word name : List ℕ) → place_of labels name ≡ None
    → labelled_at labels full known line (marked 1 word) (row [] end) (Some name)
    ≡ Ok (record { limit = None; label = Some name; know = None; does = None })
unfolding labelled_at rest_at
labelled labels full known line end w name e = rw e refl

-- a line of one word, by the label that it is
line_of_word : (labels : List Naming) (begun full known : Bool) (line end : ℕ) (word : List ℕ) (o : Option (List ℕ))
    → bytes_eq word (codes "caches") ≡ false → Rattle.bk_asm.specs.Reading.label_of word ≡ o
    → line_at labels begun full known line (row (marked 1 word ∷ []) end) (marked 1 word ∷ [])
    ≡ labelled_at labels full known line (marked 1 word) (row [] end) o
unfolding line_at
line_of_word labels begun full known line end w o other e =
    rw other (ap (labelled_at labels full known line (marked 1 w) (row [] end)) e)

-- the line of a label is read as that label
label_line_read : (d : Draft) (p n : ℕ) → p < 256 → place_of d.labels (label_text p) ≡ None
    → read_line d n (label_text p ++ codes ":") ≡ Ok (record { limit = None; label = Some (label_text p); know = None; does = None })
label_line_read d p n lt none =
    let h = label_again p lt in
    let w = label_text p ++ codes ":" in
    let full = nat_le 256 (length d.statements) in
    ap (λ (r : LineWords). line_at d.labels (has_begun d) full (is_some d.know) n r r.words) (label_row p h)
    ∙ line_of_word d.labels (has_begun d) full (is_some d.know) n (length w + 1) w (Some (label_text p)) h.other h.read
    ∙ labelled d.labels full (is_some d.know) n (length w + 1) w (label_text p) none

-- ---- what was read up to a place

-- the limit that the text of an image gives: none where it is of version 1
abbrev pub own_limit : Parts → Option ℕ
own_limit x = cond (x.version == 1) None (Some x.limit)

-- the first instructions of an image were read, and all that belongs to them
pub record Stands (x : Parts) (p : ℕ) (front left : List Form) (back : List Line) (d : Draft) : Type 0 where
  pub limit : d.limit ≡ own_limit x
  pub forms : x.instrs ≡ front ++ left
  pub place : length front ≡ p
  pub statements : AreOf d.statements front
  pub knows : x.knows ≡ d.knows ++ back
  pub later : (q : ℕ) → p ≤ q → known x.knows q ≡ known back q
  pub up : are_lines (length x.instrs) p back ≡ true
  pub know : d.know ≡ None
  pub waits : d.waits ≡ false
  pub labels : AreLabels x.instrs p d.labels

-- a label, if there is one, changes what was read in nothing but the labels
record AfterLabel (x : Parts) (p n : ℕ) (d : Draft) (rest : List ℕ) : Type 0 where
  draft : Draft
  line : ℕ
  reads : lines_at d n (lines (label_line x.instrs p ++ rest)) ≡ lines_at draft line (lines rest)
  limit : draft.limit ≡ d.limit
  statements : draft.statements ≡ d.statements
  knows : draft.knows ≡ d.knows
  know : draft.know ≡ d.know
  labels : AreLabels x.instrs (p + 1) draft.labels

-- the line of a label, if some branch goes to the place
label_text_is : (forms : List Form) (p : ℕ) (b : Bool) → list_any (goes_to p) forms ≡ b
    → label_line forms p ≡ cond b (label_text p ++ codes ":\n") []
unfolding label_line
label_text_is forms p b e = ap (λ b. cond b (label_text p ++ codes ":\n") []) e

-- the line of a label is read
label_step : (x : Parts) (p n : ℕ) (front left : List Form) (back : List Line) (d : Draft) (rest : List ℕ) → p < 256
    → Stands x p front left back d
    → AfterLabel x p n d rest
label_step x p n front left back d rest lt h = elim (tested (list_any (goes_to p) x.instrs)) [
  | inl goes ↦
      let name = label_text p in
      let w = name ++ codes ":" in
      let text : label_line x.instrs p ++ rest
      ≡ (w ++ 10 ∷ []) ++ rest =
      ap (λ l. l ++ rest) (label_text_is x.instrs p true goes ∙ sym (append_assoc name (codes ":") (10 ∷ []))) in
      let none : place_of d.labels name ≡ None = h.labels p lt ∙ not_yet x.instrs p in
      let place : length d.statements ≡ p = same_length d.statements front h.statements ∙ h.place in
      record {
        draft = with_label (Some name) d;
        line = n + 1;
        reads = ap (λ t. lines_at d n (lines t)) text ∙ ap (lines_at d n) (line_again w rest (word_quiet w (label_again p lt).defined))
            ∙ goes_on d n w (lines rest) (record { limit = None; label = Some name; know = None; does = None })
            (label_line_read d p n lt none);
        limit = refl;
        statements = refl;
        knows = refl;
        know = refl;
        labels = subst (λ (number : ℕ). AreLabels x.instrs (p + 1) (insert_entry (slice_cmp nat_cmp) d.labels name number)) (sym place)
            (one_label x.instrs p d.labels lt goes h.labels);
      }
  | inr none ↦ record {
    draft = d;
    line = n;
    reads = ap (λ t. lines_at d n (lines (t ++ rest))) (label_text_is x.instrs p false none);
    limit = refl;
    statements = refl;
    knows = refl;
    know = refl;
    labels = no_label x.instrs p d.labels none h.labels;
  }
]

-- a know line, if there is one, waits for the instruction
know_step : (o : Option Sets) (d : Draft) (n : ℕ) (rest : List ℕ) → ((sets : Sets) → o ≡ Some sets → IsKnow sets)
    → d.know ≡ None
    → (line : ℕ) × (lines_at d n (lines (know_line_text o ++ rest)) ≡ lines_at (with_know o d) line (lines rest))
know_step None d n rest h none = (n, refl)
know_step (Some sets) d n rest h none =
    let mask = h sets refl in
    let full = nat_le 256 (length d.statements) in
    let quiet = spaced_quiet (know_words sets) (know_is_words sets mask) in
    let read : read_line d n (know_bytes sets) ≡ Ok (parts (Some sets) None) =
    ap (λ (o : Option Sets). line_at d.labels (has_begun d) full (is_some o) n (row_at (know_bytes sets))
    (row_at (know_bytes sets)).words) none
    ∙ know_read sets d.labels (has_begun d) full n mask in (
      n + 1,
      ap (λ t. lines_at d n (lines (t ++ rest))) (know_bytes_are sets) ∙ ap (lines_at d n) (line_again (know_bytes sets) rest quiet)
          ∙ goes_on d n (know_bytes sets) (lines rest) (parts (Some sets) None) read,
    )

-- an instruction
form_step : (f : Form) (d : Draft) (n : ℕ) (rest : List ℕ) → IsInRange f → length d.statements < 256
    → (statement : Statement) × (IsOf statement f)
    × (lines_at d n (lines (form_line f ++ rest)) ≡ lines_at (with_statement (Some statement) d) (n + 1) (lines rest))
form_step f d n rest range few =
    let r = form_read f d.labels (has_begun d) (is_some d.know) n range in
    let statement = statement_of n r.0 (operation_of f) (fields_of f) in
    let room : nat_le 256 (length d.statements) ≡ false = grind (arith, nat_tests, few) in
    let quiet = spaced_quiet (form_words f) (form_is_words f range) in
    let read : read_line d n (form_bytes f) ≡ Ok (parts None (Some statement)) =
    ap (λ full. line_at d.labels (has_begun d) full (is_some d.know) n (row_at (form_bytes f)) (row_at (form_bytes f)).words) room
    ∙ r.1 in (
      statement,
      (n, r.0, refl),
      ap (λ t. lines_at d n (lines (t ++ rest))) (form_bytes_are f range) ∙ ap (lines_at d n) (line_again (form_bytes f) rest quiet)
          ∙ goes_on d n (form_bytes f) (lines rest) (parts None (Some statement)) read,
    )

-- ---- know lines of a place

-- three tests that pass together
pub three_parts : (a b test : Bool) → a && b && test ≡ true → (a ≡ true) × (b ≡ true) × (test ≡ true)
three_parts true true true e = (refl, refl, refl)
three_parts true true false e = absurd cc
three_parts true false test e = absurd cc
three_parts false b test e = absurd cc

-- no know line stands before the least place
none_known : (count least p : ℕ) (ks : List Line) → are_lines count least ks ≡ true → p < least → known ks p ≡ None
none_known count least p [] e lt = refl
none_known count least p (k ∷ ks) e lt =
    let t = three_parts (nat_le least k.0) (nat_lt k.0 count) (are_lines count (k.0 + 1) ks) e in
    let high : p < k.0 = grind (arith, nat_tests, t.0) in
    let other : (k.0 == p) ≡ false = grind (arith, nat_tests, high) in
    ap (λ b. cond b (Some k.1) (known ks p)) other ∙ none_known count (k.0 + 1) p ks t.2 (omega arith)

-- the know line of a place, and those behind it
pub record Behind (count p : ℕ) (back : List Line) : Type 0 where
  pub more : List Line
  pub cut : back ≡ know_line p (known back p) ++ more
  pub up : are_lines count (p + 1) more ≡ true
  pub later : (q : ℕ) → p + 1 ≤ q → known back q ≡ known more q

-- the first know line is that of the place
line_here : (line : Line) (ks : List Line) (p : ℕ) (o : Option Sets) → line.0 ≡ p → o ≡ Some line.1
    → line ∷ ks ≡ know_line p o ++ ks
line_here line ks p o is e = rw e (ap (λ q. (q, line.1) ∷ ks) is)

-- the place has no know line
line_past : (ls : List Line) (p : ℕ) (o : Option Sets) → o ≡ None → ls ≡ know_line p o ++ ls
line_past ls p o e = rw e refl

-- the know lines are so cut
pub behind : (count p : ℕ) (back : List Line) → are_lines count p back ≡ true → Behind count p back
behind count p [] e = record { more = []; cut = refl; up = refl; later = λ q le. refl }
behind count p (k ∷ ks) e =
    let t = three_parts (nat_le p k.0) (nat_lt k.0 count) (are_lines count (k.0 + 1) ks) e in
    elim (tested (k.0 == p)) [
      | inl is ↦
          let same : k.0 ≡ p = eqb-true k.0 p is in
          record {
            more = ks;
            cut = line_here k ks p (known (k ∷ ks) p) same (ap (λ b. cond b (Some k.1) (known ks p)) is);
            up = ap (λ q. are_lines count (q + 1) ks) (sym same) ∙ t.2;
            later = λ q le. let other : (k.0 == q) ≡ false = grind (arith, nat_tests, le, same)
                in ap (λ b. cond b (Some k.1) (known ks q)) other;
          }
      | inr not ↦
          let high : p + 1 ≤ k.0 = grind (arith, nat_tests, t.0, not) in
          let none : known (k ∷ ks) p ≡ None = ap (λ b. cond b (Some k.1) (known ks p)) not
          ∙ none_known count (k.0 + 1) p ks t.2 (omega (arith, high)) in
          record {
            more = k ∷ ks;
            cut = line_past (k ∷ ks) p (known (k ∷ ks) p) none;
            up = and_from (nat_le (p + 1) k.0 && nat_lt k.0 count) (are_lines count (k.0 + 1) ks)
                (and_from (nat_le (p + 1) k.0) (nat_lt k.0 count) (grind (arith, nat_tests, high)) t.1) t.2;
            later = λ q le. refl;
          }
    ]

-- a know line of masks says what a mask says
mask_by : (b : Bool) (line : Line) (sets : Sets) (o : Option Sets) → HasMask line → (o ≡ Some sets → IsKnow sets)
    → cond b (Some line.1) o ≡ Some sets → IsKnow sets
mask_by true line sets o h more e = let same : line.1 ≡ sets = cc in subst (λ (q : Sets). IsKnow q) same h.know
mask_by false line sets o h more e = more e

-- what the know line of a place says is what a mask says
known_mask : (ks : List Line) (p : ℕ) (sets : Sets) → AllByRecursion HasMask ks → known ks p ≡ Some sets → IsKnow sets
known_mask [] p sets h e = absurd cc
known_mask (k ∷ ks) p sets h e = mask_by (k.0 == p) k sets (known ks p) h.0 (known_mask ks p sets h.1) e

-- one more instruction in range
ranges_append : (fs : List Form) (f : Form) → AllByRecursion IsInRange fs → IsInRange f → AllByRecursion IsInRange (fs ++ f ∷ [])
ranges_append [] f h one = (one, tt)
ranges_append (g ∷ fs) f h one = (h.0, ranges_append fs f h.1 one)

-- one more instruction is in range
pub ranges_more : (fs : List Form) (f : Form) (i : ℕ) → i < length fs → f ≡ get_or fs i f → AllByRecursion IsInRange (take i fs)
    → IsInRange f
    → AllByRecursion IsInRange (take (i + 1) fs)
ranges_more fs f i lt is h one =
    let grows : take (i + 1) fs ≡ take i fs ++ f ∷ [] = take_more fs i f lt
    ∙ ap (λ (other : Form). take i fs ++ other ∷ []) (sym is) in
    subst (λ (gs : List Form). AllByRecursion IsInRange gs) (sym grows) (ranges_append (take i fs) f h one)

-- the know lines of the first places are masks
abbrev pub AreMasks : List Line → ℕ → Type 0
AreMasks ks p = (q : ℕ) → q < p → IfSome (known ks q) (λ s. IsKnow s)

-- no place comes first
pub no_masks : (ks : List Line) → AreMasks ks 0
no_masks ks q lt = absurd (omega (arith, lt))

-- the know lines of one more place
pub one_mask : (ks : List Line) (p : ℕ) → AreMasks ks p → IfSome (known ks p) (λ s. IsKnow s) → AreMasks ks (p + 1)
one_mask ks p h one q lt = elim (tested (q == p)) [
  | inl is ↦ subst (λ (number : ℕ). IfSome (known ks number) (λ s. IsKnow s)) (sym (eqb-true q p is)) one
  | inr not ↦ h q (grind (arith, nat_tests, lt, not))
]

-- what a know line says is what a mask says
mask_at : (o : Option Sets) (sets : Sets) → o ≡ Some sets → IfSome o (λ sets. IsKnow sets) → IsKnow sets
mask_at o sets e h = (rw e at h)

-- the same by what a place has
mask_if : (o p : Option Sets) → o ≡ p → IfSome o (λ s. IsKnow s) → IfSome p (λ s. IsKnow s)
mask_if o p e h = (rw e at h)

-- the know lines of all places are all know lines
all_masks : (count least : ℕ) (ks : List Line) → are_lines count least ks ≡ true → AreMasks ks count → AllByRecursion HasMask ks
all_masks count least [] up h = tt
all_masks count least (k ∷ ks) up h =
    let t = three_parts (nat_le least k.0) (nat_lt k.0 count) (are_lines count (k.0 + 1) ks) up in
    let lt : k.0 < count = grind (arith, nat_tests, t.1) in
    let here : (k.0 == k.0) ≡ true = grind (arith, nat_tests) in
    let first : IsKnow k.1 = mask_at (known (k ∷ ks) k.0) k.1 (ap (λ b. cond b (Some k.1) (known ks k.0)) here) (h k.0 lt) in (
      record { know = first },
      all_masks count (k.0 + 1) ks t.2 (λ q small. elim (tested (nat_lt k.0 q)) [
        | inl high ↦
            let other : (k.0 == q) ≡ false = grind (arith, nat_tests, high) in
            mask_if (known (k ∷ ks) q) (known ks q) (ap (λ b. cond b (Some k.1) (known ks q)) other) (h q small)
        | inr low ↦ mask_if None (known ks q) (sym (none_known count (k.0 + 1) q ks t.2 (grind (arith, nat_tests, low)))) tt
      ]),
    )

-- all know lines of an image
pub masks_of : (count : ℕ) (ks : List Line) → are_lines count 0 ks ≡ true → AreMasks ks count → AllByRecursion HasMask ks
masks_of count ks up h = all_masks count 0 ks up h

-- ---- a place

-- what stands at a place was read
pub record NextPlace (x : Parts) (p n : ℕ) (front left : List Form) (f : Form) (d : Draft) : Type 0 where
  pub draft : Draft
  pub line : ℕ
  pub back : List Line
  pub reads : lines_at d n (lines (places_text x p (f ∷ left))) ≡ lines_at draft line (lines (places_text x (p + 1) left))
  pub stands : Stands x (p + 1) (front ++ f ∷ []) left back draft

-- know lines, of which one more was read
knows_kept : (ks front : List Line) (back more : List Line) (line : List Line) → ks ≡ front ++ back → back ≡ line ++ more
    → ks ≡ (front ++ line) ++ more
knows_kept ks front back more line e f = e ∙ ap (λ l. front ++ l) f ∙ sym (append_assoc front line more)

-- a know line changes what was read in nothing but what waits
record KnowKept (o : Option Sets) (d : Draft) : Type 0 where
  limit : (with_know o d).limit ≡ d.limit
  statements : (with_know o d).statements ≡ d.statements
  knows : (with_know o d).knows ≡ d.knows
  know : (with_know o d).know ≡ o
  labels : (with_know o d).labels ≡ d.labels

-- so it is of each know line
know_kept : (o : Option Sets) (d : Draft) → d.know ≡ None → KnowKept o d
know_kept None d none = record { limit = refl; statements = refl; knows = refl; know = none; labels = refl }
know_kept (Some s) d none = record { limit = refl; statements = refl; knows = refl; know = refl; labels = refl }

-- know lines by their parts
knows_same : (ks ks' more : List Line) (a b : ℕ) (o o' : Option Sets) → ks' ≡ ks → b ≡ a → o' ≡ o
    → (ks ++ know_line a o) ++ more ≡ (ks' ++ know_line b o') ++ more
knows_same ks ks' more a b o o' e f g = rw (e, f, g) refl

-- one more instruction, with its know line and its label
stands_next : (x : Parts) (p : ℕ) (front left : List Form) (f : Form) (back : List Line) (d two : Draft) (statement : Statement)
    → (h : Stands x p front (f ∷ left) back d)
    → two.limit ≡ d.limit → two.statements ≡ d.statements → two.knows ≡ d.knows → two.know ≡ known x.knows p
    → AreLabels x.instrs (p + 1) two.labels
    → IsOf statement f
    → (b : Behind (length x.instrs) p back)
    → Stands x (p + 1) (front ++ f ∷ []) left b.more (with_statement (Some statement) two)
stands_next x p front left f back d two statement h limit statements knows know labels one b =
    let place : length two.statements ≡ p = ap length statements ∙ same_length d.statements front h.statements ∙ h.place in
    let waited : two.know ≡ known back p = know ∙ h.later p (omega arith) in
    record {
      limit = limit ∙ h.limit;
      forms = h.forms ∙ sym (append_assoc front (f ∷ []) left);
      place = length_push front f ∙ ap (λ k. k + 1) h.place;
      statements = subst (λ (ss : List Statement). AreOf (ss ++ statement ∷ []) (front ++ f ∷ [])) (sym statements)
          (one_of_more d.statements front statement f h.statements one);
      knows = knows_kept x.knows d.knows back b.more (know_line p (known back p)) h.knows b.cut
          ∙ knows_same d.knows two.knows b.more p (length two.statements) (known back p) two.know knows place waited;
      later = λ q le. h.later q (omega (arith, le)) ∙ b.later q le;
      up = b.up;
      know = refl;
      waits = refl;
      labels = labels;
    }

-- what stands at a place is read
pub place_step : (x : Parts) (p n : ℕ) (front left : List Form) (f : Form) (back : List Line) (d : Draft) → IsImage x
    → IsInRange f → p < 256
    → Stands x p front (f ∷ left) back d → NextPlace x p n front left f d
place_step x p n front left f back d image range lt h =
    let rest = places_text x (p + 1) left in
    let o = known x.knows p in
    let tail = know_line_text o ++ (form_line f ++ rest) in
    let text : places_text x p (f ∷ left)
    ≡ label_line x.instrs p ++ tail = place_append (label_line x.instrs p) (know_line_text o) (form_line f) rest in
    let l = label_step x p n front (f ∷ left) back d tail lt h in
    let one = l.draft in
    let none = l.know ∙ h.know in
    let number = know_step o one l.line (form_line f ++ rest) (λ s e. known_mask x.knows p s image.masks e) none in
    let two = with_know o one in
    let kept = know_kept o one none in
    let statements : two.statements ≡ d.statements = kept.statements ∙ l.statements in
    let place : length two.statements ≡ p = ap length statements ∙ same_length d.statements front h.statements ∙ h.place in
    let few : length two.statements < 256 = subst (λ (number : ℕ). number < 256) (sym place) lt in
    let s = form_step f two number.0 rest range few in
    let b = behind (length x.instrs) p back h.up in
    record {
      draft = with_statement (Some s.0) two;
      line = number.0 + 1;
      back = b.more;
      reads = (ap (λ t. lines_at d n (lines t)) text ∙ l.reads) ∙ (number.1 ∙ s.2);
      stands = stands_next x p front left f back d two s.0 h (kept.limit ∙ l.limit) statements (kept.knows ∙ l.knows) kept.know
          (subst (λ (ls : List Naming). AreLabels x.instrs (p + 1) ls) (sym kept.labels) l.labels) s.1 b;
    }
