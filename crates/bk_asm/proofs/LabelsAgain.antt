-- The labels of a canonical text, and where its branches go.
use Rattle.std.proofs.Common.{◌≡◌, ℕ, suc, ◌+◌, ◌<◌, Bool, true, false, not, ◌&&◌, ◌||◌, ◌==◌, cond, Option, Some, None, Result, Ok, Err, List, [], ◌∷◌, ◌++◌, length, refl, sym, ap, subst, ◌∙◌, append_assoc, inl, inr, arith}
use Rattle.std.specs.Prelude.{nat_lt}
use Rattle.std.specs.List.{list_all, list_any, AllByRecursion}
use Rattle.std.specs.declared.cmp.Ordering.{Ordering}
use Rattle.std.specs.declared.cmp.Ordering.TheVariants.{Less, Equal, Greater}
use Rattle.std.specs.Ordering.{nat_cmp, match_ordering, is_eq}
use Rattle.std.specs.Cmp.Lexicographic.{slice_cmp}
use Rattle.std.specs.BTreeMap.{insert_entry}
use Rattle.std.specs.Str.{bytes_eq}
use Rattle.std.proofs.lemmas.Bool.{eqb-true}
use Rattle.std.proofs.lemmas.Bool.Decides.{nat_tests}
use Rattle.std.proofs.lemmas.Map.Text.{is_eq-slice_cmp}
use Rattle.std.proofs.lemmas.Slice.Eq.{bytes_eq-Decides}
use Rattle.bk_isa.specs.declared.form.Form.{Form}
use Rattle.bk_isa.specs.Fields.{fields_of, form_of, fields_with}
use Rattle.bk_isa.specs.Words.{IsInRange}
use Rattle.bk_isa.proofs.Forms.{form_of-fields_of}
use Rattle.bk_text.specs.Faults.{◌>>=◌, Bad}
use Rattle.bk_text.proofs.LineWords.{tested}
use Rattle.bk_asm.specs.declared.slots.Last.{Last}
use Rattle.bk_asm.specs.declared.slots.Last.TheVariants as lasts
use Rattle.bk_asm.specs.Again.{goes_inside}
use Rattle.bk_asm.specs.Names.{Naming}
use Rattle.bk_asm.specs.Operations.{slots_of, opcode}
use Rattle.bk_asm.specs.Mnemonics.{operation_of}
use Rattle.bk_asm.specs.Programs.{Statement, form_with}
use Rattle.bk_asm.specs.Ranges.{is_target, last_ok}
use Rattle.bk_asm.specs.Reading.{place_of, on_line, defined_at, form_at, forms_at}
use Rattle.bk_asm.specs.Writing.{goes_to, label_text}
use Rattle.bk_asm.proofs.Computed.{same_place}
use Rattle.bk_asm.proofs.Fitting.{fits, code_is}
use Rattle.bk_asm.proofs.OperandsAgain.{imm_of, use_of, statement_of}

-- ---- a label more

-- bytes are equal to themselves
equal_bytes : (a : List ℕ) → bytes_eq a a ≡ true
equal_bytes a = (bytes_eq-Decides a a).1 refl

-- a test that is made twice
once_or_again : (b : Bool) (x y z : Option ℕ) → cond b x z ≡ cond b x (cond b y z)
once_or_again true x y z = refl
once_or_again false x y z = refl

-- two tests, of which one passes at most
either_first : (a b : Bool) (x y z : Option ℕ) → (a ≡ true → b ≡ false) → cond a x (cond b y z) ≡ cond b y (cond a x z)
either_first true b x y z h = rw (h refl) refl
either_first false b x y z h = refl

-- a name is not two names
other_name : (q name other : List ℕ) → bytes_eq name other ≡ false → bytes_eq q other ≡ true → bytes_eq q name ≡ false
other_name q name other differs is = elim (tested (bytes_eq q name)) [
  | inl same ↦
      let e : name ≡ other = sym ((bytes_eq-Decides q name).0 same) ∙ (bytes_eq-Decides q other).0 is in
      let yes : bytes_eq name other ≡ true = (bytes_eq-Decides name other).1 e in
      absurd cc
  | inr e ↦ e
]

-- the same for one more label, by where it goes
inserted_by : (o : Ordering) (q : List ℕ) (l : Naming) (name : List ℕ) (v : ℕ) (labels more : List Naming)
    → is_eq o ≡ bytes_eq name l.0
    → place_of more q ≡ cond (bytes_eq q name) (Some v) (place_of labels q)
    → place_of (match_ordering o ((name, v) ∷ l ∷ labels) ((l.0, v) ∷ labels) (l ∷ more)) q
    ≡ cond (bytes_eq q name) (Some v) (place_of (l ∷ labels) q)
inserted_by Less q l name v labels more is e = refl
inserted_by Equal q l name v labels more is e =
    let same : name ≡ l.0 = (bytes_eq-Decides name l.0).0 (sym is) in
    once_or_again (bytes_eq q l.0) (Some v) (Some l.1) (place_of labels q)
    ∙ ap (λ n. cond (bytes_eq q n) (Some v) (place_of (l ∷ labels) q)) (sym same)
inserted_by Greater q l name v labels more is e =
    ap (cond (bytes_eq q l.0) (Some l.1)) e
    ∙ either_first (bytes_eq q l.0) (bytes_eq q name) (Some l.1) (Some v) (place_of labels q) (other_name q name l.0 (sym is))

-- the place of a name among labels, of which one was added
pub place_inserted : (q : List ℕ) (labels : List Naming) (name : List ℕ) (v : ℕ)
    → place_of (insert_entry (slice_cmp nat_cmp) labels name v) q ≡ cond (bytes_eq q name) (Some v) (place_of labels q)
place_inserted q [] name v = refl
place_inserted q (l ∷ labels) name v =
    inserted_by (slice_cmp nat_cmp name l.0) q l name v labels (insert_entry (slice_cmp nat_cmp) labels name v)
    (is_eq-slice_cmp name l.0) (place_inserted q labels name v)

-- the place of a label among those of the first places that branches go to
abbrev pub found : List Form → ℕ → ℕ → Option ℕ
found forms bound q = cond (nat_lt q bound && list_any (goes_to q) forms) (Some q) None

-- the labels are those of the first places that branches go to
abbrev pub AreLabels : List Form → ℕ → List Naming → Type 0
AreLabels forms bound labels = (q : ℕ) → q < 256 → place_of labels (label_text q) ≡ found forms bound q

-- the place itself is found
found_by : (goes : Bool) (p q : ℕ) → q ≡ p → goes ≡ true → Some p ≡ cond (nat_lt q (p + 1) && goes) (Some q) None
found_by goes p q same e = rw (e, same) (grind (arith, nat_tests))

-- another place is found as before
found_as : (goes : Bool) (p q : ℕ) → (q ≡ p → goes ≡ false) → cond (nat_lt q p && goes) (Some q) None
    ≡ cond (nat_lt q (p + 1) && goes) (Some q) None
found_as true p q h = elim (tested (q == p)) [
  | inl is ↦ let no : true ≡ false = h (eqb-true q p is) in absurd cc
  | inr not ↦ grind (arith, nat_tests, not)
]
found_as false p q h = grind (arith, nat_tests)

-- one more place that a branch goes to
pub one_label : (forms : List Form) (p : ℕ) (labels : List Naming) → p < 256 → list_any (goes_to p) forms ≡ true
    → AreLabels forms p labels
    → AreLabels forms (p + 1) (insert_entry (slice_cmp nat_cmp) labels (label_text p) p)
one_label forms p labels lt goes h q small =
    place_inserted (label_text q) labels (label_text p) p
    ∙ elim (tested (bytes_eq (label_text q) (label_text p))) [
      | inl is ↦
          let same : q ≡ p = same_place q p small lt ((bytes_eq-Decides (label_text q) (label_text p)).0 is) in
          ap (λ b. cond b (Some p) (place_of labels (label_text q))) is
          ∙ found_by (list_any (goes_to q) forms) p q same (ap (λ k. list_any (goes_to k) forms) same ∙ goes)
      | inr not ↦
          ap (λ b. cond b (Some p) (place_of labels (label_text q))) not ∙ h q small
          ∙ found_as (list_any (goes_to q) forms) p q (λ same.
          let yes : bytes_eq (label_text q) (label_text p) ≡ true =
          (bytes_eq-Decides (label_text q) (label_text p)).1 (ap label_text same) in
          absurd cc)
    ]

-- one more place that no branch goes to
pub no_label : (forms : List Form) (p : ℕ) (labels : List Naming) → list_any (goes_to p) forms ≡ false → AreLabels forms p labels
    → AreLabels forms (p + 1) labels
no_label forms p labels none h q small = h q small
    ∙ found_as (list_any (goes_to q) forms) p q (λ same. ap (λ k. list_any (goes_to k) forms) same ∙ none)

-- no label of the place itself was read before it
pub not_yet : (forms : List Form) (p : ℕ) → found forms p p ≡ None
not_yet forms p = grind (arith, nat_tests)

-- ---- where branches go

-- an instruction of a text is a form, but for the place of its label
abbrev pub IsOf : Statement → Form → Type 0
IsOf statement f = (line : ℕ) × (column : ℕ) × (statement ≡ statement_of line column (operation_of f) (fields_of f))

-- the same for lists
abbrev pub AreOf : List Statement → List Form → Type 0
AreOf [] [] = Unit {0}
AreOf (s ∷ ss) (f ∷ fs) = IsOf s f × AreOf ss fs
AreOf ss fs = ⊥

-- there are as many instructions as forms
pub same_length : (ss : List Statement) (fs : List Form) → AreOf ss fs → length ss ≡ length fs
same_length [] [] h = refl
same_length (s ∷ ss) (f ∷ fs) h = ap suc (same_length ss fs h.1)
same_length [] (f ∷ fs) h = absurd h
same_length (s ∷ ss) [] h = absurd h

-- one more instruction and form
pub one_of_more : (ss : List Statement) (fs : List Form) (statement : Statement) (f : Form) → AreOf ss fs → IsOf statement f
    → AreOf (ss ++ statement ∷ []) (fs ++ f ∷ [])
one_of_more [] [] statement f h one = (one, tt)
one_of_more (t ∷ ss) (g ∷ fs) statement f h one = (h.0, one_of_more ss fs statement f h.1 one)
one_of_more [] (g ∷ fs) statement f h one = absurd h
one_of_more (t ∷ ss) [] statement f h one = absurd h

-- a label that is defined gives the form; else the fault is of kind 26
abbrev pub IsResolved : {X : Type 0} → Bool → X → Result X Bad → Type 0
IsResolved true x r = r ≡ Ok x
IsResolved false x r = (line : ℕ) × (column : ℕ) × (r ≡ Err (record { line = line; column = column; kind = 26 }))

-- a use of a label, by whether its place is one of those that were found
found_inside : (inside goes : Bool) (n : ℕ) (o : Option ℕ) (line column : ℕ) (statement : Statement) → goes ≡ true
    → o ≡ cond (inside && goes) (Some n) None
    → IsResolved inside (form_with statement n) (on_line line (defined_at column o) >>= λ place. Ok (form_with statement place))
found_inside true goes n o line column statement e is = rw (is, e) refl
found_inside false goes n o line column statement e is = (line, column, rw is refl)

-- the target of an instruction, by its last operand
resolved_by : (l : Last) (labels : List Naming) (forms : List Form) (count line column n : ℕ) (statement : Statement)
    → statement.imm ≡ imm_of l n
    → last_ok l n ≡ true
    → (is_target l ≡ true → list_any (goes_to n) forms ≡ true) → AreLabels forms count labels
    → IsResolved (not (is_target l) || nat_lt n count) (form_with statement n) (form_at labels statement (use_of l line column n))
resolved_by lasts.Nothing labels forms count line column n statement e ok goes h = ap (λ k. Ok (form_with statement k)) e
resolved_by lasts.Shift labels forms count line column n statement e ok goes h = ap (λ k. Ok (form_with statement k)) e
resolved_by lasts.Number labels forms count line column n statement e ok goes h = ap (λ k. Ok (form_with statement k)) e
resolved_by lasts.Target labels forms count line column n statement e ok goes h =
    found_inside (nat_lt n count) (list_any (goes_to n) forms) n (place_of labels (label_text n)) line column statement (goes refl)
    (h n (grind (arith, nat_tests, ok)))

-- the form of the fields of a form
form_same : (f : Form)
    → form_of (fields_with (opcode (operation_of f)) (fields_of f).a (fields_of f).b (fields_of f).c (fields_of f).imm) ≡ f
form_same f = ap (λ op. form_of (fields_with op (fields_of f).a (fields_of f).b (fields_of f).c (fields_of f).imm)) (sym (code_is f))
    ∙ form_of-fields_of f

-- one of two tests passes
either : (a b : Bool) → b ≡ true → a || b ≡ true
either true b e = refl
either false b e = e

-- one of a list passes
any_at : (p : Form → Bool) (front : List Form) (f : Form) (more : List Form) → p f ≡ true
    → list_any p (front ++ f ∷ more) ≡ true
any_at p [] f more e = ap (λ t. t || list_any p more) e
any_at p (g ∷ front) f more e = either (p g) (list_any p (front ++ f ∷ more)) (any_at p front f more e)

-- a branch goes to its own target
goes_there : (f : Form) → is_target (slots_of (operation_of f)).last ≡ true → goes_to (fields_of f).imm f ≡ true
goes_there f e = ap (λ t. t && (fields_of f).imm == (fields_of f).imm) e ∙ grind (arith, nat_tests)

-- an instruction of the text, with the labels of all places
resolved_one : (labels : List Naming) (forms front : List Form) (f : Form) (more : List Form) (count : ℕ) (statement : Statement)
    → forms ≡ front ++ f ∷ more → IsInRange f → IsOf statement f → AreLabels forms count labels
    → IsResolved (goes_inside count f) f (form_at labels statement statement.target)
resolved_one labels forms front f more count statement is range one h =
    let t = statement_of one.0 one.1 (operation_of f) (fields_of f) in
    let goes : is_target (slots_of (operation_of f)).last ≡ true → list_any (goes_to (fields_of f).imm) forms ≡ true =
    λ e. ap (list_any (goes_to (fields_of f).imm)) is ∙ any_at (goes_to (fields_of f).imm) front f more (goes_there f e) in
    let r = resolved_by (slots_of (operation_of f)).last labels forms count one.0 one.1 (fields_of f).imm t refl
    (fits f range).last goes h in
    subst (λ (statement : Statement). IsResolved (goes_inside count f) f (form_at labels statement statement.target)) (sym one.2)
    (subst (λ (other : Form). IsResolved (goes_inside count f) other (form_at labels t t.target)) (form_same f) r)

-- one more instruction: the first fault is answered
resolved_more : (a b : Bool) (f : Form) (fs : List Form) (r : Result Form Bad) (rs : Result (List Form) Bad) → IsResolved a f r
    → IsResolved b fs rs
    → IsResolved (a && b) (f ∷ fs) (r >>= λ form. rs >>= λ forms. Ok (form ∷ forms))
resolved_more true true f fs r rs e es = rw (e, es) refl
resolved_more true false f fs r rs e es = (es.0, es.1, rw (e, es.2) refl)
resolved_more false b f fs r rs e es = (e.0, e.1, rw e.2 refl)

-- the instructions from one on
resolved_from : (labels : List Naming) (forms front fs : List Form) (count : ℕ) (ss : List Statement) → forms ≡ front ++ fs
    → AllByRecursion IsInRange fs → AreOf ss fs → AreLabels forms count labels
    → IsResolved (list_all (goes_inside count) fs) fs (forms_at labels ss)
unfolding forms_at
resolved_from labels forms front [] count [] is range of h = refl
resolved_from labels forms front (f ∷ fs) count (s ∷ ss) is range of h =
    resolved_more (goes_inside count f) (list_all (goes_inside count) fs) f fs (form_at labels s s.target) (forms_at labels ss)
    (resolved_one labels forms front f fs count s is range.0 of.0 h)
    (resolved_from labels forms (front ++ f ∷ []) fs count ss (is ∙ sym (append_assoc front (f ∷ []) fs)) range.1 of.1 h)
resolved_from labels forms front [] count (s ∷ ss) is range of h = absurd of
resolved_from labels forms front (f ∷ fs) count [] is range of h = absurd of

-- all instructions, with the labels of all places
pub resolved : (labels : List Naming) (forms : List Form) (ss : List Statement) → AllByRecursion IsInRange forms → AreOf ss forms
    → AreLabels forms (length forms) labels
    → IsResolved (list_all (goes_inside (length forms)) forms) forms (forms_at labels ss)
resolved labels forms ss range of h = resolved_from labels forms [] forms (length forms) ss refl range of h
