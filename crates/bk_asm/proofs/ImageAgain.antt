-- The canonical text of an image is read as that image.
use Rattle.std.proofs.Common.{◌≡◌, ℕ, ◌+◌, ◌<◌, ◌≤◌, Bool, true, false, ◌==◌, ◌&&◌, cond, Option, Some, None, Result, Ok, inl, inr, zero, List, [], ◌∷◌, ◌++◌, length, get_or, take, drop, drop-cons, add-one, suc, refl, sym, ap, subst, ◌∙◌, append_assoc, arith}
use Rattle.std.specs.Prelude.{nat_lt, nat_le, max, codes, option_and_then}
use Rattle.std.specs.List.{AllByRecursion, list_all}
use Rattle.std.specs.Fmt.{decimal}
use Rattle.std.specs.Str.Lines.{lines}
use Rattle.std.proofs.lemmas.Bool.Decides.{nat_tests}
use Rattle.std.proofs.lemmas.List.{append-nil, length-append, take_all}
use Rattle.bk_isa.specs.declared.form.Form.{Form}
use Rattle.bk_isa.specs.Words.{IsInRange}
use Rattle.bk_image.specs.Images.{Parts, Line, IsFormat, are_lines}
use Rattle.bk_image.specs.Spelling.{IsImage}
use Rattle.bk_text.specs.Faults.{Bad, at, ◌>>=◌}
use Rattle.bk_asm.specs.Again.{all_inside, IsAgain}
use Rattle.bk_asm.specs.Reading.{Draft, nothing_read, limit_of, caches_at, line_at, lines_at, forms_at, image_of, image_at}
use Rattle.bk_asm.specs.Programs.{version_of, limit_or_first}
use Rattle.bk_asm.specs.Writing.{caches_line, place_text, places_text, spelling}
use Rattle.bk_asm.proofs.Texts.{read_line, goes_on, ends}
use Rattle.bk_text.proofs.Numerals.{decimal_again}
use Rattle.bk_asm.proofs.OperandsAgain.{decimal_word}
use Rattle.bk_text.specs.LineWords.{LineWords}
use Rattle.bk_asm.proofs.Sentences.{is_quiet, marked, row, spaced, bare_row, line_again}
use Rattle.bk_asm.proofs.LabelsAgain.{found, AreLabels, AreOf, same_length, IsResolved, resolved}
use Rattle.bk_asm.proofs.PlaceAgain.{own_limit, Stands, three_parts, AreMasks, place_step}

-- ---- all places

-- all that an image has was read, but for the places of its labels
record IsRead (x : Parts) (d : Draft) : Type 0 where
  limit : d.limit ≡ own_limit x
  statements : AreOf d.statements x.instrs
  knows : d.knows ≡ x.knows
  know : d.know ≡ None
  waits : d.waits ≡ false
  labels : AreLabels x.instrs (length x.instrs) d.labels

-- no know line stands behind the last place
no_line_left : (n : ℕ) (back : List Line) → are_lines n n back ≡ true → back ≡ []
no_line_left n [] e = refl
no_line_left n (k ∷ ks) e =
    let t = three_parts (nat_le n k.0) (nat_lt k.0 n) (are_lines n (k.0 + 1) ks) e in
    let low : n ≤ k.0 = grind (arith, nat_tests, t.0) in
    let high : k.0 < n = grind (arith, nat_tests, t.1) in
    absurd (omega (arith, low, high))

-- where no instruction is left, all was read
all_stand : (x : Parts) (p : ℕ) (front : List Form) (back : List Line) (d : Draft) → Stands x p front [] back d → IsRead x d
all_stand x p front back d h =
    let whole : front ≡ x.instrs = sym (h.forms ∙ append-nil front) in
    let place : p ≡ length x.instrs = sym h.place ∙ ap length whole in
    let none : back ≡ [] =
    no_line_left (length x.instrs) back (subst (λ (number : ℕ). are_lines (length x.instrs) number back ≡ true) place h.up) in
    record {
      limit = h.limit;
      statements = subst (λ (fs : List Form). AreOf d.statements fs) whole h.statements;
      knows = sym (h.knows ∙ ap (λ ks. d.knows ++ ks) none ∙ append-nil d.knows);
      know = h.know;
      waits = h.waits;
      labels = subst (λ (number : ℕ). AreLabels x.instrs number d.labels) place h.labels;
    }

-- the place of an instruction is below 256
within : (front left : List Form) (f : Form) (forms : List Form) (p : ℕ) → forms ≡ front ++ f ∷ left → length front ≡ p
    → length forms ≤ 256 → p < 256
within front left f forms p e at few =
    let whole : length forms ≡ length front + length (f ∷ left) = ap length e ∙ length-append front (f ∷ left) in
    omega (arith, whole, at, few)

-- the lines are read as all that the image has
record AllRead (x : Parts) (p n : ℕ) (left : List Form) (d : Draft) : Type 0 where
  draft : Draft
  reads : lines_at d n (lines (places_text x p left)) ≡ Ok draft
  all : IsRead x draft

-- the lines from a place on
read_from : (x : Parts) → IsImage x → (left : List Form) (p n : ℕ) (front : List Form) (back : List Line) (d : Draft)
    → AllByRecursion IsInRange left → Stands x p front left back d → AllRead x p n left d
read_from x image [] p n front back d range h = record { draft = d; reads = ends d n; all = all_stand x p front back d h }
read_from x image (f ∷ left) p n front back d range h =
    let next = place_step x p n front left f back d image range.0
    (within front left f x.instrs p h.forms h.place image.parts.whole.count.few) h in
    let rest = read_from x image left (p + 1) next.line (front ++ f ∷ []) next.back next.draft range.1 next.stands in
    record { draft = rest.draft; reads = next.reads ∙ rest.reads; all = rest.all }

-- before the first line nothing was read
nothing_found : (forms : List Form) (q : ℕ) → None ≡ found forms 0 q
nothing_found forms q = grind (arith, nat_tests)

-- what was read with the line of the limit, if there is one
abbrev limit_read : Parts → Draft
limit_read x = record nothing_read { limit = own_limit x }

-- of the instructions nothing was read, and all is left
nothing_stands : (x : Parts) → IsImage x → Stands x 0 [] x.instrs x.knows (limit_read x)
nothing_stands x h = record {
  limit = refl;
  forms = refl;
  place = refl;
  statements = tt;
  knows = refl;
  later = λ q le. refl;
  up = h.parts.whole.lines;
  know = refl;
  waits = refl;
  labels = λ q small. nothing_found x.instrs q;
}

-- ---- the image

-- the image, by whether each branch goes to a place
again_by : (b : Bool) (x : Parts) (r : Result (List Form) Bad) → IsResolved b x.instrs r
    → IsAgain b x (r >>= λ forms. Ok (record x { instrs = forms }))
again_by true x r e = ap (λ (r : Result (List Form) Bad). r >>= λ forms. Ok (record x { instrs = forms })) e
again_by false x r e = (e.0, e.1, ap (λ (r : Result (List Form) Bad). r >>= λ forms. Ok (record x { instrs = forms })) e.2)

-- nothing waits, and there is an instruction, so the labels are resolved
image_is : (last : ℕ) (d : Draft) (x : Parts) → d.waits ≡ false → d.know ≡ None → (length d.statements == 0) ≡ false
    → d.knows ≡ x.knows → version_of d.limit ≡ x.version → limit_or_first d.limit ≡ x.limit
    → image_of last d ≡ (forms_at d.labels d.statements >>= λ forms. Ok (record x { instrs = forms }))
unfolding image_of
image_is last d x waits know some knows version limit = rw (waits, know, some, knows, version, limit) refl

-- a number that is not 0
nonempty : (n number : ℕ) → n ≡ number → 1 ≤ number → (n == 0) ≡ false
nonempty n number e some = grind (arith, nat_tests, e, some)

-- the limit that its text gives tells an image's version and limit
format_by : (version limit : ℕ) → IsFormat version limit
    → (version_of (cond (version == 1) None (Some limit)) ≡ version)
    × (limit_or_first (cond (version == 1) None (Some limit)) ≡ limit)
format_by version limit (inl h) = rw (h.0, h.1) (refl, refl)
format_by version limit (inr h) = rw h.0 (refl, refl)

-- what was read is the image, or has a label that is defined nowhere
image_read : (x : Parts) (d : Draft) (last : ℕ) → IsImage x → IsRead x d → IsAgain (all_inside x.instrs) x (image_of last d)
image_read x d last h read =
    let some : (length d.statements == 0)
    ≡ false = nonempty (length d.statements) (length x.instrs) (same_length d.statements x.instrs read.statements)
    h.parts.whole.count.some in
    let format = format_by x.version x.limit h.parts.format in
    let is = image_is last d x read.waits read.know some read.knows (ap version_of read.limit ∙ format.0)
    (ap limit_or_first read.limit ∙ format.1) in
    subst (λ (r : Result Parts Bad). IsAgain (all_inside x.instrs) x r) (sym is)
    (again_by (all_inside x.instrs) x (forms_at d.labels d.statements)
    (resolved d.labels x.instrs d.statements h.in_range read.statements read.labels))

-- the number of a limit names it
limit_again : (n : ℕ) → 1 ≤ n → n ≤ 16 → limit_of (decimal n) ≡ Some n
unfolding limit_of
limit_again n some few =
    let within_range : (nat_le 1 n && nat_le n 16) ≡ true = grind (arith, nat_tests) in
    ap (option_and_then (λ m. cond (nat_le 1 m && nat_le m 16) (Some m) None)) (decimal_again n (omega arith))
    ∙ ap (λ b. cond b (Some n) None) within_range

limit_of_word : (n end : ℕ) (word : List ℕ) → limit_of word ≡ Some n
    → line_at [] false false false 1 (row (marked 1 (codes "caches") ∷ marked 8 word ∷ []) end)
    (marked 1 (codes "caches") ∷ marked 8 word ∷ []) ≡ Ok (record { limit = Some n; label = None; know = None; does = None })
unfolding line_at caches_at
limit_of_word n end word e = rw e refl

-- the line of a limit is read as that limit
limit_line_read : (n : ℕ) → 1 ≤ n → n ≤ 16
    → (read_line nothing_read 1 (codes "caches" ++ spaced (decimal n ∷ []))
    ≡ Ok (record { limit = Some n; label = None; know = None; does = None }))
    × (list_all is_quiet (codes "caches" ++ spaced (decimal n ∷ [])) ≡ true)
limit_line_read n some few =
    let words = bare_row (codes "caches") (decimal n ∷ []) (rw (decimal_word n (omega arith)) refl) in (
      ap (λ (r : LineWords). line_at [] false false false 1 r r.words) words.0
          ∙ limit_of_word n (length (codes "caches" ++ spaced (decimal n ∷ [])) + 1) (decimal n) (limit_again n some few),
      words.1,
    )

-- the line of the limit, if there is one, is read first
record AfterLimit (x : Parts) (rest : List ℕ) : Type 0 where
  line : ℕ
  reads : lines_at nothing_read 1 (lines (caches_line x.version x.limit ++ rest)) ≡ lines_at (limit_read x) line (lines rest)

after_limit : (x : Parts) (rest : List ℕ) → IsFormat x.version x.limit → AfterLimit x rest
unfolding caches_line
after_limit x rest (inl h) = record { line = 1; reads = rw (h.0) refl }
after_limit x rest (inr h) =
    let bytes = codes "caches" ++ spaced (decimal x.limit ∷ []) in
    let read = limit_line_read x.limit h.1 h.2 in
    let text : caches_line x.version x.limit ++ rest ≡ (bytes ++ 10 ∷ []) ++ rest =
    rw (h.0, append-nil (decimal x.limit)) refl in
    record {
      line = 2;
      reads = ap (λ t. lines_at nothing_read 1 (lines t)) text
          ∙ ap (lines_at nothing_read 1) (line_again bytes rest read.1)
          ∙ goes_on nothing_read 1 bytes (lines rest) (record { limit = Some x.limit; label = None; know = None; does = None }) read.0
          ∙ ap (λ (o : Option ℕ). lines_at (record nothing_read { limit = o }) 2 (lines rest)) (rw h.0 refl);
    }

-- a text whose lines were read
image_from : (text : List ℕ) (d : Draft) → lines_at nothing_read 1 (lines text) ≡ Ok d
    → image_at text ≡ image_of (max 1 (length (lines text))) d
unfolding image_at
image_from text d e = ap (λ (r : Result Draft Bad). r >>= image_of (max 1 (length (lines text)))) e

-- the canonical text of an image is read as that image, where each branch goes to a place
pub text_again : (x : Parts) → IsImage x → IsAgain (all_inside x.instrs) x (image_at (spelling x))
text_again x h =
    let first = after_limit x (places_text x 0 x.instrs) h.parts.format in
    let r = read_from x h x.instrs 0 first.line [] x.knows (limit_read x) h.in_range (nothing_stands x h) in
    subst (λ (r : Result Parts Bad). IsAgain (all_inside x.instrs) x r) (sym (image_from (spelling x) r.draft (first.reads ∙ r.reads)))
    (image_read x r.draft (max 1 (length (lines (spelling x)))) h r.all)

-- ---- writing one place after the other

-- the instruction at a place, and those behind it
form_at_place : (fs : List Form) (i : ℕ) (f : Form) → i < length fs → f ≡ get_or fs i f → drop i fs ≡ f ∷ drop (i + 1) fs
form_at_place fs i f lt is = rw (add-one, drop-cons fs i f lt) (ap (λ x. x ∷ drop (suc i) fs) (sym is))

-- one more place was written
pub text_more : (x : Parts) (old new whole : List ℕ) (place i : ℕ) (f : Form) → i < length x.instrs → f ≡ get_or x.instrs i f
    → old ++ places_text x place (drop i x.instrs) ≡ whole
    → new ≡ old ++ place_text x place f → new ++ places_text x (place + 1) (drop (i + 1) x.instrs) ≡ whole
text_more x old new whole place i f lt is before more =
    ap (λ l. l ++ places_text x (place + 1) (drop (i + 1) x.instrs)) more
    ∙ append_assoc old (place_text x place f) (places_text x (place + 1) (drop (i + 1) x.instrs))
    ∙ ap (λ fs. old ++ places_text x place fs) (sym (form_at_place x.instrs i f lt is)) ∙ before

-- all places were written
pub all_in_range : (fs : List Form) (i : ℕ) → length fs ≤ i → AllByRecursion IsInRange (take i fs) → AllByRecursion IsInRange fs
all_in_range fs i le h = subst (λ (gs : List Form). AllByRecursion IsInRange gs) (take_all i fs le) h

-- the know lines of fewer places
pub fewer_masks : (ks : List Line) (n p : ℕ) → n ≤ p → AreMasks ks p → AreMasks ks n
fewer_masks ks n p le h q lt = h q (omega (arith, le, lt))

-- what is written is read so
pub written_again : (image : Parts) (bytes : List ℕ) → bytes ≡ spelling image → IsImage image
    → IsAgain (all_inside image.instrs) image (image_at bytes)
written_again image bytes e h =
    subst (λ (text : List ℕ). IsAgain (all_inside image.instrs) image (image_at text)) (sym e) (text_again image h)
