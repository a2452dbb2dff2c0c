-- Reading the lines of a text one after the other, and resolving labels one after the other, as loops do.
use Rattle.std.proofs.Common.{◌≡◌, ℕ, ◌+◌, ◌≤◌, List, [], ◌∷◌, ◌++◌, length, drop, get_or, drop-cons, add-one, suc, ◌<◌, refl, sym, ap, ◌∙◌, append_assoc, arith}
use Rattle.std.specs.Prelude.{Result, Ok, Err, nat_le, is_some, max}
use Rattle.std.specs.Str.Lines.{lines}
use Rattle.std.proofs.lemmas.List.{append-nil, drop_all}
use Rattle.bk_text.specs.Faults.{Bad, ◌>>=◌}
use Rattle.bk_asm.specs.declared.fault.AsmFault.TheVariants as errors
use Rattle.bk_isa.specs.declared.form.Form.{Form}
use Rattle.bk_asm.specs.Faults.{At, bad, fault_of, Fails}
use Rattle.bk_asm.specs.declared.fault.AsmFault.{AsmFault}
use Rattle.bk_asm.specs.Names.{Naming}
use Rattle.bk_asm.specs.Programs.{Statement, LineParts}
use Rattle.bk_asm.specs.Reading.{Draft, has_begun, row_at, line_at, after, lines_at, form_at, forms_at, nothing_read, image_of, image_at}

abbrev pub read_line : Draft → ℕ → List ℕ → Result LineParts At
read_line d line text =
    line_at d.labels (has_begun d) (nat_le 256 (length d.statements)) (is_some d.know) line (row_at text) (row_at text).words

pub goes_on : (d : Draft) (line : ℕ) (text : List ℕ) (texts : List (List ℕ)) (parts : LineParts)
    → read_line d line text ≡ Ok parts
    → lines_at d line (text ∷ texts) ≡ lines_at (after parts d) (line + 1) texts
unfolding lines_at
goes_on d line text texts parts e = rw e refl

pub stops : (d : Draft) (line : ℕ) (text : List ℕ) (texts : List (List ℕ)) (fault : At) → read_line d line text ≡ Err fault
    → lines_at d line (text ∷ texts) ≡ Err (bad line fault)
unfolding lines_at
stops d line text texts fault e = rw e refl

pub ends : (d : Draft) (line : ℕ) → lines_at d line [] ≡ Ok d
unfolding lines_at
ends d line = refl

-- what was resolved before, and what is still resolved
abbrev pub with_front : List Form → Result (List Form) Bad → Result (List Form) Bad
with_front front read = read >>= λ forms. Ok (front ++ forms)

front_bind : (front : List Form) (f : Form) (r : Result (List Form) Bad)
    → with_front front (r >>= λ forms. Ok (f ∷ forms)) ≡ with_front (front ++ f ∷ []) r
front_bind front f (Ok forms) = ap Ok (sym (append_assoc front (f ∷ []) forms))
front_bind front f (Err e) = refl

pub form_on : (labels : List Naming) (front : List Form) (statement : Statement) (more : List Statement) (f : Form)
    → form_at labels statement statement.target ≡ Ok f
    → with_front front (forms_at labels (statement ∷ more)) ≡ with_front (front ++ f ∷ []) (forms_at labels more)
unfolding forms_at
form_on labels front s more f e =
    let one : with_front front (forms_at labels (s ∷ more))
    ≡ with_front front (forms_at labels more >>= λ forms. Ok (f ∷ forms)) = rw e refl in
    one ∙ front_bind front f (forms_at labels more)

pub form_stop : (labels : List Naming) (front : List Form) (statement : Statement) (more : List Statement) (b : Bad)
    → form_at labels statement statement.target ≡ Err b
    → with_front front (forms_at labels (statement ∷ more)) ≡ Err b
unfolding forms_at
form_stop labels front s more b e = rw e refl

pub forms_end : (labels : List Naming) (front : List Form) → with_front front (forms_at labels []) ≡ Ok front
unfolding forms_at
forms_end labels front = ap Ok (append-nil front)

pub statement_at : (xs : List Statement) (i : ℕ) (statement : Statement) → i < length xs → statement ≡ get_or xs i statement
    → drop i xs ≡ statement ∷ drop (i + 1) xs
statement_at xs i statement lt is = rw (add-one, drop-cons xs i statement) (ap (λ x. x ∷ drop (suc i) xs) (sym is))

pub image_stops : (text : List ℕ) (b : Bad) → lines_at nothing_read 1 (lines text) ≡ Err b → image_at text ≡ Err b
unfolding image_at
image_stops text b e = rw e refl

pub image_ends : (text : List ℕ) (d : Draft) (n : ℕ) → lines_at nothing_read 1 (lines text) ≡ Ok d → n ≡ length (lines text)
    → image_at text ≡ image_of (max 1 n) d
unfolding image_at
image_ends text d n e len = rw (e, len) refl

pub fails : {Y : Type 0} (e : AsmFault) (b : Bad) (read : Result Y Bad) → e ≡ fault_of b → read ≡ Err b → Fails e read
fails e b read is stop = rw is stop

pub fails_on : (e : AsmFault) (labels : List Naming) (front : List Form) (statement : Statement) (more : List Statement)
    (read : Result (List Form) Bad)
    → Fails e (form_at labels statement statement.target) → with_front front (forms_at labels (statement ∷ more)) ≡ read
    → Fails e read
fails_on errors.Memory labels front statement more read f is = tt
fails_on (errors.Bad line column kind) labels front statement more read f is = sym is
    ∙ form_stop labels front statement more (record { line = line; column = column; kind = kind }) f

pub none_left : (xs : List Statement) (i : ℕ) → length xs ≤ i → drop i xs ≡ []
none_left xs i le = drop_all i xs le

pub no_lines : (rest : List ℕ) → length rest ≡ 0 → lines rest ≡ []
no_lines [] e = refl
no_lines (b ∷ rest) e = absurd (omega arith)
