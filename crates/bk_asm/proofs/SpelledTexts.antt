-- An image that is read from a text is the one that the text spells.
use Rattle.std.proofs.Common.{◌≡◌, ℕ, ◌+◌, ◌<◌, ◌==◌, ◌||◌, Bool, true, false, cond, max, Option, Some, None, Result, Ok, Err, List, []}
use Rattle.std.proofs.Common.{◌∷◌, ◌++◌, length, map, append-nil, refl, sym, ap, subst, ◌∙◌, inl, inr, arith}
use Rattle.std.specs.Prelude.{is_some, IfOk, IfSome, ◌≤◌}
use Rattle.std.specs.List.{AllZip, AllByRecursion, IsDistinct}
use Rattle.std.specs.Str.{bytes_eq}
use Rattle.std.specs.Str.Lines.{lines}
use Rattle.std.proofs.lemmas.Bool.Decides.{nat_tests}
use Rattle.bk_isa.specs.declared.form.Form.{Form}
use Rattle.bk_image.specs.Images.{Parts, IsFormat}
use Rattle.bk_text.specs.Texts.{words_of}
use Rattle.bk_text.specs.Faults.{at, ◌>>=◌}
use Rattle.bk_asm.specs.declared.fault.AsmFault.{AsmFault}
use Rattle.bk_asm.specs.declared.fault.Kind.TheVariants as kinds
use Rattle.bk_asm.specs.Faults.{bad, Gives}
use Rattle.bk_asm.specs.Names.{Naming}
use Rattle.bk_asm.specs.Drafts.{IsDraft}
use Rattle.bk_asm.specs.Programs.{Statement, version_of, limit_or_first}
use Rattle.bk_asm.specs.Reading.{Draft, nothing_read, comment_mark, place_of, know_line, after, lines_at, form_at, forms_at}
use Rattle.bk_asm.specs.Reading.{image_of, image_at}
use Rattle.bk_asm.specs.Spelled.{Content, Nothing, Know, Instruction, Sentence, form_in, forms_in, label_in, labels_in, know_in, knows_in}
use Rattle.bk_asm.specs.Spelled.{SpellsContent, SpellsLabelled, SpellsSentence, IsLed, limit_from, Spells}
use Rattle.bk_asm.proofs.Drafted.{place_ok}
use Rattle.bk_asm.proofs.LabelPlaces.{all_under, place_under}
use Rattle.bk_asm.proofs.SpelledDrafts.{Follows, lines_follow, stated_in, statements_in, stated_know, stated_knows, stated_labels, leaves}
use Rattle.bk_asm.proofs.SpelledForms.{AreAmong, form_spelled}
use Rattle.bk_asm.proofs.SpelledLine.{Stated, Empty, Mask, Does, StatedLine, line_parts, SpellsStated, SpellsStatedLabel, SpellsStatedLine}
use Rattle.bk_asm.proofs.SpelledLimits.{stated_limit, IsStatedLed, limit_left, led}
use Rattle.bk_asm.proofs.SpelledWords.{bound, ok_is}

-- ---- targets

-- what a line says, by what it says with its target resolved
abbrev Resolves : List Naming → Stated → Content → Type 0
Resolves found Empty Nothing = Unit {0}
Resolves found (Mask sets) (Know same) = sets ≡ same
Resolves found (Does s) (Instruction form) = form_at found s s.target ≡ Ok form
Resolves found stated content = ⊥

abbrev ResolvesLine : List Naming → StatedLine → Sentence → Type 0
ResolvesLine found s t = (s.label ≡ t.label) × Resolves found s.content t.content × (s.limit ≡ t.limit)

-- the lines with their targets resolved
record Resolved (found : List Naming) (ss : List StatedLine) (fs : List Form) : Type 0 where
  sentences : List Sentence
  each : AllZip (ResolvesLine found) ss sentences
  forms : forms_in sentences ≡ fs
  count : length fs ≡ length (statements_in ss)

-- one more line, by what stands behind its label
resolved_by : (found : List Naming) (limit : Option ℕ) (label : Option (List ℕ)) (c : Stated) (ss : List StatedLine) (forms : List Form)
    → ((forms : List Form) → forms_at found (statements_in ss) ≡ Ok forms → Resolved found ss forms)
    → forms_at found (stated_in c ++ statements_in ss) ≡ Ok forms
    → Resolved found (record { limit = limit; label = label; content = c } ∷ ss) forms
unfolding forms_at
resolved_by found limit label Empty ss forms more e =
    let r = more forms e in
    record {
      sentences = record { limit = limit; label = label; content = Nothing } ∷ r.sentences;
      each =
          ((refl, tt, refl), r.each);
      forms = r.forms;
      count = r.count;
    }
resolved_by found limit label (Mask sets) ss forms more e =
    let r = more forms e in
    record {
      sentences = record { limit = limit; label = label; content = Know sets } ∷ r.sentences;
      each =
          ((refl, refl, refl), r.each);
      forms = r.forms;
      count = r.count;
    }
resolved_by found limit label (Does s) ss forms more e =
    let one = bound (form_at found s s.target) (λ form. forms_at found (statements_in ss) >>= λ forms. Ok (form ∷ forms)) forms e in
    let two = bound (forms_at found (statements_in ss)) (λ forms. Ok (one.0 ∷ forms)) forms one.2 in
    let same = ok_is (one.0 ∷ two.0) forms two.2 in
    let r = more two.0 two.1 in
    record {
      sentences = record { limit = limit; label = label; content = Instruction one.0 } ∷ r.sentences;
      each = ((refl, one.1, refl), r.each);
      forms = ap (λ l. one.0 ∷ l) r.forms ∙ same;
      count = ap (λ l. length l) (sym same) ∙ omega (arith, r.count);
    }

resolved : (found : List Naming) (ss : List StatedLine) (forms : List Form) → forms_at found (statements_in ss) ≡ Ok forms
    → Resolved found ss forms
unfolding forms_at
resolved found [] forms e = subst (λ (forms : List Form). Resolved found [] forms) (ok_is [] forms e)
    (record { sentences = []; each = tt; forms = refl; count = refl })
resolved found (s ∷ ss) forms e = resolved_by found s.limit s.label s.content ss forms (λ forms e. resolved found ss forms e) e

-- ---- the lines with their targets resolved have the same labels and know lines

one_form : (found : List Naming) (s : Stated) (c : Content) → Resolves found s c → length (form_in c) ≡ length (stated_in s)
one_form found Empty Nothing h = refl
one_form found Empty (Know sets) h = absurd h
one_form found Empty (Instruction form) h = absurd h
one_form found (Mask sets) Nothing h = absurd h
one_form found (Mask sets) (Know same) h = refl
one_form found (Mask sets) (Instruction form) h = absurd h
one_form found (Does s) Nothing h = absurd h
one_form found (Does s) (Know sets) h = absurd h
one_form found (Does s) (Instruction form) h = refl

one_know : (found : List Naming) (place : ℕ) (s : Stated) (c : Content) → Resolves found s c → know_in place c ≡ stated_know place s
one_know found place Empty Nothing h = refl
one_know found place Empty (Know sets) h = absurd h
one_know found place Empty (Instruction form) h = absurd h
one_know found place (Mask sets) Nothing h = absurd h
one_know found place (Mask sets) (Know same) h = ap (λ s. (place, s) ∷ []) (sym h)
one_know found place (Mask sets) (Instruction form) h = absurd h
one_know found place (Does s) Nothing h = absurd h
one_know found place (Does s) (Know sets) h = absurd h
one_know found place (Does s) (Instruction form) h = refl

same_labels : (found : List Naming) (place : ℕ) (ss : List StatedLine) (ts : List Sentence) → AllZip (ResolvesLine found) ss ts
    → labels_in place ts ≡ stated_labels place ss
same_labels found place [] [] h = refl
same_labels found place [] (t ∷ ts) h = absurd h
same_labels found place (s ∷ ss) [] h = absurd h
same_labels found place (s ∷ ss) (t ∷ ts) h =
    ap (λ label. label_in place label ++ labels_in (place + length (form_in t.content)) ts) (sym h.0.0)
    ∙ ap (λ n. label_in place s.label ++ labels_in (place + n) ts) (one_form found s.content t.content h.0.1)
    ∙ ap (λ l. label_in place s.label ++ l) (same_labels found (place + length (stated_in s.content)) ss ts h.1)

same_knows : (found : List Naming) (place : ℕ) (ss : List StatedLine) (ts : List Sentence) → AllZip (ResolvesLine found) ss ts
    → knows_in place ts ≡ stated_knows place ss
same_knows found place [] [] h = refl
same_knows found place [] (t ∷ ts) h = absurd h
same_knows found place (s ∷ ss) [] h = absurd h
same_knows found place (s ∷ ss) (t ∷ ts) h =
    ap (λ l. l ++ knows_in (place + length (form_in t.content)) ts) (one_know found place s.content t.content h.0.1)
    ∙ ap (λ n. stated_know place s.content ++ knows_in (place + n) ts) (one_form found s.content t.content h.0.1)
    ∙ ap (λ l. stated_know place s.content ++ l) (same_knows found (place + length (stated_in s.content)) ss ts h.1)

-- what says nothing is resolved to nothing
nothing_is : (found : List Naming) (s : Stated) (c : Content) → Resolves found s c → s ≡ Empty → c ≡ Nothing
nothing_is found Empty Nothing r e = refl
nothing_is found Empty (Know sets) r e = absurd r
nothing_is found Empty (Instruction form) r e = absurd r
nothing_is found (Mask sets) c r e = absurd cc
nothing_is found (Does s) c r e = absurd cc

same_limit : (found : List Naming) (ss : List StatedLine) (ts : List Sentence) → AllZip (ResolvesLine found) ss ts
    → limit_from ts ≡ stated_limit ss
same_limit found [] [] h = refl
same_limit found [] (t ∷ ts) h = absurd h
same_limit found (s ∷ ss) [] h = absurd h
same_limit found (s ∷ ss) (t ∷ ts) h =
    ap (λ (o : Option ℕ). cond (is_some o) o (limit_from ts)) (sym h.0.2)
    ∙ ap (λ (o : Option ℕ). cond (is_some s.limit) s.limit o) (same_limit found ss ts h.1)

same_led : (found : List Naming) (ss : List StatedLine) (ts : List Sentence) → AllZip (ResolvesLine found) ss ts → IsStatedLed ss
    → IsLed ts
same_led found [] [] h l = tt
same_led found [] (t ∷ ts) h l = absurd h
same_led found (s ∷ ss) [] h l = absurd h
same_led found (s ∷ ss) (t ∷ ts) h l = elim l [
  | inl nothing ↦ inl (
    (sym h.0.2 ∙ nothing.0.0, sym h.0.0 ∙ nothing.0.1, nothing_is found s.content t.content h.0.1 nothing.0.2),
    same_led found ss ts h.1 nothing.1,
  )
  | inr none ↦ inr (same_limit found ss ts h.1 ∙ none)
]

-- ---- the words of the lines

content_spelled : (found labels : List Naming) (words : List (List ℕ)) (s : Stated) (c : Content) → AreAmong found labels
    → Resolves found s c
    → SpellsStated words s → SpellsContent labels words c
content_spelled found labels words Empty Nothing among r h = h
content_spelled found labels words Empty (Know sets) among r h = absurd r
content_spelled found labels words Empty (Instruction form) among r h = absurd r
content_spelled found labels words (Mask sets) Nothing among r h = absurd r
content_spelled found labels words (Mask sets) (Know same) among r h = subst (λ sets. SpellsContent labels words (Know sets)) r h
content_spelled found labels words (Mask sets) (Instruction form) among r h = absurd r
content_spelled found labels words (Does s) Nothing among r h = absurd r
content_spelled found labels words (Does s) (Know sets) among r h = absurd r
content_spelled found labels words (Does s) (Instruction form) among r h = form_spelled found labels words s form among h r

labelled_spelled : (found labels : List Naming) (words : List (List ℕ)) (label : Option (List ℕ)) (s : Stated) (c : Content)
    → AreAmong found labels
    → Resolves found s c → SpellsStatedLabel words label s → SpellsLabelled labels words label c
labelled_spelled found labels words None s c among r h = content_spelled found labels words s c among r h
labelled_spelled found labels [] (Some name) s c among r h = absurd h
labelled_spelled found labels (word ∷ words) (Some name) s c among r h = (h.0, h.1, content_spelled found labels words s c among r h.2)

sentence_spelled : (found labels : List Naming) (words : List (List ℕ)) (limit : Option ℕ) (label : Option (List ℕ)) (s : Stated)
    (c : Content) → AreAmong found labels
    → Resolves found s c → SpellsStatedLine words limit label s → SpellsSentence labels words limit label c
sentence_spelled found labels words None label s c among r h = labelled_spelled found labels words label s c among r h
sentence_spelled found labels words (Some limit) label s c among r h = (h.0, h.1, nothing_is found s c r h.2)

-- each line is spelled, with the labels of the whole text
lines_spelled : (found labels : List Naming) (d : Draft) (texts : List (List ℕ)) (ss : List StatedLine) (ts : List Sentence) (e : Draft)
    → AreAmong found labels
    → Follows d texts ss e → AllZip (ResolvesLine found) ss ts
    → AllZip (λ line t. SpellsSentence labels (words_of comment_mark line) t.limit t.label t.content) texts ts
lines_spelled found labels d [] [] [] e among h r = tt
lines_spelled found labels d [] [] (t ∷ ts) e among h r = absurd r
lines_spelled found labels d [] (s ∷ ss) ts e among h r = absurd h
lines_spelled found labels d (text ∷ texts) [] ts e among h r = absurd h
lines_spelled found labels d (text ∷ texts) (s ∷ ss) [] e among h r = absurd r
lines_spelled found labels d (text ∷ texts) (s ∷ ss) (t ∷ ts) e among h r = (
  subst (λ (limit : Option ℕ). SpellsSentence labels (words_of comment_mark text) limit t.label t.content) r.0.2
      (subst (λ (label : Option (List ℕ)). SpellsSentence labels (words_of comment_mark text) s.limit label t.content) r.0.0
      (sentence_spelled found labels (words_of comment_mark text) s.limit s.label s.content t.content among r.0.1 h.0)),
  lines_spelled found labels (after (line_parts s.limit s.label s.content) d) texts ss ts e among h.4 r.1,
)

-- ---- the image

-- what an image was made of
record IsMade (d : Draft) (image : Parts) : Type 0 where
  waits : d.waits ≡ false
  know : d.know ≡ None
  some : (length d.statements == 0) ≡ false
  forms : forms_at d.labels d.statements ≡ Ok image.instrs
  knows : d.knows ≡ image.knows
  version : version_of d.limit ≡ image.version
  limit : limit_or_first d.limit ≡ image.limit

no_know : {X : Type 0} (o : Option X) → is_some o ≡ false → o ≡ None
no_know None e = refl
no_know (Some x) e = absurd cc

-- an image is made where nothing waits and there is an instruction, and it is that of the instructions and the know lines
made_by : (a b test : Bool) (last : ℕ) (d : Draft) (image : Parts) → d.waits ≡ a → is_some d.know ≡ b
    → (length d.statements == 0) ≡ test
    → cond (a || b) (Err (bad last (at 1 kinds.WithoutInstruction))) (cond test (Err (bad last (at 1 kinds.NoInstruction)))
    (forms_at d.labels d.statements >>= λ forms. Ok (record {
      version = version_of d.limit;
      limit = limit_or_first d.limit;
      instrs =
          forms;
      knows = d.knows;
    }))) ≡ Ok image
    → IsMade d image
made_by true b test last d image w k n e = absurd cc
made_by false true test last d image w k n e = absurd cc
made_by false false true last d image w k n e = absurd cc
made_by false false false last d image w k n e =
    let one = bound (forms_at d.labels d.statements) (λ forms. Ok
    (record { version = version_of d.limit; limit = limit_or_first d.limit; instrs = forms; knows = d.knows })) image e in
    let same = ok_is (record { version = version_of d.limit; limit = limit_or_first d.limit; instrs = one.0; knows = d.knows })
    image one.2 in
    record {
      waits = w;
      know = no_know d.know k;
      some = n;
      forms = one.1 ∙ ap (λ (x : Parts). Ok x.instrs) same;
      knows = ap (λ (x : Parts). x.knows) same;
      version = ap (λ (x : Parts). x.version) same;
      limit = ap (λ (x : Parts). x.limit) same;
    }

made : (last : ℕ) (d : Draft) (image : Parts) → image_of last d ≡ Ok image → IsMade d image
unfolding image_of
made last d image e = made_by d.waits (is_some d.know) (length d.statements == 0) last d image refl refl refl e

-- the places of labels are those of instructions
places_below : (found labels : List Naming) (n : ℕ) → all_under n found ≡ true
    → AllByRecursion (λ (l : Naming). place_of found l.0 ≡ Some l.1) labels
    → AllByRecursion (λ (l : Naming). l.1 < n) labels
places_below found [] n under h = tt
places_below found (l ∷ labels) n under h = (place_under n found l.0 l.1 under h.0, places_below found labels n under h.1)

-- the version and the limit of a draft are those of an image
format_of : (o : Option ℕ) → IfSome o (λ n. (1 ≤ n) × (n ≤ 16)) → IsFormat (version_of o) (limit_or_first o)
format_of None h = inl (refl, refl)
format_of (Some n) h = inr (refl, h.0, h.1)

-- the text spells the image: its lines say what was read of them, and the labels of the text are those that were kept
image_spelled : (text : List ℕ) (image : Parts) (d : Draft) (ss : List StatedLine) → Follows nothing_read (lines text) ss d
    → IsMade d image → Spells text image
image_spelled text image d ss follows made =
    let left = leaves nothing_read (lines text) ss d follows in
    let draft : IsDraft d = left.draft (record { limit = tt; few = omega arith; lines = refl; labels = refl }) in
    let statements : d.statements ≡ statements_in ss = left.statements in
    let labels = stated_labels 0 ss in
    let among : AreAmong d.labels labels = λ name n place. (
      elim (left.labels.found name n place) [
        | inl none ↦ absurd cc
        | inr is ↦ is
      ],
      place_ok d name n draft made.waits place,
    ) in
    let r = resolved d.labels ss image.instrs (subst
    (λ (s : List Statement). forms_at d.labels s ≡ Ok image.instrs) statements made.forms) in
    let same = same_labels d.labels 0 ss r.sentences r.each in
    let limit : d.limit ≡ limit_from r.sentences =
    limit_left nothing_read (lines text) ss d follows ∙ sym (same_limit d.labels ss r.sentences r.each) in
    let count : length d.statements ≡ length image.instrs = ap (λ l. length l) statements ∙ sym r.count in
    let few = draft.few in
    let knows : d.knows ≡ stated_knows 0 ss =
    sym (append-nil d.knows) ∙ ap (λ o. d.knows ++ know_line (length d.statements) o) (sym made.know) ∙ left.knows in
    let under : all_under (length d.statements + 0) d.labels ≡ true = (rw made.waits at draft.labels) in
    let places : AllByRecursion (λ (l : Naming). l.1 < length image.instrs) labels =
    places_below d.labels labels (length image.instrs)
    (subst (λ (n : ℕ). all_under n d.labels ≡ true) (omega (arith, count)) under) left.labels.places in
    record {
      sentences = r.sentences;
      lines = subst (λ (l : List Naming). AllZip (λ line t. SpellsSentence l (words_of comment_mark line) t.limit t.label t.content)
          (lines text) r.sentences) (sym same)
          (lines_spelled d.labels labels nothing_read (lines text) ss r.sentences d among follows r.each);
      led = same_led d.labels ss r.sentences r.each (led nothing_read (lines text) ss d follows);
      version = sym made.version ∙ ap version_of limit;
      limit = sym made.limit ∙ ap limit_or_first limit;
      instrs = sym r.forms;
      knows = sym made.knows ∙ knows ∙ sym (same_knows d.labels 0 ss r.sentences r.each);
      parts = record {
        format = subst (λ (version : ℕ). IsFormat version image.limit) made.version
            (subst (λ (n : ℕ). IsFormat (version_of d.limit) n) made.limit (format_of d.limit draft.limit));
        whole = record {
          count = record { some = grind (arith, nat_tests, made.some, count); few = omega arith };
          lines = rw (← made.knows, ← count) draft.lines;
        };
      };
      once = subst (λ (l : List Naming). IsDistinct bytes_eq (map (λ l. l.0) l)) (sym same) left.labels.once;
      placed = subst (λ (l : List Naming). AllByRecursion (λ (l : Naming). l.1 < length image.instrs) l) (sym same) places;
    }

-- an image that is read from a text is spelled by it
pub text_spells : (text : List ℕ) (image : Parts) → image_at text ≡ Ok image → Spells text image
unfolding image_at
text_spells text image e =
    let one = bound (lines_at nothing_read 1 (lines text)) (image_of (max 1 (length (lines text)))) image e in
    let follows = lines_follow nothing_read 1 (lines text) one.0 one.1 in
    image_spelled text image one.0 follows.0 follows.1 (made (max 1 (length (lines text))) one.0 image one.2)

-- the same of what a call answers
pub answer_spells : (r : Result Parts AsmFault) (text : List ℕ) → Gives (λ i. i) r (image_at text)
    → IfOk r (λ image. Spells text image)
answer_spells (Ok image) text h = text_spells text image h
answer_spells (Err fault) text h = tt
