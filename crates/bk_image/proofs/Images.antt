-- The two laws: what is read is spelled so, and what is spelled so is read.
use Rattle.std.proofs.Common.{◌≡◌, ℕ, ◌-◌, ◌≤◌, cond, eqb, List, [], ◌++◌, length, Result, Ok, Err, refl, sym, ap, subst, ◌∙◌, arith}
use Rattle.std.specs.Prelude.{IfOk}
use Rattle.std.specs.List.{flat_map}
use Rattle.std.proofs.lemmas.Bool.{eqb-true}
use Rattle.std.proofs.lemmas.List.{append-nil, nil_from_length}
use Rattle.bk_isa.specs.declared.form.Form.{Form}
use Rattle.bk_image.specs.declared.header.Heading.{Heading}
use Rattle.bk_image.specs.declared.fault.ImageFault.{ImageFault}
use Rattle.bk_image.specs.declared.fault.Kind.TheVariants.{Trailing}
use Rattle.bk_image.specs.Faults.{Bad, bad, Gives}
use Rattle.bk_image.specs.Images.{Parts, Line}
use Rattle.bk_image.specs.Reading.{◌>>=◌, header_at, words_at, lines_at, image_at}
use Rattle.bk_image.specs.Spelling.{header, heading_of, word, line, spelling, IsImage}
use Rattle.bk_image.proofs.Counted.{header_takes, IsHeading, header_again}
use Rattle.bk_image.proofs.InstructionWords.{words_take, words_again}
use Rattle.bk_image.proofs.KnowLines.{lines_take, lines_ascend, lines_again, lines_few}
use Rattle.bk_image.proofs.Numbers.{IsBytes, bind_ok, holds, ok_is, Takes, Takes-then}

-- what follows each of the parts that `image_at` reads
abbrev at_end : ℕ → Heading → List Form → List Line × List ℕ → Result Parts Bad
at_end total heading words lines =
    cond (eqb (length lines.1) 0) (Ok (record { version = heading.version; limit = heading.limit; instrs = words; knows = lines.0 }))
    (Err (bad (total - length lines.1) Trailing))

abbrev after_words : ℕ → Heading → List Form × List ℕ → Result Parts Bad
after_words total heading words = lines_at total heading.instrs heading.knows 0 words.1 >>= at_end total heading words.0

abbrev after_header : ℕ → Heading × List ℕ → Result Parts Bad
after_header total heading = words_at total heading.0.instrs heading.1 >>= after_words total heading.0

-- The reader takes header, words and know lines off the bytes, each exactly its spelling, and nothing is left at the end.
image_takes : (bytes : List ℕ) (p : Parts) → IsBytes bytes → image_at bytes ≡ Ok p → IsImage p × (bytes ≡ spelling p)
unfolding image_at
image_takes bytes p fits e =
    let total = length bytes in
    let a = bind_ok (header_at total bytes) (after_header total) p e in
    let b = bind_ok (words_at total a.0.0.instrs a.0.1) (after_words total a.0.0) p a.2 in
    let c = bind_ok (lines_at total a.0.0.instrs a.0.0.knows 0 b.0.1) (at_end total a.0.0 b.0.0) p b.2 in
    let made : Parts = record { version = a.0.0.version; limit = a.0.0.limit; instrs = b.0.0; knows = c.0.0 } in
    let h = holds (eqb (length c.0.1) 0) (bad (total - length c.0.1) Trailing) (Ok made) p c.2 in
    let front = header_takes total bytes a.0 fits a.1 in
    let words = words_take total a.0.0.instrs a.0.1 b.0 front.takes.rest_fits b.1 in
    let lines = lines_take total a.0.0.instrs a.0.0.knows 0 b.0.1 c.0 words.0.rest_fits c.1 in
    let nothing : c.0.1 ≡ [] = nil_from_length c.0.1 (eqb-true _ _ h.0) in
    let body = flat_map word b.0.0 ++ flat_map line c.0.0 in
    let all : Takes bytes (header a.0.0 ++ body) c.0.1 = Takes-then front.takes (Takes-then words.0 lines.0) in
    let whole : bytes ≡ header a.0.0 ++ body = all.parts
    ∙ ap (λ (r : List ℕ). (header a.0.0 ++ body) ++ r) nothing
    ∙ append-nil (header a.0.0 ++ body) in
    let counted : bytes ≡ spelling made = rw (words.1, lines.1) whole in
    let is_image : IsImage made =
    record {
      parts = record {
        format = front.format;
        whole = record {
          count = record { some = omega (arith, front.count.0, words.1); few = omega (arith, front.count.1, words.1) };
          lines = rw words.1 (lines_ascend total a.0.0.instrs a.0.0.knows 0 b.0.1 c.0 c.1);
        };
      };
      in_range = words.2;
      masks = lines.2;
    } in
    subst (λ (q : Parts). IsImage q × (bytes ≡ spelling q)) (ok_is made p h.1) (is_image, counted)

-- what is spelled so is read
pub image_again : (p : Parts) → IsImage p → image_at (spelling p) ≡ Ok p
unfolding image_at
image_again p h =
    let total = length (spelling p) in
    let whole = h.parts.whole in
    let few : length p.knows ≤ length p.instrs = omega (arith, lines_few (length p.instrs) 0 p.knows whole.lines) in
    let lines : lines_at total (length p.instrs) (length p.knows) 0 (flat_map line p.knows)
    ≡ Ok (p.knows, []) = ap (lines_at total (length p.instrs) (length p.knows) 0) (sym (append-nil (flat_map line p.knows)))
    ∙ lines_again total (length p.instrs) 0 p.knows [] (omega (arith, whole.count.few)) whole.lines h.masks in
    let words : words_at total (length p.instrs) (flat_map word p.instrs ++ flat_map line p.knows)
    ≡ Ok (p.instrs, flat_map line p.knows) =
    words_again total p.instrs (flat_map line p.knows) h.in_range in
    let heading : IsHeading (heading_of p) =
    record { format = h.parts.format; count = (whole.count.some, whole.count.few); knows = few } in
    rw (
      header_again total (heading_of p) (flat_map word p.instrs ++ flat_map line p.knows) heading,
      words,
      lines,
    ) refl

-- what is read is spelled so
pub is_found : (bytes : List ℕ) (r : Result Parts ImageFault) → IsBytes bytes → Gives (λ i. i) r (image_at bytes)
    → IfOk r (λ i. IsImage i × (bytes ≡ spelling i))
is_found bytes (Ok i) fits given = image_takes bytes i fits given
is_found bytes (Err e) fits given = tt
