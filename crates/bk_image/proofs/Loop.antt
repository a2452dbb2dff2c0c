-- Reading words and know lines one after the other, as a loop does.
use Rattle.std.proofs.Common.{◌≡◌, ℕ, suc, ◌-◌, ◌+◌, ◌≤◌, ◌<◌, List, [], ◌∷◌, ◌++◌, Result, Ok, Err, drop, refl, sym, ap, ◌∙◌, append_assoc, arith}
use Rattle.std.proofs.lemmas.List.{append-nil}
use Rattle.bk_isa.specs.declared.form.Form.{Form}
use Rattle.bk_image.specs.declared.fault.ImageFault.{ImageFault}
use Rattle.bk_image.specs.declared.fault.ImageFault.TheVariants as errors
use Rattle.bk_image.specs.Images.{Line}
use Rattle.bk_image.specs.Faults.{Bad, Fails}
use Rattle.bk_image.specs.Reading.{◌>>=◌, word_at, words_at, line_at, lines_at}

abbrev pub Items : Type 0 → Type 0
Items X = Result (List X × List ℕ) Bad

-- what was read before, and what is still read
abbrev pub with_front : {X : Type 0} → List X → Items X → Items X
with_front front read = read >>= λ x. Ok (front ++ x.0, x.1)

regroup : {X : Type 0} (front : List X) (x : X) (read : Items X)
    → with_front front (read >>= λ others. Ok (x ∷ others.0, others.1)) ≡ with_front (front ++ x ∷ []) read
regroup {X = X} front x (Ok others) = ap (λ (xs : List X). Ok (xs, others.1)) (simp append_assoc)
regroup front x (Err e) = refl

-- ---- words

pub words_go_on : (front : List Form) (total count i : ℕ) (bytes : List ℕ) (f : Form) (whole : Items Form) → i < count
    → word_at total bytes ≡ Ok f
    → with_front front (words_at total (count - i) bytes) ≡ whole
    → with_front (front ++ f ∷ []) (words_at total (count - (i + 1)) (drop 8 bytes)) ≡ whole
unfolding words_at
words_go_on front total count i bytes f whole lt h so_far =
    let k : count - i ≡ suc (count - (i + 1)) = omega arith in
    let one : with_front front (words_at total (count - i) bytes)
    ≡ with_front (front ++ f ∷ []) (words_at total (count - (i + 1)) (drop 8 bytes)) = rw (
      k,
      h,
    ) (regroup front f (words_at total (count - (i + 1)) (drop 8 bytes))) in
    sym one ∙ so_far

pub words_end : (e : ImageFault) (front : List Form) (total count i : ℕ) (bytes : List ℕ) (whole : Items Form) → i < count
    → Fails e (word_at total bytes)
    → with_front front (words_at total (count - i) bytes) ≡ whole → Fails e whole
unfolding words_at
words_end errors.Memory front total count i bytes whole lt h so_far = tt
words_end (errors.Bad place kind) front total count i bytes whole lt h so_far =
    let k : count - i ≡ suc (count - (i + 1)) = omega arith in
    let one : with_front front (words_at total (count - i) bytes) ≡ Err (record { place = place; kind = kind }) = rw (k, h) refl in
    sym so_far ∙ one

pub words_done : (front : List Form) (total count i : ℕ) (bytes : List ℕ) (whole : Items Form) → count ≤ i
    → with_front front (words_at total (count - i) bytes) ≡ whole → whole ≡ Ok (front, bytes)
unfolding words_at
words_done front total count i bytes whole le so_far =
    let k : count - i ≡ 0 = omega arith in
    let one : with_front front (words_at total (count - i) bytes) ≡ Ok (front, bytes) =
    rw k (ap (λ (fs : List Form). Ok (fs, bytes)) (append-nil front)) in
    sym so_far ∙ one

-- ---- know lines

pub lines_go_on : (front : List Line) (total instrs knows i least : ℕ) (bytes : List ℕ) (line : Line) (whole : Items Line) → i < knows
    → line_at total instrs least bytes ≡ Ok line
    → with_front front (lines_at total instrs (knows - i) least bytes) ≡ whole
    → with_front (front ++ line ∷ []) (lines_at total instrs (knows - (i + 1)) (line.0 + 1) (drop 12 bytes)) ≡ whole
unfolding lines_at
lines_go_on front total instrs knows i least bytes k whole lt h so_far =
    let n : knows - i ≡ suc (knows - (i + 1)) = omega arith in
    let one : with_front front (lines_at total instrs (knows - i) least bytes)
    ≡ with_front (front ++ k ∷ []) (lines_at total instrs (knows - (i + 1)) (k.0 + 1) (drop 12 bytes)) = rw (
      n,
      h,
    ) (regroup front k (lines_at total instrs (knows - (i + 1)) (k.0 + 1) (drop 12 bytes))) in
    sym one ∙ so_far

pub lines_end : (e : ImageFault) (front : List Line) (total instrs knows i least : ℕ) (bytes : List ℕ)
    (whole : Items Line) → i < knows
    → Fails e (line_at total instrs least bytes)
    → with_front front (lines_at total instrs (knows - i) least bytes) ≡ whole → Fails e whole
unfolding lines_at
lines_end errors.Memory front total instrs knows i least bytes whole lt h so_far = tt
lines_end (errors.Bad place kind) front total instrs knows i least bytes whole lt h so_far =
    let n : knows - i ≡ suc (knows - (i + 1)) = omega arith in
    let one : with_front front (lines_at total instrs (knows - i) least bytes)
    ≡ Err (record { place = place; kind = kind }) = rw (n, h) refl in
    sym so_far ∙ one

pub lines_done : (front : List Line) (total instrs knows i least : ℕ) (bytes : List ℕ) (whole : Items Line) → knows ≤ i
    → with_front front (lines_at total instrs (knows - i) least bytes) ≡ whole → whole ≡ Ok (front, bytes)
unfolding lines_at
lines_done front total instrs knows i least bytes whole le so_far =
    let n : knows - i ≡ 0 = omega arith in
    let one : with_front front (lines_at total instrs (knows - i) least bytes) ≡ Ok (front, bytes) =
    rw n (ap (λ (ks : List Line). Ok (ks, bytes)) (append-nil front)) in
    sym so_far ∙ one
