-- The limit that the lines of a text give: before all else, and once.
use Rattle.std.proofs.Common.{◌≡◌, ◌⊎◌, ℕ, Bool, true, false, ◌||◌, not, ◌==◌, cond, Option, Some, None, List, [], ◌∷◌, ◌++◌, length, refl, sym, ap, subst, ◌∙◌, inl, inr, true≢false, arith}
use Rattle.std.specs.Prelude.{is_some}
use Rattle.std.proofs.lemmas.Bool.Decides.{nat_tests}
use Rattle.std.proofs.lemmas.List.{length_push}
use Rattle.bk_base.specs.Counting.{or_else}
use Rattle.bk_asm.specs.Programs.{Statement}
use Rattle.bk_asm.specs.Reading.{Draft, has_begun, with_limit, after}
use Rattle.bk_asm.proofs.SpelledDrafts.{Follows}
use Rattle.bk_asm.proofs.SpelledLine.{Stated, Empty, Mask, Does, StatedLine, IsFirst, line_parts}

-- the limit that some line gives
abbrev pub stated_limit : List StatedLine → Option ℕ
stated_limit [] = None
stated_limit (s ∷ more) = cond (is_some s.limit) s.limit (stated_limit more)

abbrev pub IsStatedEmpty : StatedLine → Type 0
IsStatedEmpty s = (s.limit ≡ None) × (s.label ≡ None) × (s.content ≡ Empty)

-- a limit is given by the first line that says something alone
abbrev pub IsStatedLed : List StatedLine → Type 0
IsStatedLed [] = Unit {0}
IsStatedLed (s ∷ more) = (IsStatedEmpty s × IsStatedLed more) ⊎ (stated_limit more ≡ None)

-- ---- what a line leaves of the limit

limit_kept : (limit : Option ℕ) (label : Option (List ℕ)) (c : Stated) (d : Draft)
    → (after (line_parts limit label c) d).limit ≡ (with_limit limit d).limit
limit_kept limit None Empty d = refl
limit_kept limit None (Mask sets) d = refl
limit_kept limit None (Does s) d = refl
limit_kept limit (Some name) Empty d = refl
limit_kept limit (Some name) (Mask sets) d = refl
limit_kept limit (Some name) (Does s) d = refl

not_begun : (d : Draft) → has_begun d ≡ false → d.limit ≡ None
not_begun d e = lem d.limit d.waits (is_some d.know) (not (length d.statements == 0)) e
  where
    lem : (o : Option ℕ) (a b test : Bool) → (is_some o || a || b || test) ≡ false → o ≡ None
    lem None a b test e = refl
    lem (Some n) a b test e = absurd cc

next_limit : (limit : Option ℕ) (d : Draft) (more : Option ℕ) → IsFirst (has_begun d) limit
    → or_else (with_limit limit d).limit more ≡ or_else d.limit (cond (is_some limit) limit more)
next_limit None d more first = refl
next_limit (Some limit) d more first = ap (λ (o : Option ℕ). or_else o (Some limit)) (sym (not_begun d first.0))

or_nothing : (o : Option ℕ) → o ≡ or_else o None
or_nothing None = refl
or_nothing (Some n) = refl

-- what was read has the limit that was there before, or that of the lines
pub limit_left : (d : Draft) (texts : List (List ℕ)) (ss : List StatedLine) (e : Draft) → Follows d texts ss e
    → e.limit ≡ or_else d.limit (stated_limit ss)
limit_left d [] [] e h = ap (λ (d : Draft). d.limit) (sym h) ∙ or_nothing d.limit
limit_left d [] (s ∷ ss) e h = absurd h
limit_left d (text ∷ texts) [] e h = absurd h
limit_left d (text ∷ texts) (s ∷ ss) e h =
    limit_left (after (line_parts s.limit s.label s.content) d) texts ss e h.4
    ∙ ap (λ (o : Option ℕ). or_else o (stated_limit ss)) (limit_kept s.limit s.label s.content d)
    ∙ next_limit s.limit d (stated_limit ss) h.3

-- ---- once something was read, no limit comes

any_last : (a b test : Bool) → (a || b || test || true) ≡ true
any_last true b test = refl
any_last false true test = refl
any_last false false true = refl
any_last false false false = refl

any_third : (a b d : Bool) → (a || b || true || d) ≡ true
any_third true b d = refl
any_third false true d = refl
any_third false false d = refl

any_second : (a b d : Bool) → (a || true || b || d) ≡ true
any_second true b d = refl
any_second false b d = refl

pushed : (statements : List Statement) (statement : Statement) → not (length (statements ++ statement ∷ []) == 0) ≡ true
pushed statements statement = let n = length_push statements statement in grind (arith, nat_tests, n)

does_begin : (limit : Option ℕ) (statements : List Statement) (statement : Statement)
    → (is_some limit || false || false || not (length (statements ++ statement ∷ []) == 0)) ≡ true
does_begin limit statements statement = rw (pushed statements statement) (any_last (is_some limit) false false)

-- a line without a limit says nothing, or else something was read then
said : (label : Option (List ℕ)) (c : Stated) (d : Draft)
    → ((label ≡ None) × (c ≡ Empty)) ⊎ (has_begun (after (line_parts None label c) d) ≡ true)
said None Empty d = inl (refl, refl)
said None (Mask sets) d = inr (any_third (is_some d.limit) d.waits (not (length d.statements == 0)))
said None (Does s) d = inr (does_begin d.limit d.statements s)
said (Some name) Empty d = inr (any_second (is_some d.limit) (is_some d.know) (not (length d.statements == 0)))
said (Some name) (Mask sets) d = inr (any_second (is_some d.limit) true (not (length d.statements == 0)))
said (Some name) (Does s) d = inr (does_begin d.limit d.statements s)

still_begun : (label : Option (List ℕ)) (c : Stated) (d : Draft) → has_begun d ≡ true
    → has_begun (after (line_parts None label c) d) ≡ true
still_begun None Empty d e = e
still_begun None (Mask sets) d e = any_third (is_some d.limit) d.waits (not (length d.statements == 0))
still_begun None (Does s) d e = does_begin d.limit d.statements s
still_begun (Some name) Empty d e = any_second (is_some d.limit) (is_some d.know) (not (length d.statements == 0))
still_begun (Some name) (Mask sets) d e = any_second (is_some d.limit) true (not (length d.statements == 0))
still_begun (Some name) (Does s) d e = does_begin d.limit d.statements s

limit_begins : (limit : ℕ) (label : Option (List ℕ)) (c : Stated) (d : Draft)
    → has_begun (after (line_parts (Some limit) label c) d) ≡ true
limit_begins limit None Empty d = refl
limit_begins limit None (Mask sets) d = refl
limit_begins limit None (Does s) d = refl
limit_begins limit (Some name) Empty d = refl
limit_begins limit (Some name) (Mask sets) d = refl
limit_begins limit (Some name) (Does s) d = refl

none_later : (d : Draft) (texts : List (List ℕ)) (ss : List StatedLine) (e : Draft) → Follows d texts ss e → has_begun d ≡ true
    → stated_limit ss ≡ None
none_later d [] [] e h b = refl
none_later d [] (s ∷ ss) e h b = absurd h
none_later d (text ∷ texts) [] e h b = absurd h
none_later d (text ∷ texts) (s ∷ ss) e h b =
    by s.limit refl h.3 (λ begun. none_later (after (line_parts s.limit s.label s.content) d) texts ss e h.4 begun)
  where
    by : (o : Option ℕ) → s.limit ≡ o → IsFirst (has_begun d) o
        → (has_begun (after (line_parts s.limit s.label s.content) d) ≡ true → stated_limit ss ≡ None)
        → cond (is_some o) o (stated_limit ss) ≡ None
    by None is first more =
        more (subst (λ (o : Option ℕ). has_begun (after (line_parts o s.label s.content) d) ≡ true) (sym is)
        (still_begun s.label s.content d b))
    by (Some limit) is first more = absurd (true≢false (sym b ∙ first.0))

-- so a limit is given by the first line that says something, or by none
pub led : (d : Draft) (texts : List (List ℕ)) (ss : List StatedLine) (e : Draft) → Follows d texts ss e → IsStatedLed ss
led d [] [] e h = tt
led d [] (s ∷ ss) e h = absurd h
led d (text ∷ texts) [] e h = absurd h
led d (text ∷ texts) (s ∷ ss) e h =
    by s.limit refl (led (after (line_parts s.limit s.label s.content) d) texts ss e h.4)
    (λ begun. none_later (after (line_parts s.limit s.label s.content) d) texts ss e h.4 begun)
  where
    here : (o : Option ℕ) → s.limit ≡ o → has_begun (after (line_parts o s.label s.content) d) ≡ true
        → has_begun (after (line_parts s.limit s.label s.content) d) ≡ true
    here o is e = subst (λ (o : Option ℕ). has_begun (after (line_parts o s.label s.content) d) ≡ true) (sym is) e

    by : (o : Option ℕ) → s.limit ≡ o → IsStatedLed ss
        → (has_begun (after (line_parts s.limit s.label s.content) d) ≡ true → stated_limit ss ≡ None) → IsStatedLed (s ∷ ss)
    by None is more none = elim (said s.label s.content d) [
      | inl nothing ↦ inl ((is, nothing.0, nothing.1), more)
      | inr begun ↦ inr (none (here None is begun))
    ]
    by (Some limit) is more none = inr (none (here (Some limit) is (limit_begins limit s.label s.content d)))
