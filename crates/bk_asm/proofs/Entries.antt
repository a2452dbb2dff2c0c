-- The fields of a know line, one after another.
use Rattle.std.proofs.Common.{◌≡◌, ℕ, ◌^◌, refl, sym, ap, ◌∙◌, [], ◌∷◌, List}
use Rattle.std.specs.Prelude.{Option, Some, None, Err, bit_or}
use Rattle.bk_know.specs.declared.sets.Sets.{Sets}
use Rattle.bk_text.specs.LineWords.{Marked}
use Rattle.bk_text.specs.Faults.{◌>>=◌, or_wrong, wrong, unless, fault_behind}
use Rattle.bk_asm.specs.declared.fault.Kind.TheVariants as kinds
use Rattle.bk_asm.specs.Faults.{At}
use Rattle.bk_asm.specs.Reading.{with_field, entry_of, entries_at}

pub entries_on : (sets : Sets) (seen : ℕ) (bad : Option ℕ) (marked : Marked) (words : List Marked) (e : ℕ × ℕ)
    → entry_of seen marked.word ≡ Some e
    → entries_at sets seen bad (marked ∷ words) ≡ entries_at (with_field sets e.0 e.1) (bit_or seen (2 ^ e.0)) bad words
unfolding entries_at
entries_on sets seen bad w words e is =
    ap (λ o. or_wrong kinds.Byte w kinds.Know o >>= λ e. entries_at (with_field sets e.0 e.1) (bit_or seen (2 ^ e.0)) bad words) is

pub entries_stop : (sets : Sets) (seen : ℕ) (bad : Option ℕ) (marked : Marked) (words : List Marked)
    → entry_of seen marked.word ≡ None
    → entries_at sets seen bad (marked ∷ words) ≡ Err (wrong kinds.Byte marked kinds.Know)
unfolding entries_at
entries_stop sets seen bad w words is =
    ap (λ o. or_wrong kinds.Byte w kinds.Know o >>= λ e. entries_at (with_field sets e.0 e.1) (bit_or seen (2 ^ e.0)) bad words) is

pub entries_end : (sets : Sets) (seen : ℕ) (bad : Option ℕ) → entries_at sets seen bad []
    ≡ unless (fault_behind kinds.Byte kinds.Extra [] bad) sets
unfolding entries_at
entries_end sets seen bad = refl

pub entries_done : (sets : Sets) (seen : ℕ) (bad : Option ℕ) (words : List Marked) (o : Option At) → words ≡ []
    → o ≡ fault_behind kinds.Byte kinds.Extra words bad → entries_at sets seen bad words ≡ unless o sets
unfolding entries_at
entries_done sets seen bad words o none is = ap (λ ws. entries_at sets seen bad ws) none
    ∙ ap (λ f. unless f sets) (sym (is ∙ ap (λ ws. fault_behind kinds.Byte kinds.Extra ws bad) none))
