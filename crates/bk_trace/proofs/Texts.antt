-- Words that read as something are words of a text.
use Rattle.std.proofs.Common.{◌≡◌, ℕ, ◌≤◌, inl, inr, Bool, true, false, not, ◌&&◌, cond, List, [], ◌∷◌, length, refl, sym, ap, ◌∙◌, arith}
use Rattle.std.specs.Prelude.{Option, Some, None, option_and_then, codes, nat_lt, nat_le, ◌==◌, ◌^◌}
use Rattle.std.specs.List.{list_all}
use Rattle.std.specs.Str.{bytes_eq}
use Rattle.std.specs.Str.Parse.{digits_value}
use Rattle.std.proofs.lemmas.Bool.{and_parts, and_from}
use Rattle.std.proofs.lemmas.Bool.Decides.{nat_tests}
use Rattle.std.proofs.lemmas.Option.{option_and_then_some, cond_some}
use Rattle.std.proofs.lemmas.Slice.Eq.{bytes_eq-Decides}
use Rattle.bk_text.specs.Texts.{is_text_byte, is_digit, digits_number, number_of}
use Rattle.bk_text.proofs.LineWords.{tested}
use Rattle.bk_trace.specs.Grammar.{number_below, count_of, address_of, is_config, name_of}
use Rattle.bk_trace.specs.Reading.{config_word}
use Rattle.bk_trace.specs.declared.words.Name.{Name}

-- a word that reads as something is a word of a text
abbrev pub IsTextual : {X : Type 0} → (List ℕ → Option X) → Type 0
IsTextual {X} read = (word : List ℕ) (x : X) → read word ≡ Some x → list_all is_text_byte word ≡ true

digit_is_text : (radix b : ℕ) → radix ≤ 36 → is_digit radix b ≡ true → is_text_byte b ≡ true
digit_is_text radix b small e = grind (arith, nat_tests)

digits_are_text : (radix : ℕ) → radix ≤ 36 → (digits : List ℕ) → list_all (is_digit radix) digits ≡ true
    → list_all is_text_byte digits ≡ true
digits_are_text radix small [] e = refl
digits_are_text radix small (b ∷ digits) e =
    let p = and_parts (is_digit radix b) (list_all (is_digit radix) digits) e in
    and_from (is_text_byte b) (list_all is_text_byte digits) (digit_is_text radix b small p.0) (digits_are_text radix small digits p.1)

number_digits : (radix most : ℕ) (digits : List ℕ) (n : ℕ) → digits_number radix most digits ≡ Some n
    → list_all (is_digit radix) digits ≡ true
unfolding digits_number
number_digits radix most digits n e =
    let t = cond_some (nat_le 1 (length digits) && nat_le (length digits) most && list_all (is_digit radix) digits
    && nat_lt (digits_value radix digits) (2 ^ 64)) (digits_value radix digits) n e in
    let p = and_parts (nat_le 1 (length digits) && nat_le (length digits) most && list_all (is_digit radix) digits)
    (nat_lt (digits_value radix digits) (2 ^ 64)) t.0 in
    (and_parts (nat_le 1 (length digits) && nat_le (length digits) most) (list_all (is_digit radix) digits) p.0).1

number_text : (radix most : ℕ) (digits : List ℕ) (n : ℕ) → radix ≤ 36 → digits_number radix most digits ≡ Some n
    → list_all is_text_byte digits ≡ true
number_text radix most digits n small e = digits_are_text radix small digits (number_digits radix most digits n e)

hex_text : (a b : ℕ) (digits : List ℕ) (n : ℕ) → (test : Bool) → (a == 48 && b == 120) ≡ test
    → cond test (digits_number 16 16 digits) (digits_number 10 20 (a ∷ b ∷ digits)) ≡ Some n
    → list_all is_text_byte (a ∷ b ∷ digits) ≡ true
hex_text a b digits n true is e =
    let p = and_parts (a == 48) (b == 120) is in
    let first : is_text_byte a ≡ true = grind (arith, nat_tests, p.0) in
    let second : is_text_byte b ≡ true = grind (arith, nat_tests, p.1) in
    and_from (is_text_byte a) (is_text_byte b && list_all is_text_byte digits) first
    (and_from (is_text_byte b) (list_all is_text_byte digits) second (number_text 16 16 digits n (omega arith) e))
hex_text a b digits n false is e = number_text 10 20 (a ∷ b ∷ digits) n (omega arith) e

pub numbers_textual : IsTextual number_of
numbers_textual [] n e = number_text 10 20 [] n (omega arith) e
numbers_textual (a ∷ []) n e = number_text 10 20 (a ∷ []) n (omega arith) e
numbers_textual (a ∷ b ∷ digits) n e = hex_text a b digits n (a == 48 && b == 120) refl e

-- what is read by a number is textual
by_number : {X : Type 0} (f : ℕ → Option X) (word : List ℕ) (x : X) → option_and_then f (number_of word) ≡ Some x
    → list_all is_text_byte word ≡ true
by_number f word x e = option_and_then_some f (number_of word) x e (λ n is rest. numbers_textual word n is)

pub below_textual : (limit : ℕ) → IsTextual (number_below limit)
unfolding number_below
below_textual limit word n e = by_number (λ n. cond (nat_lt n limit) (Some n) None) word n e

pub count_textual : (test : ℕ → Bool) → IsTextual (count_of test)
unfolding count_of
count_textual test word n e =
    option_and_then_some (λ n. cond (test n) (Some n) None) (number_below 65 word) n e (λ m is rest. below_textual 65 word m is)

pub address_textual : IsTextual address_of
unfolding address_of
address_textual word n e = by_number _ word n e

pub literal : (word text : List ℕ) → list_all is_text_byte text ≡ true → bytes_eq word text ≡ true
    → list_all is_text_byte word ≡ true
literal word text plain e = ap (list_all is_text_byte) ((bytes_eq-Decides word text).0 e) ∙ plain

pub config_textual : IsTextual config_word
config_textual word x e = literal word (codes "config") refl (cond_some (is_config word) true x e).0

-- one more name
name_or : (word text : List ℕ) (name : Name) (others : Option Name) (x : Name) → list_all is_text_byte text ≡ true
    → (others ≡ Some x → list_all is_text_byte word ≡ true) → cond (bytes_eq word text) (Some name) others ≡ Some x
    → list_all is_text_byte word ≡ true
name_or word text name others x plain more e = elim (tested (bytes_eq word text)) [
  | inl is ↦ literal word text plain is
  | inr not ↦ more (sym (ap (λ t. cond t (Some name) others) not) ∙ e)
]

pub names_textual : IsTextual name_of
names_textual word x e =
    name_or word (codes "L") _ _ x refl
    (λ f. name_or word (codes "S") _ _ x refl (λ g. name_or word (codes "UL") _ _ x refl (λ h. name_or word (codes "US") _ _ x refl
    (λ i. literal word (codes "EV") refl (cond_some (bytes_eq word (codes "EV")) _ x i).0) h) g) f) e
