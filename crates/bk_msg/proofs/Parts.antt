-- A message that is read is the one that was spelled: bytes and fields, part by part.
use Rattle.std.proofs.Common.{◌≡◌, ℕ, zero, suc, ◌+◌, ◌*◌, ◌%◌, ◌<◌, ◌≤◌, List, [], ◌∷◌, ◌++◌, length, get_or, take, drop, refl, sym, ap, ◌∙◌, append_assoc, arith, inl, inr}
use Rattle.std.specs.Int.{w64, from_le_bytes}
use Rattle.std.specs.List.{flat_map, AllByRecursion}
use Rattle.std.proofs.lemmas.Bool.{cases_lt}
use Rattle.std.proofs.lemmas.List.{take_at, drop_at, length-append, length-take, length-drop, get_or-drop, get_or-take, get_or_past, drop-drop}
use Rattle.std.proofs.lemmas.List.Concat.{flat_map-cons}
use Rattle.std.proofs.lemmas.Nat.{le_bytes_8, from_le_bytes-to_le_bytes_8}
use Rattle.bk_msg.specs.declared.fields.Payload.{Payload}
use Rattle.bk_msg.specs.declared.fields.Payload.TheVariants as payloads
use Rattle.bk_msg.specs.declared.table.Load.{Load}
use Rattle.bk_msg.specs.declared.table.Load.TheVariants as loads
use Rattle.bk_msg.specs.declared.table.Unit.{Unit as Aligns}
use Rattle.bk_msg.specs.declared.table.Unit.TheVariants as units
use Rattle.bk_msg.specs.Table.{unit_bytes, load_words, load_bytes}
use Rattle.bk_msg.specs.Fields.{words_of}
use Rattle.bk_msg.specs.Spelling.{word, IsWord, IsPayload}
use Rattle.bk_msg.specs.Reading.{word_at, words_at, payload_at}

abbrev pub IsBytes : List ℕ → Type 0
IsBytes bytes = (i : ℕ) → get_or bytes i 0 < 256

pub IsBytes-drop : (n : ℕ) (bytes : List ℕ) → IsBytes bytes → IsBytes (drop n bytes)
IsBytes-drop n bytes h i = rw get_or-drop (h (n + i))

pub IsBytes-take : (n : ℕ) (bytes : List ℕ) → IsBytes bytes → IsBytes (take n bytes)
IsBytes-take n bytes h i =
    elim (cases_lt i n) [
      | inl lt ↦ rw (get_or-take n bytes i 0 lt) (h i)
      | inr le ↦ rw (get_or_past (take n bytes) i 0 (omega (arith, length-take n bytes))) (omega arith)
    ]

-- ---- one word

pub word_back : (place : ℕ) (bytes : List ℕ) → IsBytes bytes → place + 8 ≤ length bytes
    → word (word_at place bytes) ≡ take 8 (drop place bytes)
word_back place bytes fits long =
    le_bytes_8 (take 8 (drop place bytes)) _ (omega (arith, length-take 8 (drop place bytes), length-drop place bytes))
    (IsBytes-take 8 (drop place bytes) (IsBytes-drop place bytes fits)) refl

pub word_small : (place : ℕ) (bytes : List ℕ) → IsBytes bytes → IsWord (word_at place bytes)
word_small place bytes fits =
    let f = IsBytes-take 8 (drop place bytes) (IsBytes-drop place bytes fits) in
    omega (arith, f 0, f 1, f 2, f 3, f 4, f 5, f 6, f 7)

pub word_again : (front rest : List ℕ) (n place : ℕ) → length front ≡ place → IsWord n
    → word_at place (front ++ (word n ++ rest)) ≡ n
word_again front rest n place at small =
    let front_is : drop place (front ++ (word n ++ rest)) ≡ word n ++ rest = drop_at front (word n ++ rest) place at in
    ap (λ (text : List ℕ). from_le_bytes w64 (take 8 text)) front_is
    ∙ (ap (from_le_bytes w64) (take_at (word n) rest 8 refl) ∙ from_le_bytes-to_le_bytes_8 n small)

-- ---- words

abbrev nothing : List ℕ
nothing = []

take-nil : (b : ℕ) → take b nothing ≡ []
take-nil zero = refl
take-nil (suc b) = refl

pub take-more : (a b : ℕ) (xs : List ℕ) → take a xs ++ take b (drop a xs) ≡ take (a + b) xs
take-more zero b xs = let k : 0 + b ≡ b = omega arith in rw k refl
take-more (suc a) b [] = let k : suc a + b ≡ suc (a + b) = omega arith in rw k (take-nil b)
take-more (suc a) b (x ∷ xs) = let k : suc a + b ≡ suc (a + b) = omega arith
    in rw k (ap (λ (text : List ℕ). x ∷ text) (take-more a b xs))

pub words_back : (n place : ℕ) (bytes : List ℕ) → IsBytes bytes → place + 8 * n ≤ length bytes
    → flat_map word (words_at place n bytes) ≡ take (8 * n) (drop place bytes)
words_back zero place bytes fits long = refl
words_back (suc n) place bytes fits long =
    let others = words_back n (place + 8) bytes fits (omega (arith, long)) in
    let first = word_back place bytes fits (omega (arith, long)) in
    let k : 8 + 8 * n ≡ 8 * suc n = omega arith in
    flat_map-cons word (word_at place bytes) (words_at (place + 8) n bytes)
    ∙ (ap (λ (text : List ℕ). text ++ flat_map word (words_at (place + 8) n bytes)) first
    ∙ (ap (λ (text : List ℕ). take 8 (drop place bytes) ++ text) others
    ∙ (ap (λ (text : List ℕ). take 8 (drop place bytes) ++ take (8 * n) text) (sym (drop-drop 8 place bytes))
    ∙ (take-more 8 (8 * n) (drop place bytes) ∙ ap (λ (number : ℕ). take number (drop place bytes)) k))))

pub words_small : (n place : ℕ) (bytes : List ℕ) → IsBytes bytes → AllByRecursion IsWord (words_at place n bytes)
words_small zero place bytes fits = tt
words_small (suc n) place bytes fits = (word_small place bytes fits, words_small n (place + 8) bytes fits)

pub words_again : (ws front rest : List ℕ) (n place : ℕ) → length front ≡ place → length ws ≡ n → AllByRecursion IsWord ws
    → words_at place n (front ++ (flat_map word ws ++ rest)) ≡ ws
words_again [] front rest zero place at len small = refl
words_again [] front rest (suc n) place at len small = absurd (omega (arith, len))
words_again (w ∷ ws) front rest zero place at len small = absurd (omega (arith, len))
words_again (w ∷ ws) front rest (suc n) place at len small =
    let after = flat_map word ws ++ rest in
    let whole = front ++ (flat_map word (w ∷ ws) ++ rest) in
    let first_off : flat_map word (w ∷ ws) ++ rest ≡ word w ++ after = ap (λ (text : List ℕ). text ++ rest) (flat_map-cons word w ws)
    ∙ append_assoc (word w) (flat_map word ws) rest in
    let behind : whole ≡ front ++ (word w ++ after) = ap (λ (text : List ℕ). front ++ text) first_off in
    let beyond : whole ≡ (front ++ word w) ++ after = behind ∙ sym (append_assoc front (word w) after) in
    let one : word_at place whole ≡ w = ap (word_at place) behind ∙ word_again front after w place at small.0 in
    let others : words_at (place + 8) n whole ≡ ws = ap (words_at (place + 8) n) beyond
    ∙ words_again ws (front ++ word w) rest n (place + 8) (omega (arith, at, length-append front (word w)))
    (omega (arith, len)) small.1 in
    ap (λ (v : ℕ). v ∷ words_at (place + 8) n whole) one ∙ ap (λ (vs : List ℕ). w ∷ vs) others

-- ---- payloads

words_of_payload : (load : Load) (bytes : List ℕ) → words_of (payload_at load bytes) ≡ words_at 16 (load_words load) bytes
words_of_payload loads.Nothing bytes = refl
words_of_payload loads.Word bytes = refl
words_of_payload loads.Block bytes = refl

pub payload_back : (load : Load) (bytes : List ℕ) → IsBytes bytes → 16 + load_bytes load ≤ length bytes
    → flat_map word (words_of (payload_at load bytes)) ≡ take (load_bytes load) (drop 16 bytes)
payload_back load bytes fits long = rw (words_of_payload load bytes) (words_back (load_words load) 16 bytes fits long)

pub payload_fits : (load : Load) (bytes : List ℕ) → IsBytes bytes → IsPayload load (payload_at load bytes)
payload_fits loads.Nothing bytes fits = tt
payload_fits loads.Word bytes fits = word_small 16 bytes fits
payload_fits loads.Block bytes fits = (refl, words_small 8 16 bytes fits)

pub payload_again : (load : Load) (p : Payload) (front rest : List ℕ) → IsPayload load p → length front ≡ 16
    → payload_at load (front ++ (flat_map word (words_of p) ++ rest)) ≡ p
payload_again loads.Nothing payloads.Nothing front rest h at = refl
payload_again loads.Nothing (payloads.Word w) front rest h at = absurd h
payload_again loads.Nothing (payloads.Block ws) front rest h at = absurd h
payload_again loads.Word payloads.Nothing front rest h at = absurd h
payload_again loads.Word (payloads.Word w) front rest h at = ap (λ (n : ℕ). payloads.Word n) (word_again front rest w 16 at h)
payload_again loads.Word (payloads.Block ws) front rest h at = absurd h
payload_again loads.Block payloads.Nothing front rest h at = absurd h
payload_again loads.Block (payloads.Word w) front rest h at = absurd h
payload_again loads.Block (payloads.Block ws) front rest h at =
    ap (λ (ns : List ℕ). payloads.Block ns) (words_again ws front rest 8 16 at h.0 h.1)

pub words_length : (ws : List ℕ) → length (flat_map word ws) ≡ 8 * length ws
words_length [] = refl
words_length (w ∷ ws) = omega (arith, ap length (flat_map-cons word w ws), length-append (word w) (flat_map word ws), words_length ws)

pub payload_length : (load : Load) (p : Payload) → IsPayload load p → length (flat_map word (words_of p)) ≡ load_bytes load
payload_length loads.Nothing payloads.Nothing h = refl
payload_length loads.Nothing (payloads.Word w) h = absurd h
payload_length loads.Nothing (payloads.Block ws) h = absurd h
payload_length loads.Word payloads.Nothing h = absurd h
payload_length loads.Word (payloads.Word w) h = refl
payload_length loads.Word (payloads.Block ws) h = absurd h
payload_length loads.Block payloads.Nothing h = absurd h
payload_length loads.Block (payloads.Word w) h = absurd h
payload_length loads.Block (payloads.Block ws) h = omega (arith, words_length ws, h.0)

-- ---- the address

-- a number and its lowest byte are multiples of the same units
pub aligned_low : (unit : Aligns) (low high : ℕ) → low % unit_bytes unit ≡ 0 → (low + 256 * high) % unit_bytes unit ≡ 0
aligned_low units.Block low high h = omega arith
aligned_low units.Word low high h = omega arith

pub low_aligned : (unit : Aligns) (n : ℕ) → n % unit_bytes unit ≡ 0 → n % 256 % unit_bytes unit ≡ 0
low_aligned units.Block n h = omega arith
low_aligned units.Word n h = omega arith

-- an address of a unit is one of a word
pub word_aligned : (unit : Aligns) (n : ℕ) → n % unit_bytes unit ≡ 0 → n % 8 ≡ 0
word_aligned units.Block n h = omega arith
word_aligned units.Word n h = omega arith
