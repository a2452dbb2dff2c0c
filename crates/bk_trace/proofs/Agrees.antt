-- A line is read exactly where it is of the grammar.
use Rattle.std.proofs.Common.{◌≡◌, ℕ, Bool, true, false, ◌&&◌, cond, List, [], ◌∷◌, map, refl, sym, ap, ◌∙◌}
use Rattle.std.specs.Prelude.{Option, Some, None, is_none, option_and_then, Result, Ok, Err}
use Rattle.std.specs.Option.{option_map}
use Rattle.std.specs.List.{list_all}
use Rattle.bk_base.specs.Places.{Shape, is_cache_count, is_way_count, is_set_count}
use Rattle.bk_base.specs.declared.op.Op.{Op}
use Rattle.bk_base.specs.declared.op.Op.TheVariants.{Load, Store, UcLoad, UcStore, Evict}
use Rattle.bk_text.specs.Texts.{is_text_byte, number_of}
use Rattle.bk_text.specs.LineWords.{Marked, LineWords}
use Rattle.bk_text.proofs.Laws.{bytes_of, is_text_word, is_text_line}
use Rattle.bk_text.specs.Faults.{◌>>=◌, or_wrong, fault_behind, unless}
use Rattle.bk_trace.specs.Grammar.{number_below, count_of, address_of, is_config, shape_of, name_of, op_of, operation_of}
use Rattle.bk_trace.specs.Reading.{field, done, config_word, config_at, op_at, operation_at}
use Rattle.bk_trace.specs.declared.words.Name.{Name}
use Rattle.bk_trace.specs.declared.words.Name.TheVariants as names
use Rattle.bk_trace.specs.declared.fault.Kind.{Kind}
use Rattle.bk_trace.specs.declared.fault.Kind.TheVariants as kinds
use Rattle.bk_trace.specs.Faults.{At}
use Rattle.bk_trace.proofs.Texts.{IsTextual, numbers_textual, below_textual, count_textual, address_textual, config_textual, names_textual}

-- what was read, if it was
abbrev pub ok_of : {X E : Type 0} → Result X E → Option X
ok_of (Ok x) = Some x
ok_of (Err e) = None

abbrev pub guard : {X : Type 0} → Bool → Option X → Option X
guard b o = cond b o None

pub guard_none : {X : Type 0} (b : Bool) → guard {X = X} b None ≡ None
guard_none true = refl
guard_none false = refl

-- the grammar on words with their columns: the next word, as it is read
abbrev next_in : {X Y : Type 0} → (List ℕ → Option X) → (X → List Marked → Option Y) → List Marked → Option Y
next_in read follow [] = None
next_in read follow (w ∷ words) = option_and_then (λ x. follow x words) (read w.word)

abbrev none_left : {X : Type 0} → X → List Marked → Option X
none_left x [] = Some x
none_left x (w ∷ words) = None

-- a reader gives what the grammar has for the words, where the line is one of a text
abbrev Agrees : {Y : Type 0} → (LineWords → Result Y At) → (List Marked → Option Y) → Type 0
Agrees reader follow = (left : LineWords) → ok_of (reader left) ≡ guard (is_text_line left) (follow left.words)

abbrev left_in : {X : Type 0} → LineWords → X → Result (X × LineWords) At
left_in left x = Ok (x, left)

read_word : {X Y : Type 0} (kind : Kind) (read : List ℕ → Option X) → IsTextual read
    → (k : X → LineWords → Result Y At) (follow : X → List Marked → Option Y)
    → ((x : X) → Agrees (k x) (follow x)) → (marked : Marked) (words : List Marked) (bad : Option ℕ) (end : ℕ) (o : Option X)
    → read marked.word ≡ o
    → ok_of ((or_wrong kinds.Byte marked kind o >>= left_in (record { words = words; bad = bad; end = end })) >>= λ x. k x.0 x.1)
    ≡ guard (list_all is_text_byte marked.word && list_all is_text_word words && is_none bad) (option_and_then (λ x. follow x words) o)
read_word kind read textual k follow agrees marked words bad end None e =
    sym (guard_none (list_all is_text_byte marked.word && list_all is_text_word words && is_none bad))
read_word kind read textual k follow agrees marked words bad end (Some x) e =
    agrees x (record { words = words; bad = bad; end = end })
    ∙ ap (λ t. guard (t && list_all is_text_word words && is_none bad) (follow x words)) (sym (textual marked.word x e))

field_agrees : {X Y : Type 0} (kind : Kind) (read : List ℕ → Option X) → IsTextual read
    → (k : X → LineWords → Result Y At) (follow : X → List Marked → Option Y)
    → ((x : X) → Agrees (k x) (follow x)) → (words : List Marked) (bad : Option ℕ) (end : ℕ)
    → ok_of (field kind read (record { words = words; bad = bad; end = end }) >>= λ x. k x.0 x.1)
    ≡ guard (list_all is_text_word words && is_none bad) (next_in read follow words)
unfolding field
field_agrees kind read textual k follow agrees [] bad end = sym (guard_none (is_none bad))
field_agrees kind read textual k follow agrees (w ∷ words) bad end =
    read_word kind read textual k follow agrees w words bad end (read w.word) refl

done_agrees : {X : Type 0} (x : X) (words : List Marked) (bad : Option ℕ)
    → ok_of {E = At} (unless (fault_behind kinds.Byte kinds.Extra words bad) x)
    ≡ guard (list_all is_text_word words && is_none bad) (none_left x words)
done_agrees x [] None = refl
done_agrees x [] (Some column) = refl
done_agrees x (w ∷ words) bad = sym (guard_none (list_all is_text_word (w ∷ words) && is_none bad))

-- ---- binds that give nothing, or the same

bind_nothing : {A B : Type 0} (o : Option A) (f : A → Option B) → ((x : A) → f x ≡ None) → option_and_then f o ≡ None
bind_nothing None f h = refl
bind_nothing (Some x) f h = h x

bind_same : {A B : Type 0} (o : Option A) (f g : A → Option B) → ((x : A) → f x ≡ g x)
    → option_and_then f o ≡ option_and_then g o
bind_same None f g h = refl
bind_same (Some x) f g h = h x

abbrev stored : {A : Type 0} → (A → Op) → A × LineWords → Result (Op × LineWords) At
stored f x = Ok (f x.0, x.1)

abbrev paired : ℕ → Op → Option (ℕ × Op)
paired cache op = Some (cache, op)

bind_then : {A B : Type 0} (r : Result (A × LineWords) At) (f : A → Op) (k : Op → LineWords → Result B At)
    → ((r >>= stored f) >>= λ x. k x.0 x.1) ≡ (r >>= λ x. k (f x.0) x.1)
bind_then (Ok x) f k = refl
bind_then (Err e) f k = refl

-- ---- an operation

-- a name, an address and the words behind it
abbrev op_words : ℕ → Name → ℕ → List Marked → Option (ℕ × Op)
op_words cache names.Load address words = none_left (cache, Load address) words
op_words cache names.Store address words = next_in number_of (λ v. none_left (cache, Store address v)) words
op_words cache names.UcLoad address words = none_left (cache, UcLoad address) words
op_words cache names.UcStore address words = next_in number_of (λ v. none_left (cache, UcStore address v)) words
op_words cache names.Evict address words = none_left (cache, Evict address) words

abbrev finish : ℕ → Op → LineWords → Result (ℕ × Op) At
finish cache op left = done left (cache, op)

store_agrees : (cache : ℕ) (store : ℕ → Op) (left : LineWords)
    → ok_of ((field kinds.Value number_of left >>= stored store) >>= λ op. finish cache op.0 op.1)
    ≡ guard (is_text_line left) (next_in number_of (λ v. none_left (cache, store v)) left.words)
store_agrees cache store left =
    ap ok_of (bind_then (field kinds.Value number_of left) store (finish cache))
    ∙ field_agrees kinds.Value number_of numbers_textual (λ v. finish cache (store v)) (λ v. none_left (cache, store v))
    (λ v r. done_agrees (cache, store v) r.words r.bad) left.words left.bad left.end

op_agrees : (cache : ℕ) (name : Name) (address : ℕ)
    → Agrees (λ left. op_at name address left >>= λ op. finish cache op.0 op.1) (op_words cache name address)
unfolding op_at
op_agrees cache names.Load address left = done_agrees (cache, Load address) left.words left.bad
op_agrees cache names.Store address left = store_agrees cache (Store address) left
op_agrees cache names.UcLoad address left = done_agrees (cache, UcLoad address) left.words left.bad
op_agrees cache names.UcStore address left = store_agrees cache (UcStore address) left
op_agrees cache names.Evict address left = done_agrees (cache, Evict address) left.words left.bad

abbrev with_address : ℕ → Name → LineWords → Result (ℕ × Op) At
with_address cache name left =
    field kinds.Address address_of left >>= λ address. op_at name address.0 address.1 >>= λ op. finish cache op.0 op.1

abbrev with_name : ℕ → LineWords → Result (ℕ × Op) At
with_name cache left = field kinds.Name name_of left >>= λ name. with_address cache name.0 name.1

address_agrees : (cache : ℕ) (name : Name) → Agrees (with_address cache name) (next_in address_of (op_words cache name))
address_agrees cache name left = field_agrees kinds.Address address_of address_textual
    (λ address r. op_at name address r >>= λ op. finish cache op.0 op.1) (op_words cache name) (op_agrees cache name) left.words
    left.bad left.end

name_agrees : (cache : ℕ) → Agrees (with_name cache) (next_in name_of (λ name. next_in address_of (op_words cache name)))
name_agrees cache left = field_agrees kinds.Name name_of names_textual (with_address cache)
    (λ name. next_in address_of (op_words cache name)) (address_agrees cache) left.words left.bad left.end

-- the words of an operation
abbrev operation_words : ℕ → List Marked → Option (ℕ × Op)
operation_words caches words =
    next_in (number_below caches) (λ cache. next_in name_of (λ name. next_in address_of (op_words cache name))) words

cache_agrees : (caches : ℕ) → Agrees (operation_at caches) (operation_words caches)
unfolding operation_at
cache_agrees caches left = field_agrees kinds.Cache (number_below caches) (below_textual caches) with_name
    (λ cache. next_in name_of (λ name. next_in address_of (op_words cache name))) name_agrees left.words left.bad left.end

one_value : (cache : ℕ) (store : ℕ → Op) (o : Option ℕ) → option_and_then (λ v. paired cache (store v)) o
    ≡ option_and_then (paired cache) (option_map store o)
one_value cache store None = refl
one_value cache store (Some v) = refl

op_words_are : (cache : ℕ) (name : Name) (address : ℕ) (words : List Marked)
    → op_words cache name address words ≡ option_and_then (paired cache) (op_of name address (map bytes_of words))
op_words_are cache names.Load address [] = refl
op_words_are cache names.Load address (w ∷ words) = refl
op_words_are cache names.Store address [] = refl
op_words_are cache names.Store address (w ∷ []) = one_value cache (Store address) (number_of w.word)
op_words_are cache names.Store address (w ∷ v ∷ words) = bind_nothing (number_of w.word) _ (λ n. refl)
op_words_are cache names.UcLoad address [] = refl
op_words_are cache names.UcLoad address (w ∷ words) = refl
op_words_are cache names.UcStore address [] = refl
op_words_are cache names.UcStore address (w ∷ []) = one_value cache (UcStore address) (number_of w.word)
op_words_are cache names.UcStore address (w ∷ v ∷ words) = bind_nothing (number_of w.word) _ (λ n. refl)
op_words_are cache names.Evict address [] = refl
op_words_are cache names.Evict address (w ∷ words) = refl

operation_words_are : (caches : ℕ) (words : List Marked) → operation_words caches words ≡ operation_of caches (map bytes_of words)
unfolding operation_of
operation_words_are caches [] = refl
operation_words_are caches (w ∷ []) = bind_nothing (number_below caches w.word) _ (λ c. refl)
operation_words_are caches (w ∷ v ∷ []) =
    bind_nothing (number_below caches w.word) _ (λ c. bind_nothing (name_of v.word) _ (λ n. refl))
operation_words_are caches (w ∷ v ∷ u ∷ words) =
    bind_same (number_below caches w.word) _ _
    (λ c. bind_same (name_of v.word) _ _ (λ n. bind_same (address_of u.word) _ _ (λ a. op_words_are c n a words)))

-- a line of an operation
pub operation_agrees : (caches : ℕ) (left : LineWords) → ok_of (operation_at caches left)
    ≡ guard (is_text_line left) (operation_of caches (map bytes_of left.words))
operation_agrees caches left = cache_agrees caches left ∙ ap (guard (is_text_line left)) (operation_words_are caches left.words)

-- ---- a configuration

abbrev shape : ℕ → ℕ → ℕ → Shape
shape c set w = record { caches = c; sets = set; ways = w }

abbrev with_ways : ℕ → ℕ → LineWords → Result Shape At
with_ways c set left = field kinds.Config (count_of is_way_count) left >>= λ ways. done ways.1 (shape c set ways.0)

abbrev with_sets : ℕ → LineWords → Result Shape At
with_sets c left = field kinds.Config (count_of is_set_count) left >>= λ sets. with_ways c sets.0 sets.1

abbrev with_caches : Bool → LineWords → Result Shape At
with_caches name left = field kinds.Config (count_of is_cache_count) left >>= λ caches. with_sets caches.0 caches.1

abbrev ways_words : ℕ → ℕ → List Marked → Option Shape
ways_words c set = next_in (count_of is_way_count) (λ w. none_left (shape c set w))

abbrev sets_words : ℕ → List Marked → Option Shape
sets_words c = next_in (count_of is_set_count) (ways_words c)

abbrev caches_words : Bool → List Marked → Option Shape
caches_words name = next_in (count_of is_cache_count) sets_words

abbrev config_words : List Marked → Option Shape
config_words = next_in config_word caches_words

ways_agree : (c set : ℕ) → Agrees (with_ways c set) (ways_words c set)
ways_agree c set left = field_agrees kinds.Config (count_of is_way_count) (count_textual is_way_count) (λ w r. done r (shape c set w))
    (λ w. none_left (shape c set w)) (λ w r. done_agrees (shape c set w) r.words r.bad) left.words left.bad left.end

sets_agree : (c : ℕ) → Agrees (with_sets c) (sets_words c)
sets_agree c left = field_agrees kinds.Config (count_of is_set_count) (count_textual is_set_count) (with_ways c) (ways_words c)
    (ways_agree c) left.words left.bad left.end

caches_agree : (name : Bool) → Agrees (with_caches name) (caches_words name)
caches_agree name left = field_agrees kinds.Config (count_of is_cache_count) (count_textual is_cache_count) with_sets sets_words sets_agree
    left.words left.bad left.end

name_config_agrees : Agrees config_at config_words
unfolding config_at
name_config_agrees left =
    field_agrees kinds.Config config_word config_textual with_caches caches_words caches_agree left.words left.bad left.end

bind_config : (b : Bool) (o : Option Shape) → option_and_then (λ (test : Bool). o) (cond b (Some true) None) ≡ cond b o None
bind_config true o = refl
bind_config false o = refl

config_words_are : (words : List Marked) → config_words words ≡ shape_of (map bytes_of words)
unfolding shape_of
config_words_are [] = refl
config_words_are (n ∷ []) = bind_nothing (config_word n.word) _ (λ x. refl)
config_words_are (n ∷ c ∷ []) = bind_nothing (config_word n.word) _ (λ x. bind_nothing (count_of is_cache_count c.word) _ (λ y. refl))
config_words_are (n ∷ c ∷ s ∷ []) =
    bind_nothing (config_word n.word) _
    (λ x. bind_nothing (count_of is_cache_count c.word) _ (λ y. bind_nothing (count_of is_set_count s.word) _ (λ z. refl)))
config_words_are (n ∷ c ∷ s ∷ w ∷ []) = bind_config (is_config n.word) (caches_words true (c ∷ s ∷ w ∷ []))
config_words_are (n ∷ c ∷ s ∷ w ∷ v ∷ words) =
    bind_nothing (config_word n.word) _
    (λ x. bind_nothing (count_of is_cache_count c.word) _
    (λ y. bind_nothing (count_of is_set_count s.word) _ (λ z. bind_nothing (count_of is_way_count w.word) _ (λ u. refl))))

-- a line of a configuration
pub config_agrees : (left : LineWords) → ok_of (config_at left) ≡ guard (is_text_line left) (shape_of (map bytes_of left.words))
config_agrees left = name_config_agrees left ∙ ap (guard (is_text_line left)) (config_words_are left.words)
