-- A channel as the machine sees it: a message at its end, its head taken, and each message that is sent about a block's first word.
use Rattle.std.proofs.Common.{◌≡◌, ℕ, ap, ◌∙◌, List, [], ◌∷◌, ◌++◌, map, drop, Option, Some, append-nil}
use Rattle.std.specs.List.{filter_map, cons_option}
use Rattle.std.proofs.lemmas.List.{map-append}
use Rattle.std.proofs.lemmas.List.Elements.{filter_map-append}
use Rattle.bk_base.specs.Tables.{put}
use Rattle.bk_msg.specs.declared.row.Row.{Row}
use Rattle.bk_bridge.proofs.Tables.{put-of}

pub pushed : {X : Type 0} (h : Row → Option X) (ms : List Row) (m : Row) (y : X) → h m ≡ Some y
    → filter_map h (ms ++ m ∷ []) ≡ filter_map h ms ++ y ∷ []
pushed {X} h ms m y e = filter_map-append h ms (m ∷ []) ∙ ap (λ (o : Option X). filter_map h ms ++ cons_option o []) e

pub unpushed : {X : Type 0} (h : Row → Option X) (ms : List Row) → filter_map h (ms ++ []) ≡ filter_map h ms
unpushed h ms = ap (filter_map h) (append-nil ms)

pub listed : {X Y : Type 0} (f : X → Y) (ms : List X) (m : X) (y : Y) → f m ≡ y → map f (ms ++ m ∷ []) ≡ map f ms ++ y ∷ []
listed {Y = Y} f ms m y e = map-append f ms (m ∷ []) ∙ ap (λ (z : Y). map f ms ++ z ∷ []) e

pub unlisted : {X Y : Type 0} (f : X → Y) (ms : List X) → map f (ms ++ []) ≡ map f ms
unlisted f ms = ap (map f) (append-nil ms)

-- a channel of a number with one more message
pub pushed-to : {X : Type 0} (h : Row → Option X) (channel : ℕ → List Row) (c : ℕ) (m : Row) (y : X) → h m ≡ Some y
    → ◌≡◌ {A = ℕ → List X} (λ i. filter_map h (put channel c (channel c ++ m ∷ []) i))
    (put (λ i. filter_map h (channel i)) c (filter_map h (channel c) ++ y ∷ []))
pushed-to h channel c m y e =
    put-of (filter_map h) channel c (channel c ++ m ∷ []) (filter_map h (channel c) ++ y ∷ []) (pushed h (channel c) m y e)

-- a channel of a number without its head
pub left : {X : Type 0} (h : Row → Option X) (channel : ℕ → List Row) (c : ℕ) (m : Row) (rest : List Row)
    → channel c ≡ m ∷ rest
    → ◌≡◌ {A = ℕ → List X} (λ i. filter_map h (put channel c (drop 1 (channel c)) i))
    (put (λ i. filter_map h (channel i)) c (filter_map h rest))
left h channel c m rest e =
    put-of (filter_map h) channel c (drop 1 (channel c)) (filter_map h rest) (ap (λ (ms : List Row). filter_map h (drop 1 ms)) e)
