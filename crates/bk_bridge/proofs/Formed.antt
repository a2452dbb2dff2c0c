-- What keeps a state well formed: messages at the end of channels, heads taken, lines written.
use Rattle.std.proofs.Common.{◌≡◌, ℕ, Bool, true, false, cond, eqb, refl, sym, subst, arith, List, [], ◌∷◌, ◌++◌, length, drop, Option, Some, None, IfSome}
use Rattle.std.proofs.lemmas.Bool.{cond_both}
use Rattle.std.proofs.lemmas.Bool.Decides.{nat_tests}
use Rattle.bk_base.specs.Tables.{put}
use Rattle.bk_msg.specs.declared.row.Row.{Row}
use Rattle.bk_msg.specs.declared.row.Network.{Network}
use Rattle.bk_msg.specs.declared.row.Network.TheVariants as networks
use Rattle.bk_msg.specs.Networks.{network_of, receiver_of}
use Rattle.bk_lce.specs.declared.line.Line.{Line}
use Rattle.bk_system.specs.Events.{requests_with, responses_with, fills_with, added_if, is_request, is_response, is_fill}
use Rattle.bk_bridge.specs.Formed.{AreOf, IsOf, IsWhole}

pub cond-all : {X : Type 0} (P : X → Type 0) (b : Bool) (x y : X) → P x → P y → P (cond b x y)
cond-all P true x y p q = p
cond-all P false x y p q = q

pub put-all : {X : Type 0} (P : X → Type 0) (m : ℕ → X) (c : ℕ) (v : X) → ((i : ℕ) → P (m i)) → P v → (i : ℕ)
    → P (put m c v i)
unfolding put
put-all P m c v h p i = cond-all P (eqb i c) v (m i) p (h i)

same-number : (j c : ℕ) → eqb j c ≡ true → j ≡ c
same-number j c e = grind (arith, nat_tests)

-- the same of what depends on the number too
pub put-each : {X : Type 0} (P : ℕ → X → Type 0) (m : ℕ → X) (c : ℕ) (v : X) → ((i : ℕ) → P i (m i)) → P c v
    → (i : ℕ) → P i (put m c v i)
unfolding put
put-each P m c v h p i = cond_both (eqb i c) v (m i) (P i) (λ e. subst (λ j. P j v) (sym (same-number i c e)) p) (λ e. h i)

pub guard : {X : Type 0} (P : X → Type 0) (b : Bool) (o : Option X) → IfSome o P → IfSome (cond b o None) P
guard P true o h = h
guard P false o h = tt

pub push : (network : Network) (ms : List Row) (m : Row) → AreOf network ms → IsOf network m → AreOf network (ms ++ m ∷ [])
push network [] m h i = (i, tt)
push network (l ∷ ms) m h i = (h.0, push network ms m h.1 i)

pub without_head : (network : Network) (ms : List Row) → AreOf network ms → AreOf network (drop 1 ms)
without_head network [] h = tt
without_head network (m ∷ ms) h = h.1

-- a message that is sent goes where its network is
pub requests-formed : (c : ℕ) (o : Option Row) (channel : ℕ → List Row) → IfSome o IsWhole
    → ((i : ℕ) → AreOf networks.Request (channel i))
    → (i : ℕ) → AreOf networks.Request (requests_with c o channel i)
requests-formed c None channel h f i = f i
requests-formed c (Some m) channel h f i = go (network_of m) refl
  where
    go : (n : Network) → network_of m ≡ n → AreOf networks.Request (added_if (is_request n) c m channel i)
    go networks.Request e =
        put-all (AreOf networks.Request) channel c (channel c ++ m ∷ []) f
        (push networks.Request (channel c) m (f c) (record { is = e; whole = h })) i
    go n e = f i

pub responses-formed : (c : ℕ) (o : Option Row) (channel : ℕ → List Row) → IfSome o IsWhole
    → ((i : ℕ) → AreOf networks.Response (channel i))
    → (i : ℕ) → AreOf networks.Response (responses_with c o channel i)
responses-formed c None channel h f i = f i
responses-formed c (Some m) channel h f i = go (network_of m) refl
  where
    go : (n : Network) → network_of m ≡ n → AreOf networks.Response (added_if (is_response n) c m channel i)
    go networks.Response e =
        put-all (AreOf networks.Response) channel c (channel c ++ m ∷ []) f
        (push networks.Response (channel c) m (f c) (record { is = e; whole = h })) i
    go n e = f i

pub fills-formed : (c : ℕ) (o : Option Row) (channel : ℕ → ℕ → List Row) → IfSome o IsWhole
    → ((i j : ℕ) → AreOf networks.Fill (channel i j))
    → (i j : ℕ) → AreOf networks.Fill (fills_with c o channel i j)
fills-formed c None channel h f i j = f i j
fills-formed c (Some m) channel h f i j = go (network_of m) refl
  where
    added : ℕ → ℕ → List Row
    added = put channel (receiver_of m) (put (channel (receiver_of m)) c (channel (receiver_of m) c ++ m ∷ []))

    go : (n : Network) → network_of m ≡ n → AreOf networks.Fill (cond (is_fill n) added channel i j)
    go networks.Fill e =
        put-all (λ (row : ℕ → List Row). (j : ℕ) → AreOf networks.Fill (row j)) channel (receiver_of m) _ f
        (put-all (AreOf networks.Fill) (channel (receiver_of m)) c _ (f (receiver_of m))
        (push networks.Fill (channel (receiver_of m) c) m (f (receiver_of m) c) (record { is = e; whole = h }))) i j
    go n e = f i j

-- each line has eight words
abbrev pub HaveEight : (ℕ → ℕ → Line) → Type 0
HaveEight lines = (g w : ℕ) → length (lines g w).words ≡ 8

pub line-formed : (lines : ℕ → ℕ → Line) (g v : ℕ) (line : Line) → HaveEight lines → length line.words ≡ 8
    → HaveEight (put lines g (put (lines g) v line))
line-formed lines g v line h e =
    put-all (λ (row : ℕ → Line). (w : ℕ) → length (row w).words ≡ 8) lines g _ h
    (put-all (λ (l : Line). length l.words ≡ 8) (lines g) v line (h g) e)
