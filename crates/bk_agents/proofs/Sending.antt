-- What the system's own table does to each channel, said of one channel at a time: what is left in it, and then what was sent on it.
use Rattle.std.proofs.Common.{◌≡◌, ℕ, Bool, true, false, cond, eqb, ◌&&◌, sym, refl, ap, ◌∙◌, List, [], ◌∷◌, ◌++◌, drop, Option, Some, None, option_to_list, append_assoc, append-nil, arith}
use Rattle.std.proofs.lemmas.Bool.Decides.{nat_tests}
use Rattle.bk_base.specs.Tables.{put}
use Rattle.bk_msg.specs.declared.row.Row.{Row}
use Rattle.bk_msg.specs.declared.row.Network.{Network}
use Rattle.bk_msg.specs.declared.row.Network.TheVariants as networks
use Rattle.bk_msg.specs.Networks.{network_of, receiver_of}
use Rattle.bk_system.specs.Events.{added_if, is_request, is_response, is_fill, is_command, is_memout, requests_with, responses_with, fills_with, commands_with, memout_with}
use Rattle.bk_system.specs.declared.channel.Channel.TheVariants as channels
use Rattle.bk_system.specs.Routes.{channel_in, channel_for, is_same}
use Rattle.bk_agents.specs.Local.{sent_on}

-- ONE CHANNEL AMONG THOSE OF A NUMBER

-- a message at the end of the channel of number c
at_end : (f : ℕ → List Row) (c i : ℕ) (m : Row)
    → put f c (f c ++ m ∷ []) i ≡ f i ++ cond (eqb c i) (m ∷ []) []
unfolding put
at_end f c i m = grind (arith, nat_tests, append-nil)

-- the channel of number c without its head
pub without_head : (f : ℕ → List Row) (c i : ℕ) → put f c (drop 1 (f c)) i ≡ cond (eqb c i) (drop 1 (f i)) (f i)
unfolding put
without_head f c i = grind (arith, nat_tests)

-- the same of the channels to a number and from another
cond-at : {X : Type 0} (b : Bool) (f h : ℕ → X) (i : ℕ) → cond b f h i ≡ cond b (f i) (h i)
cond-at true f h i = refl
cond-at false f h i = refl

at_end_of_two : (f : ℕ → ℕ → List Row) (to from i j : ℕ) (m : Row)
    → put f to (put (f to) from (f to from ++ m ∷ [])) i j ≡ f i j ++ cond (eqb to i && eqb from j) (m ∷ []) []
unfolding put
at_end_of_two f to from i j m =
    cond-at (eqb i to) (λ n. cond (eqb n from) (f to from ++ m ∷ []) (f to n)) (f i) j ∙ grind (arith, nat_tests, append-nil)

pub without_head_of_two : (f : ℕ → ℕ → List Row) (to from i j : ℕ)
    → put f to (put (f to) from (drop 1 (f to from))) i j ≡ cond (eqb to i && eqb from j) (drop 1 (f i j)) (f i j)
unfolding put
without_head_of_two f to from i j =
    cond-at (eqb i to) (λ n. cond (eqb n from) (drop 1 (f to from)) (f to n)) (f i) j ∙ grind (arith, nat_tests)

-- a channel on which nothing is sent is what was left of it
pub unsent : (xs ys : List Row) → ys ≡ [] → xs ≡ xs ++ ys
unsent xs ys e = sym (append-nil xs) ∙ ap (λ (l : List Row). xs ++ l) (sym e)

-- A CACHE'S MESSAGE, if it sends one

pub request-sent : (c : ℕ) (o : Option Row) (f : ℕ → List Row) (from : ℕ)
    → requests_with c o f from ≡ f from ++ sent_on c (channels.Request from) (option_to_list o)
request-sent c None f from = sym (append-nil (f from))
request-sent c (Some m) f from = go (network_of m)
  where
    go : (n : Network) → added_if (is_request n) c m f from
        ≡ f from ++ cond (is_same (channel_in n c (receiver_of m)) (channels.Request from)) (m ∷ []) []
    go networks.Request = at_end f c from m
    go n = sym (append-nil (f from))

pub response-sent : (c : ℕ) (o : Option Row) (f : ℕ → List Row) (from : ℕ)
    → responses_with c o f from ≡ f from ++ sent_on c (channels.Response from) (option_to_list o)
response-sent c None f from = sym (append-nil (f from))
response-sent c (Some m) f from = go (network_of m)
  where
    go : (n : Network) → added_if (is_response n) c m f from
        ≡ f from ++ cond (is_same (channel_in n c (receiver_of m)) (channels.Response from)) (m ∷ []) []
    go networks.Response = at_end f c from m
    go n = sym (append-nil (f from))

pub fill-sent : (c : ℕ) (o : Option Row) (f : ℕ → ℕ → List Row) (to from : ℕ)
    → fills_with c o f to from ≡ f to from ++ sent_on c (channels.Fill to from) (option_to_list o)
fill-sent c None f to from = sym (append-nil (f to from))
fill-sent c (Some m) f to from = go (network_of m)
  where
    go : (n : Network)
        → cond (is_fill n) (put f (receiver_of m) (put (f (receiver_of m)) c (f (receiver_of m) c ++ m ∷ []))) f to from
        ≡ f to from ++ cond (is_same (channel_in n c (receiver_of m)) (channels.Fill to from)) (m ∷ []) []
    go networks.Fill = at_end_of_two f (receiver_of m) c to from m
    go n = sym (append-nil (f to from))

-- THE ENGINE'S MESSAGES, one after the other

-- a message that goes there or elsewhere, and those behind it
behind : (b : Bool) (xs ms rest : List Row) (m : Row) → (xs ++ cond b (m ∷ []) []) ++ rest ≡ xs ++ cond b (m ∷ rest) rest
behind true xs ms rest m = append_assoc xs (m ∷ []) rest
behind false xs ms rest m = ap (λ (l : List Row). l ++ rest) (append-nil xs)

pub commands-sent : (n : ℕ) (ms : List Row) (f : ℕ → List Row) (to : ℕ)
    → commands_with ms f to ≡ f to ++ sent_on n (channels.Command to) ms
commands-sent n [] f to = sym (append-nil (f to))
commands-sent n (m ∷ ms) f to =
    commands-sent n ms (added_if (is_command (network_of m)) (receiver_of m) m f) to
    ∙ ap (λ (l : List Row). l ++ sent_on n (channels.Command to) ms) (go (network_of m))
    ∙ behind (is_same (channel_for n m) (channels.Command to)) (f to) ms (sent_on n (channels.Command to) ms) m
  where
    go : (x : Network) → added_if (is_command x) (receiver_of m) m f to
        ≡ f to ++ cond (is_same (channel_in x n (receiver_of m)) (channels.Command to)) (m ∷ []) []
    go networks.Command = at_end f (receiver_of m) to m
    go x = sym (append-nil (f to))

pub memout-sent : (n : ℕ) (ms xs : List Row) → memout_with ms xs ≡ xs ++ sent_on n channels.Memout ms
memout-sent n [] xs = sym (append-nil xs)
memout-sent n (m ∷ ms) xs =
    memout-sent n ms (cond (is_memout (network_of m)) (xs ++ m ∷ []) xs)
    ∙ ap (λ (l : List Row). l ++ sent_on n channels.Memout ms) (go (network_of m))
    ∙ behind (is_same (channel_for n m) channels.Memout) xs ms (sent_on n channels.Memout ms) m
  where
    go : (x : Network) → cond (is_memout x) (xs ++ m ∷ []) xs
        ≡ xs ++ cond (is_same (channel_in x n (receiver_of m)) channels.Memout) (m ∷ []) []
    go networks.Memout = refl
    go x = sym (append-nil xs)
