-- Where the message that a row of a cache sends goes: to the end of the cache's channel of its network, and to no other channel.
use Rattle.std.proofs.Common.{◌≡◌, ℕ, cond, ap, List, [], ◌∷◌, ◌++◌, Some}
use Rattle.bk_base.specs.Tables.{put}
use Rattle.bk_msg.specs.declared.row.Row.{Row}
use Rattle.bk_msg.specs.declared.row.Network.{Network}
use Rattle.bk_msg.specs.declared.row.Network.TheVariants as networks
use Rattle.bk_msg.specs.Networks.{network_of, receiver_of}
use Rattle.bk_system.specs.Events.{requests_with, responses_with, fills_with, added_if, is_request, is_response, is_fill}

pub request-to : (c : ℕ) (m : Row) (channel : ℕ → List Row) → network_of m ≡ networks.Request
    → requests_with c (Some m) channel ≡ put channel c (channel c ++ m ∷ [])
request-to c m channel e = ap (λ (n : Network). added_if (is_request n) c m channel) e

pub request-no_response : (c : ℕ) (m : Row) (channel : ℕ → List Row) → network_of m ≡ networks.Request
    → responses_with c (Some m) channel ≡ channel
request-no_response c m channel e = ap (λ (n : Network). added_if (is_response n) c m channel) e

pub request-no_fill : (c : ℕ) (m : Row) (channel : ℕ → ℕ → List Row) → network_of m ≡ networks.Request
    → fills_with c (Some m) channel ≡ channel
request-no_fill c m channel e =
    ap (λ (n : Network). cond (is_fill n) (put channel (receiver_of m)
    (put (channel (receiver_of m)) c (channel (receiver_of m) c ++ m ∷ []))) channel) e

pub response-no_request : (c : ℕ) (m : Row) (channel : ℕ → List Row) → network_of m ≡ networks.Response
    → requests_with c (Some m) channel ≡ channel
response-no_request c m channel e = ap (λ (n : Network). added_if (is_request n) c m channel) e

pub response-to : (c : ℕ) (m : Row) (channel : ℕ → List Row) → network_of m ≡ networks.Response
    → responses_with c (Some m) channel ≡ put channel c (channel c ++ m ∷ [])
response-to c m channel e = ap (λ (n : Network). added_if (is_response n) c m channel) e

pub response-no_fill : (c : ℕ) (m : Row) (channel : ℕ → ℕ → List Row) → network_of m ≡ networks.Response
    → fills_with c (Some m) channel ≡ channel
response-no_fill c m channel e =
    ap (λ (n : Network). cond (is_fill n) (put channel (receiver_of m)
    (put (channel (receiver_of m)) c (channel (receiver_of m) c ++ m ∷ []))) channel) e
