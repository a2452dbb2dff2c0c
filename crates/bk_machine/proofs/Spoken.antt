-- Each message of the product is one of the machine's, in the network that it travels in, and an address is its place.
use Rattle.std.proofs.Common.{◌≡◌, ℕ, ◌<◌, ◌*◌, ◌+◌, ◌/◌, ◌%◌, true, arith, sym, ◌∙◌, ap, is_some}
use Rattle.bk_base.specs.Places.{Shape, IsAddr, block_of}
use Rattle.bk_msg.specs.declared.row.Row.{Row}
use Rattle.bk_msg.specs.declared.row.Network.TheVariants as networks
use Rattle.bk_msg.specs.Networks.{network_of}
use Rattle.bk_machine.specs.Products.{as_request, as_command, as_fill, as_response, as_to_memory, as_block, Spoken, AtPlace}

request : (k : Shape) (m : Row) → network_of m ≡ networks.Request → is_some (as_request k m) ≡ true
request k m e = grind arith

command : (k : Shape) (m : Row) → network_of m ≡ networks.Command → is_some (as_command k m) ≡ true
command k m e = grind arith

fill : (k : Shape) (m : Row) → network_of m ≡ networks.Fill → is_some (as_fill k m) ≡ true
fill k m e = grind arith

response : (k : Shape) (m : Row) → network_of m ≡ networks.Response → is_some (as_response k m) ≡ true
response k m e = grind arith

memout : (k : Shape) (m : Row) → network_of m ≡ networks.Memout → is_some (as_to_memory k m) ≡ true
memout k m e = grind arith

memin : (k : Shape) (m : Row) → network_of m ≡ networks.Memin → is_some (as_block k m) ≡ true
memin k m e = grind arith

pub spoken : (k : Shape) (m : Row) → Spoken k m
spoken k m = record {
  request = request k m;
  command = command k m;
  fill = fill k m;
  response = response k m;
  memout = memout k m;
  memin = memin k m;
}

-- the number from its parts
from-parts : (g b : ℕ) → 0 < g → b ≡ b / g * g + b % g
from-parts g b l = omega arith

pub one_place : (k : Shape) (a b : ℕ) → IsAddr a → IsAddr b → 0 < k.sets → AtPlace k a b → a ≡ b
one_place k a b f g l p = lem (ap (λ n. n) blocks) p.word f.aligned g.aligned
  where
    blocks : block_of a ≡ block_of b
    blocks = from-parts k.sets (block_of a) l ∙ ap (λ (n : ℕ). n * k.sets + block_of a % k.sets) p.tag
        ∙ ap (λ (n : ℕ). block_of b / k.sets * k.sets + n) p.group ∙ sym (from-parts k.sets (block_of b) l)

    lem : a / 64 ≡ b / 64 → a / 8 % 8 ≡ b / 8 % 8 → a % 8 ≡ 0 → b % 8 ≡ 0 → a ≡ b
    lem e f g h = omega arith
