-- Messages spelled and bytes read, by computing.
use Rattle.std.proofs.Common.{◌≡◌, ℕ, ◌+◌, List, [], ◌∷◌, ◌++◌, take, drop, replicate, Ok, Err, refl}
use Rattle.bk_base.specs.declared.coh.Coh.TheVariants.{S, E, F, M, O}
use Rattle.bk_msg.specs.declared.fault.MsgFault.TheVariants as faults
use Rattle.bk_msg.specs.declared.row.Row.{Row}
use Rattle.bk_msg.specs.declared.row.Row.TheVariants.{Rd, UcWr, StWb, StTr, Blk, StWake, Fill, Write, Block}
use Rattle.bk_msg.specs.Spelling.{spelling}
use Rattle.bk_msg.specs.Reading.{decode}

-- cache 1 asks for the block at 0x40, and cache 0 writes 7 to the word there
abbrev rd : Row
rd = Rd 1 0xf0 0 0x40

abbrev rd_bytes : List ℕ
rd_bytes = 0x01 ∷ 0x01 ∷ 0xf0 ∷ 0 ∷ 0 ∷ 0 ∷ 0 ∷ 0 ∷ 0x40 ∷ 0 ∷ 0 ∷ 0 ∷ 0 ∷ 0 ∷ 0 ∷ 0 ∷ []

abbrev uc_wr : Row
uc_wr = UcWr 0 0xf0 0x40 7

abbrev uc_wr_bytes : List ℕ
uc_wr_bytes = 0x04 ∷ 0x00 ∷ 0xf0 ∷ 0 ∷ 0 ∷ 0 ∷ 0 ∷ 0 ∷ 0x40 ∷ 0 ∷ 0 ∷ 0 ∷ 0 ∷ 0 ∷ 0 ∷ 0 ∷ 0x07 ∷ 0 ∷ 0
    ∷ 0 ∷ 0 ∷ 0 ∷ 0 ∷ 0 ∷ []

abbrev words : List ℕ
words = 1 ∷ 0x0203 ∷ 0 ∷ 0 ∷ 0 ∷ 0 ∷ 0 ∷ 0xff00000000000000 ∷ []

abbrev words_bytes : List ℕ
words_bytes = 1 ∷ 0 ∷ 0 ∷ 0 ∷ 0 ∷ 0 ∷ 0 ∷ 0 ∷ 0x03 ∷ 0x02 ∷ (replicate 53 0 ++ (0xff ∷ []))

-- another byte at a place
abbrev changed : List ℕ → ℕ → ℕ → List ℕ
changed bytes at byte = take at bytes ++ byte ∷ drop (at + 1) bytes

record Spellings : Type 0 where
  no_payload : spelling rd ≡ rd_bytes
  word : spelling uc_wr ≡ uc_wr_bytes
  -- a state
  lowered : spelling (StWb 0xf0 2 S 0x1c0) ≡ 0x12 ∷ 0xf0 ∷ 2 ∷ 0 ∷ 1 ∷ 0 ∷ 0 ∷ 0 ∷ 0xc0 ∷ 0x01 ∷ replicate 6 0
  -- a state, and a peer with its way and state
  peer : spelling (StTr 0xf0 2 O 3 4 S 0x40) ≡ 0x13 ∷ 0xf0 ∷ 2 ∷ 0 ∷ 7 ∷ 3 ∷ 4 ∷ 1 ∷ 0x40 ∷ replicate 7 0
  -- a way, a state and eight words, at the greatest block
  granted : spelling (Blk 0xf0 15 6 E 0xffffffffc0 words)
      ≡ (0x14 ∷ 0xf0 ∷ 15 ∷ 6 ∷ 2 ∷ 0 ∷ 0 ∷ 0 ∷ 0xc0 ∷ 0xff ∷ 0xff ∷ 0xff ∷ 0xff ∷ 0 ∷ 0 ∷ 0 ∷ [])
      ++ words_bytes
  from_a_cache : spelling (Fill 5 6 7 F 0x40 words) ≡ (0x21 ∷ 5 ∷ 6 ∷ 7 ∷ 3 ∷ 0 ∷ 0 ∷ 0 ∷ 0x40 ∷ replicate 7 0)
      ++ words_bytes
  to_memory : spelling (Write 0xf0 0xf1 0x40 words) ≡ (0x42 ∷ 0xf0 ∷ 0xf1 ∷ 0 ∷ 0 ∷ 0 ∷ 0 ∷ 0 ∷ 0x40 ∷ replicate 7 0)
      ++ words_bytes
  from_memory : spelling (Block 0xf1 0xf0 0 words) ≡ (0x44 ∷ 0xf1 ∷ 0xf0 ∷ replicate 13 0) ++ words_bytes

spellings : Spellings
spellings = record {
  no_payload = refl;
  word = refl;
  lowered = refl;
  peer = refl;
  granted = refl;
  from_a_cache = refl;
  to_memory = refl;
  from_memory = refl;
}

record Readings : Type 0 where
  one : decode rd_bytes ≡ Ok (rd, 16)
  -- what follows isn't looked at
  first : decode (rd_bytes ++ uc_wr_bytes) ≡ Ok (rd, 16)
  second : decode uc_wr_bytes ≡ Ok (uc_wr, 24)
  granted : decode (spelling (Blk 0xf0 15 6 E 0xffffffffc0 words) ++ 0x99 ∷ []) ≡ Ok (Blk 0xf0 15 6 E 0xffffffffc0 words, 80)

readings : Readings
unfolding decode
readings = record { one = refl; first = refl; second = refl; granted = refl }

record Faults : Type 0 where
  nothing : decode [] ≡ Err (faults.Short 1)
  first_byte : decode (take 1 rd_bytes) ≡ Err (faults.Short 16)
  last_byte : decode (take 15 rd_bytes) ≡ Err (faults.Short 16)
  no_word : decode (take 16 uc_wr_bytes) ≡ Err (faults.Short 24)
  kind : decode (changed rd_bytes 0 0x99) ≡ Err (faults.Kind 0x99)
  -- sixteen caches, one engine, eight ways
  from : decode (changed rd_bytes 1 16) ≡ Err (faults.Field 1)
  to : decode (changed rd_bytes 2 0xf1) ≡ Err (faults.Field 2)
  way : decode (changed rd_bytes 3 8) ≡ Err (faults.Field 3)
  -- Rd has no state
  reserved : decode (changed rd_bytes 4 1) ≡ Err (faults.Reserved 4)
  reserved_way : decode (changed uc_wr_bytes 3 1) ≡ Err (faults.Reserved 3)
  -- no block's address, and a word's
  block : decode (changed rd_bytes 8 0x41) ≡ Err (faults.Field 8)
  block_word : decode (changed rd_bytes 8 0x48) ≡ Err (faults.Field 8)
  word : decode (changed uc_wr_bytes 8 0x48) ≡ Ok (UcWr 0 0xf0 0x48 7, 24)
  -- the address 2^40: it must be below
  top : decode (changed rd_bytes 13 1) ≡ Err (faults.Field 13)
  -- StWb lowers to I or S, and StTr leaves I, S, F or O and gives S, F, M or O
  state : decode (changed (spelling (StWb 0xf0 2 S 0x40)) 4 3) ≡ Err (faults.Field 4)
  no_state : decode (changed (spelling (StWb 0xf0 2 S 0x40)) 4 4) ≡ Err (faults.Field 4)
  left : decode (changed (spelling (StTr 0xf0 2 O 3 4 S 0x40)) 4 2) ≡ Err (faults.Field 4)
  peer : decode (changed (spelling (StTr 0xf0 2 O 3 4 S 0x40)) 5 16) ≡ Err (faults.Field 5)
  peer_way : decode (changed (spelling (StTr 0xf0 2 O 3 4 S 0x40)) 6 8) ≡ Err (faults.Field 6)
  peer_state : decode (changed (spelling (StTr 0xf0 2 O 3 4 S 0x40)) 7 0) ≡ Err (faults.Field 7)
  granted : decode (changed (spelling (StWake 0xf0 2 0 M 0x40)) 4 2) ≡ Err (faults.Field 4)
  -- the least bad place, also where the bytes end early
  least : decode (changed (changed (take 9 rd_bytes) 8 0x41) 5 1) ≡ Err (faults.Reserved 5)

computed_faults : Faults
unfolding decode
computed_faults = record {
  nothing = refl;
  first_byte = refl;
  last_byte = refl;
  no_word = refl;
  kind = refl;
  from = refl;
  to = refl;
  way = refl;
  reserved = refl;
  reserved_way = refl;
  block = refl;
  block_word = refl;
  word = refl;
  top = refl;
  state = refl;
  no_state = refl;
  left = refl;
  peer = refl;
  peer_way = refl;
  peer_state = refl;
  granted = refl;
  least = refl;
}
