-- What the packet of a message says, and what packets one after the other say.
use Rattle.std.proofs.Common.{◌≡◌, ℕ, List, [], ◌∷◌, ◌++◌, length, true, nat_lt, Some, Ok, append-nil, append_assoc, eq-eqb, refl, sym, ap, ◌∙◌}
use Rattle.std.specs.Option.{option_to_list}
use Rattle.std.proofs.lemmas.Bool.{lt-ltb, and_from}
use Rattle.bk_base.specs.Places.{Shape}
use Rattle.bk_msg.specs.declared.codec.Packet as wire
use Rattle.bk_msg.specs.declared.row.Row.{Row}
use Rattle.bk_msg.specs.declared.row.Row.TheVariants.{Rd, Wr, UcRd, UcWr, Evict, Inv, StWb, StTr, Blk, StWake, UcBlk, UcDone, Done, Fill, InvAck, CohAck, Wb, NullWb, Read, Write, WriteWord, Block}
use Rattle.bk_msg.specs.Reading.{decode}
use Rattle.bk_msg.specs.Spelling.{spelling, IsMessage}
use Rattle.bk_msg.specs.Within.{IsWay, IsWithin, is_way, is_within}
use Rattle.bk_msg.proofs.Messages.{decode_again}
use Rattle.bk_rounds.specs.Reading.{message_in, packet_of, packets_in, whole_within, with_stamp}

way-there : (k : Shape) (c w : ℕ) → IsWay k c w → is_way k c w ≡ true
way-there k c w there = and_from (nat_lt c k.caches) (nat_lt w k.ways) (lt-ltb c k.caches there.cache) (lt-ltb w k.ways there.way)

pub within-true : (k : Shape) (m : Row) → IsWithin k m → is_within k m ≡ true
within-true k (Rd from to way addr) h = way-there k from way h
within-true k (Wr from to way addr) h = way-there k from way h
within-true k (UcRd from to addr) h = lt-ltb from k.caches h
within-true k (UcWr from to addr word) h = lt-ltb from k.caches h
within-true k (Evict from to way addr) h = way-there k from way h
within-true k (Inv from to addr) h = lt-ltb to k.caches h
within-true k (StWb from to state addr) h = lt-ltb to k.caches h
within-true k (StTr from to state peer peer_way peer_state addr) h =
    and_from (nat_lt to k.caches) (is_way k peer peer_way) (lt-ltb to k.caches h.0) (way-there k peer peer_way h.1)
within-true k (Blk from to way state addr words) h = way-there k to way h
within-true k (StWake from to way state addr) h = way-there k to way h
within-true k (UcBlk from to addr word) h = lt-ltb to k.caches h
within-true k (UcDone from to addr) h = lt-ltb to k.caches h
within-true k (Done from to addr) h = lt-ltb to k.caches h
within-true k (Fill from to way state addr words) h =
    and_from (nat_lt from k.caches) (is_way k to way) (lt-ltb from k.caches h.0) (way-there k to way h.1)
within-true k (InvAck from to addr) h = lt-ltb from k.caches h
within-true k (CohAck from to addr) h = lt-ltb from k.caches h
within-true k (Wb from to addr words) h = lt-ltb from k.caches h
within-true k (NullWb from to addr) h = lt-ltb from k.caches h
within-true k (Read from to addr) h = refl
within-true k (Write from to addr words) h = refl
within-true k (WriteWord from to addr word) h = refl
within-true k (Block from to addr words) h = refl

counted : (k : Shape) (m : Row) (size : ℕ) → is_within k m ≡ true → whole_within k size (Ok (m, size)) ≡ Some m
counted k m size within = rw (eq-eqb size size refl, within) refl

-- a message within the configuration is read from its spelling
pub spelled : (k : Shape) (m : Row) → IsMessage m → IsWithin k m → message_in k (spelling m) ≡ Some m
spelled k m message within =
    let read = ap decode (sym (append-nil (spelling m))) ∙ decode_again m [] message in
    ap (whole_within k (length (spelling m))) read ∙ counted k m (length (spelling m)) (within-true k m within)

-- and its packet says it
pub packet-says : (k : Shape) (packet : wire.Packet) (m : Row) (stamp : ℕ) → IsMessage m → IsWithin k m
    → packet.bytes.items ≡ spelling m → packet.stamp ≡ stamp → packet_of k packet ≡ Some (with_stamp stamp m)
packet-says k packet m stamp message within bytes stamped =
    rw (ap (message_in k) bytes ∙ spelled k m message within) (ap (λ (t : ℕ). Some (with_stamp t m)) stamped)

pub packets-append : (k : Shape) (xs ys : List wire.Packet) → packets_in k (xs ++ ys) ≡ packets_in k xs ++ packets_in k ys
packets-append k [] ys = refl
packets-append k (x ∷ xs) ys =
    ap (λ ps. option_to_list (packet_of k x) ++ ps) (packets-append k xs ys)
    ∙ sym (append_assoc (option_to_list (packet_of k x)) (packets_in k xs) (packets_in k ys))
