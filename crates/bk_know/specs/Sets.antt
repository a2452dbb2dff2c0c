-- The sets of values that each field may have, their mask, their order and their union.
use Rattle.std.specs.Prelude.{ℕ, ◌*◌, ◌/◌, ◌%◌, ◌^◌, ◌==◌, ◌≡◌, ◌<◌, Bool, false, bit_and, bit_or, sum_by, List, [], ◌∷◌, if◌then◌else◌}
use Rattle.std.specs.List.{list_all, list_any}
use Rattle.bk_know.specs.declared.sets.Sets.{Sets}
use Rattle.bk_know.specs.declared.fields.TheConstants.{FIELD_STAGE, FIELD_HEAD, FIELD_GP, FIELD_KIND, FIELD_SUMM, FIELD_OWN, FIELD_OWNER, FIELD_OTHERS, FIELD_VICTIM, FIELD_ACKS, FIELD_WB, FIELD_MEM, FIELD_DREQ, FIELD_DOWN, FIELD_F0, FIELD_F1, FIELD_F2}
use Rattle.bk_know.specs.declared.values.TheConstants.{STAGE_IDLE, STAGE_HELD, HEAD_NONE, GP_FREE, KIND_RD, KIND_ANY, SUMM_NO, OWN_I, OWN_ANY, OWNER_NONE, OWNER_ANY, OTHERS_NO, OTHERS_ANY, VICTIM_LIGHT, VICTIM_ANY, ACKS_ZERO, WB_IDLE, MEM_IDLE, DREQ_PAID, DOWN_PAID, FLAG_ANY}

-- ---- fields

pub data Field : Type 0 where
  Stage Head Gp Kind Summ Own Owner Others Victim Acks Wb Mem Dreq Down F0 F1 F2 F3 : Field

-- all of them, in the order of a mask
abbrev pub fields : List Field
fields = Stage ∷ Head ∷ Gp ∷ Kind ∷ Summ ∷ Own ∷ Owner ∷ Others ∷ Victim ∷ Acks ∷ Wb ∷ Mem ∷ Dreq ∷ Down ∷ F0
    ∷ F1 ∷ F2 ∷ F3 ∷ []

-- a field's place in a mask: its first bit, and how many bits it has, one for each of its values
abbrev pub place : Field → ℕ × ℕ
place Stage = (0, 4)
place Head = (4, 7)
place Gp = (11, 2)
place Kind = (13, 5)
place Summ = (18, 3)
place Own = (21, 6)
place Owner = (27, 5)
place Others = (32, 2)
place Victim = (34, 2)
place Acks = (36, 2)
place Wb = (38, 3)
place Mem = (41, 4)
place Dreq = (45, 6)
place Down = (51, 5)
place F0 = (56, 2)
place F1 = (58, 2)
place F2 = (60, 2)
place F3 = (62, 2)

-- a field's set
abbrev pub set_of : Sets → Field → ℕ
set_of sets Stage = sets.stage
set_of sets Head = sets.head
set_of sets Gp = sets.gp
set_of sets Kind = sets.kind
set_of sets Summ = sets.summ
set_of sets Own = sets.own
set_of sets Owner = sets.owner
set_of sets Others = sets.others
set_of sets Victim = sets.victim
set_of sets Acks = sets.acks
set_of sets Wb = sets.wb
set_of sets Mem = sets.mem
set_of sets Dreq = sets.dreq
set_of sets Down = sets.down
set_of sets F0 = sets.f0
set_of sets F1 = sets.f1
set_of sets F2 = sets.f2
set_of sets F3 = sets.f3

-- the sets that a function gives the fields
abbrev pub sets_by : (Field → ℕ) → Sets
sets_by of = record {
  stage = of Stage;
  head = of Head;
  gp = of Gp;
  kind = of Kind;
  summ = of Summ;
  own = of Own;
  owner = of Owner;
  others = of Others;
  victim = of Victim;
  acks = of Acks;
  wb = of Wb;
  mem = of Mem;
  dreq = of Dreq;
  down = of Down;
  f0 = of F0;
  f1 = of F1;
  f2 = of F2;
  f3 = of F3;
}

-- the set of the field with a number, from 1 to 18
abbrev pub field : Sets → ℕ → ℕ
field sets number =
    if number == FIELD_STAGE then sets.stage
    else if number == FIELD_HEAD then sets.head
    else if number == FIELD_GP then sets.gp
    else if number == FIELD_KIND then sets.kind
    else if number == FIELD_SUMM then sets.summ
    else if number == FIELD_OWN then sets.own
    else if number == FIELD_OWNER then sets.owner
    else if number == FIELD_OTHERS then sets.others
    else if number == FIELD_VICTIM then sets.victim
    else if number == FIELD_ACKS then sets.acks
    else if number == FIELD_WB then sets.wb
    else if number == FIELD_MEM then sets.mem
    else if number == FIELD_DREQ then sets.dreq
    else if number == FIELD_DOWN then sets.down
    else if number == FIELD_F0 then sets.f0
    else if number == FIELD_F1 then sets.f1
    else if number == FIELD_F2 then sets.f2
    else sets.f3

-- ---- masks

-- a field's set in a mask
abbrev pub set_in : ℕ → Field → ℕ
set_in mask f = mask / 2 ^ (place f).0 % 2 ^ (place f).1

-- a mask's sets
abbrev pub sets_of : ℕ → Sets
sets_of mask = sets_by (set_in mask)

-- the mask that has each set at its field's place
abbrev pub mask_of : Sets → ℕ
mask_of sets = sum_by (λ f. set_of sets f * 2 ^ (place f).0) fields

-- ---- order and union

-- each value of the first set is in the second
abbrev pub subset : ℕ → ℕ → Bool
subset a b = bit_and a b == a

-- each field's set is a subset of the other's
abbrev pub within : Sets → Sets → Bool
within a b = list_all (λ f. subset (set_of a f) (set_of b f)) fields

-- some field has no value
abbrev pub any_empty : Sets → Bool
any_empty sets = list_any (λ f. set_of sets f == 0) fields

-- field by field the values of both
abbrev pub union : Sets → Sets → Sets
union a b = sets_by (λ f. bit_or (set_of a f) (set_of b f))

-- a mask of 64 bits has these sets, and none of them is empty
pub record IsKnow (sets : Sets) : Type 0 where
  pub small : mask_of sets < 2 ^ 64
  pub again : sets_of (mask_of sets) ≡ sets
  pub some : any_empty sets ≡ false

-- ---- values

-- the set of one value alone
abbrev pub only : ℕ → ℕ
only value = 2 ^ value

-- ---- the base masks

-- nothing under way: the first value alone in each field, either value in each flag
abbrev pub idle_base : Sets
idle_base = record {
  stage = STAGE_IDLE;
  head = HEAD_NONE;
  gp = GP_FREE;
  kind = KIND_RD;
  summ = SUMM_NO;
  own = OWN_I;
  owner = OWNER_NONE;
  others = OTHERS_NO;
  victim = VICTIM_LIGHT;
  acks = ACKS_ZERO;
  wb = WB_IDLE;
  mem = MEM_IDLE;
  dreq = DREQ_PAID;
  down = DOWN_PAID;
  f0 = FLAG_ANY;
  f1 = FLAG_ANY;
  f2 = FLAG_ANY;
  f3 = FLAG_ANY;
}

-- a request just taken up: the stage is Held, and nothing is known of its kind, own, owner, others and victim
abbrev pub held_base : Sets
held_base = record idle_base {
  stage = STAGE_HELD;
  kind = KIND_ANY;
  own = OWN_ANY;
  owner = OWNER_ANY;
  others = OTHERS_ANY;
  victim = VICTIM_ANY;
}
