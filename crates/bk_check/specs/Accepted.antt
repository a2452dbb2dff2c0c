-- When an image is accepted.
use Rattle.std.specs.Prelude.{ℕ, ◌+◌, ◌<◌, ◌≡◌, ◌==◌, zero, suc, Bool, true, false, ◌&&◌, nat_lt, nat_le, length, Option, Some, None, slice_get}
use Rattle.bk_isa.specs.declared.form.Form.{Form}
use Rattle.bk_isa.specs.declared.form.Form.TheVariants.{Wfq}
use Rattle.bk_isa.specs.Words.{IsInRange}
use Rattle.bk_know.specs.declared.sets.Sets.{Sets}
use Rattle.bk_know.specs.Sets.{within, any_empty}
use Rattle.bk_image.specs.Images.{Parts, known}
use Rattle.bk_flow.specs.Flow.{start, fall, jump, target}
use Rattle.bk_check.specs.Obligations.{implies, or_later, unmet_here}

-- the know line, or where there is none what falls in
abbrev pub or_else : Option Sets → Option Sets → Option Sets
or_else None s = s
or_else (Some l) s = Some l

-- what falls through an instruction, where there is one and its place has sets
abbrev pub fall_from : Option Form → Option Sets → Option Sets
fall_from (Some f) (Some s) = fall f s
fall_from (Some f) None = None
fall_from None s = None

-- what falls into a place from the one before it
abbrev pub fall_into : Parts → ℕ → Option Sets
fall_into image zero = None
fall_into image (suc p) = fall_from (slice_get image.instrs p) (or_else (known image.knows p) (fall_into image p))

-- the sets at a place: its know line, else what falls into it
abbrev pub sets_at : Parts → ℕ → Option Sets
sets_at image p = or_else (known image.knows p) (fall_into image p)

-- an edge's sets are within the know line at its end, where it has one
abbrev pub fits_line : Option Sets → Option Sets → Bool
fits_line (Some e) (Some l) = within e l
fits_line (Some e) None = true
fits_line None l = true

abbrev pub is_some_sets : Option Sets → Bool
is_some_sets (Some s) = true
is_some_sets None = false

abbrev pub is_wait : Option Form → Bool
is_wait (Some (Wfq a)) = true
is_wait _ = false

-- 1. The place has a mask, which is given here. That of place 0 has what enters at the start.
abbrev pub obligation_1 : ℕ → Sets → Bool
obligation_1 p sets = implies (p == 0) (within start sets)

-- 2. A fall-through that exists has an instruction. A branch's target has an instruction and a know line, whether or not the edge exists.
abbrev pub obligation_2_target : Parts → Option ℕ → Bool
obligation_2_target image None = true
obligation_2_target image (Some to) = nat_lt to (length image.instrs) && is_some_sets (known image.knows to)

abbrev pub obligation_2 : Parts → ℕ → Form → Sets → Bool
obligation_2 image p f sets =
    implies (is_some_sets (fall f sets)) (nat_lt (p + 1) (length image.instrs)) && obligation_2_target image (target f)

-- 3. A taken edge to its own or an earlier place leads to a `wfq`.
abbrev pub obligation_3_target : Parts → ℕ → Sets → Form → Option ℕ → Bool
obligation_3_target image p sets f None = true
obligation_3_target image p sets f (Some to) =
    implies (is_some_sets (jump f sets)) (implies (nat_le to p) (is_wait (slice_get image.instrs to)))

abbrev pub obligation_3 : Parts → ℕ → Form → Sets → Bool
obligation_3 image p f sets = obligation_3_target image p sets f (target f)

-- 4. The mask of each edge, fall-through included, is within the know line at its end, where there is one.
abbrev pub obligation_4_target : Parts → Sets → Form → Option ℕ → Bool
obligation_4_target image sets f None = true
obligation_4_target image sets f (Some to) = fits_line (jump f sets) (known image.knows to)

abbrev pub obligation_4 : Parts → ℕ → Form → Sets → Bool
obligation_4 image p f sets = fits_line (fall f sets) (known image.knows (p + 1)) && obligation_4_target image sets f (target f)

-- the least obligation that is not met at an instruction, of its sets
abbrev pub unmet : Parts → ℕ → Form → Sets → Option ℕ
unmet image p f sets =
    let later = or_later (obligation_4 image p f sets) 4 (unmet_here f sets) in
    let later = or_later (obligation_3 image p f sets) 3 later in
    let later = or_later (obligation_2 image p f sets) 2 later in
    or_later (obligation_1 p sets) 1 later

-- at a place without sets it is the first obligation that is not met
abbrev pub unmet_of : Parts → ℕ → Option Form → Option Sets → Option ℕ
unmet_of image p (Some f) (Some s) = unmet image p f s
unmet_of image p (Some f) None = Some 1
unmet_of image p None s = None

-- the least obligation that is not met at a place, or none
abbrev pub unmet_at : Parts → ℕ → Option ℕ
unmet_at image p = unmet_of image p (slice_get image.instrs p) (sets_at image p)

-- an image is accepted: each obligation is met at each instruction
abbrev pub Accepted : Parts → Type 0
Accepted image = (p : ℕ) → p < length image.instrs → unmet_at image p ≡ None

-- what each image has: an instruction at least, operands that are all in range, and know lines that leave each field a value
pub record IsMade (image : Parts) : Type 0 where
  pub some : 0 < length image.instrs
  pub forms : (p : ℕ) (f : Form) → slice_get image.instrs p ≡ Some f → IsInRange f
  pub knows : (p : ℕ) (sets : Sets) → known image.knows p ≡ Some sets → any_empty sets ≡ false

-- the least instruction at which one is not met, with the least one there
pub record IsFirstUnmet (image : Parts) (at obligation : ℕ) : Type 0 where
  pub within : at < length image.instrs
  pub unmet : unmet_at image at ≡ Some obligation
  pub before : (p : ℕ) → p < at → unmet_at image p ≡ None
