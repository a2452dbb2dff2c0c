-- Rows of the flow, computed at single masks.
use Rattle.std.proofs.Common.{◌≡◌, Some, None, refl}
use Rattle.bk_base.specs.declared.coh.Coh.TheVariants.{I, S, O}
use Rattle.bk_isa.specs.declared.form.Form.TheVariants.{Wfq, Bk, Popq, Bi, Beq, Stwb, Tr, Andf}
use Rattle.bk_know.specs.Sets.{idle_base as idle, held_base as held}
use Rattle.bk_flow.specs.Flow.{fall, jump, left, set_not, set_and, set_or, acks_after, awake}

-- nothing can be popped where there is no head, and a wait for memory ends only where memory was asked
no-head : fall (Popq 0) idle ≡ None
no-head = refl

no-message : fall (Wfq 2) held ≡ None
no-message = refl

memory-asked : fall (Wfq 2) (record held { mem = 2 }) ≡ Some (record held { mem = 2; head = 64 })
memory-asked = refl

-- a response may be a CohAck, an InvAck where one is owed, a Wb or NullWb where one was asked for
any-response : fall (Wfq 1) (record held { acks = 3; wb = 2 }) ≡ Some (record held { acks = 3; wb = 2; head = 60 })
any-response = refl

idle-wait : fall (Wfq 5) idle ≡ Some (record idle { head = 10; gp = 3 })
idle-wait = refl

-- a Request popped is held and nothing is known of it, but the flags stay
request-popped : fall (Popq 1) (record idle { head = 2; f1 = 2 }) ≡ Some (record held { f1 = 2 })
request-popped = refl

-- Wb or NullWb, joined
write-back-popped : fall (Popq 0) (record held { head = 48; wb = 2 }) ≡ Some (record held { wb = 5 })
write-back-popped = refl

-- a CohAck popped: Blocked becomes Idle, other stages stay
woken : awake 2 ≡ 1
woken = refl

others-stay : awake 12 ≡ 12
others-stay = refl

-- the kind of a held request narrows own on both edges, and in Closing it doesn't
read-has-none : jump (Bk 4 1 0) held ≡ Some (record held { kind = 1; own = 1 })
read-has-none = refl

not-a-read : fall (Bk 4 1 0) held ≡ Some (record held { kind = 30 })
not-a-read = refl

only-a-write : fall (Bk 4 29 0) held ≡ Some (record held { kind = 2; own = 43 })
only-a-write = refl

closing-keeps-own : jump (Bk 4 1 0) (record held { stage = 8 }) ≡ Some (record held { stage = 8; kind = 1 })
closing-keeps-own = refl

no-such-read : jump (Bk 4 1 0) (record held { own = 62 }) ≡ None
no-such-read = refl

-- a branch always taken has no fall-through, one on registers has both edges
always : fall (Bi 0) idle ≡ None
always = refl

sometimes : fall (Beq 0 1 0) idle ≡ jump (Beq 0 1 0) idle
sometimes = refl

-- flags: of one flag with itself the results are its values
and-known : set_and 1 2 ≡ 1
and-known = refl

and-unknown : set_and 3 2 ≡ 3
and-unknown = refl

and-same : left (Andf 2 2) (record idle { f2 = 2 }) ≡ record idle { f2 = 2 }
and-same = refl

or-known : set_or 1 2 ≡ 2
or-known = refl

or-unknown : set_or 3 1 ≡ 3
or-unknown = refl

not-known : set_not 1 ≡ 2
not-known = refl

not-unknown : set_not 3 ≡ 3
not-unknown = refl

-- acknowledgements are owed: for certain, not at all, perhaps
acks-of-others : acks_after 0 (record held { others = 2 }) ≡ 2
acks-of-others = refl

acks-of-none : acks_after 0 (record held { others = 1 }) ≡ 1
acks-of-none = refl

acks-perhaps : acks_after 0 held ≡ 3
acks-perhaps = refl

acks-of-owner : acks_after 1 (record held { others = 1; owner = 4 }) ≡ 2
acks-of-owner = refl

acks-of-no-owner : acks_after 1 (record held { others = 1; owner = 1 }) ≡ 1
acks-of-no-owner = refl

acks-perhaps-of-owner : acks_after 1 (record held { others = 1; owner = 5 }) ≡ 3
acks-perhaps-of-owner = refl

-- an owner that is asked to go to S stays as a sharer
flushed-to-shared : left (Stwb 1 S) (record held { others = 1 }) ≡ record held { others = 2; owner = 1; wb = 2 }
flushed-to-shared = refl

flushed-to-invalid : left (Stwb 1 I) (record held { others = 1 }) ≡ record held { others = 1; owner = 1; wb = 2 }
flushed-to-invalid = refl

-- the owner goes to the first state, the requester to the second
transferred : left (Tr O S) held ≡ record held { stage = 8; dreq = 2; down = 16 }
transferred = refl
