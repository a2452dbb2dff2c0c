-- What is left of a closed channel.
use Rattle.std.proofs.Common.{◌≡◌, List, [], ◌∷◌, ◌++◌, length, drop, sym, refl, ap, ◌∙◌, append_assoc, subst, arith, Option, Some, None, MatchOption}
use Rattle.std.proofs.Math.Seq.{drop-append_seam}
use Rattle.crossbeam_queue.specs.Fifo.{Held}
use Rattle.bk_msg.specs.declared.codec.Packet.{Packet}
use Rattle.bk_net.specs.declared.rule.Account.{Account}
use Rattle.bk_net.specs.Rule.{having_taken, left_of, IsNext, IsBothEnds}

-- what follows the packets taken is what is left
left_is : (taken sent rest : List Packet) → sent ≡ taken ++ rest → drop (length taken) sent ≡ rest
left_is taken sent rest e = ap (drop (length taken)) e ∙ drop-append_seam taken rest

splits : (taken sent rest : List Packet) → sent ≡ taken ++ rest → sent ≡ taken ++ drop (length taken) sent
splits taken sent rest e = e ∙ ap (λ l. taken ++ l) (sym (left_is taken sent rest e))

-- where the packet is the next, the rest follows all that was taken with it
behind : (v : Account) (packet : Packet) (next : IsNext v packet) → v.sent ≡ (v.taken ++ packet ∷ []) ++ next.0
behind v packet next = next.1 ∙ sym (append_assoc v.taken (packet ∷ []) next.0)

-- what a pop of a closed channel tells: of the account before, the one after, and the answer
abbrev pub Popped : Account → Account → Option Packet → Type 0
Popped v u answer = MatchOption answer ((u ≡ v) × Held 0 (λ held. v.sent ≡ v.taken ++ held))
    (λ packet. (u ≡ having_taken v packet) × IsNext v packet)

pub keeps_both : (v u : Account) (answer : Option Packet) → IsBothEnds v → Popped v u answer → IsBothEnds u
keeps_both v u None h p = subst (λ (x : Account). IsBothEnds x) (sym p.0) h
keeps_both v u (Some packet) h p =
    let whole = splits (v.taken ++ packet ∷ []) v.sent p.1.0 (behind v packet p.1) in
    subst (λ (x : Account). IsBothEnds x) (sym p.0) (h.0, h.1, whole)

-- the answer is the first of what was left, and none where nothing was
abbrev pub Answers : List Packet → List Packet → Option Packet → Type 0
Answers old new answer = MatchOption answer ((old ≡ []) × (new ≡ [])) (λ packet. old ≡ packet ∷ new)

none_left : (l : List Packet) → length l ≡ 0 → l ≡ []
none_left [] e = refl
none_left (x ∷ l) e = absurd (omega (arith, e))

pub answers : (v u : Account) (answer : Option Packet) → Popped v u answer → Answers (left_of v) (left_of u) answer
answers v u None p =
    let nothing : left_of v ≡ [] = left_is v.taken v.sent p.1.0 p.1.2 ∙ none_left p.1.0 p.1.1 in
    (nothing, ap left_of p.0 ∙ nothing)
answers v u (Some packet) p =
    let rest = p.1.0 in
    let new : left_of u ≡ rest = ap left_of p.0 ∙ left_is (v.taken ++ packet ∷ []) v.sent rest (behind v packet p.1) in
    left_is v.taken v.sent (packet ∷ rest) p.1.1 ∙ ap (λ l. packet ∷ l) (sym new)
