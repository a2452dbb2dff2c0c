use Rattle.std.proofs.Common.{◌≡◌, List, [], ◌∷◌, ◌++◌, length, map, All, refl, sym, ap, ◌∙◌, append_assoc, subst, arith}
use Rattle.std.proofs.lemmas.List.{map-append}
use Rattle.std.proofs.lemmas.List.Elements.{All-nil, All-cons, All-append}
use Rattle.bk_rounds.specs.declared.agent.Agent.{Agent}
use Rattle.bk_parallel.specs.declared.sides.Seat as places
use Rattle.bk_parallel.specs.declared.sides.Ending.TheVariants.{Busy}
use Rattle.bk_parallel.proofs.sides.seats_of.Goals as goal

pub loop-agent-preserved : goal.loop-agent-preserved
loop-agent-preserved g c =
    let seat : places.Seat g.row.F.Denot = record { agent = c.in-Some.agent; victim = c.args.victim; ending = Busy } in
    let seats = c.loop-agent.seats.items in
    let steps = (c.in-Some.ensures).steps in
    let push : c.push.new.self.items ≡ seats ++ seat ∷ [] = (c.in_ok-push.ensures).items in
    let of : places.Seat g.row.F.Denot → Agent = λ seat. seat.agent in
    record {
      victim = refl;
      agents = ap (λ (xs : List (places.Seat g.row.F.Denot)). map of xs ++ c.next.new.self.rest.items) push
          ∙ ap (λ (ys : List Agent). ys ++ c.next.new.self.rest.items) (map-append of seats (seat ∷ []))
          ∙ append_assoc (map of seats) (c.in-Some.agent ∷ []) c.next.new.self.rest.items
          ∙ ap (λ (ys : List Agent). map of seats ++ ys) (sym steps.0) ∙ c.loop-agent.invariant.agents;
      victims = subst (All (λ (x : places.Seat g.row.F.Denot). x.victim ≡ c.args.victim)) (sym push)
          (All-append (λ (x : places.Seat g.row.F.Denot). x.victim ≡ c.args.victim) seats (seat ∷ []) c.loop-agent.invariant.victims
          (All-cons (λ (x : places.Seat g.row.F.Denot). x.victim ≡ c.args.victim) seat [] refl
          (All-nil (λ (x : places.Seat g.row.F.Denot). x.victim ≡ c.args.victim))));
      rest_len = omega (arith, steps.1, c.loop-agent.invariant.rest_len, ap length steps.0);
    }
