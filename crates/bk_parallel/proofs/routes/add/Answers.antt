use Rattle.std.proofs.Common.{◌≡◌, ◌≢◌, false, sym, subst, ap, ◌∙◌}
use Rattle.std.specs.List.{list_any}
use Rattle.bk_system.specs.contracts.channel.ChannelPartialEq.TheImpl as derived
use Rattle.bk_system.specs.Routes.{begins_at, ends_at}
use Rattle.bk_rounds.specs.Ends.{is_in}
use Rattle.bk_parallel.specs.Opens.{Adds}
use Rattle.bk_parallel.proofs.Listing.{found-is_in, adds-one, adds-none}
use Rattle.bk_parallel.proofs.routes.add.Goals as goal
use Rattle.bk_parallel.proofs.routes.add.Goals.{else-leads-via-then-leads+else-not-contains, else-leads-via-else-leads}

pub returns-in_ok-push : goal.returns-in_ok-push
returns-in_ok-push c =
    let k = c.args.config in
    let channel = c.args.channel in
    let old = c.args.channels.now.items in
    let apart : begins_at k channel ≢ ends_at k channel =
    λ e. c.if-leads.true (c.begins_at.ensures ∙ e ∙ sym c.ends_at.ensures) in
    let none : is_in channel old ≡ false =
    sym (found-is_in channel old) ∙ ap (list_any (λ other. derived.eq-value.it other channel)) (sym c.deref.ensures.value)
    ∙ sym c.contains.ensures.value ∙ c.if-not-contains.true in
    subst (Adds k channel old) (sym c.in_ok-push.ensures.items)
    (adds-one k channel old c.requires.some (record { there = c.requires.there; apart = apart }) none)

pub returns-else-leads : goal.returns-else-leads
returns-else-leads c =
    let k = c.args.config in
    let channel = c.args.channel in
    let old = c.args.channels.now.items in
    elim c.else-leads.branch as (λ branch. Adds k channel old old) [
      | else-leads-via-then-leads+else-not-contains w ↦ adds-none k channel old c.requires.some
          (λ between. sym (found-is_in channel old)
          ∙ ap (list_any (λ other. derived.eq-value.it other channel)) (sym w.deref.ensures.value)
          ∙ sym w.contains.ensures.value ∙ w.if-not-contains.false)
      | else-leads-via-else-leads w ↦ adds-none k channel old c.requires.some
          (λ between. absurd (between.apart (sym c.begins_at.ensures ∙ w.if-leads.false ∙ c.ends_at.ensures)))
    ]
