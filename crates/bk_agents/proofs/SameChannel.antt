-- Two channels are the same exactly where the test says so.
use Rattle.std.proofs.Common.{◌≡◌, ◌↔◌, true, eqb, refl, ap, ◌∙◌, subst, eq-eqb}
use Rattle.std.proofs.lemmas.Bool.{eqb-true, and_parts}
use Rattle.bk_system.specs.declared.channel.Channel.TheVariants as channels
use Rattle.bk_system.specs.declared.channel.Channel.{Channel}
use Rattle.bk_system.specs.Routes.{is_same}

same-equal : (channel other : Channel) → is_same channel other ≡ true → channel ≡ other
same-equal (channels.Request from) (channels.Request c) e = ap channels.Request (eqb-true from c e)
same-equal (channels.Command to) (channels.Command c) e = ap channels.Command (eqb-true to c e)
same-equal (channels.Fill to from) (channels.Fill c o) e =
    let both = and_parts (eqb to c) (eqb from o) e in
    ap (λ n. channels.Fill n from) (eqb-true to c both.0) ∙ ap (channels.Fill c) (eqb-true from o both.1)
same-equal (channels.Response from) (channels.Response c) e = ap channels.Response (eqb-true from c e)
same-equal channels.Memout channels.Memout e = refl
same-equal channels.Memin channels.Memin e = refl
same-equal channel other e = absurd (cc (e))

same-itself : (channel : Channel) → is_same channel channel ≡ true
same-itself (channels.Request from) = eq-eqb from from refl
same-itself (channels.Command to) = eq-eqb to to refl
same-itself (channels.Fill to from) = rw (eq-eqb to to refl) (eq-eqb from from refl)
same-itself (channels.Response from) = eq-eqb from from refl
same-itself channels.Memout = refl
same-itself channels.Memin = refl

pub same-channel : (channel other : Channel) → (is_same channel other ≡ true) ↔ (channel ≡ other)
same-channel channel other = (
  same-equal channel other,
  λ same. subst (λ (c : Channel). is_same channel c ≡ true) same (same-itself channel),
)
