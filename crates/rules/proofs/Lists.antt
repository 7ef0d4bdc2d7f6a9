-- 02, L7: what the guest's list does to what a use permits. Assumes nothing.
use mathlib.Core.Path.{◌≡◌, refl, sym, ap, ◌∙◌}
use mathlib.Core.Bool.{Bool, true, false, not, ◌&&◌}
use Prim.Native.Nat.{ℕ}
use Rattle.elements.specs.declared.Offer.{Offer}
use Rattle.elements.specs.declared.Offer.TheVariants.{Full, Power9}
use Rattle.elements.specs.declared.Scope.TheVariants.{Guest}
use Rattle.elements.specs.declared.Entry.{Entry}
use Rattle.elements.specs.declared.Kind.{Kind}
use Rattle.elements.specs.declared.Kind.TheVariants.{Unlisted, Nop, Listed}
use Rattle.elements.specs.Table.{kind_of}
use Rattle.elements.specs.Later.{later, is_later, offers}
use Rattle.elements.proofs.Table.{nop_zero}
use Rattle.elements.proofs.Later.{guest_offered}
use Rattle.rules.specs.declared.Usage.{Usage}
use Rattle.rules.specs.declared.Context.{Context}
use Rattle.rules.specs.Rules.{scope_for, allows, permits}
use Rattle.rules.proofs.Rules.{allows_scope}

abbrev pub by : Usage → ℕ → Offer → Context
by usage c o = record { usage = usage; capabilities = c; offer = o }

and_true : (t : Bool) → t && true ≡ t
and_true true = refl
and_true false = refl

nop_offered : (o : Offer) → offers o 0 ≡ true
unfolding offers is_later later
nop_offered Full = refl
nop_offered Power9 = refl

-- what a list permits is what 01's permits and the list has
pub permits_by : (usage : Usage) (c d : ℕ) (o : Offer) (id : ℕ) → permits (by usage c o) id (kind_of id) ≡ permits (by usage d Full) id (kind_of id) && offers o id
unfolding permits offers
permits_by usage c d o id = go (kind_of id) refl
  where
    go : (kind : Kind) → kind_of id ≡ kind → permits (by usage c o) id kind ≡ permits (by usage d Full) id kind && offers o id
    go Unlisted q = refl
    go Nop q = sym (ap (offers o) (nop_zero id q) ∙ nop_offered o)
    go (Listed x) q = ap (λ (t : Bool). t && offers o id) (sym (and_true (allows usage id x)))

-- "A guest whose logical PVR is 0x0F000005 shall not be offered what came later": in each use, an ID is permitted to a POWER9 guest exactly if
-- 01's list permits it and it is none of the nine
pub power9_exactly : (usage : Usage) (capabilities id : ℕ)
    → permits (record { usage = usage; capabilities = capabilities; offer = Power9 }) id (kind_of id)
    ≡ permits (record { usage = usage; capabilities = capabilities; offer = Full }) id (kind_of id) && not (is_later id)
unfolding offers
power9_exactly usage capabilities id = permits_by usage capabilities capabilities Power9 id

-- guest-wide the list makes no difference: it lacks no element of a guest
pub guest_permits : (usage : Usage) (c : ℕ) (o p : Offer) → scope_for usage ≡ Guest → (id : ℕ) → permits (by usage c o) id (kind_of id) ≡ permits (by usage c p) id (kind_of id)
unfolding permits
guest_permits usage c o p g id = go (kind_of id) refl
  where
    both : (x : Entry) → kind_of id ≡ Listed x → (t : Bool) → allows usage id x ≡ t → t && offers o id ≡ t && offers p id
    both x q false a = refl
    both x q true a =
        let s : x.scope ≡ Guest = allows_scope usage id x a ∙ g in
        guest_offered o id x q s ∙ sym (guest_offered p id x q s)

    go : (kind : Kind) → kind_of id ≡ kind → permits (by usage c o) id kind ≡ permits (by usage c p) id kind
    go Unlisted q = refl
    go Nop q = refl
    go (Listed x) q = both x q (allows usage id x) refl
