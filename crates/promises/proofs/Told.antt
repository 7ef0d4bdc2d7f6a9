-- THEOREM `none_told`: R3 is 0 exactly of success. And what R3, R4 and R5 tell of a walk: `first_told`, `good_told`; the table of answers read
-- backwards. Assumes nothing.
use mathlib.Core.Path.{◌≡◌, refl, sym, ap, ◌∙◌, subst}
use mathlib.Core.Logic.{◌↔◌, ◌≢◌}
use mathlib.Core.Bool.{true, cond}
use mathlib.Core.List.{List}
use Prim.Native.Nat.{ℕ, ◌<◌}
use native.Mathlib.Omega.{arith}
use lib.Dec.{eqb}
use borrow.Author.Tests.{eqb-true, eqb-false, eq-eqb, ne_eqb}
use Rattle.answer.specs.declared.Bad.{Bad}
use Rattle.answer.specs.declared.Bad.TheVariants.{Id, Size, Value}
use Rattle.answer.specs.declared.Place.{Place}
use Rattle.answer.specs.declared.Call.{Call as Name}
use Rattle.answer.specs.declared.Fault.{Fault}
use Rattle.answer.specs.declared.Fault.TheVariants.{None, Store, Flag, Guest, Token, Capability, Vcpu, Length, Element, Room, Exists, Unregistered, Short, Exit, Effect, Cache, Taken, Form, Records, Record, Missing, InUse}
use Rattle.answer.specs.declared.Registers.{Registers}
use Rattle.answer.specs.Answer.{bad_number, three, told}
use Rattle.answer.specs.declared.Answer.{Answer}
use Rattle.gsb.specs.Walk.{count_of, offset_at, walk, Verdict, Walked}
use Rattle.gsb.specs.First.{Leads, FirstBadAt, AllGood}
use Rattle.gsb.proofs.First.{refused_exactly, accepted_exactly}
use Rattle.store.specs.declared.Layout.{Layout}
use Rattle.admission.specs.Refusals.{Outcome}
use Rattle.l0.specs.Calls.{Call, outcome}
use Rattle.promises.specs.History.{name_of, registers, is_accepted}
use Rattle.promises.specs.Promised.{NotAccepted}
use Rattle.std.proofs.Common.{Ok, Err}

-- ---- 6, 7 and 8, read backwards
numbered : ℕ → Bad
numbered n = cond (eqb n 6) Id (cond (eqb n 7) Size Value)

numbered_back : (bad : Bad) → numbered (bad_number bad) ≡ bad
unfolding numbered
numbered_back Id = refl
numbered_back Size = refl
numbered_back Value = refl

pub number_bad : (a b : Bad) → bad_number a ≡ bad_number b → a ≡ b
number_bad a b e = sym (numbered_back a) ∙ ap numbered e ∙ numbered_back b

pub number_some : (bad : Bad) → 0 ≢ bad_number bad
number_some Id e = omega arith
number_some Size e = omega arith
number_some Value e = omega arith

pub number_below : (bad : Bad) → 8 < bad_number bad → ⊥
number_below Id e = omega arith
number_below Size e = omega arith
number_below Value e = omega arith

-- ---- of a call
abbrev pub tells : Name → Outcome → Registers
tells c o = told c o.answer.fault o.answer.value

-- R3 is 0 exactly of success
success_told : (c : Name) (f : Fault) (v : ℕ) → (told c f v).r3 ≡ 0 → f ≡ None
success_told c None v e = refl
success_told c Store v e = absurd (omega arith)
success_told c (Flag bit) v e = absurd (omega arith)
success_told c Guest v e = absurd (omega arith)
success_told c Token v e = absurd (omega arith)
success_told c Capability v e = absurd (omega arith)
success_told c Vcpu v e = absurd (omega arith)
success_told c Length v e = absurd (omega arith)
success_told c (Element bad place) v e = absurd (number_some bad (sym e))
success_told c Room v e = absurd (omega arith)
success_told c Exists v e = absurd (omega arith)
success_told c (Unregistered buffer) v e = absurd (omega arith)
success_told c (Short buffer) v e = absurd (omega arith)
success_told c Exit v e = absurd (omega arith)
success_told c (Effect place) v e = absurd (omega arith)
success_told c Cache v e = absurd (omega arith)
success_told c Taken v e = absurd (omega arith)
success_told c Form v e = absurd (omega arith)
success_told c Records v e = absurd (omega arith)
success_told c (Record offset) v e = absurd (omega arith)
success_told c (Missing id) v e = absurd (omega arith)
success_told c InUse v e = absurd (omega arith)

pub none_told : (c : Name) (f : Fault) (v : ℕ) → ((told c f v).r3 ≡ 0) ↔ (f ≡ None)
none_told c f v = (success_told c f v, λ e. ap (λ (g : Fault). (told c g v).r3) e)

pub zero_none : (l : Layout) (s : List ℕ) (c : Call) → (registers l s c).r3 ≡ 0 → (outcome l s c).answer.fault ≡ None
unfolding registers
zero_none l s c e = (none_told (name_of c) (outcome l s c).answer.fault (outcome l s c).answer.value).0 e

pub accepted_none : (l : Layout) (s : List ℕ) (c : Call) → is_accepted l s c ≡ true → (outcome l s c).answer.fault ≡ None
unfolding is_accepted
accepted_none l s c e = zero_none l s c (eqb-true _ _ e)

pub none_accepted : (l : Layout) (s : List ℕ) (c : Call) → (outcome l s c).answer.fault ≡ None → is_accepted l s c ≡ true
unfolding is_accepted registers
none_accepted l s c e = eq-eqb _ _ ((none_told (name_of c) (outcome l s c).answer.fault (outcome l s c).answer.value).1 e)

-- refused exactly of a fault, so of one call's name as of another's
pub refused_fault : (c : Name) (a : Answer) → NotAccepted c a → a.fault ≡ None → ⊥
refused_fault c a r e = eqb-false _ _ r ((none_told c a.fault a.value).1 e)

pub fault_refused : (c : Name) (a : Answer) → (a.fault ≡ None → ⊥) → NotAccepted c a
fault_refused c a n = ne_eqb _ _ (λ e. n ((none_told c a.fault a.value).0 e))

-- ---- of any walk, w: with the judge of a use, or with the lookup's
abbrev pub place_of : List ℕ → ℕ → Place
place_of b i = record { index = i; offset = offset_at b i }

-- `show` of the bad element that it stopped at; x where it found none
abbrev pub told_by : (Bad → Place → Registers) → Registers → Walked → Registers
told_by show x (Ok _) = x
told_by show x (Err stop) = show stop.bad stop.place

-- the place that R4 and R5 show: as get and set state and the lookup tell it, and as run does
abbrev pub index_first_in : Registers → Place
index_first_in r = record { index = r.r4; offset = r.r5 }

abbrev pub offset_first_in : Registers → Place
offset_first_in r = record { index = r.r5; offset = r.r4 }

-- 6, 7 or 8 with the place
abbrev pub element_told : Name → Bad → Place → Registers
element_told c bad place = told c (Element bad place) 0

module _ (judge : ℕ → Verdict) (b : List ℕ) (leads : Leads judge b) (w : Walked) (is : w ≡ walk judge (count_of b) 0 4) where
  module _ (show : Bad → Place → Registers) (x : Registers) where
    -- r, which is not told of a good buffer, is told exactly if it shows the first bad element
    pub first_told : (r : Registers) → x ≢ r → (told_by show x w ≡ r) ↔ ((i : ℕ) × (bad : Bad) × FirstBadAt judge b i bad × (show bad (place_of b i) ≡ r))
    first_told r n = (go w (sym is), back)
      where
        go : (v : Walked) → walk judge (count_of b) 0 4 ≡ v → told_by show x v ≡ r → (i : ℕ) × (bad : Bad) × FirstBadAt judge b i bad × (show bad (place_of b i) ≡ r)
        go (Ok _) e q = absurd (n q)
        go (Err stop) e q =
            let f = (refused_exactly judge b leads stop.bad stop.place).0 e in
            (stop.place.index, stop.bad, f.0, ap (λ (at : ℕ). show stop.bad (record { index = stop.place.index; offset = at })) (sym f.1) ∙ q)

        back : ((i : ℕ) × (bad : Bad) × FirstBadAt judge b i bad × (show bad (place_of b i) ≡ r)) → told_by show x w ≡ r
        back f = ap (told_by show x) (is ∙ (refused_exactly judge b leads f.1 (place_of b f.0)).1 (f.2, refl)) ∙ f.3

    -- R3 is 0 exactly if every counted element is good, and then x tells so
    pub good_told : ((bad : Bad) (place : Place) → (show bad place).r3 ≢ 0) → ((told_by show x w).r3 ≡ 0) ↔ (AllGood judge b × (x.r3 ≡ 0))
    good_told n = (go w (sym is), back)
      where
        go : (v : Walked) → walk judge (count_of b) 0 4 ≡ v → (told_by show x v).r3 ≡ 0 → AllGood judge b × (x.r3 ≡ 0)
        go (Ok _) e q = ((accepted_exactly judge b leads).0 e, q)
        go (Err stop) e q = absurd (n stop.bad stop.place q)

        back : AllGood judge b × (x.r3 ≡ 0) → (told_by show x w).r3 ≡ 0
        back f = ap (λ (v : Walked). (told_by show x v).r3) (is ∙ (accepted_exactly judge b leads).1 f.0) ∙ f.1

  -- 6, 7 or 8, where R4 and R5 show the place; x has another R3. r is what is told
  module _ (c : Name) (x : Registers) (bad : Bad) (other : x.r3 ≢ bad_number bad) (place_in : Registers → Place) (shows : (bad' : Bad) (place : Place) → place_in (element_told c bad' place) ≡ place) where
    pub element_told_lem : (place : Place) (r : Registers) → r ≡ told_by (element_told c) x w → (r ≡ element_told c bad place) ↔ (FirstBadAt judge b place.index bad × (offset_at b place.index ≡ place.offset))
    element_told_lem place r is_told_lem = (there, back)
      where
        first : (told_by (element_told c) x w ≡ element_told c bad place) ↔ ((i : ℕ) × (bad' : Bad) × FirstBadAt judge b i bad' × (element_told c bad' (place_of b i) ≡ element_told c bad place))
        first = first_told (element_told c) x (element_told c bad place) (λ e. other (ap (λ (y : Registers). y.r3) e))

        there : r ≡ element_told c bad place → FirstBadAt judge b place.index bad × (offset_at b place.index ≡ place.offset)
        there e =
            let f = first.0 (sym is_told_lem ∙ e) in
            let q : f.1 ≡ bad = number_bad f.1 bad (ap (λ (y : Registers). y.r3) f.3) in
            let p : place_of b f.0 ≡ place = sym (shows f.1 (place_of b f.0)) ∙ ap place_in f.3 ∙ shows bad place in
            (subst (λ (z : Place). FirstBadAt judge b z.index bad) p (subst (FirstBadAt judge b f.0) q f.2), sym (ap (λ (z : Place). offset_at b z.index) p) ∙ ap (λ (z : Place). z.offset) p)

        back : FirstBadAt judge b place.index bad × (offset_at b place.index ≡ place.offset) → r ≡ element_told c bad place
        back f = is_told_lem ∙ first.1 (place.index, bad, f.0, ap (λ (at : ℕ). element_told c bad (record { index = place.index; offset = at })) f.1)

  -- 0 where the walk found none: exactly if every counted element is good
  pub zero_told : (c : Name) (r : Registers) → r ≡ told_by (element_told c) (three 0 0 0) w → (r.r3 ≡ 0) ↔ AllGood judge b
  zero_told c r e =
      let g = good_told (element_told c) (three 0 0 0) (λ bad place q. number_some bad (sym q)) in
      ((λ q. (g.0 (sym (ap (λ (x : Registers). x.r3) e) ∙ q)).0), (λ f. ap (λ (x : Registers). x.r3) e ∙ g.1 (f, refl)))
