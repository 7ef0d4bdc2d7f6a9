-- THEOREMS `refused_exactly`, `accepted_exactly`, for every judge: the walk refuses exactly if a counted element is bad, and the place
-- that it tells is the first one's index and offset. Assumes nothing.
use mathlib.Core.Path.{◌≡◌, refl, sym, ap, ◌∙◌, subst}
use mathlib.Core.Logic.{◌↔◌}
use mathlib.Core.List.{List}
use Prim.Native.Nat.{ℕ, zero, suc, ◌+◌, ◌-◌, ◌≤◌, ◌<◌}
use native.Mathlib.Numerals.{add-one}
use native.Mathlib.Decide.{dec_lt}
use native.Mathlib.Omega.{arith}
use Rattle.answer.specs.declared.Bad.{Bad}
use Rattle.answer.specs.declared.Place.{Place}
use Rattle.elements.specs.declared.Scope.TheVariants.{Guest}
use Rattle.elements.specs.declared.Offer.{Offer}
use Rattle.rules.specs.declared.Usage.{Usage}
use Rattle.rules.specs.declared.Context.{Context}
use Rattle.rules.specs.Rules.{scope_for}
use Rattle.rules.proofs.Lists.{by, guest_permits}
use Rattle.gsb.specs.declared.BadElement.{BadElement}
use Rattle.gsb.specs.Walk.{count_of, offset_at, judged, walk_on, walk, first_bad, Verdict, stopped_at}
use Rattle.gsb.specs.First.{Leads, FirstBadAt, AllGood}
use Rattle.gsb.proofs.Judged.{GoodElement, good_element, judged_lists}
use Rattle.gsb.proofs.Walks.{walk_end, walk_good, walk_bad, after_good, after_bad, offset_start, offset_next, walk_start}
use Rattle.std.proofs.Common.{Ok, Err}

-- the first bad element of n that follow one another from index i on, and what is wrong with it
record FirstFrom (judge : ℕ → Verdict) (b : List ℕ) (i n : ℕ) (bad : Bad) (place : Place) : Type 0 where
  from : i ≤ place.index
  counted : place.index < i + n
  offset : place.offset ≡ offset_at b place.index
  faulty : judge place.offset ≡ Err bad
  before : (j : ℕ) → i ≤ j → j < place.index → judge (offset_at b j) ≡ Ok (offset_at b (j + 1))

not_done : (bad : Bad) (place : Place) → Ok tt ≡ stopped_at bad place → ⊥
not_done bad place e = let z : ◌≡◌ {A = ℕ} 0 1 = cc in omega arith

-- what a walk tells: its fault and its place
pub same_stop : {bad bad' : Bad} {place place' : Place} → stopped_at bad place ≡ stopped_at bad' place' → (bad ≡ bad') × (place ≡ place')
same_stop {bad} {bad'} {place} {place'} e =
    let h : ◌≡◌ {A = BadElement} (record { bad = bad; place = place }) (record { bad = bad'; place = place' }) = cc in
    (ap (λ (x : BadElement). x.bad) h, ap (λ (x : BadElement). x.place) h)

module _ (judge : ℕ → Verdict) (b : List ℕ) (leads : Leads judge b) where
  -- a good element leads to the next
  next_offset : (i next : ℕ) → judge (offset_at b i) ≡ Ok next → next ≡ offset_at b (i + 1)
  next_offset i next g = leads (offset_at b i) next g ∙ offset_next b i (offset_at b i) refl

  module _ (bad : Bad) (place : Place) where
    -- this element, once those after it are settled
    step : (n i : ℕ) (v : Verdict) → judge (offset_at b i) ≡ v
        → (walk judge n (i + 1) (offset_at b (i + 1)) ≡ stopped_at bad place → FirstFrom judge b (i + 1) n bad place)
        → walk_on v i (offset_at b i) (λ next. walk judge n (i + 1) next) ≡ stopped_at bad place → FirstFrom judge b i (suc n) bad place
    step n i (Ok next) g ih e =
        let o : next ≡ offset_at b (i + 1) = next_offset i next g in
        let f = ih (ap (λ (x : ℕ). walk judge n (i + 1) x) (sym o) ∙ sym (after_good next i (offset_at b i) (λ x. walk judge n (i + 1) x)) ∙ e) in
        record {
          from = omega (arith, f.from);
          counted = omega (arith, f.counted);
          offset = f.offset;
          faulty = f.faulty;
          before = λ j l m. earlier f j l m (dec_lt i j);
        }
      where
        earlier : FirstFrom judge b (i + 1) n bad place → (j : ℕ) → i ≤ j → j < place.index → Dec (i < j) → judge (offset_at b j) ≡ Ok (offset_at b (j + 1))
        earlier f j l m (yes h) = f.before j (omega arith) m
        earlier f j l m (no h) =
            let q : i ≡ j = omega arith in
            subst (λ (x : ℕ). judge (offset_at b x) ≡ Ok (offset_at b (x + 1))) q (g ∙ ap Ok (next_offset i next g))
    step n i (Err bad') g ih e =
        let s : stopped_at bad' (record { index = i; offset = offset_at b i }) ≡ stopped_at bad place = sym (after_bad bad' i (offset_at b i) (λ x. walk judge n (i + 1) x)) ∙ e in
        let p : ◌≡◌ {A = Place} (record { index = i; offset = offset_at b i }) place = (same_stop s).1 in
        let q : bad' ≡ bad = (same_stop s).0 in
        let x : i ≡ place.index = ap (λ (z : Place). z.index) p in
        let y : offset_at b i ≡ place.offset = ap (λ (z : Place). z.offset) p in
        record {
          from = omega arith;
          counted = omega arith;
          offset = sym y ∙ ap (offset_at b) x;
          faulty = ap judge (sym y) ∙ g ∙ ap Err q;
          before = λ j l m. absurd (omega arith);
        }

    stopped : (n i : ℕ) → walk judge n i (offset_at b i) ≡ stopped_at bad place → FirstFrom judge b i n bad place
    unfolding walk
    stopped zero i e = absurd (not_done bad place e)
    stopped (suc n) i e = step n i (judge (offset_at b i)) refl (stopped n (i + 1)) e

  -- past j good elements
  reach : (j : ℕ) → j ≤ count_of b → ((i : ℕ) → i < j → judge (offset_at b i) ≡ Ok (offset_at b (i + 1)))
      → walk judge (count_of b) 0 4 ≡ walk judge (count_of b - j) j (offset_at b j)
  reach zero l h = walk_start judge (count_of b) ∙ ap (λ (x : ℕ). walk judge (count_of b - 0) 0 x) (offset_start b)
  reach (suc j) l h =
      reach j (omega arith) (λ i m. h i (omega arith))
      ∙ walk_good judge (count_of b) j (offset_at b j) (offset_at b (j + 1)) (omega arith) (h j (omega arith))
      ∙ ap (λ (x : ℕ). walk judge (count_of b - x) x (offset_at b x)) (add-one j)

  -- refused, with the place of the first bad element
  pub refused_exactly : (bad : Bad) (place : Place) → walk judge (count_of b) 0 4 ≡ stopped_at bad place ↔ (FirstBadAt judge b place.index bad × (place.offset ≡ offset_at b place.index))
  refused_exactly bad place = (there, back)
    where
      there : walk judge (count_of b) 0 4 ≡ stopped_at bad place → FirstBadAt judge b place.index bad × (place.offset ≡ offset_at b place.index)
      there e =
          let z : count_of b - 0 ≡ count_of b = omega arith in
          let f = stopped bad place (count_of b) 0 (ap (λ (n : ℕ). walk judge n 0 (offset_at b 0)) (sym z) ∙ sym (reach 0 (omega arith) (λ i m. absurd (omega arith))) ∙ e) in
          (record { counted = omega (arith, f.counted); faulty = ap judge (sym f.offset) ∙ f.faulty; before = λ j m. f.before j (omega arith) m }, f.offset)

      back : FirstBadAt judge b place.index bad × (place.offset ≡ offset_at b place.index) → walk judge (count_of b) 0 4 ≡ stopped_at bad place
      back f =
          reach place.index (omega (arith, f.0.counted)) f.0.before
          ∙ walk_bad judge (count_of b) place.index (offset_at b place.index) bad f.0.counted f.0.faulty
          ∙ ap (λ (x : ℕ). stopped_at bad (record { index = place.index; offset = x })) (sym f.1)

  -- accepted exactly if every counted element is good
  pub accepted_exactly : walk judge (count_of b) 0 4 ≡ Ok tt ↔ AllGood judge b
  accepted_exactly = (there, back)
    where
      back : AllGood judge b → walk judge (count_of b) 0 4 ≡ Ok tt
      back h = reach (count_of b) (omega arith) h ∙ walk_end judge (count_of b) (count_of b) (offset_at b (count_of b)) (omega arith)

      -- element j, if those before it are good
      here : walk judge (count_of b) 0 4 ≡ Ok tt → (j : ℕ) → j < count_of b → ((i : ℕ) → i < j → judge (offset_at b i) ≡ Ok (offset_at b (i + 1)))
          → (v : Verdict) → judge (offset_at b j) ≡ v → judge (offset_at b j) ≡ Ok (offset_at b (j + 1))
      here d j l h (Ok next) g = g ∙ ap Ok (next_offset j next g)
      here d j l h (Err bad) g =
          absurd (not_done bad _ (sym d ∙ reach j (omega arith) h ∙ walk_bad judge (count_of b) j (offset_at b j) bad l g))

      up_to : walk judge (count_of b) 0 4 ≡ Ok tt → (j : ℕ) → j ≤ count_of b → (i : ℕ) → i < j → judge (offset_at b i) ≡ Ok (offset_at b (i + 1))
      up_to d zero l i m = absurd (omega arith)
      up_to d (suc j) l i m = last (up_to d j (omega arith)) (dec_lt i j)
        where
          last : ((x : ℕ) → x < j → judge (offset_at b x) ≡ Ok (offset_at b (x + 1))) → Dec (i < j) → judge (offset_at b i) ≡ Ok (offset_at b (i + 1))
          last h (yes n) = h i n
          last h (no n) =
              let q : j ≡ i = omega arith in
              subst (λ (x : ℕ). judge (offset_at b x) ≡ Ok (offset_at b (x + 1))) q (here d j (omega arith) h (judge (offset_at b j)) refl)

      there : walk judge (count_of b) 0 4 ≡ Ok tt → AllGood judge b
      there d j l = up_to d (count_of b) (omega arith) j l

-- ---- of a use
pub judged_leads : (k : Context) (b : List ℕ) → Leads (judged k b) b
judged_leads k b at next g = (good_element k b at next g).1

pub first_walk : (k : Context) (b : List ℕ) → first_bad k b ≡ walk (judged k b) (count_of b) 0 4
unfolding first_bad
first_walk k b = refl

pub all_good : (k : Context) (b : List ℕ) → first_bad k b ≡ Ok tt ↔ AllGood (judged k b) b
unfolding first_bad
all_good k b = accepted_exactly (judged k b) b (judged_leads k b)

-- each element of an accepted buffer is good
pub element_good_lem : (k : Context) (b : List ℕ) → first_bad k b ≡ Ok tt → (i : ℕ) → i < count_of b → GoodElement k b (offset_at b i)
element_good_lem k b d i h = (good_element k b (offset_at b i) (offset_at b (i + 1)) ((all_good k b).0 d i h)).0

-- guest-wide the guest's list makes no difference
pub guest_good : (usage : Usage) (c : ℕ) (o p : Offer) → scope_for usage ≡ Guest → (b : List ℕ) → first_bad (by usage c o) b ≡ Ok tt → first_bad (by usage c p) b ≡ Ok tt
guest_good usage c o p g b d =
    (all_good (by usage c p) b).1
    (λ j l. sym (judged_lists usage c o p (guest_permits usage c o p g) b (offset_at b j)) ∙ (all_good (by usage c o) b).0 d j l)
