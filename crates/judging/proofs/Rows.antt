-- What the table of exits says of a row, by one computed test: its IDs ascend and fit. So ours are distinct and make a message, and the first
-- missing one is the smallest; and both lists of elements have them all (`exits_listed`). Assumes nothing.
use mathlib.Core.Path.{◌≡◌, refl, sym, ap, ◌∙◌, subst}
use mathlib.Core.Logic.{◌⊎◌, inl, inr}
use mathlib.Core.Bool.{Bool, true, false, cond, ◌||◌, ◌&&◌, false≢true}
use mathlib.Core.List.{List, [], ◌∷◌}
use Prim.Native.Nat.{ℕ, ◌+◌, ◌≤◌, ◌<◌}
use native.Mathlib.Omega.{arith}
use lib.Dec.{eqb, ltb, leb}
use lib.ListN.{length}
use borrow.Author.Tests.{eq-eqb, eqb-true, eqb-false, ltb-true, leb-true}
use Rattle.octets.specs.Bytes.{bytes_at}
use Rattle.octets.proofs.Bytes.{length_bytes_at}
use Rattle.answer.specs.declared.Fault.TheVariants.{None, Missing}
use Rattle.elements.specs.declared.Offer.TheVariants.{Full, Power9}
use Rattle.elements.specs.Table.{table, below, position, number_of, numbered, thread_element, find, kind_of}
use Rattle.elements.specs.Later.{later, is_later, offers}
use Rattle.gsb.specs.Message.{Wire}
use Rattle.gsb.proofs.RoundTrip.{wire_nil, wire_cons}
use Rattle.exits.specs.Exits.{exits, row_of, returned, element_of, valued}
use Rattle.exits.proofs.Written.{both, length_valued}
use Rattle.judging.specs.Judging.{times, is_ours, our_value, lacking}
use Rattle.judging.specs.Promised.{ExitsListed}
use Rattle.judging.specs.Private.{id_good, above, row_good}
use Rattle.judging.proofs.Elements.{Element}
use Rattle.judging.proofs.Reorders.{Distinct}

abbrev rows_good : List (ℕ × List ℕ) → Bool
rows_good [] = true
rows_good (x ∷ xs) = row_good x.1 && rows_good xs

-- the computed test of the table
exits_good : rows_good exits ≡ true
unfolding exits thread_element numbered number_of position below table
exits_good = refl

among : (xs : List (ℕ × List ℕ)) (exit : ℕ) → rows_good xs ≡ true → row_good (row_of xs exit) ≡ true
unfolding row_of
among [] exit e = refl
among (x ∷ xs) exit e = go (eqb x.0 exit) (both (row_good x.1) (rows_good xs) e) (among xs exit)
  where
    go : (t : Bool) → (row_good x.1 ≡ true) × (rows_good xs ≡ true) → (rows_good xs ≡ true → row_good (row_of xs exit) ≡ true) → row_good (cond t x.1 (row_of xs exit)) ≡ true
    go true p ih = p.0
    go false p ih = ih p.1

pub returned_good : (exit : ℕ) → row_good (returned exit) ≡ true
returned_good exit = among exits exit exits_good

-- THEOREM `exits_listed`
pub exits_listed : ExitsListed
unfolding exits kind_of find table offers is_later later
exits_listed Full = refl
exits_listed Power9 = refl

-- ---- one ID of a row
pub record GoodId (id : ℕ) (ids : List ℕ) : Type 0 where
  pub some : 0 < id
  pub fits : id < 65536
  pub small : (element_of id).size ≤ 16
  pub inside : (element_of id).position + (element_of id).size ≤ 1820
  pub first : above id ids ≡ true
  pub rest : row_good ids ≡ true

pub good_id : (id : ℕ) (ids : List ℕ) → row_good (id ∷ ids) ≡ true → GoodId id ids
good_id id ids e =
    let p = both (id_good id && above id ids) (row_good ids) e in
    let q = both (id_good id) (above id ids) p.0 in
    let r = both (ltb 0 id && ltb id 65536) (leb (element_of id).size 16 && leb ((element_of id).position + (element_of id).size) 1820) q.0 in
    let s = both (ltb 0 id) (ltb id 65536) r.0 in
    let t = both (leb (element_of id).size 16) (leb ((element_of id).position + (element_of id).size) 1820) r.1 in
    record { some = ltb-true _ _ s.0; fits = ltb-true _ _ s.1; small = leb-true _ _ t.0; inside = leb-true _ _ t.1; first = q.1; rest = p.1 }

module _ (base : ℕ) (s : List ℕ) where
  -- what is above an ID: those of the list are greater
  pub above_greater : (ids : List ℕ) (id other : ℕ) → above id ids ≡ true → is_ours (valued base s ids) other ≡ true → id < other
  unfolding valued is_ours
  above_greater [] id other a m = absurd (false≢true m)
  above_greater (x ∷ xs) id other a m = go (eqb x other) refl m (both (ltb id x) (above id xs) a) (above_greater xs id other)
    where
      go : (t : Bool) → eqb x other ≡ t → (t || is_ours (valued base s xs) other) ≡ true → (ltb id x ≡ true) × (above id xs ≡ true)
          → (above id xs ≡ true → is_ours (valued base s xs) other ≡ true → id < other) → id < other
      go true p q b ih = let z : x ≡ other = eqb-true _ _ p in omega (arith, ltb-true id x b.0)
      go false p q b ih = ih b.1 q

  pub above_absent : (ids : List ℕ) (id : ℕ) → above id ids ≡ true → is_ours (valued base s ids) id ≡ false
  above_absent ids id a = go (is_ours (valued base s ids) id) refl
    where
      go : (t : Bool) → is_ours (valued base s ids) id ≡ t → is_ours (valued base s ids) id ≡ false
      go true e = absurd (omega (arith, above_greater ids id id a e))
      go false e = e

  pub distinct_valued : (ids : List ℕ) → row_good ids ≡ true → Distinct (valued base s ids)
  unfolding valued
  distinct_valued [] e = tt
  distinct_valued (id ∷ ids) e =
      let g = good_id id ids e in
      let h : 0 < id = g.some in
      ((λ z. omega arith), (above_absent ids id g.first, distinct_valued ids g.rest))

  pub wire_valued : base + 1820 ≤ length s → (ids : List ℕ) → length ids ≤ 10 → row_good ids ≡ true → Wire (valued base s ids)
  unfolding valued
  wire_valued room [] h e = wire_nil
  wire_valued room (id ∷ ids) h e =
      let g = good_id id ids e in
      let f : id < 65536 = g.fits in
      let n : length (bytes_at s (base + (element_of id).position) (element_of id).size) ≡ (element_of id).size = length_bytes_at s (base + (element_of id).position) (element_of id).size (omega (arith, g.inside)) in
      wire_cons id (bytes_at s (base + (element_of id).position) (element_of id).size) (valued base s ids) (omega arith) (omega (arith, n, g.small)) (omega (arith, length_valued base s ids)) (wire_valued room ids (omega arith) g.rest)

  -- the value of one of ours, and where it lies
  pub ours_value : (ids : List ℕ) (id : ℕ) → is_ours (valued base s ids) id ≡ true → our_value (valued base s ids) id ≡ bytes_at s (base + (element_of id).position) (element_of id).size
  unfolding valued is_ours our_value
  ours_value [] id m = absurd (false≢true m)
  ours_value (x ∷ xs) id m = go (eqb x id) refl m (ours_value xs id)
    where
      go : (t : Bool) → eqb x id ≡ t → (t || is_ours (valued base s xs) id) ≡ true → (is_ours (valued base s xs) id ≡ true → our_value (valued base s xs) id ≡ bytes_at s (base + (element_of id).position) (element_of id).size)
          → cond t (bytes_at s (base + (element_of x).position) (element_of x).size) (our_value (valued base s xs) id) ≡ bytes_at s (base + (element_of id).position) (element_of id).size
      go true p q ih = ap (λ (i : ℕ). bytes_at s (base + (element_of i).position) (element_of i).size) (eqb-true _ _ p)
      go false p q ih = ih q

  pub ours_inside : (ids : List ℕ) → row_good ids ≡ true → (id : ℕ) → is_ours (valued base s ids) id ≡ true → (element_of id).position + (element_of id).size ≤ 1820
  unfolding valued is_ours
  ours_inside [] e id m = absurd (false≢true m)
  ours_inside (x ∷ xs) e id m = go (eqb x id) refl m (ours_inside xs (good_id x xs e).rest id)
    where
      go : (t : Bool) → eqb x id ≡ t → (t || is_ours (valued base s xs) id) ≡ true → (is_ours (valued base s xs) id ≡ true → (element_of id).position + (element_of id).size ≤ 1820) → (element_of id).position + (element_of id).size ≤ 1820
      go true p q ih = subst (λ (i : ℕ). (element_of i).position + (element_of i).size ≤ 1820) (eqb-true _ _ p) (good_id x xs e).inside
      go false p q ih = ih q

  -- the missing ID told is one of ours, is not there, and is the smallest such
  pub lacking_told : (ids : List ℕ) → row_good ids ≡ true → (es : List Element) (id : ℕ) → lacking (valued base s ids) es ≡ Missing id
      → (is_ours (valued base s ids) id ≡ true) × (times id es ≡ 0) × ((other : ℕ) → is_ours (valued base s ids) other ≡ true → times other es ≡ 0 → id ≤ other)
  unfolding valued lacking is_ours
  lacking_told [] e es id q = let z : ◌≡◌ {A = ℕ} 0 1 = cc q in absurd (omega arith)
  lacking_told (x ∷ xs) e es id q = go (eqb (times x es) 0) refl q (lacking_told xs (good_id x xs e).rest es id)
    where
      or_right : (t u : Bool) → u ≡ true → (t || u) ≡ true
      or_right true u h = refl
      or_right false u h = h

      go : (t : Bool) → eqb (times x es) 0 ≡ t → cond t (Missing x) (lacking (valued base s xs) es) ≡ Missing id
          → (lacking (valued base s xs) es ≡ Missing id → (is_ours (valued base s xs) id ≡ true) × (times id es ≡ 0) × ((o : ℕ) → is_ours (valued base s xs) o ≡ true → times o es ≡ 0 → id ≤ o))
          → ((eqb x id || is_ours (valued base s xs) id) ≡ true) × (times id es ≡ 0) × ((o : ℕ) → (eqb x o || is_ours (valued base s xs) o) ≡ true → times o es ≡ 0 → id ≤ o)
      go true p c ih =
          let a : x ≡ id = cc c in (
            ap (λ (t : Bool). t || is_ours (valued base s xs) id) (eq-eqb _ _ a),
            ap (λ (i : ℕ). times i es) (sym a) ∙ eqb-true _ _ p,
            λ o m z. least a o (eqb x o) refl m,
          )
        where
          least : x ≡ id → (o : ℕ) (u : Bool) → eqb x o ≡ u → (u || is_ours (valued base s xs) o) ≡ true → id ≤ o
          least a o true r w = let y : x ≡ o = eqb-true _ _ r in omega arith
          least a o false r w = omega (arith, above_greater xs x o (good_id x xs e).first w)
      go false p c ih =
          let h = ih c in
          (or_right (eqb x id) (is_ours (valued base s xs) id) h.0, h.1, λ o m z. other o (eqb x o) refl m z h.2)
        where
          other : (o : ℕ) (u : Bool) → eqb x o ≡ u → (u || is_ours (valued base s xs) o) ≡ true → times o es ≡ 0 → ((y : ℕ) → is_ours (valued base s xs) y ≡ true → times y es ≡ 0 → id ≤ y) → id ≤ o
          other o true r w z f = absurd (eqb-false _ _ p (ap (λ (i : ℕ). times i es) (eqb-true _ _ r) ∙ z))
          other o false r w z f = f o w z

-- nothing else is told
pub lacking_fault : (ours es : List Element) → (lacking ours es ≡ None) ⊎ ((id : ℕ) × (lacking ours es ≡ Missing id))
unfolding lacking
lacking_fault [] es = inl refl
lacking_fault (o ∷ ours) es = go (eqb (times o.0 es) 0) (lacking_fault ours es)
  where
    go : (t : Bool) → (lacking ours es ≡ None) ⊎ ((id : ℕ) × (lacking ours es ≡ Missing id))
        → (cond t (Missing o.0) (lacking ours es) ≡ None) ⊎ ((id : ℕ) × (cond t (Missing o.0) (lacking ours es) ≡ Missing id))
    go true ih = inr (o.0, refl)
    go false ih = ih
