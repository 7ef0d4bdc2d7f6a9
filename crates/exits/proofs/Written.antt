-- A row's elements written one behind the other: the one computed test that they fit, and the laws of the loop. Assumes nothing.
use mathlib.Core.Path.{◌≡◌, refl, sym, ap, ◌∙◌}
use mathlib.Core.Bool.{Bool, true, false, ◌&&◌, cond, false≢true}
use mathlib.Core.List.{List, [], ◌∷◌, ◌++◌}
use denote.Bor.{Bor}
use Prim.Native.Nat.{ℕ, zero, suc, ◌+◌, ◌≤◌, ◌<◌, ◌^◌}
use native.Mathlib.Nat.{not-suc-le-zero, le_of_suc-le-suc}
use native.Mathlib.Numerals.{add-one}
use native.Mathlib.Omega.{arith}
use lib.Dec.{ltb, leb, eqb}
use lib.ListN.{length, get_or, take}
use lib.Seq.{take-suc}
use borrow.Author.Tests.{leb-true, ltb-true}
use Rattle.octets.specs.Bytes.{bytes_at, put}
use Rattle.octets.proofs.Bytes.{length_bytes_at}
use Rattle.elements.specs.declared.Element.{Element}
use Rattle.elements.specs.Table.{table, below, position, number_of, numbered, thread_element}
use Rattle.elements.specs.declared.Register.{Register}
use Rattle.elements.specs.Registers.{register_of}
use Rattle.elements.proofs.RegisterLaws.{is_register, register_element}
use Rattle.gsb.specs.Message.{element_bytes, elements_bytes}
use Rattle.gsb.proofs.Messages.{length_more, elements_none, elements_more}
use Rattle.exits.specs.Exits.{exits, row_of, returned, element_of, weigh, bytes_column, valued}
use Rattle.std.specs.Prelude.{Option, Some, None, MatchOption, unwrap_or}

-- ---- what an element and a row must be
abbrev id_fits : ℕ → Bool
id_fits id = ltb (number_of id) 170 && (leb (element_of id).size 16 && leb ((element_of id).position + (element_of id).size) 1820)

abbrev pub all_fit : List ℕ → Bool
all_fit [] = true
all_fit (id ∷ ids) = id_fits id && all_fit ids

abbrev pub row_fits : List ℕ → Bool
row_fits ids = all_fit ids && (leb (weigh ids) 120 && leb (length ids) 10)

abbrev pub rows_fit : List (ℕ × List ℕ) → Bool
rows_fit [] = true
rows_fit (x ∷ xs) = row_fits x.1 && rows_fit xs

-- the computed test of the table
pub exits_fit : rows_fit exits ≡ true
unfolding exits weigh thread_element numbered number_of position below table
exits_fit = refl

pub both : (a b : Bool) → (a && b) ≡ true → (a ≡ true) × (b ≡ true)
both true b e = (refl, e)
both false b e = let z : ◌≡◌ {A = ℕ} 0 1 = cc in absurd (omega arith)

pub record Fits (ids : List ℕ) : Type 0 where
  pub all : all_fit ids ≡ true
  pub light : weigh ids ≤ 120
  pub few : length ids ≤ 10

pub none_fits : Fits []
unfolding weigh
none_fits = record { all = refl; light = omega arith; few = omega arith }

pub fits_row : (ids : List ℕ) → row_fits ids ≡ true → Fits ids
fits_row ids e =
    let p = both (all_fit ids) (leb (weigh ids) 120 && leb (length ids) 10) e in
    let q = both (leb (weigh ids) 120) (leb (length ids) 10) p.1 in
    record { all = p.0; light = leb-true _ _ q.0; few = leb-true _ _ q.1 }

-- so the elements of every exit, known or not, lie among a slot's values
row_fit : (xs : List (ℕ × List ℕ)) (exit : ℕ) → rows_fit xs ≡ true → all_fit (row_of xs exit) ≡ true
unfolding row_of
row_fit [] exit e = refl
row_fit (x ∷ xs) exit e = go (eqb x.0 exit) (both (row_fits x.1) (rows_fit xs) e) (row_fit xs exit)
  where
    go : (t : Bool) → (row_fits x.1 ≡ true) × (rows_fit xs ≡ true) → (rows_fit xs ≡ true → all_fit (row_of xs exit) ≡ true) → all_fit (cond t x.1 (row_of xs exit)) ≡ true
    go true p ih = (fits_row x.1 p.0).all
    go false p ih = ih p.1

pub returned_fit : (exit : ℕ) → all_fit (returned exit) ≡ true
returned_fit exit = row_fit exits exit exits_fit

pub record Fit (id : ℕ) : Type 0 where
  pub listed : number_of id < 170
  pub small : (element_of id).size ≤ 16
  pub inside : (element_of id).position + (element_of id).size ≤ 1820

fit : (id : ℕ) → id_fits id ≡ true → Fit id
fit id e =
    let p = both (ltb (number_of id) 170) (leb (element_of id).size 16 && leb ((element_of id).position + (element_of id).size) 1820) e in
    let q = both (leb (element_of id).size 16) (leb ((element_of id).position + (element_of id).size) 1820) p.1 in
    record { listed = ltb-true _ _ p.0; small = leb-true _ _ q.0; inside = leb-true _ _ q.1 }

fit_at : (ids : List ℕ) (j : ℕ) → all_fit ids ≡ true → j < length ids → Fit (get_or ids j 0)
fit_at [] j e h = absurd (not-suc-le-zero h)
fit_at (id ∷ ids) zero e h = fit id (both (id_fits id) (all_fit ids) e).0
fit_at (id ∷ ids) (suc j) e h = fit_at ids j (both (id_fits id) (all_fit ids) e).1 (le_of_suc-le-suc h)

-- ---- prefixes of a row
pub weigh_append : (xs ys : List ℕ) → weigh (xs ++ ys) ≡ weigh xs + weigh ys
unfolding weigh
weigh_append [] ys = omega arith
weigh_append (x ∷ xs) ys = let h = weigh_append xs ys in omega (arith, h)

weigh_next : (ids : List ℕ) (j : ℕ) → j < length ids → weigh (take (j + 1) ids) ≡ weigh (take j ids) + 4 + (element_of (get_or ids j 0)).size
unfolding weigh
weigh_next ids j h =
    ap weigh (ap (λ (n : ℕ). take n ids) (add-one j) ∙ take-suc ids j 0 h) ∙ weigh_append (take j ids) (get_or ids j 0 ∷ []) ∙ omega arith

weigh_prefix : (ids : List ℕ) (j : ℕ) → j < length ids → weigh (take j ids) + 4 + (element_of (get_or ids j 0)).size ≤ weigh ids
unfolding weigh
weigh_prefix [] j h = absurd (not-suc-le-zero h)
weigh_prefix (id ∷ ids) zero h = omega arith
weigh_prefix (id ∷ ids) (suc j) h = let k = weigh_prefix ids j (le_of_suc-le-suc h) in omega (arith, k)

pub valued_append : (base : ℕ) (s xs ys : List ℕ) → valued base s (xs ++ ys) ≡ valued base s xs ++ valued base s ys
unfolding valued
valued_append base s [] ys = refl
valued_append base s (x ∷ xs) ys = ap (λ (z : List (ℕ × List ℕ)). (x, bytes_at s (base + (element_of x).position) (element_of x).size) ∷ z) (valued_append base s xs ys)

abbrev value_in : ℕ → List ℕ → ℕ → List ℕ
value_in base s id = bytes_at s (base + (element_of id).position) (element_of id).size

valued_next : (base : ℕ) (s ids : List ℕ) (j : ℕ) → j < length ids → valued base s (take (j + 1) ids) ≡ valued base s (take j ids) ++ ((get_or ids j 0, value_in base s (get_or ids j 0)) ∷ [])
unfolding valued
valued_next base s ids j h = ap (valued base s) (ap (λ (n : ℕ). take n ids) (add-one j) ∙ take-suc ids j 0 h) ∙ valued_append base s (take j ids) (get_or ids j 0 ∷ [])

pub length_valued : (base : ℕ) (s ids : List ℕ) → length (valued base s ids) ≡ length ids
unfolding valued
length_valued base s [] = refl
length_valued base s (id ∷ ids) = ap suc (length_valued base s ids)

-- how far the elements of a prefix reach
pub weighed : (base : ℕ) (s ids : List ℕ) (j : ℕ) → base + 1820 ≤ length s → all_fit ids ≡ true → j ≤ length ids → length (elements_bytes (valued base s (take j ids))) ≡ weigh (take j ids)
unfolding weigh elements_bytes valued
weighed base s ids zero room a h = refl
weighed base s ids (suc j) room a h =
    let l : j < length ids = omega arith in
    let f = fit_at ids j a l in
    let n : length (value_in base s (get_or ids j 0)) ≡ (element_of (get_or ids j 0)).size = length_bytes_at s (base + (element_of (get_or ids j 0)).position) (element_of (get_or ids j 0)).size (omega (arith, f.inside)) in
    let e : take (suc j) ids ≡ take (j + 1) ids = ap (λ (m : ℕ). take m ids) (sym (add-one j)) in
    let w = weighed base s ids j room a (omega arith) in
    ap (λ (x : List ℕ). length (elements_bytes (valued base s x))) e ∙ ap (λ (x : List (ℕ × List ℕ)). length (elements_bytes x)) (valued_next base s ids j l)
    ∙ length_more (valued base s (take j ids)) (get_or ids j 0) (value_in base s (get_or ids j 0)) ∙ omega (arith, w, n, weigh_next ids j l) ∙ ap weigh (sym e)

-- THEOREM `exit_bytes`: the bytes of each row are those of 01's table
pub exit_bytes : bytes_column exits ≡ 124 ∷ 36 ∷ 16 ∷ 12 ∷ 16 ∷ 4 ∷ 4 ∷ []
unfolding exits weigh thread_element numbered number_of position below table
exit_bytes = refl

-- ---- the loop, over the elements that an exit returns
pub unwrapped : (o : Option (Bor (List ℕ))) (d r : Bor (List ℕ)) (k : Bool) (ids : List ℕ) → r ≡ unwrap_or o d → MatchOption o (k ≡ false) (λ r. (k ≡ true) × (r.now ≡ ids)) → k ≡ true → r.now ≡ ids
unwrapped None d r k ids q m e = absurd (false≢true (sym m ∙ e))
unwrapped (Some x) d r k ids q m e = ap (λ (r : Bor (List ℕ)). r.now) q ∙ m.1

module _ (ids : List ℕ) (f : Fits ids) (j : ℕ) (h : j < length ids) where
  the_fit : Fit (get_or ids j 0)
  the_fit = fit_at ids j f.all h

  pub id_listed : number_of (get_or ids j 0) < 170
  id_listed = the_fit.listed

  pub id_small : (element_of (get_or ids j 0)).size < 2 ^ 16
  id_small = omega (arith, the_fit.small)

  pub id_inside : (base slen : ℕ) → base + 1820 ≤ slen → base + (element_of (get_or ids j 0)).position + (element_of (get_or ids j 0)).size ≤ slen
  id_inside base slen room = omega (arith, the_fit.inside)

  pub id_room : (at olen : ℕ) → at ≡ 4 + weigh (take j ids) → 124 ≤ olen → at + 4 + (element_of (get_or ids j 0)).size ≤ olen
  id_room at olen e o = omega (arith, weigh_prefix ids j h, f.light)

  pub at_next : (at a : ℕ) → at ≡ 4 + weigh (take j ids) → a ≡ at + 4 + (element_of (get_or ids j 0)).size → a ≡ 4 + weigh (take (j + 1) ids)
  at_next at a e w = omega (arith, w, e, weigh_next ids j h)

  pub ids_next : (base : ℕ) (s b x y : List ℕ) (at : ℕ) → x ≡ put b 4 (elements_bytes (valued base s (take j ids))) → at ≡ 4 + weigh (take j ids)
      → y ≡ put x at (element_bytes (get_or ids j 0) (value_in base s (get_or ids j 0))) → base + 1820 ≤ length s → y ≡ put b 4 (elements_bytes (valued base s (take (j + 1) ids)))
  ids_next base s b x y at e a w room =
      let z : at ≡ 4 + length (elements_bytes (valued base s (take j ids))) = omega (arith, a, weighed base s ids j room f.all (omega arith)) in
      elements_more b 4 (valued base s (take j ids)) x y at (get_or ids j 0) (value_in base s (get_or ids j 0)) e z w
      ∙ ap (λ (es : List (ℕ × List ℕ)). put b 4 (elements_bytes es)) (sym (valued_next base s ids j h))

pub ids_start : (base : ℕ) (s b ids : List ℕ) → b ≡ put b 4 (elements_bytes (valued base s (take 0 ids)))
unfolding valued
ids_start base s b ids = elements_none b 4

pub at_start : (ids : List ℕ) → 4 ≡ 4 + weigh (take 0 ids)
unfolding weigh
at_start ids = refl

-- ---- one thread element
module _ (id n : ℕ) (x : Element) (e : n ≡ number_of id) (q : x ≡ thread_element n) where
  thread_is : x ≡ element_of id
  thread_is = q ∙ ap thread_element e

  same_size : x.size ≡ (element_of id).size
  same_size = ap (λ (y : Element). y.size) thread_is

  same_place : x.position ≡ (element_of id).position
  same_place = ap (λ (y : Element). y.position) thread_is

  pub thread_fits : (base len : ℕ) → base + (element_of id).position + (element_of id).size ≤ len → len < 2 ^ 64 → base + x.position < 2 ^ 64
  thread_fits base len h l = omega (arith, h, l, same_place)

  pub thread_small : (element_of id).size < 2 ^ 16 → x.size < 2 ^ 16
  thread_small h = omega (arith, same_size)

  pub thread_inside : (base slen : ℕ) → base + (element_of id).position + (element_of id).size ≤ slen → base + x.position + x.size ≤ slen
  thread_inside base slen h = omega (arith, same_size, same_place)

  pub thread_room : (at olen : ℕ) → at + 4 + (element_of id).size ≤ olen → at + 4 + x.size ≤ olen
  thread_room at olen h = omega (arith, same_size)

  pub thread_next : (at r : ℕ) → r ≡ at + 4 + x.size → r ≡ at + 4 + (element_of id).size
  thread_next at r h = omega (arith, h, same_size)

  pub thread_put : (base at : ℕ) (s b y : List ℕ) → y ≡ put b at (element_bytes id (bytes_at s (base + x.position) x.size)) → y ≡ put b at (element_bytes id (bytes_at s (base + (element_of id).position) (element_of id).size))
  thread_put base at s b y h = h ∙ ap (λ (z : Element). put b at (element_bytes id (bytes_at s (base + z.position) z.size))) thread_is

-- ---- a register
module _ (id : ℕ) (r : Register) (e : Some r ≡ register_of id) where
  register : record { id = id; size = r.size; position = r.position } ≡ element_of id
  register = register_element id r (is_register id r e)

  register_size : r.size ≡ (element_of id).size
  register_size = ap (λ (y : Element). y.size) register

  register_place : r.position ≡ (element_of id).position
  register_place = ap (λ (y : Element). y.position) register

  pub register_fits : (base len : ℕ) → base + (element_of id).position + (element_of id).size ≤ len → len < 2 ^ 64 → base + r.position < 2 ^ 64
  register_fits base len h l = omega (arith, h, l, register_place)

  pub register_small : (element_of id).size < 2 ^ 16 → r.size < 2 ^ 16
  register_small h = omega (arith, register_size)

  pub register_room : (at olen : ℕ) → at + 4 + (element_of id).size ≤ olen → at + 4 + r.size ≤ olen
  register_room at olen h = omega (arith, register_size)

  pub register_inside : (base slen : ℕ) → base + (element_of id).position + (element_of id).size ≤ slen → base + r.position + r.size ≤ slen
  register_inside base slen h = omega (arith, register_size, register_place)

  pub register_next : (at x : ℕ) → x ≡ at + 4 + r.size → x ≡ at + 4 + (element_of id).size
  register_next at x h = omega (arith, h, register_size)

  pub register_put : (base at : ℕ) (s b y : List ℕ) → y ≡ put b at (element_bytes id (bytes_at s (base + r.position) r.size)) → y ≡ put b at (element_bytes id (bytes_at s (base + (element_of id).position) (element_of id).size))
  register_put base at s b y h = h ∙ ap (λ (z : Element). put b at (element_bytes id (bytes_at s (base + z.position) z.size))) register
