-- The constant's ranges and the source's rows tell the same of every ID: `ranges_same`. Rows that are neighbours and alike can be
-- joined without changing what a table tells (`joined_keeps`); both tables come to one, which is computed. Assumes nothing.
use mathlib.Core.Path.{◌≡◌, refl, sym, ap, ap₂, ◌∙◌, subst}
use mathlib.Core.Logic.{◌⊎◌, inl, inr, ⊎_elim}
use mathlib.Core.Bool.{Bool, true, false, cond, ◌&&◌}
use mathlib.Core.List.{List, [], ◌∷◌}
use Prim.Native.Nat.{ℕ, suc, ◌+◌, ◌-◌, ◌*◌, min, ◌≤◌, ◌<◌}
use native.Mathlib.Nat.{mul-add, zero-mul, one-mul}
use native.Mathlib.Omega.{arith}
use lib.Dec.{T, ltb, leb, eqb, leb→le, eqb→eq}
use borrow.Author.Tests.{leb-true, leb-false, ltb-true, ltb-false, le-leb, lt-leb, lt-ltb, le-ltb}
use Rattle.elements.specs.declared.Access.{Access}
use Rattle.elements.specs.declared.Access.TheVariants.{Read, Write, ReadWrite}
use Rattle.elements.specs.declared.Scope.{Scope}
use Rattle.elements.specs.declared.Scope.TheVariants.{Guest, Thread}
use Rattle.elements.specs.declared.Row.{Row}
use Rattle.elements.specs.declared.Kind.{Kind}
use Rattle.elements.specs.declared.Kind.TheVariants.{Listed}
use Rattle.elements.specs.declared.Element.{Element}
use Rattle.elements.specs.Table.{table, row, many, names, find, below, bytes_in, threads, numbered, same_scope, source_of, position}
use Rattle.elements.specs.Ranges.{ranges, TellSame}
use Rattle.elements.proofs.Table.{and_left, and_right, by}

-- ---- neighbours that are alike, joined

abbrev same_access : Access → Access → Bool
same_access Read Read = true
same_access Write Write = true
same_access ReadWrite ReadWrite = true
same_access a b = false

access_equal : (a b : Access) → T (same_access a b) → a ≡ b
access_equal Read Read t = refl
access_equal Write Write t = refl
access_equal ReadWrite ReadWrite t = refl
access_equal Read Write t = absurd t
access_equal Read ReadWrite t = absurd t
access_equal Write Read t = absurd t
access_equal Write ReadWrite t = absurd t
access_equal ReadWrite Read t = absurd t
access_equal ReadWrite Write t = absurd t

scope_equal : (s t : Scope) → T (same_scope s t) → s ≡ t
scope_equal Guest Guest h = refl
scope_equal Thread Thread h = refl
scope_equal Guest Thread h = absurd h
scope_equal Thread Guest h = absurd h

abbrev alike : Row → Row → Bool
alike r s =
    eqb (suc r.last) s.first
    && (leb r.first r.last
    && (leb s.first s.last
    && (eqb r.size s.size
    && (same_access r.access s.access
    && (same_scope r.scope s.scope
    && (eqb (bytes_in Guest r) (bytes_in Guest s) && eqb (bytes_in Thread r) (bytes_in Thread s)))))))

abbrev join : Row → Row → Row
join r s = row r.first s.last r.size r.access r.scope

abbrev onto : Row → List Row → List Row
onto r [] = r ∷ []
onto r (s ∷ ss) = cond (alike r s) (join r s ∷ ss) (r ∷ (s ∷ ss))

abbrev pub joined : List Row → List Row
joined [] = []
joined (r ∷ rs) = onto r (joined rs)

record Alike (r s : Row) : Type 0 where
  meets : suc r.last ≡ s.first
  upward : r.first ≤ r.last
  onward : s.first ≤ s.last
  size : r.size ≡ s.size
  access : r.access ≡ s.access
  scope : r.scope ≡ s.scope
  weight : (q : Scope) → bytes_in q r ≡ bytes_in q s

each_scope : (r s : Row) → bytes_in Guest r ≡ bytes_in Guest s → bytes_in Thread r ≡ bytes_in Thread s → (q : Scope) → bytes_in q r ≡ bytes_in q s
each_scope r s g h Guest = g
each_scope r s g h Thread = h

are_alike : (r s : Row) → T (alike r s) → Alike r s
are_alike r s t =
    let a = and_right (eqb (suc r.last) s.first) _ t in
    let b = and_right (leb r.first r.last) _ a in
    let c = and_right (leb s.first s.last) _ b in
    let d = and_right (eqb r.size s.size) _ c in
    let e = and_right (same_access r.access s.access) _ d in
    let f = and_right (same_scope r.scope s.scope) _ e in
    record {
      meets = eqb→eq _ _ (and_left (eqb (suc r.last) s.first) _ t);
      upward = leb→le _ _ (and_left (leb r.first r.last) _ a);
      onward = leb→le _ _ (and_left (leb s.first s.last) _ b);
      size = eqb→eq _ _ (and_left (eqb r.size s.size) _ c);
      access = access_equal r.access s.access (and_left (same_access r.access s.access) _ d);
      scope = scope_equal r.scope s.scope (and_left (same_scope r.scope s.scope) _ e);
      weight = each_scope r s (eqb→eq _ _ (and_left (eqb (bytes_in Guest r) (bytes_in Guest s)) _ f)) (eqb→eq _ _ (and_right (eqb (bytes_in Guest r) (bytes_in Guest s)) _ f));
    }

-- ---- what is told from row to row, and tells the same of two rows joined, is told by the joined table

module _ {E A : Type 0} (told : List Row → E → A)
    (next : (r : Row) (xs ys : List Row) → ((e : E) → told xs e ≡ told ys e) → (e : E) → told (r ∷ xs) e ≡ told (r ∷ ys) e)
    (joins : (r s : Row) (ss : List Row) → Alike r s → (e : E) → told (join r s ∷ ss) e ≡ told (r ∷ (s ∷ ss)) e) where
  onto_keeps : (r : Row) (ss : List Row) (e : E) → told (onto r ss) e ≡ told (r ∷ ss) e
  onto_keeps r [] e = refl
  onto_keeps r (s ∷ ss) e =
      by (alike r s) (λ h. rw h (joins r s ss (are_alike r s (subst T (sym h) tt)) e)) (λ h. rw h refl)

  joined_keeps : (rs : List Row) (e : E) → told (joined rs) e ≡ told rs e
  joined_keeps [] e = refl
  joined_keeps (r ∷ rs) e = onto_keeps r (joined rs) e ∙ next r (joined rs) rs (joined_keeps rs) e

  told_same : (a b : List Row) → joined a ≡ joined b → (e : E) → told a e ≡ told b e
  told_same a b q e = sym (joined_keeps a e) ∙ ap (λ (rs : List Row). told rs e) q ∙ joined_keeps b e

-- ---- what an ID is

abbrev entry_of : ℕ → ℕ → Access → Scope → Kind
entry_of id n a s = Listed (record { size = n; access = a; scope = s; source = source_of s id })

find_next : (r : Row) (xs ys : List Row) → ((id : ℕ) → find xs id ≡ find ys id) → (id : ℕ) → find (r ∷ xs) id ≡ find (r ∷ ys) id
unfolding find
find_next r xs ys h id = ap (cond (names r id) (entry_of id r.size r.access r.scope)) (h id)

find_joins : (r s : Row) (ss : List Row) → Alike r s → (id : ℕ) → find (join r s ∷ ss) id ≡ find (r ∷ (s ∷ ss)) id
unfolding find
find_joins r s ss a id = by (leb id r.last) (λ h. early (leb-true _ _ h)) (λ h. late (leb-false _ _ h))
  where
    early : id ≤ r.last → find (join r s ∷ ss) id ≡ find (r ∷ (s ∷ ss)) id
    early h =
        let u : id < s.first = omega (arith, a.meets) in
        let v : id ≤ s.last = omega (arith, a.meets, a.onward) in
        simp (le-leb _ _ h, le-leb _ _ v, lt-leb _ _ u)

    late : r.last < id → find (join r s ∷ ss) id ≡ find (r ∷ (s ∷ ss)) id
    late h =
        let u : r.first ≤ id = omega (arith, a.upward) in
        let v : s.first ≤ id = omega (arith, a.meets) in
        let q : entry_of id r.size r.access r.scope ≡ entry_of id s.size s.access s.scope = ap₂ (λ (n : ℕ) (x : Access). entry_of id n x r.scope) a.size a.access ∙ ap (entry_of id s.size s.access) a.scope in
        simp (lt-leb _ _ h, le-leb _ _ u, le-leb _ _ v, q)

-- ---- what stands below an ID

min_split : (id a m n : ℕ) → min (id - a) (m + n) ≡ min (id - a) m + min (id - (a + m)) n
min_split id a m n = omega arith

below_next : (w : Row → ℕ) (r : Row) (xs ys : List Row) → ((id : ℕ) → below w xs id ≡ below w ys id) → (id : ℕ)
    → below w (r ∷ xs) id ≡ below w (r ∷ ys) id
unfolding below
below_next w r xs ys h id = ap (λ (n : ℕ). w r * min (id - r.first) (many r) + n) (h id)

many_joined : (r s : Row) → Alike r s → (many (join r s) ≡ many r + many s) × (s.first ≡ r.first + many r)
many_joined r s a = (omega (arith, a.meets, a.upward, a.onward), omega (arith, a.meets, a.upward))

below_joins : (w : Row → ℕ) → ((r s : Row) → Alike r s → (w (join r s) ≡ w r) × (w r ≡ w s))
    → (r s : Row) (ss : List Row) → Alike r s → (id : ℕ) → below w (join r s ∷ ss) id ≡ below w (r ∷ (s ∷ ss)) id
unfolding below
below_joins w f r s ss a id =
    let m = many_joined r s a in
    let rest : ℕ = below w ss id in
    let cut : min (id - r.first) (many (join r s)) ≡ min (id - r.first) (many r) + min (id - s.first) (many s) = ap (min (id - r.first)) m.0 ∙ min_split id r.first (many r) (many s) ∙ ap (λ (x : ℕ). min (id - r.first) (many r) + min (id - x) (many s)) (sym m.1) in
    let split : w r * (min (id - r.first) (many r) + min (id - s.first) (many s)) ≡ w r * min (id - r.first) (many r) + w r * min (id - s.first) (many s) = mul-add (w r) _ _ in
    let turn : w r * min (id - s.first) (many s) ≡ w s * min (id - s.first) (many s) = ap (λ (x : ℕ). x * min (id - s.first) (many s)) (f r s a).1 in
    let whole : w (join r s) * min (id - r.first) (many (join r s)) ≡ w r * (min (id - r.first) (many r) + min (id - s.first) (many s)) = ap₂ ◌*◌ (f r s a).0 cut in
    omega (arith, whole, split, turn)

-- ---- which element a number is

abbrev numbered_as : ℕ → ℕ → Element
numbered_as i n = record { id = i; size = n; position = position Thread i }

numbered_next : (r : Row) (xs ys : List Row) → ((e : ℕ) → numbered xs e ≡ numbered ys e) → (e : ℕ) → numbered (r ∷ xs) e ≡ numbered (r ∷ ys) e
unfolding numbered
numbered_next r xs ys h e = ap (cond (ltb e (threads r * many r)) (numbered_as (r.first + e) r.size)) (h (e - threads r * many r))

-- a row of so many elements, and two rows with the same elements
module _ (first size : ℕ) (rest : ℕ → Element) (e : ℕ) where
  abbrev whole : ℕ → Element
  whole n = cond (ltb e n) (numbered_as (first + e) size) (rest (e - n))

  abbrev parts : ℕ → ℕ → ℕ → ℕ → Element
  parts m n next size' =
      cond (ltb e m) (numbered_as (first + e) size) (cond (ltb (e - m) n) (numbered_as (next + (e - m)) size') (rest (e - m - n)))

  none_split : (next size' : ℕ) → whole 0 ≡ parts 0 0 next size'
  none_split next size' =
      let u : 0 ≤ e = omega arith in
      let v : 0 ≤ e - 0 = omega arith in
      let p : e - 0 - 0 ≡ e - 0 = omega arith in
      simp (le-ltb _ _ u, le-ltb _ _ v, p)

  late_split : (m n : ℕ) → m ≤ e → whole (m + n) ≡ parts m n (first + m) size
  late_split m n h =
      let q : first + m + (e - m) ≡ first + e = omega arith in
      let p : e - m - n ≡ e - (m + n) = omega arith in
      by (ltb (e - m) n)
      (λ (t : ltb (e - m) n ≡ true). let u : e < m + n = omega (arith, ltb-true (e - m) n t) in simp (le-ltb _ _ h, t, lt-ltb _ _ u, q))
      (λ (t : ltb (e - m) n ≡ false). let u : m + n ≤ e = omega (arith, ltb-false (e - m) n t) in simp (le-ltb _ _ h, t, le-ltb _ _ u, p))

  many_split : (m n : ℕ) → whole (m + n) ≡ parts m n (first + m) size
  many_split m n =
      by (ltb e m)
      (λ (t : ltb e m ≡ true). let u : e < m + n = omega (arith, ltb-true e m t) in simp (t, lt-ltb _ _ u))
      (λ (t : ltb e m ≡ false). late_split m n (ltb-false e m t))

thread_cases : (r : Row) → (threads r ≡ 0) ⊎ (threads r ≡ 1)
thread_cases r = by (same_scope Thread r.scope) (λ h. inr (rw h refl)) (λ h. inl (rw h refl))

numbered_joins : (r s : Row) (ss : List Row) → Alike r s → (e : ℕ) → numbered (join r s ∷ ss) e ≡ numbered (r ∷ (s ∷ ss)) e
unfolding numbered
numbered_joins r s ss a e = ⊎_elim none some (thread_cases r)
  where
    same : threads s ≡ threads r
    same = ap (λ (x : Scope). cond (same_scope Thread x) 1 0) (sym a.scope)

    none : threads r ≡ 0 → numbered (join r s ∷ ss) e ≡ numbered (r ∷ (s ∷ ss)) e
    none z =
        let times : (n : ℕ) → threads r * n ≡ 0 = λ n. ap (λ (k : ℕ). k * n) z ∙ zero-mul n in
        let times' : threads s * many s ≡ 0 = ap (λ (k : ℕ). k * many s) (same ∙ z) ∙ zero-mul (many s) in
        ap (whole r.first r.size (numbered ss) e) (times (many (join r s)))
        ∙ none_split r.first r.size (numbered ss) e s.first s.size
        ∙ ap₂ (λ (m n : ℕ). parts r.first r.size (numbered ss) e m n s.first s.size) (sym (times (many r))) (sym times')

    some : threads r ≡ 1 → numbered (join r s ∷ ss) e ≡ numbered (r ∷ (s ∷ ss)) e
    some o =
        let times : (n : ℕ) → threads r * n ≡ n = λ n. ap (λ (k : ℕ). k * n) o ∙ one-mul n in
        let times' : threads s * many s ≡ many s = ap (λ (k : ℕ). k * many s) (same ∙ o) ∙ one-mul (many s) in
        ap (whole r.first r.size (numbered ss) e) (times (many (join r s)) ∙ (many_joined r s a).0)
        ∙ many_split r.first r.size (numbered ss) e (many r) (many s)
        ∙ ap₂ (parts r.first r.size (numbered ss) e (many r) (many s)) (sym (many_joined r s a).1) a.size
        ∙ ap₂ (λ (m n : ℕ). parts r.first r.size (numbered ss) e m n s.first s.size) (sym (times (many r))) (sym times')

pub ranges_same : TellSame ranges table
unfolding ranges table
ranges_same =
    record {
      kind = told_same find find_next find_joins ranges table refl;
      place = λ s. told_same (below (bytes_in s)) (below_next (bytes_in s)) (below_joins (bytes_in s) (λ r q a. (refl, a.weight s))) ranges table refl;
      number = told_same (below threads) (below_next threads) (below_joins threads (λ r q a. (refl, ap (λ (s : Scope). cond (same_scope Thread s) 1 0) a.scope))) ranges table refl;
      element = told_same numbered numbered_next numbered_joins ranges table refl;
    }
