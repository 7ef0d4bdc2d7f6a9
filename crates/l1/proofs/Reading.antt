-- A read, in the form of the code's needs. Assumes nothing.
use mathlib.Core.Path.{◌≡◌, sym, ap, ap₂, ◌∙◌, subst}
use mathlib.Core.Bool.{Bool, true, false, not, cond}
use mathlib.Core.List.{List, ◌∷◌}
use Prim.Native.Nat.{ℕ, ◌+◌, ◌≤◌, ◌<◌}
use native.Mathlib.Nat.{eq-zero-or-pos}
use native.Mathlib.Omega.{arith}
use mathlib.Core.Logic.{◌⊎◌, inl, inr}
use lib.ListN.{length}
use borrow.Author.Tests.{not-true, not-false}
use Rattle.std.specs.Array.{IsWholeChunk}
use Rattle.std.specs.Prelude.{Option, Result, Ok, Err}
use Rattle.octets.specs.Bytes.{bytes_at, put}
use Rattle.octets.proofs.Bytes.{length_bytes_at, put_all}
use Rattle.answer.specs.declared.Fault.{Fault}
use Rattle.answer.specs.declared.Fault.TheVariants.{Cache as CacheBad}
use Rattle.answer.specs.declared.Answer.{Answer}
use Rattle.answer.specs.declared.Call.{Call}
use Rattle.answer.specs.declared.Call.TheVariants.{CacheRead}
use Rattle.answer.specs.declared.Registers.{Registers}
use Rattle.answer.specs.Answer.{told, accepted}
use Rattle.answer.specs.Refusals.{first_of}
use Rattle.rules.specs.declared.Usage.TheVariants.{ThreadGet}
use Rattle.elements.specs.declared.Offer.{Offer}
use Rattle.elements.specs.declared.Offer.TheVariants.{Full}
use Rattle.elements.specs.declared.Cell.{Cell}
use Rattle.elements.specs.Table.{kind_of}
use Rattle.elements.specs.Later.{offer_of}
use Rattle.elements.specs.Cells.{cell_of}
use Rattle.rules.specs.Rules.{permits}
use Rattle.exits.specs.Exits.{element_of}
use Rattle.store.specs.Layout.{layout_of}
use Rattle.store.proofs.Search.{both, no_bool}
use Rattle.admission.specs.Refusals.{success, refusal}
use Rattle.state.specs.State.{got_element}
use Rattle.l1.specs.Marks.{Cache, is_marked, allowed, is_readable, is_special, good_cache}
use Rattle.l1.specs.Cache.{value_tests, ReadOutcome, keep, fetched, read_cache}
use Rattle.l1.specs.Private.{cell_if, Sized, Within, kept_at, element_tests, element_good, read_value}
use Rattle.l1.proofs.Marking.{short_values, short_marks}
use Rattle.l1.proofs.Cells.{readable_named}
use Rattle.l1.proofs.Values.{named_within, on_tests, whole_long, tests_same, kept_as}

pub accepted_as : (c : Call) (a : Answer) (r : Registers) → r ≡ told c a.fault a.value → accepted r ≡ accepted (told c a.fault a.value)
accepted_as c a r e = ap (λ (x : Registers). accepted x) e

-- ---- an ID that can be read
module _ (id : ℕ) (e : is_readable Full id ≡ true) where
  parts : (not (is_special id) ≡ true) × (allowed Full ThreadGet id ≡ true)
  unfolding is_readable
  parts = both (not (is_special id)) (allowed Full ThreadGet id) e

  pub readable_permits : permits (record { usage = ThreadGet; capabilities = 0; offer = Full }) id (kind_of id) ≡ true
  readable_permits = parts.1

  pub readable_some : 0 < id
  readable_some = go (eq-zero-or-pos id)
    where
      go : (id ≡ 0) ⊎ (0 < id) → 0 < id
      go (inl z) = absurd (no_bool (sym (not-true _ parts.0) ∙ ap (λ (n : ℕ). is_special n) z))
      go (inr h) = h

  module _ (x : Cell) (c : x ≡ cell_of id) where
    pub read_within : Within x
    read_within = subst Within (sym c) (named_within id (readable_named Full id e))

    pub read_size : (v : List ℕ) → length v ≡ x.size → length v ≡ (element_of id).size
    unfolding cell_of
    read_size v l = l ∙ ap (λ (y : Cell). y.size) c

    pub mark_below : x.number < 384
    mark_below = omega (arith, read_within.number)

    pub value_sized : Sized x.size
    value_sized = read_within.sized

    pub value_from : (n : ℕ) → n ≡ 1820 → x.position + x.size ≤ n
    value_from n l = omega (arith, read_within.inside)

-- ---- an element that is not valid
module _ (s : List ℕ) (guest vcpu id : ℕ) (vs ms v w : List ℕ) (r : Answer) (e : r ≡ (got_element (layout_of s) s guest vcpu id v).answer) (q : w ≡ bytes_at (got_element (layout_of s) s guest vcpu id v).buffer 8 (length v)) (t : Bool) (p : t ≡ accepted (told CacheRead r.fault r.value)) where
  abbrev c : Cache
  c = record { values = vs; marks = ms }

  fetched_as : (b : Bool) → t ≡ b → ◌≡◌ {A = ReadOutcome} (record { answer = r; cache = cond b (keep c id w) c; value = w }) (fetched c id (length v) (got_element (layout_of s) s guest vcpu id v))
  unfolding fetched
  fetched_as b h =
      ap (λ (y : Bool). record { answer = r; cache = cond y (keep c id w) c; value = w }) (sym h ∙ p)
      ∙ ap₂ (λ (x : Answer) (y : List ℕ). record { answer = x; cache = cond (accepted (told CacheRead x.fault x.value)) (keep c id y) c; value = y }) e q

  pub fetch_refused : not t ≡ true → ◌≡◌ {A = ReadOutcome} (record { answer = r; cache = record { values = vs; marks = ms }; value = w }) (fetched (record { values = vs; marks = ms }) id (length v) (got_element (layout_of s) s guest vcpu id v))
  fetch_refused n = fetched_as false (not-true t n)

pub fetch_kept : (s : List ℕ) (guest vcpu id : ℕ) (x : Cell) (vs ms v w us ns : List ℕ) (r : Answer) (t : Bool) → ◌≡◌ {A = Cache} (record { values = us; marks = ns }) (kept_at (record { values = vs; marks = ms }) x w) → x ≡ cell_of id → not t ≡ false → t ≡ accepted (told CacheRead r.fault r.value)
    → r ≡ (got_element (layout_of s) s guest vcpu id v).answer → w ≡ bytes_at (got_element (layout_of s) s guest vcpu id v).buffer 8 (length v)
    → ◌≡◌ {A = ReadOutcome} (record { answer = r; cache = record { values = us; marks = ns }; value = w }) (fetched (record { values = vs; marks = ms }) id (length v) (got_element (layout_of s) s guest vcpu id v))
fetch_kept s guest vcpu id x vs ms v w us ns r t k c n p e q =
    ap (λ (d : Cache). record { answer = r; cache = d; value = w }) (k ∙ kept_as (record { values = vs; marks = ms }) id x w c) ∙ fetched_as s guest vcpu id vs ms v w r e q t p true (not-false t n)

-- ---- a read past its tests
module _ (s : List ℕ) (guest vcpu : ℕ) (vs ms : List ℕ) (id : ℕ) (x : Cell) (c : x ≡ cell_of id) (v : List ℕ) (y : Bool) (p : y ≡ is_marked ms x.number) where
  abbrev answered : Bool → ReadOutcome
  answered b =
      cond b (record { answer = success 0; cache = record { values = vs; marks = ms }; value = bytes_at vs (element_of id).position (element_of id).size })
      (fetched (record { values = vs; marks = ms }) id (length v) (got_element (layout_of s) s guest vcpu id v))

  value_as : (b : Bool) → y ≡ b → read_value s guest vcpu (record { values = vs; marks = ms }) id v ≡ answered b
  unfolding read_value cell_of
  value_as b q = ap answered (sym (p ∙ ap (λ (z : Cell). is_marked ms z.number) c) ∙ q)

  pub value_fetched : (r : Answer) (us ns u : List ℕ) → not y ≡ true
      → ◌≡◌ {A = ReadOutcome} (record { answer = r; cache = record { values = us; marks = ns }; value = u }) (fetched (record { values = vs; marks = ms }) id (length v) (got_element (layout_of s) s guest vcpu id v))
      → ◌≡◌ {A = ReadOutcome} (record { answer = r; cache = record { values = us; marks = ns }; value = u }) (read_value s guest vcpu (record { values = vs; marks = ms }) id v)
  value_fetched r us ns u n w = w ∙ sym (value_as false (not-true y n))

  pub value_valid : (r : Answer) (u : List ℕ) → not y ≡ false → length v ≡ x.size → is_readable Full id ≡ true → length vs ≡ 1820 → u ≡ put v 0 (bytes_at vs x.position x.size) → r ≡ success 0
      → ◌≡◌ {A = ReadOutcome} (record { answer = r; cache = record { values = vs; marks = ms }; value = u }) (read_value s guest vcpu (record { values = vs; marks = ms }) id v)
  unfolding cell_of
  value_valid r u n l o j d i =
      let room : x.position + x.size ≤ length vs = omega (arith, (read_within id o x c).inside) in
      let long = length_bytes_at vs x.position x.size room in
      let t : u ≡ bytes_at vs (element_of id).position (element_of id).size =
      d ∙ put_all v (bytes_at vs x.position x.size) (long ∙ sym l) ∙ ap (λ (z : Cell). bytes_at vs z.position z.size) c in
      ap₂ (λ (f : Answer) (g : List ℕ). record { answer = f; cache = record { values = vs; marks = ms }; value = g }) i t ∙ sym (value_as true (not-false y n))

-- ---- the read
-- of lent slices of another length
module _ (s : List ℕ) (guest vcpu pvr : ℕ) (vs ms : List ℕ) (id : ℕ) (v : List ℕ) (r : Answer) (i : r ≡ refusal CacheBad) where
  none_read : good_cache (offer_of pvr) (record { values = vs; marks = ms }) ≡ false
      → ◌≡◌ {A = ReadOutcome} (record { answer = r; cache = record { values = vs; marks = ms }; value = v }) (read_cache (layout_of s) s guest vcpu pvr (record { values = vs; marks = ms }) id v)
  unfolding read_cache read_value
  none_read g =
      let c : Cache = record { values = vs; marks = ms } in
      ap (λ (y : Answer). record { answer = y; cache = c; value = v }) i
      ∙ sym (ap (λ (t : Bool). first_of (λ f. record { answer = refusal f; cache = c; value = v }) ((not t, CacheBad) ∷ value_tests (is_readable (offer_of pvr) id) id v) (read_value s guest vcpu c id v)) g)

  pub read_short_values : (length vs ≡ 1820 → ⊥)
      → ◌≡◌ {A = ReadOutcome} (record { answer = r; cache = record { values = vs; marks = ms }; value = v }) (read_cache (layout_of s) s guest vcpu pvr (record { values = vs; marks = ms }) id v)
  read_short_values n = none_read (short_values (offer_of pvr) vs ms n)

  pub read_short_marks : (length ms ≡ 6 → ⊥)
      → ◌≡◌ {A = ReadOutcome} (record { answer = r; cache = record { values = vs; marks = ms }; value = v }) (read_cache (layout_of s) s guest vcpu pvr (record { values = vs; marks = ms }) id v)
  read_short_marks n = none_read (short_marks (offer_of pvr) vs ms n)

-- of two arrays, us and ns, which are the whole slices
module _ (s : List ℕ) (guest vcpu pvr : ℕ) (vs ms us ns : List ℕ) (p : IsWholeChunk vs us 1820) (w : IsWholeChunk ms ns 6) (id : ℕ) (v : List ℕ) (o : Offer) (eo : o ≡ offer_of pvr) (y : Option Cell)
    (e : y ≡ cell_if (is_readable o id) id) (a : Result Cell Fault) (q : a ≡ element_good o ns y v) (r : Answer) where
  abbrev before : Cache
  before = record { values = us; marks = ns }

  abbrev refused : Fault → ReadOutcome
  refused f = record { answer = refusal f; cache = before; value = v }

  read_as : read_cache (layout_of s) s guest vcpu pvr (record { values = vs; marks = ms }) id v ≡ on_tests refused (read_value s guest vcpu before id v) a
  unfolding read_cache read_value
  read_as =
      ap₂ (λ (x z : List ℕ). read_cache (layout_of s) s guest vcpu pvr (record { values = x; marks = z }) id v) (sym p.same) (sym w.same)
      ∙ ap (λ (p : Offer). first_of refused (element_tests p before (is_readable p id) id v) (read_value s guest vcpu before id v)) (sym eo)
      ∙ tests_same refused (read_value s guest vcpu before id v) o us ns (whole_long vs us 1820 p) (whole_long ms ns 6 w) (is_readable o id) id v
      ∙ ap (on_tests refused (read_value s guest vcpu before id v)) (ap (λ (z : Option Cell). element_good o ns z v) (sym e) ∙ sym q)

  pub read_bad : (f : Fault) → a ≡ Err f → r ≡ refusal f
      → ◌≡◌ {A = ReadOutcome} (record { answer = r; cache = record { values = us; marks = ns }; value = v }) (read_cache (layout_of s) s guest vcpu pvr (record { values = vs; marks = ms }) id v)
  read_bad f h i =
      ap (λ (y : Answer). record { answer = y; cache = before; value = v }) i ∙ sym (read_as ∙ ap (on_tests refused (read_value s guest vcpu before id v)) h)

  pub read_good : (x : Cell) (xs zs u : List ℕ) → a ≡ Ok x
      → ◌≡◌ {A = ReadOutcome} (record { answer = r; cache = record { values = xs; marks = zs }; value = u }) (read_value s guest vcpu (record { values = us; marks = ns }) id v)
      → ◌≡◌ {A = ReadOutcome} (record { answer = r; cache = record { values = xs; marks = zs }; value = u }) (read_cache (layout_of s) s guest vcpu pvr (record { values = vs; marks = ms }) id v)
  read_good x xs zs u h i = i ∙ sym (read_as ∙ ap (on_tests refused (read_value s guest vcpu before id v)) h)
