-- The cache after an accepted run: all marks clear, then the output's elements kept with its values. Assumes nothing.
use mathlib.Core.Path.{◌≡◌, refl, sym, ap, ap₂, ◌∙◌}
use mathlib.Core.Bool.{Bool, true, false, cond}
use mathlib.Core.List.{List, [], ◌∷◌, ◌++◌}
use Prim.Native.Nat.{ℕ, zero, suc, ◌+◌, ◌≤◌, ◌<◌}
use native.Mathlib.Omega.{arith}
use lib.ListN.{length, get_or, take}
use lib.Seq.{take-suc, take-length}
use Rattle.octets.specs.Bytes.{put, zeros}
use Rattle.octets.proofs.Bytes.{length_zeros}
use Rattle.elements.specs.Table.{number_of, thread_element}
use Rattle.rules.specs.Rules.{good_input, good_output}
use Rattle.gsb.specs.Walk.{count_of}
use Rattle.gsb.specs.Message.{message, Begins}
use Rattle.gsb.proofs.RoundTrip.{message_count, message_id}
use Rattle.store.specs.declared.Layout.{Layout}
use Rattle.store.specs.Layout.{Sound}
use Rattle.transfer.proofs.Messages.{place_all, place_nil, place_cons, applied_message, thread_numbered}
use Rattle.exits.specs.Exits.{element_of, valued}
use Rattle.exits.proofs.Written.{length_valued}
use Rattle.run.specs.Run.{input_size, output_size}
use Rattle.l1.specs.Marks.{Cache, with_mark, changed}
use Rattle.l1.specs.Cache.{keep, marked, refreshed}
use Rattle.agreement.specs.Agree.{Cached, newest}
use Rattle.agreement.proofs.MarkLaws.{mark_none}
use Rattle.l1.proofs.Returned.{AllNamed, valued_id, valued_wire}
use Rattle.l1.proofs.Cells.{named_number, value_of}
use Rattle.agreement.proofs.Writes.{back_nil}
use Rattle.agreement.proofs.Ours.{Ours}
use Rattle.agreement.proofs.Caches.{cell}
use Rattle.agreement.proofs.Invariant.{at, Inv, keep_inv}

-- ---- elements kept one by one
unfoldable pub keep_all : Cache → List (ℕ × List ℕ) → Cache
keep_all c [] = c
keep_all c (e ∷ es) = keep_all (keep c e.0 e.1) es

mark_all : List ℕ → List ℕ → List ℕ
mark_all m [] = m
mark_all m (id ∷ ids) = mark_all (with_mark m (number_of id)) ids

mark_snoc : (m ids : List ℕ) (id : ℕ) → mark_all m (ids ++ (id ∷ [])) ≡ with_mark (mark_all m ids) (number_of id)
unfolding mark_all
mark_snoc m [] id = refl
mark_snoc m (x ∷ xs) id = mark_snoc (with_mark m (number_of x)) xs id

keep_place : (base : ℕ) (s ids : List ℕ) (c : Cache) → AllNamed ids → (keep_all c (valued base s ids)).values ≡ place_all 0 (valued base s ids) c.values
unfolding valued keep_all
keep_place base s [] c n = sym (place_nil 0 c.values)
keep_place base s (id ∷ ids) c n =
    let w = value_of base s id in
    let t = n.0 in
    let z : 0 + (thread_element (number_of id)).position ≡ (element_of id).position = omega arith in
    keep_place base s ids (keep c id w) n.1 ∙ ap (place_all 0 (valued base s ids)) (kept id w c ∙ ap (λ (k : ℕ). put c.values k w) (sym z) ∙ sym (thread_numbered id t.entry t.listed t.scope 0 w c.values))
    ∙ sym (place_cons 0 id w (valued base s ids) c.values)
  where
    kept : (id : ℕ) (w : List ℕ) (c : Cache) → (keep c id w).values ≡ put c.values (element_of id).position w
    kept id w c = unfold keep in refl

keep_mark : (base : ℕ) (s ids : List ℕ) (c : Cache) → (keep_all c (valued base s ids)).marks ≡ mark_all c.marks ids
unfolding valued keep_all keep mark_all
keep_mark base s [] c = refl
keep_mark base s (id ∷ ids) c = keep_mark base s ids (keep c id (value_of base s id))

module _ (base : ℕ) (s : List ℕ) (room : base + 1820 ≤ length s) where
  module _ (ids : List ℕ) (n : AllNamed ids) (few : length ids ≤ 170) (b : List ℕ) (k : Begins b (message (valued base s ids))) (m : List ℕ) where
    marked_upto : (i : ℕ) → i ≤ length ids → marked m b i ≡ mark_all m (take i ids)
    unfolding marked mark_all
    marked_upto zero h = refl
    marked_upto (suc i) h =
        let l : i < length ids = omega arith in
        let c : i < length (valued base s ids) = omega (arith, length_valued base s ids) in
        ap₂ (λ (x : List ℕ) (y : ℕ). with_mark x (number_of y)) (marked_upto i (omega arith)) (message_id (valued base s ids) b (valued_wire base s room ids n few) k i c ∙ valued_id base s ids i l)
        ∙ sym (mark_snoc m (take i ids) (get_or ids i 0)) ∙ ap (mark_all m) (sym (take-suc ids i 0 l))

    marked_all : marked m b (count_of b) ≡ mark_all m ids
    marked_all =
        ap (marked m b) (message_count (valued base s ids) b (valued_wire base s room ids n few) k ∙ length_valued base s ids) ∙ marked_upto (length ids) (omega arith) ∙ ap (mark_all m) (take-length ids)

  pub refreshed_is : (c : Cache) (ids : List ℕ) → AllNamed ids → length ids ≤ 170 → (b : List ℕ) → Begins b (message (valued base s ids)) → refreshed c b ≡ keep_all (record { values = c.values; marks = zeros 6 }) (valued base s ids)
  unfolding refreshed
  refreshed_is c ids n few b k =
      ap₂ (λ (x y : List ℕ). record { values = x; marks = y })
      (applied_message 0 (valued base s ids) b (valued_wire base s room ids n few) k c.values ∙ sym (keep_place base s ids (record { values = c.values; marks = zeros 6 }) n))
      (marked_all ids n few b k (zeros 6) ∙ sym (keep_mark base s ids (record { values = c.values; marks = zeros 6 })))

-- ---- kept one by one, they are tied to the store that they are from
module _ (l : Layout) (so : Sound l) (g v j : ℕ) (below_slots : j < l.slots) (pvr : ℕ) (t : List ℕ) (o : Ours l so g v j below_slots pvr t)
    (gi : good_input (input_size t (at l so g v j below_slots pvr)) ≡ true) (wd : 2424 ≤ input_size t (at l so g v j below_slots pvr)) (gu : good_output (output_size t (at l so g v j below_slots pvr)) ≡ true) where
  abbrev place : ℕ
  place = at l so g v j below_slots pvr

  pub empty_inv : (values : List ℕ) → length values ≡ 1820 → Inv l so g v j below_slots pvr (record { cache = record { values = values; marks = zeros 6 }; store = t }) t []
  unfolding newest
  empty_inv values lv = record {
    ours = o;
    input = gi;
    wide = wd;
    output = gu;
    values = lv;
    marks = length_zeros 6;
    fit = tt;
    plain = sym (back_nil place t);
    due = λ e h. ap (λ (x : Bool). cond x (((thread_element e).id, cell (record { values = values; marks = zeros 6 }) (thread_element e).id) ∷ []) []) (mark_none 6 (192 + e));
    kept = λ e h q. absurd (never (sym (mark_none 6 (192 + e)) ∙ q));
    past = λ e a c. (mark_none 6 e, mark_none 6 (192 + e));
    holds = λ e h q. absurd (never (sym (mark_none 6 e) ∙ q));
  }
    where
      never : false ≡ true → ⊥
      never e = let z : ◌≡◌ {A = ℕ} 0 1 = cc in omega arith

  -- no mark is changed where nothing waits
  still : (b : Cached) → Inv l so g v j below_slots pvr b t [] → (e : ℕ) → e < 170 → changed b.cache e ≡ false
  unfolding newest
  still b i e h = go (changed b.cache e) (i.due e h)
    where
      go : (x : Bool) → cond {A = List (ℕ × List ℕ)} x (((thread_element e).id, cell b.cache (thread_element e).id) ∷ []) [] ≡ [] → x ≡ false
      go true q = let z : ◌≡◌ {A = ℕ} 1 0 = ap length q in absurd (omega arith)
      go false q = refl

  pub keep_all_inv : (ids : List ℕ) → AllNamed ids → (c : Cache) → Inv l so g v j below_slots pvr (record { cache = c; store = t }) t [] → Inv l so g v j below_slots pvr (record { cache = keep_all c (valued place t ids); store = t }) t []
  unfolding valued keep_all
  keep_all_inv [] n c i = i
  keep_all_inv (id ∷ ids) n c i =
      keep_all_inv ids n.1 (keep c id (value_of place t id))
      (keep_inv l so g v j below_slots pvr (record { cache = c; store = t }) t [] i id n.0 (still (record { cache = c; store = t }) i (number_of id) (named_number id n.0)))
