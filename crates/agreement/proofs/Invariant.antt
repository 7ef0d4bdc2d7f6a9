-- What ties the cached L1 to the plain one between operations, and that a write and a read keep it. Assumes nothing.
use mathlib.Core.Path.{◌≡◌, refl, sym, ap, ap₂, ◌∙◌, subst}
use mathlib.Core.Logic.{◌≢◌}
use mathlib.Core.Bool.{Bool, true, false, not, cond}
use mathlib.Core.List.{List, [], ◌∷◌}
use Prim.Native.Nat.{ℕ, ◌+◌, ◌^◌, ◌≤◌, ◌<◌}
use native.Mathlib.Decide.{ℕ_discrete}
use native.Mathlib.Omega.{arith}
use lib.Dec.{eqb, ltb}
use lib.ListN.{length}
use borrow.Author.Tests.{eqb-true}
use Rattle.answer.specs.declared.Bad.TheVariants.{Id, Size}
use Rattle.answer.specs.declared.Call.{Call as Name}
use Rattle.answer.specs.declared.Fault.TheVariants.{Length, Element, Cache as CacheBad}
use Rattle.elements.specs.Table.{number_of, thread_element}
use Rattle.rules.specs.Rules.{good_input, good_output}
use Rattle.gsb.specs.Message.{first_place}
use Rattle.elements.specs.Later.{offer_of}
use Rattle.store.specs.declared.Layout.{Layout}
use Rattle.store.specs.Layout.{Sound}
use Rattle.store.proofs.Search.{no_bool}
use Rattle.exits.specs.Exits.{element_of}
use Rattle.admission.specs.Refusals.{Outcome, success, refusal, accept, refuse}
use Rattle.run.specs.Run.{input_size, output_size}
use Rattle.l1.specs.Marks.{Cache, valid, changed, is_input, is_special, good_cache}
use Rattle.l1.specs.Cache.{place_zero, WriteOutcome, change, write_cache, keep, Fit}
use Rattle.agreement.specs.Plain.{write_plain}
use Rattle.agreement.specs.Agree.{Op, Write, seen, Turn, Cached, cached_turn, plain_turn, since, newest, Same, registered_input}
use Rattle.l1.proofs.Cells.{Named, number_named, named_number, number_back, named_back, input_named, input_common, value_of, value_same, value_other, length_value}
use Rattle.agreement.proofs.Writes.{placed, back, back_cons, newest_same, newest_other, Latest, none, some, latest, read_none}
use Rattle.agreement.proofs.Ours.{base, Ours, ours_room, back_ours}
use Rattle.agreement.proofs.Single.{write_long, write_special, write_id, write_size, write_good}
use Rattle.agreement.proofs.Caches.{cell, due_at, keep_values, keep_marks, keep_same, keep_other, keep_valid, keep_valid_other, keep_changed, change_values, change_marks, change_same, change_other, change_valid, change_valid_other, change_changed, change_changed_other, well_formed_lem}

module _ (l : Layout) (so : Sound l) (g v j : ℕ) (below : j < l.slots) (pvr : ℕ) where
  abbrev pub at : ℕ
  at = base l so g v j below pvr

  -- b is the cached L1, p the plain L1's store, ws the accepted writes since the last accepted run
  pub record Inv (b : Cached) (p : List ℕ) (ws : List (ℕ × List ℕ)) : Type 0 where
    pub ours : Ours l so g v j below pvr b.store
    pub input : good_input (input_size b.store at) ≡ true
    pub wide : 2424 ≤ input_size b.store at
    pub output : good_output (output_size b.store at) ≡ true
    pub values : length b.cache.values ≡ 1820
    pub marks : length b.cache.marks ≡ 6
    pub fit : Fit (offer_of pvr) ws
    pub plain : p ≡ back at b.store ws
    pub due : (e : ℕ) → e < 170 → due_at b.cache e ≡ newest ws (thread_element e).id
    pub kept : (e : ℕ) → e < 170 → changed b.cache e ≡ true → valid b.cache e ≡ true
    pub past : (e : ℕ) → 170 ≤ e → e < 192 → (valid b.cache e ≡ false) × (changed b.cache e ≡ false)
    pub holds : (e : ℕ) → e < 170 → valid b.cache e ≡ true → cell b.cache (thread_element e).id ≡ value_of at p (thread_element e).id

  -- what a turn of b must give
  pub record Goes (b : Cached) (o : Op) (ws : List (ℕ × List ℕ)) (c : Turn Cached) (p : Turn (List ℕ)) : Type 0 where
    pub same : Same (registered_input l g v b.store) o ws c p
    pub next : Inv c.next p.next (since o p.shown.answer ws)

  pub as_turned : (b : Cached) (o : Op) (ws : List (ℕ × List ℕ)) (c c' : Turn Cached) (p p' : Turn (List ℕ)) → c ≡ c' → p ≡ p' → Goes b o ws c' p' → Goes b o ws c p
  as_turned b o ws c c' p p' e q t = subst (λ (x : Turn Cached). Goes b o ws x p) (sym e) (subst (Goes b o ws c') (sym q) t)

  module _ (b : Cached) (p : List ℕ) (ws : List (ℕ × List ℕ)) (i : Inv b p ws) where
    pub plain_ours : Ours l so g v j below pvr p
    plain_ours = subst (Ours l so g v j below pvr) (sym i.plain) (back_ours l so g v j below pvr b.store ws i.fit i.ours)

    plain_room : at + 1820 ≤ length p
    plain_room = ours_room l so g v j below pvr p plain_ours

    -- a changed element was written, so that a run input takes it
    changed_input : (e : ℕ) → e < 170 → changed b.cache e ≡ true → is_input (offer_of pvr) (thread_element e).id ≡ true
    changed_input e h q = go (newest ws (thread_element e).id) (latest (offer_of pvr) ws (thread_element e).id i.fit) (ap (λ (t : Bool). cond t (((thread_element e).id, cell b.cache (thread_element e).id) ∷ []) []) (sym q) ∙ i.due e h)
      where
        go : (es : List (ℕ × List ℕ)) → Latest (offer_of pvr) (thread_element e).id es → ((thread_element e).id, cell b.cache (thread_element e).id) ∷ [] ≡ es → is_input (offer_of pvr) (thread_element e).id ≡ true
        go [] none k = let z : ◌≡◌ {A = ℕ} 1 0 = ap length k in absurd (omega arith)
        go (x ∷ []) (some w a c) k = a
        go (x ∷ (_ ∷ _)) l k = elim l [ ]

    pub cache_good : good_cache (offer_of pvr) b.cache ≡ true
    cache_good = well_formed_lem (offer_of pvr) b.cache i.values i.marks (λ e h q. (i.kept e h q, changed_input e h q)) i.past

    -- ---- an accepted write
    module _ (id : ℕ) (w : List ℕ) (h : is_input (offer_of pvr) id ≡ true) (z : length w ≡ (element_of id).size) where
      abbrev named : Named id
      named = input_named (offer_of pvr) id h

      differs : (f : ℕ) → f < 170 → f ≢ number_of id → id ≢ (thread_element f).id
      differs f k n q = n (sym (number_back f k) ∙ ap number_of (sym q))

      same_id : (f : ℕ) → f ≡ number_of id → (thread_element f).id ≡ id
      same_id f q = ap (λ (e : ℕ). (thread_element e).id) q ∙ named_back id named

      write_due : (f : ℕ) → f < 170 → Dec (f ≡ number_of id) → due_at (change b.cache id w) f ≡ newest ((id, w) ∷ ws) (thread_element f).id
      write_due f k (yes q) =
          ap (λ (t : Bool). cond t (((thread_element f).id, cell (change b.cache id w) (thread_element f).id) ∷ []) []) (ap (changed (change b.cache id w)) q ∙ change_changed b.cache i.values i.marks id w named z)
          ∙ ap (λ (x : ℕ). (x, cell (change b.cache id w) x) ∷ []) (same_id f q)
          ∙ ap (λ (x : List ℕ). (id, x) ∷ []) (change_same b.cache i.values i.marks id w named z)
          ∙ sym (newest_same id w ws) ∙ ap (newest ((id, w) ∷ ws)) (sym (same_id f q))
      write_due f k (no n) =
          ap₂ (λ (t : Bool) (x : List ℕ). cond t (((thread_element f).id, x) ∷ []) []) (change_changed_other b.cache i.values i.marks id w named z f n)
          (change_other b.cache i.values i.marks id w named z (thread_element f).id (number_named f k) (differs f k n))
          ∙ i.due f k ∙ sym (newest_other (id, w) (thread_element f).id ws (differs f k n))

      write_kept : (f : ℕ) → f < 170 → Dec (f ≡ number_of id) → changed (change b.cache id w) f ≡ true → valid (change b.cache id w) f ≡ true
      write_kept f k (yes q) c = ap (valid (change b.cache id w)) q ∙ change_valid b.cache i.values i.marks id w named z
      write_kept f k (no n) c =
          change_valid_other b.cache i.values i.marks id w named z f (omega arith) n
          ∙ i.kept f k (sym (change_changed_other b.cache i.values i.marks id w named z f n) ∙ c)

      write_past : (f : ℕ) → 170 ≤ f → f < 192 → (valid (change b.cache id w) f ≡ false) × (changed (change b.cache id w) f ≡ false)
      write_past f a c =
          let n : f ≢ number_of id = λ q. omega (arith, named_number id named) in
          let x = i.past f a c in
          (change_valid_other b.cache i.values i.marks id w named z f c n ∙ x.0, change_changed_other b.cache i.values i.marks id w named z f n ∙ x.1)

      write_holds : (f : ℕ) → f < 170 → Dec (f ≡ number_of id) → valid (change b.cache id w) f ≡ true → cell (change b.cache id w) (thread_element f).id ≡ value_of at (placed at (id, w) p) (thread_element f).id
      write_holds f k (yes q) c =
          ap (cell (change b.cache id w)) (same_id f q) ∙ change_same b.cache i.values i.marks id w named z
          ∙ sym (value_same at p plain_room id w named z) ∙ ap (value_of at (placed at (id, w) p)) (sym (same_id f q))
      write_holds f k (no n) c =
          change_other b.cache i.values i.marks id w named z (thread_element f).id (number_named f k) (differs f k n)
          ∙ i.holds f k (sym (change_valid_other b.cache i.values i.marks id w named z f (omega arith) n) ∙ c)
          ∙ sym (value_other at p id (thread_element f).id w named (number_named f k) (differs f k n) z)

      write_inv : Inv (record { cache = change b.cache id w; store = b.store }) (placed at (id, w) p) ((id, w) ∷ ws)
      write_inv = record {
        ours = i.ours;
        input = i.input;
        wide = i.wide;
        output = i.output;
        values = change_values b.cache i.values i.marks id w named z;
        marks = change_marks b.cache i.values i.marks id w named z;
        fit = (h, z, i.fit);
        plain = ap (placed at (id, w)) i.plain ∙ sym (back_cons at b.store (id, w) ws);
        due = λ f k. write_due f k (ℕ_discrete f (number_of id));
        kept = λ f k. write_kept f k (ℕ_discrete f (number_of id));
        past = write_past;
        holds = λ f k. write_holds f k (ℕ_discrete f (number_of id));
      }

    -- ---- a value of the plain store kept as valid
    module _ (id : ℕ) (named : Named id) where
      abbrev w : List ℕ
      w = value_of at p id

      z : length (value_of at p id) ≡ (element_of id).size
      z = length_value at p plain_room id named

      differs_kept : (f : ℕ) → f < 170 → f ≢ number_of id → id ≢ (thread_element f).id
      differs_kept f k n q = n (sym (number_back f k) ∙ ap number_of (sym q))

      same_kept : (f : ℕ) → f ≡ number_of id → (thread_element f).id ≡ id
      same_kept f q = ap (λ (e : ℕ). (thread_element e).id) q ∙ named_back id named

      abbrev c' : Cache
      c' = keep b.cache id (value_of at p id)

      keep_due : changed b.cache (number_of id) ≡ false → (f : ℕ) → f < 170 → Dec (f ≡ number_of id) → due_at c' f ≡ newest ws (thread_element f).id
      keep_due d f k (yes q) =
          let x : changed c' f ≡ false = keep_changed b.cache i.values i.marks id w named z f ∙ ap (changed b.cache) q ∙ d in
          let y : changed b.cache f ≡ false = ap (changed b.cache) q ∙ d in
          ap (λ (t : Bool). cond t (((thread_element f).id, cell c' (thread_element f).id) ∷ []) []) x
          ∙ sym (ap (λ (t : Bool). cond t (((thread_element f).id, cell b.cache (thread_element f).id) ∷ []) []) y) ∙ i.due f k
      keep_due d f k (no n) =
          ap₂ (λ (t : Bool) (x : List ℕ). cond t (((thread_element f).id, x) ∷ []) []) (keep_changed b.cache i.values i.marks id w named z f)
          (keep_other b.cache i.values i.marks id w named z (thread_element f).id (number_named f k) (differs_kept f k n)) ∙ i.due f k

      keep_kept : (f : ℕ) → f < 170 → Dec (f ≡ number_of id) → changed c' f ≡ true → valid c' f ≡ true
      keep_kept f k (yes q) c = ap (valid c') q ∙ keep_valid b.cache i.values i.marks id w named z
      keep_kept f k (no n) c = keep_valid_other b.cache i.values i.marks id w named z f n ∙ i.kept f k (sym (keep_changed b.cache i.values i.marks id w named z f) ∙ c)

      keep_past : (f : ℕ) → 170 ≤ f → f < 192 → (valid c' f ≡ false) × (changed c' f ≡ false)
      keep_past f a c =
          let n : f ≢ number_of id = λ q. omega (arith, named_number id named) in
          let x = i.past f a c in
          (keep_valid_other b.cache i.values i.marks id w named z f n ∙ x.0, keep_changed b.cache i.values i.marks id w named z f ∙ x.1)

      keep_holds : (f : ℕ) → f < 170 → Dec (f ≡ number_of id) → valid c' f ≡ true → cell c' (thread_element f).id ≡ value_of at p (thread_element f).id
      keep_holds f k (yes q) c = ap (cell c') (same_kept f q) ∙ keep_same b.cache i.values i.marks id w named z ∙ ap (value_of at p) (sym (same_kept f q))
      keep_holds f k (no n) c =
          keep_other b.cache i.values i.marks id w named z (thread_element f).id (number_named f k) (differs_kept f k n)
          ∙ i.holds f k (sym (keep_valid_other b.cache i.values i.marks id w named z f n) ∙ c)

      pub keep_inv : changed b.cache (number_of id) ≡ false → Inv (record { cache = keep b.cache id (value_of at p id); store = b.store }) p ws
      keep_inv d = record {
        ours = i.ours;
        input = i.input;
        wide = i.wide;
        output = i.output;
        values = keep_values b.cache i.values i.marks id w named z;
        marks = keep_marks b.cache i.values i.marks id w named z;
        fit = i.fit;
        plain = i.plain;
        due = λ f k. keep_due d f k (ℕ_discrete f (number_of id));
        kept = λ f k. keep_kept f k (ℕ_discrete f (number_of id));
        past = keep_past;
        holds = λ f k. keep_holds f k (ℕ_discrete f (number_of id));
      }

      -- an invalid element has no write that waits, and the two stores have it alike
      module _ (off : valid b.cache (number_of id) ≡ false) where
        pub unchanged : changed b.cache (number_of id) ≡ false
        unchanged = go (changed b.cache (number_of id)) refl
          where
            go : (t : Bool) → changed b.cache (number_of id) ≡ t → changed b.cache (number_of id) ≡ false
            go true q = absurd (no_bool (sym off ∙ i.kept (number_of id) (named_number id named) q))
            go false q = q

        pub unwritten : value_of at p id ≡ value_of at b.store id
        unwritten =
            let k = named_number id named in
            let e : newest ws id ≡ [] = ap (newest ws) (sym (named_back id named)) ∙ sym (i.due (number_of id) k) ∙ ap (λ (t : Bool). cond t (((thread_element (number_of id)).id, cell b.cache (thread_element (number_of id)).id) ∷ []) []) unchanged in
            ap (λ (s : List ℕ). value_of at s id) i.plain ∙ read_none at b.store (ours_room l so g v j below pvr b.store i.ours) (offer_of pvr) ws id i.fit named e

    -- ---- the turn of a write
    module _ (id : ℕ) (w : List ℕ) (small : id < 2 ^ 16) where
      cached_write : (a x y : Bool) → ltb 65528 (length w) ≡ a → is_input (offer_of pvr) id ≡ x → eqb (length w) (element_of id).size ≡ y
          → write_cache pvr b.cache id w
          ≡ cond a (record { answer = refusal Length; cache = b.cache })
          (cond (not x) (record { answer = refusal (Element Id place_zero); cache = b.cache })
          (cond (not y) (record { answer = refusal (Element Size place_zero); cache = b.cache }) (record { answer = success 0; cache = change b.cache id w })))
      unfolding write_cache
      cached_write a x y p q r =
          ap₂ (λ (t u : Bool). cond (not t) (record { answer = refusal CacheBad; cache = b.cache }) (cond u (record { answer = refusal Length; cache = b.cache })
          (cond (not (is_input (offer_of pvr) id)) (record { answer = refusal (Element Id place_zero); cache = b.cache })
          (cond (not (eqb (length w) (element_of id).size)) (record { answer = refusal (Element Size place_zero); cache = b.cache }) (record { answer = success 0; cache = change b.cache id w }))))) cache_good p
          ∙ ap₂ (λ (t u : Bool). cond a (record { answer = refusal Length; cache = b.cache })
          (cond (not t) (record { answer = refusal (Element Id place_zero); cache = b.cache })
          (cond (not u) (record { answer = refusal (Element Size place_zero); cache = b.cache }) (record { answer = success 0; cache = change b.cache id w })))) q r

      -- a turn by what each side did
      wrote : (r : WriteOutcome) (o : Outcome) → write_cache pvr b.cache id w ≡ r → write_plain l p g v id w ≡ o
          → Goes b (Write id w) ws (record { shown = seen Name.CacheWrite r.answer []; next = record { cache = r.cache; store = b.store }; input = [] }) (record { shown = seen Name.SetState o.answer []; next = o.store; input = [] })
          → Goes b (Write id w) ws (cached_turn l g v pvr (Write id w) b) (plain_turn l g v (Write id w) p)
      unfolding cached_turn plain_turn
      wrote r o e q t =
          as_turned b (Write id w) ws _ _ _ _
          (ap (λ (x : WriteOutcome). record { shown = seen Name.CacheWrite x.answer []; next = record { cache = x.cache; store = b.store }; input = [] }) e)
          (ap (λ (x : Outcome). record { shown = seen Name.SetState x.answer []; next = x.store; input = [] }) q) t

      pub write_turn : Goes b (Write id w) ws (cached_turn l g v pvr (Write id w) b) (plain_turn l g v (Write id w) p)
      unfolding since
      write_turn = by_length (ltb 65528 (length w)) refl
        where
          by_size : ltb 65528 (length w) ≡ false → is_input (offer_of pvr) id ≡ true → (y : Bool) → eqb (length w) (element_of id).size ≡ y
              → Goes b (Write id w) ws (cached_turn l g v pvr (Write id w) b) (plain_turn l g v (Write id w) p)
          by_size a x true e =
              wrote (record { answer = success 0; cache = change b.cache id w }) (accept 0 (placed at (id, w) p)) (cached_write false true true a x e) (write_good l so g v j below pvr p plain_ours id w a (input_common (offer_of pvr) id x) small x e)
              (record { same = record { shown = refl; stores = tt; input = tt }; next = write_inv id w x (eqb-true _ _ e) })
          by_size a x false e =
              wrote (record { answer = refusal (Element Size place_zero); cache = b.cache }) (refuse p [] (Element Size first_place)) (cached_write false true false a x e) (write_size l so g v j below pvr p plain_ours id w a (input_common (offer_of pvr) id x) small x e)
              (record { same = record { shown = refl; stores = tt; input = tt }; next = i })

          by_special : ltb 65528 (length w) ≡ false → is_input (offer_of pvr) id ≡ false → (u : Bool) → is_special id ≡ u → Goes b (Write id w) ws (cached_turn l g v pvr (Write id w) b) (plain_turn l g v (Write id w) p)
          by_special a x true e =
              wrote (record { answer = refusal (Element Id place_zero); cache = b.cache }) (refuse p [] (Element Id place_zero)) (cached_write false false (eqb (length w) (element_of id).size) a x refl) (write_special l so g v j below pvr p plain_ours id w a e)
              (record { same = record { shown = refl; stores = tt; input = tt }; next = i })
          by_special a x false e =
              wrote (record { answer = refusal (Element Id place_zero); cache = b.cache }) (refuse p [] (Element Id first_place)) (cached_write false false (eqb (length w) (element_of id).size) a x refl) (write_id l so g v j below pvr p plain_ours id w a e small x)
              (record { same = record { shown = refl; stores = tt; input = tt }; next = i })

          by_input : ltb 65528 (length w) ≡ false → (x : Bool) → is_input (offer_of pvr) id ≡ x → Goes b (Write id w) ws (cached_turn l g v pvr (Write id w) b) (plain_turn l g v (Write id w) p)
          by_input a true x = by_size a x (eqb (length w) (element_of id).size) refl
          by_input a false x = by_special a x (is_special id) refl

          by_length : (a : Bool) → ltb 65528 (length w) ≡ a → Goes b (Write id w) ws (cached_turn l g v pvr (Write id w) b) (plain_turn l g v (Write id w) p)
          by_length true a =
              wrote (record { answer = refusal Length; cache = b.cache }) (refuse p [] Length) (cached_write true (is_input (offer_of pvr) id) (eqb (length w) (element_of id).size) a refl refl) (write_long l so g v j below pvr p plain_ours id w a)
              (record { same = record { shown = refl; stores = tt; input = tt }; next = i })
          by_length false a = by_input a (is_input (offer_of pvr) id) refl
