-- What applying a message stores, and what filling one in reads. Assumes nothing.
use mathlib.Core.Path.{◌≡◌, refl, sym, ap, ap₂, ◌∙◌}
use mathlib.Core.List.{List, [], ◌∷◌, ◌++◌}
use Prim.Native.Nat.{ℕ, zero, suc, ◌+◌, ◌≤◌, ◌<◌}
use native.Mathlib.Numerals.{add-one}
use native.Mathlib.Omega.{arith}
use lib.ListN.{length, take}
use lib.Seq.{take-suc, take-length}
use Rattle.octets.specs.Bytes.{bytes_at, put, zeros}
use Rattle.octets.proofs.Bytes.{length_bytes_at, read_back}
use Rattle.elements.specs.declared.Scope.{Scope}
use Rattle.elements.specs.declared.Scope.TheVariants.{Thread}
use Rattle.elements.specs.declared.Source.TheVariants.{Stored}
use Rattle.elements.specs.declared.Element.{Element}
use Rattle.elements.specs.declared.Entry.{Entry}
use Rattle.elements.specs.declared.Kind.TheVariants.{Listed}
use Rattle.elements.specs.Table.{kind_of, position, number_of, thread_element}
use Rattle.elements.proofs.Table.{thread_stored, listed_stored, number_element}
use Rattle.gsb.specs.Walk.{count_of, offset_at}
use Rattle.gsb.specs.Message.{message, Begins, nth_id, nth_value, Wire}
use Rattle.gsb.proofs.Walks.{offset_start}
use Rattle.gsb.proofs.RoundTrip.{begins_self, wire_one, listed_fits, message_count, message_id, message_value, zeros_count, one_length}
use Rattle.transfer.specs.Transfer.{put_as, applied, fill_as, filled}
use Rattle.transfer.proofs.Moving.{put_stored, as_listed, fill_entry, fill_stored, length_put_as, apply_start, apply_turn}
use Rattle.transfer.proofs.Filled.{fill_start, filled_more}

-- ---- the store s with the values of a list of elements, in order
unfoldable pub place_all : ℕ → List (ℕ × List ℕ) → List ℕ → List ℕ
place_all base [] s = s
place_all base (e ∷ es) s = place_all base es (put_as (kind_of e.0) base e.1 s)

pub place_nil : (base : ℕ) (s : List ℕ) → place_all base [] s ≡ s
unfolding place_all
place_nil base s = refl

pub place_cons : (base id : ℕ) (v : List ℕ) (es : List (ℕ × List ℕ)) (s : List ℕ) → place_all base ((id, v) ∷ es) s ≡ place_all base es (put_as (kind_of id) base v s)
unfolding place_all
place_cons base id v es s = refl

pub place_append : (base : ℕ) (es fs : List (ℕ × List ℕ)) (s : List ℕ) → place_all base (es ++ fs) s ≡ place_all base fs (place_all base es s)
unfolding place_all
place_append base [] fs s = refl
place_append base (e ∷ es) fs s = place_append base es fs (put_as (kind_of e.0) base e.1 s)

pub place_snoc : (base : ℕ) (es : List (ℕ × List ℕ)) (id : ℕ) (v s : List ℕ) → place_all base (es ++ ((id, v) ∷ [])) s ≡ put_as (kind_of id) base v (place_all base es s)
place_snoc base es id v s = place_append base es ((id, v) ∷ []) s ∙ place_cons base id v [] (place_all base es s) ∙ place_nil base (put_as (kind_of id) base v (place_all base es s))

pub length_place_all : (base : ℕ) (es : List (ℕ × List ℕ)) (s : List ℕ) → length (place_all base es s) ≡ length s
unfolding place_all
length_place_all base [] s = refl
length_place_all base (e ∷ es) s = length_place_all base es (put_as (kind_of e.0) base e.1 s) ∙ length_put_as (kind_of e.0) base e.1 s

-- ---- a message applied
module _ (base : ℕ) (es : List (ℕ × List ℕ)) (b : List ℕ) (w : Wire es) (begins : Begins b (message es)) (s : List ℕ) where
  applied_first : (i : ℕ) → i ≤ length es → applied base b i s ≡ place_all base (take i es) s
  applied_first zero h = sym (apply_start base b s) ∙ sym (place_nil base s)
  applied_first (suc i) h =
      let l : i < length es = omega arith in
      ap (λ (n : ℕ). applied base b n s) (sym (add-one i))
      ∙ sym (apply_turn base b s i (offset_at b i) (applied base b i s) _ refl refl refl)
      ∙ ap₂ (λ (id : ℕ) (v : List ℕ). put_as (kind_of id) base v (applied base b i s)) (message_id es b w begins i l) (message_value es b w begins i l)
      ∙ ap (put_as (kind_of (nth_id es i)) base (nth_value es i)) (applied_first i (omega arith))
      ∙ sym (place_snoc base (take i es) (nth_id es i) (nth_value es i) s)
      ∙ ap (λ (x : List (ℕ × List ℕ)). place_all base x s) (sym (take-suc es i (0, []) l))

  pub applied_message : applied base b (count_of b) s ≡ place_all base es s
  applied_message =
      ap (λ (n : ℕ). applied base b n s) (message_count es b w begins) ∙ applied_first (length es) (omega arith)
      ∙ ap (λ (x : List (ℕ × List ℕ)). place_all base x s) (take-length es)

pub applied_zeros : (base n : ℕ) (s : List ℕ) → 4 ≤ n → applied base (zeros n) (count_of (zeros n)) s ≡ s
applied_zeros base n s h = ap (λ (m : ℕ). applied base (zeros n) m s) (zeros_count n h) ∙ sym (apply_start base (zeros n) s)

-- ---- a thread element
module _ (id : ℕ) (x : Entry) (e : kind_of id ≡ Listed x) (q : x.scope ≡ Thread) where
  thread_source : x.source ≡ Stored (position Thread id)
  thread_source = listed_stored id x e (thread_stored id x e q) ∙ ap (λ (c : Scope). Stored (position c id)) q

  -- the position by the element's number
  pub thread_position : (thread_element (number_of id)).position ≡ position Thread id
  thread_position = ap (λ (y : Element). y.position) (number_element id x e q)

  pub thread_placed : (base : ℕ) (v s : List ℕ) → put_as (kind_of id) base v s ≡ put s (base + position Thread id) v
  thread_placed base v s = sym (as_listed (kind_of id) base v s x _ e (put_stored x.source base v s (position Thread id) _ thread_source refl))

  pub thread_numbered : (base : ℕ) (v s : List ℕ) → put_as (kind_of id) base v s ≡ put s (base + (thread_element (number_of id)).position) v
  thread_numbered base v s = thread_placed base v s ∙ ap (λ (p : ℕ). put s (base + p) v) (sym thread_position)

  thread_filled : (base : ℕ) (s : List ℕ) (at : ℕ) (b : List ℕ) → fill_as (kind_of id) base s at b ≡ put b (at + 4) (bytes_at s (base + position Thread id) x.size)
  thread_filled base s at b =
      fill_entry (kind_of id) base s at b x e
      ∙ sym (fill_stored x.source base x.size s b (at + 4) (put b (at + 4) (bytes_at s (base + position Thread id) x.size)) (position Thread id) thread_source refl)

  -- ---- a message of one, filled in
  module _ (base : ℕ) (s v : List ℕ) (z : length v ≡ x.size) where
    -- the buffer may be longer than the message
    pub filled_begins_one : (b : List ℕ) → Begins b (message ((id, v) ∷ [])) → filled base s b (count_of b) ≡ put b 8 (bytes_at s (base + position Thread id) (length v))
    filled_begins_one b begins =
        let f = listed_fits id x v e z in
        let w : Wire ((id, v) ∷ []) = wire_one id v f.0 f.1 in
        ap (filled base s b) (message_count ((id, v) ∷ []) b w begins)
        ∙ filled_more base s b 0
        ∙ ap₂ (λ (i : ℕ) (c : List ℕ). fill_as (kind_of i) base s (offset_at b 0) c) (message_id ((id, v) ∷ []) b w begins 0 (omega arith)) (sym (fill_start base s b))
        ∙ thread_filled base s (offset_at b 0) b
        ∙ ap₂ (λ (o n : ℕ). put b (o + 4) (bytes_at s (base + position Thread id) n)) (sym (offset_start b)) (sym z)

    pub filled_message_one : filled base s (message ((id, v) ∷ [])) (count_of (message ((id, v) ∷ []))) ≡ put (message ((id, v) ∷ [])) 8 (bytes_at s (base + position Thread id) (length v))
    filled_message_one = filled_begins_one (message ((id, v) ∷ [])) (begins_self (message ((id, v) ∷ [])))

    pub filled_value_one : base + position Thread id + length v ≤ length s
        → bytes_at (filled base s (message ((id, v) ∷ [])) (count_of (message ((id, v) ∷ [])))) 8 (length v) ≡ bytes_at s (base + position Thread id) (length v)
    filled_value_one room =
        let n : length (bytes_at s (base + position Thread id) (length v)) ≡ length v = length_bytes_at s (base + position Thread id) (length v) room in
        ap (λ (b : List ℕ). bytes_at b 8 (length v)) filled_message_one
        ∙ ap (bytes_at (put (message ((id, v) ∷ [])) 8 (bytes_at s (base + position Thread id) (length v))) 8) (sym n)
        ∙ read_back (message ((id, v) ∷ [])) 8 (bytes_at s (base + position Thread id) (length v)) (omega (arith, n, one_length id v))
