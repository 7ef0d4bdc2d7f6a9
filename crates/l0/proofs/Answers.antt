-- The answers of the calls, in the form of their needs: each takes a call's refusals apart as far as the code came. Assumes nothing.
use Rattle.std.specs.Prelude.{Ok, Err}
use Rattle.std.proofs.Common.{◌≡◌, ℕ, ◌+◌, ◌%◌, ◌^◌, Bool, true, false, cond, not, ◌&&◌, eqb, List, [], length, sym, refl, ap, ◌∙◌, ap₂, eq-eqb, ne_eqb}
use borrow.Author.Tests.{not-false}
use Rattle.octets.specs.Bytes.{be, put, zeros}
use Rattle.octets.proofs.Bytes.{length_zeros, put_all}
use Rattle.answer.specs.declared.Answer.{Answer}
use Rattle.answer.specs.declared.Fault.{Fault}
use Rattle.answer.specs.declared.Fault.TheVariants.{Store, Length, Guest, Capability, InUse}
use Rattle.elements.specs.declared.Scope.TheVariants.{Guest as GuestWide}
use Rattle.elements.specs.Table.{position, below, table}
use Rattle.store.specs.declared.Layout.{Layout}
use Rattle.store.specs.Layout.{small, large, guest_at}
use Rattle.store.specs.Header.{header, outside, offered, capabilities_of, any_live, live}
use Rattle.store.specs.Store.{well_formed, fresh, put_capabilities}
use Rattle.store.specs.Conversion.{converted}
use Rattle.admission.specs.Refusals.{Admission, Outcome, success, refusal, accept, refuse, decide, admission}
use Rattle.l0.specs.Calls.{fresh_store, get_capabilities, in_use, set_capabilities, offset_of, rounded_up, guest_clock, convert}
use Rattle.admission.proofs.FirstTests.{refused, past, admitted}
use Rattle.guests.proofs.Answers.{left}

-- where 0x0004 stands in a guest's values
tb_offset : position GuestWide 0x0004 ≡ 4
unfolding position below table
tb_offset = refl

and_false : (b : Bool) → (b && false) ≡ false
and_false true = refl
and_false false = refl

and_true : (b : Bool) → (b && true) ≡ b
and_true true = refl
and_true false = refl

module _ (l m : Layout) (e : l ≡ m) (s : List ℕ) (r : Answer) where
  -- ---- a fresh store
  pub fresh_refused : (length s ≡ l.size → ⊥) → r ≡ refusal Store → left r s ≡ fresh_store m s
  unfolding fresh_store decide
  fresh_refused n h =
      let k : length s ≡ m.size → ⊥ = λ z. n (z ∙ sym (ap (λ (x : Layout). x.size) e)) in
      ap (λ (x : Answer). left x s) h ∙ sym (simp (ne_eqb _ _ k))

  pub fresh_made : (t : List ℕ) → length s ≡ l.size → t ≡ put s 0 (zeros (length s)) → r ≡ success 0 → left r t ≡ fresh_store m s
  unfolding fresh_store decide fresh
  fresh_made t n q h =
      let k : length s ≡ m.size = n ∙ ap (λ (x : Layout). x.size) e in
      let z : t ≡ zeros m.size = q ∙ put_all s (zeros (length s)) (length_zeros (length s)) ∙ ap zeros k in
      ap₂ left h z ∙ sym (simp (eq-eqb _ _ k))

-- ---- get and set capabilities
module _ (l : Layout) (s : List ℕ) (flags : ℕ) (a : Admission) (q : a ≡ admission l s 0 flags) where
  pub get_refused : (r : Answer) (f : Fault) → a ≡ Err f → r ≡ refusal f → left r s ≡ get_capabilities l s flags
  unfolding get_capabilities decide
  get_refused r f h i = ap (λ (x : Answer). left x s) i ∙ sym (refused l s 0 flags (refuse s []) (accept offered s) a f q h)

  pub get_told : (r : Answer) → a ≡ Ok tt → r ≡ success offered → left r s ≡ get_capabilities l s flags
  unfolding get_capabilities decide
  get_told r h i = ap (λ (x : Answer). left x s) i ∙ sym (admitted l s 0 flags (refuse s []) (accept offered s) (past l s 0 flags a q h))

  module _ (bitmap : ℕ) where
    rest : Outcome
    rest = cond (not (eqb (outside offered bitmap) 0)) (refuse s [] Capability) (cond (in_use l s bitmap) (refuse s [] InUse) (accept 0 (put_capabilities s bitmap)))

    pub set_refused : (f : Fault) → a ≡ Err f → left (refusal f) s ≡ set_capabilities l s flags bitmap
    unfolding set_capabilities decide rest
    set_refused f h = sym (refused l s 0 flags (refuse s []) rest a f q h)

    module _ (h : a ≡ Ok tt) (x : ℕ) (o : x ≡ outside offered bitmap) where
      set_past : set_capabilities l s flags bitmap ≡ rest
      unfolding set_capabilities decide rest
      set_past = admitted l s 0 flags (refuse s []) rest (past l s 0 flags a q h)

      pub set_other : (x ≡ 0 → ⊥) → left (refusal Capability) s ≡ set_capabilities l s flags bitmap
      unfolding rest
      set_other n =
          let m : outside offered bitmap ≡ 0 → ⊥ = λ z. n (o ∙ z) in
          sym (set_past ∙ simp (ne_eqb _ _ m))

      module _ (z : x ≡ 0) (y : Bool) (u : y ≡ in_use l s bitmap) where
        set_offered : set_capabilities l s flags bitmap ≡ cond y (refuse s [] InUse) (accept 0 (put_capabilities s bitmap))
        unfolding rest
        set_offered =
            set_past
            ∙ ap₂ (λ (b c : Bool). cond (not b) (refuse s [] Capability) (cond c (refuse s [] InUse) (accept 0 (put_capabilities s bitmap)))) (eq-eqb _ _ (sym o ∙ z)) (sym u)

        pub set_in_use : y ≡ true → left (refusal InUse) s ≡ set_capabilities l s flags bitmap
        set_in_use v = sym (set_offered ∙ ap (λ (b : Bool). cond b (refuse s [] InUse) (accept 0 (put_capabilities s bitmap))) v)

        pub set_stored : (t : List ℕ) → y ≡ false → t ≡ put_capabilities s bitmap → left (success 0) t ≡ set_capabilities l s flags bitmap
        set_stored t v k = ap (left (success 0)) k ∙ sym (set_offered ∙ ap (λ (b : Bool). cond b (refuse s [] InUse) (accept 0 (put_capabilities s bitmap))) v)

-- whether a guest lives under another bitmap
module _ (l : Layout) (s : List ℕ) (bitmap c : ℕ) (e : c ≡ capabilities_of (header l s)) where
  pub use_same : bitmap ≡ c → false ≡ in_use l s bitmap
  use_same h = sym (ap (λ (b : Bool). any_live l (header l s) && not b) (eq-eqb _ _ (h ∙ e)) ∙ and_false (any_live l (header l s)))

  pub use_other : (x : Bool) → (bitmap ≡ c → ⊥) → x ≡ any_live l (header l s) → x ≡ in_use l s bitmap
  use_other x n h = h ∙ sym (ap (λ (b : Bool). any_live l (header l s) && not b) (ne_eqb _ _ (λ z. n (z ∙ sym e))) ∙ and_true (any_live l (header l s)))

-- ---- the clock
module _ (l : Layout) (s : List ℕ) (guest timebase : ℕ) (t : Bool) (q : t ≡ well_formed l s) where
  pub clock_store : not t ≡ true → left (refusal Store) s ≡ guest_clock l s guest timebase
  unfolding guest_clock decide
  clock_store n =
      let m : not (well_formed l s) ≡ true = ap not (sym q) ∙ n in
      sym (simp m)

  module _ (n : not t ≡ false) (x : Bool) (o : x ≡ live l (header l s) guest) where
    clock_good : not (well_formed l s) ≡ false
    clock_good = ap not (sym q) ∙ n

    pub clock_dead : not x ≡ true → left (refusal Guest) s ≡ guest_clock l s guest timebase
    unfolding guest_clock decide
    clock_dead k =
        let m : not (live l (header l s) guest) ≡ true = ap not (sym o) ∙ k in
        sym (simp (clock_good, m))

    pub clock_told : (p b u c : ℕ) → not x ≡ false → p ≡ guest_at l guest → b ≡ be s (p + 4) 8 → u ≡ rounded_up b → c ≡ (timebase + u) % 2 ^ 64
        → left (success c) s ≡ guest_clock l s guest timebase
    unfolding guest_clock decide
    clock_told p b u c k d f v g =
        let m : not (live l (header l s) guest) ≡ false = ap not (sym o) ∙ k in
        let z : b ≡ offset_of l s guest = f ∙ ap₂ (λ (x y : ℕ). be s (x + y) 8) d (sym tb_offset) in
        ap (λ (x : Answer). left x s) (ap success (g ∙ ap (λ (y : ℕ). (timebase + y) % 2 ^ 64) (v ∙ ap (λ (y : ℕ). rounded_up y) z)))
        ∙ sym (simp (clock_good, m))

-- ---- the conversion
module _ (l : Layout) (k : l ≡ small) (s t : List ℕ) (r : Answer) where
  pub convert_other : (length s ≡ l.size → ⊥) → r ≡ refusal Store → left r t ≡ convert s t
  unfolding convert decide well_formed
  convert_other n i =
      let m : length s ≡ small.size → ⊥ = λ z. n (z ∙ ap (λ (y : Layout). y.size) (sym k)) in
      ap (λ (y : Answer). left y t) i ∙ sym (simp (ne_eqb _ _ m))

  module _ (x : Bool) (e : x ≡ well_formed l s) where
    source_is : well_formed small s ≡ x
    source_is = ap (λ (y : Layout). well_formed y s) (sym k) ∙ sym e

    pub convert_store : not x ≡ true → r ≡ refusal Store → left r t ≡ convert s t
    unfolding convert decide
    convert_store n i = let m : not (well_formed small s) ≡ true = ap not source_is ∙ n in ap (λ (y : Answer). left y t) i ∙ sym (simp m)

    module _ (n : not x ≡ false) (m : Layout) (f : m ≡ large) where
      source_good : not (well_formed small s) ≡ false
      source_good = ap not source_is ∙ n

      size_is : m.size ≡ large.size
      size_is = ap (λ (y : Layout). y.size) f

      pub convert_length : (length t ≡ m.size → ⊥) → r ≡ refusal Length → left r t ≡ convert s t
      unfolding convert decide
      convert_length j i =
          let q : length t ≡ large.size → ⊥ = λ z. j (z ∙ sym size_is) in
          ap (λ (y : Answer). left y t) i ∙ sym (simp (source_good, ne_eqb _ _ q))

      pub convert_made : (u : List ℕ) → length t ≡ m.size → u ≡ converted l m s → r ≡ success 0 → left r u ≡ convert s t
      unfolding convert decide
      convert_made u h d i =
          let q : length t ≡ large.size = h ∙ size_is in
          ap₂ left i (d ∙ ap₂ (λ (y z : Layout). converted y z s) k f) ∙ sym (simp (source_good, eq-eqb _ _ q))

pub source_formed : (l : Layout) (s : List ℕ) (x : Bool) → x ≡ well_formed l s → not x ≡ false → well_formed l s ≡ true
source_formed l s x e n = sym e ∙ not-false x n
