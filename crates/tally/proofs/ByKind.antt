-- What a call touches and changes, once its kind is known, in the form of the needs. Assumes nothing.
use mathlib.Core.Path.{◌≡◌, refl, sym, ap, ◌∙◌}
use mathlib.Core.Bool.{Bool, cond}
use mathlib.Core.List.{List}
use Prim.Native.Nat.{ℕ, ◌%◌, ◌^◌}
use borrow.Author.Tests.{eq-eqb, ne_eqb}
use lib.Dec.{eqb}
use lib.ListN.{length}
use mathlib.Core.Logic.{◌⊎◌, inl, inr}
use Rattle.std.specs.Prelude.{Option, Some, None}
use Rattle.l0.specs.declared.numbered.Kind.{Kind}
use Rattle.l0.specs.declared.numbered.Kind.TheVariants.{GetCapabilities, SetCapabilities, CreateGuest, CreateVcpu, GetState, SetState, RunVcpu, DeleteGuest}
use Rattle.l0.specs.Kinds.{kind_of}
use Rattle.l0.proofs.ByNumber.{number_is, past_eight}
use Rattle.store.specs.declared.Layout.{Layout}
use Rattle.store.specs.Header.{header, free_slot, slot_of}
use Rattle.tally.specs.declared.Change.{Change}
use Rattle.tally.specs.declared.Change.TheVariants.{Nothing, Renewed}
use Rattle.tally.specs.declared.Touched.{Touched}
use Rattle.tally.specs.Tally.{on_success, dropped}
use Rattle.tally.specs.Private.{mask_of, one, no_slot, touched_by, get_change, set_change, run_change, change_for}

module _ (l : Layout) (s : List ℕ) (kind flags guest number : ℕ) (o : Option Kind) (found : o ≡ kind_of kind) where
  abbrev Touch : Touched → Type 0
  Touch t = t ≡ touched_by l s kind flags guest number

  touch_kind : (n : ℕ) (t : Touched) → kind ≡ n → t ≡ touched_by l s n flags guest number → Touch t
  touch_kind n t e q = q ∙ ap (λ (k : ℕ). touched_by l s k flags guest number) (sym e)

  pub touch_create : (a : ℕ) (t : Touched) → (y : Kind) → o ≡ Some y → y ≡ CreateVcpu → a ≡ free_slot l (header l s) → t ≡ one a → Touch t
  unfolding touched_by
  touch_create a t y h e p q = touch_kind 4 t (number_is kind o found y h CreateVcpu e) (q ∙ ap one p)

  pub touch_get : (a : ℕ) (t : Touched) → (y : Kind) → o ≡ Some y → y ≡ GetState → a ≡ slot_of l (header l s) guest number → t ≡ one a → Touch t
  unfolding touched_by
  touch_get a t y h e p q = touch_kind 5 t (number_is kind o found y h GetState e) (q ∙ ap one p)

  pub touch_set : (a : ℕ) (t : Touched) → (y : Kind) → o ≡ Some y → y ≡ SetState → a ≡ slot_of l (header l s) guest number → t ≡ one a → Touch t
  unfolding touched_by
  touch_set a t y h e p q = touch_kind 6 t (number_is kind o found y h SetState e) (q ∙ ap one p)

  pub touch_run : (a : ℕ) (t : Touched) → (y : Kind) → o ≡ Some y → y ≡ RunVcpu → a ≡ slot_of l (header l s) guest number → t ≡ one a → Touch t
  unfolding touched_by
  touch_run a t y h e p q = touch_kind 7 t (number_is kind o found y h RunVcpu e) (q ∙ ap one p)

  pub touch_delete : (m : ℕ) → (y : Kind) → o ≡ Some y → y ≡ DeleteGuest → m ≡ mask_of (dropped l s flags guest) l.slots 0 → Touch (record { first = 0; slots = m })
  unfolding touched_by
  touch_delete m y h e p = touch_kind 8 _ (number_is kind o found y h DeleteGuest e) (ap (λ (x : ℕ). record { first = 0; slots = x }) p)

  touch_get_capabilities : (y : Kind) → o ≡ Some y → y ≡ GetCapabilities → Touch no_slot
  unfolding touched_by
  touch_get_capabilities y h e = touch_kind 1 no_slot (number_is kind o found y h GetCapabilities e) refl

  touch_set_capabilities : (y : Kind) → o ≡ Some y → y ≡ SetCapabilities → Touch no_slot
  unfolding touched_by
  touch_set_capabilities y h e = touch_kind 2 no_slot (number_is kind o found y h SetCapabilities e) refl

  touch_create_guest : (y : Kind) → o ≡ Some y → y ≡ CreateGuest → Touch no_slot
  unfolding touched_by
  touch_create_guest y h e = touch_kind 3 no_slot (number_is kind o found y h CreateGuest e) refl

  pub touch_other : o ≡ None → Touch no_slot
  unfolding touched_by
  touch_other q = sym (past_eight _ _ _ _ _ _ _ _ _ kind o found q)

  -- kinds that are named together
  pub touch_named : (a : ℕ) (t : Touched) (y : Kind) → o ≡ Some y → (y ≡ GetState) ⊎ ((y ≡ SetState) ⊎ (y ≡ RunVcpu)) → a ≡ slot_of l (header l s) guest number → t ≡ one a → Touch t
  touch_named a t y h (inl e) p q = touch_get a t y h e p q
  touch_named a t y h (inr (inl e)) p q = touch_set a t y h e p q
  touch_named a t y h (inr (inr e)) p q = touch_run a t y h e p q

  pub touch_early : (y : Kind) → o ≡ Some y → (y ≡ GetCapabilities) ⊎ ((y ≡ SetCapabilities) ⊎ (y ≡ CreateGuest)) → Touch no_slot
  touch_early y h (inl e) = touch_get_capabilities y h e
  touch_early y h (inr (inl e)) = touch_set_capabilities y h e
  touch_early y h (inr (inr e)) = touch_create_guest y h e

-- in a store of the layout's length, or of another
module _ (l : Layout) (s : List ℕ) (kind flags guest number : ℕ) where
  pub touch_none : (length s ≡ l.size → ⊥) → no_slot ≡ cond (eqb (length s) l.size) (touched_by l s kind flags guest number) no_slot
  touch_none n = sym (ap (λ (b : Bool). cond b (touched_by l s kind flags guest number) no_slot) (ne_eqb _ _ n))

  pub touch_some : (t : Touched) → length s ≡ l.size → t ≡ touched_by l s kind flags guest number → t ≡ cond (eqb (length s) l.size) (touched_by l s kind flags guest number) no_slot
  touch_some t e q = q ∙ sym (ap (λ (b : Bool). cond b (touched_by l s kind flags guest number) no_slot) (eq-eqb _ _ e))

module _ (kind flags r3 exit n : ℕ) (o : Option Kind) (found : o ≡ kind_of kind) where
  abbrev Makes : Change → Type 0
  Makes c = c ≡ change_for kind flags r3 exit n

  change_kind : (k : ℕ) (c : Change) → kind ≡ k → c ≡ change_for k flags r3 exit n → Makes c
  change_kind k c e q = q ∙ ap (λ (x : ℕ). change_for x flags r3 exit n) (sym e)

  pub change_create : (c : Change) → (y : Kind) → o ≡ Some y → y ≡ CreateVcpu → c ≡ on_success r3 Renewed Nothing → Makes c
  unfolding change_for
  change_create c y h e q = change_kind 4 c (number_is kind o found y h CreateVcpu e) q

  pub change_get : (c : Change) → (y : Kind) → o ≡ Some y → y ≡ GetState → c ≡ get_change flags r3 → Makes c
  unfolding change_for
  change_get c y h e q = change_kind 5 c (number_is kind o found y h GetState e) q

  pub change_set : (c : Change) → (y : Kind) → o ≡ Some y → y ≡ SetState → c ≡ set_change flags r3 n → Makes c
  unfolding change_for
  change_set c y h e q = change_kind 6 c (number_is kind o found y h SetState e) q

  pub change_run : (c : Change) → (y : Kind) → o ≡ Some y → y ≡ RunVcpu → c ≡ run_change r3 n (exit % 2 ^ 32) → Makes c
  unfolding change_for
  change_run c y h e q = change_kind 7 c (number_is kind o found y h RunVcpu e) q

  pub change_delete : (c : Change) → (y : Kind) → o ≡ Some y → y ≡ DeleteGuest → c ≡ on_success r3 Renewed Nothing → Makes c
  unfolding change_for
  change_delete c y h e q = change_kind 8 c (number_is kind o found y h DeleteGuest e) q

  change_get_capabilities : (y : Kind) → o ≡ Some y → y ≡ GetCapabilities → Makes Nothing
  unfolding change_for
  change_get_capabilities y h e = change_kind 1 Nothing (number_is kind o found y h GetCapabilities e) refl

  change_set_capabilities : (y : Kind) → o ≡ Some y → y ≡ SetCapabilities → Makes Nothing
  unfolding change_for
  change_set_capabilities y h e = change_kind 2 Nothing (number_is kind o found y h SetCapabilities e) refl

  change_create_guest : (y : Kind) → o ≡ Some y → y ≡ CreateGuest → Makes Nothing
  unfolding change_for
  change_create_guest y h e = change_kind 3 Nothing (number_is kind o found y h CreateGuest e) refl

  pub change_other : o ≡ None → Makes Nothing
  unfolding change_for
  change_other q = sym (past_eight _ _ _ _ _ _ _ _ _ kind o found q)

  pub change_renewal : (c : Change) (y : Kind) → o ≡ Some y → (y ≡ CreateVcpu) ⊎ (y ≡ DeleteGuest) → c ≡ on_success r3 Renewed Nothing → Makes c
  change_renewal c y h (inl e) q = change_create c y h e q
  change_renewal c y h (inr e) q = change_delete c y h e q

  pub change_early : (y : Kind) → o ≡ Some y → (y ≡ GetCapabilities) ⊎ ((y ≡ SetCapabilities) ⊎ (y ≡ CreateGuest)) → Makes Nothing
  change_early y h (inl e) = change_get_capabilities y h e
  change_early y h (inr (inl e)) = change_set_capabilities y h e
  change_early y h (inr (inr e)) = change_create_guest y h e
