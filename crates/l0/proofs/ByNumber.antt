-- A call by its number, in the form of its needs: each kind is a line of the table of calls, and past the eight there is none. Assumes nothing.
use Rattle.std.proofs.Common.{◌≡◌, ℕ, zero, suc, List, [], ◌∷◌, get_or, sym, refl, ap, ◌∙◌}
use mathlib.Core.Option.{none}
use Rattle.answer.specs.declared.Answer.{Answer}
use Rattle.answer.specs.declared.Call.{Call as Name}
use Rattle.answer.specs.declared.Fault.TheVariants.{Record}
use Rattle.store.specs.declared.Layout.{Layout}
use Rattle.admission.specs.Refusals.{Outcome, refusal}
use Rattle.state.specs.State.{get_state, set_state}
use Rattle.run.specs.Run.{run_vcpu}
use Rattle.guests.specs.Guests.{create_guest, create_vcpu, delete_guest}
use Rattle.std.specs.Prelude.{Option, Some, None}
use Rattle.l0.specs.declared.numbered.Kind.{Kind}
use Rattle.l0.specs.declared.numbered.Kind.TheVariants.{GetCapabilities, SetCapabilities, CreateGuest, CreateVcpu, GetState, SetState, RunVcpu, DeleteGuest}
use Rattle.l0.specs.Kinds.{number_of, kind_of}
use Rattle.l0.specs.Calls.{get_capabilities, set_capabilities, outcome}
use Rattle.l0.specs.Numbered.{CallRecord, Called, call_of, wrote, called_by, called}

-- ---- the kind that a number names
pub number_is : (k : ℕ) (o : Option Kind) → o ≡ kind_of k → (y : Kind) → o ≡ Some y → (x : Kind) → y ≡ x → k ≡ number_of x
number_is k o e y f x g = go k (sym e ∙ f ∙ ap Some g)
  where
    same : {a b : Kind} → ◌≡◌ {A = Option Kind} (Some a) (Some b) → a ≡ b
    same h = cc

    go : (n : ℕ) → kind_of n ≡ Some x → n ≡ number_of x
    go zero h = cc
    go (suc zero) h = ap number_of (same h)
    go (suc (suc zero)) h = ap number_of (same h)
    go (suc (suc (suc zero))) h = ap number_of (same h)
    go (suc (suc (suc (suc zero)))) h = ap number_of (same h)
    go (suc (suc (suc (suc (suc zero))))) h = ap number_of (same h)
    go (suc (suc (suc (suc (suc (suc zero)))))) h = ap number_of (same h)
    go (suc (suc (suc (suc (suc (suc (suc zero))))))) h = ap number_of (same h)
    go (suc (suc (suc (suc (suc (suc (suc (suc zero)))))))) h = ap number_of (same h)
    go (suc (suc (suc (suc (suc (suc (suc (suc (suc n))))))))) h = cc

-- a number that names none finds what stands first in a table of nine
pub past_eight : {A : Type 0} (d a b c e f g h i : A) (k : ℕ) (o : Option Kind) → o ≡ kind_of k → o ≡ None → get_or (d ∷ a ∷ b ∷ c ∷ e ∷ f ∷ g ∷ h ∷ i ∷ []) k d ≡ d
past_eight {A} d a b c e f g h i k o p q = go k (sym p ∙ q)
  where
    go : (n : ℕ) → kind_of n ≡ None → get_or (d ∷ a ∷ b ∷ c ∷ e ∷ f ∷ g ∷ h ∷ i ∷ []) n d ≡ d
    go zero h = refl
    go (suc zero) h = cc
    go (suc (suc zero)) h = cc
    go (suc (suc (suc zero))) h = cc
    go (suc (suc (suc (suc zero)))) h = cc
    go (suc (suc (suc (suc (suc zero))))) h = cc
    go (suc (suc (suc (suc (suc (suc zero)))))) h = cc
    go (suc (suc (suc (suc (suc (suc (suc zero))))))) h = cc
    go (suc (suc (suc (suc (suc (suc (suc (suc zero)))))))) h = cc
    go (suc (suc (suc (suc (suc (suc (suc (suc (suc n))))))))) h = refl

module _ (l : Layout) (s : List ℕ) (k flags guest number exit : ℕ) (d effect u : List ℕ) (o : Option Kind) (p : o ≡ kind_of k) where
  abbrev given : ℕ → CallRecord
  given n = record { kind = n; flags = flags; guest = guest; number = number; exit = exit; «data» = d; effect = effect }

  abbrev Is : Called → Type 0
  Is x = x ≡ called l s (given k) u

  -- once the kind is known
  kind_is : (n : ℕ) (x : Called) → k ≡ n → x ≡ called l s (given n) u → Is x
  kind_is n x e q = q ∙ ap (λ (m : ℕ). called l s (given m) u) (sym e)

  module _ (r : Answer) (t : List ℕ) where
    abbrev filled : List ℕ → Outcome
    filled v = record { answer = r; store = t; buffer = v }

    abbrev lends : List ℕ → List ℕ → Called
    lends v w = record { answer = r; store = t; «data» = v; output = w }

    -- a call that writes neither piece
    writes_none : (x : Outcome) → filled [] ≡ x → lends d u ≡ wrote x d u
    writes_none x q = ap (λ (z : Outcome). wrote z d u) q

    pub call_get_capabilities : (y : Kind) → o ≡ Some y → y ≡ GetCapabilities → filled [] ≡ get_capabilities l s flags → Is (lends d u)
    unfolding called outcome
    call_get_capabilities y h e q = kind_is 1 _ (number_is k o p y h GetCapabilities e) (writes_none _ q)

    pub call_set_capabilities : (y : Kind) → o ≡ Some y → y ≡ SetCapabilities → filled [] ≡ set_capabilities l s flags number → Is (lends d u)
    unfolding called outcome
    call_set_capabilities y h e q = kind_is 2 _ (number_is k o p y h SetCapabilities e) (writes_none _ q)

    pub call_create_guest : (y : Kind) → o ≡ Some y → y ≡ CreateGuest → filled [] ≡ create_guest l s flags number → Is (lends d u)
    unfolding called outcome
    call_create_guest y h e q = kind_is 3 _ (number_is k o p y h CreateGuest e) (writes_none _ q)

    pub call_create_vcpu : (y : Kind) → o ≡ Some y → y ≡ CreateVcpu → filled [] ≡ create_vcpu l s flags guest number → Is (lends d u)
    unfolding called outcome
    call_create_vcpu y h e q = kind_is 4 _ (number_is k o p y h CreateVcpu e) (writes_none _ q)

    pub call_get_state : (v : List ℕ) → (y : Kind) → o ≡ Some y → y ≡ GetState → filled v ≡ get_state l s flags guest number d → Is (lends v u)
    unfolding called outcome
    call_get_state v y h e q = kind_is 5 _ (number_is k o p y h GetState e) (ap (λ (x : Outcome). wrote x x.buffer u) q)

    pub call_set_state : (y : Kind) → o ≡ Some y → y ≡ SetState → filled [] ≡ set_state l s flags guest number d → Is (lends d u)
    unfolding called outcome
    call_set_state y h e q = kind_is 6 _ (number_is k o p y h SetState e) (writes_none _ q)

    pub call_run : (v : List ℕ) → (y : Kind) → o ≡ Some y → y ≡ RunVcpu → filled v ≡ run_vcpu l s flags guest number d u effect exit → Is (lends d v)
    unfolding called outcome
    call_run v y h e q = kind_is 7 _ (number_is k o p y h RunVcpu e) (ap (λ (x : Outcome). wrote x d x.buffer) q)

    pub call_delete : (y : Kind) → o ≡ Some y → y ≡ DeleteGuest → filled [] ≡ delete_guest l s flags guest → Is (lends d u)
    unfolding called outcome
    call_delete y h e q = kind_is 8 _ (number_is k o p y h DeleteGuest e) (writes_none _ q)

  pub call_other : (r : Answer) → o ≡ None → r ≡ refusal (Record 0) → Is (lends r s d u)
  unfolding called
  call_other r n q =
      let none_is : call_of (given k) u ≡ none = past_eight _ _ _ _ _ _ _ _ _ k o p n in
      ap (λ (x : Answer). lends x s d u) q ∙ sym (ap (called_by l s d u) none_is)
