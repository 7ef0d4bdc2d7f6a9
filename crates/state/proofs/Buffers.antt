-- Set and get state, in the form of the code's needs. Assumes nothing.
use mathlib.Core.Path.{◌≡◌, refl, sym, ap, ap₂, ◌∙◌}
use mathlib.Core.Bool.{Bool, true, false, cond}
use mathlib.Core.List.{List, [], ◌++◌}
use Prim.Native.Nat.{ℕ, ◌+◌, ◌≤◌}
use native.Mathlib.Omega.{arith}
use lib.ListN.{length}
use Rattle.std.specs.Prelude.{Result, Ok, Err}
use Rattle.octets.specs.Bytes.{be}
use Rattle.answer.specs.declared.Answer.{Answer}
use Rattle.answer.specs.declared.Bad.{Bad}
use Rattle.answer.specs.declared.Place.{Place}
use Rattle.answer.specs.declared.Fault.{Fault}
use Rattle.answer.specs.declared.Fault.TheVariants.{Length, Element}
use Rattle.answer.specs.Refusals.{first_of}
use Rattle.rules.specs.declared.Usage.{Usage}
use Rattle.rules.specs.declared.Usage.TheVariants.{GuestGet, GuestSet, ThreadGet, ThreadSet, RunInput, Effect}
use Rattle.rules.specs.declared.Context.{Context}
use Rattle.elements.specs.declared.Offer.{Offer}
use Rattle.elements.specs.declared.Scope.TheVariants.{Guest}
use Rattle.elements.specs.Table.{position, below, table}
use Rattle.elements.specs.Later.{offer_of}
use Rattle.elements.specs.Right.{bytes_of}
use Rattle.rules.specs.Rules.{scope_for}
use Rattle.gsb.specs.declared.BadElement.{BadElement}
use Rattle.gsb.specs.Walk.{count_of, bad_length, first_bad, is_stopped, fault_of, Walked, stopped_at}
use Rattle.gsb.proofs.Walks.{long_enough}
use Rattle.store.specs.declared.Layout.{Layout}
use Rattle.store.specs.Layout.{layout_of, guest_bytes, slot_bytes, guest_at}
use Rattle.store.specs.Header.{header, capabilities_of}
use Rattle.store.proofs.Sizes.{sized_sound}
use Rattle.transfer.specs.Transfer.{applied, filled, AllReady}
use Rattle.transfer.proofs.Accepted.{ready_all}
use Rattle.admission.specs.Refusals.{Admission, Outcome, success, refusal, accept, refuse, decide, judgement, has_bit0}
use Rattle.admission.specs.Target.{target_tests, base_of, target_of}
use Rattle.state.specs.State.{context_of, buffer_tests, supported_bits, set_use, set_elements, get_use, fill_with, get_elements}
use Rattle.state.specs.Private.{buffer_good, set_at, get_at, bytes_for}
use Rattle.admission.proofs.Judging.{begin_refused, begin_admitted, all_refused, all_admitted}
use Rattle.admission.proofs.Targets.{target_judged, target_found}

-- ---- the context of a call on a guest
pub pvr_place : position Guest 0x0003 ≡ 0
unfolding position below table
pvr_place = refl

module _ (l : Layout) (s : List ℕ) (guest at : ℕ) (e : (at ≡ guest_at l guest) × (l.guests_at ≤ at) × (at + guest_bytes ≤ l.slots_at)) where
  pub context_inside : l ≡ layout_of s → length s ≡ (layout_of s).size → at + 4 ≤ length s
  context_inside d h = omega (arith, (sized_sound l s d).whole, e.2, ap (λ (x : Layout). x.size) d)

  pub context_is : (usage : Usage) (m : Layout) → l ≡ m → (c v : ℕ) (o : Offer) → c ≡ capabilities_of (header l s) → v ≡ be s at 4 → o ≡ offer_of v
      → record { usage = usage; capabilities = c; offer = o } ≡ context_of m s guest usage
  context_is usage m d c v o p q r =
      let there : at ≡ guest_at l guest + position Guest 0x0003 = omega (arith, e.0, pvr_place) in
      ap₂ (λ (x : ℕ) (f : Offer). record { usage = usage; capabilities = x; offer = f }) p (r ∙ ap offer_of (q ∙ ap (λ (n : ℕ). be s n 4) there))
      ∙ ap (λ (x : Layout). context_of x s guest usage) d

pub context_use : (l : Layout) (s : List ℕ) (guest : ℕ) (usage : Usage) (k : Context) → k ≡ context_of l s guest usage → k.usage ≡ usage
context_use l s guest usage k e = ap (λ (y : Context). y.usage) e

-- ---- the answers of `judge_buffer`
module _ (k : Context) (b : List ℕ) (t : Bool) (e : t ≡ bad_length b) where
  pub buffer_length : t ≡ true → Err Length ≡ buffer_good k b
  unfolding buffer_good
  buffer_length h = let m : bad_length b ≡ true = sym e ∙ h in sym (simp m)

  module _ (h : t ≡ false) (w : Walked) (q : w ≡ first_bad k b) where
    good_length : bad_length b ≡ false
    good_length = sym e ∙ h

    pub buffer_bad : (stop : BadElement) (f : Fault) → w ≡ Err stop → f ≡ Element stop.bad stop.place → Err f ≡ buffer_good k b
    unfolding buffer_good
    buffer_bad stop f d e = ap (λ (x : Fault). Err x) e ∙ sym (simp good_length (ap (λ (x : Walked). cond (is_stopped x) (Err (fault_of x)) (Ok tt)) (sym q ∙ d)))

    pub buffer_done : w ≡ Ok tt → Ok tt ≡ buffer_good k b
    unfolding buffer_good
    buffer_done d = sym (simp good_length (ap (λ (x : Walked). cond (is_stopped x) (Err (fault_of x)) (Ok tt)) (sym q ∙ d)))

-- ---- a buffer that was admitted can be moved
room_for : (u : Usage) → bytes_for u ≡ bytes_of (scope_for u)
room_for GuestGet = refl
room_for GuestSet = refl
room_for ThreadGet = refl
room_for ThreadSet = refl
room_for RunInput = refl
room_for Effect = refl

pub walk_done : (w : Walked) (f : Walked → Fault) → ◌≡◌ {A = Admission} (cond (is_stopped w) (Err (f w)) (Ok tt)) (Ok tt) → w ≡ Ok tt
walk_done (Ok _) f e = refl
walk_done (Err stop) f e = cc

pub good_buffer : (k : Context) (b : List ℕ) → judgement (buffer_tests k b) ≡ Ok tt → (bad_length b ≡ false) × (first_bad k b ≡ Ok tt)
good_buffer k b e = go (bad_length b) e
  where
    go : (t : Bool) → ◌≡◌ {A = Admission} (cond t (Err Length) (cond (is_stopped (first_bad k b)) (Err (fault_of (first_bad k b))) (Ok tt))) (Ok tt)
        → (t ≡ false) × (first_bad k b ≡ Ok tt)
    go true q = cc
    go false q = (refl, walk_done (first_bad k b) fault_of q)

pub ready_as : (k : Context) (base len : ℕ) (b : List ℕ) → first_bad k b ≡ Ok tt → base + bytes_for k.usage ≤ len → 4 ≤ length b → AllReady base b len
ready_as k base len b d room h = let r : base + bytes_of (scope_for k.usage) ≤ len = omega (arith, room_for k.usage) in ready_all k base len r b h d

module _ (k : Context) (b : List ℕ) (a : Admission) (q : a ≡ buffer_good k b) where
  judged : buffer_good k b ≡ judgement (buffer_tests k b)
  unfolding buffer_good
  judged = refl

  pub ready : (base len : ℕ) → base + bytes_for k.usage ≤ len → a ≡ Ok tt → AllReady base b len
  ready base len room d =
      let p = good_buffer k b (sym judged ∙ sym q ∙ d) in
      ready_as k base len b p.1 room (long_enough b (bad_length b) refl p.0)

  module _ (s : List ℕ) (base : ℕ) where
    pub set_bad : (f : Fault) → a ≡ Err f → ◌≡◌ {A = Outcome} (record { answer = refusal f; store = s; buffer = [] }) (set_at s base k b)
    unfolding set_at decide
    set_bad f d = sym (all_refused (refuse s []) (accept 0 (applied base b (count_of b) s)) (buffer_tests k b) f (sym judged ∙ sym q ∙ d))

    pub set_done : (u : List ℕ) → a ≡ Ok tt → u ≡ applied base b (count_of b) s → ◌≡◌ {A = Outcome} (record { answer = success 0; store = u; buffer = [] }) (set_at s base k b)
    unfolding set_at decide
    set_done u d g =
        ap (λ (y : List ℕ). record { answer = success 0; store = y; buffer = [] }) g
        ∙ sym (all_admitted (refuse s []) (accept 0 (applied base b (count_of b) s)) (buffer_tests k b) (sym judged ∙ sym q ∙ d))

    pub get_bad : (f : Fault) → a ≡ Err f → ◌≡◌ {A = Outcome} (record { answer = refusal f; store = s; buffer = b }) (get_at s base k b)
    unfolding get_at decide
    get_bad f d = sym (all_refused (refuse s b) (fill_with s base b) (buffer_tests k b) f (sym judged ∙ sym q ∙ d))

    pub get_done : (u : List ℕ) → a ≡ Ok tt → u ≡ filled base s b (count_of b) → ◌≡◌ {A = Outcome} (record { answer = success 0; store = s; buffer = u }) (get_at s base k b)
    unfolding get_at decide
    get_done u d g =
        ap (λ (y : List ℕ). record { answer = success 0; store = s; buffer = y }) g ∙ sym (all_admitted (refuse s b) (fill_with s base b) (buffer_tests k b) (sym judged ∙ sym q ∙ d))

-- ---- the calls, by their target
-- how many bytes the values of a target take
pub set_bytes : (wide : Bool) → bytes_for (set_use wide) ≡ cond wide guest_bytes slot_bytes
set_bytes true = refl
set_bytes false = refl

pub get_bytes : (wide : Bool) → bytes_for (get_use wide) ≡ cond wide guest_bytes slot_bytes
get_bytes true = refl
get_bytes false = refl

module _ (l : Layout) (s : List ℕ) (guest : ℕ) (wide : Bool) (u : Usage) (k : Context) (z : k ≡ context_of l s guest u) (base n : ℕ) (g : n ≡ l.size) (h : base + cond wide guest_bytes slot_bytes ≤ l.size) where
  used : bytes_for k.usage ≡ bytes_for u
  used = ap (λ (y : Context). bytes_for y.usage) z

  pub set_room : u ≡ set_use wide → base + bytes_for k.usage ≤ n
  set_room e = omega (arith, h, g, used, set_bytes wide, ap bytes_for e)

  pub get_room : u ≡ get_use wide → base + bytes_for k.usage ≤ n
  get_room e = omega (arith, h, g, used, get_bytes wide, ap bytes_for e)

pub element_bits : (l : Layout) (s : List ℕ) (flags : ℕ) (wide : Bool) (guest vcpu : ℕ) (a : Result ℕ Fault) (x : ℕ) → x ≡ supported_bits wide → a ≡ target_of l s x flags wide guest vcpu
    → a ≡ target_of l s (supported_bits wide) flags wide guest vcpu
element_bits l s flags wide guest vcpu a x m q = q ∙ ap (λ (y : ℕ). target_of l s y flags wide guest vcpu) m

module _ (l : Layout) (s : List ℕ) (flags : ℕ) (wide : Bool) (w : wide ≡ has_bit0 flags) (guest vcpu : ℕ) (b : List ℕ) (a : Result ℕ Fault) (q : a ≡ target_of l s (supported_bits wide) flags wide guest vcpu) where
  abbrev tests : List (Bool × Fault)
  tests = target_tests l s (supported_bits wide) flags wide guest vcpu

  set_as : decide s [] (tests ++ buffer_tests (context_of l s guest (set_use wide)) b) (accept 0 (applied (base_of l s wide guest vcpu) b (count_of b) s)) ≡ set_elements l s flags guest vcpu b
  unfolding set_elements
  set_as =
      ap (λ (t : Bool). decide s [] (target_tests l s (supported_bits t) flags t guest vcpu ++ buffer_tests (context_of l s guest (set_use t)) b) (accept 0 (applied (base_of l s t guest vcpu) b (count_of b) s))) w

  get_as : decide s b (tests ++ buffer_tests (context_of l s guest (get_use wide)) b) (fill_with s (base_of l s wide guest vcpu) b) ≡ get_elements l s flags guest vcpu b
  unfolding get_elements
  get_as =
      ap (λ (t : Bool). decide s b (target_tests l s (supported_bits t) flags t guest vcpu ++ buffer_tests (context_of l s guest (get_use t)) b) (fill_with s (base_of l s t guest vcpu) b)) w

  pub set_turned : (f : Fault) → a ≡ Err f → ◌≡◌ {A = Outcome} (record { answer = refusal f; store = s; buffer = [] }) (set_elements l s flags guest vcpu b)
  unfolding decide
  set_turned f h =
      sym (begin_refused (refuse s []) (accept 0 (applied (base_of l s wide guest vcpu) b (count_of b) s)) tests (buffer_tests (context_of l s guest (set_use wide)) b) f (target_judged l s (supported_bits wide) flags wide guest vcpu a q f h))
      ∙ set_as

  pub set_found : (r : Answer) (base : ℕ) (u : List ℕ) (usage : Usage) (k : Context) → a ≡ Ok base → usage ≡ set_use wide → k ≡ context_of l s guest usage → ◌≡◌ {A = Outcome} (record { answer = r; store = u; buffer = [] }) (set_at s base k b)
      → ◌≡◌ {A = Outcome} (record { answer = r; store = u; buffer = [] }) (set_elements l s flags guest vcpu b)
  unfolding set_at decide
  set_found r base u usage k h v z i =
      let p = target_found l s (supported_bits wide) flags wide guest vcpu a q base h in
      i ∙ ap₂ (λ (x : ℕ) (y : Context). first_of (refuse s []) (buffer_tests y b) (accept 0 (applied x b (count_of b) s))) (sym p.1) (z ∙ ap (context_of l s guest) v)
      ∙ sym (begin_admitted (refuse s []) (accept 0 (applied (base_of l s wide guest vcpu) b (count_of b) s)) tests (buffer_tests (context_of l s guest (set_use wide)) b) p.0) ∙ set_as

  pub get_turned : (f : Fault) → a ≡ Err f → ◌≡◌ {A = Outcome} (record { answer = refusal f; store = s; buffer = b }) (get_elements l s flags guest vcpu b)
  unfolding decide
  get_turned f h =
      sym (begin_refused (refuse s b) (fill_with s (base_of l s wide guest vcpu) b) tests (buffer_tests (context_of l s guest (get_use wide)) b) f (target_judged l s (supported_bits wide) flags wide guest vcpu a q f h)) ∙ get_as

  pub get_past : (base : ℕ) (usage : Usage) (k : Context) → a ≡ Ok base → usage ≡ get_use wide → k ≡ context_of l s guest usage → get_at s base k b ≡ get_elements l s flags guest vcpu b
  unfolding get_at decide
  get_past base usage k h v z =
      let p = target_found l s (supported_bits wide) flags wide guest vcpu a q base h in
      ap₂ (λ (x : ℕ) (y : Context). first_of (refuse s b) (buffer_tests y b) (fill_with s x b)) (sym p.1) (z ∙ ap (context_of l s guest) v)
      ∙ sym (begin_admitted (refuse s b) (fill_with s (base_of l s wide guest vcpu) b) tests (buffer_tests (context_of l s guest (get_use wide)) b) p.0) ∙ get_as

  pub get_found : (r : Answer) (base : ℕ) (u : List ℕ) (usage : Usage) (k : Context) → a ≡ Ok base → usage ≡ get_use wide → k ≡ context_of l s guest usage → ◌≡◌ {A = Outcome} (record { answer = r; store = s; buffer = u }) (get_at s base k b)
      → ◌≡◌ {A = Outcome} (record { answer = r; store = s; buffer = u }) (get_elements l s flags guest vcpu b)
  get_found r base u usage k h v z i = i ∙ get_past base usage k h v z
