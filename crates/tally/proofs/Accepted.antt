-- An answer of 0 says that every test was passed; what that tells of a set's buffer, and of a run's input and exit reason. A store of another
-- length is answered 1. Assumes nothing.
use mathlib.Core.Path.{◌≡◌, refl, sym, ap, ◌∙◌}
use mathlib.Core.Bool.{Bool, true, false, not, ◌&&◌, ◌||◌, cond}
use mathlib.Core.List.{List, [], ◌∷◌, ◌++◌}
use Prim.Native.Nat.{ℕ, ◌^◌, ◌<◌, ◌≤◌}
use native.Mathlib.Omega.{arith}
use borrow.Author.Tests.{ltb-false, leb-false, eqb-true, not-false, ne_eqb}
use lib.Dec.{eqb}
use lib.ListN.{length}
use Rattle.octets.proofs.Bytes.{length_bytes_at}
use Rattle.answer.specs.declared.Answer.{Answer}
use Rattle.answer.specs.declared.Bad.{Bad}
use Rattle.answer.specs.declared.Bad.TheVariants.{Id, Size, Value}
use Rattle.answer.specs.declared.Call.{Call as Name}
use Rattle.answer.specs.declared.Fault.{Fault}
use Rattle.answer.specs.declared.Fault.TheVariants.{Store, Element}
use Rattle.answer.specs.Answer.{told}
use Rattle.answer.specs.Refusals.{first_of}
use Rattle.rules.specs.declared.Context.{Context}
use Rattle.rules.specs.declared.Usage.TheVariants.{RunInput, Effect as InEffect}
use Rattle.gsb.specs.Walk.{first_bad, is_stopped, fault_of, Walked}
use Rattle.store.specs.declared.Layout.{Layout}
use Rattle.store.specs.Layout.{Sound}
use Rattle.store.specs.Header.{header, head_good, words_good}
use Rattle.store.specs.Store.{well_formed}
use Rattle.admission.specs.Refusals.{Outcome, refuse, refusal, decide, Passed, has_bit0, hands_over}
use Rattle.admission.specs.Target.{target_tests, base_of, slot_named}
use Rattle.exits.specs.Exits.{exits, is_among, known}
use Rattle.state.specs.State.{context_of, buffer_tests, set_use, supported_bits, set_elements, set_state, get_elements, get_state}
use Rattle.state.specs.HandOver.{take_vcpu, give_vcpu}
use Rattle.state.specs.Private.{bytes_for}
use Rattle.state.proofs.Buffers.{ready_as}
use Rattle.run.specs.Run.{input_size, input_of, lent_tests, effect_fault, exit_tests, content_tests, run_target_tests, run_bits, run_vcpu}
use Rattle.run.proofs.Runs.{run_found, stopped_not}
use Rattle.guests.specs.Guests.{create_vcpu, delete_guest}
use Rattle.tally.specs.Tally.{all_set}
use Rattle.tally.specs.Private.{set_in}
use Rattle.tally.proofs.Counted.{all_set_lem}
use Rattle.std.proofs.Common.{Ok, Err}

-- ---- lists of tests
passed_left : (xs ys : List (Bool × Fault)) → Passed (xs ++ ys) → Passed xs
passed_left [] ys p = tt
passed_left (x ∷ xs) ys p = (p.0, passed_left xs ys p.1)

passed_right : (xs ys : List (Bool × Fault)) → Passed (xs ++ ys) → Passed ys
passed_right [] ys p = p
passed_right (x ∷ xs) ys p = passed_right xs ys p.1

no_one : false ≡ true → ⊥
no_one e = let z : ◌≡◌ {A = ℕ} 0 1 = cc in omega arith

module _ (c : Name) where
  abbrev r3 : Answer → ℕ
  r3 a = (told c a.fault a.value).r3

  -- a test's fault, where it holds, is not told as 0
  abbrev Real : List (Bool × Fault) → Type 0
  Real [] = Unit {0}
  Real (x ∷ xs) = (x.0 ≡ true → (told c x.1 0).r3 ≡ 0 → ⊥) × Real xs

  real_append : (xs ys : List (Bool × Fault)) → Real xs → Real ys → Real (xs ++ ys)
  real_append [] ys p q = q
  real_append (x ∷ xs) ys p q = (p.0, real_append xs ys p.1 q)

  passed : (s b : List ℕ) (xs : List (Bool × Fault)) (o : Outcome) → Real xs → r3 (first_of (refuse s b) xs o).answer ≡ 0 → Passed xs
  passed s b [] o r e = tt
  passed s b (x ∷ xs) o r e = go x.0 r.0 e (passed s b xs o r.1)
    where
      go : (t : Bool) → (t ≡ true → (told c x.1 0).r3 ≡ 0 → ⊥) → r3 (cond t (refuse s b x.1) (first_of (refuse s b) xs o)).answer ≡ 0
          → (r3 (first_of (refuse s b) xs o).answer ≡ 0 → Passed xs) → (t ≡ false) × Passed xs
      go true n q ih = absurd (n refl q)
      go false n q ih = (refl, ih q)

  real_element : (w : Walked) → is_stopped w ≡ true → (told c (fault_of w) 0).r3 ≡ 0 → ⊥
  real_element (Ok _) e q = no_one e
  real_element (Err stop) e q = go stop.bad q
    where
      go : (bad : Bad) → (told c (Element bad stop.place) 0).r3 ≡ 0 → ⊥
      go Id h = omega (arith, h)
      go Size h = omega (arith, h)
      go Value h = omega (arith, h)

  real_effect : (w : Walked) → is_stopped w ≡ true → (told c (effect_fault w) 0).r3 ≡ 0 → ⊥
  real_effect (Ok _) e q = no_one e
  real_effect (Err stop) e q = omega (arith, q)

  real_target : (l : Layout) (s : List ℕ) (supported flags : ℕ) (wide : Bool) (guest vcpu : ℕ) → Real (target_tests l s supported flags wide guest vcpu)
  real_target l s supported flags wide guest vcpu =
      (λ t e. omega (arith, e), (λ t e. omega (arith, e), (λ t e. omega (arith, e), (λ t e. omega (arith, e), (λ t e. omega (arith, e), tt)))))

  real_buffer : (k : Context) (b : List ℕ) → Real (buffer_tests k b)
  real_buffer k b = (λ t e. omega (arith, e), (real_element (first_bad k b), tt))

  real_lent : (s : List ℕ) (base need i o : ℕ) → Real (lent_tests s base need i o)
  real_lent s base need i o = (λ t e. omega (arith, e), (λ t e. omega (arith, e), (λ t e. omega (arith, e), (λ t e. omega (arith, e), tt))))

  real_exit : (k : Context) (effect : List ℕ) (exit : ℕ) → Real (exit_tests k effect exit)
  real_exit k effect exit = (λ t e. omega (arith, e), (λ t e. omega (arith, e), (real_effect (first_bad k effect), tt)))

-- ---- a buffer that was walked to its end
walked_set : (k : Context) (b : List ℕ) → is_stopped (first_bad k b) ≡ false → 4 ≤ length b → set_in b ≡ all_set b
walked_set k b d w =
    let ready = ready_as k 0 (bytes_for k.usage) b (stopped_not _ d) (omega arith) w in
    all_set_lem b w (λ i h. (ready.each i h).header)

or_false : (a b : Bool) → (a || b) ≡ false → a ≡ false
or_false true b e = e
or_false false b e = refl

-- ---- set state
module _ (c : Name) (l : Layout) (s : List ℕ) (flags guest vcpu : ℕ) (b : List ℕ) where
  elements_accepted : r3 c (set_elements l s flags guest vcpu b).answer ≡ 0 → set_in b ≡ all_set b
  unfolding set_elements decide
  elements_accepted e =
      let wide = has_bit0 flags in
      let k = context_of l s guest (set_use wide) in
      let xs = target_tests l s (supported_bits wide) flags wide guest vcpu in
      let p = passed_right xs (buffer_tests k b) (passed c s [] (xs ++ buffer_tests k b) _ (real_append c xs (buffer_tests k b) (real_target c l s (supported_bits wide) flags wide guest vcpu) (real_buffer c k b)) e) in
      walked_set k b p.1.0 (ltb-false _ _ (or_false _ _ p.0))

  pub set_accepted : hands_over flags ≡ false → r3 c (set_state l s flags guest vcpu b).answer ≡ 0 → set_in b ≡ all_set b
  unfolding set_state
  set_accepted n e = elements_accepted (ap (λ (x : Bool). r3 c (cond x (give_vcpu l s guest vcpu b) (set_elements l s flags guest vcpu b)).answer) (sym n) ∙ e)

-- ---- run
abbrev Below : List (ℕ × List ℕ) → Type 0
Below [] = Unit {0}
Below (x ∷ xs) = (x.0 < 2 ^ 32) × Below xs

among_lt : (xs : List (ℕ × List ℕ)) (exit : ℕ) → Below xs → is_among xs exit ≡ true → exit < 2 ^ 32
unfolding is_among
among_lt [] exit p e = absurd (no_one e)
among_lt (x ∷ xs) exit p e = go (eqb x.0 exit) refl e (among_lt xs exit p.1)
  where
    go : (t : Bool) → eqb x.0 exit ≡ t → (t || is_among xs exit) ≡ true → (is_among xs exit ≡ true → exit < 2 ^ 32) → exit < 2 ^ 32
    go true f q ih = omega (arith, eqb-true x.0 exit f, p.0)
    go false f q ih = ih q

known_lt : (exit : ℕ) → known exit ≡ true → exit < 2 ^ 32
unfolding exits
known_lt exit e = among_lt exits exit (omega arith, (omega arith, (omega arith, (omega arith, (omega arith, (omega arith, (omega arith, tt))))))) e

-- what an accepted run tells of its input, whose registered size is n
pub record Ran (l : Layout) (s : List ℕ) (guest vcpu n : ℕ) (input : List ℕ) (exit : ℕ) : Type 0 where
  pub long : length s ≡ l.size
  pub here : slot_named l s guest vcpu < l.slots
  pub lent : n ≤ length input
  pub counted : set_in (input_of s (base_of l s false guest vcpu) input) ≡ all_set (input_of s (base_of l s false guest vcpu) input)
  pub small : exit < 2 ^ 32

module _ (c : Name) (l : Layout) (so : Sound l) (s : List ℕ) (flags guest vcpu : ℕ) (input output effect : List ℕ) (exit : ℕ) where
  abbrev base : ℕ
  base = base_of l s false guest vcpu

  abbrev part : List ℕ
  part = input_of s base input

  abbrev early : List (Bool × Fault)
  early = run_target_tests l s flags guest vcpu 0 (length input) (length output)

  abbrev late : List (Bool × Fault)
  late = content_tests l s guest part effect exit

  real_early : Real c early
  real_early = real_append c (target_tests l s run_bits flags false guest vcpu) (lent_tests s base 0 (length input) (length output)) (real_target c l s run_bits flags false guest vcpu) (real_lent c s base 0 (length input) (length output))

  real_late : Real c late
  real_late = (real_element c (first_bad (context_of l s guest RunInput) part), real_exit c (context_of l s guest InEffect) effect exit)

  pub run_accepted : r3 c (run_vcpu l s flags guest vcpu input output effect exit).answer ≡ 0 → Ran l s guest vcpu (input_size s base) input exit
  unfolding run_vcpu decide
  run_accepted e =
      let p = passed c s output (early ++ late) _ (real_append c early late real_early real_late) e in
      let first = passed_left early late p in
      let found = run_found l so s flags guest vcpu 0 (length input) (length output) first in
      let q = passed_right early late p in
      let w : 4 ≤ length part = omega (arith, found.some, length_bytes_at input 0 (input_size s base) (omega (arith, found.lent))) in
      record {
        long = found.long;
        here = leb-false _ _ first.1.1.1.0;
        lent = found.lent;
        counted = walked_set (context_of l s guest RunInput) part q.0 w;
        small = known_lt exit (not-false _ q.1.0);
      }

-- ---- a store of another length
module _ (l : Layout) (s : List ℕ) (n : length s ≡ l.size → ⊥) where
  ill_formed : well_formed l s ≡ false
  unfolding well_formed
  ill_formed = ap (λ (b : Bool). b && (head_good l (header l s) && words_good l (header l s))) (ne_eqb _ _ n)

  abbrev IsStore : Outcome → Type 0
  IsStore o = o.answer ≡ refusal Store

  first_store : (b : List ℕ) (rest : Outcome) → IsStore (cond (not (well_formed l s)) (refuse s b Store) rest)
  first_store b rest = ap (λ (x : Bool). (cond (not x) (refuse s b Store) rest).answer) ill_formed

  either : (b : Bool) (x y : Outcome) → IsStore x → IsStore y → IsStore (cond b x y)
  either true x y p q = p
  either false x y p q = q

  module _ (flags guest vcpu : ℕ) where
    pub no_create : IsStore (create_vcpu l s flags guest vcpu)
    unfolding create_vcpu decide
    no_create = first_store [] _

    pub no_delete : IsStore (delete_guest l s flags guest)
    unfolding delete_guest decide
    no_delete = first_store [] _

    module _ (b : List ℕ) where
      no_take : IsStore (take_vcpu l s guest vcpu b)
      unfolding take_vcpu decide
      no_take = first_store b _

      no_give : IsStore (give_vcpu l s guest vcpu b)
      unfolding give_vcpu decide
      no_give = first_store [] _

      no_get_elements : IsStore (get_elements l s flags guest vcpu b)
      unfolding get_elements decide
      no_get_elements = first_store b _

      no_set_elements : IsStore (set_elements l s flags guest vcpu b)
      unfolding set_elements decide
      no_set_elements = first_store [] _

      pub no_get : IsStore (get_state l s flags guest vcpu b)
      unfolding get_state
      no_get = either (hands_over flags) _ _ no_take no_get_elements

      pub no_set : IsStore (set_state l s flags guest vcpu b)
      unfolding set_state
      no_set = either (hands_over flags) _ _ no_give no_set_elements

      pub no_run : (output effect : List ℕ) (exit : ℕ) → IsStore (run_vcpu l s flags guest vcpu b output effect exit)
      unfolding run_vcpu decide
      no_run output effect exit = first_store output _
