-- What a call makes of a record, test by test, in the form of the needs. Assumes nothing.
use mathlib.Core.Path.{◌≡◌, sym, ap, ap₂, ◌∙◌}
use mathlib.Core.Bool.{Bool, ◌&&◌, cond, true, false}
use Prim.Native.Nat.{ℕ, ◌+◌, ◌-◌, ◌%◌, ◌^◌, ◌<◌, ◌≤◌}
use native.Mathlib.Omega.{arith}
use borrow.Author.Tests.{le-leb, lt-leb, eq-eqb, ne_eqb}
use lib.Dec.{leb, eqb}
use Rattle.answer.specs.declared.Answer.{Answer}
use Rattle.answer.specs.declared.Call.{Call as Name}
use Rattle.answer.specs.declared.Registers.{Registers}
use Rattle.answer.specs.Answer.{told}
use Rattle.l0.specs.Numbered.{kind_name}
use Rattle.admission.specs.Refusals.{has_bit0}
use Rattle.tally.specs.declared.Summary.{Summary}
use Rattle.tally.specs.declared.Change.{Change}
use Rattle.tally.specs.declared.Change.TheVariants.{Nothing, Renewed, Set, Ran, Refused}
use Rattle.tally.specs.Tally.{new_record, plus, changed, refused_by, on_success, r3_of}
use Rattle.tally.specs.Private.{after, get_change, set_change, run_change}

-- ---- a counter
pub plus_full : (n k : ℕ) → 4294967295 - n < k → n < 2 ^ 32 → 4294967295 ≡ plus n k
unfolding plus
plus_full n k h f = sym (ap (λ (b : Bool). cond b (n + k) (2 ^ 32 - 1)) (lt-leb (n + k) (2 ^ 32 - 1) (omega arith)))

pub plus_fits : (n k : ℕ) → k ≤ 4294967295 - n → n < 2 ^ 32 → n + k ≡ plus n k
unfolding plus
plus_fits n k h f = sym (ap (λ (b : Bool). cond b (n + k) (2 ^ 32 - 1)) (le-leb (n + k) (2 ^ 32 - 1) (omega arith)))

-- ---- a record
module _ (t : Summary) (c : Change) where
  pub renewed_is : c ≡ Renewed → new_record ≡ changed c t
  renewed_is e = ap (λ (x : Change). changed x t) (sym e)

  pub set_is : (n m : ℕ) → c ≡ Set n → m ≡ plus t.elements n
      → ◌≡◌ {A = Summary} (record { runs = t.runs; elements = m; refusals = t.refusals; exit_reason = t.exit_reason }) (changed c t)
  set_is n m e p = ap (λ (x : ℕ). record { runs = t.runs; elements = x; refusals = t.refusals; exit_reason = t.exit_reason }) p ∙ ap (λ (x : Change). changed x t) (sym e)

  pub ran_is : (n exit m k : ℕ) → c ≡ Ran n exit → k ≡ plus t.runs 1 → m ≡ plus t.elements n
      → ◌≡◌ {A = Summary} (record { runs = k; elements = m; refusals = t.refusals; exit_reason = exit }) (changed c t)
  ran_is n exit m k e p q = ap₂ (λ (y x : ℕ). record { runs = y; elements = x; refusals = t.refusals; exit_reason = exit }) p q ∙ ap (λ (x : Change). changed x t) (sym e)

  pub refused_is : (m : ℕ) → c ≡ Refused → m ≡ plus t.refusals 1
      → ◌≡◌ {A = Summary} (record { runs = t.runs; elements = t.elements; refusals = m; exit_reason = t.exit_reason }) (changed c t)
  refused_is m e p = ap (λ (x : ℕ). record { runs = t.runs; elements = t.elements; refusals = x; exit_reason = t.exit_reason }) p ∙ ap (λ (x : Change). changed x t) (sym e)

  pub after_touched : (left : ℕ) (r : Summary) → left % 2 ≡ 1 → r ≡ changed c t → r ≡ after left c t
  after_touched left r e q = q ∙ sym (ap (λ (b : Bool). cond b (changed c t) t) (eq-eqb _ _ e))

  pub after_other : (left : ℕ) → (left % 2 ≡ 1 → ⊥) → t ≡ after left c t
  after_other left n = sym (ap (λ (b : Bool). cond b (changed c t) t) (ne_eqb _ _ n))

-- ---- by R3
pub r3_is : (kind : ℕ) (a : Answer) (c : Name) (t : Registers) → c ≡ kind_name kind → t ≡ told c a.fault a.value → t.r3 ≡ r3_of kind a
r3_is kind a c t e q = ap (λ (x : Registers). x.r3) q ∙ ap (λ (x : Name). (told x a.fault a.value).r3) e

module _ (r3 : ℕ) where
  pub refused_low : r3 < 6 → Nothing ≡ refused_by r3
  refused_low h = sym (ap (λ (b : Bool). cond (b && leb r3 8) Refused Nothing) (lt-leb 6 r3 h))

  pub refused_high : 6 ≤ r3 → 8 < r3 → Nothing ≡ refused_by r3
  refused_high h k = sym (ap₂ (λ (a b : Bool). cond (a && b) Refused Nothing) (le-leb 6 r3 h) (lt-leb r3 8 k))

  pub refused_in : 6 ≤ r3 → r3 ≤ 8 → Refused ≡ refused_by r3
  refused_in h k = sym (ap₂ (λ (a b : Bool). cond (a && b) Refused Nothing) (le-leb 6 r3 h) (le-leb r3 8 k))

  pub success_is : (c d : Change) → r3 ≡ 0 → c ≡ on_success r3 c d
  success_is c d e = sym (ap (λ (b : Bool). cond b c d) (eq-eqb _ _ e))

  pub success_not : (c d : Change) → (r3 ≡ 0 → ⊥) → d ≡ on_success r3 c d
  success_not c d n = sym (ap (λ (b : Bool). cond b c d) (ne_eqb _ _ n))

  module _ (flags : ℕ) where
    pub get_wide : (w : Bool) → w ≡ has_bit0 flags → w ≡ true → Nothing ≡ get_change flags r3
    get_wide w p e = sym (ap (λ (b : Bool). cond b Nothing (refused_by r3)) (sym p ∙ e))

    pub get_thread_lem : (r : Change) (w : Bool) → w ≡ has_bit0 flags → w ≡ false → r ≡ refused_by r3 → r ≡ get_change flags r3
    get_thread_lem r w p n q = q ∙ sym (ap (λ (b : Bool). cond b Nothing (refused_by r3)) (sym p ∙ n))

    module _ (m : ℕ) where
      pub set_wide : (w : Bool) → w ≡ has_bit0 flags → w ≡ true → Nothing ≡ set_change flags r3 m
      set_wide w p e = sym (ap (λ (b : Bool). cond b Nothing (on_success r3 (cond (eqb flags (2 ^ 62)) Nothing (Set m)) (refused_by r3))) (sym p ∙ e))

      module _ (w : Bool) (p : w ≡ has_bit0 flags) (n : w ≡ false) where
        past : on_success r3 (cond (eqb flags (2 ^ 62)) Nothing (Set m)) (refused_by r3) ≡ set_change flags r3 m
        past = sym (ap (λ (b : Bool). cond b Nothing (on_success r3 (cond (eqb flags (2 ^ 62)) Nothing (Set m)) (refused_by r3))) (sym p ∙ n))

        pub set_refused : (r : Change) → (r3 ≡ 0 → ⊥) → r ≡ refused_by r3 → r ≡ set_change flags r3 m
        set_refused r z q = q ∙ success_not _ _ z ∙ past

        pub set_handed : r3 ≡ 0 → flags ≡ 2 ^ 62 → Nothing ≡ set_change flags r3 m
        set_handed z e = sym (ap (λ (b : Bool). cond b Nothing (Set m)) (eq-eqb _ _ e)) ∙ success_is _ (refused_by r3) z ∙ past

        pub set_accepted : (k : ℕ) → r3 ≡ 0 → (flags ≡ 2 ^ 62 → ⊥) → k ≡ m → Set k ≡ set_change flags r3 m
        set_accepted k z h e = ap Set e ∙ sym (ap (λ (b : Bool). cond b Nothing (Set m)) (ne_eqb _ _ h)) ∙ success_is _ (refused_by r3) z ∙ past

  module _ (m exit : ℕ) where
    pub run_refused : (r : Change) → (r3 ≡ 0 → ⊥) → r ≡ refused_by r3 → r ≡ run_change r3 m exit
    run_refused r z q = q ∙ success_not _ _ z

    pub run_accepted : (k : ℕ) → r3 ≡ 0 → k ≡ m → Ran k exit ≡ run_change r3 m exit
    run_accepted k z e = ap (λ (x : ℕ). Ran x exit) e ∙ success_is _ (refused_by r3) z
