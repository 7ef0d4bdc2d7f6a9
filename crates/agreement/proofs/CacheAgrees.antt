-- THEOREM `cache_agrees`, which is demand 3 whole: for every list of operations, the L1 with a cache and the plain L1 agree, on a
-- store of any sound layout. THEOREM `except_only`: what it leaves out of the comparison. Assumes nothing.
use mathlib.Core.Path.{◌≡◌, refl, sym, ap, ◌∙◌, subst}
use mathlib.Core.Bool.{Bool, true, false, cond}
use mathlib.Core.List.{List, [], ◌∷◌}
use Prim.Native.Nat.{ℕ, ◌≤◌, ◌<◌}
use borrow.Author.Tests.{leb-true, eqb-true}
use Rattle.answer.specs.declared.Registers.{Registers}
use Rattle.answer.specs.Answer.{three}
use Rattle.rules.specs.Rules.{good_input, good_output}
use Rattle.store.specs.declared.Layout.{Layout}
use Rattle.store.specs.Layout.{Sound, small, large}
use Rattle.store.specs.Header.{header, slot_of}
use Rattle.store.proofs.Search.{both}
use Rattle.store.proofs.Sizes.{sound_small, sound_large}
use Rattle.run.specs.Run.{input_size, output_size}
use Rattle.l1.specs.Marks.{Cache}
use Rattle.agreement.specs.Agree.{Op, Write, Read, Run, Other, is_excepted, as_cached, Cached, cached_turn, plain_turn, since, Agree, Allowed, Start}
use Rattle.agreement.proofs.Ours.{Ours, ours_base}
use Rattle.agreement.proofs.Invariant.{Inv, Goes, write_turn}
use Rattle.agreement.proofs.ReadTurn.{read_turn}
use Rattle.agreement.proofs.RunTurn.{run_turn}
use Rattle.agreement.proofs.OtherTurn.{other_turn}
use Rattle.agreement.proofs.Refresh.{empty_inv}

-- 02, L4: "demand 3 compares R4 and R5 except that ..": R3 and R4 are always the same, and so is R5 but where it is 4 in 6, 7 or 8
pub except_only : (r : Registers) → ((as_cached r).r3 ≡ r.r3) × ((as_cached r).r4 ≡ r.r4) × (((6 ≤ r.r3) × (r.r3 ≤ 8) × (r.r5 ≡ 4) → ⊥) → (as_cached r).r5 ≡ r.r5)
except_only r = go (is_excepted r) (λ e. let h = both _ _ e in let k = both _ _ h.0 in (leb-true _ _ k.0, leb-true _ _ k.1, eqb-true _ _ h.1))
  where
    go : (t : Bool) → (t ≡ true → (6 ≤ r.r3) × (r.r3 ≤ 8) × (r.r5 ≡ 4))
        → ((cond t (three r.r3 r.r4 0) r).r3 ≡ r.r3) × ((cond t (three r.r3 r.r4 0) r).r4 ≡ r.r4)
        × (((6 ≤ r.r3) × (r.r3 ≤ 8) × (r.r5 ≡ 4) → ⊥) → (cond t (three r.r3 r.r4 0) r).r5 ≡ r.r5)
    go true h = (refl, refl, λ n. absurd (n (h refl)))
    go false h = (refl, refl, λ n. refl)

module _ (l : Layout) (so : Sound l) (g v j : ℕ) (below : j < l.slots) (pvr : ℕ) where
  -- one operation, whatever it is
  turn : (o : Op) (os : List Op) → Allowed g (o ∷ os) → (b : Cached) (p : List ℕ) (ws : List (ℕ × List ℕ)) → Inv l so g v j below pvr b p ws
      → Goes l so g v j below pvr b o ws (cached_turn l g v pvr o b) (plain_turn l g v o p) × Allowed g os
  turn (Write id w) os a b p ws i = (write_turn l so g v j below pvr b p ws i id w a.0, a.1)
  turn (Read id w) os a b p ws i = (read_turn l so g v j below pvr b p ws i id w a.0, a.1)
  turn (Run flags input output effect exit) os a b p ws i = (run_turn l so g v j below pvr flags input output effect exit b p ws i, a)
  turn (Other c) os a b p ws i = (other_turn l so g v j below pvr c a.0 b p ws i, a.1)

  -- and so the whole list
  agree : (os : List Op) → Allowed g os → (b : Cached) (p : List ℕ) (ws : List (ℕ × List ℕ)) → Inv l so g v j below pvr b p ws → Agree l g v pvr os ws b p
  agree [] a b p ws i = tt
  agree (o ∷ os) a b p ws i =
      let t = turn o os a b p ws i in
      (t.0.same, agree os t.1 (cached_turn l g v pvr o b).next (plain_turn l g v o p).next (since o (plain_turn l g v o p).shown.answer ws) t.0.next)

-- of any layout
pub cache_agrees : (l : Layout) → Sound l → (guest vcpu pvr : ℕ) (s : List ℕ) (c : Cache) → Start l guest vcpu pvr s c → (os : List Op) → Allowed guest os
    → Agree l guest vcpu pvr os [] (record { cache = c; store = s }) s
cache_agrees l so guest vcpu pvr s c st os a =
    let j = slot_of l (header l s) guest vcpu in
    let o : Ours l so guest vcpu j st.live pvr s = record { good = st.formed; slot = refl; here = st.here; told = st.told } in
    let e = ours_base l so guest vcpu j st.live pvr s o in
    agree l so guest vcpu j st.live pvr os a (record { cache = c; store = s }) s []
    (subst (λ (m : List ℕ). Inv l so guest vcpu j st.live pvr (record { cache = record { values = c.values; marks = m }; store = s }) s []) (sym st.empty)
    (empty_inv l so guest vcpu j st.live pvr s o
    (ap (λ (x : ℕ). good_input (input_size s x)) (sym e) ∙ st.input)
    (subst (λ (x : ℕ). 2424 ≤ input_size s x) e st.wide)
    (ap (λ (x : ℕ). good_output (output_size s x)) (sym e) ∙ st.output) c.values st.values))

-- of a store of either size
pub cache_agrees_small : (guest vcpu pvr : ℕ) (s : List ℕ) (c : Cache) → Start small guest vcpu pvr s c → (os : List Op) → Allowed guest os
    → Agree small guest vcpu pvr os [] (record { cache = c; store = s }) s
cache_agrees_small = cache_agrees small sound_small

pub cache_agrees_large : (guest vcpu pvr : ℕ) (s : List ℕ) (c : Cache) → Start large guest vcpu pvr s c → (os : List Op) → Allowed guest os
    → Agree large guest vcpu pvr os [] (record { cache = c; store = s }) s
cache_agrees_large = cache_agrees large sound_large
