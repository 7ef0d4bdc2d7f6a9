-- The laws of `judged`: nothing else opens it. Assumes nothing.
use mathlib.Core.Path.{◌≡◌, refl, sym, ap, ◌∙◌}
use mathlib.Core.Bool.{Bool, true, false, cond, not, or-true}
use mathlib.Core.List.{List, [], ◌∷◌}
use Prim.Native.Nat.{ℕ, ◌+◌, ◌-◌, ◌*◌, ◌^◌, ◌≤◌, ◌<◌}
use native.Mathlib.Omega.{arith}
use lib.Dec.{ltb}
use lib.ListN.{length}
use borrow.Author.Tests.{lt-ltb, le-ltb, ltb-false, not-false}
use Rattle.octets.specs.Bytes.{bytes_at, be}
use Rattle.octets.proofs.Numbers.{be_add}
use Rattle.answer.specs.declared.Bad.{Bad}
use Rattle.answer.specs.declared.Bad.TheVariants.{Id, Size, Value}
use Rattle.answer.specs.Refusals.{first_of}
use Rattle.elements.specs.declared.Offer.{Offer}
use Rattle.elements.specs.declared.Kind.{Kind}
use Rattle.elements.specs.declared.Kind.TheVariants.{Nop}
use Rattle.rules.specs.declared.Usage.{Usage}
use Rattle.rules.specs.declared.Context.{Context}
use Rattle.elements.specs.Table.{kind_of}
use Rattle.rules.specs.Rules.{permits, size_fits, is_setting, rule_of, good_value}
use Rattle.rules.proofs.Lists.{by}
use Rattle.rules.proofs.Alike.{value_alike}
use Rattle.gsb.specs.Walk.{id_at, size_at, next_at, judged, Verdict}
use Rattle.std.proofs.Common.{Ok, Err}

module _ (k : Context) (b : List ℕ) (at : ℕ) where
  -- a header that does not fit
  pub judged_header : at ≤ length b → length b - at < 4 → Err Size ≡ judged k b at
  unfolding judged
  judged_header h l =
      let t : length b < at + 4 = omega arith in
      simp (lt-ltb _ _ t)

  -- past the header, by what the code read and found
  module _ (id size : ℕ) (kind : Kind) (room : 4 ≤ length b - at) (i : id ≡ id_at b at) (s : size ≡ size_at b at) (t : kind ≡ kind_of id) where
    shape : judged k b at
        ≡ first_of Err
        ((not (permits k id kind), Id) ∷ (not (size_fits kind size), Size) ∷ (ltb (length b) (at + 4 + size), Size) ∷ (not (good_value k id b (at + 4)), Value) ∷ [])
        (Ok (at + 4 + size))
    unfolding judged
    shape =
        let h : at + 4 ≤ length b = omega arith in
        rw (t, i, s, le-ltb _ _ h)

    pub judged_id : (p : Bool) → p ≡ permits k id kind → not p ≡ true → Err Id ≡ judged k b at
    judged_id p e h =
        let n : not (permits k id kind) ≡ true = ap not (sym e) ∙ h in
        sym (shape ∙ simp n)

    module _ (p : Bool) (e : p ≡ permits k id kind) (h : not p ≡ false) where
      past_id : not (permits k id kind) ≡ false
      past_id = ap not (sym e) ∙ h

      pub judged_size : (q : Bool) → q ≡ size_fits kind size → not q ≡ true → Err Size ≡ judged k b at
      judged_size q f g =
          let n : not (size_fits kind size) ≡ true = ap not (sym f) ∙ g in
          sym (shape ∙ simp (past_id, n))

      module _ (q : Bool) (f : q ≡ size_fits kind size) (g : not q ≡ false) where
        past_size : not (size_fits kind size) ≡ false
        past_size = ap not (sym f) ∙ g

        pub judged_end : length b - at - 4 < size → Err Size ≡ judged k b at
        judged_end l =
            let z : length b < at + 4 + size = omega arith in
            sym (shape ∙ simp (past_id, past_size, lt-ltb _ _ z))

        module _ (l : size ≤ length b - at - 4) (v : Bool) (w : v ≡ good_value k id b (at + 4)) where
          past_end : ltb (length b) (at + 4 + size) ≡ false
          past_end = let z : at + 4 + size ≤ length b = omega arith in le-ltb _ _ z

          pub judged_value : not v ≡ true → Err Value ≡ judged k b at
          judged_value x =
              let n : not (good_value k id b (at + 4)) ≡ true = ap not (sym w) ∙ x in
              sym (shape ∙ simp (past_id, past_size, past_end, n))

          pub judged_good : not v ≡ false → Ok (at + 4 + size) ≡ judged k b at
          judged_good x =
              let n : not (good_value k id b (at + 4)) ≡ false = ap not (sym w) ∙ x in
              sym (shape ∙ simp (past_id, past_size, past_end, n))

-- what the value rule may count on
pub judged_fits : (id size : ℕ) (kind : Kind) (q : Bool) → kind ≡ kind_of id → q ≡ size_fits kind size → not q ≡ false → size_fits (kind_of id) size ≡ true
judged_fits id size kind q t f g = ap (λ (x : Kind). size_fits x size) (sym t) ∙ sym f ∙ not-false q g

-- an empty NOP, told by its four bytes of header
pub empty_parts : (b : List ℕ) (at w : ℕ) → w ≡ be b at 4 → w ≡ 0 → (id_at b at ≡ 0) × (size_at b at ≡ 0)
empty_parts b at w e z = let p : id_at b at * 256 ^ 2 + size_at b at ≡ 0 = sym (be_add b at 2 2) ∙ sym e ∙ z in (omega arith, omega arith)

pub nop : kind_of 0 ≡ Nop
unfolding kind_of
nop = refl

nop_value : (k : Context) (b : List ℕ) (at : ℕ) → good_value k 0 b at ≡ true
unfolding good_value rule_of
nop_value k b at = or-true (not (is_setting k.usage))

pub empty_good : (k : Context) (b : List ℕ) (at : ℕ) → 4 ≤ length b - at → id_at b at ≡ 0 → size_at b at ≡ 0
    → Ok (at + 4) ≡ judged k b at
unfolding permits size_fits
empty_good k b at room i s =
    let n : at + 4 ≡ at + 4 + 0 = omega arith in
    ap Ok n ∙ judged_good k b at 0 0 Nop room (sym i) (sym s) (sym nop) true refl refl true refl refl (omega arith) (good_value k 0 b (at + 4)) refl (ap not (nop_value k b (at + 4)))

pub judged_empty : (k : Context) (b : List ℕ) (at w : ℕ) → 4 ≤ length b - at → w ≡ be b at 4 → w ≡ 0 → Ok (at + 4) ≡ judged k b at
judged_empty k b at w room e z = let p = empty_parts b at w e z in empty_good k b at room p.0 p.1

-- ---- what a good element is
pub record GoodElement (k : Context) (b : List ℕ) (at : ℕ) : Type 0 where
  pub header : at + 4 ≤ length b
  pub permitted : permits k (id_at b at) (kind_of (id_at b at)) ≡ true
  pub sized : size_fits (kind_of (id_at b at)) (size_at b at) ≡ true
  pub inside : next_at b at ≤ length b
  pub value : good_value k (id_at b at) b (at + 4) ≡ true

faulty_good : (bad : Bad) (next : ℕ) → Err bad ≡ Ok next → ⊥
faulty_good bad next e = let z : ◌≡◌ {A = ℕ} 0 1 = cc in omega arith

-- a test that leads to a fault, where the verdict is good: it failed
pub passed : (t : Bool) (bad : Bad) (v : Verdict) (next : ℕ) → cond t (Err bad) v ≡ Ok next → (t ≡ false) × (v ≡ Ok next)
passed true bad v next e = absurd (faulty_good bad next e)
passed false bad v next e = (refl, e)

pub good_element : (k : Context) (b : List ℕ) (at next : ℕ) → judged k b at ≡ Ok next → GoodElement k b at × (next ≡ next_at b at)
unfolding judged
good_element k b at next e =
    let p = passed _ _ _ next e in
    let q = passed _ _ _ next p.1 in
    let r = passed _ _ _ next q.1 in
    let s = passed _ _ _ next r.1 in
    let t = passed _ _ _ next s.1 in (
      record {
        header = ltb-false _ _ p.0;
        permitted = not-false _ q.0;
        sized = not-false _ r.0;
        inside = ltb-false _ _ s.0;
        value = not-false _ t.0;
      },
      cc t.1,
    )

-- the next element starts inside: what the walk goes on with
pub good_inside : (k : Context) (b : List ℕ) (at next : ℕ) (v : Verdict) → v ≡ judged k b at → v ≡ Ok next → next ≤ length b
good_inside k b at next v j g =
    let p = good_element k b at next (sym j ∙ g) in
    omega (arith, p.0.inside, p.1)

-- ---- an element is judged alike
-- by two lists that permit the same
pub judged_lists : (usage : Usage) (c : ℕ) (o p : Offer) → ((id : ℕ) → permits (by usage c o) id (kind_of id) ≡ permits (by usage c p) id (kind_of id))
    → (b : List ℕ) (at : ℕ) → judged (by usage c o) b at ≡ judged (by usage c p) b at
unfolding judged good_value
judged_lists usage c o p same b at =
    ap (λ (t : Bool). first_of Err
    ((ltb (length b) (at + 4), Size)
    ∷ (not t, Id)
    ∷ (not (size_fits (kind_of (id_at b at)) (size_at b at)), Size)
    ∷ (ltb (length b) (next_at b at), Size)
    ∷ (not (good_value (by usage c o) (id_at b at) b (at + 4)), Value)
    ∷ [])
    (Ok (next_at b at))) (same (id_at b at))

-- a good one is good where its bytes stand in another buffer
pub good_there : (k : Context) (j : List ℕ) (to : ℕ) (b : List ℕ) (at : ℕ) → GoodElement k b at → id_at j to ≡ id_at b at → size_at j to ≡ size_at b at
    → bytes_at j (to + 4) (size_at j to) ≡ bytes_at b (at + 4) (size_at b at) → next_at j to ≤ length j → judged k j to ≡ Ok (next_at j to)
good_there k j to b at g i s v h =
    sym (judged_good k j to (id_at b at) (size_at j to) (kind_of (id_at b at)) (omega arith) (sym i) refl refl
    true (sym g.permitted) refl true (sym fits) refl (omega arith) true (sym value) refl)
  where
    fits : size_fits (kind_of (id_at b at)) (size_at j to) ≡ true
    fits = ap (size_fits (kind_of (id_at b at))) s ∙ g.sized

    value : good_value k (id_at b at) j (to + 4) ≡ true
    value = value_alike k (id_at b at) j (to + 4) b (at + 4) (size_at j to) (v ∙ ap (bytes_at b (at + 4)) (sym s)) fits ∙ g.value
