-- The registers that are judged by one number, their size above their ID. Assumes nothing.
use mathlib.Core.Path.{◌≡◌, refl, sym, ap, ap₂, ◌∙◌}
use mathlib.Core.Bool.{Bool, true, false, cond, ◌&&◌, false≢true}
use mathlib.Core.List.{List}
use Prim.Native.Nat.{ℕ, ◌+◌, ◌-◌, ◌*◌, ◌%◌, ◌^◌, ◌≤◌, ◌<◌}
use native.Mathlib.Omega.{arith}
use lib.Dec.{leb}
use lib.ListN.{length}
use borrow.Author.Tests.{leb-true, eq-eqb}
use Rattle.elements.specs.declared.Access.{Access}
use Rattle.elements.specs.declared.Offer.{Offer}
use Rattle.elements.specs.declared.Access.TheVariants.{ReadWrite}
use Rattle.answer.specs.declared.Bad.{Bad}
use Rattle.answer.specs.declared.Place.{Place}
use Rattle.rules.specs.declared.Context.{Context}
use Rattle.elements.specs.Table.{kind_of}
use Rattle.rules.specs.Rules.{size_fits}
use Rattle.elements.specs.Private.{thread_kind}
use Rattle.rules.specs.Private.{of_thread}
use Rattle.elements.specs.Registers.{register_of, is_header}
use Rattle.elements.specs.Later.{offers}
use Rattle.elements.proofs.Later.{above_later}
use Rattle.elements.proofs.RegisterLaws.{vector_low, Headed, IsRegister, is_register, ppr_double, header_size, header_register}
use Rattle.elements.specs.declared.Register.{Register}
use Rattle.std.specs.Prelude.{Some}
use Rattle.rules.proofs.Rules.{and_left, and_right, permits_register, value_register}
use Rattle.gsb.specs.Walk.{count_of, id_at, size_at, judged, walk_on, walk, first_bad, Verdict, Walked}
use Rattle.gsb.specs.Private.{reach_of, Reaches, QuickVerdict, Skipped}
use Rattle.gsb.proofs.Judged.{judged_good, empty_good}
use Rattle.gsb.proofs.Walks.{walk_end, turn_good, turn_bad, turn_end, first_start}
use Rattle.std.proofs.Common.{Some, Ok, Err}

-- a listed element of a slot, in a use of a vCPU
module _ (k : Context) (b : List ℕ) (at : ℕ) (t : true ≡ of_thread k.usage) (low : 0x1000 ≤ id_at b at) (o : offers k.offer (id_at b at) ≡ true) where
  plain : (size p : ℕ) → size_fits (thread_kind size ReadWrite p) size ≡ true → thread_kind size ReadWrite p ≡ kind_of (id_at b at)
      → size ≡ size_at b at → at + 4 + size ≤ length b → Ok (at + 4 + size) ≡ judged k b at
  plain size p f e s h =
      judged_good k b at (id_at b at) size (thread_kind size ReadWrite p) (omega arith) refl s e true
      (sym (permits_register k (id_at b at) size p t low o)) refl true (sym f) refl (omega arith) true
      (sym (value_register k (id_at b at) b (at + 4) low)) refl

-- by the number, as it was read
module _ (size : ℕ) (b : List ℕ) (at key room : ℕ) (offer : Offer) (lent : room ≤ length b) (fits : at + 12 ≤ room) (e : key ≡ size_at b at * 2 ^ 16 + id_at b at)
    (l : id_at b at < 2 ^ 16) where
  is_thread_lem : (k : Context) → room ≡ reach_of k.usage b → true ≡ of_thread k.usage
  is_thread_lem k h = go (of_thread k.usage) h
    where
      go : (t : Bool) → room ≡ cond t (length b) 0 → true ≡ t
      go true h = refl
      go false h = absurd (omega arith)

  -- an element that ends where the law says, and is judged so in each use
  hasty : (next : ℕ) → next ≤ room → ((k : Context) → Reaches room offer b k → Ok next ≡ judged k b at) → QuickVerdict (Some next) room offer b at
  hasty next h f = (omega arith, f)

  -- a header that is a register's
  module _ (found : Bool) (f : found ≡ is_header size key) (t : found ≡ true) where
    of_register : Headed size (key % 2 ^ 16)
    of_register = header_register found size key f t

    unfoldable the_register : Register
    the_register = of_register.register

    its_size : size ≡ size_at b at
    its_size = omega (arith, header_size found size key f t)

    there : Some the_register ≡ register_of (id_at b at)
    unfolding the_register
    there = let i : key % 2 ^ 16 ≡ id_at b at = omega arith in of_register.is ∙ ap register_of i

    same_size : the_register.size ≡ size
    unfolding the_register
    same_size = of_register.size_is

    its_register : IsRegister (id_at b at) the_register
    its_register = is_register (id_at b at) the_register there

    -- but PPR's
    not_ppr : (key ≡ 0x8103A → ⊥) → id_at b at ≡ 0x103A → ⊥
    not_ppr h q =
        let s : the_register.size ≡ 8 = ppr_double the_register (there ∙ ap register_of q) in
        h (omega (arith, same_size, its_size, s))

    judged_register : (k : Context) → Reaches room offer b k → (key ≡ 0x8103A → ⊥) → offers offer (id_at b at) ≡ true → at + 4 + size ≤ length b
        → Ok (at + 4 + size) ≡ judged k b at
    unfolding size_fits
    judged_register k u h o long =
        let p : ℕ = the_register.position in
        plain k b at (is_thread_lem k u.0) its_register.low (ap (λ (f : Offer). offers f (id_at b at)) u.1 ∙ o) size p (eq-eqb size size refl)
        (ap₂ (λ (n : ℕ) (a : Access). thread_kind n a p) (sym same_size) (sym (its_register.plain (not_ppr h))) ∙ its_register.kind)
        its_size long

    pub quick_register : (next : ℕ) → next ≡ at + 4 + size → next ≤ room → (key ≡ 0x8103A → ⊥) → (id : ℕ) → id ≡ key % 2 ^ 16 → (g : Bool) → g ≡ offers offer id → g ≡ true
        → QuickVerdict (Some next) room offer b at
    quick_register next n long h id i g o y =
        let j : id_at b at ≡ id = omega arith in
        let w : offers offer (id_at b at) ≡ true = ap (offers offer) j ∙ sym o ∙ y in
        hasty next long (λ k u. ap Ok n ∙ judged_register k u h w (omega arith))

    -- of another size it is not PPR's
    other_size : (size ≡ 8 → ⊥) → key ≡ 0x8103A → ⊥
    other_size ne q = ne (omega (arith, header_size found size key f t))

    -- a vector's ID is above all that came later
    pub vector_offered : size ≡ 16 → offers offer (id_at b at) ≡ true
    vector_offered z = above_later offer (id_at b at) (vector_low (id_at b at) the_register there (same_size ∙ z))

  pub quick_word : (found g : Bool) (next id : ℕ) → found ≡ is_header size key → g ≡ offers offer id → found && g ≡ true → id ≡ key % 2 ^ 16 → next ≡ at + 4 + size → next ≤ room
      → (size ≡ 8 → ⊥) → QuickVerdict (Some next) room offer b at
  quick_word found g next id f o q i n long ne =
      let t = and_left found _ q in
      quick_register found f t next n long (other_size found f t ne) id i g o (and_right found _ q)

  pub quick_long : (found : Bool) (next : ℕ) → found ≡ is_header size key → found && leb next room ≡ true → next ≡ at + 4 + size → size ≡ 16
      → QuickVerdict (Some next) room offer b at
  quick_long found next f q n z =
      let t = and_left found _ q in
      quick_register found f t next n (leb-true _ _ (and_right found _ q)) (other_size found f t (λ y. omega arith)) (id_at b at) (omega arith) true
      (sym (vector_offered found f t z)) refl

-- an empty NOP, in every use
pub quick_empty : (b : List ℕ) (at key room : ℕ) (offer : Offer) → room ≤ length b → at + 12 ≤ room → key ≡ size_at b at * 2 ^ 16 + id_at b at → key ≡ 0
    → QuickVerdict (Some (at + 4)) room offer b at
quick_empty b at key room offer lent fits e z = (omega arith, λ k u. empty_good k b at (omega arith) (omega arith) (omega arith))

-- ---- the reach
pub reach_end : (r t : Bool) (n : ℕ) → r ≡ t → r ≡ true → n ≡ cond t n 0
reach_end r true n e h = refl
reach_end r false n e h = absurd (false≢true (sym e ∙ h))

pub reach_lent : (t : Bool) (n room : ℕ) → room ≡ cond t n 0 → room ≤ n
reach_lent true n room e = omega arith
reach_lent false n room e = omega arith

-- ---- the turns of `skip`
module _ (b : List ℕ) (count room : ℕ) (offer : Offer) (from : Place) where
  -- the walk from a place on is the one that is left
  abbrev pub Left : ℕ → ℕ → Type 0
  Left i at =
      (k : Context) → Reaches room offer b k
      → walk (judged k b) (count - from.index) from.index from.offset ≡ walk (judged k b) (count - i) i at

  pub left_start : Left from.index from.offset
  left_start k u = refl

  pub left_next : (i at next : ℕ) → Left i at → i < count → QuickVerdict (Some next) room offer b at → Left (i + 1) next
  left_next i at next f h y k u =
      turn_good (judged k b) count i at (walk (judged k b) (count - from.index) from.index from.offset) (Ok next) next (f k u) h (y.1 k u) refl

  pub skipped : (i at : ℕ) → from.index ≤ i → i ≤ count → at ≤ length b → Left i at → Skipped b count room offer from (record { index = i; offset = at })
  skipped i at o h l f = record { onward = o; upto = h; inside = l; same = f }

-- ---- a buffer without elements
pub first_none : (k : Context) (b : List ℕ) (count : ℕ) → count ≡ count_of b → count ≡ 0 → Ok tt ≡ first_bad k b
first_none k b count e z = sym (first_start k b count e ∙ walk_end (judged k b) count 0 4 (omega arith))

-- ---- the turns of the walk, each after a skip
module _ (k : Context) (b : List ℕ) (count room : ℕ) (offer : Offer) (w : Walked) (from to : Place) (s : Skipped b count room offer from to) (u : room ≡ reach_of k.usage b)
    (o : offer ≡ k.offer)
    (e : w ≡ walk (judged k b) (count - from.index) from.index from.offset) where
  pub skip_end : count ≤ to.index → Ok tt ≡ w
  skip_end h = turn_end (judged k b) count to.index to.offset w (e ∙ s.same k (u, sym o)) h

  module _ (h : to.index < count) (v : Verdict) (j : v ≡ judged k b to.offset) where
    pub skip_good : (next : ℕ) → v ≡ Ok next → w ≡ walk (judged k b) (count - (to.index + 1)) (to.index + 1) next
    skip_good next g = turn_good (judged k b) count to.index to.offset w v next (e ∙ s.same k (u, sym o)) h j g

    pub skip_bad : (bad : Bad) (x : Walked) → v ≡ Err bad → x ≡ walk_on v to.index to.offset (λ next. (Ok tt)) → x ≡ w
    skip_bad bad x g y = turn_bad (judged k b) count to.index to.offset w v bad x (e ∙ s.same k (u, sym o)) h j g y
