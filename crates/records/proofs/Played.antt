-- The records of some bytes one after the other, as the loop plays them. Assumes nothing.
use mathlib.Core.Path.{◌≡◌, refl, sym, ap, ap₂, subst, ◌∙◌}
use mathlib.Core.Bool.{Bool, true, false, ◌&&◌, cond, true≢false}
use mathlib.Core.List.{List, [], ◌++◌}
use Prim.Native.Nat.{ℕ, zero, suc, ◌+◌, ◌-◌, ◌*◌, ◌^◌, ◌≤◌, ◌<◌}
use native.Mathlib.Omega.{arith}
use lib.Dec.{leb, eqb}
use lib.ListN.{length, length-append}
use borrow.Author.Tests.{lt-leb, leb-true}
use Rattle.octets.specs.Bytes.{put}
use Rattle.octets.proofs.Bytes.{put_nil, put_append}
use Rattle.octets.proofs.Bits.{bits_lt}
use Rattle.text.specs.Text.{Printed}
use Rattle.answer.specs.declared.Registers.{Registers}
use Rattle.store.specs.declared.Layout.{Layout}
use Rattle.store.specs.Layout.{layout_of, large, small}
use Rattle.records.specs.declared.Head.{Head}
use Rattle.std.specs.Prelude.{Ok, Err}
use Rattle.records.specs.declared.Unread.{Unread}
use Rattle.records.specs.declared.Unread.TheVariants.{Cut, Bad}
use Rattle.records.specs.Record.{Read, is_kind, head_at, record_at, record_length, head_good, read_head}
use Rattle.records.specs.Replay.{Turn, turn, record_line, Played, behind, on_record, played, played_all, is_record}
use Rattle.records.specs.Private.{Stopped, stopped, reason}

-- ---- what a record read says
pub record Whole (b : List ℕ) (at : ℕ) (h : Head) : Type 0 where
  pub is : h ≡ head_at b at
  pub inside : at + record_length h ≤ length b
  pub kind : h.kind < 10
  pub data_fits : h.data_len < 2 ^ 17
  pub effect_fits : h.effect_len < 2 ^ 17

abbrev head_or : Head → Read → Head
head_or d (Ok h) = h
head_or d (Err e) = d

both : (a b : Bool) → (a && b) ≡ true → (a ≡ true) × (b ≡ true)
both true b q = (refl, q)
both false b q = absurd (true≢false (sym q))

good_kind : (b : List ℕ) (at : ℕ) → head_good b at ≡ true → (head_at b at).kind < 10
unfolding head_good is_kind
good_kind b at e =
    let k = (head_at b at).kind in
    let most : k ≤ 8 = leb-true k 8 (both (leb 1 k) (leb k 8) (both (leb 1 k && leb k 8) _ e).0).1 in
    omega arith

pub head_fits : (b : List ℕ) (at : ℕ) → ((head_at b at).data_len < 2 ^ 17) × ((head_at b at).effect_len < 2 ^ 17)
unfolding head_at
head_fits b at = (bits_lt b (8 * at + 208) 17, bits_lt b (8 * at + 225) 17)

pub whole : (b : List ℕ) (at : ℕ) (h : Head) → read_head b at ≡ Ok h → Whole b at h
unfolding read_head
whole b at h e = go (leb (at + 31) (length b)) (head_good b at) refl (leb (at + record_length (head_at b at)) (length b)) refl e
  where
    none : {r : Read} → is_record r ≡ false → r ≡ Ok h → Whole b at h
    none q p = absurd (true≢false (ap is_record (sym p) ∙ q))

    found : head_good b at ≡ true → leb (at + record_length (head_at b at)) (length b) ≡ true → head_at b at ≡ h → Whole b at h
    found g f p =
        let room : at + record_length (head_at b at) ≤ length b = leb-true _ _ f in
        let k : (head_at b at).kind < 10 = good_kind b at g in
        record {
          is = sym p;
          inside = subst (λ (x : Head). at + record_length x ≤ length b) p room;
          kind = subst (λ (x : Head). x.kind < 10) p k;
          data_fits = subst (λ (x : Head). x.data_len < 2 ^ 17) p (head_fits b at).0;
          effect_fits = subst (λ (x : Head). x.effect_len < 2 ^ 17) p (head_fits b at).1;
        }

    go : (x y : Bool) → head_good b at ≡ y → (z : Bool) → leb (at + record_length (head_at b at)) (length b) ≡ z
        → cond x (cond y (cond z (Ok (head_at b at)) (Err Cut)) (Err Bad)) (Err Cut) ≡ Ok h → Whole b at h
    go false y g z f q = none refl q
    go true false g z f q = none refl q
    go true true g false f q = none refl q
    go true true g true f q = found g f (ap (head_or h) q)

-- past the end there is no record
pub none_behind : (b : List ℕ) (at : ℕ) → length b ≤ at → read_head b at ≡ Err Cut
unfolding read_head
none_behind b at h =
    let l : length b < at + 31 = omega arith in
    simp (lt-leb (at + 31) (length b) l)

-- ---- enough turns are enough
module _ (l : Layout) (b : List ℕ) where
  abbrev stays : List ℕ → ℕ → ℕ → Played
  stays s at n = record { store = s; lines = []; at = at; number = n }

  -- what is read at a place, with k turns behind it
  abbrev pub on : List ℕ → ℕ → ℕ → ℕ → Read → Played
  on s at n k r =
      on_record r
      (λ h. behind
      (record_line n h.kind (turn l s (record_at b at)).registers)
      (played k l (turn l s (record_at b at)).store b (at + record_length h) (n + 1)))
      (stays s at n)

  pub played_enough : (f g : ℕ) (s : List ℕ) (at n : ℕ) → length b ≤ f + at → length b ≤ g + at → played f l s b at n ≡ played g l s b at n
  unfolding played on_record
  played_enough zero zero s at n p q = refl
  played_enough zero (suc g) s at n p q =
      sym (ap (on s at n g) (none_behind b at (omega arith)))
  played_enough (suc f) zero s at n p q = ap (on s at n f) (none_behind b at (omega arith))
  played_enough (suc f) (suc g) s at n p q =
      go (read_head b at) (λ h. played_enough f g (turn l s (record_at b at)).store (at + record_length h) (n + 1) (omega arith) (omega arith))
    where
      go : (r : Read) → ((h : Head) → played f l (turn l s (record_at b at)).store b (at + record_length h) (n + 1) ≡ played g l (turn l s (record_at b at)).store b (at + record_length h) (n + 1))
          → on s at n f r ≡ on s at n g r
      go (Ok h) ih = ap (behind (record_line n h.kind (turn l s (record_at b at)).registers)) (ih h)
      go (Err e) ih = refl

  -- ---- a turn of the loop
  pub plays : (s : List ℕ) (at n : ℕ) (h : Head) → read_head b at ≡ Ok h
      → played (length b - at) l s b at n
      ≡ behind (record_line n h.kind (turn l s (record_at b at)).registers)
      (played (length b - (at + record_length h)) l (turn l s (record_at b at)).store b (at + record_length h) (n + 1))
  unfolding played on_record
  plays s at n h e =
      let room : at + record_length h ≤ length b = (whole b at h e).inside in
      let f : length b - at ≡ suc (length b - (at + 1)) = omega arith in
      ap (λ (k : ℕ). played k l s b at n) f
      ∙ ap (on s at n (length b - (at + 1))) e
      ∙ ap (behind (record_line n h.kind (turn l s (record_at b at)).registers))
      (played_enough (length b - (at + 1)) (length b - (at + record_length h)) (turn l s (record_at b at)).store (at + record_length h) (n + 1) (omega arith) (omega arith))

  pub rests : (f : ℕ) (s : List ℕ) (at n : ℕ) → is_record (read_head b at) ≡ false → played f l s b at n ≡ stays s at n
  unfolding played on_record
  rests zero s at n e = refl
  rests (suc f) s at n e = go (read_head b at) e
    where
      go : (r : Read) → is_record r ≡ false → on s at n f r ≡ stays s at n
      go (Ok h) q = absurd (true≢false q)
      go (Err u) q = refl

-- ---- the same with the lines in a text
module _ (b t : List ℕ) (end : ℕ) where
  pub stopped_here : (l : Layout) (s : List ℕ) (at n : ℕ) (r : Read) → r ≡ read_head b at → is_record r ≡ false
      → ◌≡◌ {A = Stopped} (record { stop = record { at = at; number = n; end = end; unread = reason r }; store = s; text = t }) (stopped b t end (played (length b - at) l s b at n))
  unfolding stopped
  stopped_here l s at n r e f =
      let z : end ≡ end + 0 = omega arith in
      ap₂ {A = ℕ} {B = List ℕ} {C = Stopped} (λ k x. record { stop = record { at = at; number = n; end = k; unread = reason r }; store = s; text = x }) z (sym (put_nil t end))
      ∙ ap (λ (q : Read). record { stop = record { at = at; number = n; end = end + 0; unread = reason q }; store = s; text = put t end [] }) e
      ∙ ap (stopped b t end) (sym (rests l b (length b - at) s at n (ap is_record (sym e) ∙ f)))

  pub stopped_turn : (line u : List ℕ) (q : ℕ) (p : Played) → Printed t end line u q → stopped b t end (behind line p) ≡ stopped b u q p
  unfolding stopped
  stopped_turn line u q p w =
      let k : end + length (line ++ p.lines) ≡ q + length p.lines =
      ap (λ (m : ℕ). end + m) (length-append line p.lines) ∙ omega (arith, w.place) in
      let x : put t end (line ++ p.lines) ≡ put u q p.lines =
      put_append t end line p.lines ∙ ap₂ (λ (y : List ℕ) (m : ℕ). put y m p.lines) (sym w.bytes) (sym w.place) in
      ap₂ {A = ℕ} {B = List ℕ} {C = Stopped} (λ m y. record { stop = record { at = p.at; number = p.number; end = m; unread = reason (read_head b p.at) }; store = p.store; text = y }) k x

-- ---- in the form of the loop's needs
pub there : (b : List ℕ) (at : ℕ) (r : Read) (h : Head) → r ≡ read_head b at → r ≡ Ok h → Whole b at h
there b at r h e f = whole b at h (sym e ∙ f)

abbrev pub Goal : List ℕ → List ℕ → List ℕ → ℕ → List ℕ → List ℕ → ℕ → ℕ → ℕ → Type 0
Goal s₀ b t₀ number s t at end n =
    stopped b t₀ 0 (played_all (layout_of s₀) s₀ b number) ≡ stopped b t end (played (length b - at) (layout_of s₀) s b at n)

same_layout : (s t : List ℕ) → length s ≡ length t → layout_of s ≡ layout_of t
unfolding layout_of
same_layout s t e = ap (λ (n : ℕ). cond (eqb n large.size) large small) e

pub goal_start : (s b t : List ℕ) (number : ℕ) → Goal s b t number s t 0 0 number
unfolding played_all
goal_start s b t number =
    let e : length b ≡ length b - 0 = omega arith in
    ap (λ (k : ℕ). stopped b t 0 (played k (layout_of s) s b 0 number)) e

module _ (s₀ b t₀ : List ℕ) (number : ℕ) (s t : List ℕ) (at end n : ℕ) (g : Goal s₀ b t₀ number s t at end n) (r : Read) (e : r ≡ read_head b at) where
  pub goal_turn : (h : Head) (a : Registers) (s' u : List ℕ) (q : ℕ) → length s ≡ length s₀ → r ≡ Ok h
      → ◌≡◌ {A = Turn} (record { registers = a; store = s' }) (turn (layout_of s) s (record_at b at)) → Printed t end (record_line n h.kind a) u q
      → Goal s₀ b t₀ number s' u (at + 31 + h.data_len + h.effect_len) q (n + 1)
  goal_turn h a s' u q w f d p =
      let l = layout_of s₀ in
      let d' : ◌≡◌ {A = Turn} (record { registers = a; store = s' }) (turn l s (record_at b at)) = d ∙ ap (λ (x : Layout). turn x s (record_at b at)) (same_layout s s₀ w) in
      let there : at + record_length h ≡ at + 31 + h.data_len + h.effect_len = omega arith in
      g ∙ ap (stopped b t end) (plays l b s at n h (sym e ∙ f))
      ∙ ap (λ (x : Turn). stopped b t end (behind (record_line n h.kind x.registers) (played (length b - (at + record_length h)) l x.store b (at + record_length h) (n + 1)))) (sym d')
      ∙ stopped_turn b t end (record_line n h.kind a) u q (played (length b - (at + record_length h)) l s' b (at + record_length h) (n + 1)) p
      ∙ ap (λ (k : ℕ). stopped b u q (played (length b - k) l s' b k (n + 1))) there

  pub goal_end : is_record r ≡ false
      → ◌≡◌ {A = Stopped} (record { stop = record { at = at; number = n; end = end; unread = reason r }; store = s; text = t }) (stopped b t₀ 0 (played_all (layout_of s₀) s₀ b number))
  goal_end f = stopped_here b t end (layout_of s₀) s at n r e f ∙ sym g

  pub goal_unread : (u : Unread) → r ≡ Err u
      → ◌≡◌ {A = Stopped} (record { stop = record { at = at; number = n; end = end; unread = u }; store = s; text = t }) (stopped b t₀ 0 (played_all (layout_of s₀) s₀ b number))
  goal_unread u f = ap (λ (x : Read). record { stop = record { at = at; number = n; end = end; unread = reason x }; store = s; text = t }) (sym f) ∙ goal_end (ap is_record f)
