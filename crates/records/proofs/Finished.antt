-- A window played: the last line, what is kept, and whether more is to be read. Assumes nothing.
use mathlib.Core.Path.{◌≡◌, refl, sym, ap, ap₂, ◌∙◌}
use mathlib.Core.Bool.{Bool, true, false, not, ◌&&◌, ◌||◌, cond, true≢false}
use mathlib.Core.List.{List, []}
use Prim.Native.Nat.{ℕ, ◌+◌, ◌-◌, ◌/◌, ◌≤◌}
use native.Mathlib.Omega.{arith}
use lib.Dec.{ltb}
use lib.ListN.{length, take}
use borrow.Author.Tests.{ltb-false}
use Rattle.octets.specs.Bytes.{bytes_at, put}
use Rattle.octets.proofs.Bytes.{length_bytes_at, part_of_part}
use Rattle.text.specs.Text.{Printed}
use Rattle.text.proofs.Writes.{wrote_then, wrote_nil, wrote_same}
use Rattle.store.specs.declared.Layout.{Layout}
use Rattle.records.specs.declared.playing.Stop.{Stop}
use Rattle.std.specs.Prelude.{Some, None}
use Rattle.std.specs.Prelude.{Ok, Err}
use Rattle.records.specs.declared.Unread.TheVariants.{Cut, Bad}
use Rattle.records.specs.Record.{Read, read_head}
use Rattle.records.specs.Replay.{bad_line, Played, played_all, is_bad, stops_at, refuses, window_text, windowed, WindowOutcome, replayed}
use Rattle.records.specs.Private.{Stopped, stopped, Ready, reason, is_unread_bad}

zero_add : (i : ℕ) → i ≡ 0 + i
zero_add i = omega arith

-- ---- why no record follows
reason_bad : (r : Read) → is_unread_bad (reason r) ≡ is_bad r
reason_bad (Ok h) = refl
reason_bad (Err Cut) = refl
reason_bad (Err Bad) = refl

-- ---- `push_end`
pub end_stopped : (s : List ℕ) (at : ℕ) (stops : Bool) (offset : ℕ) (t : List ℕ) (r : ℕ) → stops ≡ true → Printed s at (bad_line offset) t r → Printed s at (cond stops (bad_line offset) []) t r
end_stopped s at stops offset t r e w = wrote_same s at (bad_line offset) _ t r w (sym (ap (λ (x : Bool). cond x (bad_line offset) []) e))

pub end_open : (s : List ℕ) (at : ℕ) (stops : Bool) (offset : ℕ) → stops ≡ false → Printed s at (cond stops (bad_line offset) []) s at
end_open s at stops offset e = wrote_same s at [] _ s at (wrote_nil s at) (sym (ap (λ (x : Bool). cond x (bad_line offset) []) e))

-- ---- `replay_window`
pub first_part : (w : List ℕ) (filled : ℕ) → take filled w ≡ bytes_at w 0 filled
unfolding bytes_at
first_part w filled = refl

pub first_count : (w : List ℕ) (filled : ℕ) → filled ≤ length w → filled ≡ length (take filled w)
first_count w filled h = sym (ap (λ (x : List ℕ). length x) (first_part w filled) ∙ length_bytes_at w 0 filled (omega arith))

module _ (b t : List ℕ) (p : Played) (st : Stop) (s t₁ : List ℕ) (e : ◌≡◌ {A = Stopped} (record { stop = st; store = s; text = t₁ }) (stopped b t 0 p)) where
  at_is : st.at ≡ p.at
  unfolding stopped
  at_is = ap (λ (x : Stopped). x.stop.at) e

  number_is : st.number ≡ p.number
  unfolding stopped
  number_is = ap (λ (x : Stopped). x.stop.number) e

  bad_is : is_unread_bad st.unread ≡ is_bad (read_head b p.at)
  unfolding stopped
  bad_is = ap (λ (x : Stopped). is_unread_bad x.stop.unread) e ∙ reason_bad (read_head b p.at)

  store_is : s ≡ p.store
  unfolding stopped
  store_is = ap (λ (x : Stopped). x.store) e

  lines_are : Printed t 0 p.lines t₁ st.end
  unfolding stopped
  lines_are = record { place = ap (λ (x : Stopped). x.stop.end) e; bytes = ap (λ (x : Stopped). x.text) e }

  window_done : (w : List ℕ) (filled offset n : ℕ) (ended z m : Bool) (t₂ v : List ℕ) → b ≡ bytes_at w 0 filled → filled ≤ length w → st.at ≤ filled
      → z ≡ (is_unread_bad st.unread || (ended && ltb st.at filled)) → Printed t₁ st.end (cond z (bad_line (offset + st.at)) []) t₂ n
      → v ≡ put w 0 (bytes_at w st.at (filled - st.at)) → m ≡ not (z || ended)
      → ◌≡◌ {A = WindowOutcome}
      (record { result = Some (record { kept = filled - st.at; written = n; number = st.number; offset = offset + st.at; more = m }); store = s; window = v; text = t₂ })
      (windowed ended offset b w t p)
  unfolding windowed window_text stops_at
  window_done w filled offset n ended z m t₂ v q h k ez x ev em =
      let long : length b ≡ filled = ap (λ (y : List ℕ). length y) q ∙ length_bytes_at w 0 filled (omega arith) in
      let stops : z ≡ stops_at ended b p.at =
      ez ∙ ap₂ (λ (c : Bool) (i : ℕ). c || (ended && ltb i filled)) bad_is at_is ∙ ap (λ (l : ℕ). is_bad (read_head b p.at) || (ended && ltb p.at l)) (sym long) in
      let last : cond z (bad_line (offset + st.at)) [] ≡ cond (stops_at ended b p.at) (bad_line (offset + p.at)) [] =
      ap₂ (λ (c : Bool) (i : ℕ). cond c (bad_line (offset + i)) []) stops at_is in
      let whole : Printed t 0 (window_text ended offset b p) t₂ n =
      wrote_then t 0 p.lines (cond (stops_at ended b p.at) (bad_line (offset + p.at)) []) t₁ t₂ st.end n lines_are (wrote_same t₁ st.end _ _ t₂ n x last) in
      let long_is : n ≡ length (window_text ended offset b p) = omega (arith, whole.place) in
      let kept_is : filled - st.at ≡ length b - p.at = ap₂ (λ (l i : ℕ). l - i) (sym long) at_is in
      let front : bytes_at w st.at (filled - st.at) ≡ bytes_at b p.at (length b - p.at) =
      ap (λ (i : ℕ). bytes_at w i (filled - st.at)) (zero_add st.at) ∙ sym (part_of_part w 0 filled st.at (filled - st.at) (omega arith))
      ∙ ap (λ (y : List ℕ). bytes_at y st.at (filled - st.at)) (sym q) ∙ ap₂ (λ (i l : ℕ). bytes_at b i l) at_is kept_is in
      let more_is : m ≡ not (stops_at ended b p.at || ended) = em ∙ ap (λ (c : Bool). not (c || ended)) stops in
      let off : offset + st.at ≡ offset + p.at = ap (λ (i : ℕ). offset + i) at_is in
      let whole_text : t₂ ≡ put t 0 (window_text ended offset b p) = whole.bytes in
      let window_is : v ≡ put w 0 (bytes_at b p.at (length b - p.at)) = ev ∙ ap (put w 0) front in
      ap₂ {A = ℕ} {B = ℕ} {C = WindowOutcome} (λ a c. record { result = Some (record { kept = a; written = c; number = st.number; offset = offset + st.at; more = m }); store = s; window = v; text = t₂ }) kept_is long_is
      ∙ ap₂ {A = ℕ} {B = ℕ} {C = WindowOutcome} (λ a c. record { result = Some (record { kept = length b - p.at; written = length (window_text ended offset b p); number = a; offset = c; more = m }); store = s; window = v; text = t₂ }) number_is off
      ∙ ap₂ {A = Bool} {B = List ℕ} {C = WindowOutcome} (λ a c. record { result = Some (record { kept = length b - p.at; written = length (window_text ended offset b p); number = p.number; offset = offset + p.at; more = a }); store = c; window = v; text = t₂ }) more_is store_is
      ∙ ap₂ {A = List ℕ} {B = List ℕ} {C = WindowOutcome} (λ a c. record { result = Some (record { kept = length b - p.at; written = length (window_text ended offset b p); number = p.number; offset = offset + p.at; more = not (stops_at ended b p.at || ended) }); store = p.store; window = a; text = c }) window_is whole_text

pub window_all : (l : Layout) (s₀ w t : List ℕ) (filled number offset n : ℕ) (ended z m : Bool) (st : Stop) (s t₁ t₂ v : List ℕ)
    → ◌≡◌ {A = Stopped} (record { stop = st; store = s; text = t₁ }) (stopped (take filled w) t 0 (played_all l s₀ (take filled w) number))
    → filled ≤ length w → st.at ≤ length (take filled w) → z ≡ (is_unread_bad st.unread || (ended && ltb st.at filled))
    → Printed t₁ st.end (cond z (bad_line (offset + st.at)) []) t₂ n → v ≡ put w 0 (bytes_at w st.at (filled - st.at)) → m ≡ not (z || ended)
    → ◌≡◌ {A = WindowOutcome}
    (record { result = Some (record { kept = filled - st.at; written = n; number = st.number; offset = offset + st.at; more = m }); store = s; window = v; text = t₂ })
    (windowed ended offset (bytes_at w 0 filled) w t (played_all l s₀ (bytes_at w 0 filled) number))
window_all l s₀ w t filled number offset n ended z m st s t₁ t₂ v e h k ez x ev em =
    let c : filled ≡ length (take filled w) = first_count w filled h in
    window_done (take filled w) t (played_all l s₀ (take filled w) number) st s t₁ e w filled offset n ended z m t₂ v (first_part w filled) h (omega arith) ez x ev em
    ∙ ap (λ (y : List ℕ). windowed ended offset y w t (played_all l s₀ y number)) (first_part w filled)

-- ---- `replay`
module _ (l : Layout) (s window : List ℕ) (filled : ℕ) (ended : Bool) (number offset : ℕ) (text : List ℕ) (r : Bool) (e : r ≡ not (refuses (length window) filled number offset (length text))) where
  refused_if : (x : Bool) → x ≡ refuses (length window) filled number offset (length text)
      → replayed l s window filled ended number offset text ≡ cond x (record { result = None; store = s; window = window; text = text })
      (windowed ended offset (bytes_at window 0 filled) window text (played_all l s (bytes_at window 0 filled) number))
  unfolding replayed
  refused_if x q = ap (λ (y : Bool). cond y (record { result = None; store = s; window = window; text = text }) (windowed ended offset (bytes_at window 0 filled) window text (played_all l s (bytes_at window 0 filled) number))) (sym q)

  negated : (x y : Bool) → r ≡ y → not x ≡ r → x ≡ not y
  negated true y q h = ap not (h ∙ q)
  negated false y q h = ap not (h ∙ q)

  pub window_refused : r ≡ false → ◌≡◌ {A = WindowOutcome} (record { result = None; store = s; window = window; text = text }) (replayed l s window filled ended number offset text)
  window_refused f = sym (refused_if true (sym (negated (refuses (length window) filled number offset (length text)) false f (sym e))))

  pub window_played : (o : WindowOutcome) → r ≡ true → o ≡ windowed ended offset (bytes_at window 0 filled) window text (played_all l s (bytes_at window 0 filled) number)
      → o ≡ replayed l s window filled ended number offset text
  window_played o f q = q ∙ sym (refused_if false (sym (negated (refuses (length window) filled number offset (length text)) true f (sym e))))

none_of : (a b : Bool) → (a || b) ≡ false → (a ≡ false) × (b ≡ false)
none_of true b e = absurd (true≢false e)
none_of false b e = (refl, e)

pub ready_is : (window filled number offset text : ℕ) (r : Bool) → r ≡ not (refuses window filled number offset text) → r ≡ true → Ready window filled number offset text
unfolding refuses
ready_is window filled number offset text r e f =
    let no : refuses window filled number offset text ≡ false = is_false (refuses window filled number offset text) (sym e ∙ f) in
    let first = none_of (ltb window filled) _ no in
    let second = none_of (ltb (text / 86) (filled / 31 + 2)) _ first.1 in
    let third = none_of (ltb offset number) _ second.1 in
    record {
      within = ltb-false _ _ first.0;
      room = ltb-false _ _ second.0;
      counted = ltb-false _ _ third.0;
      fits = let h : offset + filled ≤ 18446744073709551615 = ltb-false _ _ third.1 in omega arith;
    }
  where
    is_false : (x : Bool) → not x ≡ true → x ≡ false
    is_false true q = sym q
    is_false false q = refl
