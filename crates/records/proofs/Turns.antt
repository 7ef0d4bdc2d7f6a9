-- A line by its parts, and the call that it tells of. Assumes nothing.
use mathlib.Core.Path.{◌≡◌, sym, ap, ap₂, ◌∙◌}
use mathlib.Core.List.{List, ◌++◌}
use Prim.Native.Nat.{ℕ, ◌+◌, ◌-◌, ◌≤◌}
use native.Mathlib.Omega.{arith}
use lib.ListN.{length, take, drop}
use lib.Seq.{length-take-le}
use Rattle.octets.specs.Bytes.{bytes_at, put}
use Rattle.octets.proofs.Bytes.{length_put, length_bytes_at, read_back, part_lent}
use Rattle.text.specs.Text.{Printed, ascii, decimal}
use Rattle.text.proofs.Writes.{wrote_then}
use Rattle.answer.specs.declared.Answer.{Answer}
use Rattle.answer.specs.declared.Call.{Call as Name}
use Rattle.answer.specs.declared.Registers.{Registers}
use Rattle.answer.specs.Answer.{told}
use Rattle.store.specs.declared.Layout.{Layout}
use Rattle.l0.specs.Numbered.{CallRecord, Called, kind_name, called}
use Rattle.records.specs.declared.Head.{Head}
use Rattle.records.specs.Record.{head_at, record_at}
use Rattle.records.specs.Replay.{Turn, turn_of, turn, field, record_line, bad_line}
use Rattle.records.proofs.Lent.{turn_same}

module _ {s : List ℕ} {at : ℕ} {t₁ t₂ : List ℕ} {p₁ p₂ : ℕ} where
  pub wrote_bad : {t : List ℕ} {p : ℕ} (offset : ℕ) → Printed s at (ascii "answer 19 offset ") t₁ p₁ → Printed t₁ p₁ (decimal offset) t₂ p₂
      → Printed t₂ p₂ (ascii "\n") t p → Printed s at (bad_line offset) t p
  unfolding bad_line
  wrote_bad {t} {p} offset a b c =
      wrote_then s at (ascii "answer 19 offset ") (decimal offset ++ ascii "\n") t₁ t p₁ p a (wrote_then t₁ p₁ (decimal offset) (ascii "\n") t₂ t p₂ p b c)

  pub wrote_record : {t₃ t₄ t₅ t : List ℕ} {p₃ p₄ p₅ p : ℕ} (n kind : ℕ) (r : Registers) → Printed s at (field n) t₁ p₁ → Printed t₁ p₁ (field kind) t₂ p₂
      → Printed t₂ p₂ (field r.r3) t₃ p₃ → Printed t₃ p₃ (field r.r4) t₄ p₄ → Printed t₄ p₄ (decimal r.r5) t₅ p₅
      → Printed t₅ p₅ (ascii "\n") t p → Printed s at (record_line n kind r) t p
  unfolding record_line
  wrote_record {t₃} {t₄} {t₅} {t} {p₃} {p₄} {p₅} {p} n kind r a b c d e f =
      let last = decimal r.r5 ++ ascii "\n" in
      wrote_then s at (field n) (field kind ++ (field r.r3 ++ (field r.r4 ++ last))) t₁ t p₁ p a
      (wrote_then t₁ p₁ (field kind) (field r.r3 ++ (field r.r4 ++ last)) t₂ t p₂ p b
      (wrote_then t₂ p₂ (field r.r3) (field r.r4 ++ last) t₃ t p₃ p c
      (wrote_then t₃ p₃ (field r.r4) last t₄ t p₄ p d (wrote_then t₄ p₄ (decimal r.r5) (ascii "\n") t₅ t p₅ p e f))))

-- ---- `play`: the data is the first bytes of what it was copied to
pub data_lent : (d e b : List ℕ) (from n : ℕ) → e ≡ put d 0 (bytes_at b from n) → from + n ≤ length b → n ≤ length d → take n e ≡ bytes_at b from n
unfolding bytes_at
data_lent d e b from n q h m =
    let k : length (bytes_at b from n) ≡ n = length_bytes_at b from n h in
    let room : 0 + length (bytes_at b from n) ≤ length d = omega arith in
    ap (take n) q ∙ ap (λ (i : ℕ). take i (put d 0 (bytes_at b from n))) (sym k) ∙ read_back d 0 (bytes_at b from n) room

pub data_count : (d e b : List ℕ) (from n : ℕ) → e ≡ put d 0 (bytes_at b from n) → n ≤ length d → n ≡ length (take n e)
data_count d e b from n q m =
    let k : length e ≡ length d = ap (λ (x : List ℕ). length x) q ∙ length_put d 0 (bytes_at b from n) in
    sym (length-take-le n e (omega arith))

pub effect_lent : (b : List ℕ) (i n : ℕ) → take (i + n - i) (drop i b) ≡ bytes_at b i n
effect_lent b i n =
    let e : i + n - i ≡ n = omega arith in
    ap (λ (k : ℕ). take k (drop i b)) e ∙ part_lent b i n

module _ (l : Layout) (s b u : List ℕ) (at : ℕ) (h : Head) (e : h ≡ head_at b at) where
  abbrev called_on : List ℕ → List ℕ → Called
  called_on d effect =
      called l s (record { kind = h.kind; flags = h.flags; guest = h.guest; number = h.number; exit = h.exit_reason; «data» = d; effect = effect }) u

  there : (d effect : List ℕ) → d ≡ bytes_at b (at + 31) h.data_len → effect ≡ bytes_at b (at + 31 + h.data_len) h.effect_len
      → ◌≡◌ {A = CallRecord} (record { kind = h.kind; flags = h.flags; guest = h.guest; number = h.number; exit = h.exit_reason; «data» = d; effect = effect }) (record_at b at)
  unfolding record_at
  there d effect p q =
      ap₂ (λ (x y : List ℕ). record { kind = h.kind; flags = h.flags; guest = h.guest; number = h.number; exit = h.exit_reason; «data» = x; effect = y }) p q
      ∙ ap (λ (x : Head). record { kind = x.kind; flags = x.flags; guest = x.guest; number = x.number; exit = x.exit_reason; «data» = bytes_at b (at + 31) x.data_len; effect = bytes_at b (at + 31 + x.data_len) x.effect_len }) e

  pub played_turn : (d effect : List ℕ) (a : Answer) (name : Name) (r : Registers) (s' d' u' : List ℕ) → 65536 ≤ length u
      → d ≡ bytes_at b (at + 31) h.data_len → effect ≡ bytes_at b (at + 31 + h.data_len) h.effect_len
      → ◌≡◌ {A = Called} (record { answer = a; store = s'; «data» = d'; output = u' }) (called_on d effect)
      → name ≡ kind_name h.kind → r ≡ told name a.fault a.value
      → ◌≡◌ {A = Turn} (record { registers = r; store = s' }) (turn l s (record_at b at))
  played_turn d effect a name r s' d' u' room p q c n t =
      ap (λ (x : Registers). record { registers = x; store = s' }) (t ∙ ap (λ (x : Name). told x a.fault a.value) n)
      ∙ ap (turn_of h.kind) c
      ∙ turn_same l s h.flags h.guest h.number h.exit_reason d effect u room h.kind
      ∙ ap (turn l s) (there d effect p q)
