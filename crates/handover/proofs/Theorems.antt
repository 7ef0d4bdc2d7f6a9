-- THEOREMS `form_long`, `form_bits`, `given_exactly`, `one_form`, `give_take`, `taken_given`. Assumes nothing.
use mathlib.Core.Path.{◌≡◌, refl, sym, ap, ap₂, ◌∙◌}
use mathlib.Core.Bool.{Bool, true, false, ◌&&◌, cond}
use mathlib.Core.Logic.{◌↔◌}
use mathlib.Core.List.{List, [], ◌∷◌, ◌++◌, append_assoc, append-nil}
use Prim.Native.Nat.{ℕ, zero, suc, ◌+◌, ◌-◌, ◌≤◌, ◌<◌}
use native.Mathlib.Decide.{dec_lt}
use native.Mathlib.Omega.{arith}
use lib.Dec.{leb}
use lib.ListN.{length, get_or, take, drop, length-append, take-append-drop, get_or-append}
use lib.Seq.{take_at, drop_at, get_or-drop, get_or-append-add}
use borrow.Author.Tests.{le-leb, leb-true}
use Rattle.octets.specs.Bytes.{bytes_at, put, zeros}
use Rattle.octets.specs.Bits.{bits}
use Rattle.octets.proofs.Bytes.{part_lent, whole, length_bytes_at, length_zeros, put_put, put_same, read_back}
use Rattle.handover.specs.Form.{state_bytes, count, State, size, value, present, presence, head, kept, body, form, StartsWith, is_shown, next, read, sound, holds, given, opens, begins, values_of, state_at, taken, given_back}
use Rattle.handover.specs.Private.{place}
use Rattle.handover.proofs.Values.{both, place_none, place_all_lem, place_next, place_rest, all, all_part, value_long}
use Rattle.handover.proofs.Walk.{kept_long, read_on, read_off, read_long, form_walk, given_walk}
use Rattle.handover.proofs.Presence.{presence_lt, presence_ext, presence_same, presence_bits}
use Rattle.handover.proofs.Fields.{Fields, length_head, head_read, head_write, opens_fields, fields_open}

-- ---- lengths
pub given_long : (b : List ℕ) (n e at : ℕ) → holds b e n at ≡ true → length (given b e n at) + place e ≡ place (e + n)
unfolding holds given
given_long b zero e at h = let z : e + 0 ≡ e = omega arith in omega (arith, ap place z)
given_long b (suc n) e at h =
    let p = both (sound b e at) (holds b (e + 1) n (next b e at)) h in
    omega (arith, length-append (read b e at) (given b (e + 1) n (next b e at)), read_long b e at p.0, given_long b n (e + 1) (next b e at) p.1, place_next e, place_rest n e)

pub body_long : (v : List ℕ) (n e : ℕ) → e + n ≤ count → place (e + n) ≤ length v → length (body v e n) + place e ≤ place (e + n)
unfolding body
body_long v zero e c h = let z : e + 0 ≡ e = omega arith in omega (arith, ap place z)
body_long v (suc n) e c h =
    omega (arith, length-append (kept (value v e)) (body v (e + 1) n), kept_long (value v e), value_long v n e c h, body_long v n (e + 1) (omega arith) (omega (arith, place_rest n e)), place_next e, place_rest n e)

all_whole : (v : List ℕ) → length v ≡ state_bytes → all v 0 count ≡ v
all_whole v l =
    let n : place (0 + count) - place 0 ≡ length v = omega (arith, place_all_lem, place_none, l) in
    all_part v count 0 (omega arith) ∙ ap₂ (bytes_at v) place_none n ∙ whole v

-- THEOREM form-long: "It is 24 to 1,844 bytes"
pub long_form : (vcpu : ℕ) (v : List ℕ) → length v ≡ state_bytes → (24 ≤ length (form vcpu v)) × (length (form vcpu v) ≤ 1844)
unfolding form
long_form vcpu v l =
    let a = length-append (head vcpu (presence (present v) 0 count)) (body v 0 count) in
    let h = length_head vcpu (presence (present v) 0 count) in
    let t : place (0 + count) ≤ length v = omega (arith, place_all_lem, l) in
    (omega (arith, a, h), omega (arith, a, h, body_long v count 0 (omega arith) t, place_all_lem, place_none))

pub form_long : (vcpu : ℕ) (v : List ℕ) → State v → (24 ≤ length (form vcpu v)) × (length (form vcpu v) ≤ 1844)
form_long vcpu v s = long_form vcpu v s.long

-- ---- what a buffer holds that begins with the form of a state
form_split : (vcpu : ℕ) (v rest : List ℕ) → form vcpu v ++ rest ≡ head vcpu (presence (present v) 0 count) ++ (body v 0 count ++ rest)
unfolding form
form_split vcpu v rest = append_assoc (head vcpu (presence (present v) 0 count)) (body v 0 count) rest

record Formed (vcpu : ℕ) (v b rest : List ℕ) : Type 0 where
  long : 24 ≤ length b
  fields : Fields b vcpu (presence (present v) 0 count)
  bit_each : (e : ℕ) → 0 ≤ e → e < count → is_shown b e ≡ present v e
  behind_head : drop 24 b ≡ body v 0 count ++ rest

formed : (vcpu : ℕ) (v b rest : List ℕ) → vcpu < 2048 → b ≡ form vcpu v ++ rest → Formed vcpu v b rest
formed vcpu v b rest h s =
    let m = presence (present v) 0 count in
    let more = body v 0 count ++ rest in
    let e : b ≡ head vcpu m ++ more = s ∙ form_split vcpu v rest in
    let top : bytes_at b 0 24 ≡ head vcpu m = sym (part_lent b 0 24) ∙ ap (take 24) e ∙ take_at (head vcpu m) more 24 (length_head vcpu m) in
    let f = head_read b vcpu m top h (presence_lt (present v) 0 count) in
    record {
      long = omega (arith, ap length e, length-append (head vcpu m) more, length_head vcpu m);
      fields = f;
      bit_each = presence_same (is_shown b) (present v) 0 count (sym (presence_bits b 0 count) ∙ f.shown);
      behind_head = ap (drop 24) e ∙ drop_at (head vcpu m) more 24 (length_head vcpu m);
    }

-- THEOREM form-bits: "version 1 (4 bits), vCPU id (11), a zero, 170 presence bits in order of ID, six zeros", read bit by bit
pub form_bits : (vcpu : ℕ) (v : List ℕ) → vcpu < 2048
    → (bits (form vcpu v) 0 4 ≡ 1) × (bits (form vcpu v) 4 11 ≡ vcpu) × (bits (form vcpu v) 15 1 ≡ 0)
    × ((e : ℕ) → e < count → is_shown (form vcpu v) e ≡ present v e) × (bits (form vcpu v) 186 6 ≡ 0)
form_bits vcpu v h =
    let f = formed vcpu v (form vcpu v) [] h (sym (append-nil (form vcpu v))) in
    let g = f.fields in
    (g.version, g.named, g.clear, λ e l. f.bit_each e (omega arith) l, g.padded)

-- ---- a buffer that begins with the form of a state is accepted, and gives the state
pub given_form : (vcpu : ℕ) (v b rest : List ℕ) → vcpu < 2048 → length v ≡ state_bytes → b ≡ form vcpu v ++ rest → (begins vcpu b ≡ true) × (values_of b ≡ v)
unfolding begins
given_form vcpu v b rest h l s =
    let f = formed vcpu v b rest h s in
    let w = form_walk b v rest count 0 24 f.bit_each (omega arith) (omega (arith, place_all_lem, l)) f.long f.behind_head in
    (simp (le-leb 24 (length b) f.long, fields_open b vcpu (presence (present v) 0 count) f.fields, w.0), w.1 ∙ all_whole v l)

-- ---- a buffer that is accepted begins with the form of the state that it gives
pub begins_parts : (vcpu : ℕ) (b : List ℕ) → begins vcpu b ≡ true → (24 ≤ length b) × (opens vcpu b ≡ true) × (holds b 0 count 24 ≡ true)
unfolding begins
begins_parts vcpu b t =
    let p = both (leb 24 (length b)) (opens vcpu b && holds b 0 count 24) t in
    let q = both (opens vcpu b) (holds b 0 count 24) p.1 in
    (leb-true _ _ p.0, q.0, q.1)

-- every value that it gives is a byte
abbrev Small : List ℕ → Type 0
Small x = (k : ℕ) → get_or x k 0 < 256

small_append : (x y : List ℕ) → Small x → Small y → Small (x ++ y)
small_append x y f g k = go (dec_lt k (length x))
  where
    go : Dec (k < length x) → get_or (x ++ y) k 0 < 256
    go (yes l) = rw (get_or-append x y 0 k l) (f k)
    go (no l) = let e : k ≡ length x + (k - length x) = omega arith in rw e (rw (get_or-append-add x y (k - length x) 0) (g (k - length x)))

small_take : (n : ℕ) (x : List ℕ) → Small x → Small (take n x)
small_take zero x f k = omega arith
small_take (suc n) [] f k = omega arith
small_take (suc n) (a ∷ x) f zero = f 0
small_take (suc n) (a ∷ x) f (suc k) = small_take n x (λ j. f (suc j)) k

small_part : (b : List ℕ) (at n : ℕ) → Small b → Small (bytes_at b at n)
small_part b at n f k = rw (← part_lent b at n) (small_take n (drop at b) (λ j. rw (get_or-drop at b j 0) (f (at + j))) k)

small_zeros : (n : ℕ) → Small (zeros n)
unfolding zeros
small_zeros zero k = omega arith
small_zeros (suc n) zero = omega arith
small_zeros (suc n) (suc k) = small_zeros n k

read_small : (b : List ℕ) (e at : ℕ) → Small b → Small (read b e at)
read_small b e at f = go (is_shown b e) refl
  where
    go : (m : Bool) → is_shown b e ≡ m → Small (read b e at)
    go true m k = rw (read_on b e at m) (small_part b at (size e) f k)
    go false m k = rw (read_off b e at m) (small_zeros (size e) k)

given_small : (b : List ℕ) (n e at : ℕ) → Small b → Small (given b e n at)
unfolding given
given_small b zero e at f k = omega arith
given_small b (suc n) e at f k = small_append (read b e at) (given b (e + 1) n (next b e at)) (read_small b e at f) (given_small b n (e + 1) (next b e at) f) k

form_given : (vcpu : ℕ) (b : List ℕ) → ((k : ℕ) → get_or b k 0 < 256) → begins vcpu b ≡ true → StartsWith vcpu (values_of b) b
form_given vcpu b small t =
    let p = begins_parts vcpu b t in
    let v = values_of b in
    let long : 24 ≤ length b = p.0 in
    let l : length v ≡ state_bytes = omega (arith, given_long b count 0 24 p.2, place_all_lem, place_none) in
    let w = given_walk b v count 0 24 (omega arith) (omega (arith, place_all_lem, l)) p.2 long (all_whole v l) in
    let f = opens_fields b vcpu p.1 in
    let m : bits b 16 170 ≡ presence (present v) 0 count = presence_bits b 0 count ∙ sym (presence_ext (present v) (is_shown b) 0 count w.0) in
    let top : take 24 b ≡ head vcpu (presence (present v) 0 count) = part_lent b 0 24 ∙ head_write b vcpu (bits b 16 170) f long small ∙ ap (head vcpu) m in
    let more = drop (24 + length (body v 0 count)) b in
    record {
      state = record { long = l; bytes = given_small b count 0 24 small };
      rest = more;
      whole = sym (take-append-drop 24 b) ∙ ap₂ (λ (x y : List ℕ). x ++ y) top w.1 ∙ sym (form_split vcpu v more);
    }

-- THEOREM given-exactly: a buffer of bytes is accepted exactly if it begins with the form of a state, and gives that state
pub given_exactly : (vcpu : ℕ) (b : List ℕ) → vcpu < 2048 → ((k : ℕ) → get_or b k 0 < 256)
    → ((begins vcpu b ≡ true) ↔ ((v : List ℕ) × StartsWith vcpu v b)) × ((v : List ℕ) → StartsWith vcpu v b → values_of b ≡ v)
given_exactly vcpu b h small = (
  (λ t. (values_of b, form_given vcpu b small t), λ s. (given_form vcpu s.0 b s.1.rest h s.1.state.long s.1.whole).0),
  λ v s. (given_form vcpu v b s.rest h s.state.long s.whole).1,
)

-- THEOREM one_form: "Each state has one form": `form` is a function of it, and two states with one form are equal
pub one_form : (vcpu : ℕ) (v w : List ℕ) → vcpu < 2048 → State v → State w → form vcpu v ≡ form vcpu w → v ≡ w
one_form vcpu v w h s r e =
    sym (given_form vcpu v (form vcpu v) [] h s.long (sym (append-nil (form vcpu v)))).1
    ∙ (given_form vcpu w (form vcpu v) [] h r.long (e ∙ sym (append-nil (form vcpu w)))).1

-- THEOREM give-take: the values given by the form of a state, whatever stands behind it, are that state
pub give_take : (vcpu : ℕ) (v rest : List ℕ) → vcpu < 2048 → State v → (begins vcpu (form vcpu v ++ rest) ≡ true) × (values_of (form vcpu v ++ rest) ≡ v)
give_take vcpu v rest h s = given_form vcpu v (form vcpu v ++ rest) rest h s.long refl

-- THEOREM taken-given: giving back what was taken leaves the store as it was
pub put_starts : (b f : List ℕ) → length f ≤ length b → put b 0 f ≡ f ++ drop (length f) (put b 0 f)
put_starts b f l =
    sym (take-append-drop (length f) (put b 0 f)) ∙ ap (λ (x : List ℕ). x ++ drop (length f) (put b 0 f)) (part_lent (put b 0 f) 0 (length f) ∙ read_back b 0 f (omega arith))

pub accepted_store : (vcpu base : ℕ) (s b : List ℕ) → begins vcpu b ≡ true → given_back vcpu base s b ≡ record { accepted = true; store = put s base (values_of b) }
unfolding given_back
accepted_store vcpu base s b t = ap (λ (z : Bool). cond z (record { accepted = true; store = put s base (values_of b) }) (record { accepted = false; store = s })) t

pub refused_store : (vcpu base : ℕ) (s b : List ℕ) → begins vcpu b ≡ false → given_back vcpu base s b ≡ record { accepted = false; store = s }
unfolding given_back
refused_store vcpu base s b t = ap (λ (z : Bool). cond z (record { accepted = true; store = put s base (values_of b) }) (record { accepted = false; store = s })) t

pub taken_given : (vcpu base : ℕ) (s b : List ℕ) → vcpu < 2048 → base + state_bytes ≤ length s → 1844 ≤ length b
    → given_back vcpu base (taken vcpu base s b).store (taken vcpu base s b).buffer ≡ record { accepted = true; store = s }
unfolding taken
taken_given vcpu base s b h l r =
    let v = state_at s base in
    let n : length v ≡ state_bytes = length_bytes_at s base state_bytes l in
    let f = form vcpu v in
    let g = given_form vcpu v (put b 0 f) (drop (length f) (put b 0 f)) h n (put_starts b f (omega (arith, (long_form vcpu v n).1))) in
    accepted_store vcpu base (put s base (zeros state_bytes)) (put b 0 f) g.0
    ∙ ap (λ (x : List ℕ). record { accepted = true; store = x })
    (ap (put (put s base (zeros state_bytes)) base) g.1 ∙ put_put s base (zeros state_bytes) v (length_zeros state_bytes ∙ sym n) ∙ put_same s base state_bytes)
