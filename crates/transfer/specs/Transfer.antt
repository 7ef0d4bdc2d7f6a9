-- 01, "The guest state buffer": what an accepted buffer does to a guest's or a slot's values, which start at `base` of a store, and
-- what these do to it.
use Rattle.std.specs.Prelude.{ℕ, zero, suc, ◌+◌, ◌≤◌, ◌<◌, ◌≡◌, List, length}
use Rattle.octets.specs.Bytes.{bytes_at, put, digits}
use Rattle.elements.specs.declared.Source.{Source}
use Rattle.elements.specs.declared.Source.TheVariants.{Fixed, Stored}
use Rattle.elements.specs.declared.Kind.{Kind}
use Rattle.elements.specs.declared.Kind.TheVariants.{Unlisted, Nop, Listed}
use Rattle.elements.specs.Table.{kind_of}
use Rattle.gsb.specs.Walk.{count_of, id_at, size_at, next_at, offset_at}

abbrev pub value_at : List ℕ → ℕ → List ℕ
value_at b at = bytes_at b (at + 4) (size_at b at)

-- ---- set: the value v of an element, put where its kind says; a NOP stores nothing, and a fixed number is never set
unfoldable pub put_from : Source → ℕ → List ℕ → List ℕ → List ℕ
put_from (Fixed n) base v s = s
put_from (Stored p) base v s = put s (base + p) v

unfoldable pub put_as : Kind → ℕ → List ℕ → List ℕ → List ℕ
put_as Unlisted base v s = s
put_as Nop base v s = s
put_as (Listed x) base v s = put_from x.source base v s

-- "Set applies elements in order, so of two with one ID the later counts": the store s after the first n elements of b
unfoldable pub applied : ℕ → List ℕ → ℕ → List ℕ → List ℕ
applied base b zero s = s
applied base b (suc n) s = put_as (kind_of (id_at b (offset_at b n))) base (value_at b (offset_at b n)) (applied base b n s)

-- ---- get: "Get writes the value bytes and nothing else"; a NOP's bytes stay
unfoldable pub read_from : Source → ℕ → ℕ → List ℕ → List ℕ
read_from (Fixed n) base size s = digits 8 n
read_from (Stored p) base size s = bytes_at s (base + p) size

unfoldable pub fill_as : Kind → ℕ → List ℕ → ℕ → List ℕ → List ℕ
fill_as Unlisted base s at b = b
fill_as Nop base s at b = b
fill_as (Listed x) base s at b = put b (at + 4) (read_from x.source base x.size s)

-- the buffer b after its first n elements have their values from the store s
unfoldable pub filled : ℕ → List ℕ → List ℕ → ℕ → List ℕ
filled base s b zero = b
filled base s b (suc n) = fill_as (kind_of (id_at b (offset_at b n))) base s (offset_at b n) (filled base s b n)

-- ---- what moving an element's value asks: its size is the listed one, and the value lies within a store of len bytes
abbrev pub Fits : Source → ℕ → ℕ → ℕ → Type 0
Fits (Fixed n) base size len = size ≡ 8
Fits (Stored p) base size len = base + p + size ≤ len

abbrev pub Moves : Kind → ℕ → ℕ → ℕ → Type 0
Moves Unlisted base size len = Unit {0}
Moves Nop base size len = Unit {0}
Moves (Listed x) base size len = (size ≡ x.size) × Fits x.source base size len

pub record Ready (base : ℕ) (b : List ℕ) (at len : ℕ) : Type 0 where
  pub header : at + 4 ≤ length b
  pub inside : next_at b at ≤ length b
  pub moves : Moves (kind_of (id_at b at)) base (size_at b at) len

-- of every counted element
pub record AllReady (base : ℕ) (b : List ℕ) (len : ℕ) : Type 0 where
  pub long : 4 ≤ length b
  pub each : (i : ℕ) → i < count_of b → Ready base b (offset_at b i) len
